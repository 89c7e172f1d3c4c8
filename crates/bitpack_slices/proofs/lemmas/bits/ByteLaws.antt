-- The bytes and the numbers of words that are written.
use borrow.Rule.Slice.PartMut.{put_mid}
use Rattle.std.proofs.Common.{◌≡◌, ℕ, zero, suc, ◌+◌, ◌*◌, ◌/◌, ◌%◌, ◌^◌, ◌-◌, ◌<◌, ◌≤◌, Bool, List, ◌∷◌, ◌++◌, map, take, length, get_or, refl, sym, ap, ◌∙◌, arith, eqb, length-append, lit≤, pow-add, pow-suc, subst, w64}
use Rattle.std.specs.Int.{bit_at, byte_at, bytes_low_first, to_le_bytes}
use Rattle.std.specs.List.{filter, range_with_len}
use Rattle.std.proofs.Math.Nat.{div-div-eq-div-mul}
use Rattle.std.proofs.lemmas.List.{take-map, take_all}
use Rattle.std.proofs.lemmas.Slice.{take-put_mid}
use Rattle.bitpack_slices.proofs.lemmas.bits.BitmapLaws.{those_more, those_split}
use Rattle.bitpack_slices.proofs.lemmas.bits.OnesLaws.{ones_all}
use Rattle.bitpack_slices.proofs.lemmas.bits.RaisedLaws.{bits_append, bits_raised}
use Rattle.bitpack_slices.proofs.lemmas.bits.RowLaws.{window_taken}
use Rattle.bitpack_slices.proofs.lemmas.bodies.LoadLaws.{those_rise}
use Rattle.bitpack_slices.proofs.lemmas.slices.SliceLaws.{bits_room}
use Rattle.bitpack_slices.specs.Bitmaps.{has_bit}
use Rattle.bitpack_slices.specs.Bodies.{bits, le_bytes}
use Rattle.bitpack_slices.specs.Operations.{those}
use Rattle.bitpack_slices.specs.Slices.{ones_from}

-- ---- the numbers of words

-- fewer numbers are below a lower bound
pub those_less : (n m : ℕ) (P : ℕ → Bool) → n ≤ m → length (those n P) ≤ length (those m P)
unfolding those
those_less n m P h =
    let split : n + (m - n) ≡ m = omega arith in
    let e = ap length (those_split P 0 n (m - n)) in
    let f = ap (λ (k : ℕ). length (filter P (range_with_len 0 k))) split in
    let g = length-append (filter P (range_with_len 0 n)) (filter P (range_with_len (0 + n) (m - n))) in
    omega arith

pub ones_less : (n m x : ℕ) → n ≤ m → length (ones_from x 0 n) ≤ length (ones_from x 0 m)
unfolding ones_from
ones_less n m x h =
    let split : n + (m - n) ≡ m = omega arith in
    let P : ℕ → Bool = λ i. eqb (bit_at x i) 1 in
    let e = ap length (those_split P 0 n (m - n)) in
    let f = ap (λ (k : ℕ). length (filter P (range_with_len 0 k))) split in
    let g = length-append (filter P (range_with_len 0 n)) (filter P (range_with_len (0 + n) (m - n))) in
    omega arith

-- eight sums are written, and the first of them are the numbers
pub row_put : (base at k n size : ℕ) (out window row ones : List ℕ) → at + 8 ≤ length out → length window ≡ 8 → n ≡ 8 → length row ≡ 8 → size ≡ length ones → size ≤ 8
    → take size row ≡ ones → take n window ≡ map (λ i. base + i) (take n row) → take (at + size) (put_mid at k out window) ≡ take at out ++ map (λ i. base + i) ones
row_put base at k n size out window row ones room long done eight' count few first same =
    let whole : window ≡ map (λ i. base + i) row =
    sym (take_all n window (omega arith)) ∙ same ∙ ap (map (λ i. base + i)) (take_all n row (omega arith)) in
    window_taken out window at k size (omega arith) (omega arith)
    ∙ ap (λ (l : List ℕ). take at out ++ l) (ap (take size) whole ∙ take-map (λ i. base + i) size row ∙ ap (map (λ i. base + i)) first)

pub word_more : (words : List ℕ) (q : ℕ) → those (64 * (q + 1)) (has_bit words) ≡ those (64 * q) (has_bit words) ++ map (λ i. 64 * q + i) (ones_from (get_or words q 0) 0 64)
word_more words q =
    let e : 64 * (q + 1) ≡ 64 * q + 64 = omega arith in
    ap (λ (n : ℕ). those n (has_bit words)) e ∙ those_more words q 64 (lit≤ tt)

-- ---- the bytes of words

next_power : (k : ℕ) → 2 ^ (8 * suc k) ≡ 2 ^ (8 * k) * 256
next_power k = let e : 8 * suc k ≡ 8 * k + 8 = omega arith in ap (λ (n : ℕ). 2 ^ n) e ∙ pow-add 2 (8 * k) 8

ring : (w p : ℕ) → w * (p * 256) ≡ 256 * (w * p)
ring w p = grind arith

pub bytes_cat : (m n x w : ℕ) → x < 2 ^ (8 * m) → le_bytes (m + n) (x + w * 2 ^ (8 * m)) ≡ le_bytes m x ++ le_bytes n w
unfolding le_bytes
bytes_cat zero n x w h =
    let e : zero + n ≡ n = omega arith in
    let f : x + w * 2 ^ (8 * zero) ≡ w = omega arith in
    ap (λ (k : ℕ). le_bytes k (x + w * 2 ^ (8 * zero))) e ∙ ap (le_bytes n) f
bytes_cat (suc m) n x w h =
    let p = next_power m in
    let e : suc m + n ≡ suc (m + n) = omega arith in
    let all : w * 2 ^ (8 * suc m) ≡ 256 * (w * 2 ^ (8 * m)) = ap (λ (k : ℕ). w * k) p ∙ ring w (2 ^ (8 * m)) in
    let low : (x + w * 2 ^ (8 * suc m)) % 256 ≡ x % 256 = omega arith in
    let high : (x + w * 2 ^ (8 * suc m)) / 256 ≡ x / 256 + w * 2 ^ (8 * m) = omega arith in
    ap (λ (k : ℕ). le_bytes k (x + w * 2 ^ (8 * suc m))) e
    ∙ ap (λ (k : ℕ). k ∷ le_bytes (m + n) ((x + w * 2 ^ (8 * suc m)) / 256)) low
    ∙ ap (λ (k : ℕ). x % 256 ∷ le_bytes (m + n) k) high
    ∙ ap (λ (l : List ℕ). x % 256 ∷ l) (bytes_cat m n (x / 256) w (omega arith))

byte_first : (i n : ℕ) → byte_at i n ≡ n / 256 ^ i % 256
byte_first zero n = let e : n / 256 ^ 0 ≡ n = omega arith in sym (ap (λ (m : ℕ). m % 256) e)
byte_first (suc i) n = refl

low_first : (i k n : ℕ) → bytes_low_first i k n ≡ le_bytes k (n / 256 ^ i)
unfolding le_bytes
low_first i zero n = refl
low_first i (suc k) n =
    let next : n / 256 ^ suc i ≡ n / 256 ^ i / 256 = ap (λ (m : ℕ). n / m) (pow-suc 256 i) ∙ sym (div-div-eq-div-mul n (256 ^ i) 256) in
    ap (λ (b : ℕ). b ∷ bytes_low_first (suc i) k n) (byte_first i n) ∙ ap (λ (l : List ℕ). n / 256 ^ i % 256 ∷ l) (low_first (suc i) k n ∙ ap (le_bytes k) next)

eight : (w : ℕ) → to_le_bytes w64 w ≡ le_bytes 8 w
eight w = let e : w / 256 ^ 0 ≡ w = omega arith in low_first 0 8 w ∙ ap (le_bytes 8) e

bits_few : (words : List ℕ) (n : ℕ) → bits (those n (has_bit words)) < 2 ^ n
bits_few words n = let r : bits (those n (has_bit words)) + 2 ^ 0 ≤ 2 ^ n = bits_room 0 n (those n (has_bit words)) (those_rise (has_bit words) n) in omega arith

bits_word : (words : List ℕ) (q : ℕ) → get_or words q 0 < 2 ^ 64
    → bits (those (64 * (q + 1)) (has_bit words)) ≡ bits (those (64 * q) (has_bit words)) + get_or words q 0 * 2 ^ (64 * q)
bits_word words q small =
    let ones : List ℕ = ones_from (get_or words q 0) 0 64 in
    ap bits (word_more words q) ∙ bits_append (those (64 * q) (has_bit words)) (map (λ i. 64 * q + i) ones)
    ∙ ap (λ (n : ℕ). bits (those (64 * q) (has_bit words)) + n) (bits_raised (64 * q) ones ∙ ap (λ (n : ℕ). n * 2 ^ (64 * q)) (ones_all (get_or words q 0) 64 small))

-- the bytes of one word more are written
pub word_bytes : (words out new : List ℕ) (q size : ℕ) → get_or words q 0 < 2 ^ 64 → 8 * q ≤ length out → new ≡ to_le_bytes w64 (get_or words q 0)
    → take (8 * q) out ≡ le_bytes (8 * q) (bits (those (64 * q) (has_bit words)))
    → take (8 * (q + 1)) (put_mid (8 * q) size out new) ≡ le_bytes (8 * (q + 1)) (bits (those (64 * (q + 1)) (has_bit words)))
word_bytes words out new q size small room is before =
    let w : ℕ = get_or words q 0 in
    let sum : ℕ = bits (those (64 * q) (has_bit words)) in
    let long : length new ≡ 8 = ap length is in
    let places : 64 * q ≡ 8 * (8 * q) = omega arith in
    let next : 8 * q + 8 ≡ 8 * (q + 1) = omega arith in
    let below : sum < 2 ^ (8 * (8 * q)) = subst (λ (n : ℕ). sum < 2 ^ n) places (bits_few words (64 * q)) in
    take-put_mid (8 * q) size out new (8 * (q + 1)) (omega arith) room
    ∙ ap (λ (l : List ℕ). l ++ new) before ∙ ap (λ (l : List ℕ). le_bytes (8 * q) sum ++ l) (is ∙ eight w)
    ∙ sym (bytes_cat (8 * q) 8 sum w below)
    ∙ ap (λ (n : ℕ). le_bytes n (sum + w * 2 ^ (8 * (8 * q)))) next
    ∙ ap (λ (n : ℕ). le_bytes (8 * (q + 1)) (sum + w * 2 ^ n)) (sym places)
    ∙ ap (le_bytes (8 * (q + 1))) (sym (bits_word words q small))

-- all are written
pub words_done : (words out : List ℕ) (q : ℕ) → q ≡ length words → length out ≡ 8 * length words → take (8 * q) out ≡ le_bytes (8 * q) (bits (those (64 * q) (has_bit words)))
    → out ≡ le_bytes (8 * length words) (bits (those (64 * length words) (has_bit words)))
words_done words out q e size is =
    sym (take_all (8 * q) out (omega arith)) ∙ is ∙ ap (λ (n : ℕ). le_bytes (8 * n) (bits (those (64 * n) (has_bit words)))) e
