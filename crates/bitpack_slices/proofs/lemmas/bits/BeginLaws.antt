-- The bits that are 1 after a bit that is 0.
use Rattle.std.proofs.Common.{◌≡◌, ℕ, zero, suc, ◌+◌, ◌-◌, ◌*◌, ◌/◌, ◌%◌, ◌^◌, ◌<◌, Bool, true, false, not, ◌&&◌, ◌||◌, eqb, List, [], ◌∷◌, get_or, bit_and, bit_or, refl, sym, ap, ◌∙◌, arith, inl, inr, subst}
use mir.Val.{bool_byte}
use Rattle.std.specs.Int.{bit_at}
use Rattle.std.proofs.Math.Pow.{field, mod-mod-pow}
use Rattle.std.proofs.lemmas.Bool.{cases_eq}
use Rattle.std.proofs.lemmas.Nat.{or_lt}
use Rattle.std.proofs.lemmas.Nat.Bits.{bit_at_above, bit_at_cat_high, bit_at_lowest}
use Rattle.bitpack_slices.proofs.lemmas.bits.BitmapLaws.{has_of}
use Rattle.bitpack_slices.proofs.lemmas.bits.CombineLaws.{word_and_not, word_or}
use Rattle.bitpack_slices.specs.Bitmaps.{has_bit}

bit_kept : (n k i : ℕ) → i < k → bit_at (n % 2 ^ k) i ≡ bit_at n i
bit_kept n k i lt =
    let m : ℕ = k - 1 - i in
    let e : m + 1 + i ≡ k = omega arith in
    subst (λ (w : ℕ). bit_at (n % 2 ^ w) i ≡ bit_at n i) e (ap (λ (x : ℕ). x % 2) (field n (m + 1) i) ∙ mod-mod-pow (n / 2 ^ i) m 1)

bit_raised : (n i : ℕ) → bit_at (n * 2 ^ 1) (i + 1) ≡ bit_at n i
bit_raised n i =
    let e : n * 2 ^ 1 + 0 ≡ n * 2 ^ 1 = omega arith in
    let f : i + 1 - 1 ≡ i = omega arith in
    ap (λ (m : ℕ). bit_at m (i + 1)) (sym e) ∙ bit_at_cat_high n 1 0 (i + 1) (omega arith) (omega arith) ∙ ap (bit_at n) f

carry_first : (b : Bool) → eqb (bit_at (bool_byte b) 0) 1 ≡ b
carry_first true = refl
carry_first false = refl

carry_small : (b : Bool) → bool_byte b < 2
carry_small true = omega arith
carry_small false = omega arith

or_no : (b c : Bool) → c ≡ false → (b || c) ≡ b
or_no true c h = refl
or_no false c h = h

-- the bits before those of a word
abbrev pub bits_before : ℕ → Bool → ℕ
bits_before word before = bit_or (word * 2 ^ 1 % 2 ^ 64) (bool_byte before)

pub before_first : (word : ℕ) (before : Bool) → eqb (bit_at (bits_before word before) 0) 1 ≡ before
before_first word before =
    let none : bit_at (word * 2 ^ 1 % 2 ^ 64) 0 ≡ 0 = bit_at_lowest (word * 2 ^ 1 % 2 ^ 64) ∙ omega arith in
    word_or (word * 2 ^ 1 % 2 ^ 64) (bool_byte before) 0 ∙ ap (λ (n : ℕ). eqb n 1 || eqb (bit_at (bool_byte before) 0) 1) none ∙ carry_first before

pub before_later : (word i : ℕ) (before : Bool) → i < 63 → eqb (bit_at (bits_before word before) (i + 1)) 1 ≡ eqb (bit_at word i) 1
before_later word i before lt =
    let none : bit_at (bool_byte before) (i + 1) ≡ 0 = bit_at_above (bool_byte before) 1 (i + 1) (carry_small before) (omega arith) in
    word_or (word * 2 ^ 1 % 2 ^ 64) (bool_byte before) (i + 1)
    ∙ or_no (eqb (bit_at (word * 2 ^ 1 % 2 ^ 64) (i + 1)) 1) (eqb (bit_at (bool_byte before) (i + 1)) 1) (ap (λ (n : ℕ). eqb n 1) none)
    ∙ ap (λ (n : ℕ). eqb n 1) (bit_kept (word * 2 ^ 1) 64 (i + 1) (omega arith) ∙ bit_raised word i)

pub begins_first : (word : ℕ) (before : Bool) → word < 2 ^ 64 → bits_before word before < 2 ^ 64
    → eqb (bit_at (bit_and word (2 ^ 64 - 1 - bits_before word before)) 0) 1 ≡ (eqb (bit_at word 0) 1 && not before)
begins_first word before small small' =
    word_and_not word (bits_before word before) 0 small small' ∙ ap (λ (b : Bool). eqb (bit_at word 0) 1 && not b) (before_first word before)

pub begins_later : (word i : ℕ) (before : Bool) → i < 63 → word < 2 ^ 64 → bits_before word before < 2 ^ 64
    → eqb (bit_at (bit_and word (2 ^ 64 - 1 - bits_before word before)) (i + 1)) 1 ≡ (eqb (bit_at word (i + 1)) 1 && not (eqb (bit_at word i) 1))
begins_later word i before lt small small' =
    word_and_not word (bits_before word before) (i + 1) small small' ∙ ap (λ (b : Bool). eqb (bit_at word (i + 1)) 1 && not b) (before_later word i before lt)

pub before_fits : (word : ℕ) (before : Bool) → bits_before word before < 2 ^ 64
before_fits word before = let small = carry_small before in or_lt 64 (word * 2 ^ 1 % 2 ^ 64) (bool_byte before) (omega arith) (omega arith)

-- a word has the bits of a word of these that begin a run
abbrev pub Begins : List ℕ → ℕ → Bool → ℕ → Type 0
Begins bits q before word = (eqb (bit_at word 0) 1 ≡ (eqb (bit_at (get_or bits q 0) 0) 1 && not before))
    × ((i : ℕ) → i < 63 → eqb (bit_at word (i + 1)) 1 ≡ (eqb (bit_at (get_or bits q 0) (i + 1)) 1 && not (eqb (bit_at (get_or bits q 0) i) 1)))

-- the bit before a word
abbrev before_word : List ℕ → Bool → ℕ → Bool
before_word bits before zero = before
before_word bits before (suc q) = has_bit bits (64 * q + 63)

begin_inside : (bits words : List ℕ) (before : Bool) (i q : ℕ) → (i + 1) / 64 ≡ q → 0 < (i + 1) % 64 → Begins bits q before (get_or words q 0)
    → has_bit words (i + 1) ≡ (has_bit bits (i + 1) && not (has_bit bits i))
begin_inside bits words before i q e some (first, later) =
    let own : (i + 1) % 64 ≡ i % 64 + 1 = omega arith in
    let here : has_bit bits (i + 1) ≡ eqb (bit_at (get_or bits q 0) (i % 64 + 1)) 1 = has_of bits q (i + 1) e ∙ ap (λ (k : ℕ). eqb (bit_at (get_or bits q 0) k) 1) own in
    has_of words q (i + 1) e ∙ ap (λ (k : ℕ). eqb (bit_at (get_or words q 0) k) 1) own ∙ later (i % 64) (omega arith)
    ∙ ap (λ (b : Bool). b && not (eqb (bit_at (get_or bits q 0) (i % 64)) 1)) (sym here)
    ∙ ap (λ (b : Bool). has_bit bits (i + 1) && not b) (sym (has_of bits q i (omega arith)))

begin_edge : (bits words : List ℕ) (before : Bool) (i q : ℕ) → (i + 1) / 64 ≡ q → (i + 1) % 64 ≡ 0 → Begins bits q (before_word bits before q) (get_or words q 0)
    → has_bit words (i + 1) ≡ (has_bit bits (i + 1) && not (has_bit bits i))
begin_edge bits words before i zero e none is = absurd (omega arith)
begin_edge bits words before i (suc q) e none (first, later) =
    let last : 64 * q + 63 ≡ i = omega arith in
    let here : has_bit bits (i + 1) ≡ eqb (bit_at (get_or bits (suc q) 0) 0) 1 = has_of bits (suc q) (i + 1) e ∙ ap (λ (k : ℕ). eqb (bit_at (get_or bits (suc q) 0) k) 1) none in
    has_of words (suc q) (i + 1) e ∙ ap (λ (k : ℕ). eqb (bit_at (get_or words (suc q) 0) k) 1) none ∙ first
    ∙ ap (λ (b : Bool). b && not (has_bit bits (64 * q + 63))) (sym here) ∙ ap (λ (k : ℕ). has_bit bits (i + 1) && not (has_bit bits k)) last

begin_at : (bits words : List ℕ) (before : Bool) (i : ℕ) → Begins bits ((i + 1) / 64) (before_word bits before ((i + 1) / 64)) (get_or words ((i + 1) / 64) 0)
    → has_bit words (i + 1) ≡ (has_bit bits (i + 1) && not (has_bit bits i))
begin_at bits words before i is = elim (cases_eq ((i + 1) % 64) 0) [
  | inl none ↦ begin_edge bits words before i ((i + 1) / 64) refl none is
  | inr some ↦ begin_inside bits words (before_word bits before ((i + 1) / 64)) i ((i + 1) / 64) refl (omega arith) is
]

begin_words : (bits : List ℕ) (before : Bool) (r s t u : ℕ) → Begins bits 0 before r → Begins bits 1 (has_bit bits 63) s → Begins bits 2 (has_bit bits 127) t
    → Begins bits 3 (has_bit bits 191) u → (q : ℕ) → q < 4 → Begins bits q (before_word bits before q) (get_or (r ∷ s ∷ t ∷ u ∷ []) q 0)
begin_words bits before r s t u a b c d zero lt = a
begin_words bits before r s t u a b c d (suc zero) lt = b
begin_words bits before r s t u a b c d (suc (suc zero)) lt = c
begin_words bits before r s t u a b c d (suc (suc (suc zero))) lt = d
begin_words bits before r s t u a b c d (suc (suc (suc (suc q)))) lt = absurd (omega arith)

pub four_begin : (bits : List ℕ) (before : Bool) (r s t u : ℕ) → Begins bits 0 before r → Begins bits 1 (has_bit bits 63) s → Begins bits 2 (has_bit bits 127) t
    → Begins bits 3 (has_bit bits 191) u → (i : ℕ) → i < 255 → has_bit (r ∷ s ∷ t ∷ u ∷ []) (i + 1) ≡ (has_bit bits (i + 1) && not (has_bit bits i))
four_begin bits before r s t u a b c d i small =
    begin_at bits (r ∷ s ∷ t ∷ u ∷ []) before i (begin_words bits before r s t u a b c d ((i + 1) / 64) (omega arith))
