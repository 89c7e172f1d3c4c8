-- The numbers of a word are written four at a time.
use Rattle.std.proofs.Common.{◌≡◌, ℕ, zero, suc, ◌+◌, ◌*◌, ◌/◌, ◌%◌, ◌^◌, ◌-◌, ◌<◌, ◌≤◌, List, [], ◌∷◌, ◌++◌, map, take, drop, set, length, refl, sym, ap, ◌∙◌, arith, inl, inr, get_or, bit_and, mod-eq_of_lt, pow-suc, pow_pos, append-nil, append_assoc, length-append, length-drop, lit<, w64}
use borrow.Rule.Slice.PartMut.{put_mid}
use Rattle.std.specs.Int.{bit_at, trailing_zeros}
use Rattle.std.proofs.Math.Seq.{take-add}
use Rattle.std.proofs.lemmas.Bool.{cases_eq}
use Rattle.std.proofs.lemmas.List.{drop-drop, drop_all, drop_more, length-take, length-take-le, map-append, take-append-le, take-set-le, take_all, take_more, take_more_set}
use Rattle.std.proofs.lemmas.Nat.Bits.{bit_at-suc, bit_at-trailing_zeros, bit_at_lowest}
use Rattle.std.proofs.lemmas.Nat.{and_block, and_le_l}
use Rattle.std.specs.Int.Bits.{and_self}
use Rattle.bitpack_slices.proofs.lemmas.bits.OnesLaws.{lowest_one, none_of_zero, ones_few}
use Rattle.bitpack_slices.specs.Slices.{ones_from}

-- ---- the lowest bit of 1 is cleared

half_and : (x y r s : ℕ) → r < 2 → s < 2 → bit_and (x * 2 + r) (y * 2 + s) ≡ bit_and x y * 2 + bit_and r s
half_and x y r s h k = and_block 1 x y r s h k

lowest_cleared : (t x : ℕ) → bit_at x t ≡ 1 → ((i : ℕ) → i < t → bit_at x i ≡ 0) → bit_and x (x - 1) + 2 ^ t ≡ x
lowest_cleared zero x one none =
    let odd : x % 2 ≡ 1 = sym (bit_at_lowest x) ∙ one in
    let e : x ≡ x / 2 * 2 + 1 = omega arith in
    let f : x - 1 ≡ x / 2 * 2 + 0 = omega arith in
    let both : bit_and x (x - 1) ≡ bit_and (x / 2 * 2 + 1) (x / 2 * 2 + 0) = ap (λ (n : ℕ). bit_and n (x - 1)) e ∙ ap (bit_and (x / 2 * 2 + 1)) f in
    let halves : bit_and (x / 2 * 2 + 1) (x / 2 * 2 + 0) ≡ bit_and (x / 2) (x / 2) * 2 + 0 = half_and (x / 2) (x / 2) 1 0 (lit< tt) (lit< tt) in
    let same = and_self (x / 2) in
    omega arith
lowest_cleared (suc t) x one none =
    let even : x % 2 ≡ 0 = sym (bit_at_lowest x) ∙ none 0 (omega arith) in
    let ih : bit_and (x / 2) (x / 2 - 1) + 2 ^ t ≡ x / 2 =
    lowest_cleared t (x / 2) (sym (bit_at-suc x t) ∙ one) (λ i h. sym (bit_at-suc x i) ∙ none (suc i) (omega arith)) in
    let some : 0 < 2 ^ t = pow_pos t in
    let next : 2 ^ suc t ≡ 2 ^ t * 2 = pow-suc 2 t in
    let e : x ≡ x / 2 * 2 + 0 = omega arith in
    let f : x - 1 ≡ (x / 2 - 1) * 2 + 1 = omega arith in
    let both : bit_and x (x - 1) ≡ bit_and (x / 2 * 2 + 0) ((x / 2 - 1) * 2 + 1) = ap (λ (n : ℕ). bit_and n (x - 1)) e ∙ ap (bit_and (x / 2 * 2 + 0)) f in
    let halves : bit_and (x / 2 * 2 + 0) ((x / 2 - 1) * 2 + 1) ≡ bit_and (x / 2) (x / 2 - 1) * 2 + 0 = half_and (x / 2) (x / 2 - 1) 0 1 (lit< tt) (lit< tt) in
    omega arith

-- as the code clears it
abbrev pub cleared : ℕ → ℕ
cleared x = bit_and x ((x + (2 ^ 64 - 1)) % 2 ^ 64)

pub record IsNext (x : ℕ) : Type 0 where
  pub within : trailing_zeros w64 x < 64
  pub one : bit_at x (trailing_zeros w64 x) ≡ 1
  pub less : cleared x < x
  pub ones : ones_from x 0 64 ≡ trailing_zeros w64 x ∷ ones_from (cleared x) 0 64

pub next_is : (x : ℕ) → 0 < x → x < 2 ^ 64 → IsNext x
next_is x pos small =
    let t = trailing_zeros w64 x in
    let (few, one, none) = bit_at-trailing_zeros w64 x pos small in
    let less : (x + (2 ^ 64 - 1)) % 2 ^ 64 ≡ x - 1 = omega arith in
    let clear = lowest_cleared t x one none in
    let moved : cleared x ≡ bit_and x (x - 1) = ap (bit_and x) less in
    let rest : x - 2 ^ t ≡ cleared x = omega arith in
    let some : 0 < 2 ^ t = pow_pos t in
    record { within = few; one = one; less = omega arith; ones = lowest_one x t pos small one none ∙ ap (λ (n : ℕ). t ∷ ones_from n 0 64) rest }

none_next : (x : ℕ) → x ≡ 0 → ones_from (cleared x) 0 64 ≡ []
none_next x e =
    let few = and_le_l x ((x + (2 ^ 64 - 1)) % 2 ^ 64) in
    let zero : cleared x ≡ 0 = omega arith in
    ap (λ (n : ℕ). ones_from n 0 64) zero ∙ none_of_zero

-- ---- one of four

-- the first n numbers are written, if there are as many
pub record AreWritten (base n left : ℕ) (four ys : List ℕ) : Type 0 where
  pub rest : ones_from left 0 64 ≡ drop n ys
  pub values : take (length (take n ys)) four ≡ map (λ i. base + i) (take n ys)

pub none_written : (base left : ℕ) (four : List ℕ) → AreWritten base 0 left four (ones_from left 0 64)
none_written base left four = record { rest = refl; values = refl }

past : (base n left v : ℕ) (four ys : List ℕ) → left ≡ 0 → AreWritten base n left four ys → AreWritten base (n + 1) (cleared left) (set four n v) ys
past base n left v four ys e w =
    let size : length (drop n ys) ≡ 0 = ap length (sym w.rest ∙ ap (λ (m : ℕ). ones_from m 0 64) e ∙ none_of_zero) in
    let done : length ys ≤ n = omega (arith, length-drop n ys) in
    let same : take (n + 1) ys ≡ take n ys = take_all (n + 1) ys (omega arith) ∙ sym (take_all n ys done) in
    let few : length (take n ys) ≤ n = omega (arith, ap length (take_all n ys done)) in
    record {
      rest = none_next left e ∙ sym (drop_all (n + 1) ys (omega arith));
      values = ap (λ (l : List ℕ). take (length l) (set four n v)) same ∙ take-set-le (length (take n ys)) four n v few ∙ w.values
          ∙ ap (map (λ i. base + i)) (sym same);
    }

one_written : (top base n left : ℕ) (four ys : List ℕ) → base + 64 ≤ top → 0 < left → left < 2 ^ 64 → n < length four → AreWritten base n left four ys
    → AreWritten base (n + 1) (cleared left) (set four n ((base + trailing_zeros w64 left) % top)) ys
one_written top base n left four ys fits pos small room w =
    let t = trailing_zeros w64 left in
    let next = next_is left pos small in
    let within : t < 64 = next.within in
    let size : length (drop n ys) ≡ suc (length (ones_from (cleared left) 0 64)) = ap length (sym w.rest ∙ next.ones) in
    let more : n < length ys = omega (arith, length-drop n ys) in
    let both : t ∷ ones_from (cleared left) 0 64 ≡ get_or ys n 0 ∷ drop (n + 1) ys = sym next.ones ∙ w.rest ∙ drop_more ys n 0 more in
    let first : t ≡ get_or ys n 0 = cc in
    let rest : ones_from (cleared left) 0 64 ≡ drop (n + 1) ys = cc in
    let v : (base + t) % top ≡ base + get_or ys n 0 = mod-eq_of_lt (omega arith) ∙ ap (λ (m : ℕ). base + m) first in
    let long : length (take n ys) ≡ n = length-take-le n ys (omega arith) in
    let long' : length (take (n + 1) ys) ≡ n + 1 = length-take-le (n + 1) ys (omega arith) in
    record {
      rest = rest;
      values = ap (λ (m : ℕ). take m (set four n ((base + t) % top))) long' ∙ take_more_set four n ((base + t) % top) room
          ∙ ap (λ (m : ℕ). take n four ++ m ∷ []) v
          ∙ ap (λ (l : List ℕ). l ++ (base + get_or ys n 0) ∷ []) (sym (ap (λ (m : ℕ). take m four) long) ∙ w.values)
          ∙ sym (map-append (λ i. base + i) (take n ys) (get_or ys n 0 ∷ [])) ∙ ap (map (λ i. base + i)) (sym (take_more ys n 0 more));
    }

pub next_written : (top base n left : ℕ) (four ys : List ℕ) → base + 64 ≤ top → left < 2 ^ 64 → n < length four → AreWritten base n left four ys
    → AreWritten base (n + 1) (cleared left) (set four n ((base + trailing_zeros w64 left) % top)) ys
next_written top base n left four ys fits small room w = elim (cases_eq left 0) [
  | inl none ↦ past base n left ((base + trailing_zeros w64 left) % top) four ys none w
  | inr some ↦ one_written top base n left four ys fits (omega arith) small room w
]

-- ---- four more

more_left : (n left : ℕ) (xs : List ℕ) → 0 < left → left < 2 ^ 64 → ones_from left 0 64 ≡ drop n xs → n < length xs
more_left n left xs pos small e =
    let next = next_is left pos small in
    let size : length (drop n xs) ≡ suc (length (ones_from (cleared left) 0 64)) = ap length (sym e ∙ next.ones) in
    omega (arith, length-drop n xs)

-- there is room for them
four_fit : (n left word : ℕ) → 0 < left → left < 2 ^ 64 → n % 4 ≡ 0 → ones_from left 0 64 ≡ drop n (ones_from word 0 64) → n + 4 ≤ 64
four_fit n left word pos small fours e =
    let more = more_left n left (ones_from word 0 64) pos small e in
    let few = ones_few word 0 64 in
    omega arith

pub room_for : (at next left word room : ℕ) → (left ≡ 0 → ⊥) → left < 2 ^ 64 → at ≤ next → (next - at) % 4 ≡ 0
    → ones_from left 0 64 ≡ drop (next - at) (ones_from word 0 64) → at + 64 ≤ room → next + 4 ≤ room
room_for at next left word room some small start fours e enough =
    let few = four_fit (next - at) left word (omega arith) small fours e in
    omega arith

pub four_long : (next : ℕ) (out four : List ℕ) → next + 4 ≤ length out → length four ≡ length (take (next + 4 - next) (drop next out)) → length four ≡ 4
four_long next out four room e =
    let size = length-take-le (next + 4 - next) (drop next out) (omega (arith, length-drop next out)) in
    omega arith

pub take_past : (a j : ℕ) (p q : List ℕ) → length p ≡ a → take (a + j) (p ++ q) ≡ p ++ take j q
take_past zero j [] q e = let f : zero + j ≡ j = omega arith in ap (λ (n : ℕ). take n q) f
take_past zero j (x ∷ p) q e = absurd (omega arith)
take_past (suc a) j [] q e = absurd (omega arith)
take_past (suc a) j (x ∷ p) q e =
    let f : suc a + j ≡ suc (a + j) = omega arith in
    ap (λ (n : ℕ). take n (x ∷ (p ++ q))) f ∙ ap (λ (l : List ℕ). x ∷ l) (take_past a j p q (omega arith))

pub record AreOut (base at n left : ℕ) (old out xs : List ℕ) : Type 0 where
  pub fours : n % 4 ≡ 0
  pub rest : ones_from left 0 64 ≡ drop n xs
  pub values : take (at + length (take n xs)) out ≡ take at old ++ map (λ i. base + i) (take n xs)

pub none_out : (base at n word : ℕ) (out : List ℕ) → n ≡ 0 → AreOut base at n word out out (ones_from word 0 64)
none_out base at n word out e =
    let xs = ones_from word 0 64 in
    let f : at + 0 ≡ at = omega arith in
    record {
      fours = omega arith;
      rest = sym (ap (λ (m : ℕ). drop m xs) e);
      values = ap (λ (m : ℕ). take (at + length (take m xs)) out) e ∙ ap (λ (m : ℕ). take m out) f ∙ sym (append-nil (take at out))
          ∙ sym (ap (λ (m : ℕ). take at out ++ map (λ i. base + i) (take m xs)) e);
    }

-- fewer are left after them
pub fewer_left : (base left left' : ℕ) (four : List ℕ) → 0 < left → left < 2 ^ 64 → AreWritten base 4 left' four (ones_from left 0 64)
    → length (ones_from left' 0 64) < length (ones_from left 0 64)
fewer_left base left left' four pos small w =
    let some = more_left 0 left (ones_from left 0 64) pos small refl in
    let e = ap length w.rest in
    omega (arith, length-drop 4 (ones_from left 0 64))

pub four_more : (base at n next k left left' : ℕ) (old out four xs : List ℕ) → 0 < left → left < 2 ^ 64 → next ≡ at + n → next + 4 ≤ length out → length four ≡ 4
    → AreOut base at n left old out xs → AreWritten base 4 left' four (ones_from left 0 64) → AreOut base at (n + 4) left' old (put_mid next k out four) xs
four_more base at n next k left left' old out four xs pos small position room size o w =
    let f : List ℕ → List ℕ = map (λ i. base + i) in
    let ys = drop n xs in
    let more = more_left n left xs pos small o.rest in
    let vals : take (length (take 4 ys)) four ≡ f (take 4 ys) = sym (ap (λ (l : List ℕ). take (length (take 4 l)) four) o.rest) ∙ w.values ∙ ap (λ (l : List ℕ). f (take 4 l)) o.rest in
    let split : take (n + 4) xs ≡ take n xs ++ take 4 ys = take-add n 4 xs in
    let long : length (take n xs) ≡ n = length-take-le n xs (omega arith) in
    let few : length (take 4 ys) ≤ 4 = omega (arith, length-take 4 ys) in
    let count : at + length (take (n + 4) xs) ≡ next + length (take 4 ys) =
    let e = ap length split in let g = length-append (take n xs) (take 4 ys) in omega arith in
    let front : take next out ≡ take at old ++ f (take n xs) =
    (let e : next ≡ at + length (take n xs) = omega arith in ap (λ (m : ℕ). take m out) e ∙ o.values) in
    record {
      fours = (let e = o.fours in omega arith);
      rest = w.rest ∙ ap (drop 4) o.rest ∙ drop-drop 4 n xs;
      values = ap (λ (m : ℕ). take m (put_mid next k out four)) count
          ∙ take_past next (length (take 4 ys)) (take next out) _ (length-take-le next out (omega arith))
          ∙ ap (λ (l : List ℕ). take next out ++ l) (take-append-le (length (take 4 ys)) four _ (omega arith) ∙ vals)
          ∙ ap (λ (l : List ℕ). l ++ f (take 4 ys)) front ∙ append_assoc (take at old) (f (take n xs)) (f (take 4 ys))
          ∙ ap (λ (l : List ℕ). take at old ++ l) (sym (map-append (λ i. base + i) (take n xs) (take 4 ys)) ∙ ap f (sym split));
    }

-- none is left
pub all_out : (base at n left word : ℕ) (old out : List ℕ) → left ≡ 0 → AreOut base at n left old out (ones_from word 0 64)
    → take (at + length (ones_from word 0 64)) out ≡ take at old ++ map (λ i. base + i) (ones_from word 0 64)
all_out base at n left word old out e o =
    let xs = ones_from word 0 64 in
    let size : length (drop n xs) ≡ 0 = ap length (sym o.rest ∙ ap (λ (m : ℕ). ones_from m 0 64) e ∙ none_of_zero) in
    let all : take n xs ≡ xs = take_all n xs (omega (arith, length-drop n xs)) in
    sym (ap (λ (l : List ℕ). take (at + length l) out) all) ∙ o.values ∙ ap (λ (l : List ℕ). take at old ++ map (λ i. base + i) l) all
