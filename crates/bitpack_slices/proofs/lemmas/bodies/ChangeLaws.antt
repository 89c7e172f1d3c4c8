-- The boundaries of the numbers whose bits are 1, by the bits that are not as the one before them.
use Rattle.std.proofs.Common.{◌≡◌, ℕ, zero, suc, ◌+◌, ◌*◌, ◌%◌, ◌^◌, ◌<◌, ◌≤◌, Bool, true, false, not, eqb, cond, List, ◌∷◌, ◌++◌, map, length, get_or, bit_or, bit_xor, refl, sym, ap, ◌∙◌, arith, inl, inr, length-append}
use mir.Val.{bool_byte}
use Rattle.std.specs.Int.{bit_at}
use Rattle.std.specs.List.{filter, range_with_len}
use Rattle.std.proofs.lemmas.Bool.{cases_lt, le-leb}
use Rattle.std.proofs.lemmas.List.{length-map}
use Rattle.std.proofs.lemmas.Nat.Bits.{bit_at-lt}
use Rattle.bitpack_slices.proofs.lemmas.bits.BeginLaws.{before_first, before_later, bits_before}
use Rattle.bitpack_slices.proofs.lemmas.bits.BitmapLaws.{has_of, those_raised, those_split}
use Rattle.bitpack_slices.proofs.lemmas.bits.CombineLaws.{word_xor}
use Rattle.bitpack_slices.proofs.lemmas.bits.OnesLaws.{filtered_rise}
use Rattle.bitpack_slices.proofs.lemmas.bodies.LoadLaws.{filtered_same, those_are, those_rise}
use Rattle.bitpack_slices.proofs.lemmas.bodies.MergeRuns.{flip, has_inside, inside, inside_below}
use Rattle.bitpack_slices.proofs.lemmas.bodies.RunBounds.{bounds_back}
use Rattle.bitpack_slices.proofs.lemmas.bodies.RunLaws.{runs_rise}
use Rattle.bitpack_slices.specs.Bitmaps.{has_bit}
use Rattle.bitpack_slices.specs.Bodies.{IsRising}
use Rattle.bitpack_slices.specs.Operations.{those}
use Rattle.bitpack_slices.specs.Runs.{boundaries, run_numbers}
use Rattle.bitpack_slices.specs.Slices.{ones_from}

-- ---- numbers that are boundaries

-- whether the number before passes
abbrev pub before : (ℕ → Bool) → ℕ → Bool
before P zero = false
before P (suc x) = P x

-- whether exactly one of a number and the one before it passes
abbrev pub changes : (ℕ → Bool) → ℕ → Bool
changes P x = flip (P x) (before P x)

pub before_next : (P : ℕ → Bool) (x : ℕ) → before P (x + 1) ≡ P x
before_next P x = let e : x + 1 ≡ suc x = omega arith in ap (before P) e

flipped : (here last now : Bool) → flip (flip here last) (flip now here) ≡ flip now last
flipped true true true = refl
flipped true true false = refl
flipped true false true = refl
flipped true false false = refl
flipped false true true = refl
flipped false true false = refl
flipped false false true = refl
flipped false false false = refl

flip_false : (b : Bool) → flip b false ≡ b
flip_false true = refl
flip_false false = refl

-- the first one is a boundary, or is not
inside_first : (b : Bool) (low x : ℕ) (bs : List ℕ) → low ≤ x → inside (cond b (low ∷ bs) bs) x ≡ flip b (inside bs x)
inside_first true low x bs h = ap (λ (t : Bool). cond t (not (inside bs x)) (inside bs x)) (le-leb low x h)
inside_first false low x bs h = refl

inside_walk : (P : ℕ → Bool) (low n x : ℕ) → low ≤ x → x < low + n → low + n ≤ 65536 → inside (filter (changes P) (range_with_len low n)) x ≡ flip (P x) (before P low)
inside_walk P low zero x h l top = absurd (omega arith)
inside_walk P low (suc n) x h l top =
    let rest : List ℕ = filter (changes P) (range_with_len (low + 1) n) in
    inside_first (changes P low) low x rest h
    ∙ elim (cases_lt low x) [
      | inl less ↦
          ap (flip (changes P low)) (inside_walk P (low + 1) n x (omega arith) (omega arith) (omega arith) ∙ ap (flip (P x)) (before_next P low))
          ∙ flipped (P low) (before P low) (P x)
      | inr more ↦ (
          let same : low ≡ x = omega arith in
          ap (flip (changes P low)) (inside_below (low + 1) (low + 1 + n) x rest (filtered_rise (changes P) (low + 1) (low + 1 + n) n refl) (omega arith))
          ∙ flip_false (changes P low) ∙ ap (λ (y : ℕ). flip (P y) (before P low)) same)
    ]

-- the boundaries of numbers that pass
pub bounds_those : (P : ℕ → Bool) → boundaries (those 65536 P) ≡ those 65536 (changes P)
unfolding those
bounds_those P =
    let bs : List ℕ = those 65536 (changes P) in
    let r : IsRising 0 65536 bs = those_rise (changes P) 65536 in
    let same : those 65536 P ≡ run_numbers bs = those_are P 65536 (run_numbers bs) (runs_rise 0 bs r)
    (λ x small. sym (has_inside 0 x bs r small ∙ inside_walk P 0 65536 x (omega arith) (omega arith) (omega arith) ∙ flip_false (P x))) in
    ap boundaries same ∙ bounds_back bs r

-- ---- the bits of a word

-- a word has a bit of each of 64 numbers
abbrev pub IsWordOf : (ℕ → Bool) → ℕ → ℕ → Type 0
IsWordOf P q word = (i : ℕ) → i < 64 → P (64 * q + i) ≡ eqb (bit_at word i) 1

pub word_of_more : (P : ℕ → Bool) (q word : ℕ) → IsWordOf P q word → those (64 * (q + 1)) P ≡ those (64 * q) P ++ map (λ i. 64 * q + i) (ones_from word 0 64)
unfolding those ones_from
word_of_more P q word is =
    let next : 64 * (q + 1) ≡ 64 * q + 64 = omega arith in
    let first : 0 + 64 * q ≡ 64 * q + 0 = omega arith in
    let front : List ℕ = filter P (range_with_len 0 (64 * q)) in
    ap (λ (n : ℕ). filter P (range_with_len 0 n)) next ∙ those_split P 0 (64 * q) 64
    ∙ ap (λ (k : ℕ). front ++ filter P (range_with_len k 64)) first
    ∙ ap (λ (l : List ℕ). front ++ l)
    (those_raised P (64 * q) 0 64 ∙ ap (map (λ i. 64 * q + i)) (filtered_same (λ i. P (64 * q + i)) (λ i. eqb (bit_at word i) 1) 0 64 (λ i l m. is i (omega arith))))

pub word_of_counted : (P : ℕ → Bool) (q word : ℕ) → IsWordOf P q word → length (those (64 * (q + 1)) P) ≡ length (those (64 * q) P) + length (ones_from word 0 64)
word_of_counted P q word is =
    ap length (word_of_more P q word is) ∙ length-append (those (64 * q) P) (map (λ i. 64 * q + i) (ones_from word 0 64))
    ∙ ap (λ (n : ℕ). length (those (64 * q) P) + n) (length-map (ones_from word 0 64) (λ i. 64 * q + i))

has_there : (words : List ℕ) (q i : ℕ) → i < 64 → has_bit words (64 * q + i) ≡ eqb (bit_at (get_or words q 0) i) 1
has_there words q i h =
    let position : (64 * q + i) % 64 ≡ i = omega arith in
    has_of words q (64 * q + i) (omega arith) ∙ ap (λ (k : ℕ). eqb (bit_at (get_or words q 0) k) 1) position

xor_flip : (b c : Bool) → cond b (not c) c ≡ flip b c
xor_flip true c = refl
xor_flip false c = refl

-- the word of the bits that are not as the one before
pub changes_word : (words : List ℕ) (q carry : ℕ) → carry ≡ bool_byte (before (has_bit words) (64 * q))
    → IsWordOf (changes (has_bit words)) q (bit_xor (get_or words q 0) (bit_or (get_or words q 0 * 2 ^ 1 % 2 ^ 64) carry))
changes_word words q carry e zero h =
    let word : ℕ = get_or words q 0 in
    let last : Bool = before (has_bit words) (64 * q) in
    let first : 64 * q + 0 ≡ 64 * q = omega arith in
    sym (ap (λ (n : ℕ). eqb (bit_at (bit_xor word (bit_or (word * 2 ^ 1 % 2 ^ 64) n)) 0) 1) e
    ∙ word_xor word (bits_before word last) 0 ∙ xor_flip (eqb (bit_at word 0) 1) (eqb (bit_at (bits_before word last) 0) 1)
    ∙ ap (flip (eqb (bit_at word 0) 1)) (before_first word last)
    ∙ ap (λ (b : Bool). flip b last) (sym (has_there words q 0 h))
    ∙ ap (λ (k : ℕ). flip (has_bit words (64 * q + 0)) (before (has_bit words) k)) (sym first))
changes_word words q carry e (suc i) h =
    let word : ℕ = get_or words q 0 in
    let last : Bool = before (has_bit words) (64 * q) in
    let next : suc i ≡ i + 1 = omega arith in
    let place : suc (64 * q + i) ≡ 64 * q + suc i = omega arith in
    sym (ap (λ (n : ℕ). eqb (bit_at (bit_xor word (bit_or (word * 2 ^ 1 % 2 ^ 64) n)) (suc i)) 1) e
    ∙ word_xor word (bits_before word last) (suc i) ∙ xor_flip (eqb (bit_at word (suc i)) 1) (eqb (bit_at (bits_before word last) (suc i)) 1)
    ∙ ap (λ (k : ℕ). flip (eqb (bit_at word (suc i)) 1) (eqb (bit_at (bits_before word last) k) 1)) next
    ∙ ap (flip (eqb (bit_at word (suc i)) 1)) (before_later word i last (omega arith) ∙ sym (has_there words q i (omega arith)))
    ∙ ap (λ (b : Bool). flip b (has_bit words (64 * q + i))) (sym (has_there words q (suc i) h))
    ∙ ap (λ (k : ℕ). flip (has_bit words (64 * q + suc i)) (before (has_bit words) k)) place)

top_bit : (b : ℕ) → b < 2 → b ≡ bool_byte (eqb b 1)
top_bit zero h = refl
top_bit (suc zero) h = refl
top_bit (suc (suc b)) h = absurd (omega arith)

-- the last bit of a word is before the next word
pub changes_carry : (words : List ℕ) (q last : ℕ) → last ≡ bit_at (get_or words q 0) 63 → last ≡ bool_byte (before (has_bit words) (64 * (q + 1)))
changes_carry words q last e =
    let word : ℕ = get_or words q 0 in
    let place : suc (64 * q + 63) ≡ 64 * (q + 1) = omega arith in
    e ∙ top_bit (bit_at word 63) (bit_at-lt word 63) ∙ ap bool_byte (sym (has_there words q 63 (omega arith)) ∙ ap (before (has_bit words)) place)
