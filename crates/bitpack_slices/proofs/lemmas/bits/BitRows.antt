-- A table of one bit for each byte, tested by computing.
use Rattle.std.proofs.Common.{◌≡◌, ℕ, zero, suc, ◌/◌, ◌%◌, ◌^◌, ◌<◌, Bool, true, ◌&&◌, ◌||◌, List, [], ◌∷◌, bit_or, get_or, length, refl, set, sym, ◌∙◌, ap, arith, cond, eq-eqb, eqb, inl, inr}
use Rattle.std.specs.Int.{bit_at}
use Rattle.std.proofs.lemmas.Bool.{and_parts, cases_eq, eqb-true, ne_eqb}
use Rattle.std.proofs.lemmas.Nat.Bits.{bit_at-pow_other, bit_at-pow_same, bit_at_above}
use Rattle.bitpack_slices.proofs.lemmas.bits.CombineLaws.{four_combined, word_or}
use Rattle.bitpack_slices.proofs.lemmas.bodies.ReadLaws.{eqb_same}
use Rattle.bitpack_slices.proofs.lemmas.bits.RowLaws.{are_rows, first_row}
use Rattle.bitpack_slices.specs.Bitmaps.{AreBits, has_bit}
use Rattle.bitpack_slices.specs.declared.operation.Operation.TheVariants.{Or}

-- a word of the bit of a number
abbrev pub bit_word : ℕ → ℕ → ℕ
bit_word byte q = cond (eqb (byte / 64) q) (2 ^ (byte % 64)) 0

abbrev pub is_bit : ℕ → List ℕ → Bool
is_bit byte row = (eqb (get_or row 0 0) (bit_word byte 0) && eqb (get_or row 1 0) (bit_word byte 1)) && (eqb (get_or row 2 0) (bit_word byte 2) && eqb (get_or row 3 0) (bit_word byte 3))

word_of : (byte q : ℕ) (row : List ℕ) → q < 4 → is_bit byte row ≡ true → get_or row q 0 ≡ bit_word byte q
word_of byte zero row lt tested = eqb-true _ _ (and_parts _ _ (and_parts _ _ tested).0).0
word_of byte (suc zero) row lt tested = eqb-true _ _ (and_parts _ _ (and_parts _ _ tested).0).1
word_of byte (suc (suc zero)) row lt tested = eqb-true _ _ (and_parts _ _ (and_parts _ _ tested).1).0
word_of byte (suc (suc (suc zero))) row lt tested = eqb-true _ _ (and_parts _ _ (and_parts _ _ tested).1).1
word_of byte (suc (suc (suc (suc q)))) row lt tested = absurd (omega arith)

pow_bit : (k r : ℕ) → eqb (bit_at (2 ^ k) r) 1 ≡ eqb r k
pow_bit k r = elim (cases_eq r k) [
  | inl same ↦ ap (λ (n : ℕ). eqb (bit_at (2 ^ k) n) 1) same ∙ ap (λ (n : ℕ). eqb n 1) (bit_at-pow_same k) ∙ sym (eqb_same r k 1 1 (λ e. refl) (λ e. same))
  | inr other ↦ ap (λ (n : ℕ). eqb n 1) (bit_at-pow_other k r other) ∙ sym (ne_eqb r k other)
]

row_bit : (byte i : ℕ) (row : List ℕ) → i < 256 → is_bit byte row ≡ true → has_bit row i ≡ eqb i byte
unfolding has_bit
row_bit byte i row small tested =
    ap (λ (w : ℕ). eqb (bit_at w (i % 64)) 1) (word_of byte (i / 64) row (omega arith) tested)
    ∙ elim (cases_eq (byte / 64) (i / 64)) [
      | inl same ↦
          ap (λ (b : Bool). eqb (bit_at (cond b (2 ^ (byte % 64)) 0) (i % 64)) 1) (eq-eqb (byte / 64) (i / 64) same)
          ∙ pow_bit (byte % 64) (i % 64) ∙ eqb_same (i % 64) (byte % 64) i byte (λ e. omega arith) (λ e. ap (λ (n : ℕ). n % 64) e)
      | inr other ↦
          ap (λ (b : Bool). eqb (bit_at (cond b (2 ^ (byte % 64)) 0) (i % 64)) 1) (ne_eqb (byte / 64) (i / 64) other)
          ∙ ap (λ (n : ℕ). eqb n 1) (bit_at_above 0 0 (i % 64) (omega arith) (omega arith))
          ∙ sym (ne_eqb i byte (λ e. other (ap (λ (n : ℕ). n / 64) (sym e))))
    ]

pub bits_right : (rows : List (List ℕ)) → length rows ≡ 256 → are_rows is_bit 0 rows ≡ true → AreBits rows
bits_right rows count tested = record {
  count = count;
  bits = λ byte i none lt small. row_bit byte i (get_or rows byte none) small (first_row is_bit rows byte none count lt tested);
}

-- ---- four words that are set

pub words_set : (ws fs ls : List ℕ) → length ws ≡ 4 → (i : ℕ) → i < 256
    → (let one : List ℕ = set ws 0 (bit_or (get_or ws 0 0) (bit_or (get_or fs 0 0) (get_or ls 0 0))) in
    let two : List ℕ = set one 1 (bit_or (get_or one 1 0) (bit_or (get_or fs 1 0) (get_or ls 1 0))) in
    let three : List ℕ = set two 2 (bit_or (get_or two 2 0) (bit_or (get_or fs 2 0) (get_or ls 2 0))) in
    has_bit (set three 3 (bit_or (get_or three 3 0) (bit_or (get_or fs 3 0) (get_or ls 3 0)))) i) ≡ (has_bit ws i || (has_bit fs i || has_bit ls i))
words_set [] fs ls size = absurd (omega arith)
words_set (a ∷ []) fs ls size = absurd (omega arith)
words_set (a ∷ b ∷ []) fs ls size = absurd (omega arith)
words_set (a ∷ b ∷ c ∷ []) fs ls size = absurd (omega arith)
words_set (a ∷ b ∷ c ∷ d ∷ []) fs ls size = λ i small.
    let p : ℕ = bit_or (get_or fs 0 0) (get_or ls 0 0) in
    let q : ℕ = bit_or (get_or fs 1 0) (get_or ls 1 0) in
    let r : ℕ = bit_or (get_or fs 2 0) (get_or ls 2 0) in
    let s : ℕ = bit_or (get_or fs 3 0) (get_or ls 3 0) in
    four_combined Or (a ∷ b ∷ c ∷ d ∷ []) (p ∷ q ∷ r ∷ s ∷ []) (bit_or a p) (bit_or b q) (bit_or c r) (bit_or d s) (word_or a p) (word_or b q) (word_or c r) (word_or d s) i small
    ∙ ap (λ (t : Bool). has_bit (a ∷ b ∷ c ∷ d ∷ []) i || t)
    (four_combined Or fs ls p q r s (word_or (get_or fs 0 0) (get_or ls 0 0)) (word_or (get_or fs 1 0) (get_or ls 1 0)) (word_or (get_or fs 2 0) (get_or ls 2 0))
    (word_or (get_or fs 3 0) (get_or ls 3 0)) i small)
words_set (a ∷ b ∷ c ∷ d ∷ e ∷ ws) fs ls size = absurd (omega arith)
