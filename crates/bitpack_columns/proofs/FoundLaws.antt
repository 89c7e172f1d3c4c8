-- Positions that are written one after another: of values that are within a range, and of bits that are 1.
use Rattle.std.proofs.Common.{◌≡◌, ℕ, ◌+◌, ◌-◌, ◌<◌, ◌≤◌, ◌++◌, Bool, true, false, eqb, List, [], ◌∷◌, length, get_or, map, set, take, refl, sym, ◌∙◌, ap, append_assoc, arith, inl, inr}
use Rattle.std.specs.Int.{bit_at}
use Rattle.std.proofs.lemmas.Bool.{cases_lt, eq-eqb, ne_eqb}
use Rattle.std.proofs.lemmas.Grind.{take-set_at}
use Rattle.std.proofs.lemmas.List.{append-nil, length-append, map-append, take-set-le}
use Rattle.bitpack_columns.specs.Ranges.{is_between}
use Rattle.bitpack_columns.specs.Searches.{HasFound, ones_in}
use Rattle.bitpack_columns.proofs.RangeLaws.{passing, passing_agree, passing_few, passing_more, passing_moved, passing_same, passing_split}

module _ (low high : ℕ) (values : List ℕ) (start : ℕ) where
  abbrev within : ℕ → Bool
  within k = is_between low high (get_or values k 0)

  -- the same of positions
  abbrev test : ℕ → Bool
  test position = within (position - start)

  moved : (count : ℕ) → map (λ k. start + k) (passing within 0 count) ≡ passing test start count
  moved count =
      let none : start + 0 ≡ start = omega arith in
      sym (ap (map (λ k. start + k)) (passing_agree (λ k. test (start + k)) within 0 count (λ k lt.
      let same : start + (0 + k) - start ≡ 0 + k = omega arith in
      ap within same)))
      ∙ passing_moved test start 0 count ∙ ap (λ m. passing test m count) none

  pub found_nothing : (found : List ℕ) → HasFound low high values start 0 0 found
  found_nothing found = record { few = omega arith; positions = refl }

  module _ (index next : ℕ) (found : List ℕ) (before : HasFound low high values start index next found) where
    -- The next value is within the range, or is not.
    pub found_one : next < length found → is_between low high (get_or values index 0) ≡ true
        → HasFound low high values start (index + 1) (next + 1) (set found next (start + index))
    found_one room passes =
        let own : start + index - start ≡ index = omega arith in
        record {
          few = omega (arith, before.few);
          positions = take-set_at found next (next + 1) (start + index) refl room ∙ ap (λ xs. xs ++ (start + index) ∷ []) (before.positions ∙ moved index)
              ∙ sym (passing_more test start index (ap within own ∙ passes)) ∙ sym (moved (index + 1));
        }

    pub found_same : is_between low high (get_or values index 0) ≡ false → HasFound low high values start (index + 1) next (set found next (start + index))
    found_same fails =
        let own : start + index - start ≡ index = omega arith in
        record {
          few = omega (arith, before.few);
          positions = take-set-le next found next (start + index) (omega arith) ∙ before.positions ∙ moved index
              ∙ sym (passing_same test start index (ap within own ∙ fails)) ∙ sym (moved (index + 1));
        }

    -- Eight values more have these matches.
    pub found_eight : (bits : ℕ) (more : List ℕ) → ones_in bits ≡ passing (λ k. is_between low high (get_or values (index + k) 0)) 0 8
        → take (next + length (ones_in bits)) more ≡ take next found ++ map (λ k. start + index + k) (ones_in bits)
        → HasFound low high values start (index + 8) (next + length (ones_in bits)) more
    found_eight bits more marks put =
        let none : start + index + 0 ≡ start + index = omega arith in
        let same = passing_agree (λ k. within (index + k)) (λ k. test (start + index + k)) 0 8 (λ k lt.
        let at : index + (0 + k) ≡ start + index + (0 + k) - start = omega arith in
        ap within at) in
        record {
          few = omega (arith, before.few, ap length marks, passing_few (λ k. within (index + k)) 0 8);
          positions = put ∙ ap (λ xs. xs ++ map (λ k. start + index + k) (ones_in bits)) (before.positions ∙ moved index)
              ∙ ap (λ xs. passing test start index ++ map (λ k. start + index + k) xs) (marks ∙ same)
              ∙ ap (λ xs. passing test start index ++ xs) (passing_moved test (start + index) 0 8 ∙ ap (λ m. passing test m 8) none)
              ∙ sym (passing_split test start index 8) ∙ sym (moved (index + 8));
        }

-- ---- the bits of a byte

module _ (bits start at : ℕ) (old : List ℕ) where
  abbrev is_one : ℕ → Bool
  is_one bit = eqb (bit_at bits bit) 1

  -- the numbers of the first bits that are 1 are written
  pub record ArePut (bit next : ℕ) (found : List ℕ) : Type 0 where
    pub long : length found ≡ length old
    pub end : next ≡ at + length (passing is_one 0 bit)
    pub written : take next found ≡ take at old ++ map (λ k. start + k) (passing is_one 0 bit)

  pub put_nothing : ArePut 0 at old
  put_nothing = record { long = refl; end = omega arith; written = sym (append-nil (take at old)) }

  pub put_few : (bit next : ℕ) (found : List ℕ) → ArePut bit next found → next ≤ at + bit
  put_few bit next found before = omega (arith, before.end, passing_few is_one 0 bit)

  module _ (bit next : ℕ) (found : List ℕ) (before : ArePut bit next found) (room : next < length found)
      (long : length (set found next (start + bit)) ≡ length old) where
    put_one : bit_at bits bit ≡ 1 → ArePut (bit + 1) (next + 1) (set found next (start + bit))
    put_one one =
        let here : 0 + bit ≡ bit = omega arith in
        let passes : is_one (0 + bit) ≡ true = ap is_one here ∙ eq-eqb (bit_at bits bit) 1 one in
        let more = passing_more is_one 0 bit passes in
        record {
          long = long;
          end = omega (arith, before.end, ap length more, length-append (passing is_one 0 bit) ((0 + bit) ∷ []));
          written = take-set_at found next (next + 1) (start + bit) refl room ∙ ap (λ xs. xs ++ (start + bit) ∷ []) before.written
              ∙ append_assoc (take at old) (map (λ k. start + k) (passing is_one 0 bit)) ((start + bit) ∷ [])
              ∙ ap (λ k. take at old ++ (map (λ k. start + k) (passing is_one 0 bit) ++ (start + k) ∷ [])) (sym here)
              ∙ ap (λ xs. take at old ++ xs) (sym (map-append (λ k. start + k) (passing is_one 0 bit) ((0 + bit) ∷ [])))
              ∙ ap (λ xs. take at old ++ map (λ k. start + k) xs) (sym more);
        }

    put_zero : bit_at bits bit ≡ 0 → ArePut (bit + 1) next (set found next (start + bit))
    put_zero zero =
        let here : 0 + bit ≡ bit = omega arith in
        let fails : is_one (0 + bit) ≡ false = ap is_one here ∙ ne_eqb (bit_at bits bit) 1 (λ e. omega (arith, e, zero)) in
        let same = passing_same is_one 0 bit fails in
        record {
          long = long;
          end = omega (arith, before.end, ap length same);
          written = take-set-le next found next (start + bit) (omega arith) ∙ before.written ∙ ap (λ xs. take at old ++ map (λ k. start + k) xs) (sym same);
        }

    pub put_next : ArePut (bit + 1) (next + bit_at bits bit) (set found next (start + bit))
    put_next = elim (cases_lt (bit_at bits bit) 1) [
      | inl lt ↦
          let zero : bit_at bits bit ≡ 0 = omega (arith, lt) in
          let same : next + bit_at bits bit ≡ next = omega (arith, zero) in
          rw same (put_zero zero)
      | inr le ↦
          let one : bit_at bits bit ≡ 1 = omega (arith, le) in
          rw one (put_one one)
    ]

pub ones_passing : (bits : ℕ) → passing (λ bit. eqb (bit_at bits bit) 1) 0 8 ≡ ones_in bits
unfolding ones_in
ones_passing bits = refl

pub no_ones : ones_in 0 ≡ []
unfolding ones_in
no_ones = refl
