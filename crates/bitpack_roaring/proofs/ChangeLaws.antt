-- The bits that are not as the one before, word by word.
use lib.Bits.{or_comm}
use mir.Val.{bool_byte}
use Rattle.std.proofs.Common.{◌≡◌, ℕ, ◌+◌, ◌-◌, ◌*◌, ◌/◌, ◌%◌, ◌^◌, ◌<◌, ◌≤◌, Bool, List, length, get_or, set, bit_or, bit_xor, refl, sym, ap, ◌∙◌, arith, inl, inr, subst, get_or-set_other, get_or-set_same}
use Rattle.std.specs.Int.{bit_at}
use Rattle.std.proofs.lemmas.Bool.{cases_eq}
use Rattle.bitpack_slices.proofs.ForCallers.{IsWordOf, before, bounds_those, changes, changes_carry, changes_word, those_same}
use Rattle.bitpack_slices.specs.Bitmaps.{has_bit}
use Rattle.bitpack_slices.specs.Operations.{those}
use Rattle.bitpack_slices.specs.Runs.{boundaries}

-- the first word, and one after another
pub first_word : (words : List ℕ) → IsWordOf (changes (has_bit words)) 0 (bit_xor (get_or words 0 0) (get_or words 0 0 * 2 ^ 1 % 2 ^ 64))
first_word words =
    subst (λ (n : ℕ). IsWordOf (changes (has_bit words)) 0 (bit_xor (get_or words 0 0) n)) (or_comm (get_or words 0 0 * 2 ^ 1 % 2 ^ 64) 0) (changes_word words 0 0 refl)

pub later_word : (words : List ℕ) (i last : ℕ) → 1 ≤ i → last ≡ bit_at (get_or words (i - 1) 0) 63
    → IsWordOf (changes (has_bit words)) i (bit_xor (get_or words i 0) (bit_or (get_or words i 0 * 2 ^ 1 % 2 ^ 64) last))
later_word words i last some is =
    let next : 64 * (i - 1 + 1) ≡ 64 * i = omega arith in
    changes_word words i last (changes_carry words (i - 1) last is ∙ ap (λ (n : ℕ). bool_byte (before (has_bit words) n)) next)

-- one word more
pub changes_more : (P : ℕ → Bool) (found : List ℕ) (i v q : ℕ) → i < length found → IsWordOf P i v → ((k : ℕ) → k < i → IsWordOf P k (get_or found k 0)) → q < i + 1
    → IsWordOf P q (get_or (set found i v) q 0)
changes_more P found i v q room is before lt = elim (cases_eq q i) [
  | inl same ↦ subst (λ (n : ℕ). IsWordOf P n (get_or (set found i v) n 0)) (sym same) (subst (IsWordOf P i) (sym (get_or-set_same found i v 0 room)) is)
  | inr other ↦ subst (IsWordOf P q) (sym (get_or-set_other found i q v 0 other)) (before q (omega arith))
]

pub bounds_found : (words found : List ℕ) → ((q : ℕ) → q < 1024 → IsWordOf (changes (has_bit words)) q (get_or found q 0)) → those 65536 (has_bit found) ≡ boundaries (those 65536 (has_bit words))
unfolding has_bit
bounds_found words found are =
    those_same 65536 (has_bit found) (changes (has_bit words))
    (λ x lt. let split : 64 * (x / 64) + x % 64 ≡ x = omega arith in sym (are (x / 64) (omega arith) (x % 64) (omega arith)) ∙ ap (changes (has_bit words)) split)
    ∙ sym (bounds_those (has_bit words))
