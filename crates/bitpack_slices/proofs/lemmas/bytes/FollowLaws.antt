-- What is written so far, and what is left.
use Rattle.std.proofs.Common.{◌≡◌, ℕ, ◌+◌, ◌≤◌, List, [], ◌++◌, take, length, refl, sym, ap, ◌∙◌, arith, append-nil, append_assoc, length-append, subst}
use Rattle.bitpack_slices.specs.Follows.{Follow}

-- what is written and what is left are all
pub record IsLeft (all old new : List ℕ) (at next : ℕ) (rest : List ℕ) : Type 0 where
  pub count : next + length rest ≡ at + length all
  pub written : next ≤ length new → take next new ++ rest ≡ take at old ++ all

pub left_first : (all old : List ℕ) (at : ℕ) → IsLeft all old old at at all
left_first all old at = record { count = refl; written = λ h. refl }

pub left_as : (all old new : List ℕ) (at next : ℕ) (xs ys : List ℕ) → xs ≡ ys → IsLeft all old new at next xs → IsLeft all old new at next ys
left_as all old new at next xs ys e so = subst (IsLeft all old new at next) e so

-- some more are written
pub left_more : (all old mid new : List ℕ) (at next next' : ℕ) (xs rest : List ℕ) → length new ≡ length mid → IsLeft all old mid at next (xs ++ rest) → Follow xs mid new next next'
    → IsLeft all old new at next' rest
left_more all old mid new at next next' xs rest same so more =
    let size = length-append xs rest in
    let count = so.count in
    let end = more.end_is in
    record {
      count = omega arith;
      written = λ h. ap (λ (l : List ℕ). l ++ rest) (more.written h) ∙ append_assoc (take next mid) xs rest ∙ so.written (omega arith);
    }

-- all that is left is written
pub left_last : (all old mid new : List ℕ) (at next end : ℕ) (rest : List ℕ) → length new ≡ length mid → IsLeft all old mid at next rest → Follow rest mid new next end
    → Follow all old new at end
left_last all old mid new at next end rest same so more =
    let count = so.count in
    let end_is = more.end_is in
    record {
      end_is = omega arith;
      written = λ h. more.written h ∙ so.written (omega arith);
    }

-- nothing is left
pub left_none : (all old new : List ℕ) (at next : ℕ) (rest : List ℕ) → rest ≡ [] → IsLeft all old new at next rest → Follow all old new at next
left_none all old new at next rest e so =
    let count = so.count in
    let none : length rest ≡ 0 = ap length e in
    record {
      end_is = omega arith;
      written = λ h. sym (append-nil (take next new)) ∙ ap (λ (l : List ℕ). take next new ++ l) (sym e) ∙ so.written h;
    }

pub follow_none : (old : List ℕ) (at : ℕ) → Follow [] old old at at
follow_none old at = record { end_is = omega arith; written = λ h. sym (append-nil (take at old)) }

pub follow_as : (xs ys old new : List ℕ) (at end : ℕ) → xs ≡ ys → Follow xs old new at end → Follow ys old new at end
follow_as xs ys old new at end e so = subst (λ (l : List ℕ). Follow l old new at end) e so
