-- The steps of a walk, as its loops have them.
-- Serves opened.
use Rattle.std.proofs.Common.{◌≡◌, ℕ, ◌+◌, ◌<◌, ◌≤◌, List, length, get_or, Option, Some, None, IfSome, arith}
use Rattle.bitpack_lists.specs.declared.blocks.reads.Reads.{Reads}
use Rattle.bitpack_lists.specs.Search.{first_reaching}
use Rattle.bitpack_lists.specs.inner.Walks.{Appends, AreNext, IsWalked, IsWantedNext, Stage, Values, further}
use Rattle.bitpack_lists.proofs.lemmas.opened.Sharing.{InOrder, IsFirst, sought_some}
use Rattle.bitpack_lists.proofs.lemmas.opened.Walking.{IsSought, room_left, walked_answer, walked_passed}

module _ (lanes : ℕ) (other : Values) (stage : Stage) (values : List ℕ) (index want last : ℕ) (items : List ℕ) (capacity : ℕ) (old : Reads)
    (order : InOrder other) (next : AreNext stage values) (lt : index < length values)
    (before : IsWalked lanes other (further stage index) want last items capacity old) where
  within : stage.done + index < stage.one.count
  within = omega (arith, next.within)

  here : stage.one.value (stage.done + index) ≡ get_or values index 0
  here = next.are index lt

  one_further : (want' last' : ℕ) (items' : List ℕ) (new : Reads)
      → IsWalked lanes other (record { one = stage.one; started = stage.started; done = stage.done + index + 1; blocks = stage.blocks; due = stage.due }) want' last' items' capacity new
      → IsWalked lanes other (further stage (index + 1)) want' last' items' capacity new
  one_further want' last' items' new walked =
      let same : stage.done + index + 1 ≡ stage.done + (index + 1) = omega arith in
      rw same at walked

  pub step_passed : get_or values index 0 < want → IsWalked lanes other (further stage (index + 1)) want last items capacity old
  step_passed below =
      one_further want last items old
      (walked_passed lanes stage.one other stage.started (stage.done + index) want last items capacity stage.blocks old stage.due next.ordered order next.words before within
      (rw here below))

  -- there is room for a value that is found
  pub step_room : (len : ℕ) (answer : Option (ℕ × ℕ)) → len ≡ length items → want ≤ get_or values index 0
      → first_reaching other.value other.count (get_or values index 0) ≡ answer → IfSome answer (λ found. found.1 ≡ get_or values index 0 → len < capacity)
  step_room len None long le answers = tt
  step_room len (Some (position, found)) long le answers = λ same.
      let is : IsFirst other (get_or values index 0) position found = sought_some other (get_or values index 0) position found answers in
      rw long (room_left lanes stage.one other stage.started (stage.done + index) want last items capacity stage.blocks old stage.due next.ordered order next.words before within
      position (rw here le) (rw here (rw same at is)))

  pub step_searched : (answer : Option (ℕ × ℕ)) (want' last' : ℕ) (items' : List ℕ) (new : Reads) → want ≤ get_or values index 0
      → IsSought lanes other (get_or values index 0) answer last last' old new → IsWantedNext (get_or values index 0) answer want'
      → Appends (get_or values index 0) answer items items' → IsWalked lanes other (further stage (index + 1)) want' last' items' capacity new
  step_searched answer want' last' items' new le sought wanted appends =
      one_further want' last' items' new
      (walked_answer lanes stage.one other stage.started (stage.done + index) want last items capacity stage.blocks old stage.due next.ordered order next.words before within
      last' new (rw here le) answer want' items' (rw here sought) (rw here wanted) (rw here appends))
