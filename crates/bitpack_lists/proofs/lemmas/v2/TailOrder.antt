-- The order of all values of a list: that of the blocks, and that of the tail after them.
-- Serves v2.
use Rattle.std.proofs.Common.{◌≡◌, ℕ, ◌+◌, ◌-◌, ◌*◌, ◌<◌, ◌≤◌, List, Option, ◌∙◌, ap, arith}
use Rattle.std.specs.Option.{option_or}
use Rattle.std.proofs.Math.Nat.{div-add-mod}
use Rattle.bitpack_lists.specs.declared.list_kind.ListKind.{ListKind}
use Rattle.bitpack_lists.specs.inner.Opening.{IsOrdered}
use Rattle.bitpack_lists.specs.Parts.{tail_values, value_in_parts, whole_blocks}
use Rattle.bitpack_lists.specs.Version2.{is_out, least_below}
use Rattle.bitpack_lists.proofs.lemmas.blocks.BlockLemmas.{positive}
use Rattle.bitpack_lists.proofs.lemmas.blocks.Orders.{least_below-or}
use Rattle.bitpack_lists.proofs.lemmas.blocks.PartValues.{value_in_parts-tail}

module _ (lanes count last from : ℕ) (kind : ListKind) (block : ℕ → List ℕ) (tail : ℕ → ℕ) (some : 1 ≤ lanes) (from_is : from ≡ 32 * lanes * whole_blocks lanes count) where
  abbrev blocks : ℕ
  blocks = whole_blocks lanes count

  abbrev all : ℕ → ℕ
  all = value_in_parts lanes blocks block tail

  -- The first position out of order in the blocks, or else in the tail.
  pub order_of_all : (out tail_out : Option ℕ) (each : ℕ → ℕ)
      → (0 < blocks → all (32 * lanes * blocks - 1) ≡ last)
      → out ≡ least_below (is_out kind all) (32 * lanes * blocks)
      → ((k : ℕ) → k < tail_values lanes count → tail k ≡ each k)
      → ((any : ℕ → ℕ) → IsOrdered kind any from last → ((k : ℕ) → k < tail_values lanes count → any (from + k) ≡ each k)
      → tail_out ≡ least_below (is_out kind any) (from + tail_values lanes count))
      → option_or out tail_out ≡ least_below (is_out kind all) count
  order_of_all out tail_out each before out_is same finds =
      let n : ℕ = 32 * lanes in
      let end : from + tail_values lanes count ≡ count = omega (arith, from_is, div-add-mod count n) in
      least_below-or (is_out kind all) (n * blocks) count out tail_out (omega (arith, end, from_is)) out_is (λ none.
      let ordered : IsOrdered kind all from last = rw from_is (record { so_far = none; last = λ lt. before (positive n blocks lt) }) in
      finds all ordered (λ k lt. ap (λ p. all (p + k)) from_is ∙ value_in_parts-tail lanes blocks block tail some k ∙ same k lt)
      ∙ ap (least_below (is_out kind all)) end)
