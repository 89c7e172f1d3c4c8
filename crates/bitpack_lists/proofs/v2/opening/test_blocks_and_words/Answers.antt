-- The tests in their order find the first fault of what is after the header.
use Rattle.std.proofs.Common.{◌≡◌, ◌+◌, ◌-◌, ◌*◌, ◌%◌, ◌<◌, ◌≤◌, ℕ, List, length, take, drop, Option, Some, None, refl, sym, ◌∙◌, ap, arith}
use Rattle.std.specs.Option.{option_or}
use Rattle.std.proofs.Math.Nat.{div-add-mod}
use Rattle.std.proofs.lemmas.Bool.{lt-ltb, le-ltb}
use Rattle.std.proofs.lemmas.List.{length-drop, take_all}
use Rattle.std.proofs.lemmas.Result.{err_from_is_err_and}
use Rattle.bitpacking.specs.Words.{word}
use Rattle.bitpack_lists.specs.declared.list_error.ListError.{ListError}
use Rattle.bitpack_lists.specs.declared.list_error.ListError.TheVariants.{NotSorted, Trailing}
use Rattle.bitpack_lists.specs.declared.list_kind.ListKind.{ListKind}
use Rattle.bitpack_lists.specs.inner.Opening.{IsOrdered}
use Rattle.bitpack_lists.specs.Parts.{tail_values, whole_blocks}
use Rattle.bitpack_lists.specs.Version2.{block_at, blocks_fault, is_out, least_below, rest_fault2, tail_start, value_at, value_with}
use Rattle.bitpack_lists.proofs.lemmas.v2.TailOrder.{order_of_all}
use Rattle.bitpack_lists.proofs.v2.opening.test_blocks_and_words.Goals as goal

-- ---- the faults in their order

module _ (lanes count : ℕ) (kind : ListKind) (rest : List ℕ) where
  abbrev blocks : ℕ
  blocks = whole_blocks lanes count

  abbrev tail : ℕ
  tail = 4 * tail_values lanes count

  bad_blocks : (e : ListError) → blocks_fault lanes blocks tail kind rest ≡ Some e → rest_fault2 lanes kind count rest ≡ Some e
  unfolding rest_fault2
  bad_blocks e found = rw found refl

  module _ (right : blocks_fault lanes blocks tail kind rest ≡ None) where
    bad_order : (position : ℕ) → least_below (is_out kind (value_at lanes blocks kind rest)) count ≡ Some position
        → rest_fault2 lanes kind count rest ≡ Some (NotSorted position)
    unfolding rest_fault2
    bad_order position found = rw (right, found) refl

    module _ (ordered : least_below (is_out kind (value_at lanes blocks kind rest)) count ≡ None) where
      too_long : tail_start lanes blocks rest + tail < length rest → rest_fault2 lanes kind count rest ≡ Some Trailing
      unfolding rest_fault2
      too_long more = rw (right, ordered, lt-ltb (tail_start lanes blocks rest + tail) (length rest) more) refl

      no_fault : length rest ≤ tail_start lanes blocks rest + tail → rest_fault2 lanes kind count rest ≡ None
      unfolding rest_fault2
      no_fault few = rw (right, ordered, le-ltb (tail_start lanes blocks rest + tail) (length rest) few) refl

-- What the tests of the order find is the first position out of order.
module _ (lanes len count last end : ℕ) (kind : ListKind) (rest : List ℕ) (some : 1 ≤ lanes) (whole : len ≡ 32 * lanes)
    (end_is : end ≡ tail_start lanes (whole_blocks lanes count) rest) where
  abbrev from : ℕ
  from = count - count % len

  abbrev words : List ℕ
  words = take (length rest - end) (drop end rest)

  from_is : from ≡ 32 * lanes * whole_blocks lanes count
  from_is = rw whole (omega (arith, div-add-mod count (32 * lanes)))

  words_are : words ≡ drop (tail_start lanes (whole_blocks lanes count) rest) rest
  words_are = take_all (length rest - end) (drop end rest) (omega (arith, length-drop end rest)) ∙ ap (λ i. drop i rest) end_is

  order_is : (out tail_out : Option ℕ)
      → ((later : ℕ → ℕ) → 0 < whole_blocks lanes count → value_with lanes (whole_blocks lanes count) kind rest later (32 * lanes * whole_blocks lanes count - 1) ≡ last)
      → ((later : ℕ → ℕ) → out ≡ least_below (is_out kind (value_with lanes (whole_blocks lanes count) kind rest later)) (32 * lanes * whole_blocks lanes count))
      → ((all : ℕ → ℕ) → IsOrdered kind all from last → ((k : ℕ) → k < count % len → all (from + k) ≡ word words k)
      → tail_out ≡ least_below (is_out kind all) (from + count % len))
      → option_or out tail_out ≡ least_below (is_out kind (value_at lanes (whole_blocks lanes count) kind rest)) count
  order_is out tail_out before out_is finds =
      let later : ℕ → ℕ = word (drop (tail_start lanes (whole_blocks lanes count) rest) rest) in
      order_of_all lanes count last from kind (block_at lanes (whole_blocks lanes count) kind rest) later some from_is out tail_out later (before later) (out_is later) (λ k lt. refl)
      (λ any ordered each.
      rw (← whole) (finds any ordered (λ k lt. each k (rw whole at lt) ∙ ap (λ zs. word zs k) (sym words_are))))

pub returns-in_err-blocks : goal.returns-in_err-blocks
returns-in_err-blocks g c =
    let whole : c.BLOCK_LEN.result ≡ 32 * g.P.BitPacker.lanes = c.BLOCK_LEN.ensures ∙ g.met.P.BitPacker.block_len in
    let p = err_from_is_err_and c.from_residual.result c.from_residual.ensures.1 in
    rw (p.1, p.2) (bad_blocks g.P.BitPacker.lanes c.args.header.count c.args.header.kind c.args.rest.now _ (rw whole at c.in_err-blocks.ensures.fault))

pub returns-in-Some : goal.returns-in-Some
returns-in-Some g c =
    let whole : c.BLOCK_LEN.result ≡ 32 * g.P.BitPacker.lanes = c.BLOCK_LEN.ensures ∙ g.met.P.BitPacker.block_len in
    let tested = c.in_ok-blocks.blocks in
    let found = c.in_ok-blocks.ensures in
    let order = order_is g.P.BitPacker.lanes c.BLOCK_LEN.result c.args.header.count tested.last tested.end c.args.header.kind c.args.rest.now g.met.P.BitPacker.some_lanes whole
    found.end tested.out c.first_out_of_words-tail_out.result found.last found.out c.first_out_of_words-tail_out.ensures in
    bad_order g.P.BitPacker.lanes c.args.header.count c.args.header.kind c.args.rest.now (rw whole at found.fault) c.in-Some.position
    (sym order ∙ sym c.or.ensures ∙ c.in-Some.is)

pub returns-then-rest-blocks : goal.returns-then-rest-blocks
returns-then-rest-blocks g c =
    let whole : c.BLOCK_LEN.result ≡ 32 * g.P.BitPacker.lanes = c.BLOCK_LEN.ensures ∙ g.met.P.BitPacker.block_len in
    let tested = c.in_ok-blocks.blocks in
    let found = c.in_ok-blocks.ensures in
    let order = order_is g.P.BitPacker.lanes c.BLOCK_LEN.result c.args.header.count tested.last tested.end c.args.header.kind c.args.rest.now g.met.P.BitPacker.some_lanes whole
    found.end tested.out c.first_out_of_words-tail_out.result found.last found.out c.first_out_of_words-tail_out.ensures in
    too_long g.P.BitPacker.lanes c.args.header.count c.args.header.kind c.args.rest.now (rw whole at found.fault) (sym order ∙ sym c.or.ensures ∙ c.in_default.is)
    (rw (found.end, whole) at c.if-rest-blocks.true)

pub returns : goal.returns
returns g c =
    let whole : c.BLOCK_LEN.result ≡ 32 * g.P.BitPacker.lanes = c.BLOCK_LEN.ensures ∙ g.met.P.BitPacker.block_len in
    let tested = c.in_ok-blocks.blocks in
    let found = c.in_ok-blocks.ensures in
    let order = order_is g.P.BitPacker.lanes c.BLOCK_LEN.result c.args.header.count tested.last tested.end c.args.header.kind c.args.rest.now g.met.P.BitPacker.some_lanes whole
    found.end tested.out c.first_out_of_words-tail_out.result found.last found.out c.first_out_of_words-tail_out.ensures in
    no_fault g.P.BitPacker.lanes c.args.header.count c.args.header.kind c.args.rest.now (rw whole at found.fault) (sym order ∙ sym c.or.ensures ∙ c.in_default.is)
    (rw (found.end, whole) at c.if-rest-blocks.false)
