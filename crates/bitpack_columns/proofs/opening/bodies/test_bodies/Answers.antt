-- Each block is the one of its body: the first with a fault is found, and the first value out of order.
use Rattle.std.proofs.Common.{◌≡◌, ◌-◌, ℕ, List, add-one, ap, arith, refl, sym, ◌∙◌}
use Rattle.std.proofs.lemmas.Result.{err_from_is_err_and}
use Rattle.bitpack_columns.specs.declared.column_kind.ColumnKind.TheVariants.{Sorted}
use Rattle.bitpack_columns.specs.Columns.{base_of}
use Rattle.bitpack_columns.specs.Faults.{body_fault}
use Rattle.bitpack_columns.specs.Reads.{end_at, mark_at, width_at}
use Rattle.bitpack_columns.proofs.OpeningLaws.{begin-next, body_there, codes-there, fault-here, first_found, first_more, first_start, none_out, out-here}
use Rattle.bitpack_columns.proofs.opening.bodies.test_bodies.Goals as goal

pub loop-index-init : goal.loop-index-init
loop-index-init c = record {
  begin_is = refl;
  before_of = refl;
  at_is = let e = c.bodies_start-at.ensures in omega arith;
  right = first_start (body_fault c.args.kind c.args.first c.args.blocks c.args.rest.now);
  out_is = none_out c.args.kind c.args.first;
}

pub slice_bounds-body-end : goal.slice_bounds-body-end
slice_bounds-body-end c =
    let rest : List ℕ = c.args.rest.now in
    let m : ℕ = c.loop-index.index in
    let there = body_there c.args.blocks rest m c.requires.bodies c.loop-index-test.true in
    let end : c.read_integer-end.result ≡ end_at rest m = c.read_integer-end.ensures in
    let begin = c.loop-index.invariant.begin_is in
    let at = c.loop-index.invariant.at_is in
    let rising = c.requires.bodies.rising m c.loop-index-test.true in
    omega arith

pub returns-in_err-found-clause-fault : goal.returns-in_err-found-clause-fault
returns-in_err-found-clause-fault c =
    let rest : List ℕ = c.args.rest.now in
    let m : ℕ = c.loop-index.index in
    let so_far = c.loop-index.invariant in
    let width : ℕ = c.read_integer-end.result - c.loop-index.begin in
    let end : c.read_integer-end.result ≡ end_at rest m = c.read_integer-end.ensures in
    let mark : c.read_integer-mark.result ≡ mark_at c.args.blocks rest m = c.read_integer-mark.ensures in
    let width_is : width ≡ width_at rest m = rw (end, so_far.begin_is) refl in
    let codes = codes-there c.args.blocks m c.loop-index.at width rest c.unpack_codes.new.codes so_far.at_is width_is c.unpack_codes.ensures in
    let fault = fault-here c.args.kind c.args.first c.args.blocks m rest width c.loop-index.before c.read_integer-mark.result c.unpack_codes.new.codes width_is so_far.before_of mark codes in
    let p = err_from_is_err_and c.from_residual.result c.from_residual.ensures.1 in
    rw (p.1, p.2)
    (first_found (body_fault c.args.kind c.args.first c.args.blocks rest) c.args.blocks m c.in_err-found.field-0.0 c.loop-index-test.true so_far.right
    (sym fault ∙ c.in_err-found.ensures.fault))

pub loop-index-preserved : goal.loop-index-preserved
loop-index-preserved c =
    let rest : List ℕ = c.args.rest.now in
    let m : ℕ = c.loop-index.index in
    let so_far = c.loop-index.invariant in
    let width : ℕ = c.read_integer-end.result - c.loop-index.begin in
    let end : c.read_integer-end.result ≡ end_at rest m = c.read_integer-end.ensures in
    let mark : c.read_integer-mark.result ≡ mark_at c.args.blocks rest m = c.read_integer-mark.ensures in
    let width_is : width ≡ width_at rest m = rw (end, so_far.begin_is) refl in
    let codes = codes-there c.args.blocks m c.loop-index.at width rest c.unpack_codes.new.codes so_far.at_is width_is c.unpack_codes.ensures in
    let fault = fault-here c.args.kind c.args.first c.args.blocks m rest width c.loop-index.before c.read_integer-mark.result c.unpack_codes.new.codes width_is so_far.before_of mark codes in
    let next = begin-next rest m in
    let rising = c.requires.bodies.rising m c.loop-index-test.true in
    let begin = so_far.begin_is in
    let at = so_far.at_is in
    record {
      begin_is = end ∙ sym next;
      before_of = mark ∙ ap (base_of Sorted c.args.first (mark_at c.args.blocks rest)) (sym (add-one m));
      at_is = omega arith;
      right = first_more (body_fault c.args.kind c.args.first c.args.blocks rest) m so_far.right (sym fault ∙ c.in_ok-found.ensures.fault);
      out_is =
          c.or-out.ensures
          ∙ out-here c.args.kind c.args.first c.args.blocks m rest width c.loop-index.before c.read_integer-mark.result c.unpack_codes.new.codes width_is so_far.before_of mark codes
          c.loop-index.out c.in_ok-found.found so_far.right so_far.out_is c.in_ok-found.ensures.out;
    }
