-- Each turn of the loop reads one item.
use Rattle.std.proofs.Common.{◌≢◌, ◌∙◌, Err, ap, length, codes, arith, rules, tests, lit<}
use Rattle.std.proofs.lemmas.List.{length_push}
use Rattle.std.proofs.lemmas.Iterator.Consumers.{YieldsList-at, YieldsList-end, YieldsList-turn}
use Rattle.std.proofs.lemmas.Iterator.Splits.{YieldsList-from_str_split}
use Rattle.std.proofs.lemmas.Result.{err_from_is_err_and}
use Rattle.bitpack.proofs.Passing.{passes_on}
use Rattle.bitpack.proofs.ValueLists.{between_commas, gathers_spelled, read_none, reads_all, reads_on, spelled_gathers, stops_at}
use Rattle.bitpack.proofs.line.values.parse_values.Goals as goal

pub loop-item-init : goal.loop-item-init
loop-item-init c = record { can_next = search rules; is_finite = search rules; read = rw c.new-values.ensures.items (read_none (between_commas c.args.string.now)) }

pub push_item-requires : goal.push_item-requires
push_item-requires c = omega (arith, c.loop-item.invariant.read.few, c.loop-item.values.ok.0)

pub loop-item-preserved : goal.loop-item-preserved
loop-item-preserved c =
    let parts = YieldsList-at c.into_iter-item-iterator.ensures.into_iter_gives (YieldsList-from_str_split 44 c.args.string.now (lit< tt) c.split-item-items.ensures.text c.split-item-items.ensures.has_more c.split-item-items.ensures.pattern) in
    let (more, is) = YieldsList-turn parts c.loop-item.yielded _ c.loop-item.yielded_by _ _ c.in-Some.item c.in-Some.is c.next.ensures.steps in
    record {
      can_next = search rules;
      is_finite = search rules;
      read = reads_on (between_commas c.args.string.now) (length c.loop-item.yielded) c.loop-item.values.items c.loop-item.invariant.read c.in-Some.item.now c.push_item.new.values.items _ more is (length_push c.loop-item.yielded c.in-Some.item) c.in_ok-push_item.ensures;
    }

pub returns-in_err-push_item : goal.returns-in_err-push_item
returns-in_err-push_item c =
    let parts = YieldsList-at c.into_iter-item-iterator.ensures.into_iter_gives (YieldsList-from_str_split 44 c.args.string.now (lit< tt) c.split-item-items.ensures.text c.split-item-items.ensures.has_more c.split-item-items.ensures.pattern) in
    let (more, is) = YieldsList-turn parts c.loop-item.yielded _ c.loop-item.yielded_by _ _ c.in-Some.item c.in-Some.is c.next.ensures.steps in
    let other : c.args.string.now ≢ codes "-" = search (rules, tests) in
    let p = err_from_is_err_and c.from_residual.result c.from_residual.ensures.1 in
    passes_on _ _ (λ (x : Unit {0}). c.push_item.new.values.items) _ c.from_residual.result c.in_err-push_item.field-0.0 (p.1 ∙ ap Err p.2) c.in_err-push_item.ensures (λ none all spelled.
    stops_at (between_commas c.args.string.now) (length c.loop-item.yielded) c.loop-item.values.items c.loop-item.invariant.read c.in-Some.item.now more is none all (spelled_gathers c.args.string.now all other spelled))

pub returns : goal.returns
returns c =
    let parts = YieldsList-at c.into_iter-item-iterator.ensures.into_iter_gives (YieldsList-from_str_split 44 c.args.string.now (lit< tt) c.split-item-items.ensures.text c.split-item-items.ensures.has_more c.split-item-items.ensures.pattern) in
    let end = YieldsList-end parts c.loop-item.yielded _ c.loop-item.yielded_by _ _ c.in-None.is c.next.ensures.steps in
    gathers_spelled c.args.string.now _ (reads_all (between_commas c.args.string.now) (length c.loop-item.yielded) _ c.loop-item.invariant.read (omega (arith, end.1)))
