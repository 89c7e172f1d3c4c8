-- The value is there, or missing, or after the last.
use Rattle.std.proofs.Common.{◌/◌, ◌<◌, ℕ, List, Some, ap, arith, sym, ◌∙◌}
use Rattle.std.proofs.lemmas.Option.{slice_get_past}
use Rattle.bitpack_slices.specs.Reads.{has}
use Rattle.bitpack_sets.specs.Reads as set_reads
use Rattle.bitpack_wide.specs.WideOpened.{values}
use Rattle.bitpack_wide.proofs.WideStated.{stated_chunk, stated_parts, value_by, value_is}
use Rattle.bitpack_wide.proofs.WideTables.{len_values}
use Rattle.bitpack_wide.proofs.wide_column.WideColumn.get.Goals as goal

pub returns-then-position-self : goal.returns-then-position-self
returns-then-position-self c =
    let self = c.args.self.now in
    sym (slice_get_past (values self) c.args.position (omega (arith, c.if-position-self.true, len_values self.bytes.now self.count self.rest.now self.states)))

pub returns-then-contains : goal.returns-then-contains
returns-then-contains c =
    let self = c.args.self.now in
    let lt : c.args.position < self.count = omega (arith, c.if-position-self.false) in
    sym (value_is self.bytes.now self.count self.rest.now self.states c.args.position lt
    ∙ ap Some (value_by self.count self.rest.now c.args.position _
    (sym (ap (λ (b : List ℕ). has c.args.position (set_reads.ids_in b)) self.is_missing) ∙ sym c.contains.ensures ∙ c.if-contains.true)))

pub value_at-requires-clause-few : goal.value_at-requires-clause-few
value_at-requires-clause-few c = c.args.self.now.states.few

pub value_at-requires-clause-parts : goal.value_at-requires-clause-parts
value_at-requires-clause-parts c = let self = c.args.self.now in stated_parts self.bytes.now self.count self.rest.now self.states

pub value_at-requires-clause-right : goal.value_at-requires-clause-right
value_at-requires-clause-right c =
    let self = c.args.self.now in
    stated_chunk self.bytes.now self.count self.rest.now self.states (c.args.position / 65536) (omega (arith, c.if-position-self.false))

pub returns : goal.returns
returns c =
    let self = c.args.self.now in
    let lt : c.args.position < self.count = omega (arith, c.if-position-self.false) in
    ap (λ (x : ℕ). Some (Some x)) c.value_at.ensures
    ∙ sym (value_is self.bytes.now self.count self.rest.now self.states c.args.position lt
    ∙ ap Some (value_by self.count self.rest.now c.args.position _
    (sym (ap (λ (b : List ℕ). has c.args.position (set_reads.ids_in b)) self.is_missing) ∙ sym c.contains.ensures ∙ c.if-contains.false)))
