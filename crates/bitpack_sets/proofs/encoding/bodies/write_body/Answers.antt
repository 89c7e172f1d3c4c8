-- The number of slices says whether the body is runs, and its length which other form it has.
use Rattle.std.proofs.Common.{◌≡◌, ap, false, length, sym, subst, true, arith, ◌∙◌, ℕ, List, Option, Some, None, refl}
use Rattle.bitpack_sets.proofs.lemmas.encodings.BodyLaws.{body_runs, few}
use Rattle.bitpack_slices.proofs.ForCallers.{runs_len}
use Rattle.bitpack_sets.proofs.lemmas.written.BodyFilled.{few_lows, is_blocks, is_numbers, lows_rise, numbers_size, pairs_are}
use Rattle.bitpack_sets.proofs.encoding.bodies.write_body.Goals as goal
use Rattle.std.specs.Prelude.{IfSome, IsNone}
use Rattle.bitpack_slices.specs.Bodies.{parts}
use Rattle.bitpack_slices.specs.Runs.{are_few, boundaries}
use Rattle.bitpack_sets.specs.Written.{lows}

-- what a number of slices says
abbrev Says : List ℕ → Option ℕ → Type 0
Says ids slices = IfSome slices (λ count. (count ≡ length (parts 256 (lows ids))) × (are_few (length (boundaries (lows ids))) (length ids) ≡ false))

other : (ids : List ℕ) (slices : Option ℕ) (count : ℕ) → slices ≡ Some count → Says ids slices → few (lows ids) ≡ false
other ids slices count e says = few_lows ids ∙ (subst (Says ids) e says).1

fits : (ids : List ℕ) (slices : Option ℕ) → slices ≡ None → (IsNone slices → are_few (length (boundaries (lows ids))) (length ids) ≡ true) → few (lows ids) ≡ true
fits ids slices e says = few_lows ids ∙ says (subst IsNone (sym e) refl)

pub write_runs-requires-clause-rising : goal.write_runs-requires-clause-rising
write_runs-requires-clause-rising c = lows_rise c.args.ids.now c.requires.chunk

pub write_runs-requires-clause-size : goal.write_runs-requires-clause-size
write_runs-requires-clause-size c =
    c.requires.size ∙ ap length (body_runs (lows c.args.ids.now) (fits c.args.ids.now c.args.slices c.in-None.is c.requires.runs)) ∙ runs_len (boundaries (lows c.args.ids.now))

pub returns-in-None : goal.returns-in-None
returns-in-None c = c.write_runs.ensures ∙ sym (body_runs (lows c.args.ids.now) (fits c.args.ids.now c.args.slices c.in-None.is c.requires.runs))

pub write_blocks-requires-clause-size : goal.write_blocks-requires-clause-size
write_blocks-requires-clause-size c =
    let size = c.requires.size in
    c.requires.size ∙ ap length (is_blocks c.args.ids.now (other c.args.ids.now c.args.slices c.in-Some.count c.in-Some.is c.requires.blocks) (omega (arith, c.if-out-ids.true)))

pub write_integers-requires : goal.write_integers-requires
write_integers-requires c =
    let size = c.requires.size in
    c.requires.size ∙ ap length (is_numbers c.args.ids.now (other c.args.ids.now c.args.slices c.in-Some.count c.in-Some.is c.requires.blocks) (omega (arith, c.if-out-ids.false))) ∙ numbers_size c.args.ids.now

pub returns-then-out-ids : goal.returns-then-out-ids
returns-then-out-ids c =
    let size = c.requires.size in
    c.write_blocks.ensures ∙ sym (is_blocks c.args.ids.now (other c.args.ids.now c.args.slices c.in-Some.count c.in-Some.is c.requires.blocks) (omega (arith, c.if-out-ids.true)))

pub returns-else-out-ids : goal.returns-else-out-ids
returns-else-out-ids c =
    let size = c.requires.size in
    c.write_integers.ensures ∙ pairs_are c.args.ids.now
    ∙ sym (is_numbers c.args.ids.now (other c.args.ids.now c.args.slices c.in-Some.count c.in-Some.is c.requires.blocks) (omega (arith, c.if-out-ids.false)))
