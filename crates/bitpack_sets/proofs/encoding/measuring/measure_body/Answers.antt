-- Boundaries are counted, and if they are many, slices.
use Rattle.std.proofs.Common.{◌≡◌, ◌%◌, ◌∙◌, arith, ap, length, sym, true, false, inl, inr, leb, ◌<◌, ℕ, List}
use Rattle.std.proofs.lemmas.Bool.{le-leb}
use Rattle.std.proofs.lemmas.Bool.Decides.{leb_tells}
use Rattle.std.proofs.lemmas.List.{length-map}
use Rattle.bitpack_sets.proofs.lemmas.encodings.BodyLaws.{body_runs, few, runs_short}
use Rattle.bitpack_sets.proofs.lemmas.written.BodyFilled.{few_lows, lows_rise}
use Rattle.bitpack_slices.proofs.ForCallers.{runs_len}
use Rattle.bitpack_sets.proofs.encoding.measuring.measure_body.Goals as goal
use Rattle.bitpack_slices.specs.Runs.{boundaries}
use Rattle.bitpack_sets.specs.Written.{lows}

pub count_in_ids-bounds-requires-clause-rising : goal.count_in_ids-bounds-requires-clause-rising
count_in_ids-bounds-requires-clause-rising c = lows_rise c.args.ids.now c.requires.chunk

above_leb : (a b : ℕ) → b < a → leb a b ≡ false
above_leb a b h = elim (leb_tells a b) [ inl (e, l) ↦ absurd (omega arith) | inr (e, l) ↦ e ]

fits : (ids : goal.Then-bounds-most_bounds) → few (lows ids.args.ids.now) ≡ true
fits c =
    few_lows c.args.ids.now ∙ c.most_bounds.ensures.few (length (boundaries (lows c.args.ids.now)))
    ∙ le-leb (length (boundaries (lows c.args.ids.now))) c.most_bounds.result (omega (arith, c.count_in_ids-bounds.ensures, c.if-bounds-most_bounds.true))

pub returns-then-bounds-most_bounds-clause-size : goal.returns-then-bounds-most_bounds-clause-size
returns-then-bounds-most_bounds-clause-size c =
    let size = ap length (body_runs (lows c.args.ids.now) (fits c)) in
    let long = runs_len (boundaries (lows c.args.ids.now)) in
    omega (arith, c.count_in_ids-bounds.ensures)

pub returns-then-bounds-most_bounds-clause-small : goal.returns-then-bounds-most_bounds-clause-small
returns-then-bounds-most_bounds-clause-small c =
    let same = length-map c.args.ids.now (λ id. id % 65536) in
    let (bounds, short) = runs_short (lows c.args.ids.now) (omega (arith, c.requires.some)) (fits c) in
    let long = runs_len (boundaries (lows c.args.ids.now)) in
    omega (arith, c.count_in_ids-bounds.ensures)

pub returns-clause-size : goal.returns-clause-size
returns-clause-size c =
    let ids : List ℕ = c.args.ids.now in
    let no : few (lows ids) ≡ false =
    few_lows ids ∙ c.most_bounds.ensures.few (length (boundaries (lows ids))) ∙ above_leb (length (boundaries (lows ids))) c.most_bounds.result (omega (arith, c.count_in_ids-bounds.ensures, c.if-bounds-most_bounds.false)) in
    c.body_len.ensures.len (lows ids) no (length-map ids (λ id. id % 65536)) (sym c.measure_slices-count.ensures.count) (sym c.measure_slices-count.ensures.size)
