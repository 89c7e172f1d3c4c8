-- One number more.
use Rattle.std.proofs.Common.{◌≡◌, ◌+◌, ◌-◌, ◌/◌, ℕ, List, not, eqb, get_or, length, ap, arith, subst, sym}
use mir.Val.{bool_byte}
use Rattle.bitpack_slices.proofs.lemmas.bits.CountLaws.{rising_to}
use Rattle.bitpack_slices.proofs.lemmas.bodies.BoundLaws.{AreRuns, first_run, next_run, run_room, runs_counted}
use Rattle.bitpack_slices.proofs.lemmas.numbers.HalfLaws.{pairs_len}
use Rattle.bitpack_slices.proofs.lemmas.bytes.DecodeLaws.{rising_top}
use Rattle.bitpack_slices.specs.Slices.{pairs_of}
use Rattle.bitpack_slices.proofs.chunk.bounds.count_in_numbers.Goals as goal

pub loop-index-init : goal.loop-index-init
loop-index-init c =
    let many = pairs_len c.args.body.now in
    record { few = omega arith; runs = first_run (pairs_of c.args.body.now) (omega arith) c.requires.rising }

pub overflow_add-runs : goal.overflow_add-runs
overflow_add-runs c =
    let xs : List ℕ = pairs_of c.args.body.now in
    let many = pairs_len c.args.body.now in
    let up = rising_to 0 65536 xs c.requires.rising c.loop-index.index (omega arith) in
    let top = rising_top 0 65536 (c.loop-index.index + 1) xs c.requires.rising (omega arith) in
    omega (arith, c.number_at-in-loop-index.ensures)

pub overflow_add-runs-in-loop-index : goal.overflow_add-runs-in-loop-index
overflow_add-runs-in-loop-index c =
    let xs : List ℕ = pairs_of c.args.body.now in
    let many = pairs_len c.args.body.now in
    let i : ℕ = c.loop-index.index in
    let up = rising_to 0 65536 xs c.requires.rising i (omega arith) in
    let top = rising_top 0 65536 (i + 1) xs c.requires.rising (omega arith) in
    let room = run_room c.loop-index.runs c.number_at-in-loop-index.result c.number_at.result (omega (arith, c.loop-index.invariant.few, c.number_at-in-loop-index.ensures))
    (omega (arith, up, c.number_at.ensures, c.number_at-in-loop-index.ensures)) in
    omega (arith, room, top, c.number_at.ensures)

pub loop-index-preserved : goal.loop-index-preserved
loop-index-preserved c =
    let xs : List ℕ = pairs_of c.args.body.now in
    let many = pairs_len c.args.body.now in
    let i : ℕ = c.loop-index.index in
    let runs : ℕ = c.loop-index.runs in
    let up = rising_to 0 65536 xs c.requires.rising i (omega arith) in
    let room = run_room runs c.number_at-in-loop-index.result c.number_at.result (omega (arith, c.loop-index.invariant.few, c.number_at-in-loop-index.ensures))
    (omega (arith, up, c.number_at.ensures, c.number_at-in-loop-index.ensures)) in
    let next = next_run runs i xs (omega arith) c.loop-index.invariant.runs in
    record {
      few = omega (arith, room, c.number_at.ensures);
      runs = subst (λ (y : ℕ). AreRuns (runs + bool_byte (not (eqb y (c.number_at-in-loop-index.result + 1)))) (i + 1) xs) (sym c.number_at.ensures)
          (subst (λ (x : ℕ). AreRuns (runs + bool_byte (not (eqb (get_or xs (i + 1) 0) (x + 1)))) (i + 1) xs) (sym c.number_at-in-loop-index.ensures) next);
    }

pub overflow_sub-result : goal.overflow_sub-result
overflow_sub-result c =
    let xs : List ℕ = pairs_of c.args.body.now in
    let many = pairs_len c.args.body.now in
    let all = runs_counted c.loop-index.runs c.loop-index.index xs (omega arith) c.loop-index.invariant.runs in
    let position : c.loop-index.index ≡ length c.args.body.now / 2 - 1 = omega arith in
    let last = ap (λ (k : ℕ). bool_byte (eqb (get_or xs k 0) 65535)) position in
    let e = ap (λ (n : ℕ). bool_byte (eqb n 65535)) c.number_at-2.ensures in
    omega arith

pub returns : goal.returns
returns c =
    let xs : List ℕ = pairs_of c.args.body.now in
    let many = pairs_len c.args.body.now in
    let all = runs_counted c.loop-index.runs c.loop-index.index xs (omega arith) c.loop-index.invariant.runs in
    let position : c.loop-index.index ≡ length c.args.body.now / 2 - 1 = omega arith in
    let last = ap (λ (k : ℕ). bool_byte (eqb (get_or xs k 0) 65535)) position in
    let e = ap (λ (n : ℕ). bool_byte (eqb n 65535)) c.number_at-2.ensures in
    omega arith
