-- One id more.
use Rattle.std.proofs.Common.{◌+◌, ◌-◌, ◌%◌, ℕ, Bool, List, not, drop, eqb, get_or, length, map, take, arith, subst, sym}
use mir.Val.{bool_byte}
use Rattle.std.proofs.lemmas.List.{length-map}
use Rattle.bitpack_slices.proofs.lemmas.bodies.BoundLaws.{AreRuns, are_next, first_run, next_run, run_few}
use Rattle.bitpack_slices.proofs.lemmas.slices.SliceLaws.{rising_room}
use Rattle.bitpack_slices.proofs.chunk.bounds.count_in_ids.Goals as goal

pub loop-index-init : goal.loop-index-init
loop-index-init c =
    let size = length-map c.args.ids.now (λ id. id % 65536) in
    record { few = omega arith; runs = first_run (map (λ id. id % 65536) c.args.ids.now) (omega arith) c.requires.rising }

pub overflow_add-runs : goal.overflow_add-runs
overflow_add-runs c =
    let next = are_next c.loop-index.index c.args.ids.now (omega arith) c.requires.rising c.requires.shared in
    let below = next.below in
    let fits = (c.type_inv.ids c.loop-index.index).fits in
    omega arith

pub overflow_add-runs-in-loop-index : goal.overflow_add-runs-in-loop-index
overflow_add-runs-in-loop-index c =
    let ids : List ℕ = c.args.ids.now in
    let size = length-map ids (λ id. id % 65536) in
    let room = rising_room 0 65536 (map (λ id. id % 65536) ids) c.requires.rising in
    let one = run_few (not (eqb (get_or (take (length ids - 1) (drop 1 ids)) c.loop-index.index 0) (get_or ids c.loop-index.index 0 + 1))) in
    omega arith

pub loop-index-preserved : goal.loop-index-preserved
loop-index-preserved c =
    let ids : List ℕ = c.args.ids.now in
    let xs : List ℕ = map (λ id. id % 65536) ids in
    let size = length-map ids (λ id. id % 65536) in
    let i : ℕ = c.loop-index.index in
    let runs : ℕ = c.loop-index.runs in
    let one = run_few (not (eqb (get_or (take (length ids - 1) (drop 1 ids)) i 0) (get_or ids i 0 + 1))) in
    let same = are_next i ids (omega arith) c.requires.rising c.requires.shared in
    let next = next_run runs i xs (omega arith) c.loop-index.invariant.runs in
    record {
      few = omega arith;
      runs = subst (λ (b : Bool). AreRuns (runs + bool_byte (not b)) (i + 1) xs) (sym same.lows) next;
    }
