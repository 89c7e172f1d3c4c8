-- One number more, before those that are counted.
use Rattle.std.proofs.Common.{◌≡◌, ◌≢◌, ◌+◌, ◌*◌, ◌/◌, ◌-◌, ◌≤◌, ◌<◌, ℕ, List, arith, drop, get_or, length, subst, sym, inl, inr, ◌∙◌, ap}
use Rattle.std.proofs.lemmas.Bool.Decides.{eqb_tells}
use Rattle.bitpack_slices.specs.Slices.{pairs_of, slice_len}
use Rattle.bitpack_slices.specs.declared.chunk.testing.Run.{Run}
use Rattle.bitpack_slices.proofs.lemmas.numbers.FallLaws.{IsRun, run_done, run_other, run_same, run_start}
use Rattle.bitpack_slices.proofs.lemmas.numbers.HalfLaws.{pairs_len}
use Rattle.bitpack_slices.proofs.lemmas.bodies.CutLaws.{len_few}
use Rattle.bitpack_slices.proofs.chunk.testing.blocks_len_by_slice.Goals as goal

pub loop-left-init : goal.loop-left-init
loop-left-init c =
    let xs : List ℕ = pairs_of c.args.body.now in
    let many = pairs_len c.args.body.now in
    record {
      left = omega arith;
      count = omega arith;
      slices = omega arith;
      size = omega arith;
      run = run_start xs _ _ (omega arith) (ap (λ (n : ℕ). n / 256) c.number_at.ensures);
    }

record IsNext (n i : ℕ) (xs : List ℕ) (run : Run) : Type 0 where
  count : run.count + i ≤ n
  slices : run.slices + i ≤ n
  size : run.size ≤ 32 * run.slices
  run_is : IsRun run.high run.count run.slices run.size (drop i xs)

next : (n i high : ℕ) (xs : List ℕ) (run new : Run) → i < length xs → high ≡ get_or xs i 0 / 256 → run.count + (i + 1) ≤ n → run.slices + (i + 1) ≤ n → run.size ≤ 32 * run.slices
    → IsRun run.high run.count run.slices run.size (drop (i + 1) xs)
    → (run.high ≡ high → new ≡ record run { count = run.count + 1 })
    → (run.high ≢ high → new ≡ record { high = high; count = 1; slices = run.slices + 1; size = run.size + slice_len run.count }) → IsNext n i xs new
next n i high xs run new lt e count slices size is same other = elim (eqb_tells run.high high) [
  | inl (equal, h) ↦
      let here : IsNext n i xs (record run { count = run.count + 1 }) = record { count = omega arith; slices = omega arith; size = size; run_is = run_same run.high run.count run.slices run.size i xs lt (h ∙ e) is } in
      subst (IsNext n i xs) (sym (same h)) here
  | inr (differs, h) ↦
      let few = len_few run.count in
      let here : IsNext n i xs (record { high = high; count = 1; slices = run.slices + 1; size = run.size + slice_len run.count }) =
      record { count = omega arith; slices = omega arith; size = omega arith; run_is = run_other run.high run.count run.slices run.size i high xs lt e h is } in
      subst (IsNext n i xs) (sym (other h)) here
]

pub loop-left-preserved : goal.loop-left-preserved
loop-left-preserved c =
    let xs : List ℕ = pairs_of c.args.body.now in
    let many = pairs_len c.args.body.now in
    let inv = c.loop-left.invariant in
    let i : ℕ = c.loop-left.left - 1 in
    let back : c.loop-left.left ≡ i + 1 = omega arith in
    let run_is : IsRun c.loop-left.run.high c.loop-left.run.count c.loop-left.run.slices c.loop-left.run.size (drop (i + 1) xs) =
    subst (λ (n : ℕ). IsRun c.loop-left.run.high c.loop-left.run.count c.loop-left.run.slices c.loop-left.run.size (drop n xs)) back inv.run in
    let is = next (length c.args.body.now / 2) i _ xs c.loop-left.run c.with_high-run.result (omega arith) (ap (λ (n : ℕ). n / 256) c.number_at-in-loop-left.ensures) (omega arith) (omega arith) inv.size run_is
    c.with_high-run.ensures.same c.with_high-run.ensures.other in
    record { left = omega arith; count = is.count; slices = is.slices; size = is.size; run = is.run_is }

pub returns : goal.returns
returns c =
    let inv = c.loop-left.invariant in
    let none : c.loop-left.left ≡ 0 = omega arith in
    let is : IsRun c.loop-left.run.high c.loop-left.run.count c.loop-left.run.slices c.loop-left.run.size (pairs_of c.args.body.now) =
    subst (λ (n : ℕ). IsRun c.loop-left.run.high c.loop-left.run.count c.loop-left.run.slices c.loop-left.run.size (drop n (pairs_of c.args.body.now))) none inv.run in
    let e = run_done c.loop-left.run.high c.loop-left.run.count c.loop-left.run.slices c.loop-left.run.size (pairs_of c.args.body.now) is in
    omega arith
