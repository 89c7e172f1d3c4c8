-- The middle tells whether more ids follow each other.
use Rattle.std.proofs.Common.{◌≡◌, ◌+◌, ◌-◌, ◌/◌, ◌^◌, ◌&&◌, ℕ, Bool, ap, arith, sym, inl, inr, ◌∙◌}
use Rattle.bitpack_slices.specs.Reads.{has, rank}
use Rattle.bitpack_sets.specs.Opened.{ids}
use Rattle.bitpack_wide.specs.WideColumnFaults.{each_below, is_front}
use Rattle.bitpack_wide.proofs.WideMissing.{decided, front_rank, true_front}
use Rattle.bitpack_wide.proofs.WideSame.{set_rises}
use Rattle.bitpack_wide.proofs.WideSteps.{each_next, each_start}
use Rattle.bitpack_wide.proofs.wide_column.filling.count_front.Goals as goal

pub loop-left-init : goal.loop-left-init
loop-left-init c = record { within = omega arith; front = each_start _; after = λ lt. absurd (omega (arith, lt)) }

pub loop-left-preserved-then-count_between-front : goal.loop-left-preserved-then-count_between-front
loop-left-preserved-then-count_between-front c =
    let it = c.loop-left.invariant in
    let set = c.args.missing.now in
    let front : ℕ = c.loop-left.front in
    let left : ℕ = c.loop-left.left in
    let half : ℕ = (left + 1) / 2 in
    let apart : c.args.begin + front + half ≡ c.args.begin + (front + half) = omega arith in
    let same : front + half + (left - half) ≡ front + left = omega (arith, c.loop-left-test.true) in
    record {
      within = omega (arith, it.within, same);
      front =
          true_front c.args.begin 0 (2 ^ 32) (ids set) (set_rises set) (front + half)
          (omega (arith, c.count_between.ensures.count, c.if-count_between-front.true, ap (λ (p : ℕ). rank p (ids set)) apart));
      after = λ lt. ap (λ (n : ℕ). is_front (λ k. has (c.args.begin + k) (ids set)) (n + 1)) same ∙ it.after (omega (arith, lt, same));
    }

pub loop-left-preserved : goal.loop-left-preserved
loop-left-preserved c =
    let it = c.loop-left.invariant in
    let set = c.args.missing.now in
    let front : ℕ = c.loop-left.front in
    let left : ℕ = c.loop-left.left in
    let half : ℕ = (left + 1) / 2 in
    let apart : c.args.begin + front + half ≡ c.args.begin + (front + half) = omega arith in
    let same : front + (half - 1) + 1 ≡ front + half = omega (arith, c.loop-left-test.true) in
    record {
      within = omega (arith, it.within, same);
      front = it.front;
      after = λ lt. ap (is_front (λ k. has (c.args.begin + k) (ids set))) same ∙ elim (decided (is_front (λ k. has (c.args.begin + k) (ids set)) (front + half))) [
        | inr fails ↦ fails
        | inl all ↦ absurd (omega (
          arith,
          front_rank c.args.begin 0 (2 ^ 32) (ids set) (set_rises set) (front + half) all,
          c.count_between.ensures.count,
          ap (λ (p : ℕ). rank p (ids set)) apart,
          c.if-count_between-front.false,
        ))
      ];
    }

pub returns-clause-next : goal.returns-clause-next
returns-clause-next c = λ lt.
    let it = c.loop-left.invariant in
    let front : ℕ = c.loop-left.front in
    let missing : ℕ → Bool = λ k. has (c.args.begin + k) (ids c.args.missing.now) in
    let here : front + 1 ≡ front + c.loop-left.left + 1 = omega (arith, c.loop-left-test.false) in
    sym (ap (λ (b : Bool). b && missing front) it.front) ∙ sym (each_next missing front) ∙ ap (each_below missing) here
    ∙ it.after (omega (arith, lt, c.loop-left-test.false))
