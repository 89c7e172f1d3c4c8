-- One byte more is written.
use Rattle.std.proofs.Common.{◌≡◌, ℕ, ◌-◌, length, arith, subst, sym, List}
use Rattle.bitpack_groups.proofs.IntegerLaws.{little_len}
use Rattle.bitpack_groups.proofs.FillLaws.{IsFilled, fill_done, fill_one, fill_start}
use Rattle.bitpack_groups.proofs.IntegerLaws.{le_more, le_none}
use Rattle.bitpack_groups.proofs.integers.write_integer.Goals as goal
use Rattle.bitpack_groups.specs.Packed.{le_bytes}

pub loop-index-init : goal.loop-index-init
loop-index-init c =
    let n : ℕ = length c.args.out.now in
    let e : n ≡ n - 0 = omega arith in
    subst (λ (m : ℕ). IsFilled c.args.out.now 0 (le_bytes m c.args.value) (le_bytes n c.args.value)) e
    (fill_start c.args.out.now (le_bytes n c.args.value) (sym (little_len n c.args.value)))

pub loop-index-preserved : goal.loop-index-preserved
loop-index-preserved c =
    let all : List ℕ = le_bytes (length c.args.out.now) c.args.value in
    fill_one c.loop-index.out c.loop-index.index _ _ all
    (subst (λ (l : List ℕ). IsFilled c.loop-index.out c.loop-index.index l all)
    (le_more (length c.args.out.now) c.loop-index.index c.loop-index.left (omega arith)) c.loop-index.invariant)

pub returns : goal.returns
returns c =
    let all : List ℕ = le_bytes (length c.args.out.now) c.args.value in
    fill_done c.loop-index.out c.loop-index.index all
    (subst (λ (l : List ℕ). IsFilled c.loop-index.out c.loop-index.index l all)
    (le_none (length c.args.out.now) c.loop-index.index c.loop-index.left (omega arith)) c.loop-index.invariant)
