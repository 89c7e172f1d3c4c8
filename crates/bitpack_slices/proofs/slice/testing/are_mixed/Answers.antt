-- After the last slice no byte is left.
use Rattle.std.proofs.Common.{◌≡◌, ℕ, ◌≤◌, List, [], length, drop, ap, sym, subst, arith, eqb-true, eq-eqb, length-drop}
use Rattle.std.proofs.lemmas.List.{drop_all}
use Rattle.bitpack_slices.proofs.slice.testing.are_mixed.Goals as goal
use Rattle.bitpack_slices.specs.Slices.{AreSlices}

ended : (counts bytes : List ℕ) (i offset : ℕ) → length counts ≤ i → offset ≡ length bytes → AreSlices (drop i counts) (drop offset bytes)
ended counts bytes i offset done e =
    subst (λ (l : List ℕ). AreSlices l (drop offset bytes)) (sym (drop_all i counts done)) (drop_all offset bytes (omega arith))

ends : (counts bytes : List ℕ) (i offset : ℕ) → length counts ≤ i → offset ≤ length bytes → AreSlices (drop i counts) (drop offset bytes) → offset ≡ length bytes
ends counts bytes i offset done within are =
    let none : drop offset bytes ≡ [] = subst (λ (l : List ℕ). AreSlices l (drop offset bytes)) (drop_all i counts done) are in
    let size : length (drop offset bytes) ≡ 0 = ap length none in
    omega (arith, length-drop offset bytes)

pub returns : goal.returns
returns c =
    let counts = c.args.counts.now in
    let bytes = c.args.bytes.now in (
      λ e. c.loop-less.invariant.all (ended counts bytes c.loop-less.less-index c.loop-less.offset c.loop-less-test.false (eqb-true c.loop-less.offset (length bytes) e)),
      λ are. eq-eqb c.loop-less.offset (length bytes)
          (ends counts bytes c.loop-less.less-index c.loop-less.offset c.loop-less-test.false c.loop-less.invariant.within (c.loop-less.invariant.some are)),
    )
