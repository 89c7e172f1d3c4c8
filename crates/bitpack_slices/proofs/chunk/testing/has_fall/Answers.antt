-- One number more.
use Rattle.std.proofs.Common.{◌≡◌, ◌<◌, ℕ, List, arith, inl, inr, leb, eqb, not, false, ap, sym, ◌∙◌}
use mir.Val.{bool_byte}
use Rattle.std.proofs.lemmas.Bool.{cases_lt, le-leb, ne_eqb, true≢false}
use Rattle.std.proofs.lemmas.Bool.Decides.{eqb_tells}
use Rattle.bitpack_slices.specs.Slices.{pairs_of}
use Rattle.bitpack_slices.proofs.lemmas.bodies.BoundLaws.{run_few}
use Rattle.bitpack_slices.proofs.lemmas.numbers.FallLaws.{fall_later, fall_none, fall_start}
use Rattle.bitpack_slices.proofs.lemmas.numbers.HalfLaws.{pairs_len}
use Rattle.bitpack_slices.proofs.chunk.testing.has_fall.Goals as goal

above : (x y : ℕ) → bool_byte (leb y x) ≡ 0 → x < y
above x y none = elim (cases_lt x y) [ inl less ↦ less | inr more ↦ (let one = ap bool_byte (le-leb y x more) in absurd (omega arith)) ]

none_counted : (n : ℕ) → not (eqb n 0) ≡ false → n ≡ 0
none_counted n e = elim (eqb_tells n 0) [ inl (same, h) ↦ h | inr (other, h) ↦ absurd (true≢false (sym (ap not (ne_eqb n 0 h)) ∙ e)) ]

pub loop-index-init : goal.loop-index-init
loop-index-init c = record { few = omega arith; none = λ e position. fall_start position (pairs_of c.args.body.now) }

pub overflow_add-falls : goal.overflow_add-falls
overflow_add-falls c =
    let one = run_few (leb c.number_at.result c.number_at-in-loop-index.result) in
    let few = c.loop-index.invariant.few in
    omega arith

pub loop-index-preserved : goal.loop-index-preserved
loop-index-preserved c =
    let xs : List ℕ = pairs_of c.args.body.now in
    let size = pairs_len c.args.body.now in
    let one = run_few (leb c.number_at.result c.number_at-in-loop-index.result) in
    let few = c.loop-index.invariant.few in
    record {
      few = omega arith;
      none = λ e position.
          let up = above c.number_at-in-loop-index.result c.number_at.result (omega arith) in
          fall_later position c.loop-index.index xs (omega arith) (omega arith) (omega (arith, c.number_at.ensures, c.number_at-in-loop-index.ensures)) (c.loop-index.invariant.none (omega arith) position);
    }

pub returns : goal.returns
returns c = λ e position.
    let size = pairs_len c.args.body.now in
    fall_none position c.loop-index.index (pairs_of c.args.body.now) (omega arith) (c.loop-index.invariant.none (none_counted c.loop-index.falls e) position)
