-- The next boundary of two chunks is one of the answer, or is not.
use Rattle.std.proofs.Common.{◌≡◌, ◌+◌, ◌*◌, ◌<◌, ◌≤◌, ◌∙◌, ◌⊎◌, ◌++◌, ◌∷◌, [], Bool, true, false, refl, List, ap, arith, eq-eqb, eqb, get_or, inl, inr, length, min, not, subst, sym, take, ℕ}
use mir.Val.{bool_byte}
use Rattle.std.proofs.Math.Bool.{beq}
use Rattle.std.proofs.lemmas.Bool.{cases_lt, true≢false}
use Rattle.std.proofs.lemmas.Bool.Decides.{eqb_tells}
use Rattle.std.proofs.lemmas.List.{length-take-le}
use Rattle.std.proofs.Math.Nat.{le-min, min-eq_left, min-eq_right, min-le_left, min-le_right}
use Rattle.bitpack_slices.proofs.lemmas.bodies.MergeRuns.{Merged, Side, below_all, bound_most, inside, merged_done, merged_more, merged_same, merged_start, none_there, pairs_more, side_between, side_least, side_step}
use Rattle.bitpack_slices.proofs.lemmas.numbers.HalfLaws.{pairs_len}
use Rattle.bitpack_slices.proofs.body.runs.merge_bounds.Goals as goal
use Rattle.bitpack_slices.proofs.body.runs.merge_bounds.Goals.{then-i-a, else-i-a+then-j-b}
use Rattle.bitpack_slices.specs.Bodies.{IsRising}
use Rattle.bitpack_slices.specs.Operations.{apply}
use Rattle.bitpack_slices.specs.Slices.{pairs_of}
use Rattle.bitpack_slices.specs.declared.operation.Operation.{Operation}
use Rattle.bitpack_slices.specs.declared.operation.Operation.TheVariants.{And, AndNot, Or, Xor}

none_given : (operation : Operation) → apply operation false false ≡ false
none_given And = refl
none_given Or = refl
none_given AndNot = refl
none_given Xor = refl

pub loop-i-init : goal.loop-i-init
unfolding pairs_of
loop-i-init c = record {
  first = omega arith;
  second = omega arith;
  size = omega arith;
  few = omega arith;
  merged = (0, merged_start c.args.operation (pairs_of c.args.a.now) (pairs_of c.args.b.now) c.requires.a c.requires.b (none_given c.args.operation));
}

pub returns-clause-rising : goal.returns-clause-rising
returns-clause-rising c =
    let (low, so) = c.loop-i.invariant.merged in
    let size = pairs_len c.args.a.now in
    let size' = pairs_len c.args.b.now in
    (merged_done c.args.operation (pairs_of c.args.a.now) (pairs_of c.args.b.now) _ c.loop-i.i c.loop-i.j _ _ low so c.requires.a c.requires.b (omega (arith, c.if-i-a.false)) (omega (arith, c.if-j-b.false))).0

pub returns-clause-numbers : goal.returns-clause-numbers
returns-clause-numbers c =
    let (low, so) = c.loop-i.invariant.merged in
    let size = pairs_len c.args.a.now in
    let size' = pairs_len c.args.b.now in
    (merged_done c.args.operation (pairs_of c.args.a.now) (pairs_of c.args.b.now) _ c.loop-i.i c.loop-i.j _ _ low so c.requires.a c.requires.b (omega (arith, c.if-i-a.false)) (omega (arith, c.if-j-b.false))).1

-- the next boundary, and where the walk is after it
record Next (operation : Operation) (a b out : List ℕ) (i j x y next : ℕ) (p q : Bool) : Type 0 where
  low : ℕ
  so : Merged operation a b out i j p q low
  from : low ≤ next
  top : next < 65536
  between : (k : ℕ) → low ≤ k → k < next → (inside a k ≡ p) × (inside b k ≡ q)
  left : Side a (i + bool_byte (eqb x next)) (not (beq p (eqb x next))) (next + 1) × (inside a next ≡ not (beq p (eqb x next)))
  right : Side b (j + bool_byte (eqb y next)) (not (beq q (eqb y next))) (next + 1) × (inside b next ≡ not (beq q (eqb y next)))

step : (operation : Operation) (a b out : List ℕ) (i j x y next : ℕ) (p q : Bool) → (low : ℕ) × Merged operation a b out i j p q low → IsRising 0 65536 a → IsRising 0 65536 b
    → x ≡ get_or a i 65536 → y ≡ get_or b j 65536 → next ≡ min x y → (i < length a) ⊎ (j < length b) → Next operation a b out i j x y next p q
step operation a b out i j x y next p q (low, so) r s e f g some =
    let first = min-le_left x y in
    let second = min-le_right x y in
    let least = side_least a i p low so.left in
    let least' = side_least b j q low so.right in
    let least_both : low ≤ min x y = le-min (omega arith) (omega arith) in
    let top : next < 65536 = elim some [
      | inl less ↦ (let below = below_all a i r less in omega arith)
      | inr less ↦ (let below = below_all b j s less in omega arith)
    ] in
    record {
      low = low;
      so = so;
      from = omega arith;
      top = top;
      between = λ k h l. (side_between a i p low next k so.left (λ t. omega arith) (omega arith) h l, side_between b j q low next k so.right (λ t. omega arith) (omega arith) h l);
      left = side_step a i p low next x so.left e (omega arith) (omega arith) top;
      right = side_step b j q low next y so.right f (omega arith) (omega arith) top;
    }

-- an index within stays within
within : (bounds : List ℕ) (i x next : ℕ) → i ≤ length bounds → x ≡ get_or bounds i 65536 → next < 65536 → i + bool_byte (eqb x next) ≤ length bounds
within bounds i x next h e top = elim (eqb_tells x next) [
  | inl (t, same) ↦ (
      let one : i + 1 ≤ length bounds = elim (cases_lt i (length bounds)) [ inl less ↦ omega arith | inr none ↦ (let past = none_there bounds i 65536 none in absurd (omega arith)) ] in
      subst (λ (b : Bool). i + bool_byte b ≤ length bounds) (sym t) one)
  | inr (t, other) ↦ (let plain : i + 0 ≤ length bounds = omega arith in subst (λ (b : Bool). i + bool_byte b ≤ length bounds) (sym t) plain)
]

-- one of the two is next
counted : (x y next : ℕ) → next ≡ min x y → 1 ≤ bool_byte (eqb x next) + bool_byte (eqb y next)
counted x y next e = elim (cases_lt x y) [
  | inl less ↦ (let same : min x y ≡ x = min-eq_left (omega arith) in let one : bool_byte (eqb x next) ≡ 1 = ap bool_byte (eq-eqb x next (omega arith)) in omega arith)
  | inr more ↦ (let same : min x y ≡ y = min-eq_right (omega arith) in let one : bool_byte (eqb y next) ≡ 1 = ap bool_byte (eq-eqb y next (omega arith)) in omega arith)
]

pub overflow_cast-next : goal.overflow_cast-next
overflow_cast-next c =
    let first = min-le_left c.bound_at-x.result c.bound_at-y.result in
    let most = bound_most c.args.a.now c.loop-i.i c.bound_at-x.result c.requires.a c.bound_at-x.ensures in
    omega (arith, c.min-next.ensures)

differ : (a b : Bool) → not (beq a b) ≡ true → a ≡ not b
differ true true e = absurd (true≢false (sym e))
differ true false e = refl
differ false true e = refl
differ false false e = absurd (true≢false (sym e))

alike : (a b : Bool) → not (beq a b) ≡ false → a ≡ b
alike true true e = refl
alike true false e = absurd (true≢false e)
alike false true e = absurd (true≢false e)
alike false false e = refl

pub loop-i-preserved-then-applied-before : goal.loop-i-preserved-then-applied-before
loop-i-preserved-then-applied-before c =
    let a : List ℕ = pairs_of c.args.a.now in
    let b : List ℕ = pairs_of c.args.b.now in
    let i : ℕ = c.loop-i.i in
    let j : ℕ = c.loop-i.j in
    let x : ℕ = c.bound_at-x.result in
    let y : ℕ = c.bound_at-y.result in
    let next : ℕ = c.min-next.result in
    let count : ℕ = c.loop-i.count in
    let long = pairs_len c.args.a.now in
    let long' = pairs_len c.args.b.now in
    let some : (i < length a) ⊎ (j < length b) = elim c.if-i-a.branch [ then-i-a w ↦ inl (omega (arith, w.if-i-a.true)) | else-i-a+then-j-b w ↦ inr (omega (arith, w.if-j-b.true)) ] in
    let st = step c.args.operation a b (pairs_of (take (2 * count) c.loop-i.out)) i j x y next c.loop-i.in_a c.loop-i.in_b c.loop-i.invariant.merged c.requires.a c.requires.b c.bound_at-x.ensures c.bound_at-y.ensures
    c.min-next.ensures some in
    let first = within a i x next (omega (arith, c.loop-i.invariant.first)) c.bound_at-x.ensures st.top in
    let second = within b j y next (omega (arith, c.loop-i.invariant.second)) c.bound_at-y.ensures st.top in
    let more = counted x y next c.min-next.ensures in
    let few = c.loop-i.invariant.few in
    let most = c.requires.few in
    let size = c.loop-i.invariant.size in
    let taken = length-take-le (2 * count) c.loop-i.out (omega (arith, c.loop-i.invariant.first, c.loop-i.invariant.second)) in
    let written : pairs_of (take (2 * (count + 1)) c.write_at.new.out) ≡ pairs_of (take (2 * count) c.loop-i.out) ++ next ∷ [] =
    ap pairs_of c.write_at.ensures.bytes ∙ pairs_more count next (take (2 * count) c.loop-i.out) taken st.top in
    let turned = sym c.applied.ensures ∙ differ c.applied.result c.applied-before.result c.if-applied-before.true ∙ ap not c.applied-before.ensures in
    record {
      first = omega arith;
      second = omega arith;
      size = c.write_at.ensures.len ∙ size;
      few = omega arith;
      merged = (
        next + 1,
        subst (λ (l : List ℕ). Merged c.args.operation a b l (i + bool_byte (eqb x next)) (j + bool_byte (eqb y next)) (not (beq c.loop-i.in_a (eqb x next))) (not (beq c.loop-i.in_b (eqb y next))) (next + 1)) (sym written)
            (merged_more c.args.operation a b (pairs_of (take (2 * count) c.loop-i.out)) i j _ _ c.loop-i.in_a c.loop-i.in_b _ _ st.low next st.so st.from st.top st.between st.left st.right turned),
      );
    }

pub loop-i-preserved : goal.loop-i-preserved
loop-i-preserved c =
    let a : List ℕ = pairs_of c.args.a.now in
    let b : List ℕ = pairs_of c.args.b.now in
    let i : ℕ = c.loop-i.i in
    let j : ℕ = c.loop-i.j in
    let x : ℕ = c.bound_at-x.result in
    let y : ℕ = c.bound_at-y.result in
    let next : ℕ = c.min-next.result in
    let count : ℕ = c.loop-i.count in
    let long = pairs_len c.args.a.now in
    let long' = pairs_len c.args.b.now in
    let some : (i < length a) ⊎ (j < length b) = elim c.if-i-a.branch [ then-i-a w ↦ inl (omega (arith, w.if-i-a.true)) | else-i-a+then-j-b w ↦ inr (omega (arith, w.if-j-b.true)) ] in
    let st = step c.args.operation a b (pairs_of (take (2 * count) c.loop-i.out)) i j x y next c.loop-i.in_a c.loop-i.in_b c.loop-i.invariant.merged c.requires.a c.requires.b c.bound_at-x.ensures c.bound_at-y.ensures
    c.min-next.ensures some in
    let first = within a i x next (omega (arith, c.loop-i.invariant.first)) c.bound_at-x.ensures st.top in
    let second = within b j y next (omega (arith, c.loop-i.invariant.second)) c.bound_at-y.ensures st.top in
    let more = counted x y next c.min-next.ensures in
    let few = c.loop-i.invariant.few in
    let kept = sym c.applied.ensures ∙ alike c.applied.result c.applied-before.result c.if-applied-before.false ∙ c.applied-before.ensures in
    record {
      first = omega arith;
      second = omega arith;
      size = c.loop-i.invariant.size;
      few = omega arith;
      merged = (next + 1, merged_same c.args.operation a b (pairs_of (take (2 * count) c.loop-i.out)) i j _ _ c.loop-i.in_a c.loop-i.in_b _ _ st.low next st.so st.from st.top st.between st.left st.right kept);
    }
