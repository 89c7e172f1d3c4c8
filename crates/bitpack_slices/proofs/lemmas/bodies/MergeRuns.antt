-- Two chunks of runs, boundary by boundary.
use Rattle.std.proofs.Common.{◌≡◌, ℕ, zero, suc, ◌+◌, ◌-◌, ◌*◌, ◌/◌, ◌%◌, ◌<◌, ◌≤◌, Bool, true, false, ◌&&◌, ◌||◌, not, eqb, leb, ltb, List, [], ◌∷◌, ◌++◌, drop, length, refl, sym, ap, ◌∙◌, arith, cond, inl, inr, get_or, subst}
use mir.Val.{bool_byte}
use Rattle.std.specs.List.{range_with_len}
use Rattle.std.proofs.Math.Bool.{beq}
use Rattle.std.proofs.lemmas.Bool.{cases_lt, le-leb, le-ltb, lt-ltb}
use Rattle.std.proofs.lemmas.Bool.Decides.{eqb_tells, leb_tells}
use Rattle.std.proofs.lemmas.List.{append-nil, drop_all, drop_more}
use Rattle.bitpack_slices.proofs.lemmas.bits.RaisedLaws.{rising_append}
use Rattle.bitpack_slices.proofs.lemmas.bodies.LoadLaws.{those_are}
use Rattle.bitpack_slices.proofs.lemmas.bodies.RunLaws.{has_run, runs_rise}
use Rattle.bitpack_slices.proofs.lemmas.bytes.DecodeLaws.{rising_top}
use Rattle.bitpack_slices.proofs.lemmas.numbers.ListLaws.{rising_within}
use Rattle.bitpack_slices.proofs.lemmas.slices.SliceLaws.{rising_room}
use Rattle.bitpack_slices.specs.Bodies.{IsRising, le_bytes}
use Rattle.bitpack_slices.specs.Operations.{apply, combined}
use Rattle.bitpack_slices.specs.Reads.{has}
use Rattle.bitpack_slices.specs.Runs.{run_numbers}
use Rattle.bitpack_slices.specs.Slices.{pairs_of}
use Rattle.bitpack_slices.specs.declared.operation.Operation.{Operation}

-- ---- a number is in a run if an odd number of boundaries are at most it

abbrev pub flip : Bool → Bool → Bool
flip true b = not b
flip false b = b

abbrev pub inside : List ℕ → ℕ → Bool
inside [] x = false
inside (b ∷ bs) x = cond (leb b x) (not (inside bs x)) (inside bs x)

leb_above : (a b : ℕ) → b < a → leb a b ≡ false
leb_above a b h = elim (leb_tells a b) [ inl (e, l) ↦ absurd (omega arith) | inr (e, l) ↦ e ]

pub inside_below : (low high x : ℕ) (bs : List ℕ) → IsRising low high bs → x < low → inside bs x ≡ false
inside_below low high x [] r h = refl
inside_below low high x (b ∷ bs) (a, r) h = ap (λ (t : Bool). cond t (not (inside bs x)) (inside bs x)) (leb_above b x (omega arith)) ∙ inside_below (b + 1) high x bs r (omega arith)

pub has_inside : (low x : ℕ) (bs : List ℕ) → IsRising low 65536 bs → x < 65536 → has x (run_numbers bs) ≡ inside bs x
unfolding run_numbers
has_inside low x [] r top = refl
has_inside low x (begin ∷ []) (a, r) top =
    ap (has x) (sym (append-nil (range_with_len begin (65536 - begin)))) ∙ has_run x begin 65536 [] (omega arith)
    ∙ elim (cases_lt x begin) [
      | inl below ↦ ap (λ (t : Bool). (t && ltb x 65536) || false) (leb_above begin x below) ∙ sym (ap (λ (t : Bool). cond t true false) (leb_above begin x below))
      | inr from ↦
          ap (λ (t : Bool). (t && ltb x 65536) || false) (le-leb begin x from) ∙ ap (λ (t : Bool). t || false) (lt-ltb x 65536 top)
          ∙ sym (ap (λ (t : Bool). cond t true false) (le-leb begin x from))
    ]
has_inside low x (begin ∷ end ∷ bounds) (a, (b, r)) top =
    let rest : Bool = inside bounds x in
    has_run x begin end (run_numbers bounds) (omega arith) ∙ ap (λ (t : Bool). (leb begin x && ltb x end) || t) (has_inside (end + 1) x bounds r top)
    ∙ elim (cases_lt x begin) [
      | inl below ↦
          ap (λ (t : Bool). (t && ltb x end) || rest) (leb_above begin x below)
          ∙ sym (ap (λ (t : Bool). cond t (not (cond (leb end x) (not rest) rest)) (cond (leb end x) (not rest) rest)) (leb_above begin x below)
          ∙ ap (λ (t : Bool). cond t (not rest) rest) (leb_above end x (omega arith)))
      | inr from ↦ elim (cases_lt x end) [
        | inl within ↦
            ap (λ (t : Bool). (t && ltb x end) || rest) (le-leb begin x from) ∙ ap (λ (t : Bool). t || rest) (lt-ltb x end within)
            ∙ sym (ap (λ (t : Bool). cond t (not (cond (leb end x) (not rest) rest)) (cond (leb end x) (not rest) rest)) (le-leb begin x from)
            ∙ ap (λ (t : Bool). not (cond t (not rest) rest)) (leb_above end x within) ∙ ap not (inside_below (end + 1) 65536 x bounds r (omega arith)))
        | inr past ↦
            ap (λ (t : Bool). (t && ltb x end) || rest) (le-leb begin x from) ∙ ap (λ (t : Bool). t || rest) (le-ltb x end past)
            ∙ sym (ap (λ (t : Bool). cond t (not (cond (leb end x) (not rest) rest)) (cond (leb end x) (not rest) rest)) (le-leb begin x from)
            ∙ ap (λ (t : Bool). not (cond t (not rest) rest)) (le-leb end x past) ∙ twice rest)
      ]
    ]
  where
    twice : (t : Bool) → not (not t) ≡ t
    twice true = refl
    twice false = refl

-- a boundary more
inside_push : (bs : List ℕ) (n y : ℕ) → n ≤ y → inside (bs ++ n ∷ []) y ≡ not (inside bs y)
inside_push [] n y h = ap (λ (t : Bool). cond t true false) (le-leb n y h)
inside_push (b ∷ bs) n y h = ap (λ (t : Bool). cond (leb b y) (not t) t) (inside_push bs n y h) ∙ out (leb b y) (inside bs y)
  where
    out : (t u : Bool) → cond t (not (not u)) (not u) ≡ not (cond t (not u) u)
    out true u = refl
    out false u = refl

inside_kept : (bs : List ℕ) (n y : ℕ) → y < n → inside (bs ++ n ∷ []) y ≡ inside bs y
inside_kept [] n y h = ap (λ (t : Bool). cond t true false) (leb_above n y h)
inside_kept (b ∷ bs) n y h = ap (λ (t : Bool). cond (leb b y) (not t) t) (inside_kept bs n y h)

-- ---- where a walk through the boundaries of a chunk is

-- the boundaries from index i on are not below `low`, and before `low` the chunk has a number if p says so
pub record Side (bounds : List ℕ) (i : ℕ) (p : Bool) (low : ℕ) : Type 0 where
  pub rising : IsRising low 65536 (drop i bounds)
  pub is : (y : ℕ) → low ≤ y → inside bounds y ≡ flip p (inside (drop i bounds) y)

pub side_start : (bounds : List ℕ) → IsRising 0 65536 bounds → Side bounds 0 false 0
side_start bounds r = record { rising = r; is = λ y h. refl }

flip_none : (p : Bool) → flip p false ≡ p
flip_none true = refl
flip_none false = refl

-- what is left begins with its first
pub from_next : (bounds : List ℕ) (i low next : ℕ) → IsRising low 65536 (drop i bounds) → (i < length bounds → next ≤ get_or bounds i 65536) → next ≤ 65536 → IsRising next 65536 (drop i bounds)
from_next bounds i low next r more top = elim (cases_lt i (length bounds)) [
  | inl some ↦ (
      let split = drop_more bounds i 65536 some in
      let (a, later) = subst (IsRising low 65536) split r in
      subst (IsRising next 65536) (sym split) (more some, later))
  | inr none ↦ subst (IsRising next 65536) (sym (drop_all i bounds none)) top
]

-- the next boundary is not above y
pub side_between : (bounds : List ℕ) (i : ℕ) (p : Bool) (low next y : ℕ) → Side bounds i p low → (i < length bounds → next ≤ get_or bounds i 65536) → next ≤ 65536 → low ≤ y → y < next → inside bounds y ≡ p
side_between bounds i p low next y side more top from below =
    side.is y from ∙ ap (flip p) (inside_below next 65536 y (drop i bounds) (from_next bounds i low next side.rising more top) below) ∙ flip_none p

-- the next boundary is one of these, or is not
pub side_hit : (bounds : List ℕ) (i : ℕ) (p : Bool) (low next : ℕ) → Side bounds i p low → i < length bounds → get_or bounds i 65536 ≡ next → low ≤ next
    → Side bounds (i + 1) (not p) (next + 1) × (inside bounds next ≡ not p)
side_hit bounds i p low next side some same from =
    let split = drop_more bounds i 65536 some in
    let (a, later) = subst (IsRising low 65536) split side.rising in
    let rest : IsRising (next + 1) 65536 (drop (i + 1) bounds) = subst (λ (k : ℕ). IsRising (k + 1) 65536 (drop (i + 1) bounds)) same later in
    let passed : (y : ℕ) → next ≤ y → inside bounds y ≡ flip (not p) (inside (drop (i + 1) bounds) y) =
    λ y h. side.is y (omega arith) ∙ ap (λ (l : List ℕ). flip p (inside l y)) split
    ∙ ap (λ (t : Bool). flip p (cond t (not (inside (drop (i + 1) bounds) y)) (inside (drop (i + 1) bounds) y))) (le-leb (get_or bounds i 65536) y (omega arith))
    ∙ turned p (inside (drop (i + 1) bounds) y) in (
      record { rising = rest; is = λ y h. passed y (omega arith) },
      passed next (omega arith) ∙ ap (flip (not p)) (inside_below (next + 1) 65536 next (drop (i + 1) bounds) rest (omega arith)) ∙ flip_none (not p),
    )
  where
    turned : (p t : Bool) → flip p (not t) ≡ flip (not p) t
    turned true true = refl
    turned true false = refl
    turned false true = refl
    turned false false = refl

pub side_miss : (bounds : List ℕ) (i : ℕ) (p : Bool) (low next : ℕ) → Side bounds i p low → (i < length bounds → next + 1 ≤ get_or bounds i 65536) → low ≤ next → next < 65536
    → Side bounds i p (next + 1) × (inside bounds next ≡ p)
side_miss bounds i p low next side more from top = (
  record { rising = from_next bounds i low (next + 1) side.rising more (omega arith); is = λ y h. side.is y (omega arith) },
  side_between bounds i p low (next + 1) next side more (omega arith) from (omega arith),
)

-- ---- the next boundary of two chunks

pub same_there : (xs : List ℕ) (i d e : ℕ) → i < length xs → get_or xs i d ≡ get_or xs i e
same_there [] i d e h = absurd (omega arith)
same_there (x ∷ xs) zero d e h = refl
same_there (x ∷ xs) (suc i) d e h = same_there xs i d e (omega arith)

pub none_there : (xs : List ℕ) (i d : ℕ) → length xs ≤ i → get_or xs i d ≡ d
none_there [] i d h = refl
none_there (x ∷ xs) zero d h = absurd (omega arith)
none_there (x ∷ xs) (suc i) d h = none_there xs i d (omega arith)

pub side_least : (bounds : List ℕ) (i : ℕ) (p : Bool) (low : ℕ) → Side bounds i p low → low ≤ get_or bounds i 65536
side_least bounds i p low side = elim (cases_lt i (length bounds)) [
  | inl some ↦ (let (a, later) = subst (IsRising low 65536) (drop_more bounds i 65536 some) side.rising in a)
  | inr none ↦ (let room = rising_room low 65536 (drop i bounds) side.rising in let same = none_there bounds i 65536 none in omega arith)
]

pub below_all : (bounds : List ℕ) (i : ℕ) → IsRising 0 65536 bounds → i < length bounds → get_or bounds i 65536 < 65536
below_all bounds i r h = let top = rising_top 0 65536 i bounds r h in let same = same_there bounds i 65536 0 h in omega arith

pub bound_most : (bytes : List ℕ) (i x : ℕ) → IsRising 0 65536 (pairs_of bytes) → x ≡ get_or (pairs_of bytes) i 65536 → x ≤ 65536
bound_most bytes i x r e = elim (cases_lt i (length (pairs_of bytes))) [
  | inl some ↦ (let below = below_all (pairs_of bytes) i r some in omega arith)
  | inr none ↦ (let past = none_there (pairs_of bytes) i 65536 none in omega arith)
]

-- a chunk has the next boundary, or has it not
pub side_step : (bounds : List ℕ) (i : ℕ) (p : Bool) (low next x : ℕ) → Side bounds i p low → x ≡ get_or bounds i 65536 → next ≤ x → low ≤ next → next < 65536
    → Side bounds (i + bool_byte (eqb x next)) (not (beq p (eqb x next))) (next + 1) × (inside bounds next ≡ not (beq p (eqb x next)))
side_step bounds i p low next x side at most from top = elim (eqb_tells x next) [
  | inl (e, same) ↦ (
      let some : i < length bounds = elim (cases_lt i (length bounds)) [ inl less ↦ less | inr none ↦ (let past = none_there bounds i 65536 none in absurd (omega arith)) ] in
      let here = side_hit bounds i p low next side some (omega arith) from in
      subst (λ (h : Bool). Side bounds (i + bool_byte h) (not (beq p h)) (next + 1) × (inside bounds next ≡ not (beq p h))) (sym e)
      (subst (λ (q : Bool). Side bounds (i + 1) q (next + 1) × (inside bounds next ≡ q)) (by_true p) here))
  | inr (e, other) ↦ (
      let here = side_miss bounds i p low next side (λ h. above next x (get_or bounds i 65536) most at (λ f. other (sym f))) from top in
      let plain : i ≡ i + 0 = omega arith in
      subst (λ (h : Bool). Side bounds (i + bool_byte h) (not (beq p h)) (next + 1) × (inside bounds next ≡ not (beq p h))) (sym e)
      (subst (λ (q : Bool). Side bounds (i + 0) q (next + 1) × (inside bounds next ≡ q)) (by_false p)
      (subst (λ (k : ℕ). Side bounds k p (next + 1) × (inside bounds next ≡ p)) plain here)))
]
  where
    by_true : (p : Bool) → not p ≡ not (beq p true)
    by_true true = refl
    by_true false = refl

    by_false : (p : Bool) → p ≡ not (beq p false)
    by_false true = refl
    by_false false = refl

    above : (next x y : ℕ) → next ≤ x → x ≡ y → (next ≡ x → ⊥) → next + 1 ≤ y
    above next x y h e ne = elim (cases_lt next x) [ inl less ↦ omega arith | inr more ↦ absurd (ne (omega arith)) ]

-- ---- where a walk through two chunks is

-- the boundaries so far are those of the answer below `low`
pub record Merged (operation : Operation) (a b out : List ℕ) (i j : ℕ) (p q : Bool) (low : ℕ) : Type 0 where
  pub left : Side a i p low
  pub right : Side b j q low
  pub rising : IsRising 0 low out
  pub before : (y : ℕ) → y < low → inside out y ≡ apply operation (inside a y) (inside b y)
  pub after : (y : ℕ) → low ≤ y → inside out y ≡ apply operation p q

both : (operation : Operation) (p p' q q' : Bool) → p ≡ p' → q ≡ q' → apply operation p q ≡ apply operation p' q'
both operation p p' q q' e f = ap (λ (t : Bool). apply operation t q) e ∙ ap (apply operation p') f

-- the boundary that follows
pub merged_more : (operation : Operation) (a b out : List ℕ) (i j i' j' : ℕ) (p q p' q' : Bool) (low next : ℕ) → Merged operation a b out i j p q low → low ≤ next → next < 65536
    → ((y : ℕ) → low ≤ y → y < next → (inside a y ≡ p) × (inside b y ≡ q)) → Side a i' p' (next + 1) × (inside a next ≡ p') → Side b j' q' (next + 1) × (inside b next ≡ q')
    → apply operation p' q' ≡ not (apply operation p q) → Merged operation a b (out ++ next ∷ []) i' j' p' q' (next + 1)
merged_more operation a b out i j i' j' p q p' q' low next so from top between (left, own) (right, other) turned = record {
  left = left;
  right = right;
  rising = rising_append 0 next (next + 1) out (next ∷ []) (rising_within 0 low 0 next out (omega arith) from so.rising) (omega arith, omega arith);
  before = λ y h. elim (cases_lt y next) [
    | inl less ↦ inside_kept out next y less ∙ elim (cases_lt y low) [
      | inl below ↦ so.before y below
      | inr above ↦ so.after y above ∙ both operation p (inside a y) q (inside b y) (sym (between y above less).0) (sym (between y above less).1)
    ]
    | inr same ↦ (
        let at : y ≡ next = omega arith in
        inside_push out next y same ∙ ap not (so.after y (omega arith)) ∙ sym turned
        ∙ both operation p' (inside a y) q' (inside b y) (sym (ap (inside a) at ∙ own)) (sym (ap (inside b) at ∙ other)))
  ];
  after = λ y h. inside_push out next y (omega arith) ∙ ap not (so.after y (omega arith)) ∙ sym turned;
}

-- a boundary of one that the answer does not have
pub merged_same : (operation : Operation) (a b out : List ℕ) (i j i' j' : ℕ) (p q p' q' : Bool) (low next : ℕ) → Merged operation a b out i j p q low → low ≤ next → next < 65536
    → ((y : ℕ) → low ≤ y → y < next → (inside a y ≡ p) × (inside b y ≡ q)) → Side a i' p' (next + 1) × (inside a next ≡ p') → Side b j' q' (next + 1) × (inside b next ≡ q')
    → apply operation p' q' ≡ apply operation p q → Merged operation a b out i' j' p' q' (next + 1)
merged_same operation a b out i j i' j' p q p' q' low next so from top between (left, own) (right, other) kept = record {
  left = left;
  right = right;
  rising = rising_within 0 low 0 (next + 1) out (omega arith) (omega arith) so.rising;
  before = λ y h. elim (cases_lt y low) [
    | inl below ↦ so.before y below
    | inr above ↦ so.after y above ∙ elim (cases_lt y next) [
      | inl less ↦ both operation p (inside a y) q (inside b y) (sym (between y above less).0) (sym (between y above less).1)
      | inr same ↦ (
          let at : y ≡ next = omega arith in
          sym kept ∙ both operation p' (inside a y) q' (inside b y) (sym (ap (inside a) at ∙ own)) (sym (ap (inside b) at ∙ other)))
    ]
  ];
  after = λ y h. so.after y (omega arith) ∙ sym kept;
}

pub merged_start : (operation : Operation) (a b : List ℕ) → IsRising 0 65536 a → IsRising 0 65536 b → apply operation false false ≡ false → Merged operation a b [] 0 0 false false 0
merged_start operation a b r s none = record {
  left = side_start a r;
  right = side_start b s;
  rising = omega arith;
  before = λ y h. absurd (omega arith);
  after = λ y h. sym none;
}

-- all boundaries are passed
pub merged_done : (operation : Operation) (a b out : List ℕ) (i j : ℕ) (p q : Bool) (low : ℕ) → Merged operation a b out i j p q low → IsRising 0 65536 a → IsRising 0 65536 b
    → length a ≤ i → length b ≤ j → IsRising 0 65536 out × (run_numbers out ≡ combined 65536 operation (run_numbers a) (run_numbers b))
merged_done operation a b out i j p q low so r s done done' =
    let room = rising_room low 65536 (drop i a) so.left.rising in
    let rising : IsRising 0 65536 out = rising_within 0 low 0 65536 out (omega arith) (omega arith) so.rising in
    let all : (y : ℕ) → y < 65536 → inside out y ≡ apply operation (inside a y) (inside b y) =
    λ y top. elim (cases_lt y low) [
      | inl below ↦ so.before y below
      | inr above ↦ so.after y above
          ∙ both operation p (inside a y) q (inside b y) (sym (side_between a i p low 65536 y so.left (λ h. absurd (omega arith)) (omega arith) above top)) (sym (side_between b j q low 65536 y so.right (λ h. absurd (omega arith)) (omega arith) above top))
    ] in (
      rising,
      sym (those_are (λ x. apply operation (has x (run_numbers a)) (has x (run_numbers b))) 65536 (run_numbers out) (runs_rise 0 out rising)
          (λ y top. both operation (has y (run_numbers a)) (inside a y) (has y (run_numbers b)) (inside b y) (has_inside 0 y a r top) (has_inside 0 y b s top)
          ∙ sym (all y top) ∙ sym (has_inside 0 y out rising top))),
    )

-- ---- as bytes

pub pairs_more : (k next : ℕ) (bytes : List ℕ) → length bytes ≡ 2 * k → next < 65536 → pairs_of (bytes ++ le_bytes 2 next) ≡ pairs_of bytes ++ next ∷ []
unfolding pairs_of le_bytes
pairs_more k next [] e top = let same : next % 256 + 256 * (next / 256 % 256) ≡ next = omega arith in ap (λ (n : ℕ). n ∷ []) same
pairs_more k next (a ∷ []) e top = absurd (omega arith)
pairs_more zero next (a ∷ b ∷ bytes) e top = absurd (omega arith)
pairs_more (suc k) next (a ∷ b ∷ bytes) e top = ap (λ (l : List ℕ). (a + 256 * b) ∷ l) (pairs_more k next bytes (omega arith) top)
