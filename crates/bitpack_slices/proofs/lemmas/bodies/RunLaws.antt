-- Runs: what each adds to the numbers.
use Rattle.std.proofs.Common.{◌≡◌, ℕ, zero, suc, ◌+◌, ◌*◌, ◌/◌, ◌-◌, ◌<◌, ◌≤◌, Bool, true, false, ◌&&◌, ◌||◌, eqb, leb, ltb, List, [], ◌∷◌, ◌++◌, None, Option, Some, map, take, drop, length, append-nil, min, refl, sym, ap, ◌∙◌, arith, cond, inl, inr, get_or, subst, eq-eqb, length-append, length-drop}
use Rattle.std.specs.List.{list_any, range_with_len}
use Rattle.std.proofs.lemmas.Bool.{cases_lt, le-leb, le-ltb, lt-ltb, ne_eqb}
use Rattle.std.proofs.lemmas.Bool.Decides.{leb_tells}
use Rattle.std.proofs.lemmas.List.{drop_all, drop_more, drop-append-le, drop-drop, drop-map, get_or-drop, get_or_append_left, take-append-le, take-map}
use Rattle.std.proofs.lemmas.List.FromFn.{get_or-range_with_len, length-range_with_len}
use Rattle.std.proofs.Math.Seq.{drop-append-add}
use Rattle.std.proofs.lemmas.List.Folds.{list_any-append}
use Rattle.std.proofs.Math.Bool.{or-true}
use Rattle.std.proofs.Math.Nat.{min-eq_left, min-eq_right}
use Rattle.bitpack_slices.proofs.lemmas.slices.SliceLaws.{rising_room}
use Rattle.bitpack_slices.proofs.lemmas.bits.OnesLaws.{rising_lower}
use Rattle.bitpack_slices.proofs.lemmas.bits.RaisedLaws.{rising_append}
use Rattle.bitpack_slices.proofs.lemmas.bodies.ReadLaws.{has_append, rank_all, rank_below}
use Rattle.bitpack_slices.proofs.lemmas.bytes.ArrayLaws.{rises_from}
use Rattle.bitpack_slices.proofs.lemmas.bytes.Bytes.{EachByte}
use Rattle.bitpack_slices.proofs.lemmas.bytes.PairLaws.{pairs_below}
use Rattle.bitpack_slices.proofs.lemmas.bytes.DecodeLaws.{rising_top}
use Rattle.bitpack_slices.proofs.lemmas.numbers.HalfLaws.{pairs_len}
use Rattle.bitpack_slices.proofs.lemmas.numbers.JoinReads.{rank_append}
use Rattle.bitpack_slices.proofs.lemmas.numbers.QueryIds.{rising_lt}
use Rattle.bitpack_slices.specs.Bitmaps.{has_high}
use Rattle.bitpack_slices.specs.Bodies.{IsRising}
use Rattle.bitpack_slices.specs.Reads.{has, rank}
use Rattle.bitpack_slices.specs.Runs.{run_numbers, runs_from}
use Rattle.bitpack_slices.specs.Slices.{first_fall, pairs_of}

-- ---- the first of the runs that are left

leb_false : (a b : ℕ) → b < a → leb a b ≡ false
leb_false a b h = elim (leb_tells a b) [ inl (e, l) ↦ absurd (omega arith) | inr (e, l) ↦ e ]

-- no run is left
pub runs_done : (i : ℕ) (bs : List ℕ) → length bs ≤ i → run_numbers (drop i bs) ≡ []
unfolding run_numbers
runs_done i bs h = ap run_numbers (drop_all i bs h)

first_two : (k : ℕ) (bs : List ℕ) → k + 1 < length bs → drop k bs ≡ get_or bs k 0 ∷ get_or bs (k + 1) 0 ∷ drop (k + 2) bs
first_two k bs h =
    let next : k + 1 + 1 ≡ k + 2 = omega arith in
    drop_more bs k 0 (omega arith) ∙ ap (λ (l : List ℕ). get_or bs k 0 ∷ l) (drop_more bs (k + 1) 0 h ∙ ap (λ (m : ℕ). get_or bs (k + 1) 0 ∷ drop m bs) next)

-- a run with an end
pub run_ended : (i begin end : ℕ) (bs : List ℕ) → 2 * i + 1 < length bs → begin ≡ get_or bs (2 * i) 0 → end ≡ get_or bs (2 * i + 1) 0
    → run_numbers (drop (2 * i) bs) ≡ range_with_len begin (end - begin) ++ run_numbers (drop (2 * (i + 1)) bs)
unfolding run_numbers
run_ended i begin end bs h b e =
    let next : 2 * i + 2 ≡ 2 * (i + 1) = omega arith in
    ap run_numbers (first_two (2 * i) bs h)
    ∙ ap (λ (k : ℕ). range_with_len k (get_or bs (2 * i + 1) 0 - k) ++ run_numbers (drop (2 * i + 2) bs)) (sym b)
    ∙ ap (λ (k : ℕ). range_with_len begin (k - begin) ++ run_numbers (drop (2 * i + 2) bs)) (sym e)
    ∙ ap (λ (k : ℕ). range_with_len begin (end - begin) ++ run_numbers (drop k bs)) next

-- a run with none
pub run_open : (i begin : ℕ) (bs : List ℕ) → 2 * i < length bs → length bs ≤ 2 * i + 1 → begin ≡ get_or bs (2 * i) 0
    → run_numbers (drop (2 * i) bs) ≡ range_with_len begin (65536 - begin) ++ run_numbers (drop (2 * (i + 1)) bs)
unfolding run_numbers
run_open i begin bs h last b =
    ap run_numbers (drop_more bs (2 * i) 0 h ∙ ap (λ (l : List ℕ). get_or bs (2 * i) 0 ∷ l) (drop_all (2 * i + 1) bs last))
    ∙ ap (λ (k : ℕ). range_with_len k (65536 - k)) (sym b)
    ∙ sym (append-nil (range_with_len begin (65536 - begin)))
    ∙ ap (λ (l : List ℕ). range_with_len begin (65536 - begin) ++ l) (sym (runs_done (2 * (i + 1)) bs (omega arith)))

-- ---- what a run has

any_none : (p : ℕ → Bool) (a n : ℕ) → ((x : ℕ) → a ≤ x → x < a + n → p x ≡ false) → list_any p (range_with_len a n) ≡ false
any_none p a zero h = refl
any_none p a (suc n) h = ap (λ (b : Bool). b || list_any p (range_with_len (a + 1) n)) (h a (omega arith) (omega arith)) ∙ any_none p (a + 1) n (λ x l m. h x (omega arith) (omega arith))

any_some : (p : ℕ → Bool) (x a n : ℕ) → a ≤ x → x < a + n → p x ≡ true → list_any p (range_with_len a n) ≡ true
any_some p x a zero l m e = absurd (omega arith)
any_some p x a (suc n) l m e = elim (cases_lt a x) [
  | inl less ↦ ap (λ (b : Bool). p a || b) (any_some p x (a + 1) n (omega arith) (omega arith) e) ∙ or-true (p a)
  | inr more ↦ (let same : a ≡ x = omega arith in ap (λ (b : Bool). b || list_any p (range_with_len (a + 1) n)) (ap p same ∙ e))
]

pub has_run : (x begin end : ℕ) (rest : List ℕ) → begin < end → has x (range_with_len begin (end - begin) ++ rest) ≡ ((leb begin x && ltb x end) || has x rest)
has_run x begin end rest h = has_append x (range_with_len begin (end - begin)) rest ∙ ap (λ (b : Bool). b || has x rest) (elim (cases_lt x begin) [
  | inl below ↦ any_none (λ y. eqb y x) begin (end - begin) (λ y l m. ne_eqb y x (λ e. omega arith)) ∙ sym (ap (λ (b : Bool). b && ltb x end) (leb_false begin x below))
  | inr from ↦ elim (cases_lt x end) [
    | inl within ↦
        any_some (λ y. eqb y x) x begin (end - begin) (omega arith) (omega arith) (eq-eqb x x refl)
        ∙ sym (ap (λ (b : Bool). b && ltb x end) (le-leb begin x from) ∙ lt-ltb x end within)
    | inr past ↦
        any_none (λ y. eqb y x) begin (end - begin) (λ y l m. ne_eqb y x (λ e. omega arith))
        ∙ sym (ap (λ (b : Bool). b && ltb x end) (le-leb begin x from) ∙ le-ltb x end past)
  ]
])

-- whether one of a run has a high byte
pub high_run : (h begin end : ℕ) (rest : List ℕ) → begin < end
    → has_high h (range_with_len begin (end - begin) ++ rest) ≡ ((leb (begin / 256) h && ltb h ((end - 1) / 256 + 1)) || has_high h rest)
high_run h begin end rest some = list_any-append (λ x. eqb (x / 256) h) (range_with_len begin (end - begin)) rest ∙ ap (λ (b : Bool). b || has_high h rest) (elim (cases_lt h (begin / 256)) [
  | inl below ↦
      any_none (λ x. eqb (x / 256) h) begin (end - begin) (λ x l m. ne_eqb (x / 256) h (λ e. omega arith))
      ∙ sym (ap (λ (b : Bool). b && ltb h ((end - 1) / 256 + 1)) (leb_false (begin / 256) h below))
  | inr from ↦ elim (cases_lt h ((end - 1) / 256 + 1)) [
    | inl within ↦
        (elim (cases_lt (256 * h) begin) [
          | inl less ↦ any_some (λ x. eqb (x / 256) h) begin begin (end - begin) (omega arith) (omega arith) (eq-eqb (begin / 256) h (omega arith))
          | inr more ↦ any_some (λ x. eqb (x / 256) h) (256 * h) begin (end - begin) (omega arith) (omega arith) (eq-eqb (256 * h / 256) h (omega arith))
        ])
        ∙ sym (ap (λ (b : Bool). b && ltb h ((end - 1) / 256 + 1)) (le-leb (begin / 256) h from) ∙ lt-ltb h ((end - 1) / 256 + 1) within)
    | inr past ↦
        any_none (λ x. eqb (x / 256) h) begin (end - begin) (λ x l m. ne_eqb (x / 256) h (λ e. omega arith))
        ∙ sym (ap (λ (b : Bool). b && ltb h ((end - 1) / 256 + 1)) (le-leb (begin / 256) h from) ∙ le-ltb h ((end - 1) / 256 + 1) past)
  ]
])

-- how many of a run are below a number
rank_many : (x low n : ℕ) → low + n ≤ x → rank x (range_with_len low n) ≡ n
rank_many x low zero h = refl
rank_many x low (suc n) h =
    let first : ◌≡◌ {A = ℕ} (cond (ltb low x) 1 0) 1 = ap (λ (b : Bool). cond b 1 0) (lt-ltb low x (omega arith)) in
    let rest = rank_many x (low + 1) n (omega arith) in
    omega arith

rank_few : (x low n : ℕ) → x ≤ low → rank x (range_with_len low n) ≡ 0
rank_few x low zero h = refl
rank_few x low (suc n) h =
    let first : ◌≡◌ {A = ℕ} (cond (ltb low x) 1 0) 0 = ap (λ (b : Bool). cond b 1 0) (le-ltb low x h) in
    let rest = rank_few x (low + 1) n (omega arith) in
    omega arith

pub rank_run : (x begin end : ℕ) (rest : List ℕ) → begin < end
    → rank x (range_with_len begin (end - begin) ++ rest) ≡ (min end x - min begin x) + rank x rest
rank_run x begin end rest h =
    let split = rank_append x (range_with_len begin (end - begin)) rest in
    elim (cases_lt x begin) [
      | inl below ↦ (
          let none = rank_few x begin (end - begin) (omega arith) in
          let a : min end x ≡ x = min-eq_right (omega arith) in
          let b : min begin x ≡ x = min-eq_right (omega arith) in
          omega arith)
      | inr from ↦ elim (cases_lt x end) [
        | inl within ↦ (
            let some = rank_all x begin (end - begin) (omega arith) (omega arith) in
            let a : min end x ≡ x = min-eq_right (omega arith) in
            let b : min begin x ≡ begin = min-eq_left (omega arith) in
            omega arith)
        | inr past ↦ (
            let all = rank_many x begin (end - begin) (omega arith) in
            let a : min end x ≡ end = min-eq_left (omega arith) in
            let b : min begin x ≡ begin = min-eq_left (omega arith) in
            omega arith)
      ]
    ]

-- at most all numbers below it are
rank_within : (x low high : ℕ) (xs : List ℕ) → IsRising low high xs → low ≤ x → low + rank x xs ≤ x
rank_within x low high [] r h = omega arith
rank_within x low high (y ∷ ys) (a, r) h = elim (cases_lt y x) [
  | inl less ↦ (
      let one : ◌≡◌ {A = ℕ} (cond (ltb y x) 1 0) 1 = ap (λ (b : Bool). cond b 1 0) (lt-ltb y x less) in
      let rest = rank_within x (y + 1) high ys r (omega arith) in
      omega arith)
  | inr more ↦ (
      let none : ◌≡◌ {A = ℕ} (cond (ltb y x) 1 0) 0 = ap (λ (b : Bool). cond b 1 0) (le-ltb y x more) in
      let rest = rank_below x (y + 1) high ys r (omega arith) in
      omega arith)
]

-- ---- the numbers increase

pub none_left : (o : Option ℕ) → ((x : ℕ) → o ≡ Some x → ⊥) → o ≡ None
none_left None h = refl
none_left (Some x) h = absurd (h x refl)

-- boundaries of which none falls
pub pairs_rise : (position : ℕ) (bytes : List ℕ) → EachByte bytes → first_fall position (pairs_of bytes) ≡ None → IsRising 0 65536 (pairs_of bytes)
pairs_rise position bytes are h = rises_from position 65536 (pairs_of bytes) (pairs_below bytes are) h

pub range_rise : (a n : ℕ) → IsRising a (a + n) (range_with_len a n)
range_rise a zero = omega arith
range_rise a (suc n) = let same : a + 1 + n ≡ a + suc n = omega arith in (omega arith, subst (λ (high : ℕ). IsRising (a + 1) high (range_with_len (a + 1) n)) same (range_rise (a + 1) n))

run_rise : (low begin end : ℕ) → low ≤ begin → begin ≤ end → IsRising low end (range_with_len begin (end - begin))
run_rise low begin end h m =
    let same : begin + (end - begin) ≡ end = omega arith in
    rising_lower begin low end (range_with_len begin (end - begin)) h (subst (λ (high : ℕ). IsRising begin high (range_with_len begin (end - begin))) same (range_rise begin (end - begin)))

pub runs_rise : (low : ℕ) (bs : List ℕ) → IsRising low 65536 bs → IsRising low 65536 (run_numbers bs)
unfolding run_numbers
runs_rise low [] r = r
runs_rise low (begin ∷ []) (a, r) = run_rise low begin 65536 a (omega arith)
runs_rise low (begin ∷ end ∷ bounds) (a, (b, r)) =
    rising_append low end 65536 (range_with_len begin (end - begin)) (run_numbers bounds) (run_rise low begin end a (omega arith))
    (runs_rise end bounds (rising_lower (end + 1) end 65536 bounds (omega arith) r))

pub runs_most : (bytes : List ℕ) → IsRising 0 65536 (pairs_of bytes) → length (runs_from 0 bytes) ≤ 65536
runs_most bytes r = let few = rising_room 0 65536 (run_numbers (pairs_of bytes)) (runs_rise 0 (pairs_of bytes) r) in omega arith

-- few are below a number
pub runs_few : (x : ℕ) (bytes : List ℕ) → IsRising 0 65536 (pairs_of bytes) → rank x (runs_from 0 bytes) ≤ x
runs_few x bytes r = let few = rank_within x 0 65536 (run_numbers (pairs_of bytes)) (runs_rise 0 (pairs_of bytes) r) (omega arith) in omega arith

-- ---- bits

pub or_moved : (a b c : Bool) → (a || (b || c)) ≡ ((b || a) || c)
or_moved true true c = refl
or_moved true false c = refl
or_moved false true c = refl
or_moved false false c = refl

-- ---- some numbers of a run

pub drop_range : (a n left : ℕ) → left ≤ n → drop left (range_with_len a n) ≡ range_with_len (a + left) (n - left)
drop_range a n zero h =
    let same : a ≡ a + zero = omega arith in
    let all : n ≡ n - zero = omega arith in
    ap (λ (k : ℕ). range_with_len k n) same ∙ ap (range_with_len (a + zero)) all
drop_range a zero (suc left) h = absurd (omega arith)
drop_range a (suc n) (suc left) h =
    let same : a + 1 + left ≡ a + suc left = omega arith in
    let few : n - left ≡ suc n - suc left = omega arith in
    drop_range (a + 1) n left (omega arith) ∙ ap (λ (k : ℕ). range_with_len k (n - left)) same ∙ ap (range_with_len (a + suc left)) few

pub take_range : (a n k : ℕ) → k ≤ n → take k (range_with_len a n) ≡ range_with_len a k
take_range a n zero h = refl
take_range a zero (suc k) h = absurd (omega arith)
take_range a (suc n) (suc k) h = ap (λ (l : List ℕ). a ∷ l) (take_range (a + 1) n k (omega arith))

raised_range : (base a n : ℕ) → map (λ i. base + i) (range_with_len a n) ≡ range_with_len (base + a) n
raised_range base a zero = refl
raised_range base a (suc n) =
    let same : base + (a + 1) ≡ base + a + 1 = omega arith in
    ap (λ (l : List ℕ). (base + a) ∷ l) (raised_range base (a + 1) n ∙ ap (λ (k : ℕ). range_with_len k n) same)

-- numbers from one of a run on
drop_run : (begin end left : ℕ) (rest : List ℕ) → left ≤ end - begin
    → drop left (range_with_len begin (end - begin) ++ rest) ≡ range_with_len (begin + left) (end - begin - left) ++ rest
drop_run begin end left rest h =
    drop-append-le left (range_with_len begin (end - begin)) rest (omega (arith, length-range_with_len begin (end - begin)))
    ∙ ap (λ (l : List ℕ). l ++ rest) (drop_range begin (end - begin) left h)

-- all of a run are passed
pub drop_past : (xs ys : List ℕ) (n left : ℕ) → length xs ≡ n → n ≤ left → drop left (xs ++ ys) ≡ drop (left - n) ys
drop_past xs ys n left e h =
    let same : left ≡ length xs + (left - n) = omega arith in
    ap (λ (k : ℕ). drop k (xs ++ ys)) same ∙ drop-append-add xs ys (left - n)

-- ---- where a loop is

-- a position among the numbers of runs
pub record InRuns (bytes : List ℕ) (index left position : ℕ) : Type 0 where
  pub within : 2 * index < length bytes / 2
  pub some : left < length (runs_from index bytes)
  pub from : drop position (runs_from 0 bytes) ≡ drop left (runs_from index bytes)

-- and in one of these
pub record AtRun (bytes : List ℕ) (index left position : ℕ) : Type 0 where
  pub within : 2 * index < length bytes / 2
  pub own : left + length (runs_from (index + 1) bytes) < length (runs_from index bytes)
  pub from : drop position (runs_from 0 bytes) ≡ drop left (runs_from index bytes)

-- numbers are left, so that boundaries are left
run_left : (bytes : List ℕ) (index left : ℕ) → left < length (runs_from index bytes) → 2 * index < length bytes / 2
run_left bytes index left h = elim (cases_lt (2 * index) (length bytes / 2)) [
  | inl less ↦ less
  | inr more ↦ (
      let size = pairs_len bytes in
      let none = ap (λ (l : List ℕ). length l) (runs_done (2 * index) (pairs_of bytes) (omega arith)) in
      absurd (omega arith))
]

pub runs_begin : (bytes : List ℕ) (position : ℕ) → position < length (runs_from 0 bytes) → InRuns bytes 0 position position
runs_begin bytes position h = record { within = run_left bytes 0 position h; some = h; from = refl }

-- how many numbers a run has
pub run_len : (bytes : List ℕ) (index begin end : ℕ) → runs_from index bytes ≡ range_with_len begin (end - begin) ++ runs_from (index + 1) bytes
    → length (runs_from index bytes) ≡ end - begin + length (runs_from (index + 1) bytes)
run_len bytes index begin end first =
    let all = ap (λ (l : List ℕ). length l) first in
    let both = length-append (range_with_len begin (end - begin)) (runs_from (index + 1) bytes) in
    let own = length-range_with_len begin (end - begin) in
    omega arith

pub run_passed : (bytes : List ℕ) (index left position begin end : ℕ) → InRuns bytes index left position
    → runs_from index bytes ≡ range_with_len begin (end - begin) ++ runs_from (index + 1) bytes → end - begin ≤ left
    → InRuns bytes (index + 1) (left - (end - begin)) position
run_passed bytes index left position begin end at first past =
    let some = at.some in
    let size = run_len bytes index begin end first in
    let more : left - (end - begin) < length (runs_from (index + 1) bytes) = omega arith in
    record {
      within = run_left bytes (index + 1) (left - (end - begin)) more;
      some = more;
      from = at.from ∙ ap (drop left) first
          ∙ drop_past (range_with_len begin (end - begin)) (runs_from (index + 1) bytes) (end - begin) left (length-range_with_len begin (end - begin)) past;
    }

-- the number at a position
pub run_at : (bytes : List ℕ) (index left position begin end : ℕ) → drop position (runs_from 0 bytes) ≡ drop left (runs_from index bytes)
    → runs_from index bytes ≡ range_with_len begin (end - begin) ++ runs_from (index + 1) bytes → left < end - begin
    → begin + left ≡ get_or (runs_from 0 bytes) position 0
run_at bytes index left position begin end from first own =
    let plain : position + 0 ≡ position = omega arith in
    let last : begin + left + 0 ≡ begin + left = omega arith in
    let rest : List ℕ = runs_from (index + 1) bytes in
    let size = length-range_with_len (begin + left) (end - begin - left) in
    sym last
    ∙ sym (get_or-range_with_len (begin + left) (end - begin - left) 0 0 (omega arith))
    ∙ sym (get_or_append_left (range_with_len (begin + left) (end - begin - left)) rest 0 0 (omega arith))
    ∙ ap (λ (l : List ℕ). get_or l 0 0) (sym (from ∙ ap (drop left) first ∙ drop_run begin end left rest (omega arith)))
    ∙ get_or-drop position (runs_from 0 bytes) 0 0 ∙ ap (λ (k : ℕ). get_or (runs_from 0 bytes) k 0) plain

-- some numbers from a position on
pub run_part : (base : ℕ) (bytes : List ℕ) (index left position begin end wanted : ℕ) → drop position (runs_from 0 bytes) ≡ drop left (runs_from index bytes)
    → runs_from index bytes ≡ range_with_len begin (end - begin) ++ runs_from (index + 1) bytes → left + wanted ≤ end - begin
    → range_with_len (base + (begin + left)) wanted ≡ take wanted (drop position (map (λ i. base + i) (runs_from 0 bytes)))
run_part base bytes index left position begin end wanted from first own =
    let rest : List ℕ = runs_from (index + 1) bytes in
    let f : List ℕ → List ℕ = map (λ i. base + i) in
    let size = length-range_with_len (begin + left) (end - begin - left) in
    sym (ap (take wanted) (drop-map (λ i. base + i) position (runs_from 0 bytes)) ∙ take-map (λ i. base + i) wanted (drop position (runs_from 0 bytes))
    ∙ ap (λ (l : List ℕ). f (take wanted l)) (from ∙ ap (drop left) first ∙ drop_run begin end left rest (omega arith))
    ∙ ap f (take-append-le wanted (range_with_len (begin + left) (end - begin - left)) rest (omega arith) ∙ take_range (begin + left) (end - begin - left) wanted (omega arith))
    ∙ raised_range base (begin + left) wanted)

-- a run has numbers
fewer_left : (i : ℕ) (bs : List ℕ) → IsRising 0 65536 bs → 2 * i < length bs → length (run_numbers (drop (2 * (i + 1)) bs)) < length (run_numbers (drop (2 * i) bs))
fewer_left i bs r h = elim (cases_lt (2 * i + 1) (length bs)) [
  | inl two ↦ (
      let less = rising_lt 0 65536 (2 * i) (2 * i + 1) bs r (omega arith) two in
      let all = ap (λ (l : List ℕ). length l) (run_ended i (get_or bs (2 * i) 0) (get_or bs (2 * i + 1) 0) bs two refl refl) in
      let both = length-append (range_with_len (get_or bs (2 * i) 0) (get_or bs (2 * i + 1) 0 - get_or bs (2 * i) 0)) (run_numbers (drop (2 * (i + 1)) bs)) in
      let own = length-range_with_len (get_or bs (2 * i) 0) (get_or bs (2 * i + 1) 0 - get_or bs (2 * i) 0) in
      omega arith)
  | inr one ↦ (
      let top = rising_top 0 65536 (2 * i) bs r h in
      let all = ap (λ (l : List ℕ). length l) (run_open i (get_or bs (2 * i) 0) bs h one refl) in
      let both = length-append (range_with_len (get_or bs (2 * i) 0) (65536 - get_or bs (2 * i) 0)) (run_numbers (drop (2 * (i + 1)) bs)) in
      let own = length-range_with_len (get_or bs (2 * i) 0) (65536 - get_or bs (2 * i) 0) in
      omega arith)
]

-- the next run begins
pub run_next : (bytes : List ℕ) (index left position begin end wanted : ℕ) → IsRising 0 65536 (pairs_of bytes) → AtRun bytes index left position
    → runs_from index bytes ≡ range_with_len begin (end - begin) ++ runs_from (index + 1) bytes → left + wanted ≡ end - begin
    → position + wanted < length (runs_from 0 bytes) → AtRun bytes (index + 1) 0 (position + wanted)
run_next bytes index left position begin end wanted r at first all more =
    let rest : List ℕ = runs_from (index + 1) bytes in
    let size = run_len bytes index begin end first in
    let none : wanted - (end - begin - left) ≡ 0 = omega arith in
    let from : drop (position + wanted) (runs_from 0 bytes) ≡ rest =
    sym (drop-drop wanted position (runs_from 0 bytes)) ∙ ap (drop wanted) (at.from ∙ ap (drop left) first ∙ drop_run begin end left rest (omega arith))
    ∙ drop_past (range_with_len (begin + left) (end - begin - left)) rest (end - begin - left) wanted (length-range_with_len (begin + left) (end - begin - left)) (omega arith)
    ∙ ap (λ (k : ℕ). drop k rest) none in
    let len = ap (λ (l : List ℕ). length l) from in
    let dropped = length-drop (position + wanted) (runs_from 0 bytes) in
    let within = run_left bytes (index + 1) 0 (omega arith) in
    let pairs = pairs_len bytes in
    let fewer = fewer_left (index + 1) (pairs_of bytes) r (omega arith) in
    record { within = within; own = omega arith; from = from }
