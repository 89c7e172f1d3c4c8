-- Falls among values: in parts of them, and in blocks whose width shows that there is none.
use Rattle.std.proofs.Common.{◌≡◌, ℕ, zero, suc, ◌+◌, ◌-◌, ◌*◌, ◌/◌, ◌%◌, ◌^◌, ◌<◌, ◌≤◌, Bool, true, false, ◌||◌, cond, ltb, List, [], ◌∷◌, ◌++◌, length, get_or, take, drop, Option, Some, None, Result, Ok, Err, OnOk, refl, sym, ap, ◌∙◌, arith, inl, inr, take-add}
use Rattle.std.specs.Option.{option_map}
use Rattle.std.proofs.lemmas.Bool.{cases_lt, cond_above, cond_below, eq-eqb, le-ltb, lt-ltb}
use Rattle.std.proofs.lemmas.List.{drop_more, get_or-drop, get_or-take, length-take-le, take-append-drop, take_more}
use Rattle.std.proofs.lemmas.List.Elements.{All-head, All-tail}
use Rattle.bitpack_groups.proofs.ForCallers.{passed}
use Rattle.bitpacking.proofs.ForCallers.{fits_greater}
use Rattle.bitpacking.specs.Codes.{AreWords}
use Rattle.bitpacking.specs.Width.{Fits}
use Rattle.bitpack_columns.specs.declared.column_error.ColumnError.{ColumnError}
use Rattle.bitpack_columns.specs.declared.column_error.ColumnError.TheVariants.{NotSorted, TooLong}
use Rattle.bitpack_columns.specs.Errors.{Finds}
use Rattle.bitpack_columns.specs.declared.column_kind.ColumnKind.{ColumnKind}
use Rattle.bitpack_columns.specs.declared.column_kind.ColumnKind.TheVariants.{Plain, Sorted}
use Rattle.bitpack_columns.specs.Columns.{IsColumn, base_of, block_of, codes, mark_in}
use Rattle.bitpack_columns.specs.Faults.{first_below, first_out}
use Rattle.bitpack_columns.specs.Measured.{Rises, first_fall}
use Rattle.bitpack_columns.specs.Written.{refusal}
use Rattle.bitpack_columns.proofs.OrderLaws.{none_ordered, ordered_none}
use Rattle.bitpack_columns.proofs.SoundLaws.{not_mapped}

-- the last of some values, or what is before them
abbrev pub last_of : ℕ → List ℕ → ℕ
last_of before [] = before
last_of before (x ∷ xs) = last_of x xs

pub last_joined : (before : ℕ) (xs ys : List ℕ) → last_of before (xs ++ ys) ≡ last_of (last_of before xs) ys
last_joined before [] ys = refl
last_joined before (x ∷ xs) ys = last_joined x xs ys

pub last_at : (before : ℕ) (xs : List ℕ) → 0 < length xs → last_of before xs ≡ get_or xs (length xs - 1) 0
last_at before [] some = absurd (omega arith)
last_at before (x ∷ []) some = refl
last_at before (x ∷ y ∷ ys) some =
    let e : length (x ∷ y ∷ ys) - 1 ≡ suc (length ys) = omega arith in
    let f : length (y ∷ ys) - 1 ≡ length ys = omega arith in
    last_at x (y ∷ ys) (omega arith) ∙ ap (λ (n : ℕ). get_or (y ∷ ys) n 0) f ∙ ap (λ (n : ℕ). get_or (x ∷ y ∷ ys) n 0) (sym e)

-- ---- parts

pub no_fall : (position before : ℕ) → first_below position before [] ≡ None
unfolding first_below
no_fall position before = refl

pub none_empty : (position before : ℕ) (xs : List ℕ) → length xs ≡ 0 → first_below position before xs ≡ None
none_empty position before [] e = no_fall position before
none_empty position before (x ∷ xs) e = absurd (omega arith)

pub fall_after : (position before : ℕ) (xs ys : List ℕ) → first_below position before xs ≡ None
    → first_below position before (xs ++ ys) ≡ first_below (position + length xs) (last_of before xs) ys
unfolding first_below
fall_after position before [] ys e = (let f : position ≡ position + 0 = omega arith in ap (λ (n : ℕ). first_below n before ys) f)
fall_after position before (x ∷ xs) ys e =
    let (here, later) = passed (ltb x before) position (first_below (position + 1) x xs) e in
    let f : position + 1 + length xs ≡ position + length (x ∷ xs) = omega arith in
    ap (λ (b : Bool). cond b (Some position) (first_below (position + 1) x (xs ++ ys))) here ∙ fall_after (position + 1) x xs ys later
    ∙ ap (λ (n : ℕ). first_below n (last_of x xs) ys) f

pub none_from : (position other before : ℕ) (xs : List ℕ) → first_below position before xs ≡ None → first_below other before xs ≡ None
unfolding first_below
none_from position other before [] e = refl
none_from position other before (x ∷ xs) e =
    let (here, later) = passed (ltb x before) position (first_below (position + 1) x xs) e in
    ap (λ (b : Bool). cond b (Some other) (first_below (other + 1) x xs)) here ∙ none_from (position + 1) (other + 1) x xs later

pub none_joined : (position before : ℕ) (xs ys : List ℕ) → first_below position before xs ≡ None → first_below 0 (last_of before xs) ys ≡ None
    → first_below position before (xs ++ ys) ≡ None
none_joined position before xs ys e f = fall_after position before xs ys e ∙ none_from 0 (position + length xs) (last_of before xs) ys f

-- one value more
one_more : (position before y : ℕ) (ys : List ℕ) → before ≤ y → first_below position before (y ∷ ys) ≡ first_below (position + 1) y ys
unfolding first_below
one_more position before y ys le = ap (λ (b : Bool). cond b (Some position) (first_below (position + 1) y ys)) (le-ltb y before le)

one_falls : (position before y : ℕ) (ys : List ℕ) → y < before → first_below position before (y ∷ ys) ≡ Some position
unfolding first_below
one_falls position before y ys lt = ap (λ (b : Bool). cond b (Some position) (first_below (position + 1) y ys)) (lt-ltb y before lt)

pub step_none : (position before i : ℕ) (values : List ℕ) → i < length values → first_below position before (take i values) ≡ None
    → last_of before (take i values) ≤ get_or values i 0 → first_below position before (take (i + 1) values) ≡ None
step_none position before i values lt e le =
    ap (first_below position before) (take_more values i 0 lt)
    ∙ none_joined position before (take i values) (get_or values i 0 ∷ []) e
    (one_more 0 (last_of before (take i values)) (get_or values i 0) [] le ∙ no_fall (0 + 1) (get_or values i 0))

pub step_last : (before i : ℕ) (values : List ℕ) → i < length values → last_of before (take (i + 1) values) ≡ get_or values i 0
step_last before i values lt =
    ap (last_of before) (take_more values i 0 lt) ∙ last_joined before (take i values) (get_or values i 0 ∷ [])

pub last_before : (before i : ℕ) (values : List ℕ) → 1 ≤ i → i ≤ length values → last_of before (take i values) ≡ get_or values (i - 1) 0
last_before before i values some le =
    let long : length (take i values) ≡ i = length-take-le i values le in
    let e : length (take i values) - 1 ≡ i - 1 = omega (arith, long) in
    last_at before (take i values) (omega (arith, long)) ∙ ap (λ (k : ℕ). get_or (take i values) k 0) e ∙ get_or-take i values (i - 1) 0 (omega arith)

pub fall_found : (position before i : ℕ) (values : List ℕ) → i < length values → first_below position before (take i values) ≡ None
    → get_or values i 0 < last_of before (take i values) → first_below position before values ≡ Some (position + i)
fall_found position before i values lt e falls =
    let whole : values ≡ take i values ++ (get_or values i 0 ∷ drop (i + 1) values) =
    sym (take-append-drop i values) ∙ ap (λ (l : List ℕ). take i values ++ l) (drop_more values i 0 lt) in
    let long : position + length (take i values) ≡ position + i = omega (arith, length-take-le i values (omega arith)) in
    ap (first_below position before) whole ∙ fall_after position before (take i values) (get_or values i 0 ∷ drop (i + 1) values) e
    ∙ one_falls (position + length (take i values)) (last_of before (take i values)) (get_or values i 0) (drop (i + 1) values) falls ∙ ap Some long

pub neither : (one other : Bool) → (one || other) ≡ false → (one ≡ false) × (other ≡ false)
neither true other e = absurd cc
neither false other e = (refl, e)

-- ---- blocks

pub last_block : (before i : ℕ) (values : List ℕ) → 128 * i ≤ length values → last_of before (take (128 * i) values) ≡ base_of Sorted before (mark_in Sorted values) i
last_block before zero values le = refl
last_block before (suc m) values le =
    let n : ℕ = 128 * suc m in
    let long : length (take n values) ≡ n = length-take-le n values le in
    let e : length (take n values) - 1 ≡ n - 1 = omega (arith, long) in
    let f : n - 1 ≡ 128 * m + 127 = omega arith in
    last_at before (take n values) (omega (arith, long)) ∙ ap (λ (k : ℕ). get_or (take n values) k 0) e ∙ get_or-take n values (n - 1) 0 (omega arith)
    ∙ ap (λ (k : ℕ). get_or values k 0) f ∙ sym (get_or-drop (128 * m) values 127 0) ∙ sym (get_or-take 128 (drop (128 * m) values) 127 0 (omega arith))

pub block_rises : (before i : ℕ) (values : List ℕ) → 128 * i + 128 ≤ length values → first_below 0 before (take (128 * i) values) ≡ None
    → first_below 0 (base_of Sorted before (mark_in Sorted values) i) (block_of i values) ≡ None → first_below 0 before (take (128 * (i + 1)) values) ≡ None
block_rises before i values le e f =
    let n : 128 * (i + 1) ≡ 128 * i + 128 = omega arith in
    let split : take (128 * (i + 1)) values ≡ take (128 * i) values ++ block_of i values = ap (λ (k : ℕ). take k values) n ∙ take-add (128 * i) 128 values in
    ap (first_below 0 before) split ∙ none_joined 0 before (take (128 * i) values) (block_of i values) e
    (ap (λ (k : ℕ). first_below 0 k (block_of i values)) (last_block before i values (omega arith)) ∙ f)

-- the values after blocks that do not fall
pub left_falls : (position before last : ℕ) (values : List ℕ) → Rises Sorted before values → last ≡ base_of Sorted before (mark_in Sorted values) (length values / 128)
    → first_below (position + 128 * (length values / 128)) last (drop (128 * (length values / 128)) values) ≡ first_below position before values
left_falls position before last values rises e =
    let n : ℕ = 128 * (length values / 128) in
    let whole : values ≡ take n values ++ drop n values = sym (take-append-drop n values) in
    let long : position + length (take n values) ≡ position + n = omega (arith, length-take-le n values (omega arith)) in
    sym (ap (first_below position before) whole ∙ fall_after position before (take n values) (drop n values) (none_from 0 position before (take n values) rises.none)
    ∙ ap (λ (k : ℕ). first_below k (last_of before (take n values)) (drop n values)) long
    ∙ ap (λ (k : ℕ). first_below (position + n) k (drop n values)) (last_block before (length values / 128) values (omega arith) ∙ sym e))

out_is : (values : List ℕ) → first_out Sorted (get_or values 0 0) values ≡ first_below 0 (get_or values 0 0) values
unfolding first_out
out_is [] = sym (no_fall 0 0)
out_is (x ∷ xs) =
    ap (λ (b : Bool). cond b (first_below 1 x xs) (Some 0)) (eq-eqb x x refl) ∙ sym (one_more 0 x x xs (omega arith))

-- values that are pushed after others
pub pushed_falls : (before count : ℕ) (so_far pushed : List ℕ) → count ≡ length so_far → first_out Sorted (get_or so_far 0 0) so_far ≡ None
    → (length so_far ≡ 0 → before ≡ 0) → (0 < length so_far → before ≡ get_or so_far (length so_far - 1) 0)
    → first_below count before pushed ≡ first_fall Sorted 0 (get_or (so_far ++ pushed) 0 0) (so_far ++ pushed)
pushed_falls before count [] pushed e right none some =
    ap (λ (k : ℕ). first_below k before pushed) e ∙ ap (λ (k : ℕ). first_below 0 k pushed) (none refl) ∙ first_is pushed
  where
    first_is : (values : List ℕ) → first_below 0 0 values ≡ first_below 0 (get_or values 0 0) values
    first_is [] = no_fall 0 0 ∙ sym (no_fall 0 0)
    first_is (x ∷ xs) = one_more 0 0 x xs (omega arith) ∙ sym (one_more 0 x x xs (omega arith))
pushed_falls before count (x ∷ xs) pushed e right none some =
    let last : last_of x (x ∷ xs) ≡ before = last_at x (x ∷ xs) (omega arith) ∙ sym (some (omega arith)) in
    let count_is : 0 + length (x ∷ xs) ≡ count = omega arith in
    sym (fall_after 0 x (x ∷ xs) pushed (sym (out_is (x ∷ xs)) ∙ right)
    ∙ ap (λ (k : ℕ). first_below k (last_of x (x ∷ xs)) pushed) count_is ∙ ap (λ (k : ℕ). first_below count k pushed) last)

-- ---- narrow codes

less_difference : (x before : ℕ) → x < before → before < 2 ^ 32 → (x + (2 ^ 32 - before)) % 2 ^ 32 + before ≡ x + 2 ^ 32
less_difference x before lt small = omega arith

more_difference : (x before : ℕ) → before ≤ x → x < 2 ^ 32 → (x + (2 ^ 32 - before)) % 2 ^ 32 + before ≡ x
more_difference x before le small = omega arith

-- how often values wrap, and the sum of their codes
pub record Wraps (before : ℕ) (xs : List ℕ) : Type 0 where
  pub falls : ℕ
  pub total : ℕ
  pub ends : last_of before xs + 4294967296 * falls ≡ before + total
  pub bound : total + length xs ≤ 33554432 * length xs
  pub none : falls ≡ 0 → (position : ℕ) → first_below position before xs ≡ None

wraps : (before : ℕ) (xs : List ℕ) → before < 2 ^ 32 → AreWords xs → Fits (codes Sorted before xs) 25 → Wraps before xs
wraps before [] small words fits = record { falls = 0; total = 0; ends = omega arith; bound = omega arith; none = λ _ position. no_fall position before }
wraps before (x ∷ xs) small words fits =
    let here : x < 2 ^ 32 = All-head (λ v. v < 2 ^ 32) x xs words in
    let code : (x + (2 ^ 32 - before)) % 2 ^ 32 < 2 ^ 25 = All-head (λ v. v < 2 ^ 25) ((x + (2 ^ 32 - before)) % 2 ^ 32) (codes Sorted x xs) fits in
    let rest = wraps x xs here (All-tail (λ v. v < 2 ^ 32) x xs words) (All-tail (λ v. v < 2 ^ 25) ((x + (2 ^ 32 - before)) % 2 ^ 32) (codes Sorted x xs) fits) in
    elim (cases_lt x before) [
      | inl lt ↦ record {
        falls = suc rest.falls;
        total = (x + (2 ^ 32 - before)) % 2 ^ 32 + rest.total;
        ends = (let e = less_difference x before lt small in let f = rest.ends in omega arith);
        bound = (let f = rest.bound in omega arith);
        none = λ e. absurd (omega arith);
      }
      | inr le ↦ record {
        falls = rest.falls;
        total = (x + (2 ^ 32 - before)) % 2 ^ 32 + rest.total;
        ends = (let e = more_difference x before le here in let f = rest.ends in omega arith);
        bound = (let f = rest.bound in omega arith);
        none = λ e position. one_more position before x xs le ∙ rest.none e (position + 1);
      }
    ]

pub narrow_none : (width before last : ℕ) (block : List ℕ) → width ≤ 25 → before < 2 ^ 32 → before ≤ last → length block ≡ 128 → AreWords block
    → get_or block 127 0 ≡ last → Fits (codes Sorted before block) width → first_below 0 before block ≡ None
narrow_none width before last block narrow small le long words is fits =
    let all = wraps before block small words (fits_greater (codes Sorted before block) width 25 narrow fits) in
    let e : length block - 1 ≡ 127 = omega (arith, long) in
    let end : last_of before block ≡ last = last_at before block (omega (arith, long)) ∙ ap (λ (k : ℕ). get_or block k 0) e ∙ is in
    let sum = all.ends in
    let few = all.bound in
    all.none (omega (arith, end, long, sum, few)) 0

-- ---- what a writer refuses

pub empty_is : (kind : ColumnKind) (first : ℕ) → first_out kind first [] ≡ None
unfolding first_out
empty_is Plain first = refl
empty_is Sorted first = refl

fall_is : (kind : ColumnKind) (values : List ℕ) → first_out kind (get_or values 0 0) values ≡ first_fall kind 0 (get_or values 0 0) values
unfolding first_out
fall_is Plain values = refl
fall_is Sorted values = out_is values

pub few_refused : (kind : ColumnKind) (values : List ℕ) → length values ≤ 2 ^ 28 → refusal kind values ≡ option_map NotSorted (first_fall kind 0 (get_or values 0 0) values)
few_refused kind values few =
    sym (cond_above (2 ^ 28) (length values) (Some (TooLong (length values))) (option_map NotSorted (first_out kind (get_or values 0 0) values))
    (option_map NotSorted (first_out kind (get_or values 0 0) values)) few refl)
    ∙ ap (λ (o : Option ℕ). option_map NotSorted o) (fall_is kind values)

pub long_refused : (kind : ColumnKind) (values : List ℕ) → 2 ^ 28 < length values → refusal kind values ≡ Some (TooLong (length values))
long_refused kind values many =
    sym (cond_below (2 ^ 28) (length values) (Some (TooLong (length values))) (option_map NotSorted (first_out kind (get_or values 0 0) values)) many)

-- values that are not refused are a column
pub column_is : (kind : ColumnKind) (values : List ℕ) → length values ≤ 2 ^ 28 → AreWords values → option_map NotSorted (first_fall kind 0 (get_or values 0 0) values) ≡ None
    → IsColumn kind values
column_is kind values few words e =
    let none : first_out kind (get_or values 0 0) values ≡ None = fall_is kind values ∙ not_mapped NotSorted (first_fall kind 0 (get_or values 0 0) values) e in
    record { few = few; words = words; ordered = λ is. (ordered_none kind (get_or values 0 0) values none is).0 }

-- values that are not refused are a column
pub unrefused : (kind : ColumnKind) (values : List ℕ) → AreWords values → refusal kind values ≡ None → IsColumn kind values
unrefused kind values words none = elim (cases_lt (2 ^ 28) (length values)) [
  | inl long ↦ (let e : Some (TooLong (length values)) ≡ None = sym (long_refused kind values long) ∙ none in cc)
  | inr few ↦ column_is kind values few words (sym (few_refused kind values few) ∙ none)
]

-- a column is not refused
pub right_column : (kind : ColumnKind) (values : List ℕ) → IsColumn kind values → first_out kind (get_or values 0 0) values ≡ None
right_column kind values is = none_ordered kind (get_or values 0 0) values is.ordered (λ _. refl)

pub not_refused : (kind : ColumnKind) (values : List ℕ) → IsColumn kind values → refusal kind values ≡ None
not_refused kind values is =
    few_refused kind values is.few ∙ ap (λ (o : Option ℕ). option_map NotSorted o) (sym (fall_is kind values) ∙ right_column kind values is)

-- what a test finds
pub found_column : {A : Type 0} (kind : ColumnKind) (values : List ℕ) (result : Result A ColumnError) → AreWords values → Finds result (refusal kind values)
    → OnOk result (IsColumn kind values)
found_column kind values (Ok x) words finds = unrefused kind values words finds
found_column kind values (Err e) words finds = tt
