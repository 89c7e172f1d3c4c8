-- Codes and the values that have them, each from the other; and the least of some words.
use Rattle.std.proofs.Common.{◌≡◌, ℕ, zero, suc, ◌+◌, ◌-◌, ◌%◌, ◌^◌, ◌<◌, ◌≤◌, List, [], ◌∷◌, map, length, get_or, refl, sym, ap, ◌∙◌, arith, inl, inr, subst}
use Rattle.std.proofs.lemmas.Bool.{cases_lt}
use Rattle.std.proofs.lemmas.List.{get_or_past, length-map}
use Rattle.std.proofs.lemmas.List.Elements.{All-cons, All-head, All-nil, All-tail}
use Rattle.bitpacking.proofs.ForCallers.{as_many_codes, codes_are_words, one_block}
use Rattle.bitpacking.specs.Codes.{AreWords}
use Rattle.bitpacking.specs.Codes as packing
use Rattle.bitpacking.specs.declared.kind.Kind.TheVariants as kinds
use Rattle.bitpack_columns.specs.declared.column_kind.ColumnKind.{ColumnKind}
use Rattle.bitpack_columns.specs.declared.column_kind.ColumnKind.TheVariants.{Plain, Sorted}
use Rattle.bitpack_columns.specs.Columns.{base_of, codes, least, mark_of, tail_base}
use Rattle.bitpack_columns.specs.Reads.{values_of}

-- ---- the least of some words

pub least_word : (xs : List ℕ) → least xs < 2 ^ 32
unfolding least
least_word [] = omega arith
least_word (x ∷ xs) = let e = least_word xs in omega arith

pub least_le : (xs : List ℕ) (k : ℕ) → k < length xs → least xs ≤ get_or xs k 0
unfolding least
least_le [] k h = absurd (omega arith)
least_le (x ∷ xs) zero h = omega arith
least_le (x ∷ xs) (suc k) h = let e = least_le xs k (omega arith) in omega arith

pub word_at : (xs : List ℕ) (k : ℕ) → AreWords xs → get_or xs k 0 < 2 ^ 32
word_at xs k words = elim (cases_lt k (length xs)) [
  | inl less ↦ words k 0 less
  | inr more ↦ (let e = get_or_past xs k 0 more in omega arith)
]

-- ---- codes

-- values of a plain column are not below what their codes count from
abbrev pub Above : ColumnKind → ℕ → List ℕ → Type 0
Above Plain base values = (k : ℕ) → k < length values → base ≤ get_or values k 0
Above Sorted base values = Unit {0}

pub codes_len : (kind : ColumnKind) (base : ℕ) (values : List ℕ) → length (codes kind base values) ≡ length values
codes_len Plain base values = length-map values (λ value. value - base)
codes_len Sorted base values = as_many_codes (kinds.Sorted base) values

differences_words : (base : ℕ) (values : List ℕ) → AreWords values → AreWords (map (λ value. value - base) values)
differences_words base [] words = All-nil (λ v. v < 2 ^ 32)
differences_words base (x ∷ xs) words =
    let here : x < 2 ^ 32 = All-head (λ v. v < 2 ^ 32) x xs words in
    All-cons (λ v. v < 2 ^ 32) (x - base) (map (λ value. value - base) xs) (omega arith) (differences_words base xs (All-tail (λ v. v < 2 ^ 32) x xs words))

pub codes_words : (kind : ColumnKind) (base : ℕ) (values : List ℕ) → AreWords values → AreWords (codes kind base values)
codes_words Plain base values words = differences_words base values words
codes_words Sorted base values words = codes_are_words (kinds.Sorted base) values words

added_back : (base : ℕ) (values : List ℕ) → AreWords values → ((k : ℕ) → k < length values → base ≤ get_or values k 0)
    → map (λ code. (base + code) % 2 ^ 32) (map (λ value. value - base) values) ≡ values
added_back base [] words above = refl
added_back base (x ∷ xs) words above =
    let here : x < 2 ^ 32 = All-head (λ v. v < 2 ^ 32) x xs words in
    let low : base ≤ x = above 0 (omega arith) in
    let same : (base + (x - base)) % 2 ^ 32 ≡ x = omega arith in
    ap (λ (n : ℕ). n ∷ map (λ code. (base + code) % 2 ^ 32) (map (λ value. value - base) xs)) same
    ∙ ap (λ (l : List ℕ). x ∷ l) (added_back base xs (All-tail (λ v. v < 2 ^ 32) x xs words) (λ k h. above (suc k) (omega arith)))

-- the codes of values give these values
pub values_back : (kind : ColumnKind) (base : ℕ) (values : List ℕ) → base < 2 ^ 32 → AreWords values → Above kind base values
    → values_of kind base (codes kind base values) ≡ values
values_back Plain base values small words above = added_back base values words above
values_back Sorted base values small words above =
    sym ((one_block (kinds.Sorted base) (packing.codes (kinds.Sorted base) values) small (codes_are_words (kinds.Sorted base) values words)).2 values words refl)

less_back : (base : ℕ) (words : List ℕ) → base < 2 ^ 32 → AreWords words
    → ((k : ℕ) → k < length (map (λ code. (base + code) % 2 ^ 32) words) → base ≤ get_or (map (λ code. (base + code) % 2 ^ 32) words) k 0)
    → map (λ value. value - base) (map (λ code. (base + code) % 2 ^ 32) words) ≡ words
less_back base [] small words above = refl
less_back base (x ∷ xs) small words above =
    let here : x < 2 ^ 32 = All-head (λ v. v < 2 ^ 32) x xs words in
    let low : base ≤ (base + x) % 2 ^ 32 = above 0 (omega arith) in
    let same : (base + x) % 2 ^ 32 - base ≡ x = omega arith in
    ap (λ (n : ℕ). n ∷ map (λ value. value - base) (map (λ code. (base + code) % 2 ^ 32) xs)) same
    ∙ ap (λ (l : List ℕ). x ∷ l) (less_back base xs small (All-tail (λ v. v < 2 ^ 32) x xs words) (λ k h. above (suc k) (omega arith)))

-- the values of codes have these codes
pub codes_back : (kind : ColumnKind) (base : ℕ) (words : List ℕ) → base < 2 ^ 32 → AreWords words → Above kind base (values_of kind base words)
    → codes kind base (values_of kind base words) ≡ words
codes_back Plain base words small are above = less_back base words small are above
codes_back Sorted base words small are above = (one_block (kinds.Sorted base) words small are).1

-- ---- marks and bases

pub mark_word : (kind : ColumnKind) (block : List ℕ) → AreWords block → mark_of kind block < 2 ^ 32
mark_word Plain block words = least_word block
mark_word Sorted block words = word_at block 127 words

pub base_word : (kind : ColumnKind) (first : ℕ) (mark : ℕ → ℕ) (blocks m : ℕ) → first < 2 ^ 32 → ((i : ℕ) → i < blocks → mark i < 2 ^ 32) → m < blocks
    → base_of kind first mark m < 2 ^ 32
base_word Plain first mark blocks m small marks lt = marks m lt
base_word Sorted first mark blocks zero small marks lt = small
base_word Sorted first mark blocks (suc m) small marks lt = marks m (omega arith)

pub base_same : (kind : ColumnKind) (first other : ℕ) (mark marks : ℕ → ℕ) (blocks m : ℕ) → (kind ≡ Sorted → first ≡ other)
    → ((i : ℕ) → i < blocks → mark i ≡ marks i) → m < blocks → base_of kind first mark m ≡ base_of kind other marks m
base_same Plain first other mark marks blocks m e h lt = h m lt
base_same Sorted first other mark marks blocks zero e h lt = e refl
base_same Sorted first other mark marks blocks (suc m) e h lt = h m (omega arith)

pub tail_word : (kind : ColumnKind) (first : ℕ) (mark : ℕ → ℕ) (blocks least : ℕ) → first < 2 ^ 32 → ((i : ℕ) → i < blocks → mark i < 2 ^ 32)
    → (kind ≡ Plain → least < 2 ^ 32) → tail_base kind first mark blocks least < 2 ^ 32
tail_word Plain first mark blocks least small marks h = h refl
tail_word Sorted first mark zero least small marks h = small
tail_word Sorted first mark (suc blocks) least small marks h = marks blocks (omega arith)

pub tail_same : (kind : ColumnKind) (first other : ℕ) (mark marks : ℕ → ℕ) (blocks least : ℕ) → (kind ≡ Sorted → first ≡ other)
    → ((i : ℕ) → i < blocks → mark i ≡ marks i) → tail_base kind first mark blocks least ≡ tail_base kind other marks blocks least
tail_same Plain first other mark marks blocks least e h = refl
tail_same Sorted first other mark marks zero least e h = e refl
tail_same Sorted first other mark marks (suc blocks) least e h = h blocks (omega arith)

pub tail_least : (kind : ColumnKind) (first : ℕ) (mark : ℕ → ℕ) (blocks least other : ℕ) → (kind ≡ Plain → least ≡ other)
    → tail_base kind first mark blocks least ≡ tail_base kind first mark blocks other
tail_least Plain first mark blocks least other e = e refl
tail_least Sorted first mark blocks least other e = refl

-- the values of a block are not below what its codes count from
pub above_base : (kind : ColumnKind) (first : ℕ) (mark : ℕ → ℕ) (m : ℕ) (block : List ℕ) → mark m ≡ mark_of kind block → Above kind (base_of kind first mark m) block
above_base Plain first mark m block e = λ k h. subst (λ (n : ℕ). n ≤ get_or block k 0) (sym e) (least_le block k h)
above_base Sorted first mark m block e = tt

-- nor are the values of a tail
pub above_tail : (kind : ColumnKind) (first : ℕ) (mark : ℕ → ℕ) (blocks low : ℕ) (tail : List ℕ) → (kind ≡ Plain → low ≡ least tail)
    → Above kind (tail_base kind first mark blocks low) tail
above_tail Plain first mark blocks low tail e = λ k h. subst (λ (n : ℕ). n ≤ get_or tail k 0) (sym (e refl)) (least_le tail k h)
above_tail Sorted first mark blocks low tail e = tt
