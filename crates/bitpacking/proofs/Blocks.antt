-- Each list of codes is that of exactly one block.
use Rattle.std.proofs.Common.{map, get_or, ◌++◌, ◌≡◌, ℕ, ◌+◌, ◌-◌, ◌%◌, ◌^◌, ◌<◌, ◌≤◌, List, [], ◌∷◌, length, suc, sum, refl, sym, ◌∙◌, ap, Some, None, arith}
use Rattle.std.proofs.Math.Nat.{mod-eq_of_lt, mod-mod}
use Rattle.std.proofs.lemmas.Simd.{Each1-from_get_or}
use Rattle.std.specs.Prelude.{unwrap_or}
use Rattle.std.proofs.lemmas.List.Elements.{All-nil, All-cons, All-head, All-tail}
use Rattle.bitpacking.specs.declared.kind.Kind.{Kind}
use Rattle.bitpacking.specs.declared.kind.Kind.TheVariants.{Plain, Sorted, StrictlySorted}
use Rattle.bitpacking_register.specs.Deltas.{differences, running_sums}
use Rattle.bitpacking_register.proofs.ForCallers.{differences-running_sums, running_sums-mod, running_sums-append, last-running_sums}
use Rattle.std.proofs.Math.Pow.{pow_mono}
use Rattle.bitpacking.specs.Layout.{Layout, Holds}
use Rattle.bitpacking.specs.CodeLaws.{length-differences, length-strict}
use Rattle.bitpacking.specs.Codes.{AreWords, codes, one_less, one_more, start, values_of}

pub differences-of_running_sums : (before : ℕ) (values : List ℕ) → before < 2 ^ 32 → AreWords values
    → differences before (running_sums before values) ≡ values
differences-of_running_sums before values small words =
    differences-running_sums before before values (mod-eq_of_lt small)
    (Each1-from_get_or (λ v. v < 2 ^ 32) values 0 (λ k lt. words k 0 lt))

pub AreWords-running_sums : (previous : ℕ) (values : List ℕ) → AreWords (running_sums previous values)
AreWords-running_sums previous [] = All-nil (λ v. v < 2 ^ 32)
AreWords-running_sums previous (code ∷ values) =
    All-cons (λ v. v < 2 ^ 32) ((previous + code) % 2 ^ 32) (running_sums (previous + code) values) (omega arith)
    (AreWords-running_sums (previous + code) values)

pub AreWords-differences : (previous : ℕ) (values : List ℕ) → AreWords (differences previous values)
AreWords-differences previous [] = All-nil (λ v. v < 2 ^ 32)
AreWords-differences previous (value ∷ values) =
    All-cons (λ v. v < 2 ^ 32) ((value + (2 ^ 32 - previous)) % 2 ^ 32) (differences value values) (omega arith)
    (AreWords-differences value values)

pub less-more : (values : List ℕ) → AreWords values → map one_less (map one_more values) ≡ values
less-more [] words = refl
less-more (x ∷ xs) words =
    let P : ℕ → Type 0 = λ v. v < 2 ^ 32 in
    let here : x < 2 ^ 32 = All-head P x xs words in
    let e : ((x + 1) % 2 ^ 32 + (2 ^ 32 - 1)) % 2 ^ 32 ≡ x = omega arith in
    rw e (ap (λ ys. x ∷ ys) (less-more xs (All-tail P x xs words)))

pub more-less : (values : List ℕ) → AreWords values → map one_more (map one_less values) ≡ values
more-less [] words = refl
more-less (x ∷ xs) words =
    let P : ℕ → Type 0 = λ v. v < 2 ^ 32 in
    let here : x < 2 ^ 32 = All-head P x xs words in
    let e : ((x + (2 ^ 32 - 1)) % 2 ^ 32 + 1) % 2 ^ 32 ≡ x = omega arith in
    rw e (ap (λ ys. x ∷ ys) (more-less xs (All-tail P x xs words)))

pub AreWords-more : (values : List ℕ) → AreWords (map one_more values)
AreWords-more [] = All-nil (λ v. v < 2 ^ 32)
AreWords-more (x ∷ xs) = All-cons (λ v. v < 2 ^ 32) ((x + 1) % 2 ^ 32) (map one_more xs) (omega arith) (AreWords-more xs)

pub AreWords-less : (values : List ℕ) → AreWords (map one_less values)
AreWords-less [] = All-nil (λ v. v < 2 ^ 32)
AreWords-less (x ∷ xs) =
    All-cons (λ v. v < 2 ^ 32) ((x + (2 ^ 32 - 1)) % 2 ^ 32) (map one_less xs) (omega arith) (AreWords-less xs)

pub length-codes : (kind : Kind) (block : List ℕ) → length (codes kind block) ≡ length block
length-codes Plain block = refl
length-codes (Sorted initial) block = length-differences initial block
length-codes (StrictlySorted initial) block = length-strict (unwrap_or initial 4294967295) block

pub AreWords-codes : (kind : Kind) (block : List ℕ) → AreWords block → AreWords (codes kind block)
AreWords-codes Plain block words = words
AreWords-codes (Sorted initial) block words = AreWords-differences initial block
AreWords-codes (StrictlySorted initial) block words = AreWords-less (differences (unwrap_or initial 4294967295) block)

pub codes-values_of : (kind : Kind) (values : List ℕ) → start kind < 2 ^ 32 → AreWords values
    → codes kind (values_of kind values) ≡ values
codes-values_of Plain values h words = refl
codes-values_of (Sorted initial) values h words = differences-of_running_sums initial values h words
codes-values_of (StrictlySorted initial) values h words =
    ap (map one_less) (differences-of_running_sums (unwrap_or initial 4294967295) (map one_more values) h (AreWords-more values))
    ∙ less-more values words

pub AreWords-values_of : (kind : Kind) (values : List ℕ) → AreWords values → AreWords (values_of kind values)
AreWords-values_of Plain values words = words
AreWords-values_of (Sorted initial) values words = AreWords-running_sums initial values
AreWords-values_of (StrictlySorted initial) values words = AreWords-running_sums (unwrap_or initial 4294967295) (map one_more values)

-- no initial value means the greatest one
pub codes-none : (block : List ℕ) → codes (StrictlySorted None) block ≡ codes (StrictlySorted (Some 4294967295)) block
codes-none block = refl

-- The last value of a list, or another before an empty one.
abbrev pub last_or : ℕ → List ℕ → ℕ
last_or before [] = before
last_or before (x ∷ xs) = last_or x xs

pub last_or-get_or : (before : ℕ) (xs : List ℕ) → 0 < length xs → last_or before xs ≡ get_or xs (length xs - 1) 0
last_or-get_or before [] some = absurd (omega arith)
last_or-get_or before (x ∷ []) some = refl
last_or-get_or before (x ∷ (y ∷ zs)) some =
    let one : suc (suc (length zs)) - 1 ≡ suc (length zs) = omega arith in
    let zero' : suc (length zs) - 1 ≡ length zs = omega arith in
    rw one (rw zero' at (last_or-get_or x (y ∷ zs) (omega arith)))

pub differences-append : (previous : ℕ) (xs ys : List ℕ)
    → differences previous (xs ++ ys) ≡ differences previous xs ++ differences (last_or previous xs) ys
differences-append previous [] ys = refl
differences-append previous (x ∷ xs) ys =
    ap (λ zs. (x + (2 ^ 32 - previous)) % 2 ^ 32 ∷ zs) (differences-append x xs ys)

-- Of a register, whose last lane is then the one before the next.
pub differences-register : (previous lanes : ℕ) (xs ys : List ℕ) → length xs ≡ lanes → 1 ≤ lanes
    → differences previous (xs ++ ys) ≡ differences previous xs ++ differences (get_or xs (lanes - 1) 0) ys
differences-register previous lanes xs ys len some =
    let last : last_or previous xs ≡ get_or xs (length xs - 1) 0 = last_or-get_or previous xs (omega arith) in
    let last' : last_or previous xs ≡ get_or xs (lanes - 1) 0 = rw len at last in
    differences-append previous xs ys ∙ rw last' refl

-- Of a register, whose last sum is then the one before the next.
pub running_sums-register : (before lanes : ℕ) (xs ys out : List ℕ) → length xs ≡ lanes → 1 ≤ lanes → out ≡ running_sums before xs
    → running_sums before (xs ++ ys) ≡ out ++ running_sums (get_or out (lanes - 1) 0) ys
running_sums-register before lanes xs ys out len some e =
    let last : get_or (running_sums before xs) (lanes - 1) 0 ≡ (before + sum xs) % 2 ^ 32 =
    rw len at (last-running_sums before xs (omega arith)) in
    let same : (before + sum xs) % 2 ^ 32 ≡ get_or (running_sums before xs) (lanes - 1) 0 % 2 ^ 32 =
    rw last (sym (mod-mod (before + sum xs) (2 ^ 32))) in
    rw e (running_sums-append before xs ys
    ∙ ap (λ zs. running_sums before xs ++ zs) (running_sums-mod (before + sum xs) (get_or (running_sums before xs) (lanes - 1) 0) ys same))

-- Blocks with the same codes after the same value are the same.
pub head_same : (x y : ℕ) (xs ys : List ℕ) → x ∷ xs ≡ y ∷ ys → x ≡ y
head_same x y xs ys e = cc

pub tail_same : (x y : ℕ) (xs ys : List ℕ) → x ∷ xs ≡ y ∷ ys → xs ≡ ys
tail_same x y xs ys e = cc

pub same_from_differences : (previous : ℕ) (xs ys : List ℕ) → AreWords xs → AreWords ys
    → differences previous xs ≡ differences previous ys → xs ≡ ys
same_from_differences previous [] [] hx hy e = refl
same_from_differences previous [] (y ∷ ys) hx hy e = cc
same_from_differences previous (x ∷ xs) [] hx hy e = cc
same_from_differences previous (x ∷ xs) (y ∷ ys) hx hy e =
    let P : ℕ → Type 0 = λ v. v < 2 ^ 32 in
    let hx' : x < 2 ^ 32 = All-head P x xs hx in
    let hy' : y < 2 ^ 32 = All-head P y ys hy in
    let head : (x + (2 ^ 32 - previous)) % 2 ^ 32 ≡ (y + (2 ^ 32 - previous)) % 2 ^ 32 =
    head_same ((x + (2 ^ 32 - previous)) % 2 ^ 32) ((y + (2 ^ 32 - previous)) % 2 ^ 32) (differences x xs) (differences y ys) e in
    let tail : differences x xs ≡ differences y ys =
    tail_same ((x + (2 ^ 32 - previous)) % 2 ^ 32) ((y + (2 ^ 32 - previous)) % 2 ^ 32) (differences x xs) (differences y ys) e in
    let same : x ≡ y = omega arith in
    let rest : xs ≡ ys = same_from_differences x xs ys (All-tail P x xs hx) (All-tail P y ys hy) (tail ∙ sym (ap (λ z. differences z ys) same)) in
    cc

pub same_block : (kind : Kind) (xs ys : List ℕ) → AreWords xs → AreWords ys → codes kind xs ≡ codes kind ys → xs ≡ ys
same_block Plain xs ys hx hy e = e
same_block (Sorted initial) xs ys hx hy e = same_from_differences initial xs ys hx hy e
same_block (StrictlySorted initial) xs ys hx hy e =
    same_from_differences (unwrap_or initial 4294967295) xs ys hx hy
    (sym (more-less (differences (unwrap_or initial 4294967295) xs) (AreWords-differences (unwrap_or initial 4294967295) xs))
    ∙ ap (map one_more) e
    ∙ more-less (differences (unwrap_or initial 4294967295) ys) (AreWords-differences (unwrap_or initial 4294967295) ys))

-- The values that are given for the codes of a layout are the block that the bytes hold.
pub Holds-values_of : (lanes width : ℕ) (kind : Kind) (values block bytes : List ℕ) → width ≤ 32 → start kind < 2 ^ 32
    → Layout lanes width values bytes → block ≡ values_of kind values → Holds lanes width kind block bytes
Holds-values_of lanes width kind values block bytes narrow small layout e =
    let words : AreWords values = λ k d lt.
    let fits : get_or values k d < 2 ^ width = layout.fits k d lt in
    let le : 2 ^ width ≤ 2 ^ 32 = pow_mono narrow in
    omega arith in
    rw (e, codes-values_of kind values small words) layout
