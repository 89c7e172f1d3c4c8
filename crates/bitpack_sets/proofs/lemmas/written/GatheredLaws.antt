-- A directory that is written before bodies which are moved: sums of values one after the other, and what is behind them.
use Rattle.std.proofs.Common.{◌≡◌, ℕ, ◌+◌, ◌-◌, ◌*◌, ◌<◌, ◌≤◌, List, ◌++◌, length, get_or, take, drop, add-mul, sym, ap, ◌∙◌, arith, subst, append-nil, drop_at, drop-drop}
use Rattle.std.specs.List.{copy_within, flat_map, sum}
use Rattle.std.proofs.lemmas.List.{drop_all, drop_more, length-take-le}
use Rattle.std.proofs.lemmas.List.Sums.{sum_by-cons}
use Rattle.bitpack_groups.proofs.ForCallers.{IsFilled, fill_done, fill_more, fill_room, fill_start, little_len, product_more}
use Rattle.bitpack_slices.proofs.ForCallers.{flat_len}
use Rattle.bitpack_slices.specs.Bodies.{le_bytes}
use Rattle.bitpack_sets.proofs.lemmas.encodings.LongLaws.{sums_len}
use Rattle.bitpack_sets.proofs.lemmas.written.DirectoryFilled.{next_sum, no_sums}
use Rattle.bitpack_sets.specs.Sets.{sums}

-- ---- the sums of values

-- the sums of the values from an index on are still to be written
pub record SumsLeft (size : ℕ) (values : List ℕ) (index before : ℕ) (out : List ℕ) : Type 0 where
  pub within : index ≤ length values
  pub total_is : before + sum (drop index values) ≡ sum values
  pub filled : IsFilled out (size * index) (flat_map (le_bytes size) (sums before (drop index values))) (flat_map (le_bytes size) (sums 0 values))

pub sums_start : (size : ℕ) (values out : List ℕ) → length out ≡ size * length values → SumsLeft size values 0 0 out
sums_start size values out long =
    let none : 0 ≡ size * 0 = omega arith in
    let all : List ℕ = flat_map (le_bytes size) (sums 0 values) in
    let many = ap (λ (n : ℕ). size * n) (sums_len 0 values) in
    let whole : length out ≡ length all = long ∙ sym many ∙ sym (flat_len size (sums 0 values)) in
    record { within = omega arith; total_is = omega arith; filled = subst (λ (n : ℕ). IsFilled out n all all) none (fill_start out all whole) }

module _ (size : ℕ) (values : List ℕ) (index before : ℕ) (out : List ℕ) (left : SumsLeft size values index before out) where
  module _ (lt : index < length values) where
    abbrev x : ℕ
    x = get_or values index 0

    abbrev later : List ℕ
    later = drop (index + 1) values

    next_values : sum (drop index values) ≡ x + sum later
    next_values = ap sum (drop_more values index 0 lt) ∙ sum_by-cons (λ (n : ℕ). n) x later

    pub sums_small : before + x ≤ sum values
    sums_small = let a = left.total_is in let b = next_values in omega arith

    next_filled : IsFilled out (size * index) (le_bytes size (before + x) ++ flat_map (le_bytes size) (sums (before + x) later)) (flat_map (le_bytes size) (sums 0 values))
    next_filled = subst (λ (l : List ℕ). IsFilled out (size * index) (flat_map (le_bytes size) l) (flat_map (le_bytes size) (sums 0 values)))
        (ap (sums before) (drop_more values index 0 lt) ∙ next_sum before x later) left.filled

    pub sums_room : size * index + size ≤ length out
    sums_room =
        let a = fill_room out (size * index) (le_bytes size (before + x)) _ _ next_filled in
        let b = little_len size (before + x) in
        omega arith

    pub sums_more : (new : List ℕ) → length new ≡ length out → take (size * (index + 1)) new ≡ take (size * index) out ++ le_bytes size (before + x)
        → SumsLeft size values (index + 1) (before + x) new
    sums_more new long is =
        let a = left.total_is in
        let b = next_values in
        let d = product_more size index in
        let f = little_len size (before + x) in record {
          within = omega arith;
          total_is = omega arith;
          filled = fill_more out new (size * index) (size * (index + 1)) (le_bytes size (before + x)) _ _ next_filled long is (omega arith);
        }

  pub sums_done : length values ≤ index → out ≡ flat_map (le_bytes size) (sums 0 values)
  sums_done done = fill_done out (size * index) (flat_map (le_bytes size) (sums 0 values))
      (subst (λ (l : List ℕ). IsFilled out (size * index) (flat_map (le_bytes size) l) (flat_map (le_bytes size) (sums 0 values)))
      (ap (sums before) (drop_all index values done) ∙ no_sums before) left.filled)

-- ---- what is moved

-- the first bytes are at the end after they were copied there
pub moved : (size start : ℕ) (out new : List ℕ) → start + size ≡ length out → new ≡ copy_within out 0 size start → drop start new ≡ take size out
moved size start out new all is =
    let none : size - 0 ≡ size = omega arith in
    let front : length (take start out) ≡ start = length-take-le start out (omega arith) in
    let parts : new ≡ take start out ++ take size out ++ drop (start + size) out = is ∙ ap (λ (n : ℕ). take start out ++ take n out ++ drop (start + n) out) none in
    let whole : new ≡ take start out ++ take size out =
    parts ∙ ap (λ (l : List ℕ). take start out ++ take size out ++ l) (drop_all (start + size) out (omega arith)) ∙ append-nil (take start out ++ take size out) in
    ap (drop start) whole ∙ drop_at (take start out) (take size out) start front

-- what is behind four parts
pub behind_four : (a b d f : ℕ) (all rest others after : List ℕ) → rest ≡ drop a all → others ≡ drop b rest → after ≡ drop d others → drop f after ≡ drop (a + b + d + f) all
behind_four a b d f all rest others after one two three =
    let others_is : others ≡ drop (a + b) all = two ∙ ap (drop b) one ∙ drop-drop b a all in
    let after_is : after ≡ drop (a + b + d) all = three ∙ ap (drop d) others_is ∙ drop-drop d (a + b) all in
    ap (drop f) after_is ∙ drop-drop f (a + b + d) all

pub three_times : (e z n : ℕ) → (2 + e + z) * n ≡ 2 * n + e * n + z * n
three_times e z n = add-mul (2 + e) z n ∙ ap (λ (m : ℕ). m + z * n) (add-mul 2 e n)

-- five parts are one after the other
pub five_joined : (a a' b b' d d' f f' t t' : List ℕ) → a ≡ a' → b ≡ b' → d ≡ d' → f ≡ f' → t ≡ t' → a ++ (b ++ (d ++ (f ++ t))) ≡ a' ++ (b' ++ (d' ++ (f' ++ t')))
five_joined a a' b b' d d' f f' t t' ea eb ed ef et = λ i. ea i ++ (eb i ++ (ed i ++ (ef i ++ et i)))
