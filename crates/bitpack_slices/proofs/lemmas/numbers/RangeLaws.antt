-- Numbers from a position on.
use Rattle.std.proofs.Common.{◌≡◌, ℕ, ◌+◌, ◌-◌, ◌*◌, ◌<◌, ◌≤◌, List, ◌++◌, map, take, drop, length, min, get_or, sym, ap, ◌∙◌, arith, inl, inr, length-drop, zero, suc, [], ◌∷◌}
use borrow.Rule.Slice.PartMut.{put_mid}
use Rattle.std.specs.List.{drop-map, take-map}
use Rattle.std.proofs.Math.Nat.{le-min, min-le_left}
use Rattle.std.proofs.Math.Seq.{take-add}
use Rattle.std.proofs.lemmas.Bool.{cases_lt}
use Rattle.std.proofs.lemmas.List.{drop-append-le, drop-drop, length-map, take-append-drop, take-append-le}
use Rattle.std.proofs.lemmas.Slice.{take-put_mid}
use Rattle.bitpack_slices.proofs.lemmas.bodies.BlockReads.{build_at, build_total, slice_there}
use Rattle.bitpack_slices.proofs.lemmas.bodies.JoinLaws.{build, join, numbers_built}
use Rattle.bitpack_slices.proofs.lemmas.bodies.CutLaws.{lens_more}
use Rattle.bitpack_slices.proofs.lemmas.numbers.JoinReads.{none}
use Rattle.bitpack_slices.proofs.lemmas.bodies.LongLaws.{counts, total}
use Rattle.bitpack_slices.proofs.lemmas.bits.RaisedLaws.{map_raised}
use Rattle.bitpack_slices.proofs.lemmas.bodies.ReadLaws.{slice_at}
use Rattle.bitpack_slices.proofs.lemmas.numbers.SelectLaws.{build_first, build_long, join_drop, numbers_more, slice_within}
use Rattle.bitpack_slices.specs.Slices.{AreSlices, numbers_in, numbers_of, slice_len, slices_len}
use Rattle.bitpack_slices.proofs.lemmas.bits.OnesLaws.{rising_lower}
use Rattle.bitpack_slices.specs.Bodies.{IsRising}

-- ---- lists

pub map_range : (f : ℕ → ℕ) (n from : ℕ) (xs : List ℕ) → take n (drop from (map f xs)) ≡ map f (take n (drop from xs))
map_range f n from xs = ap (take n) (drop-map f from xs) ∙ take-map f n (drop from xs)

-- some of those that begin a list
pub front_range : (r n from : ℕ) (out xs : List ℕ) → take r out ≡ xs → from + n ≤ length xs → take n (drop from out) ≡ take n (drop from xs)
front_range r n from out xs e h =
    let size : n ≤ length (drop from xs) = omega (arith, length-drop from xs) in
    ap (λ (l : List ℕ). take n (drop from l)) (sym (take-append-drop r out) ∙ ap (λ (l : List ℕ). l ++ drop r out) e)
    ∙ ap (take n) (drop-append-le from xs (drop r out) (omega arith)) ∙ take-append-le n (drop from xs) (drop r out) size

-- a part more is written
pub part_written : (next wanted k from : ℕ) (out part xs : List ℕ) → next ≤ length out → length part ≡ wanted → take next out ≡ take next (drop from xs)
    → part ≡ take wanted (drop (from + next) xs) → take (next + wanted) (put_mid next k out part) ≡ take (next + wanted) (drop from xs)
part_written next wanted k from out part xs within size so_far e =
    take-put_mid next k out part (next + wanted) (omega arith) within ∙ ap (λ (l : List ℕ). l ++ part) so_far
    ∙ ap (λ (l : List ℕ). take next (drop from xs) ++ l) (e ∙ ap (take wanted) (sym (drop-drop next from xs))) ∙ sym (take-add next wanted (drop from xs))

pub min_less : (a b : ℕ) → min a b < b → min a b ≡ a
min_less a b less = elim (cases_lt a b) [
  | inl below ↦ (let low = min-le_left a b in let high : a ≤ min a b = le-min (omega arith) (omega arith) in omega arith)
  | inr above ↦ (let high : b ≤ min a b = le-min above (omega arith) in absurd (omega arith))
]

-- ---- parts

-- some numbers of a part
pub join_range : (base i from n : ℕ) (ps : List (ℕ × List ℕ)) → i < length ps → from + n ≤ length (get_or ps i none).1
    → take n (drop (total (take i (counts ps)) + from) (join base ps)) ≡ map (λ low. (get_or ps i none).0 * base + low) (take n (drop from (get_or ps i none).1))
join_range base i from n ps lt few =
    let xs : List ℕ = (get_or ps i none).1 in
    let f : ℕ → ℕ = λ low. (get_or ps i none).0 * base + low in
    let size : length (map f (drop from xs)) ≡ length (drop from xs) = length-map (drop from xs) f in
    ap (take n) (join_drop base i from ps lt (omega arith)) ∙ take-append-le n (map f (drop from xs)) (join base (drop (i + 1) ps)) (omega (arith, length-drop from xs))
    ∙ take-map f n (drop from xs)

-- some numbers of a slice
pub slice_range : (base i from n position : ℕ) (hs cs bytes : List ℕ) → length hs ≡ length cs → AreSlices cs bytes → i < length cs → from + n ≤ get_or cs i 0 + 1
    → numbers_in (take i cs) + from ≡ position
    → take n (drop position (map (λ j. base + j) (numbers_of hs cs bytes))) ≡ map (λ j. base + 256 * get_or hs i 0 + j) (take n (drop from (slice_at i cs bytes)))
slice_range base i from n position hs cs bytes size are lt few e =
    let ps : List (ℕ × List ℕ) = build hs cs bytes in
    let f : List ℕ → List ℕ = map (λ j. base + j) in
    let here : (get_or ps i none).1 ≡ slice_at i cs bytes = build_at i hs cs bytes size lt in
    let own : length (slice_at i cs bytes) ≡ get_or cs i 0 + 1 = (slice_there i cs bytes are lt).count_is in
    let long = build_long hs cs bytes size in
    let same = ap length here in
    let some : List ℕ = take n (drop from (slice_at i cs bytes)) in
    let turned : base + get_or hs i 0 * 256 ≡ base + 256 * get_or hs i 0 = omega arith in
    map_range (λ j. base + j) n position (numbers_of hs cs bytes) ∙ ap (λ (l : List ℕ). f (take n (drop position l))) (numbers_built hs cs bytes)
    ∙ ap (λ (k : ℕ). f (take n (drop k (join 256 ps)))) (sym e ∙ ap (λ (k : ℕ). k + from) (sym (build_total i hs cs bytes size are)))
    ∙ ap f (join_range 256 i from n ps (omega arith) (omega arith))
    ∙ ap (λ (k : ℕ). f (map (λ low. k * 256 + low) (take n (drop from (get_or ps i none).1)))) (build_first i hs cs bytes size lt)
    ∙ ap (λ (l : List ℕ). f (map (λ low. get_or hs i 0 * 256 + low) (take n (drop from l)))) here
    ∙ map_raised base (get_or hs i 0 * 256) some ∙ ap (λ (k : ℕ). map (λ j. k + j) some) turned

-- ---- where a loop is

-- a position among the numbers of slices
pub record AtSlice (counts : List ℕ) (index left offset position : ℕ) : Type 0 where
  pub within : index < length counts
  pub own : left ≤ get_or counts index 0
  pub offset_is : offset ≡ slices_len (take index counts)
  pub passed : numbers_in (take index counts) + left ≡ position

pub slice_passed : (counts : List ℕ) (index left offset position wanted size : ℕ) → AtSlice counts index left offset position → size ≡ slice_len (get_or counts index 0 + 1)
    → wanted ≡ get_or counts index 0 + 1 - left → position + wanted < numbers_in counts → AtSlice counts (index + 1) 0 (offset + size) (position + wanted)
slice_passed counts index left offset position wanted size at s w less =
    let own = at.own in
    let offset_is = at.offset_is in
    let passed = at.passed in
    let lens = lens_more counts index at.within in
    let more = numbers_more counts index at.within in
    let next : numbers_in (take (index + 1) counts) + 0 ≡ position + wanted = omega arith in
    record { within = slice_within counts (index + 1) 0 (position + wanted) next less; own = omega arith; offset_is = omega arith; passed = next }

-- ---- increasing ids from a position on, position by position

pub rising_drop : (low high i : ℕ) (xs : List ℕ) → IsRising low high xs → IsRising low high (drop i xs)
rising_drop low high zero xs r = r
rising_drop low high (suc i) [] r = r
rising_drop low high (suc i) (x ∷ xs) (a, r) = rising_lower (x + 1) low high (drop i xs) (omega arith) (rising_drop (x + 1) high i xs r)
