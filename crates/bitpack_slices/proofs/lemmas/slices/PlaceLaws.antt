-- A place among slices, and those after it.
use Rattle.std.proofs.Common.{◌≡◌, ℕ, ◌+◌, ◌-◌, ◌<◌, ◌≤◌, ◌/◌, ◌%◌, Bool, true, false, List, ◌++◌, ap, arith, drop, length, length-drop, refl, sym, take, take-add, ◌∙◌}
use Rattle.std.proofs.lemmas.List.{drop-drop, length-take-le}
use Rattle.bitpack_slices.proofs.lemmas.bodies.BlockReads.{numbers_few, rank_not_there, rank_there, slice_there}
use Rattle.bitpack_slices.proofs.lemmas.bodies.CutLaws.{lens_append}
use Rattle.bitpack_slices.proofs.lemmas.bodies.ReadLaws.{rank_le, slice_at}
use Rattle.bitpack_slices.proofs.lemmas.bodies.TestLaws.{bytes_taken}
use Rattle.bitpack_slices.proofs.lemmas.bytes.Bytes.{EachByte}
use Rattle.bitpack_slices.proofs.lemmas.numbers.SelectLaws.{numbers_all, numbers_more, numbers_step}
use Rattle.bitpack_slices.specs.Bodies.{IsRising}
use Rattle.bitpack_slices.specs.Reads.{has, rank}
use Rattle.bitpack_slices.specs.Slices.{AreSlices, numbers_in, numbers_of, slices_len}

-- the sizes and counts of the slices between two
pub lens_passed : (counts : List ℕ) (i j : ℕ) → i ≤ j → slices_len (take j counts) ≡ slices_len (take i counts) + slices_len (take (j - i) (drop i counts))
lens_passed counts i j le =
    let e : j ≡ i + (j - i) = omega arith in
    ap (λ (n : ℕ). slices_len (take n counts)) e ∙ ap slices_len (take-add i (j - i) counts) ∙ lens_append (take i counts) (take (j - i) (drop i counts))

pub numbers_passed : (counts : List ℕ) (i j : ℕ) → i ≤ j → numbers_in (take j counts) ≡ numbers_in (take i counts) + numbers_in (take (j - i) (drop i counts))
numbers_passed counts i j le =
    let e : j ≡ i + (j - i) = omega arith in
    ap (λ (n : ℕ). numbers_in (take n counts)) e ∙ numbers_step counts i (j - i)

pub numbers_left : (counts : List ℕ) (i : ℕ) → i ≤ length counts → numbers_in counts ≡ numbers_in (take i counts) + numbers_in (drop i counts)
numbers_left counts i le =
    let passed = numbers_passed counts i (length counts) le in
    let all = numbers_all counts (length counts) (omega arith) in
    let rest = numbers_all (drop i counts) (length counts - i) (omega (arith, length-drop i counts)) in
    omega arith

pub numbers_few_to : (counts : List ℕ) (i : ℕ) → EachByte counts → i ≤ length counts → length counts ≤ 256 → numbers_in (take i counts) ≤ 65536
numbers_few_to counts i are le few =
    let most = numbers_few (take i counts) (bytes_taken i counts are) in
    let long = length-take-le i counts le in
    omega arith

-- more numbers are written
pub more_written : (next wanted from end : ℕ) (old new part xs : List ℕ) → end ≡ next + wanted → take end new ≡ take next old ++ part → take next old ≡ take next (drop from xs)
    → part ≡ take wanted (drop (from + next) xs) → take end new ≡ take end (drop from xs)
more_written next wanted from end old new part xs e written so_far is =
    written ∙ ap (λ (l : List ℕ). l ++ part) so_far ∙ ap (λ (l : List ℕ). take next (drop from xs) ++ l) (is ∙ ap (take wanted) (sym (drop-drop next from xs)))
    ∙ sym (take-add next wanted (drop from xs)) ∙ ap (λ (n : ℕ). take n (drop from xs)) (sym e)

-- numbers whose high byte is that of a slice, or before it, are not after the next slice
pub rank_before : (x i j : ℕ) (hs cs bytes : List ℕ) → length hs ≡ length cs → IsRising 0 256 hs → AreSlices cs bytes → i ≡ rank (x / 256) hs → i < j → j ≤ length cs
    → rank x (numbers_of hs cs bytes) ≤ numbers_in (take j cs)
rank_before x i j hs cs bytes size r are e less within = by_byte (has (x / 256) hs) refl
  where
    passed : numbers_in (take j cs) ≡ numbers_in (take i cs) + numbers_in (take (j - i) (drop i cs))
    passed = numbers_passed cs i j (omega arith)

    by_byte : (there : Bool) → has (x / 256) hs ≡ there → rank x (numbers_of hs cs bytes) ≤ numbers_in (take j cs)
    by_byte false h = let none = rank_not_there x i hs cs bytes size r are e h in omega (arith, passed)
    by_byte true h =
        let some = rank_there x i hs cs bytes size r are (omega arith) e h in
        let own = rank_le (x % 256) (slice_at i cs bytes) in
        let long = (slice_there i cs bytes are (omega arith)).count_is in
        let more = numbers_more cs i (omega arith) in
        let next = numbers_passed cs (i + 1) j (omega arith) in
        omega arith
