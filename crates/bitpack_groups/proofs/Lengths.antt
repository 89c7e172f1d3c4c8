-- How long numbers and groups can be: no number has more than five bytes, and no group more than a byte beside its codes.
use Rattle.std.proofs.Common.{◌≡◌, ℕ, zero, suc, ◌+◌, ◌/◌, ◌%◌, ◌^◌, ◌<◌, [], length, take, drop, ap, arith, inl, inr}
use Rattle.std.proofs.lemmas.Bool.{cases_lt, le-ltb, lt-ltb}
use Rattle.std.proofs.lemmas.List.{length-append, length-drop, length-take}
use Rattle.std.proofs.lemmas.List.Elements.{All-drop, All-take}
use Rattle.std.proofs.lemmas.Nat.{mul-le}
use Rattle.bitpacking.specs.Bits.{AreBytes}
use Rattle.bitpacking.proofs.ForCallers.{one_least_width}
use Rattle.bitpack_groups.specs.Groups.{group_size}
use Rattle.bitpack_groups.specs.Laws.{LongestGroup, LongestGroups, LongestNumber}
use Rattle.bitpack_groups.specs.Numbers.{number_in}
use Rattle.bitpack_groups.proofs.ByteLemmas.{AreBytes-cons, AreBytes-nil}
use Rattle.bitpack_groups.proofs.NumberLemmas.{length-number_in}

pub AreBytes-number_in : (more x : ℕ) → AreBytes (number_in more x)
unfolding number_in
AreBytes-number_in zero x = AreBytes-nil
AreBytes-number_in (suc more) x =
    elim (cases_lt x 128) [
      | inl small ↦ rw (lt-ltb x 128 small) (AreBytes-cons x [] (omega arith) AreBytes-nil)
      | inr large ↦ rw (le-ltb x 128 large) (AreBytes-cons (x % 128 + 128) (number_in more (x / 128)) (omega arith) (AreBytes-number_in more (x / 128)))
    ]

pub longest_number : LongestNumber
longest_number x = length-number_in 5 x

pub longest_group : LongestGroup
longest_group codes part few words group =
    let (width, narrow, least, only) = one_least_width codes words in
    let same : group.width ≡ width = only group.width group.least in
    let bits = mul-le (length codes) group.width (length codes) 32 (omega arith) (omega (arith, same, narrow)) in
    omega (arith, bits, ap length group.parts, length-take (group_size (length codes) group.width) group.body)

pub longest_groups : LongestGroups
longest_groups zero codes bytes words (none, none') = omega (arith, ap length none')
longest_groups (suc groups) codes bytes words (part, rest, parts, group, more) =
    let first = longest_group (take 32 codes) part (omega (arith, length-take 32 codes)) (All-take (λ v. v < 2 ^ 32) 32 codes words) group in
    let others = longest_groups groups (drop 32 codes) rest (All-drop (λ v. v < 2 ^ 32) 32 codes words) more in
    omega (arith, first, others, ap length parts, length-append part rest, length-take 32 codes, length-drop 32 codes)
