-- The value at the index is the last of the values of the first codes.
use Rattle.std.proofs.Common.{◌≡◌, ◌+◌, ◌-◌, ◌%◌, ◌^◌, ◌<◌, ℕ, List, length, take, get_or, sym, ◌∙◌, ap, refl, arith}
use Rattle.std.specs.Prelude.{unwrap_or}
use Rattle.std.proofs.lemmas.List.{get_or-take, length-take}
use Rattle.bitpacking.specs.declared.kind.Kind.{Kind}
use Rattle.bitpacking.specs.Codes.{values_of}
use Rattle.bitpack_lists.specs.inner.CodeSteps.{sums}
use Rattle.bitpack_lists.proofs.lemmas.opened.TailFronts.{values_of-take}
use Rattle.bitpack_lists.proofs.lemmas.blocks.CodeLemmas.{sums-sorted, sums-strict}
use Rattle.bitpack_lists.proofs.opened.getting.value_of_codes.Goals as goal

-- What the sums of the first codes end with is the value at the index of all.
ends : (kind : Kind) (before more index result : ℕ) (codes : List ℕ) → index < length codes
    → sums before more (take (index + 1) codes) ≡ values_of kind (take (index + 1) codes)
    → result ≡ get_or (sums before more (take (index + 1) codes)) (length (take (index + 1) codes) - 1) 0
    → result ≡ get_or (values_of kind codes) index 0
ends kind before more index result codes lt same is =
    let last : length (take (index + 1) codes) - 1 ≡ index = omega (arith, length-take (index + 1) codes, lt) in
    is ∙ ap (λ i. get_or (sums before more (take (index + 1) codes)) i 0) last
    ∙ ap (λ vs. get_or vs index 0) (same ∙ values_of-take kind (index + 1) codes)
    ∙ get_or-take (index + 1) (values_of kind codes) index 0 (omega arith)

pub returns-in-Sorted : goal.returns-in-Sorted
returns-in-Sorted c =
    let codes = c.args.codes.now in
    ends c.args.kind c.in-Sorted.initial 0 c.args.index c.last_sum.result codes c.requires
    (sums-sorted c.in-Sorted.initial c.in-Sorted.initial (take (c.args.index + 1) codes) refl
    ∙ ap (λ k. values_of k (take (c.args.index + 1) codes)) (sym c.in-Sorted.is)) c.last_sum.ensures

pub returns-in-StrictlySorted : goal.returns-in-StrictlySorted
returns-in-StrictlySorted c =
    let codes = c.args.codes.now in
    let start : ℕ = unwrap_or c.in-StrictlySorted.initial 4294967295 in
    ends c.args.kind c.unwrap_or.result 1 c.args.index c.last_sum-in-StrictlySorted.result codes c.requires
    (sums-strict c.unwrap_or.result start (take (c.args.index + 1) codes) (ap (λ n. n % 2 ^ 32) c.unwrap_or.ensures)
    ∙ ap (λ k. values_of k (take (c.args.index + 1) codes)) (sym c.in-StrictlySorted.is)) c.last_sum-in-StrictlySorted.ensures
