-- The size of a first slice is added, and 0 for a later one.
use Rattle.std.proofs.Common.{◌≡◌, ◌+◌, ◌%◌, ◌<◌, ◌≤◌, ◌∙◌, ℕ, List, ap, arith, bit_and, get_or, inl, inr, length, min, take}
use Rattle.std.proofs.lemmas.Bool.{cases_lt}
use Rattle.std.proofs.lemmas.Nat.{and_mask}
use Rattle.bitpack_slices.proofs.lemmas.bodies.CutLaws.{len_few, lens_more, lens_none}
use Rattle.bitpack_slices.proofs.chunk.search.size_of_first.Goals as goal
use Rattle.bitpack_slices.specs.Slices.{slice_len, slices_len}

-- a size with the mask of its slice
masked : (n size mask i many : ℕ) (counts : List ℕ) → i < length counts → size ≡ slice_len (get_or counts i 0 + 1) → (i < many → mask ≡ 255) → (many ≤ i → mask ≡ 0)
    → n ≡ slices_len (take (min i many) counts) → n + bit_and size mask ≡ slices_len (take (min (i + 1) many) counts)
masked n size mask i many counts lt e all none so_far =
    let few = len_few (get_or counts i 0 + 1) in
    elim (cases_lt i many) [
      | inl before ↦
          let own : bit_and size mask ≡ size % 256 = ap (bit_and size) (all before) ∙ and_mask size 8 in
          let next = lens_more counts i lt in
          let here : min i many ≡ i = omega arith in
          let there : min (i + 1) many ≡ i + 1 = omega arith in
          let a = ap (λ (k : ℕ). slices_len (take k counts)) here in
          let b = ap (λ (k : ℕ). slices_len (take k counts)) there in
          omega arith
      | inr after ↦
          let own : bit_and size mask ≡ size % 1 = ap (bit_and size) (none after) ∙ and_mask size 0 in
          let same : min i many ≡ min (i + 1) many = omega arith in
          let a = ap (λ (k : ℕ). slices_len (take k counts)) same in
          omega arith
    ]

masked_few : (size mask i many count : ℕ) → size ≡ slice_len count → (i < many → mask ≡ 255) → (many ≤ i → mask ≡ 0) → bit_and size mask ≤ 32
masked_few size mask i many count e all none =
    let few = len_few count in
    elim (cases_lt i many) [
      | inl before ↦ (let own : bit_and size mask ≡ size % 256 = ap (bit_and size) (all before) ∙ and_mask size 8 in omega arith)
      | inr after ↦ (let own : bit_and size mask ≡ size % 1 = ap (bit_and size) (none after) ∙ and_mask size 0 in omega arith)
    ]

pub loop-i-init : goal.loop-i-init
loop-i-init c =
    let first : min 0 c.args.many ≡ 0 = omega arith in
    let none = lens_none c.args.counts.now in
    let same = ap (λ (k : ℕ). slices_len (take k c.args.counts.now)) first in
    record { few = omega arith; passed = omega arith }

pub loop-i-preserved : goal.loop-i-preserved
loop-i-preserved c =
    let i : ℕ = c.loop-i.i in
    let counts : List ℕ = c.args.counts.now in
    let all = c.masks_of_first-masks.ensures.all i in
    let none = λ (after : c.args.many ≤ i). c.masks_of_first-masks.ensures.none i after (omega arith) in
    let few = masked_few c.size_of.result (get_or c.masks_of_first-masks.result.now i 0) i c.args.many (get_or counts i 0 + 1) c.size_of.ensures all none in
    record { few = omega arith; passed = masked c.loop-i.sum c.size_of.result (get_or c.masks_of_first-masks.result.now i 0) i c.args.many counts (omega arith) c.size_of.ensures all none c.loop-i.invariant.passed }

pub overflow_add-sum : goal.overflow_add-sum
overflow_add-sum c =
    let i : ℕ = c.loop-i.i in
    let none = λ (after : c.args.many ≤ i). c.masks_of_first-masks.ensures.none i after (omega arith) in
    let few = masked_few c.size_of.result (get_or c.masks_of_first-masks.result.now i 0) i c.args.many (get_or c.args.counts.now i 0 + 1) c.size_of.ensures (c.masks_of_first-masks.ensures.all i) none in
    omega arith

pub returns-clause-size : goal.returns-clause-size
returns-clause-size c =
    let all : min c.loop-i.i c.args.many ≡ c.args.many = omega arith in
    let same = ap (λ (k : ℕ). slices_len (take k c.args.counts.now)) all in
    omega arith
