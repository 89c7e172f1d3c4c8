-- One group more is counted.
use Rattle.std.proofs.Common.{◌≡◌, ◌+◌, ◌-◌, ◌*◌, ◌<◌, ◌≤◌, min, ℕ, List, length, take, drop, sym, ◌∙◌, ap, arith}
use Rattle.std.proofs.Math.Nat.{sub-zero}
use Rattle.std.proofs.lemmas.List.{length-append}
use Rattle.bitpacking.specs.Codes.{AreWords}
use Rattle.bitpacking.specs.Width.{Least}
use Rattle.bitpacking.proofs.ForCallers.{AreWords-from_slice}
use Rattle.bitpack_groups.specs.Groups.{AreGroups, IsGroup, group_size, groups_of}
use Rattle.bitpack_groups.proofs.GroupSteps.{length-lent, lent_group, next_group, no_group}
use Rattle.bitpack_groups.proofs.GroupLemmas.{length-group}
use Rattle.bitpack_groups.proofs.GroupsLaws.{groups_exist}
use Rattle.bitpack_groups.proofs.Lengths.{longest_groups}
use Rattle.bitpack_groups.proofs.groups.groups_len.Goals as goal

-- How long the next group is, as the code measures it.
module _ (i count width : ℕ) (codes : List ℕ) (is : count ≡ min 32 (length codes - 32 * i)) (few : count ≤ 32)
    (least : Least (take (32 * i + count - 32 * i) (drop (32 * i) codes)) width) where
  next_length : (part : List ℕ) → IsGroup (take 32 (drop (32 * i) codes)) part → length part ≡ 1 + group_size count width
  next_length part group =
      let lent = lent_group i count codes is in
      let long : length (take 32 (drop (32 * i) codes)) ≡ count = ap length (sym lent) ∙ length-lent i count codes is in
      length-group (take 32 (drop (32 * i) codes)) part width (omega (arith, long, few)) (rw lent at least) group ∙ ap (λ n. 1 + group_size n width) long

  counted_next : (groups len : ℕ) (all : List ℕ) → i < groups
      → (later : List ℕ) × AreGroups (groups - i) (drop (32 * i) codes) later × (len + length later ≡ length all)
      → (later : List ℕ) × AreGroups (groups - (i + 1)) (drop (32 * (i + 1)) codes) later × (len + (1 + group_size count width) + length later ≡ length all)
  counted_next groups len all lt (later, left, items) =
      let (part, rest, parts, group, more) = next_group groups i codes later lt left in
      (rest, more, omega (arith, next_length part group, items, ap length parts, length-append part rest))

pub loop-index-init : goal.loop-index-init
loop-index-init c = record { counted = λ groups are. (groups, rw sub-zero are, omega arith); few = omega arith }

pub loop-index-preserved : goal.loop-index-preserved
loop-index-preserved c =
    let codes : List ℕ = c.args.codes.now in
    let groups : ℕ = groups_of (length codes) in
    let i : ℕ = c.loop-index.index in
    let count : ℕ = c.next_len-count.result in
    let width : ℕ = c.least_width-width.result in
    let words : AreWords codes = AreWords-from_slice codes c.type_inv.codes in
    let next : (all : List ℕ) → AreGroups groups codes all
    → (later : List ℕ) × AreGroups (groups - (i + 1)) (drop (32 * (i + 1)) codes) later × (c.loop-index.len + (1 + group_size count width) + length later ≡ length all)
    = λ all are. counted_next i count width codes c.next_len-count.ensures (omega (arith, c.next_len-count.ensures)) c.least_width-width.ensures.width groups c.loop-index.len all
    c.loop-index-test.true (c.loop-index.invariant.counted all are) in
    let (all, small, are) = groups_exist groups codes (omega arith) (omega arith) words in
    rw c.group_size.ensures.size
    (record {
      counted = next;
      few = omega (arith, (next all are).2, longest_groups groups codes all words are);
    })

pub returns : goal.returns
returns c =
    let codes : List ℕ = c.args.codes.now in
    record {
      len = λ groups are.
          let (later, left, items) = c.loop-index.invariant.counted groups are in
          let none = no_group (groups_of (length codes)) c.loop-index.index (drop (32 * c.loop-index.index) codes) later (omega arith) left in
          omega (arith, items, ap length none);
      few = c.loop-index.invariant.few;
    }
