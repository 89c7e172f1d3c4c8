-- One group more is written.
use Rattle.std.proofs.Common.{◌≡◌, ◌+◌, ◌-◌, ◌*◌, ◌^◌, ◌<◌, ◌≤◌, ◌++◌, ℕ, List, length, take, drop, refl, sym, ◌∙◌, ap, arith, append_assoc}
use Rattle.std.proofs.Math.Nat.{sub-zero}
use Rattle.std.proofs.lemmas.List.{append-nil, length-append, length-take-le}
use Rattle.std.proofs.lemmas.List.Elements.{All-drop, All-take}
use borrow.Rule.Slice.PartMut.{put_mid}
use Rattle.bitpacking.specs.Codes.{AreWords}
use Rattle.bitpacking.proofs.ForCallers.{AreWords-from_slice}
use Rattle.bitpack_groups.specs.Groups.{AreGroups, IsGroup, groups_of}
use Rattle.bitpack_groups.proofs.GroupSteps.{length-lent, lent_group, next_group, no_group}
use Rattle.bitpack_groups.proofs.GroupsLaws.{groups_exist, same_group}
use Rattle.bitpack_groups.proofs.SliceLemmas.{length-written, lent_after, take-put_end}
use Rattle.bitpack_groups.proofs.groups.write_groups.Goals as goal

pub loop-index-init : goal.loop-index-init
loop-index-init c = record { written = λ groups are. (groups, rw sub-zero are, refl); within = omega arith; long = refl }

-- The codes of a group, as the code lends them.
module _ (i count : ℕ) (codes part other : List ℕ) (words : AreWords codes) (some : 1 ≤ count) (few : count ≤ 32)
    (long : length (take (32 * i + count - 32 * i) (drop (32 * i) codes)) ≡ count)
    (lent : take (32 * i + count - 32 * i) (drop (32 * i) codes) ≡ take 32 (drop (32 * i) codes)) where
  group_is : IsGroup (take (32 * i + count - 32 * i) (drop (32 * i) codes)) part → IsGroup (take 32 (drop (32 * i) codes)) other → part ≡ other
  group_is one two =
      let is : List ℕ = take 32 (drop (32 * i) codes) in
      let size : length is ≡ count = ap length (sym lent) ∙ long in
      same_group is other part (omega (arith, size, some)) (omega (arith, size, few))
      (All-take (λ v. v < 2 ^ 32) 32 (drop (32 * i) codes) (All-drop (λ v. v < 2 ^ 32) (32 * i) codes words)) two (rw lent at one)

pub write_group-end-requires-clause-room : goal.write_group-end-requires-clause-room
write_group-end-requires-clause-room c = λ part group.
    let codes : List ℕ = c.args.codes.now in
    let i : ℕ = c.loop-index.index in
    let end : ℕ = c.loop-index.end in
    let bytes : List ℕ = c.loop-index.bytes in
    let before = c.loop-index.invariant in
    let count : ℕ = c.next_len-count.result in
    let groups : ℕ = groups_of (length codes) in
    let words : AreWords codes = AreWords-from_slice codes c.type_inv.codes in
    let long = length-lent i count codes c.next_len-count.ensures in
    let lent = lent_group i count codes c.next_len-count.ensures in
    let (all, small, are) = groups_exist groups codes (omega arith) (omega arith) words in
    let (later, left, items) = before.written all are in
    let (other, rest, parts, group', more) = next_group groups i codes later c.loop-index-test.true left in
    let same = group_is i count codes part other words (omega (arith, c.next_len-count.ensures)) (omega (arith, c.next_len-count.ensures)) long lent group group' in
    omega (
      arith,
      c.requires.room all are,
      before.long,
      lent_after end bytes,
      length-take-le end bytes before.within,
      ap length items,
      ap length same,
      ap length parts,
      length-append other rest,
      length-append (take end bytes) later,
    )

pub loop-index-preserved : goal.loop-index-preserved
loop-index-preserved c =
    let codes : List ℕ = c.args.codes.now in
    let i : ℕ = c.loop-index.index in
    let end : ℕ = c.loop-index.end in
    let bytes : List ℕ = c.loop-index.bytes in
    let before = c.loop-index.invariant in
    let count : ℕ = c.next_len-count.result in
    let added : ℕ = c.write_group-end.result in
    let new : List ℕ = c.write_group-end.new.bytes in
    let part : List ℕ = take added new in
    let words : AreWords codes = AreWords-from_slice codes c.type_inv.codes in
    let long : length new ≡ length bytes - end = c.write_group-end.auto.bytes ∙ lent_after end bytes in
    let written : take (end + added) (put_mid end (length bytes - end) bytes new) ≡ take end bytes ++ part = take-put_end end added bytes new before.within long in
    let unchanged : length (put_mid end (length bytes - end) bytes new) ≡ length bytes =
    length-written end (length bytes - end) bytes new before.within long (omega (arith, before.within)) in
    record {
      written = λ groups are.
          let (later, left, items) = before.written groups are in
          let (other, rest, parts, group', more) = next_group (groups_of (length codes)) i codes later c.loop-index-test.true left in
          let same = group_is i count codes part other words (omega (arith, c.next_len-count.ensures)) (omega (arith, c.next_len-count.ensures))
          (length-lent i count codes c.next_len-count.ensures) (lent_group i count codes c.next_len-count.ensures) c.write_group-end.ensures.group group' in (
            rest,
            more,
            ap (λ zs. zs ++ rest) (written ∙ ap (λ zs. take end bytes ++ zs) same) ∙ append_assoc (take end bytes) other rest
                ∙ ap (λ zs. take end bytes ++ zs) (sym parts) ∙ items,
          );
      within = omega (arith, unchanged, long, before.within, c.write_group-end.ensures.within);
      long = unchanged ∙ before.long;
    }

-- After the last group, what is written is all of them.
pub returns : goal.returns
returns c =
    let codes : List ℕ = c.args.codes.now in
    let end : ℕ = c.loop-index.end in
    let bytes : List ℕ = c.loop-index.bytes in
    let done : (groups : List ℕ) → AreGroups (groups_of (length codes)) codes groups → take end bytes ≡ groups = λ groups are.
    let (later, left, items) = c.loop-index.invariant.written groups are in
    let none = no_group (groups_of (length codes)) c.loop-index.index (drop (32 * c.loop-index.index) codes) later (omega arith) left in
    sym (append-nil (take end bytes)) ∙ ap (λ zs. take end bytes ++ zs) (sym none) ∙ items in
    let size : (groups : List ℕ) → AreGroups (groups_of (length codes)) codes groups → end ≡ length groups = λ groups are.
    sym (length-take-le end bytes c.loop-index.invariant.within) ∙ ap length (done groups are) in
    let (all, small, are) = groups_exist (groups_of (length codes)) codes (omega arith) (omega arith) (AreWords-from_slice codes c.type_inv.codes) in
    record {
      run = rw (done all are) are;
      groups = λ groups are'. ap (λ n. take n bytes) (sym (size groups are')) ∙ done groups are';
      len = size;
      within = c.loop-index.invariant.within;
    }
