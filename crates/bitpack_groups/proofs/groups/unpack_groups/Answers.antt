-- One group more is unpacked.
use Rattle.std.proofs.Common.{◌≡◌, ℕ, List, ◌+◌, ◌-◌, ◌*◌, ◌<◌, ◌≤◌, ◌++◌, min, None, length, take, drop, get_or, sym, ◌∙◌, ap, arith}
use Rattle.std.proofs.lemmas.List.{take_all, take_rest, append-nil, length-drop, length-take-le}
use Rattle.bitpack_groups.specs.Groups.{group_end, groups_fault, groups_of}
use Rattle.bitpack_groups.proofs.GroupLemmas.{group_fits}
use Rattle.bitpack_groups.proofs.GroupSteps.{codes_step, group_right, later_right, no_groups-codes}
use Rattle.bitpack_groups.proofs.groups.unpack_groups.Goals as goal

-- How many codes the group has, by the length of the slice.
count_is : (total long i count : ℕ) → long ≡ total → count ≡ min 32 (long - 32 * i) → count ≡ min 32 (total - 32 * i)
count_is total long i count same is = is ∙ ap (λ n. min 32 (n - 32 * i)) same

fits : (total long i block count : ℕ) (rest : List ℕ) → i < groups_of total → long ≡ total → count ≡ min 32 (long - 32 * i)
    → groups_fault (groups_of total - i) (block + i) (total - 32 * i) rest ≡ None → (get_or rest 0 0 ≤ 32) × (group_end count rest ≤ length rest)
fits total long i block count rest lt same is right =
    group_fits (block + i) count rest (group_right (groups_of total) block total i count rest lt (count_is total long i count same is) right)

pub unpack_group-end-requires-clause-width : goal.unpack_group-end-requires-clause-width
unpack_group-end-requires-clause-width c =
    let inv = c.loop-index.invariant in
    (fits (length c.args.codes.now) _ c.loop-index.index inv.right.0 _ c.loop-index.rest.now c.loop-index-test.true inv.long c.next_len-count.ensures inv.right.1).0

pub unpack_group-end-requires-clause-within : goal.unpack_group-end-requires-clause-within
unpack_group-end-requires-clause-within c =
    let inv = c.loop-index.invariant in
    (fits (length c.args.codes.now) _ c.loop-index.index inv.right.0 _ c.loop-index.rest.now c.loop-index-test.true inv.long c.next_len-count.ensures inv.right.1).1

pub loop-index-preserved : goal.loop-index-preserved
loop-index-preserved c =
    let total : ℕ = length c.args.codes.now in
    let groups : ℕ = groups_of total in
    let i : ℕ = c.loop-index.index in
    let k : ℕ = c.next_len-count.result in
    let end : ℕ = c.unpack_group-end.result in
    let rest : List ℕ = c.loop-index.rest.now in
    let codes : List ℕ = c.loop-index.codes in
    let new : List ℕ = c.copy_from_slice.new.self in
    let inv = c.loop-index.invariant in
    let lt : i < groups = c.loop-index-test.true in
    let is = count_is total _ i k inv.long c.next_len-count.ensures in
    let after : take (length rest - end) (drop end rest) ≡ drop (group_end k rest) rest = take_rest rest end ∙ ap (λ n. drop n rest) c.unpack_group-end.ensures.end in
    let size : 32 * i + k - 32 * i ≡ k = omega arith in
    let long : length new ≡ k =
    c.copy_from_slice.ensures.len ∙ ap (λ n. length (take n (drop (32 * i) codes))) size ∙ length-take-le k (drop (32 * i) codes) (omega (arith, length-drop (32 * i) codes)) in
    let step = codes_step total i k (32 * i + k - 32 * i) codes new rest _ _ lt is size inv.long long
    (c.copy_from_slice.ensures.after ∙ ap (take k) c.unpack_group-end.ensures.codes) after inv.codes in
    record {
      long = step.0;
      right = (
        inv.right.0,
        ap (groups_fault (groups - (i + 1)) (inv.right.0 + (i + 1)) (total - 32 * (i + 1))) after ∙ later_right groups inv.right.0 total i k rest lt is inv.right.1,
      );
      codes = step.1;
    }

pub returns : goal.returns
returns c =
    let total : ℕ = length c.args.codes.now in
    let i : ℕ = c.loop-index.index in
    let codes : List ℕ = c.loop-index.codes in
    let all : take (32 * i) codes ≡ codes = take_all (32 * i) codes (omega arith) in
    sym all ∙ sym (append-nil (take (32 * i) codes))
    ∙ ap (λ zs. take (32 * i) codes ++ zs) (sym (no_groups-codes (groups_of total) i (total - 32 * i) c.loop-index.rest.now (omega arith)))
    ∙ c.loop-index.invariant.codes
