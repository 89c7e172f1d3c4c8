-- One group more is tested, and its codes are written.
use Rattle.std.proofs.Common.{◌≡◌, ℕ, List, ◌+◌, ◌-◌, ◌*◌, ◌<◌, ◌++◌, min, Some, length, take, drop, sym, ◌∙◌, ap, arith}
use Rattle.std.proofs.lemmas.List.{take_all, take_rest, append-nil, length-drop, length-take-le}
use Rattle.std.proofs.lemmas.Result.{err_from_is_err_and}
use Rattle.bitpack_groups.specs.Groups.{after_groups, group_end, groups_fault, groups_of}
use Rattle.bitpack_groups.proofs.GroupSteps.{after-next, codes_step, fault-here, fault-next, no_groups-after, no_groups-codes, no_groups-fault}
use Rattle.bitpack_groups.proofs.groups.test_groups.Goals as goal

-- How many codes the group has, by the length of the slice.
count_is : (total long i count : ℕ) → long ≡ total → count ≡ min 32 (long - 32 * i) → count ≡ min 32 (total - 32 * i)
count_is total long i count same is = is ∙ ap (λ n. min 32 (n - 32 * i)) same

pub returns-in_err-end-clause-fault : goal.returns-in_err-end-clause-fault
returns-in_err-end-clause-fault c =
    let total : ℕ = length c.args.codes.now in
    let count = count_is total _ c.loop-index.index c.next_len-count.result c.loop-index.invariant.long c.next_len-count.ensures in
    let here = fault-here (groups_of total) c.args.block total c.loop-index.index c.next_len-count.result c.loop-index.rest.now c.loop-index-test.true
    count c.in_err-end.field-0.0 c.in_err-end.ensures.fault in
    let first : groups_fault (groups_of total) c.args.block total c.args.bytes.now ≡ Some c.in_err-end.field-0.0 = c.loop-index.invariant.fault ∙ here in
    let p = err_from_is_err_and c.from_residual.result c.from_residual.ensures.1 in
    rw (p.1, p.2) first

pub loop-index-preserved : goal.loop-index-preserved
loop-index-preserved c =
    let total : ℕ = length c.args.codes.now in
    let groups : ℕ = groups_of total in
    let i : ℕ = c.loop-index.index in
    let k : ℕ = c.next_len-count.result in
    let end : ℕ = c.in_ok-end.end in
    let rest : List ℕ = c.loop-index.rest.now in
    let codes : List ℕ = c.loop-index.codes in
    let new : List ℕ = c.copy_from_slice.new.self in
    let inv = c.loop-index.invariant in
    let found = c.in_ok-end.ensures in
    let lt : i < groups = c.loop-index-test.true in
    let is = count_is total _ i k inv.long c.next_len-count.ensures in
    let after : take (length rest - end) (drop end rest) ≡ drop (group_end k rest) rest = take_rest rest end ∙ ap (λ n. drop n rest) found.end in
    let size : 32 * i + k - 32 * i ≡ k = omega arith in
    let long : length new ≡ k =
    c.copy_from_slice.ensures.len ∙ ap (λ n. length (take n (drop (32 * i) codes))) size ∙ length-take-le k (drop (32 * i) codes) (omega (arith, length-drop (32 * i) codes)) in
    let step = codes_step total i k (32 * i + k - 32 * i) codes new rest _ _ lt is size inv.long long
    (c.copy_from_slice.ensures.after ∙ found.codes) after inv.codes in
    record {
      long = step.0;
      room = c.test_group.auto.codes ∙ inv.room;
      fault =
          inv.fault ∙ fault-next groups c.args.block total i k rest lt is found.fault
          ∙ ap (groups_fault (groups - (i + 1)) (c.args.block + (i + 1)) (total - 32 * (i + 1))) (sym after);
      codes = step.1;
      rest = ap (after_groups (groups - (i + 1)) (total - 32 * (i + 1))) after ∙ sym (after-next groups total i k rest lt is) ∙ inv.rest;
    }

pub returns-clause-fault : goal.returns-clause-fault
returns-clause-fault c =
    c.loop-index.invariant.fault ∙ no_groups-fault (groups_of (length c.args.codes.now)) c.loop-index.index _ _ _ (omega arith)

pub returns-clause-codes : goal.returns-clause-codes
returns-clause-codes c =
    let total : ℕ = length c.args.codes.now in
    let i : ℕ = c.loop-index.index in
    let codes : List ℕ = c.loop-index.codes in
    let all : take (32 * i) codes ≡ codes = take_all (32 * i) codes (omega arith) in
    sym all ∙ sym (append-nil (take (32 * i) codes))
    ∙ ap (λ zs. take (32 * i) codes ++ zs) (sym (no_groups-codes (groups_of total) i (total - 32 * i) c.loop-index.rest.now (omega arith)))
    ∙ c.loop-index.invariant.codes

pub returns-clause-rest : goal.returns-clause-rest
returns-clause-rest c =
    let total : ℕ = length c.args.codes.now in
    sym (no_groups-after (groups_of total) c.loop-index.index (total - 32 * c.loop-index.index) c.loop-index.rest.now (omega arith))
    ∙ c.loop-index.invariant.rest
