-- One group more is read.
use Rattle.std.proofs.Common.{◌≡◌, ℕ, List, ◌+◌, ◌-◌, ◌*◌, ◌<◌, ◌++◌, min, length, take, drop, sym, ◌∙◌, ap, arith}
use Rattle.std.proofs.lemmas.List.{append-nil, length-drop, length-take-le, take_all, take_rest}
use Rattle.std.proofs.lemmas.Result.{err_from_is_err_and}
use Rattle.bitpack_groups.specs.Groups.{group_end}
use Rattle.bitpack_groups.proofs.ForCallers.{after-next, codes_step, no_groups-after, no_groups-codes, no_groups-fault}
use Rattle.bitpack_sets.specs.Varints.{after_groups, groups_fault, groups_of, of}
use Rattle.bitpack_sets.proofs.lemmas.faults.GapLaws.{of_here, of_later}
use Rattle.bitpack_sets.proofs.few.test_groups.Goals as goal

count_is : (total long i count : ℕ) → long ≡ total → count ≡ min 32 (long - 32 * i) → count ≡ min 32 (total - 32 * i)
count_is total long i count same is = is ∙ ap (λ n. min 32 (n - 32 * i)) same

pub returns-in_err-end-clause-fault : goal.returns-in_err-end-clause-fault
returns-in_err-end-clause-fault c =
    let total : ℕ = length c.args.codes.now in
    let i : ℕ = c.loop-index.index in
    let inv = c.loop-index.invariant in
    let is = count_is total _ i c.next_len-count.result inv.long c.next_len-count.ensures in
    let here = of_here (groups_of total) total i c.next_len-count.result c.loop-index.rest.now _ c.loop-index-test.true is c.in_err-end.ensures.fault in
    let found = ap of inv.fault ∙ here in
    let p = err_from_is_err_and c.from_residual.result c.from_residual.ensures.1 in
    rw (p.1, p.2) found

pub loop-index-preserved : goal.loop-index-preserved
loop-index-preserved c =
    let total : ℕ = length c.args.codes.now in
    let groups : ℕ = groups_of total in
    let i : ℕ = c.loop-index.index in
    let k : ℕ = c.next_len-count.result in
    let end : ℕ = c.in_ok-end.end in
    let rest : List ℕ = c.loop-index.rest.now in
    let codes : List ℕ = c.loop-index.codes in
    let new : List ℕ = c.copy_from_slice.new.self in
    let inv = c.loop-index.invariant in
    let found = c.in_ok-end.ensures in
    let lt : i < groups = c.loop-index-test.true in
    let is = count_is total _ i k inv.long c.next_len-count.ensures in
    let after : take (length rest - end) (drop end rest) ≡ drop (group_end k rest) rest = take_rest rest end ∙ ap (λ n. drop n rest) found.end in
    let size : 32 * i + k - 32 * i ≡ k = omega arith in
    let long : length new ≡ k =
    c.copy_from_slice.ensures.len ∙ ap (λ n. length (take n (drop (32 * i) codes))) size ∙ length-take-le k (drop (32 * i) codes) (omega (arith, length-drop (32 * i) codes)) in
    let step = codes_step total i k (32 * i + k - 32 * i) codes new rest _ _ lt is size inv.long long (c.copy_from_slice.ensures.after ∙ found.codes) after inv.codes in
    record {
      long = step.0;
      group = c.open_group.auto.codes ∙ inv.group;
      fault = inv.fault ∙ of_later groups total i k rest lt is found.fault ∙ ap (groups_fault (groups - (i + 1)) (0 + (i + 1)) (total - 32 * (i + 1))) (sym after);
      codes = step.1;
      after = ap (after_groups (groups - (i + 1)) (total - 32 * (i + 1))) after ∙ sym (after-next groups total i k rest lt is) ∙ inv.after;
    }

pub returns-clause-fault : goal.returns-clause-fault
returns-clause-fault c =
    ap of (c.loop-index.invariant.fault ∙ no_groups-fault (groups_of (length c.args.codes.now)) c.loop-index.index (0 + c.loop-index.index) (length c.args.codes.now - 32 * c.loop-index.index) c.loop-index.rest.now (omega arith))

pub returns-clause-codes : goal.returns-clause-codes
returns-clause-codes c =
    let total : ℕ = length c.args.codes.now in
    let i : ℕ = c.loop-index.index in
    let codes : List ℕ = c.loop-index.codes in
    let all : take (32 * i) codes ≡ codes = take_all (32 * i) codes (omega arith) in
    sym all ∙ sym (append-nil (take (32 * i) codes))
    ∙ ap (λ zs. take (32 * i) codes ++ zs) (sym (no_groups-codes (groups_of total) i (total - 32 * i) c.loop-index.rest.now (omega arith)))
    ∙ c.loop-index.invariant.codes

pub returns-clause-rest : goal.returns-clause-rest
returns-clause-rest c =
    let total : ℕ = length c.args.codes.now in
    sym (no_groups-after (groups_of total) c.loop-index.index (total - 32 * c.loop-index.index) c.loop-index.rest.now (omega arith)) ∙ c.loop-index.invariant.after
