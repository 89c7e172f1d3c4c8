-- The groups at the front are read, and end where they end.
use Rattle.std.proofs.Common.{rules, ◌≡◌, ◌+◌, ◌-◌, ◌≤◌, ℕ, List, None, Some, arith, ap, drop, length, sym, take, ◌∙◌}
use Rattle.std.proofs.lemmas.List.{length-drop, take_rest}
use Rattle.bitpacking.proofs.ForCallers.{AreBytes-from_slice}
use Rattle.bitpack_sets.proofs.lemmas.encodings.EncodingLaws.{some_not_none}
use Rattle.bitpack_sets.proofs.lemmas.faults.FaultLaws.{none_map}
use Rattle.bitpack_sets.proofs.lemmas.faults.HeadLaws.{after_within, few_head}
use Rattle.bitpack_slices.specs.declared.set_error.SetError.{SetError}
use Rattle.bitpack_sets.specs.Varints.{after_groups, groups_fault, groups_of, number_end, number_fault, of, set_error}
use Rattle.bitpack_sets.proofs.front.some_front.Goals as goal

after : (bytes : List ℕ) (end : ℕ) → end ≡ number_end bytes → take (length bytes - end) (drop end bytes) ≡ drop (number_end bytes) bytes
after bytes end e = take_rest bytes end ∙ ap (λ (n : ℕ). drop n bytes) e

pub returns-in_default-clause-front : goal.returns-in_default-clause-front
returns-in_default-clause-front c n le none =
    let head = few_head c.args.more n c.args.bytes.now (AreBytes-from_slice c.args.bytes.now c.type_inv.bytes) le none in
    absurd (some_not_none _ (sym c.in_default.ensures.fault ∙ none_map set_error (number_fault c.args.bytes.now) head.number))

-- the groups of as many codes as there are
refused : (size more : ℕ) (bytes : List ℕ) (error : SetError) → of (groups_fault (groups_of size) 0 size bytes) ≡ Some error → size ≡ more → groups_fault (groups_of more) 0 more bytes ≡ None → ⊥
refused size more bytes error found same none =
    some_not_none error (sym found ∙ none_map set_error (groups_fault (groups_of size) 0 size bytes) (ap (λ (k : ℕ). groups_fault (groups_of k) 0 k bytes) same ∙ none))

left : (size more : ℕ) (bytes rest : List ℕ) → rest ≡ after_groups (groups_of size) size bytes → size ≡ more → length rest ≡ length (after_groups (groups_of more) more bytes)
left size more bytes rest is same = ap length (is ∙ ap (λ (k : ℕ). after_groups (groups_of k) k bytes) same)

pub returns-in_default-test_groups-clause-front : goal.returns-in_default-test_groups-clause-front
returns-in_default-test_groups-clause-front c n le none =
    let bytes : List ℕ = c.args.bytes.now in
    let more : ℕ = c.args.more in
    let head = few_head more n bytes (AreBytes-from_slice bytes c.type_inv.bytes) le none in
    let rest = after bytes c.in-Ok.end c.in-Ok.ensures.end in
    absurd (refused _ more _ _ c.in_default-test_groups.ensures.fault (search rules) (ap (groups_fault (groups_of more) 0 more) rest ∙ head.groups))

-- the bytes after the groups are among all
rest_within : (size more end : ℕ) (bytes rest : List ℕ) → rest ≡ after_groups (groups_of size) size (take (length bytes - end) (drop end bytes)) → size ≡ more → length rest ≤ length bytes
rest_within size more end bytes rest is same =
    let later : List ℕ = take (length bytes - end) (drop end bytes) in
    omega (arith, after_within (groups_of more) more later, left size more later rest is same, ap length (take_rest bytes end), length-drop end bytes)

pub overflow_sub-result : goal.overflow_sub-result
overflow_sub-result c = omega (arith, rest_within _ c.args.more c.in-Ok.end c.args.bytes.now _ c.in-Ok-test_groups.ensures.rest (search rules))

pub returns-clause-some : goal.returns-clause-some
returns-clause-some c = omega (arith, rest_within _ c.args.more c.in-Ok.end c.args.bytes.now _ c.in-Ok-test_groups.ensures.rest (search rules))

pub returns-clause-front : goal.returns-clause-front
returns-clause-front c n le none =
    let bytes : List ℕ = c.args.bytes.now in
    let more : ℕ = c.args.more in
    let head = few_head more n bytes (AreBytes-from_slice bytes c.type_inv.bytes) le none in
    let rest : List ℕ = take (length bytes - c.in-Ok.end) (drop c.in-Ok.end bytes) in
    let is = left _ more rest c.in-Ok-test_groups.rest.now c.in-Ok-test_groups.ensures.rest (search rules) in
    let same = ap (λ (l : List ℕ). length (after_groups (groups_of more) more l)) (after bytes c.in-Ok.end c.in-Ok.ensures.end) in
    let e : 1 + length bytes - length c.in-Ok-test_groups.rest.now ≡ n + 1 = omega (arith, le, head.left, is, same) in
    ap Some e
