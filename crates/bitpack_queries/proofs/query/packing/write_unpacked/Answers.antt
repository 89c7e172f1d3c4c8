-- All ids of the answer are unpacked.
use Rattle.std.proofs.Common.{◌≡◌, ◌∙◌, ◌≤◌, ◌^◌, ◌++◌, ℕ, Bool, List, ap, append-nil, arith, length, length-append, map, min, subst, sym, take}
use Rattle.std.proofs.lemmas.List.{length-take-le, nil_from_length}
use Rattle.bitpack_slices.proofs.ForCallers.{those_rise}
use Rattle.bitpack_slices.specs.Operations.{those}
use Rattle.bitpack_slices.specs.Reads.{ids_from}
use Rattle.bitpack_sets.specs.Sets.{IsSet}
use Rattle.bitpack_queries.specs.Gathered.{Fills}
use Rattle.bitpack_queries.specs.Queries.{is_found}
use Rattle.bitpack_queries.proofs.lemmas.trees.QueryIds.{left_all}
use Rattle.bitpack_queries.proofs.query.packing.write_unpacked.Goals as goal

-- as many ids as there are
all_are : (xs rest all : List ℕ) → xs ++ rest ≡ all → length xs ≡ length all → xs ≡ all
all_are xs rest all e same =
    let long = ap length e in
    let cut = length-append xs rest in
    sym (append-nil xs) ∙ ap (λ (l : List ℕ). xs ++ l) (sym (nil_from_length rest (omega arith))) ∙ e

all_unpacked : (found : ℕ → Bool) (count start next : ℕ) (old out : List ℕ) → start ≡ 0 → length (those (2 ^ 32) found) ≤ length old → length out ≡ length old
    → count ≡ min (length old) (length (ids_from start (those (2 ^ 32) found)))
    → take count out ++ ids_from next (those (2 ^ 32) found) ≡ ids_from start (those (2 ^ 32) found) → take count out ≡ those (2 ^ 32) found
all_unpacked found count start next old out zeroth enough same is e =
    let first : ids_from start (those (2 ^ 32) found) ≡ those (2 ^ 32) found = ap (λ (n : ℕ). ids_from n (those (2 ^ 32) found)) zeroth ∙ left_all found in
    let all = ap length first in
    let long = length-take-le count out (omega arith) in
    all_are (take count out) (ids_from next (those (2 ^ 32) found)) (those (2 ^ 32) found) (e ∙ first) (omega arith)

pub write_ids-requires : goal.write_ids-requires
write_ids-requires g c =
    let found : ℕ → Bool = is_found (map g.S.AsSet.its_ids c.args.sets.now) (map g.T.AsStep.its_step c.args.steps.now) in
    let all = all_unpacked found _ _ _ _ _ c.new.ensures.next c.requires.room (omega arith) c.next_ids-count.ensures.len c.next_ids-count.ensures.ids in
    record { set = subst IsSet (sym all) (record { few = c.requires.few; rising = those_rise found (2 ^ 32) }) }

pub returns : goal.returns
returns g c =
    let found : ℕ → Bool = is_found (map g.S.AsSet.its_ids c.args.sets.now) (map g.T.AsStep.its_step c.args.steps.now) in
    let all = all_unpacked found _ _ _ _ _ c.new.ensures.next c.requires.room (omega arith) c.next_ids-count.ensures.len c.next_ids-count.ensures.ids in
    subst (λ (l : List ℕ). Fills l c.write_ids.result c.args.out.now c.write_ids.new.out) all c.write_ids.ensures
