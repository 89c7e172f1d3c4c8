-- One id more is written, if it is looked for.
use mathlib.Core.Bool.{beq}
use Rattle.std.proofs.Common.{ℕ, ◌≡◌, ◌^◌, ◌+◌, ◌<◌, ◌%◌, ◌∙◌, ◌++◌, [], ◌∷◌, Bool, ap, arith, cond, drop, get_or, length, not, refl}
use Rattle.std.specs.List.{filter}
use Rattle.std.proofs.lemmas.List.{drop_all}
use Rattle.bitpack_slices.proofs.lemmas.bytes.FollowLaws.{follow_as, left_as, left_first, left_more, left_none}
use Rattle.bitpack_slices.proofs.lemmas.numbers.ListLaws.{filter_few, filter_more}
use Rattle.bitpack_slices.proofs.lemmas.numbers.RetainedLaws.{known}
use Rattle.bitpack_slices.proofs.lemmas.slices.SliceLaws.{rising_room}
use Rattle.bitpack_slices.proofs.listed.filtering.filter.Goals as goal
use Rattle.bitpack_slices.specs.Lists.{listed_ids, retains}
use Rattle.bitpack_slices.specs.Reads.{has}
use Rattle.bitpack_slices.specs.Selections.{parts_numbers}

pub loop-position-init : goal.loop-position-init
loop-position-init c = record {
  size = refl;
  left = left_first (filter (retains c.args.there (parts_numbers c.args.blocks.now)) (listed_ids c.args.list.now)) c.args.out.now c.args.at;
}

pub put-next-requires : goal.put-next-requires
put-next-requires c =
    let ids = listed_ids c.args.list.now in
    let few = rising_room 0 (2 ^ 32) ids c.args.list.now.rising in
    let some = filter_few (retains c.args.there (parts_numbers c.args.blocks.now)) ids in
    let count = c.loop-position.invariant.left.count in
    omega (arith, c.requires)

pub loop-position-preserved : goal.loop-position-preserved
loop-position-preserved c =
    let ids = listed_ids c.args.list.now in
    let p = retains c.args.there (parts_numbers c.args.blocks.now) in
    let i = c.loop-position.position in
    let size = c.loop-position.invariant.size in
    let here : i < length ids = omega (arith, c.loop-position-test.true, c.len-position-end.ensures) in
    let id = get_or ids i 0 in
    let found : c.is_member-found.result ≡ has (id % 65536) (parts_numbers c.args.blocks.now) =
    c.is_member-found.ensures ∙ ap (λ (n : ℕ). has (n % 65536) (parts_numbers c.args.blocks.now)) c.at-id.ensures in
    let decides : beq c.is_member-found.result c.args.there ≡ p id =
    known c.args.there c.is_member-found.result ∙ ap (λ (b : Bool). cond c.args.there b (not b)) found in
    let own : cond (beq c.is_member-found.result c.args.there) (c.at-id.result ∷ []) [] ≡ cond (beq c.is_member-found.result c.args.there) (id ∷ []) [] =
    ap (λ (n : ℕ). cond (beq c.is_member-found.result c.args.there) (n ∷ []) []) c.at-id.ensures in
    let one = cond (beq c.is_member-found.result c.args.there) (id ∷ []) [] in
    let rest = filter p (drop (i + 1) ids) in
    record {
      size = omega arith;
      left = left_more (filter p ids) c.args.out.now c.loop-position.out c.put-next.new.out c.args.at c.loop-position.next c.put-next.result one rest (omega arith)
          (left_as (filter p ids) c.args.out.now c.loop-position.out c.args.at c.loop-position.next (filter p (drop i ids)) (one ++ rest)
          (filter_more p i (beq c.is_member-found.result c.args.there) ids here decides) c.loop-position.invariant.left)
          (follow_as _ _ c.loop-position.out c.put-next.new.out c.loop-position.next c.put-next.result own c.put-next.ensures);
    }

pub returns : goal.returns
returns c =
    let ids = listed_ids c.args.list.now in
    let p = retains c.args.there (parts_numbers c.args.blocks.now) in
    left_none (filter p ids) c.args.out.now c.loop-position.out c.args.at c.loop-position.next (filter p (drop c.loop-position.position ids))
    (ap (filter p) (drop_all c.loop-position.position ids (omega (arith, c.loop-position-test.false, c.len-position-end.ensures)))) c.loop-position.invariant.left
