-- One container more is written.
use Rattle.std.proofs.Common.{◌≡◌, ◌+◌, ◌-◌, ◌∙◌, ◌++◌, List, ap, arith, length, refl, subst, sym, take, ℕ}
use Rattle.bitpack_groups.proofs.ForCallers.{lent_after, take-put_end}
use Rattle.bitpack_sets.specs.Chunks.{ids_from}
use Rattle.bitpack_sets.specs.Opened.{ids}
use Rattle.bitpack_slices.specs.Bodies.{parts}
use Rattle.bitpack_roaring.proofs.PartLaws.{first_at, ids_few, ids_rise, most_parts, no_parts}
use Rattle.bitpack_roaring.proofs.WriteSteps.{Writes, all_starts, bodies_done, body_room, entries_done, flag_is, writes_more, writes_start}
use Rattle.bitpack_roaring.specs.inner.Walks.{IsAt, numbers_of_part}
use Rattle.bitpack_roaring.proofs.writing.write_containers.Goals as goal

pub loop-position-init : goal.loop-position-init
loop-position-init c =
    let all : List ℕ = ids c.args.set.now in
    let first = c.chunks_of-chunks.ensures.ids in
    record {
      at = first_at c.chunks_of-chunks.result all first (ids_rise c.args.set.now);
      so = subst (λ (l : List ℕ). Writes (parts 65536 all) (parts 65536 l) c.args.start 0 0 c.args.offsets c.args.flags.now c.args.entries.now c.args.starts.now c.args.bodies.now) (sym first)
          (writes_start (parts 65536 all) c.args.start c.args.offsets c.args.flags.now c.args.entries.now c.args.starts.now c.args.bodies.now c.requires.flags);
      most = most_parts all (ids_rise c.args.set.now);
      entries_len = refl;
      starts_len = refl;
      bodies_len = refl;
    }

pub overflow_add-from : goal.overflow_add-from
overflow_add-from c =
    let few = ids_few c.args.set.now in
    let next = (c.part_at-part.ensures.part (ids c.args.set.now) c.loop-position.invariant.at).next.few in
    omega (arith, c.part_at-part.ensures.from)

pub write_part-at-requires-clause-run : goal.write_part-at-requires-clause-run
write_part-at-requires-clause-run c =
    let set = c.chunks_of-chunks.result in
    let part = c.part_at-part.ensures.part (ids c.args.set.now) c.loop-position.invariant.at in
    let is = ap (λ (n : ℕ). parts 65536 (ids_from set n)) (sym c.part_at-part.ensures.begin) ∙ part.parts_are in
    c.test_bit-run.ensures ∙ flag_is _ _ (parts 65536 (ids_from set c.part_at-part.result.end)) c.part_at-part.result.key (numbers_of_part set c.part_at-part.result) _ _ _ _ _ _ _ _ c.loop-position.invariant.so is

pub loop-position-preserved : goal.loop-position-preserved
loop-position-preserved c =
    let all : List ℕ = ids c.args.set.now in
    let set = c.chunks_of-chunks.result in
    let part = c.part_at-part.ensures.part (ids c.args.set.now) c.loop-position.invariant.at in
    let inv = c.loop-position.invariant in
    let later : List ℕ = ids_from set c.part_at-part.result.end in
    let xs : List ℕ = numbers_of_part set c.part_at-part.result in
    let is = ap (λ (n : ℕ). parts 65536 (ids_from set n)) (sym c.part_at-part.ensures.begin) ∙ part.parts_are in
    let room = body_room (parts 65536 all) _ (parts 65536 later) c.part_at-part.result.key xs _ _ c.loop-position.at _ _ _ _ _ inv.so is in
    let fits = c.requires.bodies in
    let long = inv.bodies_len in
    let lent : length c.write_part-at.new.out ≡ length c.loop-position.bodies - c.loop-position.at = c.write_part-at.auto.out ∙ lent_after c.loop-position.at c.loop-position.bodies in
    record {
      at = subst (λ (n : ℕ). IsAt all set c.part_at-part.result.end (n + c.part_at-part.result.count)) c.part_at-part.ensures.from part.next;
      so = writes_more (parts 65536 all) _ (parts 65536 later) c.part_at-part.result.key xs c.args.start c.loop-position.container c.loop-position.at c.args.offsets c.args.flags.now
          c.loop-position.entries c.loop-position.starts c.loop-position.bodies inv.so is c.part_at-part.result.count c.write_part-at.result c.write_entry.new.out c.write_offset.new.out _
          part.count_is c.write_part-at.ensures.end c.write_entry.ensures.bytes c.write_offset.ensures.bytes
          (take-put_end c.loop-position.at c.write_part-at.result c.loop-position.bodies c.write_part-at.new.out (omega arith) lent
          ∙ ap (λ (l : List ℕ). take c.loop-position.at c.loop-position.bodies ++ l) c.write_part-at.ensures.written);
      most = inv.most;
      entries_len = c.write_entry.ensures.len ∙ inv.entries_len;
      starts_len = c.write_offset.ensures.len ∙ inv.starts_len;
      bodies_len = omega arith;
    }

pub returns-clause-entries : goal.returns-clause-entries
returns-clause-entries c =
    entries_done _ _ _ _ _ _ _ _ _ _ c.loop-position.invariant.so (no_parts c.chunks_of-chunks.result c.loop-position.position (omega (arith, c.len.ensures, c.loop-position-test.false)))
    (c.loop-position.invariant.entries_len ∙ c.requires.entries)

pub returns-clause-starts : goal.returns-clause-starts
returns-clause-starts c =
    all_starts _ _ _ _ _ _ _ _ _ _ c.loop-position.invariant.so (no_parts c.chunks_of-chunks.result c.loop-position.position (omega (arith, c.len.ensures, c.loop-position-test.false)))
    (c.loop-position.invariant.starts_len ∙ c.requires.starts)

pub returns-clause-bodies : goal.returns-clause-bodies
returns-clause-bodies c =
    bodies_done _ _ _ _ _ _ _ _ _ _ c.loop-position.invariant.so (no_parts c.chunks_of-chunks.result c.loop-position.position (omega (arith, c.len.ensures, c.loop-position-test.false)))
    (c.loop-position.invariant.bodies_len ∙ c.requires.bodies)
