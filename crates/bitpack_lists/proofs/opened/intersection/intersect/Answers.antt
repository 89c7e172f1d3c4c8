-- The whole walk, said of the values of both lists.
use Rattle.std.proofs.Common.{◌+◌, ◌*◌, ◌≤◌, ◌++◌, length, refl, sym, ◌∙◌, ap, vec_capacity, arith}
use Rattle.bitpack_lists.specs.Opened.{values}
use Rattle.bitpack_lists.specs.Parts.{whole_blocks}
use Rattle.bitpack_lists.specs.inner.Walks.{Started, started_with, values_in}
use Rattle.bitpack_lists.proofs.lemmas.blocks.ListLemmas.{on_err}
use Rattle.bitpack_lists.proofs.lemmas.opened.OpenedValues.{are_listed, length-values}
use Rattle.bitpack_lists.proofs.lemmas.opened.Sharing.{shared_common}
use Rattle.bitpack_lists.proofs.lemmas.opened.Walking.{blocks_few, entries_few, walked_few}
use Rattle.bitpack_lists.proofs.opened.intersection.intersect.Goals as goal

pub returns-then-is_err-clause-room : goal.returns-then-is_err-clause-room
returns-then-is_err-clause-room g c =
    let full = on_err c.reserve.result (sym c.is_err.ensures.value ∙ c.if-is_err.true) c.reserve.ensures.full in
    omega (arith, full, length-values c.args.a.now, length-values c.args.b.now, c.min.ensures)

pub returns-clause-ok : goal.returns-clause-ok
returns-clause-ok g c =
    let a = c.args.a.now in
    let b = c.args.b.now in
    let (walk, over) = c.walk_list.ensures.walking in
    let after = over.walking in (
      after.walked.shared,
      shared_common (values_in a) (values_in b) (values a) (values b) after.walked.shared walk.want (are_listed a) (are_listed b) after.walked.is_shared,
      after.walked.items_are ∙ ap (λ xs. xs ++ after.walked.shared) c.reserve.ensures.items,
    )

pub returns-clause-reads_a : goal.returns-clause-reads_a
returns-clause-reads_a g c =
    let a = c.args.a.now in
    let b = c.args.b.now in
    let count = sym (length-values a) in
    let (walk, over) = c.walk_list.ensures.walking in
    let after = over.walking in
    let started : Started = started_with c.reserve.new.self.items c.args.reads_a.now c.args.reads_b.now in
    let few = walked_few g.Q.BitPacker.lanes (values_in a) (values_in b) started a.count walk.want walk.cached.number c.walk_list.new.out.items
    (vec_capacity c.walk_list.new.out) c.walk_list.new.reads.blocks c.walk_list.new.other_reads 0 after.walked refl in
    let blocks : c.walk_list.new.reads.blocks ≤ c.args.reads_a.now.blocks + whole_blocks g.P.BitPacker.lanes (length (values a)) = rw count at c.walk_list.ensures.blocks in
    record { entries = rw count at c.walk_list.ensures.entries; blocks = omega (arith, few, blocks, length-values b); grown = c.walk_list.ensures.grown }

pub returns-clause-reads_b : goal.returns-clause-reads_b
returns-clause-reads_b g c =
    let a = c.args.a.now in
    let b = c.args.b.now in
    let count = sym (length-values a) in
    let count' = sym (length-values b) in
    let (walk, over) = c.walk_list.ensures.walking in
    let after = over.walking in
    let started : Started = started_with c.reserve.new.self.items c.args.reads_a.now c.args.reads_b.now in
    record {
      entries = λ digits fits.
          let few : c.walk_list.new.other_reads.entries ≤ c.args.reads_b.now.entries + a.count * digits =
          entries_few g.Q.BitPacker.lanes (values_in a) (values_in b) started a.count walk.want walk.cached.number c.walk_list.new.out.items
          (vec_capacity c.walk_list.new.out) c.walk_list.new.reads.blocks c.walk_list.new.other_reads 0 after.walked digits (rw count' fits) in
          rw count at few;
      blocks =
          rw (count, count')
          at (blocks_few g.Q.BitPacker.lanes (values_in a) (values_in b) started a.count walk.want walk.cached.number c.walk_list.new.out.items
          (vec_capacity c.walk_list.new.out) c.walk_list.new.reads.blocks c.walk_list.new.other_reads 0 after.walked);
      grown = after.walked.grown;
    }
