-- A block is unpacked and its values visited, or all of them are below what is wanted.
use Rattle.std.proofs.Common.{◌≡◌, ◌+◌, ◌-◌, ◌*◌, ℕ, length, take, refl, sym, ◌∙◌, ap, vec_capacity, arith}
use Rattle.bitpack_lists.specs.inner.Walks.{values_in}
use Rattle.bitpack_lists.proofs.lemmas.opened.OpenedLists.{opened_last}
use Rattle.bitpack_lists.proofs.lemmas.opened.OpenedWalks.{block_below, next_block}
use Rattle.bitpack_lists.proofs.lemmas.opened.Walking.{stage_of, walked_block, walked_unpacked, walked_upto}
use Rattle.bitpack_lists.proofs.opened.intersection.walk_block.Goals as goal

pub walk_values-requires : goal.walk_values-requires
walk_values-requires g c =
    let list = c.args.one.now in
    let (started, over) = c.requires.walking in
    let before = over.walking in
    let number : ℕ = c.args.block.number in
    let last : ℕ = c.args.last in
    let blocks : ℕ = c.args.reads.now.blocks in
    let (long, next) = next_block list g.met.P.BitPacker.some_lanes over.ordered
    started number (blocks + 1) (last + 1) (take c.BLOCK_LEN.result c.unpack_block.new.values) c.requires.block.within (rw c.BLOCK_LEN.ensures c.unpack_block.ensures.block) in (
      stage_of (values_in list) started (32 * g.P.BitPacker.lanes * number) (blocks + 1) (last + 1),
      next,
      record {
        ordered = before.ordered;
        cached = before.cached;
        walked =
            walked_unpacked g.Q.BitPacker.lanes (values_in list) (values_in c.args.other.now) started (32 * g.P.BitPacker.lanes * number) c.args.walk.now.want
            c.args.walk.now.cached.number c.args.out.now.items (vec_capacity c.args.out.now) blocks c.args.other_reads.now 0 before.walked (blocks + 1) (last + 1) refl
            (omega arith) (omega (arith, c.if-last-walk.true));
      },
    )

pub returns-then-last-walk-clause-walking : goal.returns-then-last-walk-clause-walking
returns-then-last-walk-clause-walking g c = λ started over.
    let before = over.walking in
    let list = c.args.one.now in
    let n : ℕ = 32 * g.P.BitPacker.lanes in
    let number : ℕ = c.args.block.number in
    let last : ℕ = c.args.last in
    let blocks : ℕ = c.args.reads.now.blocks in
    let (long, next) = next_block list g.met.P.BitPacker.some_lanes over.ordered
    started number (blocks + 1) (last + 1) (take c.BLOCK_LEN.result c.unpack_block.new.values) c.requires.block.within (rw c.BLOCK_LEN.ensures c.unpack_block.ensures.block) in
    let after = c.walk_values.ensures.walking (stage_of (values_in list) started (n * number) (blocks + 1) (last + 1)) next (record {
      ordered = before.ordered;
      cached = before.cached;
      walked =
          walked_unpacked g.Q.BitPacker.lanes (values_in list) (values_in c.args.other.now) started (n * number) c.args.walk.now.want
          c.args.walk.now.cached.number c.args.out.now.items (vec_capacity c.args.out.now) blocks c.args.other_reads.now 0 before.walked (blocks + 1) (last + 1) refl
          (omega arith) (omega (arith, c.if-last-walk.true));
    }) in
    let end : n * number + length (take c.BLOCK_LEN.result c.unpack_block.new.values) ≡ n * (number + 1) = omega (arith, long) in
    let due : last + 1 ≡ (values_in list).value (n * number + (n - 1)) + 1 =
    ap (λ x. x + 1) (c.requires.last
    ∙ sym (opened_last list g.met.P.BitPacker.some_lanes number c.requires.block.within)) in
    record {
      ordered = over.ordered;
      walking = record {
        ordered = after.ordered;
        cached = after.cached;
        walked =
            rw c.unpack_block.ensures.blocks
            (walked_block g.Q.BitPacker.lanes (values_in list) (values_in c.args.other.now) started (n * (number + 1)) c.walk_values.new.walk.want
            c.walk_values.new.walk.cached.number c.walk_values.new.out.items (vec_capacity c.walk_values.new.out) (blocks + 1) c.walk_values.new.other_reads (last + 1)
            (rw end at after.walked) (n * number + (n - 1)) (omega (arith, g.met.P.BitPacker.some_lanes)) due);
      };
    }

pub returns-else-last-walk-clause-walking : goal.returns-else-last-walk-clause-walking
returns-else-last-walk-clause-walking g c = λ started over.
    let before = over.walking in
    let list = c.args.one.now in
    let n : ℕ = 32 * g.P.BitPacker.lanes in
    let number : ℕ = c.args.block.number in
    record {
      ordered = over.ordered;
      walking = record {
        ordered = before.ordered;
        cached = before.cached;
        walked =
            walked_upto g.Q.BitPacker.lanes (values_in list) (values_in c.args.other.now) started (n * number) c.args.walk.now.want c.args.walk.now.cached.number
            c.args.out.now.items (vec_capacity c.args.out.now) c.args.reads.now.blocks c.args.other_reads.now 0 before.walked (n * (number + 1)) (omega arith)
            (block_below list g.met.P.BitPacker.some_lanes over.ordered
            number c.args.walk.now.want c.args.last c.requires.block.within c.requires.last (omega (arith, c.if-last-walk.false)));
      };
    }
