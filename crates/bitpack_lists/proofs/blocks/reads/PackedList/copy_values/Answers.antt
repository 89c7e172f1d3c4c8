-- Each turn writes one block more, and after all blocks come the values of the tail.
use Rattle.std.proofs.Common.{◌≡◌, ℕ, ◌+◌, ◌-◌, ◌*◌, ◌/◌, ◌%◌, ◌<◌, ◌≤◌, List, length, take, add-one, sym, ◌∙◌, ap, arith}
use Rattle.std.proofs.Math.Nat.{div-add-mod}
use Rattle.std.proofs.lemmas.List.{length-drop, length-take}
use Rattle.bitpack_lists.specs.Chains.{next_kind}
use Rattle.bitpack_lists.specs.Opened.{first_of}
use Rattle.bitpack_lists.specs.inner.Searching.{HasPart}
use Rattle.bitpack_lists.specs.inner.Searching.{blocks_of, value_of}
use Rattle.bitpack_lists.proofs.lemmas.blocks.ChainLemmas.{length-block}
use Rattle.bitpack_lists.proofs.lemmas.opened.CopySteps.{copied_block, copied_tail}
use Rattle.bitpack_lists.proofs.lemmas.opened.ReadParts.{part_unpacked}
use Rattle.bitpack_lists.proofs.lemmas.opened.Positions.{part_end}
use Rattle.bitpack_lists.proofs.blocks.reads.PackedList.copy_values.Goals as goal

pub loop-number-preserved : goal.loop-number-preserved
loop-number-preserved g c =
    let self = c.args.self.now in
    let len : ℕ = c.BLOCK_LEN-len.result in
    let n : ℕ = 32 * g.P.BitPacker.lanes in
    let i : ℕ = c.loop-number.number in
    let out : List ℕ = c.loop-number.out in
    let block : List ℕ = c.unpack_block.new.values in
    let before = c.loop-number.invariant in
    let some = g.met.P.BitPacker.some_lanes in
    let whole : len ≡ n = c.BLOCK_LEN-len.ensures ∙ g.met.P.BitPacker.block_len in
    let lt : i < blocks_of self = rw whole at c.loop-number-test.true in
    let room : n * i + n ≤ length out = omega (arith, part_end n self.count (omega arith) i lt, c.requires.room) in
    let long : length block ≡ n = c.unpack_block.auto.values ∙ length-block n len i (i + 1) out whole (omega arith) (omega arith) in
    let part : HasPart self i len block =
    part_unpacked self some i len block lt whole (ap (λ m. take m block) c.BLOCK_LEN-len.ensures ∙ c.unpack_block.ensures.block) in
    record {
      values = copied_block (value_of self) n len i out block whole (omega arith) long before.values (λ k inside. part.values_are k (omega arith));
      kind_is =
          rw add-one
          (c.next_kind-kind.ensures ∙ ap (λ k. next_kind k c.skip_key.result) c.first-first.ensures ∙ ap (next_kind _) c.skip_key.ensures.skip_key);
      entries = omega (arith, c.unpack_block.ensures.entries, c.skip_key.ensures.entries, before.entries);
      blocks = omega (arith, c.unpack_block.ensures.blocks, c.skip_key.ensures.blocks, before.blocks);
    }

pub returns-clause-values : goal.returns-clause-values
returns-clause-values g c =
    let self = c.args.self.now in
    let len : ℕ = c.BLOCK_LEN-len.result in
    let n : ℕ = 32 * g.P.BitPacker.lanes in
    let b : ℕ = blocks_of self in
    let out : List ℕ = c.loop-number.out in
    let part : List ℕ = c.read_tail.new.values in
    let start : ℕ = self.count - self.count % len in
    let whole : len ≡ n = c.BLOCK_LEN-len.ensures ∙ g.met.P.BitPacker.block_len in
    let all : n * b + self.count % n ≡ self.count = div-add-mod self.count n in
    let begins : start ≡ n * b = rw whole (omega (arith, all)) in
    let end : c.loop-number.number ≡ self.count / len = omega arith in
    let done : n * c.loop-number.number ≡ n * b = ap (λ m. n * m) (end ∙ ap (λ m. self.count / m) whole) in
    let room : length out ≡ self.count = omega (arith, c.requires.room) in
    let long : length part ≡ length out - start = c.read_tail.auto.values ∙ simp (length-take, length-drop) (omega arith) in
    copied_tail (value_of self) start out part (omega (arith, begins, all)) long (λ k lt. c.loop-number.invariant.values k (omega (arith, begins, done)))
    (λ k lt. c.read_tail.ensures.values k (omega (arith, c.read_tail.ensures.len, begins, all)) ∙ ap (λ m. value_of self (m + k)) (sym begins))
    ∙ ap (first_of (value_of self)) room
