-- What is gathered so far, and what is left from a key on.
use Rattle.std.proofs.Common.{◌≡◌, ◌-◌, ◌*◌, ◌^◌, ◌≤◌, length, map}
use Rattle.bitpack_slices.specs.Operations.{those}
use Rattle.bitpack_queries.specs.Queries.{answer_of, is_found}
use Rattle.bitpack_queries.proofs.lemmas.trees.FromKeys.{from_key}
use Rattle.bitpack_queries.proofs.lemmas.two.GatherLaws.{Gathering}
use Rattle.bitpack_queries.proofs.query.packing.gather.Given as goal

abbrev pub invariant-loop-key : goal.invariant-loop-key
invariant-loop-key g l = record {
  key_most : l.key ≤ 65536;
  so : Gathering (answer_of (map g.S.AsSet.its_ids l.sets) (map g.T.AsStep.its_step l.steps))
      (those (2 ^ 32) (from_key l.key (is_found (map g.S.AsSet.its_ids l.sets) (map g.T.AsStep.its_step l.steps))))
      l.fn.out l.out l.keys l.counts l.sizes l.gathered.count l.gathered.chunks l.gathered.size;
  small : l.gathered.size ≤ 2 * l.gathered.count;
  levels : length l.bitmaps ≡ length l.fn.bitmaps;
  out_len : length l.out ≡ length l.fn.out;
  keys_len : length l.keys ≡ length l.fn.keys;
  counts_len : length l.counts ≡ length l.fn.counts;
  sizes_len : length l.sizes ≡ length l.fn.sizes;
}

abbrev pub decreases-loop-key : goal.decreases-loop-key
decreases-loop-key g l = 65536 - l.key
