-- What is gathered so far, and what is left from a key on.
use Rattle.std.proofs.Common.{◌≡◌, ◌*◌, ◌-◌, ◌/◌, ◌^◌, ◌<◌, ◌≤◌, length, map}
use Rattle.bitpack_slices.specs.Operations.{those}
use Rattle.bitpack_queries.specs.Folds.{AreHeld, swapped}
use Rattle.bitpack_queries.specs.Operations.{answer_all}
use Rattle.bitpack_queries.proofs.lemmas.many.KeysLaws.{AreKeys, left_from}
use Rattle.bitpack_queries.proofs.lemmas.two.GatherLaws.{Gathering}
use Rattle.bitpack_queries.proofs.combining_all_sets.gathering.gather.Given as goal

abbrev pub invariant-loop-key : goal.invariant-loop-key
invariant-loop-key g l = record {
  within : l.key ≤ l.next;
  last : l.next ≤ 65536;
  whole : l.next / 8 * 8 ≡ l.next;
  held : AreHeld l.held l.next (swapped l.first (map g.S.AsSet.its_ids l.sets));
  combined : l.key < l.next → AreKeys l.operation l.first (map g.S.AsSet.its_ids l.sets) l.highs l.words l.key l.next;
  so : Gathering (answer_all l.operation (map g.S.AsSet.its_ids l.sets)) (those (2 ^ 32) (left_from l.operation l.first (map g.S.AsSet.its_ids l.sets) l.key))
      l.fn.out l.out l.keys l.counts l.sizes l.gathered.count l.gathered.chunks l.gathered.size;
  small : l.gathered.size ≤ 2 * l.gathered.count;
  out_len : length l.out ≡ length l.fn.out;
  keys_len : length l.keys ≡ length l.fn.keys;
  counts_len : length l.counts ≡ length l.fn.counts;
  sizes_len : length l.sizes ≡ length l.fn.sizes;
}

abbrev pub decreases-loop-key : goal.decreases-loop-key
decreases-loop-key g l = 65536 - l.key
