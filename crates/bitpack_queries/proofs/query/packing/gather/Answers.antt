-- One key more is gathered, and those before the next are passed over.
use Rattle.std.proofs.Common.{◌+◌, ◌<◌, ◌^◌, ℕ, Bool, [], arith, get_or, length, map, refl, rules}
use Rattle.bitpack_slices.proofs.ForCallers.{those_few}
use Rattle.bitpack_queries.specs.Folds.{has_number}
use Rattle.bitpack_queries.specs.Queries.{is_found}
use Rattle.bitpack_queries.proofs.lemmas.many.MostKeys.{most_chunks}
use Rattle.bitpack_queries.proofs.lemmas.trees.FoundLaws.{found_in}
use Rattle.bitpack_queries.proofs.lemmas.trees.FromKeys.{from_key, gather_first, gather_passed, gather_room, key_part, none_from_end}
use Rattle.bitpack_queries.proofs.lemmas.trees.QueryLaws.{some_waits}
use Rattle.bitpack_queries.proofs.lemmas.two.GatherLaws.{gather_done, gather_few, gather_key}
use Rattle.bitpack_queries.proofs.query.packing.gather.Goals as goal

pub loop-key-init : goal.loop-key-init
loop-key-init g c =
    let found : ℕ → Bool = is_found (map g.S.AsSet.its_ids c.args.sets.now) (map g.T.AsStep.its_step c.args.steps.now) in
    record {
      key_most = c.next_key-key.ensures.most;
      so = gather_first found c.next_key-key.result c.args.out.now c.args.keys.now c.args.counts.now c.args.sizes.now _ _ _ c.new-gathered.ensures c.next_key-key.ensures.none;
      small = (let e = c.new-gathered.ensures.1.1 in omega arith);
      levels = refl;
      out_len = refl;
      keys_len = refl;
      counts_len = refl;
      sizes_len = refl;
    }

pub bounds-bitmaps-0 : goal.bounds-bitmaps-0
bounds-bitmaps-0 g c =
    let some = some_waits _ _ _ c.requires.enough in
    let h : 0 < length c.load-highs.new.bitmaps = omega (arith, c.loop-key.invariant.levels, c.load-highs.auto.bitmaps) in
    search rules

pub put_key-own-requires : goal.put_key-own-requires
put_key-own-requires g c =
    let found : ℕ → Bool = is_found (map g.S.AsSet.its_ids c.args.sets.now) (map g.T.AsStep.its_step c.args.steps.now) in
    let few = those_few (2 ^ 32) found in
    let counted = c.loop-key.invariant.so.counted in
    record { start = omega (arith, c.loop-key.invariant.small) }

pub add-requires-clause-few : goal.add-requires-clause-few
add-requires-clause-few g c =
    let few = those_few 65536 (has_number c.load-highs.result (get_or c.load-highs.new.bitmaps 0 [])) in
    omega (arith, c.put_key-own.ensures.count)

pub add-requires-clause-counted : goal.add-requires-clause-counted
add-requires-clause-counted g c =
    let found : ℕ → Bool = is_found (map g.S.AsSet.its_ids c.args.sets.now) (map g.T.AsStep.its_step c.args.steps.now) in
    let test : ℕ → Bool = has_number c.load-highs.result (get_or c.load-highs.new.bitmaps 0 []) in
    let part = key_part found test c.loop-key.key c.loop-key-test.true c.load-highs.ensures in
    let few = those_few (2 ^ 32) found in
    let more = gather_few c.loop-key.key test (from_key c.loop-key.key found) (from_key (c.loop-key.key + 1) found) _ _ _ _ _ _ _ _ _ part c.loop-key.invariant.so in
    omega (arith, c.put_key-own.ensures.count)

pub add-requires-clause-room : goal.add-requires-clause-room
add-requires-clause-room g c = λ some.
    let sets = map g.S.AsSet.its_ids c.args.sets.now in
    let steps = map g.T.AsStep.its_step c.args.steps.now in
    let found : ℕ → Bool = is_found sets steps in
    let test : ℕ → Bool = has_number c.load-highs.result (get_or c.load-highs.new.bitmaps 0 []) in
    let part = key_part found test c.loop-key.key c.loop-key-test.true c.load-highs.ensures in
    let most = most_chunks sets found (λ x h. found_in sets steps x) in
    let count = c.put_key-own.ensures.count in
    let before = c.loop-key.invariant in
    let room = gather_room c.loop-key.key test (from_key c.loop-key.key found) (from_key (c.loop-key.key + 1) found) _ _ _ _ _ _ _ _ _ part before.so (omega arith) in
    (omega (arith, c.requires.keys, before.keys_len), (omega (arith, c.requires.counts, before.counts_len), omega (arith, c.requires.sizes, before.sizes_len)))

pub loop-key-preserved : goal.loop-key-preserved
loop-key-preserved g c =
    let sets = map g.S.AsSet.its_ids c.args.sets.now in
    let steps = map g.T.AsStep.its_step c.args.steps.now in
    let found : ℕ → Bool = is_found sets steps in
    let test : ℕ → Bool = has_number c.load-highs.result (get_or c.load-highs.new.bitmaps 0 []) in
    let part = key_part found test c.loop-key.key c.loop-key-test.true c.load-highs.ensures in
    let most = most_chunks sets found (λ x h. found_in sets steps x) in
    let before = c.loop-key.invariant in
    let put = c.put_key-own.ensures in
    let add = c.add.ensures in
    let small = put.few in
    record {
      key_most = c.next_key-key-in-loop-key.ensures.most;
      so = gather_passed found (c.loop-key.key + 1) c.next_key-key-in-loop-key.result _ _ _ _ _ _ _ _ _ c.next_key-key-in-loop-key.ensures.least c.next_key-key-in-loop-key.ensures.none
          (gather_key c.loop-key.key test (from_key c.loop-key.key found) (from_key (c.loop-key.key + 1) found) _ _ c.loop-key.out c.put_key-own.new.out c.loop-key.keys c.loop-key.counts c.loop-key.sizes
          c.add.new.keys c.add.new.counts c.add.new.sizes c.loop-key.gathered.count c.loop-key.gathered.chunks c.loop-key.gathered.size c.add.new.self.count c.add.new.self.chunks c.add.new.self.size
          c.put_key-own.result.0 c.put_key-own.result.1 part put.count put.few put.body put.none (omega arith)
          (λ some.
          let room = gather_room c.loop-key.key test (from_key c.loop-key.key found) (from_key (c.loop-key.key + 1) found) _ _ _ _ _ _ _ _ _ part before.so (omega (arith, put.count)) in
          (omega (arith, c.requires.keys, before.keys_len), (omega (arith, c.requires.counts, before.counts_len), omega (arith, c.requires.sizes, before.sizes_len))))
          add.count add.size add.none add.chunks add.keys add.counts add.sizes before.so);
      small = omega (arith, before.small, add.count, add.size, put.few);
      levels = search rules;
      out_len = omega (arith, before.out_len);
      keys_len = omega (arith, before.keys_len);
      counts_len = omega (arith, before.counts_len);
      sizes_len = omega (arith, before.sizes_len);
    }

pub returns-clause-most : goal.returns-clause-most
returns-clause-most g c =
    let sets = map g.S.AsSet.its_ids c.args.sets.now in
    let steps = map g.T.AsStep.its_step c.args.steps.now in
    let found : ℕ → Bool = is_found sets steps in
    let most = most_chunks sets found (λ x h. found_in sets steps x) in
    let all = (gather_done _ (from_key c.loop-key.key found) _ _ _ _ _ _ _ _ (λ x small. none_from_end found c.loop-key.key x c.loop-key-test.false small) c.loop-key.invariant.so).chunks_are in
    omega arith

pub returns-clause-gathered : goal.returns-clause-gathered
returns-clause-gathered g c =
    let found : ℕ → Bool = is_found (map g.S.AsSet.its_ids c.args.sets.now) (map g.T.AsStep.its_step c.args.steps.now) in
    gather_done _ (from_key c.loop-key.key found) _ _ _ _ _ _ _ _ (λ x small. none_from_end found c.loop-key.key x c.loop-key-test.false small) c.loop-key.invariant.so
