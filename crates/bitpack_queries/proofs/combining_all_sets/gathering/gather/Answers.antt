-- One key more is gathered.
use Rattle.std.proofs.Common.{◌+◌, ◌*◌, ◌/◌, ◌%◌, ◌^◌, ◌<◌, List, [], length, arith, get_or, map, refl, subst, sym, ◌∙◌, ℕ}
use Rattle.std.proofs.lemmas.List.{length-map}
use Rattle.bitpack_slices.proofs.ForCallers.{those_few}
use Rattle.bitpack_slices.specs.Operations.{those}
use Rattle.bitpack_slices.specs.Reads.{has}
use Rattle.bitpack_queries.specs.Folds.{AreHeld, has_number, swapped}
use Rattle.bitpack_queries.specs.Operations.{answer_all, folded}
use Rattle.bitpack_queries.specs.Pairs.{IsPart}
use Rattle.bitpack_queries.proofs.lemmas.many.HeldLaws.{later_held, none_held}
use Rattle.bitpack_queries.proofs.lemmas.many.KeysLaws.{AreKeys, all_left, key_part, keys_combined, keys_end, keys_passed, left_from, none_from}
use Rattle.bitpack_queries.proofs.lemmas.many.MostKeys.{answer_chunks, gather_room}
use Rattle.bitpack_queries.proofs.lemmas.two.GatherLaws.{Gathering, gather_done, gather_few, gather_key, gather_start}
use Rattle.bitpack_queries.proofs.combining_all_sets.gathering.gather.Goals as goal
use Rattle.bitpack_queries.proofs.combining_all_sets.gathering.gather.Given.{Over}
use Rattle.bitpack_queries.proofs.combining_all_sets.gathering.gather.Goals.{After-add, After-put_key-own}
use Rattle.bitpack_queries.proofs.combining_all_sets.gathering.gather.Goals.{then-key-next, else-key-next}

pub loop-key-init : goal.loop-key-init
loop-key-init g c =
    let all : List (List ℕ) = map g.S.AsSet.its_ids c.args.sets.now in
    let long = length-map c.args.sets.now g.S.AsSet.its_ids in
    let some = c.requires.some in
    let within = c.first_of-first.ensures.within in
    let (a, (b, d)) = c.new-gathered.ensures in
    record {
      within = omega arith;
      last = omega arith;
      whole = refl;
      held = none_held 16384 0 (swapped c.first_of-first.result all);
      combined = λ h. absurd (omega arith);
      so = rw (a, b, d) (subst (λ (l : List ℕ). Gathering (answer_all c.args.operation all) l c.args.out.now c.args.out.now c.args.keys.now c.args.counts.now c.args.sizes.now 0 0 0)
          (sym (all_left c.args.operation c.first_of-first.result all (omega arith) c.first_of-first.ensures.may))
          (gather_start (answer_all c.args.operation all) c.args.out.now c.args.keys.now c.args.counts.now c.args.sizes.now));
      small = omega arith;
      out_len = refl;
      keys_len = refl;
      counts_len = refl;
      sizes_len = refl;
    }

-- the bitmaps tell what is left from the key on
loaded : (g : Over) (c : After-put_key-own g)
    → AreKeys c.args.operation c.first_of-first.result (map g.S.AsSet.its_ids c.args.sets.now) c.if-key-next.highs c.if-key-next.words c.loop-key.key c.if-key-next.next
loaded g c =
    let before = c.loop-key in
    let most = c.loop-key-test.true in
    elim c.if-key-next.branch [
      | then-key-next w ↦ (
          let next = w.combine_keys.ensures in
          let whole = before.invariant.whole in
          rw (w.next-is, w.highs-is, w.words-is)
          (keys_combined c.args.operation c.first_of-first.result before.key w.combine_keys.result (map g.S.AsSet.its_ids c.args.sets.now) w.combine_keys.new.highs w.combine_keys.new.words
          (omega arith) next.later next.most next.own next.none))
      | else-key-next w ↦ rw (w.next-is, w.highs-is, w.words-is) (before.invariant.combined (let apart = w.if-key-next.false in let within = before.invariant.within in omega arith))
    ]

-- the keys that are held are those of the next key
still_held : (g : Over) (c : After-put_key-own g) → AreHeld c.if-key-next.held c.if-key-next.next (swapped c.first_of-first.result (map g.S.AsSet.its_ids c.args.sets.now))
still_held g c =
    let before = c.loop-key in
    let most = c.loop-key-test.true in
    elim c.if-key-next.branch [
      | then-key-next w ↦ (
          let next = w.combine_keys.ensures in
          let later = next.later in
          let whole = before.invariant.whole in
          rw (w.next-is, w.held-is)
          (later_held w.combine_keys.new.held (before.key + 8) (w.combine_keys.result / 8 * 8) (swapped c.first_of-first.result (map g.S.AsSet.its_ids c.args.sets.now)) (omega arith) next.held))
      | else-key-next w ↦ rw (w.next-is, w.held-is) before.invariant.held
    ]

pub combine_keys-requires-clause-held : goal.combine_keys-requires-clause-held
combine_keys-requires-clause-held g c =
    later_held c.loop-key.held c.loop-key.next c.loop-key.key (swapped c.first_of-first.result (map g.S.AsSet.its_ids c.args.sets.now)) (omega (arith, c.if-key-next.true)) c.loop-key.invariant.held

-- what is left from it on begins with its ids
part : (g : Over) (c : After-put_key-own g)
    → IsPart c.loop-key.key (has_number (get_or c.if-key-next.highs (c.loop-key.key % 8) []) (get_or c.if-key-next.words (c.loop-key.key % 8) []))
    (left_from c.args.operation c.first_of-first.result (map g.S.AsSet.its_ids c.args.sets.now) c.loop-key.key)
    (left_from c.args.operation c.first_of-first.result (map g.S.AsSet.its_ids c.args.sets.now) (c.loop-key.key + 1))
part g c = key_part c.args.operation c.first_of-first.result c.loop-key.key c.if-key-next.next (map g.S.AsSet.its_ids c.args.sets.now) c.if-key-next.highs c.if-key-next.words
    (loaded g c) c.loop-key-test.true

-- there is room for one chunk more
room : (g : Over) (c : After-put_key-own g) → 0 < c.put_key-own.result.0
    → (c.loop-key.gathered.chunks < length c.loop-key.keys) × ((c.loop-key.gathered.chunks < length c.loop-key.counts) × (c.loop-key.gathered.chunks < length c.loop-key.sizes))
room g c = λ some.
    let inv = c.loop-key.invariant in
    let count = c.put_key-own.ensures.count in
    let within = gather_room _ _ _ _ _ _ _ _ _ _ _ _ _ (part g c) inv.so (omega arith) in
    let chunks = answer_chunks c.args.operation (map g.S.AsSet.its_ids c.args.sets.now) in
    let keys = inv.keys_len in
    let counts = inv.counts_len in
    let sizes = inv.sizes_len in
    let a = c.requires.keys in
    let b = c.requires.counts in
    let d = c.requires.sizes in
    (omega arith, (omega arith, omega arith))

pub combine_keys-requires-clause-base : goal.combine_keys-requires-clause-base
combine_keys-requires-clause-base g c =
    let whole = c.loop-key.invariant.whole in
    let is = c.if-key-next.true in
    let small = c.loop-key-test.true in
    omega arith

pub put_key-own-requires : goal.put_key-own-requires
put_key-own-requires g c =
    let few = those_few (2 ^ 32) (λ x. folded c.args.operation (map (has x) (map g.S.AsSet.its_ids c.args.sets.now))) in
    let counted = c.loop-key.invariant.so.counted in
    let small = c.loop-key.invariant.small in
    omega arith

pub add-requires-clause-few : goal.add-requires-clause-few
add-requires-clause-few g c =
    let k : ℕ = c.loop-key.key % 8 in
    let few = those_few 65536 (has_number (get_or c.if-key-next.highs k []) (get_or c.if-key-next.words k [])) in
    let count = c.put_key-own.ensures.count in
    omega arith

pub add-requires-clause-counted : goal.add-requires-clause-counted
add-requires-clause-counted g c =
    let few = those_few (2 ^ 32) (λ x. folded c.args.operation (map (has x) (map g.S.AsSet.its_ids c.args.sets.now))) in
    let count = c.put_key-own.ensures.count in
    let more = gather_few _ _ _ _ _ _ _ _ _ _ _ _ _ (part g (goal.at.add-requires-clause-counted g c).After-put_key-own) c.loop-key.invariant.so in
    omega arith

pub add-requires-clause-written : goal.add-requires-clause-written
add-requires-clause-written g c = c.loop-key.invariant.small

pub add-requires-clause-room : goal.add-requires-clause-room
add-requires-clause-room g c = room g (goal.at.add-requires-clause-room g c).After-put_key-own

pub loop-key-smaller-then-k-eq7 : goal.loop-key-smaller-then-k-eq7
loop-key-smaller-then-k-eq7 g c =
    let later = (loaded g (goal.at.loop-key-smaller-then-k-eq7 g c).After-put_key-own).later in
    let most = c.loop-key-test.true in
    omega arith

-- its chunk is gathered
gathered : (g : Over) (c : After-add g)
    → IsPart c.loop-key.key (has_number (get_or c.if-key-next.highs (c.loop-key.key % 8) []) (get_or c.if-key-next.words (c.loop-key.key % 8) []))
    (left_from c.args.operation c.first_of-first.result (map g.S.AsSet.its_ids c.args.sets.now) c.loop-key.key)
    (left_from c.args.operation c.first_of-first.result (map g.S.AsSet.its_ids c.args.sets.now) (c.loop-key.key + 1))
    → (0 < c.put_key-own.result.0
    → (c.loop-key.gathered.chunks < length c.loop-key.keys) × ((c.loop-key.gathered.chunks < length c.loop-key.counts) × (c.loop-key.gathered.chunks < length c.loop-key.sizes)))
    → Gathering (answer_all c.args.operation (map g.S.AsSet.its_ids c.args.sets.now))
    (those (2 ^ 32) (left_from c.args.operation c.first_of-first.result (map g.S.AsSet.its_ids c.args.sets.now) (c.loop-key.key + 1))) c.args.out.now c.put_key-own.new.out
    c.add.new.keys c.add.new.counts c.add.new.sizes c.add.new.self.count c.add.new.self.chunks c.add.new.self.size
gathered g c part room =
    let before = c.loop-key in
    let put = c.put_key-own in
    let after = c.add.new in
    gather_key before.key _ _ _ _ c.args.out.now before.out put.new.out before.keys before.counts before.sizes after.keys after.counts after.sizes
    before.gathered.count before.gathered.chunks before.gathered.size after.self.count after.self.chunks after.self.size put.result.0 put.result.1
    part put.ensures.count put.ensures.few put.ensures.body put.ensures.none put.auto.out room c.add.ensures.count c.add.ensures.size c.add.ensures.none c.add.ensures.chunks
    c.add.ensures.keys c.add.ensures.counts c.add.ensures.sizes before.invariant.so

pub loop-key-preserved-then-k-eq7 : goal.loop-key-preserved-then-k-eq7
loop-key-preserved-then-k-eq7 g c =
    let at = goal.at.loop-key-preserved-then-k-eq7 g c in
    let inv = c.loop-key.invariant in
    let most = c.loop-key-test.true in
    let are = loaded g at.After-put_key-own in
    let later = are.later in
    let small = inv.small in
    let own = c.put_key-own.ensures.few in
    let counted = c.add.ensures.count in
    let sized = c.add.ensures.size in
    let so = gathered g at.After-add (part g at.After-put_key-own) (room g at.After-put_key-own) in
    record {
      within = omega arith;
      last = are.most;
      whole = are.whole;
      held = still_held g at.After-put_key-own;
      combined = λ h. absurd (omega arith);
      so = subst (λ (l : List ℕ). Gathering (answer_all c.args.operation (map g.S.AsSet.its_ids c.args.sets.now)) l c.args.out.now c.put_key-own.new.out
          c.add.new.keys c.add.new.counts c.add.new.sizes c.add.new.self.count c.add.new.self.chunks c.add.new.self.size)
          (keys_end c.args.operation c.first_of-first.result c.loop-key.key c.if-key-next.next (map g.S.AsSet.its_ids c.args.sets.now) c.if-key-next.highs c.if-key-next.words are c.if-k-eq7.true) so;
      small = omega arith;
      out_len = c.put_key-own.auto.out ∙ inv.out_len;
      keys_len = c.add.auto.keys ∙ inv.keys_len;
      counts_len = c.add.auto.counts ∙ inv.counts_len;
      sizes_len = c.add.auto.sizes ∙ inv.sizes_len;
    }

pub loop-key-preserved : goal.loop-key-preserved
loop-key-preserved g c =
    let at = goal.at.loop-key-preserved g c in
    let inv = c.loop-key.invariant in
    let most = c.loop-key-test.true in
    let are = loaded g at.After-put_key-own in
    let later = are.later in
    let small = inv.small in
    let own = c.put_key-own.ensures.few in
    let counted = c.add.ensures.count in
    let sized = c.add.ensures.size in
    let so = gathered g at.After-add (part g at.After-put_key-own) (room g at.After-put_key-own) in
    record {
      within = omega arith;
      last = are.most;
      whole = are.whole;
      held = still_held g at.After-put_key-own;
      combined = λ h. keys_passed c.args.operation c.first_of-first.result c.loop-key.key c.if-key-next.next (map g.S.AsSet.its_ids c.args.sets.now) c.if-key-next.highs c.if-key-next.words c.put_key-own.new.words are c.if-k-eq7.false;
      so = so;
      small = omega arith;
      out_len = c.put_key-own.auto.out ∙ inv.out_len;
      keys_len = c.add.auto.keys ∙ inv.keys_len;
      counts_len = c.add.auto.counts ∙ inv.counts_len;
      sizes_len = c.add.auto.sizes ∙ inv.sizes_len;
    }

pub returns-clause-most : goal.returns-clause-most
returns-clause-most g c =
    let all : List (List ℕ) = map g.S.AsSet.its_ids c.args.sets.now in
    let chunks = answer_chunks c.args.operation all in
    let parted = c.loop-key.invariant.so.parted in
    omega arith

pub returns-clause-gathered : goal.returns-clause-gathered
returns-clause-gathered g c =
    let past = c.loop-key-test.false in
    gather_done _ (left_from c.args.operation c.first_of-first.result (map g.S.AsSet.its_ids c.args.sets.now) c.loop-key.key) _ _ _ _ _ _ _ _
    (none_from c.args.operation c.first_of-first.result c.loop-key.key (map g.S.AsSet.its_ids c.args.sets.now) (omega arith)) c.loop-key.invariant.so
