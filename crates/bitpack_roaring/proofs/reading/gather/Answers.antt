-- One chunk more is told.
use Rattle.std.proofs.Common.{◌≡◌, ◌+◌, ◌-◌, ◌∙◌, ◌++◌, ◌∷◌, [], List, ap, arith, drop, length, map, refl, sym, take, ℕ}
use Rattle.std.specs.List.{range_with_len}
use Rattle.std.proofs.lemmas.List.{length-take-le}
use Rattle.bitpack_queries.proofs.ForCallers.{follow_long}
use Rattle.bitpack_sets.specs.Sets.{body}
use Rattle.bitpack_roaring.proofs.ChunkLaws.{all_chunks, chunks_more, ids_counted}
use Rattle.bitpack_roaring.proofs.FaultSteps.{position_first, position_more, start_first, start_more}
use Rattle.bitpack_roaring.proofs.GatherSteps.{told_added, told_all, told_start}
use Rattle.bitpack_roaring.proofs.ReadSteps.{container_there, end_there, numbers_same, tested_at}
use Rattle.bitpack_roaring.specs.Roaring.{container_at, containers, ids_before, ids_of, numbers_of, position_at}
use Rattle.bitpack_roaring.proofs.reading.gather.Goals as goal

pub loop-container-init : goal.loop-container-init
loop-container-init c =
    let (count, (chunks, size)) = c.new-gathered.ensures in
    record {
      so = told_start c.args.keys.now c.args.counts.now c.args.sizes.now c.args.out.now c.new-gathered.result.count c.new-gathered.result.chunks c.new-gathered.result.size count chunks size;
      chunks = chunks;
      count = count ∙ position_first c.args.head.bytes.now;
      few = omega arith;
      small = omega arith;
      start = start_first c.args.head.bytes.now c.args.head.start c.args.head.sound.start_is;
      room = c.args.head.sound.room;
      out_len = refl;
      keys_len = refl;
      counts_len = refl;
      sizes_len = refl;
    }

pub end-end-requires-clause-room : goal.end-end-requires-clause-room
end-end-requires-clause-room c =
    end_there c.args.head.bytes.now c.loop-container.container c.loop-container.start c.loop-container.invariant.start
    (tested_at c.args.head.bytes.now c.loop-container.container c.args.head.containers c.args.head.are_bytes c.requires.sound c.args.head.sound.containers_are c.loop-container-test.true)

pub write_container-size-requires : goal.write_container-size-requires
write_container-size-requires c = record {
  container = container_there c.args.head.bytes.now c.loop-container.container c.loop-container.start c.end-end.result c.count-count.result c.is_run-run.result
      c.loop-container.invariant.start c.end-end.ensures.end c.end-end.ensures.room c.is_run-run.ensures c.count-count.ensures.count
      (tested_at c.args.head.bytes.now c.loop-container.container c.args.head.containers c.args.head.are_bytes c.requires.sound c.args.head.sound.containers_are c.loop-container-test.true);
}

pub loop-container-preserved : goal.loop-container-preserved
loop-container-preserved c =
    let inv = c.loop-container.invariant in
    let bytes : List ℕ = c.args.head.bytes.now in
    let m : ℕ = c.loop-container.container in
    let count : ℕ = c.count-count.result in
    let len : ℕ = c.write_container-size.result in
    let tested = tested_at bytes m c.args.head.containers c.args.head.are_bytes c.requires.sound c.args.head.sound.containers_are c.loop-container-test.true in
    let body_bytes : List ℕ = take (c.end-end.result - c.loop-container.start) (drop c.loop-container.start bytes) in
    let numbers : List ℕ = numbers_of c.is_run-run.result count body_bytes in
    let own = container_there bytes m c.loop-container.start c.end-end.result count c.is_run-run.result inv.start c.end-end.ensures.end c.end-end.ensures.room
    c.is_run-run.ensures c.count-count.ensures.count tested in
    let same = numbers_same bytes m c.loop-container.start c.end-end.result count c.is_run-run.result inv.start c.end-end.ensures.end c.end-end.ensures.room
    c.is_run-run.ensures c.count-count.ensures.count in
    let are = c.args.head.sound.containers_are in
    let chunks = inv.chunks in
    let few = inv.few in
    let small = inv.small in
    let next = position_more bytes m c.loop-container.gathered.count count inv.count c.count-count.ensures.count in
    let keys_room = c.requires.keys in
    let counts_room = c.requires.counts in
    let sizes_room = c.requires.sizes in
    let keys_len = inv.keys_len in
    let counts_len = inv.counts_len in
    let sizes_len = inv.sizes_len in
    let within = c.loop-container-test.true in
    let some = c.count-count.ensures.some in
    let most = c.count-count.ensures.few in
    let short = c.write_container-size.ensures.few in
    let fits = c.write_container-size.ensures.within in
    let a = c.write_container-size.array_long in
    let b = c.write_container-size.array_long2 in
    let d = c.write_container-size.array_long3 in
    let room_len = c.write_container-size.auto.out in
    let taken : length (take len c.write_container-size.new.out) ≡ len = length-take-le len c.write_container-size.new.out (omega arith) in
    let written = c.write_container-size.ensures.written in
    let counted : length (ids_before bytes (m + 1)) ≡ position_at bytes (m + 1) =
    ids_counted bytes (m + 1) (λ k lt. tested_at bytes k c.args.head.containers c.args.head.are_bytes c.requires.sound are (omega arith)) in
    record {
      so = told_added (map (container_at bytes) (range_with_len 0 m)) c.loop-container.keys c.loop-container.counts c.loop-container.sizes c.loop-container.out c.put_body.new.out
          c.loop-container.gathered.count c.loop-container.gathered.chunks c.loop-container.gathered.size c.key.result len count numbers inv.so
          (map (container_at bytes) (range_with_len 0 (m + 1))) c.add.new.keys c.add.new.counts c.add.new.sizes c.add.new.self.count c.add.new.self.chunks c.add.new.self.size
          (chunks_more bytes m ∙ (λ i. map (container_at bytes) (range_with_len 0 m) ++ (sym c.key.ensures.key i, sym same i) ∷ []))
          (counted ∙ sym next) (sym own.count_is) (omega arith) (omega arith) (omega arith) (omega arith) (sym taken ∙ ap length written)
          (follow_long (take len c.write_container-size.new.out) (body numbers) c.loop-container.out c.put_body.new.out c.loop-container.gathered.size len written taken c.put_body.ensures)
          c.put_body.auto.out c.add.ensures.count c.add.ensures.size c.add.ensures.chunks c.add.ensures.keys c.add.ensures.counts c.add.ensures.sizes;
      chunks = (let more = c.add.ensures.chunks (omega arith) in omega arith);
      count = c.add.ensures.count ∙ next;
      few = (let more = c.add.ensures.count in omega arith);
      small = (let more = c.add.ensures.count in let longer = c.add.ensures.size in omega arith);
      start = start_more bytes m c.loop-container.start c.end-end.result inv.start c.end-end.ensures.end;
      room = c.end-end.ensures.room;
      out_len = c.put_body.auto.out ∙ inv.out_len;
      keys_len = c.add.auto.keys ∙ keys_len;
      counts_len = c.add.auto.counts ∙ counts_len;
      sizes_len = c.add.auto.sizes ∙ sizes_len;
    }

pub returns : goal.returns
returns c =
    let bytes : List ℕ = c.args.head.bytes.now in
    let n : ℕ = c.loop-container.container in
    let are = c.args.head.sound.containers_are in
    let same : n ≡ containers bytes = omega (arith, c.loop-container-test.false) in
    told_all (ids_of bytes) c.loop-container.keys c.loop-container.counts c.loop-container.sizes c.loop-container.out (map (container_at bytes) (range_with_len 0 n))
    c.loop-container.gathered.count c.loop-container.gathered.chunks c.loop-container.gathered.size (ap (ids_before bytes) (sym same))
    (all_chunks bytes c.args.head.are_bytes c.requires.sound n same) c.loop-container.invariant.so
