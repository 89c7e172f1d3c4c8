-- One chunk more is gathered, or none if the answer has no id of the key.
use Rattle.std.proofs.Common.{arith, inl, inr, ◌^◌, ◌∙◌}
use Rattle.std.proofs.lemmas.Bool.{cases_lt}
use Rattle.bitpack_slices.proofs.ForCallers.{those_few}
use Rattle.bitpack_queries.specs.Pairs.{left, meets}
use Rattle.bitpack_queries.proofs.lemmas.two.GatherLaws.{gather_done, gather_few, gather_key}
use Rattle.bitpack_queries.proofs.combining_sets.gathering.gather.Goals as goal

pub put_meeting-own-requires-clause-start : goal.put_meeting-own-requires-clause-start
put_meeting-own-requires-clause-start c =
    let few = those_few (2 ^ 32) (left c.args.pair) in
    let counted = c.loop-meeting.invariant.so.counted in
    let small = c.loop-meeting.invariant.small in
    omega arith

pub add-requires-clause-few : goal.add-requires-clause-few
add-requires-clause-few c =
    let few = those_few 65536 (meets c.next.new.self c.in-Some.meeting) in
    let count = c.put_meeting-own.ensures.count in
    omega arith

pub add-requires-clause-counted : goal.add-requires-clause-counted
add-requires-clause-counted c =
    let few = those_few (2 ^ 32) (left c.args.pair) in
    let count = c.put_meeting-own.ensures.count in
    let more = gather_few _ _ _ _ _ _ _ _ _ _ _ _ _ c.in-Some.ensures.part c.loop-meeting.invariant.so in
    omega arith

pub loop-meeting-preserved : goal.loop-meeting-preserved
loop-meeting-preserved c =
    let inv = c.loop-meeting.invariant in
    let most = inv.most in
    let fewer = c.in-Some.ensures.fewer in
    let small = inv.small in
    let own = c.put_meeting-own.ensures.few in
    let counted = c.add.ensures.count in
    let sized = c.add.ensures.size in
    let out_len = inv.out_len in
    let keys = inv.keys_len in
    let counts = inv.counts_len in
    let sizes = inv.sizes_len in
    let a = c.requires.keys in
    let b = c.requires.counts in
    let d = c.requires.sizes in
    let before = c.loop-meeting in
    let put = c.put_meeting-own in
    let after = c.add.new in
    record {
      so = gather_key c.in-Some.meeting.key (meets c.next.new.self c.in-Some.meeting) (left before.pair) (left c.next.new.self) _ _ before.out put.new.out
          before.keys before.counts before.sizes after.keys after.counts after.sizes before.gathered.count before.gathered.chunks before.gathered.size
          after.self.count after.self.chunks after.self.size put.result.0 put.result.1
          c.in-Some.ensures.part put.ensures.count own put.ensures.body put.ensures.none (omega arith) (λ some. (omega arith, (omega arith, omega arith)))
          counted sized c.add.ensures.none c.add.ensures.chunks c.add.ensures.keys c.add.ensures.counts c.add.ensures.sizes inv.so;
      most = elim (cases_lt 0 put.result.0) [
        | inl some ↦ (let more = c.add.ensures.chunks some in omega arith)
        | inr less ↦ (let same = (c.add.ensures.none (omega arith)).0 in omega arith)
      ];
      small = omega arith;
      out_len = omega arith;
      keys_len = c.add.auto.keys ∙ keys;
      counts_len = c.add.auto.counts ∙ counts;
      sizes_len = c.add.auto.sizes ∙ sizes;
    }

pub returns-clause-gathered : goal.returns-clause-gathered
returns-clause-gathered c = gather_done _ (left c.loop-meeting.pair) _ _ _ _ _ _ _ _ c.in_default.ensures.none c.loop-meeting.invariant.so
