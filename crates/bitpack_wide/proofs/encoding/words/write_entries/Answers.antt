-- The entry and the id set of one high word more are written.
use Rattle.std.proofs.Common.{◌≡◌, ℕ, ◌+◌, ◌*◌, ◌^◌, ◌≤◌, ◌++◌, List, length, take, arith, rules, ap, ◌∙◌}
use Rattle.bitpack_groups.proofs.ForCallers.{lent_len}
use Rattle.bitpack_sets.proofs.ForCallers.{directory_end, directory_more, directory_start, next_body_room, next_end_room, next_key_room, next_sum_room}
use Rattle.bitpack_slices.specs.Bodies.{le_bytes}
use Rattle.bitpack_sets.specs.Sets.{encoding}
use Rattle.bitpack_wide.proofs.WrittenLaws.{later_lows, next_few, next_lows, own_set, own_size, own_small}
use Rattle.bitpack_wide.proofs.encoding.words.write_entries.Goals as goal

pub loop-left-init : goal.loop-left-init
loop-left-init c = record {
  entries = directory_start (2 ^ 64) (2 ^ 32) 4 15 encoding c.args.ids.now 0 0 c.args.end_size c.args.sum_size c.args.highs.now c.args.ends.now c.args.sums.now c.args.out.now c.requires.set.rising
      c.requires.highs c.requires.ends c.requires.sums c.requires.bodies;
  low = c.requires.lows;
}

pub measure-measured-requires : goal.measure-measured-requires
measure-measured-requires c =
    own_set c.args.ids.now c.loop-left.left.now c.loop-left.low.now c.loop-left.end c.word_len-run.result c.requires.set.few c.loop-left.invariant.entries.measured c.loop-left.invariant.low
    c.word_len-run.ensures

pub overflow_add-end : goal.overflow_add-end
overflow_add-end c =
    let few = c.requires.set.few in
    let small = next_few c.args.ids.now c.loop-left.left.now c.loop-left.low.now c.loop-left.end c.word_len-run.result c.requires.set.few c.loop-left.invariant.entries.measured c.loop-left.invariant.low
    c.word_len-run.ensures c.measure-measured.result.len c.measure-measured.ensures.len_is in
    omega arith

pub slice_bounds-write_set-end : goal.slice_bounds-write_set-end
slice_bounds-write_set-end c =
    let long = own_size c.args.ids.now c.loop-left.left.now c.loop-left.low.now c.loop-left.end c.word_len-run.result c.requires.set.few c.loop-left.invariant.entries.measured c.loop-left.invariant.low
    c.word_len-run.ensures c.measure-measured.result.len c.measure-measured.ensures.len_is in
    let room : c.loop-left.end + c.measure-measured.result.len ≤ length c.loop-left.out =
    next_body_room (2 ^ 64) (2 ^ 32) 4 15 encoding c.args.ids.now c.loop-left.left.now 0 0 c.loop-left.index c.loop-left.end c.loop-left.sum c.args.end_size c.args.sum_size c.word_len-run.result
    c.loop-left.highs c.loop-left.ends c.loop-left.sums c.loop-left.out c.loop-left.invariant.entries c.word_len-run.ensures c.measure-measured.result.len long in
    search rules

pub write_set-requires-clause-set : goal.write_set-requires-clause-set
write_set-requires-clause-set c =
    own_set c.args.ids.now c.loop-left.left.now c.loop-left.low.now c.loop-left.end c.word_len-run.result c.requires.set.few c.loop-left.invariant.entries.measured c.loop-left.invariant.low
    c.word_len-run.ensures

pub write_set-requires-clause-size : goal.write_set-requires-clause-size
write_set-requires-clause-size c =
    let long = own_size c.args.ids.now c.loop-left.left.now c.loop-left.low.now c.loop-left.end c.word_len-run.result c.requires.set.few c.loop-left.invariant.entries.measured c.loop-left.invariant.low
    c.word_len-run.ensures c.measure-measured.result.len c.measure-measured.ensures.len_is in
    let room : c.loop-left.end + c.measure-measured.result.len ≤ length c.loop-left.out =
    next_body_room (2 ^ 64) (2 ^ 32) 4 15 encoding c.args.ids.now c.loop-left.left.now 0 0 c.loop-left.index c.loop-left.end c.loop-left.sum c.args.end_size c.args.sum_size c.word_len-run.result
    c.loop-left.highs c.loop-left.ends c.loop-left.sums c.loop-left.out c.loop-left.invariant.entries c.word_len-run.ensures c.measure-measured.result.len long in
    lent_len c.loop-left.end c.measure-measured.result.len c.loop-left.out room ∙ c.measure-measured.ensures.len_is

pub write_at-requires : goal.write_at-requires
write_at-requires c =
    next_key_room (2 ^ 64) (2 ^ 32) 4 15 encoding c.args.ids.now c.loop-left.left.now 0 0 c.loop-left.index c.loop-left.end c.loop-left.sum c.args.end_size c.args.sum_size c.word_len-run.result
    c.loop-left.highs c.loop-left.ends c.loop-left.sums c.loop-left.out c.loop-left.invariant.entries c.word_len-run.ensures

pub overflow_cast-end : goal.overflow_cast-end
overflow_cast-end c =
    let few = c.requires.set.few in
    let small = next_few c.args.ids.now c.loop-left.left.now c.loop-left.low.now c.loop-left.end c.word_len-run.result c.requires.set.few c.loop-left.invariant.entries.measured c.loop-left.invariant.low
    c.word_len-run.ensures c.measure-measured.result.len c.measure-measured.ensures.len_is in
    omega arith

pub write_at-requires-in-loop-left : goal.write_at-requires-in-loop-left
write_at-requires-in-loop-left c =
    let long = own_size c.args.ids.now c.loop-left.left.now c.loop-left.low.now c.loop-left.end c.word_len-run.result c.requires.set.few c.loop-left.invariant.entries.measured c.loop-left.invariant.low
    c.word_len-run.ensures c.measure-measured.result.len c.measure-measured.ensures.len_is in
    next_end_room (2 ^ 64) (2 ^ 32) 4 15 encoding c.args.ids.now c.loop-left.left.now 0 0 c.loop-left.index c.loop-left.end c.loop-left.sum c.args.end_size c.args.sum_size c.word_len-run.result
    c.loop-left.highs c.loop-left.ends c.loop-left.sums c.loop-left.out c.loop-left.invariant.entries c.word_len-run.ensures c.measure-measured.result.len long

pub write_at-requires-in-loop-left-2 : goal.write_at-requires-in-loop-left-2
write_at-requires-in-loop-left-2 c =
    next_sum_room (2 ^ 64) (2 ^ 32) 4 15 encoding c.args.ids.now c.loop-left.left.now 0 0 c.loop-left.index c.loop-left.end c.loop-left.sum c.args.end_size c.args.sum_size c.word_len-run.result
    c.loop-left.highs c.loop-left.ends c.loop-left.sums c.loop-left.out c.loop-left.invariant.entries c.word_len-run.ensures

pub loop-left-preserved : goal.loop-left-preserved
loop-left-preserved c =
    let run : ℕ = c.word_len-run.result in
    let left : List ℕ = c.loop-left.left.now in
    let size : ℕ = c.measure-measured.result.len in
    let long = own_size c.args.ids.now left c.loop-left.low.now c.loop-left.end run c.requires.set.few c.loop-left.invariant.entries.measured c.loop-left.invariant.low c.word_len-run.ensures size
    c.measure-measured.ensures.len_is in
    let few = own_small c.args.ids.now left c.loop-left.low.now c.loop-left.end run c.requires.set.few c.loop-left.invariant.entries.measured c.loop-left.invariant.low c.word_len-run.ensures size
    c.measure-measured.ensures.len_is in
    let end_is : c.loop-left.end + size ≡ 0 + (c.loop-left.end + size) = omega arith in
    let sum_is : c.loop-left.sum + run ≡ 0 + (c.loop-left.sum + run) = omega arith in
    record {
      entries = directory_more (2 ^ 64) (2 ^ 32) 4 15 encoding c.args.ids.now left 0 0 c.loop-left.index c.loop-left.end c.loop-left.sum c.args.end_size c.args.sum_size run c.loop-left.highs
          c.loop-left.ends c.loop-left.sums c.loop-left.out c.loop-left.invariant.entries c.word_len-run.ensures size c.write_at.new.out c.write_at-in-loop-left.new.out
          c.write_at-in-loop-left-2.new.out c.write_set.new.out long few c.write_at.auto.out c.write_at.ensures.bytes c.write_at-in-loop-left.auto.out
          (c.write_at-in-loop-left.ensures.bytes ∙ ap (λ (n : ℕ). take (c.args.end_size * c.loop-left.index) c.loop-left.ends ++ le_bytes c.args.end_size n) end_is)
          c.write_at-in-loop-left-2.auto.out
          (c.write_at-in-loop-left-2.ensures.bytes ∙ ap (λ (n : ℕ). take (c.args.sum_size * c.loop-left.index) c.loop-left.sums ++ le_bytes c.args.sum_size n) sum_is)
          (c.write_set.ensures ∙ ap encoding (next_lows run left c.loop-left.low.now c.loop-left.invariant.low));
      low = later_lows run left c.loop-left.low.now c.loop-left.invariant.low;
    }

pub returns-clause-highs : goal.returns-clause-highs
returns-clause-highs c =
    let none : length c.loop-left.left.now ≡ 0 = search rules in
    (directory_end (2 ^ 64) (2 ^ 32) 4 15 encoding c.args.ids.now c.loop-left.left.now 0 0 c.loop-left.index c.loop-left.end c.loop-left.sum c.args.end_size c.args.sum_size c.loop-left.highs
    c.loop-left.ends c.loop-left.sums c.loop-left.out c.loop-left.invariant.entries none).0

pub returns-clause-ends : goal.returns-clause-ends
returns-clause-ends c =
    let none : length c.loop-left.left.now ≡ 0 = search rules in
    (directory_end (2 ^ 64) (2 ^ 32) 4 15 encoding c.args.ids.now c.loop-left.left.now 0 0 c.loop-left.index c.loop-left.end c.loop-left.sum c.args.end_size c.args.sum_size c.loop-left.highs
    c.loop-left.ends c.loop-left.sums c.loop-left.out c.loop-left.invariant.entries none).1

pub returns-clause-sums : goal.returns-clause-sums
returns-clause-sums c =
    let none : length c.loop-left.left.now ≡ 0 = search rules in
    (directory_end (2 ^ 64) (2 ^ 32) 4 15 encoding c.args.ids.now c.loop-left.left.now 0 0 c.loop-left.index c.loop-left.end c.loop-left.sum c.args.end_size c.args.sum_size c.loop-left.highs
    c.loop-left.ends c.loop-left.sums c.loop-left.out c.loop-left.invariant.entries none).2

pub returns-clause-bodies : goal.returns-clause-bodies
returns-clause-bodies c =
    let none : length c.loop-left.left.now ≡ 0 = search rules in
    (directory_end (2 ^ 64) (2 ^ 32) 4 15 encoding c.args.ids.now c.loop-left.left.now 0 0 c.loop-left.index c.loop-left.end c.loop-left.sum c.args.end_size c.args.sum_size c.loop-left.highs
    c.loop-left.ends c.loop-left.sums c.loop-left.out c.loop-left.invariant.entries none).3
