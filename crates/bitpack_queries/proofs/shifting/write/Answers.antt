-- Without work space for all ids they are many, and a set in chunks.
use Rattle.std.proofs.Common.{IfSome, List, Option, Result, ap, arith, length, refl, subst, ℕ, ◌≡◌, ◌+◌, ◌-◌, ◌^◌, ◌∙◌}
use Rattle.bitpack_slices.proofs.ForCallers.{rank_le, those_rise}
use Rattle.bitpack_slices.specs.Reads.{rank}
use Rattle.bitpack_slices.specs.declared.set_error.SetError.{SetError}
use Rattle.bitpack_sets.specs.Opened.{ids}
use Rattle.bitpack_queries.specs.Gathered.{Fills}
use Rattle.bitpack_queries.specs.Shifts.{has_moved, moved}
use Rattle.bitpack_queries.proofs.lemmas.two.CountLaws.{set_is}
use Rattle.bitpack_queries.proofs.lemmas.two.GatheredLaws.{chunks_few, fills_from, gathered_counted}
use Rattle.bitpack_queries.proofs.lemmas.two.ShiftLaws.{moved_len}
use Rattle.bitpack_queries.proofs.lemmas.two.WholeLaws.{is_large, some_written}
use Rattle.bitpack_queries.proofs.shifting.write.Goals as goal

pub split_at_mut-keys-requires : goal.split_at_mut-keys-requires
split_at_mut-keys-requires c =
    let all : List ℕ = ids c.args.set.now in
    let within = rank_le (c.before-3.result) all in
    let end = c.rank_below-end.ensures in
    let kept = c.write_whole.auto.room in
    let enough = c.requires.room in
    let large = is_large c.saturating_sub-count.result (length c.write_whole.new.room) c.rank_below-from.result c.rank_below-end.result all (omega (arith, c.saturating_sub-count.ensures)) (omega arith)
    (omega arith) (omega (arith, c.if-count-room.false)) in
    omega arith

pub split_at_mut-counts-requires : goal.split_at_mut-counts-requires
split_at_mut-counts-requires c =
    let all : List ℕ = ids c.args.set.now in
    let within = rank_le (c.before-3.result) all in
    let end = c.rank_below-end.ensures in
    let kept = c.write_whole.auto.room in
    let enough = c.requires.room in
    let large = is_large c.saturating_sub-count.result (length c.write_whole.new.room) c.rank_below-from.result c.rank_below-end.result all (omega (arith, c.saturating_sub-count.ensures)) (omega arith)
    (omega arith) (omega (arith, c.if-count-room.false)) in
    let a = c.split_at_mut-keys.ensures.back_len in
    omega arith

pub split_at_mut-sizes-requires : goal.split_at_mut-sizes-requires
split_at_mut-sizes-requires c =
    let all : List ℕ = ids c.args.set.now in
    let within = rank_le (c.before-3.result) all in
    let end = c.rank_below-end.ensures in
    let kept = c.write_whole.auto.room in
    let enough = c.requires.room in
    let large = is_large c.saturating_sub-count.result (length c.write_whole.new.room) c.rank_below-from.result c.rank_below-end.result all (omega (arith, c.saturating_sub-count.ensures)) (omega arith)
    (omega arith) (omega (arith, c.if-count-room.false)) in
    let a = c.split_at_mut-keys.ensures.back_len in
    let b = c.split_at_mut-counts.ensures.back_len in
    omega arith

pub gather-gathered-requires-clause-own : goal.gather-gathered-requires-clause-own
gather-gathered-requires-clause-own c =
    let all : List ℕ = ids c.args.set.now in
    let within = rank_le (c.before-3.result) all in
    let end = c.rank_below-end.ensures in
    let kept = c.write_whole.auto.room in
    let enough = c.requires.room in
    let large = is_large c.saturating_sub-count.result (length c.write_whole.new.room) c.rank_below-from.result c.rank_below-end.result all (omega (arith, c.saturating_sub-count.ensures)) (omega arith)
    (omega arith) (omega (arith, c.if-count-room.false)) in
    let a = c.split_at_mut-keys.ensures.back_len in
    let b = c.split_at_mut-counts.ensures.back_len in
    let d = c.split_at_mut-sizes.ensures.back_len in
    omega arith

pub write-requires : goal.write-requires
write-requires c =
    let it = c.gather-gathered in
    let numbers : List ℕ = moved c.args.shift.up c.args.shift.down (ids c.args.set.now) in
    let rise = those_rise (has_moved c.args.shift.up c.args.shift.down (ids c.args.set.now)) (2 ^ 32) in
    record {
      counted = gathered_counted numbers it.new.keys it.new.counts it.new.sizes it.new.out it.result.count it.result.chunks it.result.size it.ensures;
    }

pub unwrap-requires : goal.unwrap-requires
unwrap-requires c =
    let all : List ℕ = ids c.args.set.now in
    let within = rank_le (c.before-3.result) all in
    let end = c.rank_below-end.ensures in
    let kept = c.write_whole.auto.room in
    let enough = c.requires.room in
    let large = is_large c.saturating_sub-count.result (length c.write_whole.new.room) c.rank_below-from.result c.rank_below-end.result all (omega (arith, c.saturating_sub-count.ensures)) (omega arith)
    (omega arith) (omega (arith, c.if-count-room.false)) in
    let it = c.gather-gathered in
    let numbers : List ℕ = moved c.args.shift.up c.args.shift.down (ids c.args.set.now) in
    let rise = those_rise (has_moved c.args.shift.up c.args.shift.down (ids c.args.set.now)) (2 ^ 32) in
    let few = chunks_few numbers rise in
    let chunks = it.ensures.chunks_are in
    let count = it.ensures.count_is in
    let long = moved_len c.args.shift.up c.args.shift.down all (set_is c.args.set.now).rising in
    let from = c.rank_below-from.ensures in
    let begin = c.before-2.ensures in
    let last = c.before-3.ensures in
    let same : c.rank_below-end.result - c.rank_below-from.result ≡ rank (2 ^ 32 + c.args.shift.down - c.args.shift.up) all - rank (0 + c.args.shift.down - c.args.shift.up) all =
    (λ i. (end ∙ ap (λ (n : ℕ). rank n all) last) i - (from ∙ ap (λ (n : ℕ). rank n all) begin) i) in
    some_written c.write.result it.result.count it.result.chunks c.write.ensures.none (omega (arith, c.saturating_sub-count.ensures, c.if-count-room.false)) (omega (arith, c.saturating_sub-count.ensures, c.if-count-room.false))

pub returns : goal.returns
returns c =
    let it = c.gather-gathered in
    let numbers : List ℕ = moved c.args.shift.up c.args.shift.down (ids c.args.set.now) in
    let rise = those_rise (has_moved c.args.shift.up c.args.shift.down (ids c.args.set.now)) (2 ^ 32) in
    fills_from numbers numbers c.args.out.now it.new.out c.write.new.out c.unwrap.result refl
    (subst (λ (r : Option (Result ℕ SetError)). IfSome r (λ written. Fills numbers written it.new.out c.write.new.out)) c.unwrap.ensures (c.write.ensures.written numbers rise it.ensures))
