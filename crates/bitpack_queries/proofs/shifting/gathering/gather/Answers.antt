-- One chunk more is gathered.
use Rattle.std.proofs.Common.{ℕ, ◌+◌, ◌-◌, ◌*◌, ◌/◌, ◌^◌, ◌<◌, ◌≤◌, Bool, List, arith, ap, length, slice_index, sym, subst, refl, ◌∙◌}
use Rattle.std.specs.Option.{IsSome}
use Rattle.std.proofs.lemmas.List.{length-take-le}
use Rattle.std.proofs.lemmas.Option.{slice_get-get_or}
use Rattle.bitpack_slices.proofs.ForCallers.{rank_le, those_few, those_rise}
use Rattle.bitpack_slices.specs.Follows.{Follow}
use Rattle.bitpack_slices.specs.Operations.{those}
use Rattle.bitpack_slices.specs.Reads.{rank}
use Rattle.bitpack_sets.proofs.ForCallers.{lows_raised, raised_chunk}
use Rattle.bitpack_sets.specs.Opened.{ids}
use Rattle.bitpack_sets.specs.Sets.{body}
use Rattle.bitpack_sets.specs.Written.{IsChunk, lows}
use Rattle.bitpack_queries.specs.Shifts.{has_moved, moved}
use Rattle.bitpack_queries.proofs.lemmas.two.CountLaws.{set_is}
use Rattle.bitpack_queries.proofs.lemmas.two.GatherLaws.{gather_done, gather_few, gather_key, next_chunk}
use Rattle.bitpack_queries.proofs.lemmas.two.GatheredLaws.{chunks_few}
use Rattle.bitpack_queries.proofs.lemmas.two.ShiftLaws.{copied, later, none_later, move, moved_few, stays, step}
use Rattle.bitpack_queries.proofs.shifting.gathering.gather.Goals as goal

pub unwrap-requires : goal.unwrap-requires
unwrap-requires c =
    let set = c.args.set.now in
    let all = rank_le (2 ^ 32 + c.args.shift.down - c.args.shift.up) (ids set) in
    let end = c.requires.end in
    let less = c.loop-at-test.true in
    subst IsSome (sym (c.select.ensures ∙ slice_get-get_or (ids set) c.loop-at.at 0 (omega arith))) refl

pub after-key-requires-clause-below : goal.after-key-requires-clause-below
after-key-requires-clause-below c =
    let set = c.args.set.now in
    let rise = (set_is set).rising in
    let inv = c.loop-at.invariant in
    let found = sym c.select.ensures ∙ c.unwrap.ensures in
    (stays c.loop-at.low c.args.shift.up c.args.shift.down c.loop-at.at c.args.end c.unwrap.result (ids set) rise inv.here c.requires.end c.loop-at-test.true found).0

pub after-key-requires-clause-above : goal.after-key-requires-clause-above
after-key-requires-clause-above c =
    let set = c.args.set.now in
    let rise = (set_is set).rising in
    let inv = c.loop-at.invariant in
    let found = sym c.select.ensures ∙ c.unwrap.ensures in
    (stays c.loop-at.low c.args.shift.up c.args.shift.down c.loop-at.at c.args.end c.unwrap.result (ids set) rise inv.here c.requires.end c.loop-at-test.true found).1

pub slice_bounds-part-count : goal.slice_bounds-part-count
slice_bounds-part-count c =
    let set = c.args.set.now in
    let rise = (set_is set).rising in
    let inv = c.loop-at.invariant in
    let found = sym c.select.ensures ∙ c.unwrap.ensures in
    let s = step c.loop-at.low c.args.shift.up c.args.shift.down c.loop-at.at c.rank_below-next.result c.args.end c.unwrap.result (c.after-key.result / 65536) (ids set) rise inv.here c.requires.end
    c.loop-at-test.true found (ap (λ (n : ℕ). n / 65536) c.after-key.ensures) (c.rank_below-next.ensures ∙ ap (λ (n : ℕ). rank n (ids set)) c.before-in-loop-at.ensures) in
    let on = s.on in
    let within = s.within in
    let counted = s.count_is in
    omega arith

pub slice_bounds-part-end : goal.slice_bounds-part-end
slice_bounds-part-end c =
    let set = c.args.set.now in
    let rise = (set_is set).rising in
    let inv = c.loop-at.invariant in
    let found = sym c.select.ensures ∙ c.unwrap.ensures in
    let s = step c.loop-at.low c.args.shift.up c.args.shift.down c.loop-at.at c.rank_below-next.result c.args.end c.unwrap.result (c.after-key.result / 65536) (ids set) rise inv.here c.requires.end
    c.loop-at-test.true found (ap (λ (n : ℕ). n / 65536) c.after-key.ensures) (c.rank_below-next.ensures ∙ ap (λ (n : ℕ). rank n (ids set)) c.before-in-loop-at.ensures) in
    let few = those_few 65536 (λ y. later c.loop-at.low c.args.shift.up c.args.shift.down (ids set) ((c.after-key.result / 65536) * 65536 + y)) in
    let on = s.on in
    let within = s.within in
    let counted = s.count_is in
    let room = c.requires.own in
    let long = inv.own_len in
    omega arith

pub slice_bounds-part-length : goal.slice_bounds-part-length
slice_bounds-part-length c =
    let set = c.args.set.now in
    let rise = (set_is set).rising in
    let inv = c.loop-at.invariant in
    let found = sym c.select.ensures ∙ c.unwrap.ensures in
    let s = step c.loop-at.low c.args.shift.up c.args.shift.down c.loop-at.at c.rank_below-next.result c.args.end c.unwrap.result (c.after-key.result / 65536) (ids set) rise inv.here c.requires.end
    c.loop-at-test.true found (ap (λ (n : ℕ). n / 65536) c.after-key.ensures) (c.rank_below-next.ensures ∙ ap (λ (n : ℕ). rank n (ids set)) c.before-in-loop-at.ensures) in
    let few = those_few 65536 (λ y. later c.loop-at.low c.args.shift.up c.args.shift.down (ids set) ((c.after-key.result / 65536) * 65536 + y)) in
    let on = s.on in
    let within = s.within in
    let counted = s.count_is in
    let room = c.requires.own in
    let long = inv.own_len in
    sym (length-take-le (c.rank_below-next.result - c.loop-at.at) c.loop-at.own (omega arith))

pub shift_ids-requires-clause-below : goal.shift_ids-requires-clause-below
shift_ids-requires-clause-below c =
    let set = c.args.set.now in
    let rise = (set_is set).rising in
    let inv = c.loop-at.invariant in
    let found = sym c.select.ensures ∙ c.unwrap.ensures in
    let s = step c.loop-at.low c.args.shift.up c.args.shift.down c.loop-at.at c.rank_below-next.result c.args.end c.unwrap.result (c.after-key.result / 65536) (ids set) rise inv.here c.requires.end
    c.loop-at-test.true found (ap (λ (n : ℕ). n / 65536) c.after-key.ensures) (c.rank_below-next.ensures ∙ ap (λ (n : ℕ). rank n (ids set)) c.before-in-loop-at.ensures) in
    let on = s.on in
    let within = s.within in
    let counted = s.count_is in
    let few = those_few 65536 (λ y. later c.loop-at.low c.args.shift.up c.args.shift.down (ids set) ((c.after-key.result / 65536) * 65536 + y)) in
    let room = c.requires.own in
    let long = inv.own_len in
    let cut = length-take-le (c.rank_below-next.result - c.loop-at.at) c.loop-at.own (omega arith) in
    let own = copied c.loop-at.at (c.rank_below-next.result - c.loop-at.at) c.copy_range.result c.copy_range.new.out (ids set) (omega (arith, c.copy_range.auto.out)) (omega arith)
    (omega (arith, c.copy_range.ensures.len, c.copy_range.auto.out)) c.copy_range.ensures.ids in
    λ k h. (subst (λ (l : List ℕ). (c.args.shift.down ≤ slice_index l k + c.args.shift.up) × (slice_index l k + c.args.shift.up - c.args.shift.down < 2 ^ 32)) (sym own)
    (s.fits k (omega (arith, c.copy_range.auto.out)))).0

pub shift_ids-requires-clause-above : goal.shift_ids-requires-clause-above
shift_ids-requires-clause-above c =
    let set = c.args.set.now in
    let rise = (set_is set).rising in
    let inv = c.loop-at.invariant in
    let found = sym c.select.ensures ∙ c.unwrap.ensures in
    let s = step c.loop-at.low c.args.shift.up c.args.shift.down c.loop-at.at c.rank_below-next.result c.args.end c.unwrap.result (c.after-key.result / 65536) (ids set) rise inv.here c.requires.end
    c.loop-at-test.true found (ap (λ (n : ℕ). n / 65536) c.after-key.ensures) (c.rank_below-next.ensures ∙ ap (λ (n : ℕ). rank n (ids set)) c.before-in-loop-at.ensures) in
    let on = s.on in
    let within = s.within in
    let counted = s.count_is in
    let few = those_few 65536 (λ y. later c.loop-at.low c.args.shift.up c.args.shift.down (ids set) ((c.after-key.result / 65536) * 65536 + y)) in
    let room = c.requires.own in
    let long = inv.own_len in
    let cut = length-take-le (c.rank_below-next.result - c.loop-at.at) c.loop-at.own (omega arith) in
    let own = copied c.loop-at.at (c.rank_below-next.result - c.loop-at.at) c.copy_range.result c.copy_range.new.out (ids set) (omega (arith, c.copy_range.auto.out)) (omega arith)
    (omega (arith, c.copy_range.ensures.len, c.copy_range.auto.out)) c.copy_range.ensures.ids in
    λ k h. (subst (λ (l : List ℕ). (c.args.shift.down ≤ slice_index l k + c.args.shift.up) × (slice_index l k + c.args.shift.up - c.args.shift.down < 2 ^ 32)) (sym own)
    (s.fits k (omega (arith, c.copy_range.auto.out)))).1

pub put_chunk-size-requires-clause-chunk : goal.put_chunk-size-requires-clause-chunk
put_chunk-size-requires-clause-chunk c =
    let set = c.args.set.now in
    let rise = (set_is set).rising in
    let inv = c.loop-at.invariant in
    let found = sym c.select.ensures ∙ c.unwrap.ensures in
    let s = step c.loop-at.low c.args.shift.up c.args.shift.down c.loop-at.at c.rank_below-next.result c.args.end c.unwrap.result (c.after-key.result / 65536) (ids set) rise inv.here c.requires.end
    c.loop-at-test.true found (ap (λ (n : ℕ). n / 65536) c.after-key.ensures) (c.rank_below-next.ensures ∙ ap (λ (n : ℕ). rank n (ids set)) c.before-in-loop-at.ensures) in
    let on = s.on in
    let within = s.within in
    let counted = s.count_is in
    let few = those_few 65536 (λ y. later c.loop-at.low c.args.shift.up c.args.shift.down (ids set) ((c.after-key.result / 65536) * 65536 + y)) in
    let room = c.requires.own in
    let long = inv.own_len in
    let cut = length-take-le (c.rank_below-next.result - c.loop-at.at) c.loop-at.own (omega arith) in
    let own = copied c.loop-at.at (c.rank_below-next.result - c.loop-at.at) c.copy_range.result c.copy_range.new.out (ids set) (omega (arith, c.copy_range.auto.out)) (omega arith)
    (omega (arith, c.copy_range.ensures.len, c.copy_range.auto.out)) c.copy_range.ensures.ids in
    subst IsChunk (sym (c.shift_ids.ensures ∙ ap (move c.args.shift.up c.args.shift.down) own ∙ s.ids_are)) (raised_chunk (c.after-key.result / 65536) _ s.small
    (those_rise (λ y. later c.loop-at.low c.args.shift.up c.args.shift.down (ids set) ((c.after-key.result / 65536) * 65536 + y)) 65536))

pub put_chunk-size-requires-clause-some : goal.put_chunk-size-requires-clause-some
put_chunk-size-requires-clause-some c =
    let set = c.args.set.now in
    let rise = (set_is set).rising in
    let inv = c.loop-at.invariant in
    let found = sym c.select.ensures ∙ c.unwrap.ensures in
    let s = step c.loop-at.low c.args.shift.up c.args.shift.down c.loop-at.at c.rank_below-next.result c.args.end c.unwrap.result (c.after-key.result / 65536) (ids set) rise inv.here c.requires.end
    c.loop-at-test.true found (ap (λ (n : ℕ). n / 65536) c.after-key.ensures) (c.rank_below-next.ensures ∙ ap (λ (n : ℕ). rank n (ids set)) c.before-in-loop-at.ensures) in
    let few = those_few 65536 (λ y. later c.loop-at.low c.args.shift.up c.args.shift.down (ids set) ((c.after-key.result / 65536) * 65536 + y)) in
    let on = s.on in
    let within = s.within in
    let counted = s.count_is in
    let room = c.requires.own in
    let long = inv.own_len in
    let cut = length-take-le (c.rank_below-next.result - c.loop-at.at) c.loop-at.own (omega arith) in
    omega (arith, c.copy_range.auto.out, c.shift_ids.auto.own)

pub put_chunk-size-requires-clause-few : goal.put_chunk-size-requires-clause-few
put_chunk-size-requires-clause-few c =
    let set = c.args.set.now in
    let rise = (set_is set).rising in
    let inv = c.loop-at.invariant in
    let found = sym c.select.ensures ∙ c.unwrap.ensures in
    let s = step c.loop-at.low c.args.shift.up c.args.shift.down c.loop-at.at c.rank_below-next.result c.args.end c.unwrap.result (c.after-key.result / 65536) (ids set) rise inv.here c.requires.end
    c.loop-at-test.true found (ap (λ (n : ℕ). n / 65536) c.after-key.ensures) (c.rank_below-next.ensures ∙ ap (λ (n : ℕ). rank n (ids set)) c.before-in-loop-at.ensures) in
    let few = those_few 65536 (λ y. later c.loop-at.low c.args.shift.up c.args.shift.down (ids set) ((c.after-key.result / 65536) * 65536 + y)) in
    let on = s.on in
    let within = s.within in
    let counted = s.count_is in
    let room = c.requires.own in
    let long = inv.own_len in
    let cut = length-take-le (c.rank_below-next.result - c.loop-at.at) c.loop-at.own (omega arith) in
    omega (arith, c.copy_range.auto.out, c.shift_ids.auto.own)

pub put_chunk-size-requires-clause-start : goal.put_chunk-size-requires-clause-start
put_chunk-size-requires-clause-start c =
    let set = c.args.set.now in
    let rise = (set_is set).rising in
    let inv = c.loop-at.invariant in
    let found = sym c.select.ensures ∙ c.unwrap.ensures in
    let s = step c.loop-at.low c.args.shift.up c.args.shift.down c.loop-at.at c.rank_below-next.result c.args.end c.unwrap.result (c.after-key.result / 65536) (ids set) rise inv.here c.requires.end
    c.loop-at-test.true found (ap (λ (n : ℕ). n / 65536) c.after-key.ensures) (c.rank_below-next.ensures ∙ ap (λ (n : ℕ). rank n (ids set)) c.before-in-loop-at.ensures) in
    let all = moved_few c.args.shift.up c.args.shift.down (ids set) rise in
    let most = (set_is set).few in
    let so = inv.so.counted in
    let small = inv.small in
    omega arith

pub overflow_sub-next : goal.overflow_sub-next
overflow_sub-next c =
    let set = c.args.set.now in
    let rise = (set_is set).rising in
    let inv = c.loop-at.invariant in
    let found = sym c.select.ensures ∙ c.unwrap.ensures in
    let s = step c.loop-at.low c.args.shift.up c.args.shift.down c.loop-at.at c.rank_below-next.result c.args.end c.unwrap.result (c.after-key.result / 65536) (ids set) rise inv.here c.requires.end
    c.loop-at-test.true found (ap (λ (n : ℕ). n / 65536) c.after-key.ensures) (c.rank_below-next.ensures ∙ ap (λ (n : ℕ). rank n (ids set)) c.before-in-loop-at.ensures) in
    let on = s.on in
    let within = s.within in
    let counted = s.count_is in
    omega arith

pub add-requires-clause-few : goal.add-requires-clause-few
add-requires-clause-few c =
    let set = c.args.set.now in
    let rise = (set_is set).rising in
    let inv = c.loop-at.invariant in
    let found = sym c.select.ensures ∙ c.unwrap.ensures in
    let s = step c.loop-at.low c.args.shift.up c.args.shift.down c.loop-at.at c.rank_below-next.result c.args.end c.unwrap.result (c.after-key.result / 65536) (ids set) rise inv.here c.requires.end
    c.loop-at-test.true found (ap (λ (n : ℕ). n / 65536) c.after-key.ensures) (c.rank_below-next.ensures ∙ ap (λ (n : ℕ). rank n (ids set)) c.before-in-loop-at.ensures) in
    let few = those_few 65536 (λ y. later c.loop-at.low c.args.shift.up c.args.shift.down (ids set) ((c.after-key.result / 65536) * 65536 + y)) in
    let on = s.on in
    let within = s.within in
    let counted = s.count_is in
    omega arith

pub add-requires-clause-counted : goal.add-requires-clause-counted
add-requires-clause-counted c =
    let set = c.args.set.now in
    let rise = (set_is set).rising in
    let inv = c.loop-at.invariant in
    let found = sym c.select.ensures ∙ c.unwrap.ensures in
    let s = step c.loop-at.low c.args.shift.up c.args.shift.down c.loop-at.at c.rank_below-next.result c.args.end c.unwrap.result (c.after-key.result / 65536) (ids set) rise inv.here c.requires.end
    c.loop-at-test.true found (ap (λ (n : ℕ). n / 65536) c.after-key.ensures) (c.rank_below-next.ensures ∙ ap (λ (n : ℕ). rank n (ids set)) c.before-in-loop-at.ensures) in
    let on = s.on in
    let within = s.within in
    let counted = s.count_is in
    let all = moved_few c.args.shift.up c.args.shift.down (ids set) rise in
    let most = (set_is set).few in
    let so = inv.so.counted in
    let small = inv.small in
    let more = gather_few _ _ _ _ _ _ _ _ _ _ _ _ _ s.part inv.so in
    omega arith

pub add-requires-clause-room : goal.add-requires-clause-room
add-requires-clause-room c =
    let set = c.args.set.now in
    let rise = (set_is set).rising in
    let inv = c.loop-at.invariant in
    let found = sym c.select.ensures ∙ c.unwrap.ensures in
    let s = step c.loop-at.low c.args.shift.up c.args.shift.down c.loop-at.at c.rank_below-next.result c.args.end c.unwrap.result (c.after-key.result / 65536) (ids set) rise inv.here c.requires.end
    c.loop-at-test.true found (ap (λ (n : ℕ). n / 65536) c.after-key.ensures) (c.rank_below-next.ensures ∙ ap (λ (n : ℕ). rank n (ids set)) c.before-in-loop-at.ensures) in
    let on = s.on in
    let within = s.within in
    let counted = s.count_is in
    let next = ap length (next_chunk _ _ _ _ s.part (omega arith)) in
    let parted = inv.so.parted in
    let most = chunks_few (moved c.args.shift.up c.args.shift.down (ids set)) (those_rise (has_moved c.args.shift.up c.args.shift.down (ids set)) (2 ^ 32)) in
    let a = c.requires.keys in
    let b = c.requires.counts in
    let d = c.requires.sizes in
    let keys = inv.keys_len in
    let counts = inv.counts_len in
    let sizes = inv.sizes_len in
    λ some. (omega arith, (omega arith, omega arith))

pub loop-at-smaller : goal.loop-at-smaller
loop-at-smaller c =
    let set = c.args.set.now in
    let rise = (set_is set).rising in
    let inv = c.loop-at.invariant in
    let found = sym c.select.ensures ∙ c.unwrap.ensures in
    let s = step c.loop-at.low c.args.shift.up c.args.shift.down c.loop-at.at c.rank_below-next.result c.args.end c.unwrap.result (c.after-key.result / 65536) (ids set) rise inv.here c.requires.end
    c.loop-at-test.true found (ap (λ (n : ℕ). n / 65536) c.after-key.ensures) (c.rank_below-next.ensures ∙ ap (λ (n : ℕ). rank n (ids set)) c.before-in-loop-at.ensures) in
    let on = s.on in
    let within = s.within in
    let counted = s.count_is in
    let less = c.loop-at-test.true in
    omega arith

pub loop-at-preserved : goal.loop-at-preserved
loop-at-preserved c =
    let set = c.args.set.now in
    let rise = (set_is set).rising in
    let inv = c.loop-at.invariant in
    let found = sym c.select.ensures ∙ c.unwrap.ensures in
    let s = step c.loop-at.low c.args.shift.up c.args.shift.down c.loop-at.at c.rank_below-next.result c.args.end c.unwrap.result (c.after-key.result / 65536) (ids set) rise inv.here c.requires.end
    c.loop-at-test.true found (ap (λ (n : ℕ). n / 65536) c.after-key.ensures) (c.rank_below-next.ensures ∙ ap (λ (n : ℕ). rank n (ids set)) c.before-in-loop-at.ensures) in
    let on = s.on in
    let within = s.within in
    let counted = s.count_is in
    let few = those_few 65536 (λ y. later c.loop-at.low c.args.shift.up c.args.shift.down (ids set) ((c.after-key.result / 65536) * 65536 + y)) in
    let room = c.requires.own in
    let long = inv.own_len in
    let cut = length-take-le (c.rank_below-next.result - c.loop-at.at) c.loop-at.own (omega arith) in
    let own = copied c.loop-at.at (c.rank_below-next.result - c.loop-at.at) c.copy_range.result c.copy_range.new.out (ids set) (omega (arith, c.copy_range.auto.out)) (omega arith)
    (omega (arith, c.copy_range.ensures.len, c.copy_range.auto.out)) c.copy_range.ensures.ids in
    let put = c.put_chunk-size in
    let before = c.loop-at in
    let after = c.add.new in
    let key : ℕ = c.after-key.result / 65536 in
    let test : ℕ → Bool = λ y. later before.low c.args.shift.up c.args.shift.down (ids set) (key * 65536 + y) in
    let same = c.shift_ids.ensures ∙ ap (move c.args.shift.up c.args.shift.down) own ∙ s.ids_are in
    let lows_are = ap lows same ∙ lows_raised key 0 (those 65536 test) (those_rise test 65536) in
    let small = inv.small in
    let less = put.ensures.small in
    let count = c.add.ensures.count in
    let size = c.add.ensures.size in
    let next = ap length (next_chunk _ _ _ _ s.part (omega arith)) in
    let parted = inv.so.parted in
    let most = chunks_few (moved c.args.shift.up c.args.shift.down (ids set)) (those_rise (has_moved c.args.shift.up c.args.shift.down (ids set)) (2 ^ 32)) in
    let a = c.requires.keys in
    let b = c.requires.counts in
    let d = c.requires.sizes in
    let keys = inv.keys_len in
    let counts = inv.counts_len in
    let sizes = inv.sizes_len in
    let key_small = s.small in
    record {
      so = gather_key key test (later before.low c.args.shift.up c.args.shift.down (ids set)) (later (65536 * (key + 1)) c.args.shift.up c.args.shift.down (ids set)) _ _ before.out put.new.out
          before.keys before.counts before.sizes after.keys after.counts after.sizes before.gathered.count before.gathered.chunks before.gathered.size
          after.self.count after.self.chunks after.self.size (c.rank_below-next.result - before.at) put.result
          s.part s.count_is (omega (arith, c.copy_range.auto.out, c.shift_ids.auto.own))
          (λ some. subst (λ (l : List ℕ). Follow (body l) before.out put.new.out before.gathered.size (before.gathered.size + put.result)) lows_are put.ensures.body)
          (λ none. absurd (omega arith)) put.auto.out (λ some. (omega arith, (omega arith, omega arith)))
          count size c.add.ensures.none c.add.ensures.chunks c.add.ensures.keys c.add.ensures.counts c.add.ensures.sizes inv.so;
      here = c.rank_below-next.ensures ∙ ap (λ (n : ℕ). rank n (ids set)) c.before-in-loop-at.ensures;
      low_fits = omega arith;
      small = omega (arith, c.copy_range.auto.out, c.shift_ids.auto.own);
      out_len = put.auto.out ∙ inv.out_len;
      own_len = omega (arith, inv.own_len, c.type_inv.own);
      keys_len = c.add.auto.keys ∙ keys;
      counts_len = c.add.auto.counts ∙ counts;
      sizes_len = c.add.auto.sizes ∙ sizes;
    }

pub returns : goal.returns
returns c =
    let inv = c.loop-at.invariant in
    let set = c.args.set.now in
    gather_done (moved c.args.shift.up c.args.shift.down (ids set)) _ _ _ _ _ _ _ _ _
    (none_later c.loop-at.low c.args.shift.up c.args.shift.down c.loop-at.at (ids set) (set_is set).rising inv.here (omega (arith, c.requires.end, c.loop-at-test.false))) inv.so
