-- One chunk more is gathered.
use Rattle.std.proofs.Common.{◌≡◌, ℕ, ◌+◌, ◌-◌, ◌*◌, ◌/◌, ◌^◌, ◌<◌, ◌≤◌, List, arith, ap, inl, inr, length, min, refl, set, sym, subst, ◌∙◌}
use Rattle.std.proofs.lemmas.Bool.{cases_lt}
use Rattle.bitpack_slices.proofs.ForCallers.{rising_room, those_are, those_rise}
use Rattle.bitpack_slices.specs.Bodies.{IsRising}
use Rattle.bitpack_slices.specs.Operations.{those}
use Rattle.bitpack_slices.specs.Reads.{has}
use Rattle.bitpack_sets.specs.Chunks.{ids_from, lows_between, positions}
use Rattle.bitpack_sets.specs.Opened.{ids}
use Rattle.bitpack_sets.specs.Sets.{body}
use Rattle.bitpack_queries.specs.Shifts.{has_moved, moved}
use Rattle.bitpack_queries.proofs.lemmas.two.CountLaws.{set_is}
use Rattle.bitpack_queries.proofs.lemmas.two.GatherLaws.{Gathering, follow_long, gather_done, gather_few, gather_key, gather_start, next_chunk}
use Rattle.bitpack_queries.proofs.lemmas.two.ShiftLaws.{moved_few}
use Rattle.bitpack_queries.proofs.lemmas.two.WholeLaws.{chunks_room, has_top, next_position, past_end, whole_end, whole_part, whole_start}
use Rattle.bitpack_queries.proofs.shifting.gathering.gather_whole.Goals as goal

pub loop-key-init : goal.loop-key-init
loop-key-init c =
    let up : ℕ = c.args.shift.up in
    let down : ℕ = c.args.shift.down in
    let all : List ℕ = ids c.args.set.now in
    let is = set_is c.args.set.now in
    let chunks = c.chunks_of-chunks.result in
    let first : ℕ = c.key_from.result in
    let (u, d) = c.requires.whole in
    let zeroth = c.before-3.ensures in
    let within = c.key_from.ensures.within in
    let begin : first * 65536 ≤ down - up = elim (cases_lt c.before-3.result (2 ^ 32)) [
      | inl small ↦ (let e = c.key_from.ensures.key small in omega arith)
      | inr more ↦ omega arith
    ] in
    let same : (y : ℕ) → first * 65536 ≤ y → has y all ≡ has y (ids_from chunks c.seek-position.result) =
    λ y h. ap (has y) (sym c.chunks_of-chunks.ensures.ids) ∙ c.seek-position.ensures.ids y h in
    let whole = whole_start up down first all (ids_from chunks c.seek-position.result) begin same in
    let none = c.new-gathered.ensures in
    let reached = c.seek-position.ensures.reached in
    let key = c.key-key.ensures.first in
    record {
      so = rw (none.0, none.1.0, none.1.1) (subst (λ (left : List ℕ). Gathering (moved up down all) left c.args.out.now c.args.out.now c.args.keys.now c.args.counts.now c.args.sizes.now 0 0 0) whole
          (gather_start (moved up down all) c.args.out.now c.args.keys.now c.args.counts.now c.args.sizes.now));
      key_is = key;
      lower = c.key-key.ensures.none;
      top = λ y h. sym (same y (omega arith)) ∙ has_top y all is.rising h;
      within = c.seek-position.ensures.within;
      begin = λ h. elim (cases_lt c.before-3.result (2 ^ 32)) [
        | inl small ↦ (let e = c.key_from.ensures.key small in omega arith)
        | inr more ↦ (let e = c.key_from.ensures.most more in omega arith)
      ];
      small = (let a = none.0 in let b = none.1.1 in omega arith);
      out_len = refl;
      keys_len = refl;
      counts_len = refl;
      sizes_len = refl;
    }

pub coded-requires : goal.coded-requires
coded-requires c =
    let up : ℕ = c.args.shift.up in
    let down : ℕ = c.args.shift.down in
    let all : List ℕ = ids c.args.set.now in
    let is = set_is c.args.set.now in
    let inv = c.loop-key.invariant in
    let chunks = c.chunks_of-chunks.result in
    let key : ℕ = c.loop-key.key in
    let less = c.loop-key-test.true in
    let (u, d) = c.requires.whole in
    record {
      within = elim (cases_lt c.loop-key.position (positions chunks)) [
        | inl inside ↦ inside
        | inr outside ↦ (let past = past_end chunks c.loop-key.position outside in let here = inv.key_is in let most = c.key_from-limit.ensures.within in absurd (omega arith))
      ];
    }

pub put_body-requires : goal.put_body-requires
put_body-requires c =
    let up : ℕ = c.args.shift.up in
    let down : ℕ = c.args.shift.down in
    let all : List ℕ = ids c.args.set.now in
    let is = set_is c.args.set.now in
    let inv = c.loop-key.invariant in
    let chunks = c.chunks_of-chunks.result in
    let key : ℕ = c.loop-key.key in
    let less = c.loop-key-test.true in
    let (u, d) = c.requires.whole in
    let most = moved_few up down all is.rising in
    let enough = is.few in
    let so = inv.so.counted in
    let small = inv.small in
    record { start = omega arith }

pub add-requires-clause-few : goal.add-requires-clause-few
add-requires-clause-few c =
    let up : ℕ = c.args.shift.up in
    let down : ℕ = c.args.shift.down in
    let all : List ℕ = ids c.args.set.now in
    let is = set_is c.args.set.now in
    let inv = c.loop-key.invariant in
    let chunks = c.chunks_of-chunks.result in
    let key : ℕ = c.loop-key.key in
    let less = c.loop-key-test.true in
    let (u, d) = c.requires.whole in
    let few = rising_room 0 65536 (lows_between chunks c.loop-key.position (c.loop-key.position + 1)) c.in_ok-count.ensures.rising in
    let own = c.in_ok-count.ensures.count in
    omega arith

pub loop-key-smaller : goal.loop-key-smaller
loop-key-smaller c =
    let up : ℕ = c.args.shift.up in
    let down : ℕ = c.args.shift.down in
    let all : List ℕ = ids c.args.set.now in
    let is = set_is c.args.set.now in
    let inv = c.loop-key.invariant in
    let chunks = c.chunks_of-chunks.result in
    let key : ℕ = c.loop-key.key in
    let less = c.loop-key-test.true in
    let (u, d) = c.requires.whole in
    let above : key * 65536 < 2 ^ 32 + down - up = elim (cases_lt c.before-2.result (2 ^ 32)) [
      | inl small ↦ (let e = c.key_from-limit.ensures.key small in let f = c.before-2.ensures in omega arith)
      | inr more ↦ (let e = c.key_from-limit.ensures.within in let f = c.before-2.ensures in omega arith)
    ] in
    let end = c.end-end.ensures in
    let next : c.end-end.result ≡ c.loop-key.position + 1 =
    next_position chunks c.loop-key.position c.end-end.result key end.later (end.one (c.in_ok-count.ensures.chunks)) inv.key_is end.passed in
    let numbers : List ℕ = lows_between chunks c.loop-key.position c.end-end.result in
    let coded = ap (λ (p : ℕ). lows_between chunks c.loop-key.position p) (sym next) in
    let moves = whole_part up down key (ids_from chunks c.loop-key.position) (ids_from chunks c.end-end.result) numbers u d (inv.begin (omega (arith, c.key_from-limit.ensures.within))) above
    inv.lower end.own end.none end.others in
    let within = end.within in
    omega arith

pub add-requires-clause-counted : goal.add-requires-clause-counted
add-requires-clause-counted c =
    let up : ℕ = c.args.shift.up in
    let down : ℕ = c.args.shift.down in
    let all : List ℕ = ids c.args.set.now in
    let is = set_is c.args.set.now in
    let inv = c.loop-key.invariant in
    let chunks = c.chunks_of-chunks.result in
    let key : ℕ = c.loop-key.key in
    let less = c.loop-key-test.true in
    let (u, d) = c.requires.whole in
    let above : key * 65536 < 2 ^ 32 + down - up = elim (cases_lt c.before-2.result (2 ^ 32)) [
      | inl small ↦ (let e = c.key_from-limit.ensures.key small in let f = c.before-2.ensures in omega arith)
      | inr more ↦ (let e = c.key_from-limit.ensures.within in let f = c.before-2.ensures in omega arith)
    ] in
    let end = c.end-end.ensures in
    let next : c.end-end.result ≡ c.loop-key.position + 1 =
    next_position chunks c.loop-key.position c.end-end.result key end.later (end.one (c.in_ok-count.ensures.chunks)) inv.key_is end.passed in
    let numbers : List ℕ = lows_between chunks c.loop-key.position c.end-end.result in
    let coded = ap (λ (p : ℕ). lows_between chunks c.loop-key.position p) (sym next) in
    let moves = whole_part up down key (ids_from chunks c.loop-key.position) (ids_from chunks c.end-end.result) numbers u d (inv.begin (omega (arith, c.key_from-limit.ensures.within))) above
    inv.lower end.own end.none end.others in
    let numbers_are = those_are (λ low. has low numbers) 65536 numbers (subst (IsRising 0 65536) coded c.in_ok-count.ensures.rising) (λ i h. refl) in
    let counted : c.in_ok-count.count ≡ length (those 65536 (λ low. has low numbers)) = c.in_ok-count.ensures.count ∙ ap length coded ∙ ap length (sym numbers_are) in
    let most = moved_few up down all is.rising in
    let enough = is.few in
    let so = inv.so.counted in
    let small = inv.small in
    let more = gather_few _ _ _ _ _ _ _ _ _ _ _ _ _ moves inv.so in
    omega arith

pub add-requires-clause-room : goal.add-requires-clause-room
add-requires-clause-room c =
    let up : ℕ = c.args.shift.up in
    let down : ℕ = c.args.shift.down in
    let all : List ℕ = ids c.args.set.now in
    let is = set_is c.args.set.now in
    let inv = c.loop-key.invariant in
    let chunks = c.chunks_of-chunks.result in
    let key : ℕ = c.loop-key.key in
    let less = c.loop-key-test.true in
    let (u, d) = c.requires.whole in
    let above : key * 65536 < 2 ^ 32 + down - up = elim (cases_lt c.before-2.result (2 ^ 32)) [
      | inl small ↦ (let e = c.key_from-limit.ensures.key small in let f = c.before-2.ensures in omega arith)
      | inr more ↦ (let e = c.key_from-limit.ensures.within in let f = c.before-2.ensures in omega arith)
    ] in
    let end = c.end-end.ensures in
    let next : c.end-end.result ≡ c.loop-key.position + 1 =
    next_position chunks c.loop-key.position c.end-end.result key end.later (end.one (c.in_ok-count.ensures.chunks)) inv.key_is end.passed in
    let numbers : List ℕ = lows_between chunks c.loop-key.position c.end-end.result in
    let coded = ap (λ (p : ℕ). lows_between chunks c.loop-key.position p) (sym next) in
    let moves = whole_part up down key (ids_from chunks c.loop-key.position) (ids_from chunks c.end-end.result) numbers u d (inv.begin (omega (arith, c.key_from-limit.ensures.within))) above
    inv.lower end.own end.none end.others in
    let numbers_are = those_are (λ low. has low numbers) 65536 numbers (subst (IsRising 0 65536) coded c.in_ok-count.ensures.rising) (λ i h. refl) in
    let counted : c.in_ok-count.count ≡ length (those 65536 (λ low. has low numbers)) = c.in_ok-count.ensures.count ∙ ap length coded ∙ ap length (sym numbers_are) in
    let some = c.in_ok-count.ensures.some in
    let next_is = ap length (next_chunk _ _ _ _ moves (omega arith)) in
    let parted = inv.so.parted in
    let room : (size : ℕ) → min (length all) 65536 ≤ size → c.loop-key.gathered.chunks + 1 ≤ size =
    λ size h. chunks_room up down (c.loop-key.gathered.chunks + 1) size all is.rising (those_rise (has_moved up down all) (2 ^ 32)) (omega arith) h in
    let a = room (length c.args.keys.now) c.requires.keys in
    let b = room (length c.args.counts.now) c.requires.counts in
    let e = room (length c.args.sizes.now) c.requires.sizes in
    let keys = inv.keys_len in
    let counts = inv.counts_len in
    let sizes = inv.sizes_len in
    λ some. (omega arith, (omega arith, omega arith))

pub loop-key-preserved : goal.loop-key-preserved
loop-key-preserved c =
    let up : ℕ = c.args.shift.up in
    let down : ℕ = c.args.shift.down in
    let all : List ℕ = ids c.args.set.now in
    let is = set_is c.args.set.now in
    let inv = c.loop-key.invariant in
    let chunks = c.chunks_of-chunks.result in
    let key : ℕ = c.loop-key.key in
    let less = c.loop-key-test.true in
    let (u, d) = c.requires.whole in
    let above : key * 65536 < 2 ^ 32 + down - up = elim (cases_lt c.before-2.result (2 ^ 32)) [
      | inl small ↦ (let e = c.key_from-limit.ensures.key small in let f = c.before-2.ensures in omega arith)
      | inr more ↦ (let e = c.key_from-limit.ensures.within in let f = c.before-2.ensures in omega arith)
    ] in
    let end = c.end-end.ensures in
    let next : c.end-end.result ≡ c.loop-key.position + 1 =
    next_position chunks c.loop-key.position c.end-end.result key end.later (end.one (c.in_ok-count.ensures.chunks)) inv.key_is end.passed in
    let numbers : List ℕ = lows_between chunks c.loop-key.position c.end-end.result in
    let coded = ap (λ (p : ℕ). lows_between chunks c.loop-key.position p) (sym next) in
    let moves = whole_part up down key (ids_from chunks c.loop-key.position) (ids_from chunks c.end-end.result) numbers u d (inv.begin (omega (arith, c.key_from-limit.ensures.within))) above
    inv.lower end.own end.none end.others in
    let numbers_are = those_are (λ low. has low numbers) 65536 numbers (subst (IsRising 0 65536) coded c.in_ok-count.ensures.rising) (λ i h. refl) in
    let counted : c.in_ok-count.count ≡ length (those 65536 (λ low. has low numbers)) = c.in_ok-count.ensures.count ∙ ap length coded ∙ ap length (sym numbers_are) in
    let some = c.in_ok-count.ensures.some in
    let next_is = ap length (next_chunk _ _ _ _ moves (omega arith)) in
    let parted = inv.so.parted in
    let room : (size : ℕ) → min (length all) 65536 ≤ size → c.loop-key.gathered.chunks + 1 ≤ size =
    λ size h. chunks_room up down (c.loop-key.gathered.chunks + 1) size all is.rising (those_rise (has_moved up down all) (2 ^ 32)) (omega arith) h in
    let a = room (length c.args.keys.now) c.requires.keys in
    let b = room (length c.args.counts.now) c.requires.counts in
    let e = room (length c.args.sizes.now) c.requires.sizes in
    let keys = inv.keys_len in
    let counts = inv.counts_len in
    let sizes = inv.sizes_len in
    let before = c.loop-key in
    let put = c.put_body in
    let after = c.add.new in
    let small = inv.small in
    let own = c.in_ok-count.ensures.small in
    let count = c.add.ensures.count in
    let size = c.add.ensures.size in
    let long = put.auto.out in
    let bodies = c.in_ok-count.ensures.body ∙ ap body (coded ∙ sym numbers_are) in
    let passed = end.passed in
    let first = c.key-key-in-loop-key.ensures.first in
    let begin = inv.begin (omega (arith, c.key_from-limit.ensures.within)) in
    let target = ap (λ (n : ℕ). n / 65536) c.after.ensures in
    record {
      so = gather_key ((65536 * key + up - down) / 65536) (λ low. has low numbers) (has_moved up down (ids_from chunks before.position)) (has_moved up down (ids_from chunks c.end-end.result)) _ _
          before.out put.new.out before.keys before.counts before.sizes after.keys after.counts after.sizes before.gathered.count before.gathered.chunks before.gathered.size
          after.self.count after.self.chunks after.self.size c.in_ok-count.count (length c.in_ok-count.body.now)
          moves counted own (λ some. follow_long _ _ _ _ _ _ bodies refl put.ensures) (λ none. absurd (omega arith)) long (λ some. (omega arith, (omega arith, omega arith)))
          count size c.add.ensures.none c.add.ensures.chunks (λ some. c.add.ensures.keys some ∙ ap (set before.keys before.gathered.chunks) target) c.add.ensures.counts c.add.ensures.sizes inv.so;
      key_is = first;
      lower = c.key-key-in-loop-key.ensures.none;
      top = λ y h. sym (end.others y (omega (arith, c.key_from-limit.ensures.within))) ∙ inv.top y h;
      within = end.within;
      begin = λ h. omega arith;
      small = omega arith;
      out_len = long ∙ inv.out_len;
      keys_len = c.add.auto.keys ∙ keys;
      counts_len = c.add.auto.counts ∙ counts;
      sizes_len = c.add.auto.sizes ∙ sizes;
    }

pub returns : goal.returns
returns c =
    let up : ℕ = c.args.shift.up in
    let down : ℕ = c.args.shift.down in
    let all : List ℕ = ids c.args.set.now in
    let inv = c.loop-key.invariant in
    let chunks = c.chunks_of-chunks.result in
    let (u, d) = c.requires.whole in
    let most = c.before-2.ensures in
    let reached = c.loop-key-test.false in
    gather_done (moved up down all) (has_moved up down (ids_from chunks c.loop-key.position)) _ _ _ _ _ _ _ _
    (whole_end up down c.loop-key.key c.key_from-limit.result (ids_from chunks c.loop-key.position) u d (omega arith)
    (λ less. c.key_from-limit.ensures.key (omega arith) ∙ ap (λ (n : ℕ). n / 65536) most) (λ more. c.key_from-limit.ensures.most (omega arith)) inv.lower inv.top) inv.so
