-- The ids of one chunk more are written.
use Rattle.std.proofs.Common.{◌≡◌, ◌+◌, ◌-◌, ◌*◌, ◌∙◌, ℕ, List, ap, arith, drop, length, map, min, subst, sym, take, refl}
use Rattle.std.proofs.Math.Nat.{min-le_left, min-le_right}
use Rattle.std.proofs.lemmas.List.{take_all}
use borrow.Rule.Slice.PartMut.{same_len_mid}
use Rattle.bitpack_sets.specs.Directory.{before, body_at, body_numbers_of, chunk_ids, count_at, key_at, sum_at}
use Rattle.bitpack_slices.proofs.ForCallers.{bytes_are, min_less, part_written}
use Rattle.bitpack_sets.proofs.lemmas.reads.RangeLaws.{AtChunk, chunk_passed, chunk_range}
use Rattle.bitpack_sets.proofs.directory.Directory.unpack_at.Goals as goal
use Rattle.bitpack_groups.proofs.ForCallers.{lent_len}

pub loop-next-init : goal.loop-next-init
loop-next-init c =
    let here = c.chunk_at-here.ensures in
    let at = c.count_before.ensures in
    record {
      long = refl;
      within = omega arith;
      at = λ some. record { within = here.place.within; own = omega (arith, here.after, here.below); passed = omega (arith, here.after) };
      start = λ some. here.place;
      first = omega (arith, here.after);
      here = record { place = here.place; after = omega (arith, here.after) };
      values = refl;
    }

pub loop-next-preserved : goal.loop-next-preserved
loop-next-preserved c =
    let rest : List ℕ = c.args.self.rest.now in
    let chunks : ℕ = c.args.self.chunks in
    let from : ℕ = c.args.from in
    let out : List ℕ = c.loop-next.out in
    let m : ℕ = c.loop-next.start.chunk in
    let left : ℕ = c.loop-next.left in
    let next : ℕ = c.loop-next.next in
    let wanted : ℕ = c.min-wanted.result in
    let at = c.loop-next.invariant.at c.loop-next-test.true in
    let within = c.loop-next.invariant.within in
    let long = c.loop-next.invariant.long in
    let own = at.own in
    let few : wanted ≡ min (count_at chunks rest m - left) (length out - next) = c.min-wanted.ensures ∙ ap (λ (k : ℕ). min (k - left) (length out - next)) c.count_of-own.ensures in
    let low = min-le_left (count_at chunks rest m - left) (length out - next) in
    let high = min-le_right (count_at chunks rest m - left) (length out - next) in
    let mid : length (take (next + wanted - next) (drop next out)) ≡ wanted = lent_len next wanted out (omega arith) in
    let same = same_len_mid next (next + wanted - next) out c.unpack_chunk_at-here.new.out c.unpack_chunk_at-here.auto.out in
    let own_chunk = ap (before (sum_at chunks rest)) c.unpack_chunk_at-here.ensures.chunk in
    let part = c.unpack_chunk_at-here.ensures.ids
    ∙ ap (λ (k : ℕ). map (λ low. key_at rest m * 65536 + low) (take k (drop left (body_numbers_of (count_at chunks rest m) (body_at chunks rest m))))) mid
    ∙ sym (chunk_range c.args.self.count chunks m left wanted (from + next) rest (bytes_are rest c.args.self.are_bytes) c.args.self.sound at.within (omega arith) at.passed) in
    record {
      long = same ∙ long;
      within = omega arith;
      at = λ more.
          let w : wanted ≡ count_at chunks rest m - left = few ∙ min_less (count_at chunks rest m - left) (length out - next) (omega arith) in
          let after : from + next + wanted ≡ from + (next + wanted) = omega arith in
          let room = c.requires.within in
          subst (AtChunk chunks rest (m + 1) 0) after (chunk_passed c.args.self.count chunks rest m left (from + next) wanted c.args.self.sound at w (omega arith));
      start = λ more.
          let w : wanted ≡ count_at chunks rest m - left = few ∙ min_less (count_at chunks rest m - left) (length out - next) (omega arith) in
          let room = c.requires.within in
          let passed = chunk_passed c.args.self.count chunks rest m left (from + next) wanted c.args.self.sound at w (omega arith) in
          record { within = passed.within; place = c.first.ensures.place _ };
      first = omega (arith, c.first.ensures.before);
      here = record { place = c.unpack_chunk_at-here.ensures.place; after = omega (arith, own_chunk, c.unpack_chunk_at-here.ensures.after, at.passed) };
      values = part_written next wanted (next + wanted - next) from out c.unpack_chunk_at-here.new.out (chunk_ids chunks rest) within (c.unpack_chunk_at-here.auto.out ∙ mid)
          c.loop-next.invariant.values part;
    }

pub returns-clause-after : goal.returns-clause-after
returns-clause-after c =
    let long = c.loop-next.invariant.long in
    let within = c.loop-next.invariant.within in
    omega (arith, c.loop-next.invariant.here.after)

pub returns-clause-ids : goal.returns-clause-ids
returns-clause-ids c =
    let long = c.loop-next.invariant.long in
    let within = c.loop-next.invariant.within in
    let end : c.loop-next.next ≡ length c.args.out.now = omega (arith, c.loop-next-test.false) in
    sym (take_all c.loop-next.next c.loop-next.out (omega arith)) ∙ c.loop-next.invariant.values
    ∙ ap (λ (k : ℕ). take k (drop c.args.from (chunk_ids c.args.self.chunks c.args.self.rest.now))) end
