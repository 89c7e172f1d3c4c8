-- One part more is written.
use Rattle.std.proofs.Common.{◌≡◌, ◌+◌, ◌-◌, ◌≤◌, ◌∙◌, ℕ, List, ap, arith, drop, length, take}
use borrow.Rule.Slice.PartMut.{same_len_mid}
use Rattle.bitpack_groups.proofs.ForCallers.{lent_len}
use Rattle.bitpack_slices.proofs.ForCallers.{part_written}
use Rattle.bitpack_slices.specs.Slices.{quads_of}
use Rattle.bitpack_columns.specs.Opened.{values}
use Rattle.bitpack_wide.proofs.LocateLaws.{column_of, size_of}
use Rattle.bitpack_wide.proofs.PairLaws.{paired_len}
use Rattle.bitpack_wide.specs.Forms.{spread_ids}
use Rattle.bitpack_wide.proofs.spread.Spread.unpack_from.Goals as goal

pub overflow_add-from : goal.overflow_add-from
overflow_add-from c =
    let s = c.args.self in
    let long = paired_len (values s.column) (quads_of s.lows.now) (size_of s) in
    let few = (column_of s).few in
    omega (arith, c.requires.within, c.loop-done.invariant.long)

pub loop-done-preserved : goal.loop-done-preserved
loop-done-preserved c =
    let done : ℕ = c.loop-done.done in
    let more : ℕ = c.min-more.result in
    let out : List ℕ = c.loop-done.out in
    let within = c.loop-done.invariant.within in
    let fits : done + more ≤ length out = omega (arith, c.min-more.ensures) in
    let mid : length (take (done + more - done) (drop done out)) ≡ more = lent_len done more out fits in
    let same = same_len_mid done (done + more - done) out c.unpack_part.new.out c.unpack_part.auto.out in
    record {
      within = omega arith;
      long = same ∙ c.loop-done.invariant.long;
      written = part_written done more (done + more - done) c.args.from out c.unpack_part.new.out (spread_ids c.args.self) within (c.unpack_part.auto.out ∙ mid)
          c.loop-done.invariant.written (c.unpack_part.ensures ∙ ap (λ (k : ℕ). take k (drop (c.args.from + done) (spread_ids c.args.self))) mid);
    }
