-- One part more is written.
use Rattle.std.proofs.Common.{◌≡◌, ◌+◌, ◌-◌, ◌≤◌, ◌∙◌, ℕ, List, ap, arith, drop, length, take}
use borrow.Rule.Slice.PartMut.{same_len_mid}
use Rattle.bitpack_groups.proofs.ForCallers.{lent_len}
use Rattle.bitpack_slices.proofs.ForCallers.{part_written}
use Rattle.bitpack_wide.specs.WideOpened.{values, with_fill}
use Rattle.bitpack_wide.proofs.wide_column.WideColumn.unpack_from.Goals as goal

pub loop-done-preserved : goal.loop-done-preserved
loop-done-preserved c =
    let done : ℕ = c.loop-done.done in
    let more : ℕ = c.min-more.result in
    let out : List ℕ = c.loop-done.out in
    let all : List ℕ = with_fill c.args.fill (values c.args.self.now) in
    let within = c.loop-done.invariant.within in
    let fits : done + more ≤ length out = omega (arith, c.min-more.ensures) in
    let mid : length (take (done + more - done) (drop done out)) ≡ more = lent_len done more out fits in
    let same = same_len_mid done (done + more - done) out c.unpack_part.new.out c.unpack_part.auto.out in
    record {
      within = omega arith;
      long = same ∙ c.loop-done.invariant.long;
      written = part_written done more (done + more - done) c.args.from out c.unpack_part.new.out all within (c.unpack_part.auto.out ∙ mid)
          c.loop-done.invariant.written (c.unpack_part.ensures ∙ ap (λ (k : ℕ). take k (drop (c.args.from + done) all)) mid);
    }
