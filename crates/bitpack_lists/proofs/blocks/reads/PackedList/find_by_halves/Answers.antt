-- A skip key below the target leaves the blocks after it, and one that reaches it those before.
use Rattle.std.proofs.Common.{◌≡◌, ◌+◌, ◌-◌, ◌*◌, ◌/◌, ◌<◌, ◌≤◌, ℕ, inl, inr, ◌∙◌, arith}
use Rattle.std.proofs.lemmas.Bool.{cases_lt}
use Rattle.bitpack_lists.specs.inner.Searching.{skip_key_of_list}
use Rattle.bitpack_lists.proofs.lemmas.opened.HalvingSteps.{IsHalved, digits_less, halved_below, halved_reaching}
use Rattle.bitpack_lists.proofs.blocks.reads.PackedList.find_by_halves.Given.{Over}
use Rattle.bitpack_lists.proofs.blocks.reads.PackedList.find_by_halves.Goals as goal

halved : (g : Over) (c : goal.After-choose-before g)
    → IsHalved c.args.self.now c.args.target (c.loop-left.low + (c.loop-left.left - c.loop-left.left / 2) * (1 - c.reaches-reached.result)) (c.loop-left.left / 2)
    c.choose-before.result
halved g c =
    let self = c.args.self.now in
    let low : ℕ = c.loop-left.low in
    let left : ℕ = c.loop-left.left in
    let skip_key = c.skip_key-skip_key.ensures.skip_key in
    let is = c.loop-left.invariant.halved in
    let some : 0 < left = c.loop-left-test.true in
    elim (cases_lt c.skip_key-skip_key.result c.args.target) [
      | inl lt ↦
          let bit : c.reaches-reached.result ≡ 0 = c.reaches-reached.ensures.no lt in
          let next : low + (left - left / 2) * (1 - c.reaches-reached.result) ≡ low + (left - left / 2) = rw bit (omega arith) in
          let below : skip_key_of_list self (low + left / 2) < c.args.target = rw skip_key at lt in
          rw (next, c.choose-before.ensures.zero bit ∙ skip_key) (halved_below self c.args.target low left c.loop-left.before is some below)
      | inr le ↦
          let bit : c.reaches-reached.result ≡ 1 = c.reaches-reached.ensures.yes le in
          let next : low + (left - left / 2) * (1 - c.reaches-reached.result) ≡ low = rw bit (omega arith) in
          let enough : c.args.target ≤ skip_key_of_list self (low + left / 2) = rw skip_key at le in
          rw (next, c.choose-before.ensures.one bit) (halved_reaching self c.args.target low left c.loop-left.before is some enough)
    ]

pub loop-left-preserved : goal.loop-left-preserved
loop-left-preserved g c =
    let read = c.skip_key-skip_key.ensures.entries in
    record {
      halved = halved g c;
      halves = λ digits fits.
          let (fewer, span, few) = c.loop-left.invariant.halves digits fits in
          rw read (digits_less c.loop-left.left fewer c.loop-left.reads.entries (c.args.reads.now.entries + digits) c.loop-left-test.true span few);
      blocks = c.skip_key-skip_key.ensures.blocks ∙ c.loop-left.invariant.blocks;
      grown = omega (arith, c.loop-left.invariant.grown, read);
    }
