-- Ids that go on to the end of their chunk have one boundary, others two.
use Rattle.std.proofs.Common.{◌≡◌, ◌+◌, ◌%◌, length, sym, ap, ◌∙◌, arith, inl, inr}
use Rattle.std.proofs.lemmas.Bool.{cases_lt, le-ltb, lt-ltb}
use Rattle.bitpack_sets.proofs.lemmas.written.RangeFilled.{one_bound, two_bounds}
use Rattle.bitpack_sets.proofs.encoding.range.count_bounds.Goals as goal

pub returns-clause-count : goal.returns-clause-count
returns-clause-count c = elim (cases_lt (c.args.id % 65536 + c.args.count) 65536) [
  | inl less ↦ ap (λ b. 1 + mir.Val.bool_byte b) (lt-ltb (c.args.id % 65536 + c.args.count) 65536 less) ∙ sym (ap length (two_bounds c.args.id c.args.count c.requires.some less))
  | inr more ↦
      let end : c.args.id % 65536 + c.args.count ≡ 65536 = omega (arith, c.requires.chunk) in
      ap (λ b. 1 + mir.Val.bool_byte b) (le-ltb (c.args.id % 65536 + c.args.count) 65536 more) ∙ sym (ap length (one_bound c.args.id c.args.count c.requires.some end))
]
