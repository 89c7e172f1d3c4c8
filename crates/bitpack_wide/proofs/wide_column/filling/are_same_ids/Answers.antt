-- The ids that are written are those of the set.
use Rattle.std.proofs.Common.{◌≡◌, ◌-◌, ℕ, eqb, length, ap, arith, ◌∙◌}
use Rattle.bitpack_sets.specs.Opened.{ids}
use Rattle.bitpack_wide.specs.WideColumnFaults.{each_below}
use Rattle.bitpack_wide.specs.inner.WideColumnSteps.{same_at}
use Rattle.bitpack_wide.proofs.WideSteps.{each_same}
use Rattle.bitpack_wide.proofs.WideSame.{written_id}
use Rattle.bitpack_wide.proofs.wide_column.filling.are_same_ids.Goals as goal

pub returns : goal.returns
returns c = λ number begin from is e last.
    let out = c.copy_range.new.out in
    let all = ids c.args.missing.now in
    let long : length out ≡ c.args.count = omega (arith, c.copy_range.auto.out, c.requires.room) in
    let written : c.copy_range.result ≡ c.args.count = omega (arith, c.copy_range.ensures.len, c.requires.room, c.requires.there) in
    c.are_same.ensures number begin from is e last ∙ ap (each_below (same_at number begin out 0)) long
    ∙ each_same (same_at number begin out 0) (same_at number begin all c.args.first) c.args.count
    (λ j lt. ap (λ (id : ℕ). eqb (number (id - begin)) (number (id - begin - 1))) (written_id all out c.args.first c.copy_range.result j c.copy_range.ensures.ids (omega (arith, lt, written))))
