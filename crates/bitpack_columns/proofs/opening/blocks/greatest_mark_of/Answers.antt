-- One mark more.
use Rattle.std.proofs.Common.{◌≡◌, ◌+◌, ◌*◌, ℕ, List, add-one, ap, drop, max, sym, ◌∙◌}
use Rattle.bitpack_columns.specs.Numbers.{greatest, short_at}
use Rattle.bitpack_columns.specs.Reads.{end_size, mark_at}
use Rattle.bitpack_columns.proofs.LeastLaws.{most_of}
use Rattle.bitpack_columns.proofs.OpeningLaws.{mark_within}
use Rattle.bitpack_columns.proofs.opening.blocks.greatest_mark_of.Goals as goal

pub read_integer-requires : goal.read_integer-requires
read_integer-requires c =
    let both = mark_within c.args.size c.args.blocks c.args.rest.now c.loop-block.block c.requires.entries c.requires.size c.loop-block-test.true in
    record { size = both.0; within = both.1 }

pub loop-block-preserved : goal.loop-block-preserved
loop-block-preserved c =
    let rest : List ℕ = c.args.rest.now in
    let block : ℕ = c.loop-block.block in
    let start : ℕ = 1 + end_size rest * c.args.blocks in
    let mark : c.read_integer.result ≡ mark_at c.args.blocks rest block = c.read_integer.ensures ∙ ap (λ (n : ℕ). short_at n (drop start rest) block) c.requires.size in
    c.max-most.ensures ∙ most_of c.loop-block.most c.read_integer.result ∙ ap (λ (n : ℕ). max n c.read_integer.result) c.loop-block.invariant ∙ ap (max (greatest (mark_at c.args.blocks rest) block)) mark
    ∙ ap (greatest (mark_at c.args.blocks rest)) (sym (add-one block))
