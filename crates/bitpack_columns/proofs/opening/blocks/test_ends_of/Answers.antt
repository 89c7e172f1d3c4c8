-- The first end with a fault is found.
use Rattle.std.proofs.Common.{◌≡◌, ℕ, List, Some, ap, arith, drop, refl, sym, ◌∙◌}
use Rattle.bitpack_columns.specs.declared.column_error.ColumnError.TheVariants.{BadOffset}
use Rattle.bitpack_columns.specs.Faults.{end_fault}
use Rattle.bitpack_columns.specs.Numbers.{short_at}
use Rattle.bitpack_columns.specs.Reads.{begin_at, end_at}
use Rattle.bitpack_columns.proofs.OpeningLaws.{begin-next, end_falls, end_far, end_near, end_within, first_found, first_more, first_start}
use Rattle.bitpack_columns.proofs.opening.blocks.test_ends_of.Goals.{then-end-before-via-then-end-before, then-end-before-via-else-end-before+then-end-before-gt32}
use Rattle.bitpack_columns.proofs.opening.blocks.test_ends_of.Goals as goal

pub loop-block-init : goal.loop-block-init
loop-block-init c = record { right = first_start (end_fault c.args.rest.now); before_is = refl }

pub read_integer-end-requires : goal.read_integer-end-requires
read_integer-end-requires c =
    let both = end_within c.args.size c.args.blocks c.args.rest.now c.loop-block.block c.requires.entries c.requires.size c.loop-block-test.true in
    record { size = both.0; within = both.1 }

pub returns-then-end-before : goal.returns-then-end-before
returns-then-end-before c =
    let rest : List ℕ = c.args.rest.now in
    let block : ℕ = c.loop-block.block in
    let end : c.read_integer-end.result ≡ end_at rest block = c.read_integer-end.ensures ∙ ap (λ (n : ℕ). short_at n (drop 1 rest) block) c.requires.size in
    let before : c.loop-block.before ≡ begin_at rest block = c.loop-block.invariant.before_is in
    let found : end_fault rest block ≡ Some (BadOffset block) = elim c.then-end-before.branch [
      | then-end-before-via-then-end-before w ↦ end_falls rest block (omega (arith, end, before, w.if-end-before.true))
      | then-end-before-via-else-end-before+then-end-before-gt32 w ↦
          end_far rest block (omega (arith, end, before, w.if-end-before.false)) (omega (arith, end, before, w.if-end-before-gt32.true))
    ] in
    first_found (end_fault rest) c.args.blocks block _ c.loop-block-test.true c.loop-block.invariant.right found

pub loop-block-preserved : goal.loop-block-preserved
loop-block-preserved c =
    let rest : List ℕ = c.args.rest.now in
    let block : ℕ = c.loop-block.block in
    let end : c.read_integer-end.result ≡ end_at rest block = c.read_integer-end.ensures ∙ ap (λ (n : ℕ). short_at n (drop 1 rest) block) c.requires.size in
    let before : c.loop-block.before ≡ begin_at rest block = c.loop-block.invariant.before_is in
    record {
      right =
          first_more (end_fault rest) block c.loop-block.invariant.right
          (end_near rest block (omega (arith, end, before, c.if-end-before.false)) (omega (arith, end, before, c.if-end-before-gt32.false)));
      before_is = end ∙ sym (begin-next rest block);
    }
