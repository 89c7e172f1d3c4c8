-- Blocks are tested, and their boundaries are counted.
use Rattle.std.proofs.Common.{◌∙◌, Bool, List, None, Option, Some, ap, cond, leb, length, subst, sym, true, ℕ}
use Rattle.std.proofs.lemmas.Bool.{false_from_ne_true, true≢false}
use Rattle.bitpack_slices.proofs.lemmas.bits.CountLaws.{bytes_are}
use Rattle.bitpack_slices.proofs.lemmas.bodies.BlockReads.{blocks_counted}
use Rattle.bitpack_slices.proofs.lemmas.bodies.TestLaws.{blocks_tested}
use Rattle.bitpack_slices.proofs.chunk.testing.test_blocks.Goals as goal
use Rattle.bitpack_slices.specs.Runs.{are_few, boundaries}
use Rattle.bitpack_slices.specs.Slices.{IsBlocks, are_blocks, block_numbers}
use Rattle.bitpack_slices.specs.declared.set_error.SetError.{SetError}
use Rattle.bitpack_slices.specs.declared.set_error.SetError.TheVariants.{BadBody, LooseBody}

-- the fault by whether bytes are blocks, and have few boundaries
abbrev fault_by : ℕ → Bool → Bool → Option SetError
fault_by m are few = cond are (cond few (Some (LooseBody m)) None) (Some (BadBody m))

pub returns-then-not-is_blocks : goal.returns-then-not-is_blocks
returns-then-not-is_blocks c =
    let body : List ℕ = c.args.body.now in
    let each = bytes_are body (λ k. (c.type_inv.body k).fits) in
    ap (λ (b : Bool). fault_by c.args.chunk b (are_few (length (boundaries (block_numbers body))) c.args.count))
    (false_from_ne_true (are_blocks c.args.count body) (λ h. true≢false (sym (c.is_blocks.ensures.1 ((blocks_tested c.args.count body each).0 h)) ∙ c.if-not-is_blocks.true)))

pub new-requires : goal.new-requires
new-requires c =
    let body : List ℕ = c.args.body.now in
    let is = c.is_blocks.ensures.0 c.if-not-is_blocks.false in
    subst (λ (n : ℕ). IsBlocks n body) (sym (blocks_counted c.args.count body is)) is

pub returns-then-has_few_bounds : goal.returns-then-has_few_bounds
returns-then-has_few_bounds c =
    let body : List ℕ = c.args.body.now in
    let each = bytes_are body (λ k. (c.type_inv.body k).fits) in
    let is = c.is_blocks.ensures.0 c.if-not-is_blocks.false in
    ap (λ (b : Bool). fault_by c.args.chunk b (are_few (length (boundaries (block_numbers body))) c.args.count)) ((blocks_tested c.args.count body each).1 is)
    ∙ ap (λ (b : Bool). fault_by c.args.chunk true b)
    (c.most_bounds.ensures.few (length (boundaries (block_numbers body))) ∙ ap (λ (l : List ℕ). leb (length (boundaries l)) c.most_bounds.result) (sym c.new.ensures.numbers)
    ∙ sym c.has_few_bounds.ensures ∙ c.if-has_few_bounds.true)

pub returns : goal.returns
returns c =
    let body : List ℕ = c.args.body.now in
    let each = bytes_are body (λ k. (c.type_inv.body k).fits) in
    let is = c.is_blocks.ensures.0 c.if-not-is_blocks.false in
    ap (λ (b : Bool). fault_by c.args.chunk b (are_few (length (boundaries (block_numbers body))) c.args.count)) ((blocks_tested c.args.count body each).1 is)
    ∙ ap (λ (b : Bool). fault_by c.args.chunk true b)
    (c.most_bounds.ensures.few (length (boundaries (block_numbers body))) ∙ ap (λ (l : List ℕ). leb (length (boundaries l)) c.most_bounds.result) (sym c.new.ensures.numbers)
    ∙ sym c.has_few_bounds.ensures ∙ c.if-has_few_bounds.false)
