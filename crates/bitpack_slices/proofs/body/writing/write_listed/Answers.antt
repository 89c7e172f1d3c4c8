-- The list is combined as blocks.
use Rattle.std.proofs.Common.{List, ℕ, ◌<◌, ◌%◌, ◌≡◌, IfSome, length, map, refl, subst, take}
use Rattle.bitpack_slices.proofs.lemmas.numbers.AnswerLaws.{combined_has}
use Rattle.bitpack_slices.proofs.body.writing.write_listed.Goals as goal
use Rattle.bitpack_slices.specs.Body.{body}
use Rattle.bitpack_slices.specs.Lists.{listed_ids}
use Rattle.bitpack_slices.specs.Slices.{block_numbers}

pub returns-clause-count : goal.returns-clause-count
returns-clause-count c =
    subst (λ (l : List ℕ). IfSome c.write_combined.result (λ written. written.0 ≡ length l)) (combined_has c.args.operation (block_numbers c.args.blocks.now) (block_numbers c.args.blocks.now) (block_numbers (take c.write_blocks-size.result c.write_blocks-size.new.out)) (map (λ id. id % 65536) (listed_ids c.args.list.now)) (λ x small. refl) c.write_blocks-size.ensures.numbers)
    c.write_combined.ensures.count

pub returns-clause-written : goal.returns-clause-written
returns-clause-written c =
    subst (λ (l : List ℕ). IfSome c.write_combined.result (λ written. 0 < written.0 → take written.1 c.write_combined.new.out ≡ body l))
    (combined_has c.args.operation (block_numbers c.args.blocks.now) (block_numbers c.args.blocks.now) (block_numbers (take c.write_blocks-size.result c.write_blocks-size.new.out)) (map (λ id. id % 65536) (listed_ids c.args.list.now)) (λ x small. refl) c.write_blocks-size.ensures.numbers) c.write_combined.ensures.written
