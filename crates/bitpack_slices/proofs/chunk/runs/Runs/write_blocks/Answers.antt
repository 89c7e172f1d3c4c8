-- The bits of the numbers are set, and then written.
use Rattle.std.proofs.Common.{◌≡◌, ◌<◌, ◌∙◌, ◌||◌, Bool, List, ℕ, ap, length, replicate, subst, sym}
use Rattle.std.proofs.Math.Bool.{or-false}
use Rattle.bitpack_slices.proofs.lemmas.bits.BitmapLaws.{has_none}
use Rattle.bitpack_slices.proofs.lemmas.bodies.LoadLaws.{those_are}
use Rattle.bitpack_slices.proofs.lemmas.bodies.OneBlocks.{blocks_back, blocks_written}
use Rattle.bitpack_slices.proofs.lemmas.bodies.RunLaws.{runs_rise}
use Rattle.bitpack_slices.proofs.chunk.runs.Runs.write_blocks.Goals as goal
use Rattle.bitpack_slices.specs.Bitmaps.{has_bit}
use Rattle.bitpack_slices.specs.Bodies.{IsRising, blocks}
use Rattle.bitpack_slices.specs.Operations.{those}
use Rattle.bitpack_slices.specs.Reads.{has}
use Rattle.bitpack_slices.specs.Runs.{runs_from}
use Rattle.bitpack_slices.specs.Slices.{block_numbers, pairs_of}

-- all are set
loaded : (bytes words : List ℕ) → IsRising 0 65536 (pairs_of bytes) → ((x : ℕ) → x < 65536 → has_bit words x ≡ (has x (runs_from 0 bytes) || has_bit (replicate 1024 0) x))
    → those 65536 (has_bit words) ≡ runs_from 0 bytes
loaded bytes words r all =
    those_are (has_bit words) 65536 (runs_from 0 bytes) (runs_rise 0 (pairs_of bytes) r)
    (λ x small. all x small ∙ ap (λ (b : Bool). has x (runs_from 0 bytes) || b) (has_none 1024 x) ∙ or-false (has x (runs_from 0 bytes)))

pub write_blocks-requires : goal.write_blocks-requires
write_blocks-requires c =
    let same = loaded c.args.self.bounds.now c.set_bits.new.words c.args.self.rising c.set_bits.ensures in
    record { some = subst (λ (l : List ℕ). 0 < length l) (sym same) c.requires.some }

pub returns-clause-are : goal.returns-clause-are
returns-clause-are c =
    let bytes : List ℕ = c.args.self.bounds.now in
    blocks_written (runs_from 0 bytes) _ (runs_rise 0 (pairs_of bytes) c.args.self.rising) c.requires.some
    (c.write_blocks.ensures.written ∙ ap blocks (loaded bytes c.set_bits.new.words c.args.self.rising c.set_bits.ensures))

pub returns-clause-numbers : goal.returns-clause-numbers
returns-clause-numbers c =
    let bytes : List ℕ = c.args.self.bounds.now in
    let same = loaded bytes c.set_bits.new.words c.args.self.rising c.set_bits.ensures in
    ap block_numbers (c.write_blocks.ensures.written ∙ ap blocks same) ∙ blocks_back (runs_from 0 bytes) (runs_rise 0 (pairs_of bytes) c.args.self.rising) c.requires.some
