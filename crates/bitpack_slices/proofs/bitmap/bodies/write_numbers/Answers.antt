-- The numbers of one word more are written.
use Rattle.std.proofs.Common.{ℕ, List, ◌≡◌, ◌+◌, ◌*◌, ◌++◌, map, get_or, ap, sym, ◌∙◌, arith, length, refl}
use Rattle.std.proofs.lemmas.List.{take_all}
use Rattle.bitpack_slices.proofs.lemmas.bits.BitmapLaws.{ones_counted_more}
use Rattle.bitpack_slices.proofs.lemmas.bits.ByteLaws.{those_less, word_more}
use Rattle.bitpack_slices.proofs.lemmas.bits.EachLaws.{numbers_cat}
use Rattle.bitpack_slices.proofs.bitmap.bodies.write_numbers.Goals as goal
use Rattle.bitpack_slices.specs.Bitmaps.{has_bit}
use Rattle.bitpack_slices.specs.Bodies.{numbers}
use Rattle.bitpack_slices.specs.Operations.{those}
use Rattle.bitpack_slices.specs.Slices.{ones_from}

pub loop-index-init : goal.loop-index-init
unfolding those numbers
loop-index-init c = record { size = refl; end = refl; values = refl }

pub write_ones-next-requires-clause-room : goal.write_ones-next-requires-clause-room
write_ones-next-requires-clause-room c =
    let more = ones_counted_more c.args.words.now c.loop-index.index in
    let less = those_less (64 * (c.loop-index.index + 1)) 65536 (has_bit c.args.words.now) (omega arith) in
    let end = c.loop-index.invariant.end in
    let size = c.loop-index.invariant.size in
    omega (arith, c.requires.size)

pub loop-index-preserved : goal.loop-index-preserved
loop-index-preserved c =
    let words : List ℕ = c.args.words.now in
    let i : ℕ = c.loop-index.index in
    let more = ones_counted_more words i in
    let end = c.loop-index.invariant.end in
    let end' = c.write_ones-next.ensures.end in
    let word : List ℕ = map (λ j. 64 * i + j) (ones_from (get_or words i 0) 0 64) in
    record {
      size = c.write_ones-next.ensures.len ∙ c.loop-index.invariant.size;
      end = omega arith;
      values = c.write_ones-next.ensures.values ∙ ap (λ (l : List ℕ). l ++ numbers word) c.loop-index.invariant.values
          ∙ sym (numbers_cat (those (64 * i) (has_bit words)) word) ∙ ap numbers (sym (word_more words i));
    }

pub returns : goal.returns
returns c =
    let words : List ℕ = c.args.words.now in
    let all : 64 * c.loop-index.index ≡ 65536 = omega arith in
    let end = c.loop-index.invariant.end ∙ ap (λ (n : ℕ). length (those n (has_bit words))) all in
    let size = c.loop-index.invariant.size in
    sym (take_all (2 * c.loop-index.next) c.loop-index.out (omega (arith, c.requires.size))) ∙ c.loop-index.invariant.values
    ∙ ap (λ (n : ℕ). numbers (those n (has_bit words))) all
