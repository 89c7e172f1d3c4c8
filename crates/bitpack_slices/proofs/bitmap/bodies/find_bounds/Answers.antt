-- The boundaries of one word more are written.
use Rattle.std.proofs.Common.{ℕ, List, ◌≡◌, ◌+◌, ◌*◌, ◌%◌, ◌^◌, ◌++◌, map, get_or, ap, sym, ◌∙◌, arith, length, refl, bit_or, bit_xor}
use Rattle.bitpack_slices.proofs.lemmas.bits.ByteLaws.{those_less}
use Rattle.bitpack_slices.proofs.lemmas.bodies.ChangeLaws.{bounds_those, changes, changes_carry, changes_word, word_of_counted, word_of_more}
use Rattle.bitpack_slices.proofs.bitmap.bodies.find_bounds.Goals as goal
use Rattle.bitpack_slices.specs.Bitmaps.{has_bit}
use Rattle.bitpack_slices.specs.Operations.{those}
use Rattle.bitpack_slices.specs.Slices.{ones_from}

-- the word of the changes at an index
abbrev word_at : List ℕ → ℕ → ℕ → ℕ
word_at words i carry = bit_xor (get_or words i 0) (bit_or (get_or words i 0 * 2 ^ 1 % 2 ^ 64) carry)

pub loop-index-init : goal.loop-index-init
unfolding those
loop-index-init c = record { few = omega arith; carry = refl; end = refl; values = refl }

pub returns-then-len-ones_in-clause-many : goal.returns-then-len-ones_in-clause-many
returns-then-len-ones_in-clause-many c none =
    let words : List ℕ = c.args.words.now in
    let i : ℕ = c.loop-index.index in
    let is = changes_word words i c.loop-index.before c.loop-index.invariant.carry in
    let more = word_of_counted (changes (has_bit words)) i (word_at words i c.loop-index.before) is in
    let less = those_less (64 * (i + 1)) 65536 (changes (has_bit words)) (omega arith) in
    let all = ap length (bounds_those (has_bit words)) in
    let end = c.loop-index.invariant.end in
    omega (arith, c.ones_in.ensures.count, c.if-len-ones_in.true)

pub put_ones-len-requires-clause-room : goal.put_ones-len-requires-clause-room
put_ones-len-requires-clause-room c = omega (arith, c.ones_in.ensures.count, c.if-len-ones_in.false, c.requires.most)

pub loop-index-preserved : goal.loop-index-preserved
loop-index-preserved c =
    let words : List ℕ = c.args.words.now in
    let P = changes (has_bit words) in
    let i : ℕ = c.loop-index.index in
    let is = changes_word words i c.loop-index.before c.loop-index.invariant.carry in
    let word : ℕ = word_at words i c.loop-index.before in
    let more = word_of_counted P i word is in
    let end = c.loop-index.invariant.end in
    let end' = c.put_ones-len.ensures.end in
    record {
      few = omega (arith, c.ones_in.ensures.count, c.if-len-ones_in.false);
      carry = changes_carry words i c.highest_bit-before.result c.highest_bit-before.ensures;
      end = omega arith;
      values = c.put_ones-len.ensures.values ∙ ap (λ (l : List ℕ). l ++ map (λ j. 64 * i + j) (ones_from word 0 64)) c.loop-index.invariant.values
          ∙ sym (word_of_more P i word is);
    }

pub returns-clause-found : goal.returns-clause-found
returns-clause-found c =
    let P = changes (has_bit c.args.words.now) in
    let all : 64 * c.loop-index.index ≡ 65536 = omega arith in
    (c.loop-index.invariant.few, c.loop-index.invariant.values ∙ ap (λ (n : ℕ). those n P) all ∙ sym (bounds_those (has_bit c.args.words.now)))
