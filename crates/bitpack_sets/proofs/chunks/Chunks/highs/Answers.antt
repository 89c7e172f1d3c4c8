-- The ids between two positions are those of a chunk, or some of an array.
use Rattle.std.proofs.Common.{◌≡◌, ◌∙◌, ◌/◌, ◌%◌, ℕ, zero, suc, [], ◌∷◌, ap, arith, eqb, false, get_or, refl, sym}
use Rattle.std.specs.Int.{bit_at}
use Rattle.std.proofs.lemmas.Nat.Bits.{bit_at-zero}
use Rattle.bitpack_sets.proofs.lemmas.reads.PositionLaws.{between_chunk, between_none, lows_array, positions_chunks}
use Rattle.bitpack_sets.proofs.chunks.Chunks.highs.Goals as goal
use Rattle.bitpack_slices.specs.Bitmaps.{has_bit, has_high}
use Rattle.bitpack_sets.specs.Chunks.{lows_between}

no_word : (i : ℕ) → ◌≡◌ {A = ℕ} (get_or (0 ∷ 0 ∷ 0 ∷ 0 ∷ []) i 0) 0
no_word zero = refl
no_word (suc zero) = refl
no_word (suc (suc zero)) = refl
no_word (suc (suc (suc zero))) = refl
no_word (suc (suc (suc (suc i)))) = refl

no_bit : (h : ℕ) → has_bit (0 ∷ 0 ∷ 0 ∷ 0 ∷ []) h ≡ false
unfolding has_bit
no_bit h = ap (λ (n : ℕ). eqb (bit_at n (h % 64)) 1) (no_word (h / 64)) ∙ ap (λ (n : ℕ). eqb n 1) (bit_at-zero (h % 64))

pub returns-then-position-end : goal.returns-then-position-end
returns-then-position-end c h small =
    let set = c.args.self.now in
    no_bit h ∙ sym (ap (has_high h) (ap (lows_between set c.args.position) (sym c.if-position-end.true) ∙ between_none set c.args.position))

pub returns-then-self-eq0 : goal.returns-then-self-eq0
returns-then-self-eq0 c h small =
    c.integer_highs.ensures h small ∙ ap (has_high h) (lows_array c.args.self.now c.args.position c.args.end c.if-self-eq0.true c.requires.within.0 c.requires.within.1)

pub lows-requires-clause-within : goal.lows-requires-clause-within
lows-requires-clause-within c =
    let all = positions_chunks c.args.self.now c.if-self-eq0.false in
    let at = c.if-position-end.false in
    omega arith

pub returns : goal.returns
returns c h small =
    c.highs.ensures h small ∙ ap (has_high h) (c.lows.ensures.lows ∙ sym (between_chunk c.args.self.now c.args.position c.args.end c.if-self-eq0.false c.if-position-end.false))
