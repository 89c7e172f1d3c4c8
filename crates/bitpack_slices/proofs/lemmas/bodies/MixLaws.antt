-- Blocks beside a bitmap of others.
use Rattle.std.proofs.Common.{◌≡◌, ℕ, ◌+◌, ◌*◌, ◌/◌, ◌-◌, ◌<◌, Bool, true, false, ◌&&◌, List, [], map, take, drop, refl, sym, ap, ◌∙◌, arith, subst}
use Rattle.bitpack_slices.proofs.lemmas.numbers.AnswerLaws.{those_same}
use Rattle.bitpack_slices.proofs.lemmas.bits.BitmapLaws.{has_part, those_none}
use Rattle.bitpack_slices.proofs.lemmas.bits.CombineLaws.{apply_none}
use Rattle.bitpack_slices.proofs.lemmas.bodies.LoadLaws.{has_those, those_rise}
use Rattle.bitpack_slices.proofs.lemmas.slices.SelectionLaws.{both_or_none, map_zero, no_part, out_of}
use Rattle.bitpack_slices.proofs.lemmas.bits.UnpackLaws.{by_high, lows, those_by_high}
use Rattle.bitpack_slices.specs.Bitmaps.{has_bit}
use Rattle.bitpack_slices.specs.Lists.{in_bitmap}
use Rattle.bitpack_slices.specs.Operations.{apply, those}
use Rattle.bitpack_slices.specs.Reads.{has}
use Rattle.bitpack_slices.specs.Selections.{parts_numbers}
use Rattle.bitpack_slices.specs.Bodies.{IsRising}
use Rattle.bitpack_slices.specs.declared.blocks.Blocks.{Blocks}
use Rattle.bitpack_slices.specs.declared.operation.Operation.{Operation}

-- whether the answer has a number
abbrev pub mixes : Operation → Blocks → List ℕ → List ℕ → ℕ → Bool
mixes operation blocks others words x = apply operation (has x (parts_numbers blocks)) (in_bitmap others words x)

-- the high bytes that the answer can have are listed
pub record AreHighs (P : ℕ → Bool) (highs : List ℕ) : Type 0 where
  pub rising : IsRising 0 256 highs
  pub all : those 65536 P ≡ by_high P highs

pub are_highs : (operation : Operation) (blocks : Blocks) (others words bits highs : List ℕ)
    → ((h : ℕ) → h < 256 → has_bit bits h ≡ false → apply operation (has_bit blocks.highs h) (has_bit others h) ≡ false)
    → ((h : ℕ) → h < 256 → has_bit bits h ≡ false → apply operation (has_bit blocks.highs h) false ≡ false)
    → ((h : ℕ) → h < 256 → has_bit bits h ≡ false → apply operation false (has_bit others h) ≡ false)
    → highs ≡ map (λ i. 0 + i) (those 256 (has_bit bits)) → AreHighs (mixes operation blocks others words) highs
are_highs operation blocks others words bits highs both left right e =
    let same : highs ≡ those 256 (has_bit bits) = e ∙ map_zero (those 256 (has_bit bits)) in
    let rising : IsRising 0 256 highs = subst (IsRising 0 256) (sym same) (those_rise (has_bit bits) 256) in
    let P : ℕ → Bool = mixes operation blocks others words in
    record {
      rising = rising;
      all = those_same 65536 P (λ x. has (x / 256) highs && P x) (λ x small.
          let h : ℕ = x / 256 in
          let few : x / 256 < 256 = omega arith in
          both_or_none (has h highs) (P x) (λ none.
          let out : has_bit bits h ≡ false = sym (ap (has h) same ∙ has_those (has_bit bits) h 256 few) ∙ none in
          out_of operation (has_bit blocks.highs h) (has_bit others h) (has x (parts_numbers blocks)) (in_bitmap others words x) (no_part blocks x small)
          (λ f. ap (λ (b : Bool). b && has_bit words x) f)
          (both h few out, left h few out, right h few out)))
          ∙ those_by_high P highs rising;
    }

-- ---- the numbers of one high byte

pub lows_mixed : (operation : Operation) (blocks : Blocks) (others words own : List ℕ) (high : ℕ) → ((i : ℕ) → i < 256 → has i own ≡ has (256 * high + i) (parts_numbers blocks))
    → those 256 (λ i. apply operation (has i own) (in_bitmap others words (256 * high + i))) ≡ lows (mixes operation blocks others words) high
lows_mixed operation blocks others words own high same =
    those_same 256 (λ i. apply operation (has i own) (in_bitmap others words (256 * high + i))) (λ i. mixes operation blocks others words (256 * high + i))
    (λ i h. ap (λ (b : Bool). apply operation b (in_bitmap others words (256 * high + i))) (same i h))

-- its bits, if it has some
pub some_mixed : (operation : Operation) (others words own bits : List ℕ) (high : ℕ) → has_bit others high ≡ true → ((i : ℕ) → i < 256 → has_bit bits i ≡ has i own)
    → those 256 (λ i. apply operation (has_bit bits i) (has_bit (take (4 * high + 4 - 4 * high) (drop (4 * high) words)) i)) ≡ those 256 (λ i. apply operation (has i own) (in_bitmap others words (256 * high + i)))
some_mixed operation others words own bits high there same =
    those_same 256 (λ i. apply operation (has_bit bits i) (has_bit (take (4 * high + 4 - 4 * high) (drop (4 * high) words)) i)) (λ i. apply operation (has i own) (in_bitmap others words (256 * high + i)))
    (λ i h.
    let four : 4 * high + 4 - 4 * high ≡ 4 = omega arith in
    let at : (256 * high + i) / 256 ≡ high = omega arith in
    ap (λ (b : Bool). apply operation b (has_bit (take (4 * high + 4 - 4 * high) (drop (4 * high) words)) i)) (same i h)
    ∙ ap (λ (n : ℕ). apply operation (has i own) (has_bit (take n (drop (4 * high) words)) i)) four
    ∙ ap (apply operation (has i own)) (has_part words high i h
    ∙ sym (ap (λ (n : ℕ). has_bit others n && has_bit words (256 * high + i)) at ∙ ap (λ (b : Bool). b && has_bit words (256 * high + i)) there)))

-- no other number, if it has none
pub none_mixed : (operation : Operation) (others words own none : List ℕ) (high : ℕ) → has_bit others high ≡ false → none ≡ []
    → those 256 (λ i. apply operation (has i own) (has i none)) ≡ those 256 (λ i. apply operation (has i own) (in_bitmap others words (256 * high + i)))
none_mixed operation others words own none high out e =
    those_same 256 (λ i. apply operation (has i own) (has i none)) (λ i. apply operation (has i own) (in_bitmap others words (256 * high + i)))
    (λ i h.
    let at : (256 * high + i) / 256 ≡ high = omega arith in
    ap (apply operation (has i own)) (ap (has i) e ∙ sym (ap (λ (n : ℕ). has_bit others n && has_bit words (256 * high + i)) at ∙ ap (λ (b : Bool). b && has_bit words (256 * high + i)) out)))

not_retained : (operation : Operation) (b : Bool) → apply operation true false ≡ false → apply operation b false ≡ false
not_retained operation true e = e
not_retained operation false e = apply_none operation false false refl refl

-- no number, if the answer has none that only the first has
pub none_given : (operation : Operation) (others words own : List ℕ) (high : ℕ) → has_bit others high ≡ false → apply operation true false ≡ false
    → those 256 (λ i. apply operation (has i own) (in_bitmap others words (256 * high + i))) ≡ []
unfolding those
none_given operation others words own high out none =
    sym (none_mixed operation others words own [] high out refl)
    ∙ those_none (λ i. apply operation (has i own) false) 0 256 (λ i low few. not_retained operation (has i own) none)
