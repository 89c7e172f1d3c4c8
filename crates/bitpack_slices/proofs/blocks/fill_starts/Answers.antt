-- The sums of eight sizes more are the starts after them.
use Rattle.std.proofs.Common.{ℕ, List, ◌≡◌, ◌*◌, ◌+◌, ◌-◌, ◌%◌, ◌^◌, ◌<◌, ◌∙◌, ap, arith, get_or, length, length-set, refl, set, sym, take}
use Rattle.std.proofs.lemmas.List.{get_or-set_same}
use Rattle.bitpack_slices.proofs.lemmas.bodies.CutLaws.{lens_none}
use Rattle.bitpack_groups.proofs.ForCallers.{length-written}
use Rattle.bitpack_slices.proofs.lemmas.slices.SumsLaws.{more_starts, one_end, word_is}
use Rattle.bitpack_slices.proofs.blocks.fill_starts.Goals as goal
use Rattle.bitpack_slices.specs.Slices.{slice_len, slices_len}
use Rattle.bitpacking_register.specs.WordLaws.{length-first_words}
use Rattle.bitpacking_register.specs.Words.{first_words}

pub loop-step-init : goal.loop-step-init
unfolding first_words
loop-step-init c =
    let starts = c.args.starts.now in
    let counts = c.args.counts.now in
    record {
      size = length-set starts 0 0 ∙ c.told-starts;
      ends = λ le. sym (lens_none counts);
      known = λ k lt le. (
          let none : k ≡ 0 = omega arith in
          ap (λ (n : ℕ). get_or (set starts 0 0) n 0) none ∙ get_or-set_same starts 0 0 0 (omega (arith, c.told-starts)) ∙ sym (lens_none counts)
          ∙ ap (λ (n : ℕ). slices_len (take n counts)) (sym none));
    }

pub loop-step-preserved : goal.loop-step-preserved
loop-step-preserved c =
    let at : ℕ = 8 * c.loop-step.step in
    let counts = c.args.counts.now in
    let delta = c.eight_of.result in
    let words : List ℕ = first_words 8 delta in
    let sums = c.to_words.new.values in
    let before : ℕ = get_or (first_words 8 c.loop-step.ends) 7 0 in
    let cut : at + 9 - (at + 1) ≡ 8 = omega arith in
    let eight : length words ≡ 8 = length-first_words 8 delta in
    let long : length sums ≡ 8 = ap length c.to_words.ensures ∙ length-first_words 8 c.integrate-sums.result in
    let same : (k : ℕ) → k < 8 → get_or words k 0 ≡ get_or delta k 0 % 2 ^ 32 = λ k lt. word_is 8 delta k lt in
    let sizes : (k : ℕ) → k < 8 → at + k < length counts → get_or delta k 0 ≡ slice_len (get_or counts (at + k) 0 + 1) =
    λ k lt within. c.eight_of.ensures k lt ∙ c.sizes_of-sizes.ensures (at + k) within in
    let start : before ≡ slices_len (take at counts) = c.loop-step.invariant.ends (omega arith) in
    record {
      size = length-written (at + 1) (at + 9 - (at + 1)) c.loop-step.starts sums (omega arith) (long ∙ sym cut) (omega arith) ∙ c.loop-step.invariant.size;
      ends = λ le. ap (λ (l : List ℕ). get_or l 7 0) c.integrate-sums.ensures
          ∙ one_end at 7 before words delta counts eight (omega arith) (omega (arith, le)) c.requires.few same sizes start
          ∙ ap (λ (n : ℕ). slices_len (take n counts)) (omega arith);
      known = more_starts at (at + 1) (8 * (c.loop-step.step + 1) + 1) (at + 9 - (at + 1)) c.loop-step.starts words sums delta counts before refl (omega arith) (omega arith) eight long
          c.requires.few (c.to_words.ensures ∙ c.integrate-sums.ensures) same sizes start c.loop-step.invariant.known;
    }

pub returns : goal.returns
returns c = λ index lt. c.loop-step.invariant.known index (omega arith) (omega arith)
