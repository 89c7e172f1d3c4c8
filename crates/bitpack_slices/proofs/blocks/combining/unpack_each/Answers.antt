-- The numbers of one word more are written.
use Rattle.std.proofs.Common.{List, ℕ, ◌+◌, ◌*◌, ◌++◌, ◌≡◌, ◌∙◌, ap, append_assoc, append-nil, arith, get_or, length, length-append, map, refl, sym, take}
use Rattle.std.proofs.lemmas.List.{map-append}
use Rattle.bitpack_slices.proofs.lemmas.slices.SelectionLaws.{listed, passes}
use Rattle.bitpack_slices.proofs.lemmas.bits.UnpackLaws.{by_high}
use Rattle.bitpack_slices.proofs.lemmas.bits.WordLaws.{bit_in_word, word_numbers, words_few, words_more}
use Rattle.bitpack_slices.proofs.blocks.combining.unpack_each.Given.{Over}
use Rattle.bitpack_slices.proofs.blocks.combining.unpack_each.Goals as goal
use Rattle.bitpack_slices.specs.Bitmaps.{has_bit}
use Rattle.bitpack_slices.specs.Operations.{those}
use Rattle.bitpack_slices.specs.Selections.{word_highs}

pub loop-word-init : goal.loop-word-init
unfolding those
loop-word-init g c = record { room = c.requires.start; count = omega arith; values = sym (append-nil (take c.args.at c.args.out.now)) }

pub unpack_word-requires-clause-in_left : goal.unpack_word-requires-clause-in_left
unpack_word-requires-clause-in_left g c = λ lacks i small is.
    c.possible_highs-occur.ensures.in_left lacks (64 * c.loop-word.word + i) (omega arith) (sym (bit_in_word c.possible_highs-occur.result c.loop-word.word i small) ∙ is)

pub unpack_word-requires-clause-in_right : goal.unpack_word-requires-clause-in_right
unpack_word-requires-clause-in_right g c = λ lacks i small is.
    c.possible_highs-occur.ensures.in_right lacks (64 * c.loop-word.word + i) (omega arith) (sym (bit_in_word c.possible_highs-occur.result c.loop-word.word i small) ∙ is)

pub loop-word-preserved : goal.loop-word-preserved
loop-word-preserved g c =
    let P = passes c.args.operation c.args.a.now c.args.b.now in
    let occur = c.possible_highs-occur.result in
    let q = c.loop-word.word in
    let f : List ℕ → List ℕ = map (λ i. c.args.base + i) in
    let front = take c.args.at c.args.out.now in
    let before : List ℕ = by_high P (those (64 * q) (has_bit occur)) in
    let word : List ℕ = by_high P (word_highs (64 * q) (get_or occur q 0)) in
    let own = word_numbers P (64 * q) (get_or occur q 0) (omega arith) in
    let more = words_more P occur q in
    let size = ap length more ∙ length-append before word in
    let same = ap length own in
    record {
      room = omega (arith, c.in_ok-next.ensures.room, c.unpack_word.auto.out);
      count = omega (arith, c.in_ok-next.ensures.end, c.loop-word.invariant.count);
      values = c.in_ok-next.ensures.values ∙ ap (λ (l : List ℕ). take c.loop-word.next c.loop-word.out ++ f l) own
          ∙ ap (λ (l : List ℕ). l ++ f word) c.loop-word.invariant.values ∙ append_assoc front (f before) (f word)
          ∙ ap (λ (l : List ℕ). front ++ l) (sym (map-append (λ i. c.args.base + i) before word) ∙ ap f (sym more));
    }

pub returns-in_err-next-clause-none : goal.returns-in_err-next-clause-none
returns-in_err-next-clause-none g c = λ e.
    let P = passes c.args.operation c.args.a.now c.args.b.now in
    let occur = c.possible_highs-occur.result in
    let q = c.loop-word.word in
    let before : List ℕ = by_high P (those (64 * q) (has_bit occur)) in
    let word : List ℕ = by_high P (word_highs (64 * q) (get_or occur q 0)) in
    let size = ap length (words_more P occur q) ∙ length-append before word in
    let same = ap length (word_numbers P (64 * q) (get_or occur q 0) (omega arith)) in
    let few = words_few P occur (64 * (q + 1)) (omega arith) in
    let short = c.in_err-next.ensures.none refl in
    omega (arith, c.loop-word.invariant.count, c.loop-word.auto.out)

-- the words are all
done : (g : Over) (c : goal.After-loop-word g) → by_high (passes c.args.operation c.args.a.now c.args.b.now) (those (64 * c.loop-word.word) (has_bit c.possible_highs-occur.result))
    ≡ those 65536 (passes c.args.operation c.args.a.now c.args.b.now)
done g c =
    let P = passes c.args.operation c.args.a.now c.args.b.now in
    let occur = c.possible_highs-occur in
    let end : 64 * c.loop-word.word ≡ 256 = omega arith in
    ap (λ (n : ℕ). by_high P (those n (has_bit occur.result))) end
    ∙ sym (listed c.args.operation c.args.a.now c.args.b.now occur.result occur.ensures.both occur.ensures.left occur.ensures.right)

pub returns-clause-end : goal.returns-clause-end
returns-clause-end g c = c.loop-word.invariant.count ∙ ap (λ (l : List ℕ). c.args.at + length l) (done g c)

pub returns-clause-values : goal.returns-clause-values
returns-clause-values g c = c.loop-word.invariant.values ∙ ap (λ (l : List ℕ). take c.args.at c.args.out.now ++ map (λ i. c.args.base + i) l) (done g c)
