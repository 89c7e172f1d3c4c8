-- The bits of one word more are passed.
use Rattle.std.proofs.Common.{◌<◌, ◌+◌, ◌*◌, ◌∙◌, ℕ, List, ap, arith, get_or, length, sym}
use Rattle.bitpack_slices.proofs.lemmas.bits.CountLaws.{bytes_are}
use Rattle.bitpack_slices.proofs.lemmas.bytes.DecodeLaws.{rising_top}
use Rattle.bitpack_slices.proofs.lemmas.bits.OnesLaws.{ones_rise}
use Rattle.bitpack_slices.proofs.lemmas.numbers.SelectLaws.{before_none, bits_next, ones_own, word_select}
use Rattle.bitpack_slices.proofs.slice.search.select_in_bits.Goals as goal
use Rattle.bitpack_slices.specs.Slices.{ones_from}

pub loop-left-init : goal.loop-left-init
loop-left-init c = record { within = omega arith; passed = omega (arith, before_none c.args.bytes.now) }

pub loop-left-preserved : goal.loop-left-preserved
loop-left-preserved c =
    let bytes : List ℕ = c.args.bytes.now in
    let i : ℕ = c.loop-left.index in
    let are = bytes_are bytes (λ k. (c.type_inv.bytes k).fits) in
    let own = ones_own bytes i c.word_at.result are c.word_at.ensures in
    let own' = ones_own bytes i c.word_at-in-loop-left.result are c.word_at-in-loop-left.ensures in
    let (within, passed) = bits_next bytes i c.loop-left.left c.args.position are c.requires.size c.loop-left.invariant.within (omega (arith, c.loop-left-test.true)) c.loop-left.invariant.passed c.requires.within in
    record { within = within; passed = omega arith }

pub select_in_word-requires : goal.select_in_word-requires
select_in_word-requires c =
    let bytes : List ℕ = c.args.bytes.now in
    let are = bytes_are bytes (λ k. (c.type_inv.bytes k).fits) in
    let own = ones_own bytes c.loop-left.index c.word_at.result are c.word_at.ensures in
    let same = ap (λ (n : ℕ). length (ones_from n 0 64)) c.word_at-2.ensures in
    omega (arith, c.loop-left-test.false)

pub overflow_add-result : goal.overflow_add-result
overflow_add-result c =
    let word : List ℕ = ones_from c.word_at-2.result 0 64 in
    let are = bytes_are c.args.bytes.now (λ k. (c.type_inv.bytes k).fits) in
    let own = ones_own c.args.bytes.now c.loop-left.index c.word_at.result are c.word_at.ensures in
    let same = ap (λ (n : ℕ). length (ones_from n 0 64)) c.word_at-2.ensures in
    let top : get_or word c.loop-left.left 0 < 64 = rising_top 0 64 c.loop-left.left word (ones_rise c.word_at-2.result 0 64) (omega (arith, c.loop-left-test.false)) in
    let within = c.loop-left.invariant.within in
    omega (arith, c.select_in_word.ensures)

pub returns : goal.returns
returns c =
    let bytes : List ℕ = c.args.bytes.now in
    let i : ℕ = c.loop-left.index in
    let are = bytes_are bytes (λ k. (c.type_inv.bytes k).fits) in
    let own = ones_own bytes i c.word_at.result are c.word_at.ensures in
    ap (λ (n : ℕ). 64 * i + n) (c.select_in_word.ensures ∙ ap (λ (n : ℕ). get_or (ones_from n 0 64) c.loop-left.left 0) c.word_at-2.ensures)
    ∙ sym (word_select bytes i c.loop-left.left c.args.position are c.requires.size c.loop-left.invariant.within (omega (arith, c.loop-left-test.false)) c.loop-left.invariant.passed)
