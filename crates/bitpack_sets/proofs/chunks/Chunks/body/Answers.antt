-- The ids between two positions are some of an array, or a chunk of numbers or blocks.
use Rattle.std.proofs.Common.{◌≡◌, ◌∙◌, ◌+◌, ◌-◌, ◌/◌, ◌^◌, ◌<◌, ℕ, ap, arith, drop, get_or, refl, sym, subst, take}
use Rattle.std.proofs.lemmas.List.{get_or-drop, get_or-take, length-take}
use Rattle.bitpack_slices.proofs.ForCallers.{AreOf, lows_in, rising_drop}
use Rattle.bitpack_sets.proofs.lemmas.reads.KeyLaws.{lows_raised, of_raised, of_shared}
use Rattle.bitpack_sets.proofs.lemmas.reads.HalfLaws.{no_quads}
use Rattle.bitpack_sets.proofs.lemmas.reads.PositionLaws.{between_array, between_chunk, between_none, positions_array, positions_chunks, quads_cut}
use Rattle.bitpack_sets.proofs.lemmas.written.RunLaws.{rising_front}
use Rattle.bitpack_sets.proofs.chunks.Chunks.body.Goals as goal
use Rattle.bitpack_sets.specs.Chunks.{lows_between}
use Rattle.bitpack_slices.specs.Bodies.{IsRising}
use Rattle.bitpack_slices.specs.Lows.{AreLows, lows}
use Rattle.bitpack_slices.specs.Slices.{pairs_of, quads_of}

pub ids-requires : goal.ids-requires
ids-requires c = subst (IsRising 0 (2 ^ 32)) (sym no_quads) (omega arith)

pub returns-then-position-end-clause-key : goal.returns-then-position-end-clause-key
returns-then-position-end-clause-key c = subst (AreOf c.args.key) (sym (c.ids.ensures ∙ no_quads)) refl

pub returns-then-position-end-clause-lows : goal.returns-then-position-end-clause-lows
returns-then-position-end-clause-lows c =
    let set = c.args.self.now in
    ap lows_in (c.ids.ensures ∙ no_quads) ∙ sym (ap (lows_between set c.args.position) (sym c.if-position-end.true) ∙ between_none set c.args.position)

pub ids-requires-then-self-eq0 : goal.ids-requires-then-self-eq0
ids-requires-then-self-eq0 c =
    let set = c.args.self.now in
    let none = c.if-self-eq0.true in
    let all = positions_array set none in
    let span = c.requires.span in
    let within = span.within in
    let cut = quads_cut c.args.position c.args.end set.rest.now span.later (omega arith) in
    subst (IsRising 0 (2 ^ 32)) (sym cut)
    (rising_front 0 (2 ^ 32) (c.args.end - c.args.position) (drop c.args.position (quads_of set.rest.now)) (rising_drop 0 (2 ^ 32) c.args.position (quads_of set.rest.now) (set.rising none)))

pub returns-then-self-eq0-clause-key : goal.returns-then-self-eq0-clause-key
returns-then-self-eq0-clause-key c =
    let set = c.args.self.now in
    let none = c.if-self-eq0.true in
    let all = positions_array set none in
    let span = c.requires.span in
    let within = span.within in
    let later = span.later in
    let p = c.args.position in
    let n = c.args.end - p in
    let xs = quads_of set.rest.now in
    let some = take n (drop p xs) in
    let cut = quads_cut p c.args.end set.rest.now span.later (omega arith) in
    subst (AreOf c.args.key) (sym (c.ids-then-self-eq0.ensures ∙ cut)) (of_shared c.args.key some (λ k lt.
    let size = length-take n (drop p xs) in
    let less : k < n = omega arith in
    let at : get_or some k 0 ≡ get_or xs (p + k) 0 = get_or-take n (drop p xs) k 0 less ∙ get_or-drop p xs k 0 in
    ap (λ (m : ℕ). m / 65536) at ∙ span.shared none (p + k) (omega arith) (omega arith)))

pub returns-then-self-eq0-clause-lows : goal.returns-then-self-eq0-clause-lows
returns-then-self-eq0-clause-lows c =
    let set = c.args.self.now in
    let none = c.if-self-eq0.true in
    let all = positions_array set none in
    let span = c.requires.span in
    let within = span.within in
    let cut = quads_cut c.args.position c.args.end set.rest.now span.later (omega arith) in
    ap lows_in (c.ids-then-self-eq0.ensures ∙ cut) ∙ sym (between_array set c.args.position c.args.end none)

pub lows-requires-clause-within : goal.lows-requires-clause-within
lows-requires-clause-within c =
    let set = c.args.self.now in
    let all = positions_chunks set c.if-self-eq0.false in
    let at = c.if-position-end.false in
    let span = c.requires.span in
    let later = span.later in
    let within = span.within in
    omega arith

pub numbers-requires : goal.numbers-requires
numbers-requires c =
    let key = c.requires.key in
    record {
      fits = omega arith;
      rising = subst AreLows c.in-Numbers.is c.lows.ensures.are;
    }

pub returns-in-Numbers-clause-key : goal.returns-in-Numbers-clause-key
returns-in-Numbers-clause-key c =
    let rising = subst AreLows c.in-Numbers.is c.lows.ensures.are in
    subst (AreOf c.args.key) (sym c.numbers.ensures) (of_raised c.args.key 0 (pairs_of c.in-Numbers.body.now) rising)

pub returns-in-Numbers-clause-lows : goal.returns-in-Numbers-clause-lows
returns-in-Numbers-clause-lows c =
    let rising = subst AreLows c.in-Numbers.is c.lows.ensures.are in
    ap lows_in c.numbers.ensures ∙ lows_raised c.args.key 0 (pairs_of c.in-Numbers.body.now) rising ∙ ap lows (sym c.in-Numbers.is)
    ∙ c.lows.ensures.lows ∙ sym (between_chunk c.args.self.now c.args.position c.args.end c.if-self-eq0.false c.if-position-end.false)

pub returns-in-Blocks-clause-key : goal.returns-in-Blocks-clause-key
returns-in-Blocks-clause-key c = subst AreLows c.in-Blocks.is c.lows.ensures.are

pub returns-in-Blocks-clause-lows : goal.returns-in-Blocks-clause-lows
returns-in-Blocks-clause-lows c =
    ap lows (sym c.in-Blocks.is) ∙ c.lows.ensures.lows ∙ sym (between_chunk c.args.self.now c.args.position c.args.end c.if-self-eq0.false c.if-position-end.false)
