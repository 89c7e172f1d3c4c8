-- The ids between two positions are those of a chunk, or some of an array.
use Rattle.std.proofs.Common.{◌≡◌, ◌∙◌, ◌+◌, ◌-◌, ◌%◌, ◌^◌, ◌||◌, Bool, ℕ, List, [], take, drop, ap, arith, refl, subst, sym, false}
use Rattle.std.proofs.Math.Bool.{or-false}
use Rattle.std.proofs.lemmas.List.{drop-drop, take-append-drop}
use Rattle.bitpack_sets.proofs.lemmas.reads.PositionLaws.{between_chunk, between_none, from_array, positions_array, positions_chunks, quads_cut}
use Rattle.bitpack_slices.proofs.ForCallers.{has_append, rising_drop}
use Rattle.bitpack_sets.proofs.lemmas.written.RunLaws.{rising_front}
use Rattle.bitpack_sets.proofs.chunks.Chunks.has_between.Goals as goal
use Rattle.bitpack_sets.specs.Chunks.{lows_between}
use Rattle.bitpack_slices.specs.Reads.{has}
use Rattle.bitpack_slices.specs.Bodies.{IsRising}
use Rattle.bitpack_slices.specs.Slices.{quads_of}

pub returns-then-position-end : goal.returns-then-position-end
returns-then-position-end c =
    let set = c.args.self.now in
    let x = c.args.id in
    let are = c.requires in
    let none : lows_between set c.args.position c.args.end ≡ [] = ap (lows_between set c.args.position) (sym c.if-position-end.true) ∙ between_none set c.args.position in
    sym (are.passed x (omega arith) ∙ are.own x refl ∙ ap (has (x % 65536)) none)

pub in_array-requires : goal.in_array-requires
in_array-requires c =
    let set = c.args.self.now in
    let none = c.if-self-eq0.true in
    let all = positions_array set none in
    let are = c.requires in
    let within = are.within in
    let cut = quads_cut c.args.position c.args.end set.rest.now are.later (omega arith) in
    subst (IsRising 0 (2 ^ 32)) (sym cut)
    (rising_front 0 (2 ^ 32) (c.args.end - c.args.position) (drop c.args.position (quads_of set.rest.now)) (rising_drop 0 (2 ^ 32) c.args.position (quads_of set.rest.now) (set.rising none)))

pub returns-then-self-eq0 : goal.returns-then-self-eq0
returns-then-self-eq0 c =
    let set = c.args.self.now in
    let x = c.args.id in
    let none = c.if-self-eq0.true in
    let all = positions_array set none in
    let are = c.requires in
    let within = are.within in
    let later = are.later in
    let xs : List ℕ = quads_of set.rest.now in
    let some : List ℕ = take (c.args.end - c.args.position) (drop c.args.position xs) in
    let rest : List ℕ = drop (c.args.end - c.args.position) (drop c.args.position xs) in
    let cut = quads_cut c.args.position c.args.end set.rest.now are.later (omega arith) in
    let end : c.args.position + (c.args.end - c.args.position) ≡ c.args.end = omega arith in
    let past : has x rest ≡ false =
    ap (has x) (drop-drop (c.args.end - c.args.position) c.args.position xs ∙ ap (λ (k : ℕ). drop k xs) end ∙ sym (from_array set c.args.end none)) ∙ are.none x refl in
    let parts : has x (drop c.args.position xs) ≡ has x some =
    ap (has x) (sym (take-append-drop (c.args.end - c.args.position) (drop c.args.position xs))) ∙ has_append x some rest ∙ ap (λ (b : Bool). has x some || b) past ∙ or-false (has x some) in
    c.in_array.ensures ∙ ap (has x) cut ∙ sym parts ∙ sym (ap (has x) (from_array set c.args.position none)) ∙ sym (are.passed x (omega arith))

pub lows-requires-clause-within : goal.lows-requires-clause-within
lows-requires-clause-within c =
    let set = c.args.self.now in
    let all = positions_chunks set c.if-self-eq0.false in
    let ne = c.if-position-end.false in
    let within = c.requires.within in
    let later = c.requires.later in
    omega arith

pub returns : goal.returns
returns c =
    let set = c.args.self.now in
    let x = c.args.id in
    let are = c.requires in
    c.contains.ensures ∙ ap (has (x % 65536)) c.lows.ensures.lows ∙ sym (ap (has (x % 65536)) (between_chunk set c.args.position c.args.end c.if-self-eq0.false c.if-position-end.false)) ∙ sym (are.own x refl) ∙ sym (are.passed x (omega arith))
