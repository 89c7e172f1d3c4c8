-- The low words that the operation gives get their high word; or there is no room for them.
use Rattle.std.proofs.Common.{◌≡◌, ℕ, ◌+◌, ◌-◌, ◌*◌, ◌^◌, ◌≤◌, ◌∙◌, ◌++◌, List, [], ap, append-nil, arith, drop, length, length-take, map, sym, take}
use Rattle.std.proofs.lemmas.List.{length-map, nil_from_length, take-append-le}
use Rattle.bitpack_slices.proofs.ForCallers.{those_few}
use Rattle.bitpack_slices.specs.Operations.{apply}
use Rattle.bitpack_slices.specs.Operations as operations
use Rattle.bitpack_slices.specs.Reads.{has}
use Rattle.bitpack_sets.specs.Opened as opened_sets
use Rattle.bitpack_sets.specs.Reads as set_reads
use Rattle.bitpack_wide.proofs.FrontLaws.{put_follow}
use Rattle.bitpack_wide.proofs.combining.words.combine_word.Goals as goal
use Rattle.bitpack_wide.proofs.combining.words.combine_word.Goals.{then-at-out+in_default, else-at-out}
use Rattle.bitpack_wide.specs.Directory.{body_at, high_at}
use Rattle.bitpack_wide.specs.inner.Merging.{ids_of_word}

pub returns-in-Ok : goal.returns-in-Ok
returns-in-Ok c =
    let a = c.args.a in
    let b = c.args.b in
    let high : ℕ = high_at a.rest.now c.args.i in
    let lows : List ℕ = operations.answer c.args.operation (set_reads.ids_in (body_at a.words a.rest.now c.args.i)) (set_reads.ids_in (body_at b.words b.rest.now c.args.j)) in
    let count : ℕ = c.in-Ok.count in
    let own : operations.answer c.args.operation (opened_sets.ids c.set-x.result) (opened_sets.ids c.set-y.result) ≡ lows =
    ap (λ (l : List ℕ). operations.answer c.args.operation l (opened_sets.ids c.set-y.result)) c.set-x.ensures.ids
    ∙ ap (operations.answer c.args.operation (set_reads.ids_in (body_at a.words a.rest.now c.args.i))) c.set-y.ensures.ids in
    let written : take count c.combine_to.new.out ≡ lows = c.in-Ok.ensures.ids ∙ own in
    let long : length (take count c.combine_to.new.out) ≡ length lows = ap length written in
    let size : count ≡ length lows = c.in-Ok.ensures.len ∙ ap length own in
    let cut = length-take count c.combine_to.new.out in
    let few : count ≤ length c.combine_to.new.out = omega arith in
    let lent : List ℕ = c.combine_to.new.out ++ drop (length c.args.out.now - c.args.at) c.args.space.now in
    let same : c.widen.new.out ≡ ids_of_word (high, lows) =
    c.widen.ensures ∙ ap (λ (h : ℕ). map (λ (low : ℕ). h * 2 ^ 32 + low) (take count lent)) c.high_at-high.ensures
    ∙ ap (map (λ (low : ℕ). high * 2 ^ 32 + low)) (take-append-le count c.combine_to.new.out (drop (length c.args.out.now - c.args.at) c.args.space.now) few ∙ written) in
    let raised = length-map lows (λ (low : ℕ). high * 2 ^ 32 + low) in
    put_follow c.args.at (c.args.at + count - c.args.at) (c.args.at + count) c.args.out.now c.widen.new.out (ids_of_word (high, lows)) (omega (arith, c.if-at-out.true)) same (omega arith)

pub overflow_add-result-2 : goal.overflow_add-result-2
overflow_add-result-2 c =
    let few = those_few (2 ^ 32) (λ x. apply c.args.operation (has x (opened_sets.ids c.set-x.result)) (has x (opened_sets.ids c.set-y.result))) in
    record { fits = omega (arith, c.requires.start, c.combine_count.ensures) }

pub returns : goal.returns
returns c =
    let a = c.args.a in
    let b = c.args.b in
    let high : ℕ = high_at a.rest.now c.args.i in
    let lows : List ℕ = operations.answer c.args.operation (set_reads.ids_in (body_at a.words a.rest.now c.args.i)) (set_reads.ids_in (body_at b.words b.rest.now c.args.j)) in
    let own : operations.answer c.args.operation (opened_sets.ids c.set-x.result) (opened_sets.ids c.set-y.result) ≡ lows =
    ap (λ (l : List ℕ). operations.answer c.args.operation l (opened_sets.ids c.set-y.result)) c.set-x.ensures.ids
    ∙ ap (operations.answer c.args.operation (set_reads.ids_in (body_at a.words a.rest.now c.args.i))) c.set-y.ensures.ids in
    let size : c.combine_count.result ≡ length lows = c.combine_count.ensures ∙ ap length own in
    let raised = length-map lows (λ (low : ℕ). high * 2 ^ 32 + low) in
    record {
      end_is = omega arith;
      written = elim c.if-at-out.branch [
        | then-at-out+in_default w ↦ λ h. (
            let room = w.in_default.ensures.room in
            let long = length-take (length c.args.out.now - c.args.at) c.args.space.now in
            absurd (omega (arith, c.requires.space, w.if-at-out.true, c.combine_count.ensures)))
        | else-at-out w ↦ λ h. (
            let none : ids_of_word (high, lows) ≡ [] = nil_from_length (ids_of_word (high, lows)) (omega (arith, w.if-at-out.false)) in
            let end : c.args.at + c.combine_count.result ≡ c.args.at = omega (arith, w.if-at-out.false) in
            ap (λ (n : ℕ). take n c.args.out.now) end ∙ sym (append-nil (take c.args.at c.args.out.now)) ∙ ap (λ (l : List ℕ). take c.args.at c.args.out.now ++ l) (sym none))
      ];
    }
