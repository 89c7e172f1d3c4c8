-- The ids follow one another in the room.
use Rattle.std.proofs.Common.{◌≡◌, ◌≤◌, ◌+◌, ◌-◌, ◌++◌, ℕ, List, drop, length, take, ap, sym, ◌∙◌, arith, length-append, length-drop}
use Rattle.std.proofs.lemmas.List.{length-take-le, take_all, take_at}
use Rattle.std.proofs.lemmas.Slice.{take-put_mid}
use Rattle.bitpack_sets.proofs.appending.unpack_to.Goals as goal
use Rattle.bitpack_sets.specs.Opened.{ids}

pub returns-clause-ok : goal.returns-clause-ok
returns-clause-ok c =
    let room : List ℕ = c.args.room.now in
    let more : List ℕ = c.args.more.now in
    let own : List ℕ = drop c.args.from (ids c.args.set.now) in
    let count : ℕ = c.len.result - c.args.from in
    let end : ℕ = count + length more in
    let new : List ℕ = c.copy_range.new.out in
    let later : List ℕ = c.copy_from_slice.new.self in
    let fits : end ≤ length room = c.if-end-room.false in
    let long : length new ≡ count = c.copy_range.auto.out ∙ length-take-le count room (omega (arith, fits)) in
    let size : length own ≡ count = length-drop c.args.from (ids c.args.set.now) ∙ omega (arith, c.len.ensures) in
    let written : c.copy_range.result ≡ count = omega (arith, c.copy_range.ensures.len, c.copy_range.auto.out, long, c.len.ensures) in
    let is : new ≡ own =
    sym (take_all count new (omega (arith, long))) ∙ ap (λ (n : ℕ). take n new) (sym written) ∙ c.copy_range.ensures.ids ∙ ap (λ (n : ℕ). take n own) written
    ∙ take_all count own (omega (arith, size)) in
    let filled : List ℕ = new ++ drop count room in
    let whole : length later ≡ length more = ap length c.copy_from_slice.ensures.after in
    let within : count ≤ length filled = omega (arith, long, length-append new (drop count room)) in
    take-put_mid count (end - count) filled later end (omega (arith, whole)) within ∙ ap (λ (l : List ℕ). l ++ later) (take_at new (drop count room) count long ∙ is)
    ∙ ap (λ (l : List ℕ). own ++ l) c.copy_from_slice.ensures.after
