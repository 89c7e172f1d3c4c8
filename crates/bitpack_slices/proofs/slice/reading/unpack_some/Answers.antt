-- Some of the numbers of the slice are written.
use Rattle.std.proofs.Common.{◌≡◌, ◌+◌, ◌-◌, ◌++◌, ◌∙◌, ℕ, List, ap, arith, drop, length, map, take, refl}
use Rattle.std.proofs.lemmas.Slice.{take-put_mid}
use Rattle.std.proofs.Math.Nat.{min-le_right}
use Rattle.bitpack_groups.proofs.ForCallers.{lent_len}
use Rattle.bitpack_slices.proofs.lemmas.bodies.CutLaws.{slice_cut}
use Rattle.bitpack_slices.proofs.slice.reading.unpack_some.Goals as goal
use Rattle.bitpack_slices.specs.Slices.{slice_numbers}

pub returns-clause-values : goal.returns-clause-values
returns-clause-values c =
    let count : ℕ = c.args.count in
    let start : ℕ = c.args.start in
    let at : ℕ = c.args.at in
    let out : List ℕ = c.args.out.now in
    let slices : List ℕ = c.args.slices.now in
    let wanted : ℕ = c.min-wanted.result in
    let size : ℕ = c.byte_len.result in
    let low = min-le_right (count - c.args.from) (length out - at) in
    let few = c.min-wanted.ensures in
    let room = c.requires.room in
    let mid : length (take (at + wanted - at) (drop at out)) ≡ wanted = lent_len at wanted out (omega arith) in
    let cut = slice_cut count start size start slices refl c.byte_len.ensures in
    let whole : wanted ≡ at + wanted - at = omega arith in
    let some : ℕ → List ℕ → List ℕ = λ n l. map (λ i. c.args.base + i) (take n (drop c.args.from (slice_numbers count l))) in
    let long = c.unpack_slice_from.auto.out in
    take-put_mid at (at + wanted - at) out c.unpack_slice_from.new.out (at + wanted) (omega arith) room
    ∙ ap (λ (l : List ℕ). take at out ++ l)
    (c.unpack_slice_from.ensures ∙ ap (λ (n : ℕ). some n (take (start + size - start) (drop start slices))) (mid ∙ whole) ∙ ap (some (at + wanted - at)) cut)
