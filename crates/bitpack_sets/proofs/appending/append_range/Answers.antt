-- The zeros in the room become the ids.
use Rattle.std.proofs.Common.{◌≡◌, ◌++◌, ◌-◌, ℕ, List, drop, length, min, replicate, take, ap, sym, ◌∙◌, arith, length-append, length-drop}
use Rattle.std.proofs.Math.Nat.{min-le_left}
use Rattle.std.proofs.lemmas.List.{length-replicate, take_all}
use Rattle.bitpack_sets.proofs.lemmas.encodings.EncodeLaws.{written_over}
use Rattle.bitpack_sets.proofs.appending.append_range.Goals as goal
use Rattle.bitpack_sets.specs.Opened.{ids}

min-self : (n : ℕ) → min n n ≡ n
min-self n = omega (arith, min-le_left n n)

pub returns-clause-ids : goal.returns-clause-ids
returns-clause-ids c =
    let old : List ℕ = c.args.out.now.items in
    let count : ℕ = c.args.count in
    let all : List ℕ = drop c.args.from (ids c.args.set.now) in
    let zeros : List ℕ = replicate count 0 in
    let new : List ℕ = c.copy_range.new.out in
    let from : c.len-start.result ≡ length old = omega (arith, c.len-start.ensures, c.args.out.now.ok) in
    let size = length-replicate {A = ℕ} count 0 in
    let whole : c.append_zeros.new.out.len ≡ length c.append_zeros.new.out.items = omega (arith, c.append_zeros.new.out.ok) in
    let most = length-drop c.args.from (ids c.args.set.now) in
    let long : length new ≡ count = omega (arith, c.copy_range.auto.out, c.slice_mut.ensures.len, c.len-start.ensures, whole, from, size, length-append old zeros, ap length c.append_zeros.ensures.items) in
    let left : length (ids c.args.set.now) - c.args.from ≡ count = (let h = c.requires.count in omega arith) in
    let written : c.copy_range.result ≡ count = c.copy_range.ensures.len ∙ ap (λ (n : ℕ). min (length c.slice_mut.result.now) n) left ∙ ap (λ (n : ℕ). min n count) (sym c.copy_range.auto.out ∙ long) ∙ min-self count in
    let is : new ≡ all = sym (take_all count new (omega arith)) ∙ ap (λ (n : ℕ). take n new) (sym written) ∙ c.copy_range.ensures.ids ∙ ap (λ (n : ℕ). take n all) written ∙ take_all count all (omega arith) in
    written_over old zeros c.append_zeros.new.out.items new c.len-start.result c.append_zeros.new.out.len c.append_zeros.ensures.items from (long ∙ sym size) whole ∙ ap (λ (l : List ℕ). old ++ l) is
