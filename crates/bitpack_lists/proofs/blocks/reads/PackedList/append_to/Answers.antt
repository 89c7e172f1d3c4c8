-- The room that is reserved is that of all values, and the zeros there become the values.
use Rattle.std.proofs.Common.{◌≡◌, ◌++◌, ℕ, List, length, replicate, sym, ◌∙◌, ap, arith}
use Rattle.std.proofs.lemmas.List.{length-replicate}
use Rattle.bitpack_lists.proofs.lemmas.blocks.ListLemmas.{on_err}
use Rattle.bitpack_lists.specs.Opened.{values}
use Rattle.bitpack_lists.specs.inner.Searching.{value_of}
use Rattle.bitpack_lists.proofs.lemmas.opened.Positions.{length-first_of}
use Rattle.bitpack_lists.proofs.lemmas.blocks.ReadSteps.{written_over}
use Rattle.bitpack_lists.proofs.blocks.reads.PackedList.append_to.Goals as goal

pub returns-then-is_err-clause-room : goal.returns-then-is_err-clause-room
returns-then-is_err-clause-room g c =
    let self = c.args.self.now in
    let long : length (values self) ≡ self.count = length-first_of (value_of self) self.count in
    let full = on_err c.reserve.result (sym c.is_err.ensures.value ∙ c.if-is_err.true) c.reserve.ensures.full in
    omega (arith, full, long)

pub copy_values-requires : goal.copy_values-requires
copy_values-requires g c =
    record { room = omega (arith, c.slice_mut.ensures.len, c.append_zeros.ensures.len, c.len-from.ensures, length-replicate {A = ℕ} c.args.self.now.count 0) }

pub returns-clause-ok : goal.returns-clause-ok
returns-clause-ok g c =
    let self = c.args.self.now in
    let old : List ℕ = c.reserve.new.self.items in
    let zeros : List ℕ = replicate self.count 0 in
    let out : List ℕ = c.copy_values.new.out in
    let from : c.len-from.result ≡ length old = omega (arith, c.len-from.ensures, c.reserve.new.self.ok) in
    let long : length out ≡ length zeros =
    omega (arith, c.copy_values.auto.out, c.slice_mut.ensures.len, c.append_zeros.ensures.len, c.len-from.ensures) in
    let all : c.append_zeros.new.out.len ≡ length c.append_zeros.new.out.items = omega (arith, c.append_zeros.new.out.ok) in
    written_over old zeros c.append_zeros.new.out.items out c.len-from.result c.append_zeros.new.out.len c.append_zeros.ensures.items from long all
    ∙ ap (λ xs. xs ++ out) c.reserve.ensures.items ∙ ap (λ xs. c.args.out.now.items ++ xs) c.copy_values.ensures.values
