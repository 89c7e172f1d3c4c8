-- The integer is written at its place.
use Rattle.std.proofs.Common.{◌≡◌, ℕ, ◌+◌, ◌-◌, ◌*◌, ◌++◌, List, length, take, ap, arith, ◌∙◌}
use Rattle.std.proofs.lemmas.Slice.{take-put_mid}
use Rattle.bitpack_groups.proofs.IntegerLaws.{lent_len, little_len, product_more}
use Rattle.bitpack_groups.proofs.SliceLemmas.{length-written}
use Rattle.bitpack_groups.proofs.integers.write_at.Goals as goal
use Rattle.bitpack_groups.specs.Packed.{le_bytes}

pub returns : goal.returns
returns c =
    let size : ℕ = c.args.size in
    let at : ℕ = size * c.args.index in
    let out : List ℕ = c.args.out.now in
    let part : List ℕ = le_bytes size c.args.value in
    let is : c.write_integer.new.out ≡ part = c.write_integer.ensures ∙ ap (λ m. le_bytes m c.args.value) (lent_len at size out c.requires) in
    let long : length c.write_integer.new.out ≡ size = ap length is ∙ little_len size c.args.value in
    record {
      len = length-written at (at + size - at) out c.write_integer.new.out (omega (arith, c.requires)) (omega (arith, long)) (omega (arith, c.requires));
      bytes = take-put_mid at (at + size - at) out c.write_integer.new.out (size * (c.args.index + 1)) (omega (arith, product_more size c.args.index, long)) (omega (arith, c.requires))
          ∙ ap (λ (l : List ℕ). take at out ++ l) is;
    }
