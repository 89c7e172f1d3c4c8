-- The zeros in the room that is reserved become the encoding.
use Rattle.std.proofs.Common.{◌≡◌, ◌++◌, ℕ, List, length, replicate, ap, sym, ◌∙◌, arith, rules}
use Rattle.std.proofs.lemmas.List.{length-replicate}
use Rattle.bitpack_sets.proofs.lemmas.encodings.EncodeLaws.{on_err, written_over}
use Rattle.bitpack_sets.proofs.encoding.append_set.Goals as goal

pub returns-then-is_err : goal.returns-then-is_err
returns-then-is_err c =
    let long = c.measure-measured.ensures.len_is in
    let failed = sym c.is_err.ensures.value ∙ c.if-is_err.true in
    let full = on_err c.reserve.result failed c.reserve.ensures.full in
    record {
      ok = search rules;
      memory = search rules;
      room = omega (arith, full, long);
      unchanged = c.reserve.ensures.items;
      capacity = on_err c.reserve.result failed c.reserve.ensures.err;
    }

pub write_set-requires-clause-size : goal.write_set-requires-clause-size
write_set-requires-clause-size c =
    let long = c.measure-measured.ensures.len_is in
    omega (arith, long, c.slice_mut-bytes.ensures.len, c.append_zeros.ensures.len, c.len-start.ensures)

pub returns : goal.returns
returns c =
    let old : List ℕ = c.reserve.new.self.items in
    let zeros : List ℕ = replicate c.measure-measured.result.len 0 in
    let new : List ℕ = c.write_set.new.out in
    let from : c.len-start.result ≡ length old = omega (arith, c.len-start.ensures, c.reserve.new.self.ok) in
    let size = length-replicate {A = ℕ} c.measure-measured.result.len 0 in
    let long : length new ≡ length zeros = omega (arith, c.write_set.auto.out, c.slice_mut-bytes.ensures.len, c.append_zeros.ensures.len, c.len-start.ensures) in
    let all : c.append_zeros.new.out.len ≡ length c.append_zeros.new.out.items = omega (arith, c.append_zeros.new.out.ok) in
    record {
      ok =
          written_over old zeros c.append_zeros.new.out.items new c.len-start.result c.append_zeros.new.out.len c.append_zeros.ensures.items from long all
          ∙ ap (λ (l : List ℕ). l ++ new) c.reserve.ensures.items ∙ ap (λ (l : List ℕ). c.args.out.now.items ++ l) c.write_set.ensures;
      memory = search rules;
      room = search rules;
      unchanged = search rules;
      capacity = search rules;
    }
