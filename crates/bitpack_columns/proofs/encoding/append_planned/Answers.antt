-- The zeros in the room that is reserved become the encoding.
use Rattle.std.proofs.Common.{◌≡◌, ◌++◌, ℕ, List, length, replicate, refl, ap, sym, ◌∙◌, arith, rules}
use Rattle.std.proofs.lemmas.List.{length-replicate}
use Rattle.bitpack_columns.proofs.EncodeLaws.{accepted, on_err, written_over}
use Rattle.bitpack_columns.proofs.encoding.append_planned.Goals as goal

pub returns-then-is_err : goal.returns-then-is_err
returns-then-is_err c =
    let long = c.in_ok-plan.ensures.plan.len_is in
    let full = on_err c.reserve.result (sym c.is_err.ensures.value ∙ c.if-is_err.true) c.reserve.ensures.full in
    record {
      column = search rules;
      ok = search rules;
      fault = accepted c.args.kind c.args.values.now _ c.in_ok-plan.ensures.fault refl;
      room = λ none. omega (arith, full, long);
      unchanged = search rules;
      capacity = search rules;
    }

pub write_column-requires-clause-planned : goal.write_column-requires-clause-planned
write_column-requires-clause-planned c =
    let long : length c.slice_mut-bytes.result.now ≡ c.in_ok-plan.plan.len = omega (arith, c.slice_mut-bytes.ensures.len, c.append_zeros.ensures.len, c.len-start.ensures) in
    rw long c.in_ok-plan.ensures.plan

pub returns : goal.returns
returns c =
    let old : List ℕ = c.reserve.new.self.items in
    let zeros : List ℕ = replicate c.in_ok-plan.plan.len 0 in
    let new : List ℕ = c.write_column.new.out in
    let from : c.len-start.result ≡ length old = omega (arith, c.len-start.ensures, c.reserve.new.self.ok) in
    let size = length-replicate {A = ℕ} c.in_ok-plan.plan.len 0 in
    let long : length new ≡ length zeros = omega (arith, c.write_column.auto.out, c.slice_mut-bytes.ensures.len, c.append_zeros.ensures.len, c.len-start.ensures) in
    let all : c.append_zeros.new.out.len ≡ length c.append_zeros.new.out.items = omega (arith, c.append_zeros.new.out.ok) in
    record {
      column = c.in_ok-plan.ensures.column;
      ok = written_over old zeros c.append_zeros.new.out.items new c.len-start.result c.append_zeros.new.out.len c.append_zeros.ensures.items from long all
          ∙ ap (λ (l : List ℕ). l ++ new) c.reserve.ensures.items ∙ ap (λ (l : List ℕ). c.args.out.now.items ++ l) c.write_column.ensures;
      fault = accepted c.args.kind c.args.values.now _ c.in_ok-plan.ensures.fault tt;
      room = search rules;
      unchanged = search rules;
      capacity = search rules;
    }
