-- The zeros in the room that is reserved become the encoding.
use Rattle.std.proofs.Common.{◌≡◌, ◌++◌, ℕ, List, length, replicate, refl, ap, sym, ◌∙◌, arith, rules}
use Rattle.std.proofs.lemmas.List.{length-replicate}
use Rattle.bitpack_columns.specs.Measured.{extended}
use Rattle.bitpack_columns.proofs.EncodeLaws.{accepted, on_err, written_over}
use Rattle.bitpack_columns.proofs.FallLaws.{not_refused}
use Rattle.bitpack_columns.proofs.appending.writing.append_planned.Goals as goal

pub returns-then-is_err : goal.returns-then-is_err
returns-then-is_err c =
    let kind = c.args.column.now.kind in
    let all : List ℕ = extended c.args.column.now (c.args.filled.now ++ c.args.later.now) in
    let long = c.plan_after-plan.ensures.plan.len_is in
    let full = on_err c.reserve.result (sym c.is_err.ensures.value ∙ c.if-is_err.true) c.reserve.ensures.full in
    record {
      column = search rules;
      ok = search rules;
      fault = accepted kind all _ (not_refused kind all c.requires.column) refl;
      room = λ none. omega (arith, full, long);
      unchanged = search rules;
      capacity = search rules;
    }

pub write_after-requires-clause-planned : goal.write_after-requires-clause-planned
write_after-requires-clause-planned c =
    let long : length c.slice_mut-bytes.result.now ≡ c.plan_after-plan.result.len = omega (arith, c.slice_mut-bytes.ensures.len, c.append_zeros.ensures.len, c.len-start.ensures) in
    rw long c.plan_after-plan.ensures.plan

pub returns : goal.returns
returns c =
    let kind = c.args.column.now.kind in
    let all : List ℕ = extended c.args.column.now (c.args.filled.now ++ c.args.later.now) in
    let old : List ℕ = c.reserve.new.self.items in
    let zeros : List ℕ = replicate c.plan_after-plan.result.len 0 in
    let new : List ℕ = c.write_after.new.out in
    let from : c.len-start.result ≡ length old = omega (arith, c.len-start.ensures, c.reserve.new.self.ok) in
    let size = length-replicate {A = ℕ} c.plan_after-plan.result.len 0 in
    let long : length new ≡ length zeros = omega (arith, c.write_after.auto.out, c.slice_mut-bytes.ensures.len, c.append_zeros.ensures.len, c.len-start.ensures) in
    let whole : c.append_zeros.new.out.len ≡ length c.append_zeros.new.out.items = omega (arith, c.append_zeros.new.out.ok) in
    record {
      column = c.requires.column;
      ok = written_over old zeros c.append_zeros.new.out.items new c.len-start.result c.append_zeros.new.out.len c.append_zeros.ensures.items from long whole
          ∙ ap (λ (l : List ℕ). l ++ new) c.reserve.ensures.items ∙ ap (λ (l : List ℕ). c.args.out.now.items ++ l) c.write_after.ensures;
      fault = accepted kind all _ (not_refused kind all c.requires.column) tt;
      room = search rules;
      unchanged = search rules;
      capacity = search rules;
    }
