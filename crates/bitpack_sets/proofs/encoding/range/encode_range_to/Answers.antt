-- The encoding is written if the slice has room for it.
use Rattle.std.proofs.Common.{◌≡◌, ◌++◌, ℕ, List, drop, length, sym, ap, ◌∙◌, arith, refl, rules}
use Rattle.std.proofs.lemmas.List.{length-take-le}
use Rattle.bitpack_sets.proofs.lemmas.encodings.EncodeLaws.{accepted}
use Rattle.bitpack_sets.proofs.encoding.range.encode_range_to.Goals as goal
use Rattle.bitpack_sets.specs.Ranges.{ids_within}
use Rattle.bitpack_sets.specs.Sets.{encoding}

pub returns-then-out-len : goal.returns-then-out-len
returns-then-out-len c =
    let long = c.measure_range-measured.ensures.measured.len_is ∙ sym (ap (λ (l : List ℕ). length (encoding l)) c.in_ok-count.ensures.ids) in
    record {
      set = search rules;
      len = search rules;
      ok = search rules;
      fault = accepted (ids_within c.args.first c.args.end) _ c.in_ok-count.ensures.fault refl;
      room = λ none few. omega arith;
      unchanged = search rules;
    }

pub write_range-requires-clause-size : goal.write_range-requires-clause-size
write_range-requires-clause-size c = length-take-le c.measure_range-measured.result.len c.args.out.now c.if-out-len.false ∙ c.measure_range-measured.ensures.measured.len_is

pub returns : goal.returns
returns c =
    let len : ℕ = c.measure_range-measured.result.len in
    let old : List ℕ = c.args.out.now in
    let ids : List ℕ = ids_within c.args.first c.args.end in
    let same = sym (ap encoding c.in_ok-count.ensures.ids) in
    let long : len ≡ length (encoding ids) = c.measure_range-measured.ensures.measured.len_is ∙ ap length same in
    record {
      set = c.in_ok-count.ensures.set;
      len = long;
      ok = ap (λ (l : List ℕ). l ++ drop len old) (c.write_range.ensures ∙ same) ∙ ap (λ (n : ℕ). encoding ids ++ drop n old) long;
      fault = accepted ids _ c.in_ok-count.ensures.fault tt;
      room = search rules;
      unchanged = search rules;
    }
