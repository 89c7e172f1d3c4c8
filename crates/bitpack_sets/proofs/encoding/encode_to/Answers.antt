-- The encoding is written if the slice has room for it.
use Rattle.std.proofs.Common.{◌++◌, ℕ, List, drop, ap, ◌∙◌, arith, refl, rules}
use Rattle.std.proofs.lemmas.List.{length-take-le}
use Rattle.bitpack_sets.proofs.lemmas.encodings.EncodeLaws.{accepted}
use Rattle.bitpack_sets.proofs.encoding.encode_to.Goals as goal
use Rattle.bitpack_sets.specs.Sets.{encoding}

pub returns-then-bytes-len : goal.returns-then-bytes-len
returns-then-bytes-len c =
    let long = c.measure-measured.ensures.len_is in
    record {
      set = search rules;
      len = search rules;
      ok = search rules;
      fault = accepted c.args.ids.now _ c.in_ok-test_ids.ensures.fault refl;
      room = λ none few. omega arith;
      unchanged = search rules;
    }

pub write_set-requires-clause-size : goal.write_set-requires-clause-size
write_set-requires-clause-size c = length-take-le c.measure-measured.result.len c.args.bytes.now c.if-bytes-len.false ∙ c.measure-measured.ensures.len_is

pub returns : goal.returns
returns c =
    let len : ℕ = c.measure-measured.result.len in
    let old : List ℕ = c.args.bytes.now in
    let ids : List ℕ = c.args.ids.now in
    record {
      set = c.in_ok-test_ids.ensures.set;
      len = c.measure-measured.ensures.len_is;
      ok = ap (λ (l : List ℕ). l ++ drop len old) c.write_set.ensures ∙ ap (λ n. encoding ids ++ drop n old) c.measure-measured.ensures.len_is;
      fault = accepted ids _ c.in_ok-test_ids.ensures.fault tt;
      room = search rules;
      unchanged = search rules;
    }
