-- Without room for the ids nothing is written.
use Rattle.std.proofs.Common.{List, ℕ, arith, rules, length-append, subst}
use Rattle.bitpack_sets.proofs.lemmas.encodings.EncodeLaws.{accepted}
use Rattle.bitpack_sets.proofs.lemmas.faults.RefusalLaws.{set_not_refused}
use Rattle.bitpack_sets.proofs.appending.write_unpacked.Goals as goal
use Rattle.bitpack_sets.specs.Opened.{ids}
use Rattle.bitpack_sets.specs.Written.{WritesSet}

pub returns-in_err-count : goal.returns-in_err-count
returns-in_err-count c = record {
  set = search rules;
  len = search rules;
  ok = search rules;
  fault = accepted _ _ (set_not_refused _ c.requires.set.few c.requires.set.rising) (search rules);
  room = λ none few. absurd (omega (arith, few, c.in_err-count.ensures.room, length-append (ids c.args.set.now) c.args.more.now));
  unchanged = search rules;
}

pub returns : goal.returns
returns c =
    let is = subst (λ (l : List ℕ). WritesSet l c.encode_to.result c.args.out.now c.encode_to.new.bytes) c.in_ok-count.ensures.ok c.encode_to.ensures in
    record {
      set = is.set;
      len = is.len;
      ok = is.ok;
      fault = is.fault;
      room = λ none few. is.room none (omega arith);
      unchanged = is.unchanged;
    }
