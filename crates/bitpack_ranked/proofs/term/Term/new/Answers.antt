-- A set that was opened has increasing ids.
use Rattle.std.proofs.Common.{◌∙◌, sym}
use Rattle.bitpack_ranked.proofs.term.Term.new.Goals as goal

pub invariant_of-result : goal.invariant_of-result
invariant_of-result c = record {
  is_set = (c.one_encoding.ensures.read c.args.set.bytes.now c.args.set.are_bytes c.args.set.states.none).0;
  pairs = sym c.len-2.ensures ∙ sym c.if-len.false ∙ c.len.ensures;
}
