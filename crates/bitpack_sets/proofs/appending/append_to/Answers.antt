-- A set that is not in chunks is unpacked.
use Rattle.std.proofs.Common.{◌++◌, ℕ, ap, length, subst, sym}
use Rattle.std.specs.Option.{is_some}
use Rattle.bitpack_sets.proofs.lemmas.encodings.EncodeLaws.{all_if_no_chunks}
use Rattle.bitpack_sets.proofs.appending.append_to.Goals as goal
use Rattle.bitpack_sets.specs.Opened.{ids}
use Rattle.bitpack_sets.specs.Written.{WritesWith}

pub returns-in-None : goal.returns-in-None
returns-in-None c =
    subst (λ (n : ℕ). WritesWith (length c.args.room.now) n (ids c.args.set.now ++ c.args.more.now) c.write_unpacked.result c.args.out.now c.write_unpacked.new.out)
    (sym (all_if_no_chunks (ids c.args.set.now) c.args.more.now (c.front.ensures.none (ap is_some c.in-None.is)))) c.write_unpacked.ensures
