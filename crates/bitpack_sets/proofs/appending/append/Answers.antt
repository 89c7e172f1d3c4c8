-- The vector without items has the room that it had.
use Rattle.std.proofs.Common.{◌++◌, ℕ, ap, length, subst, sym, vec_capacity}
use Rattle.std.specs.Option.{is_some}
use Rattle.bitpack_sets.proofs.lemmas.encodings.EncodeLaws.{all_if_no_chunks}
use Rattle.bitpack_sets.proofs.appending.append.Goals as goal
use Rattle.bitpack_sets.specs.Opened.{ids}
use Rattle.bitpack_sets.specs.Written.{AppendsWith, unpacked}

pub returns-in-Some : goal.returns-in-Some
returns-in-Some c =
    subst (λ (n : ℕ). AppendsWith n (unpacked (ids c.args.set.now) c.args.more.now) (ids c.args.set.now ++ c.args.more.now) c.append_after.result c.args.out.now c.append_after.new.out) c.clear.ensures.capacity c.append_after.ensures

pub returns-in-None : goal.returns-in-None
returns-in-None c =
    subst (λ (n : ℕ). AppendsWith (vec_capacity c.args.room.now) n (ids c.args.set.now ++ c.args.more.now) c.append_unpacked.result c.args.out.now c.append_unpacked.new.out)
    (sym (all_if_no_chunks (ids c.args.set.now) c.args.more.now (c.front.ensures.none (ap is_some c.in-None.is))))
    (subst (λ (n : ℕ). AppendsWith n (length (ids c.args.set.now ++ c.args.more.now)) (ids c.args.set.now ++ c.args.more.now) c.append_unpacked.result c.args.out.now c.append_unpacked.new.out) c.clear.ensures.capacity c.append_unpacked.ensures)
