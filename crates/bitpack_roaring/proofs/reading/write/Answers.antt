-- What is gathered is that of the ids.
use Rattle.std.proofs.Common.{IfSome, Option, Result, subst, ℕ, List, refl}
use Rattle.bitpack_queries.proofs.ForCallers.{fills_from, gathered_counted}
use Rattle.bitpack_queries.specs.Gathered.{Fills}
use Rattle.bitpack_slices.specs.declared.set_error.SetError.{SetError}
use Rattle.bitpack_roaring.proofs.ChunkLaws.{all_rise}
use Rattle.bitpack_roaring.specs.Roaring.{ids_of}
use Rattle.bitpack_roaring.proofs.reading.write.Goals as goal

pub write-requires : goal.write-requires
write-requires c =
    let it = c.gather-gathered in
    record {
      counted = gathered_counted (ids_of c.args.head.bytes.now) it.new.keys it.new.counts it.new.sizes it.new.out it.result.count it.result.chunks it.result.size it.ensures;
    }

pub returns : goal.returns
returns c =
    let it = c.gather-gathered in
    let ids : List ℕ = ids_of c.args.head.bytes.now in
    fills_from ids ids c.args.out.now it.new.out c.write.new.out c.unwrap.result refl
    (subst (λ (r : Option (Result ℕ SetError)). IfSome r (λ written. Fills ids written it.new.out c.write.new.out)) c.unwrap.ensures
    (c.write.ensures.written ids (all_rise c.args.head.bytes.now c.args.head.are_bytes c.requires.sound) it.ensures))
