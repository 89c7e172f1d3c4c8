-- The ids are a set.
use Rattle.std.proofs.Common.{◌≡◌, ◌∙◌, List, ap, arith, subst, sym, take, ℕ}
use Rattle.bitpack_queries.proofs.ForCallers.{fills_from}
use Rattle.bitpack_sets.specs.Sets.{IsSet}
use Rattle.bitpack_roaring.proofs.ChunkLaws.{ids_set}
use Rattle.bitpack_roaring.specs.Roaring.{ids_of}
use Rattle.bitpack_roaring.proofs.reading.write_unpacked.Goals as goal

pub write_ids-requires : goal.write_ids-requires
write_ids-requires c =
    let ids : List ℕ = ids_of c.args.head.bytes.now in
    let all : take c.args.count c.unpack.new.out ≡ ids = ap (λ (n : ℕ). take n c.unpack.new.out) c.requires.count ∙ c.unpack.ensures in
    record { set = subst IsSet (sym all) (ids_set c.args.head.bytes.now c.args.head.are_bytes c.requires.sound (let is = c.requires.count in omega (arith, c.requires.few))) }

pub returns : goal.returns
returns c =
    let all : take c.args.count c.unpack.new.out ≡ ids_of c.args.head.bytes.now = ap (λ (n : ℕ). take n c.unpack.new.out) c.requires.count ∙ c.unpack.ensures in
    fills_from _ _ _ _ _ _ all c.write_ids.ensures
