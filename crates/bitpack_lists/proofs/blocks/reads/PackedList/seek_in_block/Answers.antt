-- The first value that reaches the target is in the first block whose last value does.
use Rattle.std.proofs.Common.{◌≡◌, ◌*◌, ℕ, List, take, ◌∙◌, ap, arith}
use Rattle.std.proofs.lemmas.List.{length-take}
use Rattle.bitpack_lists.specs.inner.Searching.{block_of_list}
use Rattle.bitpack_lists.proofs.lemmas.opened.ReadParts.{in_order_from_kind, part_order, part_unpacked}
use Rattle.bitpack_lists.proofs.lemmas.opened.OpenedLists.{opened_inside, opened_search}
use Rattle.bitpack_lists.proofs.blocks.reads.PackedList.seek_in_block.Goals as goal

-- What is cached is the block of the number.
cached_values : (len n number at : ℕ) (block : ℕ → List ℕ) (cached : List ℕ) → len ≡ n → at ≡ number → take n cached ≡ block at → take len cached ≡ block number
cached_values len n number at block cached whole same is = ap (λ m. take m cached) whole ∙ is ∙ ap block same

pub first_in_block-requires-clause-order : goal.first_in_block-requires-clause-order
first_in_block-requires-clause-order g c =
    let self = c.args.self.now in
    let some = g.met.P.BitPacker.some_lanes in
    let whole : c.BLOCK_LEN-len.result ≡ 32 * g.P.BitPacker.lanes = c.BLOCK_LEN-len.ensures ∙ g.met.P.BitPacker.block_len in
    let caches = c.cache_block.ensures.cached in
    let values : take c.BLOCK_LEN-len.result c.cache_block.new.cached.values ≡ block_of_list self c.args.block.number =
    cached_values c.BLOCK_LEN-len.result (32 * g.P.BitPacker.lanes) c.args.block.number c.cache_block.new.cached.number (block_of_list self)
    c.cache_block.new.cached.values whole caches.number (caches.cached (rw caches.number c.requires.block.is.within)) in
    let part = part_unpacked self some c.args.block.number c.BLOCK_LEN-len.result c.cache_block.new.cached.values c.requires.block.is.within whole values in (
      omega (arith, length-take c.BLOCK_LEN-len.result c.cache_block.new.cached.values, whole, g.met.P.BitPacker.few_lanes),
      part_order self some c.args.block.number c.BLOCK_LEN-len.result c.cache_block.new.cached.values part (in_order_from_kind self some c.requires.ordered),
    )

pub returns-clause-found : goal.returns-clause-found
returns-clause-found g c =
    let whole : c.BLOCK_LEN-len.result ≡ 32 * g.P.BitPacker.lanes = c.BLOCK_LEN-len.ensures ∙ g.met.P.BitPacker.block_len in
    let block = c.requires.block in
    let self = c.args.self.now in
    let caches = c.cache_block.ensures.cached in
    let values : take c.BLOCK_LEN-len.result c.cache_block.new.cached.values ≡ block_of_list self c.args.block.number =
    cached_values c.BLOCK_LEN-len.result (32 * g.P.BitPacker.lanes) c.args.block.number c.cache_block.new.cached.number (block_of_list self)
    c.cache_block.new.cached.values whole caches.number (caches.cached (rw caches.number c.requires.block.is.within)) in
    opened_search self g.met.P.BitPacker.some_lanes c.requires.ordered c.args.target c.args.block.number block.before block.is.within block.enough
    c.BLOCK_LEN-len.result (take c.BLOCK_LEN-len.result c.cache_block.new.cached.values) c.first_in_block.result whole values c.first_in_block.ensures.found

pub returns-clause-inside : goal.returns-clause-inside
returns-clause-inside g c =
    let block = c.requires.block in
    rw (returns-clause-found g c)
    (opened_inside c.args.self.now g.met.P.BitPacker.some_lanes c.requires.ordered c.args.target c.args.block.number block.before block.is.within block.enough)
