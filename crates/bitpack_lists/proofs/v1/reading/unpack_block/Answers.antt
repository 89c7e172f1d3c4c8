-- The values unpacked are the block of which the bytes are the part.
use Rattle.std.proofs.Common.{◌≡◌, ◌+◌, ◌-◌, ◌*◌, ◌++◌, ℕ, List, length, take, drop, get_or, refl, sym, ◌∙◌, ap, arith}
use Rattle.std.proofs.lemmas.List.{take_all, length-drop}
use Rattle.bitpacking.specs.Layout.{size}
use Rattle.bitpack_lists.specs.Version1.{after_block1}
use Rattle.bitpack_lists.proofs.lemmas.blocks.FaultLemmas.{IsRight}
use Rattle.bitpack_lists.proofs.lemmas.blocks.ReadSteps.{right_part, IsPart1-right, right_parts, after_block-is}
use Rattle.bitpack_lists.proofs.v1.reading.unpack_block.Goals as goal

pub returns : goal.returns
returns g c =
    let lanes : ℕ = g.P.BitPacker.lanes in
    let bytes : List ℕ = c.args.bytes.now in
    let n : ℕ = size lanes (get_or bytes 0 0) in
    let taken : ℕ = c.decompress_kind-size.result in
    let block : List ℕ = c.decompress_kind-size.new.decompressed in
    let given : take n (take (length bytes - 1) (drop 1 bytes)) ≡ take n (drop 1 bytes) =
    ap (take n) (take_all (length bytes - 1) (drop 1 bytes) (omega (arith, length-drop 1 bytes))) in
    let long : length block ≡ 32 * lanes = c.decompress_kind-size.auto.decompressed ∙ c.requires.whole ∙ g.met.P.BitPacker.block_len in
    let whole : take (32 * lanes) block ≡ block = take_all (32 * lanes) block (omega arith) in
    let holds = rw (given, whole) at c.decompress_kind-size.ensures.unpacked.block in
    let is : IsRight lanes bytes = c.requires.right in
    let part : List ℕ = right_part lanes c.args.kind block bytes is holds in
    let later : take (length bytes - (1 + taken)) (drop (1 + taken) bytes) ≡ after_block1 lanes bytes =
    after_block-is lanes taken bytes is.some c.decompress_kind-size.ensures.size in
    record {
      block = (
        part,
        c.last_value.ensures.words,
        IsPart1-right lanes c.args.kind block bytes is holds,
        right_parts lanes c.args.kind block bytes is holds ∙ ap (λ zs. part ++ zs) (sym later),
        c.next_kind.ensures ∙ rw (c.last_value.ensures.last, long) refl,
      );
    }
