-- Holds pairs blocks and bytes one to one, and equal calls leave equal buffers.
use Rattle.std.proofs.Common.{◌≡◌, ℕ, ◌*◌, ◌^◌, ◌<◌, List, ◌++◌, take, drop, sym, ◌∙◌, ap}
use Rattle.std.proofs.lemmas.List.{take-append-drop}
use Rattle.std.proofs.lemmas.List.Elements.{All-take}
use Rattle.bitpacking.specs.Layout.{size}
use Rattle.bitpacking.specs.Codes.{codes}
use Rattle.bitpacking.specs.Laws.{BytesHoldOneBlock, BlockHasOneList, BlocksShareNoBytes, EqualPackedBuffers, EqualUnpackedValues}
use Rattle.bitpacking.proofs.OneToOne.{same_bytes-from_layout, same_codes-from_layout}
use Rattle.bitpacking.proofs.Blocks.{same_block}
use Rattle.bitpacking.proofs.FrontWords.{AreBytes-take}

pub bytes_hold_one_block : BytesHoldOneBlock
bytes_hold_one_block lanes width kind block other bytes words words' holds holds' =
    same_block kind other block words' words
    (same_codes-from_layout lanes width (codes kind other) (codes kind block) bytes holds' holds)

pub block_has_one_list : BlockHasOneList
block_has_one_list lanes width kind block bytes others some small small' holds holds' =
    same_bytes-from_layout lanes width (codes kind block) others bytes some small' small holds' holds

pub blocks_share_no_bytes : BlocksShareNoBytes
blocks_share_no_bytes lanes width kind block other bytes others words words' apart holds holds' same =
    apart (bytes_hold_one_block lanes width kind other block others words' words holds' (rw same at holds))

same_list : (n : ℕ) (xs ys : List ℕ) → take n xs ≡ take n ys → drop n xs ≡ drop n ys → xs ≡ ys
same_list n xs ys front back =
    sym (take-append-drop n xs) ∙ ap (λ zs. zs ++ drop n xs) front ∙ ap (λ zs. take n ys ++ zs) back ∙ take-append-drop n ys

pub equal_packed_buffers : EqualPackedBuffers
equal_packed_buffers lanes width kind block old new other some small small' one two =
    same_list (size lanes width) other new
    (block_has_one_list lanes width kind block (take (size lanes width) new) (take (size lanes width) other) some
    (AreBytes-take new (size lanes width) small) (AreBytes-take other (size lanes width) small') one.bytes two.bytes)
    (two.rest ∙ sym one.rest)

pub equal_unpacked_values : EqualUnpackedValues
equal_unpacked_values lanes width kind bytes old new other words words' one two =
    same_list (32 * lanes) other new
    (bytes_hold_one_block lanes width kind (take (32 * lanes) new) (take (32 * lanes) other) (take (size lanes width) bytes)
    (All-take (λ v. v < 2 ^ 32) (32 * lanes) new words) (All-take (λ v. v < 2 ^ 32) (32 * lanes) other words') one.block two.block)
    (two.rest ∙ sym one.rest)
