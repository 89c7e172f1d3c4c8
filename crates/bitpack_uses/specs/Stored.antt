-- Why stored blocks are refused.
use Rattle.std.specs.Prelude.{ℕ, ◌*◌, ◌<◌, List, Contains, length, sum}
use Rattle.bitpack_uses.specs.declared.stored_blocks.StoredError.{StoredError}
use Rattle.bitpack_uses.specs.declared.stored_blocks.StoredError.TheVariants.{WideWidth, MissingBytes, MissingRoom}

-- a width is above 32, or the blocks have more bytes or more values than there are
abbrev pub IsRefused : ℕ → List ℕ → List ℕ → List ℕ → StoredError → Type 0
IsRefused lanes widths bytes values (WideWidth width) = Contains widths width × (32 < width)
IsRefused lanes widths bytes values MissingBytes = length bytes < 4 * lanes * sum widths
IsRefused lanes widths bytes values MissingRoom = length values < 32 * lanes * length widths
