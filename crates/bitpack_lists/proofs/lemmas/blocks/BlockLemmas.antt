-- The blocks of values, one after the other: what is left of the values before each, and the kind of the next.
-- Serves blocks, laws, opened, v2.
use Rattle.std.proofs.Common.{◌≡◌, ℕ, zero, suc, ◌+◌, ◌*◌, ◌/◌, ◌^◌, ◌<◌, ◌≤◌, List, length, take, drop, get_or, refl, ◌∙◌, ap, arith, add-one}
use Rattle.std.proofs.lemmas.List.{drop-drop, length-take, length-drop, get_or-take, get_or-drop}
use Rattle.std.proofs.lemmas.List.Elements.{All-take, All-drop}
use Rattle.std.proofs.lemmas.Nat.{mul-le}
use Rattle.bitpacking.specs.declared.kind.Kind.{Kind}
use Rattle.bitpacking.specs.declared.kind.Kind.TheVariants as blocks
use Rattle.bitpacking.specs.Codes.{AreWords}
use Rattle.bitpack_lists.specs.declared.list_kind.ListKind.{ListKind}
use Rattle.bitpack_lists.specs.Chains.{next_kind}
use Rattle.bitpack_lists.specs.Parts.{first_kind, kind_after}
use Rattle.bitpack_lists.specs.Version2.{block_of, kind_at, last_at}

pub next_next : (kind : Kind) (one two : ℕ) → next_kind (next_kind kind one) two ≡ next_kind kind two
next_next blocks.Plain one two = refl
next_next (blocks.Sorted initial) one two = refl
next_next (blocks.StrictlySorted initial) one two = refl

-- The kind of the block after one.
pub kind_at-next : (kind : ListKind) (rest : List ℕ) (block : ℕ) (block_kind : Kind) (last : ℕ) → block_kind ≡ kind_at kind rest block → last ≡ last_at rest block
    → next_kind block_kind last ≡ kind_at kind rest (block + 1)
kind_at-next kind rest zero block_kind last e f = rw (e, f) refl
kind_at-next kind rest (suc block) block_kind last e f =
    rw (e, f, add-one) (next_next (first_kind kind) (last_at rest block) (last_at rest (suc block)))

-- The same by the kind of the first block.
pub kind_after-next : (kind : ListKind) (last : ℕ → ℕ) (block value : ℕ) → value ≡ last block → next_kind (first_kind kind) value ≡ kind_after kind last (block + 1)
kind_after-next kind last block value e = rw (e, add-one) refl

pub positive : (n blocks : ℕ) → 0 < n * blocks → 0 < blocks
positive n zero lt =
    let none : n * 0 ≡ 0 = omega arith in
    absurd (omega (arith, lt, none))
positive n (suc blocks) lt = omega arith

-- A whole block ends within the values.
pub block_end : (n i count : ℕ) → i < count / n → n * (i + 1) ≤ count
block_end n i count lt = omega (arith, mul-le n (i + 1) n (count / n) (omega arith) (omega arith))

pub few_blocks : (lanes i count : ℕ) → 1 ≤ lanes → i < count / (32 * lanes) → 32 * (i + 1) ≤ count
few_blocks lanes i count some lt = omega (arith, block_end (32 * lanes) i count lt, mul-le (32 * 1) (i + 1) (32 * lanes) (i + 1) (omega arith) (omega arith))

pub length-block_of : (lanes i : ℕ) (values : List ℕ) → 32 * lanes * (i + 1) ≤ length values → length (block_of lanes values i) ≡ 32 * lanes
length-block_of lanes i values room = omega (arith, length-take (32 * lanes) (drop (32 * lanes * i) values), length-drop (32 * lanes * i) values)

pub AreWords-block_of : (lanes i : ℕ) (values : List ℕ) → AreWords values → AreWords (block_of lanes values i)
AreWords-block_of lanes i values words =
    All-take (λ v. v < 2 ^ 32) (32 * lanes) (drop (32 * lanes * i) values) (All-drop (λ v. v < 2 ^ 32) (32 * lanes * i) values words)

pub get_or-block_of : (lanes i k : ℕ) (values : List ℕ) → k < 32 * lanes → get_or (block_of lanes values i) k 0 ≡ get_or values (32 * lanes * i + k) 0
get_or-block_of lanes i k values lt = get_or-take (32 * lanes) (drop (32 * lanes * i) values) k 0 lt ∙ get_or-drop (32 * lanes * i) values k 0

-- What is left of the values after a block.
pub values_after : (lanes i : ℕ) (values : List ℕ) → drop (32 * lanes) (drop (32 * lanes * i) values) ≡ drop (32 * lanes * (i + 1)) values
values_after lanes i values =
    let more : 32 * lanes * i + 32 * lanes ≡ 32 * lanes * (i + 1) = omega arith in
    drop-drop (32 * lanes) (32 * lanes * i) values ∙ ap (λ k. drop k values) more

-- The next of the values that are left.
module _ (lanes len i : ℕ) (values left : List ℕ) (some : 1 ≤ lanes) (whole : len ≡ 32 * lanes) (is : left ≡ drop (32 * lanes * i) values)
    (lt : i < length values / len) where
  pub next_end : 32 * lanes * (i + 1) ≤ length values
  next_end = block_end (32 * lanes) i (length values) (rw whole at lt)

  pub next_block : take len left ≡ block_of lanes values i
  next_block = rw (whole, is) refl

  pub next_left : drop len left ≡ drop (32 * lanes * (i + 1)) values
  next_left = rw (whole, is) (values_after lanes i values)
