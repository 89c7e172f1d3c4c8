-- What an opened list says of its blocks, its values and its tail: its bytes have no fault.
-- Serves opened.
use Rattle.std.proofs.Common.{◌≡◌, ◌≢◌, ℕ, suc, ◌+◌, ◌-◌, ◌*◌, ◌/◌, ◌%◌, ◌^◌, ◌<◌, ◌≤◌, true, List, length, drop, get_or, Option, None, sym, ◌∙◌, ap, arith}
use Rattle.std.proofs.Math.Nat.{div-add-mod}
use Rattle.std.proofs.lemmas.Bool.{lt-ltb}
use Rattle.std.proofs.lemmas.List.{length-drop}
use Rattle.std.proofs.lemmas.Nat.{mul-le}
use Rattle.bitpacking.specs.Words.{word}
use Rattle.bitpacking.specs.declared.bit_packer.BitPacker.{Ghosts}
use Rattle.bitpack_lists.specs.declared.blocks.reads.PackedList.{PackedList}
use Rattle.bitpack_lists.specs.declared.list_kind.ListKind.TheVariants as lists
use Rattle.bitpack_lists.specs.Parts.{tail_values, whole_blocks}
use Rattle.bitpack_lists.specs.Search.{first_reaching, in_whole_block}
use Rattle.bitpack_lists.specs.inner.Searching.{block_of_list, blocks_of, rest_of, skip_key_of_list, value_of}
use Rattle.bitpack_lists.specs.Version2.{is_out, least_below, tail_start}
use Rattle.bitpack_lists.proofs.lemmas.blocks.PartValues.{value_in_parts-block, value_in_parts-tail}
use Rattle.bitpack_lists.proofs.lemmas.blocks.SearchLemmas.{before_block, first_further, first_within, in_order}
use Rattle.bitpack_lists.proofs.lemmas.blocks.WholeBlocks.{AreSound}
use Rattle.bitpack_lists.proofs.lemmas.opened.EncodingBlocks.{IsRead, read_of, sound_of, words_of_tail}

-- No list has the block of the number that stands for none.
pub few_blocks : (lanes count : ℕ) → 1 ≤ lanes → count ≤ 2 ^ 28 → whole_blocks lanes count ≤ 2 ^ 28
few_blocks lanes count some few =
    let b : ℕ = count / (32 * lanes) in
    let each : 1 * b ≤ 32 * lanes * b = mul-le 1 b (32 * lanes) b (omega arith) (omega arith) in
    omega (arith, each, div-add-mod count (32 * lanes))

-- ---- an opened list

module _ {P : Type 0} {members : Ghosts P} (list : PackedList P members) (some : 1 ≤ members.lanes) where
  abbrev lanes : ℕ
  lanes = members.lanes

  abbrev blocks : ℕ
  blocks = blocks_of list

  abbrev rest : List ℕ
  rest = rest_of list

  abbrev tail : ℕ → ℕ
  tail = word (drop (tail_start lanes blocks rest) rest)

  read : IsRead lanes list.count list.kind rest
  read = read_of lanes list.bytes.now list.kind list.count rest list.are_bytes list.states

  pub opened_ordered : least_below (is_out list.kind (value_of list)) list.count ≡ None
  opened_ordered = read.ordered

  pub opened_sound : AreSound lanes blocks list.kind rest
  opened_sound = sound_of lanes list.bytes.now list.kind list.count rest list.are_bytes list.states

  pub opened_room : 9 * blocks ≤ length rest
  opened_room = omega (arith, opened_sound.room)

  pub opened_at : (block k : ℕ) → block < blocks → k < 32 * lanes → value_of list (32 * lanes * block + k) ≡ get_or (block_of_list list block) k 0
  opened_at = value_in_parts-block lanes blocks (block_of_list list) tail some

  pub opened_block : (len p : ℕ) → len ≡ 32 * lanes → p / len < list.count / len → value_of list p ≡ get_or (block_of_list list (p / len)) (p % len) 0
  opened_block len p whole lt =
      let n : ℕ = 32 * lanes in
      let here : p ≡ n * (p / n) + p % n = sym (div-add-mod p n) in
      rw whole (ap (value_of list) here ∙ opened_at (p / n) (p % n) (rw whole at lt) (omega arith))

  -- The last value of a block is its skip key.
  pub opened_last : (block : ℕ) → block < blocks
      → value_of list (32 * lanes * block + (32 * lanes - 1)) ≡ skip_key_of_list list block
  opened_last block lt = opened_at block (32 * lanes - 1) lt (omega arith) ∙ read.ends block lt

  pub opened_length : (block : ℕ) → block < blocks → length (block_of_list list block) ≡ 32 * lanes
  opened_length = read.long

  -- Of a list that is not plain the values are in order.
  module _ (ordered : list.kind ≢ lists.Plain) (target block : ℕ)
      (ends : (before : ℕ) → suc before ≡ block → skip_key_of_list list before < target) where
    abbrev n : ℕ
    n = 32 * lanes

    abbrev value : ℕ → ℕ
    value = value_of list

    -- Those before a block are below the target where its last is.
    pub opened_before : block ≤ blocks → (k : ℕ) → k < n * block → value k < target
    opened_before le =
        before_block n block target list.count value (in_order list.kind value list.count ordered opened_ordered) (omega arith)
        (omega (arith, mul-le n block n blocks (omega arith) le, div-add-mod list.count n))
        (λ before e. rw (opened_last before (omega arith)) (ends before e))

    module _ (lt : block < blocks) (enough : target ≤ skip_key_of_list list block) where
      block_room : n * block + n ≤ n * blocks
      block_room = omega (arith, mul-le n (block + 1) n blocks (omega arith) (omega arith))

      blocks_room : n * blocks ≤ list.count
      blocks_room = omega (arith, div-add-mod list.count n)

      last_enough : target ≤ value (n * block + (n - 1))
      last_enough = rw (opened_last block lt) enough

      -- The first that reaches it is in the first block whose last value does.
      pub opened_first : first_reaching value (n * block + n) target ≡ first_reaching value list.count target
      opened_first =
          first_further value target (n * block + (n - 1)) (n * block + n) (omega arith) last_enough list.count (omega (arith, block_room, blocks_room))

      pub opened_inside : in_whole_block lanes list.count (first_reaching value list.count target) ≡ true
      opened_inside =
          let found = first_within value target (n * block + (n - 1)) (n * block + n) (omega arith) last_enough list.count (omega (arith, block_room, blocks_room)) in
          rw found.2 (lt-ltb found.0 (n * blocks) (omega (arith, found.1, block_room)))

      -- So a search in that block finds it.
      pub opened_search : (len : ℕ) (values : List ℕ) (result : Option (ℕ × ℕ)) → len ≡ n → values ≡ block_of_list list block
          → ((any : ℕ → ℕ) → ((k : ℕ) → k < len * block → any k < target) → ((k : ℕ) → k < length values → any (len * block + k) ≡ get_or values k 0)
          → result ≡ first_reaching any (len * block + length values) target)
          → result ≡ first_reaching value list.count target
      opened_search len values result whole is finds =
          let long : length values ≡ n = ap length is ∙ opened_length block lt in
          let found = finds value (rw whole (opened_before (omega (arith, lt))))
          (λ k within. rw (whole, is) (opened_at block k lt (omega (arith, within, long)))) in
          found ∙ rw (long, whole) opened_first

  opened_tail : (k : ℕ) → value_of list (32 * lanes * blocks + k) ≡ tail k
  opened_tail = value_in_parts-tail lanes blocks (block_of_list list) tail some

  pub tail_length : length list.tail.now ≡ 4 * tail_values lanes list.count
  tail_length =
      let start : ℕ = tail_start lanes blocks rest in
      ap length list.tail_is
      ∙ omega (arith, words_of_tail lanes list.bytes.now list.kind list.count rest list.are_bytes list.states, length-drop start rest)

  pub tail_word : (k : ℕ) → value_of list (32 * lanes * blocks + k) ≡ word list.tail.now k
  tail_word k = opened_tail k ∙ ap (λ zs. word zs k) (sym list.tail_is)
