-- A walk over an opened list: its values are words in order, a block at a time and then the tail.
-- Serves opened.
use Rattle.std.proofs.Common.{◌≡◌, ◌≢◌, ℕ, ◌+◌, ◌-◌, ◌*◌, ◌^◌, ◌<◌, ◌≤◌, List, length, get_or, sym, ◌∙◌, ap, arith}
use Rattle.std.proofs.Math.Nat.{div-add-mod}
use Rattle.std.proofs.lemmas.Nat.{mul-le}
use Rattle.bitpacking.specs.declared.bit_packer.BitPacker.{Ghosts}
use Rattle.bitpack_lists.specs.declared.blocks.reads.PackedList.{PackedList}
use Rattle.bitpack_lists.specs.declared.list_kind.ListKind.TheVariants as lists
use Rattle.bitpack_lists.specs.Parts.{tail_values}
use Rattle.bitpack_lists.specs.inner.Searching.{block_of_list, blocks_of, skip_key_of_list, value_of}
use Rattle.bitpack_lists.specs.inner.Walks.{AreNext, Started, values_in}
use Rattle.bitpack_lists.proofs.lemmas.opened.Positions.{get_or-first_of}
use Rattle.bitpack_lists.proofs.lemmas.opened.OpenedLists.{opened_at, opened_last, opened_length, opened_ordered}
use Rattle.bitpack_lists.proofs.lemmas.opened.OpenedValues.{length-values, opened_list2}
use Rattle.bitpack_lists.proofs.lemmas.blocks.SearchLemmas.{in_order}
use Rattle.bitpack_lists.proofs.lemmas.opened.Sharing.{InOrder}
use Rattle.bitpack_lists.proofs.lemmas.opened.Walking.{stage_of}

pub few_in_tail : (lanes count : ℕ) → 1 ≤ lanes → lanes ≤ 8 → tail_values lanes count ≤ 256
few_in_tail lanes count some few =
    let whole : 0 < 32 * lanes = omega arith in
    omega (arith, whole)

module _ {P : Type 0} {members : Ghosts P} (list : PackedList P members) (some : 1 ≤ members.lanes) (ordered : list.kind ≢ lists.Plain) where
  abbrev blocks : ℕ
  blocks = blocks_of list

  abbrev n : ℕ
  n = 32 * members.lanes

  opened_order : InOrder (values_in list)
  opened_order = in_order list.kind (value_of list) list.count ordered (opened_ordered list some)

  pub opened_words : (k : ℕ) → k < list.count → value_of list k < 2 ^ 32
  opened_words k lt = rw (← get_or-first_of (value_of list) list.count k lt) ((opened_list2 list some).words k 0 (omega (arith, length-values list)))

  pub block_room : (block : ℕ) → block < blocks → n * block + n ≤ list.count
  block_room block lt = omega (arith, mul-le n (block + 1) n blocks (omega arith) (omega arith), div-add-mod list.count n)

  pub next_block : (started : Started) (block unpacked due : ℕ) (values : List ℕ) → block < blocks → values ≡ block_of_list list block
      → (length values ≡ n) × AreNext (stage_of (values_in list) started (n * block) unpacked due) values
  next_block started block unpacked due values lt is =
      let long : length values ≡ n = ap length is ∙ opened_length list some block lt in (
        long,
        record {
          within = omega (arith, long, block_room block lt);
          are = λ k within. rw is (opened_at list some block k lt (omega (arith, within, long)));
          words = opened_words;
          ordered = opened_order;
        },
      )

  -- A block that is passed over has values below its last.
  pub block_below : (block want last : ℕ) → block < blocks → last ≡ skip_key_of_list list block → last < want → (k : ℕ) → k < n * (block + 1)
      → value_of list k < want
  block_below block want last lt is below k within =
      let room = block_room block lt in
      let le = opened_order k (n * block + (n - 1)) (omega arith) (omega arith) in
      omega (arith, le, opened_last list some block lt, is, below)

  pub next_tail : (started : Started) (unpacked due : ℕ) (values : List ℕ) → length values ≡ tail_values members.lanes list.count
      → ((k : ℕ) → k < length values → get_or values k 0 ≡ value_of list (n * blocks + k)) → AreNext (stage_of (values_in list) started (n * blocks) unpacked due) values
  next_tail started unpacked due values long each = record {
    within = omega (arith, long, div-add-mod list.count n);
    are = λ k lt. sym (each k lt);
    words = opened_words;
    ordered = opened_order;
  }
