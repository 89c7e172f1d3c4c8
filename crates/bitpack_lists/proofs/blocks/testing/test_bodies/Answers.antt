-- Each block is the one of its body: the first with a fault is found, and the first value out of order.
use Rattle.std.proofs.Common.{◌≡◌, ◌+◌, ◌-◌, ◌*◌, ◌/◌, ◌^◌, ◌<◌, ◌≤◌, ℕ, zero, suc, List, length, take, drop, get_or, Bool, Option, Some, None, refl, sym, ◌∙◌, ap, arith, rules}
use Rattle.std.specs.Option.{option_or}
use Rattle.std.proofs.lemmas.Result.{err_from_is_err_and}
use Rattle.bitpacking.specs.declared.kind.Kind.{Kind}
use Rattle.bitpacking.specs.Bits.{AreBytes}
use Rattle.bitpacking.specs.Codes.{start, values_of}
use Rattle.bitpacking.specs.Layout.{Layout, codes_of, size}
use Rattle.bitpacking.specs.Width.{Fits}
use Rattle.bitpacking.proofs.ForCallers.{AreBytes-from_slice, one_layout_codes}
use Rattle.bitpack_lists.specs.declared.list_error.ListError.{ListError}
use Rattle.bitpack_lists.specs.declared.list_kind.ListKind.{ListKind}
use Rattle.bitpack_lists.specs.Chains.{next_kind}
use Rattle.bitpack_lists.specs.Parts.{first_kind, whole_blocks}
use Rattle.bitpack_lists.specs.inner.Opening.{IsOrdered, IsRising}
use Rattle.bitpack_lists.specs.Version2.{block_at, block_fault2, body_at, body_fault2, entry_fault2, first_fault, is_out, kind_at, last_at, least_below, offset_at, tail_start, value_with, width_at}
use Rattle.bitpack_lists.proofs.lemmas.blocks.BlockLemmas.{kind_at-next, positive}
use Rattle.bitpack_lists.proofs.lemmas.blocks.Orders.{least_below-or}
use Rattle.bitpack_lists.proofs.lemmas.blocks.RestFaults.{body_right, first_fault-found, first_fault-next}
use Rattle.bitpack_lists.proofs.lemmas.blocks.RestValues.{body_room, length-block_at, length-body_at, narrow_entry, start-kind_at, value_with-block, value_with-last}
use Rattle.bitpack_lists.proofs.lemmas.blocks.SumsOfCodes.{ordered_block}
use Rattle.bitpack_lists.proofs.blocks.testing.test_bodies.Goals as goal
use Rattle.bitpack_lists.proofs.blocks.testing.test_bodies.Goals.{else-not-ends_in_order, then-not-ends_in_order}

pub loop-block-init : goal.loop-block-init
unfolding first_fault least_below
loop-block-init g c =
    let none : 32 * g.P.BitPacker.lanes * 0 ≡ 0 = omega arith in
    record { kind = c.first-kind.ensures; right = refl; ends = λ before e. absurd (omega (arith, e)); last = λ later lt. absurd (omega arith); out = λ later. rw none refl }

pub unpack_body-requires-clause-width : goal.unpack_body-requires-clause-width
unpack_body-requires-clause-width g c =
    let whole : c.BLOCK_LEN-len.result ≡ 32 * g.P.BitPacker.lanes = c.BLOCK_LEN-len.ensures ∙ g.met.P.BitPacker.block_len in
    rw c.read_entry-entry.ensures.entry.width (narrow_entry g.P.BitPacker.lanes (whole_blocks g.P.BitPacker.lanes c.args.header.count) c.args.rest.now c.requires.entries
    c.loop-block.block (rw whole at c.loop-block-test.true))

pub unpack_body-requires-clause-body : goal.unpack_body-requires-clause-body
unpack_body-requires-clause-body g c =
    let whole : c.BLOCK_LEN-len.result ≡ 32 * g.P.BitPacker.lanes = c.BLOCK_LEN-len.ensures ∙ g.met.P.BitPacker.block_len in
    rw (c.read_entry-entry.ensures.entry.offset, c.read_entry-entry.ensures.entry.width, whole)
    (body_room g.P.BitPacker.lanes (whole_blocks g.P.BitPacker.lanes c.args.header.count) c.args.rest.now c.requires.entries
    c.loop-block.block (rw whole at c.loop-block-test.true) c.requires.room)

pub unpack_body-requires-then-not-ends_in_order-clause-width : goal.unpack_body-requires-then-not-ends_in_order-clause-width
unpack_body-requires-then-not-ends_in_order-clause-width g c =
    let whole : c.BLOCK_LEN-len.result ≡ 32 * g.P.BitPacker.lanes = c.BLOCK_LEN-len.ensures ∙ g.met.P.BitPacker.block_len in
    rw c.read_entry-entry.ensures.entry.width (narrow_entry g.P.BitPacker.lanes (whole_blocks g.P.BitPacker.lanes c.args.header.count) c.args.rest.now c.requires.entries
    c.loop-block.block (rw whole at c.loop-block-test.true))

pub unpack_body-requires-then-not-ends_in_order-clause-body : goal.unpack_body-requires-then-not-ends_in_order-clause-body
unpack_body-requires-then-not-ends_in_order-clause-body g c =
    let whole : c.BLOCK_LEN-len.result ≡ 32 * g.P.BitPacker.lanes = c.BLOCK_LEN-len.ensures ∙ g.met.P.BitPacker.block_len in
    rw (c.read_entry-entry.ensures.entry.offset, c.read_entry-entry.ensures.entry.width, whole)
    (body_room g.P.BitPacker.lanes (whole_blocks g.P.BitPacker.lanes c.args.header.count) c.args.rest.now c.requires.entries
    c.loop-block.block (rw whole at c.loop-block-test.true) c.requires.room)

pub unpack_body-requires-then-not-ends_in_order-clause-room : goal.unpack_body-requires-then-not-ends_in_order-clause-room
unpack_body-requires-then-not-ends_in_order-clause-room g c =
    record {
      start = rw c.loop-block.invariant.kind (start-kind_at c.args.header.kind c.args.rest.now c.loop-block.block (AreBytes-from_slice c.args.rest.now c.type_inv.rest));
      room = search rules;
    }

pub test_block-requires : goal.test_block-requires
test_block-requires g c =
    let whole : c.BLOCK_LEN-len.result ≡ 32 * g.P.BitPacker.lanes = c.BLOCK_LEN-len.ensures ∙ g.met.P.BitPacker.block_len in
    let width = narrow_entry g.P.BitPacker.lanes (whole_blocks g.P.BitPacker.lanes c.args.header.count) c.args.rest.now c.requires.entries
    c.loop-block.block (rw whole at c.loop-block-test.true) in
    (rw c.read_entry-entry.ensures.entry.width width, search rules, search rules)

pub ends_in_order-requires : goal.ends_in_order-requires
ends_in_order-requires g c =
    let whole : c.BLOCK_LEN-len.result ≡ 32 * g.P.BitPacker.lanes = c.BLOCK_LEN-len.ensures ∙ g.met.P.BitPacker.block_len in
    let width = narrow_entry g.P.BitPacker.lanes (whole_blocks g.P.BitPacker.lanes c.args.header.count) c.args.rest.now c.requires.entries
    c.loop-block.block (rw whole at c.loop-block-test.true) in
    (rw c.read_entry-entry.ensures.entry.width width, omega (arith, whole, g.met.P.BitPacker.some_lanes), omega (arith, whole, g.met.P.BitPacker.few_lanes))

-- The block with this number, whose entry was read, and what was unpacked of it.
module _ (lanes len full blocks width offset last block : ℕ) (kind : ListKind) (block_kind : Kind) (rest room : List ℕ) (whole : len ≡ 32 * lanes)
    (full_is : full ≡ 32 * lanes) (kind_is : block_kind ≡ kind_at kind rest block) (width_is : width ≡ width_at rest block)
    (offset_is : offset ≡ offset_at rest block) (last_is : last ≡ last_at rest block) (entries : first_fault (entry_fault2 rest) blocks ≡ None)
    (within : block < blocks) (ended : tail_start lanes blocks rest ≤ length rest) where
  layout : Layout lanes (width_at rest block) (codes_of lanes (width_at rest block) (body_at lanes blocks rest block)) (body_at lanes blocks rest block)
  layout = (one_layout_codes lanes (width_at rest block) (body_at lanes blocks rest block) (length-body_at lanes blocks rest entries block within ended)).0

  unpacked_is : take full room ≡ values_of block_kind (codes_of lanes width (take (size lanes width) (drop (9 * blocks + 4 * lanes * offset) rest)))
      → take len room ≡ block_at lanes blocks kind rest block
  unpacked_is e = ap (λ n. take n room) (whole ∙ sym full_is) ∙ e ∙ rw (kind_is, width_is, offset_is) refl

  codes_are : take full room ≡ codes_of lanes width (take (size lanes width) (drop (9 * blocks + 4 * lanes * offset) rest))
      → take len room ≡ codes_of lanes (width_at rest block) (body_at lanes blocks rest block)
  codes_are e = ap (λ n. take n room) (whole ∙ sym full_is) ∙ e ∙ rw (width_is, offset_is) refl

  -- What the test of a block finds is the fault of its body.
  finds : (A : Option ListError → Type 0) (codes : List ℕ) → codes ≡ codes_of lanes (width_at rest block) (body_at lanes blocks rest block)
      → ((lanes' : ℕ) (body : List ℕ) → length codes ≡ 32 * lanes' → codes ≡ codes_of lanes' width body
      → A (block_fault2 lanes' block_kind block width last body))
      → A (body_fault2 lanes blocks kind rest block)
  finds A codes are found =
      let long : length codes ≡ 32 * lanes = ap length are ∙ layout.code_count in
      rw (kind_is, width_is, last_is) at (found lanes (body_at lanes blocks rest block) long (rw width_is are))

  -- A block whose last value shows that it is in order is.
  rising_is : ((codes : List ℕ) → length codes ≡ len → Fits codes width → start block_kind < 2 ^ 32
      → get_or (values_of block_kind codes) (len - 1) 0 ≡ last → IsRising block_kind (values_of block_kind codes)) → AreBytes rest
      → get_or (block_at lanes blocks kind rest block) (32 * lanes - 1) 0 ≡ last_at rest block → IsRising block_kind (block_at lanes blocks kind rest block)
  rising_is shows small ends =
      let codes : List ℕ = codes_of lanes (width_at rest block) (body_at lanes blocks rest block) in
      let same : values_of block_kind codes ≡ block_at lanes blocks kind rest block = ap (λ k. values_of k codes) kind_is in
      let end : get_or (values_of block_kind codes) (len - 1) 0 ≡ last = ap (λ xs. get_or xs (len - 1) 0) same ∙ rw whole ends ∙ sym last_is in
      rw same at (shows codes (layout.code_count ∙ sym whole) (rw width_is layout.fits) (rw kind_is (start-kind_at kind rest block small)) end)

-- What the test of order finds up to the end of the block.
out_is : (lanes len blocks block last : ℕ) (kind : ListKind) (rest values : List ℕ) (found : Option ℕ) (later : ℕ → ℕ) → 1 ≤ lanes → len ≡ 32 * lanes → block < blocks
    → values ≡ block_at lanes blocks kind rest block → length (block_at lanes blocks kind rest block) ≡ 32 * lanes
    → (0 < block → value_with lanes blocks kind rest later (32 * lanes * block - 1) ≡ last)
    → ((all : ℕ → ℕ) → IsOrdered kind all (block * len) last → ((k : ℕ) → k < length values → all (block * len + k) ≡ get_or values k 0)
    → found ≡ least_below (is_out kind all) (block * len + length values))
    → least_below (is_out kind (value_with lanes blocks kind rest later)) (32 * lanes * block) ≡ None
    → found ≡ least_below (is_out kind (value_with lanes blocks kind rest later)) (32 * lanes * (block + 1))
out_is lanes len blocks block last kind rest values found later some whole lt is long before finds none =
    let n : ℕ = 32 * lanes in
    let all : ℕ → ℕ = value_with lanes blocks kind rest later in
    let size_of : length values ≡ n = ap length is ∙ long in
    let from : block * len ≡ n * block = rw whole (omega arith) in
    let end : block * len + length values ≡ n * (block + 1) = omega (arith, from, size_of) in
    let ordered : IsOrdered kind all (block * len) last =
    rw from (record { so_far = none; last = λ some_before. before (positive n block some_before) }) in
    finds all ordered (λ k within.
    ap (λ p. all (p + k)) from ∙ value_with-block lanes blocks kind rest later some block k lt (omega (arith, within, size_of)) ∙ ap (λ xs. get_or xs k 0) (sym is))
    ∙ ap (least_below (is_out kind all)) end

-- The kind of a block goes on from the last value before it.
kind_first : (n block : ℕ) (kind : ListKind) (block_kind : Kind) (rest : List ℕ) → 1 ≤ n → block_kind ≡ kind_at kind rest block → n * block ≡ 0
    → block_kind ≡ first_kind kind
kind_first n zero kind block_kind rest some is none = is
kind_first n (suc before) kind block_kind rest some is none =
    let total : n * suc before ≡ n * before + n = omega arith in
    absurd (omega arith)

kind_next : (n block last : ℕ) (kind : ListKind) (block_kind : Kind) (rest : List ℕ) → block_kind ≡ kind_at kind rest block
    → ((before : ℕ) → block ≡ suc before → last ≡ last_at rest before) → 0 < n * block → block_kind ≡ next_kind (first_kind kind) last
kind_next n zero last kind block_kind rest is ends some =
    let none : n * 0 ≡ 0 = omega arith in
    absurd (omega arith)
kind_next n (suc before) last kind block_kind rest is ends some = is ∙ ap (next_kind (first_kind kind)) (sym (ends before refl))

-- If it is in order, nothing more is found up to its end.
none_more : (lanes blocks block last : ℕ) (kind : ListKind) (block_kind : Kind) (rest : List ℕ) (later : ℕ → ℕ) → 1 ≤ lanes → block < blocks
    → block_kind ≡ kind_at kind rest block → ((before : ℕ) → block ≡ suc before → last ≡ last_at rest before)
    → length (block_at lanes blocks kind rest block) ≡ 32 * lanes → IsRising block_kind (block_at lanes blocks kind rest block)
    → (0 < block → value_with lanes blocks kind rest later (32 * lanes * block - 1) ≡ last)
    → least_below (is_out kind (value_with lanes blocks kind rest later)) (32 * lanes * block) ≡ None
    → None ≡ least_below (is_out kind (value_with lanes blocks kind rest later)) (32 * lanes * (block + 1))
none_more lanes blocks block last kind block_kind rest later some lt kind_is ends long rising before none =
    let n : ℕ = 32 * lanes in
    let all : ℕ → ℕ = value_with lanes blocks kind rest later in
    let end : n * block + length (block_at lanes blocks kind rest block) ≡ n * (block + 1) = omega (arith, long) in
    let ordered : IsOrdered kind all (n * block) last =
    record { so_far = none; last = λ some_before. before (positive n block some_before) } in
    sym (ap (least_below (is_out kind all)) (sym end)
    ∙ ordered_block kind block_kind all (n * block) last (block_at lanes blocks kind rest block)
    (record { first = kind_first n block kind block_kind rest (omega arith) kind_is; next = kind_next n block last kind block_kind rest kind_is ends })
    rising ordered
    (λ k within. value_with-block lanes blocks kind rest later some block k lt (omega (arith, within, long))))

option_or-none : (found : Option ℕ) → option_or found None ≡ found
option_or-none None = refl
option_or-none (Some position) = refl

pub returns-in_err-test_block-clause-fault : goal.returns-in_err-test_block-clause-fault
returns-in_err-test_block-clause-fault g c =
    let lanes : ℕ = g.P.BitPacker.lanes in
    let rest : List ℕ = c.args.rest.now in
    let kind : ListKind = c.args.header.kind in
    let block : ℕ = c.loop-block.block in
    let blocks : ℕ = whole_blocks lanes c.args.header.count in
    let before = c.loop-block.invariant in
    let entry = c.read_entry-entry.result in
    let read = c.read_entry-entry.ensures.entry in
    let whole : c.BLOCK_LEN-len.result ≡ 32 * lanes = c.BLOCK_LEN-len.ensures ∙ g.met.P.BitPacker.block_len in
    let lt : block < blocks = rw whole at c.loop-block-test.true in
    let are = codes_are lanes c.BLOCK_LEN-len.result g.P.BitPacker.BLOCK_LEN blocks entry.width entry.offset entry.last block kind
    c.loop-block.kind rest c.unpack_body.new.values whole g.met.P.BitPacker.block_len before.kind read.width read.offset read.last c.requires.entries lt c.requires.room
    (rw whole at c.unpack_body.ensures.block) in
    let found = finds lanes c.BLOCK_LEN-len.result g.P.BitPacker.BLOCK_LEN blocks entry.width entry.offset entry.last block kind
    c.loop-block.kind rest c.unpack_body.new.values whole g.met.P.BitPacker.block_len before.kind read.width read.offset read.last c.requires.entries lt c.requires.room
    (λ fault. fault ≡ Some c.in_err-test_block.field-0.0) (take c.BLOCK_LEN-len.result c.unpack_body.new.values) are c.in_err-test_block.ensures in
    let p = err_from_is_err_and c.from_residual.result c.from_residual.ensures.1 in
    rw (p.1, p.2)
    (first_fault-found (body_fault2 lanes blocks kind rest) block blocks c.in_err-test_block.field-0.0 lt before.right found)

pub loop-block-preserved : goal.loop-block-preserved
loop-block-preserved g c =
    let lanes : ℕ = g.P.BitPacker.lanes in
    let some = g.met.P.BitPacker.some_lanes in
    let rest : List ℕ = c.args.rest.now in
    let small : AreBytes rest = AreBytes-from_slice rest c.type_inv.rest in
    let kind : ListKind = c.args.header.kind in
    let block : ℕ = c.loop-block.block in
    let blocks : ℕ = whole_blocks lanes c.args.header.count in
    let before = c.loop-block.invariant in
    let entry = c.read_entry-entry.result in
    let read = c.read_entry-entry.ensures.entry in
    let whole : c.BLOCK_LEN-len.result ≡ 32 * lanes = c.BLOCK_LEN-len.ensures ∙ g.met.P.BitPacker.block_len in
    let lt : block < blocks = rw whole at c.loop-block-test.true in
    let are = codes_are lanes c.BLOCK_LEN-len.result g.P.BitPacker.BLOCK_LEN blocks entry.width entry.offset entry.last block kind
    c.loop-block.kind rest c.unpack_body.new.values whole g.met.P.BitPacker.block_len before.kind read.width read.offset read.last c.requires.entries lt c.requires.room
    (rw whole at c.unpack_body.ensures.block) in
    let none : body_fault2 lanes blocks kind rest block ≡ None =
    finds lanes c.BLOCK_LEN-len.result g.P.BitPacker.BLOCK_LEN blocks entry.width entry.offset entry.last block kind
    c.loop-block.kind rest c.unpack_body.new.values whole g.met.P.BitPacker.block_len before.kind read.width read.offset read.last c.requires.entries lt c.requires.room
    (λ fault. fault ≡ None) (take c.BLOCK_LEN-len.result c.unpack_body.new.values) are c.in_ok-test_block.ensures in
    let right = body_right lanes (kind_at kind rest block) block (width_at rest block) (last_at rest block) (body_at lanes blocks rest block) none in
    let size_of = length-block_at lanes blocks rest c.requires.entries block lt kind c.requires.room small in
    let upto : 32 * lanes * block ≤ 32 * lanes * (block + 1) = omega arith in
    let more : (later : ℕ → ℕ) → c.if-not-ends_in_order.out ≡ least_below (is_out kind (value_with lanes blocks kind rest later)) (32 * lanes * (block + 1)) =
    λ later. elim c.if-not-ends_in_order.branch [
      | then-not-ends_in_order w ↦
          let unpacked = unpacked_is lanes c.BLOCK_LEN-len.result g.P.BitPacker.BLOCK_LEN blocks entry.width entry.offset entry.last block kind
          c.loop-block.kind rest w.unpack_body-then-not-ends_in_order.new.values whole g.met.P.BitPacker.block_len before.kind read.width read.offset read.last
          c.requires.entries lt c.requires.room (rw whole at w.unpack_body-then-not-ends_in_order.ensures.block) in
          w.out-is ∙ w.or-out.ensures
          ∙ least_below-or (is_out kind (value_with lanes blocks kind rest later)) (32 * lanes * block) (32 * lanes * (block + 1)) c.loop-block.out w.first_out.result upto
          (before.out later) (out_is lanes c.BLOCK_LEN-len.result blocks block c.loop-block.last kind rest (take c.BLOCK_LEN-len.result w.unpack_body-then-not-ends_in_order.new.values)
          w.first_out.result later some whole lt unpacked size_of (before.last later) w.first_out.ensures)
      | else-not-ends_in_order w ↦
          let rising = rising_is lanes c.BLOCK_LEN-len.result g.P.BitPacker.BLOCK_LEN blocks entry.width entry.offset entry.last block kind
          c.loop-block.kind rest c.unpack_body.new.values whole g.met.P.BitPacker.block_len before.kind read.width read.offset read.last c.requires.entries lt c.requires.room
          (c.ends_in_order.ensures w.if-not-ends_in_order.false) small right.1 in
          w.out-is ∙ sym (option_or-none c.loop-block.out)
          ∙ least_below-or (is_out kind (value_with lanes blocks kind rest later)) (32 * lanes * block) (32 * lanes * (block + 1)) c.loop-block.out None upto
          (before.out later) (none_more lanes blocks block c.loop-block.last kind c.loop-block.kind rest later some lt before.kind before.ends size_of rising (before.last later))
    ] in
    record {
      kind = c.next_kind-kind.ensures ∙ kind_at-next kind rest block c.loop-block.kind entry.last before.kind read.last;
      right = first_fault-next (body_fault2 lanes blocks kind rest) block before.right ∙ none;
      ends = λ one_less e.
          let same : one_less ≡ block = omega (arith, e) in
          read.last ∙ ap (last_at rest) (sym same);
      last = λ later _. value_with-last lanes blocks kind rest later block entry.last some lt (right.1 ∙ sym read.last);
      out = more;
    }

-- ---- no blocks

no_fault : (fault : ℕ → Option ListError) (blocks : ℕ) → blocks ≡ 0 → first_fault fault blocks ≡ None
unfolding first_fault
no_fault fault blocks none = rw none refl

none_out : (is_out : ℕ → Bool) (lanes blocks : ℕ) → blocks ≡ 0 → None ≡ least_below is_out (32 * lanes * blocks)
unfolding least_below
none_out is_out lanes blocks none = let end : 32 * lanes * blocks ≡ 0 = rw none (omega arith) in rw end refl

pub returns-then-blocks-eq0-clause-fault : goal.returns-then-blocks-eq0-clause-fault
returns-then-blocks-eq0-clause-fault g c =
    let whole : c.BLOCK_LEN-len.result ≡ 32 * g.P.BitPacker.lanes = c.BLOCK_LEN-len.ensures ∙ g.met.P.BitPacker.block_len in
    no_fault _ _ (ap (λ n. c.args.header.count / n) (sym whole) ∙ c.if-blocks-eq0.true)

pub returns-then-blocks-eq0-clause-out : goal.returns-then-blocks-eq0-clause-out
returns-then-blocks-eq0-clause-out g c = λ later.
    let whole : c.BLOCK_LEN-len.result ≡ 32 * g.P.BitPacker.lanes = c.BLOCK_LEN-len.ensures ∙ g.met.P.BitPacker.block_len in
    none_out _ g.P.BitPacker.lanes _ (ap (λ n. c.args.header.count / n) (sym whole) ∙ c.if-blocks-eq0.true)
