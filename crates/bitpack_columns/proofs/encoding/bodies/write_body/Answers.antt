-- The codes fit their width, and what is packed is their block.
use Rattle.std.proofs.Common.{◌≡◌, ℕ, ◌*◌, List, length, take, sym, arith, subst}
use Rattle.std.proofs.lemmas.List.{take_all}
use Rattle.bitpacking.proofs.ForCallers.{AreBytes-from_slice, AreWords-from_slice}
use Rattle.bitpacking.specs.Calls.{CanPackCodes}
use Rattle.bitpacking.specs.Bits.{AreBytes}
use Rattle.bitpacking.specs.Layout.{Layout, size}
use Rattle.bitpacking.specs.Width.{Fits}
use Rattle.bitpack_columns.proofs.BlockFacts.{width_found}
use Rattle.bitpack_columns.proofs.BlockLaws.{layout_block}
use Rattle.bitpack_columns.proofs.CodeLaws.{codes_words, least_le}
use Rattle.bitpack_columns.specs.Columns.{codes, packed_block}
use Rattle.bitpack_columns.specs.declared.column_kind.ColumnKind.TheVariants.{Plain, Sorted}
use Rattle.bitpack_columns.proofs.encoding.bodies.write_body.Goals as goal

pub take_off-requires-clause-above : goal.take_off-requires-clause-above
take_off-requires-clause-above c = λ k lt.
    let mark = rw c.in-Plain.is at c.requires.mark in
    let low = least_le c.args.block.now k lt in
    omega arith

pub compress_kind-requires : goal.compress_kind-requires
compress_kind-requires c =
    let block : List ℕ = c.args.block.now in
    let width = rw c.in-Plain.is at c.requires.width in
    let (least, narrow) = width_found (codes Plain c.args.mark block) (codes_words Plain c.args.mark block (AreWords-from_slice block c.type_inv.block)) in
    let can : CanPackCodes 4 c.args.width c.take_off.new.out c.take_off.new.out c.args.body.now = record {
      whole = omega (arith, c.take_off.auto.out, c.requires.room);
      narrow = omega arith;
      room = omega (arith, c.requires.size);
      fits = subst (λ (w : ℕ). Fits c.take_off.new.out w) (sym width) (rw c.take_off.ensures least.fits);
    } in
    can

pub compress_kind-requires-in-Sorted : goal.compress_kind-requires-in-Sorted
compress_kind-requires-in-Sorted c =
    let block : List ℕ = c.args.block.now in
    let width = rw c.in-Sorted.is at c.requires.width in
    let (least, narrow) = width_found (codes Sorted c.args.before block) (codes_words Sorted c.args.before block (AreWords-from_slice block c.type_inv.block)) in
    let can : CanPackCodes 4 c.args.width block (codes Sorted c.args.before block) c.args.body.now = record {
      whole = c.requires.block;
      narrow = omega arith;
      room = omega (arith, c.requires.size);
      fits = subst (λ (w : ℕ). Fits (codes Sorted c.args.before block) w) (sym width) least.fits;
    } in
    can

-- bytes that begin with the layout of codes, and are no longer
packed_body : (width : ℕ) (all bytes : List ℕ) → AreBytes bytes → length bytes ≡ 16 * width → Layout 4 width all (take (size 4 width) bytes)
    → bytes ≡ packed_block width all
packed_body width all bytes are long layout =
    let whole : take (size 4 width) bytes ≡ bytes = take_all (size 4 width) bytes (omega arith) in
    layout_block width all bytes are (subst (Layout 4 width all) whole layout)

pub returns-in-Plain : goal.returns-in-Plain
returns-in-Plain c =
    let body : List ℕ = c.compress_kind.new.compressed in
    let layout = rw c.take_off.ensures at c.compress_kind.ensures.packed.bytes in
    rw c.in-Plain.is
    (packed_body c.args.width (codes Plain c.args.mark c.args.block.now) body (AreBytes-from_slice body c.type_inv.body)
    (omega (arith, c.compress_kind.auto.compressed, c.requires.size)) layout)

pub returns-in-Sorted : goal.returns-in-Sorted
returns-in-Sorted c =
    let body : List ℕ = c.compress_kind-in-Sorted.new.compressed in
    rw c.in-Sorted.is
    (packed_body c.args.width (codes Sorted c.args.before c.args.block.now) body (AreBytes-from_slice body c.type_inv.body)
    (omega (arith, c.compress_kind-in-Sorted.auto.compressed, c.requires.size)) c.compress_kind-in-Sorted.ensures.packed.bytes)
