-- One id more.
use Rattle.std.proofs.Common.{◌≡◌, ◌+◌, ◌-◌, ◌*◌, ◌/◌, ◌<◌, ◌^◌, ◌∙◌, ℕ, List, Some, ap, arith, get_or, length, sym}
use Rattle.std.proofs.lemmas.List.{nil_from_length}
use Rattle.std.specs.Option.{option_map}
use Rattle.bitpack_slices.specs.Slices.{quads_of}
use Rattle.bitpack_slices.proofs.ForCallers.{fall_here, fall_later, fall_none, fall_start, quads_len}
use Rattle.bitpack_sets.proofs.ForCallers.{counted_done, counted_start}
use Rattle.bitpack_columns.specs.Opened.{values}
use Rattle.bitpack_wide.specs.Reads.{paired}
use Rattle.bitpack_wide.specs.declared.wide_error.WideError.TheVariants.{NotSorted}
use Rattle.bitpack_wide.proofs.OrderLaws.{none_fall, one_more}
use Rattle.bitpack_wide.proofs.PairLaws.{paired_get, paired_len}
use Rattle.bitpack_wide.proofs.spread.test_order.Goals as goal

pub returns-then-count-eq0-clause-fault : goal.returns-then-count-eq0-clause-fault
returns-then-count-eq0-clause-fault c = ap (option_map NotSorted) (none_fall (values c.args.column) (quads_of c.args.lows.now) (nil_from_length (values c.args.column) (omega (arith, c.len-count.ensures, c.if-count-eq0.true)))).0

pub returns-then-count-eq0-clause-words : goal.returns-then-count-eq0-clause-words
returns-then-count-eq0-clause-words c = sym (none_fall (values c.args.column) (quads_of c.args.lows.now) (nil_from_length (values c.args.column) (omega (arith, c.len-count.ensures, c.if-count-eq0.true)))).1

-- the id at a position, and how many there are
at : (k high low id : ℕ) (hs bytes : List ℕ) → length bytes ≡ 4 * length hs → k < length hs → high ≡ get_or hs k 0 → low ≡ get_or (quads_of bytes) k 0 → id ≡ high * 2 ^ 32 + low
    → (id ≡ get_or (paired hs (quads_of bytes)) k 0) × (length (paired hs (quads_of bytes)) ≡ length hs)
at k high low id hs bytes long lt h l e =
    let size = quads_len bytes in
    let same : length hs ≡ length (quads_of bytes) = omega arith in
    (e ∙ ap (λ (n : ℕ). n * 2 ^ 32 + low) h ∙ ap (λ (n : ℕ). get_or hs k 0 * 2 ^ 32 + n) l ∙ sym (paired_get k hs (quads_of bytes) same lt), paired_len hs (quads_of bytes) same)

pub loop-position-init : goal.loop-position-init
loop-position-init c =
    let xs : List ℕ = paired (values c.args.column) (quads_of c.args.lows.now) in
    record {
      few = omega arith;
      falls = fall_start 0 xs;
      counted = counted_start (2 ^ 32) xs;
      last = (at 0 c.high_at.result c.id_at.result c.id_of-last.result (values c.args.column) c.args.lows.now c.requires.long (omega (arith, c.len-count.ensures, c.if-count-eq0.false)) c.high_at.ensures.high c.id_at.ensures c.id_of-last.ensures).0;
      part = c.high_at.ensures.part;
    }

pub returns-then-id-last-clause-fault : goal.returns-then-id-last-clause-fault
returns-then-id-last-clause-fault c =
    let xs : List ℕ = paired (values c.args.column) (quads_of c.args.lows.now) in
    let i : ℕ = c.loop-position.position in
    let (is, size) = at i c.high_at-in-loop-position.result c.id_at-in-loop-position.result c.id_of-id.result (values c.args.column) c.args.lows.now c.requires.long (omega (arith, c.len-count.ensures, c.loop-position-test.true))
    c.high_at-in-loop-position.ensures.high c.id_at-in-loop-position.ensures c.id_of-id.ensures in
    let whole : 0 + i ≡ i = omega arith in
    let before = c.loop-position.invariant.last in
    let falls = c.if-id-last.true in
    ap (option_map NotSorted) (fall_here 0 i xs c.loop-position.auto.position (omega arith) (omega arith) c.loop-position.invariant.falls ∙ ap (λ (n : ℕ). Some n) whole)

pub loop-position-preserved : goal.loop-position-preserved
loop-position-preserved c =
    let xs : List ℕ = paired (values c.args.column) (quads_of c.args.lows.now) in
    let i : ℕ = c.loop-position.position in
    let (is, size) = at i c.high_at-in-loop-position.result c.id_at-in-loop-position.result c.id_of-id.result (values c.args.column) c.args.lows.now c.requires.long (omega (arith, c.len-count.ensures, c.loop-position-test.true))
    c.high_at-in-loop-position.ensures.high c.id_at-in-loop-position.ensures c.id_of-id.ensures in
    let next : i + 1 - 1 ≡ i = omega arith in
    let before = c.loop-position.invariant.last in
    let rises = c.if-id-last.false in
    let (few, counted) = one_more c.loop-position.words i (c.id_of-id.result / 4294967296) (c.loop-position.last / 4294967296) c.changes-words.result xs c.loop-position.auto.position (omega arith)
    (ap (λ (n : ℕ). n / 2 ^ 32) is) (ap (λ (n : ℕ). n / 2 ^ 32) before) c.changes-words.ensures.same c.changes-words.ensures.other c.loop-position.invariant.few c.loop-position.invariant.counted in
    record {
      few = few;
      falls = fall_later 0 i xs c.loop-position.auto.position (omega arith) (omega arith) c.loop-position.invariant.falls;
      counted = counted;
      last = is ∙ ap (λ (n : ℕ). get_or xs n 0) (sym next);
      part = rw next c.high_at-in-loop-position.ensures.part;
    }

pub returns-clause-fault : goal.returns-clause-fault
returns-clause-fault c =
    let xs : List ℕ = paired (values c.args.column) (quads_of c.args.lows.now) in
    let size = quads_len c.args.lows.now in
    let long = paired_len (values c.args.column) (quads_of c.args.lows.now) (omega arith) in
    ap (option_map NotSorted) (fall_none 0 c.loop-position.position xs (omega arith) c.loop-position.invariant.falls)

pub returns-clause-words : goal.returns-clause-words
returns-clause-words c =
    let xs : List ℕ = paired (values c.args.column) (quads_of c.args.lows.now) in
    let size = quads_len c.args.lows.now in
    let long = paired_len (values c.args.column) (quads_of c.args.lows.now) (omega arith) in
    counted_done (2 ^ 32) c.loop-position.words c.loop-position.position xs (omega (arith, c.len-count.ensures, c.if-count-eq0.false)) (omega (arith, c.len-count.ensures, c.loop-position-test.false, c.loop-position.auto.position-end (omega (arith, c.if-count-eq0.false)))) c.loop-position.invariant.counted
