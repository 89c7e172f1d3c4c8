-- The low words of a high word increase.
use Rattle.std.proofs.Common.{◌≡◌, ◌≢◌, ◌+◌, ◌-◌, ◌*◌, ◌/◌, ◌^◌, ◌<◌, ◌≤◌, ◌∙◌, ℕ, List, ap, arith, drop, eqb, false, get_or, length, subst, sym, take, inl, inr, length-drop, length-take-le}
use Rattle.std.proofs.lemmas.Bool.{cases_lt}
use Rattle.bitpack_slices.proofs.ForCallers.{has_not, rank_le}
use Rattle.bitpack_slices.specs.Bodies.{IsRising}
use Rattle.bitpack_slices.specs.Reads.{rank}
use Rattle.bitpack_slices.specs.Slices.{quads_of}
use Rattle.bitpack_sets.proofs.ForCallers.{quads_range}
use Rattle.bitpack_columns.specs.Opened.{values}
use Rattle.bitpack_columns.specs.Ranges.{first_from}
use Rattle.bitpack_wide.specs.Forms.{spread_ids}
use Rattle.bitpack_wide.specs.declared.spread.Spread.{Spread}
use Rattle.bitpack_wide.proofs.LocateLaws.{column_of, found_at, has_low, has_other, many, part_rises, rank_first, rank_part, run_of, size_of, small_of}
use Rattle.bitpack_wide.proofs.spread.Spread.place_in.Goals as goal

-- the ids with a high word begin at a position, and end at another
record Run (spread : Spread) (high begin end : ℕ) : Type 0 where
  lt : begin < length (values spread.column)
  value : high ≡ get_or (values spread.column) begin 0
  before : (k : ℕ) → k < begin → get_or (values spread.column) k 0 < high
  some : 0 < end - begin
  more : begin < end
  within : begin + (end - begin) ≤ length (values spread.column)
  all : (k : ℕ) → begin ≤ k → k < begin + (end - begin) → get_or (values spread.column) k 0 ≡ high
  after : begin + (end - begin) < length (values spread.column) → high < get_or (values spread.column) (begin + (end - begin)) 0

run : (spread : Spread) (high begin end : ℕ) → first_from high 0 (values spread.column) ≡ Rattle.std.proofs.Common.Some (begin, high) → end ≤ length (values spread.column)
    → ((k : ℕ) → k < end → get_or (values spread.column) k 0 ≤ high) → (end < length (values spread.column) → high < get_or (values spread.column) end 0) → Run spread high begin end
run spread high begin end first within below above =
    let hs : List ℕ = values spread.column in
    let (lt, value, least, before) = found_at high hs begin high first in
    let (more, all, after) = run_of hs (quads_of spread.lows.now) (size_of spread) (small_of spread) spread.rising high begin end lt value before within below above in
    record { lt = lt; value = value; before = before; some = omega arith; more = more; within = omega arith; all = all; after = after }

pub id_at-first-requires : goal.id_at-first-requires
id_at-first-requires c =
    let s = c.args.self in
    let (lt, value, least, before) = found_at c.args.high (values s.column) c.args.begin c.args.high c.requires.first in
    let long = s.long in
    omega arith

pub returns-then-first-low-clause-rank : goal.returns-then-first-low-clause-rank
returns-then-first-low-clause-rank c =
    let s = c.args.self in
    let (lt, value, least, before) = found_at c.args.high (values s.column) c.args.begin c.args.high c.requires.first in
    rank_first (values s.column) (quads_of s.lows.now) (size_of s) (small_of s) s.rising c.args.high c.args.low c.args.begin c.ranges.low.fits lt (sym value) before (omega (arith, c.id_at-first.ensures, c.if-first-low.true))

pub returns-then-first-low-clause-there : goal.returns-then-first-low-clause-there
returns-then-first-low-clause-there c =
    let s = c.args.self in
    let (lt, value, least, before) = found_at c.args.high (values s.column) c.args.begin c.args.high c.requires.first in
    let ranked = rank_first (values s.column) (quads_of s.lows.now) (size_of s) (small_of s) s.rising c.args.high c.args.low c.args.begin c.ranges.low.fits lt (sym value) before (omega (arith, c.id_at-first.ensures, c.if-first-low.true)) in
    ap (λ (n : ℕ). eqb n c.args.low) c.id_at-first.ensures
    ∙ sym (has_low (values s.column) (quads_of s.lows.now) (size_of s) (small_of s) s.rising c.args.high c.args.low c.args.begin c.ranges.low.fits ranked lt (sym value))

pub overflow_sub-count : goal.overflow_sub-count
overflow_sub-count c =
    let r = run c.args.self c.args.high c.args.begin c.end_of.result c.requires.first c.end_of.ensures.within c.end_of.ensures.below c.end_of.ensures.above in
    let more = r.more in
    omega arith

pub overflow_mul-begin : goal.overflow_mul-begin
overflow_mul-begin c =
    let r = run c.args.self c.args.high c.args.begin c.end_of.result c.requires.first c.end_of.ensures.within c.end_of.ensures.below c.end_of.ensures.above in
    let lt = r.lt in
    let few = (column_of c.args.self).few in
    omega arith

pub overflow_mul-begin-2 : goal.overflow_mul-begin-2
overflow_mul-begin-2 c =
    let r = run c.args.self c.args.high c.args.begin c.end_of.result c.requires.first c.end_of.ensures.within c.end_of.ensures.below c.end_of.ensures.above in
    let within = r.within in
    let few = (column_of c.args.self).few in
    omega arith

pub slice_bounds-rank_in_array-end : goal.slice_bounds-rank_in_array-end
slice_bounds-rank_in_array-end c =
    let r = run c.args.self c.args.high c.args.begin c.end_of.result c.requires.first c.end_of.ensures.within c.end_of.ensures.below c.end_of.ensures.above in
    let within = r.within in
    let long = c.args.self.long in
    omega arith

pub rank_in_array-left-requires : goal.rank_in_array-left-requires
rank_in_array-left-requires c =
    let s = c.args.self in
    let r = run s c.args.high c.args.begin c.end_of.result c.requires.first c.end_of.ensures.within c.end_of.ensures.below c.end_of.ensures.above in
    let rises = part_rises (values s.column) (quads_of s.lows.now) (size_of s) (small_of s) s.rising c.args.high c.args.low c.args.begin (c.end_of.result - c.args.begin) c.ranges.low.fits r.some r.within r.all r.after in
    subst (IsRising 0 (2 ^ 32)) (sym (quads_range (c.end_of.result - c.args.begin) c.args.begin s.lows.now)) rises

-- the rank of the id
ranked : (spread : Spread) (high low begin end left first : ℕ) → low < 2 ^ 32 → Run spread high begin end
    → left ≡ rank low (quads_of (take (4 * (begin + (end - begin)) - 4 * begin) (drop (4 * begin) spread.lows.now))) → first ≡ get_or (quads_of spread.lows.now) begin 0 → first < low
    → (begin + left ≡ rank (high * 2 ^ 32 + low) (spread_ids spread)) × (left ≤ end - begin)
ranked spread high low begin end left first few r e f less =
    let n : ℕ = end - begin in
    let part = quads_range n begin spread.lows.now in
    let at = e ∙ ap (rank low) part in
    let within = r.within in
    let size = size_of spread in
    let most = rank_le low (take n (drop begin (quads_of spread.lows.now))) in
    let long = length-take-le n (drop begin (quads_of spread.lows.now)) (omega (arith, length-drop begin (quads_of spread.lows.now))) in
    (rank_part (values spread.column) (quads_of spread.lows.now) (size_of spread) (small_of spread) spread.rising high low begin n few r.some r.within r.all r.after left at (omega arith), omega arith)

pub overflow_add-result : goal.overflow_add-result
overflow_add-result c =
    let s = c.args.self in
    let r = run s c.args.high c.args.begin c.end_of.result c.requires.first c.end_of.ensures.within c.end_of.ensures.below c.end_of.ensures.above in
    let (is, most) = ranked s c.args.high c.args.low c.args.begin c.end_of.result c.rank_in_array-left.result c.id_at-first.result c.ranges.low.fits r c.rank_in_array-left.ensures c.id_at-first.ensures c.if-first-low.false in
    let within = r.within in
    let few = (column_of s).few in
    omega arith

pub overflow_add-result-2 : goal.overflow_add-result-2
overflow_add-result-2 c =
    let s = c.args.self in
    let r = run s c.args.high c.args.begin c.end_of.result c.requires.first c.end_of.ensures.within c.end_of.ensures.below c.end_of.ensures.above in
    let (is, most) = ranked s c.args.high c.args.low c.args.begin c.end_of.result c.rank_in_array-left.result c.id_at-first.result c.ranges.low.fits r c.rank_in_array-left.ensures c.id_at-first.ensures c.if-first-low.false in
    let within = r.within in
    let few = (column_of s).few in
    omega arith

pub overflow_add-begin-2 : goal.overflow_add-begin-2
overflow_add-begin-2 c =
    let s = c.args.self in
    let r = run s c.args.high c.args.begin c.end_of.result c.requires.first c.end_of.ensures.within c.end_of.ensures.below c.end_of.ensures.above in
    let (is, most) = ranked s c.args.high c.args.low c.args.begin c.end_of.result c.rank_in_array-left.result c.id_at-first.result c.ranges.low.fits r c.rank_in_array-left.ensures c.id_at-first.ensures c.if-first-low.false in
    let within = r.within in
    let few = (column_of s).few in
    omega arith

pub id_at-requires : goal.id_at-requires
id_at-requires c =
    let s = c.args.self in
    let r = run s c.args.high c.args.begin c.end_of.result c.requires.first c.end_of.ensures.within c.end_of.ensures.below c.end_of.ensures.above in
    let (is, most) = ranked s c.args.high c.args.low c.args.begin c.end_of.result c.rank_in_array-left.result c.id_at-first.result c.ranges.low.fits r c.rank_in_array-left.ensures c.id_at-first.ensures c.if-first-low.false in
    let within = r.within in
    let long = s.long in
    let other = c.if-left-count.false in
    omega arith

pub returns-then-left-count-clause-rank : goal.returns-then-left-count-clause-rank
returns-then-left-count-clause-rank c =
    let s = c.args.self in
    let r = run s c.args.high c.args.begin c.end_of.result c.requires.first c.end_of.ensures.within c.end_of.ensures.below c.end_of.ensures.above in
    (ranked s c.args.high c.args.low c.args.begin c.end_of.result c.rank_in_array-left.result c.id_at-first.result c.ranges.low.fits r c.rank_in_array-left.ensures c.id_at-first.ensures c.if-first-low.false).0

pub returns-then-left-count-clause-there : goal.returns-then-left-count-clause-there
returns-then-left-count-clause-there c =
    let s = c.args.self in
    let hs : List ℕ = values s.column in
    let left : ℕ = c.rank_in_array-left.result in
    let x : ℕ = c.args.high * 2 ^ 32 + c.args.low in
    let r = run s c.args.high c.args.begin c.end_of.result c.requires.first c.end_of.ensures.within c.end_of.ensures.below c.end_of.ensures.above in
    let (is, most) = ranked s c.args.high c.args.low c.args.begin c.end_of.result left c.id_at-first.result c.ranges.low.fits r c.rank_in_array-left.ensures c.id_at-first.ensures c.if-first-low.false in
    let long = many hs (quads_of s.lows.now) (size_of s) (small_of s) s.rising in
    let small = c.ranges.low.fits in
    let high : x / 2 ^ 32 ≡ c.args.high = omega arith in
    let there : c.args.begin + (c.end_of.result - c.args.begin) ≡ c.args.begin + left = (let e = c.if-left-count.true in omega arith) in
    sym (elim (cases_lt (c.args.begin + left) (length hs)) [
      | inl less ↦
          let above : c.args.high < get_or hs (c.args.begin + left) 0 = subst (λ (m : ℕ). c.args.high < get_or hs m 0) there (r.after (omega arith)) in
          has_other hs (quads_of s.lows.now) (size_of s) (small_of s) s.rising x (c.args.begin + left) is less (λ e. omega arith)
      | inr past ↦ has_not x (c.args.begin + left) (spread_ids s) is (omega arith)
    ])

pub returns-clause-rank : goal.returns-clause-rank
returns-clause-rank c =
    let s = c.args.self in
    let r = run s c.args.high c.args.begin c.end_of.result c.requires.first c.end_of.ensures.within c.end_of.ensures.below c.end_of.ensures.above in
    (ranked s c.args.high c.args.low c.args.begin c.end_of.result c.rank_in_array-left.result c.id_at-first.result c.ranges.low.fits r c.rank_in_array-left.ensures c.id_at-first.ensures c.if-first-low.false).0

pub returns-clause-there : goal.returns-clause-there
returns-clause-there c =
    let s = c.args.self in
    let hs : List ℕ = values s.column in
    let left : ℕ = c.rank_in_array-left.result in
    let r = run s c.args.high c.args.begin c.end_of.result c.requires.first c.end_of.ensures.within c.end_of.ensures.below c.end_of.ensures.above in
    let (is, most) = ranked s c.args.high c.args.low c.args.begin c.end_of.result left c.id_at-first.result c.ranges.low.fits r c.rank_in_array-left.ensures c.id_at-first.ensures c.if-first-low.false in
    let within = r.within in
    let other = c.if-left-count.false in
    ap (λ (n : ℕ). eqb n c.args.low) c.id_at.ensures
    ∙ sym (has_low hs (quads_of s.lows.now) (size_of s) (small_of s) s.rising c.args.high c.args.low (c.args.begin + left) c.ranges.low.fits is (omega arith) (r.all (c.args.begin + left) (omega arith) (omega arith)))
