-- The high words and the low words of a range.
use Rattle.std.proofs.Common.{◌≡◌, ◌+◌, ◌-◌, ◌*◌, ◌∙◌, ℕ, List, ap, arith, drop, length, sym, take}
use Rattle.bitpack_slices.specs.Slices.{quads_of}
use Rattle.bitpack_sets.proofs.ForCallers.{quads_range}
use Rattle.bitpack_columns.specs.Opened.{values}
use Rattle.bitpack_wide.proofs.LocateLaws.{column_of, size_of}
use Rattle.bitpack_wide.proofs.PairLaws.{paired_len}
use Rattle.bitpack_wide.proofs.UnpackLaws.{copied_part, spread_range}
use Rattle.bitpack_wide.specs.Reads.{paired}
use Rattle.bitpack_wide.specs.declared.spread.Spread.{Spread}
use Rattle.bitpack_wide.proofs.spread.Spread.unpack_with.Goals as goal

many : (spread : Spread) → length (paired (values spread.column) (quads_of spread.lows.now)) ≡ length (values spread.column)
many spread = paired_len (values spread.column) (quads_of spread.lows.now) (size_of spread)

pub overflow_mul-from : goal.overflow_mul-from
overflow_mul-from c = let long = many c.args.self in let few = (column_of c.args.self).few in omega (arith, c.requires.within)

pub overflow_add-from : goal.overflow_add-from
overflow_add-from c = let long = many c.args.self in let few = (column_of c.args.self).few in omega (arith, c.requires.within)

pub overflow_mul-from-2 : goal.overflow_mul-from-2
overflow_mul-from-2 c = let long = many c.args.self in let few = (column_of c.args.self).few in omega (arith, c.requires.within)

pub slice_bounds-pair-end : goal.slice_bounds-pair-end
slice_bounds-pair-end c = let long = many c.args.self in let size = c.args.self.long in omega (arith, c.requires.within)

pub returns : goal.returns
returns c =
    let s = c.args.self in
    let n : ℕ = length c.args.out.now in
    let long = many s in
    let highs = copied_part c.copy_range.new.out (values s.column) n c.args.from c.copy_range.result (length c.args.highs.now) c.copy_range.auto.out c.requires.room c.copy_range.ensures.len (omega (arith, c.requires.within)) c.copy_range.ensures.values in
    c.pair.ensures ∙ ap (λ (l : List ℕ). paired l (quads_of (take (4 * (c.args.from + n) - 4 * c.args.from) (drop (4 * c.args.from) s.lows.now)))) highs
    ∙ ap (paired (take n (drop c.args.from (values s.column)))) (quads_range n c.args.from s.lows.now)
    ∙ sym (spread_range n c.args.from (values s.column) (quads_of s.lows.now) (size_of s))
