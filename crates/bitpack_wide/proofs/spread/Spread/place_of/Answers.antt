-- The first high word that is not below that of the id is it, or another.
use Rattle.std.proofs.Common.{◌/◌, ◌^◌, ◌∙◌, arith, sym}
use Rattle.bitpack_slices.proofs.ForCallers.{has_not}
use Rattle.bitpack_slices.specs.Slices.{quads_of}
use Rattle.bitpack_columns.specs.Opened.{values}
use Rattle.bitpack_wide.specs.Forms.{spread_ids}
use Rattle.bitpack_wide.proofs.LocateLaws.{found_at, has_other, many, none_at, rank_all, rank_other, size_of, small_of}
use Rattle.bitpack_wide.proofs.spread.Spread.place_of.Goals as goal

pub returns-then-found-high-clause-rank : goal.returns-then-found-high-clause-rank
returns-then-found-high-clause-rank c =
    let s = c.args.self in
    let (lt, value, least, before) = found_at (c.args.id / 2 ^ 32) (values s.column) c.in-Some.begin c.in-Some.found (sym c.first_high.ensures ∙ c.in-Some.is) in
    let other = c.if-found-high.true in
    rank_other (values s.column) (quads_of s.lows.now) (size_of s) (small_of s) s.rising c.args.id c.in-Some.begin lt before (omega arith)

pub returns-then-found-high-clause-there : goal.returns-then-found-high-clause-there
returns-then-found-high-clause-there c =
    let s = c.args.self in
    let (lt, value, least, before) = found_at (c.args.id / 2 ^ 32) (values s.column) c.in-Some.begin c.in-Some.found (sym c.first_high.ensures ∙ c.in-Some.is) in
    let other = c.if-found-high.true in
    let ranked = rank_other (values s.column) (quads_of s.lows.now) (size_of s) (small_of s) s.rising c.args.id c.in-Some.begin lt before (omega arith) in
    sym (has_other (values s.column) (quads_of s.lows.now) (size_of s) (small_of s) s.rising c.args.id c.in-Some.begin ranked lt (λ e. omega arith))

pub returns-in-None-clause-rank : goal.returns-in-None-clause-rank
returns-in-None-clause-rank c =
    let s = c.args.self in
    rank_all (values s.column) (quads_of s.lows.now) (size_of s) (small_of s) s.rising c.args.id c.len.result c.len.ensures (none_at (c.args.id / 2 ^ 32) 0 (values s.column) (sym c.first_high.ensures ∙ c.in-None.is))

pub returns-in-None-clause-there : goal.returns-in-None-clause-there
returns-in-None-clause-there c =
    let s = c.args.self in
    let ranked = rank_all (values s.column) (quads_of s.lows.now) (size_of s) (small_of s) s.rising c.args.id c.len.result c.len.ensures (none_at (c.args.id / 2 ^ 32) 0 (values s.column) (sym c.first_high.ensures ∙ c.in-None.is)) in
    let long = many (values s.column) (quads_of s.lows.now) (size_of s) (small_of s) s.rising in
    sym (has_not c.args.id c.len.result (spread_ids s) ranked (omega (arith, c.len.ensures)))
