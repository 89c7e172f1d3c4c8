-- The filled block has its parts before those of the later ones.
use Rattle.std.proofs.Common.{◌≡◌, ◌*◌, ◌<◌, ◌++◌, ℕ, List, length, get_or, sym, ap, ◌∙◌, arith, rules, subst}
use Rattle.bitpack_columns.specs.Measured.{AreWidths}
use Rattle.bitpack_columns.proofs.BothLaws.{both_bodies, both_ends, both_marks, both_room, both_sum, one_sum, taken_width}
use Rattle.bitpack_columns.proofs.SplitLaws.{filled_split, one_block, widths_back, widths_front}
use Rattle.bitpack_columns.proofs.appending.writing.write_both.Goals as goal

pub split_at_mut-body-requires : goal.split_at_mut-body-requires
split_at_mut-body-requires c =
    let filled : List ℕ = c.args.filled.now in
    let later : List ℕ = c.args.later.now in
    let some : 0 < length filled = search rules in
    let long : length filled ≡ 128 = one_block filled c.requires.whole some in
    let width = taken_width c.args.kind c.args.before filled later long c.args.widths.now c.split_at.result.0.now c.split_at.ensures.front c.requires.widths c.requires.some in
    omega (arith, width, both_sum c.args.kind c.args.before filled later long, c.requires.bodies)

pub write_entries-requires-2-clause-widths : goal.write_entries-requires-2-clause-widths
write_entries-requires-2-clause-widths c =
    let filled : List ℕ = c.args.filled.now in
    let later : List ℕ = c.args.later.now in
    let some : 0 < length filled = search rules in
    let long : length filled ≡ 128 = one_block filled c.requires.whole some in
    subst (AreWidths c.args.kind c.args.before filled) (sym c.split_at.ensures.front)
    (widths_front c.args.kind c.args.before filled later (filled ++ later) 1 (get_or filled 127 0) (filled_split c.args.kind c.args.before filled later long) c.args.widths.now c.requires.widths)

pub write_entries-requires-2-clause-bodies : goal.write_entries-requires-2-clause-bodies
write_entries-requires-2-clause-bodies c =
    let filled : List ℕ = c.args.filled.now in
    let later : List ℕ = c.args.later.now in
    let some : 0 < length filled = search rules in
    let long : length filled ≡ 128 = one_block filled c.requires.whole some in
    let width = taken_width c.args.kind c.args.before filled later long c.args.widths.now c.split_at.result.0.now c.split_at.ensures.front c.requires.widths c.requires.some in
    c.split_at_mut-body.ensures.front_len ∙ ap (λ (n : ℕ). 16 * n) (width ∙ sym (one_sum c.args.kind c.args.before filled later long))

pub write_entries-requires-3-clause-widths : goal.write_entries-requires-3-clause-widths
write_entries-requires-3-clause-widths c =
    let filled : List ℕ = c.args.filled.now in
    let later : List ℕ = c.args.later.now in
    let some : 0 < length filled = search rules in
    let long : length filled ≡ 128 = one_block filled c.requires.whole some in
    subst (AreWidths c.args.kind (get_or filled 127 0) later) (sym c.split_at.ensures.back)
    (widths_back c.args.kind c.args.before filled later (filled ++ later) 1 (get_or filled 127 0) (filled_split c.args.kind c.args.before filled later long) c.args.widths.now c.requires.some c.requires.widths)

pub write_entries-requires-3-clause-ends : goal.write_entries-requires-3-clause-ends
write_entries-requires-3-clause-ends c =
    let filled : List ℕ = c.args.filled.now in
    let later : List ℕ = c.args.later.now in
    let some : 0 < length filled = search rules in
    let long : length filled ≡ 128 = one_block filled c.requires.whole some in
    omega (arith, both_room c.args.kind c.args.before filled later long c.args.end_size, c.requires.ends, c.split_at_mut-end.ensures.back_len)

pub write_entries-requires-3-clause-marks : goal.write_entries-requires-3-clause-marks
write_entries-requires-3-clause-marks c =
    let filled : List ℕ = c.args.filled.now in
    let later : List ℕ = c.args.later.now in
    let some : 0 < length filled = search rules in
    let long : length filled ≡ 128 = one_block filled c.requires.whole some in
    omega (arith, both_room c.args.kind c.args.before filled later long c.args.mark_size, c.requires.marks, c.split_at_mut-mark.ensures.back_len)

pub write_entries-requires-3-clause-bodies : goal.write_entries-requires-3-clause-bodies
write_entries-requires-3-clause-bodies c =
    let filled : List ℕ = c.args.filled.now in
    let later : List ℕ = c.args.later.now in
    let some : 0 < length filled = search rules in
    let long : length filled ≡ 128 = one_block filled c.requires.whole some in
    let width = taken_width c.args.kind c.args.before filled later long c.args.widths.now c.split_at.result.0.now c.split_at.ensures.front c.requires.widths c.requires.some in
    omega (arith, width, both_sum c.args.kind c.args.before filled later long, c.requires.bodies, c.split_at_mut-body.ensures.back_len)

pub returns-clause-ends : goal.returns-clause-ends
returns-clause-ends c =
    let filled : List ℕ = c.args.filled.now in
    let later : List ℕ = c.args.later.now in
    let some : 0 < length filled = search rules in
    let long : length filled ≡ 128 = one_block filled c.requires.whole some in
    let width = taken_width c.args.kind c.args.before filled later long c.args.widths.now c.split_at.result.0.now c.split_at.ensures.front c.requires.widths c.requires.some in
    both_ends c.args.kind c.args.before filled later long c.args.end_size c.args.start (get_or c.split_at.result.0.now 0 0) c.write_entries-2.new.ends c.write_entries-3.new.ends width
    c.write_entries-2.ensures.ends c.write_entries-3.ensures.ends

pub returns-clause-marks : goal.returns-clause-marks
returns-clause-marks c =
    let filled : List ℕ = c.args.filled.now in
    let later : List ℕ = c.args.later.now in
    let some : 0 < length filled = search rules in
    let long : length filled ≡ 128 = one_block filled c.requires.whole some in
    both_marks c.args.kind c.args.before filled later long c.args.mark_size c.write_entries-2.new.marks c.write_entries-3.new.marks c.write_entries-2.ensures.marks c.write_entries-3.ensures.marks

pub returns-clause-bodies : goal.returns-clause-bodies
returns-clause-bodies c =
    let filled : List ℕ = c.args.filled.now in
    let later : List ℕ = c.args.later.now in
    let some : 0 < length filled = search rules in
    let long : length filled ≡ 128 = one_block filled c.requires.whole some in
    both_bodies c.args.kind c.args.before filled later long c.write_entries-2.new.bodies c.write_entries-3.new.bodies c.write_entries-2.ensures.bodies c.write_entries-3.ensures.bodies
