-- The room that is reserved is enough for all.
use Rattle.std.proofs.Common.{◌≡◌, ◌+◌, ◌-◌, ap, arith, drop, length, length-append, length-drop, sym, vec_len, ◌∙◌}
use Rattle.bitpack_sets.proofs.lemmas.encodings.EncodeLaws.{on_ok}
use Rattle.bitpack_sets.proofs.appending.unpack_with.Goals as goal
use Rattle.bitpack_sets.specs.Opened.{ids}

pub returns-in-Ok-clause-grown : goal.returns-in-Ok-clause-grown
returns-in-Ok-clause-grown c = omega (arith, c.reserve.ensures.capacity, c.append_range.ensures.capacity, c.extend_from_slice.ensures.capacity)

pub returns-in-Err-clause-room : goal.returns-in-Err-clause-room
returns-in-Err-clause-room c =
    let numbers = drop c.args.from (ids c.args.set.now) in
    let old = c.reserve.new.self in
    let new = c.append_range.new.out in
    let len : vec_len new ≡ vec_len old + (c.len.result - c.args.from) =
    omega (arith, ap length c.append_range.ensures.ids, length-append old.items numbers, length-drop c.args.from (ids c.args.set.now), c.len.ensures, new.ok, old.ok) in
    let room = on_ok c.reserve.result (sym c.is_err.ensures.value ∙ c.if-is_err.false) c.reserve.ensures.ok in
    absurd (omega (arith, len, c.in-Err.ensures.full, room, c.append_range.ensures.capacity))

pub returns-in-Err-clause-grown : goal.returns-in-Err-clause-grown
returns-in-Err-clause-grown c = omega (arith, c.reserve.ensures.capacity, c.append_range.ensures.capacity, c.extend_from_slice.ensures.capacity)
