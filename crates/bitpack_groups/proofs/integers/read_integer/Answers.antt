-- An integer is what the first bytes of a word say.
use Rattle.std.proofs.Common.{◌≡◌, ◌+◌, ◌*◌, ◌<◌, arith, get_or}
use Rattle.bitpack_groups.proofs.IntegerReads.{cut_byte, short_four, short_one, short_three, short_two}
use Rattle.bitpack_groups.proofs.integers.read_integer.Goals as goal

pub returns-then-size-eq1 : goal.returns-then-size-eq1
returns-then-size-eq1 c =
    let bytes = c.args.bytes.now in
    let from = c.args.start + c.args.size * c.args.index in
    let e = short_one c.args.start c.args.index bytes c.args.size c.if-size-eq1.true in
    let a : get_or bytes from 0 < 256 = (c.type_inv.bytes from).fits in
    let one = cut_byte from (from + 4) 0 from bytes (omega arith) (omega arith) in
    let two = cut_byte from (from + 4) 1 (from + 1) bytes (omega arith) (omega arith) in
    let three = cut_byte from (from + 4) 2 (from + 2) bytes (omega arith) (omega arith) in
    let four = cut_byte from (from + 4) 3 (from + 3) bytes (omega arith) (omega arith) in
    omega (arith, c.from_le_bytes-word.ensures)

pub returns-then-size-eq2 : goal.returns-then-size-eq2
returns-then-size-eq2 c =
    let bytes = c.args.bytes.now in
    let from = c.args.start + c.args.size * c.args.index in
    let e = short_two c.args.start c.args.index bytes c.args.size c.if-size-eq2.true in
    let a : get_or bytes from 0 < 256 = (c.type_inv.bytes from).fits in
    let b : get_or bytes (from + 1) 0 < 256 = (c.type_inv.bytes (from + 1)).fits in
    let one = cut_byte from (from + 4) 0 from bytes (omega arith) (omega arith) in
    let two = cut_byte from (from + 4) 1 (from + 1) bytes (omega arith) (omega arith) in
    let three = cut_byte from (from + 4) 2 (from + 2) bytes (omega arith) (omega arith) in
    let four = cut_byte from (from + 4) 3 (from + 3) bytes (omega arith) (omega arith) in
    omega (arith, c.from_le_bytes-word.ensures)

pub returns-then-size-eq3 : goal.returns-then-size-eq3
returns-then-size-eq3 c =
    let bytes = c.args.bytes.now in
    let from = c.args.start + c.args.size * c.args.index in
    let e = short_three c.args.start c.args.index bytes c.args.size c.if-size-eq3.true in
    let a : get_or bytes from 0 < 256 = (c.type_inv.bytes from).fits in
    let b : get_or bytes (from + 1) 0 < 256 = (c.type_inv.bytes (from + 1)).fits in
    let d : get_or bytes (from + 2) 0 < 256 = (c.type_inv.bytes (from + 2)).fits in
    let one = cut_byte from (from + 4) 0 from bytes (omega arith) (omega arith) in
    let two = cut_byte from (from + 4) 1 (from + 1) bytes (omega arith) (omega arith) in
    let three = cut_byte from (from + 4) 2 (from + 2) bytes (omega arith) (omega arith) in
    let four = cut_byte from (from + 4) 3 (from + 3) bytes (omega arith) (omega arith) in
    omega (arith, c.from_le_bytes-word.ensures)

pub returns : goal.returns
returns c =
    let four : c.args.size ≡ 4 = omega (arith, c.requires.size.0, c.requires.size.1, c.if-size-eq1.false, c.if-size-eq2.false, c.if-size-eq3.false) in
    let e = short_four c.args.start c.args.index c.args.bytes.now c.args.size four in
    let bytes = c.args.bytes.now in
    let from = c.args.start + c.args.size * c.args.index in
    let one = cut_byte from (from + 4) 0 from bytes (omega arith) (omega arith) in
    let two = cut_byte from (from + 4) 1 (from + 1) bytes (omega arith) (omega arith) in
    let three = cut_byte from (from + 4) 2 (from + 2) bytes (omega arith) (omega arith) in
    let four = cut_byte from (from + 4) 3 (from + 3) bytes (omega arith) (omega arith) in
    omega (arith, c.from_le_bytes-word.ensures)
