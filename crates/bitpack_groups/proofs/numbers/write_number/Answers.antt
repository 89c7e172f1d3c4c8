-- One byte more is written.
use Rattle.std.proofs.Common.{◌≡◌, ◌+◌, ◌/◌, ◌%◌, ◌≤◌, ◌++◌, ◌∷◌, [], ℕ, List, length, take, set, ap, sym, ◌∙◌, append_assoc, add-one, arith}
use Rattle.std.proofs.Math.Seq.{take-suc-set}
use Rattle.std.proofs.lemmas.List.{length-set}
use Rattle.bitpack_groups.specs.Numbers.{number}
use Rattle.bitpack_groups.proofs.NumberLemmas.{number-large, number-small}
use Rattle.bitpack_groups.proofs.numbers.write_number.Goals as goal

pub bounds-bytes-len : goal.bounds-bytes-len
bounds-bytes-len c =
    let more = ap length (number-large c.loop-left.left c.loop-left-test.true (omega arith)) in
    omega (arith, more, c.loop-left.invariant.counted, c.loop-left.invariant.long, c.requires.room)

-- One byte more of the slice is written.
next : (bytes : List ℕ) (len byte : ℕ) → len + 1 ≤ length bytes → take (len + 1) (set bytes len byte) ≡ take len bytes ++ byte ∷ []
next bytes len byte lt = rw add-one (take-suc-set bytes len byte (omega arith))

pub loop-left-preserved : goal.loop-left-preserved
loop-left-preserved c =
    let left : ℕ = c.loop-left.left in
    let len : ℕ = c.loop-left.len in
    let bytes : List ℕ = c.loop-left.bytes in
    let before = c.loop-left.invariant in
    let large = number-large left c.loop-left-test.true (omega arith) in
    let room : len + 1 ≤ length bytes = omega (arith, ap length large, before.counted, before.long, c.requires.room) in
    record {
      written =
          ap (λ zs. zs ++ number (left / 128)) (next bytes len (left % 128 + 128) room)
          ∙ append_assoc (take len bytes) ((left % 128 + 128) ∷ []) (number (left / 128))
          ∙ ap (λ zs. take len bytes ++ zs) (sym large) ∙ before.written;
      counted = omega (arith, ap length large, before.counted);
      long = length-set bytes len (left % 128 + 128) ∙ before.long;
    }

pub bounds-bytes-len-2 : goal.bounds-bytes-len-2
bounds-bytes-len-2 c =
    let more = ap length (number-small c.loop-left.left c.loop-left-test.false) in
    omega (arith, more, c.loop-left.invariant.counted, c.loop-left.invariant.long, c.requires.room)

pub returns-clause-len : goal.returns-clause-len
returns-clause-len c =
    let more = ap length (number-small c.loop-left.left c.loop-left-test.false) in
    omega (arith, more, c.loop-left.invariant.counted)

pub returns-clause-number : goal.returns-clause-number
returns-clause-number c =
    let left : ℕ = c.loop-left.left in
    let len : ℕ = c.loop-left.len in
    let bytes : List ℕ = c.loop-left.bytes in
    let before = c.loop-left.invariant in
    let small = number-small left c.loop-left-test.false in
    next bytes len left (omega (arith, ap length small, before.counted, before.long, c.requires.room))
    ∙ ap (λ zs. take len bytes ++ zs) (sym small) ∙ before.written
