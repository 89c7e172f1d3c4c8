-- The tail of a plain column begins with its least value, and what is before that of a sorted one is known.
use Rattle.bitpack_columns.specs.Numbers.{number_value}
use Rattle.bitpack_columns.proofs.TailReads.{tail_base_sorted, tail_number}
use Rattle.bitpack_columns.proofs.column.Column.tail_base.Goals as goal

pub unpack_number-requires : goal.unpack_number-requires
unpack_number-requires c = record { sound = tail_number c.args.self.now c.requires.some c.in-Plain.is c.args.tail.now c.requires.tail }

pub returns-in-Sorted-clause-base : goal.returns-in-Sorted-clause-base
returns-in-Sorted-clause-base c =
    let zeroth = rw c.blocks-in-Sorted.ensures at c.value_before.ensures.first in
    let later = rw c.blocks-in-Sorted.ensures at c.value_before.ensures.later in
    tail_base_sorted c.args.self.now c.value_before.result (number_value c.args.tail.now) c.in-Sorted.is zeroth later
