-- Numbers of seven bits a byte and groups of codes, with their laws, and their faults as faults of sets.
use Rattle.std.specs.Prelude.{Option}
use Rattle.std.specs.Option.{option_map}
use Rattle.bitpack_groups.specs.declared.group_error.GroupError.{GroupError}
use Rattle.bitpack_groups.specs.declared.group_error.GroupError.TheVariants as groups
use Rattle.bitpack_slices.specs.declared.set_error.SetError.{SetError}
use Rattle.bitpack_slices.specs.declared.set_error.SetError.TheVariants.{Short, BadNumber, TooLong, BadWidth, LooseWidth, Padding}
pub use Rattle.bitpack_groups.specs.Numbers.{byte_count, number}
unfoldable pub use Rattle.bitpack_groups.specs.Numbers.{going_on, number_end, number_fault, number_in, number_value, short_at}
pub use Rattle.bitpack_groups.specs.Groups.{AreGroups, IsGroup, groups_of}
unfoldable pub use Rattle.bitpack_groups.specs.Groups.{after_groups, are_loose, group_fault, groups_codes, groups_fault}
pub use Rattle.bitpack_groups.specs.Laws.{GroupsAreRead, GroupsReadBack, NumberReadsBack, OneNumber, OneRunOfCodes}

-- a fault of numbers and groups as one of sets
abbrev pub set_error : GroupError → SetError
set_error groups.Short = Short
set_error groups.BadNumber = BadNumber
set_error (groups.TooLong count) = TooLong count
set_error (groups.BadWidth group width) = BadWidth group width
set_error (groups.LooseWidth group width) = LooseWidth group width
set_error groups.Padding = Padding

abbrev pub of : Option GroupError → Option SetError
of error = option_map set_error error
