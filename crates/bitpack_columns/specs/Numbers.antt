-- Numbers of seven bits a byte and groups of codes, with their laws, and their faults as faults of columns.
use Rattle.std.specs.Prelude.{Option}
use Rattle.std.specs.Option.{option_map}
use Rattle.bitpack_groups.specs.declared.group_error.GroupError.{GroupError}
use Rattle.bitpack_groups.specs.declared.group_error.GroupError.TheVariants as groups
use Rattle.bitpack_columns.specs.declared.column_error.ColumnError.{ColumnError}
use Rattle.bitpack_columns.specs.declared.column_error.ColumnError.TheVariants.{Short, BadNumber, TooLong, BadWidth, LooseWidth, Padding}
pub use Rattle.bitpack_groups.specs.Numbers.{byte_count, greatest, number}
unfoldable pub use Rattle.bitpack_groups.specs.Numbers.{count_fault, going_on, number_end, number_fault, number_in, number_value, short_at}
pub use Rattle.bitpack_groups.specs.Groups.{AreGroups, IsGroup, groups_of}
unfoldable pub use Rattle.bitpack_groups.specs.Groups.{after_groups, are_loose, group_fault, groups_codes, groups_fault}

-- a fault of numbers and groups as one of columns
abbrev pub column_error : GroupError → ColumnError
column_error groups.Short = Short
column_error groups.BadNumber = BadNumber
column_error (groups.TooLong count) = TooLong count
column_error (groups.BadWidth group width) = BadWidth group width
column_error (groups.LooseWidth group width) = LooseWidth group width
column_error groups.Padding = Padding

abbrev pub of : Option GroupError → Option ColumnError
of error = option_map column_error error
