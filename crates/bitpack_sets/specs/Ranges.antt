-- The ids of a range.
use Rattle.std.specs.Prelude.{ℕ, ◌-◌, ◌^◌, List, min}
use Rattle.std.specs.List.{range_with_len}

-- those from `first` to before `end`; all ids are below 2 ^ 32
abbrev pub ids_within : ℕ → ℕ → List ℕ
ids_within first end = range_with_len first (min end (2 ^ 32) - first)
