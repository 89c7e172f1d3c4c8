-- The runs between boundaries, and their bytes.
use Rattle.std.specs.Prelude.{ℕ, ◌-◌, List, [], ◌∷◌, ◌++◌}
use Rattle.std.specs.List.{flat_map}
use Rattle.bitpack_slices.specs.Bodies.{le_bytes}

-- the runs between boundaries: the first number of each, and the number of the others
unfoldable pub runs_between : List ℕ → List (ℕ × ℕ)
runs_between [] = []
runs_between (begin ∷ []) = (begin, 65535 - begin) ∷ []
runs_between (begin ∷ end ∷ bounds) = (begin, end - begin - 1) ∷ runs_between bounds

-- two bytes for each of these
abbrev pub run_bytes : List (ℕ × ℕ) → List ℕ
run_bytes runs = flat_map (λ run. le_bytes 2 run.0 ++ le_bytes 2 run.1) runs
