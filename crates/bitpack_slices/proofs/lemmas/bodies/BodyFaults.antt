-- The fault of a body, by what it is: numbers, runs or blocks.
use Rattle.std.proofs.Common.{ℕ, ◌*◌, ◌||◌, ◌∙◌, List, length, ap, cond, drop, false, true, ltb, Option, Some, None, ◌≡◌, Bool, eq-eqb}
use Rattle.bitpack_slices.specs.declared.set_error.SetError.TheVariants.{LooseBody, NotSorted}
use Rattle.bitpack_slices.specs.declared.set_error.SetError.{SetError}
use Rattle.std.specs.Option.{option_map, option_or}
use Rattle.bitpack_slices.specs.Bodies.{blocks, numbers}
use Rattle.bitpack_slices.specs.Runs.{are_few, begins_runs, boundaries}
use Rattle.bitpack_slices.specs.Slices.{first_fall, pairs_of}
use Rattle.std.proofs.lemmas.Bool.{ne_eqb}
use Rattle.bitpack_slices.specs.Faults.{blocks_fault, body_fault, runs_fault}

-- the fault of numbers
abbrev pub of_numbers : ℕ → ℕ → ℕ → List ℕ → Option SetError
of_numbers m before count bytes =
    option_or (option_map NotSorted (first_fall before (pairs_of bytes)))
    (cond (are_few (length (boundaries (pairs_of bytes))) count || ltb (length (blocks (pairs_of bytes))) (2 * count)) (Some (LooseBody m)) None)

-- a body of another size is runs or blocks
abbrev else_of : ℕ → ℕ → List ℕ → Bool → Option SetError → Option SetError
else_of m count bytes same numbers = cond same numbers (cond (begins_runs bytes) (runs_fault m count (drop 2 bytes)) (blocks_fault m count bytes))

abbrev or_blocks : ℕ → ℕ → List ℕ → Bool → Option SetError
or_blocks m count bytes begins = cond begins (runs_fault m count (drop 2 bytes)) (blocks_fault m count bytes)

pub fault_of_blocks : (m position count : ℕ) (bytes : List ℕ) → (length bytes ≡ 2 * count → ⊥) → begins_runs bytes ≡ false → body_fault m position count bytes ≡ blocks_fault m count bytes
unfolding body_fault
fault_of_blocks m position count bytes ne other =
    ap (λ (b : Bool). else_of m count bytes b (of_numbers m position count bytes)) (ne_eqb (length bytes) (2 * count) ne) ∙ ap (or_blocks m count bytes) other

pub fault_of_runs : (m position count : ℕ) (bytes : List ℕ) → (length bytes ≡ 2 * count → ⊥) → begins_runs bytes ≡ true → body_fault m position count bytes ≡ runs_fault m count (drop 2 bytes)
unfolding body_fault
fault_of_runs m position count bytes ne begins =
    ap (λ (b : Bool). else_of m count bytes b (of_numbers m position count bytes)) (ne_eqb (length bytes) (2 * count) ne) ∙ ap (or_blocks m count bytes) begins

pub fault_of_numbers : (m before count : ℕ) (bytes : List ℕ) → length bytes ≡ 2 * count → body_fault m before count bytes ≡ of_numbers m before count bytes
unfolding body_fault
fault_of_numbers m before count bytes size = ap (λ (b : Bool). else_of m count bytes b (of_numbers m before count bytes)) (eq-eqb (length bytes) (2 * count) size)
