-- Queries: trees of operations on sets, in postfix order.
use Rattle.std.specs.Prelude.{◌≡◌, ℕ, ◌+◌, ◌-◌, ◌/◌, ◌%◌, ◌^◌, ◌<◌, ◌&&◌, ◌==◌, nat_lt, nat_le, if◌then◌else◌, Bool, false, List, [], ◌∷◌, get_or, map, max, slice_index_or, Option, Some, None, Result, Ok, Err}
use Rattle.std.specs.List.{fold, list_any}
use Rattle.bitpack_slices.specs.Bitmaps.{has_bit}
use Rattle.bitpack_slices.specs.Operations.{apply, can_give, those}
use Rattle.bitpack_slices.specs.Reads.{has}
use Rattle.bitpack_slices.specs.declared.operation.Operation.{Operation}
use Rattle.bitpack_queries.specs.declared.query_error.QueryError.{QueryError}
use Rattle.bitpack_queries.specs.declared.query_error.QueryError.TheVariants.{Empty, LeftOver, MissingOperand, NoSet, Short, TooDeep}
use Rattle.bitpack_queries.specs.declared.step.Step.{Step}
use Rattle.bitpack_queries.specs.declared.step.Step.TheVariants.{Set, Combine}

-- ---- the steps

-- the first fault of steps from a position on, before which `depth` operands wait: at most `most` may wait
unfoldable pub fault_from : ℕ → ℕ → ℕ → ℕ → List Step → Option QueryError
fault_from most sets position depth [] = if depth == 0 then Some Empty else if depth == 1 then None else Some (LeftOver depth)
fault_from most sets position depth (Set i ∷ steps) =
    if nat_le sets i then Some (NoSet position)
    else if depth == most then Some (TooDeep position)
    else fault_from most sets (position + 1) (depth + 1) steps
fault_from most sets position depth (Combine operation ∷ steps) =
    if nat_lt depth 2 then Some (MissingOperand position) else fault_from most sets (position + 1) (depth - 1) steps

-- the first fault is found, or there is none
abbrev pub FindsFault : {A : Type 0} → Result A QueryError → Option QueryError → Type 0
FindsFault (Ok _) fault = fault ≡ None
FindsFault (Err found) fault = fault ≡ Some found

-- the most operands that wait at once, if `depth` wait before these steps
unfoldable pub most_waiting : ℕ → List Step → ℕ
most_waiting depth [] = depth
most_waiting depth (Set i ∷ steps) = max depth (most_waiting (depth + 1) steps)
most_waiting depth (Combine operation ∷ steps) = max depth (most_waiting (depth - 1) steps)

-- the first fault of a query: the first of its steps, or that there are fewer bitmaps than operands that wait at once
abbrev pub or_short : ℕ → ℕ → Option QueryError → Option QueryError
or_short bitmaps most (Some fault) = Some fault
or_short bitmaps most None = if nat_lt bitmaps most then Some (Short most) else None

abbrev pub query_fault : ℕ → ℕ → List Step → Option QueryError
query_fault bitmaps sets steps = or_short bitmaps (most_waiting 0 steps) (fault_from 64 sets 0 0 steps)

-- the operands that wait after a step, the last first: each says whether it has an id, or whether it can have one. `joined` says it of an
-- operation on two operands, `member` of a set.
abbrev pub waiting_after : (Operation → Bool → Bool → Bool) → (ℕ → Bool) → List Bool → Step → List Bool
waiting_after joined member waiting (Set i) = member i ∷ waiting
waiting_after joined member (b ∷ a ∷ waiting) (Combine operation) = joined operation a b ∷ waiting
waiting_after joined member waiting (Combine operation) = []

abbrev pub evaluate : (Operation → Bool → Bool → Bool) → List Step → (ℕ → Bool) → List Bool
evaluate joined steps member = fold (waiting_after joined member) [] steps

-- ---- the answer

-- set i passes a test
unfoldable pub passes : (List ℕ → Bool) → List (List ℕ) → ℕ → Bool
passes test sets i = get_or (map test sets) i false

-- an id is in the answer: the steps leave true
unfoldable pub is_found : List (List ℕ) → List Step → ℕ → Bool
is_found sets steps x = get_or (evaluate apply steps (passes (has x) sets)) 0 false

-- the ids of the answer
abbrev pub answer_of : List (List ℕ) → List Step → List ℕ
answer_of sets steps = those (2 ^ 32) (is_found sets steps)

-- the first bitmap says which ids of a key are found, if they have one of these high bytes, and no others are
abbrev pub IsLoaded : (ℕ → Bool) → ℕ → List ℕ → List (List ℕ) → Type 0
IsLoaded found key highs bitmaps =
    (x : ℕ) → x < 2 ^ 32 → x / 65536 ≡ key → found x ≡ (has_bit highs (x % 65536 / 256) && has_bit (slice_index_or bitmaps 0 []) (x % 65536))

-- ---- the keys of the answer

-- one of the ids has a key from one to another
abbrev pub has_keys : ℕ → ℕ → List ℕ → Bool
has_keys from to xs = list_any (λ x. nat_le from (x / 65536) && nat_le (x / 65536) to) xs

-- the answer can have ids, by which sets have ids of these keys
unfoldable pub can_find : List (List ℕ) → List Step → ℕ → ℕ → Bool
can_find sets steps from to = get_or (evaluate can_give steps (passes (has_keys from to) sets)) 0 false
