-- A query finds only ids that one of its sets has.
use Rattle.std.proofs.Common.{◌≡◌, ℕ, zero, suc, ◌||◌, Bool, true, false, List, [], ◌∷◌, refl, sym, ap, ◌∙◌, get_or}
use Rattle.std.specs.List.{fold, list_any}
use Rattle.std.proofs.lemmas.Bool.{false≢true}
use Rattle.bitpack_slices.specs.Operations.{apply}
use Rattle.bitpack_slices.specs.Reads.{has}
use Rattle.bitpack_slices.specs.declared.operation.Operation.{Operation}
use Rattle.bitpack_queries.specs.Queries.{is_found, passes, waiting_after}
use Rattle.bitpack_queries.specs.declared.step.Step.{Step}
use Rattle.bitpack_queries.specs.declared.step.Step.TheVariants.{Set, Combine}
use Rattle.bitpack_queries.proofs.lemmas.many.FoldLaws.{neither}

-- no operand that waits has the id unless a set has it
abbrev Only : Bool → List Bool → Type 0
Only any [] = Unit {0}
Only any (b ∷ bs) = (b ≡ true → any ≡ true) × Only any bs

only_joined : (operation : Operation) (any a b : Bool) → (a ≡ true → any ≡ true) → (b ≡ true → any ≡ true) → apply operation a b ≡ true → any ≡ true
only_joined operation true a b f g h = refl
only_joined operation false true b f g h = f refl
only_joined operation false false true f g h = g refl
only_joined operation false false false f g h = absurd (false≢true (sym (neither operation) ∙ h))

only_after : (any : Bool) (member : ℕ → Bool) (waiting : List Bool) (step : Step) → ((i : ℕ) → member i ≡ true → any ≡ true) → Only any waiting
    → Only any (waiting_after apply member waiting step)
only_after any member waiting (Set i) has_it only = (has_it i, only)
only_after any member [] (Combine operation) has_it only = tt
only_after any member (b ∷ []) (Combine operation) has_it only = tt
only_after any member (b ∷ a ∷ waiting) (Combine operation) has_it only = (only_joined operation any a b only.1.0 only.0, only.1.1)

only_all : (any : Bool) (member : ℕ → Bool) (waiting : List Bool) (steps : List Step) → ((i : ℕ) → member i ≡ true → any ≡ true) → Only any waiting
    → Only any (fold (waiting_after apply member) waiting steps)
only_all any member waiting [] has_it only = only
only_all any member waiting (step ∷ steps) has_it only =
    only_all any member (waiting_after apply member waiting step) steps has_it (only_after any member waiting step has_it only)

only_first : (any : Bool) (waiting : List Bool) → Only any waiting → get_or waiting 0 false ≡ true → any ≡ true
only_first any [] only h = absurd (false≢true h)
only_first any (b ∷ bs) only h = only.0 h

or_later : (a b : Bool) → b ≡ true → (a || b) ≡ true
or_later true b h = refl
or_later false b h = h

passes_any : (test : List ℕ → Bool) (sets : List (List ℕ)) (i : ℕ) → passes test sets i ≡ true → list_any test sets ≡ true
unfolding passes
passes_any test [] i h = absurd (false≢true h)
passes_any test (xs ∷ sets) zero h = ap (λ (b : Bool). b || list_any test sets) h
passes_any test (xs ∷ sets) (suc i) h = or_later (test xs) (list_any test sets) (passes_any test sets i h)

pub found_in : (sets : List (List ℕ)) (steps : List Step) (x : ℕ) → is_found sets steps x ≡ true → list_any (λ ids. has x ids) sets ≡ true
unfolding is_found
found_in sets steps x h =
    let any = list_any (λ ids. has x ids) sets in
    only_first any (fold (waiting_after apply (passes (has x) sets)) [] steps)
    (only_all any (passes (has x) sets) [] steps (passes_any (has x) sets) tt) h
