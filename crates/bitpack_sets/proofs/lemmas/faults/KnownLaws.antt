-- A body of numbers has no fault exactly if it is that of its numbers.
use Rattle.std.proofs.Common.{◌≡◌, ℕ, ◌*◌, ◌≤◌, ◌||◌, Bool, false, List, length, sym, ap, ◌∙◌, arith, ltb, None, refl}
use Rattle.std.proofs.lemmas.Bool.{le-ltb}
use Rattle.std.specs.Option.{option_map}
use Rattle.bitpack_groups.proofs.ForCallers.{passed}
use Rattle.bitpack_slices.proofs.ForCallers.{EachByte, fault_of_numbers, neither, no_fall, numbers_back, of_numbers, pairs_back, pairs_below, rises_from}
use Rattle.bitpack_sets.proofs.lemmas.encodings.BodyLaws.{few, body_numbers}
use Rattle.bitpack_sets.proofs.lemmas.faults.FaultLaws.{map_none, none_map, none_or, not_below, or_none, some_not}
use Rattle.bitpack_slices.specs.Bodies.{IsRising, blocks, numbers}
use Rattle.bitpack_slices.specs.Faults.{body_fault}
use Rattle.bitpack_slices.specs.Runs.{are_few, boundaries}
use Rattle.bitpack_slices.specs.Slices.{first_fall, pairs_of}
use Rattle.bitpack_slices.specs.declared.set_error.SetError.TheVariants.{LooseBody, NotSorted}
use Rattle.bitpack_sets.specs.Sets.{body}

-- whether numbers are runs or blocks
abbrev loose : ℕ → List ℕ → Bool
loose count xs = are_few (length (boundaries xs)) count || ltb (length (blocks xs)) (2 * count)

pub body_none : (m before count : ℕ) (bytes : List ℕ) → EachByte bytes → length bytes ≡ 2 * count → body_fault m before count bytes ≡ None
    → IsRising 0 65536 (pairs_of bytes) × (length (pairs_of bytes) ≡ count) × (body (pairs_of bytes) ≡ bytes)
body_none m before count bytes are size h =
    let xs : List ℕ = pairs_of bytes in
    let here : of_numbers m before count bytes ≡ None = sym (fault_of_numbers m before count bytes size) ∙ h in
    let (falls, none) = or_none _ _ here in
    let (passes, _) = passed (loose count xs) (LooseBody m) None none in
    let (many_bounds, shorter) = neither (are_few (length (boundaries xs)) count) (ltb (length (blocks xs)) (2 * count)) passes in
    let (many, back) = pairs_back bytes count are size in
    let more = not_below (length (blocks xs)) (2 * count) shorter in (
      rises_from before 65536 xs (pairs_below bytes are) (map_none NotSorted (first_fall before xs) falls),
      many,
      body_numbers xs (ap (are_few (length (boundaries xs))) many ∙ many_bounds) (omega arith) ∙ back,
    )

pub none_body : (m before count : ℕ) (bytes xs : List ℕ) → length bytes ≡ 2 * count → IsRising 0 65536 xs → length xs ≡ count
    → few xs ≡ false → 2 * length xs ≤ length (blocks xs) → numbers xs ≡ bytes → body_fault m before count bytes ≡ None
none_body m before count bytes xs size rises many no_runs more encoding =
    let read : pairs_of bytes ≡ xs = ap pairs_of (sym encoding) ∙ numbers_back 0 xs rises in
    let falls : first_fall before (pairs_of bytes) ≡ None = ap (first_fall before) read ∙ no_fall before 0 65536 xs rises in
    let tight : loose count (pairs_of bytes) ≡ false =
    ap (loose count) read ∙ ap (λ (b : Bool). b || ltb (length (blocks xs)) (2 * count)) (ap (are_few (length (boundaries xs))) (sym many) ∙ no_runs)
    ∙ le-ltb (length (blocks xs)) (2 * count) (omega arith) in
    fault_of_numbers m before count bytes size
    ∙ none_or (option_map NotSorted (first_fall before (pairs_of bytes))) _ (none_map NotSorted (first_fall before (pairs_of bytes)) falls)
    (some_not (loose count (pairs_of bytes)) (LooseBody m) None tight refl)
