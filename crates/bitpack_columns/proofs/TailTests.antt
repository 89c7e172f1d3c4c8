-- The tests of a tail, by what is found of its codes.
use Rattle.std.proofs.Common.{◌≡◌, ℕ, zero, suc, ◌/◌, ◌%◌, ◌<◌, Bool, true, false, cond, eqb, List, ◌++◌, length, drop, replicate, Option, Some, None, refl, sym, ◌∙◌, arith}
use Rattle.std.proofs.lemmas.Bool.{lt-ltb}
use Rattle.bitpack_groups.proofs.ForCallers.{no_groups-after, no_groups-fault}
use Rattle.bitpack_columns.specs.declared.column_kind.ColumnKind.TheVariants.{Plain, Sorted}
use Rattle.bitpack_columns.specs.declared.column_error.ColumnError.TheVariants.{BadLast, Trailing}
use Rattle.bitpack_columns.specs.Columns.{base_of, least, left_out}
use Rattle.bitpack_columns.specs.Faults.{first_out, has_least, least_fault, least_number_fault, tail_fault}
use Rattle.bitpack_columns.specs.Numbers.{after_groups, groups_codes, groups_fault, groups_of, number_end, number_fault, number_value, of}
use Rattle.bitpack_columns.specs.Opening.{front_values, plain_tail_fault, sorted_tail_fault}
use Rattle.bitpack_columns.specs.Reads.{coded, mark_at, tail_at, tail_values, values_of}
use Rattle.bitpack_columns.specs.Sound.{AreBlocks}
use Rattle.bitpack_columns.proofs.OpeningLaws.{front-last, out-front}

-- ---- of a plain column

pub plain_none : (blocks count : ℕ) (tail : List ℕ) → count ≡ 0 → plain_tail_fault blocks count tail ≡ cond (eqb (length tail) 0) None (Some Trailing)
unfolding plain_tail_fault
plain_none blocks count tail none = rw none (rw (no_groups-fault 0 0 blocks 0 tail (omega arith), no_groups-after 0 0 0 tail (omega arith)) refl)

-- the codes of a tail of one value or more
abbrev pub plain_codes : ℕ → ℕ → List ℕ → List ℕ
plain_codes blocks count groups = replicate (left_out Plain blocks count) 0 ++ groups_codes (groups_of (coded Plain blocks count)) (coded Plain blocks count) groups

-- what is after the number is named
decided : (blocks count : ℕ) (tail later : List ℕ) (right : Bool) → 0 < count → of (number_fault tail) ≡ None
    → of (groups_fault (groups_of (coded Plain blocks count)) blocks (coded Plain blocks count) (drop (number_end tail) tail)) ≡ None
    → later ≡ after_groups (groups_of (coded Plain blocks count)) (coded Plain blocks count) (drop (number_end tail) tail)
    → eqb (least (values_of Plain (number_value tail) (plain_codes blocks count (drop (number_end tail) tail)))) (number_value tail) ≡ right
    → plain_tail_fault blocks count tail ≡ cond right (cond (eqb (length later) 0) None (Some Trailing)) (Some (BadLast blocks))
unfolding plain_tail_fault
decided blocks zero tail later right some number sound later_is test = absurd (omega arith)
decided blocks (suc more) tail later true some number sound later_is test =
    let has : has_least Plain (suc more) ≡ true = lt-ltb 0 (suc more) some in
    rw (has, number, sound, test, later_is) refl
decided blocks (suc more) tail later false some number sound later_is test =
    let has : has_least Plain (suc more) ≡ true = lt-ltb 0 (suc more) some in
    rw (has, number, sound, test) refl

pub plain_decided : (blocks count base : ℕ) (tail groups codes later : List ℕ) → 0 < count → of (number_fault tail) ≡ None → groups ≡ drop (number_end tail) tail
    → of (groups_fault (groups_of (coded Plain blocks count)) blocks (coded Plain blocks count) groups) ≡ None → base ≡ number_value tail
    → codes ≡ plain_codes blocks count groups → later ≡ after_groups (groups_of (coded Plain blocks count)) (coded Plain blocks count) groups
    → (right : Bool) → eqb (least (values_of Plain base codes)) base ≡ right
    → plain_tail_fault blocks count tail ≡ cond right (cond (eqb (length later) 0) None (Some Trailing)) (Some (BadLast blocks))
plain_decided blocks count base tail groups codes later some number groups_is sound base_is codes_is later_is right decides =
    decided blocks count tail later right some number (rw groups_is at sound) (rw groups_is at later_is) (rw (base_is, codes_is, groups_is) at decides)

pub plain_tail : (first count : ℕ) (rest : List ℕ) → tail_fault Plain first count rest ≡ plain_tail_fault (count / 128) (count % 128) (tail_at (count / 128) rest)
unfolding tail_fault plain_tail_fault least_number_fault least_fault first_out
plain_tail first count rest = refl

-- ---- of a sorted column

pub sorted_tail : (first count before : ℕ) (rest : List ℕ) (out : Option ℕ) → (0 < count / 128 → AreBlocks Sorted first (count / 128) rest)
    → before ≡ base_of Sorted first (mark_at (count / 128) rest) (count / 128)
    → out ≡ first_out Sorted first (front_values Sorted first (count / 128) rest (count / 128))
    → tail_fault Sorted first count rest ≡ sorted_tail_fault (count / 128) (count % 128) before out (tail_at (count / 128) rest)
unfolding tail_fault sorted_tail_fault least_number_fault least_fault
sorted_tail first count before rest out are before_is out_is =
    let blocks : ℕ = count / 128 in
    let last = front-last first blocks rest blocks (λ k lt. (are (omega arith)).marks k lt) in
    let order = out-front Sorted first blocks blocks before rest (tail_values Sorted first blocks (count % 128) rest) (λ _. last ∙ sym before_is) in
    rw (order, out_is, before_is) refl
