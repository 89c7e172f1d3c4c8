-- What calls of a column read, counted turn after turn.
use Rattle.std.proofs.Common.{◌≡◌, ℕ, zero, suc, ◌+◌, ◌-◌, ◌/◌, ◌^◌, ◌<◌, ◌≤◌, Bool, true, [], ◌∷◌, cond, length, Option, None, is_none, refl, sym, ◌∙◌, ap, arith, inl, inr}
use Rattle.std.proofs.lemmas.Bool.{cases_lt, le-leb, lt-leb}
use Rattle.std.proofs.lemmas.List.{length-append}
use Rattle.bitpack_columns.specs.declared.column.Column.{Column}
use Rattle.bitpack_columns.specs.Counted.{is_undecided}
use Rattle.bitpack_columns.specs.Opened.{blocks_of}
use Rattle.bitpack_columns.specs.Searches.{decided, greatest_in, least_in}
use Rattle.bitpack_columns.proofs.RangeLaws.{passing, passing_split}

-- Half of what is left has a digit less.
pub digits_less : (left digits marks more most : ℕ) → 0 < left → left < 2 ^ digits → marks + digits ≤ most → more ≤ marks + 1
    → (less : ℕ) × (left / 2 < 2 ^ less) × (more + less ≤ most)
digits_less left zero marks more most some span few next = absurd (omega arith)
digits_less left (suc less) marks more most some span few next = (less, omega arith, omega arith)

-- ---- numbers that pass a test

module _ (test : ℕ → Bool) where
  -- how many of the `count` numbers from one on
  abbrev pub passed : ℕ → ℕ → ℕ
  passed first count = length (passing test first count)

  pub passed_split : (first m n : ℕ) → passed first (m + n) ≡ passed first m + passed (first + m) n
  passed_split first m n = ap length (passing_split test first m n) ∙ length-append (passing test first m) (passing test (first + m) n)

  -- one more may pass
  pub passed_more : (first at old one new : ℕ) → first ≤ at → one ≤ old + passed first (at - first) → new ≤ one + passed at 1
      → new ≤ old + passed first (at + 1 - first)
  passed_more first at old one new le before next =
      let parts : at + 1 - first ≡ (at - first) + 1 = omega arith in
      let here : first + (at - first) ≡ at = omega arith in
      omega (arith, before, next, ap (passed first) parts, passed_split first (at - first) 1, ap (λ n. passed n 1) here)

  -- fewer numbers are no more
  pub passed_fewer : (first at end : ℕ) → first ≤ at → at ≤ end → passed first (at - first) ≤ passed first (end - first)
  passed_fewer first at end le within =
      let parts : end - first ≡ (at - first) + (end - at) = omega arith in
      omega (arith, ap (passed first) parts, passed_split first (at - first) (end - at))

  pub passed_one : (at : ℕ) → test at ≡ true → passed at 1 ≡ 1
  passed_one at passes = ap (λ b. length (cond b (at ∷ []) [])) passes

-- ---- blocks that are not decided

-- A block of which nothing is decided is one that may be unpacked.
pub undecided_one : (column : Column) (low high block : ℕ) (answer : Option Bool)
    → (block < blocks_of column → answer ≡ decided low high (least_in column block) (greatest_in column block)) → answer ≡ None
    → passed (is_undecided column low high) block 1 ≡ 1
undecided_one column low high block answer decides none = passed_one (is_undecided column low high) block (elim (cases_lt block (blocks_of column)) [
  | inl inside ↦
      let nothing : is_none (decided low high (least_in column block) (greatest_in column block)) ≡ true = ap is_none (sym (decides inside) ∙ none) in
      rw (lt-leb (blocks_of column) block inside) nothing
  | inr tail ↦ rw (le-leb (blocks_of column) block tail) refl
])
