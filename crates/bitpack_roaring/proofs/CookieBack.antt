-- What the cookie, the count and the flags say is read where they were written.
use Rattle.std.proofs.Common.{◌≡◌, ℕ, ◌+◌, ◌-◌, ◌/◌, ◌%◌, ◌^◌, ◌<◌, ◌≤◌, Bool, true, false, cond, eqb, leb, List, [], ◌∷◌, ◌++◌, get_or, lit<, refl, ap, ◌∙◌, arith, append_assoc, length-append}
use Rattle.std.specs.Int.{bit_at}
use Rattle.bitpack_groups.proofs.ForCallers.{little_len}
use Rattle.bitpack_groups.specs.Numbers.{short_at}
use Rattle.bitpack_slices.specs.Bodies.{le_bytes}
use Rattle.bitpack_roaring.proofs.PlaceLaws.{bit_here, short_here}
use Rattle.bitpack_roaring.specs.Roaring.{containers, has_offsets, has_runs, is_run, keys_start}

-- the cookie, a count and flags
abbrev pub cookie_by : Bool → ℕ → ℕ → List ℕ
cookie_by any n x = cond any (le_bytes 2 12347 ++ le_bytes 2 (n - 1) ++ le_bytes ((n + 7) / 8) x) (le_bytes 4 12346 ++ le_bytes 4 n)

four_two : le_bytes 4 12346 ≡ le_bytes 2 12346 ++ (0 ∷ 0 ∷ [])
unfolding le_bytes
four_two = refl

-- the parts of a cookie with runs
with_runs : (a b d rest : List ℕ) → (a ++ b ++ d) ++ rest ≡ a ++ (b ++ (d ++ rest))
with_runs a b d rest = append_assoc (a ++ b) d rest ∙ append_assoc a b (d ++ rest)

module _ (n x : ℕ) (rest bytes : List ℕ) where
  runs_said : (any : Bool) → bytes ≡ cookie_by any n x ++ rest → has_runs bytes ≡ any
  unfolding has_runs
  runs_said true is = ap (λ (v : ℕ). eqb v 12347)
      (short_here 2 0 0 12347 bytes [] (le_bytes 2 (n - 1) ++ (le_bytes ((n + 7) / 8) x ++ rest)) (lit< tt) (is ∙ with_runs (le_bytes 2 12347) (le_bytes 2 (n - 1)) (le_bytes ((n + 7) / 8) x) rest) refl)
  runs_said false is = ap (λ (v : ℕ). eqb v 12347)
      (short_here 2 0 0 12346 bytes [] ((0 ∷ 0 ∷ []) ++ (le_bytes 4 n ++ rest)) (lit< tt)
      (is ∙ append_assoc (le_bytes 4 12346) (le_bytes 4 n) rest ∙ ap (λ (l : List ℕ). l ++ (le_bytes 4 n ++ rest)) four_two ∙ append_assoc (le_bytes 2 12346) (0 ∷ 0 ∷ []) (le_bytes 4 n ++ rest)) refl)

  count_said : (any : Bool) → bytes ≡ cookie_by any n x ++ rest → (any ≡ true → 1 ≤ n) → n ≤ 65536 → containers bytes ≡ n
  unfolding containers
  count_said true is some few =
      let least = some refl in
      let less : n - 1 < 256 ^ 2 = omega arith in
      let more : n - 1 + 1 ≡ n = omega arith in
      ap (λ (b : Bool). cond b (short_at 2 bytes 1 + 1) (short_at 4 bytes 1)) (runs_said true is)
      ∙ ap (λ (v : ℕ). v + 1) (short_here 2 0 1 (n - 1) bytes (le_bytes 2 12347) (le_bytes ((n + 7) / 8) x ++ rest) less
      (is ∙ with_runs (le_bytes 2 12347) (le_bytes 2 (n - 1)) (le_bytes ((n + 7) / 8) x) rest) (little_len 2 12347)) ∙ more
  count_said false is some few =
      let less : n < 256 ^ 4 = omega arith in
      ap (λ (b : Bool). cond b (short_at 2 bytes 1 + 1) (short_at 4 bytes 1)) (runs_said false is)
      ∙ short_here 4 0 1 n bytes (le_bytes 4 12346) rest less (is ∙ append_assoc (le_bytes 4 12346) (le_bytes 4 n) rest) (little_len 4 12346)

  -- without runs the cookie has four bytes
  pub four_said : bytes ≡ cookie_by false n x ++ rest → short_at 4 bytes 0 ≡ 12346
  four_said is = short_here 4 0 0 12346 bytes [] (le_bytes 4 n ++ rest) (lit< tt) (is ∙ append_assoc (le_bytes 4 12346) (le_bytes 4 n) rest) refl

  flag_said : (any : Bool) → bytes ≡ cookie_by any n x ++ rest → x < 256 ^ ((n + 7) / 8) → (m : ℕ) → m < n → is_run bytes m ≡ cond any (eqb (bit_at x m) 1) false
  unfolding is_run
  flag_said true is small m less =
      let k : ℕ = (n + 7) / 8 in
      let a = little_len 2 12347 in
      let b = little_len 2 (n - 1) in
      let front = length-append (le_bytes 2 12347) (le_bytes 2 (n - 1)) in
      ap (λ (r : Bool). cond r (eqb (bit_at (get_or bytes (4 + m / 8) 0) (m % 8)) 1) false) (runs_said true is)
      ∙ ap (λ (v : ℕ). eqb v 1) (bit_here 4 k x m bytes (le_bytes 2 12347 ++ le_bytes 2 (n - 1)) rest small (omega arith) (is ∙ append_assoc (le_bytes 2 12347 ++ le_bytes 2 (n - 1)) (le_bytes k x) rest) (omega arith))
  flag_said false is small m less = ap (λ (r : Bool). cond r (eqb (bit_at (get_or bytes (4 + m / 8) 0) (m % 8)) 1) false) (runs_said false is)

  module _ (any : Bool) (is : bytes ≡ cookie_by any n x ++ rest) (some : any ≡ true → 1 ≤ n) (few : n ≤ 65536) where
    pub runs_are : has_runs bytes ≡ any
    runs_are = runs_said any is

    pub count_is : containers bytes ≡ n
    count_is = count_said any is some few

    pub run_is : x < 256 ^ ((n + 7) / 8) → (m : ℕ) → m < n → is_run bytes m ≡ cond any (eqb (bit_at x m) 1) false
    run_is small m less = flag_said any is small m less

    pub keys_are : keys_start bytes ≡ cond any (4 + (n + 7) / 8) 8
    unfolding keys_start
    keys_are i = cond (runs_are i) (4 + (count_is i + 7) / 8) 8

    pub offsets_are : has_offsets bytes ≡ cond any (leb 4 n) true
    unfolding has_offsets
    offsets_are i = cond (runs_are i) (leb 4 (count_is i)) true
