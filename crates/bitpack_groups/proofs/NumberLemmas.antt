-- A number and its bytes: writing by one byte more, and reading.
use Rattle.std.proofs.Common.{◌≡◌, ℕ, zero, suc, ◌+◌, ◌-◌, ◌*◌, ◌/◌, ◌%◌, ◌^◌, ◌<◌, ◌≤◌, Bool, true, false, cond, ltb, ◌&&◌, Some, None, List, [], ◌∷◌, length, drop, get_or, refl, sym, ◌∙◌, ap, arith, inl, inr}
use Rattle.std.proofs.Math.Pow.{pow_mono}
use Rattle.std.proofs.lemmas.Bool.{lt-ltb, le-ltb, le-leb, lt-leb, eq-eqb, ne_eqb, and_left, and_right, cases_lt, cases_eq}
use Rattle.std.proofs.lemmas.Nat.{mul-le, pow-add}
use Rattle.std.proofs.lemmas.List.{drop_all, drop_more}
use Rattle.std.specs.Prelude.{◌==◌}
use Rattle.bitpacking.specs.Words.{joined}
use Rattle.bitpack_groups.specs.declared.group_error.GroupError.TheVariants.{Short, BadNumber}
use Rattle.bitpack_groups.specs.Numbers.{number_in, number, going_on, number_end, number_value, number_fault}

-- ---- the bytes of a number

pub number_in-small : (more x : ℕ) → x < 128 → number_in (suc more) x ≡ x ∷ []
unfolding number_in
number_in-small more x lt = rw (lt-ltb x 128 lt) refl

pub number_in-large : (more x : ℕ) → 128 ≤ x → number_in (suc more) x ≡ (x % 128 + 128) ∷ number_in more (x / 128)
unfolding number_in
number_in-large more x le = rw (le-ltb x 128 le) refl

pub pow-seven : (n : ℕ) → 2 ^ (7 * suc n) ≡ 128 * 2 ^ (7 * n)
pow-seven n =
    let e : 7 * suc n ≡ 7 * n + 7 = omega arith in
    rw (e, pow-add 2 (7 * n) 7) (omega arith)

-- Room for more bytes changes nothing.
pub number_in-more : (more x : ℕ) → x < 2 ^ (7 * suc more) → number_in (suc more) x ≡ number_in (suc (suc more)) x
number_in-more zero x lt = number_in-small 0 x (omega (arith, lt)) ∙ sym (number_in-small 1 x (omega (arith, lt)))
number_in-more (suc more) x lt =
    elim (cases_lt x 128) [
      | inl small ↦ number_in-small (suc more) x small ∙ sym (number_in-small (suc (suc more)) x small)
      | inr large ↦
          let p : 2 ^ (7 * suc (suc more)) ≡ 128 * 2 ^ (7 * suc more) = pow-seven (suc more) in
          let below : x < 128 * 2 ^ (7 * suc more) = rw (← p) lt in
          number_in-large (suc more) x large ∙ ap (λ zs. (x % 128 + 128) ∷ zs) (number_in-more more (x / 128) (omega arith))
          ∙ sym (number_in-large (suc (suc more)) x large)
    ]

pub number-small : (x : ℕ) → x < 128 → number x ≡ x ∷ []
number-small x lt = number_in-small 4 x lt

pub number-large : (x : ℕ) → 128 ≤ x → x < 2 ^ 32 → number x ≡ (x % 128 + 128) ∷ number (x / 128)
number-large x le lt = number_in-large 4 x le ∙ ap (λ zs. (x % 128 + 128) ∷ zs) (number_in-more 3 (x / 128) (omega arith))

pub length-number_in : (more x : ℕ) → length (number_in more x) ≤ more
unfolding number_in
length-number_in zero x = omega arith
length-number_in (suc more) x =
    elim (cases_lt x 128) [
      | inl small ↦ rw (lt-ltb x 128 small) (omega arith)
      | inr large ↦ rw (le-ltb x 128 large) (omega (arith, length-number_in more (x / 128)))
    ]

-- ---- reading, a byte at a time

pub going-past : (most i : ℕ) (bytes : List ℕ) → length bytes ≤ i → going_on most (drop i bytes) ≡ 0
unfolding going_on
going-past zero i bytes le = refl
going-past (suc most) i bytes le = rw (drop_all i bytes le) refl

pub going-stop : (most i : ℕ) (bytes : List ℕ) → i < length bytes → get_or bytes i 0 < 128 → going_on most (drop i bytes) ≡ 0
unfolding going_on
going-stop zero i bytes lt last = refl
going-stop (suc most) i bytes lt last = rw (drop_more bytes i 0 lt, lt-ltb (get_or bytes i 0) 128 last) refl

pub going-next : (most i : ℕ) (bytes : List ℕ) → i < length bytes → 128 ≤ get_or bytes i 0
    → going_on (suc most) (drop i bytes) ≡ suc (going_on most (drop (i + 1) bytes))
unfolding going_on
going-next most i bytes lt more = rw (drop_more bytes i 0 lt, le-ltb (get_or bytes i 0) 128 more) refl

-- One byte more of the value, and how large it may be then.
pub value-more : (f : ℕ → ℕ) (i : ℕ) → i < 5 → f i < 128 → joined 7 f i < 2 ^ (7 * i)
    → (f i * 2 ^ (7 * i) % 2 ^ 64 ≡ f i * 2 ^ (7 * i)) × (joined 7 f (i + 1) ≡ joined 7 f i + f i * 2 ^ (7 * i))
    × (joined 7 f (i + 1) < 2 ^ (7 * (i + 1))) × (joined 7 f i + f i * 2 ^ (7 * i) < 2 ^ 35)
unfolding joined
value-more f i lt small below =
    let p : 2 ^ (7 * suc i) ≡ 128 * 2 ^ (7 * i) = pow-seven i in
    let few : 2 ^ (7 * i) ≤ 2 ^ 28 = pow_mono {j = 28} (omega arith) in
    let le : f i * 2 ^ (7 * i) ≤ 127 * 2 ^ (7 * i) = mul-le (f i) (2 ^ (7 * i)) 127 (2 ^ (7 * i)) (omega arith) (omega arith) in
    let e : i + 1 ≡ suc i = omega arith in
    rw (e, p) (omega arith, omega arith, omega arith, omega arith)

-- ---- what a reader finds

cond-same : {A : Type 0} (test : Bool) (x : A) → cond test x x ≡ x
cond-same true x = refl
cond-same false x = refl

module _ (i : ℕ) (bytes : List ℕ) (going : going_on 5 bytes ≡ i) where
  pub number_end-is : number_end bytes ≡ i + 1
  unfolding number_end
  number_end-is = rw going refl

  pub number_value-is : number_value bytes ≡ joined 7 (λ k. get_or bytes k 0 % 128) (i + 1)
  unfolding number_value
  number_value-is = rw number_end-is refl

  pub endless : i ≡ 5 → number_fault bytes ≡ Some BadNumber
  unfolding number_fault
  endless five = rw (going, five) refl

  pub cut_off : i < 5 → length bytes ≤ i → number_fault bytes ≡ Some Short
  unfolding number_fault
  cut_off few le = rw (going, ne_eqb i 5 (λ e. omega arith), le-leb (length bytes) i le) refl

  module _ (few : i < 5) (within : i < length bytes) where
    pub zero_last : 0 < i → get_or bytes i 0 ≡ 0 → number_fault bytes ≡ Some BadNumber
    unfolding number_fault
    zero_last some none = rw (going, ne_eqb i 5 (λ e. omega arith), lt-leb (length bytes) i within, eq-eqb _ 0 none, lt-ltb 0 i some) refl

    pub too_large : 2 ^ 32 ≤ number_value bytes → number_fault bytes ≡ Some BadNumber
    unfolding number_fault
    too_large large =
        rw (going, ne_eqb i 5 (λ e. omega arith), lt-leb (length bytes) i within, le-leb (2 ^ 32) (number_value bytes) large)
        (cond-same (get_or bytes i 0 == 0 && ltb 0 i) (Some BadNumber))

    pub no_fault : (get_or bytes i 0 ≡ 0 → i ≡ 0) → number_value bytes < 2 ^ 32 → number_fault bytes ≡ None
    unfolding number_fault
    no_fault last small =
        let test : (get_or bytes i 0 == 0 && ltb 0 i) ≡ false =
        elim (cases_eq (get_or bytes i 0) 0) [
          | inl none ↦ and_right (get_or bytes i 0 == 0) (ltb 0 i) (le-ltb 0 i (omega (arith, last none)))
          | inr some ↦ and_left (get_or bytes i 0 == 0) (ltb 0 i) (ne_eqb (get_or bytes i 0) 0 some)
        ] in
        rw (going, ne_eqb i 5 (λ e. omega arith), lt-leb (length bytes) i within, test, lt-leb (2 ^ 32) (number_value bytes) small) refl

pub joined-none : (f : ℕ → ℕ) → joined 7 f 0 ≡ 0
unfolding joined
joined-none f = refl

pub nothing_left : (bytes : List ℕ) → going_on 0 bytes ≡ 0
unfolding going_on
nothing_left bytes = refl

-- At a byte that says that no other follows.
module _ (i value : ℕ) (bytes : List ℕ) (few : i < 5) (within : i < length bytes) (last : get_or bytes i 0 < 128)
    (going : going_on 5 bytes ≡ i + going_on (5 - i) (drop i bytes)) (is : value ≡ joined 7 (λ k. get_or bytes k 0 % 128) i) (below : value < 2 ^ (7 * i)) where
  pub going-here : going_on 5 bytes ≡ i
  going-here = omega (arith, going-stop (5 - i) i bytes within last)

  pub value-here : value + get_or bytes i 0 % 128 * 2 ^ (7 * i) % 2 ^ 64 ≡ number_value bytes
  value-here =
      let more = value-more (λ k. get_or bytes k 0 % 128) i few (omega arith) (rw (← is) below) in
      rw (more.0, is) (sym more.1) ∙ sym (number_value-is i bytes going-here)
