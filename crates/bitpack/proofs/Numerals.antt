-- How a number is spelled: its decimal digits, and no other string that `parse` accepts.
use Rattle.std.proofs.Common.{◌≡◌, ◌≢◌, ℕ, ◌^◌, ◌<◌, ◌≤◌, List, length, get_or, Result, Ok, Err, sym, ap, subst, ◌∙◌, arith, inl, inr}
use Rattle.std.specs.Int.{IsInRange}
use Rattle.std.specs.Str.Parse.{ParsesUnsigned, AllDigits, digits_value}
use Rattle.std.specs.Result.{OkIff, result_ok}
use Rattle.std.specs.Fmt.{decimal}
use Rattle.std.proofs.lemmas.Str.Parse.{IsNumeralModel, numerals_by_value, tells_digits, digit_at, parse_plain}
use Rattle.std.proofs.lemmas.Fmt.{decimal-digits_value, decimal_nonempty, digits_decimal, digits_value-decimal, first_decimal, decimal_digit}
use Rattle.std.proofs.lemmas.Bool.{cases_eq}
use Rattle.bitpack.specs.inner.Found.{Finds, BeginsNumber}

-- digits, and the number that they write
pub numeral : IsNumeralModel (AllDigits 10) (digits_value 10)
numeral = numerals_by_value (AllDigits 10) tells_digits

-- each byte of a number is a digit
pub decimal-digit : (n i : ℕ) → n < 2 ^ 64 → i < length (decimal n) → IsInRange 48 57 (get_or (decimal n) i 0)
decimal-digit n i small h = digit_at (decimal n) i (digits_decimal numeral n small) h

pub BeginsNumber-decimal : (n : ℕ) → n < 2 ^ 64 → BeginsNumber (decimal n)
BeginsNumber-decimal n small = record {
  digit = decimal-digit n 0 small (decimal_nonempty n small);
  zero = λ e.
      elim (cases_eq n 0) [
        | inl is ↦ subst (λ m. length (decimal m) ≡ 1) (sym is) (ap length (decimal_digit 0 (omega arith)))
        | inr not ↦ absurd (omega (arith, first_decimal n (omega arith) small))
      ];
}

-- what `parse` returns for a string that begins like a number
pub parsed : {E : Type 0} (k : ℕ) (string : List ℕ) (r : Result ℕ E) → 2 ^ k ≤ 2 ^ 64 → ParsesUnsigned k 10 string r → BeginsNumber string
    → Finds (λ n. (string ≡ decimal n) × (n < 2 ^ k)) (result_ok r)
parsed k string r wide parses plain =
    let no_plus : get_or string 0 0 ≢ 43 = λ e. omega (arith, plain.digit) in
    by_cases r (parse_plain numeral k string r parses no_plus)
  where
    by_cases : {E : Type 0} (r : Result ℕ E) → OkIff r (AllDigits 10 string × (0 < length string) × (digits_value 10 string < 2 ^ k)) (digits_value 10 string)
        → Finds (λ n. (string ≡ decimal n) × (n < 2 ^ k)) (result_ok r)
    by_cases (Ok n) ((digits, some, fits), is) =
        let spelled : decimal (digits_value 10 string) ≡ string = decimal-digits_value numeral string digits some plain.zero (omega arith) in
        (sym spelled ∙ ap decimal (sym is), subst (λ m. m < 2 ^ k) (sym is) fits)
    by_cases (Err e) none = λ n (spelled, fits). none (
      subst (AllDigits 10) (sym spelled) (digits_decimal numeral n (omega arith)),
      subst (λ t. 0 < length t) (sym spelled) (decimal_nonempty n (omega arith)),
      subst (λ t. digits_value 10 t < 2 ^ k) (sym spelled) (subst (λ m. m < 2 ^ k) (sym (digits_value-decimal numeral n (omega arith))) fits),
    )

-- a string that does not begin like a number spells none
pub not_plain : (limit : ℕ) (string : List ℕ) → limit ≤ 2 ^ 64 → (BeginsNumber string → ⊥) → (n : ℕ) → (string ≡ decimal n) × (n < limit) → ⊥
not_plain limit string wide other n (spelled, fits) = other (subst BeginsNumber (sym spelled) (BeginsNumber-decimal n (omega arith)))
