-- Decimal digits that are written from the last to the first.
use Rattle.std.proofs.Common.{◌≡◌, ℕ, zero, suc, ◌+◌, ◌-◌, ◌/◌, ◌%◌, ◌*◌, ◌^◌, ◌<◌, ◌≤◌, List, [], ◌∷◌, ◌++◌, length, drop, set, refl, sym, ap, subst, ◌∙◌, append_assoc, append-nil, add-one, arith}
use Rattle.std.specs.Fmt.{decimal}
use Rattle.std.proofs.Math.Nat.{pow-suc}
use Rattle.std.proofs.lemmas.Fmt.{decimal_digit, decimal_step}
use Rattle.std.proofs.lemmas.Grind.{common_steps, drop-set_at}

-- the digits of `left` are still to be written, before those after `start`
pub record DigitsAfter (value : ℕ) (bytes : List ℕ) (start left : ℕ) : Type 0 where
  pub within : start < 10
  pub size : length bytes ≡ 10
  pub few : left < 10 ^ (start + 1)
  pub small : left < 2 ^ 64
  pub digits : decimal value ≡ decimal left ++ drop (start + 1) bytes

pub digits_begin : (value : ℕ) (bytes : List ℕ) → length bytes ≡ 10 → value < 2 ^ 32 → DigitsAfter value bytes 9 value
digits_begin value bytes e word =
    let none : drop 10 bytes ≡ [] = grind (arith, common_steps) in
    record {
      within = omega arith;
      size = e;
      few = omega arith;
      small = omega arith;
      digits = sym (append-nil (decimal value)) ∙ ap (λ l. decimal value ++ l) (sym none);
    }

-- there is room for one more digit
pub digits_room : (value : ℕ) (bytes : List ℕ) (start left : ℕ) → DigitsAfter value bytes start left → 10 ≤ left → 1 ≤ start
digits_room value bytes zero left so_far more = omega (arith, so_far.few)
digits_room value bytes (suc start) left so_far more = omega arith

pub digits_step : (value : ℕ) (bytes : List ℕ) (start left : ℕ) → DigitsAfter value bytes start left → 10 ≤ left
    → DigitsAfter value (set bytes start (48 + left % 10)) (start - 1) (left / 10)
digits_step value bytes zero left so_far more = absurd (omega (arith, so_far.few))
digits_step value bytes (suc start) left so_far more =
    let digit : ℕ = 48 + left % 10 in
    let longer : 10 ^ (suc start + 1) ≡ 10 ^ (start + 1) * 10 = ap (λ n. 10 ^ n) (add-one (suc start)) ∙ pow-suc 10 (suc start) ∙ ap (λ n. 10 ^ n * 10) (sym (add-one start)) in
    let written : drop (start + 1) (set bytes (suc start) digit) ≡ digit ∷ drop (suc start + 1) bytes = drop-set_at bytes (suc start) (start + 1) digit (omega arith) (omega (arith, so_far.within, so_far.size)) in
    let less : suc start - 1 ≡ start = omega arith in
    subst (λ n. DigitsAfter value (set bytes (suc start) digit) n (left / 10)) (sym less) (record {
      within = omega (arith, so_far.within);
      size = grind (arith, common_steps, so_far.size);
      few = omega (arith, longer, so_far.few);
      small = omega (arith, so_far.small);
      digits = so_far.digits ∙ ap (λ l. l ++ drop (suc start + 1) bytes) (decimal_step left more so_far.small)
          ∙ append_assoc (decimal (left / 10)) (digit ∷ []) (drop (suc start + 1) bytes) ∙ ap (λ l. decimal (left / 10) ++ l) (sym written);
    })

pub digits_done : (value : ℕ) (bytes : List ℕ) (start left : ℕ) → DigitsAfter value bytes start left → left < 10
    → drop start (set bytes start (48 + left)) ≡ decimal value
digits_done value bytes start left so_far last =
    drop-set_at bytes start start (48 + left) refl (omega (arith, so_far.within, so_far.size))
    ∙ ap (λ l. l ++ drop (start + 1) bytes) (sym (decimal_digit left last)) ∙ sym so_far.digits
