-- One lane of a loop that unpacks: each code is a field of the lane's number.
use Rattle.bitpacking.specs.Layout.{Layout}
use Rattle.bitpacking.proofs.LaneEquations.{lane_code, lane_word, lane_code-lt, lanes-from_layout}
use Rattle.bitpacking.specs.Words.{joined}
pub use Rattle.bitpacking.specs.inner.Partway.{Unpacked}
use Rattle.bitpacking.specs.Bits.{AreBytes}
use Rattle.std.proofs.Common.{List, ◌≡◌, ℕ, zero, suc, ◌+◌, ◌-◌, ◌*◌, ◌/◌, ◌%◌, ◌^◌, ◌<◌, ◌≤◌, sym, ◌∙◌, ap, arith}
use Rattle.std.specs.Prelude.{bit_and, bit_or}
use Rattle.std.proofs.Math.Nat.{mod-eq_of_lt}
use Rattle.std.proofs.lemmas.Nat.{or_mod, shr-shr, mod-pow-add, field_of, mod_below, pow_pos, mul-le, and_mask, one_shl}
use Rattle.bitpacking.proofs.Digits.{Small, joined-zero, joined-suc, joined-lt, same_digits}
use Rattle.bitpacking.proofs.PackedLane.{or_above}
use Rattle.std.proofs.Math.Pow.{mod-mod-pow}

-- Digit k of w bits of a number.
abbrev pub digit : ℕ → ℕ → ℕ → ℕ
digit w number k = number / 2 ^ (w * k) % 2 ^ w

pub joined-digit : (w number n : ℕ) → joined w (digit w number) n ≡ number % 2 ^ (w * n)
joined-digit w number zero =
    let none : w * 0 ≡ 0 = omega arith in
    joined-zero w (digit w number) ∙ rw none (omega arith)
joined-digit w number (suc n) =
    let rest : joined w (digit w number) n ≡ number % 2 ^ (w * n) = joined-digit w number n in
    let e : w * suc n ≡ w + w * n = omega arith in
    joined-suc w (digit w number) n ∙ rw (rest, e) (sym (mod-pow-add number w (w * n)))

pub digit-joined : (w : ℕ) (f : ℕ → ℕ) (n i : ℕ) → Small w f n → i < n → digit w (joined w f n) i ≡ f i
digit-joined w f n i small lt =
    same_digits w (digit w (joined w f n)) f n
    (λ k h. mod_below (joined w f n / 2 ^ (w * k)) (2 ^ w) (pow_pos w)) small
    (joined-digit w (joined w f n) n ∙ mod-eq_of_lt (joined-lt w f n small)) i lt

pub Unpacked-start : (w number : ℕ) → Unpacked w number 0 0 0 0
Unpacked-start w number = record { is = omega arith }

-- A code that is pending whole.
pub Unpacked-whole : (w number n loaded left pending : ℕ) → w ≤ left
    → Unpacked w number n loaded left pending
    → (pending % 2 ^ w ≡ digit w number n) × (Unpacked w number (n + 1) loaded (left - w) (pending / 2 ^ w))
Unpacked-whole w number n loaded left pending le unpacked =
    let split : left - w + w ≡ left = omega arith in
    let next : w * (n + 1) ≡ w * n + w = omega arith in
    let is : pending ≡ number / 2 ^ (w * n) % 2 ^ (left - w + w) = rw split unpacked.is in (
      rw is (mod-mod-pow (number / 2 ^ (w * n)) (left - w) w),
      record { is = rw (is, next) (field_of (number / 2 ^ (w * n)) (left - w) w ∙ ap (λ x. x % 2 ^ (left - w)) (shr-shr number (w * n) w)) },
    )

-- A code whose upper bits are in the next word.
pub Unpacked-load : (w number n loaded left pending word : ℕ) → left < w → w ≤ 32 → 32 * loaded ≡ w * n + left
    → word ≡ digit 32 number loaded
    → Unpacked w number n loaded left pending
    → (bit_or pending ((word * 2 ^ left) % 2 ^ 32) % 2 ^ w ≡ digit w number n)
    × (Unpacked w number (n + 1) (loaded + 1) (left + 32 - w) (word / 2 ^ (w - left)))
Unpacked-load w number n loaded left pending word lt fit offset read unpacked =
    let word' : word ≡ number / 2 ^ (w * n) / 2 ^ left % 2 ^ 32 =
    read ∙ rw offset (ap (λ x. x % 2 ^ 32) (sym (shr-shr number (w * n) left))) in
    let whole : number / 2 ^ (w * n) % 2 ^ (32 + left) ≡ word * 2 ^ left + pending =
    rw (word', unpacked.is) (mod-pow-add (number / 2 ^ (w * n)) 32 left) in
    let small : pending < 2 ^ left = rw unpacked.is (mod_below (number / 2 ^ (w * n)) (2 ^ left) (pow_pos left)) in
    let wide : 32 - w + w ≡ 32 = omega arith in
    let wide' : 32 + left - w + w ≡ 32 + left = omega arith in
    let cut : (word * 2 ^ left) % 2 ^ 32 % 2 ^ w ≡ (word * 2 ^ left) % 2 ^ w =
    rw wide at (mod-mod-pow (word * 2 ^ left) (32 - w) w) in
    let cut' : number / 2 ^ (w * n) % 2 ^ (32 + left) % 2 ^ w ≡ number / 2 ^ (w * n) % 2 ^ w =
    rw wide' at (mod-mod-pow (number / 2 ^ (w * n)) (32 + left - w) w) in
    let code : bit_or pending ((word * 2 ^ left) % 2 ^ 32) % 2 ^ w ≡ digit w number n =
    or_mod pending ((word * 2 ^ left) % 2 ^ 32) w
    ∙ ap (λ x. bit_or (pending % 2 ^ w) x) cut
    ∙ sym (or_mod pending (word * 2 ^ left) w)
    ∙ ap (λ x. x % 2 ^ w) (or_above pending word left small ∙ sym whole)
    ∙ cut' in
    let back : left + 32 - w + (w - left) ≡ 32 = omega arith in
    let on : left + (w - left) ≡ w = omega arith in
    let next : w * (n + 1) ≡ w * n + w = omega arith in
    let field : number / 2 ^ (w * n) / 2 ^ left % 2 ^ 32 / 2 ^ (w - left)
    ≡ number / 2 ^ (w * n) / 2 ^ left / 2 ^ (w - left) % 2 ^ (left + 32 - w) =
    rw back at (field_of (number / 2 ^ (w * n) / 2 ^ left) (left + 32 - w) (w - left)) in
    let up : number / 2 ^ (w * n) / 2 ^ left / 2 ^ (w - left) ≡ number / 2 ^ (w * n + w) =
    rw on at (shr-shr (number / 2 ^ (w * n)) left (w - left)) ∙ shr-shr number (w * n) w in
    (code, record { is = rw (word', next) (field ∙ ap (λ x. x % 2 ^ (left + 32 - w)) up) })

-- The mask of the low bits, as the code computes it.
pub masked : (n w : ℕ) → w < 32 → bit_and n ((1 * 2 ^ w) % 2 ^ 32 - 1) ≡ n % 2 ^ w
masked n w lt = rw (one_shl w 32 lt) (and_mask n w)

-- A word is loaded only where there is one.
pub words_left : (w n loaded left : ℕ) → n < 32 → 32 * loaded ≡ w * n + left → left < w → loaded < w
words_left w n loaded left lt offset need =
    let h : (n + 1) * w ≤ 32 * w = mul-le (n + 1) w 32 w (omega arith) (omega arith) in
    omega arith

-- The digits of a lane's number are the lane's codes, in any layout of the bytes.
pub digit-code : (lanes width : ℕ) (values bytes : List ℕ) → AreBytes bytes → Layout lanes width values bytes
    → (l : ℕ) → l < lanes → (i : ℕ) → i < 32
    → digit width (joined 32 (lane_word lanes bytes l) width) i ≡ lane_code lanes values l i
digit-code lanes width values bytes small layout l lt i hi =
    let same = lanes-from_layout lanes width values bytes small layout l lt in
    rw same.same (digit-joined width (lane_code lanes values l) 32 i
    (lane_code-lt lanes width values l layout.code_count layout.fits lt) hi)
