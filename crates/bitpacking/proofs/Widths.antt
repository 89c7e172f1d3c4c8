-- Every list of u32 has one least width.
use Rattle.std.proofs.Common.{◌≡◌, ℕ, suc, ◌+◌, ◌*◌, ◌^◌, ◌<◌, ◌≤◌, List, [], ◌∷◌, get_or, ◌⊎◌, ⊎_elim, arith}
use Rattle.std.specs.Prelude.{bit_or}
use Rattle.std.specs.List.{fold}
use Rattle.std.proofs.Math.Pow.{pow_mono}
use Rattle.std.proofs.lemmas.Nat.{or_lt, le_or_l, le_or_r, leading_length, pow_pos}
use Rattle.std.proofs.lemmas.Bool.{cases_order}
use Rattle.std.proofs.lemmas.List.Elements.{All-nil, All-cons, All-head, All-tail}
use lib.Count.{count_leading_zeros}
use Rattle.bitpacking.specs.Width.{Fits, Least}
use Rattle.bitpacking.specs.Codes.{AreWords}

pub Fits-more : (values : List ℕ) (width more : ℕ) → width ≤ more → Fits values width → Fits values more
Fits-more values width more le fits k d lt =
    let h : get_or values k d < 2 ^ width = fits k d lt in
    let m : 2 ^ width ≤ 2 ^ more = pow_mono le in
    omega arith

pub Least-same : (values : List ℕ) (v w : ℕ) → Least values v → Least values w → v ≡ w
Least-same values v w a b =
    ⊎_elim (λ e. e)
    (λ (h : (v < w) ⊎ (w < v)). absurd (⊎_elim
    (λ (lt : v < w). b.least v lt a.fits)
    (λ (lt : w < v). a.least w lt b.fits) h))
    (cases_order v w)

-- All the codes in one number, each bit set that one of them has.
abbrev pub or_all : List ℕ → ℕ
or_all values = fold bit_or 0 values

pub fold-bit_or-lt : (a : ℕ) (values : List ℕ) (width : ℕ) → a < 2 ^ width → Fits values width
    → fold bit_or a values < 2 ^ width
fold-bit_or-lt a [] width lt fits = lt
fold-bit_or-lt a (value ∷ values) width lt fits =
    let P : ℕ → Type 0 = λ v. v < 2 ^ width in
    fold-bit_or-lt (bit_or a value) values width (or_lt width a value lt (All-head P value values fits))
    (All-tail P value values fits)

pub le-fold-bit_or : (a : ℕ) (values : List ℕ) → a ≤ fold bit_or a values
le-fold-bit_or a [] = omega arith
le-fold-bit_or a (value ∷ values) = omega (arith, le_or_l a value, le-fold-bit_or (bit_or a value) values)

pub Fits-fold-bit_or : (a : ℕ) (values : List ℕ) (width : ℕ) → fold bit_or a values < 2 ^ width → Fits values width
Fits-fold-bit_or a [] width lt = All-nil (λ v. v < 2 ^ width)
Fits-fold-bit_or a (value ∷ values) width lt =
    All-cons (λ v. v < 2 ^ width) value values
    (omega (arith, le_or_r a value, le-fold-bit_or (bit_or a value) values))
    (Fits-fold-bit_or (bit_or a value) values width lt)

-- The least width is how many digits that number has.
pub Least-or_all : (values : List ℕ) (width : ℕ) → or_all values < 2 ^ width → 2 ^ width ≤ 2 * or_all values + 1
    → Least values width
Least-or_all values width lt le = record {
  fits = Fits-fold-bit_or 0 values width lt;
  least = λ smaller h fits.
      let below : or_all values < 2 ^ smaller = fold-bit_or-lt 0 values smaller (pow_pos smaller) fits in
      let m : 2 ^ (suc smaller) ≤ 2 ^ width = pow_mono h in
      omega arith;
}

-- The least width, and how the leading zeros tell it.
pub least_width : (values : List ℕ) → AreWords values
    → (width : ℕ) × (width ≤ 32) × (Least values width) × (count_leading_zeros 32 (or_all values) + width ≡ 32)
least_width values words =
    let lt : or_all values < 2 ^ 32 = fold-bit_or-lt 0 values 32 (pow_pos 32) words in
    let found = leading_length 32 (or_all values) lt in
    (found.0, omega arith, Least-or_all values found.0 found.2 found.3, found.1)

-- A number that fits the same widths as the list tells its least width by its leading zeros.
pub Least-bits : (values : List ℕ) (bits width : ℕ) → bits < 2 ^ 32
    → ((w : ℕ) → bits < 2 ^ w → Fits values w) → ((w : ℕ) → Fits values w → bits < 2 ^ w)
    → count_leading_zeros 32 bits + width ≡ 32 → Least values width
Least-bits values bits width small up down zeros =
    let found = leading_length 32 bits small in
    let same : found.0 ≡ width = omega (arith, zeros, found.1) in
    let lt : bits < 2 ^ width = rw same at found.2 in
    let le : 2 ^ width ≤ 2 * bits + 1 = rw same at found.3 in
    record {
      fits = up width lt;
      least = λ smaller h fits.
          let below : bits < 2 ^ smaller = down smaller fits in
          let m : 2 ^ (suc smaller) ≤ 2 ^ width = pow_mono h in
          omega arith;
    }
