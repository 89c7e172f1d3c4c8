-- The worked blocks hold of the definitions, by tests that compute.
use Rattle.std.proofs.Common.{◌≡◌, ℕ, suc, ◌*◌, ◌^◌, ◌<◌, ◌≤◌, ◌==◌, Bool, true, List, length, get_or, refl, sym, arith}
use Rattle.std.specs.Prelude.{nat_lt}
use Rattle.std.specs.Int.{bit_at}
use Rattle.std.specs.List.{list_all}
use Rattle.std.proofs.lemmas.Bool.{agree_below, agree_below_at, eqb-true, ltb-true}
use Rattle.std.proofs.Math.Pow.{pow_mono}
use Rattle.std.proofs.lemmas.List.Sums.{AllPass-from_list_all}
use Rattle.bitpacking.specs.Bits.{bit_of}
use Rattle.bitpacking.specs.Width.{Fits, Least}
use Rattle.bitpacking.specs.Layout.{place, size, Layout}
use Rattle.bitpacking.specs.WorkedBlocks.{ThreeBits, ThreeBitsSorted, FourBits, WrappedFives, FourLanes, AcrossWords, EightLanes, FallWidth, StillWidth, StepsWidth, NoStepsWidth, NoStepsFromLastWidth}

-- whether bit j of code k has its bit number
abbrev at_bit : ℕ → ℕ → List ℕ → List ℕ → ℕ → ℕ → Bool
at_bit lanes width codes bytes k j = bit_at (get_or codes k 0) j == bit_of bytes (place lanes width k j)

abbrev yes : ℕ → Bool
yes _ = true

abbrev all_stand : ℕ → ℕ → List ℕ → List ℕ → Bool
all_stand lanes width codes bytes =
    agree_below yes (λ k. agree_below yes (at_bit lanes width codes bytes k) width) (32 * lanes)

-- whether every code is below 2 ^ width
abbrev all_below : ℕ → List ℕ → Bool
all_below width codes = list_all (λ code. nat_lt code (2 ^ width)) codes

Fits-from_test : (width : ℕ) (codes : List ℕ) → all_below width codes ≡ true → Fits codes width
Fits-from_test width codes h = λ k d lt. ltb-true (get_or codes k d) (2 ^ width) (AllPass-from_list_all (λ code. nat_lt code (2 ^ width)) codes h k d lt)

Layout-from_test : (lanes width : ℕ) (codes bytes : List ℕ) → length codes ≡ 32 * lanes → length bytes ≡ size lanes width
    → all_below width codes ≡ true → all_stand lanes width codes bytes ≡ true → Layout lanes width codes bytes
Layout-from_test lanes width codes bytes code_count byte_count below all = record {
  code_count = code_count;
  byte_count = byte_count;
  fits = Fits-from_test width codes below;
  bits = λ k j hk hj.
      let row : true ≡ agree_below yes (at_bit lanes width codes bytes k) width =
      agree_below_at yes (λ k. agree_below yes (at_bit lanes width codes bytes k) width) (32 * lanes) k all hk in
      eqb-true (bit_at (get_or codes k 0) j) (bit_of bytes (place lanes width k j))
      (sym (agree_below_at yes (at_bit lanes width codes bytes k) width j (sym row) hj));
}

-- the width is least where one code has a bit that high
Least-at : (width : ℕ) (codes : List ℕ) (k : ℕ) → all_below (suc width) codes ≡ true → k < length codes
    → 2 ^ width ≤ get_or codes k 0 → Least codes (suc width)
Least-at width codes k below within high = record {
  fits = Fits-from_test (suc width) codes below;
  least = λ smaller lt fits.
      let under : get_or codes k 0 < 2 ^ smaller = fits k 0 within in
      let le : smaller ≤ width = omega (arith, lt) in
      let narrow : 2 ^ smaller ≤ 2 ^ width = pow_mono le in
      omega arith;
}

Least-none : (codes : List ℕ) → all_below 0 codes ≡ true → Least codes 0
Least-none codes below = record {
  fits = Fits-from_test 0 codes below;
  least = λ smaller lt fits. omega (arith, lt);
}

pub three_bits : ThreeBits
unfolding place
three_bits = Layout-from_test 1 3 _ _ refl refl refl refl

pub three_bits_sorted : ThreeBitsSorted
unfolding place
three_bits_sorted = Layout-from_test 1 3 _ _ refl refl refl refl

pub four_bits : FourBits
unfolding place
four_bits = Layout-from_test 1 4 _ _ refl refl refl refl

pub wrapped_fives : WrappedFives
unfolding place
wrapped_fives = Layout-from_test 1 32 _ _ refl refl refl refl

pub four_lanes : FourLanes
unfolding place
four_lanes = Layout-from_test 4 8 _ _ refl refl refl refl

pub across_words : AcrossWords
unfolding place
across_words = Layout-from_test 4 20 _ _ refl refl refl refl

pub eight_lanes : EightLanes
unfolding place
eight_lanes = Layout-from_test 8 1 _ _ refl refl refl refl

pub fall_width : FallWidth
fall_width = Least-at 31 _ 1 refl (omega arith) (omega arith)

pub still_width : StillWidth
still_width = Least-at 31 _ 1 refl (omega arith) (omega arith)

pub steps_width : StepsWidth
steps_width = Least-at 0 _ 1 refl (omega arith) (omega arith)

pub no_steps_width : NoStepsWidth
no_steps_width = Least-none _ refl

pub no_steps_from_last_width : NoStepsFromLastWidth
no_steps_from_last_width = Least-none _ refl
