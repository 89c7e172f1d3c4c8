-- Ranges of bits.
use Rattle.std.proofs.Common.{◌≡◌, ◌≢◌, ◌⊎◌, ℕ, ◌+◌, ◌*◌, ◌/◌, ◌%◌, ◌^◌, ◌-◌, ◌<◌, ◌≤◌, Bool, false, ◌&&◌, ◌||◌, eqb, leb, ltb, List, get_or, set, length, bit_or, sym, ap, ◌∙◌, arith, inl, inr}
use Rattle.std.specs.Int.{bit_at}
use Rattle.std.proofs.lemmas.Bool.{cases_eq, cases_lt, le-leb, le-ltb, lt-ltb}
use Rattle.std.proofs.lemmas.Bool.Decides.{leb_tells}
use Rattle.std.proofs.lemmas.Nat.{pow_pos}
use Rattle.std.proofs.lemmas.Nat.Bits.{bit_at-zero, bit_at_cat_high, bit_at_cat_low, bit_at_ones, bit_at_ones_above, ones_shr}
use Rattle.std.proofs.Math.Bool.{and-false, or-false, or_comm}
use Rattle.bitpack_slices.proofs.lemmas.bits.BitmapLaws.{has_of, has_unchanged, has_written}
use Rattle.bitpack_slices.proofs.lemmas.bits.CombineLaws.{word_or}
use Rattle.bitpack_slices.specs.Bitmaps.{has_bit}

leb_false : (a b : ℕ) → b < a → leb a b ≡ false
leb_false a b h = elim (leb_tells a b) [ inl (e, l) ↦ absurd (omega arith) | inr (e, l) ↦ e ]

-- ---- a word

-- ones that are moved up
moved_ones : (n r i : ℕ) → eqb (bit_at ((2 ^ n - 1) * 2 ^ r) i) 1 ≡ (leb r i && ltb i (r + n))
moved_ones n r i =
    let plain : (2 ^ n - 1) * 2 ^ r ≡ (2 ^ n - 1) * 2 ^ r + 0 = omega arith in
    ap (λ (m : ℕ). eqb (bit_at m i) 1) plain ∙ elim (cases_lt i r) [
      | inl below ↦
          ap (λ (b : ℕ). eqb b 1) (bit_at_cat_low (2 ^ n - 1) r 0 i below ∙ bit_at-zero i)
          ∙ sym (ap (λ (b : Bool). b && ltb i (r + n)) (leb_false r i below))
      | inr from ↦
          ap (λ (b : ℕ). eqb b 1) (bit_at_cat_high (2 ^ n - 1) r 0 i (pow_pos r) from)
          ∙ elim (cases_lt i (r + n)) [
            | inl within ↦ ap (λ (b : ℕ). eqb b 1) (bit_at_ones n (i - r) (omega arith)) ∙ sym (ap (λ (b : Bool). b && ltb i (r + n)) (le-leb r i from) ∙ lt-ltb i (r + n) within)
            | inr past ↦ ap (λ (b : ℕ). eqb b 1) (bit_at_ones_above n (i - r) (omega arith)) ∙ sym (ap (λ (b : Bool). b && ltb i (r + n)) (le-leb r i from) ∙ le-ltb i (r + n) past)
          ]
    ]

low_bits : (x i : ℕ) → i < 64 → bit_at (x % 2 ^ 64) i ≡ bit_at x i
low_bits x i h =
    let split : x ≡ x / 2 ^ 64 * 2 ^ 64 + x % 2 ^ 64 = omega arith in
    sym (ap (λ (n : ℕ). bit_at n i) split ∙ bit_at_cat_low (x / 2 ^ 64) 64 (x % 2 ^ 64) i h)

-- a word of ones from `r` on, as many as `n`
pub ones_within : (n r i : ℕ) → 1 ≤ n → n ≤ 64 → i < 64 → eqb (bit_at ((2 ^ 64 - 1) / 2 ^ (64 - n) * 2 ^ r % 2 ^ 64) i) 1 ≡ (leb r i && ltb i (r + n))
ones_within n r i some few small =
    let own : 64 - (64 - n) ≡ n = omega arith in
    ap (λ (b : ℕ). eqb b 1) (low_bits ((2 ^ 64 - 1) / 2 ^ (64 - n) * 2 ^ r) i small
    ∙ ap (λ (m : ℕ). bit_at (m * 2 ^ r) i) (ones_shr 64 (64 - n) (omega arith) ∙ ap (λ (k : ℕ). 2 ^ k - 1) own))
    ∙ moved_ones n r i

-- ---- words

-- a range that is joined to one before
join_ranges : (from at end i : ℕ) (o : Bool) → from ≤ at → at ≤ end → (((leb from i && ltb i at) || o) || (leb at i && ltb i end)) ≡ ((leb from i && ltb i end) || o)
join_ranges from at end i o h k = elim (cases_lt i at) [
  | inl below ↦
      ap (λ (b : Bool). ((leb from i && ltb i at) || o) || (b && ltb i end)) (leb_false at i below) ∙ or-false ((leb from i && ltb i at) || o)
      ∙ ap (λ (b : Bool). (leb from i && b) || o) (lt-ltb i at below ∙ sym (lt-ltb i end (omega arith)))
  | inr from_on ↦
      ap (λ (b : Bool). ((leb from i && b) || o) || (leb at i && ltb i end)) (le-ltb i at from_on)
      ∙ ap (λ (b : Bool). ((b && false) || o) || (leb at i && ltb i end)) (le-leb from i (omega arith))
      ∙ ap (λ (b : Bool). o || (b && ltb i end)) (le-leb at i from_on) ∙ or_comm o (ltb i end)
      ∙ sym (ap (λ (b : Bool). (b && ltb i end) || o) (le-leb from i (omega arith)))
]

-- in another word it is the same whether a range ends here or there
same_apart : (from at end i : ℕ) (o : Bool) → (i < at → i < end) → (at ≤ i → end ≤ i) → ((leb from i && ltb i at) || o) ≡ ((leb from i && ltb i end) || o)
same_apart from at end i o below above = elim (cases_lt i at) [
  | inl less ↦ ap (λ (b : Bool). (leb from i && b) || o) (lt-ltb i at less ∙ sym (lt-ltb i end (below less)))
  | inr more ↦ ap (λ (b : Bool). (leb from i && b) || o) (le-ltb i at more ∙ sym (le-ltb i end (above more)))
]

-- a range within a word, as bits of it
own_range : (at end i : ℕ) → at ≤ end → end ≤ at / 64 * 64 + 64 → i / 64 ≡ at / 64 → (leb (at % 64) (i % 64) && ltb (i % 64) (at % 64 + (end - at))) ≡ (leb at i && ltb i end)
own_range at end i h k own = elim (cases_lt i at) [
  | inl below ↦ ap (λ (b : Bool). b && ltb (i % 64) (at % 64 + (end - at))) (leb_false (at % 64) (i % 64) (omega arith)) ∙ sym (ap (λ (b : Bool). b && ltb i end) (leb_false at i below))
  | inr from ↦
      ap (λ (b : Bool). b && ltb (i % 64) (at % 64 + (end - at))) (le-leb (at % 64) (i % 64) (omega arith))
      ∙ elim (cases_lt i end) [
        | inl within ↦ lt-ltb (i % 64) (at % 64 + (end - at)) (omega arith) ∙ sym (lt-ltb i end within)
        | inr past ↦ le-ltb (i % 64) (at % 64 + (end - at)) (omega arith) ∙ sym (le-ltb i end past)
      ]
      ∙ sym (ap (λ (b : Bool). b && ltb i end) (le-leb at i from))
]

apart_either : (a b : ℕ) → a ≢ b → (a < b) ⊎ (b < a)
apart_either a b ne = elim (cases_lt a b) [
  | inl less ↦ inl less
  | inr more ↦ elim (cases_lt b a) [ inl less ↦ inr less | inr same ↦ absurd (ne (omega arith)) ]
]

-- a range goes on in one word
pub range_more : (words : List ℕ) (from at end ones i : ℕ) (o : Bool) → from ≤ at → at < end → end ≤ at / 64 * 64 + 64 → at / 64 < length words
    → ((k : ℕ) → k < 64 → eqb (bit_at ones k) 1 ≡ (leb (at % 64) k && ltb k (at % 64 + (end - at))))
    → has_bit words i ≡ ((leb from i && ltb i at) || o)
    → has_bit (set words (at / 64) (bit_or (get_or words (at / 64) 0) ones)) i ≡ ((leb from i && ltb i end) || o)
range_more words from at end ones i o h some room within are before = elim (cases_eq (i / 64) (at / 64)) [
  | inl own ↦
      has_written words (at / 64) (bit_or (get_or words (at / 64) 0) ones) i within own ∙ word_or (get_or words (at / 64) 0) ones (i % 64)
      ∙ ap (λ (b : Bool). b || eqb (bit_at ones (i % 64)) 1) (sym (has_of words (at / 64) i own) ∙ before)
      ∙ ap (λ (b : Bool). ((leb from i && ltb i at) || o) || b) (are (i % 64) (omega arith) ∙ own_range at end i (omega arith) room own)
      ∙ join_ranges from at end i o h (omega arith)
  | inr other ↦ (
      let apart : (i / 64 < at / 64) ⊎ (at / 64 < i / 64) = apart_either (i / 64) (at / 64) other in
      has_unchanged words (at / 64) (bit_or (get_or words (at / 64) 0) ones) i other ∙ before
      ∙ elim apart [
        | inl less ↦ same_apart from at end i o (λ l. omega arith) (λ l. absurd (omega arith))
        | inr more ↦ same_apart from at end i o (λ l. absurd (omega arith)) (λ l. omega arith)
      ])
]

-- a range that has not begun, and one that is done
pub range_none : (from i : ℕ) (o : Bool) → o ≡ ((leb from i && ltb i from) || o)
range_none from i o = sym (ap (λ (b : Bool). b || o) (elim (cases_lt i from) [
  | inl below ↦ ap (λ (b : Bool). b && ltb i from) (leb_false from i below)
  | inr above ↦ ap (λ (b : Bool). leb from i && b) (le-ltb i from above) ∙ and-false (leb from i)
]))
