-- The bits of the numbers of parts are set where no bit was 1, slice by slice, or all words at once if each slice is bits.
use borrow.Rule.Slice.PartMut.{put_mid}
use Rattle.std.proofs.Common.{◌≡◌, ℕ, zero, suc, ◌+◌, ◌-◌, ◌*◌, ◌/◌, ◌%◌, ◌<◌, ◌≤◌, Bool, true, false, ◌&&◌, ◌||◌, ltb, cond, List, [], ◌∷◌, take, drop, length, get_or, refl, sym, ap, ◌∙◌, arith, inl, inr, eq-eqb}
use Rattle.std.proofs.lemmas.Bool.{cases_lt, cond_above, cond_below}
use Rattle.std.proofs.lemmas.Bool.Decides.{eqb_tells}
use Rattle.std.proofs.lemmas.List.{take_all}
use Rattle.bitpack_slices.proofs.lemmas.bits.CountLaws.{rising_to, some_numbers}
use Rattle.bitpack_slices.proofs.lemmas.bodies.CutLaws.{len_few, slice_cut, slices_size}
use Rattle.bitpack_slices.proofs.lemmas.bodies.LoadLaws.{bit_own, bit_rest, has_taken}
use Rattle.bitpack_slices.proofs.lemmas.bodies.ReadLaws.{full_numbers, in_numbers, not_in, slice_at}
use Rattle.bitpack_slices.proofs.lemmas.bytes.DecodeLaws.{range_at}
use Rattle.bitpack_slices.proofs.lemmas.numbers.HalfLaws.{has_at_rank, rank_above, rank_under}
use Rattle.bitpack_slices.specs.Bitmaps.{has_bit}
use Rattle.bitpack_slices.specs.Bodies.{IsRising}
use Rattle.bitpack_slices.specs.Reads.{has, rank}
use Rattle.bitpack_slices.specs.Slices.{AreSlices, IsSlice, number_of, numbers_of, ones_from, slice_len, slice_numbers, slices_len}

-- ---- one slice more

pub slice_set : (P : ℕ → Bool) (i from k : ℕ) (highs words bits : List ℕ) → i < length highs → from ≡ 4 * get_or highs i 0 → k ≡ 4 → length bits ≡ 4 → from ≤ length words
    → ((y : ℕ) → y < 256 → has_bit bits y ≡ P (256 * get_or highs i 0 + y))
    → ((x : ℕ) → x < 65536 → has_bit words x ≡ (has (x / 256) (take i highs) && P x))
    → (x : ℕ) → x < 65536 → has_bit (put_mid from k words bits) x ≡ (has (x / 256) (take (i + 1) highs) && P x)
slice_set P i from k highs words bits h e f size room own so_far x small = elim (eqb_tells (get_or highs i 0) (x / 256)) [
  | inl (here, same) ↦ (
      let whole : 256 * get_or highs i 0 + x % 256 ≡ x = omega arith in
      bit_own from k (get_or highs i 0) x words bits e f size room (sym same) ∙ own (x % 256) (omega arith) ∙ ap P whole
      ∙ sym (ap (λ (b : Bool). b && P x) (has_taken (x / 256) highs i h ∙ ap (λ (b : Bool). b || has (x / 256) (take i highs)) here)))
  | inr (other, apart) ↦
      bit_rest from k (get_or highs i 0) x words bits e f size room (λ s. apart (sym s)) ∙ so_far x small
      ∙ sym (ap (λ (b : Bool). b && P x) (has_taken (x / 256) highs i h ∙ ap (λ (b : Bool). b || has (x / 256) (take i highs)) other))
]

rank_at : (low high i : ℕ) (xs : List ℕ) → IsRising low high xs → i < length xs → rank (get_or xs i 0) xs ≡ i
rank_at low high zero xs r h = let few = rank_under (get_or xs 0 0) low high 0 xs r h (omega arith) in omega arith
rank_at low high (suc i) xs r h =
    let few = rank_under (get_or xs (suc i) 0) low high (suc i) xs r h (omega arith) in
    let next : i + 1 ≡ suc i = omega arith in
    let up = rising_to low high xs r i (omega arith) in
    let place = ap (λ (k : ℕ). get_or xs k 0) next in
    let many = rank_above (get_or xs (suc i) 0) low high i xs r (omega arith) (omega arith) in
    omega arith

-- a slice has its numbers
pub slice_own : (i y : ℕ) (hs counts slices : List ℕ) → IsRising 0 256 hs → length hs ≡ length counts → AreSlices counts slices → i < length counts → y < 256
    → has y (slice_at i counts slices) ≡ has (256 * get_or hs i 0 + y) (numbers_of hs counts slices)
slice_own i y hs counts slices r size are lt small =
    let h : ℕ = get_or hs i 0 in
    let high : (256 * h + y) / 256 ≡ h = omega arith in
    let low : (256 * h + y) % 256 ≡ y = omega arith in
    let position : i ≡ rank h hs = sym (rank_at 0 256 i hs r (omega arith)) in
    let there : has h hs ≡ true = has_at_rank h 0 256 i hs r position (omega arith) ∙ eq-eqb h h refl in
    sym (in_numbers (256 * h + y) 0 i hs counts slices (position ∙ ap (λ (n : ℕ). rank n hs) (sym high)) size r are (ap (λ (n : ℕ). has n hs) high ∙ there)
    ∙ ap (λ (n : ℕ). has n (slice_at i counts slices)) low)

-- a slice as it is cut
pub cut_own : (i y offset size : ℕ) (hs counts slices : List ℕ) → IsRising 0 256 hs → length hs ≡ length counts → AreSlices counts slices → i < length counts → y < 256
    → offset ≡ slices_len (take i counts) → size ≡ slice_len (get_or counts i 0 + 1)
    → has y (slice_numbers (get_or counts i 0 + 1) (take (offset + size - offset) (drop offset slices))) ≡ has (256 * get_or hs i 0 + y) (numbers_of hs counts slices)
cut_own i y offset size hs counts slices r long are lt small e f =
    ap (λ (l : List ℕ). has y (slice_numbers (get_or counts i 0 + 1) l)) (slice_cut (get_or counts i 0 + 1) offset size (slices_len (take i counts)) slices e f)
    ∙ slice_own i y hs counts slices r long are lt small

absorbed : (b c : Bool) → (b ≡ false → c ≡ false) → (b && c) ≡ c
absorbed true c h = refl
absorbed false c h = sym (h refl)

-- all slices
pub slices_set : (i x : ℕ) (hs counts slices : List ℕ) → length hs ≤ i → AreSlices counts slices
    → (has (x / 256) (take i hs) && has x (numbers_of hs counts slices)) ≡ has x (numbers_of hs counts slices)
slices_set i x hs counts slices done are =
    ap (λ (l : List ℕ). has (x / 256) l && has x (numbers_of hs counts slices)) (take_all i hs done)
    ∙ absorbed (has (x / 256) hs) (has x (numbers_of hs counts slices)) (not_in x hs counts slices are)

-- ---- each slice is bits

lens_most : (counts : List ℕ) → slices_len counts ≤ 32 * length counts
unfolding slices_len
lens_most [] = omega arith
lens_most (less ∷ counts) = let few = len_few (less + 1) in let ih = lens_most counts in omega arith

full_start : (k : ℕ) (counts : List ℕ) → slices_len counts ≡ 32 * length counts → k ≤ length counts → slices_len (take k counts) ≡ 32 * k
unfolding slices_len
full_start zero counts e h = refl
full_start (suc k) [] e h = absurd (omega arith)
full_start (suc k) (less ∷ counts) e h =
    let few = len_few (less + 1) in
    let most = lens_most counts in
    let ih = full_start k counts (omega arith) (omega arith) in
    omega arith

full_len : (k : ℕ) (counts : List ℕ) → slices_len counts ≡ 32 * length counts → k < length counts → slice_len (get_or counts k 0 + 1) ≡ 32
unfolding slices_len
full_len k [] e h = absurd (omega arith)
full_len zero (less ∷ counts) e h = let few = len_few (less + 1) in let most = lens_most counts in omega arith
full_len (suc k) (less ∷ counts) e h = let few = len_few (less + 1) in let most = lens_most counts in full_len k counts (omega arith) (omega arith)

is_bits : (count : ℕ) → slice_len count ≡ 32 → (32 ≤ count) × (count < 256)
is_bits count e = elim (cases_lt count 32) [
  | inl few ↦ (let f = cond_below count 32 count (cond (ltb count 256) 32 0) few in absurd (omega arith))
  | inr more ↦ elim (cases_lt count 256) [
    | inl some ↦ (more, some)
    | inr many ↦ (let f = cond_above count 32 count _ _ more (cond_above count 256 32 0 _ many refl) in absurd (omega arith))
  ]
]

-- there are 256 slices of 32 bytes each, and this number is in one of them
pub bits_own : (h i : ℕ) (highs counts slices : List ℕ) → length counts ≤ 256 → IsSlice (length counts) highs → AreSlices counts slices → length slices ≡ 8192
    → h < 256 → i < 256 → has i (ones_from (number_of (take 32 (drop (32 * h) slices))) 0 256) ≡ has (256 * h + i) (numbers_of (slice_numbers (length counts) highs) counts slices)
bits_own h i highs counts slices few occur are size small within =
    let hs : List ℕ = slice_numbers (length counts) highs in
    let total = slices_size counts slices are in
    let most = lens_most counts in
    let all : length counts ≡ 256 = omega arith in
    let full : slices_len counts ≡ 32 * length counts = omega arith in
    let start = full_start h counts full (omega arith) in
    let long = full_len h counts full (omega arith) in
    let count : ℕ = get_or counts h 0 + 1 in
    let (more, some) = is_bits count long in
    let range = full_numbers (length counts) highs (omega arith) in
    let high : get_or hs h 0 ≡ h = ap (λ (l : List ℕ). get_or l h 0) range ∙ range_at 0 256 h (omega arith) ∙ omega arith in
    let bytes : slice_at h counts slices ≡ ones_from (number_of (take 32 (drop (32 * h) slices))) 0 256 =
    some_numbers count (take (slice_len count) (drop (slices_len (take h counts)) slices)) more some
    ∙ ap (λ (n : ℕ). ones_from (number_of (take n (drop (slices_len (take h counts)) slices))) 0 256) long
    ∙ ap (λ (n : ℕ). ones_from (number_of (take 32 (drop n slices))) 0 256) start in
    ap (has i) (sym bytes) ∙ slice_own h i hs counts slices occur.rising occur.count_is are (omega arith) (omega arith)
    ∙ ap (λ (n : ℕ). has (256 * n + i) (numbers_of hs counts slices)) high

pub bits_all : (x : ℕ) (highs counts slices words : List ℕ) → length counts ≤ 256 → IsSlice (length counts) highs → AreSlices counts slices → length slices ≡ 8192
    → ((high i : ℕ) → high < 256 → i < 256 → has_bit words (256 * high + i) ≡ has i (ones_from (number_of (take 32 (drop (32 * high) slices))) 0 256))
    → x < 65536 → has_bit words x ≡ has x (numbers_of (slice_numbers (length counts) highs) counts slices)
bits_all x highs counts slices words few occur are size own small =
    let h : ℕ = x / 256 in
    let whole : 256 * h + x % 256 ≡ x = omega arith in
    ap (has_bit words) (sym whole) ∙ own h (x % 256) (omega arith) (omega arith)
    ∙ bits_own h (x % 256) highs counts slices few occur are size (omega arith) (omega arith)
    ∙ ap (λ (n : ℕ). has n (numbers_of (slice_numbers (length counts) highs) counts slices)) whole
