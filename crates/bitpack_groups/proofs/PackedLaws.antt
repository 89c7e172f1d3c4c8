-- The groups of codes are the bytes that `groups` gives for them.
use Rattle.std.proofs.Common.{◌≡◌, ℕ, zero, suc, ◌+◌, ◌-◌, ◌*◌, ◌/◌, ◌%◌, ◌^◌, ◌<◌, ◌≤◌, Bool, true, false, cond, ltb, List, [], ◌∷◌, ◌++◌, take, drop, replicate, length, get_or, refl, sym, ap, ◌∙◌, arith, inl, inr, subst, pow_pos, pow-add, pow-suc, div-add-mod'}
use Rattle.std.specs.Int.{bit_at}
use Rattle.std.specs.List.{list_all}
use Rattle.std.proofs.lemmas.Bool.{cases_lt, true≢false}
use Rattle.std.proofs.lemmas.List.{get_or_past, length-take, take_all}
use Rattle.std.proofs.lemmas.List.Elements.{All-drop, All-take}
use Rattle.std.proofs.lemmas.Nat.{div_below, mod_below, mul-add-lt, mul-le, shr-shr}
use Rattle.std.proofs.lemmas.Nat.Bits.{bit_at_cat_high, bit_at_cat_low, same_from_bits_below}
use Rattle.bitpack_groups.proofs.GroupLaws.{place-one}
use Rattle.bitpack_groups.proofs.GroupsLaws.{one_run_of_codes}
use Rattle.bitpack_groups.proofs.IntegerEncodings.{front_encoding, front_value, low_first}
use Rattle.bitpack_groups.proofs.WidthLemmas.{Decides-fits}
use Rattle.bitpacking.specs.Bits.{AreBytes, bit_of}
use Rattle.bitpacking.specs.Codes.{AreWords}
use Rattle.bitpacking.specs.Width.{Fits, Least}
use Rattle.bitpack_groups.specs.Groups.{AreGroups, IsGroup, groups_of}
use Rattle.bitpack_groups.specs.Packed.{group, groups, le_bytes, least_width, packed, width_from}
use Rattle.bitpacking.specs.Words.{joined}

-- ---- the least width

width_is : (width more from : ℕ) (codes : List ℕ) → Least codes width → from ≤ width → width ≤ from + more → width_from more from codes ≡ width
unfolding width_from
width_is width zero from codes least low high = omega arith
width_is width (suc more) from codes least low high =
    by_test (list_all (λ code. ltb code (2 ^ from)) codes) refl (λ less. width_is width more (from + 1) codes least (omega arith) (omega arith))
  where
    by_test : (b : Bool) → list_all (λ code. ltb code (2 ^ from)) codes ≡ b → (from < width → width_from more (from + 1) codes ≡ width)
        → cond (list_all (λ code. ltb code (2 ^ from)) codes) from (width_from more (from + 1) codes) ≡ width
    by_test true e later =
        let fits : Fits codes from = (Decides-fits codes from).0 e in
        let same : from ≡ width = elim (cases_lt from width) [ inl less ↦ absurd (least.least from less fits) | inr more' ↦ omega arith ] in
        ap (λ (b : Bool). cond b from (width_from more (from + 1) codes)) e ∙ same
    by_test false e later =
        let less : from < width = elim (cases_lt from width) [
          | inl less ↦ less
          | inr more' ↦ (
              let same : width ≡ from = omega arith in
              let yes' : list_all (λ code. ltb code (2 ^ from)) codes ≡ true = (Decides-fits codes from).1 (subst (Fits codes) same least.fits) in
              absurd (true≢false (sym yes' ∙ e)))
        ] in
        ap (λ (b : Bool). cond b from (width_from more (from + 1) codes)) e ∙ later less

-- the least width is the one that is counted
pub least_width_is : (width : ℕ) (codes : List ℕ) → Least codes width → width ≤ 32 → least_width codes ≡ width
least_width_is width codes least narrow = width_is width 32 0 codes least (omega arith) (omega arith)

-- ---- bits

-- the number of all bytes
abbrev value_of : List ℕ → ℕ
value_of bytes = front_value (length bytes) bytes

value_more : (byte : ℕ) (bytes : List ℕ) → value_of (byte ∷ bytes) ≡ byte + 256 * value_of bytes
value_more byte bytes = low_first (λ i. get_or (byte ∷ bytes) i 0) (length bytes)

value_bit : (bytes : List ℕ) (q r : ℕ) → AreBytes bytes → q < length bytes → r < 8 → bit_at (value_of bytes) (8 * q + r) ≡ bit_at (get_or bytes q 0) r
value_bit [] q r are l s = absurd (omega arith)
value_bit (byte ∷ bytes) zero r are l s =
    let turned : byte + 256 * value_of bytes ≡ value_of bytes * 2 ^ 8 + byte = omega arith in
    let plain : 8 * zero + r ≡ r = omega arith in
    ap (λ (n : ℕ). bit_at n (8 * zero + r)) (value_more byte bytes) ∙ ap (bit_at (byte + 256 * value_of bytes)) plain ∙ ap (λ (n : ℕ). bit_at n r) turned
    ∙ bit_at_cat_low (value_of bytes) 8 byte r s
value_bit (byte ∷ bytes) (suc q) r are l s =
    let turned : byte + 256 * value_of bytes ≡ value_of bytes * 2 ^ 8 + byte = omega arith in
    let less : 8 * suc q + r - 8 ≡ 8 * q + r = omega arith in
    ap (λ (n : ℕ). bit_at n (8 * suc q + r)) (value_more byte bytes) ∙ ap (λ (n : ℕ). bit_at n (8 * suc q + r)) turned
    ∙ bit_at_cat_high (value_of bytes) 8 byte (8 * suc q + r) (are 0) (omega arith)
    ∙ ap (bit_at (value_of bytes)) less ∙ value_bit bytes q r (λ k. are (suc k)) (omega arith) s

value_none : value_of [] ≡ 0
unfolding joined
value_none = refl

value_below : (bytes : List ℕ) → AreBytes bytes → value_of bytes < 256 ^ length bytes
value_below [] are = let e = value_none in omega arith
value_below (byte ∷ bytes) are =
    let small : byte < 2 ^ 8 = are 0 in
    let r : value_of bytes < 256 ^ length bytes = value_below bytes (λ k. are (suc k)) in
    let e : 256 ^ suc (length bytes) ≡ 256 ^ length bytes * 256 = pow-suc 256 (length bytes) in
    let f = value_more byte bytes in
    omega arith

bit_above : (n w j : ℕ) → bit_at (n / 2 ^ w) j ≡ bit_at n (w + j)
bit_above n w j = ap (λ (m : ℕ). m % 2) (shr-shr n w j)

bit_below : (n w j : ℕ) → j < w → bit_at (n % 2 ^ w) j ≡ bit_at n j
bit_below n w j h =
    sym (bit_at_cat_low (n / 2 ^ w) w (n % 2 ^ w) j h) ∙ ap (λ (m : ℕ). bit_at m j) (div-add-mod' n (2 ^ w))

zero_power : (n : ℕ) → n < 2 ^ 0 → n ≡ 0
zero_power n h = omega arith

-- a number with the bits of codes is their packed number
packed_is : (width x : ℕ) (codes : List ℕ) → ((k : ℕ) → get_or codes k 0 < 2 ^ width) → x < 2 ^ (length codes * width)
    → ((k j : ℕ) → k < length codes → j < width → bit_at x (k * width + j) ≡ bit_at (get_or codes k 0) j) → x ≡ packed width codes
unfolding packed
packed_is width x [] fits small bits = (let e : 0 * width ≡ 0 = omega arith in zero_power x (subst (λ (n : ℕ). x < 2 ^ n) e small))
packed_is width x (code ∷ codes) fits small bits =
    let pos : 0 < 2 ^ width = pow_pos width in
    let low : x % 2 ^ width ≡ code = same_from_bits_below width (x % 2 ^ width) code (mod_below x (2 ^ width) pos) (fits 0)
    (λ j h. bit_below x width j h ∙ first j h) in
    let grown : suc (length codes) * width ≡ length codes * width + width = grind arith in
    let power : 2 ^ (length codes * width + width) ≡ 2 ^ (length codes * width) * 2 ^ width = pow-add 2 (length codes * width) width in
    let under : x < 2 ^ (length codes * width) * 2 ^ width = subst (λ (n : ℕ). x < n) power (subst (λ (n : ℕ). x < 2 ^ n) grown small) in
    let high : x / 2 ^ width ≡ packed width codes = packed_is width (x / 2 ^ width) codes (λ k. fits (suc k)) (div_below x (2 ^ width) (2 ^ (length codes * width)) pos under)
    (λ k j h i. bit_above x width (k * width + j) ∙ later k j h i) in
    let whole : x / 2 ^ width * 2 ^ width + x % 2 ^ width ≡ x = div-add-mod' x (2 ^ width) in
    sym whole ∙ ap (λ (n : ℕ). x / 2 ^ width * 2 ^ width + n) low ∙ ap (λ (n : ℕ). n * 2 ^ width + code) high ∙ turned (packed width codes) (2 ^ width) code
  where
    first : (j : ℕ) → j < width → bit_at x j ≡ bit_at code j
    first j h = (let e : 0 * width + j ≡ j = omega arith in ap (bit_at x) (sym e)) ∙ bits 0 j (omega arith) h

    later : (k j : ℕ) → k < length codes → j < width → bit_at x (width + (k * width + j)) ≡ bit_at (get_or codes k 0) j
    later k j h i = (let e : width + (k * width + j) ≡ suc k * width + j = grind arith in ap (bit_at x) e) ∙ bits (suc k) j (omega arith) i

    turned : (p q c : ℕ) → p * q + c ≡ c + q * p
    turned p q c = grind arith

-- zeros after the codes add nothing
packed_zeros : (width n : ℕ) → packed width (replicate n 0) ≡ 0
unfolding packed
packed_zeros width zero = refl
packed_zeros width (suc n) = ap (λ (m : ℕ). 0 + 2 ^ width * m) (packed_zeros width n) ∙ omega arith

packed_padded : (width n : ℕ) (codes : List ℕ) → packed width (codes ++ replicate n 0) ≡ packed width codes
unfolding packed
packed_padded width n [] = packed_zeros width n
packed_padded width n (code ∷ codes) = ap (λ (m : ℕ). code + 2 ^ width * m) (packed_padded width n codes)

le_taken : (size more x : ℕ) → size ≤ more → take size (le_bytes more x) ≡ le_bytes size x
unfolding le_bytes
le_taken zero more x h = refl
le_taken (suc size) zero x h = absurd (omega arith)
le_taken (suc size) (suc more) x h = ap (λ (l : List ℕ). x % 256 ∷ l) (le_taken size more (x / 256) (omega arith))

code_fits : (codes : List ℕ) (width k : ℕ) → Fits codes width → get_or codes k 0 < 2 ^ width
code_fits codes width k fits = elim (cases_lt k (length codes)) [
  | inl less ↦ fits k 0 less
  | inr more ↦ subst (λ (n : ℕ). n < 2 ^ width) (sym (get_or_past codes k 0 more)) (pow_pos width)
]

rows : (k j w : ℕ) → k < 32 → j < w → k * w + j < 32 * w
rows k j w h i = omega (arith, mul-add-lt k w j 32 h i)

digit : (k : ℕ) → 2 ^ (8 * k) ≡ 256 ^ k
digit zero = refl
digit (suc k) =
    let e : 8 * suc k ≡ 8 * k + 8 = omega arith in
    ap (λ (n : ℕ). 2 ^ n) e ∙ pow-add 2 (8 * k) 8 ∙ ap (λ (n : ℕ). n * 256) (digit k) ∙ sym (pow-suc 256 k)

-- ---- groups

group_is : (codes part : List ℕ) → length codes ≤ 32 → AreWords codes → IsGroup codes part → part ≡ group codes
unfolding group
group_is codes part few words is =
    let width : ℕ = is.width in
    let layout = is.layout in
    let narrow : width ≤ 32 = elim (cases_lt 32 width) [ inl less ↦ absurd (is.least.least 32 less words) | inr more ↦ more ] in
    let width_same : least_width codes ≡ width = least_width_is width codes is.least narrow in
    let long : length is.body ≡ 4 * 1 * width = layout.byte_count in
    let many : length (codes ++ replicate (32 - length codes) 0) ≡ 32 * 1 = layout.code_count in
    let all : List ℕ = codes ++ replicate (32 - length codes) 0 in
    let x : ℕ = value_of is.body in
    let below : x < 256 ^ length is.body = value_below is.body is.bytes in
    let power : 256 ^ length is.body ≡ 2 ^ (length all * width) = (let e : 8 * length is.body ≡ length all * width = ap (λ (n : ℕ). 8 * n) long ∙ resized width ∙ ap (λ (n : ℕ). n * width) (sym many) in sym (digit (length is.body)) ∙ ap (λ (n : ℕ). 2 ^ n) e) in
    let same : x ≡ packed width all = packed_is width x all (λ k. code_fits all width k layout.fits) (subst (λ (n : ℕ). x < n) power below)
    (λ k j h i.
    let at : k * width + j < 32 * width = rows k j width (omega arith) i in
    let split : k * width + j ≡ 8 * ((k * width + j) / 8) + (k * width + j) % 8 = omega arith in
    ap (bit_at x) split ∙ value_bit is.body ((k * width + j) / 8) ((k * width + j) % 8) is.bytes (omega arith) (omega arith)
    ∙ ap (bit_of is.body) (sym (place-one width k j)) ∙ sym (layout.bits k j (omega arith) i)) in
    let number : x ≡ packed width codes = same ∙ packed_padded width (32 - length codes) codes in
    let size : ℕ = (length codes * width + 7) / 8 in
    let most : length codes * width ≤ 32 * width = mul-le (length codes) width 32 width few (omega arith) in
    let little : le_bytes (length is.body) x ≡ is.body = front_encoding (length is.body) is.body is.bytes (omega arith) ∙ take_all (length is.body) is.body (omega arith) in
    let cut : take size is.body ≡ le_bytes size x = ap (take size) (sym little) ∙ le_taken size (length is.body) x (omega arith) in
    is.parts ∙ ap (λ (l : List ℕ). width ∷ l) (cut ∙ ap (le_bytes size) number) ∙ ap (λ (w : ℕ). w ∷ le_bytes ((length codes * w + 7) / 8) (packed w codes)) (sym width_same)
  where
    resized : (w : ℕ) → 8 * (4 * 1 * w) ≡ 32 * 1 * w
    resized w = grind arith

pub groups_are : (more : ℕ) (codes bytes : List ℕ) → AreWords codes → AreGroups more codes bytes → bytes ≡ groups more codes
unfolding groups
groups_are zero codes bytes words (none, empty) = empty
groups_are (suc more) codes bytes words (part, rest, e, is, later) =
    let front : part ≡ group (take 32 codes) = group_is (take 32 codes) part (omega (arith, length-take 32 codes)) (All-take (λ v. v < 2 ^ 32) 32 codes words) is in
    let back : rest ≡ groups more (drop 32 codes) = groups_are more (drop 32 codes) rest (All-drop (λ v. v < 2 ^ 32) 32 codes words) later in
    e ∙ ap (λ (l : List ℕ). l ++ rest) front ∙ ap (λ (l : List ℕ). group (take 32 codes) ++ l) back

-- the groups of codes, as many as they need
pub groups_run : (codes : List ℕ) → AreWords codes → AreBytes (groups (groups_of (length codes)) codes) × AreGroups (groups_of (length codes)) codes (groups (groups_of (length codes)) codes)
groups_run codes words =
    let (bytes, are, run, only) = one_run_of_codes codes words in
    let e : bytes ≡ groups (groups_of (length codes)) codes = groups_are (groups_of (length codes)) codes bytes words run in
    (subst AreBytes e are, subst (AreGroups (groups_of (length codes)) codes) e run)
