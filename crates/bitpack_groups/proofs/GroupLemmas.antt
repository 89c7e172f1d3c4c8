-- Groups: a body that is cut, its codes, and the tests of a reader.
use Rattle.std.proofs.Common.{◌≡◌, ℕ, zero, suc, ◌+◌, ◌-◌, ◌*◌, ◌^◌, ◌<◌, ◌≤◌, true, false, ltb, ◌&&◌, Some, None, List, [], ◌∷◌, ◌++◌, length, take, drop, replicate, get_or, refl, sym, ◌∙◌, ap, arith}
use Rattle.std.proofs.lemmas.Bool.{lt-ltb, le-ltb, ltb-false}
use Rattle.std.proofs.Math.Pow.{pow_mono}
use Rattle.std.proofs.lemmas.Nat.{leading_length, mul-le, pow_pos}
use Rattle.std.proofs.lemmas.List.{drop-replicate, take-replicate, take-take, take_all, length-append, length-replicate, length-take-le}
use Rattle.std.proofs.lemmas.List.Elements.{All-append, All-replicate, All-take}
use lib.Count.{count_leading_zeros}
use Rattle.bitpacking.specs.Bits.{AreBytes}
use Rattle.bitpacking.specs.Width.{Fits, Least}
use Rattle.bitpacking.specs.Layout.{codes_of, size, Layout}
use Rattle.bitpacking.proofs.ForCallers.{AreBytes-take, one_layout_bytes, one_layout_codes, same_least_width}
use Rattle.bitpack_groups.specs.declared.group_error.GroupError.TheVariants.{Short, BadWidth, LooseWidth, Padding}
use Rattle.bitpack_groups.specs.Groups.{group_size, padded, IsGroup, body_of, all_codes, are_loose, are_zeros, group_end, group_fault}
use Rattle.bitpack_groups.proofs.FaultLemmas.{passed}
use Rattle.bitpack_groups.proofs.WidthLemmas.{fit_by_bits}

-- ---- sizes

pub group_size-le : (count width : ℕ) → count ≤ 32 → group_size count width ≤ 4 * width
group_size-le count width few = omega (arith, mul-le count width 32 width few (omega arith))

-- ---- the codes of bytes that were cut

take-zeros : (cut : List ℕ) (m n : ℕ) → length cut ≤ m → m ≤ length cut + n
    → take m (cut ++ replicate n 0) ≡ cut ++ replicate (m - length cut) 0
take-zeros [] m n fits room =
    let e : m - 0 ≡ m = omega arith in
    let all : take m (replicate {A = ℕ} n 0) ≡ replicate m 0 = take-replicate m n 0 (omega arith) in
    rw e all
take-zeros (byte ∷ cut) zero n fits room = absurd (omega arith)
take-zeros (byte ∷ cut) (suc m) n fits room =
    let e : suc m - suc (length cut) ≡ m - length cut = omega arith in
    rw e (ap (λ zs. byte ∷ zs) (take-zeros cut m n (omega arith) (omega arith)))

-- The first bytes and zeros, of a buffer that goes on with zeros.
pub take-body : (cut : List ℕ) (width n : ℕ) → length cut ≤ 4 * width → 4 * width ≤ length cut + n
    → take (4 * width) (cut ++ replicate n 0) ≡ body_of width cut
take-body cut width n fits room = take-zeros cut (4 * width) n fits room

-- What is unpacked from them.
pub unpacked-is : (width k : ℕ) (cut body codes : List ℕ) → length codes ≡ 32 → length cut ≤ 4 * width → 4 * width ≤ 128 → length cut ≡ k
    → body ≡ cut ++ drop k (replicate {A = ℕ} 128 0)
    → Layout 1 width (take 32 codes) (take (size 1 width) body) → codes ≡ codes_of 1 width (body_of width cut)
unpacked-is width k cut body codes whole fits narrow long is layout =
    let all : take 32 codes ≡ codes = take_all 32 codes (omega arith) in
    let four : size 1 width ≡ 4 * width = omega arith in
    let zeros : drop k (replicate {A = ℕ} 128 0) ≡ replicate (128 - k) 0 = drop-replicate k 128 0 in
    let front : take (size 1 width) body ≡ body_of width cut = rw (four, is, zeros) (take-body cut width (128 - k) fits (omega arith)) in
    let laid : Layout 1 width codes (body_of width cut) = rw (← all, ← front) layout in
    (one_layout_codes 1 width (body_of width cut) laid.byte_count).1 codes laid

-- The codes of bytes that go on to the last code, with all after them, fit their width.
module _ (count width : ℕ) (rest : List ℕ) (few : count ≤ 32) (narrow : width ≤ 32) (room : group_size count width ≤ length rest) where
  body-long : length (body_of width (take (group_size count width) rest)) ≡ size 1 width
  body-long =
      let cut : List ℕ = take (group_size count width) rest in
      let n : ℕ = length cut in
      let long : n ≡ group_size count width = length-take-le (group_size count width) rest room in
      omega (arith, long, group_size-le count width few, length-append cut (replicate {A = ℕ} (4 * width - n) 0), length-replicate {A = ℕ} (4 * width - n) 0)

  pub cut_laid : Layout 1 width (all_codes count width rest) (body_of width (take (group_size count width) rest))
  cut_laid = (one_layout_codes 1 width (body_of width (take (group_size count width) rest)) body-long).0

  pub codes_fit : Fits (take count (all_codes count width rest)) width
  codes_fit = All-take (λ code. code < 2 ^ width) count (all_codes count width rest) cut_laid.fits

-- ---- the tests of a reader

-- Codes fit a smaller width exactly if all their bits do.
pub loose_by_bits : (width bits : ℕ) (codes : List ℕ) → ((w : ℕ) → bits < 2 ^ w → Fits codes w) → ((w : ℕ) → Fits codes w → bits < 2 ^ w)
    → are_loose width codes ≡ (ltb 0 width && ltb bits (2 ^ (width - 1)))
unfolding are_loose
loose_by_bits width bits codes above below = ap (λ b. ltb 0 width && b) (fit_by_bits (width - 1) bits codes above below)

pub no_byte : (block count : ℕ) (bytes : List ℕ) → length bytes < 1 → group_fault block count bytes ≡ Some Short
unfolding group_fault
no_byte block count [] none = refl
no_byte block count (byte ∷ bytes) none = absurd (omega arith)

module _ (block count width : ℕ) (bytes rest : List ℕ) (is : bytes ≡ width ∷ rest) where
  pub wide : 32 < width → group_fault block count bytes ≡ Some (BadWidth block width)
  unfolding group_fault
  wide above = ap (group_fault block count) is ∙ rw (lt-ltb 32 width above) refl

  pub missing : width ≤ 32 → length rest < group_size count width → group_fault block count bytes ≡ Some Short
  unfolding group_fault
  missing narrow few = ap (group_fault block count) is ∙ rw (le-ltb 32 width narrow, lt-ltb (length rest) (group_size count width) few) refl

  pub loose : width ≤ 32 → group_size count width ≤ length rest → are_loose width (take count (all_codes count width rest)) ≡ true
      → group_fault block count bytes ≡ Some (LooseWidth block width)
  unfolding group_fault
  loose narrow room test =
      ap (group_fault block count) is ∙ rw (le-ltb 32 width narrow, le-ltb (length rest) (group_size count width) room, test) refl

  module _ (narrow : width ≤ 32) (room : group_size count width ≤ length rest) (least : are_loose width (take count (all_codes count width rest)) ≡ false) where
    pub padding : are_zeros (drop count (all_codes count width rest)) ≡ false → group_fault block count bytes ≡ Some Padding
    unfolding group_fault
    padding test =
        ap (group_fault block count) is ∙ rw (le-ltb 32 width narrow, le-ltb (length rest) (group_size count width) room, least, test) refl

    pub right : are_zeros (drop count (all_codes count width rest)) ≡ true → group_fault block count bytes ≡ None
    unfolding group_fault
    right test =
        ap (group_fault block count) is ∙ rw (le-ltb 32 width narrow, le-ltb (length rest) (group_size count width) room, least, test) refl

-- What no fault says: the width is one of a block, and the bytes go on to the end of the group.
pub group_fits : (block count : ℕ) (bytes : List ℕ) → group_fault block count bytes ≡ None
    → (get_or bytes 0 0 ≤ 32) × (group_end count bytes ≤ length bytes)
unfolding group_fault
group_fits block count [] none = absurd cc
group_fits block count (width ∷ bytes) none =
    let one = passed _ _ _ none in
    let two = passed _ _ _ one.1 in
    let room : group_size count width ≤ length bytes = ltb-false (length bytes) (group_size count width) two.0 in
    (ltb-false 32 width one.0, omega (arith, room))

-- ---- widths

-- Zeros fit every width.
pub Fits-more_zeros : (codes : List ℕ) (n width : ℕ) → Fits codes width → Fits (codes ++ replicate n 0) width
Fits-more_zeros codes n width fits =
    All-append (λ code. code < 2 ^ width) codes (replicate n 0) fits (All-replicate (λ code. code < 2 ^ width) n 0 (pow_pos width))

-- A number that fits the same widths as the codes tells their least width by its leading zeros.
pub Least-bits : (codes : List ℕ) (bits width : ℕ) → bits < 2 ^ 32
    → ((w : ℕ) → bits < 2 ^ w → Fits codes w) → ((w : ℕ) → Fits codes w → bits < 2 ^ w)
    → count_leading_zeros 32 bits + width ≡ 32 → Least codes width
Least-bits codes bits width small up down zeros =
    let found = leading_length 32 bits small in
    let same : found.0 ≡ width = omega (arith, zeros, found.1) in
    let lt : bits < 2 ^ width = rw same at found.2 in
    let le : 2 ^ width ≤ 2 * bits + 1 = rw same at found.3 in
    record {
      fits = up width lt;
      least = λ smaller h fits.
          let below : bits < 2 ^ smaller = down smaller fits in
          let m : 2 ^ (suc smaller) ≤ 2 ^ width = pow_mono h in
          omega arith;
    }

-- ---- writing

-- The width and the first bytes that were packed are a group.
pub written-is : (codes block body : List ℕ) (width : ℕ) → length codes ≤ 32 → block ≡ padded codes → AreBytes body → Least codes width
    → Layout 1 width block (take (size 1 width) body) → IsGroup codes (width ∷ take (group_size (length codes) width) body)
written-is codes block body width few is small least layout =
    let four : size 1 width ≡ 4 * width = omega arith in
    let le : group_size (length codes) width ≤ size 1 width = rw four (group_size-le (length codes) width few) in
    record {
      width = width;
      body = take (size 1 width) body;
      least = least;
      bytes = AreBytes-take body (size 1 width) small;
      layout = rw (← is) layout;
      parts = ap (λ zs. width ∷ zs) (sym (take-take (group_size (length codes) width) (size 1 width) body le));
    }

-- The room for the group is room for the width and those bytes.
pub written-room : (codes : List ℕ) (width : ℕ) → length codes ≤ 32 → Least codes width
    → (part : List ℕ) × IsGroup codes part × (length part ≡ 1 + group_size (length codes) width)
written-room codes width few least =
    let whole : length (padded codes) ≡ 32 * 1 = simp (length-append, length-replicate) (omega arith) in
    let found = one_layout_bytes 1 width (padded codes) (omega arith) whole (Fits-more_zeros codes (32 - length codes) width least.fits) in
    let body : List ℕ = found.0 in
    let le : group_size (length codes) width ≤ 4 * width = group_size-le (length codes) width few in
    let long : length body ≡ size 1 width = found.2.byte_count in (
      width ∷ take (group_size (length codes) width) body,
      record {
        width = width;
        body = body;
        least = least;
        bytes = found.1;
        layout = found.2;
        parts = refl;
      },
      ap suc (length-take-le (group_size (length codes) width) body (omega arith)) ∙ omega arith,
    )

pub padded-is : (codes : List ℕ) → length codes ≤ 32 → codes ++ drop (length codes) (replicate {A = ℕ} 32 0) ≡ padded codes
padded-is codes few = ap (λ zs. codes ++ zs) (drop-replicate (length codes) 32 0)

-- How long a group is, by the least width of its codes.
pub length-group : (codes part : List ℕ) (width : ℕ) → length codes ≤ 32 → Least codes width → IsGroup codes part → length part ≡ 1 + group_size (length codes) width
length-group codes part width few least group =
    let same : group.width ≡ width = same_least_width codes width group.width least group.least in
    let le : group_size (length codes) group.width ≤ 4 * group.width = group_size-le (length codes) group.width few in
    let long : length group.body ≡ 4 * group.width = group.layout.byte_count ∙ omega arith in
    ap length group.parts ∙ ap suc (length-take-le (group_size (length codes) group.width) group.body (omega arith))
    ∙ ap (λ w. suc (group_size (length codes) w)) same ∙ omega arith
