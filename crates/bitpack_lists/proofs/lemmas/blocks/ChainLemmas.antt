-- A chain grows by a block at its end, and is read back.
-- Serves chain, laws, opened, v1.
use Rattle.std.proofs.Common.{◌≡◌, ℕ, zero, suc, ◌+◌, ◌-◌, ◌*◌, ◌^◌, ◌<◌, ◌≤◌, List, [], ◌∷◌, ◌++◌, length, take, drop, get_or, sum, refl, sym, ◌∙◌, ap, arith, append_assoc}
use Rattle.std.proofs.lemmas.List.{take_at, drop_at, get_or_append_left, get_or-take, append-nil, take-append-drop, length-take, length-drop, drop-drop, take_all, drop_all}
use Rattle.std.proofs.lemmas.List.Sums.{sum_by-append, sum_by-cons, sum_by-take-drop}
use Rattle.std.proofs.lemmas.Nat.{mul-le}
use Rattle.std.proofs.lemmas.Slice.{take-put_mid, drop-put_mid}
use Rattle.std.proofs.Math.Seq.{take-add}
use borrow.Rule.Slice.PartMut.{put_mid}
use Rattle.std.proofs.lemmas.List.Elements.{All-take, All-drop}
use Rattle.bitpacking.specs.declared.kind.Kind.{Kind}
use Rattle.bitpacking.specs.Codes.{AreWords, codes}
use Rattle.bitpacking.proofs.ForCallers.{bytes_hold_one_block, codes_are_words, one_least_width}
use Rattle.bitpacking.specs.Width.{IsWidth}
use Rattle.bitpacking.specs.Layout.{Holds, size}
use Rattle.bitpack_lists.specs.Chains.{next_kind, second_kind, IsChainSize, Loose, LeastWidths}
use Rattle.bitpack_lists.specs.Laws.{ChainsReadBack}

-- A block before a chain that goes on from its last value.
module _ (lanes width : ℕ) (kind : Kind) (block values widths : List ℕ) (some : 1 ≤ lanes) (long : length block ≡ 32 * lanes) where
  last : get_or (block ++ values) (32 * lanes - 1) 0 ≡ get_or block (32 * lanes - 1) 0
  last = get_or_append_left block values 0 (32 * lanes - 1) (omega arith)

  pub Loose-cons : (part bytes : List ℕ) → width ≤ 32 → Holds lanes width kind block part
      → Loose lanes (next_kind kind (get_or block (32 * lanes - 1) 0)) values widths bytes
      → Loose lanes kind (block ++ values) (width ∷ widths) (part ++ bytes)
  Loose-cons part bytes narrow holds loose =
      let size_of : length part ≡ size lanes width = holds.byte_count in
      rw (
        last,
        take_at block values (32 * lanes) long,
        drop_at block values (32 * lanes) long,
        take_at part bytes (size lanes width) size_of,
        drop_at part bytes (size lanes width) size_of,
      )
      (narrow, holds, loose)

  pub LeastWidths-cons : IsWidth kind block width
      → LeastWidths lanes (next_kind kind (get_or block (32 * lanes - 1) 0)) values widths
      → LeastWidths lanes kind (block ++ values) (width ∷ widths)
  LeastWidths-cons least widths' =
      rw (last, take_at block values (32 * lanes) long, drop_at block values (32 * lanes) long) (least, widths')

-- The beginning of a chain: with any chain of the next kind after it, it is a chain.
pub record LooseSoFar (lanes : ℕ) (first kind : Kind) (values widths bytes : List ℕ) : Type 0 where
  pub go_on : (values' widths' bytes' : List ℕ) → Loose lanes kind values' widths' bytes'
      → Loose lanes first (values ++ values') (widths ++ widths') (bytes ++ bytes')

pub record LeastSoFar (lanes : ℕ) (first kind : Kind) (values widths : List ℕ) : Type 0 where
  pub go_on : (values' widths' : List ℕ) → LeastWidths lanes kind values' widths'
      → LeastWidths lanes first (values ++ values') (widths ++ widths')

pub Loose_done : (lanes : ℕ) (first kind : Kind) (values widths bytes : List ℕ)
    → LooseSoFar lanes first kind values widths bytes → Loose lanes first values widths bytes
Loose_done lanes first kind values widths bytes so_far =
    let whole = so_far.go_on [] [] [] (refl, refl) in
    simp append-nil at whole

pub LeastWidths_done : (lanes : ℕ) (first kind : Kind) (values widths : List ℕ)
    → LeastSoFar lanes first kind values widths → LeastWidths lanes first values widths
LeastWidths_done lanes first kind values widths so_far =
    let whole = so_far.go_on [] [] tt in
    simp append-nil at whole

module _ (lanes width : ℕ) (first kind : Kind) (values widths block : List ℕ) (some : 1 ≤ lanes)
    (long : length block ≡ 32 * lanes) where
  pub Loose_step : (bytes part : List ℕ) → width ≤ 32 → Holds lanes width kind block part
      → LooseSoFar lanes first kind values widths bytes
      → LooseSoFar lanes first (next_kind kind (get_or block (32 * lanes - 1) 0)) (values ++ block) (widths ++ width ∷ [])
      (bytes ++ part)
  Loose_step bytes part narrow holds so_far = record {
    go_on = λ values' widths' bytes' loose.
        rw (append_assoc values block values', append_assoc widths (width ∷ []) widths', append_assoc bytes part bytes')
        (so_far.go_on (block ++ values') (width ∷ widths') (part ++ bytes')
        (Loose-cons lanes width kind block values' widths' some long part bytes' narrow holds loose));
  }

  pub LeastWidths_step : IsWidth kind block width → LeastSoFar lanes first kind values widths
      → LeastSoFar lanes first (next_kind kind (get_or block (32 * lanes - 1) 0)) (values ++ block) (widths ++ width ∷ [])
  LeastWidths_step least so_far = record {
    go_on = λ values' widths' rest.
        rw (append_assoc values block values', append_assoc widths (width ∷ []) widths')
        (so_far.go_on (block ++ values') (width ∷ widths')
        (LeastWidths-cons lanes width kind block values' widths' some long least rest));
  }

-- Values with the same first block have the same kind after it.
pub next-same : (lanes : ℕ) (kind : Kind) (values others : List ℕ) → 1 ≤ lanes → take (32 * lanes) values ≡ take (32 * lanes) others
    → second_kind lanes kind values ≡ second_kind lanes kind others
next-same lanes kind values others some front =
    let n : ℕ = 32 * lanes in
    let within : n - 1 < n = omega arith in
    let last : get_or values (n - 1) 0 ≡ get_or others (n - 1) 0 =
    sym (get_or-take n values (n - 1) 0 within) ∙ ap (λ xs. get_or xs (n - 1) 0) front ∙ get_or-take n others (n - 1) 0 within in
    rw last refl

-- Two lists of values that the same bytes hold are equal.
same_values : (lanes : ℕ) (kind kind' : Kind) (widths values others bytes : List ℕ) → 0 < lanes → kind' ≡ kind
    → AreWords values → AreWords others
    → Loose lanes kind values widths bytes → Loose lanes kind' others widths bytes → others ≡ values
same_values lanes kind kind' [] values others bytes some e words words' one two = two.0 ∙ sym one.0
same_values lanes kind kind' (width ∷ widths) values others bytes some e words words' one two =
    let n : ℕ = 32 * lanes in
    let P : ℕ → Type 0 = λ v. v < 2 ^ 32 in
    let front : take n others ≡ take n values =
    bytes_hold_one_block lanes width kind (take n values) (take n others) (take (size lanes width) bytes)
    (All-take P n values words) (All-take P n others words') one.1 (rw e at two.1) in
    let next : second_kind lanes kind' others ≡ second_kind lanes kind values = rw e (next-same lanes kind others values some front) in
    let back : drop n others ≡ drop n values =
    same_values lanes (second_kind lanes kind values) (second_kind lanes kind' others) widths (drop n values) (drop n others)
    (drop (size lanes width) bytes) some next (All-drop P n values words) (All-drop P n others words') one.2 two.2 in
    sym (take-append-drop n others) ∙ ap (λ xs. xs ++ drop n others) front ∙ ap (λ xs. take n values ++ xs) back
    ∙ take-append-drop n values

pub chains_read_back : ChainsReadBack
chains_read_back lanes kind values others widths bytes some words words' chained loose =
    same_values lanes kind kind widths values others bytes some refl words words' chained.loose loose

-- ---- the parts of a list that the loops lend to a block

-- The values up to the next block's end.
pub take-block : (n len i : ℕ) (xs : List ℕ) → len ≡ n
    → take (n * (i + 1)) xs ≡ take (n * i) xs ++ take (i * len + len - i * len) (drop (i * len) xs)
take-block n len i xs e =
    let next : n * (i + 1) ≡ n * i + n = omega arith in
    let from : i * len ≡ n * i = rw e (omega arith) in
    let room : i * len + len - i * len ≡ n = rw e (omega arith) in
    rw (next, room, from) (take-add (n * i) n xs)

pub length-block : (n len i count : ℕ) (xs : List ℕ) → len ≡ n → i < count → n * count ≤ length xs
    → length (take (i * len + len - i * len) (drop (i * len) xs)) ≡ n
length-block n len i count xs e lt room =
    let le : n * (i + 1) ≤ n * count = mul-le n (i + 1) n count (omega arith) (omega arith) in
    let from : i * len ≡ n * i = rw e (omega arith) in
    let span : i * len + len - i * len ≡ n = rw e (omega arith) in
    rw (span, from) (simp (length-take, length-drop) (omega arith))

-- A block is the first one of what is left, and what is after it is left then.
pub block-from : (lanes len i : ℕ) (values : List ℕ) → len ≡ 32 * lanes
    → take (i * len + len - i * len) (drop (i * len) values) ≡ take (32 * lanes) (drop (32 * lanes * i) values)
block-from lanes len i values e =
    let span : i * len + len - i * len ≡ 32 * lanes = rw e (omega arith) in
    let from : i * len ≡ 32 * lanes * i = rw e (omega arith) in
    rw (span, from) refl

pub drop-block : (lanes i : ℕ) (values : List ℕ) → drop (32 * lanes) (drop (32 * lanes * i) values) ≡ drop (32 * lanes * (i + 1)) values
drop-block lanes i values =
    let end : 32 * lanes * i + 32 * lanes ≡ 32 * lanes * (i + 1) = omega arith in
    drop-drop (32 * lanes) (32 * lanes * i) values ∙ ap (λ k. drop k values) end

-- Words have a least width for each block, and at most 32.
pub least_widths : (lanes count : ℕ) (kind : Kind) (values : List ℕ) → AreWords values
    → (all : List ℕ) × (length all ≡ count) × LeastWidths lanes kind values all × (sum all ≤ 32 * count)
least_widths lanes zero kind values words = ([], refl, tt, omega arith)
least_widths lanes (suc count) kind values words =
    let n : ℕ = 32 * lanes in
    let Word : ℕ → Type 0 = λ v. v < 2 ^ 32 in
    let (width, narrow, least, one) = one_least_width (codes kind (take n values)) (codes_are_words kind (take n values) (All-take Word n values words)) in
    let (later, long, are, few) = least_widths lanes count (second_kind lanes kind values) (drop n values) (All-drop Word n values words) in
    (width ∷ later, ap suc long, (least, are), omega (arith, narrow, few, sum_by-cons (λ (n : ℕ). n) width later))

-- Their chain has at most four bytes for each value.
pub chain_fits : (lanes count room : ℕ) (kind : Kind) (values : List ℕ) → AreWords values → length values ≡ 32 * lanes * count
    → 4 * length values ≤ room → (size_of : ℕ) × IsChainSize lanes kind values count size_of × (size_of ≤ room)
chain_fits lanes count room kind values words long le =
    let (all, as_many, least, few) = least_widths lanes count kind values words in
    let most : lanes * sum all ≤ lanes * (32 * count) = mul-le lanes (sum all) lanes (32 * count) (omega arith) few in
    (4 * lanes * sum all, (all, as_many, least, refl), omega (arith, most, long, le))

-- A list whose block was written anew.
pub take-put_block : (n len i : ℕ) (xs part : List ℕ) → len ≡ n → n * i ≤ length xs → length part ≡ n
    → take (n * (i + 1)) (put_mid (i * len) (i * len + len - i * len) xs part) ≡ take (n * i) xs ++ part
take-put_block n len i xs part e within long =
    let from : i * len ≡ n * i = rw e (omega arith) in
    rw from (take-put_mid (n * i) (n * i + len - n * i) xs part (n * (i + 1)) (omega arith) within)

pub drop-put_block : (n len i : ℕ) (xs part : List ℕ) → len ≡ n → n * i ≤ length xs → length part ≡ n
    → drop (n * (i + 1)) (put_mid (i * len) (i * len + len - i * len) xs part) ≡ drop (n * (i + 1)) xs
drop-put_block n len i xs part e within long =
    let from : i * len ≡ n * i = rw e (omega arith) in
    rw from (drop-put_mid (n * i) (n * i + len - n * i) xs part (n * (i + 1)) (omega arith) within (omega arith))

-- A list whose end was written anew.
pub put_end : (start : ℕ) (xs part : List ℕ) → start ≤ length xs → length part ≡ length xs - start
    → put_mid start (length xs - start) xs part ≡ take start xs ++ part
put_end start xs part within long =
    let none : drop (length xs - start) (drop start xs) ≡ [] =
    drop_all (length xs - start) (drop start xs) (simp length-drop (omega arith)) in
    ap (λ zs. take start xs ++ (part ++ zs)) none ∙ ap (λ zs. take start xs ++ zs) (append-nil part)

pub take-put_end : (start size : ℕ) (xs part : List ℕ) → start ≤ length xs → length part ≡ length xs - start
    → take (start + size) (put_mid start (length xs - start) xs part) ≡ take start xs ++ take size part
take-put_end start size xs part within long =
    let front : length (take start xs) ≡ start = simp length-take (omega arith) in
    rw (
      put_end start xs part within long,
      take-add start size (take start xs ++ part),
      take_at (take start xs) part start front,
      drop_at (take start xs) part start front,
    ) refl

pub drop-put_end : (start size : ℕ) (xs part : List ℕ) → start ≤ length xs → length part ≡ length xs - start
    → drop size part ≡ drop size (take (length xs - start) (drop start xs))
    → drop (start + size) (put_mid start (length xs - start) xs part) ≡ drop (start + size) xs
drop-put_end start size xs part within long rest =
    let front : length (take start xs) ≡ start = simp length-take (omega arith) in
    let end : take (length xs - start) (drop start xs) ≡ drop start xs =
    take_all (length xs - start) (drop start xs) (simp length-drop (omega arith)) in
    rw (
      put_end start xs part within long,
      ← drop-drop size start (take start xs ++ part),
      drop_at (take start xs) part start front,
      rest,
      end,
    ) (drop-drop size start xs)

-- The bytes of one more block.
pub sum-more : (lanes done size_of width : ℕ) (widths : List ℕ) → done ≡ 4 * lanes * sum widths → size_of ≡ size lanes width
    → done + size_of ≡ 4 * lanes * sum (widths ++ width ∷ [])
sum-more lanes done size_of width widths e f =
    let one : sum (width ∷ []) ≡ width = omega arith in
    let total : sum (widths ++ width ∷ []) ≡ sum widths + width = sum_by-append (λ (n : ℕ). n) widths (width ∷ []) ∙ ap (λ x. sum widths + x) one in
    rw (total, e, f) (omega arith)

pub bound-more : (lanes done size_of width i : ℕ) → done ≤ 4 * (32 * lanes * i) → size_of ≡ size lanes width → width ≤ 32
    → done + size_of ≤ 4 * (32 * lanes * (i + 1))
bound-more lanes done size_of width i le e narrow =
    let most : lanes * width ≤ lanes * 32 = mul-le lanes width lanes 32 (omega arith) narrow in
    omega arith

-- Lists that agree past an index agree past each later one.
pub drop-further : (start more : ℕ) (xs ys : List ℕ) → drop start xs ≡ drop start ys → drop (start + more) xs ≡ drop (start + more) ys
drop-further start more xs ys e = sym (drop-drop more start xs) ∙ ap (drop more) e ∙ drop-drop more start ys

pub sum-prefix : (i : ℕ) (widths : List ℕ) → sum (take i widths) ≤ sum widths
sum-prefix i widths = omega (arith, sum_by-take-drop (λ (n : ℕ). n) widths i)
