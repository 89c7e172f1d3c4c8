-- Bytes have no fault as a wide set that is spread out exactly if they are the encoding of the ids that are read from them.
use Rattle.std.proofs.Common.{◌≡◌, ℕ, zero, suc, ◌+◌, ◌-◌, ◌*◌, ◌/◌, ◌%◌, ◌^◌, ◌<◌, ◌≤◌, true, List, [], ◌∷◌, ◌++◌, length, take, drop, get_or, None, refl, sym, ap, ◌∙◌, arith, eq-eqb, eqb-true, length-append, length-drop, take-append-drop, append_assoc}
use Rattle.std.specs.List.{flat_map}
use Rattle.std.proofs.lemmas.Bool.{le-ltb}
use Rattle.std.proofs.lemmas.List.{drop_at, get_or-map, length-map, take_at}
use Rattle.bitpacking.specs.Bits.{AreBytes}
use Rattle.bitpacking.specs.Codes.{AreWords}
use Rattle.bitpack_groups.proofs.ForCallers.{AreBytes-append, passed}
use Rattle.bitpack_groups.specs.Numbers.{number}
use Rattle.bitpack_slices.proofs.ForCallers.{Below, EachByte, byte_of, bytes_dropped, bytes_taken, flat_len, if_none', no_fall, rises_from}
use Rattle.bitpack_slices.specs.Bodies.{IsRising, le_bytes}
use Rattle.bitpack_slices.specs.Slices.{first_fall, quads_of}
use Rattle.bitpack_sets.proofs.ForCallers.{below_words, each_flat, if_none, map_none, none_map, none_or, not_below, or_none, quads_back, quads_of_little, rising_below, some_not}
use Rattle.bitpack_columns.proofs.ForCallers.{encoding_is_read, values_are_read}
use Rattle.bitpack_columns.specs.Columns as columns
use Rattle.bitpack_columns.specs.Columns.{IsColumn}
use Rattle.bitpack_columns.specs.Faults as column_faults
use Rattle.bitpack_columns.specs.Stated as column_reads
use Rattle.bitpack_columns.specs.declared.column_kind.ColumnKind.{ColumnKind}
use Rattle.bitpack_columns.specs.declared.column_kind.ColumnKind.TheVariants.{Plain, Sorted}
use Rattle.bitpack_wide.proofs.PairLaws.{highs_are_words, lows_are_words, paired_back, paired_below, paired_highs, paired_len, paired_lows, words_below}
use Rattle.bitpack_wide.specs.Faults.{column_fault, kind_fault, spread_fault}
use Rattle.bitpack_wide.specs.Reads.{column_in, highs_in, lows_in, paired, spread_ids}
use Rattle.bitpack_wide.specs.Sound.{IsSpread}
use Rattle.bitpack_wide.specs.Wide.{IsWide, highs, is_spread, lows, spread, words_of}
use Rattle.bitpack_wide.specs.declared.wide_error.WideError.TheVariants.{BadSum, Column, LooseForm, NotSorted, Short}

-- ---- without a fault

sorted_kind : (kind : ColumnKind) → kind_fault kind ≡ None → kind ≡ Sorted
sorted_kind Sorted e = refl
sorted_kind Plain e = cc

column_bytes : (ids : ℕ) (rest : List ℕ) → EachByte rest → AreBytes (column_in ids rest)
column_bytes ids rest are = byte_of (column_in ids rest) (bytes_taken (length rest - 4 * ids) rest are)

pub column_are : (ids : ℕ) (rest : List ℕ) → EachByte rest → column_faults.fault (column_in ids rest) ≡ None
    → IsColumn (column_reads.kind_in (column_in ids rest)) (highs_in ids rest) × (columns.encoding (column_reads.kind_in (column_in ids rest)) (highs_in ids rest) ≡ column_in ids rest)
column_are ids rest are none = values_are_read (column_in ids rest) (column_bytes ids rest are) none

pub lows_are : (ids : ℕ) (rest : List ℕ) → EachByte rest → 4 * ids ≤ length rest
    → (flat_map (le_bytes 4) (lows_in ids rest) ≡ drop (length rest - 4 * ids) rest) × (length (lows_in ids rest) ≡ ids) × Below (2 ^ 32) (lows_in ids rest)
lows_are ids rest are room =
    quads_back ids (drop (length rest - 4 * ids) rest) (bytes_dropped (length rest - 4 * ids) rest are) (omega (arith, length-drop (length rest - 4 * ids) rest))

pub spread_none : (ids : ℕ) (rest : List ℕ) → EachByte rest → ids ≤ 2 ^ 28 → spread_fault ids rest ≡ None → IsSpread ids rest
unfolding spread_fault column_fault
spread_none ids rest are few e =
    let (short, e1) = or_none _ _ e in
    let (column, e2) = or_none _ _ e1 in
    let (fall, form) = or_none _ _ e2 in
    let (found, e3) = or_none _ _ column in
    let (kind, count) = or_none _ _ e3 in
    let none : column_faults.fault (column_in ids rest) ≡ None = map_none Column (column_faults.fault (column_in ids rest)) found in
    let room : 4 * ids ≤ length rest = not_below (length rest) (4 * ids) (passed _ _ _ short).0 in
    let (is, same) = column_are ids rest are none in
    let (back, size, small) = lows_are ids rest are room in
    let words : AreWords (highs_in ids rest) = is.words in
    record {
      few = few;
      room = room;
      none = none;
      kind = sorted_kind (column_reads.kind_in (column_in ids rest)) kind;
      count = eqb-true (length (highs_in ids rest)) ids (if_none _ (BadSum 0) count);
      rising = rises_from 0 (2 ^ 64) (spread_ids ids rest) (paired_below (highs_in ids rest) (lows_in ids rest) (words_below (highs_in ids rest) words) small)
          (map_none NotSorted (first_fall 0 (spread_ids ids rest)) fall);
      apart = if_none _ LooseForm form;
    }

-- the ids are those of the bytes
module _ (ids : ℕ) (rest : List ℕ) (are : EachByte rest) (is : IsSpread ids rest) where
  pub sizes_same : length (highs_in ids rest) ≡ length (lows_in ids rest)
  sizes_same = is.count ∙ sym (lows_are ids rest are is.room).1

  pub spread_count : length (spread_ids ids rest) ≡ ids
  spread_count = paired_len (highs_in ids rest) (lows_in ids rest) sizes_same ∙ is.count

  column_encoding : columns.encoding Sorted (highs_in ids rest) ≡ column_in ids rest
  column_encoding = ap (λ (kind : ColumnKind). columns.encoding kind (highs_in ids rest)) (sym is.kind) ∙ (column_are ids rest are is.none).1

  pub spread_encoding : spread (spread_ids ids rest) ≡ 9 ∷ (number ids ++ rest)
  unfolding spread
  spread_encoding =
      let xs : List ℕ = spread_ids ids rest in
      let (back, size, small) = lows_are ids rest are is.room in
      let n : ℕ = length rest - 4 * ids in
      let first : highs xs ≡ highs_in ids rest = paired_highs (highs_in ids rest) (lows_in ids rest) small sizes_same in
      let second : lows xs ≡ lows_in ids rest = paired_lows (highs_in ids rest) (lows_in ids rest) small sizes_same in
      ap (λ (k : ℕ). 9 ∷ ((number k ++ columns.encoding Sorted (highs xs)) ++ flat_map (le_bytes 4) (lows xs))) spread_count
      ∙ ap (λ (l : List ℕ). 9 ∷ ((number ids ++ columns.encoding Sorted l) ++ flat_map (le_bytes 4) (lows xs))) first
      ∙ ap (λ (l : List ℕ). 9 ∷ ((number ids ++ l) ++ flat_map (le_bytes 4) (lows xs))) column_encoding
      ∙ ap (λ (l : List ℕ). 9 ∷ ((number ids ++ column_in ids rest) ++ flat_map (le_bytes 4) l)) second
      ∙ ap (λ (l : List ℕ). 9 ∷ ((number ids ++ column_in ids rest) ++ l)) back
      ∙ ap (λ (l : List ℕ). 9 ∷ l) (append_assoc (number ids) (take n rest) (drop n rest))
      ∙ ap (λ (l : List ℕ). 9 ∷ (number ids ++ l)) (take-append-drop n rest)

-- ---- an encoding

least : (x low high j : ℕ) (ids : List ℕ) → IsRising low high ids → x ≤ low → j < length ids → x ≤ get_or ids j 0
least x low high j [] r le lt = absurd (omega arith)
least x low high zero (y ∷ ids) (b, r) le lt = omega arith
least x low high (suc j) (y ∷ ids) (b, r) le lt = least x (y + 1) high j ids r (omega arith) (omega arith)

pub rising_order : (low high : ℕ) (ids : List ℕ) (i j : ℕ) → IsRising low high ids → i ≤ j → j < length ids → get_or ids i 0 ≤ get_or ids j 0
rising_order low high [] i j r le lt = absurd (omega arith)
rising_order low high (x ∷ ids) zero zero r le lt = omega arith
rising_order low high (x ∷ ids) zero (suc j) (a, r) le lt = least x (x + 1) high j ids r (omega arith) (omega arith)
rising_order low high (x ∷ ids) (suc i) zero r le lt = absurd (omega arith)
rising_order low high (x ∷ ids) (suc i) (suc j) (a, r) le lt = rising_order (x + 1) high ids i j r (omega arith) (omega arith)

pub highs_column : (ids : List ℕ) → IsWide ids → IsColumn Sorted (highs ids)
highs_column ids is =
    let size : length (highs ids) ≡ length ids = length-map ids (λ id. id / 2 ^ 32) in
    let few = is.few in
    record {
      few = omega arith;
      words = below_words (highs ids) (highs_are_words ids (rising_below 0 (2 ^ 64) ids is.rising));
      ordered = λ sorted i j d le lt.
          let first : get_or (highs ids) i d ≡ get_or ids i 0 / 2 ^ 32 = get_or-map (λ id. id / 2 ^ 32) ids i 0 d (omega arith) in
          let second : get_or (highs ids) j d ≡ get_or ids j 0 / 2 ^ 32 = get_or-map (λ id. id / 2 ^ 32) ids j 0 d (omega arith) in
          let order = rising_order 0 (2 ^ 64) ids i j is.rising le (omega arith) in
          omega arith;
    }

-- what is after the count of ids
abbrev pub after_number : List ℕ → List ℕ
after_number ids = columns.encoding Sorted (highs ids) ++ flat_map (le_bytes 4) (lows ids)

module _ (ids : List ℕ) (is : IsWide ids) where
  abbrev rest : List ℕ
  rest = after_number ids

  abbrev column : List ℕ
  column = columns.encoding Sorted (highs ids)

  low_len : length (flat_map (le_bytes 4) (lows ids)) ≡ 4 * length ids
  low_len = flat_len 4 (lows ids) ∙ ap (λ (n : ℕ). 4 * n) (length-map ids (λ id. id % 2 ^ 32))

  column_len : length rest - 4 * length ids ≡ length column
  column_len = let a = length-append column (flat_map (le_bytes 4) (lows ids)) in let b = low_len in omega arith

  column_is : column_in (length ids) rest ≡ column
  column_is = take_at column (flat_map (le_bytes 4) (lows ids)) (length rest - 4 * length ids) (sym column_len)

  lows_cut : drop (length rest - 4 * length ids) rest ≡ flat_map (le_bytes 4) (lows ids)
  lows_cut = drop_at column (flat_map (le_bytes 4) (lows ids)) (length rest - 4 * length ids) (sym column_len)

  lows_same : lows_in (length ids) rest ≡ lows ids
  lows_same = ap quads_of lows_cut ∙ quads_of_little (lows ids) (lows_are_words ids)

  highs_same : highs_in (length ids) rest ≡ highs ids
  highs_same = ap column_reads.values_in column_is ∙ (encoding_is_read Sorted (highs ids) (highs_column ids is)).3

  pub spread_read : spread_ids (length ids) rest ≡ ids
  spread_read = ap (λ (l : List ℕ). paired l (lows_in (length ids) rest)) highs_same ∙ ap (paired (highs ids)) lows_same ∙ paired_back ids

  pub spread_bytes : AreBytes rest
  spread_bytes = AreBytes-append column (flat_map (le_bytes 4) (lows ids)) (encoding_is_read Sorted (highs ids) (highs_column ids is)).0 (byte_of (flat_map (le_bytes 4) (lows ids)) (each_flat 4 (lows ids)))

  pub spread_sound : is_spread (length ids) (length (words_of ids)) ≡ true → spread_fault (length ids) rest ≡ None
  unfolding spread_fault column_fault
  spread_sound apart =
      let n : ℕ = length ids in
      let (bytes, none, kind, values) = encoding_is_read Sorted (highs ids) (highs_column ids is) in
      let size : length (highs_in n rest) ≡ n = ap length highs_same ∙ length-map ids (λ id. id / 2 ^ 32) in
      let a = length-append column (flat_map (le_bytes 4) (lows ids)) in
      let b = low_len in
      none_or _ _ (some_not _ Short None (le-ltb (length rest) (4 * n) (omega arith)) refl)
      (none_or _ _
      (none_or _ _ (none_map Column (column_faults.fault (column_in n rest)) (ap column_faults.fault column_is ∙ none))
      (none_or _ _ (ap kind_fault (ap column_reads.kind_in column_is ∙ kind)) (if_none' _ _ (eq-eqb (length (highs_in n rest)) n size))))
      (none_or _ _ (none_map NotSorted (first_fall 0 (spread_ids n rest)) (ap (first_fall 0) spread_read ∙ no_fall 0 0 (2 ^ 64) ids is.rising))
      (if_none' _ _ (ap (λ (l : List ℕ). is_spread n (length (words_of l))) spread_read ∙ apart))))
