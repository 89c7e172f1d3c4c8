-- Which values of a column are within a range: by the ends of the range in a sorted one, by blocks in a plain one.
use Rattle.std.proofs.Common.{◌≡◌, ◌⊎◌, ℕ, ◌+◌, ◌-◌, ◌*◌, ◌/◌, ◌<◌, ◌≤◌, ◌&&◌, ◌++◌, min, max, Bool, true, false, leb, List, [], length, map, take, drop, get_or, Option, Some, None, refl, sym, ◌∙◌, ap, arith, rules, inl, inr}
use Rattle.std.specs.List.{range_with_len}
use Rattle.std.proofs.lemmas.Bool.{cases_lt, le-leb, le-ltb, lt-leb, lt-ltb}
use Rattle.std.proofs.lemmas.List.{append-nil, drop-drop, drop_at, get_or-drop, get_or-take, length-append, length-drop, length-map, length-take, length-take-le, take-append-le, take-take, take_all, take_at}
use Rattle.std.proofs.lemmas.Slice.{drop-put_mid, overwrites}
use borrow.Rule.Slice.PartMut.{put_mid}
use Rattle.std.proofs.lemmas.List.FromFn.{length-range_with_len}
use Rattle.std.proofs.lemmas.Simd.{get_or-chunk}
use Rattle.bitpack_columns.specs.Columns.{block_of}
use Rattle.bitpack_columns.specs.Ranges.{is_between, positions_between}
use Rattle.bitpack_columns.specs.Searches.{FindsPositions, IsLowerBound, decided, positions_in_range}
use Rattle.bitpack_columns.proofs.RangeLaws.{filled, filled_more, passing, passing_agree, passing_all, passing_between, passing_few, passing_moved, passing_none, passing_split, take-range_with_len}

module _ (low high v : ℕ) where
  pub between_true : low ≤ v → v ≤ high → is_between low high v ≡ true
  between_true from to = rw (le-leb low v from, le-leb v high to) refl

  pub between_below : v < low → is_between low high v ≡ false
  between_below lt = rw (lt-leb low v lt) refl

  pub between_above : high < v → is_between low high v ≡ false
  between_above lt = rw (lt-leb v high lt) (fails (leb low v))
    where
      fails : (b : Bool) → (b && false) ≡ false
      fails true = refl
      fails false = refl

-- ---- bounds

module _ (low high least greatest : ℕ) where
  pub decided_false : (greatest < low) ⊎ (high < least) → decided low high least greatest ≡ Some false
  decided_false (inl lt) = rw (lt-ltb greatest low lt) refl
  decided_false (inr lt) = elim (cases_lt greatest low) [
    | inl below ↦ rw (lt-ltb greatest low below) refl
    | inr reaches ↦ rw (le-ltb greatest low reaches, lt-ltb high least lt) refl
  ]

  pub decided_true : low ≤ greatest → least ≤ high → low ≤ least → greatest ≤ high → decided low high least greatest ≡ Some true
  decided_true reaches begins from to = rw (le-ltb greatest low reaches, le-ltb high least begins, le-leb low least from, le-leb greatest high to) refl

  pub decided_none : low ≤ greatest → least ≤ high → (least < low) ⊎ (high < greatest) → decided low high least greatest ≡ None
  decided_none reaches begins (inl lt) = rw (le-ltb greatest low reaches, le-ltb high least begins, lt-leb low least lt) refl
  decided_none reaches begins (inr lt) = elim (cases_lt least low) [
    | inl below ↦ rw (le-ltb greatest low reaches, le-ltb high least begins, lt-leb low least below) refl
    | inr from ↦ rw (le-ltb greatest low reaches, le-ltb high least begins, le-leb low least from, lt-leb greatest high lt) refl
  ]

-- A block of which something is decided is not the tail.
pub decided_whole : (block blocks : ℕ) (answer : Option Bool) (known : Bool) → block ≤ blocks → (block ≡ blocks → answer ≡ None) → answer ≡ Some known
    → block < blocks
decided_whole block blocks answer known within tail is = elim (cases_lt block blocks) [
  | inl lt ↦ lt
  | inr le ↦
      let last : block ≡ blocks = omega (arith, within, le) in
      let none = tail last in
      absurd cc
]

module _ (low high : ℕ) (xs : List ℕ) where
  abbrev within : ℕ → Bool
  within k = is_between low high (get_or xs k 0)

  -- ---- a sorted column

  pub ends_between : (from first end : ℕ) → IsLowerBound xs low first → IsLowerBound xs (high + 1) end
      → positions_between low high from xs ≡ range_with_len (max first from) (end - max first from)
  ends_between from first end lower upper =
      passing_between within from (length xs - from) (max first from) end (omega arith) (omega (arith, upper.within))
      (λ k le lt. between_below low high (get_or xs k 0) (lower.below k (omega (arith, le, lt))))
      (λ k le lt.
      between_true low high (get_or xs k 0) (lower.others k (omega (arith, le)) (omega (arith, lt, upper.within))) (omega (arith, upper.below k lt)))
      (λ k start le lt. between_above low high (get_or xs k 0) (omega (arith, upper.others k le (omega (arith, lt)))))

  -- The positions between the ends are written, as many as fit.
  pub ends_written : (from first end count : ℕ) (old written : List ℕ) → IsLowerBound xs low first → IsLowerBound xs (high + 1) end
      → count ≡ min (end - max first from) (length old) → written ≡ range_with_len (max first from) count
      → FindsPositions low high from xs count old (written ++ drop count old)
  ends_written from first end count old written lower upper fits is =
      let all = ends_between from first end lower upper in
      let long : length written ≡ count = ap length is ∙ length-range_with_len (max first from) count in
      record {
        count = omega (arith, fits, ap length all, length-range_with_len (max first from) (end - max first from));
        positions = take_at written (drop count old) count long ∙ is
            ∙ sym (ap (take count) all ∙ take-range_with_len (max first from) (end - max first from) count (omega (arith, fits)));
        rest = drop_at written (drop count old) count long;
      }

  -- ---- a block

  -- The positions in a part of the values, moved by its start.
  pub part_moved : (start : ℕ) (ys : List ℕ) → ((k : ℕ) → k < length ys → get_or ys k 0 ≡ get_or xs (start + k) 0)
      → map (λ k. start + k) (positions_in_range low high 0 (length ys) ys) ≡ positions_in_range low high start (length ys) xs
  part_moved start ys same =
      let none : start + 0 ≡ start = omega arith in
      ap (map (λ k. start + k)) (passing_agree (λ k. is_between low high (get_or ys k 0)) (λ k. within (start + k)) 0 (length ys) (λ k lt.
      let at : 0 + k ≡ k = omega arith in
      rw at (ap (is_between low high) (same k lt))))
      ∙ passing_moved within start 0 (length ys) ∙ ap (λ n. passing within n (length ys)) none

  pub part_counted : (start : ℕ) (ys : List ℕ) → ((k : ℕ) → k < length ys → get_or ys k 0 ≡ get_or xs (start + k) 0)
      → length (positions_between low high 0 ys) ≡ length (positions_in_range low high start (length ys) xs)
  part_counted start ys same =
      let all : length ys - 0 ≡ length ys = omega arith in
      ap (λ n. length (positions_in_range low high 0 n ys)) all ∙ sym (length-map (positions_in_range low high 0 (length ys) ys) (λ k. start + k))
      ∙ ap length (part_moved start ys same)

  module _ (block : ℕ) where
    -- how many values it has, or the tail
    abbrev pub len_of : ℕ
    len_of = min 128 (length xs - 128 * block)

    module _ (len : ℕ) (out : List ℕ) (whole : len ≡ len_of) (unpacked : take len out ≡ block_of block xs) where
      block_read : (k : ℕ) → k < len → get_or out k 0 ≡ get_or xs (128 * block + k) 0
      block_read k lt =
          sym (get_or-take len out k 0 lt) ∙ ap (λ ys. get_or ys k 0) unpacked ∙ get_or-chunk (128 * block) 128 xs k 0 (omega (arith, whole, lt))

      long : len ≤ length out
      long = omega (arith, ap length unpacked, length-take len out, length-take 128 (drop (128 * block) xs), length-drop (128 * block) xs, whole)

      pub block_counted : length (positions_between low high 0 (take len out)) ≡ length (positions_in_range low high (128 * block) len_of xs)
      block_counted =
          let cut = length-take-le len out long in
          part_counted (128 * block) (take len out) (λ k lt.
          let inside : k < len = omega (arith, cut, lt) in
          get_or-take len out k 0 inside ∙ block_read k inside)
          ∙ ap (λ n. length (positions_in_range low high (128 * block) n xs)) (cut ∙ whole)

      pub block_found : (index : ℕ) → index ≤ len
          → map (λ k. 128 * block + index + k)
          (positions_in_range low high 0 (length (take (len - index) (drop index out))) (take (len - index) (drop index out)))
          ≡ positions_in_range low high (128 * block + index) (len_of - index) xs
      block_found index inside =
          let cut : length (take (len - index) (drop index out)) ≡ len - index =
          length-take-le (len - index) (drop index out) (omega (arith, long, length-drop index out)) in
          let count : len - index ≡ len_of - index = omega (arith, whole) in
          part_moved (128 * block + index) (take (len - index) (drop index out)) (λ k lt.
          let few : k < len - index = omega (arith, cut, lt) in
          let at : 128 * block + (index + k) ≡ 128 * block + index + k = omega arith in
          get_or-take (len - index) (drop index out) k 0 few ∙ get_or-drop index out k 0 ∙ block_read (index + k) (omega (arith, few, inside))
          ∙ ap (λ n. get_or xs n 0) at)
          ∙ ap (λ n. positions_in_range low high (128 * block + index) n xs) (cut ∙ count)

    -- A block of which all is known.
    module _ (lt : block < length xs / 128) where
      whole_len : len_of ≡ 128
      whole_len = omega (arith, lt)

      pub all_counted : ((k : ℕ) → k < 128 → within (128 * block + k) ≡ true) → 128 ≡ length (positions_in_range low high (128 * block) len_of xs)
      all_counted all =
          rw whole_len
          (sym (ap length (passing_all within (128 * block) 128 all) ∙ length-range_with_len (128 * block) 128))

      pub none_counted : ((k : ℕ) → k < 128 → within (128 * block + k) ≡ false) → 0 ≡ length (positions_in_range low high (128 * block) len_of xs)
      none_counted none = sym (ap length (passing_none within (128 * block) len_of (λ k inside. none k (omega (arith, inside)))))

      pub none_found : (index : ℕ) → index ≤ len_of → ((k : ℕ) → k < 128 → within (128 * block + k) ≡ false)
          → [] ≡ positions_in_range low high (128 * block + index) (len_of - index) xs
      none_found index inside none = sym (passing_none within (128 * block + index) (len_of - index) (λ k few.
          let at : 128 * block + index + k ≡ 128 * block + (index + k) = omega arith in
          ap within at ∙ none (index + k) (omega (arith, few, inside))))

      pub all_found : (index count : ℕ) (written after : List ℕ) → index ≤ len_of → count ≡ 128 - index
          → written ≡ range_with_len (128 * block + index) count → ((k : ℕ) → k < 128 → within (128 * block + k) ≡ true)
          → take count (written ++ after) ≡ positions_in_range low high (128 * block + index) (len_of - index) xs
      all_found index count written after inside count_is is all =
          let many : length written ≡ count = ap length is ∙ length-range_with_len (128 * block + index) count in
          let same : count ≡ len_of - index = omega (arith, whole_len, count_is) in
          take-append-le count written after (omega (arith, many)) ∙ take_all count written (omega (arith, many)) ∙ is
          ∙ sym (passing_all within (128 * block + index) count (λ k few.
          let at : 128 * block + index + k ≡ 128 * block + (index + k) = omega arith in
          ap within at ∙ all (index + k) (omega (arith, few, inside, count_is))))
          ∙ ap (passing within (128 * block + index)) same

  -- ---- block after block

  -- how many of the first positions are before a block
  abbrev pub upto : ℕ → ℕ
  upto block = min (128 * block) (length xs)

  pub counted_more : (block count more : ℕ) → block ≤ length xs / 128 → count ≡ length (positions_in_range low high 0 (upto block) xs)
      → more ≡ length (positions_in_range low high (128 * block) (len_of block) xs) → count + more ≡ length (positions_in_range low high 0 (upto (block + 1)) xs)
  counted_more block count more within_ before next =
      let parts : upto (block + 1) ≡ upto block + len_of block = omega (arith, within_) in
      let at : 0 + upto block ≡ 128 * block = omega (arith, within_) in
      let split : positions_in_range low high 0 (upto (block + 1)) xs ≡ positions_in_range low high 0 (upto block) xs ++ positions_in_range low high (128 * block) (len_of block) xs =
      ap (passing within 0) parts ∙ passing_split within 0 (upto block) (len_of block)
      ∙ ap (λ n. passing within 0 (upto block) ++ passing within n (len_of block)) at in
      omega (arith, before, next, ap length split, length-append (positions_in_range low high 0 (upto block) xs) (positions_in_range low high (128 * block) (len_of block) xs))

  pub counted_few : (block count more : ℕ) → block ≤ length xs / 128 → count ≡ length (positions_in_range low high 0 (upto block) xs)
      → more ≡ length (positions_in_range low high (128 * block) (len_of block) xs) → count + more ≤ length xs
  counted_few block count more inside before next =
      omega (arith, counted_more block count more inside before next, passing_few within 0 (upto (block + 1)))

  module _ (from block : ℕ) (start : from / 128 ≤ block) (inside : block ≤ length xs / 128) (some : from < length xs) where
    -- The positions of a block come after those that were found.
    pub found_more : positions_in_range low high from (upto block - from) xs ++ positions_in_range low high (128 * block + (from - 128 * block)) (len_of block - (from - 128 * block)) xs
        ≡ positions_in_range low high from (upto (block + 1) - from) xs
    found_more =
        let parts : upto (block + 1) - from ≡ (upto block - from) + (len_of block - (from - 128 * block)) = omega (arith, inside, some, start) in
        let at : from + (upto block - from) ≡ 128 * block + (from - 128 * block) = omega (arith, inside, some, start) in
        sym (ap (passing within from) parts ∙ passing_split within from (upto block - from) (len_of block - (from - 128 * block))
        ∙ ap (λ n. passing within from (upto block - from) ++ passing within n (len_of block - (from - 128 * block))) at)

    pub index_inside : from - 128 * block ≤ len_of block
    index_inside = omega (arith, inside, some, start)

  -- Those that were found, and those that are left.
  pub found_all : (from block : ℕ) → positions_in_range low high from (upto block - from) xs
      ++ positions_in_range low high (from + (upto block - from)) (length xs - from - (upto block - from)) xs ≡ positions_between low high from xs
  found_all from block =
      let parts : length xs - from ≡ (upto block - from) + (length xs - from - (upto block - from)) = omega arith in
      sym (ap (passing within from) parts ∙ passing_split within from (upto block - from) (length xs - from - (upto block - from)))

  -- ---- positions that are written block after block

  -- the positions before a block are written, as many as fit
  pub record IsFound (from block done : ℕ) (old out : List ℕ) : Type 0 where
    pub long : length out ≡ length old
    pub count : done ≡ min (length old) (length (positions_in_range low high from (upto block - from) xs))
    pub written : take done out ≡ take (length old) (positions_in_range low high from (upto block - from) xs)
    pub rest : drop done out ≡ drop done old

  module _ (from : ℕ) (some : from < length xs) (old : List ℕ) where
    pub found_started : IsFound from (from / 128) 0 old old
    found_started =
        let none : upto (from / 128) - from ≡ 0 = omega arith in
        let nothing : positions_in_range low high from (upto (from / 128) - from) xs ≡ [] = ap (passing within from) none in
        record {
          long = refl;
          count = omega (arith, ap length nothing);
          written = sym (ap (take (length old)) nothing ∙ take_all (length old) [] (omega arith));
          rest = refl;
        }

    module _ (block done : ℕ) (out : List ℕ) (before : IsFound from block done old out) where
      pub found_next : from / 128 ≤ block → block ≤ length xs / 128 → done < length old → (more fits : ℕ) (found part : List ℕ) → more ≤ length found
          → take more found ≡ positions_in_range low high (128 * block + (from - 128 * block)) (len_of block - (from - 128 * block)) xs
          → fits ≡ min more (length old - done) → part ≡ take fits found
          → IsFound from (block + 1) (done + fits) old (put_mid done (done + fits - done) out part)
      found_next start inside left more fits found part room is fit part_is =
          let next : List ℕ = positions_in_range low high (128 * block + (from - 128 * block)) (len_of block - (from - 128 * block)) xs in
          let many : length next ≡ more = sym (ap length is) ∙ length-take-le more found room in
          let fit_next : fits ≡ min (length next) (length old - done) = omega (arith, fit, many) in
          let taken : part ≡ take fits next = part_is ∙ sym (take-take fits more found (omega (arith, fit))) ∙ ap (take fits) is in
          let long_part : length part ≡ fits = ap length taken ∙ length-take-le fits next (omega (arith, fit_next)) in
          let all = found_more from block start inside some in
          let step = filled_more (length old) done (positions_in_range low high from (upto block - from) xs) out before.count before.written fits next part left before.long
          fit_next taken in
          record {
            long = put_long out part done fits before.long (omega (arith, fit, left)) long_part;
            count = step.0 ∙ ap (λ ys. min (length old) (length ys)) all;
            written = step.1 ∙ ap (take (length old)) all;
            rest = drop-put_mid done (done + fits - done) out part (done + fits) (omega arith) (omega (arith, before.long, fit, left)) (omega (arith, long_part))
                ∙ sym (drop-drop fits done out) ∙ ap (drop fits) before.rest ∙ drop-drop fits done old;
          }
        where
          put_long : (out part : List ℕ) (done fits : ℕ) → length out ≡ length old → done + fits ≤ length old → length part ≡ fits
              → length (put_mid done (done + fits - done) out part) ≡ length old
          put_long out part done fits long room same = search (rules, overwrites)

      pub found_full : done ≡ length old → FindsPositions low high from xs done old out
      found_full full =
          let all = found_all from block in
          let left : List ℕ = positions_in_range low high (from + (upto block - from)) (length xs - from - (upto block - from)) xs in
          let is = filled (length old) done (positions_in_range low high from (upto block - from) xs) out before.count before.written left (inl (omega (arith, full))) in
          record {
            count = is.0 ∙ ap (λ ys. min (length old) (length ys)) all;
            positions = is.1 ∙ ap (take done) all;
            rest = before.rest;
          }

    pub found_end : (block done : ℕ) (out : List ℕ) → block ≡ length xs / 128 + 1 → IsFound from block done old out → FindsPositions low high from xs done old out
    found_end block done out last before =
        let whole : upto block - from ≡ length xs - from = omega (arith, last) in
        let all : positions_in_range low high from (upto block - from) xs ++ [] ≡ positions_between low high from xs =
        append-nil (positions_in_range low high from (upto block - from) xs) ∙ ap (passing within from) whole in
        let is = filled (length old) done (positions_in_range low high from (upto block - from) xs) out before.count before.written [] (inr refl) in
        record {
          count = is.0 ∙ ap (λ ys. min (length old) (length ys)) all;
          positions = is.1 ∙ ap (take done) all;
          rest = before.rest;
        }
