-- A range of the values of a wide column, with a number for each that is missing.
use Rattle.std.proofs.Common.{◌≡◌, ℕ, ◌+◌, ◌-◌, ◌*◌, ◌/◌, ◌%◌, ◌^◌, ◌<◌, ◌≤◌, Bool, true, false, ◌&&◌, cond, eqb, ltb, min, List, map, take, drop, length, get_or, Option, Some, None, refl, sym, ap, ◌∙◌, arith, inl, inr, length-drop}
use Rattle.std.specs.List.{range_with_len}
use Rattle.std.proofs.lemmas.Bool.{cases_lt, le-ltb, lt-ltb}
use Rattle.std.proofs.lemmas.List.{get_or-drop, get_or-take, length-take-le}
use Rattle.std.proofs.lemmas.List.FromFn.{fill_by_all}
use mir.Val.{bool_byte}
use Rattle.bitpacking.specs.Bits.{AreBytes}
use Rattle.bitpack_slices.specs.Bodies.{IsRising}
use Rattle.bitpack_slices.specs.Reads.{has, rank}
use Rattle.bitpack_slices.proofs.ForCallers.{has_at_rank, has_not}
use Rattle.bitpack_sets.proofs.ForCallers.{map_map}
use Rattle.bitpack_wide.specs.declared.wide_column.chunk.Chunk.{Chunk}
use Rattle.bitpack_wide.specs.WideColumnReads.{difference_at, least_at, len_at, lows_at, missing_in, value_at, values_at, values_in}
use Rattle.bitpack_wide.specs.WideColumnSound.{States, difference_in, values_of}
use Rattle.bitpack_wide.specs.inner.WideColumnSteps.{IsChunk}
use Rattle.bitpack_wide.specs.WideColumns.{chunks_of}
use Rattle.bitpack_wide.specs.WideOpened.{value_or, with_fill}
use Rattle.bitpack_wide.proofs.WideBack.{bound_small}
use Rattle.bitpack_wide.proofs.WideBounds.{rest_bytes}
use Rattle.bitpack_wide.proofs.WideChunks.{highs_are, lows_are}
use Rattle.bitpack_wide.proofs.WideMissing.{one, rank_step}
use Rattle.bitpack_wide.proofs.WideNumbers.{range_drop, range_moved, range_take}
use Rattle.bitpack_wide.proofs.WideRest.{values_same}
use Rattle.bitpack_wide.proofs.WideStated.{stated_chunk, stated_parts, value_by, value_most}

-- ---- the ids of a part

-- the next id is the position if that is missing
pub at_rank : (xs ids : List ℕ) (x first next found high : ℕ) → IsRising 0 high xs → take found ids ≡ take found (drop first xs) → found ≡ min 1024 (length xs - first)
    → first + next ≡ rank x xs → next < 1024 → (ltb next (length (take found ids)) && eqb (get_or (take found ids) next 0) x) ≡ has x xs
at_rank xs ids x first next found high rising e size at few =
    let long : length (take found ids) ≡ found = ap length e ∙ length-take-le found (drop first xs) (omega (arith, size, length-drop first xs)) in
    elim (cases_lt next found) [
      | inl less ↦
          let here : get_or (take found ids) next 0 ≡ get_or xs (first + next) 0 =
          ap (λ (l : List ℕ). get_or l next 0) e ∙ get_or-take found (drop first xs) next 0 less ∙ get_or-drop first xs next 0 in
          ap (λ (b : Bool). b && eqb (get_or (take found ids) next 0) x) (lt-ltb next (length (take found ids)) (omega (arith, long, less)))
          ∙ ap (λ (n : ℕ). eqb n x) (here ∙ ap (λ (n : ℕ). get_or xs n 0) at) ∙ sym (has_at_rank x 0 high (rank x xs) xs rising refl (omega (arith, size, less, at)))
      | inr more ↦
          ap (λ (b : Bool). b && eqb (get_or (take found ids) next 0) x) (le-ltb next (length (take found ids)) (omega (arith, long, more)))
          ∙ sym (has_not x (rank x xs) xs refl (omega (arith, size, more, at, few)))
    ]

byte_is : (b : Bool) → bool_byte b ≡ one b
byte_is true = refl
byte_is false = refl

pub byte_most : (b : Bool) → bool_byte b ≤ 1
byte_most true = omega arith
byte_most false = omega arith

pub next_rank : (xs : List ℕ) (from index first next high : ℕ) (b : Bool) → IsRising 0 high xs → first + next ≡ rank (from + index) xs → b ≡ has (from + index) xs
    → first + (next + bool_byte b) ≡ rank (from + (index + 1)) xs
next_rank xs from index first next high b rising at is =
    let e : from + (index + 1) ≡ from + index + 1 = omega arith in
    omega (arith, at, byte_is b, ap one is, rank_step (from + index) 0 high xs rising, ap (λ (n : ℕ). rank n xs) e)

-- ---- a part

or_of : (fill : ℕ) (b : Bool) (x : ℕ) → value_or fill (cond b None (Some x)) ≡ cond b fill x
or_of fill true x = refl
or_of fill false x = refl

pub value_is_at : (fill count : ℕ) (rest : List ℕ) (from k : ℕ) → from % 1024 + k < 1024
    → value_or fill (value_at count rest (from + k))
    ≡ cond (has (from + k) (missing_in (chunks_of count) rest)) fill (least_at rest (from / 65536) + difference_at (chunks_of count) rest (from / 65536) (from % 65536 + k))
value_is_at fill count rest from k within =
    let b : Bool = has (from + k) (missing_in (chunks_of count) rest) in
    let whole : (from + k) / 65536 ≡ from / 65536 = omega (arith, within) in
    let left : (from + k) % 65536 ≡ from % 65536 + k = omega (arith, within) in
    ap (value_or fill) (value_by count rest (from + k) b refl) ∙ or_of fill b _
    ∙ ap (λ (m : ℕ). cond b fill (least_at rest m + difference_at (chunks_of count) rest m ((from + k) % 65536))) whole
    ∙ ap (λ (j : ℕ). cond b fill (least_at rest (from / 65536) + difference_at (chunks_of count) rest (from / 65536) j)) left

pub difference_read : (count : ℕ) (rest : List ℕ) (m : ℕ) (chunk : Chunk) → IsChunk count rest m chunk → (j : ℕ)
    → difference_in chunk.low chunk.high j ≡ difference_at (chunks_of count) rest m j
difference_read count rest m chunk is j =
    ap (λ (l : List ℕ). get_or l j 0 + 2 ^ 32 * get_or (values_of chunk.high) j 0) (lows_are count rest m chunk is)
    ∙ ap (λ (l : List ℕ). get_or (lows_at (chunks_of count) rest m) j 0 + 2 ^ 32 * get_or l j 0) (highs_are count rest m chunk is)

module _ (bytes : List ℕ) (count : ℕ) (rest : List ℕ) (are : AreBytes bytes) (s : States bytes count rest) where
  pub value_fits : (m j : ℕ) → m < chunks_of count → j < len_at count m → least_at rest m + difference_at (chunks_of count) rest m j < 2 ^ 64
  value_fits m j lt within =
      let small = bound_small (chunks_of count) rest (2 * m + 1) (rest_bytes bytes count rest are s) (stated_parts bytes count rest s).tables (omega (arith, lt)) in
      omega (arith, small, value_most count rest m (stated_chunk bytes count rest s m lt) j within)

  -- numbers that are those of a range
  pub copied : (fill from n : ℕ) (out : List ℕ) → from + n ≤ count → length out ≡ n → ((k : ℕ) → k < n → get_or out k 0 ≡ value_or fill (value_at count rest (from + k)))
      → out ≡ take n (drop from (with_fill fill (values_in bytes)))
  unfolding values_at
  copied fill from n out within long each =
      let f : ℕ → ℕ = λ i. value_or fill (value_at count rest i) in
      let few : min n (count - from) ≡ n = omega (arith, within) in
      let move : (k : ℕ) → k < n → f (0 + from + k) ≡ f (from + (0 + k)) = λ k lt. let e : 0 + from + k ≡ from + (0 + k) = omega arith in ap f e in
      fill_by_all (λ k. f (from + k)) out n 0 long each
      ∙ sym (ap (λ (l : List (Option ℕ)). take n (drop from (with_fill fill l))) (values_same bytes count rest (rest_bytes bytes count rest are s) s)
      ∙ ap (λ (l : List ℕ). take n (drop from l)) (map_map (value_or fill) (value_at count rest) 0 count)
      ∙ ap (take n) (range_drop f from 0 count) ∙ range_take f n (0 + from) (count - from)
      ∙ ap (λ (k : ℕ). map f (range_with_len (0 + from) k)) few ∙ range_moved f (λ k. f (from + k)) (0 + from) 0 n move)
