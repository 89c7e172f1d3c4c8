-- The values of a list by position, and the count of values by blocks.
-- Serves opened.
use Rattle.std.proofs.Common.{◌≡◌, ℕ, ◌+◌, ◌-◌, ◌*◌, ◌/◌, ◌<◌, ◌≤◌, min, List, length, get_or, Some, ◌∙◌, ap, arith, inl, inr}
use Rattle.std.specs.List.{slice_get}
use Rattle.std.proofs.Math.Nat.{div-add-mod}
use Rattle.std.proofs.lemmas.Bool.{cases_lt}
use Rattle.std.proofs.lemmas.List.{ext_get_or}
use Rattle.std.proofs.lemmas.List.FromFn.{get_or-map-range_with_len, length-map-range_with_len}
use Rattle.std.proofs.lemmas.Nat.{mul-le}
use Rattle.std.proofs.lemmas.Option.{slice_get-get_or}
use Rattle.bitpack_lists.specs.Opened.{first_of}

-- ---- the values of a list

pub length-first_of : (value : ℕ → ℕ) (count : ℕ) → length (first_of value count) ≡ count
unfolding first_of
length-first_of value count = length-map-range_with_len value 0 count

pub get_or-first_of : (value : ℕ → ℕ) (count k : ℕ) → k < count → get_or (first_of value count) k 0 ≡ value k
unfolding first_of
get_or-first_of value count k lt = get_or-map-range_with_len value 0 count k k 0 lt (omega arith)

pub slice_get-first_of : (value : ℕ → ℕ) (count k : ℕ) → k < count → slice_get (first_of value count) k ≡ Some (value k)
slice_get-first_of value count k lt =
    slice_get-get_or (first_of value count) k 0 (omega (arith, length-first_of value count)) ∙ ap Some (get_or-first_of value count k lt)

pub first_of-same : (value : ℕ → ℕ) (count : ℕ) (values : List ℕ) → count ≡ length values → ((k : ℕ) → k < count → value k ≡ get_or values k 0)
    → first_of value count ≡ values
first_of-same value count values long each =
    ext_get_or 0 (first_of value count) values (length-first_of value count ∙ long) (λ k lt.
    let within : k < count = omega (arith, length-first_of value count, lt) in
    get_or-first_of value count k within ∙ each k within)

-- ---- blocks of n values

module _ (n count : ℕ) (some : 1 ≤ n) where
  abbrev blocks : ℕ
  blocks = count / n

  abbrev left : ℕ → ℕ
  left block = min n (count - n * block)

  -- Each block is whole, and after them come fewer values than a block has.
  pub part_end : (block : ℕ) → block < blocks → n * block + n ≤ count
  part_end block lt =
      let room : n * (block + 1) ≤ n * blocks = mul-le n (block + 1) n blocks (omega arith) (omega arith) in
      omega (arith, room, div-add-mod count n)

  pub tail_end : (count < n * blocks + n) × (n * blocks ≤ count)
  tail_end = (omega (arith, div-add-mod count n), omega (arith, div-add-mod count n))

  pub left_whole : (block : ℕ) → block < blocks → left block ≡ n
  left_whole block lt = omega (arith, part_end block lt)

  pub left_tail : left blocks ≡ count - n * blocks
  left_tail = omega (arith, tail_end.0, tail_end.1)

  -- The current part is within the list, and ends it if it is the tail.
  pub left_within : (block : ℕ) → block ≤ blocks → n * block + left block ≤ count
  left_within block le = elim (cases_lt block blocks) [
    | inl lt ↦ omega (arith, part_end block lt)
    | inr past ↦
        let same : block ≡ blocks = omega arith in
        rw same (omega (arith, tail_end.1))
  ]
