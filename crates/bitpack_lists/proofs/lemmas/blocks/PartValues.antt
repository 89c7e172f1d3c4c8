-- The values of an encoded list by position: of blocks, which are a parameter, and of a tail.
-- Serves blocks, opened, v2.
use Rattle.std.proofs.Common.{◌≡◌, ℕ, ◌+◌, ◌-◌, ◌*◌, ◌/◌, ◌%◌, ◌^◌, ◌<◌, ◌≤◌, List, map, length, drop, get_or, None, sym, subst, ◌∙◌, ap, arith, refl, inl, inr}
use Rattle.std.specs.List.{range_with_len}
use Rattle.std.proofs.Math.Nat.{div-add-mod}
use Rattle.std.proofs.lemmas.Bool.{cases_lt, le-ltb, lt-ltb}
use Rattle.std.proofs.lemmas.List.{ext_get_or, get_or-drop, length-drop}
use Rattle.std.proofs.lemmas.List.Elements.{All-get_or, All-from_get_or}
use Rattle.std.proofs.lemmas.List.FromFn.{get_or-map-range_with_len, length-map-range_with_len}
use Rattle.std.proofs.lemmas.Nat.{div-mul-add, le-div, mod-mul-add, mul-le}
use Rattle.bitpacking.specs.Codes.{AreWords}
use Rattle.bitpack_lists.specs.declared.list_kind.ListKind.{ListKind}
use Rattle.bitpack_lists.specs.Parts.{tail_values, value_in_parts, whole_blocks}
use Rattle.bitpack_lists.specs.Version2.{block_of, first_out, is_out, least_below}
use Rattle.bitpack_lists.proofs.lemmas.blocks.BlockLemmas.{block_end, get_or-block_of, length-block_of}
use Rattle.bitpack_lists.proofs.lemmas.blocks.Orders.{is_out-same, least_below-same}

module _ (lanes blocks : ℕ) (block : ℕ → List ℕ) (tail : ℕ → ℕ) (some : 1 ≤ lanes) where
  pub value_in_parts-block : (m k : ℕ) → m < blocks → k < 32 * lanes → value_in_parts lanes blocks block tail (32 * lanes * m + k) ≡ get_or (block m) k 0
  unfolding value_in_parts
  value_in_parts-block m k lt within =
      let n : ℕ = 32 * lanes in
      let turned : n * m + k ≡ m * n + k = omega arith in
      let row : (n * m + k) / n ≡ m = ap (λ p. p / n) turned ∙ div-mul-add m n k within in
      let column : (n * m + k) % n ≡ k = ap (λ p. p % n) turned ∙ mod-mul-add m n k within in
      rw (row, column, lt-ltb m blocks lt) refl

  pub value_in_parts-tail : (k : ℕ) → value_in_parts lanes blocks block tail (32 * lanes * blocks + k) ≡ tail k
  unfolding value_in_parts
  value_in_parts-tail k =
      let n : ℕ = 32 * lanes in
      let p : ℕ = n * blocks + k in
      let row : blocks ≤ p / n = le-div blocks p n (omega arith) (omega arith) in
      let left : n * blocks + k - n * blocks ≡ k = omega arith in
      rw (le-ltb (p / n) blocks row, left) refl

-- Values that are those at each position are in order where those are.
pub ordered_is : (kind : ListKind) (values : List ℕ) (value : ℕ → ℕ) → ((p : ℕ) → p < length values → get_or values p 0 ≡ value p)
    → first_out kind values ≡ least_below (is_out kind value) (length values)
ordered_is kind values value each =
    least_below-same (is_out kind (λ p. get_or values p 0)) (is_out kind value) (length values) (is_out-same kind (λ p. get_or values p 0) value (length values) each)

-- ---- the list of these values

abbrev pub values_in_parts : (lanes count : ℕ) → (ℕ → List ℕ) → (ℕ → ℕ) → List ℕ
values_in_parts lanes count block tail = map (value_in_parts lanes (whole_blocks lanes count) block tail) (range_with_len 0 count)

module _ (lanes count : ℕ) (block : ℕ → List ℕ) (tail : ℕ → ℕ) (some : 1 ≤ lanes)
    (long : (m : ℕ) → m < whole_blocks lanes count → length (block m) ≡ 32 * lanes) where
  abbrev blocks : ℕ
  blocks = whole_blocks lanes count

  abbrev value : ℕ → ℕ
  value = value_in_parts lanes blocks block tail

  abbrev values : List ℕ
  values = values_in_parts lanes count block tail

  pub length-values_in_parts : length values ≡ count
  length-values_in_parts = length-map-range_with_len value 0 count

  pub get_or-values_in_parts : (p : ℕ) → p < count → get_or values p 0 ≡ value p
  get_or-values_in_parts p lt = get_or-map-range_with_len value 0 count p p 0 lt (omega arith)

  parts : 32 * lanes * blocks + tail_values lanes count ≡ count
  parts = div-add-mod count (32 * lanes)

  -- Each position is one of a block, or of the tail.
  pub AreWords-values_in_parts : ((m : ℕ) → m < blocks → AreWords (block m)) → ((k : ℕ) → k < tail_values lanes count → tail k < 2 ^ 32)
      → AreWords values
  AreWords-values_in_parts are words = All-from_get_or (λ v. v < 2 ^ 32) values 0 (λ p lt.
      let within : p < count = omega (arith, lt, length-values_in_parts) in
      rw (get_or-values_in_parts p within) (value-lt p within))
    where
      value-lt : (p : ℕ) → p < count → value p < 2 ^ 32
      value-lt p lt =
          let n : ℕ = 32 * lanes in
          let here : n * (p / n) + p % n ≡ p = div-add-mod p n in
          elim (cases_lt (p / n) blocks) [
            | inl below ↦
                let column : p % n < n = omega arith in
                let found = All-get_or (λ v. v < 2 ^ 32) (block (p / n)) (p % n) 0 (omega (arith, column, long (p / n) below)) (are (p / n) below) in
                subst (λ x. x < 2 ^ 32) (sym (value_in_parts-block lanes blocks block tail some (p / n) (p % n) below column) ∙ ap value here) found
            | inr after ↦
                let upto : n * blocks ≤ p = omega (arith, here, mul-le n blocks n (p / n) (omega arith) after) in
                let there : n * blocks + (p - n * blocks) ≡ p = omega arith in
                subst (λ x. x < 2 ^ 32) (sym (value_in_parts-tail lanes blocks block tail some (p - n * blocks)) ∙ ap value there)
                (words (p - n * blocks) (omega (arith, lt, upto, parts)))
          ]

  pub block_of-values_in_parts : (m : ℕ) → m < blocks → block_of lanes values m ≡ block m
  block_of-values_in_parts m lt =
      let n : ℕ = 32 * lanes in
      let end : n * (m + 1) ≤ count = block_end n m count lt in
      let whole : length (block_of lanes values m) ≡ n = length-block_of lanes m values (omega (arith, end, length-values_in_parts)) in
      ext_get_or 0 (block_of lanes values m) (block m) (omega (arith, whole, long m lt)) (λ k within.
      let column : k < n = omega (arith, within, whole) in
      get_or-block_of lanes m k values column ∙ get_or-values_in_parts (n * m + k) (omega (arith, end))
      ∙ value_in_parts-block lanes blocks block tail some m k lt column)

  -- The values after the blocks are those of the tail.
  pub tail_of-values_in_parts : (later : List ℕ) → length later ≡ tail_values lanes count → ((k : ℕ) → k < length later → get_or later k 0 ≡ tail k)
      → drop (32 * lanes * blocks) values ≡ later
  tail_of-values_in_parts later size_of each =
      let n : ℕ = 32 * lanes in
      let left : length (drop (n * blocks) values) ≡ tail_values lanes count =
      omega (arith, length-drop (n * blocks) values, length-values_in_parts, parts) in
      sym (ext_get_or 0 later (drop (n * blocks) values) (omega (arith, size_of, left)) (λ k lt.
      each k lt ∙ sym (value_in_parts-tail lanes blocks block tail some k) ∙ sym (get_or-values_in_parts (n * blocks + k) (omega (arith, lt, size_of, parts)))
      ∙ sym (get_or-drop (n * blocks) values k 0)))

  pub ordered_in_parts : (kind : ListKind) → least_below (is_out kind value) count ≡ None → first_out kind values ≡ None
  ordered_in_parts kind ordered =
      ordered_is kind values value (λ p lt. get_or-values_in_parts p (omega (arith, lt, length-values_in_parts)))
      ∙ ap (least_below (is_out kind value)) length-values_in_parts ∙ ordered

-- ---- the values of a list

-- The value at each position is the list's where the blocks and the tail are.
pub value_is_given : (lanes : ℕ) (values : List ℕ) (block : ℕ → List ℕ) (tail : ℕ → ℕ) → 1 ≤ lanes
    → ((m : ℕ) → m < whole_blocks lanes (length values) → block_of lanes values m ≡ block m)
    → ((k : ℕ) → k < length (drop (32 * lanes * whole_blocks lanes (length values)) values)
    → get_or (drop (32 * lanes * whole_blocks lanes (length values)) values) k 0 ≡ tail k)
    → (p : ℕ) → p < length values → get_or values p 0 ≡ value_in_parts lanes (whole_blocks lanes (length values)) block tail p
value_is_given lanes values block tail some same each p lt =
    let n : ℕ = 32 * lanes in
    let blocks_of : ℕ = whole_blocks lanes (length values) in
    let here : n * (p / n) + p % n ≡ p = div-add-mod p n in
    let column : p % n < n = omega arith in
    let value_of : ℕ → ℕ = value_in_parts lanes blocks_of block tail in
    elim (cases_lt (p / n) blocks_of) [
      | inl below ↦
          ap (λ k. get_or values k 0) (sym here) ∙ sym (get_or-block_of lanes (p / n) (p % n) values column)
          ∙ ap (λ xs. get_or xs (p % n) 0) (same (p / n) below)
          ∙ sym (value_in_parts-block lanes blocks_of block tail some (p / n) (p % n) below column) ∙ ap value_of here
      | inr after ↦
          let upto : n * blocks_of ≤ p = omega (arith, here, mul-le n blocks_of n (p / n) (omega arith) after) in
          let k : ℕ = p - n * blocks_of in
          let there : n * blocks_of + k ≡ p = omega arith in
          let within : k < length (drop (n * blocks_of) values) = omega (arith, lt, upto, length-drop (n * blocks_of) values) in
          ap (λ q. get_or values q 0) (sym there) ∙ sym (get_or-drop (n * blocks_of) values k 0) ∙ each k within
          ∙ sym (value_in_parts-tail lanes blocks_of block tail some k) ∙ ap value_of there
    ]
