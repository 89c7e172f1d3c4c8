-- What is gathered of all chunks of ids: how many ids and bytes they have, and how many ids there are if they are no set in chunks.
use Rattle.std.proofs.Common.{Ok, Result, ◌≡◌, ℕ, ◌+◌, ◌*◌, ◌^◌, ◌<◌, ◌≤◌, ◌⊎◌, List, ◌++◌, map, length, take, refl, sym, ap, ◌∙◌, arith, inl, inr, subst}
use Rattle.std.specs.List.{flat_map}
use Rattle.std.proofs.lemmas.Bool.{cases_lt}
use Rattle.std.proofs.lemmas.List.{length-map, take-take, take_all, take_at}
use Rattle.bitpack_slices.proofs.ForCallers.{keys_rise, parts_are, rising_room}
use Rattle.bitpack_slices.specs.Bodies.{IsRising, le_bytes, parts}
use Rattle.bitpack_slices.specs.declared.set_error.SetError.{SetError}
use Rattle.bitpack_sets.proofs.ForCallers.{IsTold, accepted, told_chunks, told_counts, told_encoding, told_len, told_sizes, told_small}
use Rattle.bitpack_sets.specs.Sets.{IsSet, body, encoding, sums}
use Rattle.bitpack_sets.specs.Varints.{byte_count, number}
use Rattle.bitpack_sets.specs.Written.{head}
use Rattle.bitpack_queries.specs.Gathered.{Fills, IsCounted, IsGathered}
use Rattle.bitpack_queries.proofs.lemmas.two.GatherLaws.{not_refused}

-- a list has so many numbers if its first are told of so many chunks
long_as : (f : ℕ × List ℕ → ℕ) (chunks : ℕ) (xs ids : List ℕ) → chunks ≡ length (parts (2 ^ 16) ids) → take chunks xs ≡ map f (parts (2 ^ 16) ids) → chunks ≤ length xs
long_as f chunks xs ids is told = elim (cases_lt (length xs) chunks) [
  | inl less ↦ (
      let long : length xs ≡ length (parts (2 ^ 16) ids) = sym (ap length (take_all chunks xs (omega arith))) ∙ ap length told ∙ length-map (parts (2 ^ 16) ids) f in
      absurd (omega arith))
  | inr room ↦ room
]

-- there is a chunk for each key at most
pub chunks_few : (ids : List ℕ) → IsRising 0 (2 ^ 32) ids → length (parts (2 ^ 16) ids) ≤ 65536
chunks_few ids rise =
    let keys_within = rising_room 0 65536 (map (λ (chunk : ℕ × List ℕ). chunk.0) (parts (2 ^ 16) ids))
    (keys_rise 65536 0 65536 (parts (2 ^ 16) ids) (parts_are 65536 0 65536 0 ids (omega arith) (omega arith) rise)) in
    let long = length-map (parts (2 ^ 16) ids) (λ (chunk : ℕ × List ℕ). chunk.0) in
    omega arith

module _ (ids keys counts sizes bytes : List ℕ) (count chunks size : ℕ) (so : IsGathered ids keys counts sizes bytes count chunks size) where
  gathered_told : IsTold ids (take chunks keys) (take chunks counts) (take chunks sizes) count chunks size
  gathered_told = record {
    count_is = so.count_is;
    chunks_are = so.chunks_are;
    keys_are = so.keys_are;
    counts_are = so.counts_are;
    sizes_are = so.sizes_are;
    size_is = so.size_is;
  }

  -- what a directory is written of
  pub gathered_counted : IsCounted keys counts sizes count chunks size
  gathered_counted = record {
    keys_there = long_as (λ chunk. chunk.0) chunks keys ids so.chunks_are so.keys_are;
    counts_there = long_as (λ chunk. length chunk.1) chunks counts ids so.chunks_are so.counts_are;
    sizes_there = long_as (λ chunk. length (body chunk.1)) chunks sizes ids so.chunks_are so.sizes_are;
    counts_are = told_counts ids (take chunks keys) (take chunks counts) (take chunks sizes) count chunks size gathered_told;
    sizes_are = told_sizes ids (take chunks keys) (take chunks counts) (take chunks sizes) count chunks size gathered_told;
    some = told_chunks ids (take chunks keys) (take chunks counts) (take chunks sizes) count chunks size gathered_told;
    small = told_small ids (take chunks keys) (take chunks counts) (take chunks sizes) count chunks size gathered_told;
  }

  -- if they are no set in chunks, there is room for them where there is room for four items of each chunk
  pub gathered_room : IsRising 0 (2 ^ 32) ids → (count ≤ 127) ⊎ (count < 4 * chunks) → 127 < count → (room : ℕ) → 4 * chunks ≤ room
      → (length ids ≤ room) × (length ids ≤ 2 ^ 28)
  gathered_room rise few many room enough =
      let is = so.count_is in
      let parted = so.chunks_are in
      let most = chunks_few ids rise in
      elim few [ inl less ↦ absurd (omega arith) | inr less ↦ (omega arith, omega arith) ]

  module _ (rise : IsRising 0 (2 ^ 32) ids) (many : 127 < count) (few : count ≤ 2 ^ 28) (most : 4 * chunks ≤ count) (len : ℕ)
      (is : len ≡ 2 + length (number count) + length (number chunks) + (2 + byte_count size + byte_count count) * chunks + size) where
    -- the encoding fills what is written, if there is room
    pub gathered_fills : (new : List ℕ) → (len ≤ length new → take len new ≡ encoding ids) → Fills ids (Ok len) bytes new
    gathered_fills new written =
        let set : IsSet ids = record { few = subst (λ (n : ℕ). n ≤ 2 ^ 28) so.count_is few; rising = rise } in
        record {
          set = set;
          len = told_len ids (take chunks keys) (take chunks counts) (take chunks sizes) count chunks size gathered_told many most len is;
          ok = written;
          fault = accepted ids _ (not_refused ids set) refl;
        }

    -- the encoding is what is written before the bodies, and the bodies
    pub gathered_encoding : (own rest : List ℕ) → len ≤ length bytes
        → own ≡ head count (length (take chunks keys)) (byte_count size) (byte_count count)
        ++ (flat_map (le_bytes 2) (take chunks keys) ++ (flat_map (le_bytes (byte_count size)) (sums 0 (take chunks sizes))
        ++ (flat_map (le_bytes (byte_count count)) (sums 0 (take chunks counts)) ++ take size (take len bytes))))
        → take len (own ++ rest) ≡ encoding ids
    gathered_encoding own rest room written =
        let encoded : own ≡ encoding ids = told_encoding ids (take chunks keys) (take chunks counts) (take chunks sizes) count chunks size gathered_told many most
        (take size (take len bytes)) own (take-take size len bytes (omega arith) ∙ so.bodies_are (omega arith)) written in
        let long = told_len ids (take chunks keys) (take chunks counts) (take chunks sizes) count chunks size gathered_told many most len is in
        take_at own rest len (ap length encoded ∙ sym long) ∙ encoded

-- the bytes before do not matter
pub fills_from : (ids ids' old old' new : List ℕ) (result : Result ℕ SetError) → ids' ≡ ids → Fills ids' result old' new → Fills ids result old new
fills_from ids ids' old old' new result same so =
    subst (λ (l : List ℕ). Fills l result old new) same (record { set = so.set; len = so.len; ok = so.ok; fault = so.fault })
