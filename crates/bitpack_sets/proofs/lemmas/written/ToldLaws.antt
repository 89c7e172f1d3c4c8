-- What is told of the chunks of ids, and their bodies, are the encoding of the ids.
use Rattle.std.proofs.Common.{◌≡◌, ℕ, ◌+◌, ◌*◌, ◌^◌, ◌<◌, ◌≤◌, List, [], ◌∷◌, ◌++◌, map, length, refl, sym, ap, ◌∙◌, arith, subst}
use Rattle.std.specs.List.{concat, flat_map, sum}
use Rattle.std.proofs.lemmas.List.{length-map}
use Rattle.std.proofs.lemmas.List.Sums.{sum_by-cons}
use Rattle.bitpack_slices.proofs.ForCallers.{join_parts, total}
use Rattle.bitpack_slices.specs.Bodies.{le_bytes, parts}
use Rattle.bitpack_sets.proofs.lemmas.encodings.EncodeLaws.{chunks_is}
use Rattle.bitpack_sets.proofs.lemmas.encodings.LongLaws.{bodies_len, concat_len, each_part, join_len}
use Rattle.bitpack_sets.proofs.lemmas.written.FrontEncodings.{parts_most}
use Rattle.bitpack_sets.proofs.lemmas.written.LongFilled.{chunks_joined, chunks_length}
use Rattle.bitpack_sets.specs.Sets.{body, encoding, in_chunks, sums}
use Rattle.bitpack_sets.specs.Varints.{byte_count, number}
use Rattle.bitpack_sets.specs.Written.{bodies, head}

-- of each chunk of ids its key, how many ids it has, and how many bytes its body
pub record IsTold (ids keys counts sizes : List ℕ) (count chunks size : ℕ) : Type 0 where
  pub count_is : count ≡ length ids
  pub chunks_are : chunks ≡ length (parts (2 ^ 16) ids)
  pub keys_are : keys ≡ map (λ chunk. chunk.0) (parts (2 ^ 16) ids)
  pub counts_are : counts ≡ map (λ chunk. length chunk.1) (parts (2 ^ 16) ids)
  pub sizes_are : sizes ≡ map (λ chunk. length (body chunk.1)) (parts (2 ^ 16) ids)
  pub size_is : size ≡ length (concat (bodies ids))

total_sum : (xs : List ℕ) → sum xs ≡ total xs
total_sum [] = refl
total_sum (x ∷ xs) = sum_by-cons (λ (n : ℕ). n) x xs ∙ ap (λ (n : ℕ). x + n) (total_sum xs)

lengths : (ps : List (ℕ × List ℕ)) → map (λ chunk. length (body chunk.1)) ps ≡ map length (map (λ chunk. body chunk.1) ps)
lengths [] = refl
lengths (p ∷ ps) = ap (λ (l : List ℕ). length (body p.1) ∷ l) (lengths ps)

module _ (ids keys counts' sizes : List ℕ) (count chunks size : ℕ) (told : IsTold ids keys counts' sizes count chunks size) where
  told_keys : length keys ≡ chunks
  told_keys = ap length told.keys_are ∙ length-map (parts 65536 ids) (λ chunk. chunk.0) ∙ sym told.chunks_are

  pub told_chunks : chunks ≤ count
  told_chunks = let most = parts_most 65536 ids in let a = told.chunks_are in let b = told.count_is in omega arith

  pub told_counts : sum counts' ≡ count
  told_counts = total_sum counts' ∙ ap total told.counts_are ∙ sym (join_len (parts 65536 ids)) ∙ ap length (join_parts 65536 ids) ∙ sym told.count_is

  are_sizes : sizes ≡ map length (bodies ids)
  are_sizes = told.sizes_are ∙ lengths (parts 65536 ids)

  pub told_sizes : sum sizes ≡ size
  told_sizes = total_sum sizes ∙ ap total are_sizes ∙ sym (concat_len (bodies ids)) ∙ sym told.size_is

  pub told_small : size ≤ 2 * count
  told_small =
      let most = bodies_len (parts 65536 ids) (each_part 65536 ids) in
      let all = sym (join_len (parts 65536 ids)) ∙ ap length (join_parts 65536 ids) in
      let long = concat_len (bodies ids) in
      let a = told.count_is in
      let b = told.size_is in
      omega arith

  module _ (many : 127 < count) (long : 4 * chunks ≤ count) where
    in_chunks_is : encoding ids ≡ in_chunks ids
    in_chunks_is = chunks_is ids chunks (subst (λ (n : ℕ). 127 < n) told.count_is many) told.chunks_are (subst (λ (n : ℕ). 4 * chunks ≤ n) told.count_is long)

    -- the length of the encoding
    pub told_len : (len : ℕ) → len ≡ 2 + length (number count) + length (number chunks) + (2 + byte_count size + byte_count count) * chunks + size → len ≡ length (encoding ids)
    told_len len is =
        is ∙ ap (λ (n : ℕ). 2 + length (number n) + length (number chunks) + (2 + byte_count size + byte_count n) * chunks + size) told.count_is
        ∙ sym (chunks_length ids chunks size told.chunks_are told.size_is) ∙ sym (ap length in_chunks_is)

    -- what is written of the chunks, and their bodies
    pub told_encoding : (bytes out : List ℕ) → bytes ≡ concat (bodies ids)
        → out ≡ head count (length keys) (byte_count size) (byte_count count)
        ++ (flat_map (le_bytes 2) keys ++ (flat_map (le_bytes (byte_count size)) (sums 0 sizes) ++ (flat_map (le_bytes (byte_count count)) (sums 0 counts') ++ bytes)))
        → out ≡ encoding ids
    told_encoding bytes out are is =
        let e : ℕ = byte_count size in
        let z : ℕ = byte_count count in
        let keys_same = ap (flat_map (le_bytes 2)) told.keys_are in
        let ends_same = ap (λ (l : List ℕ). flat_map (le_bytes e) (sums 0 l)) are_sizes in
        let sums_same = ap (λ (l : List ℕ). flat_map (le_bytes z) (sums 0 l)) told.counts_are in
        is ∙ ap (λ (n : ℕ). head count n e z ++ (flat_map (le_bytes 2) keys ++ (flat_map (le_bytes e) (sums 0 sizes) ++ (flat_map (le_bytes z) (sums 0 counts') ++ bytes)))) told_keys
        ∙ chunks_joined ids (head count chunks e z) (flat_map (le_bytes 2) keys ++ (flat_map (le_bytes e) (sums 0 sizes) ++ (flat_map (le_bytes z) (sums 0 counts') ++ bytes)))
        count chunks size e z told.count_is told.chunks_are told.size_is refl refl refl
        (λ i. keys_same i ++ (ends_same i ++ (sums_same i ++ are i)))
        ∙ sym in_chunks_is
