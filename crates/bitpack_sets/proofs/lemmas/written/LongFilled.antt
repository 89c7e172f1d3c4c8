-- The parts of the encoding of 128 ids or more together.
use Rattle.std.proofs.Common.{◌≡◌, ℕ, ◌+◌, ◌*◌, ◌≤◌, List, [], ◌∷◌, ◌++◌, map, length, set, sym, ap, ◌∙◌, arith, append_assoc, length-append, add-mul}
use Rattle.std.specs.List.{concat, flat_map}
use Rattle.std.proofs.Math.Nat.{mul-le-mul_right}
use Rattle.std.proofs.lemmas.List.{length-map}
use Rattle.bitpack_sets.proofs.lemmas.written.BodyFilled.{one_set}
use Rattle.bitpack_slices.proofs.ForCallers.{flat_len}
use Rattle.bitpack_sets.proofs.lemmas.encodings.LongLaws.{array_parts, long_parts, sums_len}
use Rattle.bitpack_slices.specs.Bodies.{le_bytes, parts}
use Rattle.bitpack_sets.specs.Sets.{array, body, in_chunks, sums}
use Rattle.bitpack_sets.specs.Varints.{byte_count, number}
use Rattle.bitpack_sets.specs.Written.{bodies, directory, ends_encoding, head, keys_encoding, sums_encoding}

pub array_size : (ids : List ℕ) → length (array ids) ≡ 1 + length (number (length ids)) + 4 * length ids
array_size ids =
    let a = ap length (array_parts ids) in
    let b = length-append (number (length ids)) (flat_map (le_bytes 4) ids) in
    let d = flat_len 4 ids in
    omega arith

pub array_joined : (ids head first rest : List ℕ) → length head ≡ 1 → first ≡ number (length ids) → rest ≡ flat_map (le_bytes 4) ids → set head 0 6 ++ (first ++ rest) ≡ array ids
array_joined ids head first rest one a b =
    ap (λ (l : List ℕ). l ++ (first ++ rest)) (one_set head 6 one) ∙ ap (λ (l : List ℕ). 6 ∷ (l ++ rest)) a
    ∙ ap (λ (l : List ℕ). 6 ∷ (number (length ids) ++ l)) b ∙ sym (array_parts ids)

pub keys_size : (ids : List ℕ) → length (keys_encoding ids) ≡ 2 * length (parts 65536 ids)
keys_size ids =
    let ps : List (ℕ × List ℕ) = parts 65536 ids in
    flat_len 2 (map (λ chunk. chunk.0) ps) ∙ ap (λ n. 2 * n) (length-map ps (λ chunk. chunk.0))

pub ends_size : (size start : ℕ) (ids : List ℕ) → length (ends_encoding size start ids) ≡ size * length (parts 65536 ids)
ends_size size start ids =
    let ps : List (ℕ × List ℕ) = parts 65536 ids in
    flat_len size (sums start (map length (bodies ids)))
    ∙ ap (λ n. size * n) (sums_len start (map length (bodies ids)) ∙ length-map (bodies ids) length ∙ length-map ps (λ chunk. body chunk.1))

pub sums_size : (size before : ℕ) (ids : List ℕ) → length (sums_encoding size before ids) ≡ size * length (parts 65536 ids)
sums_size size before ids =
    let ps : List (ℕ × List ℕ) = parts 65536 ids in
    let counts : List ℕ = map (λ chunk. length chunk.1) ps in
    flat_len size (sums before counts) ∙ ap (λ n. size * n) (sums_len before counts ∙ length-map ps (λ chunk. length chunk.1))

pub directory_size : (e z count : ℕ) (ids : List ℕ) → count ≡ length (parts 65536 ids) → length (directory e z ids) ≡ 2 * count + e * count + z * count + length (concat (bodies ids))
directory_size e z count ids same =
    let b : List ℕ = concat (bodies ids) in
    let one = length-append (keys_encoding ids) (ends_encoding e 0 ids ++ (sums_encoding z 0 ids ++ b)) in
    let two = length-append (ends_encoding e 0 ids) (sums_encoding z 0 ids ++ b) in
    let three = length-append (sums_encoding z 0 ids) b in
    let k = keys_size ids in
    let f = ends_size e 0 ids ∙ ap (λ n. e * n) (sym same) in
    let g = sums_size z 0 ids ∙ ap (λ n. z * n) (sym same) in
    omega arith

pub chunks_encoding : (ids : List ℕ) → in_chunks ids
    ≡ 5 ∷ (number (length ids) ++ (number (length (parts 65536 ids)) ++ ((byte_count (length (concat (bodies ids))) + 16 * byte_count (length ids))
    ∷ directory (byte_count (length (concat (bodies ids)))) (byte_count (length ids)) ids)))
chunks_encoding ids = long_parts ids

pub chunks_size : (ids : List ℕ) (count size : ℕ) → count ≡ length (parts 65536 ids) → size ≡ length (concat (bodies ids))
    → length (in_chunks ids) ≡ 2 + length (number (length ids)) + length (number count) + length (directory (byte_count size) (byte_count (length ids)) ids)
chunks_size ids count size a b =
    let d : List ℕ = directory (byte_count (length (concat (bodies ids)))) (byte_count (length ids)) ids in
    let s : ℕ = byte_count (length (concat (bodies ids))) + 16 * byte_count (length ids) in
    let one = ap length (chunks_encoding ids) in
    let two = length-append (number (length ids)) (number (length (parts 65536 ids)) ++ (s ∷ d)) in
    let three = length-append (number (length (parts 65536 ids))) (s ∷ d) in
    let four = ap (λ n. length (number n)) a in
    let five = ap (λ n. length (directory (byte_count n) (byte_count (length ids)) ids)) b in
    omega arith

product_sum : (e z count : ℕ) → (2 + e + z) * count ≡ 2 * count + e * count + z * count
product_sum e z count = add-mul (2 + e) z count ∙ ap (λ n. n + z * count) (add-mul 2 e count)

-- the sizes of the parts are the size of the encoding
pub chunks_length : (ids : List ℕ) (count size : ℕ) → count ≡ length (parts 65536 ids) → size ≡ length (concat (bodies ids))
    → length (in_chunks ids) ≡ 2 + length (number (length ids)) + length (number count) + (2 + byte_count size + byte_count (length ids)) * count + size
chunks_length ids count size a b =
    let one = chunks_size ids count size a b in
    let two = directory_size (byte_count size) (byte_count (length ids)) count ids a in
    let three = product_sum (byte_count size) (byte_count (length ids)) count in
    omega arith

pub head_joined : (count chunks s : ℕ) (form first second sizes : List ℕ) → length form ≡ 1 → length sizes ≡ 1 → first ≡ number count → second ≡ number chunks
    → set form 0 5 ++ (first ++ (second ++ set sizes 0 s)) ≡ 5 ∷ (number count ++ (number chunks ++ (s ∷ [])))
head_joined count chunks s form first second sizes one one' f g =
    ap (λ (l : List ℕ). l ++ (first ++ (second ++ set sizes 0 s))) (one_set form 5 one) ∙ ap (λ (l : List ℕ). 5 ∷ (l ++ (second ++ set sizes 0 s))) f
    ∙ ap (λ (l : List ℕ). 5 ∷ (number count ++ (l ++ set sizes 0 s))) g ∙ ap (λ (l : List ℕ). 5 ∷ (number count ++ (number chunks ++ l))) (one_set sizes s one')

pub chunks_joined : (ids front rest : List ℕ) (count chunks size e z : ℕ) → count ≡ length ids → chunks ≡ length (parts 65536 ids) → size ≡ length (concat (bodies ids))
    → e ≡ byte_count size → z ≡ byte_count count → front ≡ head count chunks e z → rest ≡ directory e z ids → front ++ rest ≡ in_chunks ids
chunks_joined ids front rest count chunks size e z n a b e_is z_is f r =
    let e_same : e ≡ byte_count (length (concat (bodies ids))) = e_is ∙ ap byte_count b in
    let z_same : z ≡ byte_count (length ids) = z_is ∙ ap byte_count n in
    let s : ℕ = e + 16 * z in
    ap (λ (l : List ℕ). l ++ rest) f ∙ ap (λ (l : List ℕ). 5 ∷ l) (append_assoc (number count) (number chunks ++ (s ∷ [])) rest)
    ∙ ap (λ (l : List ℕ). 5 ∷ (number count ++ l)) (append_assoc (number chunks) (s ∷ []) rest)
    ∙ ap (λ m. 5 ∷ (number m ++ (number chunks ++ (s ∷ rest)))) n ∙ ap (λ m. 5 ∷ (number (length ids) ++ (number m ++ (s ∷ rest)))) a
    ∙ ap (λ (l : List ℕ). 5 ∷ (number (length ids) ++ (number (length (parts 65536 ids)) ++ (s ∷ l)))) r
    ∙ ap (λ m. 5 ∷ (number (length ids) ++ (number (length (parts 65536 ids)) ++ ((m + 16 * z) ∷ directory m z ids)))) e_same
    ∙ ap (λ m. 5 ∷ (number (length ids) ++ (number (length (parts 65536 ids)) ++ ((byte_count (length (concat (bodies ids))) + 16 * m)
    ∷ directory (byte_count (length (concat (bodies ids)))) m ids)))) z_same
    ∙ sym (chunks_encoding ids)

pub few_times : (e most count : ℕ) → e ≤ most → e * count ≤ most * count
few_times e most count h = mul-le-mul_right count h
