-- The chunks of the ids of a bitmap are its containers.
use Rattle.std.proofs.Common.{◌≡◌, ℕ, zero, suc, ◌+◌, ◌-◌, ◌*◌, ◌^◌, ◌<◌, ◌≤◌, None, List, [], ◌∷◌, ◌++◌, map, length, get_or, refl, sym, ap, ◌∙◌, arith, add-one, append-nil, length-append}
use Rattle.std.specs.List.{flat_map, range_with_len}
use Rattle.std.proofs.lemmas.Grind.{flat_map-append}
use Rattle.std.proofs.lemmas.List.{length-map, map-append}
use Rattle.bitpack_groups.proofs.ForCallers.{none_first}
use Rattle.bitpack_slices.proofs.ForCallers.{AreParts, bytes_are, join_rises, parts_join, range_cat}
use Rattle.bitpack_slices.specs.Bodies.{IsRising, parts}
use Rattle.bitpack_sets.proofs.ForCallers.{first_none}
use Rattle.bitpack_sets.specs.Sets.{IsSet}
use Rattle.bitpack_sets.specs.Directory.{ids_of_chunks}
use Rattle.bitpack_roaring.proofs.ContainerLaws.{IsTested, tested}
use Rattle.bitpack_roaring.proofs.HeadLaws.{two_small}
use Rattle.bitpack_roaring.specs.Faults.{container_fault, fault, first_of, head_fault}
use Rattle.bitpack_roaring.specs.Roaring.{container_at, containers, count_at, ids_before, ids_of, key_at, keys_start, numbers_at, position_at}

key_small : (bytes : List ℕ) (m : ℕ) → ((k : ℕ) → get_or bytes k 0 < 256) → key_at bytes m < 65536
unfolding key_at
key_small bytes m are = two_small (keys_start bytes) (2 * m) bytes are

count_few : (bytes : List ℕ) (m : ℕ) → ((k : ℕ) → get_or bytes k 0 < 256) → count_at bytes m ≤ 65536
unfolding count_at
count_few bytes m are = let small = two_small (keys_start bytes) (2 * m + 1) bytes are in omega arith

count_some : (bytes : List ℕ) (m : ℕ) → 1 ≤ count_at bytes m
unfolding count_at
count_some bytes m = omega arith

-- ---- of a bitmap without a fault

pub each_tested : (bytes : List ℕ) → ((k : ℕ) → get_or bytes k 0 < 256) → fault bytes ≡ None → (m : ℕ) → m < containers bytes → IsTested bytes m
unfolding fault
each_tested bytes are none m within =
    let (head, later) = none_first (head_fault bytes) _ none in
    let (all, last) = none_first (first_of (container_fault bytes) (containers bytes)) _ later in
    tested bytes m (bytes_are bytes are) (count_some bytes m) (count_few bytes m are) (first_none (container_fault bytes) (containers bytes) all m within)

-- ---- the ids

-- those of one container more
pub ids_more : (bytes : List ℕ) (m : ℕ) → ids_before bytes (m + 1) ≡ ids_before bytes m ++ map (λ low. key_at bytes m * 65536 + low) (numbers_at bytes m)
ids_more bytes m =
    let raise : ℕ × List ℕ → List ℕ = λ chunk. map (λ low. chunk.0 * 65536 + low) chunk.1 in
    let first : List (ℕ × List ℕ) = map (container_at bytes) (range_with_len 0 m) in
    ap (λ (l : List ℕ). ids_of_chunks (map (container_at bytes) l)) (range_cat 0 m 1)
    ∙ ap ids_of_chunks (map-append (container_at bytes) (range_with_len 0 m) (range_with_len (0 + m) 1))
    ∙ flat_map-append raise first (map (container_at bytes) (range_with_len (0 + m) 1))
    ∙ ap (λ (l : List ℕ). flat_map raise first ++ l) (append-nil (raise (container_at bytes (0 + m))))
    ∙ ap (λ (n : ℕ). ids_before bytes m ++ map (λ low. key_at bytes n * 65536 + low) (numbers_at bytes n)) zeroth
  where
    zeroth : 0 + m ≡ m
    zeroth = omega arith

pub chunks_more : (bytes : List ℕ) (m : ℕ) → map (container_at bytes) (range_with_len 0 (m + 1)) ≡ map (container_at bytes) (range_with_len 0 m) ++ container_at bytes m ∷ []
chunks_more bytes m =
    let zeroth : 0 + m ≡ m = omega arith in
    ap (map (container_at bytes)) (range_cat 0 m 1) ∙ map-append (container_at bytes) (range_with_len 0 m) (range_with_len (0 + m) 1)
    ∙ ap (λ (n : ℕ). map (container_at bytes) (range_with_len 0 m) ++ container_at bytes n ∷ []) zeroth

pub ids_counted : (bytes : List ℕ) (m : ℕ) → ((k : ℕ) → k < m → IsTested bytes k) → length (ids_before bytes m) ≡ position_at bytes m
unfolding position_at
ids_counted bytes zero all = refl
ids_counted bytes (suc m) all =
    let own : length (numbers_at bytes m) ≡ count_at bytes m = (all m (omega arith)).numbers.count_is in
    let long = length-map (numbers_at bytes m) (λ low. key_at bytes m * 65536 + low) in
    ap (λ (n : ℕ). length (ids_before bytes n)) (sym (add-one m)) ∙ ap length (ids_more bytes m)
    ∙ length-append (ids_before bytes m) (map (λ low. key_at bytes m * 65536 + low) (numbers_at bytes m))
    ∙ (λ i. ids_counted bytes m (λ k lt. all k (omega arith)) i + (long ∙ own) i)

-- ---- the chunks

parts_from : (bytes : List ℕ) (n m low : ℕ) → ((k : ℕ) → get_or bytes k 0 < 256) → ((k : ℕ) → m ≤ k → k < m + n → IsTested bytes k)
    → (0 < n → low ≤ key_at bytes m) → low ≤ 65536 → AreParts 65536 low 65536 (map (container_at bytes) (range_with_len m n))
parts_from bytes zero m low are all above within = within
parts_from bytes (suc n) m low are all above within =
    let own = (all m (omega arith) (omega arith)).numbers in
    let some = own.some in
    let counted : length (numbers_at bytes m) ≡ count_at bytes m = own.count_is in
    let small = key_small bytes m are in
    let before : m + 1 - 1 ≡ m = omega arith in (
      above (omega arith),
      omega arith,
      own.rising,
      parts_from bytes n (m + 1) (key_at bytes m + 1) are (λ k h l. all k (omega arith) (omega arith))
          (λ more. let next = (all (m + 1) (omega arith) (omega arith)).key (omega arith) in let same = ap (key_at bytes) before in omega arith) (omega arith),
    )

pub first_parts : (bytes : List ℕ) (m : ℕ) → ((k : ℕ) → get_or bytes k 0 < 256) → ((k : ℕ) → k < m → IsTested bytes k)
    → AreParts 65536 0 65536 (map (container_at bytes) (range_with_len 0 m))
first_parts bytes m are all = parts_from bytes m 0 0 are (λ k h l. all k (omega arith)) (λ some. omega arith) (omega arith)

pub chunks_are : (bytes : List ℕ) (m : ℕ) → ((k : ℕ) → get_or bytes k 0 < 256) → ((k : ℕ) → k < m → IsTested bytes k)
    → parts (2 ^ 16) (ids_before bytes m) ≡ map (container_at bytes) (range_with_len 0 m)
chunks_are bytes m are all = parts_join 65536 0 65536 (map (container_at bytes) (range_with_len 0 m)) (first_parts bytes m are all)

pub ids_rise : (bytes : List ℕ) (m : ℕ) → ((k : ℕ) → get_or bytes k 0 < 256) → ((k : ℕ) → k < m → IsTested bytes k) → IsRising 0 (2 ^ 32) (ids_before bytes m)
ids_rise bytes m are all = join_rises 65536 0 65536 (map (container_at bytes) (range_with_len 0 m)) (first_parts bytes m are all)

-- all of them
module _ (bytes : List ℕ) (are : (k : ℕ) → get_or bytes k 0 < 256) (none : fault bytes ≡ None) where
  pub all_counted : length (ids_of bytes) ≡ position_at bytes (containers bytes)
  all_counted = ids_counted bytes (containers bytes) (each_tested bytes are none)

  pub all_rise : IsRising 0 (2 ^ 32) (ids_of bytes)
  all_rise = ids_rise bytes (containers bytes) are (each_tested bytes are none)

  pub ids_set : length (ids_of bytes) ≤ 2 ^ 28 → IsSet (ids_of bytes)
  ids_set few = record { few = few; rising = all_rise }

  pub all_chunks : (n : ℕ) → n ≡ containers bytes → parts (2 ^ 16) (ids_of bytes) ≡ map (container_at bytes) (range_with_len 0 n)
  all_chunks n is = chunks_are bytes (containers bytes) are (each_tested bytes are none) ∙ ap (λ (m : ℕ). map (container_at bytes) (range_with_len 0 m)) (sym is)
