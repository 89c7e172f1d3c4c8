-- Wide sets that are measured and written word by word.
use Rattle.std.proofs.Common.{◌≡◌, ℕ, ◌+◌, ◌-◌, ◌*◌, ◌%◌, ◌^◌, ◌<◌, ◌≤◌, List, [], ◌∷◌, ◌++◌, length, get_or, set, take, drop, sym, ap, ◌∙◌, arith, lit<, subst, add-mul, append_assoc, length-append}
use Rattle.std.specs.List.{concat}
use Rattle.std.proofs.lemmas.List.{drop-map, drop_more, length-map, length-take-le, take-map}
use Rattle.bitpack_groups.proofs.ForCallers.{IsFilled, fill_one, fill_start}
use Rattle.bitpack_groups.specs.Numbers.{byte_count, number}
use Rattle.bitpack_slices.proofs.ForCallers.{AreParts, counts, flat_len, keys, parts_are, tail_whole}
use Rattle.bitpack_slices.specs.Bodies.{IsRising}
use Rattle.bitpack_sets.proofs.ForCallers.{PartsLeft, longest_encoding, parts_more, run_part, sums_len}
use Rattle.bitpack_sets.specs.Sets as sets
use Rattle.bitpack_sets.specs.Sets.{IsSet, sums}
use Rattle.bitpack_sets.specs.Written as sets_written
use Rattle.bitpack_sets.specs.Written.{IsRun}
use Rattle.bitpack_wide.proofs.WordLaws.{after_counts, end_size, ends, ends_len, words_parts}
use Rattle.bitpack_wide.specs.Wide.{bodies, in_words, lows, words_of}
use Rattle.bitpack_wide.specs.inner.Writing.{directory, ends_encoding, highs_encoding, sums_encoding}

-- the low words of one high word are a set
pub run_set : (run : ℕ) (left : List ℕ) → IsRising 0 (2 ^ 64) left → IsRun (2 ^ 32) left run → run ≤ 2 ^ 28 → IsSet (lows (take run left))
run_set run left r is few =
    let (low, some, rises, later) = subst (AreParts (2 ^ 32) 0 (2 ^ 32)) (run_part (2 ^ 32) run left is) (parts_are (2 ^ 32) 0 (2 ^ 32) 0 left (lit< tt) (omega arith) r) in
    let long : length (lows (take run left)) ≡ run = length-map (take run left) (λ id. id % 2 ^ 32) ∙ length-take-le run left is.within in
    record { few = omega arith; rising = rises }

-- and their encoding has at most 15 bytes for each
pub run_small : (run : ℕ) (left : List ℕ) → IsRun (2 ^ 32) left run → IsSet (lows (take run left)) → length (sets.encoding (lows (take run left))) ≤ 15 * run
run_small run left is set =
    let long : length (lows (take run left)) ≡ run = length-map (take run left) (λ id. id % 2 ^ 32) ∙ length-take-le run left is.within in
    let own = longest_encoding (lows (take run left)) set in
    let some = is.some in
    omega arith

-- the low words that are left are those of the ids that are left
pub next_lows : (run : ℕ) (left low : List ℕ) → low ≡ lows left → take run low ≡ lows (take run left)
next_lows run left low e = ap (take run) e ∙ take-map (λ id. id % 2 ^ 32) run left

dropped : (run : ℕ) (left : List ℕ) → drop run (lows left) ≡ lows (drop run left)
dropped run left = drop-map (λ id. id % 2 ^ 32) run left

pub later_lows : (run : ℕ) (left low : List ℕ) → low ≡ lows left → take (length low - run) (drop run low) ≡ lows (take (length left - run) (drop run left))
later_lows run left low e =
    tail_whole run low ∙ ap (drop run) e ∙ dropped run left ∙ sym (ap lows (tail_whole run left))

-- what is next, in ids of which `bytes` bytes were measured
module _ (ids left low : List ℕ) (bytes run : ℕ) (few : length ids ≤ 2 ^ 28) (before : PartsLeft (2 ^ 64) (2 ^ 32) 15 sets.encoding ids left bytes) (same : low ≡ lows left)
    (is : IsRun (2 ^ 32) left run) where
  ids_set : IsSet (lows (take run left))
  ids_set =
      let small = before.small in
      let within = is.within in
      run_set run left before.rising is (omega arith)

  pub own_set : IsSet (take run low)
  own_set = subst IsSet (sym (next_lows run left low same)) ids_set

  pub own_size : (size : ℕ) → size ≡ length (sets.encoding (take run low)) → size ≡ length (sets.encoding (lows (take run left)))
  own_size size e = e ∙ ap (λ (l : List ℕ). length (sets.encoding l)) (next_lows run left low same)

  pub own_small : (size : ℕ) → size ≡ length (sets.encoding (take run low)) → size ≤ 15 * run
  own_small size e =
      let f = own_size size e in
      let g = run_small run left is ids_set in
      omega arith

  pub next_parts : (size : ℕ) → size ≡ length (sets.encoding (take run low)) → PartsLeft (2 ^ 64) (2 ^ 32) 15 sets.encoding ids (take (length left - run) (drop run left)) (bytes + size)
  next_parts size e = parts_more (2 ^ 64) (2 ^ 32) 15 sets.encoding ids left bytes run size before is (own_size size e) (own_small size e)

  pub next_few : (size : ℕ) → size ≡ length (sets.encoding (take run low)) → bytes + size ≤ 15 * length ids
  next_few size e =
      let f = own_small size e in
      let small = before.small in
      let within = is.within in
      omega arith

-- ---- the parts of an encoding in words together

highs_size : (ids : List ℕ) → length (highs_encoding ids) ≡ 4 * length (words_of ids)
highs_size ids = flat_len 4 (keys (words_of ids)) ∙ ap (λ n. 4 * n) (length-map (words_of ids) (λ word. word.0))

ends_size : (size : ℕ) (ids : List ℕ) → length (ends_encoding size ids) ≡ size * length (words_of ids)
ends_size size ids = flat_len size (ends (words_of ids)) ∙ ap (λ n. size * n) (ends_len (words_of ids))

sums_size : (size : ℕ) (ids : List ℕ) → length (sums_encoding size ids) ≡ size * length (words_of ids)
sums_size size ids =
    flat_len size (sums 0 (counts (words_of ids))) ∙ ap (λ n. size * n) (sums_len 0 (counts (words_of ids)) ∙ length-map (words_of ids) (λ word. length word.1))

-- of `count` high words
module _ (ids : List ℕ) (count : ℕ) (is : count ≡ length (words_of ids)) where
  pub highs_room : length (highs_encoding ids) ≡ 4 * count
  highs_room = highs_size ids ∙ sym (ap (λ n. 4 * n) is)

  pub ends_room : (size : ℕ) → length (ends_encoding size ids) ≡ size * count
  ends_room size = ends_size size ids ∙ sym (ap (λ n. size * n) is)

  pub sums_room : (size : ℕ) → length (sums_encoding size ids) ≡ size * count
  sums_room size = sums_size size ids ∙ sym (ap (λ n. size * n) is)

  pub directory_size : (e z : ℕ) → length (directory e z ids) ≡ 4 * count + e * count + z * count + length (concat (bodies (words_of ids)))
  directory_size e z =
      let b : List ℕ = concat (bodies (words_of ids)) in
      let one = length-append (highs_encoding ids) (ends_encoding e ids ++ (sums_encoding z ids ++ b)) in
      let two = length-append (ends_encoding e ids) (sums_encoding z ids ++ b) in
      let three = length-append (sums_encoding z ids) b in
      let k = highs_room in
      let f = ends_room e in
      let g = sums_room z in
      omega arith

  -- if the id sets have `size` bytes
  module _ (size : ℕ) (sized : size ≡ length (concat (bodies (words_of ids)))) where
    pub words_size : length (in_words ids) ≡ 2 + length (number (length ids)) + length (number count) + length (directory (byte_count size) (byte_count (length ids)) ids)
    words_size =
        let n : List ℕ = number (length ids) in
        let rest : List ℕ = after_counts (length ids) (words_of ids) in
        let one = ap length (words_parts ids) in
        let two = length-append n (number (length (words_of ids)) ++ rest) in
        let three = length-append (number (length (words_of ids))) rest in
        let four = ap (λ m. length (number m)) is in
        let five = ap (λ m. length (directory (byte_count m) (byte_count (length ids)) ids)) sized in
        omega arith

    pub words_length : length (in_words ids) ≡ 2 + length (number (length ids)) + length (number count) + (4 + byte_count size + byte_count (length ids)) * count + size
    words_length =
        let e : ℕ = byte_count size in
        let z : ℕ = byte_count (length ids) in
        let one = words_size in
        let two = directory_size e z in
        let three : (4 + e + z) * count ≡ 4 * count + e * count + z * count = add-mul (4 + e) z count ∙ ap (λ m. m + z * count) (add-mul 4 e count) in
        omega arith

    pub words_joined : (head rest : List ℕ) (e z : ℕ) → e ≡ byte_count size → z ≡ byte_count (length ids) → head ≡ sets_written.head (length ids) count e z → rest ≡ directory e z ids
        → set head 0 8 ++ rest ≡ in_words ids
    words_joined head rest e z e_is z_is h r =
        let n : List ℕ = number (length ids) in
        let m : List ℕ = number count in
        let e_same : e ≡ end_size (words_of ids) = e_is ∙ ap byte_count sized in
        ap (λ (l : List ℕ). set l 0 8 ++ rest) h ∙ ap (λ (l : List ℕ). 8 ∷ l) (append_assoc n (m ++ (e + 16 * z) ∷ []) rest)
        ∙ ap (λ (l : List ℕ). 8 ∷ (n ++ l)) (append_assoc m ((e + 16 * z) ∷ []) rest)
        ∙ ap (λ (l : List ℕ). 8 ∷ (n ++ (m ++ ((e + 16 * z) ∷ l)))) r
        ∙ ap (λ (k : ℕ). 8 ∷ (n ++ (m ++ ((k + 16 * z) ∷ directory k z ids)))) e_same
        ∙ ap (λ (k : ℕ). 8 ∷ (n ++ (m ++ ((end_size (words_of ids) + 16 * k) ∷ directory (end_size (words_of ids)) k ids)))) z_is
        ∙ ap (λ (k : ℕ). 8 ∷ (n ++ (number k ++ after_counts (length ids) (words_of ids)))) is ∙ sym (words_parts ids)

-- ---- ids that are split one by one

-- one low word more
pub low_more : (ids out : List ℕ) (i : ℕ) → i < length ids → IsFilled out i (lows (drop i ids)) (lows ids) → IsFilled (set out i (get_or ids i 0 % 2 ^ 32)) (i + 1) (lows (drop (i + 1) ids)) (lows ids)
low_more ids out i lt fill =
    fill_one out i (get_or ids i 0 % 2 ^ 32) (lows (drop (i + 1) ids)) (lows ids) (subst (λ (l : List ℕ). IsFilled out i (lows l) (lows ids)) (drop_more ids i 0 lt) fill)

pub low_start : (ids out : List ℕ) → 0 < length ids → length out ≡ length ids → IsFilled (set out 0 (get_or ids 0 0 % 2 ^ 32)) 1 (lows (drop 1 ids)) (lows ids)
low_start ids out some size = low_more ids out 0 some (fill_start out (lows ids) (size ∙ sym (length-map ids (λ id. id % 2 ^ 32))))
