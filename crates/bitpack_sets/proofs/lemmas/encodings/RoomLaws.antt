-- How many bytes are enough for the encoding of a set.
use Rattle.std.proofs.Common.{◌≡◌, ℕ, ◌+◌, ◌*◌, ◌/◌, ◌^◌, ◌<◌, ◌≤◌, List, [], ◌∷◌, length, refl, ap, ◌∙◌, arith, lit<, inl, inr}
use Rattle.std.specs.List.{concat}
use Rattle.std.proofs.lemmas.Bool.{cases_lt}
use Rattle.bitpack_groups.proofs.ForCallers.{longest_groups, longest_number, number-small, number_in-large, number_in-small}
use Rattle.bitpack_sets.proofs.lemmas.encodings.EncodeLaws.{array_is, chunks_is, few_is}
use Rattle.bitpack_sets.proofs.lemmas.encodings.FewLaws.{codes_len, codes_of, codes_run, few_size, groups_encoding, no_ids}
use Rattle.bitpack_sets.proofs.lemmas.faults.GapLaws.{below_words, gaps_below}
use Rattle.bitpack_sets.proofs.lemmas.written.LongFilled.{array_size, chunks_length, few_times}
use Rattle.bitpack_sets.proofs.lemmas.encodings.LongLaws.{bodies_len, concat_len, each_part, count_room, join_len}
use Rattle.bitpack_slices.proofs.ForCallers.{AreParts}
use Rattle.bitpack_slices.proofs.ForCallers.{join_parts, parts_are}
use Rattle.bitpack_sets.specs.Laws.{LongestEncoding}
use Rattle.bitpack_slices.specs.Bodies.{parts}
use Rattle.bitpack_sets.specs.Sets.{IsSet, encoding, short}
use Rattle.bitpack_sets.specs.Varints.{byte_count, groups_of, number}
use Rattle.bitpack_sets.specs.Written.{bodies}

three_bytes : (x : ℕ) → x < 2 ^ 21 → length (number x) ≤ 3
three_bytes x few =
    elim (cases_lt x 128) [
      | inl small ↦ omega (arith, ap length (number-small x small))
      | inr large ↦ elim (cases_lt (x / 128) 128) [
        | inl small ↦ omega (arith, ap length (number_in-large 4 x large), ap length (number_in-small 3 (x / 128) small))
        | inr more ↦
            omega (
              arith,
              ap length (number_in-large 4 x large),
              ap length (number_in-large 3 (x / 128) more),
              ap length (number_in-small 2 (x / 128 / 128) (omega arith)),
            )
      ]
    ]

few_count : (x : ℕ) → byte_count x ≤ 4
few_count x = grind arith

-- fewer than 128 ids
few_room : (ids : List ℕ) → IsSet ids → 0 < length ids → length (short ids) ≤ 4 * length ids + 2 + (length ids + 30) / 32
few_room [] set some = absurd (omega arith)
few_room (x ∷ xs) set some =
    let ids : List ℕ = x ∷ xs in
    let (zero', rises) = set.rising in
    let size = few_size ids some in
    let first = longest_number x in
    let long = codes_len ids some in
    let groups = longest_groups (groups_of (length (codes_of ids))) (codes_of ids) (groups_encoding ids) (below_words (codes_of ids) (gaps_below x xs rises)) (codes_run ids set some) in
    omega arith

-- chunks and bodies
chunks_few : (ids : List ℕ) → IsSet ids → length (parts 65536 ids) ≤ 65536
chunks_few ids set =
    let zero' : 0 * 65536 ≤ 0 = omega arith in
    let are : AreParts 65536 0 65536 (parts 65536 ids) = parts_are 65536 0 65536 0 ids (lit< tt) zero' set.rising in
    let room = count_room 0 (parts 65536 ids) are in
    omega arith

pub bodies_few : (ids : List ℕ) → length (concat (bodies ids)) ≤ 2 * length ids
bodies_few ids =
    let ps : List (ℕ × List ℕ) = parts 65536 ids in
    let a = concat_len (bodies ids) in
    let b = bodies_len ps (each_part 65536 ids) in
    let d = join_len ps in
    let e = ap length (join_parts 65536 ids) in
    omega arith

chunks_room : (ids : List ℕ) (chunks : ℕ) → IsSet ids → chunks ≡ length (parts 65536 ids) → 4 * chunks ≤ length ids
    → 2 + length (number (length ids)) + length (number chunks) + (2 + byte_count (length (concat (bodies ids))) + byte_count (length ids)) * chunks + length (concat (bodies ids))
    ≤ 9 * length ids / 2 + 10
chunks_room ids chunks set is apart =
    let few = chunks_few ids set in
    let a = longest_number (length ids) in
    let b = three_bytes chunks (omega arith) in
    let d = bodies_few ids in
    let e = few_count (length (concat (bodies ids))) in
    let f = few_count (length ids) in
    let g = few_times (2 + byte_count (length (concat (bodies ids))) + byte_count (length ids)) 10 chunks (omega arith) in
    omega arith

none_room : (ids : List ℕ) → length ids ≤ 0 → length (encoding ids) ≡ 1
none_room ids none = let e : length ids ≡ 0 = omega arith in ap length (few_is ids (omega arith) ∙ no_ids ids e)

pub longest_encoding : LongestEncoding
longest_encoding ids set = elim (cases_lt 127 (length ids)) [
  | inl many ↦ elim (cases_lt (length ids) (4 * length (parts 65536 ids))) [
    | inl apart ↦
        let size = ap length (array_is ids (length (parts 65536 ids)) many refl apart) ∙ array_size ids in
        let a = longest_number (length ids) in
        omega arith
    | inr close ↦
        let size = ap length (chunks_is ids (length (parts 65536 ids)) many refl close) ∙ chunks_length ids (length (parts 65536 ids)) (length (concat (bodies ids))) refl refl in
        let room = chunks_room ids (length (parts 65536 ids)) set refl close in
        omega arith
  ]
  | inr few ↦ elim (cases_lt 0 (length ids)) [
    | inl some ↦
        let size = ap length (few_is ids few) in
        let room = few_room ids set some in
        omega arith
    | inr none ↦ (let size = none_room ids none in omega arith)
  ]
]
