-- Chunks that move as a whole.
use Rattle.std.proofs.Common.{IfSome, None, Option, Result, Some, ◌⊎◌, ◌≡◌, ℕ, ◌+◌, ◌-◌, ◌*◌, ◌/◌, ◌%◌, ◌^◌, ◌<◌, ◌≤◌, ◌&&◌, Bool, false, leb, List, length, map, min, refl, sym, ap, ◌∙◌, arith, inl, inr}
use Rattle.std.specs.List.{range_with_len}
use Rattle.std.specs.Option.{IsSome}
use Rattle.std.proofs.Math.Nat.{min-eq_left, min-eq_right}
use Rattle.std.proofs.lemmas.Bool.{cases_lt, le-leb, lt-leb}
use Rattle.std.proofs.lemmas.List.{drop_all}
use Rattle.bitpack_slices.proofs.ForCallers.{has_not, quads_len, those_same}
use Rattle.bitpack_slices.specs.Bodies.{IsRising, parts}
use Rattle.bitpack_slices.specs.Operations.{those}
use Rattle.bitpack_slices.specs.Reads.{has, rank}
use Rattle.bitpack_slices.specs.Slices.{quads_of}
use Rattle.bitpack_slices.specs.declared.set_error.SetError.{SetError}
use Rattle.bitpack_sets.proofs.ForCallers.{from_array, from_chunks, parts_most, positions_array, positions_chunks, rank_whole}
use Rattle.bitpack_sets.specs.Chunks.{first_key, ids_from, positions}
use Rattle.bitpack_sets.specs.Directory.{chunk_at, ids_of_chunks}
use Rattle.bitpack_sets.specs.declared.chunks.Chunks.{Chunks}
use Rattle.bitpack_queries.specs.Gathered.{Fills}
use Rattle.bitpack_queries.specs.Pairs.{IsPart}
use Rattle.bitpack_queries.specs.Shifts.{has_moved, moved}
use Rattle.bitpack_queries.proofs.lemmas.two.GatheredLaws.{chunks_few, fills_from}
use Rattle.bitpack_queries.proofs.lemmas.two.ShiftLaws.{moved_few}

-- no id is there that is above all
pub has_top : (y : ℕ) (xs : List ℕ) → IsRising 0 (2 ^ 32) xs → 2 ^ 32 ≤ y → has y xs ≡ false
has_top y xs rise h = has_not y (rank y xs) xs refl (let all = rank_whole y 0 (2 ^ 32) xs rise h in omega arith)

-- a number is one that moved, or none does
by_move : (up down x : ℕ) (xs : List ℕ) (b : Bool) → (up ≤ x + down → has (x + down - up) xs ≡ b) → (x + down < up → false ≡ b) → has_moved up down xs x ≡ b
by_move up down x xs b some none = elim (cases_lt (x + down) up) [
  | inl less ↦ ap (λ (t : Bool). t && has (x + down - up) xs) (lt-leb up (x + down) less) ∙ none less
  | inr more ↦ ap (λ (t : Bool). t && has (x + down - up) xs) (le-leb up (x + down) more) ∙ some more
]

same_move : (up down x : ℕ) (xs ys : List ℕ) → (up ≤ x + down → has (x + down - up) xs ≡ has (x + down - up) ys) → has_moved up down xs x ≡ has_moved up down ys x
same_move up down x xs ys same = elim (cases_lt (x + down) up) [
  | inl less ↦ ap (λ (t : Bool). t && has (x + down - up) xs) (lt-leb up (x + down) less) ∙ sym (ap (λ (t : Bool). t && has (x + down - up) ys) (lt-leb up (x + down) less))
  | inr more ↦ ap (λ (b : Bool). leb up (x + down) && b) (same more)
]

module _ (up down key : ℕ) (xs ys numbers : List ℕ) (u : up % 65536 ≡ 0) (d : down % 65536 ≡ 0) (begin : down - up ≤ key * 65536) (end : key * 65536 < 2 ^ 32 + down - up)
    (lower : (y : ℕ) → y / 65536 < key → has y xs ≡ false) (own : (y : ℕ) → y / 65536 ≡ key → has y xs ≡ has (y % 65536) numbers)
    (passed : (y : ℕ) → y / 65536 ≤ key → has y ys ≡ false) (others : (y : ℕ) → key < y / 65536 → has y xs ≡ has y ys) where
  pub whole_part : IsPart ((65536 * key + up - down) / 65536) (λ low. has low numbers) (has_moved up down xs) (has_moved up down ys)
  whole_part = record {
    small = omega arith;
    lower = λ x h. by_move up down x xs false (λ le. lower (x + down - up) (omega arith)) (λ less. refl);
    own = λ x h.
        let low : (x + down - up) % 65536 ≡ x % 65536 = omega arith in
        by_move up down x xs (has (x % 65536) numbers) (λ le. own (x + down - up) (omega arith) ∙ ap (λ (n : ℕ). has n numbers) low) (λ less. absurd (omega arith));
    passed = λ x h. by_move up down x ys false (λ le. passed (x + down - up) (omega arith)) (λ less. refl);
    higher = λ x h. same_move up down x xs ys (λ le. others (x + down - up) (omega arith));
  }

-- at the start, with the first chunk that stays
pub whole_start : (up down first : ℕ) (xs ys : List ℕ) → first * 65536 ≤ down - up → ((y : ℕ) → first * 65536 ≤ y → has y xs ≡ has y ys) → moved up down xs ≡ those (2 ^ 32) (has_moved up down ys)
whole_start up down first xs ys begin same =
    those_same (2 ^ 32) (has_moved up down xs) (has_moved up down ys) (λ x h. same_move up down x xs ys (λ le. same (x + down - up) (omega arith)))

-- at the end
pub whole_end : (up down key limit : ℕ) (xs : List ℕ) → up % 65536 ≡ 0 → down % 65536 ≡ 0 → limit ≤ key
    → (2 ^ 32 + down - up < 2 ^ 32 → limit ≡ (2 ^ 32 + down - up) / 65536) → (2 ^ 32 ≤ 2 ^ 32 + down - up → limit ≡ 65536)
    → ((y : ℕ) → y / 65536 < key → has y xs ≡ false) → ((y : ℕ) → 2 ^ 32 ≤ y → has y xs ≡ false) → (x : ℕ) → x < 2 ^ 32 → has_moved up down xs x ≡ false
whole_end up down key limit xs u d reached few most none top x h =
    by_move up down x xs false
    (λ le. elim (cases_lt (2 ^ 32 + down - up) (2 ^ 32)) [
      | inl less ↦ (let is = few less in none (x + down - up) (omega arith))
      | inr more ↦ (let is = most more in elim (cases_lt (x + down - up) (2 ^ 32)) [ inl less ↦ none (x + down - up) (omega arith) | inr above ↦ top (x + down - up) above ])
    ])
    (λ less. refl)

-- there are no more chunks than ids, nor than keys
pub chunks_room : (up down chunks room : ℕ) (xs : List ℕ) → IsRising 0 (2 ^ 32) xs → IsRising 0 (2 ^ 32) (moved up down xs) → chunks ≤ length (parts (2 ^ 16) (moved up down xs))
    → min (length xs) 65536 ≤ room → chunks ≤ room
chunks_room up down chunks room xs rise rises few enough =
    let keys = chunks_few (moved up down xs) rises in
    let all = moved_few up down xs rise in
    let most = parts_most 65536 (moved up down xs) in
    elim (cases_lt (length xs) 65536) [
      | inl less ↦ (let e = min-eq_left {n = length xs} {m = 65536} (omega arith) in omega arith)
      | inr more ↦ (let e = min-eq_right {n = 65536} {m = length xs} more in omega arith)
    ]

-- there is no id from the end on
pub past_end : (set : Chunks) (p : ℕ) → positions set ≤ p → first_key (ids_from set p) ≡ 65536
past_end set p h = elim (cases_lt 0 set.count) [
  | inl some ↦ (
      let size = positions_chunks set (λ e. omega arith) in
      let none : set.count - p ≡ 0 = omega arith in
      ap first_key (from_chunks set p (λ e. omega arith)) ∙ ap (λ (n : ℕ). first_key (ids_of_chunks (map (chunk_at set.count set.rest.now) (range_with_len p n)))) none)
  | inr none ↦ (
      let size = positions_array set (omega arith) in
      ap first_key (from_array set p (omega arith) ∙ drop_all p (quads_of set.rest.now) (omega (arith, quads_len set.rest.now))))
]

-- the next chunk is at the next position
pub next_position : (set : Chunks) (p next key : ℕ) → p ≤ next → next ≤ p + 1 → key ≡ first_key (ids_from set p) → key < first_key (ids_from set next) → next ≡ p + 1
next_position set p next key later one here passed = elim (cases_lt p next) [
  | inl less ↦ omega arith
  | inr none ↦ (
      let same : next ≡ p = omega arith in
      let key_same = ap (λ (n : ℕ). first_key (ids_from set n)) same in
      absurd (omega arith))
]

-- ---- work space

-- only many ids need more than there is
pub is_large : (count room from end : ℕ) (xs : List ℕ) → count ≤ end - from → end ≤ length xs → 4 * min (length xs) 65536 ≤ room → room < count → 262144 ≤ room
is_large count room from end xs is within enough more = elim (cases_lt (length xs) 65536) [
  | inl less ↦ (let e = min-eq_left {n = length xs} {m = 65536} (omega arith) in absurd (omega arith))
  | inr many ↦ (let e = min-eq_right {n = 65536} {m = length xs} many in omega arith)
]

-- a set in chunks is written
pub some_written : (r : Option (Result ℕ SetError)) (count chunks : ℕ) → (r ≡ None → (count ≤ 127) ⊎ (count < 4 * chunks)) → 127 < count → 4 * chunks ≤ count → IsSome r
some_written None count chunks none many few = elim (none refl) [ inl less ↦ absurd (omega arith) | inr less ↦ absurd (omega arith) ]
some_written (Some written) count chunks none many few = refl

-- the bytes before do not matter
pub written_of : (r : Option (Result ℕ SetError)) (ids old old' new : List ℕ) → IfSome r (λ written. Fills ids written old' new) → IfSome r (λ written. Fills ids written old new)
written_of None ids old old' new so = so
written_of (Some written) ids old old' new so = fills_from ids ids old old' new written refl so
