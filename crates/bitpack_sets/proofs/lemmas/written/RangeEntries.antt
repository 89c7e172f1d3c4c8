-- The entries and bodies of a range, chunk by chunk.
use Rattle.std.proofs.Common.{◌≡◌, ℕ, ◌+◌, ◌-◌, ◌*◌, ◌/◌, ◌^◌, ◌<◌, ◌≤◌, List, ◌++◌, length, take, sym, ap, ◌∙◌, arith, subst}
use Rattle.std.specs.List.{concat, range_with_len}
use borrow.Rule.Slice.PartMut.{put_mid}
use Rattle.bitpack_slices.specs.Bodies.{le_bytes}
use Rattle.bitpack_sets.proofs.lemmas.written.EntriesFilled.{EntriesLeft, body_room, end_room, entries_end, entries_more, entries_start, key_room, sum_room}
use Rattle.bitpack_sets.proofs.lemmas.written.RangeFilled.{all_left, at_first, ids_next, ids_set, no_ids, own_body}
use Rattle.bitpack_sets.specs.Sets.{body}
use Rattle.bitpack_sets.specs.Written.{IsRun, bodies, ends_encoding, keys_encoding, lows, sums_encoding}

-- `sum` ids of a range are written
pub record RangeLeft (first count index end sum e z : ℕ) (keys ends sums' bytes : List ℕ) : Type 0 where
  pub within : sum ≤ count
  pub entries : EntriesLeft (range_with_len first count) (range_with_len (first + sum) (count - sum)) 0 0 index end sum e z keys ends sums' bytes

pub range_start : (first count e z : ℕ) (keys ends sums' bytes : List ℕ) → count ≤ 2 ^ 28 → first + count ≤ 2 ^ 32 → length keys ≡ length (keys_encoding (range_with_len first count))
    → length ends ≡ length (ends_encoding e 0 (range_with_len first count)) → length sums' ≡ length (sums_encoding z 0 (range_with_len first count))
    → length bytes ≡ length (concat (bodies (range_with_len first count))) → RangeLeft first count 0 0 0 e z keys ends sums' bytes
range_start first count e z keys ends sums' bytes few fits a b d f =
    let ids : List ℕ = range_with_len first count in record {
      within = omega arith;
      entries = subst (λ (left : List ℕ). EntriesLeft ids left 0 0 0 0 0 e z keys ends sums' bytes) (all_left first count)
          (entries_start ids 0 0 e z keys ends sums' bytes (ids_set first count few fits) a b d f);
    }

from_none : (n : ℕ) → n ≡ 0 + n
from_none n = omega arith

module _ (first count index end sum e z run : ℕ) (keys ends sums' bytes : List ℕ) (before : RangeLeft first count index end sum e z keys ends sums' bytes) (some : sum < count)
    (is : IsRun 65536 (range_with_len (first + sum) (count - sum)) run) (fits : run ≤ count - sum) where
  abbrev ids : List ℕ
  ids = range_with_len first count

  abbrev left : List ℕ
  left = range_with_len (first + sum) (count - sum)

  abbrev own : List ℕ
  own = body (lows (range_with_len (first + sum) run))

  same : own ≡ body (lows (take run left))
  same = own_body (first + sum) (count - sum) run fits

  pub range_key_room : 2 * index + 2 ≤ length keys
  range_key_room = key_room ids left 0 0 index end sum e z run keys ends sums' bytes before.entries is

  pub range_end_room : (size : ℕ) → size ≡ length own → e * index + e ≤ length ends
  range_end_room size long = end_room ids left 0 0 index end sum e z run keys ends sums' bytes before.entries is size (long ∙ ap length same)

  pub range_sum_room : z * index + z ≤ length sums'
  range_sum_room = sum_room ids left 0 0 index end sum e z run keys ends sums' bytes before.entries is

  pub range_body_room : (size : ℕ) → size ≡ length own → end + size ≤ length bytes
  range_body_room size long = body_room ids left 0 0 index end sum e z run keys ends sums' bytes before.entries is size (long ∙ ap length same)

  pub range_more : (size : ℕ) (keys' ends' sums'' new : List ℕ) → size ≡ length own → size ≤ 2 * run
      → length keys' ≡ length keys → take (2 * (index + 1)) keys' ≡ take (2 * index) keys ++ le_bytes 2 ((first + sum) / 65536)
      → length ends' ≡ length ends → take (e * (index + 1)) ends' ≡ take (e * index) ends ++ le_bytes e (end + size)
      → length sums'' ≡ length sums' → take (z * (index + 1)) sums'' ≡ take (z * index) sums' ++ le_bytes z (sum + run)
      → new ≡ own → RangeLeft first count (index + 1) (end + size) (sum + run) e z keys' ends' sums'' (put_mid end (end + size - end) bytes new)
  range_more size keys' ends' sums'' new long few a a' b b' d d' f = record {
    within = omega arith;
    entries = subst (λ (l : List ℕ). EntriesLeft ids l 0 0 (index + 1) (end + size) (sum + run) e z keys' ends' sums'' (put_mid end (end + size - end) bytes new))
        (ids_next first count sum run fits)
        (entries_more ids left 0 0 index end sum e z run keys ends sums' bytes before.entries is size keys' ends' sums'' new (long ∙ ap length same) few
        a (a' ∙ ap (λ (n : ℕ). take (2 * index) keys ++ le_bytes 2 n) (sym (at_first (first + sum) (count - sum) (omega arith))))
        b (b' ∙ ap (λ (n : ℕ). take (e * index) ends ++ le_bytes e n) (from_none (end + size)))
        d (d' ∙ ap (λ (n : ℕ). take (z * index) sums' ++ le_bytes z n) (from_none (sum + run))) (f ∙ same));
  }

pub range_end : (first count index end sum e z : ℕ) (keys ends sums' bytes : List ℕ) → RangeLeft first count index end sum e z keys ends sums' bytes → count ≤ sum
    → (keys ≡ keys_encoding (range_with_len first count)) × (ends ≡ ends_encoding e 0 (range_with_len first count)) × (sums' ≡ sums_encoding z 0 (range_with_len first count))
    × (bytes ≡ concat (bodies (range_with_len first count)))
range_end first count index end sum e z keys ends sums' bytes left all =
    entries_end (range_with_len first count) (range_with_len (first + sum) (count - sum)) 0 0 index end sum e z keys ends sums' bytes left.entries (no_ids first count sum all)
