-- Chunks that are written one after the other.
use Rattle.std.proofs.Common.{◌≡◌, ℕ, ◌+◌, ◌-◌, ◌*◌, ◌/◌, ◌^◌, ◌≤◌, List, ◌++◌, length, get_or, take, drop}
use Rattle.std.specs.List.{concat}
use borrow.Rule.Slice.PartMut.{put_mid}
use Rattle.bitpack_sets.proofs.lemmas.written.DirectoryFilled.{DirectoryLeft, directory_end, directory_more, directory_start, next_body_room, next_end_room, next_key_room, next_sum_room}
use Rattle.bitpack_slices.specs.Bodies.{le_bytes}
use Rattle.bitpack_sets.specs.Sets.{IsSet, body}
use Rattle.bitpack_sets.specs.Written.{IsRun, bodies, ends_encoding, keys_encoding, lows, sums_encoding}

-- the entries and bodies of the chunks that are left are still to be written
abbrev pub EntriesLeft : (ids left : List ℕ) (start before index end sum e z : ℕ) (keys ends sums' bytes : List ℕ) → Type 0
EntriesLeft ids left start before index end sum e z keys ends sums' bytes = DirectoryLeft (2 ^ 32) 65536 2 2 body ids left start before index end sum e z keys ends sums' bytes

pub entries_start : (ids : List ℕ) (start before e z : ℕ) (keys ends sums' bytes : List ℕ) → IsSet ids → length keys ≡ length (keys_encoding ids)
    → length ends ≡ length (ends_encoding e start ids) → length sums' ≡ length (sums_encoding z before ids) → length bytes ≡ length (concat (bodies ids))
    → EntriesLeft ids ids start before 0 0 0 e z keys ends sums' bytes
entries_start ids start before e z keys ends sums' bytes set = directory_start (2 ^ 32) 65536 2 2 body ids start before e z keys ends sums' bytes set.rising

-- what is next: a key, an end, a sum and a body
module _ (ids left : List ℕ) (start prior index end sum e z run : ℕ) (keys ends sums' bytes : List ℕ) (before : EntriesLeft ids left start prior index end sum e z keys ends sums' bytes)
    (is : IsRun 65536 left run) where
  pub key_room : 2 * index + 2 ≤ length keys
  key_room = next_key_room (2 ^ 32) 65536 2 2 body ids left start prior index end sum e z run keys ends sums' bytes before is

  pub end_room : (size : ℕ) → size ≡ length (body (lows (take run left))) → e * index + e ≤ length ends
  end_room = next_end_room (2 ^ 32) 65536 2 2 body ids left start prior index end sum e z run keys ends sums' bytes before is

  pub sum_room : z * index + z ≤ length sums'
  sum_room = next_sum_room (2 ^ 32) 65536 2 2 body ids left start prior index end sum e z run keys ends sums' bytes before is

  pub body_room : (size : ℕ) → size ≡ length (body (lows (take run left))) → end + size ≤ length bytes
  body_room = next_body_room (2 ^ 32) 65536 2 2 body ids left start prior index end sum e z run keys ends sums' bytes before is

  pub entries_more : (size : ℕ) (keys' ends' sums'' new : List ℕ) → size ≡ length (body (lows (take run left))) → size ≤ 2 * run
      → length keys' ≡ length keys → take (2 * (index + 1)) keys' ≡ take (2 * index) keys ++ le_bytes 2 (get_or left 0 0 / 65536)
      → length ends' ≡ length ends → take (e * (index + 1)) ends' ≡ take (e * index) ends ++ le_bytes e (start + (end + size))
      → length sums'' ≡ length sums' → take (z * (index + 1)) sums'' ≡ take (z * index) sums' ++ le_bytes z (prior + (sum + run))
      → new ≡ body (lows (take run left))
      → EntriesLeft ids (take (length left - run) (drop run left)) start prior (index + 1) (end + size) (sum + run) e z keys' ends' sums'' (put_mid end (end + size - end) bytes new)
  entries_more = directory_more (2 ^ 32) 65536 2 2 body ids left start prior index end sum e z run keys ends sums' bytes before is

pub entries_end : (ids left : List ℕ) (start prior index end sum e z : ℕ) (keys ends sums' bytes : List ℕ) → EntriesLeft ids left start prior index end sum e z keys ends sums' bytes
    → length left ≡ 0 → (keys ≡ keys_encoding ids) × (ends ≡ ends_encoding e start ids) × (sums' ≡ sums_encoding z prior ids) × (bytes ≡ concat (bodies ids))
entries_end = directory_end (2 ^ 32) 65536 2 2 body
