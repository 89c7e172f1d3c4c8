-- What the first bytes of an encoding state.
use Rattle.std.specs.Prelude.{◌≡◌, ℕ, ◌-◌, false, nat_lt, if◌then◌else◌, List, drop, slice_index, None}
use Rattle.bitpack_sets.specs.Faults.{fault}
use Rattle.bitpack_sets.specs.Varints.{number_end, number_value}

-- what is after byte 0, and after the count of ids
abbrev pub after_form : List ℕ → List ℕ
after_form bytes = drop 1 bytes

abbrev pub after_count : List ℕ → List ℕ
after_count bytes = drop (number_end (after_form bytes)) (after_form bytes)

-- the count of ids
abbrev pub stated_count : List ℕ → ℕ
stated_count bytes = if nat_lt (slice_index bytes 0) 128 then number_value (after_form bytes) else slice_index bytes 0 - 128

-- the bytes have no fault, and these are their count of ids, their count of chunks, and what is after the counts
pub record States (bytes : List ℕ) (count chunks : ℕ) (rest : List ℕ) : Type 0 where
  pub none : fault bytes ≡ None
  pub count_is : count ≡ stated_count bytes
  pub chunks_is : slice_index bytes 0 ≡ 5 → chunks ≡ number_value (after_count bytes)
  pub in_chunks : slice_index bytes 0 ≡ 5 → rest ≡ drop (number_end (after_count bytes)) (after_count bytes)
  pub in_array : slice_index bytes 0 ≡ 6 → rest ≡ after_count bytes
  pub few : nat_lt (slice_index bytes 0) 128 ≡ false → rest ≡ after_form bytes
