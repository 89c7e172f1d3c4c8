-- What the first bytes of an encoding state.
use Rattle.std.specs.Prelude.{◌≡◌, ◌≢◌, ℕ, List, drop, slice_index, None}
use Rattle.bitpack_groups.specs.Numbers.{number_value}
use Rattle.bitpack_wide.specs.Faults.{fault}
use Rattle.bitpack_wide.specs.Reads.{after_number}

-- what is after byte 0, and after the count of ids
abbrev pub after_form : List ℕ → List ℕ
after_form bytes = drop 1 bytes

abbrev pub after_count : List ℕ → List ℕ
after_count bytes = after_number (after_form bytes)

-- the bytes have no fault, and these are their count of ids, their count of high words, and what is after the counts
pub record States (bytes : List ℕ) (count words : ℕ) (rest : List ℕ) : Type 0 where
  pub none : fault bytes ≡ None
  pub count_is : count ≡ number_value (after_form bytes)
  pub words_is : slice_index bytes 0 ≡ 8 → words ≡ number_value (after_count bytes)
  pub in_words : slice_index bytes 0 ≡ 8 → rest ≡ after_number (after_count bytes)
  pub spread : slice_index bytes 0 ≢ 8 → rest ≡ after_count bytes
