-- What is known of bytes that were tested.
use Rattle.std.specs.Prelude.{◌≡◌, ℕ, ◌<◌, ◌≤◌, true, false, Bool, List, length}
use Rattle.bitpack_slices.specs.Bodies.{IsRising}
use Rattle.bitpack_roaring.specs.Roaring as roaring
use Rattle.bitpack_roaring.specs.Roaring.{bounds_in, numbers_of}

-- all of the head is there, and this is what it says
pub record IsHead (bytes : List ℕ) (runs : Bool) (containers keys : ℕ) (offsets : Bool) (start : ℕ) : Type 0 where
  pub four : 4 ≤ length bytes
  pub few : containers ≤ 65536
  pub room : start ≤ length bytes
  pub runs_are : runs ≡ roaring.has_runs bytes
  pub containers_are : containers ≡ roaring.containers bytes
  pub keys_are : keys ≡ roaring.keys_start bytes
  pub offsets_are : offsets ≡ roaring.has_offsets bytes
  pub start_is : start ≡ roaring.head_len bytes

-- the bytes of a container of `count` numbers, which was tested
pub record IsContainer (run : Bool) (count : ℕ) (bytes : List ℕ) : Type 0 where
  pub some : 1 ≤ count
  pub few : count ≤ 65536
  pub rising : IsRising 0 65536 (numbers_of run count bytes)
  pub count_is : length (numbers_of run count bytes) ≡ count
  pub runs_there : run ≡ true → 2 ≤ length bytes
  pub apart : run ≡ true → IsRising 0 65537 (bounds_in bytes)
  pub bits_there : run ≡ false → 4096 < count → length bytes ≡ 8192
