-- The bits of bytes, by words of eight.
use Rattle.std.proofs.Common.{◌≡◌, ℕ, ◌+◌, ◌*◌, ◌/◌, ◌%◌, ◌<◌, Bool, eqb, List, length, drop, take, get_or, sym, ap, ◌∙◌, arith, ◌&&◌}
use Rattle.std.specs.Int.{bit_at}
use Rattle.std.specs.List.{range_with_len}
use Rattle.bitpack_slices.proofs.ForCallers.{EachByte, bit_of_bytes, has_all, has_those, those_same, word_bit}
use Rattle.bitpack_slices.specs.Bitmaps.{bitmap_numbers, has_bit}
use Rattle.bitpack_slices.specs.Operations.{those}
use Rattle.bitpack_slices.specs.Reads.{has}
use Rattle.bitpack_slices.specs.Slices.{number_of, ones_from}

module _ (bytes words : List ℕ) (are : EachByte bytes) (long : length bytes ≡ 8192)
    (loaded : (k : ℕ) → k < 1024 → get_or words k 0 ≡ number_of (take 8 (drop (8 * k) bytes))) where
  pub loaded_bit : (x : ℕ) → x < 65536 → has_bit words x ≡ eqb (bit_at (number_of bytes) x) 1
  unfolding has_bit
  loaded_bit x small =
      let byte : 8 * (x / 64) + x % 64 / 8 ≡ x / 8 = omega arith in
      let bit : x % 64 % 8 ≡ x % 8 = omega arith in
      let split : x ≡ 8 * (x / 8) + x % 8 = omega arith in
      ap (λ (w : ℕ). eqb (bit_at w (x % 64)) 1) (loaded (x / 64) (omega arith))
      ∙ ap (λ (b : ℕ). eqb b 1) (word_bit bytes (x / 64) (x % 64) are (omega arith) (omega arith)
      ∙ ap (λ (k : ℕ). bit_at (get_or bytes k 0) (x % 64 % 8)) byte ∙ ap (bit_at (get_or bytes (x / 8) 0)) bit
      ∙ sym (ap (bit_at (number_of bytes)) split ∙ bit_of_bytes bytes (x / 8) (x % 8) are (omega arith) (omega arith)))

-- numbers whose bits are those of bytes
pub bits_are : (bytes words : List ℕ) → ((x : ℕ) → x < 65536 → has_bit words x ≡ eqb (bit_at (number_of bytes) x) 1)
    → those 65536 (has_bit words) ≡ ones_from (number_of bytes) 0 65536
unfolding ones_from those
bits_are bytes words same = those_same 65536 (has_bit words) (λ i. eqb (bit_at (number_of bytes) i) 1) same

pub bits_have : (bytes words : List ℕ) → ((x : ℕ) → x < 65536 → has_bit words x ≡ eqb (bit_at (number_of bytes) x) 1)
    → (x : ℕ) → x < 65536 → has_bit words x ≡ has x (ones_from (number_of bytes) 0 65536)
bits_have bytes words same x small = sym (has_those (has_bit words) x 65536 small) ∙ ap (has x) (bits_are bytes words same)

-- all high bytes
pub all_highs : (words highs : List ℕ) → highs ≡ range_with_len 0 256 → bitmap_numbers highs words ≡ those 65536 (has_bit words)
all_highs words highs are =
    those_same 65536 (λ x. has (x / 256) highs && has_bit words x) (has_bit words)
    (λ x small. ap (λ (l : List ℕ). has (x / 256) l && has_bit words x) are ∙ ap (λ (b : Bool). b && has_bit words x) (has_all (x / 256) 0 256 (omega arith) (omega arith)))
