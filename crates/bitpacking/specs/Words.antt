-- Numbers from their digits, and the little-endian words of a list of bytes.
use Rattle.std.specs.Prelude.{ℕ, zero, suc, ◌+◌, ◌*◌, ◌^◌, List, slice_index}
pub use Rattle.bitpacking_register.specs.Words.{bytes_of_words}

-- the number whose digits of w bits are f 0 .. f (n - 1), the lowest first
unfoldable pub joined : ℕ → (ℕ → ℕ) → ℕ → ℕ
joined w f zero = 0
joined w f (suc n) = f n * 2 ^ (w * n) + joined w f n

-- word q of the bytes: the four from byte 4 * q on, the lowest first
unfoldable pub word : List ℕ → ℕ → ℕ
word bytes q = joined 8 (λ m. slice_index bytes (4 * q + m)) 4
