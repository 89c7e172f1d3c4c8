-- The numbers of a key, by their high bytes and bits: which are listed, which bits are left if others are cleared, and their body.
use Rattle.std.proofs.Common.{◌≡◌, ℕ, ◌+◌, ◌*◌, ◌-◌, ◌/◌, ◌%◌, ◌^◌, ◌<◌, ◌≤◌, ◌&&◌, not, Bool, true, false, eqb, List, length, map, replicate, take, sym, ap, ◌∙◌, arith, subst}
use Rattle.std.proofs.lemmas.List.{get_or-replicate}
use Rattle.std.proofs.lemmas.Nat.Bits.{bit_at_ones}
use Rattle.std.specs.Int.{bit_at}
use Rattle.bitpack_slices.proofs.ForCallers.{those_same}
use Rattle.bitpack_slices.specs.Bitmaps.{bitmap_numbers, has_bit}
use Rattle.bitpack_slices.specs.Bodies.{IsRising}
use Rattle.bitpack_slices.specs.Operations.{apply, those}
use Rattle.bitpack_slices.specs.Reads.{has}
use Rattle.bitpack_slices.specs.declared.operation.Operation.TheVariants.{AndNot}
use Rattle.bitpack_sets.proofs.ForCallers.{lows_raised, raised_chunk, written_small}
use Rattle.bitpack_sets.specs.Sets.{body}
use Rattle.bitpack_sets.specs.Written.{IsChunk, lows}
use Rattle.bitpack_queries.specs.Folds.{has_number}
use Rattle.bitpack_queries.proofs.lemmas.two.AnswerLaws.{listed_has}

-- the numbers of the high bytes that are listed
pub numbers_listed : (highs words own : List ℕ) → ((h : ℕ) → h < 256 → has h own ≡ has_bit highs h) → bitmap_numbers own words ≡ those 65536 (has_number highs words)
unfolding has_number
numbers_listed highs words own are =
    those_same 65536 (λ x. has (x / 256) own && has_bit words x) (has_number highs words) (λ x small. ap (λ (b : Bool). b && has_bit words x) (are (x / 256) (omega arith)))

-- ---- other high bytes

full_bit : (i : ℕ) → i < 256 → has_bit (replicate 4 (2 ^ 64 - 1)) i ≡ true
unfolding has_bit
full_bit i small =
    ap (λ (w : ℕ). eqb (bit_at w (i % 64)) 1) (get_or-replicate 4 (i / 64) (2 ^ 64 - 1) 0 (omega arith))
    ∙ ap (λ (b : ℕ). eqb b 1) (bit_at_ones 64 (i % 64) (omega arith))

left_of : (high member old new : Bool) → member ≡ not high → (member ≡ true → new ≡ false) → (member ≡ false → new ≡ old) → new ≡ (high && old)
left_of true member old new is gone same = same is
left_of false member old new is gone same = gone is

-- the bits of a key's numbers are left if those of all other high bytes are cleared
pub others_cleared : (highs rest others words new : List ℕ) (x : ℕ) → x < 65536
    → ((i : ℕ) → i < 256 → has_bit rest i ≡ apply AndNot (has_bit (replicate 4 (2 ^ 64 - 1)) i) (has_bit highs i)) → others ≡ map (λ i. 0 + i) (those 256 (has_bit rest))
    → (has (x / 256) others ≡ true → has_bit new x ≡ false) → (has (x / 256) others ≡ false → has_bit new x ≡ has_bit words x) → has_bit new x ≡ has_number highs words x
unfolding has_number
others_cleared highs rest others words new x small are listed gone same =
    left_of (has_bit highs (x / 256)) (has (x / 256) others) (has_bit words x) (has_bit new x)
    (listed_has others (has_bit rest) (x / 256) listed (omega arith) ∙ are (x / 256) (omega arith)
    ∙ ap (λ (b : Bool). b && not (has_bit highs (x / 256))) (full_bit (x / 256) (omega arith)))
    gone same

-- ---- numbers that are unpacked from the start

unpacked : (count end : ℕ) (xs out : List ℕ) → count ≡ length xs → end ≡ 0 + length xs → take end out ≡ map (λ i. 0 + i) xs → take count out ≡ map (λ i. 0 * 65536 + i) xs
unpacked count end xs out count_is end_is values = let same : count ≡ end = omega arith in ap (λ (n : ℕ). take n out) same ∙ values

pub unpacked_chunk : (count end : ℕ) (xs out : List ℕ) → count ≡ length xs → end ≡ 0 + length xs → take end out ≡ map (λ i. 0 + i) xs → IsRising 0 65536 xs → IsChunk (take count out)
unpacked_chunk count end xs out count_is end_is values rise = subst IsChunk (sym (unpacked count end xs out count_is end_is values)) (raised_chunk 0 xs (omega arith) rise)

pub unpacked_lows : (count end : ℕ) (xs out : List ℕ) → count ≡ length xs → end ≡ 0 + length xs → take end out ≡ map (λ i. 0 + i) xs → IsRising 0 65536 xs → lows (take count out) ≡ xs
unpacked_lows count end xs out count_is end_is values rise = ap lows (unpacked count end xs out count_is end_is values) ∙ lows_raised 0 0 xs rise

-- ---- their body

-- the body of some numbers is at the start
pub record IsPut (xs : List ℕ) (count size : ℕ) (out : List ℕ) : Type 0 where
  pub few : size ≤ 2 * count
  pub within : size ≤ length out
  pub written : 0 < count → take size out ≡ body xs

pub put_listed : (xs ids new out : List ℕ) (count len size : ℕ) → out ≡ new → size ≡ len → length ids ≡ count → lows ids ≡ xs → len ≤ length new → len ≤ 2 * length ids
    → (0 < length ids → take len new ≡ body (lows ids)) → IsPut xs count size out
put_listed xs ids new out count len size same size_is long are within small written =
    rw (same, size_is) (record { few = omega arith; within = within; written = λ some. written (omega arith) ∙ ap body are })

pub put_bits : (xs ys new out : List ℕ) (count len size : ℕ) → out ≡ new → size ≡ len → count ≡ length xs → ys ≡ xs → 0 < count → len ≤ length new
    → take len new ≡ body ys → IsPut xs count size out
put_bits xs ys new out count len size same size_is long are some within written =
    let all = ap length are in
    let small = written_small len new ys within written (omega arith) in
    rw (same, size_is) (record { few = omega arith; within = within; written = λ h. written ∙ ap body are })
