-- Numbers from a position on.
use Rattle.std.proofs.Common.{◌≡◌, ℕ, zero, suc, ◌+◌, ◌-◌, ◌*◌, ◌<◌, ◌≤◌, List, [], ◌∷◌, map, take, drop, length, get_or, refl, sym, ap, ◌∙◌, arith, inl, inr}
use Rattle.std.proofs.lemmas.Bool.{cases_lt}
use Rattle.bitpack_sets.proofs.lemmas.reads.ChunkReads.{chunk_there, count_next, counted_before, read_chunks, sum_all}
use Rattle.bitpack_slices.proofs.ForCallers.{EachByte, join_range, none}
use Rattle.bitpack_sets.proofs.lemmas.reads.PositionLaws.{quads_drop}
use Rattle.bitpack_sets.proofs.lemmas.reads.KeyLaws.{many_chunks}
use Rattle.bitpack_sets.specs.Directory.{before, body_at, body_numbers_of, chunk_at, chunk_ids, count_at, key_at, sum_at}
use Rattle.bitpack_slices.specs.Slices.{quads_of}
use Rattle.bitpack_sets.specs.Sound.{IsRest}

-- ---- integers end to end

quads_taken : (k : ℕ) (bytes : List ℕ) → quads_of (take (4 * k) bytes) ≡ take k (quads_of bytes)
unfolding quads_of
quads_taken zero bytes = refl
quads_taken (suc k) bytes = let e : 4 * suc k ≡ suc (suc (suc (suc (4 * k)))) = omega arith in ap (λ (n : ℕ). quads_of (take n bytes)) e ∙ later (quads_taken k) bytes
  where
    later : ((bytes : List ℕ) → quads_of (take (4 * k) bytes) ≡ take k (quads_of bytes)) → (bytes : List ℕ) → quads_of (take (suc (suc (suc (suc (4 * k))))) bytes) ≡ take (suc k) (quads_of bytes)
    later ih [] = refl
    later ih (a ∷ []) = refl
    later ih (a ∷ b ∷ []) = refl
    later ih (a ∷ b ∷ c ∷ []) = refl
    later ih (a ∷ b ∷ c ∷ d ∷ bytes) = ap (λ (l : List ℕ). (a + 256 * b + 65536 * c + 16777216 * d) ∷ l) (ih bytes)

pub quads_range : (n from : ℕ) (bytes : List ℕ) → quads_of (take (4 * (from + n) - 4 * from) (drop (4 * from) bytes)) ≡ take n (drop from (quads_of bytes))
quads_range n from bytes =
    let e : 4 * (from + n) - 4 * from ≡ 4 * n = omega arith in
    ap (λ (m : ℕ). quads_of (take m (drop (4 * from) bytes))) e ∙ quads_taken n (drop (4 * from) bytes) ∙ ap (take n) (quads_drop from bytes)

-- some ids of a chunk
pub chunk_range : (ids chunks m from n position : ℕ) (rest : List ℕ) → EachByte rest → IsRest ids chunks rest → m < chunks → from + n ≤ count_at chunks rest m
    → before (sum_at chunks rest) m + from ≡ position
    → take n (drop position (chunk_ids chunks rest))
    ≡ map (λ low. key_at rest m * 65536 + low) (take n (drop from (body_numbers_of (count_at chunks rest m) (body_at chunks rest m))))
chunk_range ids chunks m from n position rest are is lt few e =
    let ps : List (ℕ × List ℕ) = read_chunks chunks rest in
    let here : get_or ps m none ≡ chunk_at chunks rest m = chunk_there ids chunks m rest lt in
    let size = (is.bodies m lt).count_is in
    let long : length (get_or ps m none).1 ≡ count_at chunks rest m = ap (λ (p : ℕ × List ℕ). length p.1) here ∙ size in
    let all = many_chunks chunks rest in
    ap (λ (k : ℕ). take n (drop k (chunk_ids chunks rest))) (sym e ∙ ap (λ (k : ℕ). k + from) (sym (counted_before ids chunks m rest are is (omega arith))))
    ∙ join_range 65536 m from n ps (omega arith) (omega arith) ∙ ap (λ (p : ℕ × List ℕ). map (λ low. p.0 * 65536 + low) (take n (drop from p.1))) here

-- a position among the ids of chunks
pub record AtChunk (chunks : ℕ) (rest : List ℕ) (chunk left position : ℕ) : Type 0 where
  pub within : chunk < chunks
  pub own : left < count_at chunks rest chunk
  pub passed : before (sum_at chunks rest) chunk + left ≡ position

pub chunk_passed : (ids chunks : ℕ) (rest : List ℕ) (chunk left position wanted : ℕ) → IsRest ids chunks rest → AtChunk chunks rest chunk left position
    → wanted ≡ count_at chunks rest chunk - left → position + wanted < ids → AtChunk chunks rest (chunk + 1) 0 (position + wanted)
chunk_passed ids chunks rest chunk left position wanted is at w less =
    let own = at.own in
    let passed = at.passed in
    let lt = at.within in
    let more = count_next ids chunks chunk rest is at.within (before (sum_at chunks rest) chunk) refl in
    let within : chunk + 1 < chunks = elim (cases_lt (chunk + 1) chunks) [
      | inl below ↦ below
      | inr above ↦ (let all = sum_all ids chunks (chunk + 1) rest is (omega arith) in absurd (omega arith))
    ] in
    record { within = within; own = (is.entries (chunk + 1) within).some; passed = omega arith }
