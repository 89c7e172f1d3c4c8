-- The ids of a set from a position on.
use Rattle.std.proofs.Common.{◌≡◌, ◌≢◌, ℕ, zero, suc, ◌+◌, ◌-◌, ◌*◌, ◌/◌, ◌%◌, ◌^◌, ◌<◌, ◌≤◌, Bool, true, false, eqb, List, [], ◌∷◌, map, take, drop, length, get_or, refl, sym, ap, subst, ◌∙◌, arith, cond, eq-eqb, eqb-true, inl, inr, ◌||◌, length-drop, take-append-drop}
use Rattle.std.proofs.Math.Bool.{or-false}
use Rattle.std.specs.List.{range_with_len}
use Rattle.std.proofs.lemmas.Bool.{cases_lt, ne_eqb, true≢false}
use Rattle.std.proofs.lemmas.List.{drop-drop, drop_all, get_or-drop}
use Rattle.bitpack_sets.proofs.lemmas.faults.ChunkLaws.{from_chunk, key_small}
use Rattle.bitpack_slices.proofs.ForCallers.{AreParts, EachByte, bytes_are, eqb_same, has_append, join, quads_len, rising_drop}
use Rattle.bitpack_sets.proofs.lemmas.reads.WalkLaws.{IsWalk, array_key, array_walk, key_under, part_key, part_own, part_pass, part_under, part_up, walk_up}
use Rattle.bitpack_slices.specs.Slices.{lows_of, quads_of}
use Rattle.bitpack_sets.specs.Chunks.{first_key, ids_from, lows_between, positions}
use Rattle.bitpack_sets.specs.Directory.{chunk_at, ids_of_chunks, key_at}
use Rattle.bitpack_slices.specs.Reads.{has}
use Rattle.bitpack_slices.specs.Bodies.{IsRising}
use Rattle.bitpack_sets.specs.Sound.{IsRest}
use Rattle.bitpack_sets.specs.declared.chunks.Chunks.{Chunks}

-- ---- chunks from a position on

abbrev pub chunks_from : ℕ → List ℕ → ℕ → List (ℕ × List ℕ)
chunks_from chunks rest p = map (chunk_at chunks rest) (range_with_len p (chunks - p))

module _ (ids chunks : ℕ) (rest : List ℕ) (are : EachByte rest) (is : IsRest ids chunks rest) where
  more : (p : ℕ) → p < chunks → chunks_from chunks rest p ≡ chunk_at chunks rest p ∷ chunks_from chunks rest (p + 1)
  more p h =
      let e : chunks - p ≡ suc (chunks - (p + 1)) = omega arith in
      ap (λ (k : ℕ). map (chunk_at chunks rest) (range_with_len p k)) e

  there : (p : ℕ) → p < chunks → AreParts 65536 (key_at rest p) 65536 (chunk_at chunks rest p ∷ chunks_from chunks rest (p + 1))
  there p h =
      let small = key_small ids chunks rest are is p h in
      subst (AreParts 65536 (key_at rest p) 65536) (more p h) (from_chunk ids chunks rest are is p (chunks - p) (key_at rest p) (omega arith) (omega arith) (λ some. omega arith))

  pub chunk_key : (p : ℕ) → p < chunks → first_key (ids_of_chunks (chunks_from chunks rest p)) ≡ key_at rest p
  chunk_key p h = ap (λ (ps : List (ℕ × List ℕ)). first_key (join 65536 ps)) (more p h) ∙ part_key (key_at rest p) (chunk_at chunks rest p) (chunks_from chunks rest (p + 1)) (there p h)

  pub chunk_up : (p : ℕ) → p < chunks → key_at rest p < first_key (ids_of_chunks (chunks_from chunks rest (p + 1)))
  chunk_up p h = part_up (key_at rest p) (chunk_at chunks rest p) (chunks_from chunks rest (p + 1)) (there p h)

  pub chunk_pass : (p x : ℕ) → p < chunks → key_at rest p < x / 65536 → has x (ids_of_chunks (chunks_from chunks rest p)) ≡ has x (ids_of_chunks (chunks_from chunks rest (p + 1)))
  chunk_pass p x h less =
      ap (λ (ps : List (ℕ × List ℕ)). has x (join 65536 ps)) (more p h)
      ∙ part_pass (key_at rest p) x (chunk_at chunks rest p) (chunks_from chunks rest (p + 1)) (there p h) less

  pub chunk_own : (p x : ℕ) → p < chunks → x / 65536 ≡ key_at rest p → has x (ids_of_chunks (chunks_from chunks rest p)) ≡ has (x % 65536) (chunk_at chunks rest p).1
  chunk_own p x h e =
      ap (λ (ps : List (ℕ × List ℕ)). has x (join 65536 ps)) (more p h)
      ∙ part_own (key_at rest p) x (chunk_at chunks rest p) (chunks_from chunks rest (p + 1)) (there p h) (sym e)

  end : (p : ℕ) → chunks ≤ p → chunks_from chunks rest p ≡ []
  end p h = let e : chunks - p ≡ 0 = omega arith in ap (λ (k : ℕ). map (chunk_at chunks rest) (range_with_len p k)) e

  under : (p x : ℕ) → x / 65536 < first_key (ids_of_chunks (chunks_from chunks rest p)) → has x (ids_of_chunks (chunks_from chunks rest p)) ≡ false
  under p x less = elim (cases_lt p chunks) [
    | inl lt ↦ part_under (key_at rest p) x (chunks_from chunks rest p) (subst (AreParts 65536 (key_at rest p) 65536) (sym (more p lt)) (there p lt)) less
    | inr past ↦ ap (λ (ps : List (ℕ × List ℕ)). has x (join 65536 ps)) (end p past)
  ]

  pub chunk_walk : IsWalk chunks (λ p. ids_of_chunks (chunks_from chunks rest p))
  chunk_walk = record {
    end = λ p h. ap (λ (ps : List (ℕ × List ℕ)). first_key (join 65536 ps)) (end p h);
    up = λ p h. let key = chunk_key p h in let up = chunk_up p h in omega arith;
    pass = λ p x h less. let key = chunk_key p h in chunk_pass p x h (omega arith);
    under = under;
  }

-- ---- a set of any form

either : (b : Bool) (ids count : ℕ) (rest : List ℕ) → b ≡ eqb count 0 → EachByte rest → (count ≢ 0 → IsRest ids count rest) → (count ≡ 0 → IsRising 0 (2 ^ 32) (quads_of rest))
    → IsWalk (cond b (length rest / 4) count) (λ p. cond b (drop p (quads_of rest)) (ids_of_chunks (chunks_from count rest p)))
either true ids count rest e are sound rising = array_walk (length rest / 4) (quads_of rest) (quads_len rest) (rising (eqb-true count 0 (sym e)))
either false ids count rest e are sound rising = chunk_walk ids count rest are (sound (λ h. true≢false (sym (eq-eqb count 0 h) ∙ sym e)))

pub walk : (set : Chunks) → IsWalk (positions set) (ids_from set)
walk set = either (eqb set.count 0) set.ids set.count set.rest.now refl (bytes_are set.rest.now set.are_bytes) set.sound set.rising

pub from_array : (set : Chunks) (p : ℕ) → set.count ≡ 0 → ids_from set p ≡ drop p (quads_of set.rest.now)
from_array set p h = ap (λ (b : Bool). cond b (drop p (quads_of set.rest.now)) (ids_of_chunks (chunks_from set.count set.rest.now p))) (eq-eqb set.count 0 h)

pub from_chunks : (set : Chunks) (p : ℕ) → set.count ≢ 0 → ids_from set p ≡ ids_of_chunks (chunks_from set.count set.rest.now p)
from_chunks set p h = ap (λ (b : Bool). cond b (drop p (quads_of set.rest.now)) (ids_of_chunks (chunks_from set.count set.rest.now p))) (ne_eqb set.count 0 h)

pub positions_array : (set : Chunks) → set.count ≡ 0 → positions set ≡ length set.rest.now / 4
positions_array set h = ap (λ (b : Bool). cond b (length set.rest.now / 4) set.count) (eq-eqb set.count 0 h)

pub positions_chunks : (set : Chunks) → set.count ≢ 0 → positions set ≡ set.count
positions_chunks set h = ap (λ (b : Bool). cond b (length set.rest.now / 4) set.count) (ne_eqb set.count 0 h)

-- ---- the low 16 bits between two positions

neither : (b : Bool) (xs ys : List ℕ) → xs ≡ [] → ys ≡ [] → cond b xs ys ≡ []
neither true xs ys e f = e
neither false xs ys e f = f

pub between_none : (set : Chunks) (p : ℕ) → lows_between set p p ≡ []
between_none set p =
    let none : p - p ≡ 0 = omega arith in
    neither (eqb set.count 0) _ _ (ap (λ (n : ℕ). map (λ x. x % 65536) (take n (drop p (quads_of set.rest.now)))) none)
    (ap (λ (b : Bool). cond b [] (chunk_at set.count set.rest.now p).1) (eq-eqb p p refl))

pub between_array : (set : Chunks) (p end : ℕ) → set.count ≡ 0 → lows_between set p end ≡ map (λ x. x % 65536) (take (end - p) (drop p (quads_of set.rest.now)))
between_array set p end h =
    ap (λ (b : Bool). cond b (map (λ x. x % 65536) (take (end - p) (drop p (quads_of set.rest.now)))) (cond (eqb p end) [] (chunk_at set.count set.rest.now p).1)) (eq-eqb set.count 0 h)

pub between_chunk : (set : Chunks) (p end : ℕ) → set.count ≢ 0 → p ≢ end → lows_between set p end ≡ (chunk_at set.count set.rest.now p).1
between_chunk set p end h ne =
    ap (λ (b : Bool). cond b (map (λ x. x % 65536) (take (end - p) (drop p (quads_of set.rest.now)))) (cond (eqb p end) [] (chunk_at set.count set.rest.now p).1)) (ne_eqb set.count 0 h)
    ∙ ap (λ (b : Bool). cond b [] (chunk_at set.count set.rest.now p).1) (ne_eqb p end ne)

-- ids that share their key are told by their low 16 bits
lows_decide : (d x : ℕ) (ys : List ℕ) → d ≤ length ys → ((i : ℕ) → i < d → get_or ys i 0 / 65536 ≡ x / 65536) → has x (take d ys) ≡ has (x % 65536) (map (λ y. y % 65536) (take d ys))
lows_decide zero x ys h each = refl
lows_decide (suc d) x [] h each = absurd (omega arith)
lows_decide (suc d) x (y ∷ ys) h each =
    let first : y / 65536 ≡ x / 65536 = each 0 (omega arith) in
    ap (λ (b : Bool). b || has x (take d ys)) (eqb_same y x (y % 65536) (x % 65536) (λ s. ap (λ (n : ℕ). n % 65536) s) (λ s. omega arith))
    ∙ ap (λ (b : Bool). eqb (y % 65536) (x % 65536) || b) (lows_decide d x ys (omega arith) (λ i lt. each (suc i) (omega arith)))

pub array_own : (xs : List ℕ) (position end key x : ℕ) → IsRising 0 (2 ^ 32) xs → position ≤ end → end ≤ length xs → x / 65536 ≡ key → key ≤ first_key (drop position xs)
    → ((p : ℕ) → position ≤ p → p < end → first_key (drop p xs) < key + 1) → key + 1 ≤ first_key (drop end xs)
    → has x (drop position xs) ≡ has (x % 65536) (map (λ y. y % 65536) (take (end - position) (drop position xs)))
array_own xs position end key x r h within e least lower reached =
    let ys : List ℕ = drop position xs in
    let d : ℕ = end - position in
    let whole : position + d ≡ end = omega arith in
    let long = length-drop position xs in
    let gone : has x (drop d ys) ≡ false =
    ap (has x) (drop-drop d position xs ∙ ap (λ (n : ℕ). drop n xs) whole) ∙ key_under 0 x (drop end xs) (rising_drop 0 (2 ^ 32) end xs r) (omega arith) in
    sym (ap (has x) (take-append-drop d ys)) ∙ has_append x (take d ys) (drop d ys) ∙ ap (λ (b : Bool). has x (take d ys) || b) gone ∙ or-false (has x (take d ys))
    ∙ lows_decide d x ys (omega arith)
    (λ i lt. (
    let at = get_or-drop position xs i 0 in
    let key_there = array_key (position + i) xs (omega arith) in
    let below = lower (position + i) (omega arith) (omega arith) in
    let up = walk_up (length xs) (λ p. drop p xs) (array_walk (length xs) xs refl r) position i (position + i) refl (omega arith) in
    omega arith))

-- ---- integers of four bytes between two positions

pub quads_drop : (p : ℕ) (bytes : List ℕ) → quads_of (drop (4 * p) bytes) ≡ drop p (quads_of bytes)
unfolding quads_of
quads_drop zero bytes = refl
quads_drop (suc p) bytes =
    let e : 4 * suc p ≡ 4 + 4 * p = omega arith in
    ap (λ (n : ℕ). quads_of (drop n bytes)) e ∙ ap quads_of (sym (drop-drop (4 * p) 4 bytes)) ∙ quads_drop p (drop 4 bytes) ∙ one bytes
  where
    one : (bytes : List ℕ) → drop p (quads_of (drop 4 bytes)) ≡ drop (suc p) (quads_of bytes)
    one [] = drop_all p [] (omega arith)
    one (a ∷ []) = drop_all p [] (omega arith)
    one (a ∷ b ∷ []) = drop_all p [] (omega arith)
    one (a ∷ b ∷ c ∷ []) = drop_all p [] (omega arith)
    one (a ∷ b ∷ c ∷ d ∷ bytes) = refl

quads_take : (k : ℕ) (bytes : List ℕ) → 4 * k ≤ length bytes → quads_of (take (4 * k) bytes) ≡ take k (quads_of bytes)
unfolding quads_of
quads_take zero bytes h = refl
quads_take (suc k) [] h = absurd (omega arith)
quads_take (suc k) (a ∷ []) h = absurd (omega arith)
quads_take (suc k) (a ∷ b ∷ []) h = absurd (omega arith)
quads_take (suc k) (a ∷ b ∷ c ∷ []) h = absurd (omega arith)
quads_take (suc k) (a ∷ b ∷ c ∷ d ∷ bytes) h =
    let e : 4 * suc k ≡ suc (suc (suc (suc (4 * k)))) = omega arith in
    ap (λ (n : ℕ). quads_of (take n (a ∷ b ∷ c ∷ d ∷ bytes))) e ∙ ap (λ (l : List ℕ). (a + 256 * b + 65536 * c + 16777216 * d) ∷ l) (quads_take k bytes (omega arith))

pub quads_cut : (p end : ℕ) (bytes : List ℕ) → p ≤ end → end ≤ length bytes / 4 → quads_of (take (4 * end - 4 * p) (drop (4 * p) bytes)) ≡ take (end - p) (drop p (quads_of bytes))
quads_cut p end bytes h within =
    let e : 4 * end - 4 * p ≡ 4 * (end - p) = omega arith in
    let long = length-drop (4 * p) bytes in
    ap (λ (n : ℕ). quads_of (take n (drop (4 * p) bytes))) e ∙ quads_take (end - p) (drop (4 * p) bytes) (omega arith) ∙ ap (take (end - p)) (quads_drop p bytes)

pub lows_array : (set : Chunks) (p end : ℕ) → set.count ≡ 0 → p ≤ end → end ≤ positions set → lows_of 4 (take (4 * end - 4 * p) (drop (4 * p) set.rest.now)) ≡ lows_between set p end
lows_array set p end none h within =
    let all = positions_array set none in
    ap (map (λ x. x % 65536)) (quads_cut p end set.rest.now h (omega arith)) ∙ sym (between_array set p end none)
