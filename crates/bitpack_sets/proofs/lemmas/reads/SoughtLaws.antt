-- What is found from a place on.
use Rattle.std.proofs.Common.{◌≡◌, ℕ, ◌+◌, ◌*◌, ◌<◌, ◌≤◌, ◌∙◌, true, List, ap, arith, drop, eq-eqb, get_or, inl, inr, max, subst, take}
use Rattle.std.proofs.Math.Nat.{le-max_left, le-max_right, max-eq_left, max-eq_right}
use Rattle.std.proofs.lemmas.Bool.{cases_lt}
use Rattle.std.proofs.lemmas.List.{get_or-map}
use Rattle.bitpack_slices.proofs.ForCallers.{EachByte, has_at_rank, none}
use Rattle.bitpack_slices.specs.Reads.{has, rank}
use Rattle.bitpack_slices.specs.Slices.{pairs_of}
use Rattle.bitpack_sets.proofs.lemmas.reads.ChunkReads.{chunk_there, keys_read, keys_rise_in, read_chunks}
use Rattle.bitpack_sets.proofs.lemmas.reads.HalfLaws.{keys_len, rank_here}
use Rattle.bitpack_sets.proofs.lemmas.reads.KeyLaws.{many_chunks}
use Rattle.bitpack_sets.specs.Directory.{key_at}
use Rattle.bitpack_sets.specs.Places.{Holds, IsChunkPlace, first_of}
use Rattle.bitpack_sets.specs.Sound.{IsRest}
use Rattle.bitpack_sets.specs.declared.place.ChunkPlace.{ChunkPlace}

-- the chunk of a key is known by it
pub key_found : (ids chunks x m : ℕ) (rest : List ℕ) → EachByte rest → IsRest ids chunks rest → m < chunks → key_at rest m ≡ x
    → (m ≡ rank x (pairs_of (take (2 * chunks) (drop 1 rest)))) × (has x (pairs_of (take (2 * chunks) (drop 1 rest))) ≡ true)
key_found ids chunks x m rest are is lt e =
    let keys : List ℕ = pairs_of (take (2 * chunks) (drop 1 rest)) in
    let room = is.directory.room in
    let size = keys_len chunks rest (omega arith) in
    let rise = keys_rise_in ids chunks rest are is in
    let read : get_or keys m 0 ≡ key_at rest m =
    ap (λ (l : List ℕ). get_or l m 0) (keys_read ids chunks rest are is) ∙ get_or-map (λ part. part.0) (read_chunks chunks rest) m none 0 (omega (arith, many_chunks chunks rest))
    ∙ ap (λ (p : ℕ × List ℕ). p.0) (chunk_there ids chunks m rest lt) in
    let here : get_or keys m 0 ≡ x = read ∙ e in
    let ranked = rank_here x 0 65536 m keys rise (omega arith) here in
    (ranked, has_at_rank x 0 65536 m keys rise ranked (omega arith) ∙ eq-eqb (get_or keys m 0) x here)

-- ids before a chunk, and numbers of it
pub held_rank : (from before left own first all : ℕ) → left ≡ max before own → first ≡ from + before → from + own ≡ all → from + left ≡ max first all
held_rank from before left own first all l f a = elim (cases_lt before own) [
  | inl less ↦ (let b = max-eq_right {n = before} {m = own} (omega arith) in let c = max-eq_right {n = first} {m = all} (omega arith) in omega arith)
  | inr more ↦ (let b = max-eq_left {n = before} {m = own} more in let c = max-eq_left {n = first} {m = all} (omega arith) in omega arith)
]

pub max_up : (a b c : ℕ) → a ≤ b → max a c ≤ max b c
max_up a b c le = elim (cases_lt a c) [
  | inl less ↦ (let e = max-eq_right {n = a} {m = c} (omega arith) in let r = le-max_right b c in omega arith)
  | inr more ↦ (let e = max-eq_left {n = a} {m = c} more in let l = le-max_left b c in omega arith)
]

-- a position that is not before a rank, and not after the greater of it and an earlier position
pub found_is : (position found below : ℕ) → below ≤ found → found ≤ max position below → position ≤ found → found ≡ max position below
found_is position found below least most later = elim (cases_lt position below) [
  | inl less ↦ (let e = max-eq_right {n = position} {m = below} (omega arith) in omega arith)
  | inr more ↦ (let e = max-eq_left {n = position} {m = below} more in omega arith)
]

-- the place that is found is not after the position
pub held_on : (chunks own : ℕ) (rest bytes : List ℕ) (at here : ChunkPlace) (position found : ℕ) → own ≡ chunks → bytes ≡ rest → Holds chunks rest at position → IsChunkPlace own bytes here
    → first_of own bytes here ≤ max (first_of own bytes at) found → Holds chunks rest here (max position found)
held_on chunks own rest bytes at here position found e f holds is after =
    let place = subst (λ (n : ℕ). IsChunkPlace n rest here) e (subst (λ (l : List ℕ). IsChunkPlace own l here) f is) in
    let least = subst (λ (n : ℕ). first_of n rest here ≤ max (first_of n rest at) found) e (subst (λ (l : List ℕ). first_of own l here ≤ max (first_of own l at) found) f after) in
    let up = max_up (first_of chunks rest at) position found holds.after in
    record { place = place; after = omega arith }

pub found_within : (position found below size : ℕ) → found ≤ max position below → position ≤ size → below ≤ size → found ≤ size
found_within position found below size most a b = elim (cases_lt position below) [
  | inl less ↦ (let e = max-eq_right {n = position} {m = below} (omega arith) in omega arith)
  | inr more ↦ (let e = max-eq_left {n = position} {m = below} more in omega arith)
]
