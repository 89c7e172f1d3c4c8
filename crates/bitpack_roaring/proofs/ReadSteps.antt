-- One container more is read, of a bitmap without a fault.
use Rattle.std.proofs.Common.{None, ◌≡◌, ℕ, zero, suc, ◌+◌, ◌-◌, ◌*◌, ◌<◌, ◌≤◌, Bool, List, ◌++◌, map, length, take, drop, sym, ap, ◌∙◌, arith, subst, get_or}
use Rattle.bitpack_roaring.proofs.ChunkLaws.{each_tested, ids_counted, ids_more}
use Rattle.bitpack_roaring.proofs.ContainerLaws.{IsTested}
use Rattle.bitpack_roaring.proofs.FaultSteps.{body_is, position_more}
use Rattle.bitpack_roaring.specs.Faults.{fault}
use Rattle.bitpack_roaring.specs.inner.Heads.{IsContainer}
use Rattle.bitpack_roaring.specs.Roaring.{body_at, containers, count_at, ids_before, ids_of, is_run, key_at, numbers_at, numbers_of, position_at, size_from, start_at}

-- its bytes are there
pub end_there : (bytes : List ℕ) (m start : ℕ) → start ≡ start_at bytes m → IsTested bytes m → start + size_from bytes m start ≤ length bytes
end_there bytes m start s tested = subst (λ (n : ℕ). n + size_from bytes m n ≤ length bytes) (sym s) tested.room

module _ (bytes : List ℕ) (m start end count : ℕ) (run : Bool) (s : start ≡ start_at bytes m) (e : end ≡ start + size_from bytes m start) (room : end ≤ length bytes)
    (r : run ≡ is_run bytes m) (c : count ≡ count_at bytes m) where
  body_same : take (end - start) (drop start bytes) ≡ body_at bytes m
  body_same = body_is bytes m start s end e room

  -- it is a container without a fault
  pub container_there : IsTested bytes m → IsContainer run count (take (end - start) (drop start bytes))
  container_there tested = rw (r, c, body_same) tested.numbers

  pub numbers_same : numbers_of run count (take (end - start) (drop start bytes)) ≡ numbers_at bytes m
  numbers_same i = numbers_of (r i) (c i) (body_same i)

  -- its ids are written after those before
  pub ids_written : (key base next end' : ℕ) (old new : List ℕ) → key ≡ key_at bytes m → base ≡ key * 65536 → take next old ≡ ids_before bytes m
      → take end' new ≡ take next old ++ map (λ i. base + i) (numbers_of run count (take (end - start) (drop start bytes))) → take end' new ≡ ids_before bytes (m + 1)
  ids_written key base next end' old new k b so written =
      written ∙ (λ i. so i ++ map (λ low. b i + low) (numbers_same i)) ∙ ap (λ (n : ℕ). ids_before bytes m ++ map (λ low. n * 65536 + low) (numbers_at bytes m)) k ∙ sym (ids_more bytes m)

-- no more ids are before a container than before a later one
pub position_grows : (bytes : List ℕ) (m k : ℕ) → position_at bytes m ≤ position_at bytes (m + k)
unfolding position_at
position_grows bytes m zero = let e : m ≡ m + zero = omega arith in let same = ap (position_at bytes) e in omega arith
position_grows bytes m (suc k) =
    let e : suc (m + k) ≡ m + suc k = omega arith in
    let same : position_at bytes (m + k) + count_at bytes (m + k) ≡ position_at bytes (m + suc k) = ap (position_at bytes) e in
    let ih = position_grows bytes m k in
    omega arith

-- there is room for the ids of a container where there is room for all
pub room_for : (bytes : List ℕ) (m next count room : ℕ) → ((k : ℕ) → get_or bytes k 0 < 256) → fault bytes ≡ None → m < containers bytes → next ≡ position_at bytes m
    → count ≡ count_at bytes m → length (ids_of bytes) ≤ room → next + count ≤ room
room_for bytes m next count room are none within n c enough =
    let all = ids_counted bytes (containers bytes) (each_tested bytes are none) in
    let more = position_more bytes m next count n c in
    let rest : m + 1 + (containers bytes - (m + 1)) ≡ containers bytes = omega arith in
    let later = ap (position_at bytes) rest in
    let grows = position_grows bytes (m + 1) (containers bytes - (m + 1)) in
    omega arith

-- container m is tested, and all are
pub tested_at : (bytes : List ℕ) (m count : ℕ) → ((k : ℕ) → get_or bytes k 0 < 256) → fault bytes ≡ None → count ≡ containers bytes → m < count → IsTested bytes m
tested_at bytes m count are none is lt = each_tested bytes are none m (omega arith)
