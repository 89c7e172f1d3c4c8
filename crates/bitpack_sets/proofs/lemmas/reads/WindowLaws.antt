-- Windows of a set: their place among its chunks.
use Rattle.std.proofs.Common.{◌≡◌, ◌≤◌, ℕ, List, arith, get_or, subst, sym}
use Rattle.bitpack_sets.specs.Places.{Holds}
use Rattle.bitpack_sets.specs.Stated.{States}
use Rattle.bitpack_sets.specs.inner.Windows.{HoldsIn, chunks_in, directory_in}
use Rattle.bitpack_sets.specs.declared.place.ChunkPlace.{ChunkPlace}

pub held_in : (bytes rest : List ℕ) (count chunks : ℕ) (at : ChunkPlace) (position : ℕ) → States bytes count chunks rest → (get_or bytes 0 0 ≡ 5 → Holds chunks rest at position)
    → HoldsIn bytes at position
held_in bytes rest count chunks at position states holds = λ five.
    subst (λ (n : ℕ). Holds n (directory_in bytes) at position) (states.chunks_is five)
    (subst (λ (xs : List ℕ). Holds chunks xs at position) (states.in_chunks five) (holds five))

pub held_by : (bytes rest : List ℕ) (count chunks : ℕ) (at : ChunkPlace) (position : ℕ) → States bytes count chunks rest → HoldsIn bytes at position
    → get_or bytes 0 0 ≡ 5 → Holds chunks rest at position
held_by bytes rest count chunks at position states holds five =
    subst (λ (n : ℕ). Holds n rest at position) (sym (states.chunks_is five))
    (subst (λ (xs : List ℕ). Holds (chunks_in bytes) xs at position) (sym (states.in_chunks five)) (holds five))

pub held_after : (bytes rest : List ℕ) (count chunks : ℕ) (at : ChunkPlace) (position later : ℕ) → States bytes count chunks rest → (get_or bytes 0 0 ≡ 5 → Holds chunks rest at position)
    → position ≤ later → HoldsIn bytes at later
held_after bytes rest count chunks at position later states holds le = λ five.
    let is = held_in bytes rest count chunks at position states holds five in
    let after = is.after in
    record { place = is.place; after = omega arith }
