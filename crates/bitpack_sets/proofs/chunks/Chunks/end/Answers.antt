-- The ids of a key are the chunk of a position, or those up to the first of a higher key.
use Rattle.std.proofs.Common.{◌≡◌, ◌≢◌, ◌∙◌, ◌+◌, ◌-◌, ◌%◌, ◌<◌, ◌≤◌, ℕ, List, ap, arith, inl, inr, sym}
use Rattle.std.proofs.lemmas.Bool.{cases_lt}
use Rattle.bitpack_slices.proofs.ForCallers.{bytes_are, quads_len}
use Rattle.bitpack_sets.proofs.lemmas.reads.PositionLaws.{array_own, between_array, between_chunk, between_none, chunk_key, chunk_own, chunk_up, from_array, from_chunks, positions_array, positions_chunks, walk}
use Rattle.bitpack_sets.proofs.lemmas.reads.WalkLaws.{array_key, walk_up}
use Rattle.bitpack_sets.proofs.chunks.Chunks.end.Goals as goal
use Rattle.bitpack_sets.specs.Chunks.{first_key, ids_from, positions}
use Rattle.bitpack_sets.specs.Directory.{key_at}
use Rattle.bitpack_slices.specs.Reads.{has}
use Rattle.bitpack_slices.specs.Slices.{quads_of}
use Rattle.bitpack_sets.specs.declared.chunks.Chunks.{Chunks}

pub returns-then-key-clause-own : goal.returns-then-key-clause-own
returns-then-key-clause-own c x e =
    let set = c.args.self.now in
    (walk set).under c.args.position x (omega (arith, c.key.ensures.first, c.if-key.true, c.requires.least, e))
    ∙ sym (ap (has (x % 65536)) (between_none set c.args.position))

pub returns-then-self-eq0-clause-own : goal.returns-then-self-eq0-clause-own
returns-then-self-eq0-clause-own c x e =
    let set = c.args.self.now in
    let none = c.if-self-eq0.true in
    let xs : List ℕ = quads_of set.rest.now in
    let key_at = λ (p : ℕ). ap first_key (from_array set p none) in
    let size = quads_len set.rest.now in
    let all = positions_array set none in
    let sought = c.seek.ensures in
    ap (has x) (from_array set c.args.position none)
    ∙ array_own xs c.args.position c.seek.result c.args.key x (set.rising none) sought.later (omega (arith, sought.within)) e (omega (arith, key_at c.args.position, c.requires.least))
    (λ p a b. omega (arith, key_at p, sought.lower p a b)) (omega (arith, key_at c.seek.result, sought.reached))
    ∙ sym (ap (has (x % 65536)) (between_array set c.args.position c.seek.result none))

pub returns-then-self-eq0-clause-shared : goal.returns-then-self-eq0-clause-shared
returns-then-self-eq0-clause-shared c e k from to =
    let set = c.args.self.now in
    let none = c.if-self-eq0.true in
    let xs : List ℕ = quads_of set.rest.now in
    let size = quads_len set.rest.now in
    let all = positions_array set none in
    let sought = c.seek.ensures in
    let there = array_key k xs (omega (arith, sought.within)) in
    let here = ap first_key (from_array set k none) in
    let below = sought.lower k from to in
    let up = walk_up (positions set) (ids_from set) (walk set) c.args.position (k - c.args.position) k (omega arith) (omega (arith, sought.within)) in
    omega (arith, c.requires.least)

-- a position whose key is below 65536 is that of a chunk
chunk_there : (set : Chunks) (position key : ℕ) → set.count ≢ 0 → position ≤ positions set → key ≡ first_key (ids_from set position) → key < 65536 → position < set.count
chunk_there set position key some within e small = elim (cases_lt position set.count) [
  | inl lt ↦ lt
  | inr past ↦ (let all = positions_chunks set some in let top = (walk set).end position (omega arith) in absurd (omega arith))
]

-- its key, and what is after it
chunk_facts : (set : Chunks) (position key : ℕ) → set.count ≢ 0 → position < set.count → key ≡ first_key (ids_from set position) → (key ≡ key_at set.rest.now position) × (key < first_key (ids_from set (position + 1)))
chunk_facts set position key some lt e =
    let are = bytes_are set.rest.now set.are_bytes in
    let here = ap first_key (from_chunks set position some) ∙ chunk_key set.ids set.count set.rest.now are (set.sound some) position lt in
    let next = ap first_key (from_chunks set (position + 1) some) in
    let up = chunk_up set.ids set.count set.rest.now are (set.sound some) position lt in
    (e ∙ here, omega arith)

pub returns-else-self-eq0-clause-within : goal.returns-else-self-eq0-clause-within
returns-else-self-eq0-clause-within c =
    let set = c.args.self.now in
    let some = c.if-self-eq0.false in
    let lt = chunk_there set c.args.position c.args.key some c.requires.within (sym c.if-key.false ∙ c.key.ensures.first) c.requires.key in
    let all = positions_chunks set some in
    omega arith

pub returns-else-self-eq0-clause-passed : goal.returns-else-self-eq0-clause-passed
returns-else-self-eq0-clause-passed c =
    let set = c.args.self.now in
    let some = c.if-self-eq0.false in
    let lt = chunk_there set c.args.position c.args.key some c.requires.within (sym c.if-key.false ∙ c.key.ensures.first) c.requires.key in
    (chunk_facts set c.args.position c.args.key some lt (sym c.if-key.false ∙ c.key.ensures.first)).1

pub returns-else-self-eq0-clause-own : goal.returns-else-self-eq0-clause-own
returns-else-self-eq0-clause-own c x e =
    let set = c.args.self.now in
    let some = c.if-self-eq0.false in
    let lt = chunk_there set c.args.position c.args.key some c.requires.within (sym c.if-key.false ∙ c.key.ensures.first) c.requires.key in
    let here = (chunk_facts set c.args.position c.args.key some lt (sym c.if-key.false ∙ c.key.ensures.first)).0 in
    ap (has x) (from_chunks set c.args.position some)
    ∙ chunk_own set.ids set.count set.rest.now (bytes_are set.rest.now set.are_bytes) (set.sound some) c.args.position x lt (e ∙ here)
    ∙ sym (ap (has (x % 65536)) (between_chunk set c.args.position (c.args.position + 1) some (λ s. absurd (omega arith))))

pub returns-else-self-eq0-clause-others : goal.returns-else-self-eq0-clause-others
returns-else-self-eq0-clause-others c x more =
    let set = c.args.self.now in
    let some = c.if-self-eq0.false in
    let lt = chunk_there set c.args.position c.args.key some c.requires.within (sym c.if-key.false ∙ c.key.ensures.first) c.requires.key in
    (walk set).pass c.args.position x (let all = positions_chunks set some in omega arith) (omega (arith, c.key.ensures.first, c.if-key.false))

pub returns-then-self-eq0-clause-none : goal.returns-then-self-eq0-clause-none
returns-then-self-eq0-clause-none c x most = (walk c.args.self.now).under c.seek.result x (omega (arith, c.seek.ensures.reached))

pub returns-else-self-eq0-clause-none : goal.returns-else-self-eq0-clause-none
returns-else-self-eq0-clause-none c x most = let passed = returns-else-self-eq0-clause-passed c in (walk c.args.self.now).under (c.args.position + 1) x (omega arith)
