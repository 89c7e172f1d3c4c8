-- One id more.
use Rattle.std.proofs.Common.{◌≡◌, ◌≢◌, ◌+◌, ◌/◌, ◌-◌, ◌≤◌, ◌<◌, ℕ, List, arith, get_or, length, subst, sym, inl, inr, ◌∙◌, ap}
use Rattle.std.proofs.lemmas.Bool.Decides.{eqb_tells}
use Rattle.bitpack_slices.specs.Slices.{quads_of}
use Rattle.bitpack_sets.proofs.lemmas.written.FallLaws.{Counted, counted_done, counted_other, counted_same, counted_start}
use Rattle.bitpack_slices.proofs.ForCallers.{quads_len}
use Rattle.bitpack_sets.proofs.array.count_chunks.Goals as goal

pub loop-position-init : goal.loop-position-init
loop-position-init c = record { few = omega arith; counted = counted_start 65536 (quads_of c.args.ids.now) }

one_more : (chunks i key before change : ℕ) (xs : List ℕ) → 1 ≤ i → i < length xs → key ≡ get_or xs i 0 / 65536 → before ≡ get_or xs (i - 1) 0 / 65536
    → (key ≡ before → change ≡ 0) → (key ≢ before → change ≡ 1) → chunks ≤ i → Counted 65536 chunks i xs → (chunks + change ≤ i + 1) × Counted 65536 (chunks + change) (i + 1) xs
one_more chunks i key before change xs some lt e f same other few so_far = elim (eqb_tells key before) [
  | inl (equal, is) ↦
      let none = same is in
      let there = counted_same 65536 chunks i xs some lt (sym e ∙ is ∙ f) so_far in
      let unchanged : chunks ≡ chunks + change = omega arith in
      (omega arith, subst (λ (n : ℕ). Counted 65536 n (i + 1) xs) unchanged there)
  | inr (differs, isnt) ↦
      let one = other isnt in
      let there = counted_other 65536 chunks i xs some lt (λ g. isnt (e ∙ g ∙ sym f)) so_far in
      let grows : chunks + 1 ≡ chunks + change = omega arith in
      (omega arith, subst (λ (n : ℕ). Counted 65536 n (i + 1) xs) grows there)
]

pub loop-position-preserved : goal.loop-position-preserved
loop-position-preserved c =
    let xs : List ℕ = quads_of c.args.ids.now in
    let size = quads_len c.args.ids.now in
    let (few, counted) = one_more c.loop-position.chunks c.loop-position.position _ _ c.changes-chunks.result xs (omega arith) (omega arith)
    (ap (λ (n : ℕ). n / 65536) c.id_at.ensures) (ap (λ (n : ℕ). n / 65536) c.id_at-in-loop-position.ensures) c.changes-chunks.ensures.same c.changes-chunks.ensures.other c.loop-position.invariant.few c.loop-position.invariant.counted in
    record { few = few; counted = counted }

pub returns-clause-few : goal.returns-clause-few
returns-clause-few c = let few = c.loop-position.invariant.few in omega arith

pub returns-clause-count : goal.returns-clause-count
returns-clause-count c =
    let xs : List ℕ = quads_of c.args.ids.now in
    let size = quads_len c.args.ids.now in
    counted_done 65536 c.loop-position.chunks c.loop-position.position xs (omega arith) (omega arith) c.loop-position.invariant.counted
