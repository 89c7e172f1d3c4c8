-- What is unpacked for positions, one after another: at most one block a run.
use Rattle.std.proofs.Common.{◌≡◌, ◌⊎◌, ℕ, ◌+◌, ◌-◌, ◌/◌, ◌<◌, ◌≤◌, ◌||◌, Bool, true, false, List, get_or, refl, sym, ◌∙◌, ap, arith, inl, inr}
use Rattle.std.proofs.lemmas.Bool.{cases_eq, eq-eqb, ne_eqb}
use Rattle.bitpack_columns.specs.declared.column.getting.LastBlock.{LastBlock}
use Rattle.bitpack_columns.specs.declared.reads.Reads.{Reads}
use Rattle.bitpack_columns.specs.Counted.{begins_run}
use Rattle.bitpack_columns.specs.Gathering.{CachesBlock}
use Rattle.bitpack_columns.proofs.CountedLaws.{passed, passed_one, passed_split}

module _ (positions : List ℕ) where
  abbrev pub block_at : ℕ → ℕ
  block_at k = get_or positions k 0 / 128

  abbrev pub runs_before : ℕ → ℕ
  runs_before index = passed (begins_run positions) 0 index

  -- at most as many blocks were unpacked for the first positions as these have runs; the block of the last of them was unpacked last, or fewer were
  pub record AreRead (index started last blocks : ℕ) : Type 0 where
    pub few : blocks ≤ started + runs_before index
    pub was_cached : 0 < index → (last ≡ block_at (index - 1)) ⊎ (blocks + 1 ≤ started + runs_before index)

  either : (b : Bool) → (b || true) ≡ true
  either true = refl
  either false = refl

  begins_first : (index : ℕ) → index ≡ 0 → begins_run positions index ≡ true
  begins_first index none = rw (eq-eqb index 0 none) refl

  begins_other : (index : ℕ) → (block_at index ≡ block_at (index - 1) → ⊥) → begins_run positions index ≡ true
  begins_other index other = rw (ne_eqb (block_at index) (block_at (index - 1)) other) (either _)

  module _ (index started : ℕ) (last next : LastBlock) (old new : Reads) (before : AreRead index started last.block old.blocks)
      (caches : CachesBlock (block_at index) last next old new) where
    after : runs_before (index + 1) ≡ runs_before index + passed (begins_run positions) index 1
    after =
        let here : 0 + index ≡ index = omega arith in
        passed_split (begins_run positions) 0 index 1 ∙ ap (λ n. runs_before index + passed (begins_run positions) n 1) here

    this : index + 1 - 1 ≡ index
    this = omega arith

    fresh : begins_run positions index ≡ true → AreRead (index + 1) started next.block new.blocks
    fresh begins =
        let one = passed_one (begins_run positions) index begins in
        elim caches.once [
          | inl read ↦ record {
            few = omega (arith, before.few, read.1, after, one);
            was_cached = λ _. inl (read.0 ∙ ap block_at (sym this));
          }
          | inr none ↦ record {
            few = omega (arith, before.few, none, after, one);
            was_cached = λ _. inr (omega (arith, before.few, none, after, one));
          }
        ]

    same : 0 < index → block_at index ≡ block_at (index - 1) → AreRead (index + 1) started next.block new.blocks
    same some is = elim (before.was_cached some) [
      | inl was_cached ↦
          let cached = caches.cached (was_cached ∙ sym is) in
          record {
            few = omega (arith, before.few, cached.1, after);
            was_cached = λ _. inl (cached.0 ∙ ap block_at (sym this));
          }
      | inr fewer ↦ elim caches.once [
        | inl read ↦ record {
          few = omega (arith, fewer, read.1, after);
          was_cached = λ _. inl (read.0 ∙ ap block_at (sym this));
        }
        | inr none ↦ record {
          few = omega (arith, before.few, none, after);
          was_cached = λ _. inr (omega (arith, fewer, none, after));
        }
      ]
    ]

    pub read_more : AreRead (index + 1) started next.block new.blocks
    read_more = elim (cases_eq index 0) [
      | inl none ↦ fresh (begins_first index none)
      | inr some ↦ elim (cases_eq (block_at index) (block_at (index - 1))) [
        | inl is ↦ same (omega (arith, some)) is
        | inr other ↦ fresh (begins_other index other)
      ]
    ]
