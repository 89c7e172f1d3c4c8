-- Where slices end, which is filled in id by id.
use Rattle.std.proofs.Common.{◌≡◌, ◌≢◌, ℕ, ◌+◌, ◌-◌, ◌/◌, ◌%◌, ◌<◌, ◌≤◌, not, eqb, List, [], ◌∷◌, ◌++◌, map, length, get_or, set, take, drop, refl, sym, ap, ◌∙◌, arith, subst, inl, inr, length-drop, length-set}
use mir.Val.{bool_byte}
use Rattle.std.proofs.lemmas.Bool.{cases_eq}
use Rattle.std.proofs.lemmas.List.{drop-drop, drop_more, length-map, length-take-le, take-set-le}
use Rattle.bitpack_groups.proofs.ForCallers.{IsFilled, fill_done, fill_left, fill_one, fill_start}
use Rattle.bitpack_sets.proofs.lemmas.written.CountedRuns.{agree, differ, first_run, step_is}
use Rattle.bitpack_sets.proofs.lemmas.written.DirectoryFilled.{next_sum, no_sums}
use Rattle.bitpack_sets.proofs.lemmas.encodings.LongLaws.{sums_len}
use Rattle.bitpack_sets.proofs.lemmas.written.RunLaws.{chunk_rest, get_drop, parts_some, slice_part}
use Rattle.bitpack_slices.specs.Bodies.{parts}
use Rattle.bitpack_sets.specs.Sets.{sums}
use Rattle.bitpack_sets.specs.Written.{IsChunk, IsRun, lows, slice_ends}

-- where the slices end of the ids from `begin` on
abbrev pub ends_from : List ℕ → ℕ → List ℕ
ends_from ids begin = sums begin (map (λ part. length part.1) (parts 256 (lows (drop begin ids))))

no_parts : (left : List ℕ) → length left ≡ 0 → parts 256 (lows left) ≡ []
unfolding parts
no_parts [] h = refl
no_parts (x ∷ left) h = absurd (omega arith)

pub no_ends : (ids : List ℕ) (begin : ℕ) → length (drop begin ids) ≡ 0 → ends_from ids begin ≡ []
no_ends ids begin none = ap (λ (ps : List (ℕ × List ℕ)). sums begin (map (λ part. length part.1) ps)) (no_parts (drop begin ids) none) ∙ no_sums begin

pub ends_len : (ids : List ℕ) (begin : ℕ) → length (ends_from ids begin) ≡ length (parts 256 (lows (drop begin ids)))
ends_len ids begin =
    let ps : List (ℕ × List ℕ) = parts 256 (lows (drop begin ids)) in
    sums_len begin (map (λ part. length part.1) ps) ∙ length-map ps (λ part. length part.1)

-- the first end is that of the first slice
pub ends_next : (ids : List ℕ) (begin count : ℕ) → IsChunk (drop begin ids) → IsRun 256 (drop begin ids) count
    → ends_from ids begin ≡ (begin + count) ∷ ends_from ids (begin + count)
ends_next ids begin count chunk run =
    let left : List ℕ = drop begin ids in
    let own : List ℕ = map (λ id. id % 256) (take count left) in
    let rest : List (ℕ × List ℕ) = parts 256 (lows (drop count left)) in
    let long : length own ≡ count = length-map (take count left) (λ id. id % 256) ∙ length-take-le count left run.within in
    ap (λ (ps : List (ℕ × List ℕ)). sums begin (map (λ part. length part.1) ps)) (slice_part count left chunk run)
    ∙ next_sum begin (length own) (map (λ part. length part.1) rest)
    ∙ ap (λ n. (begin + n) ∷ sums (begin + n) (map (λ part. length part.1) rest)) long
    ∙ ap (λ (l : List ℕ). (begin + count) ∷ sums (begin + count) (map (λ part. length part.1) (parts 256 (lows l)))) (drop-drop count begin ids)

-- ---- the ends are filled in

-- the ends up to an id are filled in, which is after some ids of one slice
pub record EndsFilled (ids ends : List ℕ) (index slot : ℕ) : Type 0 where
  pub begin : ℕ
  pub before : begin < index
  pub within : index ≤ length ids
  pub chunk : IsChunk (drop begin ids)
  pub shared : (k : ℕ) → begin ≤ k → k < index → get_or ids k 0 / 256 ≡ get_or ids begin 0 / 256
  pub filled : IsFilled ends slot (ends_from ids begin) (slice_ends ids)

pub ends_start : (ids ends : List ℕ) → IsChunk ids → 0 < length ids → length ends ≡ length (parts 256 (lows ids)) → EndsFilled ids ends 1 0
ends_start ids ends chunk some size = record {
  begin = 0;
  before = omega arith;
  within = omega arith;
  chunk = chunk;
  shared = λ k low high. let e : k ≡ 0 = omega arith in ap (λ n. get_or ids n 0 / 256) e;
  filled = fill_start ends (slice_ends ids) (size ∙ sym (ends_len ids 0));
}

-- the ids of the slice so far are a run, if the next one is of another slice
run_so_far : (ids ends : List ℕ) (index slot : ℕ) (before : EndsFilled ids ends index slot)
    → (index < length ids → get_or ids index 0 / 256 ≢ get_or ids before.begin 0 / 256) → IsRun 256 (drop before.begin ids) (index - before.begin)
run_so_far ids ends index slot before apart =
    let begin : ℕ = before.begin in
    let some = before.before in
    let within = before.within in
    let size = length-drop begin ids in
    let first : get_or (drop begin ids) 0 0 / 256 ≡ get_or ids begin 0 / 256 = (let e : begin + 0 ≡ begin = omega arith in ap (λ x. x / 256) (get_drop begin 0 ids ∙ ap (λ n. get_or ids n 0) e)) in
    record {
      some = omega arith;
      within = omega arith;
      shared = λ k lt. ap (λ x. x / 256) (get_drop begin k ids) ∙ before.shared (begin + k) (omega arith) (omega arith) ∙ sym first;
      apart = λ lt e.
          let position : begin + (index - begin) ≡ index = omega arith in
          let there = ap (λ x. x / 256) (get_drop begin (index - begin) ids ∙ ap (λ n. get_or ids n 0) position) in
          apart (omega arith) (sym there ∙ e ∙ first);
    }

pub slot_room : (ids ends : List ℕ) (index slot : ℕ) → EndsFilled ids ends index slot → slot < length ends
slot_room ids ends index slot before =
    let some = before.before in
    let within = before.within in
    let left : List ℕ = drop before.begin ids in
    let size = length-drop before.begin ids in
    let long = length-map left (λ id. id % 65536) in
    let many = parts_some 256 (lows left) (omega arith) in
    let e = ends_len ids before.begin in
    let f = fill_left ends slot _ _ before.filled in
    omega arith

filled_same : (ends : List ℕ) (slot x : ℕ) (rest all : List ℕ) → IsFilled ends slot rest all → IsFilled (set ends slot x) slot rest all
filled_same ends slot x rest all fill =
    let e = length-set ends slot x in
    let within = fill.within in
    record { size = e ∙ fill.size; within = omega arith; parts = ap (λ (l : List ℕ). l ++ rest) (take-set-le slot ends slot x (omega arith)) ∙ fill.parts }

ends_same : (ids ends : List ℕ) (index slot : ℕ) → EndsFilled ids ends index slot → index < length ids → get_or ids index 0 / 256 ≡ get_or ids (index - 1) 0 / 256
    → EndsFilled ids (set ends slot index) (index + 1) slot
ends_same ids ends index slot before lt same =
    let some = before.before in
    let last : get_or ids index 0 / 256 ≡ get_or ids before.begin 0 / 256 = same ∙ before.shared (index - 1) (omega arith) (omega arith) in
    record {
      begin = before.begin;
      before = omega arith;
      within = omega arith;
      chunk = before.chunk;
      shared = λ k low high. elim (cases_eq k index) [
        | inl is ↦ ap (λ n. get_or ids n 0 / 256) is ∙ last
        | inr other ↦ before.shared k low (omega arith)
      ];
      filled = filled_same ends slot index _ _ before.filled;
    }

ends_apart : (ids ends : List ℕ) (index slot : ℕ) → EndsFilled ids ends index slot → index < length ids → get_or ids index 0 / 256 ≢ get_or ids (index - 1) 0 / 256
    → EndsFilled ids (set ends slot index) (index + 1) (slot + 1)
ends_apart ids ends index slot before lt apart =
    let begin : ℕ = before.begin in
    let some = before.before in
    let run = run_so_far ids ends index slot before (λ h e. apart (e ∙ sym (before.shared (index - 1) (omega arith) (omega arith)))) in
    let position : begin + (index - begin) ≡ index = omega arith in
    let next : ends_from ids begin ≡ index ∷ ends_from ids index =
    ends_next ids begin (index - begin) before.chunk run ∙ ap (λ n. n ∷ ends_from ids n) position in
    record {
      begin = index;
      before = omega arith;
      within = omega arith;
      chunk = subst (λ (l : List ℕ). IsChunk l) (drop-drop (index - begin) begin ids ∙ ap (λ n. drop n ids) position) (chunk_rest (index - begin) (drop begin ids) before.chunk);
      shared = λ k low high. let e : k ≡ index = omega arith in ap (λ n. get_or ids n 0 / 256) e;
      filled = fill_one ends slot index (ends_from ids index) (slice_ends ids) (subst (λ (l : List ℕ). IsFilled ends slot l (slice_ends ids)) next before.filled);
    }

-- an id more
pub ends_more : (ids ends : List ℕ) (index slot : ℕ) → EndsFilled ids ends index slot → index < length ids
    → EndsFilled ids (set ends slot index) (index + 1) (slot + bool_byte (not (eqb (get_or ids index 0 / 256) (get_or ids (index - 1) 0 / 256))))
ends_more ids ends index slot before lt = elim (cases_eq (get_or ids index 0 / 256) (get_or ids (index - 1) 0 / 256)) [
  | inl same ↦
      let e = step_is (get_or ids index 0 / 256) (get_or ids (index - 1) 0 / 256) ∙ agree _ _ same in
      let f : slot ≡ slot + bool_byte (not (eqb (get_or ids index 0 / 256) (get_or ids (index - 1) 0 / 256))) = omega arith in
      subst (λ n. EndsFilled ids (set ends slot index) (index + 1) n) f (ends_same ids ends index slot before lt same)
  | inr apart ↦
      let e = step_is (get_or ids index 0 / 256) (get_or ids (index - 1) 0 / 256) ∙ differ _ _ apart in
      let f : slot + 1 ≡ slot + bool_byte (not (eqb (get_or ids index 0 / 256) (get_or ids (index - 1) 0 / 256))) = omega arith in
      subst (λ n. EndsFilled ids (set ends slot index) (index + 1) n) f (ends_apart ids ends index slot before lt apart)
]

pub ends_done : (ids ends : List ℕ) (index slot : ℕ) → EndsFilled ids ends index slot → length ids ≤ index → set ends slot (length ids) ≡ slice_ends ids
ends_done ids ends index slot before done =
    let begin : ℕ = before.begin in
    let some = before.before in
    let within = before.within in
    let run = run_so_far ids ends index slot before (λ lt. absurd (omega arith)) in
    let position : begin + (index - begin) ≡ length ids = omega arith in
    let size = length-drop (length ids) ids in
    let next : ends_from ids begin ≡ length ids ∷ [] =
    ends_next ids begin (index - begin) before.chunk run ∙ ap (λ n. n ∷ ends_from ids n) position
    ∙ ap (λ (l : List ℕ). length ids ∷ l) (no_ends ids (length ids) (omega arith)) in
    fill_done (set ends slot (length ids)) (slot + 1) (slice_ends ids)
    (fill_one ends slot (length ids) [] (slice_ends ids) (subst (λ (l : List ℕ). IsFilled ends slot l (slice_ends ids)) next before.filled))

-- ---- the slices are gone through by their ends

-- the slices from `begin` on are left, which end at the ends from `index` on
pub record EndsLeft (ids ends : List ℕ) (index begin : ℕ) : Type 0 where
  pub within : begin ≤ length ids
  pub chunk : IsChunk (drop begin ids)
  pub left : drop index ends ≡ ends_from ids begin

pub left_start : (ids ends : List ℕ) → IsChunk ids → ends ≡ slice_ends ids → EndsLeft ids ends 0 0
left_start ids ends chunk are = record { within = omega arith; chunk = chunk; left = are }

pub record IsNext (ids ends : List ℕ) (index begin : ℕ) : Type 0 where
  pub above : begin < get_or ends index 0
  pub run : IsRun 256 (drop begin ids) (get_or ends index 0 - begin)
  pub rest : EndsLeft ids ends (index + 1) (get_or ends index 0)

pub left_next : (ids ends : List ℕ) (index begin : ℕ) → EndsLeft ids ends index begin → index < length ends → IsNext ids ends index begin
left_next ids ends index begin before lt =
    let left : List ℕ = drop begin ids in
    let size = length-drop begin ids in
    let many = length-drop index ends in
    let within = before.within in
    let some : 0 < length left = elim (cases_eq (length left) 0) [
      | inl none ↦ (let e = ap length (before.left ∙ no_ends ids begin none) in absurd (omega arith))
      | inr some ↦ omega arith
    ] in
    let (count, run) = first_run 256 left some in
    let one = run.some in
    let few = run.within in
    let both : get_or ends index 0 ∷ drop (index + 1) ends ≡ (begin + count) ∷ ends_from ids (begin + count) =
    sym (drop_more ends index 0 lt) ∙ before.left ∙ ends_next ids begin count before.chunk run in
    let end : get_or ends index 0 ≡ begin + count = cc in
    let rest : drop (index + 1) ends ≡ ends_from ids (begin + count) = cc in
    let long : count ≡ get_or ends index 0 - begin = omega arith in
    record {
      above = omega arith;
      run = subst (λ n. IsRun 256 left n) long run;
      rest = record {
        within = omega arith;
        chunk = subst (λ (l : List ℕ). IsChunk l) (drop-drop count begin ids ∙ ap (λ n. drop n ids) (sym end)) (chunk_rest count left before.chunk);
        left = rest ∙ ap (ends_from ids) (sym end);
      };
    }

-- none is left after the last end
pub left_none : (ids ends : List ℕ) (index begin : ℕ) → EndsLeft ids ends index begin → length ends ≤ index
    → (parts 256 (lows (drop begin ids)) ≡ []) × (begin ≡ length ids)
left_none ids ends index begin before done =
    let left : List ℕ = drop begin ids in
    let size = length-drop begin ids in
    let many = length-drop index ends in
    let within = before.within in
    let e = ap length before.left in
    let f = ends_len ids begin in
    elim (cases_eq (length left) 0) [
      | inl none ↦ (no_parts left none, omega arith)
      | inr some ↦ (let long = length-map left (λ id. id % 65536) in let one = parts_some 256 (lows left) (omega arith) in absurd (omega arith))
    ]
