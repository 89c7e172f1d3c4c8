-- The form of each body, and how many bodies have it.
use Rattle.std.proofs.Common.{◌≡◌, ◌≢◌, ℕ, ◌+◌, ◌*◌, ◌<◌, ◌≤◌, Bool, ◌&&◌, true, false, not, get_or, List, [], ◌∷◌, map, length, length-append, cond, ltb, refl, sym, ap, ◌∙◌, arith, inl, inr, eq-eqb}
use Rattle.std.specs.List.{filter}
use Rattle.std.proofs.lemmas.Bool.{cases_lt, le-ltb, lt-ltb, ne_eqb, true≢false}
use Rattle.std.proofs.lemmas.List.Filters.{length-filter_both}
use Rattle.std.proofs.lemmas.List.FromFn.{filter_of_map_range_with_len_more, length-map-range_with_len}
use Rattle.bitpack_slices.proofs.ForCallers.{blocks_are_blocks, blocks_begin, bytes_are, runs_begun}
use Rattle.bitpack_sets.proofs.lemmas.encodings.BodyLaws.{body_blocks, body_numbers, body_runs, cases_few, few, numbers_len, runs_short}
use Rattle.bitpack_sets.proofs.lemmas.encodings.EncodingLaws.{ids_are_read}
use Rattle.bitpack_sets.proofs.lemmas.encodings.ShortLaws.{map_map}
use Rattle.bitpack_sets.proofs.lemmas.faults.ChunkLaws.{ids_parts}
use Rattle.bitpack_sets.proofs.lemmas.reads.ChunkReads.{IsOf}
use Rattle.bitpack_slices.specs.Bodies.{blocks, parts}
use Rattle.bitpack_slices.specs.Runs.{begins_runs, boundaries}
use Rattle.bitpack_sets.specs.Described.{Counts, chunks_of, has_blocks, has_numbers, has_runs}
use Rattle.bitpack_sets.specs.Directory.{body_at, chunk_at, count_at}
use Rattle.bitpack_sets.specs.Forms.{IsChunks}
use Rattle.bitpack_sets.specs.Opened.{encoding_of, ids}
use Rattle.bitpack_sets.specs.Sets.{body, encoding}
use Rattle.bitpack_sets.specs.Sound.{IsBody}
use Rattle.bitpack_sets.specs.inner.BodyForms.{HasForm, first_chunks}
use Rattle.bitpack_sets.specs.declared.describing.Description.{Description}
use Rattle.bitpack_sets.specs.declared.directory.Directory.{Directory}
use Rattle.bitpack_sets.specs.declared.id_set.IdSet.{IdSet}

-- ---- a body

runs_form : (xs : List ℕ) → few xs ≡ true → HasForm xs false false true
runs_form xs e = record {
  numbers_is = ap (λ (b : Bool). not b && not (ltb (length (blocks xs)) (2 * length xs))) e;
  blocks_is = ap (λ (b : Bool). not b && ltb (length (blocks xs)) (2 * length xs)) e;
  runs_is = e;
}

blocks_form : (xs : List ℕ) → few xs ≡ false → length (blocks xs) < 2 * length xs → HasForm xs false true false
blocks_form xs e less =
    let f = lt-ltb (length (blocks xs)) (2 * length xs) less in
    record {
      numbers_is = ap (λ (b : Bool). not b && not (ltb (length (blocks xs)) (2 * length xs))) e ∙ ap not f;
      blocks_is = ap (λ (b : Bool). not b && ltb (length (blocks xs)) (2 * length xs)) e ∙ f;
      runs_is = e;
    }

numbers_form : (xs : List ℕ) → few xs ≡ false → 2 * length xs ≤ length (blocks xs) → HasForm xs true false false
numbers_form xs e more =
    let f = le-ltb (length (blocks xs)) (2 * length xs) more in
    record {
      numbers_is = ap (λ (b : Bool). not b && not (ltb (length (blocks xs)) (2 * length xs))) e ∙ ap not f;
      blocks_is = ap (λ (b : Bool). not b && ltb (length (blocks xs)) (2 * length xs)) e ∙ f;
      runs_is = e;
    }

-- a body of two bytes for each number is numbers
pub numbers_told : (count : ℕ) (bytes xs : List ℕ) → 0 < count → IsBody count bytes xs → length bytes ≡ 2 * count → HasForm xs true false false
numbers_told count bytes xs some is same =
    let size = is.count_is in
    elim (cases_few xs) [
      | inl fits ↦ (
          let (bounds, short) = runs_short xs (omega arith) fits in
          let there = ap length (sym (body_runs xs fits) ∙ is.encoding) in
          absurd (omega arith))
      | inr other ↦ elim (cases_lt (length (blocks xs)) (2 * length xs)) [
        | inl less ↦ (let there = ap length (sym (body_blocks xs other less) ∙ is.encoding) in absurd (omega arith))
        | inr more ↦ numbers_form xs other more
      ]
    ]

-- another is blocks or runs, as it begins
pub runs_told : (count : ℕ) (bytes xs : List ℕ) → 0 < count → IsBody count bytes xs → (length bytes ≡ 2 * count → ⊥) → begins_runs bytes ≡ true → HasForm xs false false true
runs_told count bytes xs some is ne begun =
    let size = is.count_is in
    elim (cases_few xs) [
      | inl fits ↦ runs_form xs fits
      | inr other ↦ elim (cases_lt (length (blocks xs)) (2 * length xs)) [
        | inl less ↦ (
            let encoding : blocks xs ≡ bytes = sym (body_blocks xs other less) ∙ is.encoding in
            absurd (true≢false (sym begun ∙ ap begins_runs (sym encoding) ∙ blocks_begin (length xs) (blocks xs) (blocks_are_blocks xs is.rising (omega arith)))))
        | inr more ↦ absurd (ne (sym (ap length (sym (body_numbers xs other more) ∙ is.encoding)) ∙ numbers_len xs ∙ ap (λ (n : ℕ). 2 * n) size))
      ]
    ]

pub blocks_told : (count : ℕ) (bytes xs : List ℕ) → IsBody count bytes xs → (length bytes ≡ 2 * count → ⊥) → begins_runs bytes ≡ false → HasForm xs false true false
blocks_told count bytes xs is ne plain =
    let size = is.count_is in
    elim (cases_few xs) [
      | inl fits ↦ absurd (true≢false (sym (runs_begun (boundaries xs)) ∙ ap begins_runs (sym (body_runs xs fits) ∙ is.encoding) ∙ plain))
      | inr other ↦ elim (cases_lt (length (blocks xs)) (2 * length xs)) [
        | inl less ↦ blocks_form xs other less
        | inr more ↦ absurd (ne (sym (ap length (sym (body_numbers xs other more) ∙ is.encoding)) ∙ numbers_len xs ∙ ap (λ (n : ℕ). 2 * n) size))
      ]
    ]

-- the body of a chunk as the code tells it from others
apart : (own count : ℕ) (body bytes : List ℕ) → own ≡ count → body ≡ bytes → (length body ≡ 2 * own → ⊥) → length bytes ≡ 2 * count → ⊥
apart own count body bytes o e ne h = ne (ap length e ∙ h ∙ ap (λ (n : ℕ). 2 * n) (sym o))

pub numbers_at : (ids chunks m own : ℕ) (rest body : List ℕ) → IsOf ids chunks m own rest body → length body ≡ 2 * own → HasForm (chunk_at chunks rest m).1 true false false
numbers_at ids chunks m own rest body of e =
    numbers_told (count_at chunks rest m) (body_at chunks rest m) _ (of.is.entries m of.within).some (of.is.bodies m of.within)
    (sym (ap length of.body_is) ∙ e ∙ ap (λ (n : ℕ). 2 * n) of.count_is)

pub runs_at : (ids chunks m own : ℕ) (rest body : List ℕ) → IsOf ids chunks m own rest body → (length body ≡ 2 * own → ⊥) → begins_runs body ≡ true
    → HasForm (chunk_at chunks rest m).1 false false true
runs_at ids chunks m own rest body of ne begun =
    runs_told (count_at chunks rest m) (body_at chunks rest m) _ (of.is.entries m of.within).some (of.is.bodies m of.within) (apart own _ body _ of.count_is of.body_is ne)
    (ap begins_runs (sym of.body_is) ∙ begun)

pub blocks_at : (ids chunks m own : ℕ) (rest body : List ℕ) → IsOf ids chunks m own rest body → (length body ≡ 2 * own → ⊥) → begins_runs body ≡ false
    → HasForm (chunk_at chunks rest m).1 false true false
blocks_at ids chunks m own rest body of ne plain =
    blocks_told (count_at chunks rest m) (body_at chunks rest m) _ (of.is.bodies m of.within) (apart own _ body _ of.count_is of.body_is ne)
    (ap begins_runs (sym of.body_is) ∙ plain)

-- ---- one body more

tally : (p : List ℕ → Bool) (chunks m : ℕ) (rest : List ℕ) (has : Bool) → p (chunk_at chunks rest m).1 ≡ has
    → length (filter p (first_chunks chunks rest (m + 1))) ≡ length (filter p (first_chunks chunks rest m)) + cond has 1 0
tally p chunks m rest has e =
    let f : ℕ → List ℕ = λ i. (chunk_at chunks rest i).1 in
    ap length (filter_of_map_range_with_len_more p f 0 m m (omega arith))
    ∙ length-append (filter p (first_chunks chunks rest m)) (cond (p (f m)) (f m ∷ []) [])
    ∙ ap (λ (b : Bool). length (filter p (first_chunks chunks rest m)) + length (cond b (f m ∷ []) [])) e
    ∙ ap (λ (n : ℕ). length (filter p (first_chunks chunks rest m)) + n) (one has (f m))
  where
    one : (b : Bool) (x : List ℕ) → length (cond b (x ∷ []) []) ≡ cond b 1 0
    one true x = refl
    one false x = refl

first_len : (chunks m : ℕ) (rest : List ℕ) → length (first_chunks chunks rest m) ≡ m
first_len chunks m rest = length-map-range_with_len (λ i. (chunk_at chunks rest i).1) 0 m

pub more : (before after : Description) (chunks m : ℕ) (rest : List ℕ) (of_numbers of_blocks of_runs : Bool) → HasForm (chunk_at chunks rest m).1 of_numbers of_blocks of_runs
    → Counts before (first_chunks chunks rest m) → after.chunks ≡ before.chunks + 1 → after.numbers ≡ before.numbers + cond of_numbers 1 0
    → after.blocks ≡ before.blocks + cond of_blocks 1 0 → after.runs ≡ before.runs + cond of_runs 1 0 → Counts after (first_chunks chunks rest (m + 1))
more before after chunks m rest of_numbers of_blocks of_runs is so_far all n b r =
    let len = first_len chunks m rest in
    let next = first_len chunks (m + 1) rest in
    let chunks_are = so_far.all in
    record {
      all = omega arith;
      numbers_are = n ∙ ap (λ (k : ℕ). k + cond of_numbers 1 0) so_far.numbers_are ∙ sym (tally has_numbers chunks m rest of_numbers is.numbers_is);
      blocks_are = b ∙ ap (λ (k : ℕ). k + cond of_blocks 1 0) so_far.blocks_are ∙ sym (tally has_blocks chunks m rest of_blocks is.blocks_is);
      runs_are = r ∙ ap (λ (k : ℕ). k + cond of_runs 1 0) so_far.runs_are ∙ sym (tally has_runs chunks m rest of_runs is.runs_is);
    }

-- no count is above how many chunks there are
pub few_of : (p : List ℕ → Bool) (chunks m : ℕ) (rest : List ℕ) → length (filter p (first_chunks chunks rest m)) ≤ m
few_of p chunks m rest = let both = length-filter_both p (λ x. not (p x)) (λ x. refl) (first_chunks chunks rest m) in let len = first_len chunks m rest in omega arith

pub all_of : (chunks m : ℕ) (rest : List ℕ) → length (first_chunks chunks rest m) ≤ m
all_of chunks m rest = let len = first_len chunks m rest in omega arith

-- ---- of a set

abbrev cond_of : List ℕ → Bool → List (List ℕ)
cond_of ids in_chunks = cond in_chunks (map (λ (chunk : ℕ × List ℕ). chunk.1) (parts 65536 ids)) []

pub chunks_described : (set : IdSet) (directory : Directory) → IsChunks set directory → first_chunks directory.chunks directory.rest.now directory.chunks ≡ chunks_of (ids set)
chunks_described set directory is =
    let each = bytes_are directory.rest.now directory.are_bytes in
    let read = ids_parts directory.count directory.chunks directory.rest.now each directory.sound in
    sym (ap (cond_of (ids set)) (eq-eqb (get_or (encoding (ids set)) 0 0) 5 (ap (λ (l : List ℕ). get_or l 0 0) (ids_are_read set.bytes.now set.are_bytes set.states.none).1 ∙ is.chunks))
    ∙ ap (λ (l : List ℕ). map (λ (chunk : ℕ × List ℕ). chunk.1) (parts 65536 l)) (sym is.ids_are)
    ∙ ap (map (λ (chunk : ℕ × List ℕ). chunk.1)) read
    ∙ map_map (λ (chunk : ℕ × List ℕ). chunk.1) (chunk_at directory.chunks directory.rest.now) 0 directory.chunks)

pub none_described : (set : IdSet) → get_or (encoding_of set) 0 0 ≢ 5 → [] ≡ chunks_of (ids set)
none_described set other =
    sym (ap (cond_of (ids set)) (ne_eqb (get_or (encoding (ids set)) 0 0) 5 (λ five. other (sym (ap (λ (l : List ℕ). get_or l 0 0) (ids_are_read set.bytes.now set.are_bytes set.states.none).1) ∙ five))))
