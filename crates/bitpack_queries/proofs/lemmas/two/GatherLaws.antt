-- The chunks of an answer, one after the other.
use Rattle.std.proofs.Common.{MatchOption, None, Option, ◌≡◌, ℕ, ◌+◌, ◌*◌, ◌-◌, ◌^◌, ◌<◌, ◌≤◌, Bool, false, List, [], ◌∷◌, ◌++◌, map, length, take, refl, sym, ap, ◌∙◌, arith, inl, inr, subst, append-nil, append_assoc}
use Rattle.std.specs.List.{concat, filter, range_with_len}
use Rattle.std.proofs.Math.ListN.{set}
use Rattle.std.proofs.lemmas.Bool.{cases_lt}
use Rattle.std.proofs.lemmas.List.{nil_from_length, take_more_set}
use Rattle.bitpack_slices.proofs.ForCallers.{IsLeft, join, join_parts, left_as, left_first, left_more, left_none, none_pass, parts_are, parts_join, those_raised, those_rise, those_split}
use Rattle.bitpack_slices.specs.Bodies.{IsRising, parts}
use Rattle.bitpack_slices.specs.Follows.{Follow}
use Rattle.bitpack_slices.specs.Operations.{answer, apply, those}
use Rattle.bitpack_slices.specs.Reads.{has}
use Rattle.bitpack_slices.specs.declared.operation.Operation.{Operation}
use Rattle.bitpack_slices.specs.declared.set_error.SetError.{SetError}
use Rattle.bitpack_sets.proofs.ForCallers.{set_not_refused}
use Rattle.bitpack_sets.specs.Sets.{IsSet, body}
use Rattle.bitpack_sets.specs.Written.{bodies, refusal}
use Rattle.bitpack_queries.specs.Gathered.{IsGathered}
use Rattle.bitpack_queries.specs.Pairs.{IsPart}
use Rattle.bitpack_queries.proofs.lemmas.two.AnswerLaws.{part_first, part_len}

raised_rise : (k low high : ℕ) (xs : List ℕ) → IsRising low high xs → IsRising (k + low) (k + high) (map (λ i. k + i) xs)
raised_rise k low high [] r = omega arith
raised_rise k low high (x ∷ xs) (a, r) =
    let next : k + (x + 1) ≡ (k + x) + 1 = omega arith in
    (omega arith, subst (λ (n : ℕ). IsRising n (k + high) (map (λ i. k + i) xs)) next (raised_rise k (x + 1) high xs r))

-- the numbers that pass a test begin where none before passes
those_from : (low size : ℕ) (P : ℕ → Bool) → ((x : ℕ) → x < low → P x ≡ false) → IsRising low (low + size) (those (low + size) P)
unfolding those
those_from low size P none =
    let later : ℕ → Bool = λ i. P (low + i) in
    let start : low ≡ low + 0 = omega arith in
    let moved : 0 + low ≡ low + 0 = omega arith in
    let front : filter P (range_with_len 0 low) ≡ [] = none_pass low P none in
    let all : those (low + size) P ≡ map (λ i. low + i) (those size later) =
    those_split P 0 low size ∙ ap (λ (l : List ℕ). l ++ filter P (range_with_len (0 + low) size)) front
    ∙ ap (λ (n : ℕ). filter P (range_with_len n size)) moved ∙ those_raised P low 0 size in
    subst (IsRising low (low + size)) (sym all)
    (subst (λ (n : ℕ). IsRising n (low + size) (map (λ i. low + i) (those size later))) (sym start) (raised_rise low 0 size (those size later) (those_rise later size)))

-- a chunk of the answer, and those after it
chunk_first : (key : ℕ) (own after : List ℕ) → key < 65536 → 0 < length own → IsRising 0 65536 own → IsRising ((key + 1) * 65536) (2 ^ 32) after
    → parts 65536 (map (λ low. key * 65536 + low) own ++ after) ≡ (key, own) ∷ parts 65536 after
chunk_first key own after small some rise later =
    let ps : List (ℕ × List ℕ) = (key, own) ∷ parts 65536 after in
    let same : join 65536 ps ≡ map (λ low. key * 65536 + low) own ++ after = ap (λ (l : List ℕ). map (λ low. key * 65536 + low) own ++ l) (join_parts 65536 after) in
    ap (parts 65536) (sym same)
    ∙ parts_join 65536 0 65536 ps (omega arith, some, rise, parts_are 65536 (key + 1) 65536 ((key + 1) * 65536) after (omega arith) (omega arith) later)

later_rise : (low bound : ℕ) (P : ℕ → Bool) → low ≤ bound → ((x : ℕ) → x < low → P x ≡ false) → IsRising low bound (those bound P)
later_rise low bound P within none =
    let cut : low + (bound - low) ≡ bound = omega arith in
    subst (λ (n : ℕ). IsRising low n (those n P)) cut (those_from low (bound - low) P none)

-- the chunks that are left: the first has ids of the key
pub next_chunk : (key : ℕ) (test before after : ℕ → Bool) → IsPart key test before after → 0 < length (those 65536 test)
    → parts (2 ^ 16) (those (2 ^ 32) before) ≡ (key, those 65536 test) ∷ parts (2 ^ 16) (those (2 ^ 32) after)
next_chunk key test before after part some =
    let small = part.small in
    ap (parts 65536) (part_first key test before after part)
    ∙ chunk_first key (those 65536 test) (those (2 ^ 32) after) small some (those_rise test 65536)
    (later_rise ((key + 1) * 65536) (2 ^ 32) after (omega arith) (λ x h. part.passed x (omega arith)))

-- the chunks that are left, if there is no id of the key
pub no_chunk : (key : ℕ) (test before after : ℕ → Bool) → IsPart key test before after → length (those 65536 test) ≡ 0
    → those (2 ^ 32) before ≡ those (2 ^ 32) after
no_chunk key test before after part none =
    part_first key test before after part
    ∙ ap (λ (l : List ℕ). map (λ i. key * 65536 + i) l ++ those (2 ^ 32) after) (nil_from_length (those 65536 test) none)

-- ---- what is told of each chunk

-- what is told of the chunks so far, and of those that are left
abbrev TellsOf : (f : ℕ × List ℕ → ℕ) → ℕ → List ℕ → List (ℕ × List ℕ) → List (ℕ × List ℕ) → Type 0
TellsOf f index told all left = take index told ++ map f left ≡ map f all

told_more : (f : ℕ × List ℕ → ℕ) (index : ℕ) (told : List ℕ) (x : ℕ) (all left later : List (ℕ × List ℕ)) (chunk : ℕ × List ℕ) → index < length told → x ≡ f chunk
    → left ≡ chunk ∷ later → TellsOf f index told all left → TellsOf f (index + 1) (set told index x) all later
told_more f index told x all left later chunk room is e so =
    ap (λ (l : List ℕ). l ++ map f later) (take_more_set told index x room) ∙ append_assoc (take index told) (x ∷ []) (map f later)
    ∙ ap (λ (n : ℕ). take index told ++ n ∷ map f later) is ∙ ap (λ (ps : List (ℕ × List ℕ)). take index told ++ map f ps) (sym e) ∙ so

told_done : (f : ℕ × List ℕ → ℕ) (index : ℕ) (told : List ℕ) (all : List (ℕ × List ℕ)) → TellsOf f index told all [] → take index told ≡ map f all
told_done f index told all so = sym (append-nil (take index told)) ∙ so

-- ---- all of this

abbrev key : ℕ × List ℕ → ℕ
key chunk = chunk.0

abbrev count_of : ℕ × List ℕ → ℕ
count_of chunk = length chunk.1

abbrev size_of : ℕ × List ℕ → ℕ
size_of chunk = length (body chunk.1)

abbrev bodies_of : List (ℕ × List ℕ) → List ℕ
bodies_of ps = concat (map (λ chunk. body chunk.1) ps)

-- what is gathered of an answer so far, and what is left of it
pub record Gathering (all left old out keys counts sizes : List ℕ) (count chunks size : ℕ) : Type 0 where
  pub counted : length all ≡ count + length left
  pub parted : length (parts (2 ^ 16) all) ≡ chunks + length (parts (2 ^ 16) left)
  pub keys_told : TellsOf key chunks keys (parts (2 ^ 16) all) (parts (2 ^ 16) left)
  pub counts_told : TellsOf count_of chunks counts (parts (2 ^ 16) all) (parts (2 ^ 16) left)
  pub sizes_told : TellsOf size_of chunks sizes (parts (2 ^ 16) all) (parts (2 ^ 16) left)
  pub written : IsLeft (bodies_of (parts (2 ^ 16) all)) old out 0 size (bodies_of (parts (2 ^ 16) left))

pub gather_start : (all old keys counts sizes : List ℕ) → Gathering all all old old keys counts sizes 0 0 0
gather_start all old keys counts sizes = record {
  counted = omega arith;
  parted = omega arith;
  keys_told = refl;
  counts_told = refl;
  sizes_told = refl;
  written = left_first (bodies_of (parts (2 ^ 16) all)) old 0;
}

-- nothing is told of a key that has no id
pub gather_none : (number : ℕ) (test before after : ℕ → Bool) (all old mid out keys counts sizes : List ℕ) (count chunks size : ℕ) → IsPart number test before after
    → length (those 65536 test) ≡ 0 → Follow [] mid out size size → length out ≡ length mid → Gathering all (those (2 ^ 32) before) old mid keys counts sizes count chunks size
    → Gathering all (those (2 ^ 32) after) old out keys counts sizes count chunks size
gather_none number test before after all old mid out keys counts sizes count chunks size part none follows same so =
    let at : Gathering all (those (2 ^ 32) after) old mid keys counts sizes count chunks size =
    subst (λ (left : List ℕ). Gathering all left old mid keys counts sizes count chunks size) (no_chunk number test before after part none) so in
    record {
      counted = at.counted;
      parted = at.parted;
      keys_told = at.keys_told;
      counts_told = at.counts_told;
      sizes_told = at.sizes_told;
      written = left_more (bodies_of (parts (2 ^ 16) all)) old mid out 0 size size [] (bodies_of (parts (2 ^ 16) (those (2 ^ 32) after))) same at.written follows;
    }

pub gather_more : (number : ℕ) (test before after : ℕ → Bool) (all old mid out keys counts sizes : List ℕ) (count chunks size own len : ℕ) → IsPart number test before after
    → own ≡ length (those 65536 test) → 0 < own → Follow (body (those 65536 test)) mid out size (size + len) → length out ≡ length mid
    → chunks < length keys → chunks < length counts → chunks < length sizes
    → Gathering all (those (2 ^ 32) before) old mid keys counts sizes count chunks size
    → Gathering all (those (2 ^ 32) after) old out (set keys chunks number) (set counts chunks own) (set sizes chunks len) (count + own) (chunks + 1) (size + len)
gather_more number test before after all old mid out keys counts sizes count chunks size own len part is some follows same a b c so =
    let numbers : List ℕ = those 65536 test in
    let next : parts (2 ^ 16) (those (2 ^ 32) before) ≡ (number, numbers) ∷ parts (2 ^ 16) (those (2 ^ 32) after) =
    next_chunk number test before after part (subst (λ (n : ℕ). 0 < n) is some) in
    let more : length (parts (2 ^ 16) (those (2 ^ 32) before)) ≡ length ((number, numbers) ∷ parts (2 ^ 16) (those (2 ^ 32) after)) = ap length next in
    let first = part_len number test before after part in
    let counted = so.counted in
    let parted = so.parted in
    let end = follows.end_is in
    record {
      counted = omega arith;
      parted = omega arith;
      keys_told = told_more key chunks keys number _ _ _ (number, numbers) a refl next so.keys_told;
      counts_told = told_more count_of chunks counts own _ _ _ (number, numbers) b is next so.counts_told;
      sizes_told = told_more size_of chunks sizes len _ _ _ (number, numbers) c (omega arith) next so.sizes_told;
      written = left_more (bodies_of (parts (2 ^ 16) all)) old mid out 0 size (size + len) (body numbers) (bodies_of (parts (2 ^ 16) (those (2 ^ 32) after))) same
          (left_as (bodies_of (parts (2 ^ 16) all)) old mid 0 size _ _ (ap bodies_of next) so.written) follows;
    }

-- no more ids are gathered than there are
pub gather_few : (number : ℕ) (test before after : ℕ → Bool) (all old mid keys counts sizes : List ℕ) (count chunks size : ℕ) → IsPart number test before after
    → Gathering all (those (2 ^ 32) before) old mid keys counts sizes count chunks size → count + length (those 65536 test) ≤ length all
gather_few number test before after all old mid keys counts sizes count chunks size part so =
    let cut = part_len number test before after part in
    let counted = so.counted in
    omega arith

-- a key more, if it has ids
module _ (number : ℕ) (test before after : ℕ → Bool) (all old mid out keys counts sizes keys' counts' sizes' : List ℕ) (count chunks size count' chunks' size' own len : ℕ)
    (part : IsPart number test before after) where
  pub gather_key : own ≡ length (those 65536 test) → len ≤ 2 * own → (0 < own → Follow (body (those 65536 test)) mid out size (size + len))
      → (own ≡ 0 → Follow [] mid out size size) → length out ≡ length mid
      → (0 < own → (chunks < length keys) × ((chunks < length counts) × (chunks < length sizes))) → count' ≡ count + own → size' ≡ size + len
      → (own ≡ 0 → (chunks' ≡ chunks) × ((keys' ≡ keys) × ((counts' ≡ counts) × (sizes' ≡ sizes)))) → (0 < own → chunks' ≡ chunks + 1)
      → (0 < own → keys' ≡ set keys chunks number) → (0 < own → counts' ≡ set counts chunks own) → (0 < own → sizes' ≡ set sizes chunks len)
      → Gathering all (those (2 ^ 32) before) old mid keys counts sizes count chunks size
      → Gathering all (those (2 ^ 32) after) old out keys' counts' sizes' count' chunks' size'
  gather_key is few follow nothing same room counted sized none more x y z so = elim (cases_lt 0 own) [
    | inl some ↦ (
        let (a, (b, d)) = room some in
        rw (counted, sized, more some, x some, y some, z some)
        (gather_more number test before after all old mid out keys counts sizes count chunks size own len part is some (follow some) same a b d so))
    | inr less ↦ (
        let zeroth : own ≡ 0 = omega arith in
        let (a, (b, (d, e))) = none zeroth in
        let count_same : count' ≡ count = omega arith in
        let size_same : size' ≡ size = omega arith in
        rw (count_same, size_same, a, b, d, e)
        (gather_none number test before after all old mid out keys counts sizes count chunks size part (omega arith) (nothing zeroth) same so))
  ]

-- all is gathered
pub gather_done : (all : List ℕ) (more : ℕ → Bool) (old out keys counts sizes : List ℕ) (count chunks size : ℕ) → ((x : ℕ) → x < 2 ^ 32 → more x ≡ false)
    → Gathering all (those (2 ^ 32) more) old out keys counts sizes count chunks size → IsGathered all keys counts sizes out count chunks size
unfolding parts
gather_done all more old out keys counts sizes count chunks size none so =
    let nothing : those (2 ^ 32) more ≡ [] = none_pass (2 ^ 32) more none in
    let at_end : Gathering all [] old out keys counts sizes count chunks size = subst (λ (left : List ℕ). Gathering all left old out keys counts sizes count chunks size) nothing so in
    let counted : length all ≡ count + 0 = at_end.counted in
    let parted : length (parts (2 ^ 16) all) ≡ chunks + 0 = at_end.parted in
    let follows : Follow (concat (bodies all)) old out 0 size = left_none (bodies_of (parts (2 ^ 16) all)) old out 0 size [] refl at_end.written in
    let end = follows.end_is in
    record {
      count_is = omega arith;
      chunks_are = omega arith;
      keys_are = told_done key chunks keys (parts (2 ^ 16) all) at_end.keys_told;
      counts_are = told_done count_of chunks counts (parts (2 ^ 16) all) at_end.counts_told;
      sizes_are = told_done size_of chunks sizes (parts (2 ^ 16) all) at_end.sizes_told;
      size_is = omega arith;
      bodies_are = follows.written;
    }

-- what is written is so long
pub follow_long : (xs ys old new : List ℕ) (at size : ℕ) → xs ≡ ys → length xs ≡ size → Follow xs old new at (at + length xs) → Follow ys old new at (at + size)
follow_long xs ys old new at size same long so =
    subst (λ (n : ℕ). Follow ys old new at (at + n)) long (subst (λ (l : List ℕ). Follow l old new at (at + length xs)) same so)

pub follow_nothing : (xs old new : List ℕ) (at : ℕ) → length xs ≡ 0 → Follow xs old new at (at + length xs) → Follow [] old new at at
follow_nothing xs old new at none so =
    let end : at + 0 ≡ at = omega arith in
    subst (λ (n : ℕ). Follow [] old new at n) end (follow_long xs [] old new at 0 (nil_from_length xs none) none so)

-- ---- an answer is a set

pub answer_set : (operation : Operation) (xs ys : List ℕ) → length (answer operation xs ys) ≤ 2 ^ 28 → IsSet (answer operation xs ys)
answer_set operation xs ys few = record { few = few; rising = those_rise (λ x. apply operation (has x xs) (has x ys)) (2 ^ 32) }

pub not_refused : (ids : List ℕ) → IsSet ids → refusal ids ≡ None
not_refused ids set = set_not_refused ids set.few set.rising

pub accepted_back : (ids : List ℕ) (P : Type 0) (Q : SetError → Type 0) → refusal ids ≡ None → MatchOption (refusal ids) P Q → P
accepted_back ids P Q none fact = subst (λ (fault : Option SetError). MatchOption fault P Q) none fact
