-- Ids are looked up in the id set of their high word.
use Rattle.std.proofs.Common.{◌≡◌, ℕ, ◌+◌, ◌-◌, ◌*◌, ◌/◌, ◌%◌, ◌^◌, ◌<◌, ◌≤◌, true, false, List, [], Some, map, take, drop, get_or, length, refl, sym, ap, ◌∙◌, arith, subst, eqb-true, inl, inr, length-drop, length-take-le}
use Rattle.std.specs.List.{range_with_len, slice_get}
use Rattle.std.proofs.lemmas.Bool.{cases_lt, true≢false}
use Rattle.std.proofs.lemmas.List.{get_or-map}
use Rattle.std.proofs.lemmas.List.FromFn.{get_or-map-range_with_len, take-map-range_with_len}
use Rattle.std.proofs.lemmas.Option.{slice_get-get_or}
use Rattle.bitpack_slices.proofs.ForCallers.{EachByte, counts, has_at_rank, has_not, join_at, keys, keys_rise, none, quads_len, rank_join, rank_join_not, rank_le, total}
use Rattle.bitpack_slices.specs.Bodies.{IsRising}
use Rattle.bitpack_slices.specs.Reads.{has, rank}
use Rattle.bitpack_slices.specs.Slices.{quads_of}
use Rattle.bitpack_sets.proofs.ForCallers.{Grows, before_next, grown_to, has_join, has_join_not, quads_of_little, step_of, steps_total}
use Rattle.bitpack_sets.specs.Reads as set_reads
use Rattle.bitpack_wide.proofs.EntryLaws.{sums_grow}
use Rattle.bitpack_wide.proofs.PartLaws.{part_not, part_own}
use Rattle.bitpack_wide.proofs.WordLaws.{highs_below}
use Rattle.bitpack_wide.proofs.WordReads.{are_words, count_is, counts_in, highs_encoding, ids_count, last_sum, words_in}
use Rattle.bitpack_wide.specs.Directory.{before, body_at, count_at, high_at, sum_at, word_at, word_ids}
use Rattle.bitpack_wide.specs.Opened.{lows_of}
use Rattle.bitpack_wide.specs.Sound.{IsRest}

-- the bytes of the high words
abbrev pub high_bytes : ℕ → List ℕ → List ℕ
high_bytes words rest = take (4 * words) (drop 1 rest)

pub cut_highs : (words : ℕ) (rest : List ℕ) → take (1 + 4 * words - 1) (drop 1 rest) ≡ high_bytes words rest
cut_highs words rest = let e : 1 + 4 * words - 1 ≡ 4 * words = omega arith in ap (λ (n : ℕ). take n (drop 1 rest)) e

pub highs_len : (words : ℕ) (rest : List ℕ) → 1 + 4 * words ≤ length rest → length (quads_of (high_bytes words rest)) ≡ words
highs_len words rest h =
    let a = quads_len (high_bytes words rest) in
    let b = length-take-le (4 * words) (drop 1 rest) (omega (arith, length-drop 1 rest)) in
    omega arith

module _ (ids words : ℕ) (rest : List ℕ) (are : EachByte rest) (is : IsRest ids words rest) where
  abbrev pub highs : List ℕ
  highs = quads_of (high_bytes words rest)

  highs_read : highs ≡ keys (words_in ids words rest are is)
  highs_read =
      sym (ap quads_of (highs_encoding ids words rest are is))
      ∙ quads_of_little (keys (words_in ids words rest are is)) (highs_below 0 (words_in ids words rest are is) (are_words ids words rest are is))

  pub highs_rise : IsRising 0 (2 ^ 32) highs
  highs_rise = subst (IsRising 0 (2 ^ 32)) (sym highs_read) (keys_rise (2 ^ 32) 0 (2 ^ 32) (words_in ids words rest are is) (are_words ids words rest are is))

  pub highs_count : length highs ≡ words
  highs_count = let room = is.directory.room in highs_len words rest (omega arith)

  -- word m of those that are read
  pub word_there : (m : ℕ) → m < words → get_or (words_in ids words rest are is) m none ≡ word_at words rest m
  word_there m lt = get_or-map-range_with_len (word_at words rest) 0 words m m none lt (zero_plus m)
    where
      zero_plus : (n : ℕ) → 0 + n ≡ n
      zero_plus n = omega arith

  -- a high word that occurs
  pub high_within : (x m : ℕ) → m ≡ rank x highs → has x highs ≡ true → m < words
  high_within x m e h = elim (cases_lt m words) [
    | inl less ↦ less
    | inr more ↦ (let size = highs_count in absurd (true≢false (sym h ∙ has_not x m highs e (omega arith))))
  ]

  pub high_is : (x m : ℕ) → m ≡ rank x highs → has x highs ≡ true → high_at rest m ≡ x
  high_is x m e h =
      let lt = high_within x m e h in
      let size = highs_count in
      let there = has_at_rank x 0 (2 ^ 32) m highs highs_rise e (omega arith) in
      let read : get_or highs m 0 ≡ high_at rest m =
      ap (λ (l : List ℕ). get_or l m 0) highs_read ∙ get_or-map (λ part. part.0) (words_in ids words rest are is) m none 0 (omega (arith, count_is ids words rest are is))
      ∙ ap (λ (p : ℕ × List ℕ). p.0) (word_there m lt) in
      sym read ∙ eqb-true (get_or highs m 0) x (sym there ∙ h)

  -- ---- ids

  pub has_not_in : (x : ℕ) → has (x / 2 ^ 32) highs ≡ false → has x (word_ids words rest) ≡ false
  has_not_in x h = has_join_not (2 ^ 32) x 0 (2 ^ 32) (words_in ids words rest are is) (are_words ids words rest are is) (sym (ap (has (x / 2 ^ 32)) highs_read) ∙ h)

  pub has_in : (x m : ℕ) → m ≡ rank (x / 2 ^ 32) highs → has (x / 2 ^ 32) highs ≡ true → has x (word_ids words rest) ≡ has (x % 2 ^ 32) (set_reads.ids_in (body_at words rest m))
  has_in x m e h =
      has_join (2 ^ 32) x 0 (2 ^ 32) m (words_in ids words rest are is) (are_words ids words rest are is) (e ∙ ap (rank (x / 2 ^ 32)) highs_read) (sym (ap (has (x / 2 ^ 32)) highs_read) ∙ h)
      ∙ ap (λ (p : ℕ × List ℕ). has (x % 2 ^ 32) p.1) (word_there m (high_within (x / 2 ^ 32) m e h))

  -- how many ids the high words before one have
  pub counted_before : (m : ℕ) → m ≤ words → total (take m (counts (words_in ids words rest are is))) ≡ before (sum_at words rest) m
  counted_before m most =
      let up : Grows (sum_at words rest) 0 m = λ i low high. sums_grow ids words rest is.entries i low (omega arith) in
      let all = steps_total (sum_at words rest) 0 m up in
      let e : 0 + m ≡ m = omega arith in
      ap (λ (l : List ℕ). total (take m l)) (counts_in ids words rest are is) ∙ ap total (take-map-range_with_len (step_of (sum_at words rest)) 0 words m most)
      ∙ plus (total (map (step_of (sum_at words rest)) (range_with_len 0 m))) ∙ all ∙ ap (before (sum_at words rest)) e
    where
      plus : (n : ℕ) → n ≡ 0 + n
      plus n = omega arith

  pub rank_not_in : (x m : ℕ) → m ≤ words → m ≡ rank (x / 2 ^ 32) highs → has (x / 2 ^ 32) highs ≡ false → rank x (word_ids words rest) ≡ before (sum_at words rest) m
  rank_not_in x m most e h =
      rank_join_not (2 ^ 32) x 0 (2 ^ 32) m (words_in ids words rest are is) (omega arith) (are_words ids words rest are is) (e ∙ ap (rank (x / 2 ^ 32)) highs_read) (sym (ap (has (x / 2 ^ 32)) highs_read) ∙ h)
      ∙ counted_before m most

  pub rank_in : (x m : ℕ) → m ≡ rank (x / 2 ^ 32) highs → has (x / 2 ^ 32) highs ≡ true
      → rank x (word_ids words rest) ≡ before (sum_at words rest) m + rank (x % 2 ^ 32) (set_reads.ids_in (body_at words rest m))
  rank_in x m e h =
      let lt = high_within (x / 2 ^ 32) m e h in
      rank_join (2 ^ 32) x 0 (2 ^ 32) m (words_in ids words rest are is) (omega arith) (are_words ids words rest are is) (e ∙ ap (rank (x / 2 ^ 32)) highs_read) (sym (ap (has (x / 2 ^ 32)) highs_read) ∙ h)
      ∙ ap (λ (n : ℕ). n + rank (x % 2 ^ 32) (get_or (words_in ids words rest are is) m none).1) (counted_before m (omega arith))
      ∙ ap (λ (p : ℕ × List ℕ). before (sum_at words rest) m + rank (x % 2 ^ 32) p.1) (word_there m lt)

  pub ranked_in : (x m below left : ℕ) → m ≡ rank (x / 2 ^ 32) highs → has (x / 2 ^ 32) highs ≡ true → below ≡ before (sum_at words rest) m
      → left ≡ rank (x % 2 ^ 32) (set_reads.ids_in (body_at words rest m)) → below + left ≡ rank x (word_ids words rest)
  ranked_in x m below left e h b l = let there = rank_in x m e h in omega arith

  -- ---- positions

  pub count_within : (m : ℕ) → m < words → before (sum_at words rest) m + count_at words rest m ≤ ids
  count_within m lt =
      let some = (is.entries m lt).some in
      let top = grown_to (sum_at words rest) m words (sums_grow ids words rest is.entries) lt in
      let all = last_sum ids words rest are is words refl in
      omega arith

  pub count_next : (m : ℕ) → m < words → before (sum_at words rest) m + count_at words rest m ≡ before (sum_at words rest) (m + 1)
  count_next m lt =
      let some = (is.entries m lt).some in
      let f = before_next (sum_at words rest) m in
      omega arith

  pub rank_small : (x m left : ℕ) → m < words → left ≡ rank x (set_reads.ids_in (body_at words rest m)) → left ≤ count_at words rest m
  rank_small x m left lt l =
      let few = rank_le x (set_reads.ids_in (body_at words rest m)) in
      let size = (is.bodies m lt).count in
      omega arith

  -- the id at a position of a high word
  pub word_select : (m position left : ℕ) → m < words → left < count_at words rest m → before (sum_at words rest) m + left ≡ position
      → get_or (word_ids words rest) position 0 ≡ high_at rest m * 2 ^ 32 + get_or (set_reads.ids_in (body_at words rest m)) left 0
  word_select m position left lt few e =
      let ps : List (ℕ × List ℕ) = words_in ids words rest are is in
      let here : get_or ps m none ≡ word_at words rest m = word_there m lt in
      let size = (is.bodies m lt).count in
      let long : length (get_or ps m none).1 ≡ count_at words rest m = ap (λ (p : ℕ × List ℕ). length p.1) here ∙ size in
      let all = count_is ids words rest are is in
      ap (λ (n : ℕ). get_or (word_ids words rest) n 0) (sym e ∙ ap (λ (n : ℕ). n + left) (sym (counted_before m (omega arith))))
      ∙ join_at (2 ^ 32) m left ps (omega arith) (omega arith) ∙ ap (λ (p : ℕ × List ℕ). p.0 * 2 ^ 32 + get_or p.1 left 0) here

  pub word_found : (n m position left : ℕ) → m < words → left < count_at words rest m → before (sum_at words rest) m + left ≡ position
      → n ≡ high_at rest m * 2 ^ 32 + get_or (set_reads.ids_in (body_at words rest m)) left 0 → slice_get (word_ids words rest) position ≡ Some n
  word_found n m position left lt few e value =
      let within = count_within m lt in
      let all = ids_count ids words rest are is in
      slice_get-get_or (word_ids words rest) position 0 (omega arith) ∙ ap (λ (k : ℕ). Some k) (word_select m position left lt few e ∙ sym value)

  -- all ids are below one that is after the last high word
  pub all_before : (m : ℕ) → m ≡ words → before (sum_at words rest) m ≡ length (word_ids words rest)
  all_before m e = last_sum ids words rest are is m e ∙ sym (ids_count ids words rest are is)

  -- ---- the ids with a high word

  pub part_none : (x : ℕ) → has x highs ≡ false → lows_of x (word_ids words rest) ≡ []
  part_none x h = part_not x 0 (words_in ids words rest are is) (are_words ids words rest are is) (sym (ap (has x) highs_read) ∙ h)

  pub part_there : (x m : ℕ) → m ≡ rank x highs → has x highs ≡ true → lows_of x (word_ids words rest) ≡ set_reads.ids_in (body_at words rest m)
  part_there x m e h =
      part_own x 0 m (words_in ids words rest are is) (are_words ids words rest are is) (e ∙ ap (rank x) highs_read) (sym (ap (has x) highs_read) ∙ h)
      ∙ ap (λ (p : ℕ × List ℕ). p.1) (word_there m (high_within x m e h))
