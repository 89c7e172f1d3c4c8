-- Slices that are written one after the other.
use Rattle.std.proofs.Common.{◌≡◌, ℕ, ◌+◌, ◌-◌, ◌/◌, ◌%◌, ◌<◌, ◌≤◌, List, [], ◌∷◌, ◌++◌, map, length, get_or, set, take, drop, sym, ap, ◌∙◌, arith, subst, append_assoc, length-append, length-drop}
use borrow.Rule.Slice.PartMut.{put_mid}
use Rattle.std.proofs.Math.Seq.{take-add}
use Rattle.std.proofs.lemmas.List.{drop-drop, length-map, length-take-le, map-append}
use Rattle.bitpack_groups.proofs.ForCallers.{IsFilled, fill_done, fill_left, fill_one, fill_part, fill_start}
use Rattle.bitpack_sets.proofs.lemmas.written.EndsFilled.{EndsLeft, IsNext, left_next, left_none, left_start}
use Rattle.bitpack_sets.proofs.lemmas.written.RunLaws.{get_drop, slice_bytes, slice_part}
use Rattle.bitpack_slices.proofs.ForCallers.{slice_few}
use Rattle.bitpack_slices.specs.Bodies.{parts, slice}
use Rattle.bitpack_slices.specs.Slices.{slice_len}
use Rattle.bitpack_sets.specs.Written.{IsChunk, counts, highs, lows, slice_ends, slices}

-- the parts of what is left begin with that of the next slice
parts_from : (ids ends : List ℕ) (index begin : ℕ) → EndsLeft ids ends index begin → index < length ends → parts 256 (lows (drop begin ids))
    ≡ (get_or ids begin 0 / 256 % 256, map (λ id. id % 256) (take (get_or ends index 0 - begin) (drop begin ids))) ∷ parts 256 (lows (drop (get_or ends index 0) ids))
parts_from ids ends index begin before lt =
    let is = left_next ids ends index begin before lt in
    let n : ℕ = get_or ends index 0 - begin in
    let xs : List ℕ = drop begin ids in
    let up = is.above in
    let first : get_or xs 0 0 ≡ get_or ids begin 0 = (let e : begin + 0 ≡ begin = omega arith in get_drop begin 0 ids ∙ ap (λ k. get_or ids k 0) e) in
    let position : begin + n ≡ get_or ends index 0 = omega arith in
    slice_part n xs before.chunk is.run
    ∙ ap (λ x. (x / 256 % 256, map (λ id. id % 256) (take n xs)) ∷ parts 256 (lows (drop n xs))) first
    ∙ ap (λ (l : List ℕ). (get_or ids begin 0 / 256 % 256, map (λ id. id % 256) (take n xs)) ∷ parts 256 (lows l)) (drop-drop n begin ids ∙ ap (λ k. drop k ids) position)

-- ---- high bytes and counts

-- those of the slices from `begin` on are still to be written
pub record CountsLeft (ids ends firsts less : List ℕ) (index begin : ℕ) : Type 0 where
  pub ends_left : EndsLeft ids ends index begin
  pub firsts_filled : IsFilled firsts index (highs (parts 256 (lows (drop begin ids)))) (highs (parts 256 (lows ids)))
  pub less_filled : IsFilled less index (counts (parts 256 (lows (drop begin ids)))) (counts (parts 256 (lows ids)))

pub counts_start : (ids ends firsts less : List ℕ) → IsChunk ids → ends ≡ slice_ends ids → length firsts ≡ length (parts 256 (lows ids)) → length less ≡ length (parts 256 (lows ids))
    → CountsLeft ids ends firsts less 0 0
counts_start ids ends firsts less chunk are a b =
    let ps : List (ℕ × List ℕ) = parts 256 (lows ids) in
    record {
      ends_left = left_start ids ends chunk are;
      firsts_filled = fill_start firsts (highs ps) (a ∙ sym (length-map ps (λ part. part.0)));
      less_filled = fill_start less (counts ps) (b ∙ sym (length-map ps (λ part. length part.1 - 1)));
    }

module _ (ids ends firsts less : List ℕ) (index begin : ℕ) (before : CountsLeft ids ends firsts less index begin) (lt : index < length ends) where
  next_high : IsFilled firsts index ((get_or ids begin 0 / 256 % 256) ∷ highs (parts 256 (lows (drop (get_or ends index 0) ids)))) (highs (parts 256 (lows ids)))
  next_high = subst (λ (ps : List (ℕ × List ℕ)). IsFilled firsts index (highs ps) (highs (parts 256 (lows ids)))) (parts_from ids ends index begin before.ends_left lt) before.firsts_filled

  next_less : IsFilled less index ((length (map (λ id. id % 256) (take (get_or ends index 0 - begin) (drop begin ids))) - 1) ∷ counts (parts 256 (lows (drop (get_or ends index 0) ids)))) (counts (parts 256 (lows ids)))
  next_less = subst (λ (ps : List (ℕ × List ℕ)). IsFilled less index (counts ps) (counts (parts 256 (lows ids)))) (parts_from ids ends index begin before.ends_left lt) before.less_filled

  pub counts_room : (index < length firsts) × (index < length less) × (begin < length ids)
  counts_room =
      let a = fill_left firsts index _ _ next_high in
      let b = fill_left less index _ _ next_less in
      let is = left_next ids ends index begin before.ends_left lt in
      let up = is.above in
      let within = is.rest.within in
      (omega arith, omega arith, omega arith)

  pub counts_more : CountsLeft ids ends (set firsts index (get_or ids begin 0 / 256 % 256)) (set less index (get_or ends index 0 - begin - 1)) (index + 1) (get_or ends index 0)
  counts_more =
      let is = left_next ids ends index begin before.ends_left lt in
      let n : ℕ = get_or ends index 0 - begin in
      let long : length (map (λ id. id % 256) (take n (drop begin ids))) ≡ n = length-map (take n (drop begin ids)) (λ id. id % 256) ∙ length-take-le n (drop begin ids) is.run.within in
      record {
        ends_left = is.rest;
        firsts_filled = fill_one firsts index _ _ _ next_high;
        less_filled = subst (λ m. IsFilled (set less index (m - 1)) (index + 1) (counts (parts 256 (lows (drop (get_or ends index 0) ids)))) (counts (parts 256 (lows ids)))) long (fill_one less index _ _ _ next_less);
      }

pub counts_end : (ids ends firsts less : List ℕ) (index begin : ℕ) → CountsLeft ids ends firsts less index begin → length ends ≤ index
    → (firsts ≡ highs (parts 256 (lows ids))) × (less ≡ counts (parts 256 (lows ids)))
counts_end ids ends firsts less index begin before done =
    let (e, f) = left_none ids ends index begin before.ends_left done in
    let all : List (ℕ × List ℕ) = parts 256 (lows ids) in (
      fill_done firsts index (highs all) (subst (λ (ps : List (ℕ × List ℕ)). IsFilled firsts index (highs ps) (highs all)) e before.firsts_filled),
      fill_done less index (counts all) (subst (λ (ps : List (ℕ × List ℕ)). IsFilled less index (counts ps) (counts all)) e before.less_filled),
    )

-- ---- slices

-- the lowest bytes from `from` on, and the slices from `begin` on, are still to be written
pub record SlicesLeft (ids ends out : List ℕ) (index from begin written : ℕ) : Type 0 where
  pub ends_left : EndsLeft ids ends index begin
  pub before : from ≤ begin
  pub filled : IsFilled out written (map (λ id. id % 256) (take (begin - from) (drop from ids)) ++ slices (parts 256 (lows (drop begin ids)))) (slices (parts 256 (lows ids)))

pub slices_start : (ids ends out : List ℕ) → IsChunk ids → ends ≡ slice_ends ids → length out ≡ length (slices (parts 256 (lows ids))) → SlicesLeft ids ends out 0 0 0 0
slices_start ids ends out chunk are size = record {
  ends_left = left_start ids ends chunk are;
  before = omega arith;
  filled = fill_start out (slices (parts 256 (lows ids))) size;
}

module _ (ids ends out : List ℕ) (index from begin written : ℕ) (before : SlicesLeft ids ends out index from begin written) (lt : index < length ends) where
  pub next_is : IsNext ids ends index begin
  next_is = left_next ids ends index begin before.ends_left lt

  rest_next : slices (parts 256 (lows (drop begin ids))) ≡ slice (map (λ id. id % 256) (take (get_or ends index 0 - begin) (drop begin ids))) ++ slices (parts 256 (lows (drop (get_or ends index 0) ids)))
  rest_next = ap slices (parts_from ids ends index begin before.ends_left lt)

  next_filled : IsFilled out written (map (λ id. id % 256) (take (begin - from) (drop from ids))
      ++ (slice (map (λ id. id % 256) (take (get_or ends index 0 - begin) (drop begin ids))) ++ slices (parts 256 (lows (drop (get_or ends index 0) ids))))) (slices (parts 256 (lows ids)))
  next_filled = subst (λ (l : List ℕ). IsFilled out written (map (λ id. id % 256) (take (begin - from) (drop from ids)) ++ l) (slices (parts 256 (lows ids)))) rest_next before.filled

  -- bytes are kept for later
  pub slices_short : get_or ends index 0 - begin < 32 → SlicesLeft ids ends out (index + 1) from (get_or ends index 0) written
  slices_short few =
      let up = next_is.above in
      let n : ℕ = get_or ends index 0 - begin in
      let le = before.before in
      let xs : List ℕ = drop from ids in
      let cut : get_or ends index 0 - from ≡ (begin - from) + n = omega arith in
      let there : from + (begin - from) ≡ begin = omega arith in
      let bytes : List ℕ = map (λ id. id % 256) (take n (drop begin ids)) in
      let long : length bytes ≡ n = length-map (take n (drop begin ids)) (λ id. id % 256) ∙ length-take-le n (drop begin ids) next_is.run.within in
      let joined : map (λ id. id % 256) (take (get_or ends index 0 - from) xs) ≡ map (λ id. id % 256) (take (begin - from) xs) ++ bytes =
      ap (λ k. map (λ id. id % 256) (take k xs)) cut ∙ ap (map (λ id. id % 256)) (take-add (begin - from) n xs) ∙ map-append (λ id. id % 256) (take (begin - from) xs) (take n (drop (begin - from) xs))
      ∙ ap (λ (l : List ℕ). map (λ id. id % 256) (take (begin - from) xs) ++ map (λ id. id % 256) (take n l)) (drop-drop (begin - from) from ids ∙ ap (λ k. drop k ids) there) in
      let rest : List ℕ = slices (parts 256 (lows (drop (get_or ends index 0) ids))) in
      let same : map (λ id. id % 256) (take (begin - from) xs) ++ (slice bytes ++ rest) ≡ map (λ id. id % 256) (take (get_or ends index 0 - from) xs) ++ rest =
      ap (λ (l : List ℕ). map (λ id. id % 256) (take (begin - from) xs) ++ (l ++ rest)) (slice_few bytes (omega arith)) ∙ sym (append_assoc (map (λ id. id % 256) (take (begin - from) xs)) bytes rest)
      ∙ ap (λ (l : List ℕ). l ++ rest) (sym joined) in
      record {
        ends_left = next_is.rest;
        before = omega arith;
        filled = subst (λ (l : List ℕ). IsFilled out written l (slices (parts 256 (lows ids)))) same next_filled;
      }

  retained_room : (written + (begin - from) + slice_len (get_or ends index 0 - begin) ≤ length out) × (begin ≤ length ids) × (length (map (λ id. id % 256) (take (begin - from) (drop from ids))) ≡ begin - from)
  retained_room =
      let xs : List ℕ = drop from ids in
      let up = next_is.above in
      let top = next_is.rest.within in
      let le = before.before in
      let size = length-drop from ids in
      let bytes : List ℕ = map (λ id. id % 256) (take (begin - from) xs) in
      let long : length bytes ≡ begin - from = length-map (take (begin - from) xs) (λ id. id % 256) ∙ length-take-le (begin - from) xs (omega arith) in
      let own : List ℕ = slice (map (λ id. id % 256) (take (get_or ends index 0 - begin) (drop begin ids))) in
      let part : length own ≡ slice_len (get_or ends index 0 - begin) = slice_bytes (get_or ends index 0 - begin) (drop begin ids) next_is.run in
      let rest : List ℕ = slices (parts 256 (lows (drop (get_or ends index 0) ids))) in
      let e = fill_left out written (bytes ++ (own ++ rest)) _ next_filled in
      let f = length-append bytes (own ++ rest) in
      let g = length-append own rest in
      (omega arith, omega arith, long)

  -- there is room for the bytes kept, and for a slice
  pub slice_room : (size : ℕ) → size ≡ slice_len (get_or ends index 0 - begin)
      → (written + (begin - from) + size ≤ length out) × (begin ≤ length ids) × (from ≤ begin) × (get_or ends index 0 ≤ length ids) × (begin < get_or ends index 0)
  slice_room size e =
      let (a, b, d) = retained_room in
      (omega arith, b, before.before, next_is.rest.within, next_is.above)

  pub slices_long : (k m size : ℕ) (new own : List ℕ) → k ≡ begin - from → m ≡ size → size ≡ slice_len (get_or ends index 0 - begin)
      → new ≡ map (λ id. id % 256) (take (begin - from) (drop from ids)) → own ≡ slice (map (λ id. id % 256) (take (get_or ends index 0 - begin) (drop begin ids)))
      → SlicesLeft ids ends (put_mid (written + (begin - from)) m (put_mid written k out new) own) (index + 1) (get_or ends index 0) (get_or ends index 0)
      (written + (begin - from) + size)
  slices_long k m size new own a b d e f =
      let (room, within, long) = retained_room in
      let all : List ℕ = slices (parts 256 (lows ids)) in
      let bytes : List ℕ = map (λ id. id % 256) (take (begin - from) (drop from ids)) in
      let part : List ℕ = slice (map (λ id. id % 256) (take (get_or ends index 0 - begin) (drop begin ids))) in
      let size' : length part ≡ slice_len (get_or ends index 0 - begin) = slice_bytes (get_or ends index 0 - begin) (drop begin ids) next_is.run in
      let rest : List ℕ = slices (parts 256 (lows (drop (get_or ends index 0) ids))) in
      let first : IsFilled (put_mid written k out new) (written + (begin - from)) (part ++ rest) all =
      subst (λ n. IsFilled (put_mid written k out new) (written + n) (part ++ rest) all) a (fill_part out new written k bytes (part ++ rest) all next_filled (omega arith) e) in
      let second : IsFilled (put_mid (written + (begin - from)) m (put_mid written k out new) own) (written + (begin - from) + size) rest all =
      subst (λ n. IsFilled (put_mid (written + (begin - from)) m (put_mid written k out new) own) (written + (begin - from) + n) rest all) b
      (fill_part (put_mid written k out new) own (written + (begin - from)) m part rest all first (omega arith) f) in
      let none : get_or ends index 0 - get_or ends index 0 ≡ 0 = omega arith in
      record {
        ends_left = next_is.rest;
        before = omega arith;
        filled = subst (λ n. IsFilled (put_mid (written + (begin - from)) m (put_mid written k out new) own) (written + (begin - from) + size)
            (map (λ id. id % 256) (take n (drop (get_or ends index 0) ids)) ++ rest) all) (sym none) second;
      }

-- the bytes kept at last
pub slices_end : (ids ends out new : List ℕ) (index from begin written : ℕ) → SlicesLeft ids ends out index from begin written → length ends ≤ index
    → new ≡ map (λ id. id % 256) (take (length ids - from) (drop from ids)) → put_mid written (length out - written) out new ≡ slices (parts 256 (lows ids))
slices_end ids ends out new index from begin written before done is =
    let (none, last) = left_none ids ends index begin before.ends_left done in
    let bytes : List ℕ = map (λ id. id % 256) (take (length ids - from) (drop from ids)) in
    let e : map (λ id. id % 256) (take (begin - from) (drop from ids)) ++ slices (parts 256 (lows (drop begin ids))) ≡ bytes ++ [] =
    ap (λ k. map (λ id. id % 256) (take (k - from) (drop from ids)) ++ slices (parts 256 (lows (drop begin ids)))) last ∙ ap (λ (ps : List (ℕ × List ℕ)). bytes ++ slices ps) none in
    let fill : IsFilled out written (bytes ++ []) (slices (parts 256 (lows ids))) = subst (λ (l : List ℕ). IsFilled out written l (slices (parts 256 (lows ids)))) e before.filled in
    let left = fill_left out written (bytes ++ []) _ fill in
    let size = length-append bytes [] in
    fill_done (put_mid written (length out - written) out new) (written + (length out - written)) (slices (parts 256 (lows ids)))
    (fill_part out new written (length out - written) bytes [] (slices (parts 256 (lows ids))) fill (omega arith) is)

pub end_room : (ids ends out : List ℕ) (index from begin written : ℕ) → SlicesLeft ids ends out index from begin written → length ends ≤ index
    → (from ≤ length ids) × (written ≤ length out) × (length out - written ≡ length ids - from)
end_room ids ends out index from begin written before done =
    let (none, last) = left_none ids ends index begin before.ends_left done in
    let le = before.before in
    let bytes : List ℕ = map (λ id. id % 256) (take (begin - from) (drop from ids)) in
    let rest : List ℕ = slices (parts 256 (lows (drop begin ids))) in
    let e = fill_left out written (bytes ++ rest) _ before.filled in
    let f = length-append bytes rest in
    let g : length rest ≡ 0 = ap (λ (ps : List (ℕ × List ℕ)). length (slices ps)) none in
    let size = length-drop from ids in
    let long = length-map (take (begin - from) (drop from ids)) (λ id. id % 256) in
    let cut = length-take-le (begin - from) (drop from ids) (omega arith) in
    (omega arith, omega arith, omega arith)
