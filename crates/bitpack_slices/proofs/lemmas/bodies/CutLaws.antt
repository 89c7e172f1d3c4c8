-- Where the parts of a body of blocks begin and end.
use Rattle.std.proofs.Common.{◌≡◌, ℕ, ◌+◌, ◌-◌, ◌*◌, ◌<◌, ◌≤◌, List, [], ◌∷◌, ◌++◌, take, drop, length, refl, ap, ◌∙◌, arith, cond, ltb, inl, inr, get_or, length-drop, sym, take-append-drop}
use Rattle.std.proofs.lemmas.Bool.{cases_lt, cond_above, cond_below}
use Rattle.std.proofs.lemmas.List.{take_more, take_rest, length-take-le, drop-take, take-take}
use Rattle.bitpack_slices.specs.declared.chunk.parts.Parts.{Parts}
use Rattle.bitpack_slices.specs.Slices.{block_numbers, numbers_of, slice_len, slice_numbers, slices_len, AreSlices}

-- ---- the offset of a slice

pub len_few : (count : ℕ) → slice_len count ≤ 32
len_few count = elim (cases_lt count 32) [
  | inl few ↦ (let e = cond_below count 32 count (cond (ltb count 256) 32 0) few in omega arith)
  | inr more ↦ elim (cases_lt count 256) [
    | inl some ↦ (let e = cond_above count 32 count _ _ more (cond_below count 256 32 0 some) in omega arith)
    | inr many ↦ (let e = cond_above count 32 count _ _ more (cond_above count 256 32 0 _ many refl) in omega arith)
  ]
]

pub lens_none : (counts : List ℕ) → slices_len (take 0 counts) ≡ 0
unfolding slices_len
lens_none counts = refl

pub lens_append : (xs ys : List ℕ) → slices_len (xs ++ ys) ≡ slices_len xs + slices_len ys
unfolding slices_len
lens_append [] ys = omega arith
lens_append (x ∷ xs) ys = let ih = lens_append xs ys in omega arith

pub lens_more : (counts : List ℕ) (i : ℕ) → i < length counts → slices_len (take (i + 1) counts) ≡ slices_len (take i counts) + slice_len (get_or counts i 0 + 1)
unfolding slices_len
lens_more counts i h =
    let a = ap slices_len (take_more counts i 0 h) in
    let b = lens_append (take i counts) (get_or counts i 0 ∷ []) in
    omega arith

lens_most : (counts : List ℕ) → slices_len counts ≤ 32 * length counts
unfolding slices_len
lens_most [] = omega arith
lens_most (less ∷ counts) = let own = len_few (less + 1) in let ih = lens_most counts in omega arith

-- slices that have the most bytes in all have the most bytes each
pub all_whole : (counts : List ℕ) (i : ℕ) → i ≤ length counts → slices_len counts ≡ 32 * length counts → slices_len (take i counts) ≡ 32 * i
all_whole counts i few all =
    let both = ap slices_len (take-append-drop i counts) in
    let parts = lens_append (take i counts) (drop i counts) in
    let before = lens_most (take i counts) in
    let after = lens_most (drop i counts) in
    omega (arith, length-take-le i counts few, length-drop i counts)

-- a slice as it is cut
pub slice_cut : (count offset size from : ℕ) (bytes : List ℕ) → offset ≡ from → size ≡ slice_len count → take (offset + size - offset) (drop offset bytes) ≡ take (slice_len count) (drop from bytes)
slice_cut count offset size from bytes e f =
    let less : offset + size - offset ≡ slice_len count = omega arith in
    ap (λ (m : ℕ). take m (drop offset bytes)) less ∙ ap (λ (m : ℕ). take (slice_len count) (drop m bytes)) e

-- ---- the parts of a body as they are cut

pub highs_cut : (size many : ℕ) (body : List ℕ) → size ≡ slice_len many → take (1 + size - 1) (drop 1 body) ≡ take (slice_len many) (drop 1 body)
highs_cut size many body e = let less : 1 + size - 1 ≡ slice_len many = omega arith in ap (λ (m : ℕ). take m (drop 1 body)) less

pub counts_cut : (size many : ℕ) (body : List ℕ) → size ≡ slice_len many
    → take (1 + size + many - (1 + size)) (drop (1 + size) body) ≡ take many (drop (1 + slice_len many) body)
counts_cut size many body e =
    let less : 1 + size + many - (1 + size) ≡ many = omega arith in
    ap (λ (m : ℕ). take m (drop (1 + size) body)) less ∙ ap (λ (m : ℕ). take many (drop (1 + m) body)) e

pub slices_cut : (size many : ℕ) (body : List ℕ) → size ≡ slice_len many
    → take (length body - (1 + size + many)) (drop (1 + size + many) body) ≡ drop (1 + slice_len many + many) body
slices_cut size many body e = take_rest body (1 + size + many) ∙ ap (λ (m : ℕ). drop (1 + m + many) body) e

pub counts_len : (size many : ℕ) (body : List ℕ) → 1 + size + many ≤ length body → length (take many (drop (1 + size) body)) ≡ many
counts_len size many body h = length-take-le many (drop (1 + size) body) (omega (arith, length-drop (1 + size) body))

-- a body of blocks is read from its parts
pub cut : (size : ℕ) (body : List ℕ) → size ≡ slice_len (get_or body 0 0 + 1) → 1 + size + (get_or body 0 0 + 1) ≤ length body
    → numbers_of (slice_numbers (length (take (1 + size + (get_or body 0 0 + 1) - (1 + size)) (drop (1 + size) body))) (take (1 + size - 1) (drop 1 body)))
    (take (1 + size + (get_or body 0 0 + 1) - (1 + size)) (drop (1 + size) body)) (take (length body - (1 + size + (get_or body 0 0 + 1))) (drop (1 + size + (get_or body 0 0 + 1)) body))
    ≡ block_numbers body
cut size body e room =
    let many : ℕ = get_or body 0 0 + 1 in
    let highs : List ℕ = take (1 + size - 1) (drop 1 body) in
    let slices : List ℕ = take (length body - (1 + size + many)) (drop (1 + size + many) body) in
    let counts : List ℕ = take many (drop (1 + slice_len many) body) in
    ap (λ (l : List ℕ). numbers_of (slice_numbers (length l) highs) l slices) (counts_cut size many body e)
    ∙ ap (λ (n : ℕ). numbers_of (slice_numbers n highs) counts slices) (counts_len (slice_len many) many body (omega arith))
    ∙ ap (λ (l : List ℕ). numbers_of (slice_numbers many l) counts slices) (highs_cut size many body e)
    ∙ ap (numbers_of (slice_numbers many (take (slice_len many) (drop 1 body))) counts) (slices_cut size many body e)

-- ---- bytes that begin with a body of blocks have its slices

pub slices_size : (counts bytes : List ℕ) → AreSlices counts bytes → length bytes ≡ slices_len counts
unfolding slices_len
slices_size [] bytes none = ap length none
slices_size (less ∷ counts) bytes (room, is, later) =
    let ih = slices_size counts (drop (slice_len (less + 1)) bytes) later in
    omega (arith, length-drop (slice_len (less + 1)) bytes)

-- a slice of the first bytes
pub slice_first : (n position len : ℕ) (xs : List ℕ) → position + len ≤ n → take len (drop position (take n xs)) ≡ take len (drop position xs)
slice_first n position len xs h =
    let e : n ≡ position + (n - position) = omega arith in
    ap (λ (m : ℕ). take len (drop position (take m xs))) e ∙ ap (take len) (drop-take position (n - position) xs) ∙ take-take len (n - position) (drop position xs) (omega arith)

-- bytes that begin with the body have its slices
pub slices_past : (parts : Parts) (body rest : List ℕ) → length parts.slices.now ≤ length body → drop (length body - length parts.slices.now) body ≡ parts.slices.now
    → take (length body) rest ≡ body
    → take (slices_len parts.counts.now) (take (length rest - (length body - length parts.slices.now)) (drop (length body - length parts.slices.now) rest)) ≡ parts.slices.now
slices_past parts body rest within end front =
    let k : ℕ = length body - length parts.slices.now in
    let total = slices_size parts.counts.now parts.slices.now parts.are in
    let whole : k + slices_len parts.counts.now ≡ length body = omega arith in
    ap (take (slices_len parts.counts.now)) (take_rest rest k) ∙ sym (drop-take k (slices_len parts.counts.now) rest) ∙ ap (λ (n : ℕ). drop k (take n rest)) whole
    ∙ ap (drop k) front ∙ end
