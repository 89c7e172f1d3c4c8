-- Bytes are written, and of some bytes the first few.
use Rattle.std.proofs.Common.{◌≡◌, ℕ, ◌+◌, ◌-◌, ◌<◌, ◌≤◌, List, [], ◌∷◌, ◌++◌, map, take, drop, length, get_or, set, sym, ap, ◌∙◌, arith}
use borrow.Rule.Slice.PartMut.{put_mid}
use Rattle.std.proofs.lemmas.Bool.{cond_below}
use Rattle.std.proofs.lemmas.List.{length-take-le, map-append, take-map, take-take, take_all, take_more, take_more_set}
use Rattle.std.proofs.lemmas.Slice.{take-put_mid}
use Rattle.bitpack_slices.proofs.lemmas.bits.CountLaws.{few_numbers}
use Rattle.bitpack_slices.proofs.lemmas.bits.FourLaws.{take_past}
use Rattle.bitpack_slices.specs.Slices.{slice_len, slice_numbers}
use Rattle.bitpack_groups.proofs.ForCallers.{lent_len}

-- one number more of some
pub one_set : (f : ℕ → ℕ) (out xs : List ℕ) (i : ℕ) → i < length xs → i < length out → take i out ≡ map f (take i xs)
    → take (i + 1) (set out i (f (get_or xs i 0))) ≡ map f (take (i + 1) xs)
one_set f out xs i h room before =
    take_more_set out i (f (get_or xs i 0)) room ∙ ap (λ (l : List ℕ). l ++ f (get_or xs i 0) ∷ []) before
    ∙ sym (map-append f (take i xs) (get_or xs i 0 ∷ [])) ∙ ap (map f) (sym (take_more xs i 0 h))

-- all of them are in the part
pub part_set : (f : ℕ → ℕ) (out part xs : List ℕ) (at i : ℕ) → at + length xs ≤ length out → length part ≡ length xs → length xs ≤ i
    → take i part ≡ map f (take i xs) → take (at + length xs) (put_mid at (at + length xs - at) out part) ≡ take at out ++ map f xs
part_set f out part xs at i room size done e =
    take-put_mid at (at + length xs - at) out part (at + length xs) (omega arith) (omega arith)
    ∙ ap (λ (l : List ℕ). take at out ++ l) (sym (take_all i part (omega arith)) ∙ e ∙ ap (map f) (take_all i xs done))

-- they are a short slice
pub few_set : (base count n : ℕ) (front bytes out : List ℕ) → count < 32 → take n out ≡ front ++ map (λ i. base + i) bytes
    → take n out ≡ front ++ map (λ i. base + i) (slice_numbers count bytes)
few_set base count n front bytes out few e = e ∙ ap (λ (l : List ℕ). front ++ map (λ i. base + i) l) (sym (few_numbers count bytes few))

-- of some bytes that are written, the first few are a short slice
pub first_few : (size base count start at n : ℕ) (old slices out : List ℕ) → count ≤ size → count < 32 → at ≤ length old
    → n ≡ at + length (take (start + size - start) (drop start slices))
    → start + size ≤ length slices → take n out ≡ take at old ++ map (λ i. base + i) (take (start + size - start) (drop start slices))
    → take (at + count) out ≡ take at old ++ map (λ i. base + i) (slice_numbers count (take (slice_len count) (drop start slices)))
first_few size base count start at n old slices out less few within end room e =
    let f : List ℕ → List ℕ = map (λ i. base + i) in
    let bytes : List ℕ = take (start + size - start) (drop start slices) in
    let long = lent_len start size slices room in
    let own : slice_len count ≡ count = sym (cond_below count 32 count _ few) in
    sym (take-take (at + count) n out (omega arith)) ∙ ap (take (at + count)) e ∙ take_past at count (take at old) (f bytes) (length-take-le at old within)
    ∙ ap (λ (l : List ℕ). take at old ++ l) (take-map (λ i. base + i) count bytes)
    ∙ ap (λ (l : List ℕ). take at old ++ f l)
    (take-take count (start + size - start) (drop start slices) (omega arith) ∙ ap (λ (m : ℕ). take m (drop start slices)) (sym own)
    ∙ sym (few_numbers count (take (slice_len count) (drop start slices)) few))
