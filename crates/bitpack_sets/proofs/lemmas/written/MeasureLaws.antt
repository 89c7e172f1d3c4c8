-- Chunks that are measured one after the other.
use Rattle.std.proofs.Common.{◌≡◌, false, ℕ, ◌+◌, ◌-◌, ◌*◌, ◌^◌, ◌<◌, ◌≤◌, List, [], ◌∷◌, length, take, drop, refl, sym, ap, ◌∙◌, arith, subst, length-drop}
use Rattle.std.specs.List.{concat}
use Rattle.bitpack_sets.proofs.lemmas.encodings.BodyLaws.{body_blocks, body_numbers, few, numbers_len}
use Rattle.bitpack_sets.proofs.lemmas.written.DirectoryFilled.{PartsLeft, parts_end, parts_more}
use Rattle.bitpack_sets.proofs.lemmas.written.RunLaws.{blocks_len}
use Rattle.bitpack_slices.specs.Bodies.{blocks, numbers, parts}
use Rattle.bitpack_sets.specs.Sets.{body}
use Rattle.bitpack_slices.specs.Slices.{slice_len}
use Rattle.bitpack_sets.specs.Written.{IsRun, bodies, lows, slices}

-- the chunks of what is left are still to be measured
abbrev pub ChunksLeft : (ids left : List ℕ) (bytes : ℕ) → Type 0
ChunksLeft ids left bytes = PartsLeft (2 ^ 32) 65536 2 body ids left bytes

pub chunks_more : (ids left : List ℕ) (bytes run added : ℕ) → ChunksLeft ids left bytes → IsRun 65536 left run → added ≡ length (body (lows (take run left)))
    → added ≤ 2 * run → ChunksLeft ids (take (length left - run) (drop run left)) (bytes + added)
chunks_more = parts_more (2 ^ 32) 65536 2 body

pub chunks_end : (ids left : List ℕ) (bytes : ℕ) → ChunksLeft ids left bytes → length left ≡ 0 → bytes ≡ length (concat (bodies ids))
chunks_end = parts_end (2 ^ 32) 65536 2 body

-- ---- bodies

pub blocks_shorter : (len count size : ℕ) (xs : List ℕ) → few xs ≡ false → 1 + slice_len count + count + size < 2 * len → length xs ≡ len → length (parts 256 xs) ≡ count
    → length (slices (parts 256 xs)) ≡ size → 1 + slice_len count + count + size ≡ length (body xs)
blocks_shorter len count size xs other less a b c =
    let e = blocks_len xs in
    let f = ap slice_len b in
    let same : 1 + slice_len count + count + size ≡ length (blocks xs) = omega arith in
    same ∙ sym (ap length (body_blocks xs other (omega arith)))

pub numbers_shorter : (len count size : ℕ) (xs : List ℕ) → few xs ≡ false → 2 * len ≤ 1 + slice_len count + count + size → length xs ≡ len → length (parts 256 xs) ≡ count
    → length (slices (parts 256 xs)) ≡ size → 2 * len ≡ length (body xs)
numbers_shorter len count size xs other less a b c =
    let e = blocks_len xs in
    let f = ap slice_len b in
    let g = numbers_len xs in
    let same : 2 * len ≡ length (numbers xs) = omega arith in
    same ∙ sym (ap length (body_numbers xs other (omega arith)))
