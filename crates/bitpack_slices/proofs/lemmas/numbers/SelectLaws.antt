-- Numbers by their positions.
use Rattle.std.proofs.Common.{◌≡◌, ℕ, zero, suc, ◌+◌, ◌-◌, ◌*◌, ◌<◌, ◌≤◌, List, [], ◌∷◌, ◌++◌, map, take, drop, length, get_or, refl, sym, ap, ◌∙◌, arith, inl, inr, length-append, take-add, None, Some}
use Rattle.std.specs.Int.RustNames.{count_ones}
use Rattle.std.specs.List.{drop-map, slice_get}
use Rattle.std.proofs.Math.Seq.{drop-append-add}
use Rattle.std.proofs.lemmas.Bool.{cases_lt}
use Rattle.std.proofs.lemmas.Option.{slice_get-get_or, slice_get_past}
use Rattle.std.proofs.lemmas.List.{drop-append-le, drop_more, get_or-append-add, get_or-drop, get_or-map, get_or_append_left, length-drop, length-map, take-append-drop, take_all, take_more}
use Rattle.bitpack_slices.proofs.lemmas.bodies.BlockReads.{build_at, build_total, numbers_counted, slice_there}
use Rattle.bitpack_slices.proofs.lemmas.bodies.JoinLaws.{build, build_highs, join, numbers_built}
use Rattle.bitpack_slices.proofs.lemmas.bits.CountLaws.{ones_counted}
use Rattle.bitpack_slices.proofs.lemmas.bytes.DecodeLaws.{bytes_dropped, number_bits, number_split}
use Rattle.bitpack_slices.proofs.lemmas.numbers.JoinReads.{none}
use Rattle.bitpack_slices.proofs.lemmas.bodies.LongLaws.{counts, total}
use Rattle.bitpack_slices.proofs.lemmas.bits.OnesLaws.{none_of_zero}
use Rattle.bitpack_slices.proofs.lemmas.bits.RaisedLaws.{ones_split}
use Rattle.bitpack_slices.proofs.lemmas.bodies.ReadLaws.{slice_at}
use Rattle.bitpack_slices.proofs.lemmas.bytes.Bytes.{EachByte}
use Rattle.bitpack_slices.specs.Slices.{AreSlices, number_of, numbers_in, numbers_of, ones_from}

-- ---- parts

-- from position j of part i on
pub join_drop : (base i j : ℕ) (ps : List (ℕ × List ℕ)) → i < length ps → j ≤ length (get_or ps i none).1
    → drop (total (take i (counts ps)) + j) (join base ps) ≡ map (λ low. (get_or ps i none).0 * base + low) (drop j (get_or ps i none).1) ++ join base (drop (i + 1) ps)
join_drop base i j [] lt few = absurd (omega arith)
join_drop base zero j (p ∷ ps) lt few =
    let own : List ℕ = map (λ low. p.0 * base + low) p.1 in
    let size : length own ≡ length p.1 = length-map p.1 (λ low. p.0 * base + low) in
    let e : 0 + j ≡ j = omega arith in
    ap (λ (n : ℕ). drop n (own ++ join base ps)) e ∙ drop-append-le j own (join base ps) (omega arith)
    ∙ ap (λ (l : List ℕ). l ++ join base ps) (drop-map (λ low. p.0 * base + low) j p.1)
join_drop base (suc i) j (p ∷ ps) lt few =
    let own : List ℕ = map (λ low. p.0 * base + low) p.1 in
    let size : length own ≡ length p.1 = length-map p.1 (λ low. p.0 * base + low) in
    let e : length p.1 + total (take i (counts ps)) + j ≡ length own + (total (take i (counts ps)) + j) = omega arith in
    let next : i + 1 ≡ suc i = omega arith in
    let next' : suc i + 1 ≡ suc (i + 1) = omega arith in
    ap (λ (n : ℕ). drop n (own ++ join base ps)) e ∙ drop-append-add own (join base ps) (total (take i (counts ps)) + j)
    ∙ join_drop base i j ps (omega arith) few
    ∙ ap (λ (n : ℕ). map (λ low. (get_or ps i none).0 * base + low) (drop j (get_or ps i none).1) ++ join base (drop n (p ∷ ps))) (sym next')

-- position j of part i
pub join_at : (base i j : ℕ) (ps : List (ℕ × List ℕ)) → i < length ps → j < length (get_or ps i none).1
    → get_or (join base ps) (total (take i (counts ps)) + j) 0 ≡ (get_or ps i none).0 * base + get_or (get_or ps i none).1 j 0
join_at base i j ps lt few =
    let xs : List ℕ = (get_or ps i none).1 in
    let f : ℕ → ℕ = λ low. (get_or ps i none).0 * base + low in
    let from : ℕ = total (take i (counts ps)) + j in
    let e : from + 0 ≡ from = omega arith in
    let e' : j + 0 ≡ j = omega arith in
    let some : 0 < length (drop j xs) = omega (arith, length-drop j xs) in
    let size : length (map f (drop j xs)) ≡ length (drop j xs) = length-map (drop j xs) f in
    ap (λ (n : ℕ). get_or (join base ps) n 0) (sym e) ∙ sym (get_or-drop from (join base ps) 0 0)
    ∙ ap (λ (l : List ℕ). get_or l 0 0) (join_drop base i j ps lt (omega arith))
    ∙ get_or_append_left (map f (drop j xs)) (join base (drop (i + 1) ps)) 0 0 (omega arith)
    ∙ get_or-map f (drop j xs) 0 0 0 some ∙ ap f (get_or-drop j xs 0 0 ∙ ap (λ (n : ℕ). get_or xs n 0) e')

-- ---- slices

pub build_long : (hs cs bytes : List ℕ) → length hs ≡ length cs → length (build hs cs bytes) ≡ length cs
build_long hs cs bytes e = sym (length-map (build hs cs bytes) (λ part. part.0)) ∙ ap length (build_highs hs cs bytes e) ∙ e

pub build_first : (i : ℕ) (hs cs bytes : List ℕ) → length hs ≡ length cs → i < length cs → (get_or (build hs cs bytes) i none).0 ≡ get_or hs i 0
build_first i hs cs bytes e lt =
    let long = build_long hs cs bytes e in
    sym (get_or-map (λ part. part.0) (build hs cs bytes) i none 0 (omega arith)) ∙ ap (λ (l : List ℕ). get_or l i 0) (build_highs hs cs bytes e)

-- the number at a position of a slice
pub slice_select : (i left position : ℕ) (hs cs bytes : List ℕ) → length hs ≡ length cs → AreSlices cs bytes → i < length cs → left ≤ get_or cs i 0
    → numbers_in (take i cs) + left ≡ position → get_or (numbers_of hs cs bytes) position 0 ≡ 256 * get_or hs i 0 + get_or (slice_at i cs bytes) left 0
slice_select i left position hs cs bytes size are lt few e =
    let ps : List (ℕ × List ℕ) = build hs cs bytes in
    let here : (get_or ps i none).1 ≡ slice_at i cs bytes = build_at i hs cs bytes size lt in
    let own : length (slice_at i cs bytes) ≡ get_or cs i 0 + 1 = (slice_there i cs bytes are lt).count_is in
    let long = build_long hs cs bytes size in
    let same = ap length here in
    let turned : get_or hs i 0 * 256 ≡ 256 * get_or hs i 0 = omega arith in
    ap (λ (l : List ℕ). get_or l position 0) (numbers_built hs cs bytes)
    ∙ ap (λ (n : ℕ). get_or (join 256 ps) n 0) (sym e ∙ ap (λ (n : ℕ). n + left) (sym (build_total i hs cs bytes size are)))
    ∙ join_at 256 i left ps (omega arith) (omega arith)
    ∙ ap (λ (n : ℕ). n * 256 + get_or (get_or ps i none).1 left 0) (build_first i hs cs bytes size lt)
    ∙ ap (λ (l : List ℕ). get_or hs i 0 * 256 + get_or l left 0) here ∙ ap (λ (n : ℕ). n + get_or (slice_at i cs bytes) left 0) turned

numbers_append : (xs ys : List ℕ) → numbers_in (xs ++ ys) ≡ numbers_in xs + numbers_in ys
unfolding numbers_in
numbers_append [] ys = omega arith
numbers_append (x ∷ xs) ys = let ih = numbers_append xs ys in omega arith

pub numbers_more : (cs : List ℕ) (i : ℕ) → i < length cs → numbers_in (take (i + 1) cs) ≡ numbers_in (take i cs) + (get_or cs i 0 + 1)
unfolding numbers_in
numbers_more cs i h =
    let a = ap numbers_in (take_more cs i 0 h) in
    let b = numbers_append (take i cs) (get_or cs i 0 ∷ []) in
    omega arith

pub numbers_step : (cs : List ℕ) (i n : ℕ) → numbers_in (take (i + n) cs) ≡ numbers_in (take i cs) + numbers_in (take n (drop i cs))
numbers_step cs i n = ap numbers_in (take-add i n cs) ∙ numbers_append (take i cs) (take n (drop i cs))

pub numbers_none : (cs : List ℕ) → numbers_in (take 0 cs) ≡ 0
unfolding numbers_in
numbers_none cs = refl

pub numbers_all : (cs : List ℕ) (i : ℕ) → length cs ≤ i → numbers_in (take i cs) ≡ numbers_in cs
numbers_all cs i h = ap numbers_in (take_all i cs h)

pub numbers_to : (cs : List ℕ) (i : ℕ) → i < length cs → numbers_in (take i cs) + (get_or cs i 0 + 1) ≤ numbers_in cs
numbers_to cs i h =
    let more = numbers_more cs i h in
    let all = ap numbers_in (take-append-drop (i + 1) cs) in
    let both = numbers_append (take (i + 1) cs) (drop (i + 1) cs) in
    omega arith

-- the number at a position of a slice is there
pub slice_found : (n i left position : ℕ) (hs cs bytes : List ℕ) → length hs ≡ length cs → AreSlices cs bytes → i < length cs → left ≤ get_or cs i 0
    → numbers_in (take i cs) + left ≡ position → n ≡ 256 * get_or hs i 0 + get_or (slice_at i cs bytes) left 0 → Some n ≡ slice_get (numbers_of hs cs bytes) position
slice_found n i left position hs cs bytes size are lt few e is =
    let to = numbers_to cs i lt in
    let all = numbers_counted hs cs bytes size are in
    ap (λ (k : ℕ). Some k) (is ∙ sym (slice_select i left position hs cs bytes size are lt few e)) ∙ sym (slice_get-get_or (numbers_of hs cs bytes) position 0 (omega arith))

-- after the last slice there is none
pub none_found : (i : ℕ) (hs cs bytes : List ℕ) → length hs ≡ length cs → AreSlices cs bytes → length cs ≤ i → None ≡ slice_get (numbers_of hs cs bytes) (numbers_in (take i cs))
none_found i hs cs bytes size are past =
    let all = numbers_counted hs cs bytes size are in
    let to = numbers_all cs i past in
    sym (slice_get_past (numbers_of hs cs bytes) (numbers_in (take i cs)) (omega arith))

-- ---- bits

-- the bits of some bytes, and of those after them
bits_parts : (k n : ℕ) (bytes : List ℕ) → EachByte bytes → k ≤ length bytes
    → ones_from (number_of (take (k + n) bytes)) 0 (8 * k + 8 * n)
    ≡ ones_from (number_of (take k bytes)) 0 (8 * k) ++ map (λ i. 8 * k + i) (ones_from (number_of (take n (drop k bytes))) 0 (8 * n))
bits_parts k n bytes are h =
    ap (λ (m : ℕ). ones_from m 0 (8 * k + 8 * n)) (number_split k n bytes h)
    ∙ ones_split (8 * k) (8 * n) (number_of (take n (drop k bytes))) (number_of (take k bytes)) (number_bits k bytes are) (number_bits n (drop k bytes) (bytes_dropped k bytes are))

-- those of the words before a word, and of a word
abbrev pub ones_before : List ℕ → ℕ → List ℕ
ones_before bytes i = ones_from (number_of (take (8 * i) bytes)) 0 (64 * i)

abbrev pub ones_at : List ℕ → ℕ → List ℕ
ones_at bytes i = ones_from (number_of (take 8 (drop (8 * i) bytes))) 0 64

pub before_none : (bytes : List ℕ) → length (ones_before bytes 0) ≡ 0
unfolding ones_from
before_none bytes = refl

pub before_more : (bytes : List ℕ) (i : ℕ) → EachByte bytes → 8 * i ≤ length bytes → length (ones_before bytes (i + 1)) ≡ length (ones_before bytes i) + length (ones_at bytes i)
before_more bytes i are h =
    let word : List ℕ = ones_at bytes i in
    let some : 8 * (i + 1) ≡ 8 * i + 8 = omega arith in
    let size : 64 * (i + 1) ≡ 8 * (8 * i) + 8 * 8 = omega arith in
    let less : 8 * (8 * i) ≡ 64 * i = omega arith in
    ap (λ (n : ℕ). length (ones_from (number_of (take n bytes)) 0 (64 * (i + 1)))) some ∙ ap (λ (n : ℕ). length (ones_from (number_of (take (8 * i + 8) bytes)) 0 n)) size
    ∙ ap length (bits_parts (8 * i) 8 bytes are h)
    ∙ length-append (ones_from (number_of (take (8 * i) bytes)) 0 (8 * (8 * i))) (map (λ k. 8 * (8 * i) + k) word)
    ∙ ap (λ (n : ℕ). length (ones_from (number_of (take (8 * i) bytes)) 0 (8 * (8 * i))) + n) (length-map word (λ k. 8 * (8 * i) + k))
    ∙ ap (λ (n : ℕ). length (ones_from (number_of (take (8 * i) bytes)) 0 n) + length word) less

pub before_all : (bytes : List ℕ) (i : ℕ) → length bytes ≡ 32 → i ≡ 4 → ones_before bytes i ≡ ones_from (number_of bytes) 0 256
before_all bytes i size e =
    ap (ones_before bytes) e ∙ ap (λ (l : List ℕ). ones_from (number_of l) 0 256) (take_all 32 bytes (omega arith))

-- the number at a position of a word
pub word_select : (bytes : List ℕ) (i left position : ℕ) → EachByte bytes → length bytes ≡ 32 → i < 4 → left < length (ones_at bytes i)
    → length (ones_before bytes i) + left ≡ position → get_or (ones_from (number_of bytes) 0 256) position 0 ≡ 64 * i + get_or (ones_at bytes i) left 0
word_select bytes i left position are size lt few e =
    let rest : List ℕ = drop (8 * i) bytes in
    let some : List ℕ = ones_from (number_of (take (8 * i) bytes)) 0 (8 * (8 * i)) in
    let after : List ℕ = map (λ k. 8 * 8 + k) (ones_from (number_of (take (24 - 8 * i) (drop 8 rest))) 0 (8 * (24 - 8 * i))) in
    let word : List ℕ = ones_at bytes i in
    let raise : ℕ → ℕ = λ k. 8 * (8 * i) + k in
    let whole : 32 ≡ 8 * i + (32 - 8 * i) = omega arith in
    let bits : 256 ≡ 8 * (8 * i) + 8 * (32 - 8 * i) = omega arith in
    let whole' : 32 - 8 * i ≡ 8 + (24 - 8 * i) = omega arith in
    let bits' : 8 * (32 - 8 * i) ≡ 8 * 8 + 8 * (24 - 8 * i) = omega arith in
    let less : 8 * (8 * i) ≡ 64 * i = omega arith in
    let long : length rest ≡ 32 - 8 * i = length-drop (8 * i) bytes ∙ ap (λ (n : ℕ). n - 8 * i) size in
    let one : ones_from (number_of bytes) 0 256 ≡ some ++ map raise (ones_from (number_of (take (32 - 8 * i) rest)) 0 (8 * (32 - 8 * i))) =
    ap (λ (l : List ℕ). ones_from (number_of l) 0 256) (sym (take_all 32 bytes (omega arith)))
    ∙ ap (λ (n : ℕ). ones_from (number_of (take n bytes)) 0 256) whole ∙ ap (ones_from (number_of (take (8 * i + (32 - 8 * i)) bytes)) 0) bits
    ∙ bits_parts (8 * i) (32 - 8 * i) bytes are (omega arith) in
    let two : ones_from (number_of (take (32 - 8 * i) rest)) 0 (8 * (32 - 8 * i)) ≡ word ++ after =
    ap (λ (n : ℕ). ones_from (number_of (take n rest)) 0 (8 * (32 - 8 * i))) whole' ∙ ap (ones_from (number_of (take (8 + (24 - 8 * i)) rest)) 0) bits'
    ∙ bits_parts 8 (24 - 8 * i) rest (bytes_dropped (8 * i) bytes are) (omega arith) in
    let both = length-append word after in
    let at : length some + left ≡ position = ap (λ (n : ℕ). length (ones_from (number_of (take (8 * i) bytes)) 0 n) + left) less ∙ e in
    ap (λ (l : List ℕ). get_or l position 0) (one ∙ ap (λ (l : List ℕ). some ++ map raise l) two)
    ∙ ap (λ (n : ℕ). get_or (some ++ map raise (word ++ after)) n 0) (sym at) ∙ get_or-append-add some (map raise (word ++ after)) left 0
    ∙ get_or-map raise (word ++ after) left 0 0 (omega arith) ∙ ap raise (get_or_append_left word after 0 left few)
    ∙ ap (λ (n : ℕ). n + get_or word left 0) less

-- a bit is left
pub some_left : (x i : ℕ) (ys : List ℕ) → ones_from x 0 64 ≡ drop i ys → i < length ys → 0 < x
some_left zero i ys e h = let size = ap length (sym none_of_zero ∙ e) in let long = length-drop i ys in absurd (omega arith)
some_left (suc x) i ys e h = omega arith

-- one less is left
pub next_left : (t i : ℕ) (xs zs ys : List ℕ) → xs ≡ drop i ys → i < length ys → xs ≡ t ∷ zs → zs ≡ drop (i + 1) ys
next_left t i xs zs ys e h f = ap (drop 1) (sym f ∙ e ∙ drop_more ys i 0 h)

pub first_left : (t i : ℕ) (xs zs ys : List ℕ) → xs ≡ drop i ys → i < length ys → xs ≡ t ∷ zs → t ≡ get_or ys i 0
first_left t i xs zs ys e h f = ap (λ (l : List ℕ). get_or l 0 0) (sym f ∙ e ∙ drop_more ys i 0 h)

-- how many bits of a word are 1
pub ones_own : (bytes : List ℕ) (i w : ℕ) → EachByte bytes → w ≡ number_of (take 8 (drop (8 * i) bytes)) → length (ones_at bytes i) ≡ count_ones w
ones_own bytes i w are e =
    ones_counted (number_of (take 8 (drop (8 * i) bytes))) 64 (number_bits 8 (drop (8 * i) bytes) (bytes_dropped (8 * i) bytes are)) ∙ ap count_ones (sym e)

-- one word more is passed
pub bits_next : (bytes : List ℕ) (i left position : ℕ) → EachByte bytes → length bytes ≡ 32 → i < 4 → length (ones_at bytes i) ≤ left
    → length (ones_before bytes i) + left ≡ position → position < length (ones_from (number_of bytes) 0 256)
    → (i + 1 < 4) × (length (ones_before bytes (i + 1)) + (left - length (ones_at bytes i)) ≡ position)
bits_next bytes i left position are size lt passed e few =
    let more = before_more bytes i are (omega arith) in
    let next : i + 1 < 4 = elim (cases_lt (i + 1) 4) [
      | inl less ↦ less
      | inr done ↦ (let all = ap length (before_all bytes (i + 1) size (omega arith)) in absurd (omega arith))
    ] in
    (next, omega arith)

-- a position among the numbers is that of a slice
pub slice_within : (cs : List ℕ) (i left position : ℕ) → numbers_in (take i cs) + left ≡ position → position < numbers_in cs → i < length cs
slice_within cs i left position e few = elim (cases_lt i (length cs)) [
  | inl less ↦ less
  | inr done ↦ (let all = numbers_all cs i done in absurd (omega arith))
]
