-- The rank of a number among those of a body of blocks.
use Rattle.std.proofs.Common.{◌≡◌, ℕ, zero, suc, ◌+◌, ◌*◌, ◌/◌, ◌%◌, ◌<◌, ◌≤◌, true, false, List, [], ◌∷◌, map, length-append, take, drop, length, get_or, refl, sym, ap, ◌∙◌, arith, subst}
use Rattle.std.proofs.lemmas.List.{drop-drop, length-map}
use Rattle.bitpack_slices.proofs.lemmas.bodies.CutLaws.{counts_len}
use Rattle.bitpack_slices.proofs.lemmas.bodies.JoinLaws.{build, build_are, build_highs, numbers_built}
use Rattle.bitpack_slices.proofs.lemmas.numbers.JoinReads.{none, rank_join, rank_join_not}
use Rattle.bitpack_slices.proofs.lemmas.bodies.LongLaws.{counts, keys, total}
use Rattle.bitpack_slices.proofs.lemmas.bodies.ReadLaws.{rank_le, rank_less, slice_at}
use Rattle.bitpack_slices.proofs.lemmas.bytes.Bytes.{EachByte}
use Rattle.bitpack_slices.specs.Reads.{has, rank}
use Rattle.bitpack_slices.specs.Bodies.{IsRising}
use Rattle.bitpack_slices.specs.Slices.{AreSlices, IsBlocks, IsSlice, block_numbers, numbers_in, numbers_of, slice_len, slice_numbers, slices_len}

pub build_total : (i : ℕ) (hs cs bytes : List ℕ) → length hs ≡ length cs → AreSlices cs bytes → total (take i (counts (build hs cs bytes))) ≡ numbers_in (take i cs)
unfolding build numbers_in
build_total zero hs cs bytes e are = refl
build_total (suc i) [] [] bytes e are = refl
build_total (suc i) [] (less ∷ cs) bytes e are = absurd (omega arith)
build_total (suc i) (h ∷ hs) [] bytes e are = absurd (omega arith)
build_total (suc i) (h ∷ hs) (less ∷ cs) bytes e (room, is, later) =
    let own = is.count_is in
    let ih = build_total i hs cs (drop (slice_len (less + 1)) bytes) (omega arith) later in
    omega arith

pub build_at : (i : ℕ) (hs cs bytes : List ℕ) → length hs ≡ length cs → i < length cs → (get_or (build hs cs bytes) i none).1 ≡ slice_at i cs bytes
unfolding build slices_len
build_at i [] [] bytes e lt = absurd (omega arith)
build_at i [] (less ∷ cs) bytes e lt = absurd (omega arith)
build_at i (h ∷ hs) [] bytes e lt = absurd (omega arith)
build_at zero (h ∷ hs) (less ∷ cs) bytes e lt = refl
build_at (suc i) (h ∷ hs) (less ∷ cs) bytes e lt =
    build_at i hs cs (drop (slice_len (less + 1)) bytes) (omega arith) (omega arith)
    ∙ ap (λ (l : List ℕ). slice_numbers (get_or cs i 0 + 1) (take (slice_len (get_or cs i 0 + 1)) l)) (drop-drop (slices_len (take i cs)) (slice_len (less + 1)) bytes)

pub rank_not_there : (x i : ℕ) (hs cs bytes : List ℕ) → length hs ≡ length cs → IsRising 0 256 hs → AreSlices cs bytes → i ≡ rank (x / 256) hs → has (x / 256) hs ≡ false
    → rank x (numbers_of hs cs bytes) ≡ numbers_in (take i cs)
rank_not_there x i hs cs bytes size r are e h =
    let highs : keys (build hs cs bytes) ≡ hs = build_highs hs cs bytes size in
    ap (rank x) (numbers_built hs cs bytes)
    ∙ rank_join_not 256 x 0 256 i (build hs cs bytes) (omega arith) (build_are 0 hs cs bytes size r are) (e ∙ ap (rank (x / 256)) (sym highs)) (ap (has (x / 256)) highs ∙ h)
    ∙ build_total i hs cs bytes size are

pub rank_there : (x i : ℕ) (hs cs bytes : List ℕ) → length hs ≡ length cs → IsRising 0 256 hs → AreSlices cs bytes → i < length cs → i ≡ rank (x / 256) hs → has (x / 256) hs ≡ true
    → rank x (numbers_of hs cs bytes) ≡ numbers_in (take i cs) + rank (x % 256) (slice_at i cs bytes)
rank_there x i hs cs bytes size r are lt e h =
    let highs : keys (build hs cs bytes) ≡ hs = build_highs hs cs bytes size in
    ap (rank x) (numbers_built hs cs bytes)
    ∙ rank_join 256 x 0 256 i (build hs cs bytes) (omega arith) (build_are 0 hs cs bytes size r are) (e ∙ ap (rank (x / 256)) (sym highs)) (ap (has (x / 256)) highs ∙ h)
    ∙ ap (λ (n : ℕ). n + rank (x % 256) (get_or (build hs cs bytes) i none).1) (build_total i hs cs bytes size are)
    ∙ ap (λ (l : List ℕ). numbers_in (take i cs) + rank (x % 256) l) (build_at i hs cs bytes size lt)

-- the position of the high byte is among the counts, and that of one that occurs is of a slice
pub at_most : (i x : ℕ) (hs counts : List ℕ) → i ≡ rank x hs → length hs ≡ length counts → i ≤ length counts
at_most i x hs counts e size = let most = rank_le x hs in omega arith

pub below_counts : (i x : ℕ) (hs counts : List ℕ) → i ≡ rank x hs → has x hs ≡ true → length hs ≡ length counts → i < length counts
below_counts i x hs counts e h size = let less = rank_less x hs h in omega arith

pub ranked : (x i before left : ℕ) (hs cs bytes : List ℕ) → length hs ≡ length cs → IsRising 0 256 hs → AreSlices cs bytes → i ≡ rank (x / 256) hs → has (x / 256) hs ≡ true
    → before ≡ numbers_in (take i cs) → left ≡ rank (x % 256) (slice_at i cs bytes) → before + left ≡ rank x (numbers_of hs cs bytes)
ranked x i before left hs cs bytes size r are e h b l =
    let there = rank_there x i hs cs bytes size r are (below_counts i (x / 256) hs cs e h size) e h in
    ap (λ (n : ℕ). n + left) b ∙ ap (λ (n : ℕ). numbers_in (take i cs) + n) l ∙ sym there

pub numbers_few : (cs : List ℕ) → EachByte cs → numbers_in cs ≤ 256 * length cs
unfolding numbers_in
numbers_few [] are = omega arith
numbers_few (less ∷ cs) (a, are) = let ih = numbers_few cs are in omega arith

-- a slice among those end to end
pub slice_there : (i : ℕ) (cs bytes : List ℕ) → AreSlices cs bytes → i < length cs
    → IsSlice (get_or cs i 0 + 1) (take (slice_len (get_or cs i 0 + 1)) (drop (slices_len (take i cs)) bytes))
unfolding slices_len
slice_there i [] bytes are lt = absurd (omega arith)
slice_there zero (less ∷ cs) bytes (room, is, later) lt = is
slice_there (suc i) (less ∷ cs) bytes (room, is, later) lt =
    subst (λ (l : List ℕ). IsSlice (get_or cs i 0 + 1) (take (slice_len (get_or cs i 0 + 1)) l)) (drop-drop (slices_len (take i cs)) (slice_len (less + 1)) bytes)
    (slice_there i cs (drop (slice_len (less + 1)) bytes) later (omega arith))

pub numbers_counted : (hs counts bytes : List ℕ) → length hs ≡ length counts → AreSlices counts bytes → length (numbers_of hs counts bytes) ≡ numbers_in counts
unfolding numbers_of numbers_in
numbers_counted [] [] bytes e are = refl
numbers_counted [] (less ∷ counts) bytes e are = absurd (omega arith)
numbers_counted (h ∷ hs) [] bytes e are = absurd (omega arith)
numbers_counted (h ∷ hs) (less ∷ counts) bytes e (room, is, later) =
    let low = slice_numbers (less + 1) (take (slice_len (less + 1)) bytes) in
    let bytes' = drop (slice_len (less + 1)) bytes in
    let one = length-append (map (λ low. h * 256 + low) low) (numbers_of hs counts bytes') in
    let two = length-map low (λ low. h * 256 + low) in
    let three = is.count_is in
    let ih = numbers_counted hs counts bytes' (omega arith) later in
    omega arith

-- blocks of a count of numbers have so many
pub blocks_counted : (count : ℕ) (body : List ℕ) → IsBlocks count body → length (block_numbers body) ≡ count
blocks_counted count body is =
    let many : ℕ = get_or body 0 0 + 1 in
    let hs : List ℕ = slice_numbers many (take (slice_len many) (drop 1 body)) in
    let cs : List ℕ = take many (drop (1 + slice_len many) body) in
    numbers_counted hs cs (drop (1 + slice_len many + many) body) (is.highs.count_is ∙ sym (counts_len (slice_len many) many body is.room)) is.slices ∙ is.count_is
