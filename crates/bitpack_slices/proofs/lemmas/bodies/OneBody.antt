-- Which of its three forms a body has.
use Rattle.std.proofs.Common.{◌≡◌, ℕ, ◌*◌, ◌<◌, ◌≤◌, Bool, true, false, cond, leb, ltb, List, [], ◌∷◌, ◌++◌, take, set, length, refl, sym, ap, ◌∙◌, arith}
use Rattle.std.proofs.lemmas.Bool.{le-leb, le-ltb, lt-leb, lt-ltb}
use Rattle.std.proofs.lemmas.List.{take-append-le, take_all}
use Rattle.bitpack_slices.proofs.lemmas.bodies.LongLaws.{flat_len}
use Rattle.bitpack_slices.proofs.lemmas.bodies.RunBounds.{bounds_back}
use Rattle.bitpack_slices.proofs.lemmas.bytes.Bytes.{EachByte}
use Rattle.bitpack_slices.proofs.lemmas.bytes.PairLaws.{pairs_back}
use Rattle.bitpack_slices.specs.Bodies.{IsRising, blocks, numbers}
use Rattle.bitpack_slices.specs.Body.{body}
use Rattle.bitpack_slices.specs.Runs.{are_few, boundaries, run_numbers, runs}
use Rattle.bitpack_slices.specs.Slices.{pairs_of}

pub body_runs : (chunk : List ℕ) → are_few (length (boundaries chunk)) (length chunk) ≡ true → body chunk ≡ runs (boundaries chunk)
unfolding body
body_runs chunk e = ap (λ (b : Bool). cond b (runs (boundaries chunk)) (cond (ltb (length (blocks chunk)) (2 * length chunk)) (blocks chunk) (numbers chunk))) e

pub body_blocks : (chunk : List ℕ) → are_few (length (boundaries chunk)) (length chunk) ≡ false → length (blocks chunk) < 2 * length chunk → body chunk ≡ blocks chunk
unfolding body
body_blocks chunk e less =
    ap (λ (b : Bool). cond b (runs (boundaries chunk)) (cond (ltb (length (blocks chunk)) (2 * length chunk)) (blocks chunk) (numbers chunk))) e
    ∙ ap (λ (b : Bool). cond b (blocks chunk) (numbers chunk)) (lt-ltb (length (blocks chunk)) (2 * length chunk) less)

pub body_numbers : (chunk : List ℕ) → are_few (length (boundaries chunk)) (length chunk) ≡ false → 2 * length chunk ≤ length (blocks chunk) → body chunk ≡ numbers chunk
unfolding body
body_numbers chunk e more =
    ap (λ (b : Bool). cond b (runs (boundaries chunk)) (cond (ltb (length (blocks chunk)) (2 * length chunk)) (blocks chunk) (numbers chunk))) e
    ∙ ap (λ (b : Bool). cond b (blocks chunk) (numbers chunk)) (le-ltb (length (blocks chunk)) (2 * length chunk) more)

-- runs with boundaries that are few are the body
pub bounds_body : (bounds : List ℕ) (count : ℕ) (chunk : List ℕ) → IsRising 0 65536 bounds → run_numbers bounds ≡ chunk → length chunk ≡ count → are_few (length bounds) count ≡ true
    → runs bounds ≡ body chunk
bounds_body bounds count chunk r is long few =
    let same : boundaries chunk ≡ bounds = ap boundaries (sym is) ∙ bounds_back bounds r in
    let e : are_few (length (boundaries chunk)) (length chunk) ≡ true = ap (λ (l : List ℕ). are_few (length l) (length chunk)) same ∙ ap (are_few (length bounds)) long ∙ few in
    sym (body_runs chunk e ∙ ap runs same)

pub few_told : (bounds count most : ℕ) → ((n : ℕ) → are_few n count ≡ leb n most) → bounds ≤ most → are_few bounds count ≡ true
few_told bounds count most is h = is bounds ∙ le-leb bounds most h

pub many_told : (chunk : List ℕ) (count most : ℕ) → count ≡ length chunk → ((n : ℕ) → are_few n count ≡ leb n most) → most < length (boundaries chunk)
    → are_few (length (boundaries chunk)) (length chunk) ≡ false
many_told chunk count most e is h = ap (are_few (length (boundaries chunk))) (sym e) ∙ is (length (boundaries chunk)) ∙ lt-leb (length (boundaries chunk)) most h

-- boundaries of two bytes each
pub runs_pairs : (bytes : List ℕ) → EachByte bytes → length bytes ≡ 2 * length (pairs_of bytes) → 1 ∷ 255 ∷ bytes ≡ runs (pairs_of bytes)
unfolding runs numbers
runs_pairs bytes are size = ap (λ (l : List ℕ). 1 ∷ 255 ∷ l) (sym (pairs_back bytes (length (pairs_of bytes)) are size).1)

-- ---- what is written

pub take_front : (xs ys : List ℕ) (n : ℕ) → length xs ≡ n → take n (xs ++ ys) ≡ xs
take_front xs ys n e = take-append-le n xs ys (omega arith) ∙ take_all n xs (omega arith)

pub two_first : (out : List ℕ) (a b : ℕ) → 2 ≤ length out → take 2 (set (set out 0 a) 1 b) ≡ a ∷ b ∷ []
two_first [] a b h = absurd (omega arith)
two_first (x ∷ []) a b h = absurd (omega arith)
two_first (x ∷ y ∷ out) a b h = refl

pub numbers_len : (xs : List ℕ) → length (numbers xs) ≡ 2 * length xs
unfolding numbers
numbers_len xs = flat_len 2 xs
