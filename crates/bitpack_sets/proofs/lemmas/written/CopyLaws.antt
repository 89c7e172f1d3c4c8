-- Integers that are copied one after the other.
use Rattle.std.proofs.Common.{◌≡◌, ℕ, suc, ◌+◌, ◌-◌, ◌*◌, ◌<◌, ◌≤◌, List, ◌++◌, map, take, length, ap, ◌∙◌, arith, subst}
use Rattle.std.specs.List.{flat_map, range_with_len}
use Rattle.bitpack_groups.proofs.ForCallers.{IsFilled, fill_done, fill_more, fill_room, fill_start, little_len, product_more}
use Rattle.bitpack_slices.specs.Bodies.{le_bytes}

-- those from index `k` on are still to be written
abbrev pub IsCopied : (ℕ → ℕ) → ℕ → ℕ → ℕ → List ℕ → List ℕ → Type 0
IsCopied f size n k out all = IsFilled out (size * k) (flat_map (le_bytes size) (map f (range_with_len k (n - k)))) all

pub copied_start : (f : ℕ → ℕ) (size n : ℕ) (out xs : List ℕ) → xs ≡ map f (range_with_len 0 n) → length out ≡ length (flat_map (le_bytes size) xs)
    → IsCopied f size n 0 out (flat_map (le_bytes size) xs)
copied_start f size n out xs e long =
    let none : 0 ≡ size * 0 = omega arith in
    let whole : n ≡ n - 0 = omega arith in
    subst (λ (i : ℕ). IsFilled out i (flat_map (le_bytes size) (map f (range_with_len 0 (n - 0)))) (flat_map (le_bytes size) xs)) none
    (subst (λ (i : ℕ). IsFilled out 0 (flat_map (le_bytes size) (map f (range_with_len 0 i))) (flat_map (le_bytes size) xs)) whole
    (subst (λ (l : List ℕ). IsFilled out 0 (flat_map (le_bytes size) l) (flat_map (le_bytes size) xs)) e (fill_start out (flat_map (le_bytes size) xs) long)))

next_is : (f : ℕ → ℕ) (size n k : ℕ) (out all : List ℕ) → k < n → IsCopied f size n k out all
    → IsFilled out (size * k) (le_bytes size (f k) ++ flat_map (le_bytes size) (map f (range_with_len (k + 1) (n - (k + 1))))) all
next_is f size n k out all lt copied =
    let next : n - k ≡ suc (n - (k + 1)) = omega arith in
    subst (λ (i : ℕ). IsFilled out (size * k) (flat_map (le_bytes size) (map f (range_with_len k i))) all) next copied

pub copied_room : (f : ℕ → ℕ) (size n k : ℕ) (out all : List ℕ) → k < n → IsCopied f size n k out all → size * k + size ≤ length out
copied_room f size n k out all lt copied =
    let room = fill_room out (size * k) (le_bytes size (f k)) _ all (next_is f size n k out all lt copied) in
    let long = little_len size (f k) in
    omega arith

pub copied_more : (f : ℕ → ℕ) (size n k x : ℕ) (out new all : List ℕ) → k < n → IsCopied f size n k out all → x ≡ f k → length new ≡ length out
    → take (size * (k + 1)) new ≡ take (size * k) out ++ le_bytes size x → IsCopied f size n (k + 1) new all
copied_more f size n k x out new all lt copied same long is =
    let rest : List ℕ = flat_map (le_bytes size) (map f (range_with_len (k + 1) (n - (k + 1)))) in
    let here : IsFilled out (size * k) (le_bytes size (f k) ++ rest) all = next_is f size n k out all lt copied in
    let size' = little_len size (f k) in
    let more = product_more size k in
    fill_more out new (size * k) (size * (k + 1)) (le_bytes size (f k)) rest all here long (is ∙ ap (λ (v : ℕ). take (size * k) out ++ le_bytes size v) same) (omega arith)

pub copied_done : (f : ℕ → ℕ) (size n k : ℕ) (out all : List ℕ) → n ≤ k → IsCopied f size n k out all → out ≡ all
copied_done f size n k out all done copied =
    let none : n - k ≡ 0 = omega arith in
    fill_done out (size * k) all (subst (λ (i : ℕ). IsFilled out (size * k) (flat_map (le_bytes size) (map f (range_with_len k i))) all) none copied)
