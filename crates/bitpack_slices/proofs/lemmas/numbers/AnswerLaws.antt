-- The numbers below a bound that pass a test, and the answer chunk by chunk.
use Rattle.std.proofs.Common.{length, ◌≡◌, ℕ, ◌+◌, ◌-◌, ◌^◌, ◌<◌, ◌≤◌, Bool, true, false, List, [], ◌++◌, map, refl, sym, ap, ◌∙◌, arith}
use Rattle.std.specs.List.{filter, range_with_len}
use Rattle.bitpack_slices.proofs.lemmas.bits.BitmapLaws.{those_few, those_none, those_raised, those_split}
use Rattle.bitpack_slices.proofs.lemmas.bits.CombineLaws.{apply_none}
use Rattle.bitpack_slices.proofs.lemmas.bodies.LoadLaws.{filtered_same}
use Rattle.bitpack_slices.specs.Operations.{answer, apply, combined, those}
use Rattle.bitpack_slices.specs.Reads.{has}
use Rattle.bitpack_slices.specs.declared.operation.Operation.{Operation}

pub none_left : (operation : Operation) (p : Bool) → apply operation true false ≡ false → apply operation p false ≡ false
none_left operation true h = h
none_left operation false h = apply_none operation false false refl refl

pub none_right : (operation : Operation) (q : Bool) → apply operation false true ≡ false → apply operation false q ≡ false
none_right operation true h = h
none_right operation false h = apply_none operation false false refl refl

-- ---- the numbers below a bound that pass a test

pub those_same : (n : ℕ) (p q : ℕ → Bool) → ((x : ℕ) → x < n → p x ≡ q x) → those n p ≡ those n q
unfolding those
those_same n p q same = filtered_same p q 0 n (λ x a b. same x (omega arith))

pub none_pass : (n : ℕ) (p : ℕ → Bool) → ((x : ℕ) → x < n → p x ≡ false) → those n p ≡ []
unfolding those
none_pass n p none = those_none p 0 n (λ x a b. none x (omega arith))

-- cut into what is before a part, the part, and what is after it
range_cut : (p : ℕ → Bool) (low size more : ℕ) → filter p (range_with_len 0 (low + (size + more)))
    ≡ filter p (range_with_len 0 low) ++ (filter p (range_with_len low size) ++ filter p (range_with_len (low + size) more))
range_cut p low size more =
    let e : 0 + low ≡ low = omega arith in
    those_split p 0 low (size + more)
    ∙ ap (λ (xs : List ℕ). filter p (range_with_len 0 low) ++ xs) (ap (λ (l : ℕ). filter p (range_with_len l (size + more))) e ∙ those_split p low size more)

-- a part of the numbers comes before all that is left
pub those_part : (n low size : ℕ) (p q r : ℕ → Bool) → low + size ≤ n → ((x : ℕ) → x < low → p x ≡ false) → ((x : ℕ) → x < size → p (low + x) ≡ q x)
    → ((x : ℕ) → x < low + size → r x ≡ false) → ((x : ℕ) → low + size ≤ x → x < n → p x ≡ r x)
    → those n p ≡ map (λ i. low + i) (those size q) ++ those n r
unfolding those
those_part n low size p q r room before own passed after =
    let more : ℕ = n - (low + size) in
    let all : n ≡ low + (size + more) = omega arith in
    let zero_low : low + 0 ≡ low = omega arith in
    ap (λ (m : ℕ). filter p (range_with_len 0 m)) all ∙ range_cut p low size more
    ∙ ap (λ (xs : List ℕ). xs ++ (filter p (range_with_len low size) ++ filter p (range_with_len (low + size) more))) (those_none p 0 low (λ x a b. before x (omega arith)))
    ∙ ap (λ (xs : List ℕ). xs ++ filter p (range_with_len (low + size) more))
    (ap (λ (l : ℕ). filter p (range_with_len l size)) (sym zero_low) ∙ those_raised p low 0 size
    ∙ ap (map (λ i. low + i)) (filtered_same (λ i. p (low + i)) q 0 size (λ x a b. own x (omega arith))))
    ∙ ap (λ (xs : List ℕ). map (λ i. low + i) (filter q (range_with_len 0 size)) ++ xs)
    (filtered_same p r (low + size) more (λ x a b. after x a (omega arith))
    ∙ sym (ap (λ (m : ℕ). filter r (range_with_len 0 m)) all ∙ range_cut r low size more
    ∙ ap (λ (xs : List ℕ). xs ++ (filter r (range_with_len low size) ++ filter r (range_with_len (low + size) more))) (those_none r 0 low (λ x a b. passed x (omega arith)))
    ∙ ap (λ (xs : List ℕ). xs ++ filter r (range_with_len (low + size) more)) (those_none r low size (λ x a b. passed x (omega arith)))))

pub each : (operation : Operation) (p p' q q' : Bool) → p ≡ p' → q ≡ q' → apply operation p q ≡ apply operation p' q'
each operation p p' q q' e f = ap (λ (b : Bool). apply operation b q) e ∙ ap (apply operation p') f

-- numbers that two lists share are combined alike
pub combined_has : (operation : Operation) (xs xs' ys ys' : List ℕ) → ((x : ℕ) → x < 65536 → has x xs ≡ has x xs') → ((x : ℕ) → x < 65536 → has x ys ≡ has x ys')
    → combined 65536 operation xs ys ≡ combined 65536 operation xs' ys'
combined_has operation xs xs' ys ys' left right =
    those_same 65536 (λ x. apply operation (has x xs) (has x ys)) (λ x. apply operation (has x xs') (has x ys')) (λ x small.
    each operation (has x xs) (has x xs') (has x ys) (has x ys') (left x small) (right x small))

pub answer_few : (operation : Operation) (xs ys : List ℕ) → length (answer operation xs ys) ≤ 2 ^ 32
answer_few operation xs ys = those_few (2 ^ 32) (λ x. apply operation (has x xs) (has x ys))
