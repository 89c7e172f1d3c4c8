-- Ids that are picked by one set after the other.
use Rattle.std.proofs.Common.{◌≡◌, ℕ, ◌+◌, ◌^◌, ◌<◌, ◌≤◌, ◌&&◌, not, Bool, true, false, cond, List, [], ◌∷◌, map, length, get_or, take, refl, sym, ap, ◌∙◌, arith}
use Rattle.std.specs.List.{filter, fold, range_with_len}
use Rattle.std.proofs.lemmas.Bool.{false≢true}
use Rattle.std.proofs.lemmas.List.{get_or-map, length-map, take_all}
use Rattle.std.proofs.lemmas.List.Sums.{fold_more}
use Rattle.bitpack_slices.proofs.ForCallers.{none_pass, those_same, true_both}
use Rattle.bitpack_queries.proofs.lemmas.many.FoldLaws.{and_first, and_second, combined_more, first_has, has_in}
use Rattle.bitpack_slices.specs.Operations.{answer, apply, those}
use Rattle.bitpack_queries.specs.Operations.{answer_all, folded}
use Rattle.bitpack_slices.specs.Reads.{has}
use Rattle.bitpack_slices.specs.declared.operation.Operation.{Operation}
use Rattle.bitpack_slices.specs.declared.operation.Operation.TheVariants.{And, AndNot}

-- ---- numbers that pass two tests

filter_step : (q : ℕ → Bool) (x : ℕ) (ys : List ℕ) (b : Bool) → filter q (cond b (x ∷ ys) ys) ≡ cond (b && q x) (x ∷ filter q ys) (filter q ys)
filter_step q x ys true = refl
filter_step q x ys false = refl

filter_both : (p q : ℕ → Bool) (xs : List ℕ) → filter q (filter p xs) ≡ filter (λ x. p x && q x) xs
filter_both p q [] = refl
filter_both p q (x ∷ xs) = filter_step q x (filter p xs) (p x) ∙ ap (λ (ys : List ℕ). cond (p x && q x) (x ∷ ys) ys) (filter_both p q xs)

pub those_both : (n : ℕ) (p q : ℕ → Bool) → filter q (those n p) ≡ those n (λ x. p x && q x)
unfolding those
those_both n p q = filter_both p q (range_with_len 0 n)

-- ---- ids that two sets have, and each of others so far

abbrev pub common : List ℕ → List ℕ → List (List ℕ) → ℕ → ℕ → Bool
common xs ys sets i x = fold (apply And) (has x xs && has x ys) (take i (map (has x) sets))

pub common_more : (xs ys : List ℕ) (sets : List (List ℕ)) (i x : ℕ) → i < length sets → common xs ys sets (i + 1) x ≡ (common xs ys sets i x && has x (get_or sets i []))
common_more xs ys sets i x h =
    fold_more (apply And) (has x xs && has x ys) (map (has x) sets) i false (omega (arith, length-map sets (has x)))
    ∙ ap (λ (b : Bool). common xs ys sets i x && b) (get_or-map (has x) sets i [] false h)

and_skip : (p q : Bool) → (p ≡ true → q ≡ true) → (p && q) ≡ p
and_skip true q f = f refl
and_skip false q f = refl

pub common_first : (xs ys : List ℕ) (sets : List (List ℕ)) (i x : ℕ) → i < length sets → get_or sets i [] ≡ xs → common xs ys sets (i + 1) x ≡ common xs ys sets i x
common_first xs ys sets i x h e =
    common_more xs ys sets i x h ∙ and_skip (common xs ys sets i x) (has x (get_or sets i [])) (λ t. ap (has x) e ∙ and_first (has x xs) (has x ys) (first_has (has x xs && has x ys) (take i (map (has x) sets)) t))

pub common_second : (xs ys : List ℕ) (sets : List (List ℕ)) (i x : ℕ) → i < length sets → get_or sets i [] ≡ ys → common xs ys sets (i + 1) x ≡ common xs ys sets i x
common_second xs ys sets i x h e =
    common_more xs ys sets i x h ∙ and_skip (common xs ys sets i x) (has x (get_or sets i [])) (λ t. ap (has x) e ∙ and_second (has x xs) (has x ys) (first_has (has x xs && has x ys) (take i (map (has x) sets)) t))

and_turned : (a b c : Bool) → ((a && b) && c) ≡ (a && (b && c))
and_turned true b c = refl
and_turned false b c = refl

fold_and : (a b : Bool) (bs : List Bool) → fold (apply And) (a && b) bs ≡ (a && fold (apply And) b bs)
fold_and a b [] = refl
fold_and a b (c ∷ bs) = ap (λ (d : Bool). fold (apply And) d bs) (and_turned a b c) ∙ fold_and a (b && c) bs

and_after : (p q : Bool) → (q ≡ true → p ≡ true) → (p && q) ≡ q
and_after true q f = refl
and_after false true f = absurd (false≢true (f refl))
and_after false false f = refl

all_of : (c : Bool) (bs : List Bool) → 0 < length bs → (folded And bs ≡ true → c ≡ true) → fold (apply And) c bs ≡ folded And bs
all_of c [] some f = absurd (omega arith)
all_of c (b ∷ bs) some f = fold_and c b bs ∙ and_after c (fold (apply And) b bs) f

pub common_all : (sets : List (List ℕ)) (a b i x : ℕ) → a < length sets → b < length sets → length sets ≤ i
    → common (get_or sets a []) (get_or sets b []) sets i x ≡ folded And (map (has x) sets)
common_all sets a b i x h k l =
    let long = length-map sets (has x) in
    ap (fold (apply And) (has x (get_or sets a []) && has x (get_or sets b []))) (take_all i (map (has x) sets) (omega arith))
    ∙ all_of (has x (get_or sets a []) && has x (get_or sets b [])) (map (has x) sets) (omega arith)
    (λ t. true_both (has x (get_or sets a [])) (has x (get_or sets b [])) (has_in x sets a t h) (has_in x sets b t k))

-- a set picks those that it has
pub pick_more : (xs ys zs : List ℕ) (sets : List (List ℕ)) (i : ℕ) (old new : List ℕ) → i < length sets → get_or sets i [] ≡ zs → old ≡ those (2 ^ 32) (common xs ys sets i)
    → new ≡ filter (λ x. has x zs) old → new ≡ those (2 ^ 32) (common xs ys sets (i + 1))
pick_more xs ys zs sets i old new h e are picked =
    picked ∙ ap (filter (λ x. has x zs)) are ∙ those_both (2 ^ 32) (common xs ys sets i) (λ x. has x zs)
    ∙ those_same (2 ^ 32) _ _ (λ x small. ap (λ (ws : List ℕ). common xs ys sets i x && has x ws) (sym e) ∙ sym (common_more xs ys sets i x h))

-- ---- ids that the first set has, and none of others so far

abbrev pub alone : List (List ℕ) → ℕ → ℕ → Bool
alone sets i x = folded AndNot (take i (map (has x) sets))

alone_more : (sets : List (List ℕ)) (i x : ℕ) → 0 < i → i < length sets → alone sets (i + 1) x ≡ (alone sets i x && not (has x (get_or sets i [])))
alone_more sets i x some h =
    combined_more AndNot (map (has x) sets) i false some (omega (arith, length-map sets (has x)))
    ∙ ap (λ (b : Bool). alone sets i x && not b) (get_or-map (has x) sets i [] false h)

pub drop_more : (zs : List ℕ) (sets : List (List ℕ)) (i : ℕ) (old new : List ℕ) → 0 < i → i < length sets → get_or sets i [] ≡ zs → old ≡ those (2 ^ 32) (alone sets i)
    → new ≡ filter (λ x. not (has x zs)) old → new ≡ those (2 ^ 32) (alone sets (i + 1))
drop_more zs sets i old new some h e are picked =
    picked ∙ ap (filter (λ x. not (has x zs))) are ∙ those_both (2 ^ 32) (alone sets i) (λ x. not (has x zs))
    ∙ those_same (2 ^ 32) _ _ (λ x small. ap (λ (ws : List ℕ). alone sets i x && not (has x ws)) (sym e) ∙ sym (alone_more sets i x some h))

-- ---- of no set and of two

pub none_of_none : (operation : Operation) (sets : List (List ℕ)) → length sets ≡ 0 → answer_all operation sets ≡ []
none_of_none operation [] e = none_pass (2 ^ 32) (λ x. false) (λ x h. refl)
none_of_none operation (xs ∷ sets) e = absurd (omega arith)

pub two_sets : (operation : Operation) (xs ys : List ℕ) (sets : List (List ℕ)) → length sets ≡ 2 → get_or sets 0 [] ≡ xs → get_or sets 1 [] ≡ ys → answer operation xs ys ≡ answer_all operation sets
two_sets operation xs ys [] l e f = absurd (omega arith)
two_sets operation xs ys (zs ∷ []) l e f = absurd (omega arith)
two_sets operation xs ys (zs ∷ ws ∷ []) l e f = ap (λ (a : List ℕ). answer operation a ys) (sym e) ∙ ap (answer operation zs) (sym f)
two_sets operation xs ys (zs ∷ ws ∷ vs ∷ sets) l e f = absurd (omega arith)
