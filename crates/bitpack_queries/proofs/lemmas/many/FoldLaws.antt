-- Sets that are folded from the first to the last.
use Rattle.std.proofs.Common.{◌≡◌, ℕ, zero, suc, ◌+◌, ◌/◌, ◌^◌, ◌<◌, ◌≤◌, ◌≢◌, ◌==◌, ◌&&◌, ◌||◌, ◌⊎◌, not, inl, inr, Bool, true, false, List, [], ◌∷◌, map, length, get_or, set, take, refl, sym, ap, ◌∙◌, arith}
use Rattle.std.proofs.Math.Bool.{and-false, and-true, or-false}
use Rattle.std.specs.List.{fold}
use Rattle.std.proofs.lemmas.Bool.{cases_eq, cases_lt, false≢true, true≢false}
use Rattle.std.proofs.lemmas.Bool.Decides.{nat_tests}
use Rattle.std.proofs.lemmas.List.{get_or-map, get_or-set_other, get_or-set_same, length-map, length-set, set-get_or, take_all}
use Rattle.std.proofs.lemmas.List.Sums.{fold_more}
use Rattle.bitpack_queries.proofs.lemmas.two.AnswerLaws.{listed_has}
use Rattle.bitpack_slices.proofs.ForCallers.{map_zero, retained, those_rise}
use Rattle.bitpack_slices.specs.Bodies.{IsRising}
use Rattle.bitpack_slices.specs.Bitmaps.{has_high}
use Rattle.bitpack_queries.specs.Folds.{high_of, swapped}
use Rattle.bitpack_slices.specs.Operations.{apply, those}
use Rattle.bitpack_queries.specs.Operations.{answer_all, folded}
use Rattle.bitpack_sets.specs.Sets.{IsSet}
use Rattle.bitpack_slices.specs.Reads.{has}
use Rattle.bitpack_slices.specs.declared.operation.Operation.{Operation}
use Rattle.bitpack_slices.specs.declared.operation.Operation.TheVariants.{And, Or, AndNot, Xor}

-- ---- the answer set by set

pub combined_more : (operation : Operation) (bs : List Bool) (i : ℕ) (z : Bool) → 0 < i → i < length bs → folded operation (take (i + 1) bs) ≡ apply operation (folded operation (take i bs)) (get_or bs i z)
combined_more operation [] i z p l = absurd (omega arith)
combined_more operation (b ∷ bs) zero z p l = absurd (omega arith)
combined_more operation (b ∷ bs) (suc i) z p l =
    let e : suc i + 1 ≡ suc (i + 1) = omega arith in
    ap (λ n. folded operation (take n (b ∷ bs))) e ∙ fold_more (apply operation) b bs i z (omega arith)

pub combined_first : (operation : Operation) (bs : List Bool) (z : Bool) → 0 < length bs → folded operation (take 1 bs) ≡ get_or bs 0 z
combined_first operation [] z l = absurd (omega arith)
combined_first operation (b ∷ bs) z l = refl

-- ---- an operation on what is false

pub neither : (operation : Operation) → apply operation false false ≡ false
neither And = refl
neither Or = refl
neither AndNot = refl
neither Xor = refl

-- ---- high bytes

no_high_step : (x y : ℕ) (a b : Bool) → ((y / 256 == x / 256) || a) ≡ false → (a ≡ false → b ≡ false) → ((y == x) || b) ≡ false
no_high_step x y a b h later = grind (arith, nat_tests)

pub no_high : (x : ℕ) (xs : List ℕ) → has_high (x / 256) xs ≡ false → has x xs ≡ false
no_high x [] h = refl
no_high x (y ∷ ys) h = no_high_step x y (has_high (x / 256) ys) (has x ys) h (no_high x ys)

-- what high bytes rule out
pub none_of_highs : (operation : Operation) (p q a b : Bool) → (p ≡ false → a ≡ false) → (q ≡ false → b ≡ false) → apply operation p q ≡ false → apply operation p false ≡ false → apply operation false q ≡ false → apply operation a b ≡ false
none_of_highs operation p q false false f g both left right = neither operation
none_of_highs operation true true true true f g both left right = both
none_of_highs operation true q true false f g both left right = left
none_of_highs operation p true false true f g both left right = right
none_of_highs operation false q true b f g both left right = absurd (false≢true (sym (f refl)))
none_of_highs operation p false a true f g both left right = absurd (false≢true (sym (g refl)))

-- ---- the numbers below a bound that pass a test

-- the high bytes that are written at the start
pub listed : (out xs : List ℕ) (n : ℕ) → take n out ≡ map (λ i. 0 + i) xs → take n out ≡ xs
listed out xs n e = e ∙ map_zero xs

-- no high byte is listed
pub none_listed : (out : List ℕ) (n h : ℕ) (p : ℕ → Bool) → take n out ≡ map (λ i. 0 + i) (those 256 p) → n ≡ 0 → h < 256 → p h ≡ false
none_listed out n h p e z small = sym (listed_has (take n out) p h e small) ∙ ap (λ (k : ℕ). has h (take k out)) z

-- ---- a chunk of the answer

pub part_own : (before member bit : Bool) → (member ≡ false → before ≡ false) → (member ≡ true → bit ≡ before) → before ≡ (member && bit)
part_own before true bit none own = sym (own refl)
part_own before false bit none own = none refl

-- ---- the numbers of a key

pub and_cleared : (a b c : Bool) → a ≡ (b && c) → c ≡ false → a ≡ false
and_cleared a b c e f = e ∙ ap (λ (d : Bool). b && d) f ∙ and-false b

-- a number is combined, if the answer has none of the second set alone
pub cut_has : (operation : Operation) (h o w w' b n : Bool) → apply operation false true ≡ false → n ≡ high_of operation h o → (o ≡ false → b ≡ false)
    → ((h && o) ≡ true → w' ≡ apply operation w b) → ((h && o) ≡ false → w' ≡ w) → (n && w') ≡ apply operation (h && w) b
cut_has And true true w w' b n k e f g r = ap (λ (m : Bool). m && w') e ∙ g refl
cut_has And true false w w' b n k e f g r = ap (λ (m : Bool). m && w') e ∙ sym (ap (λ (c : Bool). w && c) (f refl) ∙ and-false w)
cut_has And false o w w' b n k e f g r = ap (λ (m : Bool). m && w') e
cut_has AndNot true true w w' b n k e f g r = ap (λ (m : Bool). m && w') e ∙ g refl
cut_has AndNot true false w w' b n k e f g r = ap (λ (m : Bool). m && w') e ∙ r refl ∙ sym (ap (λ (c : Bool). w && not c) (f refl) ∙ and-true w)
cut_has AndNot false o w w' b n k e f g r = ap (λ (m : Bool). m && w') e
cut_has Or h o w w' b n k e f g r = absurd (true≢false k)
cut_has Xor h o w w' b n k e f g r = absurd (true≢false k)

-- a number is combined, if the answer has those of the second set alone: bits of high bytes that are new are cleared before
pub joined_has : (operation : Operation) (h o w w' w'' b n : Bool) → apply operation false true ≡ true → n ≡ high_of operation h o → (o ≡ false → b ≡ false)
    → ((o && not h) ≡ true → w' ≡ false) → ((o && not h) ≡ false → w' ≡ w) → (o ≡ true → w'' ≡ apply operation w' b) → (o ≡ false → w'' ≡ w')
    → (n && w'') ≡ apply operation (h && w) b
joined_has Or true true w w' w'' b n k e f q r s t = ap (λ (m : Bool). m && w'') e ∙ s refl ∙ ap (λ (c : Bool). c || b) (r refl)
joined_has Or true false w w' w'' b n k e f q r s t = ap (λ (m : Bool). m && w'') e ∙ t refl ∙ r refl ∙ sym (ap (λ (c : Bool). w || c) (f refl) ∙ or-false w)
joined_has Or false true w w' w'' b n k e f q r s t = ap (λ (m : Bool). m && w'') e ∙ s refl ∙ ap (λ (c : Bool). c || b) (q refl)
joined_has Or false false w w' w'' b n k e f q r s t = ap (λ (m : Bool). m && w'') e ∙ sym (f refl)
joined_has Xor true true w w' w'' b n k e f q r s t = ap (λ (m : Bool). m && w'') e ∙ s refl ∙ ap (λ (c : Bool). apply Xor c b) (r refl)
joined_has Xor true false w w' w'' b n k e f q r s t = ap (λ (m : Bool). m && w'') e ∙ t refl ∙ r refl ∙ sym (ap (apply Xor w) (f refl) ∙ retained Xor w refl)
joined_has Xor false true w w' w'' b n k e f q r s t = ap (λ (m : Bool). m && w'') e ∙ s refl ∙ ap (λ (c : Bool). apply Xor c b) (q refl)
joined_has Xor false false w w' w'' b n k e f q r s t = ap (λ (m : Bool). m && w'') e ∙ sym (f refl)
joined_has And h o w w' w'' b n k e f q r s t = absurd (false≢true k)
joined_has AndNot h o w w' w'' b n k e f q r s t = absurd (false≢true k)

-- ---- the first of several sets and another are exchanged

pub swapped_len : (first : ℕ) (sets : List (List ℕ)) → length (swapped first sets) ≡ length sets
unfolding swapped
swapped_len first sets = length-set (set sets 0 (get_or sets first [])) first (get_or sets 0 []) ∙ length-set sets 0 (get_or sets first [])

pub swapped_first : (first : ℕ) (sets : List (List ℕ)) → first < length sets → get_or (swapped first sets) 0 [] ≡ get_or sets first []
unfolding swapped
swapped_first zero sets h =
    get_or-set_same (set sets 0 (get_or sets 0 [])) 0 (get_or sets 0 []) [] (omega (arith, length-set sets 0 (get_or sets 0 [])))
swapped_first (suc first) sets h =
    get_or-set_other (set sets 0 (get_or sets (suc first) [])) (suc first) 0 (get_or sets 0 []) [] (λ e. omega arith)
    ∙ get_or-set_same sets 0 (get_or sets (suc first) []) [] (omega arith)

pub swapped_same : (first : ℕ) (sets : List (List ℕ)) → first < length sets → get_or (swapped first sets) first [] ≡ get_or sets 0 []
unfolding swapped
swapped_same first sets h =
    get_or-set_same (set sets 0 (get_or sets first [])) first (get_or sets 0 []) [] (omega (arith, length-set sets 0 (get_or sets first [])))

pub swapped_other : (first i : ℕ) (sets : List (List ℕ)) → 0 < i → i ≢ first → get_or (swapped first sets) i [] ≡ get_or sets i []
unfolding swapped
swapped_other first i sets some other =
    get_or-set_other (set sets 0 (get_or sets first [])) first i (get_or sets 0 []) [] (λ e. omega arith)
    ∙ get_or-set_other sets 0 i (get_or sets first []) [] (λ e. omega arith)

-- all have an id exactly if each has it
all_after : (b : Bool) (bs : List Bool) → b ≡ true → ((i : ℕ) → i < length bs → get_or bs i false ≡ true) → fold (apply And) b bs ≡ true
all_after b [] e each = e
all_after b (d ∷ bs) e each = all_after (b && d) bs (ap (λ (c : Bool). c && d) e ∙ each 0 (omega arith)) (λ i h. each (suc i) (omega arith))

all_have : (bs : List Bool) → 0 < length bs → ((i : ℕ) → i < length bs → get_or bs i false ≡ true) → folded And bs ≡ true
all_have [] some each = absurd (omega arith)
all_have (b ∷ bs) some each = all_after b bs (each 0 (omega arith)) (λ i h. each (suc i) (omega arith))

pub and_first : (a b : Bool) → (a && b) ≡ true → a ≡ true
and_first true b h = refl
and_first false b h = absurd (false≢true h)

pub and_second : (a b : Bool) → (a && b) ≡ true → b ≡ true
and_second true b h = h
and_second false b h = absurd (false≢true h)

pub first_has : (b : Bool) (bs : List Bool) → fold (apply And) b bs ≡ true → b ≡ true
first_has b [] h = h
first_has b (d ∷ bs) h = and_first b d (first_has (b && d) bs h)

later_has : (b : Bool) (bs : List Bool) (i : ℕ) → fold (apply And) b bs ≡ true → i < length bs → get_or bs i false ≡ true
later_has b [] i h l = absurd (omega arith)
later_has b (d ∷ bs) zero h l = and_second b d (first_has (b && d) bs h)
later_has b (d ∷ bs) (suc i) h l = later_has (b && d) bs i h (omega arith)

pub each_has : (bs : List Bool) (i : ℕ) → folded And bs ≡ true → i < length bs → get_or bs i false ≡ true
each_has [] i h l = absurd (omega arith)
each_has (b ∷ bs) zero h l = first_has b bs h
each_has (b ∷ bs) (suc i) h l = later_has b bs i h (omega arith)

pub has_in : (x : ℕ) (sets : List (List ℕ)) (i : ℕ) → folded And (map (has x) sets) ≡ true → i < length sets → has x (get_or sets i []) ≡ true
has_in x sets i h l = sym (get_or-map (has x) sets i [] false l) ∙ each_has (map (has x) sets) i h (omega (arith, length-map sets (has x)))

in_all : (x : ℕ) (sets : List (List ℕ)) → 0 < length sets → ((i : ℕ) → i < length sets → has x (get_or sets i []) ≡ true) → folded And (map (has x) sets) ≡ true
in_all x sets some each =
    let long = length-map sets (has x) in
    all_have (map (has x) sets) (omega arith) (λ i l. get_or-map (has x) sets i [] false (omega arith) ∙ each i (omega arith))

bool_same : (a b : Bool) → (a ≡ true → b ≡ true) → (b ≡ true → a ≡ true) → a ≡ b
bool_same true true f g = refl
bool_same false false f g = refl
bool_same true false f g = sym (f refl)
bool_same false true f g = g refl

swapped_and : (x first : ℕ) (sets : List (List ℕ)) → first < length sets → folded And (map (has x) (swapped first sets)) ≡ folded And (map (has x) sets)
swapped_and x first sets h =
    let long = swapped_len first sets in
    bool_same _ _
    (λ all. in_all x sets (omega arith) (λ i l. elim (cases_eq i first) [
      | inl same ↦ ap (λ (k : ℕ). has x (get_or sets k [])) same ∙ ap (has x) (sym (swapped_first first sets h)) ∙ has_in x (swapped first sets) 0 all (omega arith)
      | inr apart ↦ elim (cases_lt 0 i) [
        | inl some ↦ ap (has x) (sym (swapped_other first i sets some apart)) ∙ has_in x (swapped first sets) i all (omega arith)
        | inr none ↦ (let e : i ≡ 0 = omega arith in ap (λ (k : ℕ). has x (get_or sets k [])) e ∙ ap (has x) (sym (swapped_same first sets h)) ∙ has_in x (swapped first sets) first all (omega arith))
      ]
    ]))
    (λ all. in_all x (swapped first sets) (omega arith) (λ i l. elim (cases_eq i first) [
      | inl same ↦ ap (λ (k : ℕ). has x (get_or (swapped first sets) k [])) same ∙ ap (has x) (swapped_same first sets h) ∙ has_in x sets 0 all (omega arith)
      | inr apart ↦ elim (cases_lt 0 i) [
        | inl some ↦ ap (has x) (swapped_other first i sets some apart) ∙ has_in x sets i all (omega arith)
        | inr none ↦ (let e : i ≡ 0 = omega arith in ap (λ (k : ℕ). has x (get_or (swapped first sets) k [])) e ∙ ap (has x) (swapped_first first sets h) ∙ has_in x sets first all h)
      ]
    ]))

swapped_zero : (sets : List (List ℕ)) → swapped 0 sets ≡ sets
unfolding swapped
swapped_zero sets = ap (λ (zs : List (List ℕ)). set zs 0 (get_or sets 0 [])) (set-get_or sets 0 []) ∙ set-get_or sets 0 []

-- that changes nothing, if it is the first itself, or if all have to have an id
pub swapped_answer : (operation : Operation) (x first : ℕ) (sets : List (List ℕ)) → first < length sets → (first ≡ 0) ⊎ (operation ≡ And)
    → folded operation (map (has x) (swapped first sets)) ≡ folded operation (map (has x) sets)
swapped_answer operation x first sets h (inl e) =
    ap (λ (k : ℕ). folded operation (map (has x) (swapped k sets))) e ∙ ap (λ (zs : List (List ℕ)). folded operation (map (has x) zs)) (swapped_zero sets)
swapped_answer operation x first sets h (inr e) =
    ap (λ (o : Operation). folded o (map (has x) (swapped first sets))) e ∙ swapped_and x first sets h ∙ sym (ap (λ (o : Operation). folded o (map (has x) sets)) e)

-- ---- one set more

pub set_ids : {A : Type 0} (f : A → List ℕ) (sets : List A) (i : ℕ) (s : A) → i < length sets → s ≡ get_or sets i s → get_or (map f sets) i [] ≡ f s
set_ids f sets i s h e = get_or-map f sets i s [] h ∙ ap f (sym e)

pub first_taken : (operation : Operation) (x first : ℕ) (sets : List (List ℕ)) → first < length sets → folded operation (take 1 (map (has x) (swapped first sets))) ≡ has x (get_or sets first [])
first_taken operation x first sets h =
    let long = swapped_len first sets in
    combined_first operation (map (has x) (swapped first sets)) false (omega (arith, length-map (swapped first sets) (has x)))
    ∙ get_or-map (has x) (swapped first sets) 0 [] false (omega arith) ∙ ap (has x) (swapped_first first sets h)

pub next_taken : (operation : Operation) (x first i : ℕ) (sets : List (List ℕ)) (own : List ℕ) → 0 < i → i < length sets → get_or (swapped first sets) i [] ≡ own
    → folded operation (take (i + 1) (map (has x) (swapped first sets))) ≡ apply operation (folded operation (take i (map (has x) (swapped first sets)))) (has x own)
next_taken operation x first i sets own some h e =
    let long = swapped_len first sets in
    combined_more operation (map (has x) (swapped first sets)) i false some (omega (arith, length-map (swapped first sets) (has x)))
    ∙ ap (apply operation (folded operation (take i (map (has x) (swapped first sets))))) (get_or-map (has x) (swapped first sets) i [] false (omega arith) ∙ ap (has x) e)

pub all_taken : (operation : Operation) (x first i : ℕ) (sets : List (List ℕ)) → length sets ≤ i
    → folded operation (take i (map (has x) (swapped first sets))) ≡ folded operation (map (has x) (swapped first sets))
all_taken operation x first i sets h =
    let long = swapped_len first sets in
    ap (folded operation) (take_all i (map (has x) (swapped first sets)) (omega (arith, length-map (swapped first sets) (has x))))

-- ---- the answer

pub answer_rises : (operation : Operation) (sets : List (List ℕ)) → IsRising 0 (2 ^ 32) (answer_all operation sets)
answer_rises operation sets = those_rise (λ x. folded operation (map (has x) sets)) (2 ^ 32)

pub answer_is_set : (operation : Operation) (sets : List (List ℕ)) → length (answer_all operation sets) ≤ 2 ^ 28 → IsSet (answer_all operation sets)
answer_is_set operation sets few = record { few = few; rising = answer_rises operation sets }
