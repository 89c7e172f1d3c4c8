-- The bits of words that are combined.
use Rattle.std.proofs.Common.{◌≡◌, ◌≢◌, ℕ, zero, suc, ◌+◌, ◌/◌, ◌%◌, ◌^◌, ◌-◌, ◌<◌, ◌≤◌, Bool, true, false, ◌||◌, ◌&&◌, not, eqb, List, [], ◌∷◌, take, set, length, refl, sym, ap, ◌∙◌, arith, cond, inl, inr, get_or, min, max, bit_and, bit_or, bit_xor, eq-eqb, subst, w64}
use Rattle.std.specs.Int.{bit_at}
use Rattle.std.proofs.lemmas.Bool.{cases_eq, cases_lt, ne_eqb, or_parts, true≢false}
use Rattle.std.proofs.lemmas.Nat.Bits.{bit_at-lt, bit_at_above, bit_at_and, bit_at_not, bit_at_or, bit_at_xor}
use Rattle.bitpack_slices.proofs.lemmas.bits.BitmapLaws.{has_more, has_of, has_unchanged, has_written, next_apart}
use Rattle.bitpack_slices.specs.Bitmaps.{has_bit}
use Rattle.bitpack_slices.specs.Operations.{apply}
use Rattle.bitpack_slices.specs.Reads.{has}
use Rattle.bitpack_slices.specs.Bodies.{IsRising}
use Rattle.bitpack_slices.specs.declared.operation.Operation.{Operation}
use Rattle.bitpack_slices.specs.declared.operation.Operation.TheVariants.{And, Or, AndNot, Xor}

-- ---- words that are combined

and_of : (x y : ℕ) → x < 2 → y < 2 → eqb (min x y) 1 ≡ (eqb x 1 && eqb y 1)
and_of zero zero h k = refl
and_of zero (suc zero) h k = refl
and_of zero (suc (suc y)) h k = absurd (omega arith)
and_of (suc zero) zero h k = refl
and_of (suc zero) (suc zero) h k = refl
and_of (suc zero) (suc (suc y)) h k = absurd (omega arith)
and_of (suc (suc x)) y h k = absurd (omega arith)

or_of : (x y : ℕ) → x < 2 → y < 2 → eqb (max x y) 1 ≡ (eqb x 1 || eqb y 1)
or_of zero zero h k = refl
or_of zero (suc zero) h k = refl
or_of zero (suc (suc y)) h k = absurd (omega arith)
or_of (suc zero) zero h k = refl
or_of (suc zero) (suc zero) h k = refl
or_of (suc zero) (suc (suc y)) h k = absurd (omega arith)
or_of (suc (suc x)) y h k = absurd (omega arith)

xor_of : (x y : ℕ) → x < 2 → y < 2 → eqb ((x + y) % 2) 1 ≡ cond (eqb x 1) (not (eqb y 1)) (eqb y 1)
xor_of zero zero h k = refl
xor_of zero (suc zero) h k = refl
xor_of zero (suc (suc y)) h k = absurd (omega arith)
xor_of (suc zero) zero h k = refl
xor_of (suc zero) (suc zero) h k = refl
xor_of (suc zero) (suc (suc y)) h k = absurd (omega arith)
xor_of (suc (suc x)) y h k = absurd (omega arith)

pub not_of : (y : ℕ) → y < 2 → eqb (1 - y) 1 ≡ not (eqb y 1)
not_of zero h = refl
not_of (suc zero) h = refl
not_of (suc (suc y)) h = absurd (omega arith)

none_in : (x y : ℕ) (b : Bool) → x ≡ 0 → eqb (min x y) 1 ≡ (eqb x 1 && b)
none_in zero y b h = let e : min 0 y ≡ 0 = omega arith in ap (λ (n : ℕ). eqb n 1) e
none_in (suc x) y b h = absurd (omega arith)

pub word_and : (a b i : ℕ) → eqb (bit_at (bit_and a b) i) 1 ≡ (eqb (bit_at a i) 1 && eqb (bit_at b i) 1)
word_and a b i = ap (λ (n : ℕ). eqb n 1) (bit_at_and a b i) ∙ and_of (bit_at a i) (bit_at b i) (bit_at-lt a i) (bit_at-lt b i)

pub word_or : (a b i : ℕ) → eqb (bit_at (bit_or a b) i) 1 ≡ (eqb (bit_at a i) 1 || eqb (bit_at b i) 1)
word_or a b i = ap (λ (n : ℕ). eqb n 1) (bit_at_or a b i) ∙ or_of (bit_at a i) (bit_at b i) (bit_at-lt a i) (bit_at-lt b i)

pub word_xor : (a b i : ℕ) → eqb (bit_at (bit_xor a b) i) 1 ≡ cond (eqb (bit_at a i) 1) (not (eqb (bit_at b i) 1)) (eqb (bit_at b i) 1)
word_xor a b i = ap (λ (n : ℕ). eqb n 1) (bit_at_xor a b i) ∙ xor_of (bit_at a i) (bit_at b i) (bit_at-lt a i) (bit_at-lt b i)

pub word_and_not : (a b i : ℕ) → a < 2 ^ 64 → b < 2 ^ 64 → eqb (bit_at (bit_and a (2 ^ 64 - 1 - b)) i) 1 ≡ (eqb (bit_at a i) 1 && not (eqb (bit_at b i) 1))
word_and_not a b i small small' = elim (cases_lt i 64) [
  | inl less ↦
      word_and a (2 ^ 64 - 1 - b) i ∙ ap (λ (n : ℕ). eqb (bit_at a i) 1 && eqb n 1) (bit_at_not w64 b i small' less)
      ∙ ap (λ (c : Bool). eqb (bit_at a i) 1 && c) (not_of (bit_at b i) (bit_at-lt b i))
  | inr more ↦
      ap (λ (n : ℕ). eqb n 1) (bit_at_and a (2 ^ 64 - 1 - b) i) ∙ none_in (bit_at a i) (bit_at (2 ^ 64 - 1 - b) i) (not (eqb (bit_at b i) 1)) (bit_at_above a 64 i small more)
]

-- what is in neither set is not in the answer
pub apply_none : (operation : Operation) (x y : Bool) → x ≡ false → y ≡ false → apply operation x y ≡ false
apply_none And x y h k = ap (λ (b : Bool). b && y) h
apply_none Or x y h k = ap (λ (b : Bool). b || y) h ∙ k
apply_none AndNot x y h k = ap (λ (b : Bool). b && not y) h
apply_none Xor x y h k = ap (λ (b : Bool). cond b (not y) y) h ∙ k

-- ---- four words

-- the bits of a word are those that an operation gives of the words at a position
abbrev pub IsCombined : Operation → List ℕ → List ℕ → ℕ → ℕ → Type 0
IsCombined operation a b q word = (i : ℕ) → eqb (bit_at word i) 1 ≡ apply operation (eqb (bit_at (get_or a q 0) i) 1) (eqb (bit_at (get_or b q 0) i) 1)

at_word : (operation : Operation) (a b : List ℕ) (r s t u : ℕ) → IsCombined operation a b 0 r → IsCombined operation a b 1 s → IsCombined operation a b 2 t
    → IsCombined operation a b 3 u → (q : ℕ) → q < 4 → IsCombined operation a b q (get_or (r ∷ s ∷ t ∷ u ∷ []) q 0)
at_word operation a b r s t u c d e f zero h = c
at_word operation a b r s t u c d e f (suc zero) h = d
at_word operation a b r s t u c d e f (suc (suc zero)) h = e
at_word operation a b r s t u c d e f (suc (suc (suc zero))) h = f
at_word operation a b r s t u c d e f (suc (suc (suc (suc q)))) h = absurd (omega arith)

pub four_combined : (operation : Operation) (a b : List ℕ) (r s t u : ℕ) → IsCombined operation a b 0 r → IsCombined operation a b 1 s → IsCombined operation a b 2 t
    → IsCombined operation a b 3 u → (h : ℕ) → h < 256 → has_bit (r ∷ s ∷ t ∷ u ∷ []) h ≡ apply operation (has_bit a h) (has_bit b h)
unfolding has_bit
four_combined operation a b r s t u c d e f h small = at_word operation a b r s t u c d e f (h / 64) (omega arith) (h % 64)

-- what is known of a high byte that is left out
abbrev pub IsLeftOut : Operation → Bool → Bool → Type 0
IsLeftOut operation x y = (apply operation x y ≡ false) × (apply operation x false ≡ false) × (apply operation false y ≡ false)

left_by_and : (x y : Bool) → (x && y) ≡ false → IsLeftOut And x y
left_by_and true y e = (e, refl, refl)
left_by_and false y e = (e, refl, refl)

pub left_out_and : (self operation : Operation) (x y : Bool) → self ≡ And → operation ≡ And → apply operation x y ≡ false → IsLeftOut self x y
left_out_and self operation x y is same e =
    subst (λ (o : Operation). IsLeftOut o x y) (sym is) (left_by_and x y (sym (ap (λ (o : Operation). apply o x y) same) ∙ e))

pub left_out_or : (self operation : Operation) (x y : Bool) → operation ≡ Or → apply operation x y ≡ false → IsLeftOut self x y
left_out_or self operation x y same e =
    let (none, none') = or_parts x y (sym (ap (λ (o : Operation). apply o x y) same) ∙ e) in
    (apply_none self x y none none', apply_none self x false none refl, apply_none self false y refl none')

-- others give what one has alone
pub retains_one : (operation : Operation) → operation ≢ And → operation ≢ AndNot → (apply operation true false ≡ true) × (apply operation false true ≡ true)
retains_one And a b = absurd (a refl)
retains_one Or a b = (refl, refl)
retains_one AndNot a b = absurd (b refl)
retains_one Xor a b = (refl, refl)

-- ---- bitmaps

-- the bits of these high bytes are combined, and the others are as they were
pub record IsMixed (operation : Operation) (highs old words others : List ℕ) : Type 0 where
  pub done : (x : ℕ) → has (x / 256) highs ≡ true → has_bit words x ≡ apply operation (has_bit old x) (has_bit others x)
  pub rest : (x : ℕ) → has (x / 256) highs ≡ false → has_bit words x ≡ has_bit old x

pub none_mixed : (operation : Operation) (old others : List ℕ) → IsMixed operation [] old old others
none_mixed operation old others = record { done = λ x h. absurd (true≢false (sym h)); rest = λ x h. refl }

pub more_mixed : (operation : Operation) (highs old words new others : List ℕ) (i : ℕ) → IsRising 0 256 highs → i < length highs
    → ((x : ℕ) → x / 256 ≡ get_or highs i 0 → has_bit new x ≡ apply operation (has_bit words x) (has_bit others x))
    → ((x : ℕ) → x / 256 ≢ get_or highs i 0 → has_bit new x ≡ has_bit words x)
    → IsMixed operation (take i highs) old words others → IsMixed operation (take (i + 1) highs) old new others
more_mixed operation highs old words new others i rising h own retained before = record {
  done = λ x is. elim (cases_eq (x / 256) (get_or highs i 0)) [
    | inl same ↦
        own x same ∙ ap (λ (b : Bool). apply operation b (has_bit others x)) (before.rest x (ap (λ (y : ℕ). has y (take i highs)) same ∙ next_apart 0 256 i highs rising h))
    | inr other ↦
        retained x other
        ∙ before.done x (sym (ap (λ (b : Bool). b || has (x / 256) (take i highs)) (ne_eqb (x / 256) (get_or highs i 0) other)) ∙ has_more (x / 256) highs i h ∙ is)
  ];
  rest = λ x is.
      let (other, none) = or_parts (eqb (x / 256) (get_or highs i 0)) (has (x / 256) (take i highs)) (has_more (x / 256) highs i h ∙ is) in
      retained x (λ e. true≢false (sym (eq-eqb (x / 256) (get_or highs i 0) e) ∙ other)) ∙ before.rest x none;
}

-- the bits of the words from one place to another are combined
pub record IsWordsMixed (operation : Operation) (from to : ℕ) (old words others : List ℕ) : Type 0 where
  pub done : (x : ℕ) → from ≤ x / 64 → x / 64 < to → has_bit words x ≡ apply operation (has_bit old x) (has_bit others x)
  pub below : (x : ℕ) → x / 64 < from → has_bit words x ≡ has_bit old x
  pub above : (x : ℕ) → to ≤ x / 64 → has_bit words x ≡ has_bit old x

pub no_words : (operation : Operation) (from : ℕ) (old others : List ℕ) → IsWordsMixed operation from from old old others
no_words operation from old others = record { done = λ x a b. absurd (omega arith); below = λ x a. refl; above = λ x a. refl }

word_mixed : (operation : Operation) (words others : List ℕ) (i v x : ℕ) → i < length words → IsCombined operation words others i v → x / 64 ≡ i
    → has_bit (set words i v) x ≡ apply operation (has_bit words x) (has_bit others x)
word_mixed operation words others i v x h is e =
    has_written words i v x h e ∙ is (x % 64) ∙ ap (λ (b : Bool). apply operation b (eqb (bit_at (get_or others i 0) (x % 64)) 1)) (sym (has_of words i x e))
    ∙ ap (λ (b : Bool). apply operation (has_bit words x) b) (sym (has_of others i x e))

pub more_words : (operation : Operation) (from i v : ℕ) (old words others : List ℕ) → from ≤ i → i < length words → IsCombined operation words others i v
    → IsWordsMixed operation from i old words others → IsWordsMixed operation from (i + 1) old (set words i v) others
more_words operation from i v old words others later h is before = record {
  done = λ x a b. elim (cases_eq (x / 64) i) [
    | inl same ↦ word_mixed operation words others i v x h is same ∙ ap (λ (b : Bool). apply operation b (has_bit others x)) (before.above x (omega arith))
    | inr other ↦ has_unchanged words i v x other ∙ before.done x a (omega arith)
  ];
  below = λ x a. has_unchanged words i v x (λ e. omega arith) ∙ before.below x a;
  above = λ x a. has_unchanged words i v x (λ e. omega arith) ∙ before.above x (omega arith);
}
