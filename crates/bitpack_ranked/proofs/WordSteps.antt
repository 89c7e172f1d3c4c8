-- Sums over words: one more word, those before one and after it, and words that a document lacks.
use Rattle.std.proofs.Common.{◌≡◌, ℕ, ◌+◌, ◌-◌, ◌<◌, ◌≤◌, Bool, false, true, cond, List, [], ◌∷◌, ◌++◌, length, get_or, map, take, drop, append_assoc, refl, sym, ap, ◌∙◌, arith}
use Rattle.std.specs.List.{count_by, sum_by}
use Rattle.std.proofs.lemmas.List.{drop-map, drop_more, get_or-map, length-drop, length-map, take-append-drop, take-map, take_more}
use Rattle.std.proofs.lemmas.List.Sums.{count_by-le-length, sum_by-append, sum_by-cons, sum_by-take-drop, sum_by_more}
use Rattle.bitpack_ranked.specs.Ranked.{has_word, part_in, position_of}
use Rattle.bitpack_ranked.specs.Scores.{part_at}
use Rattle.bitpack_ranked.specs.Terms.{IsWord, Word}
use Rattle.bitpack_ranked.specs.inner.Walks.{greatest_part, most_rest}
use Rattle.bitpack_ranked.proofs.ScoreLemmas.{part_greatest}

-- a word that stands for none
abbrev pub no_word : Word
no_word = record { ids = []; counts = []; table = [] }

-- ---- one word of many

split_list : (xs : List Word) (i : ℕ) (d : Word) → i < length xs → take i xs ++ get_or xs i d ∷ drop (i + 1) xs ≡ xs
split_list xs i d lt =
    sym (append_assoc (take i xs) (get_or xs i d ∷ []) (drop (i + 1) xs)) ∙ ap (λ l. l ++ drop (i + 1) xs) (sym (take_more xs i d lt)) ∙ take-append-drop (i + 1) xs

module _ {T : Type 0} (f : T → Word) (ts : List T) (i : ℕ) (x : T) (is : x ≡ get_or ts i x) (lt : i < length ts) where
  pub at_word : (t : Word) → get_or (map f ts) i t ≡ f x
  at_word t = get_or-map f ts i x t lt ∙ ap f (sym is)

  pub inside : i < length (map f ts)
  inside = omega (arith, lt, length-map ts f)

  pub sum_more : (g : Word → ℕ) → sum_by g (take (i + 1) (map f ts)) ≡ sum_by g (take i (map f ts)) + g (f x)
  sum_more g = sum_by_more g (map f ts) i no_word inside ∙ ap (λ t. sum_by g (take i (map f ts)) + g t) (at_word no_word)

  pub split_words : map f (take i ts) ++ f x ∷ map f (drop (i + 1) ts) ≡ map f ts
  split_words =
      ap (λ l. l ++ f x ∷ map f (drop (i + 1) ts)) (sym (take-map f i ts)) ∙ ap (λ y. take i (map f ts) ++ y ∷ map f (drop (i + 1) ts)) (sym (at_word no_word))
      ∙ ap (λ l. take i (map f ts) ++ get_or (map f ts) i no_word ∷ l) (sym (drop-map f (i + 1) ts)) ∙ split_list (map f ts) i no_word inside

  pub words_more : map f (drop i ts) ≡ f x ∷ map f (drop (i + 1) ts)
  words_more = ap (map f) (drop_more ts i x lt ∙ ap (λ t. t ∷ drop (i + 1) ts) (sym is))

  -- what the words from one on add at most
  pub rest_more : most_rest (map f (drop i ts)) ≡ greatest_part (f x).table + most_rest (map f (drop (i + 1) ts))
  rest_more = ap most_rest words_more ∙ sum_by-cons (λ word. greatest_part word.table) (f x) (map f (drop (i + 1) ts))

-- ---- one word and those before and after it

pub sum_all : (g : Word → ℕ) (before : List Word) (word : Word) (after : List Word) → sum_by g (before ++ word ∷ after) ≡ sum_by g before + (g word + sum_by g after)
sum_all g before word after = sum_by-append g before (word ∷ after) ∙ ap (λ n. sum_by g before + n) (sum_by-cons g word after)

-- ---- words that a document lacks

pub cond_zero : (b : Bool) (n : ℕ) → ◌≡◌ {A = ℕ} (cond b 1 0) 0 → ◌≡◌ {A = ℕ} (cond b n 0) 0
cond_zero true n e = absurd (omega (arith, e))
cond_zero false n e = refl

pub cond_one : (b : Bool) → (◌≡◌ {A = ℕ} (cond b 1 0) 0 → ⊥) → b ≡ true
cond_one true some = refl
cond_one false some = absurd (some refl)

pub no_parts : (classes : List ℕ) (id : ℕ) (words : List Word) → count_by (has_word id) words ≡ 0 → sum_by (part_in classes id) words ≡ 0
no_parts classes id [] none = refl
no_parts classes id (w ∷ ws) none =
    let count = sum_by-cons (λ t. cond (has_word id t) 1 0) w ws in
    let first : part_in classes id w ≡ 0 =
    cond_zero (has_word id w) (part_at w.table (get_or w.counts (position_of w.ids id) 0) (get_or classes id 0)) (omega (arith, count, none)) in
    let rest = no_parts classes id ws (omega (arith, count, none)) in
    omega (arith, sum_by-cons (part_in classes id) w ws, first, rest)

pub cond_le : (b : Bool) → cond b 1 0 ≤ 1
cond_le true = omega arith
cond_le false = omega arith

cond_under : (b : Bool) (n m : ℕ) → n ≤ m → cond b n 0 ≤ m
cond_under true n m le = le
cond_under false n m le = omega arith

-- the part of a word that a document has
pub part_is : (word : Word) (classes : List ℕ) (id class count : ℕ) → has_word id word ≡ true → get_or classes id 0 ≡ class
    → count ≡ get_or word.counts (position_of word.ids id) 0 → part_at word.table count class ≡ part_in classes id word
part_is word classes id class count has e counted = rw (has, e, counted) refl

-- what no part of the class is above
pub part_under : (word : Word) (classes : List ℕ) (id most : ℕ) → ((count : ℕ) → part_at word.table count (get_or classes id 0) ≤ most)
    → part_in classes id word ≤ most
part_under word classes id most le =
    cond_under (has_word id word) (part_at word.table (get_or word.counts (position_of word.ids id) 0) (get_or classes id 0)) most
    (le (get_or word.counts (position_of word.ids id) 0))

-- no document has more by words than they add at most
module _ {T : Type 0} (f : T → Word) (is : (t : T) → IsWord (f t)) where
  pub rest_bounds : (ts : List T) (classes : List ℕ) (id : ℕ) → sum_by (part_in classes id) (map f ts) ≤ most_rest (map f ts)
  rest_bounds [] classes id = omega arith
  rest_bounds (t ∷ ts) classes id =
      let first =
      part_under (f t) classes id (greatest_part (f t).table) (λ count. part_greatest (f t).table (is t).parts count (get_or classes id 0)) in
      let sum = sum_by-cons (part_in classes id) (f t) (map f ts) in
      let most = sum_by-cons (λ word. greatest_part word.table) (f t) (map f ts) in
      omega (arith, first, rest_bounds ts classes id, sum, most)

-- a document with enough words has one of the first
pub enough_first : (p : Word → Bool) (words : List Word) (first at_least : ℕ) → 1 ≤ at_least → first ≡ length words + 1 - at_least → at_least ≤ count_by p words
    → 0 < count_by p (take first words)
enough_first p words first at_least some is enough =
    let parts = sum_by-take-drop (λ w. cond (p w) 1 0) words first in
    let all = count_by-le-length p words in
    let few = count_by-le-length p (drop first words) in
    omega (arith, some, is, enough, parts, all, few, length-drop first words)
