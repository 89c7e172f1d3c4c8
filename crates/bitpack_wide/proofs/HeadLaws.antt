-- What is left of two sets in words, high word by high word.
use Rattle.std.proofs.Common.{◌≡◌, ◌≢◌, ◌⊎◌, ℕ, zero, suc, ◌+◌, ◌*◌, ◌^◌, ◌<◌, ◌≤◌, Bool, true, false, ◌||◌, List, [], ◌∷◌, ◌++◌, ap, ◌∙◌, arith, append_assoc, cond, drop, get_or, inl, inr, length, length-append, map, refl, subst, sym, take, ne_eqb, eq-eqb}
use Rattle.std.proofs.lemmas.Bool.{cases_lt}
use Rattle.std.proofs.lemmas.Bool.Decides.{eqb_tells}
use Rattle.std.proofs.lemmas.List.{drop_all, drop_more, length-map}
use Rattle.bitpack_slices.proofs.ForCallers.{AreParts, answer_left, answer_right, apply_none, bytes_are, each, has_append, has_below, join_rises, none, rising_room, those_part}
use Rattle.bitpack_slices.specs.Bodies.{IsRising}
use Rattle.bitpack_slices.specs.Follows.{Follow}
use Rattle.bitpack_slices.specs.Operations.{apply}
use Rattle.bitpack_slices.specs.Operations as operations
use Rattle.bitpack_slices.specs.Reads.{has}
use Rattle.bitpack_slices.specs.declared.operation.Operation.{Operation}
use Rattle.bitpack_sets.specs.Reads as set_reads
use Rattle.bitpack_wide.proofs.SearchLaws.{count_within, word_there}
use Rattle.bitpack_wide.proofs.WordReads.{are_words, count_is, high_small, words_in}
use Rattle.bitpack_wide.specs.Combined.{answer}
use Rattle.bitpack_wide.specs.Directory.{body_at, high_at, ids_of_words}
use Rattle.bitpack_wide.specs.declared.directory.Directory.{Directory}
use Rattle.bitpack_wide.specs.inner.Merging.{Continues, left_of}

-- ids begin with those of a high word, which are none if the set has not this word, and the others have higher ones
pub record IsHead (high : ℕ) (lows xs rest : List ℕ) : Type 0 where
  pub ids_are : xs ≡ map (λ low. high * 2 ^ 32 + low) lows ++ rest
  pub rising : IsRising 0 (2 ^ 32) lows
  pub above : IsRising ((high + 1) * 2 ^ 32) (2 ^ 64) rest

-- ---- which ids these are

has_own : (base x : ℕ) (lows : List ℕ) → has (base + x) (map (λ low. base + low) lows) ≡ has x lows
has_own base x [] = refl
has_own base x (low ∷ lows) =
    let same = has_own base x lows in
    elim (eqb_tells low x) [
      | inl (e, is) ↦ ap (λ (b : Bool). b || has (base + x) (map (λ low. base + low) lows)) (eq-eqb (base + low) (base + x) (omega arith)) ∙ ap (λ (b : Bool). true || b) same ∙ ap (λ (b : Bool). b || has x lows) (sym (eq-eqb low x is))
      | inr (e, isnt) ↦ ap (λ (b : Bool). b || has (base + x) (map (λ low. base + low) lows)) (ne_eqb (base + low) (base + x) (λ f. isnt (omega arith))) ∙ same ∙ ap (λ (b : Bool). b || has x lows) (sym (ne_eqb low x isnt))
    ]

has_other : (base x low : ℕ) (lows : List ℕ) → IsRising low (2 ^ 32) lows → ((l : ℕ) → l < 2 ^ 32 → base + l ≢ x) → has x (map (λ l. base + l) lows) ≡ false
has_other base x low [] rising other = refl
has_other base x low (l ∷ lows) (a, rising) other =
    let few = rising_room (l + 1) (2 ^ 32) lows rising in
    ap (λ (b : Bool). b || has x (map (λ l. base + l) lows)) (ne_eqb (base + l) x (other l (omega arith))) ∙ has_other base x (l + 1) lows rising other

module _ (high : ℕ) (lows xs rest : List ℕ) (is : IsHead high lows xs rest) where
  both : (x : ℕ) → has x xs ≡ (has x (map (λ low. high * 2 ^ 32 + low) lows) || has x rest)
  both x = ap (has x) is.ids_are ∙ has_append x (map (λ low. high * 2 ^ 32 + low) lows) rest

  pub head_below : (x : ℕ) → x < high * 2 ^ 32 → has x xs ≡ false
  head_below x less =
      both x ∙ ap (λ (b : Bool). b || has x rest) (has_other (high * 2 ^ 32) x 0 lows is.rising (λ l small e. omega arith))
      ∙ has_below x ((high + 1) * 2 ^ 32) (2 ^ 64) rest is.above (omega arith)

  pub head_own : (x : ℕ) → x < 2 ^ 32 → has (high * 2 ^ 32 + x) xs ≡ has x lows
  head_own x small =
      both (high * 2 ^ 32 + x) ∙ ap (λ (b : Bool). b || has (high * 2 ^ 32 + x) rest) (has_own (high * 2 ^ 32) x lows)
      ∙ ap (λ (b : Bool). has x lows || b) (has_below (high * 2 ^ 32 + x) ((high + 1) * 2 ^ 32) (2 ^ 64) rest is.above (omega arith)) ∙ or_false (has x lows)
    where
      or_false : (b : Bool) → (b || false) ≡ b
      or_false true = refl
      or_false false = refl

  pub head_after : (x : ℕ) → high * 2 ^ 32 + 2 ^ 32 ≤ x → has x xs ≡ has x rest
  head_after x more = both x ∙ ap (λ (b : Bool). b || has x rest) (has_other (high * 2 ^ 32) x 0 lows is.rising (λ l small e. omega arith))

-- what an operation gives of a high word comes before what it gives of higher ones
pub head_step : (operation : Operation) (high : ℕ) (lows lows' xs xs' rest rest' : List ℕ) → high < 2 ^ 32 → IsHead high lows xs rest → IsHead high lows' xs' rest'
    → answer operation xs xs' ≡ map (λ i. high * 2 ^ 32 + i) (operations.answer operation lows lows') ++ answer operation rest rest'
head_step operation high lows lows' xs xs' rest rest' small is is' =
    those_part (2 ^ 64) (high * 2 ^ 32) (2 ^ 32) (λ x. apply operation (has x xs) (has x xs')) (λ x. apply operation (has x lows) (has x lows')) (λ x. apply operation (has x rest) (has x rest'))
    (omega arith)
    (λ x less. apply_none operation (has x xs) (has x xs') (head_below high lows xs rest is x less) (head_below high lows' xs' rest' is' x less))
    (λ x within. each operation (has (high * 2 ^ 32 + x) xs) (has x lows) (has (high * 2 ^ 32 + x) xs') (has x lows') (head_own high lows xs rest is x within) (head_own high lows' xs' rest' is' x within))
    (λ x less. apply_none operation (has x rest) (has x rest') (has_below x ((high + 1) * 2 ^ 32) (2 ^ 64) rest is.above (omega arith)) (has_below x ((high + 1) * 2 ^ 32) (2 ^ 64) rest' is'.above (omega arith)))
    (λ x more within. each operation (has x xs) (has x rest) (has x xs') (has x rest') (head_after high lows xs rest is x more) (head_after high lows' xs' rest' is' x more))

raised : (b : ℕ) (there : Bool) (lows : List ℕ) → map (λ i. b + i) (cond there lows []) ≡ cond there (map (λ i. b + i) lows) []
raised b true lows = refl
raised b false lows = refl

-- the same if one set alone has the word
pub left_step : (operation : Operation) (there : Bool) (high : ℕ) (lows xs xs' rest : List ℕ) → high < 2 ^ 32 → IsHead high lows xs rest → IsHead high [] xs' xs' → there ≡ apply operation true false
    → answer operation xs xs' ≡ cond there (map (λ low. high * 2 ^ 32 + low) lows) [] ++ answer operation rest xs'
left_step operation there high lows xs xs' rest small is isnt e =
    head_step operation high lows [] xs xs' rest xs' small is isnt
    ∙ ap (λ (l : List ℕ). map (λ i. high * 2 ^ 32 + i) l ++ answer operation rest xs') (answer_left (2 ^ 32) operation there lows is.rising (sym e))
    ∙ ap (λ (l : List ℕ). l ++ answer operation rest xs') (raised (high * 2 ^ 32) there lows)

pub right_step : (operation : Operation) (there : Bool) (high : ℕ) (lows xs xs' rest : List ℕ) → high < 2 ^ 32 → IsHead high [] xs xs → IsHead high lows xs' rest → there ≡ apply operation false true
    → answer operation xs xs' ≡ cond there (map (λ low. high * 2 ^ 32 + low) lows) [] ++ answer operation xs rest
right_step operation there high lows xs xs' rest small isnt is e =
    head_step operation high [] lows xs xs' xs rest small isnt is
    ∙ ap (λ (l : List ℕ). map (λ i. high * 2 ^ 32 + i) l ++ answer operation xs rest) (answer_right (2 ^ 32) operation there lows is.rising (sym e))
    ∙ ap (λ (l : List ℕ). l ++ answer operation xs rest) (raised (high * 2 ^ 32) there lows)

-- ---- the high words of a directory

lower : (base low low' high : ℕ) (ps : List (ℕ × List ℕ)) → low ≤ low' → AreParts base low' high ps → AreParts base low high ps
lower base low low' high [] less are = omega arith
lower base low low' high (p ∷ ps) less (a, some, r, later) = (omega arith, some, r, later)

parts_drop : (base low high i : ℕ) (ps : List (ℕ × List ℕ)) → AreParts base low high ps → AreParts base low high (drop i ps)
parts_drop base low high zero ps are = are
parts_drop base low high (suc i) [] are = are
parts_drop base low high (suc i) (p ∷ ps) (a, some, r, later) = parts_drop base low high i ps (lower base low (p.0 + 1) high ps (omega arith) later)

part_head : (i : ℕ) (ps : List (ℕ × List ℕ)) → AreParts (2 ^ 32) 0 (2 ^ 32) ps → i < length ps
    → IsHead (get_or ps i none).0 (get_or ps i none).1 (ids_of_words (drop i ps)) (ids_of_words (drop (i + 1) ps))
part_head i ps are here =
    let cut : drop i ps ≡ get_or ps i none ∷ drop (i + 1) ps = drop_more ps i none here in
    let (a, some, r, later) = subst (AreParts (2 ^ 32) 0 (2 ^ 32)) cut (parts_drop (2 ^ 32) 0 (2 ^ 32) i ps are) in
    record {
      ids_are = ap ids_of_words cut;
      rising = r;
      above = join_rises (2 ^ 32) ((get_or ps i none).0 + 1) (2 ^ 32) (drop (i + 1) ps) later;
    }

part_away : (high i : ℕ) (ps : List (ℕ × List ℕ)) → AreParts (2 ^ 32) 0 (2 ^ 32) ps → high < 2 ^ 32 → (i < length ps → high < (get_or ps i none).0)
    → IsHead high [] (ids_of_words (drop i ps)) (ids_of_words (drop i ps))
part_away high i ps are small later = record {
  ids_are = refl;
  rising = omega arith;
  above = elim (cases_lt i (length ps)) [
    | inl here ↦
        let cut : drop i ps ≡ get_or ps i none ∷ drop (i + 1) ps = drop_more ps i none here in
        let (a, some, r, others) = subst (AreParts (2 ^ 32) 0 (2 ^ 32)) cut (parts_drop (2 ^ 32) 0 (2 ^ 32) i ps are) in
        let up = later here in
        join_rises (2 ^ 32) (high + 1) (2 ^ 32) (drop i ps) (subst (AreParts (2 ^ 32) (high + 1) (2 ^ 32)) (sym cut) (omega arith, some, r, others))
    | inr end ↦ subst (λ (l : List (ℕ × List ℕ)). IsRising ((high + 1) * 2 ^ 32) (2 ^ 64) (ids_of_words l)) (sym (drop_all i ps end)) (omega arith)
  ];
}

-- the high words of a directory
abbrev words_of : Directory → List (ℕ × List ℕ)
words_of d = words_in d.count d.words d.rest.now (bytes_are d.rest.now d.are_bytes) d.sound

pub word_head : (d : Directory) (i : ℕ) → i < d.words → IsHead (high_at d.rest.now i) (set_reads.ids_in (body_at d.words d.rest.now i)) (left_of d i) (left_of d (i + 1))
word_head d i here =
    let are = bytes_are d.rest.now d.are_bytes in
    let all = count_is d.count d.words d.rest.now are d.sound in
    subst (λ (p : ℕ × List ℕ). IsHead p.0 p.1 (left_of d i) (left_of d (i + 1))) (word_there d.count d.words d.rest.now are d.sound i here)
    (part_head i (words_of d) (are_words d.count d.words d.rest.now are d.sound) (omega arith))

pub word_away : (d : Directory) (high i : ℕ) → high < 2 ^ 32 → (i < d.words → high < high_at d.rest.now i) → IsHead high [] (left_of d i) (left_of d i)
word_away d high i small later =
    let are = bytes_are d.rest.now d.are_bytes in
    let all = count_is d.count d.words d.rest.now are d.sound in
    part_away high i (words_of d) (are_words d.count d.words d.rest.now are d.sound) small
    (λ here. (let up = later (omega arith) in let same = ap (λ (p : ℕ × List ℕ). p.0) (word_there d.count d.words d.rest.now are d.sound i (omega arith)) in omega arith))

pub word_end : (d : Directory) (i : ℕ) → d.words ≤ i → left_of d i ≡ []
word_end d i end =
    let all = count_is d.count d.words d.rest.now (bytes_are d.rest.now d.are_bytes) d.sound in
    ap ids_of_words (drop_all i (words_of d) (omega arith))

pub high_few : (d : Directory) (i : ℕ) → i < d.words → high_at d.rest.now i < 2 ^ 32
high_few d i here = high_small d.count d.words d.rest.now (bytes_are d.rest.now d.are_bytes) d.sound i here

pub lows_few : (d : Directory) (i : ℕ) (there : Bool) → i < d.words → length (cond there (map (λ low. high_at d.rest.now i * 2 ^ 32 + low) (set_reads.ids_in (body_at d.words d.rest.now i))) []) ≤ 2 ^ 28
lows_few d i true here =
    let within = count_within d.count d.words d.rest.now (bytes_are d.rest.now d.are_bytes) d.sound i here in
    let few = d.sound.few in
    let count = (d.sound.bodies i here).count in
    let long = length-map (set_reads.ids_in (body_at d.words d.rest.now i)) (λ (low : ℕ). high_at d.rest.now i * 2 ^ 32 + low) in
    omega arith
lows_few d i false here = omega arith

one_of : (there : Bool) (xs : List ℕ) → cond there xs xs ≡ xs
one_of true xs = refl
one_of false xs = refl

pub nothing_left : (operation : Operation) → answer operation [] [] ≡ []
nothing_left operation = answer_left (2 ^ 64) operation (apply operation true false) [] (omega arith) refl ∙ one_of (apply operation true false) []

-- which sets have the next high word, if 2 ^ 32 is after the last
pub both_there : (words words' i j x y : ℕ) → (i < words → x < 2 ^ 32) → (words ≤ i → x ≡ 2 ^ 32) → (j < words' → y < 2 ^ 32) → (words' ≤ j → y ≡ 2 ^ 32)
    → (i < words) ⊎ (j < words') → x ≡ y → (i < words) × (j < words')
both_there words words' i j x y small end small' end' some same = elim (cases_lt i words) [
  | inl here ↦ (here, elim (cases_lt j words') [ inl there ↦ there | inr last ↦ (let e = end' last in let less = small here in absurd (omega arith)) ])
  | inr last ↦ elim some [
    | inl here ↦ absurd (omega arith)
    | inr there ↦ (let e = end last in let less = small' there in absurd (omega arith))
  ]
]

pub one_there : (words i x y : ℕ) → (words ≤ i → x ≡ 2 ^ 32) → x < y → y ≤ 2 ^ 32 → i < words
one_there words i x y end less few = elim (cases_lt i words) [ inl here ↦ here | inr last ↦ (let e = end last in absurd (omega arith)) ]

pub continues_by : (front before after old new : List ℕ) (at end : ℕ) → before ≡ front ++ after → Follow front old new at end → Continues before after old new at end
continues_by front before after old new at end is so =
    let size = ap length is in
    let all = length-append front after in
    let count = so.end_is in
    record {
      count = omega arith;
      written = λ h. ap (λ (l : List ℕ). l ++ after) (so.written h) ∙ append_assoc (take at old) front after ∙ ap (λ (l : List ℕ). take at old ++ l) (sym is);
    }
