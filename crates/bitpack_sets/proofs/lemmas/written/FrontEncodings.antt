-- The parts of the encoding of ids that follow the first chunks of a set.
use Rattle.std.proofs.Common.{◌≡◌, ℕ, suc, ◌+◌, ◌*◌, ◌/◌, ◌%◌, ◌≤◌, Bool, true, false, cond, eqb, List, [], ◌∷◌, ◌++◌, map, length, sym, ap, ◌∙◌, arith, length-append}
use Rattle.std.specs.List.{concat, flat_map}
use Rattle.std.proofs.lemmas.Grind.{flat_map-append}
use Rattle.std.proofs.lemmas.List.{map-append}
use Rattle.std.proofs.lemmas.List.Folds.{concat-append}
use Rattle.bitpack_sets.proofs.lemmas.written.FrontLaws.{parts_cut}
use Rattle.bitpack_sets.proofs.lemmas.written.LongFilled.{ends_size, keys_size, sums_size}
use Rattle.bitpack_slices.proofs.ForCallers.{counts, keys, total}
use Rattle.bitpack_sets.proofs.lemmas.encodings.LongLaws.{concat_len, join_len}
use Rattle.bitpack_sets.proofs.lemmas.encodings.LongLaws as encodings
use Rattle.bitpack_slices.proofs.ForCallers.{join_parts}
use Rattle.bitpack_sets.specs.Fronts.{IsNext}
use Rattle.bitpack_slices.specs.Bodies.{le_bytes, parts, with_number}
use Rattle.bitpack_sets.specs.Sets.{body, sums}
use Rattle.bitpack_sets.specs.Written.{bodies, ends_encoding, keys_encoding, sums_encoding}

sums_append : (b : ℕ) (xs ys : List ℕ) → sums b (xs ++ ys) ≡ sums b xs ++ sums (b + total xs) ys
unfolding sums
sums_append b [] ys = let e : b ≡ b + 0 = omega arith in ap (λ (n : ℕ). sums n ys) e
sums_append b (x ∷ xs) ys =
    let e : b + x + total xs ≡ b + (x + total xs) = omega arith in
    ap (λ (l : List ℕ). (b + x) ∷ l) (sums_append (b + x) xs ys ∙ ap (λ (n : ℕ). sums (b + x) xs ++ sums n ys) e)

module _ (first later : List ℕ) (next : IsNext first later) where
  abbrev all : List ℕ
  all = first ++ later

  pub count_both : length (parts 65536 all) ≡ length (parts 65536 first) + length (parts 65536 later)
  count_both = ap length (parts_cut first later next) ∙ length-append (parts 65536 first) (parts 65536 later)

  pub keys_both : keys_encoding all ≡ keys_encoding first ++ keys_encoding later
  keys_both =
      ap (λ (ps : List (ℕ × List ℕ)). flat_map (le_bytes 2) (keys ps)) (parts_cut first later next)
      ∙ ap (flat_map (le_bytes 2)) (map-append (λ (part : ℕ × List ℕ). part.0) (parts 65536 first) (parts 65536 later))
      ∙ flat_map-append (le_bytes 2) (keys (parts 65536 first)) (keys (parts 65536 later))

  bodies_both : bodies all ≡ bodies first ++ bodies later
  bodies_both = ap encodings.bodies (parts_cut first later next) ∙ map-append (λ (part : ℕ × List ℕ). body part.1) (parts 65536 first) (parts 65536 later)

  pub concat_both : concat (bodies all) ≡ concat (bodies first) ++ concat (bodies later)
  concat_both = ap concat bodies_both ∙ concat-append (bodies first) (bodies later)

  zero_plus : (n : ℕ) → 0 + n ≡ n
  zero_plus n = omega arith

  pub ends_both : (size : ℕ) → ends_encoding size 0 all ≡ ends_encoding size 0 first ++ ends_encoding size (length (concat (bodies first))) later
  ends_both size =
      let own : List ℕ = map length (bodies first) in
      let others : List ℕ = map length (bodies later) in
      ap (λ (ls : List (List ℕ)). flat_map (le_bytes size) (sums 0 (map length ls))) bodies_both
      ∙ ap (λ (l : List ℕ). flat_map (le_bytes size) (sums 0 l)) (map-append length (bodies first) (bodies later))
      ∙ ap (flat_map (le_bytes size)) (sums_append 0 own others)
      ∙ ap (λ (n : ℕ). flat_map (le_bytes size) (sums 0 own ++ sums n others)) (zero_plus (total own) ∙ sym (concat_len (bodies first)))
      ∙ flat_map-append (le_bytes size) (sums 0 own) (sums (length (concat (bodies first))) others)

  counted : total (counts (parts 65536 first)) ≡ length first
  counted = sym (join_len (parts 65536 first)) ∙ ap length (join_parts 65536 first)

  pub sums_both : (size : ℕ) → sums_encoding size 0 all ≡ sums_encoding size 0 first ++ sums_encoding size (length first) later
  sums_both size =
      let own : List ℕ = counts (parts 65536 first) in
      let others : List ℕ = counts (parts 65536 later) in
      ap (λ (ps : List (ℕ × List ℕ)). flat_map (le_bytes size) (sums 0 (counts ps))) (parts_cut first later next)
      ∙ ap (λ (l : List ℕ). flat_map (le_bytes size) (sums 0 l)) (map-append (λ (part : ℕ × List ℕ). length part.1) (parts 65536 first) (parts 65536 later))
      ∙ ap (flat_map (le_bytes size)) (sums_append 0 own others)
      ∙ ap (λ (n : ℕ). flat_map (le_bytes size) (sums 0 own ++ sums n others)) (zero_plus (total own) ∙ counted)
      ∙ flat_map-append (le_bytes size) (sums 0 own) (sums (length first) others)

-- each part has a number
put_case : (b : Bool) (part : ℕ × List ℕ) (ps : List (ℕ × List ℕ)) (q r : ℕ × List ℕ) → length (cond b (q ∷ ps) (r ∷ part ∷ ps)) ≤ suc (length (part ∷ ps))
put_case true part ps q r = omega arith
put_case false part ps q r = omega arith

put_most : (base x : ℕ) (ps : List (ℕ × List ℕ)) → length (with_number base x ps) ≤ suc (length ps)
unfolding with_number
put_most base x [] = omega arith
put_most base x (part ∷ ps) = put_case (eqb part.0 (x / base)) part ps (part.0, x % base ∷ part.1) (x / base, x % base ∷ [])

pub parts_most : (base : ℕ) (xs : List ℕ) → length (parts base xs) ≤ length xs
unfolding parts
parts_most base [] = omega arith
parts_most base (x ∷ xs) = let ih = parts_most base xs in let one = put_most base x (parts base xs) in omega arith

-- what is written is as long as both parts
pub record IsSplit (size count : ℕ) (all own later : List ℕ) : Type 0 where
  pub both : all ≡ own ++ later
  pub own_len : length own ≡ size * count
  pub all_len : length all ≡ size * count + length later

split : (size count : ℕ) (whole own later : List ℕ) → whole ≡ own ++ later → length own ≡ size * count → IsSplit size count whole own later
split size count whole own later e long = record { both = e; own_len = long; all_len = ap length e ∙ length-append own later ∙ ap (λ (n : ℕ). n + length later) long }

module _ (first later : List ℕ) (next : IsNext first later) (count : ℕ) (many : count ≡ length (parts 65536 first)) where
  pub keys_split : IsSplit 2 count (keys_encoding (first ++ later)) (keys_encoding first) (keys_encoding later)
  keys_split = split 2 count _ _ _ (keys_both first later next) (keys_size first ∙ ap (λ (n : ℕ). 2 * n) (sym many))

  pub ends_split : (size start : ℕ) → start ≡ length (concat (bodies first)) → IsSplit size count (ends_encoding size 0 (first ++ later)) (ends_encoding size 0 first) (ends_encoding size start later)
  ends_split size start e =
      split size count _ _ _ (ends_both first later next size ∙ ap (λ (n : ℕ). ends_encoding size 0 first ++ ends_encoding size n later) (sym e))
      (ends_size size 0 first ∙ ap (λ (n : ℕ). size * n) (sym many))

  pub sums_split : (size before : ℕ) → before ≡ length first → IsSplit size count (sums_encoding size 0 (first ++ later)) (sums_encoding size 0 first) (sums_encoding size before later)
  sums_split size before e =
      split size count _ _ _ (sums_both first later next size ∙ ap (λ (n : ℕ). sums_encoding size 0 first ++ sums_encoding size n later) (sym e))
      (sums_size size 0 first ∙ ap (λ (n : ℕ). size * n) (sym many))
