-- What is measured of the chunks so far, of one more, and of all.
use Rattle.std.proofs.Common.{◌≡◌, ℕ, ◌+◌, ◌-◌, ◌*◌, ◌/◌, Bool, true, false, ◌&&◌, ◌||◌, cond, eqb, leb, ltb, List, [], ◌∷◌, ◌++◌, map, length, refl, sym, ap, ◌∙◌, arith, inl, inr, length-append}
use Rattle.std.specs.List.{concat, flat_map, list_any}
use Rattle.std.proofs.lemmas.Bool.{cases_lt, le-leb, le-ltb, lt-leb, lt-ltb, ne_eqb, eq-eqb}
use Rattle.std.proofs.lemmas.Bool.Decides.{eqb_tells}
use Rattle.std.proofs.lemmas.List.{length-map}
use Rattle.bitpack_groups.proofs.ForCallers.{little_len}
use Rattle.bitpack_slices.proofs.ForCallers.{flat_len}
use Rattle.bitpack_slices.specs.Bitmaps.{has_bit}
use Rattle.bitpack_slices.specs.Bodies.{bits, le_bytes, parts}
use Rattle.bitpack_slices.specs.Reads.{has}
use Rattle.bitpack_roaring.proofs.RunCounts.{container_len}
use Rattle.bitpack_roaring.specs.Written.{are_runs, container, cookie, flagged, roaring, runs_of, starts}
use Rattle.bitpack_roaring.specs.inner.Sizes.{bodies, entries, has_run, lists, pays, size}

pub record Measures (all left : List (ℕ × List ℕ)) (containers bytes : ℕ) (runs : Bool) (flags : List ℕ) : Type 0 where
  pub counted : containers + length left ≡ length all
  pub sized : bytes + length (concat (bodies left)) ≡ length (concat (bodies all))
  pub runs_are : (runs || has_run left) ≡ has_run all
  pub flags_are : (m : ℕ) → (has_bit flags m || has m (flagged containers (lists left))) ≡ has m (flagged 0 (lists all))

pub measures_start : (all : List (ℕ × List ℕ)) (containers bytes : ℕ) (runs : Bool) (flags : List ℕ) → containers ≡ 0 → bytes ≡ 0 → runs ≡ false
    → ((m : ℕ) → has_bit flags m ≡ false) → Measures all all containers bytes runs flags
measures_start all containers bytes runs flags none empty not_yet clear = record {
  counted = omega arith;
  sized = omega arith;
  runs_are = ap (λ (b : Bool). b || has_run all) not_yet;
  flags_are = λ m. ap (λ (b : Bool). b || has m (flagged containers (lists all))) (clear m) ∙ ap (λ (n : ℕ). has m (flagged n (lists all))) none;
}

or_later : (a b c : Bool) → ((a || b) || c) ≡ (a || (b || c))
or_later true b c = refl
or_later false b c = refl

or_moved : (a b c : Bool) → ((a || b) || c) ≡ (b || (a || c))
or_moved true true c = refl
or_moved true false c = refl
or_moved false b c = refl

eqb_sym : (m n : ℕ) → eqb m n ≡ eqb n m
eqb_sym m n = elim (eqb_tells m n) [
  | inl (e, same) ↦ e ∙ sym (eq-eqb n m (sym same))
  | inr (e, other) ↦ e ∙ sym (ne_eqb n m (λ f. other (sym f)))
]

-- a container that is runs is flagged
pub flag_first : (m n : ℕ) (xs : List ℕ) (others : List (List ℕ)) → has m (flagged n (xs ∷ others)) ≡ ((eqb m n && are_runs xs) || has m (flagged (n + 1) others))
unfolding flagged
flag_first m n xs others = by_case (are_runs xs)
  where
    by_case : (b : Bool) → has m (cond b (n ∷ flagged (n + 1) others) (flagged (n + 1) others)) ≡ ((eqb m n && b) || has m (flagged (n + 1) others))
    by_case true = here (eqb m n) (eqb_sym n m)
      where
        here : (b : Bool) → eqb n m ≡ b → (eqb n m || has m (flagged (n + 1) others)) ≡ ((b && true) || has m (flagged (n + 1) others))
        here true e = ap (λ (c : Bool). c || has m (flagged (n + 1) others)) e
        here false e = ap (λ (c : Bool). c || has m (flagged (n + 1) others)) e
    by_case false = here (eqb m n)
      where
        here : (b : Bool) → has m (flagged (n + 1) others) ≡ ((b && false) || has m (flagged (n + 1) others))
        here true = refl
        here false = refl

pub measures_more : (all left later : List (ℕ × List ℕ)) (key : ℕ) (xs : List ℕ) (containers bytes containers' bytes' count runs : ℕ) (some some' : Bool) (flags flags' : List ℕ)
    → Measures all left containers bytes some flags → left ≡ (key, xs) ∷ later → count ≡ length xs → runs ≡ length (runs_of xs)
    → containers' ≡ containers + 1 → bytes' ≡ bytes + size count runs → some' ≡ (some || pays count runs)
    → ((m : ℕ) → has_bit flags' m ≡ ((eqb m containers && pays count runs) || has_bit flags m)) → Measures all later containers' bytes' some' flags'
measures_more all left later key xs containers bytes containers' bytes' count runs some some' flags flags' so is counted ran more longer either flag =
    let same : pays count runs ≡ are_runs xs = ap (λ (n : ℕ). pays n runs) counted ∙ ap (pays (length xs)) ran in
    let sizes : size count runs ≡ length (container xs) = ap (λ (n : ℕ). size n runs) counted ∙ ap (size (length xs)) ran ∙ sym (container_len xs) in
    let before : containers + length left ≡ length all = so.counted in
    let lefts = ap length is in
    let bodies_are = ap (λ (ps : List (ℕ × List ℕ)). length (concat (bodies ps))) is ∙ length-append (container xs) (concat (bodies later)) in
    let sized : bytes + length (concat (bodies left)) ≡ length (concat (bodies all)) = so.sized in
    record {
      counted = omega arith;
      sized = omega arith;
      runs_are = ap (λ (b : Bool). b || has_run later) (either ∙ ap (λ (b : Bool). some || b) same) ∙ or_later some (are_runs xs) (has_run later)
          ∙ ap (λ (ps : List (ℕ × List ℕ)). some || has_run ps) (sym is) ∙ so.runs_are;
      flags_are = λ m. ap (λ (b : Bool). b || has m (flagged containers' (lists later))) (flag m ∙ ap (λ (b : Bool). (eqb m containers && b) || has_bit flags m) same)
          ∙ ap (λ (n : ℕ). ((eqb m containers && are_runs xs) || has_bit flags m) || has m (flagged n (lists later))) more
          ∙ or_moved (eqb m containers && are_runs xs) (has_bit flags m) (has m (flagged (containers + 1) (lists later)))
          ∙ ap (λ (b : Bool). has_bit flags m || b) (sym (flag_first m containers xs (lists later)))
          ∙ ap (λ (ps : List (ℕ × List ℕ)). has_bit flags m || has m (flagged containers (lists ps))) (sym is) ∙ so.flags_are m;
    }

pub or_none : (b : Bool) → (b || false) ≡ b
or_none true = refl
or_none false = refl

none_flagged : (m n : ℕ) → has m (flagged n []) ≡ false
unfolding flagged
none_flagged m n = refl

module _ (all left : List (ℕ × List ℕ)) (containers bytes : ℕ) (runs : Bool) (flags : List ℕ) (so : Measures all left containers bytes runs flags) (none : left ≡ []) where
  pub all_counted : containers ≡ length all
  all_counted = let before = so.counted in let e = ap length none in omega arith

  pub all_sized : bytes ≡ length (concat (bodies all))
  all_sized = let before = so.sized in let e = ap (λ (ps : List (ℕ × List ℕ)). length (concat (bodies ps))) none in omega arith

  pub all_runs : runs ≡ has_run all
  all_runs = sym (or_none runs) ∙ ap (λ (ps : List (ℕ × List ℕ)). runs || has_run ps) (sym none) ∙ so.runs_are

  pub all_flags : (m : ℕ) → has_bit flags m ≡ has m (flagged 0 (lists all))
  all_flags m =
      sym (or_none (has_bit flags m)) ∙ ap (λ (b : Bool). has_bit flags m || b) (sym (none_flagged m containers))
      ∙ ap (λ (ps : List (ℕ × List ℕ)). has_bit flags m || has m (flagged containers (lists ps))) (sym none) ∙ so.flags_are m

-- ---- how many bytes all have

pub entries_len : (ps : List (ℕ × List ℕ)) → length (entries ps) ≡ 4 * length ps
entries_len [] = refl
entries_len (p ∷ ps) =
    let ih : length (entries ps) ≡ 4 * length ps = entries_len ps in
    let both = length-append (le_bytes 2 p.0 ++ le_bytes 2 (length p.1 - 1)) (entries ps) in
    let own = length-append (le_bytes 2 p.0) (le_bytes 2 (length p.1 - 1)) in
    let a = little_len 2 p.0 in
    let b = little_len 2 (length p.1 - 1) in
    omega arith

pub starts_len : (start : ℕ) (sizes : List ℕ) → length (starts start sizes) ≡ length sizes
unfolding starts
starts_len start [] = refl
starts_len start (size ∷ sizes) = let ih = starts_len (start + size) sizes in omega arith

pub cookie_len : (all : List (List ℕ)) → length (cookie all) ≡ cond (list_any are_runs all) (4 + (length all + 7) / 8) 8
unfolding cookie
cookie_len all = by_case (list_any are_runs all)
  where
    by_case : (b : Bool) → length (cond b (le_bytes 2 12347 ++ le_bytes 2 (length all - 1) ++ le_bytes ((length all + 7) / 8) (bits (flagged 0 all))) (le_bytes 4 12346 ++ le_bytes 4 (length all)))
        ≡ cond b (4 + (length all + 7) / 8) 8
    by_case true =
        let one = length-append (le_bytes 2 12347 ++ le_bytes 2 (length all - 1)) (le_bytes ((length all + 7) / 8) (bits (flagged 0 all))) in
        let two = length-append (le_bytes 2 12347) (le_bytes 2 (length all - 1)) in
        let a = little_len 2 12347 in
        let b = little_len 2 (length all - 1) in
        let c = little_len ((length all + 7) / 8) (bits (flagged 0 all)) in
        let sum : length (le_bytes 2 12347 ++ le_bytes 2 (length all - 1) ++ le_bytes ((length all + 7) / 8) (bits (flagged 0 all))) ≡ 4 + (length all + 7) / 8 = omega arith in
        sum
    by_case false =
        let one = length-append (le_bytes 4 12346) (le_bytes 4 (length all)) in
        let a = little_len 4 12346 in
        let b = little_len 4 (length all) in
        let sum : length (le_bytes 4 12346 ++ le_bytes 4 (length all)) ≡ 8 = omega arith in
        sum

offsets_len : (any : Bool) (count start : ℕ) (sizes : List ℕ) → length sizes ≡ count
    → 4 * count + length (cond (any && ltb count 4) [] (flat_map (le_bytes 4) (starts start sizes))) ≡ cond (cond any (leb 4 count) true) 8 4 * count
offsets_len true count start sizes e = elim (cases_lt count 4) [
  | inl less ↦ (
      let none = ap (λ (b : Bool). length (cond b [] (flat_map (le_bytes 4) (starts start sizes)))) (lt-ltb count 4 less) in
      let four : ◌≡◌ {A = ℕ} (cond (leb 4 count) 8 4) 4 = ap (λ (b : Bool). cond b 8 4) (lt-leb 4 count less) in
      let product = ap (λ (n : ℕ). n * count) four in
      omega arith)
  | inr more ↦ (
      let some = ap (λ (b : Bool). length (cond b [] (flat_map (le_bytes 4) (starts start sizes)))) (le-ltb count 4 more) in
      let eight : ◌≡◌ {A = ℕ} (cond (leb 4 count) 8 4) 8 = ap (λ (b : Bool). cond b 8 4) (le-leb 4 count more) in
      let product = ap (λ (n : ℕ). n * count) eight in
      let a = flat_len 4 (starts start sizes) in
      let b = starts_len start sizes in
      omega arith)
]
offsets_len false count start sizes e = let a = flat_len 4 (starts start sizes) in let b = starts_len start sizes in omega arith

pub roaring_length : (ids : List ℕ) (containers bytes keys entry : ℕ) (runs offsets : Bool) → containers ≡ length (parts 65536 ids) → runs ≡ has_run (parts 65536 ids)
    → bytes ≡ length (concat (bodies (parts 65536 ids))) → keys ≡ cond runs (4 + (containers + 7) / 8) 8 → offsets ≡ cond runs (leb 4 containers) true → entry ≡ cond offsets 8 4
    → keys + entry * containers + bytes ≡ length (roaring ids)
unfolding roaring
roaring_length ids containers bytes keys entry runs offsets many ran sized first some each =
    let chunks : List (ℕ × List ℕ) = parts 65536 ids in
    let all : List (List ℕ) = lists chunks in
    let any : Bool = has_run chunks in
    let count : ℕ = length chunks in
    let head : List ℕ = cookie all ++ entries chunks in
    let start : ℕ = length head + 4 * count in
    let offs : List ℕ = cond (any && ltb count 4) [] (flat_map (le_bytes 4) (starts start (map length (bodies chunks)))) in
    let a = length-append (head ++ offs) (concat (bodies chunks)) in
    let b = length-append head offs in
    let c = length-append (cookie all) (entries chunks) in
    let d = cookie_len all in
    let e = entries_len chunks in
    let same : length all ≡ count = length-map chunks (λ chunk. chunk.1) in
    let long : length (map length (bodies chunks)) ≡ count = length-map (bodies chunks) length ∙ length-map all container ∙ same in
    let f = offsets_len any count start (map length (bodies chunks)) long in
    let keys_are : keys ≡ cond any (4 + (length all + 7) / 8) 8 =
    first ∙ ap (λ (x : Bool). cond x (4 + (containers + 7) / 8) 8) ran ∙ ap (λ (n : ℕ). cond any (4 + (n + 7) / 8) 8) (many ∙ sym same) in
    let entry_is : entry ≡ cond (cond any (leb 4 count) true) 8 4 =
    each ∙ ap (λ (x : Bool). cond x 8 4) (some ∙ ap (λ (x : Bool). cond x (leb 4 containers) true) ran ∙ ap (λ (n : ℕ). cond any (leb 4 n) true) many) in
    let product : entry * containers ≡ cond (cond any (leb 4 count) true) 8 4 * count = ap (λ (n : ℕ). n * containers) entry_is ∙ ap (λ (n : ℕ). cond (cond any (leb 4 count) true) 8 4 * n) many in
    omega arith
