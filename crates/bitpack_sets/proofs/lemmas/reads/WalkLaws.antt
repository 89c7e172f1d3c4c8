-- Increasing ids from a position on, position by position.
use Rattle.std.proofs.Common.{◌≡◌, ℕ, zero, suc, ◌+◌, ◌-◌, ◌*◌, ◌/◌, ◌%◌, ◌^◌, ◌<◌, ◌≤◌, Bool, false, ◌||◌, List, [], ◌∷◌, map, drop, length, get_or, refl, ap, subst, ◌∙◌, arith}
use Rattle.std.proofs.Math.Bool.{or-false}
use Rattle.std.proofs.lemmas.Bool.{ne_eqb}
use Rattle.std.proofs.lemmas.List.{drop_all, drop_more}
use Rattle.bitpack_slices.proofs.ForCallers.{join_rises}
use Rattle.bitpack_sets.proofs.lemmas.reads.JoinReads.{has_other, has_same}
use Rattle.bitpack_slices.proofs.ForCallers.{AreParts, has_append, has_below, join, le_self, rising_drop, rising_room}
use Rattle.bitpack_sets.specs.Chunks.{first_key}
use Rattle.bitpack_slices.specs.Reads.{has}
use Rattle.bitpack_slices.specs.Bodies.{IsRising}

-- `ids p` are the ids from position p on: keys do not fall, and only ids of the key of a position are passed there
pub record IsWalk (n : ℕ) (ids : ℕ → List ℕ) : Type 0 where
  pub end : (p : ℕ) → n ≤ p → first_key (ids p) ≡ 65536
  pub up : (p : ℕ) → p < n → first_key (ids p) ≤ first_key (ids (p + 1))
  pub pass : (p x : ℕ) → p < n → first_key (ids p) < x / 65536 → has x (ids p) ≡ has x (ids (p + 1))
  pub under : (p x : ℕ) → x / 65536 < first_key (ids p) → has x (ids p) ≡ false

-- ---- a list of ids

pub key_under : (low x : ℕ) (xs : List ℕ) → IsRising low (2 ^ 32) xs → x / 65536 < first_key xs → has x xs ≡ false
key_under low x [] r h = refl
key_under low x (y ∷ ys) (a, r) h = has_below x y (2 ^ 32) (y ∷ ys) (le_self y, r) (omega arith)

key_up : (low x : ℕ) (xs : List ℕ) → IsRising low (2 ^ 32) (x ∷ xs) → x / 65536 ≤ first_key xs
key_up low x [] (a, r) = omega arith
key_up low x (y ∷ ys) (a, (b, r)) = omega arith

-- a position is the position of an id
pub array_key : (p : ℕ) (xs : List ℕ) → p < length xs → first_key (drop p xs) ≡ get_or xs p 0 / 65536
array_key p xs h = ap first_key (drop_more xs p 0 h)

pub array_walk : (n : ℕ) (xs : List ℕ) → length xs ≡ n → IsRising 0 (2 ^ 32) xs → IsWalk n (λ p. drop p xs)
array_walk n xs e r = record {
  end = λ p h. ap first_key (drop_all p xs (omega arith));
  up = λ p h. up p (omega arith);
  pass = λ p x h less. pass p x (omega arith) less;
  under = λ p x less. key_under 0 x (drop p xs) (rising_drop 0 (2 ^ 32) p xs r) less;
}
  where
    more : (p : ℕ) → p < length xs → drop p xs ≡ get_or xs p 0 ∷ drop (p + 1) xs
    more p h = drop_more xs p 0 h

    up : (p : ℕ) → p < length xs → first_key (drop p xs) ≤ first_key (drop (p + 1) xs)
    up p h =
        let key = array_key p xs h in
        let there : IsRising 0 (2 ^ 32) (get_or xs p 0 ∷ drop (p + 1) xs) = subst (IsRising 0 (2 ^ 32)) (more p h) (rising_drop 0 (2 ^ 32) p xs r) in
        let next = key_up 0 (get_or xs p 0) (drop (p + 1) xs) there in
        omega arith

    pass : (p x : ℕ) → p < length xs → first_key (drop p xs) < x / 65536 → has x (drop p xs) ≡ has x (drop (p + 1) xs)
    pass p x h less =
        let key = array_key p xs h in
        ap (has x) (more p h) ∙ ap (λ (b : Bool). b || has x (drop (p + 1) xs)) (ne_eqb (get_or xs p 0) x (λ s. other p x key less s))
      where
        other : (p x : ℕ) → first_key (drop p xs) ≡ get_or xs p 0 / 65536 → first_key (drop p xs) < x / 65536 → get_or xs p 0 ≡ x → ⊥
        other p x key less s = let t = ap (λ (m : ℕ). m / 65536) s in absurd (omega arith)

-- ---- parts

pub part_key : (low : ℕ) (part : ℕ × List ℕ) (ps : List (ℕ × List ℕ)) → AreParts 65536 low 65536 (part ∷ ps) → first_key (join 65536 (part ∷ ps)) ≡ part.0
part_key low (key, []) ps (a, some, r, later) = absurd (omega arith)
part_key low (key, (y ∷ ys)) ps (a, some, (b, r), later) = let room = rising_room (y + 1) 65536 ys r in omega arith

pub part_up : (low : ℕ) (part : ℕ × List ℕ) (ps : List (ℕ × List ℕ)) → AreParts 65536 low 65536 (part ∷ ps) → part.0 < first_key (join 65536 ps)
part_up low part [] (a, some, r, later) = omega arith
part_up low part (next ∷ ps) (a, some, r, later) = let key = part_key (part.0 + 1) next ps later in let up = later.0 in omega arith

pub part_under : (low x : ℕ) (ps : List (ℕ × List ℕ)) → AreParts 65536 low 65536 ps → x / 65536 < first_key (join 65536 ps) → has x (join 65536 ps) ≡ false
part_under low x ps are less = key_under (low * 65536) x (join 65536 ps) (join_rises 65536 low 65536 ps are) less

pub part_pass : (low x : ℕ) (part : ℕ × List ℕ) (ps : List (ℕ × List ℕ)) → AreParts 65536 low 65536 (part ∷ ps) → part.0 < x / 65536 → has x (join 65536 (part ∷ ps)) ≡ has x (join 65536 ps)
part_pass low x part ps (a, some, r, later) less =
    has_append x (map (λ low. part.0 * 65536 + low) part.1) (join 65536 ps)
    ∙ ap (λ (b : Bool). b || has x (join 65536 ps)) (has_other 65536 x part.0 0 part.1 r (λ e. absurd (omega arith)))

pub part_own : (low x : ℕ) (part : ℕ × List ℕ) (ps : List (ℕ × List ℕ)) → AreParts 65536 low 65536 (part ∷ ps) → part.0 ≡ x / 65536 → has x (join 65536 (part ∷ ps)) ≡ has (x % 65536) part.1
part_own low x part ps (a, some, r, later) e =
    let up = part_up low part ps (a, some, r, later) in
    has_append x (map (λ low. part.0 * 65536 + low) part.1) (join 65536 ps)
    ∙ ap (λ (b : Bool). has x (map (λ low. part.0 * 65536 + low) part.1) || b) (part_under (part.0 + 1) x ps later (omega arith))
    ∙ or-false (has x (map (λ low. part.0 * 65536 + low) part.1)) ∙ has_same 65536 x part.0 0 part.1 r e

-- ---- positions are passed

pub walk_up : (n : ℕ) (ids : ℕ → List ℕ) → IsWalk n ids → (p d q : ℕ) → q ≡ p + d → q ≤ n → first_key (ids p) ≤ first_key (ids q)
walk_up n ids w p zero q e h = let same : first_key (ids q) ≡ first_key (ids p) = ap (λ (m : ℕ). first_key (ids m)) (let f : q ≡ p = omega arith in f) in omega arith
walk_up n ids w p (suc d) q e h = let one = w.up p (omega arith) in let ih = walk_up n ids w (p + 1) d q (omega arith) h in omega arith

walk_pass : (n : ℕ) (ids : ℕ → List ℕ) → IsWalk n ids → (x key p d q : ℕ) → q ≡ p + d → q < n → first_key (ids q) < key → key ≤ x / 65536 → has x (ids p) ≡ has x (ids (q + 1))
walk_pass n ids w x key p zero q e h less most =
    let same : p ≡ q = omega arith in
    ap (λ (m : ℕ). has x (ids m)) same ∙ w.pass q x h (omega arith)
walk_pass n ids w x key p (suc d) q e h less most =
    let up = walk_up n ids w p (suc d) q e (omega arith) in
    w.pass p x (omega arith) (omega arith) ∙ walk_pass n ids w x key (p + 1) d q (omega arith) h less most

-- ---- the first position whose key is not below one, by halves

pub record IsSought (n : ℕ) (ids : ℕ → List ℕ) (position key low left : ℕ) : Type 0 where
  pub within : low + left ≤ n
  pub later : position ≤ low
  pub lower : (p : ℕ) → position ≤ p → p < low → first_key (ids p) < key
  pub reached : key ≤ first_key (ids (low + left))
  pub same : (x : ℕ) → key * 65536 ≤ x → has x (ids position) ≡ has x (ids low)

pub sought_start : (n : ℕ) (ids : ℕ → List ℕ) → IsWalk n ids → (position key left : ℕ) → position ≤ n → key ≤ 65536 → left ≡ n - position → IsSought n ids position key position left
sought_start n ids w position key left h most e =
    let top : first_key (ids (position + left)) ≡ 65536 = w.end (position + left) (omega arith) in
    record { within = omega arith; later = omega arith; lower = λ p a b. absurd (omega arith); reached = omega arith; same = λ x h. refl }

pub sought_right : (n : ℕ) (ids : ℕ → List ℕ) → IsWalk n ids → (position key low left half : ℕ) → IsSought n ids position key low left → half < left → first_key (ids (low + half)) < key
    → IsSought n ids position key (low + (half + 1)) (left - (half + 1))
sought_right n ids w position key low left half s h less =
    let within = s.within in
    let later = s.later in
    let all : low + left ≡ low + (half + 1) + (left - (half + 1)) = omega arith in
    let next : low + half + 1 ≡ low + (half + 1) = omega arith in
    record {
      within = omega arith;
      later = omega arith;
      lower = λ p a b. let up = walk_up n ids w p (low + half - p) (low + half) (omega arith) (omega arith) in omega arith;
      reached = subst (λ (m : ℕ). key ≤ first_key (ids m)) all s.reached;
      same = λ x most. s.same x most ∙ walk_pass n ids w x key low half (low + half) refl (omega arith) less (omega arith) ∙ ap (λ (m : ℕ). has x (ids m)) next;
    }
