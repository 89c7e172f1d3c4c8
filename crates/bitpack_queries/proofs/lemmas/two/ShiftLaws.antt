-- Ids between two numbers, and what they become if a number is added to each.
use Rattle.std.proofs.Common.{◌≡◌, ℕ, suc, ◌+◌, ◌-◌, ◌*◌, ◌/◌, ◌%◌, ◌^◌, ◌<◌, ◌≤◌, ◌&&◌, ◌||◌, Bool, false, cond, eqb, leb, ltb, List, [], ◌∷◌, ◌++◌, drop, get_or, length, map, min, slice_get, Some, take, refl, sym, ap, ◌∙◌, arith, inl, inr, subst}
use Rattle.std.proofs.lemmas.Bool.{cases_lt, le-leb, lt-leb, lt-ltb, ne_eqb}
use Rattle.std.proofs.lemmas.List.{append-nil, length-map, length-take-le, length-drop, take_all}
use Rattle.std.proofs.Math.Nat.{min-eq_left}
use Rattle.std.proofs.lemmas.Option.{get_or_from_slice_get, slice_get_within}
use Rattle.bitpack_slices.proofs.ForCallers.{eqb_same, has_below, le_self, none_pass, rank_above, rank_below, rank_le, rank_under, rising_at, rising_lower, rising_room, rising_top, those_are, those_part, those_same}
use Rattle.bitpack_slices.specs.Bodies.{IsRising}
use Rattle.bitpack_slices.specs.Operations.{those}
use Rattle.bitpack_slices.specs.Reads.{has, rank}
use Rattle.bitpack_queries.specs.Pairs.{IsPart}
use Rattle.bitpack_queries.specs.Shifts.{has_moved, moved}

-- those from one number to before another
abbrev pub between : ℕ → ℕ → List ℕ → List ℕ
between low high xs = take (rank high xs - rank low xs) (drop (rank low xs) xs)

one_more : (x y : ℕ) (ys : List ℕ) → y < x → rank x (y ∷ ys) ≡ suc (rank x ys)
one_more x y ys less =
    let first : ◌≡◌ {A = ℕ} (cond (ltb y x) 1 0) 1 = ap (λ (b : Bool). cond b 1 0) (lt-ltb y x less) in
    omega arith

front_rise : (low least high top : ℕ) (xs : List ℕ) → IsRising least top xs → low ≤ least → low ≤ high → IsRising low high (take (rank high xs) xs)
front_rise low least high top [] r a b = b
front_rise low least high top (y ∷ ys) (h, r) a b = elim (cases_lt y high) [
  | inl less ↦ subst (λ (n : ℕ). IsRising low high (take n (y ∷ ys))) (sym (one_more high y ys less))
      (omega arith, front_rise (y + 1) (y + 1) high top ys r (omega arith) (omega arith))
  | inr more ↦ subst (λ (n : ℕ). IsRising low high (take n (y ∷ ys))) (sym (rank_below high y top (y ∷ ys) (le_self y, r) more)) b
]

front_has : (x least high top : ℕ) (xs : List ℕ) → IsRising least top xs → x < high → has x (take (rank high xs) xs) ≡ has x xs
front_has x least high top [] r h = refl
front_has x least high top (y ∷ ys) (a, r) h = elim (cases_lt y high) [
  | inl less ↦ ap (λ (n : ℕ). has x (take n (y ∷ ys))) (one_more high y ys less)
      ∙ ap (λ (b : Bool). eqb y x || b) (front_has x (y + 1) high top ys r h)
  | inr more ↦ ap (λ (n : ℕ). has x (take n (y ∷ ys))) (rank_below high y top (y ∷ ys) (le_self y, r) more)
      ∙ sym (has_below x y top (y ∷ ys) (le_self y, r) (omega arith))
]

-- what is between two numbers, if the first id is below the lower one, or if none is
cut_more : (low high y : ℕ) (ys : List ℕ) → y < low → low ≤ high → between low high (y ∷ ys) ≡ between low high ys
cut_more low high y ys less le =
    let a = one_more low y ys less in
    let b = one_more high y ys (omega arith) in
    let e : rank high (y ∷ ys) - rank low (y ∷ ys) ≡ rank high ys - rank low ys = omega arith in
    (λ i. take (e i) (drop (a i) (y ∷ ys)))

cut_none : (low high top y : ℕ) (ys : List ℕ) → IsRising (y + 1) top ys → low ≤ y → between low high (y ∷ ys) ≡ take (rank high (y ∷ ys)) (y ∷ ys)
cut_none low high top y ys r le =
    let none = rank_below low y top (y ∷ ys) (le_self y, r) le in
    let e : rank high (y ∷ ys) - rank low (y ∷ ys) ≡ rank high (y ∷ ys) = omega arith in
    (λ i. take (e i) (drop (none i) (y ∷ ys)))

pub between_rise : (low high least top : ℕ) (xs : List ℕ) → IsRising least top xs → low ≤ high → IsRising low high (between low high xs)
between_rise low high least top [] r h = h
between_rise low high least top (y ∷ ys) (a, r) h = elim (cases_lt y low) [
  | inl less ↦ subst (IsRising low high) (sym (cut_more low high y ys less h)) (between_rise low high (y + 1) top ys r h)
  | inr more ↦ subst (IsRising low high) (sym (cut_none low high top y ys r more)) (front_rise low y high top (y ∷ ys) (le_self y, r) more h)
]

between_has : (x low high least top : ℕ) (xs : List ℕ) → IsRising least top xs → low ≤ x → x < high → has x (between low high xs) ≡ has x xs
between_has x low high least top [] r a h = refl
between_has x low high least top (y ∷ ys) (b, r) a h = elim (cases_lt y low) [
  | inl less ↦ ap (has x) (cut_more low high y ys less (omega arith)) ∙ between_has x low high (y + 1) top ys r a h
      ∙ sym (ap (λ (c : Bool). c || has x ys) (ne_eqb y x (λ e. omega arith)))
  | inr more ↦ ap (has x) (cut_none low high top y ys r more) ∙ front_has x y high top (y ∷ ys) (le_self y, r) h
]

-- no id is between two numbers that are above as many
pub none_between : (x low high : ℕ) (xs : List ℕ) → IsRising 0 (2 ^ 32) xs → rank high xs ≤ rank low xs → low ≤ x → x < high → has x xs ≡ false
none_between x low high xs r few a h =
    let none : rank high xs - rank low xs ≡ 0 = omega arith in
    sym (between_has x low high 0 (2 ^ 32) xs r a h) ∙ ap (λ (n : ℕ). has x (take n (drop (rank low xs) xs))) none

-- ---- a number is added to each

abbrev pub move : ℕ → ℕ → List ℕ → List ℕ
move up down xs = map (λ id. id + up - down) xs

move_rise : (up down a b low high : ℕ) (xs : List ℕ) → IsRising low high xs → a + down ≤ low + up → ((y : ℕ) → y < high → y + up < b + down) → a ≤ b → IsRising a b (move up down xs)
move_rise up down a b low high [] r begin end le = le
move_rise up down a b low high (x ∷ xs) (h, r) begin end le =
    let room = rising_room (x + 1) high xs r in
    let less = end x (omega arith) in
    (omega arith, move_rise up down (x + up - down + 1) b (x + 1) high xs r (omega arith) end (omega arith))

move_none : (up down x low high : ℕ) (xs : List ℕ) → IsRising low high xs → down ≤ low + up → x + down < up → has x (move up down xs) ≡ false
move_none up down x low high [] r begin less = refl
move_none up down x low high (y ∷ ys) (h, r) begin less =
    ap (λ (b : Bool). b || has x (move up down ys)) (ne_eqb (y + up - down) x (λ e. omega arith)) ∙ move_none up down x (y + 1) high ys r (omega arith) less

move_has : (up down x low high : ℕ) (xs : List ℕ) → IsRising low high xs → down ≤ low + up → up ≤ x + down → has x (move up down xs) ≡ has (x + down - up) xs
move_has up down x low high [] r begin le = refl
move_has up down x low high (y ∷ ys) (h, r) begin le =
    ap (λ (b : Bool). b || has x (move up down ys)) (eqb_same (y + up - down) x y (x + down - up) (λ e. omega arith) (λ e. omega arith))
    ∙ ap (λ (b : Bool). eqb y (x + down - up) || b) (move_has up down x (y + 1) high ys r (omega arith) le)

-- the ids that become numbers from `a` to before `b`
abbrev pub to_move : ℕ → ℕ → ℕ → ℕ → List ℕ → List ℕ
to_move up down a b xs = between (a + down - up) (b + down - up) xs

module _ (up down a b : ℕ) (xs : List ℕ) (rise : IsRising 0 (2 ^ 32) xs) (le : a ≤ b) where
  to_move_rise : IsRising (a + down - up) (b + down - up) (to_move up down a b xs)
  to_move_rise = between_rise (a + down - up) (b + down - up) 0 (2 ^ 32) xs rise (omega arith)

  pub moved_rise : IsRising a b (move up down (to_move up down a b xs))
  moved_rise = move_rise up down a b (a + down - up) (b + down - up) (to_move up down a b xs) to_move_rise (omega arith) (λ y h. omega arith) le

  -- each stays an id
  pub moved_fits : (k : ℕ) → k < length (to_move up down a b xs)
      → (down ≤ get_or (to_move up down a b xs) k 0 + up) × (get_or (to_move up down a b xs) k 0 + up - down < b)
  moved_fits k h =
      let first = rising_at (a + down - up) (b + down - up) k (to_move up down a b xs) to_move_rise h in
      let last = rising_top (a + down - up) (b + down - up) k (to_move up down a b xs) to_move_rise h in
      (omega arith, omega arith)

  moved_test : (x : ℕ) → x < b → (leb a x && has_moved up down xs x) ≡ has x (move up down (to_move up down a b xs))
  moved_test x h = elim (cases_lt x a) [
    | inl less ↦ ap (λ (t : Bool). t && has_moved up down xs x) (lt-leb a x less) ∙ sym (has_below x a b (move up down (to_move up down a b xs)) moved_rise less)
    | inr more ↦ ap (λ (t : Bool). t && has_moved up down xs x) (le-leb a x more) ∙ elim (cases_lt (x + down) up) [
      | inl less ↦ ap (λ (t : Bool). t && has (x + down - up) xs) (lt-leb up (x + down) less)
          ∙ sym (move_none up down x (a + down - up) (b + down - up) (to_move up down a b xs) to_move_rise (omega arith) less)
      | inr enough ↦ ap (λ (t : Bool). t && has (x + down - up) xs) (le-leb up (x + down) enough)
          ∙ sym (between_has (x + down - up) (a + down - up) (b + down - up) 0 (2 ^ 32) xs rise (omega arith) (omega arith))
          ∙ sym (move_has up down x (a + down - up) (b + down - up) (to_move up down a b xs) to_move_rise (omega arith) enough)
    ]
  ]

  pub moved_those : move up down (to_move up down a b xs) ≡ those b (λ x. leb a x && has_moved up down xs x)
  moved_those = sym (those_are (λ x. leb a x && has_moved up down xs x) b (move up down (to_move up down a b xs))
      (rising_lower a 0 b (move up down (to_move up down a b xs)) (omega arith) moved_rise) moved_test)

-- all that stay ids
pub moved_all : (up down : ℕ) (xs : List ℕ) → IsRising 0 (2 ^ 32) xs → move up down (to_move up down 0 (2 ^ 32) xs) ≡ moved up down xs
moved_all up down xs rise = moved_those up down 0 (2 ^ 32) xs rise (omega arith)
    ∙ those_same (2 ^ 32) (λ x. leb 0 x && has_moved up down xs x) (has_moved up down xs) (λ x h. ap (λ (t : Bool). t && has_moved up down xs x) (le-leb 0 x (omega arith)))

pub moved_len : (up down : ℕ) (xs : List ℕ) → IsRising 0 (2 ^ 32) xs → length (moved up down xs) ≡ rank (2 ^ 32 + down - up) xs - rank (0 + down - up) xs
moved_len up down xs rise =
    let room = rank_le (2 ^ 32 + down - up) xs in
    ap length (sym (moved_all up down xs rise)) ∙ length-map (to_move up down 0 (2 ^ 32) xs) (λ id. id + up - down)
    ∙ length-take-le (rank (2 ^ 32 + down - up) xs - rank (0 + down - up) xs) (drop (rank (0 + down - up) xs) xs) (omega (arith, length-drop (rank (0 + down - up) xs) xs))

pub moved_few : (up down : ℕ) (xs : List ℕ) → IsRising 0 (2 ^ 32) xs → length (moved up down xs) ≤ length xs
moved_few up down xs rise = let long = moved_len up down xs rise in let all = rank_le (2 ^ 32 + down - up) xs in omega arith

-- ---- chunk by chunk

-- what is left from a number on
abbrev pub later : ℕ → ℕ → ℕ → List ℕ → ℕ → Bool
later low up down xs x = leb low x && has_moved up down xs x

-- the next chunk is the one of an id
module _ (low up down at id key : ℕ) (xs : List ℕ) (rise : IsRising 0 (2 ^ 32) xs) (here : at ≡ rank (low + down - up) xs) (within : at < length xs)
    (is : get_or xs at 0 ≡ id) (fits : at < rank (2 ^ 32 + down - up) xs) (key_is : key ≡ (id + up - down) / 65536) where
  -- it becomes an id, which is not below the number
  pub id_fits : (down ≤ id + up) × (low ≤ id + up - down) × (id + up - down < 2 ^ 32)
  id_fits =
      let above : low + down - up ≤ id = elim (cases_lt id (low + down - up)) [
        | inl less ↦ (let more = rank_above (low + down - up) 0 (2 ^ 32) at xs rise within (omega arith) in absurd (omega arith))
        | inr more ↦ more
      ] in
      let below : id < 2 ^ 32 + down - up = elim (cases_lt id (2 ^ 32 + down - up)) [
        | inl less ↦ less
        | inr more ↦ (let few = rank_under (2 ^ 32 + down - up) 0 (2 ^ 32) at xs rise within (omega arith) in absurd (omega arith))
      ] in
      (omega arith, omega arith, omega arith)

  key_fits : (key < 65536) × (key * 65536 ≤ id + up - down) × (id + up - down < (key + 1) * 65536)
  key_fits = let (a, b, d) = id_fits in (omega arith, omega arith, omega arith)

  none_lower : (x : ℕ) → x / 65536 < key → later low up down xs x ≡ false
  none_lower x h = elim (cases_lt x low) [
    | inl less ↦ ap (λ (t : Bool). t && has_moved up down xs x) (lt-leb low x less)
    | inr more ↦ ap (λ (t : Bool). t && has_moved up down xs x) (le-leb low x more) ∙ elim (cases_lt (x + down) up) [
      | inl less ↦ ap (λ (t : Bool). t && has (x + down - up) xs) (lt-leb up (x + down) less)
      | inr enough ↦ ap (λ (t : Bool). t && has (x + down - up) xs) (le-leb up (x + down) enough)
          ∙ (let (a, b, d) = id_fits in
          let (e, f, g) = key_fits in
          none_between (x + down - up) (low + down - up) id xs rise (let few = rank_under id 0 (2 ^ 32) at xs rise within (omega arith) in omega arith) (omega arith) (omega arith))
    ]
  ]

  pub next_part : IsPart key (λ y. later low up down xs (key * 65536 + y)) (later low up down xs) (later ((key + 1) * 65536) up down xs)
  next_part =
      let (a, b, d) = id_fits in
      let (e, f, g) = key_fits in
      record {
        small = e;
        lower = none_lower;
        own = λ x h. (let same : x ≡ key * 65536 + x % 65536 = omega arith in ap (later low up down xs) same);
        passed = λ x h. ap (λ (t : Bool). t && has_moved up down xs x) (lt-leb ((key + 1) * 65536) x (omega arith));
        higher = λ x h. ap (λ (t : Bool). t && has_moved up down xs x) (le-leb low x (omega arith) ∙ sym (le-leb ((key + 1) * 65536) x (omega arith)));
      }

  -- its ids are what these become
  pub next_ids : move up down (to_move up down low ((key + 1) * 65536) xs) ≡ map (λ i. key * 65536 + i) (those 65536 (λ y. later low up down xs (key * 65536 + y)))
  next_ids =
      let (a, b, d) = id_fits in
      let (e, f, g) = key_fits in
      let test : ℕ → Bool = λ y. later low up down xs (key * 65536 + y) in
      moved_those up down low ((key + 1) * 65536) xs rise (omega arith)
      ∙ those_part ((key + 1) * 65536) (key * 65536) 65536 (later low up down xs) test (λ x. false) (omega arith) (λ x h. none_lower x (omega arith)) (λ x h. refl)
      (λ x h. refl) (λ x h i. absurd (omega arith))
      ∙ ap (λ (l : List ℕ). map (λ i. key * 65536 + i) (those 65536 test) ++ l) (none_pass ((key + 1) * 65536) (λ x. false) (λ x h. refl))
      ∙ append-nil (map (λ i. key * 65536 + i) (those 65536 test))

-- nothing is left
pub none_later : (low up down at : ℕ) (xs : List ℕ) → IsRising 0 (2 ^ 32) xs → at ≡ rank (low + down - up) xs → rank (2 ^ 32 + down - up) xs ≤ at
    → (x : ℕ) → x < 2 ^ 32 → later low up down xs x ≡ false
none_later low up down at xs rise here end x h = elim (cases_lt x low) [
  | inl less ↦ ap (λ (t : Bool). t && has_moved up down xs x) (lt-leb low x less)
  | inr more ↦ ap (λ (t : Bool). t && has_moved up down xs x) (le-leb low x more) ∙ elim (cases_lt (x + down) up) [
    | inl less ↦ ap (λ (t : Bool). t && has (x + down - up) xs) (lt-leb up (x + down) less)
    | inr enough ↦ ap (λ (t : Bool). t && has (x + down - up) xs) (le-leb up (x + down) enough)
        ∙ none_between (x + down - up) (low + down - up) (2 ^ 32 + down - up) xs rise (omega arith) (omega arith) (omega arith)
  ]
]

-- the ids from a position on that become a chunk, and where the next one begins
pub record IsStep (low up down at next key : ℕ) (xs : List ℕ) : Type 0 where
  pub small : key < 65536
  pub on : at < next
  pub within : next ≤ length xs
  pub fits : (k : ℕ) → k < next - at → (down ≤ get_or (take (next - at) (drop at xs)) k 0 + up) × (get_or (take (next - at) (drop at xs)) k 0 + up - down < 2 ^ 32)
  pub part : IsPart key (λ y. later low up down xs (key * 65536 + y)) (later low up down xs) (later (65536 * (key + 1)) up down xs)
  pub ids_are : move up down (take (next - at) (drop at xs)) ≡ map (λ i. key * 65536 + i) (those 65536 (λ y. later low up down xs (key * 65536 + y)))
  pub count_is : next - at ≡ length (those 65536 (λ y. later low up down xs (key * 65536 + y)))

pub step : (low up down at next end id key : ℕ) (xs : List ℕ) → IsRising 0 (2 ^ 32) xs → at ≡ rank (low + down - up) xs → end ≡ rank (2 ^ 32 + down - up) xs → at < end
    → slice_get xs at ≡ Some id → key ≡ (id + up - down) / 65536 → next ≡ rank (65536 * (key + 1) + down - up) xs → IsStep low up down at next key xs
step low up down at next end id key xs rise here end_is less found key_is next_is =
    let within : at < length xs = slice_get_within xs at id found in
    let is : get_or xs at 0 ≡ id = get_or_from_slice_get xs at id 0 found in
    let fits : at < rank (2 ^ 32 + down - up) xs = omega arith in
    let (begin, above, below) = id_fits low up down at id key xs rise here within is fits key_is in
    let (small, first, last) = key_fits low up down at id key xs rise here within is fits key_is in
    let end_of : 65536 * (key + 1) ≡ (key + 1) * 65536 = omega arith in
    let after : next ≡ rank ((key + 1) * 65536 + down - up) xs = next_is ∙ ap (λ (n : ℕ). rank (n + down - up) xs) end_of in
    let same : take (next - at) (drop at xs) ≡ to_move up down low ((key + 1) * 65536) xs = (λ i. take (after i - here i) (drop (here i) xs)) in
    let ids_are = ap (move up down) same ∙ next_ids low up down at id key xs rise here within is fits key_is in
    let test : ℕ → Bool = λ y. later low up down xs (key * 65536 + y) in
    let more = rank_above ((key + 1) * 65536 + down - up) 0 (2 ^ 32) at xs rise within (omega arith) in
    let room = rank_le ((key + 1) * 65536 + down - up) xs in
    let long = length-take-le (next - at) (drop at xs) (omega (arith, length-drop at xs)) in
    record {
      small = small;
      on = omega arith;
      within = omega arith;
      fits = λ k h.
          let there : k < length (to_move up down low ((key + 1) * 65536) xs) = omega (arith, ap length same) in
          let (a, b) = moved_fits up down low ((key + 1) * 65536) xs rise (omega arith) k there in
          let e = ap (λ (l : List ℕ). get_or l k 0) same in
          (omega arith, omega arith);
      part = subst (λ (n : ℕ). IsPart key test (later low up down xs) (later n up down xs)) (sym end_of) (next_part low up down at id key xs rise here within is fits key_is);
      ids_are = ids_are;
      count_is = sym long ∙ sym (length-map (take (next - at) (drop at xs)) (λ id. id + up - down)) ∙ ap length ids_are ∙ length-map (those 65536 test) (λ i. key * 65536 + i);
    }

pub stays : (low up down at end id : ℕ) (xs : List ℕ) → IsRising 0 (2 ^ 32) xs → at ≡ rank (low + down - up) xs → end ≡ rank (2 ^ 32 + down - up) xs → at < end
    → slice_get xs at ≡ Some id → (down ≤ id + up) × (id + up - down < 2 ^ 32)
stays low up down at end id xs rise here end_is less found =
    let (begin, above, below) = id_fits low up down at id ((id + up - down) / 65536) xs rise here (slice_get_within xs at id found) (get_or_from_slice_get xs at id 0 found) (omega arith) refl in
    (begin, below)

-- ---- ids that are copied

pub copied : (from n result : ℕ) (own xs : List ℕ) → length own ≡ n → from + n ≤ length xs → result ≡ min (length own) (length xs - from) → take result own ≡ take result (drop from xs)
    → own ≡ take n (drop from xs)
copied from n result own xs long room is so =
    let least = min-eq_left {n = length own} {m = length xs - from} (omega arith) in
    let e : result ≡ n = omega arith in
    sym (take_all result own (omega arith)) ∙ so ∙ ap (λ (k : ℕ). take k (drop from xs)) e

module _ (up down from result : ℕ) (own xs : List ℕ) (rise : IsRising 0 (2 ^ 32) xs) (from_is : from ≡ rank (down - up) xs) (long : length own ≡ rank (2 ^ 32 + down - up) xs - from)
    (is : result ≡ min (length own) (length xs - from)) (so : take result own ≡ take result (drop from xs)) where
  all_copied : own ≡ to_move up down 0 (2 ^ 32) xs
  all_copied =
      let a = rank_le (2 ^ 32 + down - up) xs in
      let b = rank_le (down - up) xs in
      let zeroth : down - up ≡ 0 + down - up = omega arith in
      let here : from ≡ rank (0 + down - up) xs = from_is ∙ ap (λ (n : ℕ). rank n xs) zeroth in
      copied from (rank (2 ^ 32 + down - up) xs - from) result own xs long (omega arith) is so ∙ (λ i. take (rank (2 ^ 32 + down - up) xs - here i) (drop (here i) xs))

  pub all_fit : (k : ℕ) → k < length own → (down ≤ get_or own k 0 + up) × (get_or own k 0 + up - down < 2 ^ 32)
  all_fit k h = subst (λ (l : List ℕ). (down ≤ get_or l k 0 + up) × (get_or l k 0 + up - down < 2 ^ 32)) (sym all_copied)
      (moved_fits up down 0 (2 ^ 32) xs rise (omega arith) k (omega (arith, ap length all_copied)))

  pub all_moved : (new : List ℕ) → new ≡ move up down own → new ≡ moved up down xs
  all_moved new e = e ∙ ap (move up down) all_copied ∙ moved_all up down xs rise
