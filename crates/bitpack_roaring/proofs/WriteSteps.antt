-- What is written of the chunks so far, of one more, and of all.
use Rattle.std.proofs.Common.{◌≡◌, ℕ, ◌+◌, ◌-◌, ◌*◌, ◌/◌, ◌≤◌, Bool, true, false, ◌&&◌, cond, leb, ltb, List, [], ◌∷◌, ◌++◌, length, take, refl, sym, ap, ◌∙◌, arith, inl, inr, append-nil, append_assoc, length-append}
use Rattle.std.specs.List.{concat}
use Rattle.std.proofs.lemmas.Bool.{cases_lt, le-leb, le-ltb, lt-leb, lt-ltb}
use Rattle.std.proofs.lemmas.List.{length-map, nil_from_length, take_all}
use Rattle.bitpack_slices.specs.Bitmaps.{has_bit}
use Rattle.bitpack_slices.specs.Bodies.{bits, le_bytes, parts}
use Rattle.bitpack_slices.specs.Operations.{those}
use Rattle.bitpack_slices.specs.Reads.{has}
use Rattle.bitpack_roaring.proofs.FlagLaws.{flag_later, flag_own, flags_are}
use Rattle.bitpack_roaring.proofs.MeasureSteps.{cookie_len, entries_len}
use Rattle.bitpack_roaring.specs.Written.{are_runs, container, cookie, flagged, roaring, starts}
use Rattle.bitpack_roaring.specs.inner.Sizes.{bodies, cookie_of, entries, has_run, lists, offsets_of, starts_of}

-- `n` containers and `at` bytes of them are written, and the offset of each
pub record Writes (all left : List (ℕ × List ℕ)) (start n at : ℕ) (offsets : Bool) (flags entry_bytes start_bytes body_bytes : List ℕ) : Type 0 where
  pub counted : n + length left ≡ length all
  pub sized : at + length (concat (bodies left)) ≡ length (concat (bodies all))
  pub flags_left : (m : ℕ) → n ≤ m → has_bit flags m ≡ has m (flagged n (lists left))
  pub entries_are : take (4 * n) entry_bytes ++ entries left ≡ entries all
  pub starts_are : offsets ≡ true → take (4 * n) start_bytes ++ starts_of (start + at) left ≡ starts_of start all
  pub bodies_are : take at body_bytes ++ concat (bodies left) ≡ concat (bodies all)

pub writes_start : (all : List (ℕ × List ℕ)) (start : ℕ) (offsets : Bool) (flags entry_bytes start_bytes body_bytes : List ℕ)
    → ((m : ℕ) → has_bit flags m ≡ has m (flagged 0 (lists all))) → Writes all all start 0 0 offsets flags entry_bytes start_bytes body_bytes
writes_start all start offsets flags entry_bytes start_bytes body_bytes are =
    let first : start + 0 ≡ start = omega arith in
    record {
      counted = omega arith;
      sized = omega arith;
      flags_left = λ m h. are m;
      entries_are = refl;
      starts_are = λ some. ap (λ (n : ℕ). starts_of n all) first;
      bodies_are = refl;
    }

appended : (front own rest all more : List ℕ) → more ≡ front ++ own → front ++ (own ++ rest) ≡ all → more ++ rest ≡ all
appended front own rest all more is before = ap (λ (l : List ℕ). l ++ rest) is ∙ append_assoc front own rest ∙ before

module _ (all left later : List (ℕ × List ℕ)) (key : ℕ) (xs : List ℕ) (start n at : ℕ) (offsets : Bool) (flags entry_bytes start_bytes body_bytes : List ℕ)
    (so : Writes all left start n at offsets flags entry_bytes start_bytes body_bytes) (is : left ≡ (key, xs) ∷ later) where
  -- the flag of the next
  pub flag_is : has_bit flags n ≡ are_runs xs
  flag_is = so.flags_left n (omega arith) ∙ ap (λ (ps : List (ℕ × List ℕ)). has n (flagged n (lists ps))) is ∙ flag_own n xs (lists later)

  pub more_room : n + 1 ≤ length all
  more_room = let a = so.counted in let b = ap length is in omega arith

  pub body_room : at + length (container xs) ≤ length (concat (bodies all))
  body_room =
      let a = so.sized in
      let b = ap (λ (ps : List (ℕ × List ℕ)). length (concat (bodies ps))) is ∙ length-append (container xs) (concat (bodies later)) in
      omega arith

  pub starts_room : length start_bytes ≡ cond offsets 4 0 * length all → offsets ≡ true → 4 * n + 4 ≤ length start_bytes
  starts_room long some =
      let four : cond offsets 4 0 * length all ≡ 4 * length all = ap (λ (b : Bool). cond b 4 0 * length all) some in
      let room = more_room in
      omega arith

  pub writes_more : (count size : ℕ) (entry_bytes' start_bytes' body_bytes' : List ℕ) → count ≡ length xs → size ≡ length (container xs)
      → take (4 * (n + 1)) entry_bytes' ≡ take (4 * n) entry_bytes ++ (le_bytes 2 key ++ le_bytes 2 (count - 1))
      → (offsets ≡ true → take (4 * (n + 1)) start_bytes' ≡ take (4 * n) start_bytes ++ le_bytes 4 (start + at))
      → take (at + size) body_bytes' ≡ take at body_bytes ++ container xs
      → Writes all later start (n + 1) (at + size) offsets flags entry_bytes' start_bytes' body_bytes'
  unfolding starts
  writes_more count size entry_bytes' start_bytes' body_bytes' counts sizes entry place body =
      let before : n + length left ≡ length all = so.counted in
      let lefts = ap length is in
      let bodies_left = ap (λ (ps : List (ℕ × List ℕ)). length (concat (bodies ps))) is ∙ length-append (container xs) (concat (bodies later)) in
      let sized : at + length (concat (bodies left)) ≡ length (concat (bodies all)) = so.sized in
      let next : start + (at + size) ≡ start + at + length (container xs) = omega arith in
      record {
        counted = omega arith;
        sized = omega arith;
        flags_left = λ m more. so.flags_left m (omega arith) ∙ ap (λ (ps : List (ℕ × List ℕ)). has m (flagged n (lists ps))) is ∙ flag_later m n xs (lists later) more;
        entries_are = appended (take (4 * n) entry_bytes) (le_bytes 2 key ++ le_bytes 2 (count - 1)) (entries later) (entries all) (take (4 * (n + 1)) entry_bytes') entry
            (ap (λ (k : ℕ). take (4 * n) entry_bytes ++ ((le_bytes 2 key ++ le_bytes 2 (k - 1)) ++ entries later)) counts
            ∙ ap (λ (ps : List (ℕ × List ℕ)). take (4 * n) entry_bytes ++ entries ps) (sym is) ∙ so.entries_are);
        starts_are = λ some. appended (take (4 * n) start_bytes) (le_bytes 4 (start + at)) (starts_of (start + (at + size)) later) (starts_of start all) (take (4 * (n + 1)) start_bytes') (place some)
            (ap (λ (k : ℕ). take (4 * n) start_bytes ++ (le_bytes 4 (start + at) ++ starts_of k later)) next
            ∙ ap (λ (ps : List (ℕ × List ℕ)). take (4 * n) start_bytes ++ starts_of (start + at) ps) (sym is) ∙ so.starts_are some);
        bodies_are = appended (take at body_bytes) (container xs) (concat (bodies later)) (concat (bodies all)) (take (at + size) body_bytes') body
            (ap (λ (ps : List (ℕ × List ℕ)). take at body_bytes ++ concat (bodies ps)) (sym is) ∙ so.bodies_are);
      }

ended : (n : ℕ) (xs all : List ℕ) → length xs ≤ n → take n xs ++ [] ≡ all → xs ≡ all
ended n xs all long e = sym (take_all n xs long) ∙ sym (append-nil (take n xs)) ∙ e

starts_done : (offsets : Bool) (start : ℕ) (all : List (ℕ × List ℕ)) (bytes : List ℕ) → length bytes ≡ cond offsets 4 0 * length all → (offsets ≡ true → bytes ≡ starts_of start all)
    → bytes ≡ offsets_of offsets start all
starts_done true start all bytes long are = are refl
starts_done false start all bytes long are = let none : length bytes ≡ 0 = omega arith in nil_from_length bytes none

module _ (all left : List (ℕ × List ℕ)) (start n at : ℕ) (offsets : Bool) (flags entry_bytes start_bytes body_bytes : List ℕ)
    (so : Writes all left start n at offsets flags entry_bytes start_bytes body_bytes) (none : left ≡ []) where
  pub entries_done : length entry_bytes ≡ 4 * length all → entry_bytes ≡ entries all
  entries_done long =
      let a = so.counted in
      let b = ap length none in
      ended (4 * n) entry_bytes (entries all) (omega arith) (ap (λ (ps : List (ℕ × List ℕ)). take (4 * n) entry_bytes ++ entries ps) (sym none) ∙ so.entries_are)

  pub all_starts : length start_bytes ≡ cond offsets 4 0 * length all → start_bytes ≡ offsets_of offsets start all
  unfolding starts
  all_starts long = starts_done offsets start all start_bytes long (λ some.
      let a = so.counted in
      let b = ap length none in
      let four : cond offsets 4 0 * length all ≡ 4 * length all = ap (λ (b : Bool). cond b 4 0 * length all) some in
      ended (4 * n) start_bytes (starts_of start all) (omega arith)
      (ap (λ (ps : List (ℕ × List ℕ)). take (4 * n) start_bytes ++ starts_of (start + at) ps) (sym none) ∙ so.starts_are some))

  pub bodies_done : length body_bytes ≡ length (concat (bodies all)) → body_bytes ≡ concat (bodies all)
  bodies_done long =
      let a = so.sized in
      let b = ap (λ (ps : List (ℕ × List ℕ)). length (concat (bodies ps))) none in
      ended at body_bytes (concat (bodies all)) (omega arith) (ap (λ (ps : List (ℕ × List ℕ)). take at body_bytes ++ concat (bodies ps)) (sym none) ∙ so.bodies_are)

-- ---- all bytes

offsets_are : (any : Bool) (count : ℕ) (offsets : Bool) (xs ys : List ℕ) → offsets ≡ cond any (leb 4 count) true → (offsets ≡ true → xs ≡ ys)
    → cond offsets xs [] ≡ cond (any && ltb count 4) [] ys
offsets_are true count offsets xs ys some same = elim (cases_lt count 4) [
  | inl less ↦ ap (λ (b : Bool). cond b xs []) (some ∙ lt-leb 4 count less) ∙ sym (ap (λ (b : Bool). cond b [] ys) (lt-ltb count 4 less))
  | inr more ↦ (
      let there : offsets ≡ true = some ∙ le-leb 4 count more in
      ap (λ (b : Bool). cond b xs []) there ∙ same there ∙ sym (ap (λ (b : Bool). cond b [] ys) (le-ltb count 4 more)))
]
offsets_are false count offsets xs ys some same = ap (λ (b : Bool). cond b xs []) some ∙ same some

module _ (ids : List ℕ) (containers keys start : ℕ) (runs offsets : Bool) (flags : List ℕ) (many : containers ≡ length (parts 65536 ids)) (ran : runs ≡ has_run (parts 65536 ids))
    (first : keys ≡ cond runs (4 + (containers + 7) / 8) 8) (some : offsets ≡ cond runs (leb 4 containers) true) (starts_at : start ≡ keys + cond offsets 8 4 * containers)
    (flagged_are : (m : ℕ) → has_bit flags m ≡ has m (flagged 0 (lists (parts 65536 ids)))) where
  abbrev pub chunks : List (ℕ × List ℕ)
  chunks = parts 65536 ids

  listed : length (lists chunks) ≡ containers
  listed = length-map chunks (λ chunk. chunk.1) ∙ sym many

  cookie_is : cookie_of runs containers flags ≡ cookie (lists chunks)
  unfolding cookie
  cookie_is =
      let all : List (List ℕ) = lists chunks in
      let long = listed in
      let high : ℕ = 8 * ((containers + 7) / 8) in
      let are : those high (has_bit flags) ≡ flagged 0 all = flags_are flags high all (omega arith) flagged_are in
      ap (λ (l : List ℕ). cond runs (le_bytes 2 12347 ++ le_bytes 2 (containers - 1) ++ le_bytes ((containers + 7) / 8) (bits l)) (le_bytes 4 12346 ++ le_bytes 4 containers)) are
      ∙ ap (λ (b : Bool). cond b (le_bytes 2 12347 ++ le_bytes 2 (containers - 1) ++ le_bytes ((containers + 7) / 8) (bits (flagged 0 all))) (le_bytes 4 12346 ++ le_bytes 4 containers)) ran
      ∙ ap (λ (n : ℕ). cond (has_run chunks) (le_bytes 2 12347 ++ le_bytes 2 (n - 1) ++ le_bytes ((n + 7) / 8) (bits (flagged 0 all))) (le_bytes 4 12346 ++ le_bytes 4 n)) (sym listed)

  start_is : offsets ≡ true → start ≡ length (cookie (lists chunks) ++ entries chunks) + 4 * length chunks
  start_is there =
      let a = length-append (cookie (lists chunks)) (entries chunks) in
      let b : length (cookie (lists chunks)) ≡ keys = cookie_len (lists chunks) ∙ ap (λ (n : ℕ). cond (has_run chunks) (4 + (n + 7) / 8) 8) listed
      ∙ ap (λ (x : Bool). cond x (4 + (containers + 7) / 8) 8) (sym ran) ∙ sym first in
      let d = entries_len chunks in
      let eight : cond offsets 8 4 * containers ≡ 8 * containers = ap (λ (x : Bool). cond x 8 4 * containers) there in
      omega arith

  pub bitmap_is : (cookie_bytes entry_bytes start_bytes body_bytes : List ℕ) → cookie_bytes ≡ cookie_of runs containers flags → entry_bytes ≡ entries chunks
      → start_bytes ≡ offsets_of offsets start chunks → body_bytes ≡ concat (bodies chunks) → cookie_bytes ++ (entry_bytes ++ (start_bytes ++ body_bytes)) ≡ roaring ids
  unfolding roaring
  bitmap_is cookie_bytes entry_bytes start_bytes body_bytes a b d e =
      let head : List ℕ = cookie (lists chunks) ++ entries chunks in
      let offs : List ℕ = cond (has_run chunks && ltb (length chunks) 4) [] (starts_of (length head + 4 * length chunks) chunks) in
      let said : offsets ≡ cond (has_run chunks) (leb 4 (length chunks)) true =
      some ∙ ap (λ (x : Bool). cond x (leb 4 containers) true) ran ∙ ap (λ (n : ℕ). cond (has_run chunks) (leb 4 n) true) many in
      let places : start_bytes ≡ offs =
      d ∙ offsets_are (has_run chunks) (length chunks) offsets (starts_of start chunks) (starts_of (length head + 4 * length chunks) chunks) said (λ some'. ap (λ (n : ℕ). starts_of n chunks) (start_is some')) in
      let parts_are : cookie_bytes ++ (entry_bytes ++ (start_bytes ++ body_bytes)) ≡ cookie (lists chunks) ++ (entries chunks ++ (offs ++ concat (bodies chunks))) =
      λ i. (a ∙ cookie_is) i ++ (b i ++ (places i ++ e i)) in
      parts_are ∙ sym (append_assoc (cookie (lists chunks)) (entries chunks) (offs ++ concat (bodies chunks))) ∙ sym (append_assoc head offs (concat (bodies chunks)))
