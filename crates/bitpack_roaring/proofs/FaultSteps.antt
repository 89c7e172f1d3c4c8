-- The first fault, test by test.
use Rattle.std.proofs.Common.{◌≡◌, ℕ, ◌+◌, ◌-◌, ◌*◌, ◌/◌, ◌<◌, ◌≤◌, ◌&&◌, not, Bool, true, false, cond, eqb, leb, ltb, List, length, take, drop, Option, Some, None, refl, sym, ap, ◌∙◌, arith, subst, add-one, le-ltb, lt-ltb, length-drop, length-take-le}
use Rattle.std.specs.Option.{option_or}
use Rattle.bitpack_slices.specs.declared.set_error.SetError.{SetError}
use Rattle.bitpack_slices.specs.declared.set_error.SetError.TheVariants.{BadKey, BadOffset, Short}
use Rattle.bitpack_roaring.proofs.ContainerLaws.{HasSize, size_of}
use Rattle.bitpack_roaring.specs.Faults.{container_fault, cookie_fault, head_fault, key_fault, numbers_fault, offset_fault}
use Rattle.bitpack_roaring.specs.inner.Heads.{IsHead}
use Rattle.bitpack_roaring.specs.Roaring as roaring
use Rattle.bitpack_roaring.specs.Roaring.{body_at, count_at, has_offsets, head_len, is_run, key_at, keys_start, offset_at, position_at, size_from, start_at}

this_one : (b : Bool) (e : SetError) (rest : Option SetError) → b ≡ true → option_or (cond b (Some e) None) rest ≡ Some e
this_one b e rest h = ap (λ (t : Bool). option_or (cond t (Some e) None) rest) h

later_one : (b : Bool) (e : SetError) (rest : Option SetError) → b ≡ false → option_or (cond b (Some e) None) rest ≡ rest
later_one b e rest h = ap (λ (t : Bool). option_or (cond t (Some e) None) rest) h

-- ---- the head

module _ (bytes : List ℕ) (runs : Bool) (count keys : ℕ) (offsets : Bool) (entry start : ℕ) (r : runs ≡ roaring.has_runs bytes) (n : count ≡ roaring.containers bytes)
    (k : keys ≡ cond runs (4 + (count + 7) / 8) 8) (o : offsets ≡ cond runs (leb 4 count) true) (e : entry ≡ cond offsets 8 4) (s : start ≡ keys + entry * count) where
  keys_are : keys ≡ keys_start bytes
  unfolding keys_start
  keys_are = k ∙ (λ i. cond (r i) (4 + (n i + 7) / 8) 8)

  offsets_are : offsets ≡ has_offsets bytes
  unfolding has_offsets
  offsets_are = o ∙ (λ i. cond (r i) (leb 4 (n i)) true)

  start_is : start ≡ head_len bytes
  unfolding head_len
  start_is = s ∙ ap (λ (m : ℕ). keys + m * count) e ∙ (λ i. keys_are i + cond (offsets_are i) 8 4 * n i)

  pub head_is : 4 ≤ length bytes → count ≤ 65536 → start ≤ length bytes → IsHead bytes runs count keys offsets start
  head_is four few room = record { four = four; few = few; room = room; runs_are = r; containers_are = n; keys_are = keys_are; offsets_are = offsets_are; start_is = start_is }

  pub head_short : 4 ≤ length bytes → cookie_fault bytes ≡ None → length bytes < start → head_fault bytes ≡ Some Short
  unfolding head_fault
  head_short four cookie less =
      later_one (ltb (length bytes) 4) Short _ (le-ltb (length bytes) 4 four) ∙ ap (λ (c : Option SetError). option_or c (cond (ltb (length bytes) (head_len bytes)) (Some Short) None)) cookie
      ∙ ap (λ (b : Bool). cond b (Some Short) None) (lt-ltb (length bytes) (head_len bytes) (subst (λ (m : ℕ). length bytes < m) start_is less))

  pub head_none : 4 ≤ length bytes → cookie_fault bytes ≡ None → start ≤ length bytes → head_fault bytes ≡ None
  unfolding head_fault
  head_none four cookie room =
      later_one (ltb (length bytes) 4) Short _ (le-ltb (length bytes) 4 four) ∙ ap (λ (c : Option SetError). option_or c (cond (ltb (length bytes) (head_len bytes)) (Some Short) None)) cookie
      ∙ ap (λ (b : Bool). cond b (Some Short) None) (le-ltb (length bytes) (head_len bytes) (subst (λ (m : ℕ). m ≤ length bytes) start_is room))

-- ---- a container

module _ (bytes : List ℕ) (m start : ℕ) (s : start ≡ start_at bytes m) where
  abbrev pub falls : Bool
  falls = ltb 0 m && leb (key_at bytes m) (key_at bytes (m - 1))

  abbrev pub other : Bool
  other = has_offsets bytes && not (eqb (offset_at bytes m) start)

  pub key_found : falls ≡ true → container_fault bytes m ≡ Some (BadKey m)
  unfolding container_fault key_fault
  key_found h = this_one falls (BadKey m) _ h

  abbrev pub others : Option SetError
  others = option_or (cond (ltb (length bytes) (start + size_from bytes m start)) (Some Short) None)
      (numbers_fault m (position_at bytes m) (is_run bytes m) (count_at bytes m) (take (size_from bytes m start) (drop start bytes)))

  at_start : container_fault bytes m ≡ option_or (cond falls (Some (BadKey m)) None) (option_or (cond other (Some (BadOffset m)) None) others)
  unfolding container_fault key_fault offset_fault
  at_start i = option_or (cond falls (Some (BadKey m)) None) (option_or (cond (has_offsets bytes && not (eqb (offset_at bytes m) (sym s i))) (Some (BadOffset m)) None)
      (option_or (cond (ltb (length bytes) (sym s i + size_from bytes m (sym s i))) (Some Short) None)
      (numbers_fault m (position_at bytes m) (is_run bytes m) (count_at bytes m) (take (size_from bytes m (sym s i)) (drop (sym s i) bytes)))))

  pub offset_found : falls ≡ false → other ≡ true → container_fault bytes m ≡ Some (BadOffset m)
  offset_found f h = at_start ∙ later_one falls (BadKey m) _ f ∙ this_one other (BadOffset m) others h

  passed : falls ≡ false → other ≡ false → container_fault bytes m ≡ others
  passed f o = at_start ∙ later_one falls (BadKey m) _ f ∙ later_one other (BadOffset m) others o

  pub short_found : falls ≡ false → other ≡ false → length bytes < start + size_from bytes m start → container_fault bytes m ≡ Some Short
  short_found f o less = passed f o ∙ this_one (ltb (length bytes) (start + size_from bytes m start)) Short _ (lt-ltb (length bytes) (start + size_from bytes m start) less)

  module _ (end : ℕ) (e : end ≡ start + size_from bytes m start) (room : end ≤ length bytes) where
    size_is : end - start ≡ size_from bytes m start
    size_is = omega arith

    -- the bytes of a container as a test takes them
    pub numbers_there : (position count : ℕ) (run : Bool) → position ≡ position_at bytes m → count ≡ count_at bytes m → run ≡ is_run bytes m → falls ≡ false → other ≡ false
        → container_fault bytes m ≡ numbers_fault m position run count (take (end - start) (drop start bytes))
    numbers_there position count run p c r f o =
        passed f o ∙ later_one (ltb (length bytes) (start + size_from bytes m start)) Short _ (le-ltb (length bytes) (start + size_from bytes m start) (omega arith))
        ∙ sym (λ i. numbers_fault m (p i) (r i) (c i) (take (size_is i) (drop start bytes)))

    pub body_is : take (end - start) (drop start bytes) ≡ body_at bytes m
    body_is = ap (λ (n : ℕ). take n (drop start bytes)) size_is ∙ (λ i. take (size_from bytes m (s i)) (drop (s i) bytes))

    pub body_size : HasSize (is_run bytes m) (count_at bytes m) (take (end - start) (drop start bytes))
    body_size = size_of bytes m start (take (end - start) (drop start bytes)) (length-take-le (end - start) (drop start bytes) (omega (arith, length-drop start bytes)) ∙ size_is)

-- the next container begins where this one ends
pub start_more : (bytes : List ℕ) (m start end : ℕ) → start ≡ start_at bytes m → end ≡ start + size_from bytes m start → end ≡ start_at bytes (m + 1)
unfolding start_at
start_more bytes m start end s e = e ∙ ap (λ (n : ℕ). n + size_from bytes m n) s ∙ sym (ap (start_at bytes) (add-one m))

pub position_more : (bytes : List ℕ) (m position count : ℕ) → position ≡ position_at bytes m → count ≡ count_at bytes m → position + count ≡ position_at bytes (m + 1)
unfolding position_at
position_more bytes m position count p c = (λ i. p i + c i) ∙ sym (ap (position_at bytes) (add-one m))

pub start_first : (bytes : List ℕ) (start : ℕ) → start ≡ head_len bytes → start ≡ start_at bytes 0
unfolding start_at
start_first bytes start e = e

pub position_first : (bytes : List ℕ) → 0 ≡ position_at bytes 0
unfolding position_at
position_first bytes = refl
