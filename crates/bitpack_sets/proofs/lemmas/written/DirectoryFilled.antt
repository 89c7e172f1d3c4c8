-- The parts of increasing numbers that are measured, and written with their directory, one after the other: chunks of a set, and others.
use Rattle.std.proofs.Common.{◌≡◌, ℕ, ◌+◌, ◌-◌, ◌*◌, ◌/◌, ◌%◌, ◌≤◌, List, [], ◌∷◌, ◌++◌, map, length, get_or, take, drop, refl, sym, ap, ◌∙◌, arith, subst, length-append, length-drop, mul-add}
use Rattle.std.specs.List.{concat, flat_map}
use borrow.Rule.Slice.PartMut.{put_mid}
use Rattle.std.proofs.lemmas.List.{length-map, length-take-le}
use Rattle.bitpack_groups.proofs.ForCallers.{IsFilled, fill_done, fill_more, fill_part, fill_room, fill_start, little_len, product_more}
use Rattle.bitpack_slices.proofs.ForCallers.{rising_drop, tail_whole}
use Rattle.bitpack_slices.specs.Bodies.{IsRising, le_bytes, parts}
use Rattle.bitpack_sets.proofs.lemmas.written.RunLaws.{run_part}
use Rattle.bitpack_sets.specs.Sets.{sums}
use Rattle.bitpack_sets.specs.Written.{IsRun}

-- the remainders of the numbers of a part, the bodies of all, and the tables of a directory
abbrev pub part_lows : ℕ → List ℕ → List ℕ
part_lows base ids = map (λ y. y % base) ids

abbrev pub part_bodies : ℕ → (List ℕ → List ℕ) → List ℕ → List (List ℕ)
part_bodies base enc ids = map (λ part. enc part.1) (parts base ids)

abbrev pub part_keys : ℕ → ℕ → List ℕ → List ℕ
part_keys base k ids = flat_map (le_bytes k) (map (λ part. part.0) (parts base ids))

abbrev pub part_ends : ℕ → (List ℕ → List ℕ) → ℕ → ℕ → List ℕ → List ℕ
part_ends base enc e start ids = flat_map (le_bytes e) (sums start (map length (part_bodies base enc ids)))

abbrev pub part_sums : ℕ → ℕ → ℕ → List ℕ → List ℕ
part_sums base z before ids = flat_map (le_bytes z) (sums before (map (λ part. length part.1) (parts base ids)))

-- ---- measured

-- the parts of what is left are still to be measured; each number of a part has at most `most` bytes
pub record PartsLeft (top base most : ℕ) (enc : List ℕ → List ℕ) (ids left : List ℕ) (bytes : ℕ) : Type 0 where
  pub rising : IsRising 0 top left
  pub sized : bytes + length (concat (part_bodies base enc left)) ≡ length (concat (part_bodies base enc ids))
  pub small : bytes + most * length left ≤ most * length ids

part_size : (base : ℕ) (enc : List ℕ → List ℕ) (run : ℕ) (left : List ℕ) → IsRun base left run
    → length (concat (part_bodies base enc left)) ≡ length (enc (part_lows base (take run left))) + length (concat (part_bodies base enc (drop run left)))
part_size base enc run left is =
    ap (λ (ps : List (ℕ × List ℕ)). length (concat (map (λ part. enc part.1) ps))) (run_part base run left is)
    ∙ length-append (enc (part_lows base (take run left))) (concat (part_bodies base enc (drop run left)))

cut_times : (most run n m : ℕ) → n ≡ run + m → most * n ≡ most * run + most * m
cut_times most run n m e = ap (λ i. most * i) e ∙ mul-add most run m

pub parts_more : (top base most : ℕ) (enc : List ℕ → List ℕ) (ids left : List ℕ) (bytes run added : ℕ) → PartsLeft top base most enc ids left bytes → IsRun base left run
    → added ≡ length (enc (part_lows base (take run left))) → added ≤ most * run → PartsLeft top base most enc ids (take (length left - run) (drop run left)) (bytes + added)
parts_more top base most enc ids left bytes run added before is long few =
    let f = part_size base enc run left is in
    let h = length-drop run left in
    let within = is.within in
    let sized = before.sized in
    let small = before.small in
    let cut = cut_times most run (length left) (length (drop run left)) (omega arith) in
    subst (λ (rest : List ℕ). PartsLeft top base most enc ids rest (bytes + added)) (sym (tail_whole run left))
    record { rising = rising_drop 0 top run left before.rising; sized = omega arith; small = omega arith }

pub no_parts : (base : ℕ) (left : List ℕ) → length left ≡ 0 → parts base left ≡ []
unfolding parts
no_parts base [] h = refl
no_parts base (x ∷ left) h = absurd (omega arith)

pub parts_end : (top base most : ℕ) (enc : List ℕ → List ℕ) (ids left : List ℕ) (bytes : ℕ) → PartsLeft top base most enc ids left bytes → length left ≡ 0
    → bytes ≡ length (concat (part_bodies base enc ids))
parts_end top base most enc ids left bytes before none =
    let f = ap (λ (ps : List (ℕ × List ℕ)). length (concat (map (λ part. enc part.1) ps))) (no_parts base left none) in
    let sized = before.sized in
    omega arith

-- ---- written

-- the entries and bodies of the parts that are left are still to be written
pub record DirectoryLeft (top base k most : ℕ) (enc : List ℕ → List ℕ) (ids left : List ℕ) (start before index end sum e z : ℕ) (keys ends sums' bytes : List ℕ) : Type 0 where
  pub measured : PartsLeft top base most enc ids left end
  pub counted : sum + length left ≡ length ids
  pub keys_filled : IsFilled keys (k * index) (part_keys base k left) (part_keys base k ids)
  pub ends_filled : IsFilled ends (e * index) (part_ends base enc e (start + end) left) (part_ends base enc e start ids)
  pub sums_filled : IsFilled sums' (z * index) (part_sums base z (before + sum) left) (part_sums base z before ids)
  pub bytes_filled : IsFilled bytes end (concat (part_bodies base enc left)) (concat (part_bodies base enc ids))

start_at : (size : ℕ) (out rest all : List ℕ) → IsFilled out 0 rest all → IsFilled out (size * 0) rest all
start_at size out rest all fill = let e : 0 ≡ size * 0 = omega arith in subst (λ n. IsFilled out n rest all) e fill

plus_none : (n : ℕ) → n ≡ n + 0
plus_none n = omega arith

pub next_sum : (before x : ℕ) (xs : List ℕ) → sums before (x ∷ xs) ≡ (before + x) ∷ sums (before + x) xs
unfolding sums
next_sum before x xs = refl

pub no_sums : (before : ℕ) → sums before [] ≡ []
unfolding sums
no_sums before = refl

module _ (top base k most : ℕ) (enc : List ℕ → List ℕ) (ids : List ℕ) where
  pub directory_start : (start before e z : ℕ) (keys ends sums' bytes : List ℕ) → IsRising 0 top ids → length keys ≡ length (part_keys base k ids)
      → length ends ≡ length (part_ends base enc e start ids) → length sums' ≡ length (part_sums base z before ids) → length bytes ≡ length (concat (part_bodies base enc ids))
      → DirectoryLeft top base k most enc ids ids start before 0 0 0 e z keys ends sums' bytes
  directory_start start before e z keys ends sums' bytes rising a b d f = record {
    measured = record { rising = rising; sized = omega arith; small = omega arith };
    counted = omega arith;
    keys_filled = start_at k keys _ _ (fill_start keys (part_keys base k ids) a);
    ends_filled = start_at e ends _ _ (subst (λ n. IsFilled ends 0 (part_ends base enc e n ids) (part_ends base enc e start ids)) (plus_none start) (fill_start ends (part_ends base enc e start ids) b));
    sums_filled = start_at z sums' _ _ (subst (λ n. IsFilled sums' 0 (part_sums base z n ids) (part_sums base z before ids)) (plus_none before) (fill_start sums' (part_sums base z before ids) d));
    bytes_filled = fill_start bytes (concat (part_bodies base enc ids)) f;
  }

  pub directory_end : (left : List ℕ) (start before index end sum e z : ℕ) (keys ends sums' bytes : List ℕ)
      → DirectoryLeft top base k most enc ids left start before index end sum e z keys ends sums' bytes → length left ≡ 0
      → (keys ≡ part_keys base k ids) × (ends ≡ part_ends base enc e start ids) × (sums' ≡ part_sums base z before ids) × (bytes ≡ concat (part_bodies base enc ids))
  directory_end left start before index end sum e z keys ends sums' bytes is none =
      let none' = no_parts base left none in
      let a = subst (λ (ps : List (ℕ × List ℕ)). IsFilled keys (k * index) (flat_map (le_bytes k) (map (λ part. part.0) ps)) (part_keys base k ids)) none' is.keys_filled in
      let b = subst (λ (ps : List (ℕ × List ℕ)). IsFilled ends (e * index) (flat_map (le_bytes e) (sums (start + end) (map length (map (λ part. enc part.1) ps)))) (part_ends base enc e start ids)) none' is.ends_filled in
      let d = subst (λ (ps : List (ℕ × List ℕ)). IsFilled sums' (z * index) (flat_map (le_bytes z) (sums (before + sum) (map (λ part. length part.1) ps))) (part_sums base z before ids)) none' is.sums_filled in
      let f = subst (λ (ps : List (ℕ × List ℕ)). IsFilled bytes end (concat (map (λ part. enc part.1) ps)) (concat (part_bodies base enc ids))) none' is.bytes_filled in (
        fill_done keys (k * index) (part_keys base k ids) a,
        fill_done ends (e * index) (part_ends base enc e start ids) (subst (λ (l : List ℕ). IsFilled ends (e * index) (flat_map (le_bytes e) l) (part_ends base enc e start ids)) (no_sums (start + end)) b),
        fill_done sums' (z * index) (part_sums base z before ids) (subst (λ (l : List ℕ). IsFilled sums' (z * index) (flat_map (le_bytes z) l) (part_sums base z before ids)) (no_sums (before + sum)) d),
        fill_done bytes end (concat (part_bodies base enc ids)) f,
      )

-- what is next: a key, an end, a sum and a body
module _ (top base k most : ℕ) (enc : List ℕ → List ℕ) (ids left : List ℕ) (start prior index end sum e z run : ℕ) (keys ends sums' bytes : List ℕ)
    (before : DirectoryLeft top base k most enc ids left start prior index end sum e z keys ends sums' bytes) (is : IsRun base left run) where
  abbrev own : List ℕ
  own = enc (part_lows base (take run left))

  next_key : IsFilled keys (k * index) (le_bytes k (get_or left 0 0 / base) ++ part_keys base k (drop run left)) (part_keys base k ids)
  next_key = subst (λ (ps : List (ℕ × List ℕ)). IsFilled keys (k * index) (flat_map (le_bytes k) (map (λ part. part.0) ps)) (part_keys base k ids)) (run_part base run left is) before.keys_filled

  next_end : (size : ℕ) → size ≡ length own
      → IsFilled ends (e * index) (le_bytes e (start + (end + size)) ++ part_ends base enc e (start + (end + size)) (drop run left)) (part_ends base enc e start ids)
  next_end size long =
      let later : List ℕ = map length (part_bodies base enc (drop run left)) in
      let one = subst (λ (ps : List (ℕ × List ℕ)). IsFilled ends (e * index) (flat_map (le_bytes e) (sums (start + end) (map length (map (λ part. enc part.1) ps)))) (part_ends base enc e start ids))
      (run_part base run left is) before.ends_filled in
      let two = subst (λ (l : List ℕ). IsFilled ends (e * index) (flat_map (le_bytes e) l) (part_ends base enc e start ids)) (next_sum (start + end) (length own) later) one in
      let sum_is : start + end + length own ≡ start + (end + size) = omega arith in
      subst (λ n. IsFilled ends (e * index) (le_bytes e n ++ flat_map (le_bytes e) (sums n later)) (part_ends base enc e start ids)) sum_is two

  next_total : IsFilled sums' (z * index) (le_bytes z (prior + (sum + run)) ++ part_sums base z (prior + (sum + run)) (drop run left)) (part_sums base z prior ids)
  next_total =
      let later : List ℕ = map (λ part. length part.1) (parts base (drop run left)) in
      let long : length (part_lows base (take run left)) ≡ run = length-map (take run left) (λ y. y % base) ∙ length-take-le run left is.within in
      let one = subst (λ (ps : List (ℕ × List ℕ)). IsFilled sums' (z * index) (flat_map (le_bytes z) (sums (prior + sum) (map (λ part. length part.1) ps))) (part_sums base z prior ids))
      (run_part base run left is) before.sums_filled in
      let two = subst (λ (l : List ℕ). IsFilled sums' (z * index) (flat_map (le_bytes z) l) (part_sums base z prior ids)) (next_sum (prior + sum) (length (part_lows base (take run left))) later) one in
      let sum_is : prior + sum + length (part_lows base (take run left)) ≡ prior + (sum + run) = omega arith in
      subst (λ n. IsFilled sums' (z * index) (le_bytes z n ++ flat_map (le_bytes z) (sums n later)) (part_sums base z prior ids)) sum_is two

  next_body : IsFilled bytes end (own ++ concat (part_bodies base enc (drop run left))) (concat (part_bodies base enc ids))
  next_body = subst (λ (ps : List (ℕ × List ℕ)). IsFilled bytes end (concat (map (λ part. enc part.1) ps)) (concat (part_bodies base enc ids))) (run_part base run left is) before.bytes_filled

  room_of : (size n x : ℕ) (out rest all : List ℕ) → IsFilled out (size * n) (le_bytes size x ++ rest) all → size * n + size ≤ length out
  room_of size n x out rest all fill =
      let a = fill_room out (size * n) (le_bytes size x) rest all fill in
      let b = little_len size x in
      omega arith

  pub next_key_room : k * index + k ≤ length keys
  next_key_room = room_of k index _ keys _ _ next_key

  pub next_end_room : (size : ℕ) → size ≡ length own → e * index + e ≤ length ends
  next_end_room size long = room_of e index _ ends _ _ (next_end size long)

  pub next_sum_room : z * index + z ≤ length sums'
  next_sum_room = room_of z index _ sums' _ _ next_total

  pub next_body_room : (size : ℕ) → size ≡ length own → end + size ≤ length bytes
  next_body_room size long = let a = fill_room bytes end own (concat (part_bodies base enc (drop run left))) (concat (part_bodies base enc ids)) next_body in omega arith

  filled_more : (size x : ℕ) (out new rest all : List ℕ) → IsFilled out (size * index) (le_bytes size x ++ rest) all → length new ≡ length out
      → take (size * (index + 1)) new ≡ take (size * index) out ++ le_bytes size x → IsFilled new (size * (index + 1)) rest all
  filled_more size x out new rest all fill long is' =
      let a = product_more size index in
      let b = little_len size x in
      fill_more out new (size * index) (size * (index + 1)) (le_bytes size x) rest all fill long is' (omega arith)

  pub directory_more : (size : ℕ) (keys' ends' sums'' new : List ℕ) → size ≡ length own → size ≤ most * run
      → length keys' ≡ length keys → take (k * (index + 1)) keys' ≡ take (k * index) keys ++ le_bytes k (get_or left 0 0 / base)
      → length ends' ≡ length ends → take (e * (index + 1)) ends' ≡ take (e * index) ends ++ le_bytes e (start + (end + size))
      → length sums'' ≡ length sums' → take (z * (index + 1)) sums'' ≡ take (z * index) sums' ++ le_bytes z (prior + (sum + run))
      → new ≡ own
      → DirectoryLeft top base k most enc ids (take (length left - run) (drop run left)) start prior (index + 1) (end + size) (sum + run) e z keys' ends' sums'' (put_mid end (end + size - end) bytes new)
  directory_more size keys' ends' sums'' new long few a a' b b' d d' f =
      let cut : end + (end + size - end) ≡ end + size = omega arith in
      let counted = before.counted in
      let within = is.within in
      let measured' = parts_more top base most enc ids left end run size before.measured is long few in
      subst (λ (rest : List ℕ). DirectoryLeft top base k most enc ids rest start prior (index + 1) (end + size) (sum + run) e z keys' ends' sums'' (put_mid end (end + size - end) bytes new)) (sym (tail_whole run left))
      record {
        measured = subst (λ (rest : List ℕ). PartsLeft top base most enc ids rest (end + size)) (tail_whole run left) measured';
        counted = omega (arith, length-drop run left);
        keys_filled = filled_more k _ keys keys' _ _ next_key a a';
        ends_filled = filled_more e _ ends ends' _ _ (next_end size long) b b';
        sums_filled = filled_more z _ sums' sums'' _ _ next_total d d';
        bytes_filled = subst (λ n. IsFilled (put_mid end (end + size - end) bytes new) n (concat (part_bodies base enc (drop run left))) (concat (part_bodies base enc ids))) cut
            (fill_part bytes new end (end + size - end) own (concat (part_bodies base enc (drop run left))) (concat (part_bodies base enc ids)) next_body (omega arith) f);
      }
