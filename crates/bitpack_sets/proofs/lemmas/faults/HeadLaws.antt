-- What the head of a set says does not depend on the bytes after the set.
use Rattle.std.proofs.Common.{◌≡◌, ◌≢◌, ℕ, zero, suc, ◌+◌, ◌-◌, ◌*◌, ◌%◌, ◌/◌, ◌^◌, ◌<◌, ◌≤◌, ◌||◌, min, List, [], ◌∷◌, ◌++◌, take, drop, length, get_or, None, Some, cond, ltb, eqb, refl, sym, ap, ◌∙◌, arith, subst, take-append-drop, append_assoc, length-append, length-drop}
use Rattle.std.proofs.lemmas.List.{append-nil, drop-append-le, get_or-drop, get_or-take, get_or_append_left, length-take-le}
use Rattle.bitpacking.proofs.ForCallers.{AreBytes-take}
use Rattle.bitpacking.specs.Bits.{AreBytes}
use Rattle.bitpacking.specs.Words.{joined}
use Rattle.bitpack_groups.proofs.ForCallers.{AreBytes-drop, groups_are_read, groups_read_back, number_reads_back, one_number, passed, within_all}
use Rattle.bitpack_groups.specs.Groups.{group_end}
use Rattle.bitpack_slices.specs.declared.set_error.SetError.TheVariants.{BadNumber, TooLong}
use Rattle.bitpack_sets.proofs.lemmas.encodings.EncodingLaws.{chunks_none, some_not_none}
use Rattle.bitpack_sets.proofs.lemmas.faults.EntryLaws.{none_sizes, sizes_none}
use Rattle.bitpack_sets.proofs.lemmas.faults.FaultLaws.{map_none, none_map, none_or, not_below, or_none}
use Rattle.bitpack_sets.proofs.lemmas.faults.FormLaws.{at_few, at_five, at_low, at_six, count_sound, some_bytes}
use Rattle.bitpack_sets.proofs.lemmas.faults.GapLaws.{no_bytes}
use Rattle.bitpack_sets.specs.Directory.{before, bodies_end, bodies_start, end_at, end_size}
use Rattle.bitpack_sets.specs.Faults.{array_fault, chunk_count_fault, chunks_fault, count_fault, fault, ids_fault, in_chunks_fault, short_fault, sizes_fault, some_fault}
use Rattle.bitpack_sets.specs.Varints.{after_groups, groups_codes, groups_fault, groups_of, number, number_end, number_fault, number_value, set_error, short_at}

-- ---- numbers and groups, with other bytes after them

pub record HasNumber (own other : List ℕ) : Type 0 where
  pub sound : number_fault (own ++ other) ≡ None
  pub value : number_value (own ++ other) ≡ number_value own
  pub end : number_end (own ++ other) ≡ number_end own
  pub within : number_end own ≤ length own
  pub rest : drop (number_end (own ++ other)) (own ++ other) ≡ drop (number_end own) own ++ other

pub number_stays : (own other : List ℕ) → AreBytes own → number_fault own ≡ None → HasNumber own other
number_stays own other are none =
    let value : ℕ = number_value own in
    let rest : List ℕ = drop (number_end own) own in
    let (small, front, only) = one_number own are none in
    let split : number value ++ rest ≡ own = ap (λ (l : List ℕ). l ++ rest) (sym front) ∙ take-append-drop (number_end own) own in
    let whole : own ++ other ≡ number value ++ (rest ++ other) = ap (λ (l : List ℕ). l ++ other) (sym split) ∙ append_assoc (number value) rest other in
    let (sound, back, end) = number_reads_back value (rest ++ other) small in
    let (sound', back', end') = number_reads_back value rest small in
    let own_end : number_end own ≡ length (number value) = ap number_end (sym split) ∙ end' in
    let same : number_end (own ++ other) ≡ number_end own = ap number_end whole ∙ end ∙ sym own_end in
    let sizes : length own ≡ length (number value) + length rest = ap length (sym split) ∙ length-append (number value) rest in
    let within : number_end own ≤ length own = omega (arith, own_end, sizes) in
    record {
      sound = ap number_fault whole ∙ sound;
      value = ap number_value whole ∙ back;
      end = same;
      within = within;
      rest = ap (λ (n : ℕ). drop n (own ++ other)) same ∙ drop-append-le (number_end own) own other within;
    }

pub groups_stay : (more : ℕ) (own other : List ℕ) → AreBytes own → groups_fault (groups_of more) 0 more own ≡ None → after_groups (groups_of more) more own ≡ []
    → (groups_fault (groups_of more) 0 more (own ++ other) ≡ None) × (after_groups (groups_of more) more (own ++ other) ≡ other)
groups_stay more own other are none end =
    let codes : List ℕ = groups_codes (groups_of more) more own in
    let (many, words, (run, split, run_is)) = groups_are_read (groups_of more) 0 more own (omega arith) (omega arith) are none in
    let whole : own ≡ run = split ∙ ap (λ (l : List ℕ). run ++ l) end ∙ append-nil run in
    let read = groups_read_back (groups_of more) 0 codes run other (omega arith) (omega arith) words run_is in
    let (sound, back, after) = subst (λ (n : ℕ). (groups_fault (groups_of more) 0 n (run ++ other) ≡ None) × (groups_codes (groups_of more) n (run ++ other) ≡ codes) × (after_groups (groups_of more) n (run ++ other) ≡ other)) many read in (
      ap (λ (l : List ℕ). groups_fault (groups_of more) 0 more (l ++ other)) whole ∙ sound,
      ap (λ (l : List ℕ). after_groups (groups_of more) more (l ++ other)) whole ∙ after,
    )

pub after_within : (groups count : ℕ) (bytes : List ℕ) → length (after_groups groups count bytes) ≤ length bytes
unfolding after_groups
after_within zero count bytes = omega arith
after_within (suc groups) count bytes =
    let end : ℕ = group_end (min 32 count) bytes in
    let later = after_within groups (count - 32) (drop end bytes) in
    omega (arith, length-drop end bytes)

-- ---- the head of fewer than 128 ids

pub record FewHead (more n : ℕ) (bytes : List ℕ) : Type 0 where
  pub number : number_fault bytes ≡ None
  pub groups : groups_fault (groups_of more) 0 more (drop (number_end bytes) bytes) ≡ None
  pub left : length (after_groups (groups_of more) more (drop (number_end bytes) bytes)) + n ≡ length bytes

few_stays : (more : ℕ) (own other : List ℕ) → AreBytes own → some_fault more own ≡ None → FewHead more (length own) (own ++ other)
unfolding some_fault
few_stays more own other are none =
    let (number_none, e1) = or_none _ _ none in
    let (groups_none, e2) = or_none _ _ e1 in
    let (over, after) = or_none _ _ e2 in
    let rest : List ℕ = drop (number_end own) own in
    let end : after_groups (groups_of more) more rest ≡ [] = no_bytes (after_groups (groups_of more) more rest) (not_below 0 (length (after_groups (groups_of more) more rest)) (passed _ _ _ after).0) in
    let head = number_stays own other are (map_none set_error _ number_none) in
    let (sound, left) = groups_stay more rest other (AreBytes-drop (number_end own) own are) (map_none set_error _ groups_none) end in
    record {
      number = head.sound;
      groups = ap (groups_fault (groups_of more) 0 more) head.rest ∙ sound;
      left = ap (λ (l : List ℕ). length l + length own) (ap (after_groups (groups_of more) more) head.rest ∙ left) ∙ omega (arith, length-append own other);
    }

pub few_head : (more n : ℕ) (bytes : List ℕ) → AreBytes bytes → n ≤ length bytes → some_fault more (take n bytes) ≡ None → FewHead more n bytes
few_head more n bytes are le none =
    subst (λ (k : ℕ). FewHead more k bytes) (length-take-le n bytes le)
    (subst (FewHead more (length (take n bytes))) (take-append-drop n bytes) (few_stays more (take n bytes) (drop n bytes) (AreBytes-take bytes n are) none))

-- ---- the head of an array

count_same : (one two : List ℕ) → number_fault two ≡ None → number_value two ≡ number_value one → count_fault one ≡ None → count_fault two ≡ None
unfolding count_fault
count_same one two sound same none =
    let (number_none, fits) = or_none _ _ none in none_or _ _ (none_map set_error (number_fault two) sound) (ap (λ (count : ℕ). cond (ltb count 128) (Some BadNumber) (cond (ltb (2 ^ 28) count) (Some (TooLong count)) None)) same ∙ fits)

pub record ArrayHead (n : ℕ) (bytes : List ℕ) : Type 0 where
  pub count : count_fault bytes ≡ None
  pub end : number_end bytes + 4 * number_value bytes ≡ n

array_stays : (own other : List ℕ) → AreBytes own → array_fault own ≡ None → ArrayHead (length own) (own ++ other)
unfolding array_fault ids_fault
array_stays own other are none =
    let (counted, h2) = or_none _ _ none in
    let (short, h3) = or_none _ _ h2 in
    let (falls, h4) = or_none _ _ h3 in
    let (apart, left) = or_none _ _ h4 in
    let rest : List ℕ = drop (number_end own) own in
    let low = not_below (length rest) (4 * number_value own) (passed _ _ _ short).0 in
    let high = not_below (4 * number_value own) (length rest) (passed _ _ _ left).0 in
    let head = number_stays own other are (count_sound own counted) in
    let long = length-drop (number_end own) own in
    record {
      count = count_same own (own ++ other) head.sound head.value counted;
      end = omega (arith, head.end, head.value, head.within, low, high, long);
    }

pub array_head : (n : ℕ) (bytes : List ℕ) → AreBytes bytes → n ≤ length bytes → array_fault (take n bytes) ≡ None → ArrayHead n bytes
array_head n bytes are le none =
    subst (λ (k : ℕ). ArrayHead k bytes) (length-take-le n bytes le)
    (subst (ArrayHead (length (take n bytes))) (take-append-drop n bytes) (array_stays (take n bytes) (drop n bytes) (AreBytes-take bytes n are) none))

-- ---- the head of a set in chunks

joined_below : (f g : ℕ → ℕ) (k : ℕ) → ((i : ℕ) → i < k → f i ≡ g i) → joined 8 f k ≡ joined 8 g k
unfolding joined
joined_below f g zero h = refl
joined_below f g (suc k) h = ap (λ (n : ℕ). n * 2 ^ (8 * k) + joined 8 f k) (h k (omega arith)) ∙ ap (λ (n : ℕ). g k * 2 ^ (8 * k) + n) (joined_below f g k (λ i lt. h i (omega arith)))

short_stays : (size start m : ℕ) (own other : List ℕ) → start + size * m + size ≤ length own → short_at size (drop start (own ++ other)) m ≡ short_at size (drop start own) m
unfolding short_at
short_stays size start m own other room =
    joined_below (λ i. get_or (drop start (own ++ other)) (size * m + i) 0) (λ i. get_or (drop start own) (size * m + i) 0) size
    (λ i lt. get_or-drop start (own ++ other) (size * m + i) 0 ∙ get_or_append_left own other 0 (start + (size * m + i)) (omega arith) ∙ sym (get_or-drop start own (size * m + i) 0))

before_same : (f g : ℕ → ℕ) (chunks : ℕ) → ((m : ℕ) → m < chunks → f m ≡ g m) → before f chunks ≡ before g chunks
before_same f g zero h = refl
before_same f g (suc m) h = h m (omega arith)

directory_stays : (ids chunks : ℕ) (own other : List ℕ) → chunks_fault ids chunks own ≡ None → (sizes_fault (own ++ other) ≡ None) × (bodies_end chunks (own ++ other) ≡ length own)
unfolding chunks_fault
directory_stays ids chunks own other none =
    let (sizes, e1) = or_none _ _ none in
    let (short, e2) = or_none _ _ e1 in
    let (entries, e3) = or_none _ _ e2 in
    let (least, e4) = or_none _ _ e3 in
    let (cut, e5) = or_none _ _ e4 in
    let (bodies, after) = or_none _ _ e5 in
    let (some, end_some, end_few, sum_some, sum_few) = sizes_none own sizes in
    let room = not_below (length own) (bodies_start chunks own) (passed _ _ _ short).0 in
    let low = not_below (length own) (bodies_end chunks own) (passed _ _ _ cut).0 in
    let high = not_below (bodies_end chunks own) (length own) (passed _ _ _ after).0 in
    let same : get_or (own ++ other) 0 0 ≡ get_or own 0 0 = get_or_append_left own other 0 0 (omega arith) in
    let ends : before (end_at chunks (own ++ other)) chunks ≡ before (end_at chunks own) chunks =
    before_same (end_at chunks (own ++ other)) (end_at chunks own) chunks (λ m lt.
    let all = within_all (end_size own) m chunks lt in
    ap (λ (byte : ℕ). short_at (byte % 16) (drop (1 + 2 * chunks) (own ++ other)) m) same
    ∙ short_stays (end_size own) (1 + 2 * chunks) m own other (omega (arith, all, room))) in
    let starts : bodies_start chunks (own ++ other) ≡ bodies_start chunks own = ap (λ (byte : ℕ). 1 + (2 + byte % 16 + byte / 16) * chunks) same in
    let long = length-append own other in (
      none_sizes (own ++ other) (omega (arith, long, some)) (omega (arith, same, end_some)) (omega (arith, same, end_few)) (omega (arith, same, sum_some)) (omega (arith, same, sum_few)),
      omega (arith, ends, starts, low, high),
    )

chunk_count_same : (ids : ℕ) (one two : List ℕ) → number_fault two ≡ None → number_value two ≡ number_value one → chunk_count_fault ids one ≡ None → chunk_count_fault ids two ≡ None
unfolding chunk_count_fault
chunk_count_same ids one two sound same none =
    let (number_none, fits) = or_none _ _ none in none_or _ _ (none_map set_error (number_fault two) sound) (ap (λ (count : ℕ). cond (eqb count 0 || ltb ids (4 * count) || ltb 65536 count) (Some BadNumber) None) same ∙ fits)

pub record ChunksHead (n : ℕ) (bytes later rest : List ℕ) : Type 0 where
  pub count : count_fault bytes ≡ None
  pub chunks : chunk_count_fault (number_value bytes) later ≡ None
  pub sizes : sizes_fault rest ≡ None
  pub within : bodies_end (number_value later) rest ≤ length rest
  pub end : number_end bytes + number_end later + bodies_end (number_value later) rest ≡ n

abbrev pub ChunksHeadOf : ℕ → List ℕ → Type 0
ChunksHeadOf n bytes =
    let later = drop (number_end bytes) bytes in ChunksHead n bytes later (drop (number_end later) later)

chunks_stay : (own other : List ℕ) → AreBytes own → in_chunks_fault own ≡ None → ChunksHeadOf (length own) (own ++ other)
unfolding in_chunks_fault
chunks_stay own other are none =
    let later : List ℕ = drop (number_end own) own in
    let rest : List ℕ = drop (number_end later) later in
    let (counted, h2) = or_none _ _ none in
    let (chunked, h3) = or_none _ _ h2 in
    let (sound, some, apart, most) = chunks_none (number_value own) later chunked in
    let one = number_stays own other are (count_sound own counted) in
    let two = number_stays later other (AreBytes-drop (number_end own) own are) sound in
    let (sizes, end) = directory_stays (number_value own) (number_value later) rest other h3 in
    let value : number_value (later ++ other) ≡ number_value later = two.value in
    let bodies : bodies_end (number_value (later ++ other)) (rest ++ other) ≡ length rest = ap (λ (n : ℕ). bodies_end n (rest ++ other)) value ∙ end in
    let head : ChunksHead (length own) (own ++ other) (later ++ other) (rest ++ other) = record {
      count = count_same own (own ++ other) one.sound one.value counted;
      chunks = ap (λ (n : ℕ). chunk_count_fault n (later ++ other)) one.value ∙ chunk_count_same (number_value own) later (later ++ other) two.sound two.value chunked;
      sizes = sizes;
      within = omega (arith, bodies, length-append rest other);
      end = omega (arith, bodies, one.end, two.end, one.within, two.within, length-drop (number_end own) own, length-drop (number_end later) later);
    } in
    subst (λ (l : List ℕ). ChunksHead (length own) (own ++ other) l (drop (number_end l) l)) (sym one.rest)
    (subst (ChunksHead (length own) (own ++ other) (later ++ other)) (sym two.rest) head)

pub chunks_head : (n : ℕ) (bytes : List ℕ) → AreBytes bytes → n ≤ length bytes → in_chunks_fault (take n bytes) ≡ None → ChunksHeadOf n bytes
chunks_head n bytes are le none =
    subst (λ (k : ℕ). ChunksHeadOf k bytes) (length-take-le n bytes le)
    (subst (ChunksHeadOf (length (take n bytes))) (take-append-drop n bytes) (chunks_stay (take n bytes) (drop n bytes) (AreBytes-take bytes n are) none))

-- ---- by byte 0

later_taken : (n : ℕ) (bytes : List ℕ) → n ≤ length bytes → drop 1 (take n bytes) ≡ take (n - 1) (drop 1 bytes)
later_taken zero bytes le = refl
later_taken (suc n) [] le = absurd (omega arith)
later_taken (suc n) (byte ∷ bytes) le =
    let e : n ≡ suc n - 1 = omega arith in ap (λ (k : ℕ). take k bytes) e

-- the front has a byte, and byte 0 is byte 0 of all bytes
front_some : (n : ℕ) (bytes : List ℕ) → n ≤ length bytes → fault (take n bytes) ≡ None → (0 < n) × (0 < length (take n bytes)) × (get_or (take n bytes) 0 0 ≡ get_or bytes 0 0)
front_some n bytes le none =
    let some = some_bytes (take n bytes) none in
    let long = length-take-le n bytes le in
    let here : 0 < n = omega (arith, some, long) in (here, some, get_or-take n bytes 0 0 here)

pub five_front : (n : ℕ) (bytes : List ℕ) → n ≤ length bytes → fault (take n bytes) ≡ None → get_or bytes 0 0 ≡ 5 → (0 < n) × (in_chunks_fault (take (n - 1) (drop 1 bytes)) ≡ None)
five_front n bytes le none five =
    let (here, some, same) = front_some n bytes le none in (here, ap in_chunks_fault (sym (later_taken n bytes le)) ∙ sym (at_five (take n bytes) some (same ∙ five)) ∙ none)

pub six_front : (n : ℕ) (bytes : List ℕ) → n ≤ length bytes → fault (take n bytes) ≡ None → get_or bytes 0 0 ≡ 6 → (0 < n) × (array_fault (take (n - 1) (drop 1 bytes)) ≡ None)
six_front n bytes le none six =
    let (here, some, same) = front_some n bytes le none in (here, ap array_fault (sym (later_taken n bytes le)) ∙ sym (at_six (take n bytes) some (same ∙ six)) ∙ none)

pub high_front : (n : ℕ) (bytes : List ℕ) → n ≤ length bytes → fault (take n bytes) ≡ None → 128 ≤ get_or bytes 0 0
    → (0 < n) × (short_fault (get_or bytes 0 0 - 128) (take (n - 1) (drop 1 bytes)) ≡ None)
high_front n bytes le none high =
    let (here, some, same) = front_some n bytes le none in (
      here,
      ap (short_fault (get_or bytes 0 0 - 128)) (sym (later_taken n bytes le)) ∙ ap (λ (byte : ℕ). short_fault (byte - 128) (drop 1 (take n bytes))) (sym same)
          ∙ sym (at_few (take n bytes) some (omega (arith, same, high))) ∙ none,
    )

pub no_front : (n : ℕ) (bytes : List ℕ) → n ≤ length bytes → fault (take n bytes) ≡ None → get_or bytes 0 0 ≢ 5 → get_or bytes 0 0 ≢ 6 → get_or bytes 0 0 < 128 → ⊥
no_front n bytes le none not5 not6 low =
    let (here, some, same) = front_some n bytes le none in
    some_not_none _ (sym (at_low (take n bytes) some (λ e. not5 (sym same ∙ e)) (λ e. not6 (sym same ∙ e)) (omega (arith, same, low))) ∙ none)
