-- One more value of a walk over one list that searches another.
-- Serves opened.
use Rattle.std.proofs.Common.{◌⊎◌, ◌≡◌, ℕ, ◌+◌, ◌*◌, ◌^◌, ◌<◌, ◌≤◌, min, true, false, IfSome, List, [], ◌∷◌, ◌++◌, length, Option, Some, None, refl, sym, ◌∙◌, ap, subst, arith, inl, inr, append_assoc}
use Rattle.std.proofs.lemmas.Bool.{cases_lt, cases_eq, lt-ltb, le-ltb}
use Rattle.std.proofs.lemmas.Nat.{mul-le}
use Rattle.std.proofs.lemmas.List.{length-append, append-nil}
use Rattle.bitpack_lists.specs.declared.blocks.reads.Reads.{Reads}
use Rattle.bitpack_lists.specs.Search.{HasGrown, first_reaching, in_whole_block}
use Rattle.bitpack_lists.specs.Parts.{whole_blocks}
use Rattle.bitpack_lists.specs.inner.Walks.{Appends, IsLastBlock, IsPast, IsShared, IsWalked, IsWantedNext, Stage, Started, Values}
use Rattle.bitpack_lists.proofs.lemmas.opened.Sharing.{InOrder, IsFirst, found_past, length-more, past_equal, past_greater, past_none, searches_few, sought_none, sought_some, shared_more, shared_next, shared_passed, shared_upto}

abbrev pub stage_of : Values → Started → ℕ → ℕ → ℕ → Stage
stage_of one started done blocks due = record { one = one; started = started; done = done; blocks = blocks; due = due }

-- The result of a search for a value, which block it caches, and what it reads: a block is unpacked only if the result is in one that
-- was not cached.
pub record IsSought (lanes : ℕ) (other : Values) (value : ℕ) (answer : Option (ℕ × ℕ)) (last last' : ℕ) (old new : Reads) : Type 0 where
  pub answers : first_reaching other.value other.count value ≡ answer
  pub entries : (digits : ℕ) → whole_blocks lanes other.count < 2 ^ digits → new.entries ≤ old.entries + digits
  pub blocks : new.blocks ≤ old.blocks + 1
  pub again : last' ≡ last → new.blocks ≡ old.blocks
  pub grown : HasGrown old new
  pub inside : in_whole_block lanes other.count answer ≡ true
      → (last' < whole_blocks lanes other.count) × IfSome answer (λ found. (32 * lanes * last' ≤ found.0) × (found.0 < 32 * lanes * last' + 32 * lanes))
  pub outside : in_whole_block lanes other.count answer ≡ false → last' ≡ last

grown_further : (first old new : Reads) → HasGrown first old → HasGrown old new → HasGrown first new
grown_further first old new before more =
    let entries = before.entries in
    let blocks = before.blocks in
    let more_entries = more.entries in
    let more_blocks = more.blocks in
    record { entries = omega arith; blocks = omega arith }

-- ---- the block of the other list that was unpacked last

module _ (lanes : ℕ) (other : Values) (want value next block block' start : ℕ) (old new : Reads) (before : IsLastBlock lanes other want block start old.blocks)
    (le : want ≤ value) (further : value ≤ next) (one_more : new.blocks ≤ old.blocks + 1) (again : block' ≡ block → new.blocks ≡ old.blocks) where
  -- the result is in no whole block, so nothing was unpacked
  last_outside : block' ≡ block → IsLastBlock lanes other next block' start new.blocks
  last_outside same =
      let still = again same in
      record {
        before = λ lt k below.
            let here = before.before (rw same at lt) k (rw same at below) in
            omega arith;
        once = λ lt.
            let here = before.once (rw same at lt) in
            omega arith;
        none = λ past.
            let here = before.none (rw same at past) in
            omega arith;
      }

  last_inside : (position found : ℕ) → IsFirst other value position found → block' < whole_blocks lanes other.count
      → 32 * lanes * block' ≤ position → position < 32 * lanes * block' + 32 * lanes → IsLastBlock lanes other next block' start new.blocks
  last_inside position found is inside from upto =
      record {
        before = λ lt k below.
            let here = is.before k (omega arith) in
            omega arith;
        once = λ lt. elim (cases_eq block block') [
          | inl same ↦
              let still = again (sym same) in
              let here = before.once (rw (← same) at lt) in
              omega arith
          | inr apart ↦ elim (cases_lt block (whole_blocks lanes other.count)) [
            | inl within ↦
                let old_before = before.once within in
                let earlier : block ≤ block' = not_after within in
                let less : block < block' = omega (arith, apart) in
                omega arith
            | inr past ↦
                let old_none = before.none past in
                omega arith
          ]
        ];
        none = λ past. absurd (omega arith);
      }
    where
      not_after : block < whole_blocks lanes other.count → block ≤ block'
      not_after within = elim (cases_lt block' block) [
        | inl after ↦
            let upper : 32 * lanes * (block' + 1) ≤ 32 * lanes * block = mul-le (32 * lanes) (block' + 1) (32 * lanes) block (omega arith) (omega arith) in
            let inside' : position < 32 * lanes * block = omega arith in
            let below = before.before within position inside' in
            absurd (omega (arith, is.is, is.enough))
        | inr le ↦ le
      ]

  pub last_searched : (answer : Option (ℕ × ℕ)) → IsSought lanes other value answer block block' old new → IsLastBlock lanes other next block' start new.blocks
  last_searched None sought = last_outside (sought.outside refl)
  last_searched (Some found) sought = elim (cases_lt found.0 (32 * lanes * whole_blocks lanes other.count)) [
    | inl within ↦
        let inside = sought.inside (lt-ltb found.0 (32 * lanes * whole_blocks lanes other.count) within) in
        last_inside found.0 found.1 (sought_some other value found.0 found.1 sought.answers) inside.0 inside.1.0 inside.1.1
    | inr past ↦ last_outside (sought.outside (le-ltb found.0 (32 * lanes * whole_blocks lanes other.count) past))
  ]

-- ---- one more value

module _ (lanes : ℕ) (one other : Values) (started : Started) (done want last : ℕ) (items : List ℕ) (capacity : ℕ) (unpacked : ℕ) (old : Reads) (due : ℕ)
    (order : InOrder one) (order' : InOrder other) (words : ((k : ℕ) → k < one.count → one.value k < 2 ^ 32))
    (before : IsWalked lanes other (stage_of one started done unpacked due) want last items capacity old) (lt : done < one.count) where
  abbrev value : ℕ
  value = one.value done

  small : one.value done < 2 ^ 32
  small = words done lt

  pub walked_passed : one.value done < want → IsWalked lanes other (stage_of one started (done + 1) unpacked due) want last items capacity old
  walked_passed below =
      let few = before.few in
      let each = before.each in
      record {
        shared = before.shared;
        searches = before.searches;
        items_are = before.items_are;
        room = before.room;
        is_shared = shared_passed one other before.shared done want order before.is_shared lt below;
        past = before.past;
        few = omega arith;
        each = omega arith;
        last_block = before.last_block;
        blocks = before.blocks;
        entries = before.entries;
        grown = before.grown;
        paid = before.paid;
      }

  -- there is room for what is found
  pub room_left : (position : ℕ) → want ≤ one.value done → IsFirst other (one.value done) position (one.value done)
      → length items < capacity
  room_left position le is =
      let passed_few = before.past.few in
      let few = before.few in
      let room = before.room in
      let past = found_past other want (length before.shared) before.searches (one.value done) before.past le small position (one.value done) is in
      let within = is.within in
      let long : length items ≡ length started.items + length before.shared = ap length before.items_are ∙ length-append started.items before.shared in
      omega arith

  module _ (last' : ℕ) (new : Reads) (le : want ≤ one.value done) where
    -- a value was searched, so `next` is wanted
    walked_searched : (next : ℕ) (shared' items' : List ℕ) (answer : Option (ℕ × ℕ)) → one.value done ≤ next
        → IsSought lanes other (one.value done) answer last last' old new
        → items' ≡ started.items ++ shared' → length shared' ≤ done + 1
        → IsShared one other (done + 1) next shared' → IsPast other next (length shared') (before.searches + 1)
        → IsWalked lanes other (stage_of one started (done + 1) unpacked due) next last' items' capacity new
    walked_searched next shared' items' answer further sought are few is_shared past =
        let each = before.each in
        let blocks = before.blocks in
        let more = sought.blocks in
        record {
          shared = shared';
          searches = before.searches + 1;
          items_are = are;
          room = before.room;
          is_shared = is_shared;
          past = past;
          few = few;
          each = omega arith;
          last_block = last_searched lanes other want (one.value done) next last last' started.other_reads.blocks old new before.last_block le further more sought.again answer sought;
          blocks = omega arith;
          entries = λ digits fits.
              let so_far = before.entries digits fits in
              let more = sought.entries digits fits in
              let product : (before.searches + 1) * digits ≡ before.searches * digits + digits = omega arith in
              omega arith;
          grown = grown_further started.other_reads old new before.grown sought.grown;
          paid = elim before.paid [
            | inl paid ↦ inl (omega arith)
            | inr owed ↦ inl (omega (arith, owed.0))
          ];
        }

    walked_none : IsSought lanes other (one.value done) None last last' old new
        → IsWalked lanes other (stage_of one started (done + 1) unpacked due) (2 ^ 32) last' items capacity new
    walked_none sought =
        let few = before.few in
        walked_searched (2 ^ 32) before.shared items None (omega (arith, small)) sought before.items_are (omega arith)
        (shared_next one other before.shared done want order before.is_shared lt (2 ^ 32) le small (λ v (k, within, e) from below.
        let less = sought_none other (one.value done) sought.answers k within in
        omega arith))
        (past_none other want (length before.shared) before.searches (one.value done) before.past le small)

    walked_greater : (position found : ℕ) → one.value done < found
        → IsSought lanes other (one.value done) (Some (position, found)) last last' old new
        → IsWalked lanes other (stage_of one started (done + 1) unpacked due) found last' items capacity new
    walked_greater position found gt sought =
        let is : IsFirst other (one.value done) position found = sought_some other (one.value done) position found sought.answers in
        let few = before.few in
        walked_searched found before.shared items (Some (position, found)) (omega arith) sought before.items_are (omega arith)
        (shared_next one other before.shared done want order before.is_shared lt found le gt (λ v (k, within, e) from below. elim (cases_lt k position) [
          | inl earlier ↦
              let less = is.before k earlier in
              absurd (omega arith)
          | inr later ↦
              let more = order' position k later within in
              absurd (omega (arith, is.is))
        ]))
        (past_greater other want (length before.shared) before.searches (one.value done) before.past le small position found gt is)

    walked_equal : (position : ℕ) → IsSought lanes other (one.value done) (Some (position, one.value done)) last last' old new
        → IsWalked lanes other (stage_of one started (done + 1) unpacked due) (one.value done + 1) last' (items ++ one.value done ∷ []) capacity new
    walked_equal position sought =
        let x : ℕ = one.value done in
        let is : IsFirst other x position x = sought_some other x position x sought.answers in
        let few = before.few in
        let long = length-more before.shared x in
        walked_searched (x + 1) (before.shared ++ x ∷ []) (items ++ x ∷ []) (Some (position, x)) (omega arith) sought
        (ap (λ xs. xs ++ x ∷ []) before.items_are ∙ append_assoc started.items before.shared (x ∷ [])) (omega arith)
        (shared_more one other before.shared done want order before.is_shared lt le (position, is.within, is.is))
        (subst (λ (n : ℕ). IsPast other (x + 1) n (before.searches + 1)) (sym long)
        (past_equal other want (length before.shared) before.searches x before.past le small position is))

    pub walked_answer : (answer : Option (ℕ × ℕ)) (next : ℕ) (items' : List ℕ) → IsSought lanes other (one.value done) answer last last' old new
        → IsWantedNext (one.value done) answer next → Appends (one.value done) answer items items'
        → IsWalked lanes other (stage_of one started (done + 1) unpacked due) next last' items' capacity new
    walked_answer None next items' sought wanted appends = rw (wanted, appends) (walked_none sought)
    walked_answer (Some (position, found)) next items' sought wanted appends = elim (cases_eq found (one.value done)) [
      | inl same ↦ rw (wanted.0 same, appends.0 same) (walked_equal position (rw same at sought))
      | inr apart ↦
          let enough = (sought_some other (one.value done) position found sought.answers).enough in
          rw (wanted.1 apart, appends.1 apart) (walked_greater position found (omega (arith, apart)) sought)
    ]

-- ---- more values

module _ (lanes : ℕ) (one other : Values) (started : Started) (done want last : ℕ) (items : List ℕ) (capacity : ℕ) (unpacked : ℕ) (old : Reads) (due : ℕ)
    (before : IsWalked lanes other (stage_of one started done unpacked due) want last items capacity old) where
  -- values below what is wanted are passed over, however many
  pub walked_upto : (upto : ℕ) → done ≤ upto → ((k : ℕ) → k < upto → one.value k < want)
      → IsWalked lanes other (stage_of one started upto unpacked due) want last items capacity old
  walked_upto upto le below =
      let few = before.few in
      let each = before.each in
      record {
        shared = before.shared;
        searches = before.searches;
        items_are = before.items_are;
        room = before.room;
        is_shared = shared_upto one other before.shared done upto want below before.is_shared;
        past = before.past;
        few = omega arith;
        each = omega arith;
        last_block = before.last_block;
        blocks = before.blocks;
        entries = before.entries;
        grown = before.grown;
        paid = before.paid;
      }

  walked_paid : (now due' : ℕ)
      → ((now ≤ started.reads.blocks + before.searches) ⊎ ((now ≤ started.reads.blocks + before.searches + 1) × (want < due')))
      → IsWalked lanes other (stage_of one started done now due') want last items capacity old
  walked_paid now due' paid = record {
    shared = before.shared;
    searches = before.searches;
    items_are = before.items_are;
    room = before.room;
    is_shared = before.is_shared;
    past = before.past;
    few = before.few;
    each = before.each;
    last_block = before.last_block;
    blocks = before.blocks;
    entries = before.entries;
    grown = before.grown;
    paid = paid;
  }

  -- a block of the list was visited to its end, and its last value was not below what was wanted before
  pub walked_block : (end : ℕ) → end < done → due ≡ one.value end + 1 → IsWalked lanes other (stage_of one started done unpacked 0) want last items capacity old
  walked_block end lt is = walked_paid unpacked 0 (elim before.paid [
    | inl paid ↦ inl paid
    | inr owed ↦
        let below = before.is_shared.below end lt in
        absurd (omega (arith, owed.1))
  ])

  -- a block of the list was unpacked
  pub walked_unpacked : (now due' : ℕ) → due ≡ 0 → now ≤ unpacked + 1 → want < due'
      → IsWalked lanes other (stage_of one started done now due') want last items capacity old
  walked_unpacked now due' none more lt = walked_paid now due' (elim before.paid [
    | inl paid ↦ inr (omega arith, lt)
    | inr owed ↦ absurd (omega (arith, owed.1))
  ])

  -- ---- the end of a walk

  pub walked_few : due ≡ 0 → unpacked ≤ started.reads.blocks + (2 * other.count + 1)
  walked_few none =
      let few = searches_few other want (length before.shared) before.searches before.past in
      elim before.paid [
        | inl paid ↦ omega arith
        | inr owed ↦ absurd (omega (arith, owed.1))
      ]

  -- no more blocks of the other list were unpacked than it has, nor than values were visited
  pub blocks_few : old.blocks ≤ started.other_reads.blocks + min (whole_blocks lanes other.count) done
  blocks_few =
      let each = before.each in
      let blocks = before.blocks in
      elim (cases_lt last (whole_blocks lanes other.count)) [
        | inl within ↦
            let once = before.last_block.once within in
            omega arith
        | inr past ↦
            let none = before.last_block.none past in
            omega arith
      ]

  pub entries_few : (digits : ℕ) → whole_blocks lanes other.count < 2 ^ digits → old.entries ≤ started.other_reads.entries + done * digits
  entries_few digits fits =
      let so_far = before.entries digits fits in
      let most : before.searches * digits ≤ done * digits = mul-le before.searches digits done digits before.each (omega arith) in
      omega arith

-- ---- the beginning of a walk

pub walked_none_yet : (lanes : ℕ) (one other : Values) (started : Started) (last capacity : ℕ) → whole_blocks lanes other.count ≤ last
    → length started.items + min (one.count) other.count ≤ capacity
    → IsWalked lanes other (stage_of one started 0 started.reads.blocks 0) 0 last started.items capacity started.other_reads
walked_none_yet lanes one other started last capacity past room = record {
  shared = [];
  searches = 0;
  items_are = sym (append-nil started.items);
  room = room;
  is_shared = record {
    below = λ k lt. absurd (omega arith);
    increasing = λ k lt. absurd (omega arith);
    sound = λ k lt. absurd (omega arith);
    complete = λ v in_one in_other lt. absurd (omega arith);
  };
  past = record {
    passed_to = 0;
    within = omega arith;
    passed = λ k lt. absurd (omega arith);
    few = omega arith;
    allows = inl (omega arith);
  };
  few = omega arith;
  each = omega arith;
  last_block = record {
    before = λ lt. absurd (omega arith);
    once = λ lt. absurd (omega arith);
    none = λ le. omega arith;
  };
  blocks = omega arith;
  entries = λ digits fits. omega arith;
  grown = record { entries = omega arith; blocks = omega arith };
  paid = inl (omega arith);
}
