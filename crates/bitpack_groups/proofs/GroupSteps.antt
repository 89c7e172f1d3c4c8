-- The groups of codes, one after the other: as they are tested, read and written.
use Rattle.std.proofs.Common.{◌≡◌, ℕ, suc, Option, ◌+◌, ◌-◌, ◌*◌, ◌<◌, ◌≤◌, min, Some, None, List, [], ◌++◌, length, take, drop, refl, sym, ◌∙◌, ap, arith, append_assoc, inl, inr}
use Rattle.std.proofs.lemmas.Bool.{cases_lt}
use Rattle.std.proofs.lemmas.List.{take_all, append-nil, drop-drop, drop_all, length-take, length-take-le, length-append, length-drop}
use Rattle.std.proofs.lemmas.Slice.{take-put_mid}
use borrow.Rule.Slice.PartMut.{put_mid}
use Rattle.bitpack_groups.specs.declared.group_error.GroupError.{GroupError}
use Rattle.bitpack_groups.specs.Groups.{AreGroups, IsGroup, group_fault, group_codes, group_end, groups_fault, groups_codes, groups_of, after_groups}
use Rattle.bitpack_groups.proofs.SliceLemmas.{length-written}

-- group i of so many, of so many codes in all
module _ (groups block total i count : ℕ) (rest : List ℕ) (lt : i < groups) (is : count ≡ min 32 (total - 32 * i)) where
  pub fault-here : (fault : GroupError) → group_fault (block + i) count rest ≡ Some fault → groups_fault (groups - i) (block + i) (total - 32 * i) rest ≡ Some fault
  unfolding groups_fault
  fault-here fault found =
      let next : groups - i ≡ suc (groups - (i + 1)) = omega arith in
      rw (next, ← is, found) refl

  pub fault-next : group_fault (block + i) count rest ≡ None
      → groups_fault (groups - i) (block + i) (total - 32 * i) rest
      ≡ groups_fault (groups - (i + 1)) (block + (i + 1)) (total - 32 * (i + 1)) (drop (group_end count rest) rest)
  unfolding groups_fault
  fault-next none =
      let next : groups - i ≡ suc (groups - (i + 1)) = omega arith in
      let blocks : block + (i + 1) ≡ block + i + 1 = omega arith in
      let left : total - 32 * (i + 1) ≡ total - 32 * i - 32 = omega arith in
      rw (next, blocks, left, ← is, none) refl

  -- If none of those that are left has a fault, this one has none, and neither have those after it.
  pub group_right : groups_fault (groups - i) (block + i) (total - 32 * i) rest ≡ None → group_fault (block + i) count rest ≡ None
  group_right none = either (group_fault (block + i) count rest) refl
    where
      either : (fault : Option GroupError) → group_fault (block + i) count rest ≡ fault → group_fault (block + i) count rest ≡ None
      either None e = e
      either (Some fault) e =
          let clash : Some fault ≡ None = sym (fault-here fault e) ∙ none in
          absurd cc

  pub later_right : groups_fault (groups - i) (block + i) (total - 32 * i) rest ≡ None
      → groups_fault (groups - (i + 1)) (block + (i + 1)) (total - 32 * (i + 1)) (drop (group_end count rest) rest) ≡ None
  later_right none = sym (fault-next (group_right none)) ∙ none

module _ (groups total i count : ℕ) (rest : List ℕ) (lt : i < groups) (is : count ≡ min 32 (total - 32 * i)) where
  pub codes-next : groups_codes (groups - i) (total - 32 * i) rest
      ≡ group_codes count rest ++ groups_codes (groups - (i + 1)) (total - 32 * (i + 1)) (drop (group_end count rest) rest)
  unfolding groups_codes
  codes-next =
      let next : groups - i ≡ suc (groups - (i + 1)) = omega arith in
      let left : total - 32 * (i + 1) ≡ total - 32 * i - 32 = omega arith in
      rw (next, left, ← is) refl

  pub after-next : after_groups (groups - i) (total - 32 * i) rest
      ≡ after_groups (groups - (i + 1)) (total - 32 * (i + 1)) (drop (group_end count rest) rest)
  unfolding after_groups
  after-next =
      let next : groups - i ≡ suc (groups - (i + 1)) = omega arith in
      let left : total - 32 * (i + 1) ≡ total - 32 * i - 32 = omega arith in
      rw (next, left, is) refl

-- The codes of a group, written after those before it.
pub written-next : (total i count k : ℕ) (codes new : List ℕ) → 32 * i ≤ total → length codes ≡ total → length new ≡ count → count ≡ min 32 (total - 32 * i) → k ≡ count
    → take (32 * (i + 1)) (put_mid (32 * i) k codes new) ≡ take (32 * i) codes ++ new
written-next total i count k codes new le long len is same =
    elim (cases_lt count 32) [
      | inl few ↦
          let after : List ℕ = put_mid (32 * i) k codes new in
          let front : length (take (32 * i) codes) ≡ 32 * i = length-take-le (32 * i) codes (omega arith) in
          let none : drop k (drop (32 * i) codes) ≡ [] = drop_all k (drop (32 * i) codes) (omega (arith, length-drop (32 * i) codes)) in
          let whole : after ≡ take (32 * i) codes ++ new = ap (λ zs. take (32 * i) codes ++ (new ++ zs)) none ∙ ap (λ zs. take (32 * i) codes ++ zs) (append-nil new) in
          ap (take (32 * (i + 1))) whole ∙ take_all (32 * (i + 1)) (take (32 * i) codes ++ new) (omega (arith, length-append (take (32 * i) codes) new))
      | inr all ↦ take-put_mid (32 * i) k codes new (32 * (i + 1)) (omega arith) (omega arith)
    ]

-- The codes of a group are written, and those of the groups after it are left.
pub codes_step : (total i k size : ℕ) (codes new rest after all : List ℕ) → i < groups_of total → k ≡ min 32 (total - 32 * i) → size ≡ k → length codes ≡ total
    → length new ≡ k → new ≡ group_codes k rest → after ≡ drop (group_end k rest) rest
    → take (32 * i) codes ++ groups_codes (groups_of total - i) (total - 32 * i) rest ≡ all
    → (length (put_mid (32 * i) size codes new) ≡ total)
    × (take (32 * (i + 1)) (put_mid (32 * i) size codes new) ++ groups_codes (groups_of total - (i + 1)) (total - 32 * (i + 1)) after ≡ all)
codes_step total i k size codes new rest after all lt is same long many new_is after_is so_far =
    let written : List ℕ = put_mid (32 * i) size codes new in
    let left : List ℕ = groups_codes (groups_of total - (i + 1)) (total - 32 * (i + 1)) (drop (group_end k rest) rest) in (
      length-written (32 * i) size codes new (omega (arith, long, lt)) (many ∙ sym same) (omega (arith, long, lt, is, same)) ∙ long,
      ap (λ zs. take (32 * (i + 1)) written ++ groups_codes (groups_of total - (i + 1)) (total - 32 * (i + 1)) zs) after_is
          ∙ ap (λ zs. zs ++ left) (written-next total i k size codes new (omega (arith, lt)) long many is same)
          ∙ append_assoc (take (32 * i) codes) new left ∙ ap (λ zs. take (32 * i) codes ++ (zs ++ left)) new_is
          ∙ ap (λ zs. take (32 * i) codes ++ zs) (sym (codes-next (groups_of total) total i k rest lt is)) ∙ so_far,
    )

pub no_groups-fault : (groups i block count : ℕ) (bytes : List ℕ) → groups ≤ i → groups_fault (groups - i) block count bytes ≡ None
unfolding groups_fault
no_groups-fault groups i block count bytes le = let none : groups - i ≡ 0 = omega arith in rw none refl

pub no_groups-codes : (groups i count : ℕ) (bytes : List ℕ) → groups ≤ i → groups_codes (groups - i) count bytes ≡ []
unfolding groups_codes
no_groups-codes groups i count bytes le = let none : groups - i ≡ 0 = omega arith in rw none refl

pub no_groups-after : (groups i count : ℕ) (bytes : List ℕ) → groups ≤ i → after_groups (groups - i) count bytes ≡ bytes
unfolding after_groups
no_groups-after groups i count bytes le = let none : groups - i ≡ 0 = omega arith in rw none refl

-- ---- one group more is written

-- The codes of group i, as the code lends them.
module _ (i count : ℕ) (codes : List ℕ) (is : count ≡ min 32 (length codes - 32 * i)) where
  pub lent_group : take (32 * i + count - 32 * i) (drop (32 * i) codes) ≡ take 32 (drop (32 * i) codes)
  lent_group =
      let left : List ℕ = drop (32 * i) codes in
      let long : length left ≡ length codes - 32 * i = length-drop (32 * i) codes in
      let size : 32 * i + count - 32 * i ≡ count = omega arith in
      let first : take (32 * i + count - 32 * i) left ≡ take count left = ap (λ n. take n left) size in
      elim (cases_lt (length left) 32) [
        | inl few ↦ first ∙ take_all count left (omega (arith, is, long, few)) ∙ sym (take_all 32 left (omega (arith, few)))
        | inr many ↦
            let whole : count ≡ 32 = omega (arith, is, long, many) in
            first ∙ ap (λ n. take n left) whole
      ]

  pub length-lent : length (take (32 * i + count - 32 * i) (drop (32 * i) codes)) ≡ count
  length-lent = ap length lent_group ∙ omega (arith, length-take 32 (drop (32 * i) codes), length-drop (32 * i) codes, is)

pub next_group : (groups i : ℕ) (codes bytes : List ℕ) → i < groups → AreGroups (groups - i) (drop (32 * i) codes) bytes
    → (part : List ℕ) × (rest : List ℕ) × (bytes ≡ part ++ rest) × IsGroup (take 32 (drop (32 * i) codes)) part
    × AreGroups (groups - (i + 1)) (drop (32 * (i + 1)) codes) rest
next_group groups i codes bytes lt are =
    let next : groups - i ≡ suc (groups - (i + 1)) = omega arith in
    let (part, rest, parts, group, more) = rw next at are in
    let after : drop 32 (drop (32 * i) codes) ≡ drop (32 * (i + 1)) codes = drop-drop 32 (32 * i) codes ∙ ap (λ k. drop k codes) (omega arith) in
    (part, rest, parts, group, rw after at more)

-- After the last group nothing is left.
pub no_group : (groups i : ℕ) (codes bytes : List ℕ) → groups ≤ i → AreGroups (groups - i) codes bytes → bytes ≡ []
no_group groups i codes bytes le are =
    let none : groups - i ≡ 0 = omega arith in
    (rw none at are).1
