-- Groups hold the codes that are read from them, and no others; codes have one run of groups.
use Rattle.std.proofs.Common.{◌≡◌, ℕ, zero, suc, ◌+◌, ◌-◌, ◌*◌, ◌^◌, ◌<◌, ◌≤◌, min, List, [], ◌++◌, length, take, drop, refl, sym, ◌∙◌, ap, arith, append_assoc, inl, inr}
use Rattle.std.proofs.lemmas.Bool.{cases_lt}
use Rattle.std.proofs.lemmas.List.{length-append, length-drop, length-take, take-append-drop, take_at, drop_at, take_all, drop_all, append-nil, nil_from_length}
use Rattle.std.proofs.lemmas.List.Elements.{All-append, All-nil, All-take, All-drop}
use Rattle.bitpacking.specs.Bits.{AreBytes}
use Rattle.bitpacking.specs.Codes.{AreWords}
use Rattle.bitpack_groups.specs.Laws.{GroupsAreRead, GroupsReadBack, OneRunOfCodes}
use Rattle.bitpack_groups.specs.Groups.{AreGroups, IsGroup, group_fault, group_codes, group_end, groups_fault, groups_codes, groups_of, after_groups}
use Rattle.bitpack_groups.proofs.ByteLemmas.{AreBytes-append, AreBytes-drop, AreBytes-nil}
use Rattle.bitpack_groups.proofs.FaultLemmas.{none_first}
use Rattle.bitpack_groups.proofs.GroupLaws.{one_group, one_group_of_codes, group_reads_back}

pub groups_read_back : GroupsReadBack
unfolding groups_fault groups_codes after_groups
groups_read_back zero block codes front rest le lt words (none, end) =
    (refl, sym none, ap (λ zs. zs ++ rest) end)
groups_read_back (suc groups) block codes front rest le lt words (part, more, parts, group, others) =
    let first : List ℕ = take 32 codes in
    let after : List ℕ = more ++ rest in
    let count : length first ≡ min 32 (length codes) = length-take 32 codes in
    let whole : front ++ rest ≡ part ++ after = ap (λ zs. zs ++ rest) parts ∙ append_assoc part more rest in
    let left : length (drop 32 codes) ≡ length codes - 32 = length-drop 32 codes in
    let one = group_reads_back block first part after (omega arith) (omega arith) (All-take (λ v. v < 2 ^ 32) 32 codes words) group in
    let next : drop (group_end (length first) (part ++ after)) (part ++ after) ≡ after =
    ap (λ n. drop n (part ++ after)) one.2 ∙ drop_at part after (length part) refl in
    let later = groups_read_back groups (block + 1) (drop 32 codes) more rest (omega arith) (omega arith) (All-drop (λ v. v < 2 ^ 32) 32 codes words) others in
    rw (whole, ← count, next, ← left, one.0, one.1, later.0, later.1, later.2)
    (refl, take-append-drop 32 codes, refl)

-- The codes of the first group, before the others.
module _ (first others : List ℕ) (count : ℕ) (here : length first ≡ min 32 count) (left : length others ≡ count - 32) where
  front-is : take 32 (first ++ others) ≡ first
  front-is =
      elim (cases_lt count 32) [
        | inl few ↦
            let none : others ≡ [] = nil_from_length others (omega arith) in
            ap (λ zs. take 32 (first ++ zs)) none ∙ ap (take 32) (append-nil first) ∙ take_all 32 first (omega arith)
        | inr many ↦ take_at first others 32 (omega arith)
      ]

  back-is : drop 32 (first ++ others) ≡ others
  back-is =
      elim (cases_lt count 32) [
        | inl few ↦
            let none : others ≡ [] = nil_from_length others (omega arith) in
            drop_all 32 (first ++ others) (omega (arith, length-append first others)) ∙ sym none
        | inr many ↦ drop_at first others 32 (omega arith)
      ]

pub groups_are_read : GroupsAreRead
unfolding groups_fault groups_codes after_groups
groups_are_read zero block count bytes le lt small none =
    let no_codes : 0 ≡ count = omega arith in
    (no_codes, All-nil (λ v. v < 2 ^ 32), ([], refl, (refl, refl)))
groups_are_read (suc groups) block count bytes le lt small none =
    let k : ℕ = min 32 count in
    let end : ℕ = group_end k bytes in
    let later : List ℕ = drop end bytes in
    let (here, there) = none_first (group_fault block k bytes) (groups_fault groups (block + 1) (count - 32) later) none in
    let (many, words, group, only) = one_group block k bytes (omega arith) (omega arith) small here in
    let (many', words', (front, parts, are)) = groups_are_read groups (block + 1) (count - 32) later (omega arith) (omega arith) (AreBytes-drop end bytes small) there in
    let first : List ℕ = group_codes k bytes in
    let others : List ℕ = groups_codes groups (count - 32) later in
    let after : List ℕ = after_groups groups (count - 32) later in (
      omega (arith, length-append first others, many, many'),
      All-append (λ v. v < 2 ^ 32) first others words words',
      (
        take end bytes ++ front,
        sym (append_assoc (take end bytes) front after ∙ ap (λ zs. take end bytes ++ zs) (sym parts) ∙ take-append-drop end bytes),
        (take end bytes, front, refl, rw (front-is first others count many many') group, rw (back-is first others count many many') are),
      ),
    )

-- ---- codes have one run of groups

pub same_group : (codes part other : List ℕ) → 1 ≤ length codes → length codes ≤ 32 → AreWords codes → IsGroup codes part → IsGroup codes other → other ≡ part
same_group codes part other some few words one two =
    let found = one_group_of_codes codes some few words in
    found.3 other two ∙ sym (found.3 part one)

pub groups_exist : (groups : ℕ) (codes : List ℕ) → length codes ≤ 32 * groups → 32 * groups < length codes + 32 → AreWords codes
    → (bytes : List ℕ) × AreBytes bytes × AreGroups groups codes bytes
groups_exist zero codes le lt words = ([], AreBytes-nil, (nil_from_length codes (omega (arith, le)), refl))
groups_exist (suc groups) codes le lt words =
    let (part, small, group, one) = one_group_of_codes (take 32 codes) (omega (arith, length-take 32 codes, lt)) (omega (arith, length-take 32 codes)) (All-take (λ v. v < 2 ^ 32) 32 codes words) in
    let (rest, small', are) = groups_exist groups (drop 32 codes) (omega (arith, length-drop 32 codes, le)) (omega (arith, length-drop 32 codes, lt)) (All-drop (λ v. v < 2 ^ 32) 32 codes words) in
    (part ++ rest, AreBytes-append part rest small small', (part, rest, refl, group, are))

pub groups_same : (groups : ℕ) (codes one two : List ℕ) → 32 * groups < length codes + 32 → AreWords codes → AreGroups groups codes one → AreGroups groups codes two → two ≡ one
groups_same zero codes one two lt words (e, none) (e', none') = none' ∙ sym none
groups_same (suc groups) codes one two lt words (part, rest, parts, group, more) (part', rest', parts', group', more') =
    let first : List ℕ = take 32 codes in
    let found = one_group_of_codes first (omega (arith, length-take 32 codes, lt)) (omega (arith, length-take 32 codes)) (All-take (λ v. v < 2 ^ 32) 32 codes words) in
    let same : part' ≡ part = found.3 part' group' ∙ sym (found.3 part group) in
    let left : rest' ≡ rest = groups_same groups (drop 32 codes) rest rest' (omega (arith, length-drop 32 codes, lt)) (All-drop (λ v. v < 2 ^ 32) 32 codes words) more more' in
    parts' ∙ rw (same, left) (sym parts)

pub one_run_of_codes : OneRunOfCodes
one_run_of_codes codes words =
    let groups : ℕ = groups_of (length codes) in
    let (bytes, small, are) = groups_exist groups codes (omega arith) (omega arith) words in
    (bytes, small, are, λ other are'. groups_same groups codes bytes other (omega arith) words are are')
