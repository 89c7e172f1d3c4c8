-- Version 2: what is where in the rest of the bytes stays as bytes are appended; skip entries and bodies, one more at a
-- time.
-- Serves blocks, laws, v2.
use Rattle.std.proofs.Common.{◌≡◌, ℕ, zero, suc, ◌+◌, ◌-◌, ◌*◌, ◌^◌, ◌<◌, ◌≤◌, List, [], ◌∷◌, ◌++◌, length, drop, get_or, refl, sym, ◌∙◌, ap, arith, inl, inr, add-one}
use Rattle.std.proofs.lemmas.Bool.{cases_lt}
use Rattle.std.proofs.lemmas.List.{drop-append-le, take-append-le, drop_at, drop-drop, take_all, get_or_append_left, get_or-append-add, length-append, length-drop, append-nil}
use Rattle.std.proofs.lemmas.List.Elements.{All-get_or}
use Rattle.std.proofs.lemmas.Nat.{mul-le}
use Rattle.bitpacking.specs.declared.kind.Kind.{Kind}
use Rattle.bitpacking.specs.Codes.{AreWords}
use Rattle.bitpacking.specs.Layout.{size, Holds}
use Rattle.bitpacking.specs.Width.{IsWidth}
use Rattle.bitpacking.specs.Words.{bytes_of_words, word}
use Rattle.bitpacking.proofs.ForCallers.{words_are_little_endian}
use Rattle.bitpack_lists.specs.declared.list_kind.ListKind.{ListKind}
use Rattle.bitpack_lists.specs.Chains.{next_kind}
use Rattle.bitpack_lists.specs.Parts.{first_kind}
use Rattle.bitpack_lists.specs.Version2.{IsBody2, IsEntry2, block_of, body_at, body_start, kind_at, last_at, offset_at, width_at, widths_before}
use Rattle.bitpack_lists.specs.inner.Opening.{AreEntries, HasBodies}
use Rattle.bitpack_lists.proofs.lemmas.blocks.BlockLemmas.{AreWords-block_of, kind_at-next, length-block_of}
use Rattle.bitpack_lists.proofs.lemmas.blocks.PartLemmas.{word-bytes}

-- ---- bytes are appended

word-append : (xs ys : List ℕ) → 4 ≤ length xs → word (xs ++ ys) 0 ≡ word xs 0
word-append xs ys room =
    words_are_little_endian (xs ++ ys) 0
    ∙ rw (
      get_or_append_left xs ys 0 0 (omega arith),
      get_or_append_left xs ys 0 1 (omega arith),
      get_or_append_left xs ys 0 2 (omega arith),
      get_or_append_left xs ys 0 3 (omega arith),
    ) (sym (words_are_little_endian xs 0))

word_at-append : (index : ℕ) (xs ys : List ℕ) → index + 4 ≤ length xs → word (drop index (xs ++ ys)) 0 ≡ word (drop index xs) 0
word_at-append index xs ys room =
    ap (λ zs. word zs 0) (drop-append-le index xs ys (omega arith)) ∙ word-append (drop index xs) ys (omega (arith, length-drop index xs))

module _ (xs ys : List ℕ) where
  pub width_at-append : (block : ℕ) → 9 * block + 9 ≤ length xs → width_at (xs ++ ys) block ≡ width_at xs block
  width_at-append block room = get_or_append_left xs ys 0 (9 * block) (omega arith)

  pub offset_at-append : (block : ℕ) → 9 * block + 9 ≤ length xs → offset_at (xs ++ ys) block ≡ offset_at xs block
  offset_at-append block room = word_at-append (9 * block + 1) xs ys (omega arith)

  pub last_at-append : (block : ℕ) → 9 * block + 9 ≤ length xs → last_at (xs ++ ys) block ≡ last_at xs block
  last_at-append block room = word_at-append (9 * block + 5) xs ys (omega arith)

  pub widths_before-append : (block : ℕ) → 9 * block ≤ length xs → widths_before (xs ++ ys) block ≡ widths_before xs block
  widths_before-append zero room = refl
  widths_before-append (suc block) room = rw (widths_before-append block (omega arith), width_at-append block (omega arith)) refl

  pub kind_at-append : (kind : ListKind) (block : ℕ) → 9 * block ≤ length xs → kind_at kind (xs ++ ys) block ≡ kind_at kind xs block
  kind_at-append kind zero room = refl
  kind_at-append kind (suc block) room = ap (next_kind (first_kind kind)) (last_at-append block (omega arith))

  pub IsEntry2-append : (lanes : ℕ) (kind : ListKind) (values : List ℕ) (block : ℕ) → 9 * block + 9 ≤ length xs
      → IsEntry2 lanes kind values xs block → IsEntry2 lanes kind values (xs ++ ys) block
  IsEntry2-append lanes kind values block room is = record {
    least = rw (kind_at-append kind block (omega arith), width_at-append block room) is.least;
    offset = rw (offset_at-append block room, widths_before-append block (omega arith)) is.offset;
    last = rw (last_at-append block room) is.last;
  }

  pub body_at-append : (lanes blocks block : ℕ) → 9 * block + 9 ≤ length xs
      → body_start lanes blocks xs block + size lanes (width_at xs block) ≤ length xs → body_at lanes blocks (xs ++ ys) block ≡ body_at lanes blocks xs block
  body_at-append lanes blocks block room within =
      let start : ℕ = body_start lanes blocks xs block in
      rw (
        width_at-append block room,
        offset_at-append block room,
        drop-append-le start xs ys (omega arith),
        take-append-le (size lanes (width_at xs block)) (drop start xs) ys (omega (arith, length-drop start xs)),
      ) refl

  pub IsBody2-append : (lanes blocks : ℕ) (kind : ListKind) (values : List ℕ) (block : ℕ) → 9 * block + 9 ≤ length xs
      → body_start lanes blocks xs block + size lanes (width_at xs block) ≤ length xs
      → IsBody2 lanes blocks kind values xs block → IsBody2 lanes blocks kind values (xs ++ ys) block
  IsBody2-append lanes blocks kind values block room within is =
      rw (body_at-append lanes blocks block room within, width_at-append block room, kind_at-append kind block (omega arith)) is

-- ---- the end of a body

pub widths_before-le : (rest : List ℕ) (block blocks : ℕ) → block < blocks → widths_before rest block + width_at rest block ≤ widths_before rest blocks
widths_before-le rest block zero lt = absurd (omega arith)
widths_before-le rest block (suc blocks) lt = elim (cases_lt block blocks) [
  | inl below ↦ omega (arith, widths_before-le rest block blocks below)
  | inr end ↦
      let here : block ≡ blocks = omega arith in
      rw here (omega arith)
]

-- The body of a block is before the end of those up to a later one.
pub body_end : (lanes blocks upto : ℕ) (rest : List ℕ) (block : ℕ) → block < upto → offset_at rest block ≡ widths_before rest block
    → body_start lanes blocks rest block + size lanes (width_at rest block) ≤ 9 * blocks + 4 * lanes * widths_before rest upto
body_end lanes blocks upto rest block lt offset =
    let product = mul-le (4 * lanes) (widths_before rest block + width_at rest block) (4 * lanes) (widths_before rest upto) (omega arith) (widths_before-le rest block upto lt) in
    rw offset (omega arith)

-- ---- one entry more

-- The bytes of an entry after so many others.
module _ (xs : List ℕ) (block width offset last : ℕ) (long : length xs ≡ 9 * block) where
  abbrev pub entry : List ℕ
  entry = width ∷ bytes_of_words (offset ∷ last ∷ [])

  from : (index : ℕ) → drop (9 * block + index) (xs ++ entry) ≡ drop index entry
  from index = sym (drop-drop index (9 * block) (xs ++ entry)) ∙ ap (drop index) (drop_at xs entry (9 * block) long)

  pub width_at-last : width_at (xs ++ entry) block ≡ width
  width_at-last =
      let here : 9 * block ≡ length xs + 0 = omega arith in
      ap (λ k. get_or (xs ++ entry) k 0) here ∙ get_or-append-add xs entry 0 0

  pub offset_at-last : offset < 2 ^ 32 → offset_at (xs ++ entry) block ≡ offset
  offset_at-last small = ap (λ zs. word zs 0) (from 1) ∙ word-bytes offset (bytes_of_words (last ∷ [])) small

  pub last_at-last : last < 2 ^ 32 → last_at (xs ++ entry) block ≡ last
  last_at-last small = ap (λ zs. word zs 0) (from 5) ∙ ap (λ zs. word zs 0) (sym (append-nil (bytes_of_words (last ∷ [])))) ∙ word-bytes last [] small

  pub entries_step : (lanes : ℕ) (kind : ListKind) (values : List ℕ) → AreEntries lanes block kind values xs
      → IsWidth (kind_at kind xs block) (block_of lanes values block) width → offset ≡ widths_before xs block → offset < 2 ^ 32
      → last ≡ get_or (block_of lanes values block) (32 * lanes - 1) 0 → last < 2 ^ 32
      → AreEntries lanes (block + 1) kind values (xs ++ entry)
  entries_step lanes kind values before least is small is' small' k lt = elim (cases_lt k block) [
    | inl below ↦ IsEntry2-append xs entry lanes kind values k (omega arith) (before k below)
    | inr end ↦
        let here : k ≡ block = omega arith in
        rw here (record {
          least = rw (width_at-last, kind_at-append xs entry kind block (omega arith)) least;
          offset = offset_at-last small ∙ is ∙ sym (widths_before-append xs entry block (omega arith));
          last = last_at-last small' ∙ is';
        })
  ]

-- The entries of the blocks so far, and what the next one begins with.
pub record Entered (lanes : ℕ) (kind : ListKind) (values rest : List ℕ) (block : ℕ) (block_kind : Kind) (offset : ℕ) : Type 0 where
  pub kind_is : block_kind ≡ kind_at kind rest block
  pub offset_is : offset ≡ widths_before rest block
  pub few : offset ≤ 32 * block
  pub entries : AreEntries lanes block kind values rest
  pub long : length rest ≡ 9 * block

pub entered_step : (lanes len width : ℕ) (kind : ListKind) (values part rest : List ℕ) (block : ℕ) (block_kind : Kind) (offset : ℕ)
    → Entered lanes kind values rest block block_kind offset → 1 ≤ lanes → len ≡ 32 * lanes → part ≡ block_of lanes values block
    → 32 * lanes * (block + 1) ≤ length values → length values ≤ 2 ^ 28 → AreWords values → IsWidth block_kind part width → width ≤ 32
    → Entered lanes kind values (rest ++ width ∷ bytes_of_words (offset ∷ get_or part (len - 1) 0 ∷ [])) (block + 1)
    (next_kind block_kind (get_or part (len - 1) 0)) (offset + width)
entered_step lanes len width kind values part rest block block_kind offset before some whole is end few words least narrow =
    let last : ℕ = get_or part (len - 1) 0 in
    let last_is : last ≡ get_or (block_of lanes values block) (32 * lanes - 1) 0 = rw (is, whole) refl in
    let inside : 32 * lanes - 1 < length (block_of lanes values block) = omega (arith, length-block_of lanes block values end) in
    let found = All-get_or (λ v. v < 2 ^ 32) (block_of lanes values block) (32 * lanes - 1) 0 inside (AreWords-block_of lanes block values words) in
    let small : last < 2 ^ 32 = rw last_is found in
    let blocks = mul-le (32 * 1) (block + 1) (32 * lanes) (block + 1) (omega arith) (omega arith) in
    let small' : offset < 2 ^ 32 = omega (arith, before.few, blocks, end, few) in
    let e : List ℕ = entry rest block width offset last before.long in
    record {
      kind_is =
          kind_at-next kind (rest ++ e) block block_kind last (before.kind_is ∙ sym (kind_at-append rest e kind block (omega (arith, before.long))))
          (sym (last_at-last rest block width offset last before.long small));
      offset_is =
          rw (
            add-one,
            width_at-last rest block width offset last before.long,
            widths_before-append rest e block (omega (arith, before.long)),
          ) (ap (λ x. x + width) before.offset_is);
      few = omega (arith, before.few, narrow);
      entries =
          entries_step rest block width offset last before.long lanes kind values before.entries (rw (← before.kind_is, ← is) least) before.offset_is small'
          last_is small;
      long = omega (arith, length-append rest e, before.long);
    }

-- ---- one body more

pub bodies_step : (lanes blocks : ℕ) (kind : ListKind) (values rest part : List ℕ) (block : ℕ) → block < blocks
    → HasBodies lanes blocks kind values rest block
    → Holds lanes (width_at rest block) (kind_at kind rest block) (block_of lanes values block) part
    → HasBodies lanes blocks kind values (rest ++ part) (block + 1)
bodies_step lanes blocks kind values rest part block lt has holds =
    let n : ℕ = 4 * lanes * widths_before rest block in
    let room : 9 * block + 9 ≤ length rest = omega (arith, has.long) in
    let size_of : length part ≡ size lanes (width_at rest block) = holds.byte_count in
    let offset : offset_at (rest ++ part) block ≡ widths_before rest block =
    offset_at-append rest part block room ∙ (has.entries block lt).offset in
    let width : width_at (rest ++ part) block ≡ width_at rest block = width_at-append rest part block room in
    let start : 9 * blocks + 4 * lanes * widths_before rest block ≡ length rest = sym has.long in
    let body : body_at lanes blocks (rest ++ part) block ≡ part =
    rw (width, offset, start, drop_at rest part (length rest) refl) (take_all (size lanes (width_at rest block)) part (omega (arith, size_of))) in
    record {
      entries = λ k lt'. IsEntry2-append rest part lanes kind values k (omega (arith, has.long)) (has.entries k lt');
      bodies = λ k lt'. elim (cases_lt k block) [
        | inl below ↦
            let end = body_end lanes blocks block rest k below (has.entries k (omega arith)).offset in
            IsBody2-append rest part lanes blocks kind values k (omega (arith, has.long)) (omega (arith, end, has.long)) (has.bodies k below)
        | inr last ↦
            let here : k ≡ block = omega arith in
            rw (here, body, width, kind_at-append rest part kind block (omega arith)) holds
      ];
      long = rw (add-one, width, widths_before-append rest part block (omega arith)) (omega (arith, length-append rest part, size_of, has.long));
    }
