-- The skip entries and the bodies of values are one list of bytes in the rest of an encoded list.
-- Serves v2.
use Rattle.std.proofs.Common.{◌≡◌, ℕ, zero, suc, ◌+◌, ◌*◌, ◌<◌, ◌≤◌, List, [], ◌∷◌, ◌++◌, length, take, drop, get_or, refl, sym, ◌∙◌, ap, arith, add-zero, take-add}
use Rattle.std.proofs.lemmas.List.{drop-drop, get_or-drop, length-drop, take-append-drop}
use Rattle.bitpacking.specs.Bits.{AreBytes}
use Rattle.bitpacking.specs.Codes.{codes}
use Rattle.bitpacking.specs.Layout.{size}
use Rattle.bitpacking.specs.Words.{bytes_of_words, word}
use Rattle.bitpacking.proofs.ForCallers.{AreBytes-take, block_has_one_list, same_least_width}
use Rattle.bitpack_lists.specs.declared.list_kind.ListKind.{ListKind}
use Rattle.bitpack_lists.specs.Chains.{next_kind}
use Rattle.bitpack_lists.specs.inner.Opening.{AreEntries}
use Rattle.bitpack_lists.specs.Parts.{first_kind, kind_after}
use Rattle.bitpack_lists.specs.Version2.{HasBlocks, block_of, body_at, body_start, kind_at, last_at, offset_at, tail_start, width_at, widths_before}
use Rattle.bitpack_lists.proofs.lemmas.blocks.PartLemmas.{AreBytes-drop, bytes-word}

-- The nine bytes of an entry are its width and its words.
nine_bytes : (bytes : List ℕ) → AreBytes bytes → 9 ≤ length bytes
    → take 9 bytes ≡ get_or bytes 0 0 ∷ (bytes_of_words (word (drop 1 bytes) 0 ∷ []) ++ bytes_of_words (word (drop 5 bytes) 0 ∷ []))
nine_bytes [] small long = absurd (omega arith)
nine_bytes (byte ∷ bytes) small long =
    let one : bytes_of_words (word bytes 0 ∷ []) ≡ take 4 bytes = bytes-word bytes (λ k. small (suc k)) (omega arith) in
    let two : bytes_of_words (word (drop 4 bytes) 0 ∷ []) ≡ take 4 (drop 4 bytes) =
    bytes-word (drop 4 bytes) (AreBytes-drop 4 bytes (λ k. small (suc k))) (omega (arith, length-drop 4 bytes)) in
    ap (λ xs. byte ∷ xs)
    (take-add 4 4 bytes ∙ ap (λ xs. xs ++ take 4 (drop 4 bytes)) (sym one) ∙ ap (λ xs. bytes_of_words (word bytes 0 ∷ []) ++ xs) (sym two))

pub front_more : (front size_of : ℕ) (xs ys : List ℕ) → take front xs ≡ take front ys → take size_of (drop front xs) ≡ take size_of (drop front ys)
    → take (front + size_of) xs ≡ take (front + size_of) ys
front_more front size_of xs ys e f = take-add front size_of xs ∙ rw (e, f) (sym (take-add front size_of ys))

-- The kind after the same last values is the same.
pub kind_after-same : (kind : ListKind) (last other : ℕ → ℕ) (block : ℕ) → ((before : ℕ) → before < block → last before ≡ other before)
    → kind_after kind last block ≡ kind_after kind other block
kind_after-same kind last other zero same = refl
kind_after-same kind last other (suc block) same = ap (next_kind (first_kind kind)) (same block (omega arith))

-- Entries of the same blocks are the same.
module _ (lanes blocks : ℕ) (kind : ListKind) (values one two : List ℕ) (a : AreEntries lanes blocks kind values one) (b : AreEntries lanes blocks kind values two) where
  same_last : (block : ℕ) → block < blocks → last_at one block ≡ last_at two block
  same_last block lt = (a block lt).last ∙ sym (b block lt).last

  -- Also that of what follows the last block.
  pub same_kind_after : (block : ℕ) → block ≤ blocks → kind_at kind one block ≡ kind_at kind two block
  same_kind_after block le = kind_after-same kind (last_at one) (last_at two) block (λ before lt. same_last before (omega arith))

  same_kind : (block : ℕ) → block < blocks → kind_at kind one block ≡ kind_at kind two block
  same_kind block lt = same_kind_after block (omega arith)

  same_width : (block : ℕ) → block < blocks → width_at one block ≡ width_at two block
  same_width block lt =
      same_least_width (codes (kind_at kind one block) (block_of lanes values block)) (width_at two block) (width_at one block)
      (rw (same_kind block lt) (b block lt).least) (a block lt).least

  same_sum : (block : ℕ) → block ≤ blocks → widths_before one block ≡ widths_before two block
  same_sum zero le = refl
  same_sum (suc block) le = rw (same_sum block (omega arith), same_width block (omega arith)) refl

  same_offset : (block : ℕ) → block < blocks → offset_at one block ≡ offset_at two block
  same_offset block lt = (a block lt).offset ∙ same_sum block (omega arith) ∙ sym (b block lt).offset

  -- They say that the bodies end at the same offset.
  pub same_start : tail_start lanes blocks two ≡ tail_start lanes blocks one
  same_start = ap (λ x. 9 * blocks + 4 * lanes * x) (sym (same_sum blocks (omega arith)))

module _ (lanes blocks : ℕ) (kind : ListKind) (values one two : List ℕ) (some : 0 < lanes) (small : AreBytes one) (small' : AreBytes two)
    (a : HasBlocks lanes blocks kind values one) (b : HasBlocks lanes blocks kind values two) where
  width_is : (block : ℕ) → block < blocks → width_at one block ≡ width_at two block
  width_is = same_width lanes blocks kind values one two a.entries b.entries

  offset_is : (block : ℕ) → block < blocks → offset_at one block ≡ offset_at two block
  offset_is = same_offset lanes blocks kind values one two a.entries b.entries

  last_is : (block : ℕ) → block < blocks → last_at one block ≡ last_at two block
  last_is = same_last lanes blocks kind values one two a.entries b.entries

  sum_is : (block : ℕ) → block ≤ blocks → widths_before one block ≡ widths_before two block
  sum_is = same_sum lanes blocks kind values one two a.entries b.entries

  entry_bytes : (rest : List ℕ) (block : ℕ) → AreBytes rest → 9 * block + 9 ≤ length rest
      → take 9 (drop (9 * block) rest) ≡ width_at rest block ∷ (bytes_of_words (offset_at rest block ∷ []) ++ bytes_of_words (last_at rest block ∷ []))
  entry_bytes rest block are room =
      let from : ℕ = 9 * block in
      let first : get_or (drop from rest) 0 0 ≡ width_at rest block = get_or-drop from rest 0 0 ∙ ap (λ k. get_or rest k 0) (add-zero from) in
      nine_bytes (drop from rest) (AreBytes-drop from rest are) (omega (arith, length-drop from rest))
      ∙ rw (first, drop-drop 1 from rest, drop-drop 5 from rest) refl

  same_entries : (block : ℕ) → block ≤ blocks → take (9 * block) one ≡ take (9 * block) two
  same_entries zero le = refl
  same_entries (suc block) le =
      let lt : block < blocks = omega arith in
      let more : 9 * suc block ≡ 9 * block + 9 = omega arith in
      let same : take 9 (drop (9 * block) one) ≡ take 9 (drop (9 * block) two) =
      entry_bytes one block small (omega (arith, a.room, lt)) ∙ rw (width_is block lt, offset_is block lt, last_is block lt) (sym (entry_bytes two block small' (omega (arith, b.room, lt)))) in
      rw more (front_more (9 * block) 9 one two (same_entries block (omega arith)) same)

  same_body : (block : ℕ) → block < blocks → body_at lanes blocks one block ≡ body_at lanes blocks two block
  same_body block lt =
      sym (block_has_one_list lanes (width_at one block) (kind_at kind one block) (block_of lanes values block) (body_at lanes blocks one block)
      (body_at lanes blocks two block) some (AreBytes-take _ (size lanes (width_at one block)) (AreBytes-drop (body_start lanes blocks one block) one small))
      (AreBytes-take _ (size lanes (width_at two block)) (AreBytes-drop (body_start lanes blocks two block) two small'))
      (a.bodies block lt)
      (rw (width_is block lt, same_kind lanes blocks kind values one two a.entries b.entries block lt) (b.bodies block lt)))

  same_bodies : (block : ℕ) → block ≤ blocks
      → take (9 * blocks + 4 * lanes * widths_before one block) one ≡ take (9 * blocks + 4 * lanes * widths_before one block) two
  same_bodies zero le =
      let none : 9 * blocks + 4 * lanes * 0 ≡ 9 * blocks = omega arith in
      rw none (same_entries blocks (omega arith))
  same_bodies (suc block) le =
      let lt : block < blocks = omega arith in
      let from : ℕ = 9 * blocks + 4 * lanes * widths_before one block in
      let more : 9 * blocks + 4 * lanes * (widths_before one block + width_at one block) ≡ from + size lanes (width_at one block) = omega arith in
      let start : body_start lanes blocks one block ≡ from = ap (λ x. 9 * blocks + 4 * lanes * x) (a.entries block lt).offset in
      let start' : body_start lanes blocks two block ≡ from = ap (λ x. 9 * blocks + 4 * lanes * x) ((b.entries block lt).offset ∙ sym (sum_is block (omega arith))) in
      let same : take (size lanes (width_at one block)) (drop from one) ≡ take (size lanes (width_at one block)) (drop from two) =
      ap (λ k. take (size lanes (width_at one block)) (drop k one)) (sym start) ∙ same_body block lt
      ∙ ap (λ w. take (size lanes w) (drop (body_start lanes blocks two block) two)) (sym (width_is block lt))
      ∙ ap (λ k. take (size lanes (width_at one block)) (drop k two)) start' in
      rw more (front_more from (size lanes (width_at one block)) one two (same_bodies block (omega arith)) same)

  -- They are the same bytes up to the end of the bodies.
  pub same_front : take (tail_start lanes blocks one) two ≡ take (tail_start lanes blocks one) one
  same_front = sym (same_bodies blocks (omega arith))

  -- So the bytes are the same if what follows is.
  pub same_whole : drop (tail_start lanes blocks two) two ≡ drop (tail_start lanes blocks one) one → two ≡ one
  same_whole tail =
      let start : ℕ = tail_start lanes blocks one in
      let later : drop start two ≡ drop start one = ap (λ k. drop k two) (sym (same_start lanes blocks kind values one two a.entries b.entries)) ∙ tail in
      sym (take-append-drop start two) ∙ rw (later, same_front) (take-append-drop start one)
