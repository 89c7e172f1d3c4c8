-- Version 2: skip entries and bodies with the tail after them are the rest of the bytes, and with the header before it
-- an encoded list; how long it is.
-- Serves laws, v2.
use Rattle.std.proofs.Common.{◌≡◌, ℕ, ◌+◌, ◌-◌, ◌*◌, ◌/◌, ◌%◌, ◌^◌, ◌≤◌, List, ◌++◌, length, drop, None, refl, sym, ◌∙◌, ap, arith}
use Rattle.std.proofs.Math.Nat.{mod-eq-sub-mul-div}
use Rattle.std.proofs.lemmas.List.{take_at, drop_at, length-append, length-drop}
use Rattle.bitpacking.specs.Codes.{AreWords}
use Rattle.bitpacking.specs.Words.{bytes_of_words}
use Rattle.bitpacking.proofs.ForCallers.{length-bytes_of_words}
use Rattle.bitpack_lists.specs.declared.list_kind.ListKind.{ListKind}
use Rattle.bitpack_lists.specs.Parts.{header, tail_values, whole_blocks}
use Rattle.bitpack_lists.specs.Version2.{HasBlocks, IsRest2, List2, first_out, tail_start}
use Rattle.bitpack_lists.specs.inner.Opening.{HasBodies}
use Rattle.bitpack_lists.proofs.lemmas.blocks.EntryLemmas.{IsBody2-append, IsEntry2-append, body_end, widths_before-append}
use Rattle.bitpack_lists.proofs.lemmas.blocks.HeaderLemmas.{header_bytes, length-header}

-- What follows the bodies changes no block.
module _ (lanes blocks : ℕ) (kind : ListKind) (values rest tail : List ℕ) (has : HasBodies lanes blocks kind values rest blocks) where
  entries_long : 9 * blocks ≤ length rest
  entries_long = omega (arith, has.long)

  pub start_done : tail_start lanes blocks (rest ++ tail) ≡ length rest
  start_done = ap (λ x. 9 * blocks + 4 * lanes * x) (widths_before-append rest tail blocks entries_long) ∙ sym has.long

  pub blocks_done : HasBlocks lanes blocks kind values (rest ++ tail)
  blocks_done = record {
    entries = λ block lt. IsEntry2-append rest tail lanes kind values block (omega (arith, entries_long, lt)) (has.entries block lt);
    bodies = λ block lt.
        let upto = body_end lanes blocks blocks rest block lt (has.entries block lt).offset in
        IsBody2-append rest tail lanes blocks kind values block (omega (arith, entries_long, lt)) (omega (arith, upto, has.long)) (has.bodies block lt);
    room = omega (arith, start_done, length-append rest tail);
  }

  pub after_done : drop (tail_start lanes blocks (rest ++ tail)) (rest ++ tail) ≡ tail
  after_done = rw start_done (drop_at rest tail (length rest) refl)

pub rest_done : (lanes blocks : ℕ) (kind : ListKind) (values rest : List ℕ) → HasBodies lanes blocks kind values rest blocks
    → IsRest2 lanes blocks kind values (rest ++ bytes_of_words (drop (32 * lanes * blocks) values))
rest_done lanes blocks kind values rest has =
    let tail : List ℕ = bytes_of_words (drop (32 * lanes * blocks) values) in
    record { whole = blocks_done lanes blocks kind values rest tail has; tail = after_done lanes blocks kind values rest tail has }

pub List2-from_rest : (lanes : ℕ) (kind : ListKind) (values later : List ℕ) → AreWords values → first_out kind values ≡ None → length values ≤ 2 ^ 28
    → IsRest2 lanes (whole_blocks lanes (length values)) kind values later → List2 lanes kind values (header 2 kind lanes (length values) ++ later)
List2-from_rest lanes kind values later words ordered few rest =
    let front : List ℕ = header 2 kind lanes (length values) in
    let seven : length front ≡ 7 = length-header 2 kind lanes (length values) in
    record {
      words = words;
      ordered = ordered;
      begins = record { few = few; front = take_at front later 7 seven };
      rest = rw (drop_at front later 7 seven) rest;
    }

-- The tail of so many values has as many bytes as the format says.
pub length-tail : (lanes : ℕ) (values : List ℕ) → 1 ≤ lanes
    → length (bytes_of_words (drop (32 * lanes * whole_blocks lanes (length values)) values)) ≡ 4 * tail_values lanes (length values)
length-tail lanes values some =
    let n : ℕ = 32 * lanes in
    let over : length values % n ≡ length values - n * (length values / n) = mod-eq-sub-mul-div (length values) n in
    omega (arith, length-bytes_of_words (drop (n * (length values / n)) values), length-drop (n * (length values / n)) values, over)

pub length-encoding2 : (lanes : ℕ) (kind : ListKind) (values encoding : List ℕ) → 1 ≤ lanes → List2 lanes kind values encoding
    → length encoding ≡ 7 + tail_start lanes (whole_blocks lanes (length values)) (drop 7 encoding) + 4 * tail_values lanes (length values)
length-encoding2 lanes kind values encoding some list =
    let blocks : ℕ = whole_blocks lanes (length values) in
    let start : ℕ = tail_start lanes blocks (drop 7 encoding) in
    let found = header_bytes 2 lanes kind (length values) encoding list.begins in
    let tail : length (drop start (drop 7 encoding)) ≡ 4 * tail_values lanes (length values) = ap length list.rest.tail ∙ length-tail lanes values some in
    omega (arith, tail, list.rest.whole.room, length-drop start (drop 7 encoding), length-drop 7 encoding, found.long)
