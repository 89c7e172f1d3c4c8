-- The tests in their order find the first fault of a group.
use Rattle.std.proofs.Common.{◌≡◌, ◌-◌, ◌^◌, ◌<◌, ◌&&◌, ltb, ℕ, List, length, take, drop, get_or, sym, ◌∙◌, ap, arith}
use Rattle.std.proofs.lemmas.Bool.{false_from_ne_true}
use Rattle.std.proofs.lemmas.List.{take_rest}
use Rattle.bitpacking.specs.Width.{Fits}
use Rattle.bitpack_groups.specs.Groups.{all_codes, are_loose, are_zeros}
use Rattle.bitpack_groups.proofs.FaultLemmas.{front-is}
use Rattle.bitpack_groups.proofs.GroupLemmas.{codes_fit, loose_by_bits, no_byte, wide, missing, loose, padding, right}
use Rattle.bitpack_groups.proofs.group.test_group.Goals as goal

pub returns-in_default-clause-fault : goal.returns-in_default-clause-fault
returns-in_default-clause-fault c = no_byte c.args.block c.args.count c.args.bytes.now c.in_default.len_below

pub returns-then-width-gt32-clause-fault : goal.returns-then-width-gt32-clause-fault
returns-then-width-gt32-clause-fault c =
    let bytes : List ℕ = c.args.bytes.now in
    wide c.args.block c.args.count (get_or bytes 0 0) bytes (take (length bytes - 1) (drop 1 bytes)) (front-is bytes c.in-len1-up.len_at_least) c.if-width-gt32.true

pub returns-then-rest-group_size-clause-fault : goal.returns-then-rest-group_size-clause-fault
returns-then-rest-group_size-clause-fault c =
    let bytes : List ℕ = c.args.bytes.now in
    missing c.args.block c.args.count (get_or bytes 0 0) bytes (take (length bytes - 1) (drop 1 bytes)) (front-is bytes c.in-len1-up.len_at_least)
    c.if-width-gt32.false (rw c.group_size.ensures.size at c.if-rest-group_size.true)

-- What was unpacked, as a list.
module _ (count width : ℕ) (bytes found : List ℕ) (unpacked : found ≡ all_codes count width (drop 1 bytes)) where
  abbrev rest : List ℕ
  rest = take (length bytes - 1) (drop 1 bytes)

  codes : found ≡ all_codes count width rest
  codes = unpacked ∙ ap (all_codes count width) (sym (take_rest bytes 1))

  loose_is : (bits : ℕ) → ((w : ℕ) → bits < 2 ^ w → Fits (take count found) w) → ((w : ℕ) → Fits (take count found) w → bits < 2 ^ w)
      → are_loose width (take count (all_codes count width rest)) ≡ (ltb 0 width && ltb bits (2 ^ (width - 1)))
  loose_is bits above below = ap (λ zs. are_loose width (take count zs)) (sym codes) ∙ loose_by_bits width bits (take count found) above below

  zeros_are : are_zeros (drop count (all_codes count width rest)) ≡ are_zeros (drop count found)
  zeros_are = ap (λ zs. are_zeros (drop count zs)) (sym codes)

pub returns-then-fits_less-clause-fault : goal.returns-then-fits_less-clause-fault
returns-then-fits_less-clause-fault c =
    let bytes : List ℕ = c.args.bytes.now in
    let count : ℕ = c.args.count in
    let width : ℕ = get_or bytes 0 0 in
    let totals = c.add_group-totals.ensures in
    let test = loose_is count width bytes c.unpack_group-end.new.codes c.unpack_group-end.ensures.codes c.add_group-totals.result.bits totals.above totals.below
    ∙ sym c.fits_less.ensures ∙ c.if-fits_less.true in
    loose c.args.block count width bytes (take (length bytes - 1) (drop 1 bytes)) (front-is bytes c.in-len1-up.len_at_least) c.if-width-gt32.false
    (rw c.group_size.ensures.size at c.if-rest-group_size.false) test

pub returns-then-totals-gt0-clause-fault : goal.returns-then-totals-gt0-clause-fault
returns-then-totals-gt0-clause-fault c =
    let bytes : List ℕ = c.args.bytes.now in
    let count : ℕ = c.args.count in
    let width : ℕ = get_or bytes 0 0 in
    let found : List ℕ = c.unpack_group-end.new.codes in
    let totals = c.add_group-totals.ensures in
    let least = loose_is count width bytes found c.unpack_group-end.ensures.codes c.add_group-totals.result.bits totals.above totals.below
    ∙ sym c.fits_less.ensures ∙ c.if-fits_less.false in
    let test = zeros_are count width bytes found c.unpack_group-end.ensures.codes
    ∙ false_from_ne_true (are_zeros (drop count found)) (λ none. omega (arith, totals.later none, c.if-totals-gt0.true)) in
    padding c.args.block count width bytes (take (length bytes - 1) (drop 1 bytes)) (front-is bytes c.in-len1-up.len_at_least) c.if-width-gt32.false
    (rw c.group_size.ensures.size at c.if-rest-group_size.false) least test

pub returns-clause-fault : goal.returns-clause-fault
returns-clause-fault c =
    let bytes : List ℕ = c.args.bytes.now in
    let count : ℕ = c.args.count in
    let width : ℕ = get_or bytes 0 0 in
    let found : List ℕ = c.unpack_group-end.new.codes in
    let totals = c.add_group-totals.ensures in
    let least = loose_is count width bytes found c.unpack_group-end.ensures.codes c.add_group-totals.result.bits totals.above totals.below
    ∙ sym c.fits_less.ensures ∙ c.if-fits_less.false in
    let test = zeros_are count width bytes found c.unpack_group-end.ensures.codes ∙ totals.zeros (omega (arith, c.if-totals-gt0.false)) in
    right c.args.block count width bytes (take (length bytes - 1) (drop 1 bytes)) (front-is bytes c.in-len1-up.len_at_least) c.if-width-gt32.false
    (rw c.group_size.ensures.size at c.if-rest-group_size.false) least test

pub returns-clause-fits : goal.returns-clause-fits
returns-clause-fits c =
    let bytes : List ℕ = c.args.bytes.now in
    let rest : List ℕ = take (length bytes - 1) (drop 1 bytes) in
    let room = rw c.group_size.ensures.size at c.if-rest-group_size.false in
    rw (take_rest bytes 1) at (codes_fit c.args.count (get_or bytes 0 0) rest c.requires.count c.if-width-gt32.false room)
