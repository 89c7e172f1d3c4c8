-- One slice of bits more.
use Rattle.std.proofs.Common.{◌≡◌, ℕ, ◌+◌, ◌-◌, ◌<◌, ◌≤◌, ◌∙◌, List, ◌∷◌, ap, arith, drop, eqb, eqb-true, eq-eqb, get_or, length, length-drop, subst, sym, take}
use Rattle.std.specs.Bool.{Decides}
use Rattle.std.proofs.lemmas.Bool.{cond_above, cond_below, true≢false}
use Rattle.std.proofs.lemmas.List.{drop-drop, drop_all, drop_more, length-take-le}
use Rattle.bitpack_slices.proofs.lemmas.bits.CountLaws.{bytes_are, decide_some}
use Rattle.bitpack_slices.proofs.lemmas.bodies.TestLaws.{bytes_taken}
use Rattle.bitpack_slices.proofs.lemmas.bytes.Bytes.{EachByte, byte_of}
use Rattle.bitpack_slices.proofs.lemmas.bytes.DecodeLaws.{bytes_dropped}
use Rattle.bitpack_slices.proofs.slice.testing.are_bits.Goals as goal
use Rattle.bitpack_slices.specs.Slices.{AreSlices, IsSlice, bits_in, slice_len}

-- a slice of bits, and those after it
abbrev Next : List ℕ → List ℕ → ℕ → ℕ → Type 0
Next counts bytes i offset = IsSlice (get_or counts i 0 + 1) (take 32 (drop offset bytes)) × AreSlices (drop (i + 1) counts) (drop (offset + 32) bytes)

wide_len : (less : ℕ) → 31 ≤ less → less < 255 → slice_len (less + 1) ≡ 32
wide_len less more some = sym (cond_above (less + 1) 32 _ _ _ (omega arith) (cond_below (less + 1) 256 32 0 (omega arith)))

next_of : (counts bytes : List ℕ) (i offset : ℕ) → i < length counts → 31 ≤ get_or counts i 0 → get_or counts i 0 < 255 → AreSlices (drop i counts) (drop offset bytes) → Next counts bytes i offset
next_of counts bytes i offset lt more some are =
    let less : ℕ = get_or counts i 0 in
    let (room, is, later) = subst (λ (l : List ℕ). AreSlices l (drop offset bytes)) (drop_more counts i 0 lt) are in
    let size = wide_len less more some in (
      subst (λ (n : ℕ). IsSlice (less + 1) (take n (drop offset bytes))) size is,
      subst (AreSlices (drop (i + 1) counts)) (drop-drop 32 offset bytes) (subst (λ (n : ℕ). AreSlices (drop (i + 1) counts) (drop n (drop offset bytes))) size later),
    )

of_next : (counts bytes : List ℕ) (i offset : ℕ) → i < length counts → 31 ≤ get_or counts i 0 → get_or counts i 0 < 255 → offset + 32 ≤ length bytes → Next counts bytes i offset → AreSlices (drop i counts) (drop offset bytes)
of_next counts bytes i offset lt more some room (is, later) =
    let less : ℕ = get_or counts i 0 in
    let size = wide_len less more some in
    let fits = length-drop offset bytes in
    let all : AreSlices (less ∷ drop (i + 1) counts) (drop offset bytes) = (
      omega arith,
      subst (λ (n : ℕ). IsSlice (less + 1) (take n (drop offset bytes))) (sym size) is,
      subst (λ (n : ℕ). AreSlices (drop (i + 1) counts) (drop n (drop offset bytes))) (sym size) (subst (AreSlices (drop (i + 1) counts)) (sym (drop-drop 32 offset bytes)) later),
    ) in
    subst (λ (l : List ℕ). AreSlices l (drop offset bytes)) (sym (drop_more counts i 0 lt)) all

-- the count of its bits decides a slice
counted : (less n offset : ℕ) (bytes : List ℕ) → 31 ≤ less → less < 255 → offset + 32 ≤ length bytes → EachByte bytes → n ≡ bits_in (take (offset + 32 - offset) (drop offset bytes))
    → Decides (eqb n (less + 1)) (IsSlice (less + 1) (take 32 (drop offset bytes)))
counted less n offset bytes more some room are e =
    let size = wide_len less more some in
    let cut : offset + 32 - offset ≡ 32 = omega arith in
    let fits = length-drop offset bytes in
    decide_some (less + 1) n (take 32 (drop offset bytes)) (omega arith) (omega arith) (length-take-le 32 (drop offset bytes) (omega arith) ∙ sym size)
    (byte_of (take 32 (drop offset bytes)) (bytes_taken 32 (drop offset bytes) (bytes_dropped offset bytes are))) (e ∙ ap (λ (m : ℕ). bits_in (take m (drop offset bytes))) cut)

pub returns-then-count_in_words-less : goal.returns-then-count_in_words-less
returns-then-count_in_words-less c =
    let counts : List ℕ = c.args.counts.now in
    let bytes : List ℕ = c.args.bytes.now in
    let i : ℕ = c.loop-less.less-index in
    let offset : ℕ = c.loop-less.offset in
    let (more, some) = c.requires.wide i c.loop-less-test.true in
    let d = counted (get_or counts i 0) c.count_in_words.result offset bytes more some (omega arith) (bytes_are bytes (λ k. (c.type_inv.bytes k).fits)) c.count_in_words.ensures in (
      λ e. absurd (true≢false (sym e)),
      λ are.
          let (is, later) = next_of counts bytes i offset c.loop-less-test.true more some (c.loop-less.invariant.some are) in
          absurd (c.if-count_in_words-less.true (eqb-true _ _ (d.1 is))),
    )

pub loop-less-preserved : goal.loop-less-preserved
loop-less-preserved c =
    let counts : List ℕ = c.args.counts.now in
    let bytes : List ℕ = c.args.bytes.now in
    let i : ℕ = c.loop-less.less-index in
    let offset : ℕ = c.loop-less.offset in
    let (more, some) = c.requires.wide i c.loop-less-test.true in
    let d = counted (get_or counts i 0) c.count_in_words.result offset bytes more some (omega arith) (bytes_are bytes (λ k. (c.type_inv.bytes k).fits)) c.count_in_words.ensures in
    record {
      offset = omega arith;
      some = λ are. let (is, later) = next_of counts bytes i offset c.loop-less-test.true more some (c.loop-less.invariant.some are) in later;
      all = λ later. c.loop-less.invariant.all
          (of_next counts bytes i offset c.loop-less-test.true more some (omega arith) (d.0 (eq-eqb _ _ c.if-count_in_words-less.false), later));
    }

ended : (counts bytes : List ℕ) (i offset : ℕ) → length counts ≤ i → offset ≡ length bytes → AreSlices (drop i counts) (drop offset bytes)
ended counts bytes i offset done e =
    subst (λ (l : List ℕ). AreSlices l (drop offset bytes)) (sym (drop_all i counts done)) (drop_all offset bytes (omega arith))
