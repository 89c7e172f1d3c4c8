-- One part more is written.
use Rattle.std.proofs.Common.{◌≡◌, ◌≢◌, ◌+◌, ◌-◌, ◌<◌, ◌≤◌, ◌∙◌, ℕ, List, ap, arith, drop, length, refl, take, inl, inr}
use Rattle.std.proofs.lemmas.Bool.Decides.{eqb_tells}
use borrow.Rule.Slice.PartMut.{same_len_mid}
use Rattle.bitpack_groups.proofs.ForCallers.{lent_len}
use Rattle.bitpack_slices.proofs.ForCallers.{EachByte, bytes_are, part_written}
use Rattle.bitpack_sets.proofs.ForCallers.{before_next}
use Rattle.bitpack_wide.proofs.WordReads.{last_sum}
use Rattle.bitpack_wide.specs.Directory.{before, sum_at}
use Rattle.bitpack_wide.specs.Forms.{directory_ids}
use Rattle.bitpack_wide.specs.Sound.{IsRest}
use Rattle.bitpack_wide.proofs.directory.Directory.unpack_from.Goals as goal

-- a position has this high word
abbrev Has : ℕ → List ℕ → ℕ → ℕ → Type 0
Has words rest word position = (word < words) × (before (sum_at words rest) word ≤ position) × (position < sum_at words rest word)

next : (ids words word next_word position more left : ℕ) (rest : List ℕ) → EachByte rest → IsRest ids words rest → Has words rest word position → left ≡ sum_at words rest word - position
    → more ≤ left → (more ≡ left → next_word ≡ word + 1) → (more ≢ left → next_word ≡ word) → position + more < ids → Has words rest next_word (position + more)
next ids words word next_word position more left rest are is (lt, from, below) e few last other within = elim (eqb_tells more left) [
  | inl (equal, same) ↦
      let step : next_word ≡ word + 1 = last same in
      let passed = before_next (sum_at words rest) word in
      let all = last_sum ids words rest are is words refl in
      let here : word + 1 < words = elim (eqb_tells (word + 1) words) [
        | inl (done, end) ↦ (let f = ap (before (sum_at words rest)) end in absurd (omega arith))
        | inr (ne, isnt) ↦ omega arith
      ] in
      let some = (is.entries (word + 1) here).some in
      let at = ap (before (sum_at words rest)) step in
      let at' = ap (sum_at words rest) step in
      (omega arith, omega arith, omega arith)
  | inr (differs, isnt) ↦
      let step : next_word ≡ word = other isnt in
      let at = ap (before (sum_at words rest)) step in
      let at' = ap (sum_at words rest) step in
      (omega arith, omega arith, omega arith)
]

pub loop-done-preserved : goal.loop-done-preserved
loop-done-preserved c =
    let d = c.args.self in
    let done : ℕ = c.loop-done.done in
    let more : ℕ = c.min-more.result in
    let out : List ℕ = c.loop-done.out in
    let inv = c.loop-done.invariant in
    let within = inv.within in
    let long = inv.long in
    let few : more ≤ length out - done = omega (arith, c.min.ensures, c.min-more.ensures) in
    let fits : done + more ≤ length out = omega arith in
    let mid : length (take (done + more - done) (drop done out)) ≡ more = lent_len done more out fits in
    let same = same_len_mid done (done + more - done) out c.unpack_with.new.out c.unpack_with.auto.out in
    let left : ℕ = c.sum_at.result - (c.args.from + done) in
    let part : more ≤ left = omega (arith, c.min.ensures, c.min-more.ensures) in
    let there = next d.count d.words c.loop-done.word c.next_word-word.result (c.args.from + done) more left d.rest.now (bytes_are d.rest.now d.are_bytes) d.sound
    (inv.word c.loop-done-test.true, inv.begin c.loop-done-test.true, inv.below c.loop-done-test.true) (ap (λ (n : ℕ). n - (c.args.from + done)) c.sum_at.ensures) part c.next_word-word.ensures.last c.next_word-word.ensures.other in
    record {
      within = omega arith;
      long = same ∙ long;
      word = λ lt. (there (omega (arith, c.requires.within))).0;
      begin = λ lt. (let h = (there (omega (arith, c.requires.within))).1 in omega arith);
      below = λ lt. (let h = (there (omega (arith, c.requires.within))).2 in omega arith);
      written = part_written done more (done + more - done) c.args.from out c.unpack_with.new.out (directory_ids d) within (c.unpack_with.auto.out ∙ mid)
          inv.written (c.unpack_with.ensures ∙ ap (λ (k : ℕ). take k (drop (c.args.from + done) (directory_ids d))) mid);
    }
