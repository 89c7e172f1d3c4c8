-- There is one position to look at, or none.
use Rattle.std.proofs.Common.{◌≡◌, ◌+◌, ◌-◌, ◌<◌, ℕ, Bool, eqb, get_or, ap, arith, sym, inl, inr, ◌∙◌}
use Rattle.std.proofs.lemmas.Bool.{cases_lt, true≢false}
use Rattle.bitpack_slices.specs.Reads.{has}
use Rattle.bitpack_sets.specs.Opened.{ids}
use Rattle.bitpack_wide.specs.inner.WideColumnSteps.{difference_of}
use Rattle.bitpack_wide.specs.WideColumnFaults.{is_front}
use Rattle.bitpack_wide.proofs.WideFilled.{begins, ends, starts}
use Rattle.bitpack_wide.proofs.wide_column.filling.is_front_same.Goals as goal

pub returns-then-not-contains : goal.returns-then-not-contains
returns-then-not-contains c =
    let missing : ℕ → Bool = λ k. has (c.args.begin + k) (ids c.args.missing.now) in
    let here : c.args.begin + 0 ≡ c.args.begin = omega arith in
    sym (starts missing (difference_of c.args.chunk.now) c.args.chunk.now.len
    (ap (λ (p : ℕ). has p (ids c.args.missing.now)) here ∙ sym c.contains.ensures ∙ c.if-not-contains.true))

pub returns-then-front-chunk : goal.returns-then-front-chunk
returns-then-front-chunk c =
    let missing : ℕ → Bool = λ k. has (c.args.begin + k) (ids c.args.missing.now) in
    sym (ends missing (difference_of c.args.chunk.now) c.args.chunk.now.len
    (ap (is_front missing) (sym c.if-front-chunk.true) ∙ c.count_front-front.ensures.front))

pub returns : goal.returns
returns c =
    let missing : ℕ → Bool = λ k. has (c.args.begin + k) (ids c.args.missing.now) in
    let number : ℕ → ℕ = difference_of c.args.chunk.now in
    let front : ℕ = c.count_front-front.result in
    let it = c.count_front-front.ensures in
    let below : front < c.args.chunk.now.len = omega (arith, it.most, c.if-front-chunk.false) in
    let some : 0 < front = elim (cases_lt 0 front) [
      | inl lt ↦ lt
      | inr none ↦
          let here : c.args.begin ≡ c.args.begin + front = omega (arith, none) in
          absurd (true≢false (sym c.if-not-contains.false ∙ c.contains.ensures ∙ ap (λ (p : ℕ). has p (ids c.args.missing.now)) here ∙ it.next below))
    ] in
    let second : front - 1 + 1 ≡ front = omega (arith, some) in
    let first : front - 1 + 0 ≡ front - 1 = omega arith in
    ap (λ (n : ℕ). eqb n (get_or c.read_differences.new.out 0 0)) (c.read_differences.ensures 1 (omega arith) ∙ ap number second)
    ∙ ap (eqb (number front)) (c.read_differences.ensures 0 (omega arith) ∙ ap number first)
    ∙ begins missing number c.args.chunk.now.len front below it.front (it.next below)
