-- The next value is that of the next code.
use Rattle.std.proofs.Common.{◌≡◌, ◌+◌, ◌%◌, ◌^◌, ◌∷◌, ℕ, get_or, sym, ◌∙◌, ap, add-one, refl, arith}
use Rattle.bitpack_lists.specs.inner.CodeSteps.{sums}
use Rattle.bitpack_lists.proofs.lemmas.opened.ValueSums.{sums-next}
use Rattle.bitpack_lists.proofs.opened.getting.last_sum.Goals as goal

added : (value code more : ℕ) → ((value + code) % 2 ^ 32 + more) % 2 ^ 32 ≡ (value + code + more) % 2 ^ 32
added value code more = omega arith

pub loop-index-preserved : goal.loop-index-preserved
loop-index-preserved c =
    let before : ℕ = c.args.before in
    let more : ℕ = c.args.more in
    let codes = c.args.codes.now in
    let index : ℕ = c.loop-index.index in
    let next : get_or (sums before more codes) index 0 ≡ get_or (before ∷ sums before more codes) (index + 1) 0 = rw add-one refl in
    record {
      value =
          added c.loop-index.value (get_or codes index 0) more
          ∙ ap (λ v. (v + get_or codes index 0 + more) % 2 ^ 32) c.loop-index.invariant.value
          ∙ sym (sums-next before more codes index c.loop-index-test.true) ∙ next;
    }
