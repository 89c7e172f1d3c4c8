-- One byte more is read, and the tests in their order find the first fault.
use Rattle.std.proofs.Common.{◌≡◌, ◌+◌, ◌-◌, ◌%◌, ◌<◌, suc, List, ℕ, length, drop, get_or, ap, sym, ◌∙◌, inl, inr, arith}
use Rattle.bitpack_groups.specs.Numbers.{going_on}
use Rattle.bitpack_groups.proofs.NumberLemmas.{going-past, going-next, value-more, number_end-is, endless, cut_off, zero_last, too_large, no_fault, joined-none, nothing_left, going-here, value-here}
use Rattle.bitpack_groups.proofs.numbers.test_number.Goals as goal

pub loop-index-init : goal.loop-index-init
loop-index-init c = record { within = omega arith; going = omega arith; value = sym (joined-none (λ i. get_or c.args.bytes.now i 0 % 128)); below = omega arith }

pub returns-then-index-bytes-clause-fault : goal.returns-then-index-bytes-clause-fault
returns-then-index-bytes-clause-fault c =
    let bytes : List ℕ = c.args.bytes.now in
    let i : ℕ = c.loop-index.index in
    let stop = going-past (5 - i) i bytes (omega arith) in
    cut_off i bytes (omega (arith, c.loop-index.invariant.going, stop)) c.loop-index-test.true (omega arith)

pub returns-then-index-gt0-clause-fault : goal.returns-then-index-gt0-clause-fault
returns-then-index-gt0-clause-fault c =
    let bytes : List ℕ = c.args.bytes.now in
    let i : ℕ = c.loop-index.index in
    let inv = c.loop-index.invariant in
    let within : i < length bytes = omega arith in
    let here = going-here i c.loop-index.value bytes c.loop-index-test.true within c.if-byte-lt128.true inv.going inv.value inv.below in
    zero_last i bytes here c.loop-index-test.true within c.if-index-gt0.true c.if-byte-eq0.true

pub returns-then-value-clause-fault : goal.returns-then-value-clause-fault
returns-then-value-clause-fault c =
    let bytes : List ℕ = c.args.bytes.now in
    let i : ℕ = c.loop-index.index in
    let inv = c.loop-index.invariant in
    let within : i < length bytes = omega arith in
    let here = going-here i c.loop-index.value bytes c.loop-index-test.true within c.if-byte-lt128.true inv.going inv.value inv.below in
    let value = value-here i c.loop-index.value bytes c.loop-index-test.true within c.if-byte-lt128.true inv.going inv.value inv.below in
    too_large i bytes here c.loop-index-test.true within (omega (arith, value))

pub returns-then-byte-lt128-clause-fault : goal.returns-then-byte-lt128-clause-fault
returns-then-byte-lt128-clause-fault c =
    let bytes : List ℕ = c.args.bytes.now in
    let i : ℕ = c.loop-index.index in
    let inv = c.loop-index.invariant in
    let within : i < length bytes = omega arith in
    let here = going-here i c.loop-index.value bytes c.loop-index-test.true within c.if-byte-lt128.true inv.going inv.value inv.below in
    let value = value-here i c.loop-index.value bytes c.loop-index-test.true within c.if-byte-lt128.true inv.going inv.value inv.below in
    no_fault i bytes here c.loop-index-test.true within (λ none. elim c.else-byte-eq0.either [ inl first ↦ omega (arith, first.1) | inr some ↦ absurd (some none) ])
    (omega (arith, value))

pub returns-then-byte-lt128-clause-value : goal.returns-then-byte-lt128-clause-value
returns-then-byte-lt128-clause-value c =
    let bytes : List ℕ = c.args.bytes.now in
    let i : ℕ = c.loop-index.index in
    let inv = c.loop-index.invariant in
    value-here i c.loop-index.value bytes c.loop-index-test.true (omega arith) c.if-byte-lt128.true inv.going inv.value inv.below

pub returns-then-byte-lt128-clause-end : goal.returns-then-byte-lt128-clause-end
returns-then-byte-lt128-clause-end c =
    let bytes : List ℕ = c.args.bytes.now in
    let i : ℕ = c.loop-index.index in
    let inv = c.loop-index.invariant in
    let within : i < length bytes = omega arith in
    sym (number_end-is i bytes (going-here i c.loop-index.value bytes c.loop-index-test.true within c.if-byte-lt128.true inv.going inv.value inv.below))

pub loop-index-preserved : goal.loop-index-preserved
loop-index-preserved c =
    let bytes : List ℕ = c.args.bytes.now in
    let i : ℕ = c.loop-index.index in
    let f : ℕ → ℕ = λ k. get_or bytes k 0 % 128 in
    let lt : i < 5 = c.loop-index-test.true in
    let e : 5 - i ≡ suc (5 - (i + 1)) = omega arith in
    let next = going-next (5 - (i + 1)) i bytes (omega arith) c.if-byte-lt128.false in
    let more = value-more f i lt (omega arith) (rw (← c.loop-index.invariant.value) c.loop-index.invariant.below) in
    record {
      within = omega arith;
      going = omega (arith, c.loop-index.invariant.going, ap (λ n. going_on n (drop i bytes)) e, next);
      value = rw (more.0, c.loop-index.invariant.value) (sym more.1);
      below = rw (more.0, c.loop-index.invariant.value, ← more.1) more.2;
    }

pub returns-clause-fault : goal.returns-clause-fault
returns-clause-fault c =
    let i : ℕ = c.loop-index.index in
    let bytes : List ℕ = c.args.bytes.now in
    let zero : 5 - i ≡ 0 = omega arith in
    let none : going_on (5 - i) (drop i bytes) ≡ 0 = ap (λ n. going_on n (drop i bytes)) zero ∙ nothing_left (drop i bytes) in
    endless i c.args.bytes.now (omega (arith, c.loop-index.invariant.going, none)) (omega arith)
