-- One byte more is read, up to the first that says that no other follows.
use Rattle.std.proofs.Common.{◌≡◌, ◌+◌, ◌-◌, ◌*◌, ◌%◌, ◌^◌, ◌<◌, ◌≤◌, suc, List, ℕ, length, drop, get_or, ap, sym, ◌∙◌, arith}
use Rattle.bitpacking.specs.Words.{joined}
use Rattle.bitpack_groups.specs.Numbers.{going_on, number_value}
use Rattle.bitpack_groups.proofs.NumberLemmas.{going-next, going-stop, joined-none, number_end-is, number_value-is, value-more}
use Rattle.bitpack_groups.proofs.NumberLaws.{IsWhole, whole_number}
use Rattle.bitpack_groups.proofs.numbers.unpack_number.Goals as goal

pub bounds-bytes-0 : goal.bounds-bytes-0
bounds-bytes-0 c = let whole = whole_number c.args.bytes.now c.requires.sound in omega (arith, whole.within)

pub loop-index-init : goal.loop-index-init
loop-index-init c =
    let bytes : List ℕ = c.args.bytes.now in
    let f : ℕ → ℕ = λ k. get_or bytes k 0 % 128 in
    let whole = whole_number bytes c.requires.sound in
    let none = joined-none f in
    let more = value-more f 0 (omega arith) (omega arith) (omega (arith, none)) in
    record {
      few = omega arith;
      within = omega (arith, whole.within);
      going = omega arith;
      value = omega (arith, none, more.1);
      below = omega arith;
    }

module _ (i : ℕ) (bytes : List ℕ) (few : i < 5) (within : i < length bytes) (more : 128 ≤ get_or bytes i 0) (whole : IsWhole bytes)
    (going : going_on 5 bytes ≡ i + going_on (5 - i) (drop i bytes)) where
  going_further : going_on 5 bytes ≡ i + 1 + going_on (5 - (i + 1)) (drop (i + 1) bytes)
  going_further =
      let e : 5 - i ≡ suc (5 - (i + 1)) = omega arith in
      omega (arith, going, ap (λ n. going_on n (drop i bytes)) e, going-next (5 - (i + 1)) i bytes within more)

  few_further : i + 1 < 5
  few_further = omega (arith, going_further, whole.few)

  within_further : i + 1 < length bytes
  within_further = omega (arith, going_further, whole.within)

  step : {value : ℕ} → value ≡ joined 7 (λ k. get_or bytes k 0 % 128) (i + 1) → value < 2 ^ (7 * (i + 1))
      → (get_or bytes (i + 1) 0 % 128 * 2 ^ (7 * (i + 1)) % 2 ^ 64 ≡ get_or bytes (i + 1) 0 % 128 * 2 ^ (7 * (i + 1)))
      × (joined 7 (λ k. get_or bytes k 0 % 128) (i + 1 + 1) ≡ value + get_or bytes (i + 1) 0 % 128 * 2 ^ (7 * (i + 1)))
      × (joined 7 (λ k. get_or bytes k 0 % 128) (i + 1 + 1) < 2 ^ (7 * (i + 1 + 1)))
      × (value + get_or bytes (i + 1) 0 % 128 * 2 ^ (7 * (i + 1)) < 2 ^ 35)
  step is below = rw is (value-more (λ k. get_or bytes k 0 % 128) (i + 1) few_further (omega arith) (rw is at below))

pub bounds-bytes-index-in-loop-index : goal.bounds-bytes-index-in-loop-index
bounds-bytes-index-in-loop-index c =
    let bytes : List ℕ = c.args.bytes.now in
    let inv = c.loop-index.invariant in
    within_further c.loop-index.index bytes inv.few inv.within c.loop-index-test.true (whole_number bytes c.requires.sound) inv.going

pub loop-index-preserved : goal.loop-index-preserved
loop-index-preserved c =
    let bytes : List ℕ = c.args.bytes.now in
    let i : ℕ = c.loop-index.index in
    let inv = c.loop-index.invariant in
    let whole = whole_number bytes c.requires.sound in
    let more = step i bytes inv.few inv.within c.loop-index-test.true whole inv.going inv.value inv.below in
    record {
      few = few_further i bytes inv.few inv.within c.loop-index-test.true whole inv.going;
      within = within_further i bytes inv.few inv.within c.loop-index-test.true whole inv.going;
      going = going_further i bytes inv.few inv.within c.loop-index-test.true whole inv.going;
      value = rw more.0 (sym more.1);
      below = rw (more.0, ← more.1) more.2;
    }

-- At the byte that says that no other follows.
ends : (i : ℕ) (bytes : List ℕ) → i < length bytes → get_or bytes i 0 < 128 → going_on 5 bytes ≡ i + going_on (5 - i) (drop i bytes) → going_on 5 bytes ≡ i
ends i bytes within last going = omega (arith, going, going-stop (5 - i) i bytes within last)

pub returns-clause-value : goal.returns-clause-value
returns-clause-value c =
    let bytes : List ℕ = c.args.bytes.now in
    let i : ℕ = c.loop-index.index in
    let inv = c.loop-index.invariant in
    inv.value ∙ sym (number_value-is i bytes (ends i bytes inv.within c.loop-index-test.false inv.going))

pub overflow_cast-result : goal.overflow_cast-result
overflow_cast-result c =
    let bytes : List ℕ = c.args.bytes.now in
    let i : ℕ = c.loop-index.index in
    let inv = c.loop-index.invariant in
    let value : c.loop-index.value ≡ number_value bytes =
    inv.value ∙ sym (number_value-is i bytes (ends i bytes inv.within c.loop-index-test.false inv.going)) in
    let whole = whole_number bytes c.requires.sound in
    omega (arith, value, whole.value)

pub returns-clause-end : goal.returns-clause-end
returns-clause-end c =
    let bytes : List ℕ = c.args.bytes.now in
    let i : ℕ = c.loop-index.index in
    let inv = c.loop-index.invariant in
    sym (number_end-is i bytes (ends i bytes inv.within c.loop-index-test.false inv.going))
