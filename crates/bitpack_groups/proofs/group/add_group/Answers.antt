-- One code more is joined, to those of the group or to those after it.
use Rattle.std.proofs.Common.{◌≡◌, ◌+◌, ◌-◌, ◌^◌, ◌<◌, ◌≤◌, true, ℕ, List, get_or, take, drop, length, sym, ◌∙◌, ap, arith, inl, inr}
use Rattle.std.proofs.lemmas.Bool.{cases_lt}
use Rattle.std.proofs.lemmas.List.{get_or-take, get_or-drop, length-drop, length-take-le}
use Rattle.std.proofs.lemmas.List.Elements.{All-from_get_or}
use Rattle.std.proofs.lemmas.Nat.{le_or_l, le_or_r, or_lt, pow_pos}
use Rattle.bitpack_groups.specs.Groups.{are_zeros}
use Rattle.bitpack_groups.proofs.GroupLaws.{Decides-zeros}
use Rattle.bitpack_groups.proofs.group.add_group.Goals as goal

pub loop-index-init : goal.loop-index-init
loop-index-init c = record {
  above = λ w k lt before within. absurd (omega (arith, before));
  below = λ w fits. pow_pos w;
  zeros = λ k none before past. absurd (omega (arith, before));
  later = λ none. omega arith;
}

-- A code after the group is 0 if they all are.
zero_at : (codes : List ℕ) (count i : ℕ) → count ≤ i → i < length codes → are_zeros (drop count codes) ≡ true → get_or codes i 0 ≡ 0
zero_at codes count i past within none =
    let left : List ℕ = drop count codes in
    let back : count + (i - count) ≡ i = omega arith in
    let here = (Decides-zeros left).0 none (i - count) 0 (omega (arith, length-drop count codes)) in
    ap (λ k. get_or codes k 0) (sym back) ∙ sym (get_or-drop count codes (i - count) 0) ∙ here

pub loop-index-preserved : goal.loop-index-preserved
loop-index-preserved c =
    let codes : List ℕ = c.args.codes.now in
    let count : ℕ = c.args.count in
    let i : ℕ = c.loop-index.index in
    let bits : ℕ = c.loop-index.bits in
    let later : ℕ = c.loop-index.later in
    let own : ℕ = c.if_below-own.result in
    let part : List ℕ = take count codes in
    let code : ℕ = get_or codes i 0 in
    let before = c.loop-index.invariant in
    let within : i < length codes = omega (arith, c.loop-index-test.true, c.requires.room) in
    let long : length part ≡ count = length-take-le count codes (omega (arith, c.requires.count, c.requires.room)) in
    elim (cases_lt i count) [
      | inl lt ↦
          let is : own ≡ code = c.if_below-own.ensures.below lt in
          let here : get_or part i 0 ≡ code = get_or-take count codes i 0 lt in
          record {
            above = λ w k small upto inside. elim (cases_lt k i) [
              | inl earlier ↦ before.above w k (omega (arith, small, le_or_l bits own)) earlier inside
              | inr last ↦
                  let same : k ≡ i = omega (arith, upto, last) in
                  rw same (omega (arith, small, is, le_or_r bits own))
            ];
            below = λ w fits. or_lt w bits own (before.below w fits) (omega (arith, is, here, fits i 0 (omega (arith, long, lt))));
            zeros = λ k none upto past. before.zeros k (omega (arith, none, le_or_l later (code - own))) (omega (arith, upto, past, lt)) past;
            later = λ none.
                let so_far = before.later none in
                omega (arith, or_lt 0 later (code - own) (omega (arith, so_far)) (omega (arith, is)));
          }
      | inr le ↦
          let is : own ≡ 0 = c.if_below-own.ensures.above le in
          record {
            above = λ w k small upto inside. before.above w k (omega (arith, small, le_or_l bits own)) (omega (arith, upto, inside, le)) inside;
            below = λ w fits. or_lt w bits own (before.below w fits) (omega (arith, is, pow_pos w));
            zeros = λ k none upto past. elim (cases_lt k i) [
              | inl earlier ↦ before.zeros k (omega (arith, none, le_or_l later (code - own))) earlier past
              | inr last ↦
                  let same : k ≡ i = omega (arith, upto, last) in
                  rw same (omega (arith, none, is, le_or_r later (code - own)))
            ];
            later = λ none.
                let so_far = before.later none in
                let zero = zero_at codes count i le within none in
                omega (arith, or_lt 0 later (code - own) (omega (arith, so_far)) (omega (arith, zero)));
          }
    ]

pub returns-clause-above : goal.returns-clause-above
returns-clause-above c = λ w lt.
    let codes : List ℕ = c.args.codes.now in
    let part : List ℕ = take c.args.count codes in
    let long : length part ≡ c.args.count = length-take-le c.args.count codes (omega (arith, c.requires.count, c.requires.room)) in
    All-from_get_or (λ v. v < 2 ^ w) part 0 (λ k within.
    let inside : k < c.args.count = omega (arith, within, long) in
    let here = get_or-take c.args.count codes k 0 inside in
    omega (arith, here, c.loop-index.invariant.above w k lt (omega (arith, inside, c.requires.count)) inside))

pub returns-clause-below : goal.returns-clause-below
returns-clause-below c = λ w fits. c.loop-index.invariant.below w fits

pub returns-clause-zeros : goal.returns-clause-zeros
returns-clause-zeros c = λ none.
    let codes : List ℕ = c.args.codes.now in
    let left : List ℕ = drop c.args.count codes in
    (Decides-zeros left).1 (All-from_get_or (λ v. v ≡ 0) left 0 (λ k within.
    get_or-drop c.args.count codes k 0
    ∙ c.loop-index.invariant.zeros (c.args.count + k) none (omega (arith, within, length-drop c.args.count codes, c.requires.room, c.requires.count)) (omega arith)))
