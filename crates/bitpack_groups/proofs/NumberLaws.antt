-- Bytes without a fault begin with the number that is read from them, and the other way round.
use Rattle.std.proofs.Common.{◌≡◌, ℕ, zero, suc, ◌+◌, ◌*◌, ◌/◌, ◌%◌, ◌^◌, ◌<◌, ◌≤◌, None, false, ltb, ◌&&◌, List, [], ◌∷◌, ◌++◌, length, take, get_or, refl, sym, ◌∙◌, ap, arith, add-one, inl, inr}
use Rattle.std.specs.Prelude.{◌==◌}
use Rattle.std.proofs.lemmas.Bool.{lt-ltb, le-ltb, eqb-false, leb-false, cases_lt, ltb-false}
use Rattle.std.proofs.lemmas.Nat.{pow_pos, mul-le}
use Rattle.std.proofs.lemmas.List.{length-append}
use Rattle.bitpacking.specs.Bits.{AreBytes}
use Rattle.bitpacking.specs.Words.{joined}
use Rattle.bitpack_groups.specs.Laws.{OneNumber, NumberReadsBack}
use Rattle.bitpack_groups.specs.Numbers.{number_in, number, going_on, number_end, number_value, number_fault}
use Rattle.bitpack_groups.proofs.FaultLemmas.{passed}
use Rattle.bitpack_groups.proofs.NumberLemmas.{joined-none, length-number_in, no_fault, number-small, number_end-is, number_in-large, number_in-small, number_value-is, pow-seven}

-- the seven bits of each byte
abbrev pub low : List ℕ → ℕ → ℕ
low bytes i = get_or bytes i 0 % 128

-- The first seven bits apart from the others.
joined-first : (f : ℕ → ℕ) (n : ℕ) → joined 7 f (suc n) ≡ f 0 + 128 * joined 7 (λ i. f (suc i)) n
unfolding joined
joined-first f zero = omega arith
joined-first f (suc n) = rw (joined-first f n, pow-seven n) (omega arith)

-- Some of seven bits that are not 0 make the number not 0.
joined-some : (f : ℕ → ℕ) (n : ℕ) → 0 < f n → 0 < joined 7 f (suc n)
unfolding joined
joined-some f n some = omega (arith, mul-le 1 1 (f n) (2 ^ (7 * n)) some (pow_pos (7 * n)))

-- The byte after those that say that another follows does not.
going-ends : (most : ℕ) (bytes : List ℕ) → going_on most bytes < most → going_on most bytes < length bytes → get_or bytes (going_on most bytes) 0 < 128
unfolding going_on
going-ends zero bytes few within = absurd (omega arith)
going-ends (suc most) [] few within = absurd (omega arith)
going-ends (suc most) (byte ∷ bytes) few within =
    elim (cases_lt byte 128) [
      | inl small ↦ rw (lt-ltb byte 128 small) small
      | inr large ↦
          let few' : suc (going_on most bytes) < suc most = rw (le-ltb byte 128 large) at few in
          let within' : suc (going_on most bytes) < suc (length bytes) = rw (le-ltb byte 128 large) at within in
          rw (le-ltb byte 128 large) (going-ends most bytes (omega arith) (omega arith))
    ]

going-small : (most byte : ℕ) (bytes : List ℕ) → byte < 128 → going_on (suc most) (byte ∷ bytes) ≡ 0
unfolding going_on
going-small most byte bytes lt = rw (lt-ltb byte 128 lt) refl

going-large : (most byte : ℕ) (bytes : List ℕ) → 128 ≤ byte → going_on (suc most) (byte ∷ bytes) ≡ suc (going_on most bytes)
unfolding going_on
going-large most byte bytes le = rw (le-ltb byte 128 le) refl

-- One byte says that no other follows.
read-one : (most byte : ℕ) (bytes : List ℕ) → byte < 128 → take 1 (byte ∷ bytes) ≡ number_in (suc most) (joined 7 (low (byte ∷ bytes)) 1)
read-one most byte bytes less =
    let none = joined-none (λ i. low (byte ∷ bytes) (suc i)) in
    let value : joined 7 (low (byte ∷ bytes)) 1 ≡ byte = omega (arith, joined-first (low (byte ∷ bytes)) 0, none) in
    rw value (sym (number_in-small most byte less))

-- ---- bytes are those of the number that is read from them
pub read-is : (most k : ℕ) (bytes : List ℕ) → AreBytes bytes → going_on (suc most) bytes ≡ k → k ≤ most → k < length bytes
    → (0 < k → 0 < get_or bytes k 0) → take (suc k) bytes ≡ number_in (suc most) (joined 7 (low bytes) (suc k))
read-is most k [] small going few within last = absurd (omega arith)
read-is zero k (byte ∷ bytes) small going few within last =
    elim (cases_lt byte 128) [
      | inl less ↦
          let first : k ≡ 0 = omega arith in
          rw first (read-one 0 byte bytes less)
      | inr more ↦ absurd (omega (arith, going-large 0 byte bytes more))
    ]
read-is (suc most) k (byte ∷ bytes) small going few within last =
    elim (cases_lt byte 128) [
      | inl less ↦
          let first : k ≡ 0 = omega (arith, going-small (suc most) byte bytes less) in
          rw first (read-one (suc most) byte bytes less)
      | inr more ↦
          let j : ℕ = going_on (suc most) bytes in
          let next : k ≡ suc j = omega (arith, going-large (suc most) byte bytes more) in
          let last' : 0 < get_or bytes j 0 = rw next at (last (omega arith)) in
          let few' : j ≤ most = omega arith in
          let within' : j < length bytes = omega arith in
          let rest : ℕ = joined 7 (low bytes) (suc j) in
          let same : take (suc j) bytes ≡ number_in (suc most) rest = read-is most j bytes (λ i. small (suc i)) refl few' within' (λ _. last') in
          let ends : get_or bytes j 0 < 128 = going-ends (suc most) bytes (omega arith) within' in
          let some : 0 < rest = joined-some (low bytes) j (omega arith) in
          let x : ℕ = joined 7 (low (byte ∷ bytes)) (suc (suc j)) in
          let value : x ≡ byte % 128 + 128 * rest = joined-first (low (byte ∷ bytes)) (suc j) in
          let below : byte < 256 = small 0 in
          let large = number_in-large (suc most) x (omega arith) in
          let front : x % 128 + 128 ≡ byte = omega arith in
          let others : x / 128 ≡ rest = omega arith in
          rw next (sym (large ∙ ap (λ b. b ∷ number_in (suc most) (x / 128)) front ∙ ap (λ n. byte ∷ number_in (suc most) n) others ∙ ap (λ zs. byte ∷ zs) (sym same)))
    ]

-- ---- a number is read from its bytes
pub record Reads (most x : ℕ) (bytes rest : List ℕ) : Type 0 where
  pub going : suc (going_on (suc most) (bytes ++ rest)) ≡ length bytes
  pub value : joined 7 (low (bytes ++ rest)) (length bytes) ≡ x
  pub last : 0 < x → 0 < get_or (bytes ++ rest) (going_on (suc most) (bytes ++ rest)) 0

reads-one : (most x : ℕ) (rest : List ℕ) → x < 128 → Reads most x (x ∷ []) rest
reads-one most x rest less =
    let stop = going-small most x rest less in
    record {
      going = omega (arith, stop);
      value = omega (arith, joined-first (low (x ∷ rest)) 0, joined-none (λ i. low (x ∷ rest) (suc i)));
      last = λ some. rw stop some;
    }

pub reads-back : (most x : ℕ) (rest : List ℕ) → x < 2 ^ (7 * suc most) → Reads most x (number_in (suc most) x) rest
reads-back zero x rest lt = let less : x < 128 = omega (arith, lt) in rw (number_in-small 0 x less) (reads-one 0 x rest less)
reads-back (suc most) x rest lt =
    elim (cases_lt x 128) [
      | inl less ↦ rw (number_in-small (suc most) x less) (reads-one (suc most) x rest less)
      | inr more ↦
          let p = pow-seven (suc most) in
          let below : x < 128 * 2 ^ (7 * suc most) = rw (← p) lt in
          let others : List ℕ = number_in (suc most) (x / 128) in
          let byte : ℕ = x % 128 + 128 in
          let tail = reads-back most (x / 128) rest (omega arith) in
          let on = going-large (suc most) byte (others ++ rest) (omega arith) in
          let value = joined-first (low (byte ∷ (others ++ rest))) (length others) in
          rw (number_in-large (suc most) x more)
          record {
            going = omega (arith, on, tail.going);
            value = omega (arith, value, tail.value);
            last = λ some. rw on (tail.last (omega arith));
          }
    ]

-- ---- the laws
pub going_on-le : (most : ℕ) (bytes : List ℕ) → going_on most bytes ≤ most
unfolding going_on
going_on-le zero bytes = omega arith
going_on-le (suc most) [] = omega arith
going_on-le (suc most) (byte ∷ bytes) =
    elim (cases_lt byte 128) [
      | inl less ↦ rw (lt-ltb byte 128 less) (omega arith)
      | inr more ↦ rw (le-ltb byte 128 more) (omega (arith, going_on-le most bytes))
    ]

last_some : (i byte : ℕ) → 0 < i → (byte == 0 && ltb 0 i) ≡ false → 0 < byte
last_some i zero some e = absurd (omega (arith, ltb-false 0 i e))
last_some i (suc byte) some e = omega arith

pub number_reads_back : NumberReadsBack
number_reads_back x rest lt =
    let reads = reads-back 4 x rest (omega arith) in
    let bytes : List ℕ = number x ++ rest in
    let i : ℕ = going_on 5 bytes in
    let few : length (number x) ≤ 5 = length-number_in 5 x in
    let end : i + 1 ≡ length (number x) = omega (arith, reads.going) in
    let value : number_value bytes ≡ x = number_value-is i bytes refl ∙ ap (joined 7 (low bytes)) end ∙ reads.value in
    let within : i < length bytes = omega (arith, length-append (number x) rest) in (
      no_fault i bytes refl (omega arith) within (λ none.
          elim (cases_lt 0 x) [
            | inl some ↦ absurd (omega (arith, reads.last some))
            | inr none_left ↦ omega (arith, reads.going, ap length (number-small x (omega arith)))
          ]) (omega arith),
      value,
      number_end-is i bytes refl ∙ end,
    )

-- Bytes without a fault have the whole number, and no 0 at its end.
pub record IsWhole (bytes : List ℕ) : Type 0 where
  pub few : going_on 5 bytes < 5
  pub within : going_on 5 bytes < length bytes
  pub last : (get_or bytes (going_on 5 bytes) 0 == 0 && ltb 0 (going_on 5 bytes)) ≡ false
  pub value : number_value bytes < 2 ^ 32

pub whole_number : (bytes : List ℕ) → number_fault bytes ≡ None → IsWhole bytes
unfolding number_fault
whole_number bytes none =
    let i : ℕ = going_on 5 bytes in
    let one = passed _ _ _ none in
    let two = passed _ _ _ one.1 in
    let three = passed _ _ _ two.1 in
    let four = passed _ _ _ three.1 in
    let not_five : i ≡ 5 → ⊥ = eqb-false i 5 one.0 in
    let most : i ≤ 5 = going_on-le 5 bytes in
    record {
      few = omega (arith, not_five);
      within = leb-false (length bytes) i two.0;
      last = three.0;
      value = leb-false (2 ^ 32) (number_value bytes) four.0;
    }

pub one_number : OneNumber
one_number bytes small none =
    let i : ℕ = going_on 5 bytes in
    let whole = whole_number bytes none in
    let few : i < 5 = whole.few in
    let end : number_end bytes ≡ suc i = number_end-is i bytes refl ∙ add-one i in
    let is : number_value bytes ≡ joined 7 (low bytes) (suc i) = number_value-is i bytes refl ∙ ap (joined 7 (low bytes)) (add-one i) in
    let same = read-is 4 i bytes small refl (omega (arith, few)) whole.within (λ some. last_some i (get_or bytes i 0) some whole.last) in (
      whole.value,
      rw (end, is) same,
      λ other rest lt e.
          let back = number_reads_back other rest lt in
          sym (ap number_value e ∙ back.1),
    )
