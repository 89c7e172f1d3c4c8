-- Integers, bits and parts are read where they were written.
use Rattle.std.proofs.Common.{◌≡◌, ℕ, zero, suc, ◌+◌, ◌*◌, ◌/◌, ◌%◌, ◌^◌, ◌<◌, List, ◌++◌, length, take, drop, get_or, sym, ap, ◌∙◌, arith, pow-add, pow-suc}
use Rattle.std.specs.Int.{bit_at}
use Rattle.std.proofs.lemmas.List.{drop_at, get_or-append-add, get_or-drop, get_or_append_left, take_at}
use Rattle.bitpack_groups.proofs.ForCallers.{front_is, joined_same, little_bytes, little_len}
use Rattle.bitpack_groups.specs.Numbers.{short_at}
use Rattle.bitpack_slices.proofs.ForCallers.{EachByte, bit_of_bytes, bytes_are, little_number}
use Rattle.bitpack_slices.specs.Bodies.{le_bytes}

pub little_each : (k x : ℕ) → EachByte (le_bytes k x)
little_each k x = bytes_are (le_bytes k x) (little_bytes k x)

-- as many bytes hold as many bits
pub bytes_bits : (k : ℕ) → 2 ^ (8 * k) ≡ 256 ^ k
bytes_bits zero = omega arith
bytes_bits (suc k) =
    let e : 8 * suc k ≡ 8 * k + 8 = omega arith in
    let f : 2 ^ (8 * k + 8) ≡ 2 ^ (8 * k) * 256 = pow-add 2 (8 * k) 8 in
    ap (λ (n : ℕ). 2 ^ n) e ∙ f ∙ ap (λ (n : ℕ). n * 256) (bytes_bits k) ∙ sym (pow-suc 256 k)

pub short_here : (size start m x : ℕ) (bytes front rest : List ℕ) → x < 256 ^ size → bytes ≡ front ++ (le_bytes size x ++ rest) → length front ≡ start + size * m
    → short_at size (drop start bytes) m ≡ x
unfolding short_at
short_here size start m x bytes front rest small is long =
    let from : ℕ = start + size * m in
    let there : drop from bytes ≡ le_bytes size x ++ rest = ap (drop from) is ∙ drop_at front (le_bytes size x ++ rest) from long in
    joined_same (λ i. get_or (drop start bytes) (size * m + i) 0) (λ i. get_or (drop from bytes) i 0) size (λ i.
    let e : start + (size * m + i) ≡ from + i = omega arith in
    get_or-drop start bytes (size * m + i) 0 ∙ ap (λ (n : ℕ). get_or bytes n 0) e ∙ sym (get_or-drop from bytes i 0))
    ∙ front_is size x (drop from bytes) small (ap (take size) there ∙ take_at (le_bytes size x) rest size (little_len size x))

pub part_here : (start size : ℕ) (bytes front own rest : List ℕ) → bytes ≡ front ++ (own ++ rest) → length front ≡ start → size ≡ length own → take size (drop start bytes) ≡ own
part_here start size bytes front own rest is long sized =
    ap (λ (l : List ℕ). take size (drop start l)) is ∙ ap (take size) (drop_at front (own ++ rest) start long) ∙ take_at own rest size (sym sized)

pub bit_here : (start k x m : ℕ) (bytes front rest : List ℕ) → x < 256 ^ k → m < 8 * k → bytes ≡ front ++ (le_bytes k x ++ rest) → length front ≡ start
    → bit_at (get_or bytes (start + m / 8) 0) (m % 8) ≡ bit_at x m
bit_here start k x m bytes front rest small within is long =
    let q : ℕ = m / 8 in
    let sized : length (le_bytes k x) ≡ k = little_len k x in
    let less : q < length (le_bytes k x) = omega arith in
    let place : start + q ≡ length front + q = omega arith in
    let split : 8 * q + m % 8 ≡ m = omega arith in
    let byte : get_or bytes (start + q) 0 ≡ get_or (le_bytes k x) q 0 =
    ap (λ (l : List ℕ). get_or l (start + q) 0) is ∙ ap (λ (n : ℕ). get_or (front ++ (le_bytes k x ++ rest)) n 0) place
    ∙ get_or-append-add front (le_bytes k x ++ rest) q 0 ∙ get_or_append_left (le_bytes k x) rest 0 q less in
    ap (λ (b : ℕ). bit_at b (m % 8)) byte ∙ sym (bit_of_bytes (le_bytes k x) q (m % 8) (little_each k x) less (omega arith))
    ∙ ap (λ (n : ℕ). bit_at n (8 * q + m % 8)) (little_number k x small) ∙ ap (bit_at x) split
