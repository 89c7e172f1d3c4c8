-- Parts end to end: where each of them is, and that parts of bytes are these bytes; and integers of a few bytes, as they are written and read.
use Rattle.std.proofs.Common.{◌≡◌, ℕ, zero, suc, ◌+◌, ◌-◌, ◌*◌, ◌^◌, ◌<◌, ◌≤◌, List, [], ◌∷◌, ◌++◌, take, drop, length, get_or, refl, sym, ap, ◌∙◌, arith, inl, inr, subst, append-nil, append_assoc, length-append, length-drop, take-add, take-append-drop}
use Rattle.std.specs.List.{flat_map, range_with_len}
use Rattle.std.proofs.lemmas.Bool.{cases_lt}
use Rattle.std.proofs.lemmas.List.{drop-drop, drop_at, get_or-drop, take_at}
use Rattle.std.proofs.lemmas.Nat.{mul-le}
use Rattle.bitpack_groups.proofs.ForCallers.{AreBytes-append, AreBytes-drop, AreBytes-nil, AreBytes-number_in, front_encoding, front_is, front_value, joined_same, little_len}
use Rattle.bitpack_groups.specs.Numbers.{number, short_at}
use Rattle.bitpack_groups.specs.Packed.{le_bytes}
use Rattle.bitpacking.specs.Bits.{AreBytes}

-- ---- lists in parts

pub rejoined : (start size : ℕ) (l : List ℕ) → take size (drop start l) ++ drop (start + size) l ≡ drop start l
rejoined start size l = ap (λ (r : List ℕ). take size (drop start l) ++ r) (sym (drop-drop size start l)) ∙ take-append-drop size (drop start l)

pub regrouped : (a b c d : List ℕ) → ((a ++ b) ++ c) ++ d ≡ a ++ (b ++ (c ++ d))
regrouped a b c d = append_assoc (a ++ b) c d ∙ append_assoc a b (c ++ d)

pub first_again : (l : List ℕ) → 1 ≤ length l → get_or l 0 0 ∷ drop 1 l ≡ l
first_again [] h = absurd (omega arith)
first_again (x ∷ xs) h = refl

-- ---- parts end to end

run_from : (f : ℕ → List ℕ) (a n : ℕ) → flat_map f (range_with_len a (suc n)) ≡ flat_map f (range_with_len a n) ++ f (a + n)
run_from f a zero = append-nil (f a) ∙ (let e : a ≡ a + 0 = omega arith in ap f e)
run_from f a (suc n) =
    let e : a + 1 + n ≡ a + suc n = omega arith in
    ap (λ (l : List ℕ). f a ++ l) (run_from f (a + 1) n ∙ ap (λ (k : ℕ). flat_map f (range_with_len (a + 1) n) ++ f k) e)
    ∙ sym (append_assoc (f a) (flat_map f (range_with_len (a + 1) n)) (f (a + suc n)))

-- n parts
abbrev pub run : (ℕ → List ℕ) → ℕ → List ℕ
run f n = flat_map f (range_with_len 0 n)

pub run_more : (f : ℕ → List ℕ) (n : ℕ) → run f (suc n) ≡ run f n ++ f n
run_more f n = run_from f 0 n ∙ (let e : 0 + n ≡ n = omega arith in ap (λ (k : ℕ). run f n ++ f k) e)

pub run_same : (f g : ℕ → List ℕ) (n : ℕ) → ((m : ℕ) → m < n → f m ≡ g m) → run f n ≡ run g n
run_same f g zero h = refl
run_same f g (suc n) h =
    run_more f n ∙ ap (λ (l : List ℕ). l ++ f n) (run_same f g n (λ m lt. h m (omega arith)))
    ∙ ap (λ (l : List ℕ). run g n ++ l) (h n (omega arith)) ∙ sym (run_more g n)

pub run_bytes : (f : ℕ → List ℕ) (n : ℕ) → ((m : ℕ) → m < n → AreBytes (f m)) → AreBytes (run f n)
run_bytes f zero h = AreBytes-nil
run_bytes f (suc n) h = subst AreBytes (sym (run_more f n)) (AreBytes-append (run f n) (f n) (run_bytes f n (λ m lt. h m (omega arith))) (h n (omega arith)))

-- part m begins here, where the parts have these lengths
pub record Ends (f : ℕ → List ℕ) (at : ℕ → ℕ) (n : ℕ) : Type 0 where
  pub first : at 0 ≡ 0
  pub next : (m : ℕ) → m < n → at (suc m) ≡ at m + length (f m)

pub ends_fewer : (f : ℕ → List ℕ) (at : ℕ → ℕ) (n : ℕ) → Ends f at (suc n) → Ends f at n
ends_fewer f at n ends = record { first = ends.first; next = λ m lt. ends.next m (omega arith) }

pub run_len : (f : ℕ → List ℕ) (at : ℕ → ℕ) (n : ℕ) → Ends f at n → length (run f n) ≡ at n
run_len f at zero ends = sym ends.first
run_len f at (suc n) ends =
    ap length (run_more f n) ∙ length-append (run f n) (f n) ∙ ap (λ (k : ℕ). k + length (f n)) (run_len f at n (ends_fewer f at n ends))
    ∙ sym (ends.next n (omega arith))

pub run_end : (f : ℕ → List ℕ) (at : ℕ → ℕ) (n : ℕ) (rest : List ℕ) → Ends f at n → drop (at n) (run f n ++ rest) ≡ rest
run_end f at n rest ends = drop_at (run f n) rest (at n) (run_len f at n ends)

pub run_part : (f : ℕ → List ℕ) (at : ℕ → ℕ) (n m : ℕ) (rest : List ℕ) → Ends f at n → m < n → take (length (f m)) (drop (at m) (run f n ++ rest)) ≡ f m
run_part f at zero m rest ends lt = absurd (omega arith)
run_part f at (suc n) m rest ends lt =
    let whole : run f (suc n) ++ rest ≡ run f n ++ (f n ++ rest) = ap (λ (l : List ℕ). l ++ rest) (run_more f n) ∙ append_assoc (run f n) (f n) rest in
    ap (λ (l : List ℕ). take (length (f m)) (drop (at m) l)) whole
    ∙ (elim (cases_lt m n) [
      | inl less ↦ run_part f at n m (f n ++ rest) (ends_fewer f at n ends) less
      | inr more ↦
          let same : m ≡ n = omega arith in
          ap (λ (k : ℕ). take (length (f k)) (drop (at k) (run f n ++ (f n ++ rest)))) same
          ∙ ap (take (length (f n))) (run_end f at n (f n ++ rest) (ends_fewer f at n ends)) ∙ take_at (f n) rest (length (f n)) refl ∙ ap f (sym same)
    ])

-- parts of bytes are these bytes
pub run_taken : (f : ℕ → List ℕ) (at : ℕ → ℕ) (start n : ℕ) (bytes : List ℕ) → at 0 ≡ 0 → ((m : ℕ) → m < n → at m ≤ at (suc m))
    → ((m : ℕ) → m < n → f m ≡ take (at (suc m) - at m) (drop (start + at m) bytes)) → run f n ≡ take (at n) (drop start bytes)
run_taken f at start zero bytes first up parts = ap (λ (k : ℕ). take k (drop start bytes)) (sym first)
run_taken f at start (suc n) bytes first up parts =
    let le : at n ≤ at (suc n) = up n (omega arith) in
    let sum : at n + (at (suc n) - at n) ≡ at (suc n) = omega arith in
    run_more f n ∙ ap (λ (l : List ℕ). l ++ f n) (run_taken f at start n bytes first (λ m lt. up m (omega arith)) (λ m lt. parts m (omega arith)))
    ∙ ap (λ (l : List ℕ). take (at n) (drop start bytes) ++ l) (parts n (omega arith) ∙ ap (take (at (suc n) - at n)) (sym (drop-drop (at n) start bytes)))
    ∙ sym (take-add (at n) (at (suc n) - at n) (drop start bytes)) ∙ ap (λ (k : ℕ). take k (drop start bytes)) sum

-- ---- integers of a few bytes

pub short_front : (size m : ℕ) (bytes : List ℕ) → short_at size bytes m ≡ front_value size (drop (size * m) bytes)
unfolding short_at
short_front size m bytes = joined_same (λ i. get_or bytes (size * m + i) 0) (λ i. get_or (drop (size * m) bytes) i 0) size (λ i. sym (get_or-drop (size * m) bytes i 0))

-- a number is bytes
pub number_bytes : (x : ℕ) → AreBytes (number x)
number_bytes x = AreBytes-number_in 5 x

product_next : (size m : ℕ) → size * suc m ≡ size * m + size
product_next size m = grind arith

-- integers of one size begin here
pub little_ends : (size : ℕ) (f : ℕ → ℕ) (n : ℕ) → Ends (λ m. le_bytes size (f m)) (λ m. size * m) n
little_ends size f n = record {
  first = omega arith;
  next = λ m lt. product_next size m ∙ ap (λ (k : ℕ). size * m + k) (sym (little_len size (f m)));
}

-- integers that were written are read
pub shorts_read : (size : ℕ) (f : ℕ → ℕ) (n m : ℕ) (rest : List ℕ) → m < n → f m < 256 ^ size → short_at size (run (λ i. le_bytes size (f i)) n ++ rest) m ≡ f m
shorts_read size f n m rest lt small =
    let bytes : List ℕ = run (λ i. le_bytes size (f i)) n ++ rest in
    let part : take size (drop (size * m) bytes) ≡ le_bytes size (f m) =
    ap (λ (k : ℕ). take k (drop (size * m) bytes)) (sym (little_len size (f m))) ∙ run_part (λ i. le_bytes size (f i)) (λ i. size * i) n m rest (little_ends size f n) lt in
    short_front size m bytes ∙ front_is size (f m) (drop (size * m) bytes) small part

-- integers that are read are these bytes
pub shorts_encoding : (size start n : ℕ) (bytes : List ℕ) → AreBytes bytes → start + size * n ≤ length bytes
    → run (λ m. le_bytes size (short_at size (drop start bytes) m)) n ≡ take (size * n) (drop start bytes)
shorts_encoding size start n bytes are room =
    run_taken (λ m. le_bytes size (short_at size (drop start bytes) m)) (λ m. size * m) start n bytes (omega arith) (λ m lt. omega (arith, product_next size m)) (λ m lt.
    let within : start + size * m + size ≤ length bytes = omega (arith, product_next size m, mul-le size (suc m) size n (omega arith) (omega arith)) in
    let here : drop (size * m) (drop start bytes) ≡ drop (start + size * m) bytes = drop-drop (size * m) start bytes in
    let one : size ≡ size * suc m - size * m = omega (arith, product_next size m) in
    ap (le_bytes size) (short_front size m (drop start bytes) ∙ ap (front_value size) here)
    ∙ front_encoding size (drop (start + size * m) bytes) (AreBytes-drop (start + size * m) bytes are) (omega (arith, length-drop (start + size * m) bytes))
    ∙ ap (λ (k : ℕ). take k (drop (start + size * m) bytes)) one)
