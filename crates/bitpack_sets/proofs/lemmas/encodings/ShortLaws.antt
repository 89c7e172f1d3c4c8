-- Integers of a few bytes each, end to end; and running sums, whose differences are taken again.
use Rattle.std.proofs.Common.{◌≡◌, ℕ, zero, suc, ◌+◌, ◌-◌, ◌*◌, ◌^◌, ◌<◌, ◌≤◌, List, [], ◌∷◌, ◌++◌, map, take, drop, length, get_or, slice_index, refl, sym, ap, ◌∙◌, arith, length-append, length-drop, add-one, append_assoc, pow-add, pow-suc, take-add, mul-suc}
use Rattle.std.specs.List.{concat, flat_map, range_with_len}
use Rattle.std.proofs.lemmas.List.{drop-drop, drop_at, get_or-drop, take_at, length-take-le}
use Rattle.bitpack_groups.proofs.ForCallers.{little_len}
use Rattle.bitpacking.specs.Words.{joined}
use Rattle.bitpack_slices.proofs.ForCallers.{Below, EachByte, bytes_dropped, bytes_taken, number_little, ring, total}
use Rattle.bitpack_slices.proofs.ForCallers.{little_number}
use Rattle.bitpack_sets.specs.Directory.{before}
use Rattle.bitpack_slices.specs.Bodies.{le_bytes}
use Rattle.bitpack_sets.specs.Sets.{sums}
use Rattle.bitpack_slices.specs.Slices.{number_of}
use Rattle.bitpack_sets.specs.Varints.{short_at}

-- ---- maps of ranges

pub map_same : {T : Type 0} (f g : ℕ → T) (m k : ℕ) → ((i : ℕ) → m ≤ i → i < m + k → f i ≡ g i) → map f (range_with_len m k) ≡ map g (range_with_len m k)
map_same f g m zero h = refl
map_same f g m (suc k) h =
    ap (λ (x : _). x ∷ map f (range_with_len (m + 1) k)) (h m (omega arith) (omega arith))
    ∙ ap (λ (l : _). g m ∷ l) (map_same f g (m + 1) k (λ i lo hi. h i (omega arith) (omega arith)))

pub map_map : {T U : Type 0} (f : T → U) (g : ℕ → T) (m k : ℕ) → map f (map g (range_with_len m k)) ≡ map (λ i. f (g i)) (range_with_len m k)
map_map f g m zero = refl
map_map f g m (suc k) = ap (λ (l : _). f (g m) ∷ l) (map_map f g (m + 1) k)

pub before_next : (f : ℕ → ℕ) (m : ℕ) → before f (m + 1) ≡ f m
before_next f m = ap (before f) (add-one m)

-- ---- integers

pub digit : (k : ℕ) → 2 ^ (8 * k) ≡ 256 ^ k
digit zero = refl
digit (suc k) =
    let e : 8 * suc k ≡ 8 * k + 8 = omega arith in
    ap (λ (n : ℕ). 2 ^ n) e ∙ pow-add 2 (8 * k) 8 ∙ ap (λ (n : ℕ). n * 256) (digit k) ∙ sym (pow-suc 256 k)

-- one byte more above
number_more : (k : ℕ) (bytes : List ℕ) → k < length bytes → number_of (take (suc k) bytes) ≡ get_or bytes k 0 * 256 ^ k + number_of (take k bytes)
unfolding number_of
number_more zero (byte ∷ bytes) h = omega arith
number_more (suc k) (byte ∷ bytes) h =
    let ih : number_of (take (suc k) bytes) ≡ get_or bytes k 0 * 256 ^ k + number_of (take k bytes) = number_more k bytes (omega arith) in
    ap (λ (n : ℕ). byte + 256 * n) ih ∙ ring byte (get_or bytes k 0) (256 ^ k) (number_of (take k bytes))
    ∙ ap (λ (n : ℕ). get_or bytes k 0 * n + (byte + 256 * number_of (take k bytes))) (sym (pow-suc 256 k))
number_more k [] h = absurd (omega arith)

number_joined : (k from : ℕ) (bytes : List ℕ) → from + k ≤ length bytes → joined 8 (λ i. slice_index bytes (from + i)) k ≡ number_of (take k (drop from bytes))
unfolding joined number_of
number_joined zero from bytes h = refl
number_joined (suc k) from bytes h =
    let ih : joined 8 (λ i. slice_index bytes (from + i)) k ≡ number_of (take k (drop from bytes)) = number_joined k from bytes (omega arith) in
    let more : number_of (take (suc k) (drop from bytes)) ≡ get_or (drop from bytes) k 0 * 256 ^ k + number_of (take k (drop from bytes)) =
    number_more k (drop from bytes) (omega (arith, length-drop from bytes)) in
    ap (λ (n : ℕ). slice_index bytes (from + k) * 2 ^ (8 * k) + n) ih
    ∙ ap (λ (n : ℕ). slice_index bytes (from + k) * n + number_of (take k (drop from bytes))) (digit k)
    ∙ ap (λ (n : ℕ). n * 256 ^ k + number_of (take k (drop from bytes))) (sym (get_or-drop from bytes k 0)) ∙ sym more

-- integer m is the number of its bytes
pub short_is : (size m : ℕ) (bytes : List ℕ) → size * m + size ≤ length bytes → short_at size bytes m ≡ number_of (take size (drop (size * m) bytes))
unfolding short_at
short_is size m bytes h = number_joined size (size * m) bytes h

pub short_bytes : (size m : ℕ) (bytes : List ℕ) → EachByte bytes → size * m + size ≤ length bytes → le_bytes size (short_at size bytes m) ≡ take size (drop (size * m) bytes)
short_bytes size m bytes are h =
    let part : List ℕ = take size (drop (size * m) bytes) in
    let long : length part ≡ size = length-take-le size (drop (size * m) bytes) (omega (arith, length-drop (size * m) bytes)) in
    let back : le_bytes (length part) (number_of part) ≡ part = number_little part (bytes_taken size (drop (size * m) bytes) (bytes_dropped (size * m) bytes are)) in
    ap (le_bytes size) (short_is size m bytes h) ∙ ap (λ (n : ℕ). le_bytes n (number_of part)) (sym long) ∙ back

-- the integers that are read stand there
pub shorts_back : (size m k : ℕ) (bytes : List ℕ) → EachByte bytes → size * m + size * k ≤ length bytes
    → flat_map (le_bytes size) (map (short_at size bytes) (range_with_len m k)) ≡ take (size * k) (drop (size * m) bytes)
shorts_back size m zero bytes are h =
    let none : 0 ≡ size * 0 = omega arith in
    ap (λ (n : ℕ). take n (drop (size * m) bytes)) none
shorts_back size m (suc k) bytes are h =
    let grown : size * suc k ≡ size + size * k = mul-suc size k ∙ omega arith in
    let moved : size * (m + 1) ≡ size * m + size = grind arith in
    let first : le_bytes size (short_at size bytes m) ≡ take size (drop (size * m) bytes) = short_bytes size m bytes are (omega arith) in
    let later : flat_map (le_bytes size) (map (short_at size bytes) (range_with_len (m + 1) k)) ≡ take (size * k) (drop (size * (m + 1)) bytes) =
    shorts_back size (m + 1) k bytes are (omega arith) in
    let skip : drop (size * (m + 1)) bytes ≡ drop size (drop (size * m) bytes) = ap (λ (n : ℕ). drop n bytes) moved ∙ sym (drop-drop size (size * m) bytes) in
    ap (λ (l : List ℕ). l ++ flat_map (le_bytes size) (map (short_at size bytes) (range_with_len (m + 1) k))) first
    ∙ ap (λ (l : List ℕ). take size (drop (size * m) bytes) ++ l) (later ∙ ap (take (size * k)) skip)
    ∙ sym (take-add size (size * k) (drop (size * m) bytes)) ∙ ap (λ (n : ℕ). take n (drop (size * m) bytes)) (sym grown)

-- integers that were written are read
pub short_written : (size m : ℕ) (xs rest : List ℕ) → Below (256 ^ size) xs → m < length xs → short_at size (flat_map (le_bytes size) xs ++ rest) m ≡ get_or xs m 0
short_written size m xs rest below h =
    let (room, part) = written size m xs rest h in
    short_is size m (flat_map (le_bytes size) xs ++ rest) room ∙ ap number_of part ∙ little_number size (get_or xs m 0) (is_below size m xs below h)
  where
    is_below : (size m : ℕ) (xs : List ℕ) → Below (256 ^ size) xs → m < length xs → get_or xs m 0 < 256 ^ size
    is_below size m [] below h = absurd (omega arith)
    is_below size zero (x ∷ xs) (a, below) h = a
    is_below size (suc m) (x ∷ xs) (a, below) h = is_below size m xs below (omega arith)

    written : (size m : ℕ) (xs rest : List ℕ) → m < length xs
        → (size * m + size ≤ length (flat_map (le_bytes size) xs ++ rest)) × (take size (drop (size * m) (flat_map (le_bytes size) xs ++ rest)) ≡ le_bytes size (get_or xs m 0))
    written size m [] rest h = absurd (omega arith)
    written size zero (x ∷ xs) rest h =
        let none : size * 0 ≡ 0 = omega arith in
        let all : (le_bytes size x ++ flat_map (le_bytes size) xs) ++ rest ≡ le_bytes size x ++ (flat_map (le_bytes size) xs ++ rest) = append_assoc (le_bytes size x) (flat_map (le_bytes size) xs) rest in
        let long = little_len size x in
        let both = length-append (le_bytes size x) (flat_map (le_bytes size) xs ++ rest) in
        let same = ap length all in (
          omega arith,
          ap (λ (n : ℕ). take size (drop n ((le_bytes size x ++ flat_map (le_bytes size) xs) ++ rest))) none ∙ ap (take size) all
              ∙ take_at (le_bytes size x) (flat_map (le_bytes size) xs ++ rest) size long,
        )
    written size (suc m) (x ∷ xs) rest h =
        let (room, part) = written size m xs rest (omega arith) in
        let all : (le_bytes size x ++ flat_map (le_bytes size) xs) ++ rest ≡ le_bytes size x ++ (flat_map (le_bytes size) xs ++ rest) = append_assoc (le_bytes size x) (flat_map (le_bytes size) xs) rest in
        let long = little_len size x in
        let both = length-append (le_bytes size x) (flat_map (le_bytes size) xs ++ rest) in
        let same = ap length all in
        let grown : size * suc m ≡ size + size * m = mul-suc size m ∙ omega arith in
        let skip : drop (size + size * m) (le_bytes size x ++ (flat_map (le_bytes size) xs ++ rest)) ≡ drop (size * m) (flat_map (le_bytes size) xs ++ rest) =
        sym (drop-drop (size * m) size (le_bytes size x ++ (flat_map (le_bytes size) xs ++ rest))) ∙ ap (drop (size * m)) (drop_at (le_bytes size x) (flat_map (le_bytes size) xs ++ rest) size long) in (
          omega arith,
          ap (λ (n : ℕ). take size (drop n ((le_bytes size x ++ flat_map (le_bytes size) xs) ++ rest))) grown ∙ ap (λ (l : List ℕ). take size (drop (size + size * m) l)) all
              ∙ ap (take size) skip ∙ part,
        )

-- ---- running sums

-- numbers that do not fall, of so many from m on
abbrev pub Grows : (ℕ → ℕ) → ℕ → ℕ → Type 0
Grows f m k = (i : ℕ) → m ≤ i → i < m + k → before f i ≤ f i

pub grows_later : (f : ℕ → ℕ) (m k : ℕ) → Grows f m (suc k) → Grows f (m + 1) k
grows_later f m k h i lo hi = h i (omega arith) (omega arith)

abbrev pub step_of : (ℕ → ℕ) → ℕ → ℕ
step_of f i = f i - before f i

pub steps_summed : (f : ℕ → ℕ) (m k : ℕ) → Grows f m k → sums (before f m) (map (step_of f) (range_with_len m k)) ≡ map f (range_with_len m k)
unfolding sums
steps_summed f m zero h = refl
steps_summed f m (suc k) h =
    let up : before f m ≤ f m = h m (omega arith) (omega arith) in
    let here : before f m + (f m - before f m) ≡ f m = omega arith in
    let next = before_next f m in
    ap (λ (n : ℕ). n ∷ sums n (map (step_of f) (range_with_len (m + 1) k))) here
    ∙ ap (λ (n : ℕ). f m ∷ sums n (map (step_of f) (range_with_len (m + 1) k))) (sym next)
    ∙ ap (λ (l : List ℕ). f m ∷ l) (steps_summed f (m + 1) k (grows_later f m k h))

pub steps_total : (f : ℕ → ℕ) (m k : ℕ) → Grows f m k → before f m + total (map (step_of f) (range_with_len m k)) ≡ before f (m + k)
steps_total f m zero h = let e : m + 0 ≡ m = omega arith in omega (arith, ap (before f) e)
steps_total f m (suc k) h =
    let up : before f m ≤ f m = h m (omega arith) (omega arith) in
    let next = before_next f m in
    let ih : before f (m + 1) + total (map (step_of f) (range_with_len (m + 1) k)) ≡ before f (m + 1 + k) = steps_total f (m + 1) k (grows_later f m k h) in
    let e : m + 1 + k ≡ m + suc k = omega arith in
    omega (arith, ap (before f) e)

-- the parts of bytes between the sums, end to end
pub steps_taken : (f : ℕ → ℕ) (start m k : ℕ) (bytes : List ℕ) → Grows f m k
    → concat (map (λ i. take (step_of f i) (drop (start + before f i) bytes)) (range_with_len m k)) ≡ take (before f (m + k) - before f m) (drop (start + before f m) bytes)
steps_taken f start m zero bytes h =
    let e : m + 0 ≡ m = omega arith in
    let none : 0 ≡ before f (m + 0) - before f m = omega (arith, ap (before f) e) in
    ap (λ (n : ℕ). take n (drop (start + before f m) bytes)) none
steps_taken f start m (suc k) bytes h =
    let up : before f m ≤ f m = h m (omega arith) (omega arith) in
    let next = before_next f m in
    let later = grows_later f m k h in
    let grown = steps_total f (m + 1) k later in
    let e : m + 1 + k ≡ m + suc k = omega arith in
    let top = ap (before f) e in
    let here : start + before f (m + 1) ≡ step_of f m + (start + before f m) = omega arith in
    let skip : drop (start + before f (m + 1)) bytes ≡ drop (step_of f m) (drop (start + before f m) bytes) = ap (λ (n : ℕ). drop n bytes) here ∙ flipped (step_of f m) (start + before f m) bytes in
    let all : step_of f m + (before f (m + 1 + k) - before f (m + 1)) ≡ before f (m + suc k) - before f m = omega arith in
    ap (λ (l : List ℕ). take (step_of f m) (drop (start + before f m) bytes) ++ l)
    (steps_taken f start (m + 1) k bytes later ∙ ap (take (before f (m + 1 + k) - before f (m + 1))) skip)
    ∙ sym (take-add (step_of f m) (before f (m + 1 + k) - before f (m + 1)) (drop (start + before f m) bytes))
    ∙ ap (λ (n : ℕ). take n (drop (start + before f m) bytes)) all
  where
    flipped : (a b : ℕ) (l : List ℕ) → drop (a + b) l ≡ drop a (drop b l)
    flipped a b l = (let c : a + b ≡ b + a = omega arith in ap (λ (n : ℕ). drop n l) c) ∙ sym (drop-drop a b l)
