-- The runs between boundaries, and their bytes.
use Rattle.std.proofs.Common.{◌≡◌, ℕ, zero, suc, ◌+◌, ◌-◌, ◌*◌, ◌/◌, ◌^◌, ◌<◌, ◌≤◌, List, [], ◌∷◌, ◌++◌, drop, take, length, length-drop, get_or, refl, sym, ap, ◌∙◌, arith}
use Rattle.std.proofs.lemmas.List.{append_assoc, append-nil, drop-drop, drop_all, get_or-drop}
use Rattle.bitpack_slices.proofs.ForCallers.{bytes_cat, rising_room}
use Rattle.bitpack_slices.specs.Bodies.{IsRising, le_bytes}
use Rattle.bitpack_roaring.specs.inner.Runs.{run_bytes, runs_between}

pub between_len : (bounds : List ℕ) → length (runs_between bounds) ≡ (length bounds + 1) / 2
unfolding runs_between
between_len [] = refl
between_len (begin ∷ []) = refl
between_len (begin ∷ end ∷ bounds) = let ih = between_len bounds in omega arith

-- a boundary is below the next one, or below the end
rising_two : (low high i : ℕ) (xs : List ℕ) → IsRising low high xs → i < length xs → (get_or xs i 0 < get_or xs (suc i) high) × (get_or xs (suc i) high ≤ high)
rising_two low high i [] r lt = absurd (omega arith)
rising_two low high zero (x ∷ []) (a, r) lt = (omega arith, omega arith)
rising_two low high zero (x ∷ y ∷ xs) (a, (b, r)) lt = let room = rising_room (y + 1) high xs r in (omega arith, omega arith)
rising_two low high (suc i) (x ∷ xs) (a, r) lt = rising_two (x + 1) high i xs r (omega arith)

pub bound_next : (bounds : List ℕ) (i v : ℕ) → IsRising 0 65536 bounds → i < length bounds → v ≡ get_or bounds (i + 1) 65536 → (get_or bounds i 0 < v) × (v ≤ 65536)
bound_next bounds i v r lt is =
    let (up, top) = rising_two 0 65536 i bounds r lt in
    let next : suc i ≡ i + 1 = omega arith in
    let e = ap (λ (n : ℕ). get_or bounds n 65536) next in
    (omega arith, omega arith)

-- the run that begins at an index
first_between : (bounds : List ℕ) → 0 < length bounds → runs_between bounds ≡ (get_or bounds 0 0, get_or bounds 1 65536 - get_or bounds 0 0 - 1) ∷ runs_between (drop 2 bounds)
unfolding runs_between
first_between [] h = absurd (omega arith)
first_between (begin ∷ []) h = let e : 65535 - begin ≡ 65536 - begin - 1 = omega arith in ap (λ (n : ℕ). (begin, n) ∷ []) e
first_between (begin ∷ end ∷ bounds) h = refl

pub run_written : (bounds : List ℕ) (i v : ℕ) → IsRising 0 65536 bounds → 2 * i < length bounds → v ≡ get_or bounds (2 * i) 0 + 65536 * (get_or bounds (2 * i + 1) 65536 - get_or bounds (2 * i) 0 - 1)
    → le_bytes 4 v ++ run_bytes (runs_between (drop (2 * (i + 1)) bounds)) ≡ run_bytes (runs_between (drop (2 * i) bounds))
run_written bounds i v r lt is =
    let first : ℕ = get_or bounds (2 * i) 0 in
    let others : ℕ = get_or bounds (2 * i + 1) 65536 - first - 1 in
    let rest : List ℕ = drop (2 * i) bounds in
    let later : List ℕ = drop (2 * (i + 1)) bounds in
    let (up, top) = bound_next bounds (2 * i) _ r lt refl in
    let small : first < 2 ^ (8 * 2) = omega arith in
    let sum : v ≡ first + others * 2 ^ (8 * 2) = omega arith in
    let bytes : le_bytes 4 v ≡ le_bytes 2 first ++ le_bytes 2 others = ap (le_bytes 4) sum ∙ bytes_cat 2 2 first others small in
    let two : 2 * i + 2 ≡ 2 * (i + 1) = omega arith in
    let whole : 2 * i + 0 ≡ 2 * i = omega arith in
    let some : 0 < length rest = omega (arith, length-drop (2 * i) bounds) in
    let begin : get_or rest 0 0 ≡ first = get_or-drop (2 * i) bounds 0 0 ∙ ap (λ (n : ℕ). get_or bounds n 0) whole in
    let after : get_or rest 1 65536 ≡ get_or bounds (2 * i + 1) 65536 = get_or-drop (2 * i) bounds 1 65536 in
    let left : drop 2 rest ≡ later = drop-drop 2 (2 * i) bounds ∙ ap (λ (n : ℕ). drop n bounds) two in
    ap (λ (l : List ℕ). l ++ run_bytes (runs_between later)) bytes
    ∙ sym ((λ k. run_bytes (first_between rest some k)) ∙ (λ k. (le_bytes 2 (begin k) ++ le_bytes 2 (after k - begin k - 1)) ++ run_bytes (runs_between (left k))))

-- one run more is written
pub runs_more : (old new rest later all run : List ℕ) → new ≡ old ++ run → run ++ later ≡ rest → old ++ rest ≡ all → new ++ later ≡ all
runs_more old new rest later all run is more before =
    ap (λ (l : List ℕ). l ++ later) is ∙ append_assoc old run later ∙ ap (λ (l : List ℕ). old ++ l) more ∙ before

-- all are written
pub runs_done : (bounds out : List ℕ) (i : ℕ) → i ≡ (length bounds + 1) / 2 → take (4 * i) out ++ run_bytes (runs_between (drop (2 * i) bounds)) ≡ run_bytes (runs_between bounds)
    → take (4 * length (runs_between bounds)) out ≡ run_bytes (runs_between bounds)
unfolding runs_between
runs_done bounds out i e is =
    let size : length (runs_between bounds) ≡ i = between_len bounds ∙ sym e in
    let none : drop (2 * i) bounds ≡ [] = drop_all (2 * i) bounds (omega arith) in
    ap (λ (n : ℕ). take (4 * n) out) size ∙ sym (append-nil (take (4 * i) out)) ∙ ap (λ (l : List ℕ). take (4 * i) out ++ run_bytes (runs_between l)) (sym none) ∙ is

-- with their count before them
pub runs_with_count : (bounds head rest : List ℕ) (n count : ℕ) → n ≡ 2 → count ≡ (length bounds + 1) / 2 → head ≡ le_bytes n count
    → take (4 * length (runs_between bounds)) rest ≡ run_bytes (runs_between bounds) → take (2 + 4 * count) (head ++ rest) ≡ le_bytes 2 (length (runs_between bounds)) ++ run_bytes (runs_between bounds)
unfolding le_bytes
runs_with_count bounds head rest n count two counted is written =
    let size : count ≡ length (runs_between bounds) = counted ∙ sym (between_len bounds) in
    let more : 2 + 4 * count ≡ suc (suc (4 * count)) = omega arith in
    ap (λ (l : List ℕ). take (2 + 4 * count) (l ++ rest)) (is ∙ ap (λ (k : ℕ). le_bytes k count) two) ∙ ap (λ (k : ℕ). take k (le_bytes 2 count ++ rest)) more
    ∙ ap (λ (l : List ℕ). le_bytes 2 count ++ l) (ap (λ (k : ℕ). take (4 * k) rest) size ∙ written) ∙ ap (λ (k : ℕ). le_bytes 2 k ++ run_bytes (runs_between bounds)) size
