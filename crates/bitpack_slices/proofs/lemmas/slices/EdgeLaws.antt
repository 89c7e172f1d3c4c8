-- Slices of bytes are end to end if bytes fall only where slices begin.
use Rattle.std.proofs.Common.{◌≡◌, ℕ, zero, suc, ◌+◌, ◌-◌, ◌*◌, ◌<◌, ◌≤◌, Bool, leb, eqb, cond, List, [], ◌∷◌, take, drop, length, get_or, refl, sym, ap, ◌∙◌, arith, subst, inl, inr, eqb-true, eq-eqb, length-drop}
use mir.Val.{bool_byte}
use Rattle.std.specs.Bool.{Decides}
use Rattle.std.specs.List.Sorted.{IsStrictlyIncreasing}
use Rattle.std.proofs.lemmas.Bool.{cases_lt, cond_below, le-leb, lt-leb}
use Rattle.std.proofs.lemmas.List.{drop-drop, drop_all, drop_more, get_or-drop, length-take-le}
use Rattle.bitpack_slices.proofs.lemmas.bits.CountLaws.{decide_few, later_rise}
use Rattle.bitpack_slices.proofs.lemmas.bodies.ReadLaws.{byte_is}
use Rattle.bitpack_slices.proofs.lemmas.bodies.TestLaws.{bytes_taken}
use Rattle.bitpack_slices.proofs.lemmas.bytes.Bytes.{EachByte, byte_of}
use Rattle.bitpack_slices.proofs.lemmas.bytes.DecodeLaws.{bytes_dropped}
use Rattle.bitpack_slices.specs.Falls.{edges, falls}
use Rattle.bitpack_slices.specs.Slices.{AreSlices, IsSlice, numbers_in, slice_len}

abbrev fall : ℕ → ℕ → ℕ
fall x y = cond (leb y x) 1 0

abbrev one_if : Bool → ℕ
one_if b = cond b 1 0

fell : (x y : ℕ) → y ≤ x → fall x y ≡ 1
fell x y h = ap one_if (le-leb y x h)

rose : (x y : ℕ) → x < y → fall x y ≡ 0
rose x y h = ap one_if (lt-leb y x h)

-- ---- what the loops count

pub falls_more : (window : List ℕ) (i : ℕ) → 1 ≤ i → i < length window
    → falls (get_or window (i - 1) 0) (drop i window) ≡ bool_byte (leb (get_or window i 0) (get_or window (i - 1) 0)) + falls (get_or window (i + 1 - 1) 0) (drop (i + 1) window)
unfolding falls
falls_more window i some lt =
    let e : i ≡ i + 1 - 1 = omega arith in
    ap (falls (get_or window (i - 1) 0)) (drop_more window i 0 lt)
    ∙ ap (λ (n : ℕ). n + falls (get_or window i 0) (drop (i + 1) window)) (sym (byte_is (leb (get_or window i 0) (get_or window (i - 1) 0))))
    ∙ ap (λ (n : ℕ). bool_byte (leb (get_or window i 0) (get_or window (i - 1) 0)) + falls (get_or window n 0) (drop (i + 1) window)) e

pub falls_done : (x : ℕ) (window : List ℕ) (i : ℕ) → length window ≤ i → falls x (drop i window) ≡ 0
unfolding falls
falls_done x window i done = ap (falls x) (drop_all i window done)

pub edges_more : (counts window : List ℕ) (i at : ℕ) → i < length counts
    → edges (drop i counts) (drop at window)
    ≡ bool_byte (leb (get_or window (at + 1) 0) (get_or window at 0)) + edges (drop (i + 1) counts) (drop (at + (get_or counts i 0 + 1)) window)
unfolding edges
edges_more counts window i at lt =
    let less : ℕ = get_or counts i 0 in
    let here : at + 0 ≡ at = omega arith in
    let this = get_or-drop at window 0 0 ∙ ap (λ (n : ℕ). get_or window n 0) here in
    let next = get_or-drop at window 1 0 in
    ap (λ (l : List ℕ). edges l (drop at window)) (drop_more counts i 0 lt)
    ∙ ap (λ (l : List ℕ). cond (leb (get_or (drop at window) 1 0) (get_or (drop at window) 0 0)) 1 0 + edges (drop (i + 1) counts) l) (drop-drop (less + 1) at window)
    ∙ ap (λ (y : ℕ). cond (leb y (get_or (drop at window) 0 0)) 1 0 + edges (drop (i + 1) counts) (drop (at + (less + 1)) window)) next
    ∙ ap (λ (x : ℕ). cond (leb (get_or window (at + 1) 0) x) 1 0 + edges (drop (i + 1) counts) (drop (at + (less + 1)) window)) this
    ∙ ap (λ (n : ℕ). n + edges (drop (i + 1) counts) (drop (at + (less + 1)) window)) (sym (byte_is (leb (get_or window (at + 1) 0) (get_or window at 0))))

pub edges_done : (counts window : List ℕ) (i : ℕ) → length counts ≤ i → edges (drop i counts) window ≡ 0
unfolding edges
edges_done counts window i done = ap (λ (l : List ℕ). edges l window) (drop_all i counts done)

-- ---- slices by falls

-- bytes after the first increase if none falls
none_falls : (x : ℕ) (xs : List ℕ) → falls x xs ≡ 0 → IsStrictlyIncreasing (x ∷ xs)
unfolding falls
none_falls x [] none k lt = absurd (omega arith)
none_falls x (y ∷ ys) none zero lt = elim (cases_lt x y) [
  | inl less ↦ less
  | inr more ↦ (let here = fell x y more in absurd (omega arith))
]
none_falls x (y ∷ ys) none (suc k) lt =
    let e : suc (k + 1) ≡ suc k + 1 = omega arith in
    let ih : get_or (y ∷ ys) k 0 < get_or (y ∷ ys) (k + 1) 0 = none_falls y ys (omega arith) k (omega arith) in
    subst (λ (n : ℕ). get_or (x ∷ y ∷ ys) (suc k) 0 < get_or (x ∷ y ∷ ys) n 0) e ih

-- and only then
rising_falls : (x : ℕ) (xs : List ℕ) → IsStrictlyIncreasing (x ∷ xs) → falls x xs ≡ 0
unfolding falls
rising_falls x [] h = refl
rising_falls x (y ∷ ys) h =
    let up : x < y = h 0 (omega arith) in
    let here = rose x y up in
    let ih : falls y ys ≡ 0 = rising_falls y ys (later_rise x (y ∷ ys) h) in
    omega arith

-- falls are those of the first bytes and those after them
falls_cut : (n x : ℕ) (xs : List ℕ) → n ≤ length xs → falls x xs ≡ falls x (take n xs) + falls (get_or (x ∷ xs) n 0) (drop n xs)
unfolding falls
falls_cut zero x xs room = omega arith
falls_cut (suc n) x [] room = absurd (omega arith)
falls_cut (suc n) x (y ∷ ys) room = let ih : falls y ys ≡ falls y (take n ys) + falls (get_or (y ∷ ys) n 0) (drop n ys) = falls_cut n y ys (omega arith) in omega arith

-- slices of bytes have few numbers
pub numbers_under : (counts : List ℕ) → ((k : ℕ) → k < length counts → get_or counts k 0 < 31) → numbers_in counts ≤ 31 * length counts
unfolding numbers_in
numbers_under [] few = omega arith
numbers_under (less ∷ counts) few =
    let own : less < 31 = few 0 (omega arith) in
    let rest : numbers_in counts ≤ 31 * length counts = numbers_under counts (λ k lt. few (suc k) (omega arith)) in
    omega arith

-- what both numbers tell
pub record Told (counts : List ℕ) (x : ℕ) (bytes : List ℕ) : Type 0 where
  pub least : edges counts (x ∷ bytes) ≤ falls x bytes
  pub yields : falls x bytes ≡ edges counts (x ∷ bytes) → AreSlices counts bytes
  pub needs : AreSlices counts bytes → falls x bytes ≡ edges counts (x ∷ bytes)

-- a slice more before others
told_more : (less x b : ℕ) (counts bs : List ℕ) → less < 31 → EachByte (b ∷ bs) → less ≤ length bs
    → Told counts (get_or (b ∷ bs) less 0) (drop less bs) → Told (less ∷ counts) x (b ∷ bs)
unfolding falls edges
told_more less x b counts bs few are room later =
    let n : less + 1 ≡ suc less = omega arith in
    let size : suc less ≡ slice_len (less + 1) = sym n ∙ cond_below (less + 1) 32 (less + 1) _ (omega arith) in
    let cut = falls_cut less b bs room in
    let least = later.least in
    let last : ℕ = get_or (b ∷ bs) less 0 in
    let after : drop less (b ∷ bs) ≡ last ∷ drop less bs = drop_more (b ∷ bs) less 0 (omega arith) ∙ ap (λ (k : ℕ). last ∷ drop k (b ∷ bs)) n in
    let rest : edges counts (drop (less + 1) (x ∷ b ∷ bs)) ≡ edges counts (last ∷ drop less bs) = ap (λ (k : ℕ). edges counts (drop k (x ∷ b ∷ bs))) n ∙ ap (edges counts) after in
    let bytes' : EachByte (take (suc less) (b ∷ bs)) = bytes_taken (suc less) (b ∷ bs) are in
    let d : Decides (eqb (falls b (take less bs)) 0) (IsSlice (less + 1) (take (slice_len (less + 1)) (b ∷ bs))) =
    decide_few (less + 1) (take (slice_len (less + 1)) (b ∷ bs)) (eqb (falls b (take less bs)) 0) (omega arith)
    (length-take-le (slice_len (less + 1)) (b ∷ bs) (omega arith))
    (subst (λ (m : ℕ). (k : ℕ) → get_or (take m (b ∷ bs)) k 0 < 256) size (byte_of (take (suc less) (b ∷ bs)) bytes'))
    (subst (λ (m : ℕ). Decides (eqb (falls b (take less bs)) 0) (IsStrictlyIncreasing (take m (b ∷ bs)))) size
    (λ e. none_falls b (take less bs) (eqb-true _ 0 e), λ up. eq-eqb _ 0 (rising_falls b (take less bs) up))) in
    let (yields, needs) = d in
    let drops : drop less bs ≡ drop (slice_len (less + 1)) (b ∷ bs) = ap (λ (m : ℕ). drop m (b ∷ bs)) size in
    record {
      least = omega arith;
      yields = λ same. (
        omega arith,
        yields (eq-eqb _ 0 (omega arith)),
        subst (AreSlices counts) drops (later.yields (omega arith)),
      );
      needs = λ (fits, is, are'). (
          let none = eqb-true _ 0 (needs is) in
          let same = later.needs (subst (AreSlices counts) (sym drops) are') in
          omega arith);
    }

pub told : (counts : List ℕ) (x : ℕ) (bytes : List ℕ) → ((k : ℕ) → k < length counts → get_or counts k 0 < 31) → EachByte bytes → length bytes ≡ numbers_in counts → Told counts x bytes
unfolding numbers_in falls edges
told [] x [] few are size = record { least = omega arith; yields = λ e. refl; needs = λ e. refl }
told [] x (b ∷ bs) few are size = absurd (omega arith)
told (less ∷ counts) x [] few are size = absurd (omega arith)
told (less ∷ counts) x (b ∷ bs) few are size =
    let (first, others) = are in
    told_more less x b counts bs (few 0 (omega arith)) are (omega arith)
    (told counts (get_or (b ∷ bs) less 0) (drop less bs) (λ k lt. few (suc k) (omega arith)) (bytes_dropped less bs others) (omega (arith, length-drop less bs)))
