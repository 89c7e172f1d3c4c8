-- Where the parts of a bitmap are: before one of its containers, this one, and after it.
use Rattle.std.proofs.Common.{◌≡◌, ℕ, zero, suc, ◌+◌, ◌-◌, ◌*◌, ◌<◌, ◌≤◌, Bool, true, false, ◌||◌, List, [], ◌∷◌, ◌++◌, map, length, take, drop, get_or, refl, sym, ap, ◌∙◌, arith, append_assoc, length-append}
use Rattle.std.specs.List.{concat, list_any}
use Rattle.std.proofs.lemmas.List.{drop_more, take-append-drop}
use Rattle.bitpack_slices.proofs.ForCallers.{AreParts, flat_len, rising_room}
use Rattle.bitpack_slices.specs.Bodies.{IsRising, le_bytes}
use Rattle.bitpack_slices.specs.Reads.{has}
use Rattle.bitpack_roaring.proofs.FlagLaws.{flag_later, flag_own}
use Rattle.bitpack_roaring.proofs.MeasureSteps.{starts_len}
use Rattle.bitpack_roaring.specs.Written.{are_runs, container, flagged, starts}
use Rattle.bitpack_roaring.specs.inner.Sizes.{bodies, entries, lists, starts_of}

-- ---- a chunk among others

abbrev pub chunk_of : List (ℕ × List ℕ) → ℕ → ℕ × List ℕ
chunk_of ps m = get_or ps m (0, [])

pub cut_at : (m : ℕ) (ps : List (ℕ × List ℕ)) → m < length ps → ps ≡ take m ps ++ (chunk_of ps m ∷ drop (m + 1) ps)
cut_at m ps less = sym (take-append-drop m ps) ∙ ap (λ (l : List (ℕ × List ℕ)). take m ps ++ l) (drop_more ps m (0, []) less)

pub record IsChunk (p : ℕ × List ℕ) (low high : ℕ) : Type 0 where
  pub above : low ≤ p.0
  pub below : p.0 < high
  pub some : 1 ≤ length p.1
  pub few : length p.1 ≤ 65536
  pub rising : IsRising 0 65536 p.1

parts_top : (low high : ℕ) (ps : List (ℕ × List ℕ)) → AreParts 65536 low high ps → low ≤ high
parts_top low high [] are = are
parts_top low high (p ∷ ps) (a, some, r, later) = let top = parts_top (p.0 + 1) high ps later in omega arith

pub chunk_is : (low high m : ℕ) (ps : List (ℕ × List ℕ)) → AreParts 65536 low high ps → m < length ps → IsChunk (chunk_of ps m) low high
chunk_is low high m [] are less = absurd (omega arith)
chunk_is low high zero (p ∷ ps) (a, some, r, later) less =
    let top = parts_top (p.0 + 1) high ps later in
    let room = rising_room 0 65536 p.1 r in
    record { above = a; below = omega arith; some = omega arith; few = omega arith; rising = r }
chunk_is low high (suc m) (p ∷ ps) (a, some, r, later) less =
    let ih = chunk_is (p.0 + 1) high m ps later (omega arith) in
    let above = ih.above in
    record { above = omega arith; below = ih.below; some = ih.some; few = ih.few; rising = ih.rising }

-- keys increase
pub keys_up : (low high m : ℕ) (ps : List (ℕ × List ℕ)) → AreParts 65536 low high ps → m + 1 < length ps → (chunk_of ps m).0 < (chunk_of ps (m + 1)).0
keys_up low high m [] are less = absurd (omega arith)
keys_up low high zero (p ∷ ps) (a, some, r, later) less = let next = (chunk_is (p.0 + 1) high 0 ps later (omega arith)).above in omega arith
keys_up low high (suc m) (p ∷ ps) (a, some, r, later) less =
    let ih : (chunk_of ps m).0 < (chunk_of ps (m + 1)).0 = keys_up (p.0 + 1) high m ps later (omega arith) in
    let e : suc m + 1 ≡ suc (m + 1) = omega arith in
    let same = ap (λ (k : ℕ). (chunk_of (p ∷ ps) k).0) e in
    omega arith

-- ---- the parts of a bitmap

pub entries_cut : (before : List (ℕ × List ℕ)) (p : ℕ × List ℕ) (after : List (ℕ × List ℕ))
    → entries (before ++ p ∷ after) ≡ entries before ++ ((le_bytes 2 p.0 ++ le_bytes 2 (length p.1 - 1)) ++ entries after)
entries_cut [] p after = refl
entries_cut (b ∷ before) p after =
    ap (λ (l : List ℕ). (le_bytes 2 b.0 ++ le_bytes 2 (length b.1 - 1)) ++ l) (entries_cut before p after)
    ∙ sym (append_assoc (le_bytes 2 b.0 ++ le_bytes 2 (length b.1 - 1)) (entries before) ((le_bytes 2 p.0 ++ le_bytes 2 (length p.1 - 1)) ++ entries after))

pub bodies_cut : (before : List (ℕ × List ℕ)) (p : ℕ × List ℕ) (after : List (ℕ × List ℕ))
    → concat (bodies (before ++ p ∷ after)) ≡ concat (bodies before) ++ (container p.1 ++ concat (bodies after))
bodies_cut [] p after = refl
bodies_cut (b ∷ before) p after =
    ap (λ (l : List ℕ). container b.1 ++ l) (bodies_cut before p after) ∙ sym (append_assoc (container b.1) (concat (bodies before)) (container p.1 ++ concat (bodies after)))

pub starts_cut : (start : ℕ) (before : List (ℕ × List ℕ)) (p : ℕ × List ℕ) (after : List (ℕ × List ℕ)) → starts_of start (before ++ p ∷ after)
    ≡ starts_of start before ++ (le_bytes 4 (start + length (concat (bodies before))) ++ starts_of (start + length (concat (bodies before)) + length (container p.1)) after)
unfolding starts
starts_cut start [] p after = let e : start ≡ start + 0 = omega arith in ap (λ (k : ℕ). le_bytes 4 k ++ starts_of (k + length (container p.1)) after) e
starts_cut start (b ∷ before) p after =
    let own : ℕ = length (container b.1) in
    let long = length-append (container b.1) (concat (bodies before)) in
    let e : start + own + length (concat (bodies before)) ≡ start + length (container b.1 ++ concat (bodies before)) = omega arith in
    let rest : ℕ → List ℕ = λ k. le_bytes 4 k ++ starts_of (k + length (container p.1)) after in
    ap (λ (l : List ℕ). le_bytes 4 start ++ l) (starts_cut (start + own) before p after ∙ ap (λ (k : ℕ). starts_of (start + own) before ++ rest k) e)
    ∙ sym (append_assoc (le_bytes 4 start) (starts_of (start + own) before) (rest (start + length (container b.1 ++ concat (bodies before)))))

pub starts_size : (start : ℕ) (ps : List (ℕ × List ℕ)) → length (starts_of start ps) ≡ 4 * length ps
starts_size start ps =
    let a = flat_len 4 (starts start (map length (bodies ps))) in
    let b = starts_len start (map length (bodies ps)) in
    let d = Rattle.std.proofs.lemmas.List.length-map (bodies ps) length in
    let e = Rattle.std.proofs.lemmas.List.length-map (lists ps) container in
    let f = Rattle.std.proofs.lemmas.List.length-map ps (λ chunk. chunk.1) in
    omega arith

-- ---- which containers are runs

pub flag_at : (n m : ℕ) (ps : List (ℕ × List ℕ)) → m < length ps → has (n + m) (flagged n (lists ps)) ≡ are_runs (chunk_of ps m).1
flag_at n m [] less = absurd (omega arith)
flag_at n zero (p ∷ ps) less = let e : n + 0 ≡ n = omega arith in ap (λ (k : ℕ). has k (flagged n (p.1 ∷ lists ps))) e ∙ flag_own n p.1 (lists ps)
flag_at n (suc m) (p ∷ ps) less =
    let e : n + suc m ≡ n + 1 + m = omega arith in
    ap (λ (k : ℕ). has k (flagged n (p.1 ∷ lists ps))) e ∙ flag_later (n + 1 + m) n p.1 (lists ps) (omega arith) ∙ flag_at (n + 1) m ps (omega arith)

or_false : (a b : Bool) → (a || b) ≡ false → (a ≡ false) × (b ≡ false)
or_false true b e = absurd (Rattle.std.proofs.lemmas.Bool.true≢false e)
or_false false b e = (refl, e)

pub no_run_at : (m : ℕ) (ps : List (ℕ × List ℕ)) → m < length ps → list_any are_runs (lists ps) ≡ false → are_runs (chunk_of ps m).1 ≡ false
no_run_at m [] less none = absurd (omega arith)
no_run_at zero (p ∷ ps) less none = (or_false (are_runs p.1) (list_any are_runs (lists ps)) none).0
no_run_at (suc m) (p ∷ ps) less none = no_run_at m ps (omega arith) (or_false (are_runs p.1) (list_any are_runs (lists ps)) none).1

-- a bitmap with runs has a container
pub run_some : (ps : List (ℕ × List ℕ)) → list_any are_runs (lists ps) ≡ true → 1 ≤ length ps
run_some [] e = absurd (Rattle.std.proofs.lemmas.Bool.true≢false (sym e))
run_some (p ∷ ps) e = omega arith
