-- The containers of a bitmap that was written are read.
use Rattle.std.proofs.Common.{◌≡◌, ℕ, zero, suc, ◌+◌, ◌*◌, ◌^◌, ◌<◌, ◌≤◌, Bool, true, false, cond, leb, List, [], ◌∷◌, ◌++◌, map, length, take, drop, refl, sym, ap, ◌∙◌, arith, add-one, append_assoc, append-nil, length-append}
use Rattle.std.specs.List.{concat, range_with_len}
use Rattle.std.proofs.lemmas.List.{take_all, take_more}
use Rattle.std.proofs.lemmas.List.FromFn.{map-range_with_len_more}
use Rattle.bitpack_groups.specs.Numbers.{short_at}
use Rattle.bitpack_slices.proofs.ForCallers.{join, join_parts}
use Rattle.bitpack_slices.specs.Bodies.{IsRising, le_bytes}
use Rattle.bitpack_slices.specs.Runs.{boundaries}
use Rattle.bitpack_roaring.proofs.BackLaws.{body_there, chunks, count, count_is, head_size, key_is, offs, own, own_count, own_run}
use Rattle.bitpack_roaring.proofs.ContainerBack.{container_back}
use Rattle.bitpack_roaring.proofs.LayoutLaws.{bodies_cut, chunk_of}
use Rattle.bitpack_roaring.proofs.PlaceLaws.{part_here, short_here}
use Rattle.bitpack_roaring.proofs.RunCounts.{container_len, runs_bounds, runs_counted}
use Rattle.bitpack_roaring.proofs.WrittenLaws.{bounds_room, container_runs}
use Rattle.bitpack_roaring.specs.Roaring as read
use Rattle.bitpack_roaring.specs.Written.{are_runs, container, cookie, roaring, runs_of}
use Rattle.bitpack_roaring.specs.inner.Runs.{run_bytes, runs_between}
use Rattle.bitpack_roaring.specs.inner.Sizes.{bodies, entries, lists}

-- the size of a container that begins here
sized : (xs bytes front rest : List ℕ) (at : ℕ) → IsRising 0 65536 xs → bytes ≡ front ++ (container xs ++ rest) → length front ≡ at → (b : Bool) → are_runs xs ≡ b
    → cond b (2 + 4 * short_at 2 (drop at bytes) 0) (cond (leb (length xs) 4096) (2 * length xs) 8192) ≡ cond b (2 + 4 * length (runs_of xs)) (cond (leb (length xs) 4096) (2 * length xs) 8192)
sized xs bytes front rest at r is long true e =
    let runs : List (ℕ × ℕ) = runs_between (boundaries xs) in
    let counted = runs_counted xs r in
    let same = ap length (runs_bounds xs r) in
    let room = bounds_room xs r e in
    ap (λ (n : ℕ). 2 + 4 * n) (short_here 2 at 0 (length runs) bytes front (run_bytes runs ++ rest) (omega arith)
    (is ∙ ap (λ (l : List ℕ). front ++ (l ++ rest)) (container_runs xs r e) ∙ ap (λ (l : List ℕ). front ++ l) (append_assoc (le_bytes 2 (length runs)) (run_bytes runs) rest)) (omega arith)
    ∙ sym same)
sized xs bytes front rest at r is long false e = refl

module _ (ids : List ℕ) (r : IsRising 0 (2 ^ 32) ids) where
  -- what is before container m
  abbrev pub front : ℕ → List ℕ
  front m = (cookie (lists (chunks ids r)) ++ (entries (chunks ids r) ++ offs ids r)) ++ concat (bodies (take m (chunks ids r)))

  size_is : (m at : ℕ) → m < count ids r → length (front m) ≡ at → read.size_from (roaring ids) m at ≡ length (container (chunk_of (chunks ids r) m).1)
  unfolding read.size_from
  size_is m at less long =
      let xs : List ℕ = (chunk_of (chunks ids r) m).1 in
      let is = own ids r m less in
      (λ i. cond (own_run ids r m less i) (2 + 4 * short_at 2 (drop at (roaring ids)) 0) (cond (leb (own_count ids r m less i) 4096) (2 * own_count ids r m less i) 8192))
      ∙ sized xs (roaring ids) (front m) (concat (bodies (drop (m + 1) (chunks ids r)))) at is.rising (body_there ids r m less) long (are_runs xs) refl ∙ sym (container_len xs)

  front_more : (m : ℕ) → m < count ids r → length (front m) + length (container (chunk_of (chunks ids r) m).1) ≡ length (front (suc m))
  front_more m less =
      let ps : List (ℕ × List ℕ) = chunks ids r in
      let p : ℕ × List ℕ = chunk_of ps m in
      let head : List ℕ = cookie (lists ps) ++ (entries ps ++ offs ids r) in
      let more : take (suc m) ps ≡ take m ps ++ p ∷ [] = ap (λ (n : ℕ). take n ps) (sym (add-one m)) ∙ take_more ps m (0, []) less in
      let all : concat (bodies (take (suc m) ps)) ≡ concat (bodies (take m ps)) ++ container p.1 =
      ap (λ (l : List (ℕ × List ℕ)). concat (bodies l)) more ∙ bodies_cut (take m ps) p [] ∙ ap (λ (l : List ℕ). concat (bodies (take m ps)) ++ l) (append-nil (container p.1)) in
      let a = length-append head (concat (bodies (take m ps))) in
      let b = length-append head (concat (bodies (take (suc m) ps))) in
      let d = ap length all ∙ length-append (concat (bodies (take m ps))) (container p.1) in
      omega arith

  pub start_is : (m : ℕ) → m ≤ count ids r → read.start_at (roaring ids) m ≡ length (front m)
  unfolding read.start_at
  start_is zero h = head_size ids r ∙ sym (ap length (append-nil (cookie (lists (chunks ids r)) ++ (entries (chunks ids r) ++ offs ids r))))
  start_is (suc m) h =
      let ih : read.start_at (roaring ids) m ≡ length (front m) = start_is m (omega arith) in
      (λ i. ih i + read.size_from (roaring ids) m (ih i)) ∙ ap (λ (n : ℕ). length (front m) + n) (size_is m (length (front m)) (omega arith) refl) ∙ front_more m (omega arith)

  pub own_size : (m : ℕ) → m < count ids r → read.size_from (roaring ids) m (read.start_at (roaring ids) m) ≡ length (container (chunk_of (chunks ids r) m).1)
  own_size m less = size_is m (read.start_at (roaring ids) m) less (sym (start_is m (omega arith)))

  pub body_is : (m : ℕ) → m < count ids r → read.body_at (roaring ids) m ≡ container (chunk_of (chunks ids r) m).1
  body_is m less =
      part_here (read.start_at (roaring ids) m) (read.size_from (roaring ids) m (read.start_at (roaring ids) m)) (roaring ids) (front m) (container (chunk_of (chunks ids r) m).1)
      (concat (bodies (drop (m + 1) (chunks ids r)))) (body_there ids r m less) (sym (start_is m (omega arith))) (own_size m less)

  pub numbers_are : (m : ℕ) → m < count ids r → read.numbers_at (roaring ids) m ≡ (chunk_of (chunks ids r) m).1
  numbers_are m less =
      let is = own ids r m less in
      (λ i. read.numbers_of (own_run ids r m less i) (own_count ids r m less i) (body_is m less i)) ∙ container_back (chunk_of (chunks ids r) m).1 is.rising

  containers_are : (m : ℕ) → m ≤ count ids r → map (read.container_at (roaring ids)) (range_with_len 0 m) ≡ take m (chunks ids r)
  containers_are zero h = refl
  containers_are (suc m) h =
      let less : m < count ids r = omega arith in
      let ps : List (ℕ × List ℕ) = chunks ids r in
      ap (λ (n : ℕ). map (read.container_at (roaring ids)) (range_with_len 0 n)) (sym (add-one m)) ∙ map-range_with_len_more (read.container_at (roaring ids)) 0 m m (omega arith)
      ∙ ap (λ (l : List (ℕ × List ℕ)). l ++ read.container_at (roaring ids) m ∷ []) (containers_are m (omega arith))
      ∙ (λ i. take m ps ++ (key_is ids r m less i, numbers_are m less i) ∷ []) ∙ sym (take_more ps m (0, []) less) ∙ ap (λ (n : ℕ). take n ps) (add-one m)

  -- the ids that are read
  pub ids_back : read.ids_of (roaring ids) ≡ ids
  ids_back =
      let all = containers_are (count ids r) (omega arith) ∙ take_all (count ids r) (chunks ids r) (omega arith) in
      ap (λ (n : ℕ). join 65536 (map (read.container_at (roaring ids)) (range_with_len 0 n))) (count_is ids r) ∙ ap (join 65536) all ∙ join_parts 65536 ids
