-- A bitmap that was written has no fault.
use Rattle.std.proofs.Common.{◌≡◌, ℕ, zero, suc, ◌+◌, ◌-◌, ◌*◌, ◌/◌, ◌^◌, ◌<◌, ◌≤◌, ◌&&◌, not, Bool, true, false, cond, eqb, leb, ltb, List, [], ◌∷◌, ◌++◌, length, take, drop, Option, Some, None, refl, sym, ap, ◌∙◌, arith, inl, inr, subst, eq-eqb, append_assoc, append-nil, length-append}
use Rattle.std.specs.List.{concat}
use Rattle.std.specs.Option.{option_map, option_or}
use Rattle.std.proofs.lemmas.Bool.{le-leb, le-ltb, leb-true, lt-leb, lt-ltb}
use Rattle.std.proofs.lemmas.Bool.Decides.{leb_tells}
use Rattle.std.proofs.lemmas.List.{take_all}
use Rattle.bitpack_groups.specs.Numbers.{short_at}
use Rattle.bitpack_slices.proofs.ForCallers.{bounds_rise, no_fall}
use Rattle.bitpack_slices.specs.Bodies.{IsRising, le_bytes}
use Rattle.bitpack_slices.specs.Runs.{boundaries}
use Rattle.bitpack_slices.specs.Slices.{first_fall, pairs_of}
use Rattle.bitpack_slices.specs.declared.set_error.SetError.{SetError}
use Rattle.bitpack_slices.specs.declared.set_error.SetError.TheVariants.{BadBody, BadNumber, BadVersion, NotSorted, Short, Trailing}
use Rattle.bitpack_sets.proofs.ForCallers.{first_more, first_start}
use Rattle.bitpack_roaring.proofs.BackLaws.{are, body_there, chunks, cookie_size, count, count_is, any, cut, few, four_is, head_size, key_is, keys_are, layout, offs, offs_are, own, own_count, own_run, runs_are, start, third}
use Rattle.bitpack_roaring.proofs.BodyBack.{body_is, front, own_size, start_is}
use Rattle.bitpack_roaring.proofs.ContainerBack.{bounds_read, closed, container_back}
use Rattle.bitpack_roaring.proofs.ContainerLaws.{of_array}
use Rattle.bitpack_roaring.proofs.FaultSteps as steps
use Rattle.bitpack_roaring.proofs.LayoutLaws.{chunk_of, keys_up, starts_cut, starts_size}
use Rattle.bitpack_roaring.proofs.MeasureSteps.{entries_len}
use Rattle.bitpack_roaring.proofs.PlaceLaws.{short_here}
use Rattle.bitpack_roaring.proofs.RunCounts.{container_len}
use Rattle.bitpack_roaring.specs.Faults.{are_apart, container_fault, cookie_fault, fault, first_of, head_fault, numbers_fault, rise_between}
use Rattle.bitpack_roaring.specs.Roaring as read
use Rattle.bitpack_roaring.specs.Written.{are_runs, container, cookie, roaring, runs_of}
use Rattle.bitpack_roaring.specs.inner.Sizes.{bodies, entries, lists, starts_of}

-- ---- the numbers of a container

both : (a b : Bool) → a ≡ true → b ≡ true → (a && b) ≡ true
both a b e f = ap (λ (t : Bool). t && b) e ∙ f

closed_rise : (low : ℕ) (bounds : List ℕ) → IsRising low 65536 bounds → rise_between low 65537 (closed bounds) ≡ true
unfolding closed rise_between
closed_rise low [] r = le-leb low 65537 (omega arith)
closed_rise low (begin ∷ []) (a, top) = both (leb low begin) _ (le-leb low begin a) (both (leb (begin + 1) 65536) _ (le-leb (begin + 1) 65536 top) refl)
closed_rise low (begin ∷ end ∷ bounds) (a, (b, r)) = both (leb low begin) _ (le-leb low begin a) (both (leb (begin + 1) end) _ (le-leb (begin + 1) end b) (closed_rise (end + 1) bounds r))

runs_apart : (xs : List ℕ) → IsRising 0 65536 xs → are_runs xs ≡ true → are_apart (read.bounds_in (container xs)) ≡ true
runs_apart xs r e = ap are_apart (bounds_read xs r e) ∙ closed_rise 0 (boundaries xs) (bounds_rise xs r)

fault_none : (m position : ℕ) (xs body : List ℕ) (run : Bool) → IsRising 0 65536 xs → read.numbers_of run (length xs) body ≡ xs → (run ≡ true → are_apart (read.bounds_in body) ≡ true)
    → numbers_fault m position run (length xs) body ≡ None
unfolding numbers_fault
fault_none m position xs body true r back apart =
    ap (λ (b : Bool). cond b None (Some (BadBody m))) (both (are_apart (read.bounds_in body)) _ (apart refl) (eq-eqb (length (read.numbers_of true (length xs) body)) (length xs) (ap length back)))
fault_none m position xs body false r back apart =
    let falls : Option SetError = option_map NotSorted (first_fall position (pairs_of body)) in
    let counted : Option SetError = cond (eqb (length (read.numbers_of false (length xs) body)) (length xs)) None (Some (BadBody m)) in
    elim (leb_tells (length xs) 4096) [
      | inl (e, l) ↦ ap (λ (b : Bool). cond b falls counted) e
          ∙ ap (option_map NotSorted) (ap (first_fall position) (sym (of_array (length xs) body e) ∙ back) ∙ no_fall position 0 65536 xs r)
      | inr (e, l) ↦ ap (λ (b : Bool). cond b falls counted) e
          ∙ ap (λ (b : Bool). cond b None (Some (BadBody m))) (eq-eqb (length (read.numbers_of false (length xs) body)) (length xs) (ap length back))
    ]

-- ---- how long it is

form_most : (run few : Bool) (runs count : ℕ) → run ≡ ltb (2 + 4 * runs) (cond few (2 + 2 * count) 8192) → few ≡ leb count 4096 → cond run (2 + 4 * runs) (cond few (2 * count) 8192) ≤ 8192
form_most true true runs count e f =
    let less = Rattle.std.proofs.lemmas.Bool.ltb-true (2 + 4 * runs) (2 + 2 * count) (sym e) in
    let small = leb-true count 4096 (sym f) in
    omega arith
form_most true false runs count e f = let less = Rattle.std.proofs.lemmas.Bool.ltb-true (2 + 4 * runs) 8192 (sym e) in omega arith
form_most false true runs count e f = let small = leb-true count 4096 (sym f) in omega arith
form_most false false runs count e f = omega arith

container_most : (xs : List ℕ) → length (container xs) ≤ 8192
container_most xs = let long = container_len xs in let most = form_most (are_runs xs) (leb (length xs) 4096) (length (runs_of xs)) (length xs) refl refl in omega arith

bodies_most : (ps : List (ℕ × List ℕ)) → length (concat (bodies ps)) ≤ 8192 * length ps
bodies_most [] = omega arith
bodies_most (p ∷ ps) =
    let ih : length (concat (bodies ps)) ≤ 8192 * length ps = bodies_most ps in
    let one = container_most p.1 in
    let all = length-append (container p.1) (concat (bodies ps)) in
    omega arith

-- ---- container m

module _ (ids : List ℕ) (r : IsRising 0 (2 ^ 32) ids) where
  module _ (m : ℕ) (less : m < count ids r) where
    xs : List ℕ
    xs = (chunk_of (chunks ids r) m).1

    room : read.start_at (roaring ids) m + read.size_from (roaring ids) m (read.start_at (roaring ids) m) ≤ length (roaring ids)
    unfolding xs
    room =
        let a = start_is ids r m (omega arith) in
        let b = own_size ids r m less in
        let rest : List ℕ = concat (bodies (drop (m + 1) (chunks ids r))) in
        let d = ap length (body_there ids r m less) ∙ length-append (front ids r m) (container xs ++ rest) in
        let e = length-append (container xs) rest in
        omega arith

    falls_by : (k : ℕ) → k ≡ m → (ltb 0 k && leb (read.key_at (roaring ids) k) (read.key_at (roaring ids) (k - 1))) ≡ false
    falls_by zero e = refl
    falls_by (suc k) e =
        let here : k + 1 < length (chunks ids r) = omega arith in
        let next : suc k ≡ k + 1 = omega arith in
        let back : suc k - 1 ≡ k = omega arith in
        let up = keys_up 0 65536 k (chunks ids r) (are ids r) here in
        let key = ap (read.key_at (roaring ids)) next ∙ key_is ids r (k + 1) here in
        let before = ap (read.key_at (roaring ids)) back ∙ key_is ids r k (omega arith) in
        ap (λ (b : Bool). b && leb (read.key_at (roaring ids) (suc k)) (read.key_at (roaring ids) (suc k - 1))) (lt-ltb 0 (suc k) (omega arith))
        ∙ lt-leb (read.key_at (roaring ids) (suc k)) (read.key_at (roaring ids) (suc k - 1)) (omega arith)

    offset_is : read.has_offsets (roaring ids) ≡ true → read.offset_at (roaring ids) m ≡ read.start_at (roaring ids) m
    unfolding read.offset_at
    offset_is there =
        let ps : List (ℕ × List ℕ) = chunks ids r in
        let before : List (ℕ × List ℕ) = take m ps in
        let after : List (ℕ × List ℕ) = drop (m + 1) ps in
        let first : ℕ = start ids r in
        let own_start : ℕ = first + length (concat (bodies before)) in
        let head : List ℕ = cookie (lists ps) ++ entries ps in
        let later : List ℕ = starts_of (own_start + length (container (chunk_of ps m).1)) after in
        let is : roaring ids ≡ (head ++ starts_of first before) ++ (le_bytes 4 own_start ++ (later ++ concat (bodies ps))) =
        layout ids r ∙ ap (λ (l : List ℕ). cookie (lists ps) ++ (entries ps ++ (l ++ concat (bodies ps)))) (offs_are ids r there ∙ ap (starts_of first) (cut ids r m less) ∙ starts_cut first before (chunk_of ps m) after)
        ∙ third (cookie (lists ps)) (entries ps) (starts_of first before) (le_bytes 4 own_start) later (concat (bodies ps)) in
        let many : length before ≡ m = Rattle.std.proofs.lemmas.List.length-take-le m ps (omega arith) in
        let a = length-append (cookie (lists ps)) (entries ps) in
        let b = entries_len ps in
        let d = keys_are ids r in
        let e = count_is ids r in
        let f = length-append head (starts_of first before) in
        let g = starts_size first before in
        let h = bodies_most before in
        let size = cookie_size ids r in
        let most = few ids r in
        let long = cookie_most (any ids r) (count ids r) most in
        let begins = start_is ids r m (omega arith) in
        let whole = ap length (offs_are ids r there) ∙ starts_size first ps in
        let i = length-append (cookie (lists ps)) (entries ps ++ offs ids r) in
        let j = length-append (entries ps) (offs ids r) in
        let k = length-append (cookie (lists ps) ++ (entries ps ++ offs ids r)) (concat (bodies before)) in
        short_here 4 (read.keys_start (roaring ids) + 4 * read.containers (roaring ids)) m own_start (roaring ids) (head ++ starts_of first before) (later ++ concat (bodies ps)) (omega arith) is (omega arith) ∙ omega arith
      where
        cookie_most : (b : Bool) (n : ℕ) → n ≤ 65536 → cond b (4 + (n + 7) / 8) 8 ≤ 8196
        cookie_most true n h = omega arith
        cookie_most false n h = omega arith

    other_by : (b : Bool) → read.has_offsets (roaring ids) ≡ b → (b && not (eqb (read.offset_at (roaring ids) m) (read.start_at (roaring ids) m))) ≡ false
    other_by true e = ap not (eq-eqb (read.offset_at (roaring ids) m) (read.start_at (roaring ids) m) (offset_is e))
    other_by false e = refl

    container_none : container_fault (roaring ids) m ≡ None
    unfolding xs
    container_none =
        let bytes : List ℕ = roaring ids in
        let begin : ℕ = read.start_at bytes m in
        let end : ℕ = begin + read.size_from bytes m begin in
        let is = own ids r m less in
        steps.numbers_there bytes m begin refl end refl room (read.position_at bytes m) (read.count_at bytes m) (read.is_run bytes m) refl refl refl (falls_by m refl) (other_by (read.has_offsets bytes) refl)
        ∙ ap (numbers_fault m (read.position_at bytes m) (read.is_run bytes m) (read.count_at bytes m)) (steps.body_is bytes m begin refl end refl room ∙ body_is ids r m less)
        ∙ (λ i. numbers_fault m (read.position_at bytes m) (own_run ids r m less i) (own_count ids r m less i) (container xs))
        ∙ fault_none m (read.position_at bytes m) xs (container xs) (are_runs xs) is.rising (container_back xs is.rising) (runs_apart xs is.rising)

  containers_none : (n : ℕ) → n ≤ count ids r → first_of (container_fault (roaring ids)) n ≡ None
  containers_none zero h = first_start (container_fault (roaring ids))
  containers_none (suc n) h =
      let next : n + 1 ≡ suc n = omega arith in
      subst (λ (k : ℕ). first_of (container_fault (roaring ids)) k ≡ None) next (first_more (container_fault (roaring ids)) n (containers_none n (omega arith)) (container_none n (omega arith)))

  -- ---- what is before and after them

  all_there : length (front ids r (count ids r)) ≡ length (roaring ids)
  all_there =
      let ps : List (ℕ × List ℕ) = chunks ids r in
      ap (λ (l : List (ℕ × List ℕ)). length ((cookie (lists ps) ++ (entries ps ++ offs ids r)) ++ concat (bodies l))) (take_all (count ids r) ps (omega arith))
      ∙ ap length (append_assoc (cookie (lists ps)) (entries ps ++ offs ids r) (concat (bodies ps)) ∙ ap (λ (l : List ℕ). cookie (lists ps) ++ l) (append_assoc (entries ps) (offs ids r) (concat (bodies ps)))
      ∙ sym (layout ids r))

  head_room : read.head_len (roaring ids) ≤ length (roaring ids)
  head_room =
      let ps : List (ℕ × List ℕ) = chunks ids r in
      let a = head_size ids r in
      let b = length-append (cookie (lists ps) ++ (entries ps ++ offs ids r)) (concat (bodies (take (count ids r) ps))) in
      let d = all_there in
      omega arith

  cookie_room : length (cookie (lists (chunks ids r))) ≤ length (roaring ids)
  cookie_room =
      let ps : List (ℕ × List ℕ) = chunks ids r in
      let a = ap length (layout ids r) ∙ length-append (cookie (lists ps)) (entries ps ++ (offs ids r ++ concat (bodies ps))) in
      omega arith

  cookie_none : (b : Bool) → any ids r ≡ b → (4 ≤ length (roaring ids)) × (cookie_fault (roaring ids) ≡ None)
  unfolding cookie_fault
  cookie_none true e =
      let size : length (cookie (lists (chunks ids r))) ≡ 4 + (count ids r + 7) / 8 = cookie_size ids r ∙ ap (λ (b : Bool). cond b (4 + (count ids r + 7) / 8) 8) e in
      let room = cookie_room in (
        omega arith,
        ap (λ (b : Bool). cond b None (cond (eqb (short_at 4 (roaring ids) 0) 12346)
            (option_or (cond (ltb (length (roaring ids)) 8) (Some Short) None) (cond (leb (read.containers (roaring ids)) 65536) None (Some BadNumber)))
            (Some (BadVersion (Rattle.std.proofs.Common.get_or (roaring ids) 0 0))))) (runs_are ids r ∙ e),
      )
  cookie_none false e =
      let size : length (cookie (lists (chunks ids r))) ≡ 8 = cookie_size ids r ∙ ap (λ (b : Bool). cond b (4 + (count ids r + 7) / 8) 8) e in
      let room = cookie_room in
      let most = few ids r in
      let many = count_is ids r in
      let long : 8 ≤ length (roaring ids) = omega arith in
      let fits : read.containers (roaring ids) ≤ 65536 = omega arith in
      let other : Option SetError = Some (BadVersion (Rattle.std.proofs.Common.get_or (roaring ids) 0 0)) in (
        omega arith,
        ap (λ (b : Bool). cond b None (cond (eqb (short_at 4 (roaring ids) 0) 12346)
            (option_or (cond (ltb (length (roaring ids)) 8) (Some Short) None) (cond (leb (read.containers (roaring ids)) 65536) None (Some BadNumber))) other)) (runs_are ids r ∙ e)
            ∙ ap (λ (n : ℕ). cond (eqb n 12346) (option_or (cond (ltb (length (roaring ids)) 8) (Some Short) None) (cond (leb (read.containers (roaring ids)) 65536) None (Some BadNumber))) other) (four_is ids r e)
            ∙ ap (λ (b : Bool). option_or (cond b (Some Short) None) (cond (leb (read.containers (roaring ids)) 65536) None (Some BadNumber))) (le-ltb (length (roaring ids)) 8 long)
            ∙ ap (λ (b : Bool). cond b None (Some BadNumber)) (le-leb (read.containers (roaring ids)) 65536 fits),
      )

  head_none : head_fault (roaring ids) ≡ None
  unfolding head_fault
  head_none =
      let (four, cookie_is) = cookie_none (any ids r) refl in
      ap (λ (b : Bool). option_or (cond b (Some Short) None) (option_or (cookie_fault (roaring ids)) (cond (ltb (length (roaring ids)) (read.head_len (roaring ids))) (Some Short) None)))
      (le-ltb (length (roaring ids)) 4 four)
      ∙ ap (λ (c : Option SetError). option_or c (cond (ltb (length (roaring ids)) (read.head_len (roaring ids))) (Some Short) None)) cookie_is
      ∙ ap (λ (b : Bool). cond b (Some Short) None) (le-ltb (length (roaring ids)) (read.head_len (roaring ids)) head_room)

  end_there : read.start_at (roaring ids) (read.containers (roaring ids)) ≡ length (roaring ids)
  end_there = ap (read.start_at (roaring ids)) (count_is ids r) ∙ start_is ids r (count ids r) (omega arith) ∙ all_there

  pub no_fault : fault (roaring ids) ≡ None
  unfolding fault
  no_fault =
      let bytes : List ℕ = roaring ids in
      let last : Option SetError = cond (ltb (read.start_at bytes (read.containers bytes)) (length bytes)) (Some Trailing) None in
      let done = end_there in
      let each = ap (first_of (container_fault bytes)) (count_is ids r) ∙ containers_none (count ids r) (omega arith) in
      ap (λ (h : Option SetError). option_or h (option_or (first_of (container_fault bytes) (read.containers bytes)) last)) head_none
      ∙ ap (λ (h : Option SetError). option_or h last) each
      ∙ ap (λ (b : Bool). cond b (Some Trailing) None) (le-ltb (read.start_at bytes (read.containers bytes)) (length bytes) (omega arith))
