-- A body has no fault exactly if it is the body of the numbers that are read from it.
use Rattle.std.proofs.Common.{◌≡◌, ◌⊎◌, ℕ, ◌%◌, ◌*◌, ◌/◌, ◌<◌, ◌≤◌, Bool, List, [], ◌∷◌, cond, drop, true, false, length, length-drop, None, Option, Some, sym, ap, ◌∙◌, arith, inl, inr, subst, refl}
use Rattle.std.specs.Option.{is_none, is_some}
use Rattle.std.proofs.lemmas.Bool.{cases_lt, eqb-true, true≢false}
use Rattle.std.proofs.lemmas.Bool.Decides.{eqb_tells}
use Rattle.bitpack_groups.proofs.ForCallers.{passed}
use Rattle.bitpack_sets.proofs.lemmas.encodings.BodyLaws.{by_head, by_size, few, cases_few, body_blocks, body_numbers, body_runs, numbers_len, runs_short}
use Rattle.bitpack_slices.proofs.ForCallers.{EachByte, blocks_are_blocks, blocks_back, blocks_begin, blocks_known, blocks_tested, both_true, bounds_back, bounds_rise, bytes_dropped, fault_of_blocks, fault_of_runs, if_none', pairs_back, pairs_rise, runs_back, runs_begun, runs_len, runs_pass, runs_rise}
use Rattle.bitpack_sets.proofs.lemmas.faults.FaultLaws.{if_none, some_not}
use Rattle.bitpack_sets.proofs.lemmas.faults.KnownLaws.{body_none, none_body}
use Rattle.bitpack_sets.specs.Directory.{body_numbers_of}
use Rattle.bitpack_slices.specs.Bodies.{IsRising, blocks, numbers}
use Rattle.bitpack_slices.specs.Faults.{body_fault, runs_fault}
use Rattle.bitpack_slices.specs.Runs.{are_few, are_runs, begins_runs, boundaries, run_numbers, runs, runs_from}
use Rattle.bitpack_slices.specs.Slices.{IsBlocks, are_blocks, block_numbers, first_fall, pairs_of}
use Rattle.bitpack_sets.specs.Sound.{IsBody}
use Rattle.bitpack_slices.specs.declared.set_error.SetError.TheVariants.{BadBody, LooseBody}

-- ---- tests that are passed

kept : {T : Type 0} (b : Bool) (inner : Option T) (e : T) → cond b inner (Some e) ≡ None → (b ≡ true) × (inner ≡ None)
kept true inner e h = (refl, h)
kept false inner e h = absurd (true≢false (ap is_some h))

none_is : (o : Option ℕ) → is_none o ≡ true → o ≡ None
none_is None e = refl
none_is (Some x) e = absurd (true≢false (sym e))

below_of : (x y : ℕ) → x ≤ y → (x ≡ y → ⊥) → x < y
below_of x y h ne = elim (cases_lt x y) [ inl less ↦ less | inr more ↦ absurd (ne (omega arith)) ]

-- ---- runs

begun_head : (bytes : List ℕ) → begins_runs bytes ≡ true → bytes ≡ 1 ∷ 255 ∷ drop 2 bytes
begun_head [] e = absurd (true≢false (sym e))
begun_head (a ∷ []) e = absurd (true≢false (sym e))
begun_head (a ∷ b ∷ bytes) e =
    let (front, last) = both_true _ _ e in
    let (_, first) = both_true _ _ front in
    ap (λ (n : ℕ). n ∷ b ∷ bytes) (eqb-true a 1 first) ∙ ap (λ (n : ℕ). 1 ∷ n ∷ bytes) (eqb-true b 255 last)

-- boundaries that pass the test are those of their numbers
runs_known : (m count : ℕ) (bytes : List ℕ) → EachByte bytes → begins_runs bytes ≡ true → runs_fault m count (drop 2 bytes) ≡ None
    → IsBody count bytes (runs_from 0 (drop 2 bytes))
unfolding numbers runs
runs_known m count bytes are begun h =
    let rest : List ℕ = drop 2 bytes in
    let bounds : List ℕ = pairs_of rest in
    let xs : List ℕ = run_numbers bounds in
    let (passes, loose) = kept (are_runs count rest) _ (BadBody m) h in
    let few_bounds = if_none (are_few (length rest / 2) count) (LooseBody m) loose in
    let (front, counted) = both_true _ _ passes in
    let (sized, rising) = both_true _ _ front in
    let (some, even) = both_true _ _ sized in
    let each = bytes_dropped 2 bytes are in
    let size : length xs ≡ count = eqb-true (length xs) count counted in
    let r : IsRising 0 65536 bounds = pairs_rise 0 rest each (none_is (first_fall 0 bounds) rising) in
    let two : length rest ≡ 2 * (length rest / 2) = (let e = eqb-true (length rest % 2) 0 even in omega arith) in
    let (many, back) = pairs_back rest (length rest / 2) each two in
    let own : boundaries xs ≡ bounds = bounds_back bounds r in
    let fits : few xs ≡ true = ap (λ (l : List ℕ). are_few (length l) (length xs)) own ∙ ap (λ (n : ℕ). are_few n (length xs)) many ∙ ap (are_few (length rest / 2)) size ∙ few_bounds in
    record {
      rising = runs_rise 0 bounds r;
      count_is = size;
      encoding = body_runs xs fits ∙ ap runs own ∙ ap (λ (l : List ℕ). 1 ∷ 255 ∷ l) back ∙ sym (begun_head bytes begun);
    }

runs_sound : (m position count : ℕ) (bytes xs : List ℕ) → 0 < length xs → length xs ≡ count → IsRising 0 65536 xs → few xs ≡ true → runs (boundaries xs) ≡ bytes
    → body_fault m position count bytes ≡ None
unfolding runs
runs_sound m position count bytes xs some size rising fits same =
    let bounds : List ℕ = boundaries xs in
    let (more, short) = runs_short xs some fits in
    let long = runs_len bounds in
    let len = ap length same in
    let dropped = length-drop 2 bytes in
    let half : length (drop 2 bytes) / 2 ≡ length bounds = omega arith in
    let tested : are_runs count (drop 2 bytes) ≡ true =
    ap (λ (l : List ℕ). are_runs count (drop 2 l)) (sym same) ∙ runs_pass count bounds (bounds_rise xs rising) more (ap length (runs_back xs rising) ∙ size) in
    let few_bounds : are_few (length (drop 2 bytes) / 2) count ≡ true = ap (λ (n : ℕ). are_few n count) half ∙ ap (are_few (length bounds)) (sym size) ∙ fits in
    fault_of_runs m position count bytes (λ e. absurd (omega arith)) (ap begins_runs (sym same) ∙ runs_begun bounds)
    ∙ ap (λ (b : Bool). cond b (cond (are_few (length (drop 2 bytes) / 2) count) None (Some (LooseBody m))) (Some (BadBody m))) tested
    ∙ if_none' (are_few (length (drop 2 bytes) / 2) count) (LooseBody m) few_bounds

-- ---- bodies

pub body_read : (m position count : ℕ) (bytes : List ℕ) → EachByte bytes → length bytes ≤ 2 * count → body_fault m position count bytes ≡ None
    → IsBody count bytes (body_numbers_of count bytes)
body_read m position count bytes are size h = elim (eqb_tells (length bytes) (2 * count)) [
  | inl (equal, same) ↦
      let (rising, many, encoding) = body_none m position count bytes are same h in
      let read : pairs_of bytes ≡ body_numbers_of count bytes = sym (ap (λ (b : Bool). by_size b bytes) equal) in
      subst (IsBody count bytes) read (record { rising = rising; count_is = many; encoding = encoding })
  | inr (other, ne) ↦ elim (cases_begun (begins_runs bytes)) [
    | inl begun ↦
        let read : runs_from 0 (drop 2 bytes) ≡ body_numbers_of count bytes = sym (ap (λ (b : Bool). by_size b bytes) other ∙ ap (λ (b : Bool). by_head b bytes) begun) in
        subst (IsBody count bytes) read (runs_known m count bytes are begun (sym (fault_of_runs m position count bytes ne begun) ∙ h))
    | inr plain ↦
        let less : length bytes < 2 * count = below_of (length bytes) (2 * count) size ne in
        let (tested, loose) = kept (are_blocks count bytes) _ (BadBody m) (sym (fault_of_blocks m position count bytes ne plain) ∙ h) in
        let (many_bounds, _) = passed (are_few (length (boundaries (block_numbers bytes))) count) (LooseBody m) None loose in
        let is : IsBlocks count bytes = (blocks_tested count bytes are).0 tested in
        let (rising, many, encoding) = blocks_known count bytes is in
        let long = ap length encoding in
        let read : block_numbers bytes ≡ body_numbers_of count bytes = sym (ap (λ (b : Bool). by_size b bytes) other ∙ ap (λ (b : Bool). by_head b bytes) plain) in
        let no_runs : few (block_numbers bytes) ≡ false = ap (are_few (length (boundaries (block_numbers bytes)))) many ∙ many_bounds in
        subst (IsBody count bytes) read (record { rising = rising; count_is = many; encoding = body_blocks (block_numbers bytes) no_runs (omega arith) ∙ encoding })
  ]
]
  where
    cases_begun : (b : Bool) → (b ≡ true) ⊎ (b ≡ false)
    cases_begun true = inl refl
    cases_begun false = inr refl

pub body_sound : (m position count : ℕ) (bytes xs : List ℕ) → EachByte bytes → 0 < count → IsBody count bytes xs → body_fault m position count bytes ≡ None
body_sound m position count bytes xs are some is =
    let many = is.count_is in
    elim (cases_few xs) [
      | inl fits ↦ runs_sound m position count bytes xs (omega arith) many is.rising fits (sym (body_runs xs fits) ∙ is.encoding)
      | inr no_runs ↦ elim (cases_lt (length (blocks xs)) (2 * length xs)) [
        | inl less ↦
            let encoding : blocks xs ≡ bytes = sym (body_blocks xs no_runs less) ∙ is.encoding in
            let long = ap length encoding in
            let blocked : IsBlocks count bytes = subst (λ (n : ℕ). IsBlocks n bytes) many (subst (IsBlocks (length xs)) encoding (blocks_are_blocks xs is.rising (omega arith))) in
            let read : block_numbers bytes ≡ xs = ap block_numbers (sym encoding) ∙ blocks_back xs is.rising (omega arith) in
            let many_bounds : are_few (length (boundaries (block_numbers bytes))) count ≡ false =
            ap (λ (l : List ℕ). are_few (length (boundaries l)) count) read ∙ ap (are_few (length (boundaries xs))) (sym many) ∙ no_runs in
            fault_of_blocks m position count bytes (λ e. absurd (omega arith)) (blocks_begin count bytes blocked)
            ∙ ap (λ (b : Bool). cond b (cond (are_few (length (boundaries (block_numbers bytes))) count) (Some (LooseBody m)) None) (Some (BadBody m))) ((blocks_tested count bytes are).1 blocked)
            ∙ some_not (are_few (length (boundaries (block_numbers bytes))) count) (LooseBody m) None many_bounds refl
        | inr more ↦ none_body m position count bytes xs (sym (ap length (sym (body_numbers xs no_runs more) ∙ is.encoding)) ∙ numbers_len xs ∙ ap (λ (n : ℕ). 2 * n) many) is.rising many no_runs more
            (sym (body_numbers xs no_runs more) ∙ is.encoding)
      ]
    ]
