-- The tests of slices and blocks, as faults have them, say what bytes are. The blocks of numbers pass them.
use Rattle.std.proofs.Common.{◌≡◌, ℕ, zero, suc, ◌+◌, ◌-◌, ◌*◌, ◌<◌, ◌≤◌, Bool, true, false, ◌&&◌, eqb, List, [], ◌∷◌, map, take, drop, length, get_or, Option, None, refl, sym, ap, ◌∙◌, arith, inl, inr, subst, eqb-true, eq-eqb, length-append}
use Rattle.std.specs.Bool.{Decides}
use Rattle.std.specs.Option.{is_none}
use Rattle.std.proofs.lemmas.Bool.{cases_lt, cond_above, cond_below, le-leb, leb-true, lt-ltb, true≢false}
use Rattle.std.proofs.lemmas.List.{length-map, nil_from_length}
use Rattle.bitpack_groups.proofs.ForCallers.{little_len}
use Rattle.bitpack_slices.proofs.lemmas.bytes.ArrayLaws.{no_fall, rises_from}
use Rattle.bitpack_slices.proofs.lemmas.bits.CountLaws.{few_numbers, few_slice, full_slice, some_counted, some_slice}
use Rattle.bitpack_slices.proofs.lemmas.bytes.DecodeLaws.{bytes_dropped}
use Rattle.bitpack_slices.proofs.lemmas.numbers.HalfLaws.{is_below}
use Rattle.bitpack_slices.proofs.lemmas.bodies.LongLaws.{Below}
use Rattle.bitpack_slices.proofs.lemmas.bodies.JoinLaws.{AreParts, join}
use Rattle.bitpack_slices.proofs.lemmas.slices.SliceLaws.{slice_few, slice_many, slice_some}
use Rattle.bitpack_slices.proofs.lemmas.bytes.Bytes.{EachByte}
use Rattle.bitpack_slices.specs.Bodies.{IsRising, bits, slice}
use Rattle.bitpack_slices.specs.Slices.{AreSlices, IsBlocks, IsSlice, are_blocks, are_slices, bits_in, counts_in, first_fall, high_count, highs_in, is_slice, numbers_in, rises, slice_len, slices_in}

pub both_true : (a b : Bool) → (a && b) ≡ true → (a ≡ true) × (b ≡ true)
both_true true b e = (refl, e)
both_true false b e = absurd (true≢false (sym e))

pub true_both : (a b : Bool) → a ≡ true → b ≡ true → (a && b) ≡ true
true_both a b e f = ap (λ (x : Bool). x && b) e ∙ f

none_is : (o : Option ℕ) → is_none o ≡ true → o ≡ None
none_is None e = refl
none_is _ e = absurd (true≢false (sym e))

-- ---- slices

bytes_below : (bytes : List ℕ) → EachByte bytes → Below 256 bytes
bytes_below [] are = tt
bytes_below (byte ∷ bytes) (a, are) = (a, bytes_below bytes are)

pub bytes_taken : (n : ℕ) (bytes : List ℕ) → EachByte bytes → EachByte (take n bytes)
bytes_taken zero bytes are = tt
bytes_taken (suc n) [] are = tt
bytes_taken (suc n) (byte ∷ bytes) (a, are) = (a, bytes_taken n bytes are)

pub slice_tested : (count : ℕ) (bytes : List ℕ) → count ≤ 256 → length bytes ≡ slice_len count → EachByte bytes → Decides (is_slice count bytes) (IsSlice count bytes)
slice_tested count bytes most size are = elim (cases_lt count 32) [
  | inl few ↦
      let test : is_slice count bytes ≡ rises bytes = sym (cond_below count 32 (rises bytes) _ few) in
      let long : length bytes ≡ count = size ∙ sym (cond_below count 32 count _ few) in (
        λ e. few_slice count bytes few long (rises_from 0 256 bytes (bytes_below bytes are) (none_is (first_fall 0 bytes) (sym test ∙ e))),
        λ is. test ∙ ap is_none (no_fall 0 0 256 bytes (subst (IsRising 0 256) (few_numbers count bytes few) is.rising)),
      )
  | inr more ↦ elim (cases_lt count 256) [
    | inl some ↦
        let test : is_slice count bytes ≡ eqb (bits_in bytes) count = sym (cond_above count 32 _ _ _ more (cond_below count 256 (eqb (bits_in bytes) count) _ some)) in
        let long : length bytes ≡ 32 = size ∙ sym (cond_above count 32 _ _ _ more (cond_below count 256 32 0 some)) in (
          λ e. some_slice count bytes more some long are (eqb-true (bits_in bytes) count (sym test ∙ e)),
          λ is. test ∙ eq-eqb (bits_in bytes) count (some_counted count bytes more some long are is),
        )
    | inr many ↦
        let test : is_slice count bytes ≡ true = sym (cond_above count 32 _ _ _ more (cond_above count 256 _ _ _ many refl)) in
        let none : length bytes ≡ 0 = size ∙ sym (cond_above count 32 _ _ _ more (cond_above count 256 32 0 _ many refl)) in
        let same : 256 ≡ count = omega arith in
        (λ e. subst (λ (n : ℕ). IsSlice n bytes) same (full_slice bytes none), λ is. test)
  ]
]

taken : (n : ℕ) (bytes : List ℕ) → n ≤ length bytes → length (take n bytes) ≡ n
taken zero bytes h = refl
taken (suc n) [] h = absurd (omega arith)
taken (suc n) (byte ∷ bytes) h = ap suc (taken n bytes (omega arith))

pub slices_tested : (counts bytes : List ℕ) → EachByte counts → EachByte bytes → Decides (are_slices counts bytes) (AreSlices counts bytes)
unfolding are_slices
slices_tested [] bytes small are = (λ e. nil_from_length bytes (eqb-true (length bytes) 0 e), λ e. eq-eqb (length bytes) 0 (ap length e))
slices_tested (less ∷ counts) bytes (a, small) are =
    let len : ℕ = slice_len (less + 1) in
    let front : List ℕ = take len bytes in
    let one : len ≤ length bytes → Decides (is_slice (less + 1) front) (IsSlice (less + 1) front) =
    λ room. slice_tested (less + 1) front (omega arith) (taken len bytes room) (bytes_taken len bytes are) in
    let (yields, needs) = slices_tested counts (drop len bytes) small (bytes_dropped len bytes are) in (
      λ e. let (p, rest) = both_true _ _ e in
          let (room, is) = both_true _ _ p in
          (leb-true len (length bytes) room, (one (leb-true len (length bytes) room)).0 is, yields rest),
      λ (room, is, rest). true_both _ _ (true_both _ _ (le-leb len (length bytes) room) ((one room).1 is)) (needs rest),
    )

-- ---- blocks

byte_at : (bytes : List ℕ) (i : ℕ) → EachByte bytes → get_or bytes i 0 < 256
byte_at [] i are = omega arith
byte_at (byte ∷ bytes) zero (a, are) = a
byte_at (byte ∷ bytes) (suc i) (a, are) = byte_at bytes i are

dropped_len : (n : ℕ) (bytes : List ℕ) → length (drop n bytes) ≡ length bytes - n
dropped_len zero bytes = omega arith
dropped_len (suc n) [] = omega arith
dropped_len (suc n) (byte ∷ bytes) = dropped_len n bytes ∙ omega arith

pub blocks_tested : (count : ℕ) (body : List ℕ) → EachByte body → Decides (are_blocks count body) (IsBlocks count body)
unfolding are_blocks
blocks_tested count body are =
    let many : ℕ = high_count body in
    let first = byte_at body 0 are in
    let fits : 1 + slice_len many + many ≤ length body → length (highs_in body) ≡ slice_len many =
    λ room. taken (slice_len many) (drop 1 body) (omega (arith, dropped_len 1 body)) in
    let high : 1 + slice_len many + many ≤ length body → Decides (is_slice many (highs_in body)) (IsSlice many (highs_in body)) =
    λ room. slice_tested many (highs_in body) (omega arith) (fits room) (bytes_taken (slice_len many) (drop 1 body) (bytes_dropped 1 body are)) in
    let (yields, needs) = slices_tested (counts_in body) (slices_in body) (bytes_taken many (drop (1 + slice_len many) body) (bytes_dropped (1 + slice_len many) body are))
    (bytes_dropped (1 + slice_len many + many) body are) in (
      λ e. let (e1, slices) = both_true _ _ e in
          let (e2, counted) = both_true _ _ e1 in
          let (e3, highs) = both_true _ _ e2 in
          let (some, room) = both_true _ _ e3 in
          let wide = leb-true (1 + slice_len many + many) (length body) room in
          record {
            some = is_below 0 (length body) some;
            room = wide;
            highs = (high wide).0 highs;
            count_is = eqb-true (numbers_in (counts_in body)) count counted;
            slices = yields slices;
          },
      λ is. true_both _ _ (true_both _ _ (true_both _ _ (true_both _ _ (lt-ltb 0 (length body) is.some) (le-leb (1 + slice_len many + many) (length body) is.room))
          ((high is.room).1 is.highs)) (eq-eqb (numbers_in (counts_in body)) count is.count_is)) (needs is.slices),
    )

-- ---- the blocks of numbers

pub slice_size : (xs : List ℕ) → length (slice xs) ≡ slice_len (length xs)
slice_size xs = elim (cases_lt (length xs) 32) [
  | inl few ↦ ap length (slice_few xs few) ∙ cond_below (length xs) 32 (length xs) _ few
  | inr more ↦ elim (cases_lt (length xs) 256) [
    | inl some ↦ ap length (slice_some xs more some) ∙ little_len 32 (bits xs) ∙ cond_above (length xs) 32 _ _ _ more (cond_below (length xs) 256 32 0 some)
    | inr many ↦ ap length (slice_many xs many) ∙ cond_above (length xs) 32 _ _ _ more (cond_above (length xs) 256 32 0 _ many refl)
  ]
]

abbrev pub counts_of : List (ℕ × List ℕ) → List ℕ
counts_of ps = map (λ part. length part.1 - 1) ps

pub counted : (low high : ℕ) (ps : List (ℕ × List ℕ)) → AreParts 256 low high ps → numbers_in (counts_of ps) ≡ length (join 256 ps)
unfolding numbers_in
counted low high [] are = refl
counted low high (p ∷ ps) (a, some, r, later) =
    let one = length-append (map (λ low. p.0 * 256 + low) p.1) (join 256 ps) in
    let two = length-map p.1 (λ low. p.0 * 256 + low) in
    let rest : numbers_in (counts_of ps) ≡ length (join 256 ps) = counted (p.0 + 1) high ps later in
    omega arith
