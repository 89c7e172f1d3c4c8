-- A number that does not follow at once ends a run, and begins one.
use Rattle.std.proofs.Common.{◌≡◌, ◌+◌, ◌-◌, ◌%◌, ◌<◌, ◌≤◌, ◌++◌, ◌∷◌, ◌∙◌, [], Bool, List, ap, arith, cond, drop, get_or, length, length-append, length-set, ltb, map, set, sym, take, ℕ}
use Rattle.std.proofs.lemmas.Bool.{le-ltb, lt-ltb}
use Rattle.std.proofs.lemmas.List.{append-nil, get_or-map, length-map, length-take-le, take_all, take_more_set}
use Rattle.bitpack_slices.proofs.lemmas.bodies.RunBounds.{bounds_apart, bounds_begin, bounds_ended, bounds_same, some_bounds, two_written}
use Rattle.bitpack_slices.proofs.chunk.writing.fill_bounds.Goals as goal
use Rattle.bitpack_slices.proofs.chunk.writing.fill_bounds.Goals.{then-low-after, else-low-after}
use Rattle.bitpack_slices.specs.Runs.{boundaries, bounds_after}

low_at : (ids : List ℕ) (i : ℕ) → i < length ids → get_or (map (λ id. id % 65536) ids) i 0 ≡ get_or ids i 0 % 65536
low_at ids i h = get_or-map (λ id. id % 65536) ids i 0 0 h

pub bounds-bounds-0 : goal.bounds-bounds-0
bounds-bounds-0 c =
    let long = length-map c.args.ids.now (λ id. id % 65536) in
    let some = some_bounds (map (λ id. id % 65536) c.args.ids.now) (omega (arith, c.requires.some)) in
    omega (arith, c.requires.size)

pub loop-index-init : goal.loop-index-init
loop-index-init c =
    let ids : List ℕ = c.args.ids.now in
    let long = length-map ids (λ id. id % 65536) in
    let some = some_bounds (map (λ id. id % 65536) ids) (omega (arith, c.requires.some)) in
    let size = length-set c.args.bounds.now 0 (get_or ids 0 0 % 65536) in
    record {
      size = size;
      begun = omega arith;
      within = omega (arith, c.requires.size);
      written = bounds_begin (map (λ id. id % 65536) ids) c.args.bounds.now (get_or ids 0 0 % 65536) (omega (arith, c.requires.some)) (omega (arith, c.requires.size)) (sym (low_at ids 0 c.requires.some));
    }

-- how many are left to write if a number does not follow at once
room : (all bounds rest : List ℕ) (next a b : ℕ) → next ≤ length bounds → length bounds ≡ length all → all ≡ take next bounds ++ (a ∷ b ∷ rest) → next + 2 ≤ length bounds
room all bounds rest next a b h size e =
    let taken = length-take-le next bounds h in
    let both = ap (λ (l : List ℕ). length l) e in
    let split = length-append (take next bounds) (a ∷ b ∷ rest) in
    omega arith

pub bounds-bounds-next : goal.bounds-bounds-next
bounds-bounds-next c =
    let ids : List ℕ = c.args.ids.now in
    let i : ℕ = c.loop-index.index in
    let long = length-map ids (λ id. id % 65536) in
    let size = c.loop-index.invariant.size in
    let begun = c.loop-index.invariant.begun in
    let before = low_at ids (i - 1) (omega (arith, c.loop-index-test.true)) in
    let here = low_at ids i c.loop-index-test.true in
    let apart = bounds_apart (get_or (map (λ id. id % 65536) ids) (i - 1) 0) i (map (λ id. id % 65536) ids) (omega (arith, c.loop-index-test.true)) (λ e. c.if-low-after.true (omega arith)) in
    let more = room (boundaries (map (λ id. id % 65536) ids)) c.loop-index.bounds _ c.loop-index.next _ _ c.loop-index.invariant.within (omega (arith, c.requires.size)) (c.loop-index.invariant.written ∙ ap (λ (l : List ℕ). take c.loop-index.next c.loop-index.bounds ++ l) apart) in
    omega arith

pub bounds-bounds-next-then-low-after : goal.bounds-bounds-next-then-low-after
bounds-bounds-next-then-low-after c =
    let ids : List ℕ = c.args.ids.now in
    let i : ℕ = c.loop-index.index in
    let long = length-map ids (λ id. id % 65536) in
    let size = c.loop-index.invariant.size in
    let begun = c.loop-index.invariant.begun in
    let before = low_at ids (i - 1) (omega (arith, c.loop-index-test.true)) in
    let here = low_at ids i c.loop-index-test.true in
    let same = length-set c.loop-index.bounds c.loop-index.next (get_or ids (i - 1) 0 % 65536 + 1) in
    let apart = bounds_apart (get_or (map (λ id. id % 65536) ids) (i - 1) 0) i (map (λ id. id % 65536) ids) (omega (arith, c.loop-index-test.true)) (λ e. c.if-low-after.true (omega arith)) in
    let more = room (boundaries (map (λ id. id % 65536) ids)) c.loop-index.bounds _ c.loop-index.next _ _ c.loop-index.invariant.within (omega (arith, c.requires.size)) (c.loop-index.invariant.written ∙ ap (λ (l : List ℕ). take c.loop-index.next c.loop-index.bounds ++ l) apart) in
    omega arith

pub loop-index-preserved : goal.loop-index-preserved
loop-index-preserved c =
    let ids : List ℕ = c.args.ids.now in
    let xs : List ℕ = map (λ id. id % 65536) ids in
    let i : ℕ = c.loop-index.index in
    let next : ℕ = c.loop-index.next in
    let bounds : List ℕ = c.loop-index.bounds in
    let long = length-map ids (λ id. id % 65536) in
    let size = c.loop-index.invariant.size in
    let begun = c.loop-index.invariant.begun in
    let before = low_at ids (i - 1) (omega (arith, c.loop-index-test.true)) in
    let here = low_at ids i c.loop-index-test.true in
    let back : i ≡ i + 1 - 1 = omega arith in
    elim c.if-low-after.branch [
      | then-low-after w ↦ (
          let apart = bounds_apart (get_or xs (i - 1) 0) i xs (omega (arith, c.loop-index-test.true)) (λ e. w.if-low-after.true (omega arith)) in
          let so_far = c.loop-index.invariant.written ∙ ap (λ (l : List ℕ). take next bounds ++ l) apart in
          let more = room (boundaries xs) bounds _ next _ _ c.loop-index.invariant.within (omega (arith, c.requires.size)) so_far in
          let after : List ℕ = set (set bounds next (get_or ids (i - 1) 0 % 65536 + 1)) (next + 1) (get_or ids i 0 % 65536) in
          let long' : length after ≡ length bounds = length-set (set bounds next (get_or ids (i - 1) 0 % 65536 + 1)) (next + 1) _ ∙ length-set bounds next _ in
          let whole = ap (λ (l : List ℕ). length l) w.bounds-is in
          let step = w.next-is in
          record {
            size = omega arith;
            begun = omega arith;
            within = omega arith;
            written = two_written bounds (boundaries xs) _ next (get_or xs (i - 1) 0 + 1) (get_or xs i 0) more so_far
                ∙ ap (λ (k : ℕ). take (next + 2) (set (set bounds next (k + 1)) (next + 1) (get_or xs i 0)) ++ bounds_after (get_or xs i 0) (drop (i + 1) xs)) before
                ∙ ap (λ (k : ℕ). take (next + 2) (set (set bounds next (get_or ids (i - 1) 0 % 65536 + 1)) (next + 1) k) ++ bounds_after (get_or xs i 0) (drop (i + 1) xs)) here
                ∙ ap (λ (l : List ℕ). take (next + 2) l ++ bounds_after (get_or xs i 0) (drop (i + 1) xs)) (sym w.bounds-is)
                ∙ ap (λ (k : ℕ). take k c.if-low-after.bounds ++ bounds_after (get_or xs i 0) (drop (i + 1) xs)) (sym w.next-is)
                ∙ ap (λ (k : ℕ). take c.if-low-after.next c.if-low-after.bounds ++ bounds_after (get_or xs k 0) (drop (i + 1) xs)) back;
          })
      | else-low-after w ↦ (
          let same = bounds_same (get_or xs (i - 1) 0) i xs (omega (arith, c.loop-index-test.true)) (omega (arith, w.if-low-after.false)) in
          let whole = ap (λ (l : List ℕ). length l) w.bounds-is in
          let step = w.next-is in
          let within = c.loop-index.invariant.within in
          record {
            size = omega arith;
            begun = omega arith;
            within = omega arith;
            written = c.loop-index.invariant.written ∙ ap (λ (l : List ℕ). take next bounds ++ l) same
                ∙ ap (λ (l : List ℕ). take next l ++ bounds_after (get_or xs i 0) (drop (i + 1) xs)) (sym w.bounds-is)
                ∙ ap (λ (k : ℕ). take k c.if-low-after.bounds ++ bounds_after (get_or xs i 0) (drop (i + 1) xs)) (sym w.next-is)
                ∙ ap (λ (k : ℕ). take c.if-low-after.next c.if-low-after.bounds ++ bounds_after (get_or xs k 0) (drop (i + 1) xs)) back;
          })
    ]

-- the last boundary
ended : (ids : List ℕ) (i : ℕ) (bounds : List ℕ) (next : ℕ) → 1 ≤ i → i ≡ length ids → next ≤ length bounds
    → boundaries (map (λ id. id % 65536) ids) ≡ take next bounds ++ bounds_after (get_or (map (λ id. id % 65536) ids) (i - 1) 0) (drop i (map (λ id. id % 65536) ids))
    → boundaries (map (λ id. id % 65536) ids) ≡ take next bounds ++ cond (ltb (get_or ids (length ids - 1) 0 % 65536) 65535) ((get_or ids (length ids - 1) 0 % 65536 + 1) ∷ []) []
ended ids i bounds next some all within written =
    let xs : List ℕ = map (λ id. id % 65536) ids in
    let long = length-map ids (λ id. id % 65536) in
    let last : i - 1 ≡ length ids - 1 = omega arith in
    written ∙ ap (λ (l : List ℕ). take next bounds ++ l) (bounds_ended (get_or xs (i - 1) 0) i xs (omega arith))
    ∙ ap (λ (k : ℕ). take next bounds ++ cond (ltb k 65535) ((k + 1) ∷ []) []) (low_at ids (i - 1) (omega arith) ∙ ap (λ (k : ℕ). get_or ids k 0 % 65536) last)

pub bounds-bounds-next-then-end-lt65536 : goal.bounds-bounds-next-then-end-lt65536
bounds-bounds-next-then-end-lt65536 c =
    let ids : List ℕ = c.args.ids.now in
    let low : ℕ = get_or ids (length ids - 1) 0 % 65536 in
    let size = c.loop-index.invariant.size in
    let begun = c.loop-index.invariant.begun in
    let all : c.loop-index.index ≡ length ids = omega (arith, c.loop-index-test.false) in
    let end = ended ids c.loop-index.index c.loop-index.bounds c.loop-index.next begun all c.loop-index.invariant.within c.loop-index.invariant.written
    ∙ ap (λ (b : Bool). take c.loop-index.next c.loop-index.bounds ++ cond b ((low + 1) ∷ []) []) (lt-ltb low 65535 (omega (arith, c.if-end-lt65536.true))) in
    let whole = ap (λ (l : List ℕ). length l) end in
    let both = length-append (take c.loop-index.next c.loop-index.bounds) ((low + 1) ∷ []) in
    let taken = length-take-le c.loop-index.next c.loop-index.bounds c.loop-index.invariant.within in
    omega (arith, c.requires.size)

pub returns-then-end-lt65536 : goal.returns-then-end-lt65536
returns-then-end-lt65536 c =
    let ids : List ℕ = c.args.ids.now in
    let low : ℕ = get_or ids (length ids - 1) 0 % 65536 in
    let next : ℕ = c.loop-index.next in
    let bounds : List ℕ = c.loop-index.bounds in
    let size = c.loop-index.invariant.size in
    let begun = c.loop-index.invariant.begun in
    let all : c.loop-index.index ≡ length ids = omega (arith, c.loop-index-test.false) in
    let end = ended ids c.loop-index.index bounds next begun all c.loop-index.invariant.within c.loop-index.invariant.written
    ∙ ap (λ (b : Bool). take next bounds ++ cond b ((low + 1) ∷ []) []) (lt-ltb low 65535 (omega (arith, c.if-end-lt65536.true))) in
    let whole = ap (λ (l : List ℕ). length l) end in
    let both = length-append (take next bounds) ((low + 1) ∷ []) in
    let taken = length-take-le next bounds c.loop-index.invariant.within in
    let long = length-set bounds next (low + 1) in
    sym (take_all (next + 1) (set bounds next (low + 1)) (omega (arith, c.requires.size))) ∙ take_more_set bounds next (low + 1) (omega (arith, c.requires.size)) ∙ sym end

pub returns-else-end-lt65536 : goal.returns-else-end-lt65536
returns-else-end-lt65536 c =
    let ids : List ℕ = c.args.ids.now in
    let low : ℕ = get_or ids (length ids - 1) 0 % 65536 in
    let next : ℕ = c.loop-index.next in
    let bounds : List ℕ = c.loop-index.bounds in
    let size = c.loop-index.invariant.size in
    let begun = c.loop-index.invariant.begun in
    let all : c.loop-index.index ≡ length ids = omega (arith, c.loop-index-test.false) in
    let end = ended ids c.loop-index.index bounds next begun all c.loop-index.invariant.within c.loop-index.invariant.written
    ∙ ap (λ (b : Bool). take next bounds ++ cond b ((low + 1) ∷ []) []) (le-ltb low 65535 (omega (arith, c.if-end-lt65536.false))) ∙ append-nil (take next bounds) in
    let whole = ap (λ (l : List ℕ). length l) end in
    let taken = length-take-le next bounds c.loop-index.invariant.within in
    sym (take_all next bounds (omega (arith, c.requires.size))) ∙ sym end
