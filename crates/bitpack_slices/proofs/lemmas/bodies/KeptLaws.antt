-- Of some high bytes, those that have numbers are kept: their counts and slices are written one after the other.
use Rattle.std.proofs.Common.{◌≡◌, ℕ, ◌+◌, ◌-◌, ◌*◌, ◌/◌, ◌<◌, ◌≤◌, Bool, true, false, ◌||◌, cond, ltb, eqb, List, [], ◌∷◌, ◌++◌, map, length, get_or, refl, sym, ap, ◌∙◌, arith, drop, take, set, subst, append-nil, append_assoc}
use Rattle.std.specs.List.{filter, flat_map}
use Rattle.std.proofs.Math.Bool.{or-false}
use Rattle.std.proofs.lemmas.Bool.{le-ltb, lt-ltb}
use Rattle.std.proofs.lemmas.List.{drop_all, drop_more, length-map, length-take-le, nil_from_length, take_more_set, length-set}
use Rattle.bitpack_slices.proofs.lemmas.bits.BitmapLaws.{those_none}
use Rattle.bitpack_slices.proofs.lemmas.bits.UnpackLaws.{by_high, high_counted, lows}
use Rattle.bitpack_slices.proofs.lemmas.bodies.CutLaws.{len_few}
use Rattle.bitpack_slices.proofs.lemmas.bodies.LoadLaws.{eqb_turned, has_those, those_are, those_rise}
use Rattle.bitpack_slices.proofs.lemmas.bodies.PartLaws.{AreOccurring, blocks_by, has_own, some_highs}
use Rattle.bitpack_slices.proofs.lemmas.bytes.DecodeLaws.{rising_top}
use Rattle.bitpack_slices.proofs.lemmas.numbers.RetainedLaws.{rising_filter}
use Rattle.bitpack_slices.proofs.lemmas.slices.SelectionLaws.{both_or_none, has_passed, listed, no_part, out_of, passes}
use Rattle.bitpack_slices.proofs.lemmas.slices.SliceLaws.{slice_few}
use Rattle.bitpack_slices.specs.Bitmaps.{has_bit}
use Rattle.bitpack_slices.specs.Bodies.{IsRising, blocks, slice}
use Rattle.bitpack_slices.specs.Operations.{apply, those}
use Rattle.bitpack_slices.specs.Reads.{has}
use Rattle.bitpack_slices.specs.Selections.{parts_numbers}
use Rattle.bitpack_slices.specs.Slices.{slice_len}
use Rattle.bitpack_slices.specs.declared.blocks.Blocks.{Blocks}
use Rattle.bitpack_slices.specs.declared.operation.Operation.{Operation}

abbrev pub is_kept : (ℕ → Bool) → ℕ → Bool
is_kept p high = ltb 0 (length (lows p high))

abbrev pub kept_of : (ℕ → Bool) → List ℕ → List ℕ
kept_of p highs = filter (is_kept p) highs

abbrev less_of : (ℕ → Bool) → ℕ → ℕ
less_of p high = length (lows p high) - 1

abbrev bytes_of : (ℕ → Bool) → ℕ → List ℕ
bytes_of p high = slice (lows p high)

-- those that are left are still to be written
pub record KeptLeft (p : ℕ → Bool) (highs occurring counts slices : List ℕ) (index count kept next : ℕ) : Type 0 where
  pub space : 256 ≤ length counts
  pub few : kept ≤ index
  pub room : next ≤ 32 * kept
  pub all : count + length (by_high p (drop index highs)) ≡ length (by_high p highs)
  pub occur : (h : ℕ) → (has_bit occurring h || has h (kept_of p (drop index highs))) ≡ has h (kept_of p highs)
  pub counted : take kept counts ++ map (less_of p) (kept_of p (drop index highs)) ≡ map (less_of p) (kept_of p highs)
  pub written : take next slices ++ flat_map (bytes_of p) (kept_of p (drop index highs)) ≡ flat_map (bytes_of p) (kept_of p highs)

pub kept_begin : (p : ℕ → Bool) (highs occurring counts slices : List ℕ) → 256 ≤ length counts → ((h : ℕ) → has_bit occurring h ≡ false)
    → KeptLeft p highs occurring counts slices 0 0 0 0
kept_begin p highs occurring counts slices space clear = record {
  space = space;
  few = omega arith;
  room = omega arith;
  all = omega arith;
  occur = λ h. ap (λ (b : Bool). b || has h (kept_of p highs)) (clear h);
  counted = refl;
  written = refl;
}

or_moved : (a b c d : Bool) → a ≡ b → ((a || d) || c) ≡ (d || (b || c))
or_moved true b c true e = refl
or_moved true b c false e = ap (λ (x : Bool). x || c) e
or_moved false b c true e = refl
or_moved false b c false e = ap (λ (x : Bool). x || c) e

-- a high byte with numbers
pub kept_one : (p : ℕ → Bool) (highs occurring counts slices new out : List ℕ) (index count kept next more end : ℕ) → index < length highs → kept < length counts
    → KeptLeft p highs occurring counts slices index count kept next → 0 < more → more ≡ length (lows p (get_or highs index 0)) → end ≡ next + slice_len more
    → ((h : ℕ) → has_bit new h ≡ (eqb h (get_or highs index 0) || has_bit occurring h))
    → take end out ≡ take next slices ++ slice (lows p (get_or highs index 0))
    → KeptLeft p highs new (set counts kept (more - 1)) out (index + 1) (count + more) (kept + 1) end
kept_one p highs occurring counts slices new out index count kept next more end h space left some many end_is bits is =
    let x : ℕ = get_or highs index 0 in
    let rest : List ℕ = kept_of p (drop (index + 1) highs) in
    let less : List ℕ = map (less_of p) rest in
    let bytes : List ℕ = flat_map (bytes_of p) rest in
    let own : kept_of p (drop index highs) ≡ x ∷ rest =
    ap (kept_of p) (drop_more highs index 0 h) ∙ ap (λ (b : Bool). cond b (x ∷ rest) rest) (lt-ltb 0 (length (lows p x)) (omega arith)) in
    let few = left.few in
    let room = left.room in
    let all = left.all in
    let short = len_few more in
    let counted = high_counted p index highs h in
    let same = length-set counts kept (more - 1) in
    let long = left.space in
    record {
      space = omega arith;
      few = omega arith;
      room = omega arith;
      all = omega arith;
      occur = λ k. ap (λ (b : Bool). b || has k rest) (bits k) ∙ or_moved (eqb k x) (eqb x k) (has k rest) (has_bit occurring k) (eqb_turned k x)
          ∙ ap (λ (l : List ℕ). has_bit occurring k || has k l) (sym own) ∙ left.occur k;
      counted = ap (λ (l : List ℕ). l ++ less) (take_more_set counts kept (more - 1) space) ∙ append_assoc (take kept counts) ((more - 1) ∷ []) less
          ∙ ap (λ (n : ℕ). take kept counts ++ ((n - 1) ∷ less)) many ∙ ap (λ (l : List ℕ). take kept counts ++ map (less_of p) l) (sym own) ∙ left.counted;
      written = ap (λ (l : List ℕ). l ++ bytes) is ∙ append_assoc (take next slices) (slice (lows p x)) bytes
          ∙ ap (λ (l : List ℕ). take next slices ++ flat_map (bytes_of p) l) (sym own) ∙ left.written;
    }

-- one without
pub kept_none : (p : ℕ → Bool) (highs occurring counts slices out : List ℕ) (index count kept next more end : ℕ) → index < length highs
    → KeptLeft p highs occurring counts slices index count kept next → more ≡ 0 → more ≡ length (lows p (get_or highs index 0)) → end ≡ next + slice_len more
    → take end out ≡ take next slices ++ slice (lows p (get_or highs index 0))
    → KeptLeft p highs occurring counts out (index + 1) (count + more) kept end
kept_none p highs occurring counts slices out index count kept next more end h left none many end_is is =
    let x : ℕ = get_or highs index 0 in
    let rest : List ℕ = kept_of p (drop (index + 1) highs) in
    let bytes : List ℕ = flat_map (bytes_of p) rest in
    let own : kept_of p (drop index highs) ≡ rest =
    ap (kept_of p) (drop_more highs index 0 h) ∙ ap (λ (b : Bool). cond b (x ∷ rest) rest) (le-ltb 0 (length (lows p x)) (omega arith)) in
    let empty : slice (lows p x) ≡ [] = slice_few (lows p x) (omega arith) ∙ nil_from_length (lows p x) (omega arith) in
    let few = left.few in
    let room = left.room in
    let all = left.all in
    let short = ap slice_len none in
    let counted = high_counted p index highs h in
    record {
      space = left.space;
      few = omega arith;
      room = omega arith;
      all = omega arith;
      occur = λ k. ap (λ (l : List ℕ). has_bit occurring k || has k l) (sym own) ∙ left.occur k;
      counted = ap (λ (l : List ℕ). take kept counts ++ map (less_of p) l) (sym own) ∙ left.counted;
      written = ap (λ (l : List ℕ). l ++ bytes) (is ∙ ap (λ (l : List ℕ). take next slices ++ l) empty ∙ append-nil (take next slices))
          ∙ ap (λ (l : List ℕ). take next slices ++ flat_map (bytes_of p) l) (sym own) ∙ left.written;
    }

-- where they are, under other names
pub kept_at : (p : ℕ → Bool) (highs occurring counts slices occurring' counts' : List ℕ) (index count kept next kept' : ℕ) → occurring' ≡ occurring → counts' ≡ counts → kept' ≡ kept
    → KeptLeft p highs occurring counts slices index count kept next → KeptLeft p highs occurring' counts' slices index count kept' next
kept_at p highs occurring counts slices occurring' counts' index count kept next kept' e f g left =
    subst (λ (l : List ℕ). KeptLeft p highs l counts' slices index count kept' next) (sym e)
    (subst (λ (l : List ℕ). KeptLeft p highs occurring l slices index count kept' next) (sym f)
    (subst (λ (n : ℕ). KeptLeft p highs occurring counts slices index count n next) (sym g) left))

-- ---- the high bytes that are kept are all that the answer has

no_lows : (p : ℕ → Bool) (high : ℕ) → ((i : ℕ) → i < 256 → p (256 * high + i) ≡ false) → lows p high ≡ []
unfolding those
no_lows p high none = those_none (λ i. p (256 * high + i)) 0 256 (λ i a b. none i (omega arith))

pub kept_occur : (operation : Operation) (a b : Blocks) (bits occurring : List ℕ)
    → ((h : ℕ) → h < 256 → has_bit bits h ≡ false → apply operation (has_bit a.highs h) (has_bit b.highs h) ≡ false)
    → ((h : ℕ) → h < 256 → has_bit bits h ≡ false → apply operation (has_bit a.highs h) false ≡ false)
    → ((h : ℕ) → h < 256 → has_bit bits h ≡ false → apply operation false (has_bit b.highs h) ≡ false)
    → ((h : ℕ) → has_bit occurring h ≡ has h (kept_of (passes operation a b) (those 256 (has_bit bits))))
    → AreOccurring (passes operation a b) (has_bit occurring)
kept_occur operation a b bits occurring both left right are h small =
    let p : ℕ → Bool = passes operation a b in
    let highs : List ℕ = those 256 (has_bit bits) in
    are h ∙ has_passed (is_kept p) h highs
    ∙ sym (both_or_none (has h highs) (is_kept p h) (λ none.
    let out : has_bit bits h ≡ false = sym (has_those (has_bit bits) h 256 small) ∙ none in
    ap (λ (l : List ℕ). ltb 0 (length l)) (no_lows p h (λ i less.
    let own : (256 * h + i) / 256 ≡ h = omega arith in
    out_of operation (has_bit a.highs h) (has_bit b.highs h) (has (256 * h + i) (parts_numbers a)) (has (256 * h + i) (parts_numbers b))
    (λ e. no_part a (256 * h + i) (omega arith) (ap (has_bit a.highs) own ∙ e)) (λ e. no_part b (256 * h + i) (omega arith) (ap (has_bit b.highs) own ∙ e))
    (both h small out, left h small out, right h small out)))))

kept_those : (p : ℕ → Bool) (highs occurring : List ℕ) → IsRising 0 256 highs → ((h : ℕ) → has_bit occurring h ≡ has h (kept_of p highs))
    → those 256 (has_bit occurring) ≡ kept_of p highs
kept_those p highs occurring rise are = those_are (has_bit occurring) 256 (kept_of p highs) (rising_filter (is_kept p) 0 256 highs rise) (λ h small. are h)

-- the high bytes of a list of bits
pub listed_rise : (bits highs : List ℕ) → highs ≡ those 256 (has_bit bits) → IsRising 0 256 highs
listed_rise bits highs e = subst (IsRising 0 256) (sym e) (those_rise (has_bit bits) 256)

pub bit_of_listed : (bits highs : List ℕ) (i : ℕ) → highs ≡ those 256 (has_bit bits) → i < length highs → has_bit bits (get_or highs i 0) ≡ true
bit_of_listed bits highs i e h =
    sym (has_those (has_bit bits) (get_or highs i 0) 256 (rising_top 0 256 i highs (listed_rise bits highs e) h)) ∙ ap (has (get_or highs i 0)) (sym e) ∙ has_own highs i h

-- what is written of them are the blocks of the answer
pub record AreBlocks (p : ℕ → Bool) (occurring counts slices : List ℕ) (count kept next : ℕ) : Type 0 where
  pub count_is : count ≡ length (those 65536 p)
  pub some : 0 < count → 0 < kept
  pub occur : kept ≡ length (those 256 (has_bit occurring))
  pub are : (kept - 1) ∷ (slice (those 256 (has_bit occurring)) ++ (take kept counts ++ take next slices)) ≡ blocks (those 65536 p)

pub kept_blocks : (operation : Operation) (a b : Blocks) (bits highs occurring counts slices : List ℕ) (index count kept next : ℕ) → highs ≡ those 256 (has_bit bits)
    → ((h : ℕ) → h < 256 → has_bit bits h ≡ false → apply operation (has_bit a.highs h) (has_bit b.highs h) ≡ false)
    → ((h : ℕ) → h < 256 → has_bit bits h ≡ false → apply operation (has_bit a.highs h) false ≡ false)
    → ((h : ℕ) → h < 256 → has_bit bits h ≡ false → apply operation false (has_bit b.highs h) ≡ false)
    → length highs ≤ index → index ≤ 256 → KeptLeft (passes operation a b) highs occurring counts slices index count kept next
    → AreBlocks (passes operation a b) occurring counts slices count kept next
kept_blocks operation a b bits highs occurring counts slices index count kept next listed_is both left right done room at =
    let p : ℕ → Bool = passes operation a b in
    let q : ℕ → Bool = has_bit occurring in
    let hs : List ℕ = those 256 q in
    let rise : IsRising 0 256 highs = listed_rise bits highs listed_is in
    let none : drop index highs ≡ [] = drop_all index highs done in
    let occur : (h : ℕ) → has_bit occurring h ≡ has h (kept_of p highs) =
    λ h. sym (or-false (has_bit occurring h)) ∙ ap (λ (l : List ℕ). has_bit occurring h || has h (kept_of p l)) (sym none) ∙ at.occur h in
    let own : hs ≡ kept_of p highs = kept_those p highs occurring rise occur in
    let counts_are : take kept counts ≡ map (less_of p) hs =
    sym (append-nil (take kept counts)) ∙ ap (λ (l : List ℕ). take kept counts ++ map (less_of p) (kept_of p l)) (sym none) ∙ at.counted ∙ ap (map (less_of p)) (sym own) in
    let slices_are : take next slices ≡ flat_map (bytes_of p) hs =
    sym (append-nil (take next slices)) ∙ ap (λ (l : List ℕ). take next slices ++ flat_map (bytes_of p) (kept_of p l)) (sym none) ∙ at.written ∙ ap (flat_map (bytes_of p)) (sym own) in
    let are : AreOccurring p q = kept_occur operation a b bits occurring both left right (λ h. occur h ∙ ap (λ (l : List ℕ). has h (kept_of p l)) listed_is) in
    let empty = ap (λ (l : List ℕ). length (by_high p l)) none in
    let all = ap length (ap (by_high p) listed_is ∙ sym (listed operation a b bits both left right)) in
    let many : count ≡ length (those 65536 p) = omega (arith, at.all, empty, all) in
    let size : kept ≡ length hs =
    sym (length-take-le kept counts (omega (arith, at.few, at.space, room))) ∙ ap length counts_are ∙ length-map hs (less_of p) in
    record {
      count_is = many;
      some = λ pos. let there = some_highs p q are (omega (arith, pos, many)) in omega (arith, there, size);
      occur = size;
      are = ap (λ (n : ℕ). (n - 1) ∷ (slice hs ++ (take kept counts ++ take next slices))) size
          ∙ ap (λ (l : List ℕ). (length hs - 1) ∷ (slice hs ++ (l ++ take next slices))) counts_are
          ∙ ap (λ (l : List ℕ). (length hs - 1) ∷ (slice hs ++ (map (less_of p) hs ++ l))) slices_are
          ∙ sym (blocks_by p q are);
    }
