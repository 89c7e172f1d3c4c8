-- What is left of an answer from a key on.
use Rattle.std.proofs.Common.{◌≡◌, ℕ, ◌+◌, ◌*◌, ◌/◌, ◌%◌, ◌^◌, ◌<◌, ◌≤◌, leb, Bool, false, ◌&&◌, List, length, sym, ap, ◌∙◌, arith, map, subst, true}
use Rattle.std.proofs.lemmas.Bool.{le-leb, lt-leb}
use Rattle.bitpack_slices.proofs.ForCallers.{and_false, those_same}
use Rattle.bitpack_slices.specs.Bitmaps.{has_bit}
use Rattle.bitpack_slices.specs.Bodies.{parts}
use Rattle.bitpack_slices.specs.Operations.{those}
use Rattle.bitpack_slices.specs.Reads.{has}
use Rattle.bitpack_queries.specs.Folds.{has_number}
use Rattle.bitpack_queries.specs.Pairs.{IsPart}
use Rattle.bitpack_queries.proofs.lemmas.many.FoldLaws.{part_own}
use Rattle.bitpack_queries.proofs.lemmas.trees.QueryIds.{tests_same}
use Rattle.bitpack_queries.proofs.lemmas.two.AnswerLaws.{listed_has}
use Rattle.bitpack_queries.proofs.lemmas.two.GatherLaws.{Gathering, gather_start, next_chunk}

-- an id has this key or a higher one
abbrev pub from_key : ℕ → (ℕ → Bool) → ℕ → Bool
from_key key found x = leb key (x / 65536) && found x

-- all is left from the first key on
from_first : (found : ℕ → Bool) → those (2 ^ 32) found ≡ those (2 ^ 32) (from_key 0 found)
from_first found = those_same (2 ^ 32) found (from_key 0 found) (λ x h. sym (ap (λ (b : Bool). b && found x) (le-leb 0 (x / 65536) (omega arith))))

-- keys between which there is no id are passed over
keys_passed : (found : ℕ → Bool) (low high : ℕ) → low ≤ high → ((x : ℕ) → low ≤ x / 65536 → x / 65536 < high → found x ≡ false)
    → those (2 ^ 32) (from_key low found) ≡ those (2 ^ 32) (from_key high found)
keys_passed found low high h none =
    those_same (2 ^ 32) (from_key low found) (from_key high found) (λ x small. tests_same low high (x / 65536) (found x) h (none x))

-- nothing is left after the last key
pub none_from_end : (found : ℕ → Bool) (key x : ℕ) → 65536 ≤ key → x < 2 ^ 32 → from_key key found x ≡ false
none_from_end found key x end small = and_false (leb key (x / 65536)) (found x) (lt-leb key (x / 65536) (omega arith))

-- the ids of a key, and those after it
pub key_part : (found test : ℕ → Bool) (key : ℕ) → key < 65536 → ((x : ℕ) → x < 65536 → test x ≡ found (key * 65536 + x))
    → IsPart key test (from_key key found) (from_key (key + 1) found)
key_part found test key small own = record {
  small = small;
  lower = λ x h. and_false (leb key (x / 65536)) (found x) (lt-leb key (x / 65536) h);
  own = λ x h.
      let is : key * 65536 + x % 65536 ≡ x = omega arith in
      ap (λ (b : Bool). b && found x) (le-leb key (x / 65536) (omega arith)) ∙ ap found (sym is) ∙ sym (own (x % 65536) (omega arith));
  passed = λ x h. and_false (leb (key + 1) (x / 65536)) (found x) (lt-leb (key + 1) (x / 65536) (omega arith));
  higher = λ x h. ap (λ (b : Bool). b && found x) (le-leb key (x / 65536) (omega arith) ∙ sym (le-leb (key + 1) (x / 65536) (omega arith)));
}

-- high bytes that all ids of a key have, and bits that are loaded for these, tell an id
pub own_loaded : (is : Bool) (highs list words : List ℕ) (x : ℕ) → list ≡ map (λ i. 0 + i) (those 256 (has_bit highs))
    → (has_bit highs (x % 65536 / 256) ≡ false → is ≡ false) → (has (x % 65536 / 256) list ≡ true → has_bit words (x % 65536) ≡ is)
    → is ≡ (has_bit highs (x % 65536 / 256) && has_bit words (x % 65536))
own_loaded is highs list words x are none own =
    part_own is (has_bit highs (x % 65536 / 256)) (has_bit words (x % 65536)) none
    (λ there. own (listed_has list (has_bit highs) (x % 65536 / 256) are (omega arith) ∙ there))

-- the high bytes and bits of a key tell its ids
pub number_found : (found : ℕ → Bool) (highs words : List ℕ) (key x : ℕ)
    → ((y : ℕ) → y / 65536 ≡ key → found y ≡ (has_bit highs (y % 65536 / 256) && has_bit words (y % 65536)))
    → x < 65536 → has_number highs words x ≡ found (key * 65536 + x)
unfolding has_number
number_found found highs words key x own small =
    let low : (key * 65536 + x) % 65536 ≡ x = omega arith in
    ap (λ (n : ℕ). has_bit highs (n / 256) && has_bit words n) (sym low) ∙ sym (own (key * 65536 + x) (omega arith))

-- ---- what is gathered

-- nothing, before the first key that has ids
pub gather_first : (found : ℕ → Bool) (key : ℕ) (old keys counts sizes : List ℕ) (count chunks size : ℕ) → (count ≡ 0) × ((chunks ≡ 0) × (size ≡ 0))
    → ((x : ℕ) → 0 ≤ x / 65536 → x / 65536 < key → found x ≡ false)
    → Gathering (those (2 ^ 32) found) (those (2 ^ 32) (from_key key found)) old old keys counts sizes count chunks size
gather_first found key old keys counts sizes count chunks size new none =
    rw (new.0, new.1.0, new.1.1)
    (subst (λ (left : List ℕ). Gathering (those (2 ^ 32) found) left old old keys counts sizes 0 0 0) (from_first found ∙ keys_passed found 0 key (omega arith) none)
    (gather_start (those (2 ^ 32) found) old keys counts sizes))

-- and nothing of keys that have none
pub gather_passed : (found : ℕ → Bool) (low high : ℕ) (all old out keys counts sizes : List ℕ) (count chunks size : ℕ) → low ≤ high
    → ((x : ℕ) → low ≤ x / 65536 → x / 65536 < high → found x ≡ false)
    → Gathering all (those (2 ^ 32) (from_key low found)) old out keys counts sizes count chunks size
    → Gathering all (those (2 ^ 32) (from_key high found)) old out keys counts sizes count chunks size
gather_passed found low high all old out keys counts sizes count chunks size h none so =
    subst (λ (left : List ℕ). Gathering all left old out keys counts sizes count chunks size) (keys_passed found low high h none) so

-- the chunk of a key is one of all
pub gather_room : (number : ℕ) (test before after : ℕ → Bool) (all old mid keys counts sizes : List ℕ) (count chunks size : ℕ) → IsPart number test before after
    → Gathering all (those (2 ^ 32) before) old mid keys counts sizes count chunks size → 0 < length (those 65536 test) → chunks < length (parts (2 ^ 16) all)
gather_room number test before after all old mid keys counts sizes count chunks size part so some =
    let next = ap length (next_chunk number test before after part some) in
    let parted = so.parted in
    omega arith
