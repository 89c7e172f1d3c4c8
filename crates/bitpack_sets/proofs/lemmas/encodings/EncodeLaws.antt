-- The encoding of a set by its form, and what calls leave.
use Rattle.std.proofs.Common.{◌≡◌, ℕ, ◌+◌, ◌*◌, ◌<◌, ◌≤◌, List, [], ◌++◌, length, take, drop, None, Result, Ok, Err, MatchOption, OnErr, OnOk, Bool, cond, eqb, ◌&&◌, ◌-◌, get_or, subst, true, false, refl, sym, ap, ◌∙◌, arith, length-append}
use Rattle.std.proofs.Math.Bool.{and-false}
use Rattle.std.specs.Result.{is_err}
use Rattle.std.specs.declared.vec.Vec.{Vec}
use Rattle.std.specs.List.{concat}
use Rattle.std.proofs.lemmas.Bool.{cond_above, cond_below}
use Rattle.std.proofs.lemmas.List.{append-nil, drop_all, drop_at, take_all, take_at}
use Rattle.bitpack_sets.proofs.lemmas.written.LongFilled.{array_size, chunks_length}
use Rattle.bitpack_sets.proofs.lemmas.encodings.LongLaws.{long_array, long_chunks}
use Rattle.bitpack_sets.proofs.lemmas.faults.RefusalLaws.{set_not_refused}
use Rattle.bitpack_sets.specs.Fronts.{IsFront}
use Rattle.bitpack_slices.specs.declared.set_error.SetError.{SetError}
use Rattle.bitpack_slices.specs.Bodies.{parts}
use Rattle.bitpack_sets.specs.Sets.{IsSet, array, encoding, in_chunks, long, short}
use Rattle.bitpack_sets.specs.Varints.{byte_count, number}
use Rattle.bitpack_sets.specs.Written.{Appends, AppendsWith, IsMeasured, bodies, is_in_chunks, last_chunk, refusal, unpacked}

-- ---- the three forms

pub few_is : (ids : List ℕ) → length ids ≤ 127 → encoding ids ≡ short ids
unfolding encoding
few_is ids h = let few : length ids < 128 = omega arith in sym (cond_below (length ids) 128 (short ids) (long ids) few)

many_is : (ids : List ℕ) → 127 < length ids → encoding ids ≡ long ids
unfolding encoding
many_is ids h = let many : 128 ≤ length ids = omega arith in sym (cond_above (length ids) 128 (short ids) (long ids) _ many refl)

pub array_is : (ids : List ℕ) (chunks : ℕ) → 127 < length ids → chunks ≡ length (parts 65536 ids) → length ids < 4 * chunks → encoding ids ≡ array ids
array_is ids chunks many e h = many_is ids many ∙ long_array ids (omega arith)

pub chunks_is : (ids : List ℕ) (chunks : ℕ) → 127 < length ids → chunks ≡ length (parts 65536 ids) → 4 * chunks ≤ length ids → encoding ids ≡ in_chunks ids
chunks_is ids chunks many e h = many_is ids many ∙ long_chunks ids (omega arith)

-- ---- what is measured

pub few_measured : (ids : List ℕ) (len : ℕ) → length ids ≤ 127 → len ≡ length (short ids) → IsMeasured ids len 0 0
few_measured ids len few e = record {
  len_is = e ∙ sym (ap length (few_is ids few));
  chunks_is = λ many. absurd (omega arith);
  bytes_is = λ many more. absurd (omega arith);
  few = omega arith;
  small = omega arith;
}

pub array_measured : (ids : List ℕ) (len chunks : ℕ) → 127 < length ids → chunks ≡ length (parts 65536 ids) → chunks ≤ length ids → length ids < 4 * chunks
    → len ≡ 1 + length (number (length ids)) + 4 * length ids → IsMeasured ids len chunks 0
array_measured ids len chunks many a few less e = record {
  len_is = e ∙ sym (array_size ids) ∙ sym (ap length (array_is ids chunks many a less));
  chunks_is = λ _. a;
  bytes_is = λ _ more. absurd (omega arith);
  few = few;
  small = omega arith;
}

pub chunks_measured : (ids : List ℕ) (len chunks size : ℕ) → 127 < length ids → chunks ≡ length (parts 65536 ids) → size ≡ length (concat (bodies ids)) → chunks ≤ length ids
    → size ≤ 2 * length ids → 4 * chunks ≤ length ids
    → len ≡ 2 + length (number (length ids)) + length (number chunks) + (2 + byte_count size + byte_count (length ids)) * chunks + size → IsMeasured ids len chunks size
chunks_measured ids len chunks size many a b few small more e = record {
  len_is = e ∙ sym (chunks_length ids chunks size a b) ∙ sym (ap length (chunks_is ids chunks many a more));
  chunks_is = λ _. a;
  bytes_is = λ _ _. b;
  few = few;
  small = small;
}

-- the length of chunks, of which `count` ids are copied
pub chunks_len_is : (first ids : List ℕ) (len count chunks size : ℕ) → count ≡ length first → chunks ≡ length (parts 65536 (first ++ ids)) → size ≡ length (concat (bodies (first ++ ids)))
    → len ≡ 2 + length (number (count + length ids)) + length (number chunks) + (2 + byte_count size + byte_count (count + length ids)) * chunks + size → len ≡ length (in_chunks (first ++ ids))
chunks_len_is first ids len count chunks size a b d e =
    let whole : count + length ids ≡ length (first ++ ids) = ap (λ (n : ℕ). n + length ids) a ∙ sym (length-append first ids) in
    e ∙ ap (λ (n : ℕ). 2 + length (number n) + length (number chunks) + (2 + byte_count size + byte_count n) * chunks + size) whole ∙ sym (chunks_length (first ++ ids) chunks size b d)

-- ---- what calls leave

pub accepted : (ids : List ℕ) {P : Type 0} (Q : SetError → Type 0) → refusal ids ≡ None → P → MatchOption (refusal ids) P Q
accepted ids Q none fact = rw none fact

pub on_err : {A E P : Type 0} (result : Result A E) → is_err result ≡ true → OnErr result P → P
on_err (Ok x) e fact = absurd cc
on_err (Err x) e fact = fact

pub on_ok : {A E P : Type 0} (result : Result A E) → is_err result ≡ false → OnOk result P → P
on_ok (Ok x) e fact = fact
on_ok (Err x) e fact = absurd cc

-- zeros at the end of a vector that are written over
pub written_over : (old zeros items new : List ℕ) (from len : ℕ) → items ≡ old ++ zeros → from ≡ length old → length new ≡ length zeros → len ≡ length items
    → take len ((take from items ++ (new ++ drop (length new) (drop from items)))
    ++ drop (length (take from items ++ (new ++ drop (length new) (drop from items)))) items) ≡ old ++ new
written_over old zeros items new from len e at same all =
    let front : take from items ≡ old = ap (take from) e ∙ take_at old zeros from (sym at) in
    let back : drop from items ≡ zeros = ap (drop from) e ∙ drop_at old zeros from (sym at) in
    let none : drop (length new) zeros ≡ [] = drop_all (length new) zeros (omega arith) in
    let long : length items ≡ length old + length zeros = ap length e ∙ length-append old zeros in
    let end : drop (length (old ++ new)) items ≡ [] = drop_all (length (old ++ new)) items (omega (arith, length-append old new)) in
    let whole : take len (old ++ new) ≡ old ++ new = take_all len (old ++ new) (omega (arith, length-append old new)) in
    rw (front, back, none, append-nil new, end, append-nil (old ++ new)) whole

pub any_ok : {A E P : Type 0} (result : Result A E) → P → OnOk result P
any_ok (Ok x) fact = fact
any_ok (Err x) fact = tt

-- bytes that are the encoding of a set
pub appended : {A : Type 0} (space needed : ℕ) (bytes ids : List ℕ) (result : Result (Unit {0}) SetError) (old new : Vec ℕ A) → bytes ≡ encoding ids → IsSet ids → Appends bytes result old new → AppendsWith space needed ids result old new
appended space needed bytes ids result old new e set is =
    let own : Appends (encoding ids) result old new = subst (λ (l : List ℕ). Appends l result old new) e is in
    record {
      set = any_ok result set;
      ok = own.ok;
      fault = accepted ids _ (set_not_refused ids set.few set.rising) own.memory;
      room = λ none few. own.room;
      unchanged = own.unchanged;
      capacity = own.capacity;
    }

-- ---- the ids that an append has work space for

not_in_chunks : (ids : List ℕ) (chunks : ℕ) → 127 < length ids → chunks ≡ length (parts 65536 ids) → length ids < 4 * chunks → is_in_chunks ids ≡ false
unfolding array
not_in_chunks ids chunks many e less = ap (λ (l : List ℕ). eqb (get_or l 0 0) 5) (array_is ids chunks many e less)

pub all_if_no_chunks : (ids more : List ℕ) → is_in_chunks ids ≡ false → unpacked ids more ≡ length (ids ++ more)
all_if_no_chunks ids more e = ap (λ (b : Bool). length (cond (b && is_in_chunks (ids ++ more)) (last_chunk ids) ids) + length more) e ∙ sym (length-append ids more)

pub all_if_array : (ids more : List ℕ) (chunks : ℕ) → 127 < length (ids ++ more) → chunks ≡ length (parts 65536 (ids ++ more)) → length (ids ++ more) < 4 * chunks → unpacked ids more ≡ length (ids ++ more)
all_if_array ids more chunks many e less =
    ap (λ (b : Bool). length (cond (is_in_chunks ids && b) (last_chunk ids) ids) + length more) (not_in_chunks (ids ++ more) chunks many e less)
    ∙ ap (λ (b : Bool). length (cond b (last_chunk ids) ids) + length more) (and-false (is_in_chunks ids)) ∙ sym (length-append ids more)

-- those of the last chunk at least
pub least_unpacked : (first ids more : List ℕ) → IsFront first ids → length ids - length first + length more ≤ unpacked ids more
least_unpacked first ids more is = let last = is.last in least (is_in_chunks ids && is_in_chunks (ids ++ more)) (omega arith)
  where
    least : (b : Bool) → length ids ≡ length first + length (last_chunk ids) → length ids - length first + length more ≤ length (cond b (last_chunk ids) ids) + length more
    least true e = omega arith
    least false e = omega arith
