-- The ids of one key more are counted.
use Rattle.std.proofs.Common.{◌/◌, ◌+◌, ◌*◌, ◌&&◌, ℕ, List, [], get_or, length, take, ap, sym, ◌∙◌, arith}
use Rattle.bitpack_slices.specs.Bitmaps.{has_bit}
use Rattle.bitpack_queries.specs.Folds.{found}
use Rattle.bitpack_slices.specs.Operations.{those}
use Rattle.bitpack_slices.specs.Reads.{has}
use Rattle.bitpack_queries.proofs.lemmas.two.AnswerLaws.{listed_has, listed_rise}
use Rattle.bitpack_slices.proofs.ForCallers.{those_few}
use Rattle.bitpack_queries.proofs.lemmas.many.KeysLaws.{key_counted, no_keys}
use Rattle.bitpack_queries.proofs.combining_all.count_keys.Goals as goal

pub count_bitmap-count-requires : goal.count_bitmap-count-requires
count_bitmap-count-requires c = listed_rise _ _ c.unpack_bits-many.ensures.values

pub loop-k-init : goal.loop-k-init
loop-k-init c = sym (ap length (no_keys (found c.args.highs.now c.args.words.now)))

pub overflow_add-count : goal.overflow_add-count
overflow_add-count c =
    let own : List ℕ = take c.unpack_bits-many.result c.unpack_bits-many.new.out in
    let before = those_few (65536 * c.loop-k.k) (found c.args.highs.now c.args.words.now) in
    let few = those_few 65536 (λ (x : ℕ). has (x / 256) own && has_bit (get_or c.args.words.now c.loop-k.k []) x) in
    let is = c.loop-k.invariant in
    let more = c.count_bitmap-count.ensures in
    let inside = c.loop-k-test.true in
    record { fits = omega arith }

pub loop-k-preserved : goal.loop-k-preserved
loop-k-preserved c =
    let own : List ℕ = take c.unpack_bits-many.result c.unpack_bits-many.new.out in
    let counted = key_counted c.args.highs.now c.args.words.now c.loop-k.k own (λ h small. listed_has _ _ h c.unpack_bits-many.ensures.values small) in
    ap (λ (n : ℕ). n + c.count_bitmap-count.result) c.loop-k.invariant
    ∙ ap (λ (n : ℕ). length (those (65536 * c.loop-k.k) (found c.args.highs.now c.args.words.now)) + n) c.count_bitmap-count.ensures ∙ sym counted
