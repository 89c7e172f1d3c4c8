-- The ids of one key more are written.
use Rattle.std.proofs.Common.{◌/◌, ◌+◌, ◌*◌, ◌≤◌, ◌&&◌, ◌++◌, ℕ, List, [], get_or, length, map, take, refl, ap, sym, ◌∙◌, append-nil, append_assoc, arith}
use Rattle.bitpack_slices.specs.Bitmaps.{bitmap_numbers, has_bit}
use Rattle.bitpack_queries.specs.Folds.{found}
use Rattle.bitpack_slices.specs.Operations.{those}
use Rattle.bitpack_slices.specs.Reads.{has}
use Rattle.bitpack_queries.proofs.lemmas.two.AnswerLaws.{listed_has, listed_rise}
use Rattle.bitpack_slices.proofs.ForCallers.{those_few}
use Rattle.bitpack_queries.proofs.lemmas.many.KeysLaws.{key_counted, key_written, more_keys, no_keys}
use Rattle.bitpack_queries.proofs.combining_all.unpack_keys.Goals as goal
use Rattle.bitpack_queries.proofs.combining_all.unpack_keys.Goals.{else-left-lt65536-via-then-left-lt65536+else-left-count_bitmap, else-left-lt65536-via-else-left-lt65536}

pub loop-k-init : goal.loop-k-init
loop-k-init c =
    let none = no_keys (found c.args.highs.now c.args.words.now) in
    let none_long = ap length none in
    record {
      within = c.requires.start;
      long = refl;
      count = omega arith;
      values = sym (ap (λ (xs : List ℕ). take c.args.at c.args.out.now ++ map (λ i. c.args.base * 65536 + i) xs) none ∙ append-nil (take c.args.at c.args.out.now));
    }

pub count_bitmap-requires : goal.count_bitmap-requires
count_bitmap-requires c = listed_rise _ _ c.unpack_bits-count.ensures.values

pub returns-then-left-count_bitmap-clause-none : goal.returns-then-left-count_bitmap-clause-none
returns-then-left-count_bitmap-clause-none c e =
    let inv = c.loop-k.invariant in
    let own : List ℕ = take c.unpack_bits-count.result c.unpack_bits-count.new.out in
    let counted = key_counted c.args.highs.now c.args.words.now c.loop-k.k own (λ h small. listed_has _ _ h c.unpack_bits-count.ensures.values small) in
    let all = more_keys (found c.args.highs.now c.args.words.now) (65536 * (c.loop-k.k + 1)) 524288 (let inside = c.loop-k-test.true in omega arith) in
    let at = inv.count in
    let long = inv.long in
    let within = inv.within in
    let is = c.count_bitmap.ensures in
    let less = c.if-left-count_bitmap.true in
    omega arith

pub unpack_bitmap-at-requires-clause-highs : goal.unpack_bitmap-at-requires-clause-highs
unpack_bitmap-at-requires-clause-highs c = listed_rise _ _ c.unpack_bits-count.ensures.values

pub unpack_bitmap-at-requires-clause-room : goal.unpack_bitmap-at-requires-clause-room
unpack_bitmap-at-requires-clause-room c =
    let within = c.loop-k.invariant.within in
    let own : List ℕ = take c.unpack_bits-count.result c.unpack_bits-count.new.out in
    let few = those_few 65536 (λ (x : ℕ). has (x / 256) own && has_bit (get_or c.args.words.now c.loop-k.k []) x) in
    elim c.else-left-lt65536.branch [
      | else-left-lt65536-via-then-left-lt65536+else-left-count_bitmap w ↦ (let count = w.count_bitmap.ensures in let most = w.if-left-count_bitmap.false in omega arith)
      | else-left-lt65536-via-else-left-lt65536 w ↦ (let most = w.if-left-lt65536.false in omega arith)
    ]

pub loop-k-preserved : goal.loop-k-preserved
loop-k-preserved c =
    let inv = c.loop-k.invariant in
    let own : List ℕ = take c.unpack_bits-count.result c.unpack_bits-count.new.out in
    let highs : List (List ℕ) = c.args.highs.now in
    let words : List (List ℕ) = c.args.words.now in
    let before = inv.within in
    let few = those_few 65536 (λ (x : ℕ). has (x / 256) own && has_bit (get_or c.args.words.now c.loop-k.k []) x) in
    let room : c.loop-k.at + length (bitmap_numbers own (get_or words c.loop-k.k [])) ≤ length c.loop-k.out = elim c.else-left-lt65536.branch [
      | else-left-lt65536-via-then-left-lt65536+else-left-count_bitmap w ↦ (let count = w.count_bitmap.ensures in let most = w.if-left-count_bitmap.false in omega arith)
      | else-left-lt65536-via-else-left-lt65536 w ↦ (let most = w.if-left-lt65536.false in omega arith)
    ] in
    let same = c.unpack_bitmap-at.auto.out in
    let end = c.unpack_bitmap-at.ensures.end in
    let at = inv.count in
    let counted = key_counted highs words c.loop-k.k own (λ h small. listed_has _ _ h c.unpack_bits-count.ensures.values small) in
    record {
      within = omega arith;
      long = same ∙ inv.long;
      count = omega arith;
      values = c.unpack_bitmap-at.ensures.values
          ∙ ap (λ (xs : List ℕ). xs ++ map (λ i. (c.args.base + c.loop-k.k) * 65536 + i) (bitmap_numbers own (get_or words c.loop-k.k []))) inv.values
          ∙ append_assoc (take c.args.at c.args.out.now) (map (λ i. c.args.base * 65536 + i) (those (65536 * c.loop-k.k) (found highs words)))
          (map (λ i. (c.args.base + c.loop-k.k) * 65536 + i) (bitmap_numbers own (get_or words c.loop-k.k [])))
          ∙ ap (λ (xs : List ℕ). take c.args.at c.args.out.now ++ xs) (sym (key_written highs words c.args.base c.loop-k.k own (λ h small. listed_has _ _ h c.unpack_bits-count.ensures.values small)));
    }
