-- The body is that of a list of the numbers, or of their bits.
use Rattle.std.proofs.Common.{ap, arith, length, sym, take, ◌≡◌, ◌∙◌, ℕ}
use Rattle.std.proofs.lemmas.List.{length-take-le}
use Rattle.bitpack_slices.proofs.ForCallers.{those_rise, those_same}
use Rattle.bitpack_slices.specs.Bitmaps.{bitmap_numbers}
use Rattle.bitpack_slices.specs.Operations.{those}
use Rattle.bitpack_queries.specs.Folds.{has_number}
use Rattle.bitpack_queries.proofs.lemmas.many.BodyLaws.{IsPut, numbers_listed, put_bits, put_listed, unpacked_chunk, unpacked_lows}
use Rattle.bitpack_queries.proofs.lemmas.two.AnswerLaws.{listed_has, listed_rise}
use Rattle.bitpack_queries.proofs.lemmas.two.GatherLaws.{follow_long}
use Rattle.bitpack_queries.proofs.gathered.put_key.Goals as goal
use Rattle.bitpack_queries.proofs.gathered.put_key.Goals.{else-count-le-MOST_LISTED, then-count-le-MOST_LISTED}

listed : (c : goal.After-slice_known-2-1) → bitmap_numbers (take c.unpack_bits-many.result c.unpack_bits-many.new.out) c.args.words.now ≡ those 65536 (has_number c.args.highs.now c.args.words.now)
listed c = numbers_listed c.args.highs.now c.args.words.now (take c.unpack_bits-many.result c.unpack_bits-many.new.out) (λ h small. listed_has _ _ h c.unpack_bits-many.ensures.values small)

put : (c : goal.After-slice_known-2-1) → IsPut (those 65536 (has_number c.args.highs.now c.args.words.now)) c.count_bitmap-count.result c.if-count-le-MOST_LISTED.size c.if-count-le-MOST_LISTED.room
put c =
    let count : ℕ = c.count_bitmap-count.result in
    elim c.if-count-le-MOST_LISTED.branch [
      | then-count-le-MOST_LISTED w ↦ (
          let long : length w.unpack_bitmap.new.out ≡ 4096 = w.unpack_bitmap.auto.out ∙ c.told-ids in
          let room = w.write_listed-size.array_long in
          let most = w.if-count-le-MOST_LISTED.true in
          let own : length (take count w.unpack_bitmap.new.out) ≡ count = length-take-le count w.unpack_bitmap.new.out (omega arith) in
          let small = w.write_listed-size.ensures.small in
          put_listed _ (take count w.unpack_bitmap.new.out) w.write_listed-size.new.out _ count w.write_listed-size.result _ w.room-is w.size-is own
          (unpacked_lows count w.unpack_bitmap.result _ w.unpack_bitmap.new.out c.count_bitmap-count.ensures w.unpack_bitmap.ensures.end w.unpack_bitmap.ensures.values (those_rise _ 65536) ∙ listed c)
          (omega arith) small w.write_listed-size.ensures.written)
      | else-count-le-MOST_LISTED w ↦ (
          let room = w.write_body-size.array_long in
          let few = w.write_body-size.ensures.few in
          let many = w.if-count-le-MOST_LISTED.false in
          put_bits _ _ w.write_body-size.new.out _ count w.write_body-size.result _ w.room-is w.size-is (c.count_bitmap-count.ensures ∙ ap length (listed c))
          (those_same 65536 _ _ w.clear_others.ensures) (omega arith) (omega arith) w.write_body-size.ensures.written)
    ]

pub count_bitmap-count-requires : goal.count_bitmap-count-requires
count_bitmap-count-requires c = listed_rise _ _ c.unpack_bits-many.ensures.values

pub unpack_bitmap-requires-clause-highs : goal.unpack_bitmap-requires-clause-highs
unpack_bitmap-requires-clause-highs c = listed_rise _ _ c.unpack_bits-many.ensures.values

pub write_listed-size-requires-clause-chunk : goal.write_listed-size-requires-clause-chunk
write_listed-size-requires-clause-chunk c =
    unpacked_chunk c.count_bitmap-count.result c.unpack_bitmap.result _ c.unpack_bitmap.new.out c.count_bitmap-count.ensures c.unpack_bitmap.ensures.end c.unpack_bitmap.ensures.values (those_rise _ 65536)

pub write_body-size-requires-clause-count : goal.write_body-size-requires-clause-count
write_body-size-requires-clause-count c =
    c.count_bitmap-count.ensures
    ∙ ap length (numbers_listed c.args.highs.now c.args.words.now (take c.unpack_bits-many.result c.unpack_bits-many.new.out) (λ h small. listed_has _ _ h c.unpack_bits-many.ensures.values small))
    ∙ ap length (those_same 65536 (has_number c.args.highs.now c.args.words.now) _ (λ x small. sym (c.clear_others.ensures x small)))

pub returns-clause-count : goal.returns-clause-count
returns-clause-count c = c.count_bitmap-count.ensures ∙ ap length (listed c)

pub returns-clause-few : goal.returns-clause-few
returns-clause-few c = (put c).few

pub returns-clause-body : goal.returns-clause-body
returns-clause-body c some =
    let so = put c in
    follow_long (take c.if-count-le-MOST_LISTED.size c.if-count-le-MOST_LISTED.room) _ _ _ _ _ (so.written some)
    (length-take-le c.if-count-le-MOST_LISTED.size c.if-count-le-MOST_LISTED.room so.within) c.put_body.ensures
