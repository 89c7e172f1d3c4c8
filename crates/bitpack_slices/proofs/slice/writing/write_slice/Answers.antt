-- The forms without bits.
use Rattle.std.proofs.Common.{◌≡◌, ◌%◌, ◌∙◌, map, sym, length, refl, arith}
use Rattle.std.proofs.lemmas.Bool.{cond_above}
use Rattle.std.proofs.lemmas.List.{length-map, nil_from_length}
use Rattle.bitpack_slices.proofs.lemmas.slices.SliceLaws.{slice_few, slice_many}
use Rattle.bitpack_slices.proofs.slice.writing.write_slice.Goals as goal

pub returns-then-ids-lt32 : goal.returns-then-ids-lt32
returns-then-ids-lt32 c =
    let size : length (map (λ id. id % 256) c.args.ids.now) ≡ length c.args.ids.now = length-map c.args.ids.now (λ id. id % 256) in
    let few = c.if-ids-lt32.true in
    c.copy_lows.ensures ∙ sym (slice_few (map (λ id. id % 256) c.args.ids.now) (omega arith))

pub returns-else-ids-lt256 : goal.returns-else-ids-lt256
returns-else-ids-lt256 c =
    let size : length (map (λ id. id % 256) c.args.ids.now) ≡ length c.args.ids.now = length-map c.args.ids.now (λ id. id % 256) in
    let many = c.if-ids-lt256.false in
    let none : length c.args.out.now ≡ 0 = c.requires.size ∙ sym (cond_above (length c.args.ids.now) 32 _ _ _ c.if-ids-lt32.false (cond_above (length c.args.ids.now) 256 32 0 _ many refl)) in
    nil_from_length c.args.out.now none ∙ sym (slice_many (map (λ id. id % 256) c.args.ids.now) (omega arith))
