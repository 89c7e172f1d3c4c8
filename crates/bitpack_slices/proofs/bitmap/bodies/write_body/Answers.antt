-- Each form of the body.
use Rattle.std.proofs.Common.{◌≡◌, ◌+◌, ◌*◌, ◌∙◌, List, ℕ, ap, arith, length, sym, take}
use Rattle.std.proofs.Common.{refl, true}
use Rattle.std.proofs.lemmas.Bool.{le-leb}
use Rattle.std.proofs.lemmas.List.{length-take-le}
use Rattle.bitpack_slices.proofs.lemmas.bits.BitmapLaws.{those_few}
use Rattle.bitpack_slices.proofs.lemmas.bodies.OneBody.{body_blocks, body_numbers, body_runs, many_told, numbers_len, take_front}
use Rattle.bitpack_slices.proofs.lemmas.bodies.RunBodies.{runs_len}
use Rattle.bitpack_slices.specs.Bitmaps.{has_bit}
use Rattle.bitpack_slices.specs.Bodies.{blocks}
use Rattle.bitpack_slices.specs.Operations.{those}
use Rattle.bitpack_slices.specs.Runs.{are_few, boundaries, runs}
use Rattle.bitpack_slices.proofs.bitmap.bodies.write_body.Goals as goal

pub returns-in-Some-clause-written : goal.returns-in-Some-clause-written
returns-in-Some-clause-written c =
    let chunk : List ℕ = those 65536 (has_bit c.args.words.now) in
    let (few, is) = c.in-Some.ensures.found in
    let bounds : List ℕ = take c.in-Some.len c.find_bounds.new.out in
    let long : length bounds ≡ c.in-Some.len = length-take-le c.in-Some.len c.find_bounds.new.out (omega (arith, c.most_bounds.ensures.most)) in
    let size : length c.write_bounds.new.out ≡ 2 + 2 * c.in-Some.len = ap length c.write_bounds.ensures ∙ runs_len bounds ∙ ap (λ (n : ℕ). 2 + 2 * n) long in
    let e : are_few (length (boundaries chunk)) (length chunk) ≡ true =
    ap (are_few (length (boundaries chunk))) (sym c.requires.count) ∙ c.most_bounds.ensures.few (length (boundaries chunk))
    ∙ le-leb (length (boundaries chunk)) c.most_bounds.result (omega (arith, ap length is)) in
    take_front c.write_bounds.new.out _ (2 + 2 * c.in-Some.len) size ∙ c.write_bounds.ensures ∙ ap runs is ∙ sym (body_runs chunk e)

pub overflow_mul-count : goal.overflow_mul-count
overflow_mul-count c = let few = those_few 65536 (has_bit c.args.words.now) in omega (arith, c.requires.count)

pub returns-then-size-count-clause-written : goal.returns-then-size-count-clause-written
returns-then-size-count-clause-written c =
    let chunk : List ℕ = those 65536 (has_bit c.args.words.now) in
    let size : length (blocks chunk) ≡ c.write_blocks-size.result = ap length (sym c.write_blocks-size.ensures.written)
    ∙ length-take-le c.write_blocks-size.result c.write_blocks-size.new.out (omega (arith, c.write_blocks-size.ensures.few, c.write_blocks-size.array_long)) in
    let many = many_told chunk c.args.count c.most_bounds.result c.requires.count c.most_bounds.ensures.few (c.in_default.ensures.many refl) in
    c.write_blocks-size.ensures.written ∙ sym (body_blocks chunk many (omega (arith, c.if-size-count.true, c.requires.count)))

pub returns-clause-written : goal.returns-clause-written
returns-clause-written c =
    let chunk : List ℕ = those 65536 (has_bit c.args.words.now) in
    let size : length (blocks chunk) ≡ c.write_blocks-size.result = ap length (sym c.write_blocks-size.ensures.written)
    ∙ length-take-le c.write_blocks-size.result c.write_blocks-size.new.out (omega (arith, c.write_blocks-size.ensures.few, c.write_blocks-size.array_long)) in
    let many = many_told chunk c.args.count c.most_bounds.result c.requires.count c.most_bounds.ensures.few (c.in_default.ensures.many refl) in
    let long : length c.write_numbers.new.out ≡ 2 * c.args.count = ap length c.write_numbers.ensures ∙ numbers_len chunk ∙ ap (λ (n : ℕ). 2 * n) (sym c.requires.count) in
    take_front c.write_numbers.new.out _ (2 * c.args.count) long ∙ c.write_numbers.ensures ∙ sym (body_numbers chunk many (omega (arith, c.if-size-count.false, c.requires.count)))
