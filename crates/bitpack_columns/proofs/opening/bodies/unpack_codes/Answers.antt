-- What was unpacked are the codes of the body.
use Rattle.std.proofs.Common.{◌≡◌, ◌*◌, ℕ, List, length, ◌∙◌, arith}
use Rattle.std.proofs.lemmas.List.{take_all}
use Rattle.bitpacking.proofs.ForCallers.{one_layout_codes}
use Rattle.bitpack_columns.proofs.opening.bodies.unpack_codes.Goals as goal

pub returns : goal.returns
returns c =
    let width : ℕ = c.args.width in
    let body : List ℕ = c.args.body.now in
    let codes : List ℕ = c.decompress.new.decompressed in
    let long : length body ≡ 16 * width = c.requires.body in
    let whole : length codes ≡ 128 = c.decompress.auto.decompressed ∙ c.requires.len in
    (one_layout_codes 4 width body long).1 codes
    (rw (take_all (16 * width) body (omega arith), take_all 128 codes (omega arith)) at c.decompress.ensures.unpacked.block)
