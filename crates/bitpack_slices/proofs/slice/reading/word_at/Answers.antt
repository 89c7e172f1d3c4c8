-- Eight bytes are a word.
use Rattle.std.proofs.Common.{ℕ, List, ◌≡◌, ◌+◌, ◌*◌, ◌-◌, ap, arith, drop, take}
use Rattle.std.proofs.lemmas.List.{take_all}
use Rattle.bitpack_slices.proofs.lemmas.bytes.DecodeLaws.{word_number}
use Rattle.bitpack_slices.proofs.slice.reading.word_at.Goals as goal
use Rattle.bitpack_slices.specs.Slices.{number_of}
use Rattle.bitpack_groups.proofs.ForCallers.{lent_len}

pub returns : goal.returns
returns c =
    let bytes = c.args.bytes.now in
    let word : List ℕ = take (8 * c.args.i + 8 - 8 * c.args.i) (drop (8 * c.args.i) bytes) in
    let size = lent_len (8 * c.args.i) 8 bytes c.requires in
    let eight : 8 * c.args.i + 8 - 8 * c.args.i ≡ 8 = omega arith in
    let e = word_number 0 word (omega arith) in
    let whole = ap number_of (take_all 8 word (omega arith)) in
    let same = ap (λ (n : ℕ). number_of (take n (drop (8 * c.args.i) bytes))) eight in
    omega arith
