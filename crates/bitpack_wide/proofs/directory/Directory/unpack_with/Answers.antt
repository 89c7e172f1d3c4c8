-- The low words of a range, with their high word.
use Rattle.std.proofs.Common.{◌+◌, ◌-◌, ◌*◌, ◌^◌, ◌∙◌, ℕ, List, ap, arith, drop, length, map, sym, take}
use Rattle.bitpack_slices.proofs.ForCallers.{bytes_are}
use Rattle.bitpack_sets.specs.Opened as opened_sets
use Rattle.bitpack_sets.specs.Reads as set_reads
use Rattle.bitpack_wide.proofs.UnpackLaws.{copied_part, word_range}
use Rattle.bitpack_wide.specs.Directory.{body_at}
use Rattle.bitpack_wide.proofs.directory.Directory.unpack_with.Goals as goal

pub returns : goal.returns
returns c =
    let d = c.args.self in
    let m : ℕ = c.args.word in
    let n : ℕ = length c.args.out.now in
    let left : ℕ = c.args.from - c.count_before.result in
    let at = c.count_before.ensures in
    let begin = c.requires.begin in
    let below = c.requires.below in
    let lows = copied_part c.copy_range.new.out (opened_sets.ids c.set.result) n left c.copy_range.result (length c.args.lows.now) c.copy_range.auto.out c.requires.room c.copy_range.ensures.len (omega (arith, c.set.ensures.count)) c.copy_range.ensures.ids in
    c.widen.ensures ∙ ap (map (λ (low : ℕ). c.high_at.result * 2 ^ 32 + low)) (lows ∙ ap (λ (l : List ℕ). take n (drop left l)) c.set.ensures.ids)
    ∙ ap (λ (h : ℕ). map (λ (low : ℕ). h * 2 ^ 32 + low) (take n (drop left (set_reads.ids_in (body_at d.words d.rest.now m))))) c.high_at.ensures
    ∙ sym (word_range d.count d.words m left n c.args.from d.rest.now (bytes_are d.rest.now d.are_bytes) d.sound c.requires.word (omega arith) (omega arith))
