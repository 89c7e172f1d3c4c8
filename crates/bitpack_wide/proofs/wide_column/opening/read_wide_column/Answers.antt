-- The bytes state their count, what is after it, and the set of missing positions.
use Rattle.std.proofs.Common.{◌-◌, ◌∙◌, ℕ, List, ap, arith, drop, length, subst, sym, take}
use Rattle.std.proofs.lemmas.List.{take_rest}
use Rattle.bitpack_groups.specs.Numbers.{number_fault}
use Rattle.bitpack_sets.specs.Faults as set_faults
use Rattle.bitpack_wide.specs.WideColumnSound.{HasParts}
use Rattle.bitpack_wide.proofs.WideLaws.{count_sound, cut_states, some_bytes}
use Rattle.bitpack_wide.proofs.WideStated.{missing_none, stated_parts}
use Rattle.bitpack_wide.proofs.wide_column.opening.read_wide_column.Goals as goal

pub slice_bounds-later-count : goal.slice_bounds-later-count
slice_bounds-later-count c = let some = some_bytes c.args.bytes.now c.requires.sound in omega arith

pub slice_bounds-later-start : goal.slice_bounds-later-start
slice_bounds-later-start c = let some = some_bytes c.args.bytes.now c.requires.sound in omega arith

pub unpack_number-count-requires : goal.unpack_number-count-requires
unpack_number-count-requires c = record { sound = ap number_fault (take_rest c.args.bytes.now 1) ∙ count_sound c.args.bytes.now c.requires.sound }

pub chunks_of-requires : goal.chunks_of-requires
chunks_of-requires c =
    (cut_states c.args.bytes.now c.unpack_number-count.result.0 c.unpack_number-count.result.1 c.requires.sound c.unpack_number-count.ensures.value c.unpack_number-count.ensures.end).few

pub part_at-requires-clause-parts : goal.part_at-requires-clause-parts
part_at-requires-clause-parts c =
    let count : ℕ = c.unpack_number-count.result.0 in
    let later : List ℕ = take (length c.args.bytes.now - 1) (drop 1 c.args.bytes.now) in
    let rest : List ℕ = take (length later - c.unpack_number-count.result.1) (drop c.unpack_number-count.result.1 later) in
    subst (λ (n : ℕ). HasParts n rest) (sym c.chunks_of.ensures.chunks)
    (stated_parts c.args.bytes.now count rest
    (cut_states c.args.bytes.now count c.unpack_number-count.result.1 c.requires.sound c.unpack_number-count.ensures.value c.unpack_number-count.ensures.end))

pub of_tested-missing-requires : goal.of_tested-missing-requires
of_tested-missing-requires c =
    let count : ℕ = c.unpack_number-count.result.0 in
    let later : List ℕ = take (length c.args.bytes.now - 1) (drop 1 c.args.bytes.now) in
    let rest : List ℕ = take (length later - c.unpack_number-count.result.1) (drop c.unpack_number-count.result.1 later) in
    record {
      sound =
          ap set_faults.fault (c.part_at.ensures ∙ ap (λ (n : ℕ). Rattle.bitpack_wide.specs.WideColumnReads.part_at n rest 0) c.chunks_of.ensures.chunks)
          ∙ missing_none c.args.bytes.now count rest
          (cut_states c.args.bytes.now count c.unpack_number-count.result.1 c.requires.sound c.unpack_number-count.ensures.value c.unpack_number-count.ensures.end);
    }

pub returns-clause-states : goal.returns-clause-states
returns-clause-states c =
    cut_states c.args.bytes.now c.unpack_number-count.result.0 c.unpack_number-count.result.1 c.requires.sound c.unpack_number-count.ensures.value c.unpack_number-count.ensures.end
