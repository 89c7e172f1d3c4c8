-- What byte 0 tells of an encoding without a fault.
use Rattle.std.proofs.Common.{◌≡◌, ◌-◌, ℕ, List, ap, arith, drop, length, take, ◌∙◌}
use Rattle.std.proofs.lemmas.List.{take_rest}
use Rattle.bitpack_groups.specs.Numbers.{number_end, number_fault}
use Rattle.bitpack_wide.specs.Stated.{after_count}
use Rattle.bitpack_wide.proofs.StatedLaws.{count_sound, some_bytes, words_sound}
use Rattle.bitpack_wide.proofs.opening.read_parts.Goals as goal

pub bounds-bytes-0 : goal.bounds-bytes-0
bounds-bytes-0 c = some_bytes c.args.bytes.now c.requires

-- what is after the count, as it is cut
after : (bytes : List ℕ) (end : ℕ) → end ≡ number_end (take (length bytes - 1) (drop 1 bytes))
    → take (length (take (length bytes - 1) (drop 1 bytes)) - end) (drop end (take (length bytes - 1) (drop 1 bytes))) ≡ after_count bytes
after bytes end e =
    let later = take_rest bytes 1 in
    take_rest (take (length bytes - 1) (drop 1 bytes)) end ∙ ap (λ (n : ℕ). drop n (take (length bytes - 1) (drop 1 bytes))) e
    ∙ ap (λ (l : List ℕ). drop (number_end l) l) later

pub slice_bounds-later-count : goal.slice_bounds-later-count
slice_bounds-later-count c = let some = some_bytes c.args.bytes.now c.requires in omega arith

pub slice_bounds-later-start : goal.slice_bounds-later-start
slice_bounds-later-start c = let some = some_bytes c.args.bytes.now c.requires in omega arith

pub unpack_number-count-requires : goal.unpack_number-count-requires
unpack_number-count-requires c = record { sound = ap number_fault (take_rest c.args.bytes.now 1) ∙ count_sound c.args.bytes.now c.requires }

pub unpack_number-words-requires : goal.unpack_number-words-requires
unpack_number-words-requires c =
    let bytes : List ℕ = c.args.bytes.now in
    record {
      sound = ap number_fault (after bytes c.unpack_number-count.result.1 c.unpack_number-count.ensures.end) ∙ words_sound bytes c.requires c.if-form-ne8.false;
    }
