-- What one id and others without a fault have.
use Rattle.std.proofs.Common.{◌≡◌, ◌-◌, ℕ, List, ap, drop, length, take, ◌∙◌}
use Rattle.std.proofs.lemmas.List.{take_rest}
use Rattle.bitpack_sets.specs.Faults.{first_over, ids_from, short_ids}
use Rattle.bitpack_sets.specs.Varints.{groups_codes, groups_fault, groups_of, number_end, number_value}
use Rattle.bitpack_sets.proofs.lemmas.faults.GapLaws.{ids_at, some_at, sound_few}
use Rattle.bitpack_sets.proofs.few.unpack_some.Goals as goal

pub unpack_number-first-requires : goal.unpack_number-first-requires
unpack_number-first-requires c = record { sound = (sound_few (length c.args.codes.now) c.args.bytes.now (some_at (length c.args.codes.now) (length c.args.out.now) c.args.bytes.now c.requires.room c.requires.sound)).number }

-- what is after the number
after : (bytes : List ℕ) (end : ℕ) → end ≡ number_end bytes → take (length bytes - end) (drop end bytes) ≡ drop (number_end bytes) bytes
after bytes end e = take_rest bytes end ∙ ap (λ (n : ℕ). drop n bytes) e

pub unpack_groups-requires : goal.unpack_groups-requires
unpack_groups-requires c =
    let is = sound_few (length c.args.codes.now) c.args.bytes.now (some_at (length c.args.codes.now) (length c.args.out.now) c.args.bytes.now c.requires.room c.requires.sound) in
    let more : ℕ = length c.args.codes.now in
    record { sound = (0, ap (groups_fault (groups_of more) 0 more) (after c.args.bytes.now c.unpack_number-first.result.1 c.unpack_number-first.ensures.end) ∙ is.groups_none) }

-- the ids of what is unpacked
same : (more first end : ℕ) (bytes codes : List ℕ) → first ≡ number_value bytes → end ≡ number_end bytes
    → codes ≡ groups_codes (groups_of more) more (take (length bytes - end) (drop end bytes)) → ids_from first codes ≡ short_ids more bytes
same more first end bytes codes f e g =
    ap (λ (n : ℕ). ids_from n codes) f ∙ ap (ids_from (number_value bytes)) (g ∙ ap (groups_codes (groups_of more) more) (after bytes end e))

pub add_up-requires-clause-small : goal.add_up-requires-clause-small
add_up-requires-clause-small c =
    let is = sound_few (length c.args.codes.now) c.args.bytes.now (some_at (length c.args.codes.now) (length c.args.out.now) c.args.bytes.now c.requires.room c.requires.sound) in
    ap (first_over 0) (same (length c.args.codes.now) c.unpack_number-first.result.0 c.unpack_number-first.result.1 c.args.bytes.now c.unpack_groups.new.codes c.unpack_number-first.ensures.value c.unpack_number-first.ensures.end c.unpack_groups.ensures) ∙ is.small

pub returns : goal.returns
returns c =
    c.add_up.ensures
    ∙ same (length c.args.codes.now) c.unpack_number-first.result.0 c.unpack_number-first.result.1 c.args.bytes.now c.unpack_groups.new.codes c.unpack_number-first.ensures.value c.unpack_number-first.ensures.end c.unpack_groups.ensures
    ∙ ids_at (length c.args.codes.now) (length c.args.out.now) c.args.bytes.now c.requires.room
