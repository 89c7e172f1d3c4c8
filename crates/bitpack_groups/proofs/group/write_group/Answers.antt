-- The width and the bytes written are the group of the codes.
use Rattle.std.proofs.Common.{◌≡◌, ◌-◌, ◌*◌, ◌≤◌, ◌++◌, ℕ, List, length, drop, replicate, ◌∙◌, ap, arith}
use Rattle.std.proofs.lemmas.List.{length-append, length-replicate}
use Rattle.bitpack_groups.specs.Groups.{padded}
use Rattle.bitpack_groups.proofs.GroupLemmas.{Fits-more_zeros, written-is, written-room, padded-is}
use Rattle.bitpack_groups.proofs.group.write_group.Goals as goal

-- The codes, as the code lends them.
is_padded : (codes copied : List ℕ) → length codes ≤ 32 → copied ≡ codes → copied ++ drop (length codes) (replicate {A = ℕ} 32 0) ≡ padded codes
is_padded codes copied few after = ap (λ zs. zs ++ drop (length codes) (replicate {A = ℕ} 32 0)) after ∙ padded-is codes few

pub compress-requires : goal.compress-requires
compress-requires c =
    let codes : List ℕ = c.args.codes.now in
    let width : ℕ = c.least_width-width.result in
    let narrow = c.least_width-width.ensures.narrow in
    let is = is_padded codes c.copy_from_slice.new.self c.requires.count c.copy_from_slice.ensures.after in
    let whole : length (padded codes) ≡ 32 * 1 = simp (length-append, length-replicate) (omega (arith, c.requires.count)) in
    record {
      whole = ap length is ∙ whole;
      narrow = narrow;
      room = omega (arith, narrow, length-replicate {A = ℕ} 128 0);
      fits = rw is (Fits-more_zeros codes (32 - length codes) width c.least_width-width.ensures.width.fits);
    }

pub write_cut-requires-clause-room : goal.write_cut-requires-clause-room
write_cut-requires-clause-room c =
    let codes : List ℕ = c.args.codes.now in
    let group = written-room codes c.least_width-width.result c.requires.count c.least_width-width.ensures.width in
    omega (arith, c.requires.room group.0 group.1, group.2, c.group_size.ensures.size)

pub returns-clause-group : goal.returns-clause-group
returns-clause-group c =
    let codes : List ℕ = c.args.codes.now in
    let block : List ℕ = c.copy_from_slice.new.self ++ drop (length codes) (replicate {A = ℕ} 32 0) in
    let is = is_padded codes c.copy_from_slice.new.self c.requires.count c.copy_from_slice.ensures.after in
    rw (c.write_cut.ensures.cut, c.group_size.ensures.size)
    (written-is codes block c.compress.new.compressed c.least_width-width.result c.requires.count is c.write_cut.ensures.bytes
    c.least_width-width.ensures.width c.compress.ensures.packed.bytes)
