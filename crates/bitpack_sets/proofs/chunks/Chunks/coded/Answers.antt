-- A chunk of a set in chunks is read from its body, which is the one encoding of its numbers.
use Rattle.std.proofs.Common.{◌+◌, ◌∙◌, ◌<◌, ap, arith, length, subst, sym}
use Rattle.bitpack_slices.specs.Bodies.{IsRising}
use Rattle.bitpack_sets.proofs.lemmas.reads.PositionLaws.{between_chunk, positions_chunks}
use Rattle.bitpack_sets.proofs.chunks.Chunks.coded.Goals as goal
use Rattle.bitpack_sets.proofs.lemmas.encodings.LongLaws.{body_len}
use Rattle.bitpack_sets.specs.Directory.{body_at, body_numbers_of, count_at}
use Rattle.bitpack_sets.specs.Sets.{body}

pub returns-clause-count : goal.returns-clause-count
returns-clause-count c =
    let set = c.args.self.now in
    let some = c.if-self-eq0.false in
    let p = c.args.position in
    let is = (set.sound some).bodies p (omega (arith, positions_chunks set some, c.requires.within)) in
    c.count_of.ensures ∙ sym is.count_is ∙ ap length (sym (between_chunk set p (p + 1) some (λ e. omega arith)))

pub returns-clause-body : goal.returns-clause-body
returns-clause-body c =
    let set = c.args.self.now in
    let some = c.if-self-eq0.false in
    let p = c.args.position in
    let is = (set.sound some).bodies p (omega (arith, positions_chunks set some, c.requires.within)) in
    c.body.ensures ∙ sym is.encoding ∙ ap body (sym (between_chunk set p (p + 1) some (λ e. omega arith)))

pub returns-clause-rising : goal.returns-clause-rising
returns-clause-rising c =
    let set = c.args.self.now in
    let some = c.if-self-eq0.false in
    let p = c.args.position in
    let is = (set.sound some).bodies p (omega (arith, positions_chunks set some, c.requires.within)) in
    subst (IsRising 0 65536) (sym (between_chunk set p (p + 1) some (λ e. omega arith))) is.rising

pub returns-clause-small : goal.returns-clause-small
returns-clause-small c =
    let set = c.args.self.now in
    let some = c.if-self-eq0.false in
    let p = c.args.position in
    let within : p < set.count = omega (arith, positions_chunks set some, c.requires.within) in
    let entry = (set.sound some).entries p within in
    let is = (set.sound some).bodies p within in
    let count = c.count_of.ensures in
    let counted = is.count_is in
    let positive = entry.some in
    let short = body_len (body_numbers_of (count_at set.count set.rest.now p) (body_at set.count set.rest.now p)) (omega arith) in
    let same = ap length (c.body.ensures ∙ sym is.encoding) in
    omega arith
