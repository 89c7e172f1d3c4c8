-- The ids are a set, and the last is at the last position.
use Rattle.std.proofs.Common.{◌≡◌, ◌-◌, ℕ, arith, ap, get_or, length, ◌∙◌, sym}
use Rattle.bitpack_sets.specs.Opened.{ids}
use Rattle.bitpack_sets.proofs.lemmas.encodings.EncodingLaws.{count_stated, ids_are_read}
use Rattle.bitpack_sets.proofs.id_set.IdSet.last.Goals as goal

pub returns-then-self-eq0-clause-set : goal.returns-then-self-eq0-clause-set
returns-then-self-eq0-clause-set c = let set = c.args.self.now in (ids_are_read set.bytes.now set.are_bytes set.states.none).0

pub returns-then-self-eq0-clause-last : goal.returns-then-self-eq0-clause-last
returns-then-self-eq0-clause-last c some =
    let set = c.args.self.now in
    let e : set.count ≡ length (ids set) = set.states.count_is ∙ count_stated set.bytes.now set.are_bytes set.states.none in
    absurd (omega arith)

pub at-requires : goal.at-requires
at-requires c =
    let set = c.args.self.now in
    let e : set.count ≡ length (ids set) = set.states.count_is ∙ count_stated set.bytes.now set.are_bytes set.states.none in
    omega arith

pub returns-clause-set : goal.returns-clause-set
returns-clause-set c = let set = c.args.self.now in (ids_are_read set.bytes.now set.are_bytes set.states.none).0

pub returns-clause-last : goal.returns-clause-last
returns-clause-last c some =
    let set = c.args.self.now in
    let e : set.count ≡ length (ids set) = set.states.count_is ∙ count_stated set.bytes.now set.are_bytes set.states.none in
    ap (λ (n : ℕ). get_or (ids set) (n - 1) 0) (sym e) ∙ sym c.at.ensures
