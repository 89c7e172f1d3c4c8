-- The high words are increasing numbers.
use Rattle.std.proofs.Common.{◌^◌, ◌∙◌, ℕ, List, ap, arith, eqb, get_or, subst, sym}
use Rattle.bitpack_slices.specs.Bodies.{IsRising}
use Rattle.bitpack_slices.specs.Reads.{rank}
use Rattle.bitpack_slices.specs.Slices.{quads_of}
use Rattle.bitpack_slices.proofs.ForCallers.{bytes_are, has_at_rank, has_not, rank_le}
use Rattle.bitpack_wide.proofs.SearchLaws.{cut_highs, highs, highs_count, highs_rise}
use Rattle.bitpack_wide.proofs.directory.Directory.find.Goals as goal

pub slice_bounds-highs-end : goal.slice_bounds-highs-end
slice_bounds-highs-end c = let room = c.args.self.sound.directory.room in omega arith

pub rank_in_array-word-requires : goal.rank_in_array-word-requires
rank_in_array-word-requires c =
    let rest : List ℕ = c.args.self.rest.now in
    subst (λ (l : List ℕ). IsRising 0 (2 ^ 32) (quads_of l)) (sym (cut_highs c.args.self.words rest)) (highs_rise c.args.self.count c.args.self.words rest (bytes_are rest c.args.self.are_bytes) c.args.self.sound)

pub returns-then-word-self-clause-few : goal.returns-then-word-self-clause-few
returns-then-word-self-clause-few c =
    let rest : List ℕ = c.args.self.rest.now in
    let words : ℕ = c.args.self.words in
    let are = bytes_are rest c.args.self.are_bytes in
    let size = highs_count c.args.self.count words rest are c.args.self.sound in
    let most = rank_le c.args.high (highs c.args.self.count words rest are c.args.self.sound) in
    let at = c.rank_in_array-word.ensures ∙ ap (λ (l : List ℕ). rank c.args.high (quads_of l)) (cut_highs words rest) in
    omega arith

pub returns-then-word-self-clause-there : goal.returns-then-word-self-clause-there
returns-then-word-self-clause-there c =
    let rest : List ℕ = c.args.self.rest.now in
    let words : ℕ = c.args.self.words in
    let are = bytes_are rest c.args.self.are_bytes in
    let size = highs_count c.args.self.count words rest are c.args.self.sound in
    let at = c.rank_in_array-word.ensures ∙ ap (λ (l : List ℕ). rank c.args.high (quads_of l)) (cut_highs words rest) in
    sym (has_not c.args.high c.rank_in_array-word.result (highs c.args.self.count words rest are c.args.self.sound) at (omega (arith, c.if-word-self.true)))

pub returns-clause-there : goal.returns-clause-there
returns-clause-there c =
    let rest : List ℕ = c.args.self.rest.now in
    let words : ℕ = c.args.self.words in
    let m : ℕ = c.rank_in_array-word.result in
    let are = bytes_are rest c.args.self.are_bytes in
    let size = highs_count c.args.self.count words rest are c.args.self.sound in
    let at = c.rank_in_array-word.ensures ∙ ap (λ (l : List ℕ). rank c.args.high (quads_of l)) (cut_highs words rest) in
    let here = c.id_at.ensures ∙ ap (λ (l : List ℕ). get_or (quads_of l) m 0) (cut_highs words rest) in
    ap (λ (n : ℕ). eqb n c.args.high) here
    ∙ sym (has_at_rank c.args.high 0 (2 ^ 32) m (highs c.args.self.count words rest are c.args.self.sound) (highs_rise c.args.self.count words rest are c.args.self.sound) at (omega (arith, c.if-word-self.false)))

pub returns-then-word-self-clause-word : goal.returns-then-word-self-clause-word
returns-then-word-self-clause-word c = c.rank_in_array-word.ensures ∙ ap (λ (l : List ℕ). rank c.args.high (quads_of l)) (cut_highs c.args.self.words c.args.self.rest.now)

pub returns-clause-word : goal.returns-clause-word
returns-clause-word c = c.rank_in_array-word.ensures ∙ ap (λ (l : List ℕ). rank c.args.high (quads_of l)) (cut_highs c.args.self.words c.args.self.rest.now)
