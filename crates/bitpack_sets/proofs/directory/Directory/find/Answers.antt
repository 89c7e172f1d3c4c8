-- The keys are increasing numbers.
use Rattle.std.proofs.Common.{◌≡◌, ◌+◌, ◌-◌, ◌*◌, ◌<◌, ◌∙◌, ℕ, List, ap, arith, drop, eq-eqb, eqb, get_or, subst, sym, take, true}
use Rattle.bitpack_slices.specs.Reads.{has, rank}
use Rattle.bitpack_slices.specs.Bodies.{IsRising}
use Rattle.bitpack_slices.specs.Slices.{pairs_of}
use Rattle.bitpack_sets.specs.Sound.{IsRest}
use Rattle.bitpack_sets.proofs.lemmas.reads.ChunkReads.{keys_rise_in}
use Rattle.bitpack_slices.proofs.ForCallers.{EachByte, bytes_are, has_at_rank, has_not, rank_le}
use Rattle.bitpack_sets.proofs.lemmas.reads.HalfLaws.{cut_keys, keys_len, rank_here}
use Rattle.bitpack_sets.proofs.directory.Directory.find.Goals as goal

pub slice_bounds-keys-end : goal.slice_bounds-keys-end
slice_bounds-keys-end c = let room = c.args.self.sound.directory.room in omega arith

pub rank_in_numbers-chunk-requires : goal.rank_in_numbers-chunk-requires
rank_in_numbers-chunk-requires c =
    let rest : List ℕ = c.args.self.rest.now in
    let are = bytes_are rest c.args.self.are_bytes in
    subst (λ (l : List ℕ). IsRising 0 65536 (pairs_of l)) (sym (cut_keys c.args.self.chunks rest)) (keys_rise_in c.args.self.count c.args.self.chunks rest are c.args.self.sound)

pub returns-then-chunk-self-clause-few : goal.returns-then-chunk-self-clause-few
returns-then-chunk-self-clause-few c =
    let rest : List ℕ = c.args.self.rest.now in
    let chunks : ℕ = c.args.self.chunks in
    let room = c.args.self.sound.directory.room in
    let size = keys_len chunks rest (omega arith) in
    let most = rank_le c.args.key (pairs_of (take (2 * chunks) (drop 1 rest))) in
    let at = c.rank_in_numbers-chunk.ensures ∙ ap (λ (l : List ℕ). rank c.args.key (pairs_of l)) (cut_keys chunks rest) in
    omega arith

pub returns-then-chunk-self-clause-there : goal.returns-then-chunk-self-clause-there
returns-then-chunk-self-clause-there c =
    let rest : List ℕ = c.args.self.rest.now in
    let chunks : ℕ = c.args.self.chunks in
    let room = c.args.self.sound.directory.room in
    let size = keys_len chunks rest (omega arith) in
    let at = c.rank_in_numbers-chunk.ensures ∙ ap (λ (l : List ℕ). rank c.args.key (pairs_of l)) (cut_keys chunks rest) in
    sym (has_not c.args.key c.rank_in_numbers-chunk.result (pairs_of (take (2 * chunks) (drop 1 rest))) at (omega (arith, c.if-chunk-self.true)))

pub returns-clause-there : goal.returns-clause-there
returns-clause-there c =
    let rest : List ℕ = c.args.self.rest.now in
    let chunks : ℕ = c.args.self.chunks in
    let m : ℕ = c.rank_in_numbers-chunk.result in
    let are = bytes_are rest c.args.self.are_bytes in
    let room = c.args.self.sound.directory.room in
    let size = keys_len chunks rest (omega arith) in
    let keys : List ℕ = pairs_of (take (2 * chunks) (drop 1 rest)) in
    let at = c.rank_in_numbers-chunk.ensures ∙ ap (λ (l : List ℕ). rank c.args.key (pairs_of l)) (cut_keys chunks rest) in
    let here = c.number_at-2.ensures ∙ ap (λ (l : List ℕ). get_or (pairs_of l) m 0) (cut_keys chunks rest) in
    ap (λ (n : ℕ). eqb n c.args.key) here
    ∙ sym (has_at_rank c.args.key 0 65536 m keys (keys_rise_in c.args.self.count chunks rest are c.args.self.sound) at (omega (arith, c.if-chunk-self.false)))

pub returns-clause-chunk : goal.returns-clause-chunk
returns-clause-chunk c = c.rank_in_numbers-chunk.ensures ∙ ap (λ (l : List ℕ). rank c.args.key (pairs_of l)) (cut_keys c.args.self.chunks c.args.self.rest.now)

-- a guess is the rank of the key that is there
guessed : (x m n count chunks : ℕ) (rest : List ℕ) → EachByte rest → IsRest count chunks rest → m < chunks → n ≡ get_or (pairs_of (take (1 + 2 * chunks - 1) (drop 1 rest))) m 0 → n ≡ x
    → (m ≡ rank x (pairs_of (take (2 * chunks) (drop 1 rest)))) × (true ≡ has x (pairs_of (take (2 * chunks) (drop 1 rest))))
guessed x m n count chunks rest are is lt at e =
    let keys : List ℕ = pairs_of (take (2 * chunks) (drop 1 rest)) in
    let room = is.directory.room in
    let size = keys_len chunks rest (omega arith) in
    let rise = keys_rise_in count chunks rest are is in
    let here : get_or keys m 0 ≡ x = sym (at ∙ ap (λ (l : List ℕ). get_or (pairs_of l) m 0) (cut_keys chunks rest)) ∙ e in
    let ranked = rank_here x 0 65536 m keys rise (omega arith) here in
    (ranked, sym (has_at_rank x 0 65536 m keys rise ranked (omega arith) ∙ eq-eqb (get_or keys m 0) x here))

pub returns-then-number_at-key-clause-chunk : goal.returns-then-number_at-key-clause-chunk
returns-then-number_at-key-clause-chunk c =
    let rest : List ℕ = c.args.self.rest.now in
    (guessed c.args.key _ c.number_at.result c.args.self.count c.args.self.chunks rest (bytes_are rest c.args.self.are_bytes) c.args.self.sound c.if-guess-self.true c.number_at.ensures c.if-number_at-key.true).0

pub returns-then-number_at-key-clause-there : goal.returns-then-number_at-key-clause-there
returns-then-number_at-key-clause-there c =
    let rest : List ℕ = c.args.self.rest.now in
    (guessed c.args.key _ c.number_at.result c.args.self.count c.args.self.chunks rest (bytes_are rest c.args.self.are_bytes) c.args.self.sound c.if-guess-self.true c.number_at.ensures c.if-number_at-key.true).1
