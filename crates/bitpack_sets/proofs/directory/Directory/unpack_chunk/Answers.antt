-- The body of a chunk is numbers, runs or blocks.
use Rattle.std.proofs.Common.{◌≡◌, false, true, map, ◌+◌, ◌-◌, ◌*◌, ◌<◌, ◌++◌, ℕ, List, drop, length, take, arith, ap, sym, ◌∙◌, subst}
use Rattle.bitpack_sets.specs.Directory.{before, bodies_start, body_at, body_numbers_of, count_at, end_at, key_at}
use Rattle.bitpack_slices.specs.Runs.{begins_runs, runs_from}
use Rattle.bitpack_slices.specs.Bodies.{IsRising}
use Rattle.bitpack_slices.specs.Slices.{IsBlocks, block_numbers, pairs_of}
use Rattle.bitpack_sets.specs.Sound.{IsRest}
use Rattle.bitpack_sets.proofs.lemmas.reads.ChunkReads.{blocks_read, body_cut, body_end, numbers_read, raised_same, runs_of}
use Rattle.bitpack_groups.proofs.ForCallers.{lent_len}
use Rattle.std.proofs.lemmas.List.{take_all}
use Rattle.std.proofs.lemmas.Slice.{take-put_mid}
use Rattle.bitpack_sets.proofs.directory.Directory.unpack_chunk.Goals as goal

pub slice_bounds-body-end : goal.slice_bounds-body-end
slice_bounds-body-end c =
    let fits = body_end c.args.self.count c.args.self.chunks c.args.chunk c.args.self.rest.now c.args.self.sound c.requires.within in
    omega (arith, c.requires.start, c.end_at-end.ensures)

pub returns-then-body-count_of-clause-end : goal.returns-then-body-count_of-clause-end
returns-then-body-count_of-clause-end c =
    let same = c.if-body-count_of.true in
    let own = c.count_of.ensures in
    let end = c.unpack_numbers.ensures.end in
    omega arith

pub returns-then-body-count_of-clause-values : goal.returns-then-body-count_of-clause-values
returns-then-body-count_of-clause-values c =
    let rest : List ℕ = c.args.self.rest.now in
    let cut = body_cut c.args.self.chunks c.args.chunk c.args.start c.begin_at-begin.result c.end_at-end.result rest c.requires.start c.begin_at-begin.ensures c.end_at-end.ensures in
    let long : length (body_at c.args.self.chunks rest c.args.chunk) ≡ 2 * count_at c.args.self.chunks rest c.args.chunk = sym (ap length cut) ∙ c.if-body-count_of.true ∙ ap (λ (n : ℕ). 2 * n) c.count_of.ensures in
    let read : pairs_of (take (c.args.start + c.end_at-end.result - (c.args.start + c.begin_at-begin.result)) (drop (c.args.start + c.begin_at-begin.result) rest))
    ≡ body_numbers_of (count_at c.args.self.chunks rest c.args.chunk) (body_at c.args.self.chunks rest c.args.chunk) =
    ap pairs_of cut ∙ sym (numbers_read (count_at c.args.self.chunks rest c.args.chunk) (body_at c.args.self.chunks rest c.args.chunk) long) in
    c.unpack_numbers.ensures.values ∙ ap (λ (l : List ℕ). take c.args.at c.args.out.now ++ l)
    (raised_same (c.key_at.result * 65536) (key_at rest c.args.chunk) _ _ (ap (λ (n : ℕ). n * 65536) c.key_at.ensures) read)

-- what is read as blocks
record Cut (count chunks chunk start begin end own : ℕ) (rest : List ℕ) : Type 0 where
  same : take (start + end - (start + begin)) (drop (start + begin) rest) ≡ body_at chunks rest chunk
  is : IsBlocks (length (block_numbers (body_at chunks rest chunk))) (body_at chunks rest chunk)
  size : length (block_numbers (body_at chunks rest chunk)) ≡ count_at chunks rest chunk
  read : body_numbers_of (count_at chunks rest chunk) (body_at chunks rest chunk) ≡ block_numbers (body_at chunks rest chunk)

cut_is : (count chunks chunk start begin end own : ℕ) (rest : List ℕ) → IsRest count chunks rest → chunk < chunks → start ≡ bodies_start chunks rest
    → begin ≡ before (end_at chunks rest) chunk → end ≡ end_at chunks rest chunk → own ≡ count_at chunks rest chunk
    → (length (take (start + end - (start + begin)) (drop (start + begin) rest)) ≡ 2 * own → ⊥) → begins_runs (take (start + end - (start + begin)) (drop (start + begin) rest)) ≡ false
    → Cut count chunks chunk start begin end own rest
cut_is count chunks chunk start begin end own rest is lt s b e o ne plain =
    let same = body_cut chunks chunk start begin end rest s b e in
    let other : length (body_at chunks rest chunk) ≡ 2 * count_at chunks rest chunk → ⊥ = λ h. ne (ap length same ∙ h ∙ ap (λ (n : ℕ). 2 * n) (sym o)) in
    let here = blocks_read (count_at chunks rest chunk) (body_at chunks rest chunk) (is.entries chunk lt).some (is.bodies chunk lt) other (ap begins_runs (sym same) ∙ plain) in
    record { same = same; is = here.are; size = here.size; read = sym here.read }

pub unpack_blocks-requires-clause-blocks : goal.unpack_blocks-requires-clause-blocks
unpack_blocks-requires-clause-blocks c =
    let cut = cut_is c.args.self.count c.args.self.chunks c.args.chunk c.args.start _ _ _ c.args.self.rest.now c.args.self.sound c.requires.within c.requires.start c.begin_at-begin.ensures c.end_at-end.ensures c.count_of.ensures c.if-body-count_of.false (sym c.begins_runs.ensures ∙ c.if-begins_runs.false) in
    subst (λ (l : List ℕ). IsBlocks (length (block_numbers l)) l) (sym cut.same) cut.is

pub unpack_blocks-requires-clause-room : goal.unpack_blocks-requires-clause-room
unpack_blocks-requires-clause-room c =
    let cut = cut_is c.args.self.count c.args.self.chunks c.args.chunk c.args.start _ _ _ c.args.self.rest.now c.args.self.sound c.requires.within c.requires.start c.begin_at-begin.ensures c.end_at-end.ensures c.count_of.ensures c.if-body-count_of.false (sym c.begins_runs.ensures ∙ c.if-begins_runs.false) in
    let e = ap (λ (l : List ℕ). length (block_numbers l)) cut.same in
    let size = cut.size in
    let room = c.requires.room in
    omega arith

pub returns-clause-end : goal.returns-clause-end
returns-clause-end c =
    let cut = cut_is c.args.self.count c.args.self.chunks c.args.chunk c.args.start _ _ _ c.args.self.rest.now c.args.self.sound c.requires.within c.requires.start c.begin_at-begin.ensures c.end_at-end.ensures c.count_of.ensures c.if-body-count_of.false (sym c.begins_runs.ensures ∙ c.if-begins_runs.false) in
    let e = ap (λ (l : List ℕ). length (block_numbers l)) cut.same in
    let size = cut.size in
    let end = c.unpack_blocks.ensures.end in
    omega arith

pub returns-clause-values : goal.returns-clause-values
returns-clause-values c =
    let rest : List ℕ = c.args.self.rest.now in
    let cut = cut_is c.args.self.count c.args.self.chunks c.args.chunk c.args.start _ _ _ rest c.args.self.sound c.requires.within c.requires.start c.begin_at-begin.ensures c.end_at-end.ensures c.count_of.ensures c.if-body-count_of.false (sym c.begins_runs.ensures ∙ c.if-begins_runs.false) in
    c.unpack_blocks.ensures.values ∙ ap (λ (l : List ℕ). take c.args.at c.args.out.now ++ l)
    (raised_same (c.key_at.result * 65536) (key_at rest c.args.chunk) _ _ (ap (λ (n : ℕ). n * 65536) c.key_at.ensures) (ap block_numbers cut.same ∙ sym cut.read))

-- what is read as runs
record CutRuns (chunks chunk start begin end : ℕ) (rest : List ℕ) : Type 0 where
  rising : IsRising 0 65536 (pairs_of (drop 2 (take (start + end - (start + begin)) (drop (start + begin) rest))))
  size : length (runs_from 0 (drop 2 (take (start + end - (start + begin)) (drop (start + begin) rest)))) ≡ count_at chunks rest chunk
  read : runs_from 0 (drop 2 (take (start + end - (start + begin)) (drop (start + begin) rest))) ≡ body_numbers_of (count_at chunks rest chunk) (body_at chunks rest chunk)

runs_cut : (count chunks chunk start begin end own : ℕ) (rest : List ℕ) → IsRest count chunks rest → chunk < chunks → start ≡ bodies_start chunks rest
    → begin ≡ before (end_at chunks rest) chunk → end ≡ end_at chunks rest chunk → own ≡ count_at chunks rest chunk
    → (length (take (start + end - (start + begin)) (drop (start + begin) rest)) ≡ 2 * own → ⊥) → begins_runs (take (start + end - (start + begin)) (drop (start + begin) rest)) ≡ true
    → CutRuns chunks chunk start begin end rest
runs_cut count chunks chunk start begin end own rest is lt s b e o ne begun =
    let here = runs_of count chunks chunk own rest (take (start + end - (start + begin)) (drop (start + begin) rest))
    (record { is = is; within = lt; count_is = o; body_is = body_cut chunks chunk start begin end rest s b e }) ne begun in
    record { rising = here.rising; size = here.size; read = here.read }

pub new-requires-clause-rising : goal.new-requires-clause-rising
new-requires-clause-rising c =
    (runs_cut c.args.self.count c.args.self.chunks c.args.chunk c.args.start c.begin_at-begin.result c.end_at-end.result c.count_of.result c.args.self.rest.now c.args.self.sound c.requires.within c.requires.start
    c.begin_at-begin.ensures c.end_at-end.ensures c.count_of.ensures c.if-body-count_of.false (sym c.begins_runs.ensures ∙ c.if-begins_runs.true)).rising

pub unpack_from-requires-clause-begin : goal.unpack_from-requires-clause-begin
unpack_from-requires-clause-begin c =
    let cut = runs_cut c.args.self.count c.args.self.chunks c.args.chunk c.args.start c.begin_at-begin.result c.end_at-end.result c.count_of.result c.args.self.rest.now c.args.self.sound c.requires.within c.requires.start
    c.begin_at-begin.ensures c.end_at-end.ensures c.count_of.ensures c.if-body-count_of.false (sym c.begins_runs.ensures ∙ c.if-begins_runs.true) in
    let same = ap (λ (l : List ℕ). length (runs_from 0 l)) c.new.ensures in
    let size = cut.size in
    let some = (c.args.self.sound.entries c.args.chunk c.requires.within).some in
    omega arith

pub unpack_from-requires-clause-within : goal.unpack_from-requires-clause-within
unpack_from-requires-clause-within c =
    let cut = runs_cut c.args.self.count c.args.self.chunks c.args.chunk c.args.start c.begin_at-begin.result c.end_at-end.result c.count_of.result c.args.self.rest.now c.args.self.sound c.requires.within c.requires.start
    c.begin_at-begin.ensures c.end_at-end.ensures c.count_of.ensures c.if-body-count_of.false (sym c.begins_runs.ensures ∙ c.if-begins_runs.true) in
    let same = ap (λ (l : List ℕ). length (runs_from 0 l)) c.new.ensures in
    let size = cut.size in
    let room = c.requires.room in
    let own = c.count_of-then-begins_runs.ensures in
    let part = lent_len c.args.at c.count_of-then-begins_runs.result c.args.out.now (omega arith) in
    omega arith

pub returns-then-begins_runs-clause-values : goal.returns-then-begins_runs-clause-values
returns-then-begins_runs-clause-values c =
    let rest : List ℕ = c.args.self.rest.now in
    let m : ℕ = c.args.chunk in
    let own : ℕ = c.count_of-then-begins_runs.result in
    let cut = runs_cut c.args.self.count c.args.self.chunks m c.args.start c.begin_at-begin.result c.end_at-end.result c.count_of.result rest c.args.self.sound c.requires.within c.requires.start
    c.begin_at-begin.ensures c.end_at-end.ensures c.count_of.ensures c.if-body-count_of.false (sym c.begins_runs.ensures ∙ c.if-begins_runs.true) in
    let same = ap (λ (l : List ℕ). runs_from 0 l) c.new.ensures in
    let long = ap (λ (l : List ℕ). length l) same in
    let size = cut.size in
    let room = c.requires.room in
    let of = c.count_of-then-begins_runs.ensures in
    let part = lent_len c.args.at own c.args.out.now (omega arith) in
    let all : take (length (take (c.args.at + own - c.args.at) (drop c.args.at c.args.out.now))) (runs_from 0 c.new.result.bounds.now) ≡ runs_from 0 c.new.result.bounds.now =
    take_all _ (runs_from 0 c.new.result.bounds.now) (omega arith) in
    let written = c.unpack_from.ensures ∙ ap (map (λ i. c.key_at.result * 65536 + i)) all in
    let sized : length c.unpack_from.new.out ≡ own = c.unpack_from.auto.out ∙ part in
    take-put_mid c.args.at (c.args.at + own - c.args.at) c.args.out.now c.unpack_from.new.out (c.args.at + own) (omega arith) (omega arith)
    ∙ ap (λ (l : List ℕ). take c.args.at c.args.out.now ++ l)
    (written ∙ raised_same (c.key_at.result * 65536) (key_at rest m) _ _ (ap (λ (n : ℕ). n * 65536) c.key_at.ensures) (same ∙ cut.read))
