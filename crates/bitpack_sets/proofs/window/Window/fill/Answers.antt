-- The ids that are unpacked are copied, and those after them are written after these.
use Rattle.std.proofs.Common.{◌≡◌, ◌+◌, ◌-◌, ◌++◌, ◌∙◌, ◌≤◌, ℕ, List, ap, arith, drop, length, take}
use Rattle.std.proofs.lemmas.List.{drop_all, length-drop, take-append-le, take_all}
use Rattle.bitpack_sets.specs.Opened.{ids}
use Rattle.bitpack_sets.specs.declared.id_set.IdSet.{IdSet}
use Rattle.bitpack_sets.proofs.lemmas.reads.IdsLaws.{copied_is, joined, left_over, tail_is}
use Rattle.bitpack_sets.proofs.window.Window.fill.Goals as goal

pub returns-then-count-self-clause-ids : goal.returns-then-count-self-clause-ids
returns-then-count-self-clause-ids c =
    let it = c.args.self.now in
    let window = c.requires.window in
    let count : ℕ = c.min-count.result in
    let copied : List ℕ = c.copy_from_slice.new.self in
    let before = it.before in
    let is = copied_is it.next it.begin it.end count copied it.unpacked (ids c.args.set.now) it.after (omega (arith, c.min-count.ensures)) window.within window.values c.copy_from_slice.ensures.after in
    let long = is.0 in
    take-append-le count copied (drop count c.args.out.now) (omega arith) ∙ take_all count copied (omega arith) ∙ is.1

pub returns-clause-ids : goal.returns-clause-ids
returns-clause-ids c =
    let it = c.args.self.now in
    let window = c.requires.window in
    let xs : List ℕ = ids c.args.set.now in
    let count : ℕ = c.min-count.result in
    let more : ℕ = c.fill-more.result in
    let before = it.before in
    let is = copied_is it.next it.begin it.end count c.copy_from_slice.new.self it.unpacked xs it.after (omega (arith, c.min-count.ensures)) window.within window.values c.copy_from_slice.ensures.after in
    let all : it.end ≡ it.next + count = omega (arith, c.if-count-self.false, c.min-count.ensures) in
    let enough : more ≤ length c.fill-more.new.out = omega (arith, c.fill-more.ensures.len, c.fill-more.auto.out) in
    joined it.next count more c.copy_from_slice.new.self _ c.fill-more.new.out _ xs is.0 is.1 enough
    (c.fill-more.ensures.ids ∙ ap (λ (n : ℕ). take more (drop n (ids c.after-cursor.result.set))) (c.after-cursor.ensures.position ∙ all)
    ∙ ap (λ (s : IdSet). take more (drop (it.next + count) (ids s))) c.after-cursor.ensures.set)

pub returns-clause-rest : goal.returns-clause-rest
returns-clause-rest c =
    let it = c.args.self.now in
    let window = c.requires.window in
    let count : ℕ = c.min-count.result in
    let more : ℕ = c.fill-more.result in
    let copied : List ℕ = c.copy_from_slice.new.self in
    let old : List ℕ = c.args.out.now in
    let before = it.before in
    let is = copied_is it.next it.begin it.end count copied it.unpacked (ids c.args.set.now) it.after (omega (arith, c.min-count.ensures)) window.within window.values c.copy_from_slice.ensures.after in
    let both : List ℕ = copied ++ drop count old in
    left_over count more copied (drop count old) c.fill-more.new.out _ old is.0 (drop_all (length both - count) (drop count both) (omega (arith, length-drop count both)))
    (c.fill-more.ensures.rest ∙ ap (drop more) (tail_is count copied old is.0))
