-- One integer more is written.
use Rattle.std.proofs.Common.{◌≡◌, ℕ, ◌+◌, ◌-◌, ◌*◌, ◌++◌, get_or, drop, arith, ap, subst, sym, ◌∙◌, List}
use Rattle.std.specs.List.{flat_map}
use borrow.Rule.Slice.PartMut.{put_mid}
use Rattle.bitpack_groups.proofs.ForCallers.{IsFilled, fill_done, fill_part, fill_room, fill_start, flat_more, flat_none, lent_len, little_len, product_more}
use Rattle.bitpack_slices.proofs.lemmas.bodies.LongLaws.{flat_len}
use Rattle.bitpack_slices.proofs.integers.write_integers.Goals as goal
use Rattle.bitpack_slices.specs.Bodies.{le_bytes}

pub loop-index-init : goal.loop-index-init
loop-index-init c =
    let all : List ℕ = flat_map (le_bytes c.args.size) c.args.values.now in
    let e : 0 ≡ c.args.size * 0 = omega arith in
    subst (λ (m : ℕ). IsFilled c.args.out.now m all all) e (fill_start c.args.out.now all (c.requires ∙ sym (flat_len c.args.size c.args.values.now)))

pub loop-index-preserved : goal.loop-index-preserved
loop-index-preserved c =
    let size : ℕ = c.args.size in
    let i : ℕ = c.loop-index.index in
    let out : List ℕ = c.loop-index.out in
    let at : ℕ = size * i in
    let x : ℕ = get_or c.args.values.now i 0 in
    let all : List ℕ = flat_map (le_bytes size) c.args.values.now in
    let rest : List ℕ = flat_map (le_bytes size) (drop (i + 1) c.args.values.now) in
    let fill : IsFilled out at (le_bytes size x ++ rest) all = subst (λ (l : List ℕ). IsFilled out at l all) (flat_more size i c.args.values.now c.loop-index-test.true) c.loop-index.invariant in
    let room = fill_room out at (le_bytes size x) rest all fill in
    let len = little_len size x in
    let next : at + (at + size - at) ≡ size * (i + 1) = omega (arith, product_more size i) in
    subst (λ (m : ℕ). IsFilled (put_mid at (at + size - at) out c.write_integer.new.out) m rest all) next
    (fill_part out c.write_integer.new.out at (at + size - at) (le_bytes size x) rest all fill (omega arith)
    (c.write_integer.ensures ∙ ap (λ m. le_bytes m x) (lent_len at size out (omega arith))))

pub returns : goal.returns
returns c =
    let all : List ℕ = flat_map (le_bytes c.args.size) c.args.values.now in
    fill_done c.loop-index.out (c.args.size * c.loop-index.index) all
    (subst (λ (l : List ℕ). IsFilled c.loop-index.out (c.args.size * c.loop-index.index) l all)
    (flat_none c.args.size c.loop-index.index c.args.values.now c.loop-index-test.false) c.loop-index.invariant)
