-- Eight bytes more are written.
use Rattle.std.proofs.Common.{◌≡◌, ℕ, ◌+◌, ◌*◌, ◌++◌, List, append_assoc, append-nil, arith, ap, drop, map, sym, take, ◌∙◌}
use Rattle.std.specs.Simd.Lanes.{chunk}
use Rattle.std.proofs.lemmas.List.{drop-take, map-append, take-append-drop, take-take, take_all}
use Rattle.bitpack_slices.proofs.slice.positions.unpack_32.Goals as goal

-- eight of a list more
eight_more : (i : ℕ) (xs : List ℕ) → take (i + 8) xs ≡ take i xs ++ chunk i 8 xs
eight_more i xs =
    sym (take-append-drop i (take (i + 8) xs)) ∙ ap (λ (l : List ℕ). l ++ drop i (take (i + 8) xs)) (take-take i (i + 8) xs (omega arith))
    ∙ ap (λ (l : List ℕ). take i xs ++ l) (drop-take i 8 xs)

pub loop-i-init : goal.loop-i-init
loop-i-init c =
    let e : c.args.at + 8 * 0 ≡ c.args.at = omega arith in
    ap (λ (n : ℕ). take n c.args.out.now) e ∙ sym (append-nil (take c.args.at c.args.out.now))

pub loop-i-preserved : goal.loop-i-preserved
loop-i-preserved c =
    let f : List ℕ → List ℕ = map (λ i. c.args.base + i) in
    let k : ℕ = 8 * c.loop-i.i in
    let bytes : List ℕ = c.args.bytes.now in
    let front : List ℕ = take c.args.at c.args.out.now in
    let more : 8 * (c.loop-i.i + 1) ≡ k + 8 = omega arith in
    let end : c.args.at + 8 * (c.loop-i.i + 1) ≡ c.args.at + k + 8 = omega arith in
    ap (λ (n : ℕ). take n c.put_eight.new.out) end ∙ c.put_eight.ensures ∙ ap (λ (l : List ℕ). l ++ f (chunk k 8 bytes)) c.loop-i.invariant
    ∙ append_assoc front (f (take k bytes)) (f (chunk k 8 bytes))
    ∙ ap (λ (l : List ℕ). front ++ l) (sym (map-append (λ i. c.args.base + i) (take k bytes) (chunk k 8 bytes)))
    ∙ ap (λ (l : List ℕ). front ++ f l) (sym (eight_more k bytes)) ∙ ap (λ (n : ℕ). front ++ f (take n bytes)) (sym more)

pub returns : goal.returns
returns c =
    let all : c.args.at + 8 * c.loop-i.i ≡ c.args.at + 32 = omega (arith, c.loop-i-test.false) in
    let whole : take (8 * c.loop-i.i) c.args.bytes.now ≡ c.args.bytes.now = take_all (8 * c.loop-i.i) c.args.bytes.now (omega (arith, c.loop-i-test.false)) in
    sym (ap (λ (n : ℕ). take n c.loop-i.out) all) ∙ c.loop-i.invariant ∙ ap (λ (l : List ℕ). take c.args.at c.args.out.now ++ map (λ i. c.args.base + i) l) whole
