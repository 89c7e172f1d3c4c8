-- The bytes of eight matches more are written, up to the last.
use Rattle.std.proofs.Common.{ℕ, ◌+◌, ◌*◌, ◌/◌, ◌^◌, ◌++◌, get_or, map, take, ap, sym, ◌∙◌, arith, List, append_assoc, append-nil, bit_and, length}
use Rattle.std.specs.Simd.Lanes.{chunk}
use Rattle.std.proofs.lemmas.List.{length-map}
use Rattle.bitpack_slices.proofs.lemmas.bits.OnesLaws.{ones_few}
use Rattle.bitpack_slices.proofs.lemmas.bits.RowLaws.{bytes_counted, chosen_next}
use Rattle.bitpack_slices.proofs.lemmas.slices.SelectionLaws.{ones_end}
use Rattle.bitpack_slices.proofs.slice.positions.put_chosen.Goals as goal
use Rattle.bitpack_slices.specs.Slices.{ones_from}

pub loop-i-init : goal.loop-i-init
unfolding ones_from
loop-i-init c = record { end = omega arith; values = sym (append-nil (take c.args.at c.args.out.now)) }

pub put_some-next-requires : goal.put_some-next-requires
put_some-next-requires c = let few = ones_few c.args.matches 0 (8 * c.loop-i.i) in record { room = omega arith }

pub loop-i-preserved : goal.loop-i-preserved
loop-i-preserved c =
    let more = bytes_counted c.loop-i.i c.args.matches in
    let front = take c.args.at c.args.out.now in
    let bytes : List ℕ = c.args.bytes.now in
    let some : List ℕ = map (λ i. get_or bytes i 0) (ones_from c.args.matches 0 (8 * c.loop-i.i)) in
    let byte : List ℕ = map (λ i. get_or (chunk (8 * c.loop-i.i) 8 bytes) i 0) (ones_from (bit_and (c.args.matches / 2 ^ (8 * c.loop-i.i)) 255) 0 8) in
    record {
      end = omega arith;
      values = c.put_some-next.ensures.values ∙ ap (λ (l : List ℕ). l ++ byte) c.loop-i.invariant.values ∙ append_assoc front some byte
          ∙ ap (λ (l : List ℕ). front ++ l) (sym (chosen_next c.loop-i.i c.args.matches bytes));
    }

pub returns-then-left-eq0-clause-end : goal.returns-then-left-eq0-clause-end
returns-then-left-eq0-clause-end c =
    let g : ℕ → ℕ = λ i. get_or c.args.bytes.now i 0 in
    let last = ones_end c.args.matches (8 * c.loop-i.i) 32 c.if-left-eq0.true (omega arith) in
    c.loop-i.invariant.end ∙ ap (λ (n : ℕ). c.args.at + n) (sym (length-map (ones_from c.args.matches 0 (8 * c.loop-i.i)) g) ∙ ap (λ (l : List ℕ). length (map g l)) (sym last))

pub returns-then-left-eq0-clause-values : goal.returns-then-left-eq0-clause-values
returns-then-left-eq0-clause-values c =
    c.loop-i.invariant.values
    ∙ ap (λ (l : List ℕ). take c.args.at c.args.out.now ++ map (λ i. get_or c.args.bytes.now i 0) l) (sym (ones_end c.args.matches (8 * c.loop-i.i) 32 c.if-left-eq0.true (omega arith)))
