-- The bytes of eight matches more are written.
use Rattle.std.proofs.Common.{ℕ, ◌+◌, ◌*◌, ◌/◌, ◌^◌, ◌++◌, get_or, map, take, ap, sym, ◌∙◌, arith, List, append_assoc, append-nil, bit_and, length, [], ◌≡◌}
use Rattle.std.specs.Simd.Lanes.{chunk}
use Rattle.bitpack_slices.proofs.lemmas.bits.OnesLaws.{ones_few}
use Rattle.bitpack_slices.proofs.lemmas.bits.RowLaws.{bytes_counted, chosen_more}
use Rattle.bitpack_slices.proofs.slice.positions.unpack_chosen.Goals as goal
use Rattle.bitpack_slices.specs.Slices.{ones_from}

-- nothing is chosen
chosen_none : (bytes : List ℕ) (matches : ℕ) → matches ≡ 0 → map (λ i. get_or bytes i 0) (ones_from matches 0 32) ≡ []
unfolding ones_from
chosen_none bytes matches e = ap (λ (n : ℕ). map (λ i. get_or bytes i 0) (ones_from n 0 32)) e

pub returns-then-matches-eq0-clause-end : goal.returns-then-matches-eq0-clause-end
returns-then-matches-eq0-clause-end c = let none = ap length (chosen_none c.args.bytes.now c.args.matches c.if-matches-eq0.true) in omega arith

pub returns-then-matches-eq0-clause-values : goal.returns-then-matches-eq0-clause-values
returns-then-matches-eq0-clause-values c =
    sym (append-nil (take c.args.at c.args.out.now))
    ∙ ap (λ (l : List ℕ). take c.args.at c.args.out.now ++ map (λ i. c.args.base + i) l) (sym (chosen_none c.args.bytes.now c.args.matches c.if-matches-eq0.true))

pub loop-i-init : goal.loop-i-init
unfolding ones_from
loop-i-init c = record { end = omega arith; values = sym (append-nil (take c.args.at c.args.out.now)) }

pub unpack_eight-next-requires-clause-room : goal.unpack_eight-next-requires-clause-room
unpack_eight-next-requires-clause-room c = let few = ones_few c.args.matches 0 (8 * c.loop-i.i) in omega arith

pub loop-i-preserved : goal.loop-i-preserved
loop-i-preserved c =
    let more = bytes_counted c.loop-i.i c.args.matches in
    let front = take c.args.at c.args.out.now in
    let bytes : List ℕ = c.args.bytes.now in
    let some : List ℕ = map (λ i. c.args.base + i) (map (λ i. get_or bytes i 0) (ones_from c.args.matches 0 (8 * c.loop-i.i))) in
    let byte : List ℕ = map (λ i. c.args.base + i) (map (λ i. get_or (chunk (8 * c.loop-i.i) 8 bytes) i 0) (ones_from (bit_and (c.args.matches / 2 ^ (8 * c.loop-i.i)) 255) 0 8)) in
    record {
      end = omega arith;
      values = c.unpack_eight-next.ensures.values ∙ ap (λ (l : List ℕ). l ++ byte) c.loop-i.invariant.values ∙ append_assoc front some byte
          ∙ ap (λ (l : List ℕ). front ++ l) (sym (chosen_more c.args.base c.loop-i.i c.args.matches bytes));
    }
