-- The parts of the directory have their places, and the bodies are behind them.
use Rattle.std.proofs.Common.{◌≡◌, ◌+◌, ◌-◌, ◌*◌, ◌∙◌, ℕ, List, ap, arith, drop, length, sym}
use Rattle.std.specs.List.{flat_map}
use Rattle.bitpack_slices.specs.Bodies.{le_bytes}
use Rattle.bitpack_sets.proofs.lemmas.written.GatheredLaws.{behind_four, five_joined, moved, three_times}
use Rattle.bitpack_sets.proofs.encoding.gathered.write_gathered.Goals as goal
use Rattle.bitpack_sets.specs.Sets.{sums}
use Rattle.bitpack_sets.specs.Varints.{byte_count}
use Rattle.bitpack_sets.specs.Written.{head}

pub returns : goal.returns
returns c =
    let n : ℕ = length c.args.keys.now in
    let out : List ℕ = c.args.out.now in
    let start : ℕ = length out - c.args.size in
    let e : ℕ = c.byte_count-end_size.result in
    let z : ℕ = c.byte_count-sum_size.result in
    let e_is : e ≡ byte_count c.args.size = c.byte_count-end_size.ensures.count in
    let z_is : z ≡ byte_count c.args.count = c.byte_count-sum_size.ensures.count in
    let len : ℕ = c.head_len-len.result in
    let len_is = c.head_len-len.ensures.len in
    let room = c.requires.room in
    let times = three_times e z n in
    let same : (2 + byte_count c.args.size + byte_count c.args.count) * n ≡ (2 + e + z) * n = ap (λ (k : ℕ). (2 + byte_count c.args.size + k) * n) (sym z_is) ∙ ap (λ (k : ℕ). (2 + k + z) * n) (sym e_is) in
    let bodies = moved c.args.size start out c.copy_within.new.self (omega arith) c.copy_within.ensures.after in
    let behind = behind_four len (2 * n) (e * n) (z * n) c.copy_within.new.self c.split_at_mut-head.result.1.now c.split_at_mut-first.result.1.now c.split_at_mut-ends.result.1.now
    c.split_at_mut-head.ensures.back c.split_at_mut-first.ensures.back c.split_at_mut-ends.ensures.back in
    let here : len + 2 * n + e * n + z * n ≡ start = omega arith in
    five_joined _ _ _ _ _ _ _ _ _ _
    (c.write_head.ensures ∙ ap (λ (k : ℕ). head c.args.count n k z) e_is ∙ ap (λ (k : ℕ). head c.args.count n (byte_count c.args.size) k) z_is)
    c.write_integers.ensures
    (c.write_sums.ensures ∙ ap (λ (k : ℕ). flat_map (le_bytes k) (sums 0 c.args.sizes.now)) e_is)
    (c.write_sums-2.ensures ∙ ap (λ (k : ℕ). flat_map (le_bytes k) (sums 0 c.args.counts.now)) z_is)
    (behind ∙ ap (λ (k : ℕ). drop k c.copy_within.new.self) here ∙ bodies)
