-- Each part of the directory begins with that of the chunks that are copied.
use Rattle.std.proofs.Common.{◌≡◌, ◌++◌, ℕ, List, length, arith, ap, sym, ◌∙◌, refl, length-append}
use Rattle.std.specs.List.{concat}
use Rattle.bitpack_sets.proofs.lemmas.written.FrontEncodings.{concat_both, ends_split, keys_split, sums_split}
use Rattle.bitpack_sets.proofs.encoding.copying.Front.write_entries.Goals as goal
use Rattle.bitpack_sets.specs.Fronts.{front_ids}
use Rattle.bitpack_sets.specs.Written.{bodies}

pub split_at_mut-own_keys-requires : goal.split_at_mut-own_keys-requires
split_at_mut-own_keys-requires c =
    let split = keys_split (front_ids c.args.self.now) c.args.ids.now c.requires.next c.count-count.result c.count-count.ensures.count in
    omega (arith, split.all_len, c.requires.keys)

pub split_at_mut-own_ends-requires : goal.split_at_mut-own_ends-requires
split_at_mut-own_ends-requires c =
    let split = ends_split (front_ids c.args.self.now) c.args.ids.now c.requires.next c.count-count.result c.count-count.ensures.count c.args.end_size c.size-size.result c.size-size.ensures.size in
    omega (arith, split.all_len, c.requires.ends)

pub split_at_mut-own_sums-requires : goal.split_at_mut-own_sums-requires
split_at_mut-own_sums-requires c =
    let split = sums_split (front_ids c.args.self.now) c.args.ids.now c.requires.next c.count-count.result c.count-count.ensures.count c.args.sum_size (length (front_ids c.args.self.now)) refl in
    omega (arith, split.all_len, c.requires.sums)

pub split_at_mut-own_out-requires : goal.split_at_mut-own_out-requires
split_at_mut-own_out-requires c =
    let both = ap length (concat_both (front_ids c.args.self.now) c.args.ids.now c.requires.next) in
    let long = length-append (concat (bodies (front_ids c.args.self.now))) (concat (bodies c.args.ids.now)) in
    omega (arith, both, long, c.requires.bodies, c.size-size.ensures.size)

pub copy-requires-clause-keys : goal.copy-requires-clause-keys
copy-requires-clause-keys c =
    let split = keys_split (front_ids c.args.self.now) c.args.ids.now c.requires.next c.count-count.result c.count-count.ensures.count in
    omega (arith, split.own_len, c.split_at_mut-own_keys.ensures.front_len)

pub copy-requires-clause-ends : goal.copy-requires-clause-ends
copy-requires-clause-ends c =
    let split = ends_split (front_ids c.args.self.now) c.args.ids.now c.requires.next c.count-count.result c.count-count.ensures.count c.args.end_size c.size-size.result c.size-size.ensures.size in
    omega (arith, split.own_len, c.split_at_mut-own_ends.ensures.front_len)

pub copy-requires-clause-sums : goal.copy-requires-clause-sums
copy-requires-clause-sums c =
    let split = sums_split (front_ids c.args.self.now) c.args.ids.now c.requires.next c.count-count.result c.count-count.ensures.count c.args.sum_size (length (front_ids c.args.self.now)) refl in
    omega (arith, split.own_len, c.split_at_mut-own_sums.ensures.front_len)

pub write_entries-requires-clause-keys : goal.write_entries-requires-clause-keys
write_entries-requires-clause-keys c =
    let split = keys_split (front_ids c.args.self.now) c.args.ids.now c.requires.next c.count-count.result c.count-count.ensures.count in
    omega (arith, split.all_len, c.requires.keys, c.split_at_mut-own_keys.ensures.back_len)

pub write_entries-requires-clause-ends : goal.write_entries-requires-clause-ends
write_entries-requires-clause-ends c =
    let split = ends_split (front_ids c.args.self.now) c.args.ids.now c.requires.next c.count-count.result c.count-count.ensures.count c.args.end_size c.size-size.result c.size-size.ensures.size in
    omega (arith, split.all_len, c.requires.ends, c.split_at_mut-own_ends.ensures.back_len)

pub write_entries-requires-clause-sums : goal.write_entries-requires-clause-sums
write_entries-requires-clause-sums c =
    let split = sums_split (front_ids c.args.self.now) c.args.ids.now c.requires.next c.count-count.result c.count-count.ensures.count c.args.sum_size c.len.result c.len.ensures.len in
    omega (arith, split.all_len, c.requires.sums, c.split_at_mut-own_sums.ensures.back_len)

pub write_entries-requires-clause-bodies : goal.write_entries-requires-clause-bodies
write_entries-requires-clause-bodies c =
    let both = ap length (concat_both (front_ids c.args.self.now) c.args.ids.now c.requires.next) in
    let long = length-append (concat (bodies (front_ids c.args.self.now))) (concat (bodies c.args.ids.now)) in
    omega (arith, both, long, c.requires.bodies, c.size-size.ensures.size, c.split_at_mut-own_out.ensures.back_len)

joined : (all a b a' b' : List ℕ) → a ≡ a' → b ≡ b' → all ≡ a' ++ b' → a ++ b ≡ all
joined all a b a' b' e f g = ap (λ (l : List ℕ). l ++ b) e ∙ ap (λ (l : List ℕ). a' ++ l) f ∙ sym g

pub returns-clause-keys : goal.returns-clause-keys
returns-clause-keys c =
    let split = keys_split (front_ids c.args.self.now) c.args.ids.now c.requires.next c.count-count.result c.count-count.ensures.count in
    joined _ _ _ _ _ c.copy.ensures.keys c.write_entries.ensures.keys split.both

pub returns-clause-ends : goal.returns-clause-ends
returns-clause-ends c =
    let split = ends_split (front_ids c.args.self.now) c.args.ids.now c.requires.next c.count-count.result c.count-count.ensures.count c.args.end_size c.size-size.result c.size-size.ensures.size in
    joined _ _ _ _ _ c.copy.ensures.ends c.write_entries.ensures.ends split.both

pub returns-clause-sums : goal.returns-clause-sums
returns-clause-sums c =
    let split = sums_split (front_ids c.args.self.now) c.args.ids.now c.requires.next c.count-count.result c.count-count.ensures.count c.args.sum_size c.len.result c.len.ensures.len in
    joined _ _ _ _ _ c.copy.ensures.sums c.write_entries.ensures.sums split.both

pub returns-clause-bodies : goal.returns-clause-bodies
returns-clause-bodies c = joined _ _ _ _ _ c.copy.ensures.bodies c.write_entries.ensures.bodies (concat_both (front_ids c.args.self.now) c.args.ids.now c.requires.next)
