-- One value more.
use Rattle.std.proofs.Common.{◌≡◌, ◌+◌, ◌<◌, ◌^◌, ◌∙◌, Bool, ℕ, ap, arith, cond, get_or, length, sym, inl, inr}
use Rattle.std.proofs.lemmas.Bool.{cases_lt}
use Rattle.std.proofs.lemmas.Grind.{get_or-set_at}
use Rattle.std.proofs.lemmas.List.{get_or-set_other, length-set}
use Rattle.bitpack_slices.specs.Reads.{has}
use Rattle.bitpack_sets.specs.Opened.{ids}
use Rattle.bitpack_wide.proofs.WideCopied.{at_rank, byte_most, next_rank}
use Rattle.bitpack_wide.proofs.WideSame.{set_rises}
use Rattle.bitpack_wide.proofs.wide_column.copying.add_least.Goals as goal

pub loop-index-preserved : goal.loop-index-preserved
loop-index-preserved c =
    let it = c.loop-index.invariant in
    let index : ℕ = c.loop-index.index in
    let set = c.args.missing.now in
    let lt : index < length c.args.out.now = c.loop-index-test.true in
    let found : ℕ = c.copy_range-found.result in
    let is : c.is_at-is_absent.result ≡ has (c.args.from + index) (ids set) =
    c.is_at-is_absent.ensures
    ∙ at_rank (ids set) c.copy_range-found.new.out (c.args.from + index) c.rank-first.result c.loop-index.next found (2 ^ 32) (set_rises set) c.copy_range-found.ensures.ids
    c.copy_range-found.ensures.len it.passed (omega (arith, it.few, lt, c.requires.few)) in
    let here : c.either.result ≡ cond (has (c.args.from + index) (ids set)) c.args.fill (c.args.least + get_or c.args.out.now index 0) =
    c.either.ensures ∙ ap (λ (b : Bool). cond b c.args.fill (c.args.least + get_or c.loop-index.out index 0)) is
    ∙ ap (λ (n : ℕ). cond (has (c.args.from + index) (ids set)) c.args.fill (c.args.least + n)) (it.left index (omega arith)) in
    record {
      long = length-set c.loop-index.out index c.either.result ∙ it.long;
      passed = next_rank (ids set) c.args.from index c.rank-first.result c.loop-index.next (2 ^ 32) c.is_at-is_absent.result (set_rises set) it.passed is;
      few = omega (arith, it.few, byte_most c.is_at-is_absent.result);
      written = λ k less. elim (cases_lt k index) [
        | inl earlier ↦ get_or-set_other c.loop-index.out index k c.either.result 0 (λ e. absurd (omega (arith, earlier, e))) ∙ it.written k earlier
        | inr last ↦
            let same : k ≡ index = omega (arith, less, last) in
            get_or-set_at c.loop-index.out index k c.either.result 0 same (omega (arith, lt, it.long)) ∙ here
            ∙ sym (ap (λ (n : ℕ). cond (has (c.args.from + n) (ids set)) c.args.fill (c.args.least + get_or c.args.out.now n 0)) same)
      ];
      left = λ k more. get_or-set_other c.loop-index.out index k c.either.result 0 (λ e. absurd (omega (arith, more, e))) ∙ it.left k (omega (arith, more));
    }
