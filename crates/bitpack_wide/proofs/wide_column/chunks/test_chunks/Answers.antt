-- One chunk more.
use Rattle.std.proofs.Common.{◌≡◌, ◌+◌, ◌*◌, ◌<◌, ℕ, Bool, ◌&&◌, ◌||◌, true, cond, leb, List, Some, None, refl, sym, ap, arith, ◌∙◌}
use Rattle.std.proofs.lemmas.Result.{err_from_is_err_and}
use Rattle.bitpack_slices.specs.Reads.{has}
use Rattle.bitpack_sets.specs.Reads as set_reads
use Rattle.bitpack_wide.specs.declared.wide_column_error.WideColumnError.TheVariants.{LooseBody}
use Rattle.bitpack_wide.specs.WideColumnFaults.{chunk_fault, each_below, is_front, is_in_order, last_before, rise}
use Rattle.bitpack_wide.specs.WideColumnReads.{difference_at, is_missing, least_at, len_at}
use Rattle.bitpack_wide.specs.inner.WideColumnSteps.{is_right}
use Rattle.bitpack_wide.specs.WideColumns.{chunks_of}
use Rattle.bitpack_wide.proofs.WideChunks.{chunk_by, last_next, last_start, loose_is, rise_is}
use Rattle.bitpack_wide.proofs.WideSteps.{each_next, each_start, first_found, first_more, first_start}
use Rattle.bitpack_wide.proofs.wide_column.chunks.test_chunks.Goals as goal

pub loop-index-init : goal.loop-index-init
loop-index-init c = record {
  right = first_start (chunk_fault c.args.count c.args.rest.now);
  order = sym (each_start (is_in_order c.args.count c.args.rest.now));
  last_is = sym (last_start c.args.count c.args.rest.now);
}

pub returns-in_err-chunk-clause-fault : goal.returns-in_err-chunk-clause-fault
returns-in_err-chunk-clause-fault c =
    let m : ℕ = c.loop-index.index in
    let lt : m < chunks_of c.args.count = omega (arith, c.loop-index-test.true, c.chunks_of-index-end.ensures.chunks) in
    let found = first_found (chunk_fault c.args.count c.args.rest.now) (chunks_of c.args.count) m _ lt c.loop-index.invariant.right
    (chunk_by c.args.count c.args.rest.now m _ c.in_err-chunk.ensures.fault) in
    let p = err_from_is_err_and c.from_residual.result c.from_residual.ensures.1 in
    rw (p.1, p.2) found

pub returns-in_default-clause-fault : goal.returns-in_default-clause-fault
returns-in_default-clause-fault c =
    let m : ℕ = c.loop-index.index in
    let rest : List ℕ = c.args.rest.now in
    let chunk = c.in_ok-chunk.chunk in
    let lt : m < chunks_of c.args.count = omega (arith, c.loop-index-test.true, c.chunks_of-index-end.ensures.chunks) in
    let wrong : is_right chunk (is_missing c.args.count rest m) ≡ _ =
    sym (ap (λ (bytes : List ℕ). is_right chunk (λ k. has (65536 * m + k) (set_reads.ids_in bytes))) c.requires.missing) ∙ c.in_default.ensures.none refl in
    first_found (chunk_fault c.args.count rest) (chunks_of c.args.count) m (LooseBody m) lt c.loop-index.invariant.right
    (chunk_by c.args.count rest m None c.in_ok-chunk.ensures.fault ∙ loose_is c.args.count rest m chunk c.in_ok-chunk.ensures.chunk
    ∙ ap (λ (b : Bool). cond b None (Some (LooseBody m))) wrong)

pub loop-index-preserved : goal.loop-index-preserved
loop-index-preserved c =
    let it = c.loop-index.invariant in
    let m : ℕ = c.loop-index.index in
    let count : ℕ = c.args.count in
    let rest : List ℕ = c.args.rest.now in
    let chunk = c.in_ok-chunk.chunk in
    let is = c.in_ok-chunk.ensures.chunk in
    let order = c.in-Some.order in
    let last : ℕ = c.loop-index.last in
    let right : is_right chunk (is_missing count rest m) ≡ true =
    sym (ap (λ (bytes : List ℕ). is_right chunk (λ k. has (65536 * m + k) (set_reads.ids_in bytes))) c.requires.missing) ∙ c.in-Some.ensures.some in
    let empty : order.empty ≡ is_front (is_missing count rest m) (len_at count m) =
    c.in-Some.ensures.empty ∙ ap (λ (bytes : List ℕ). is_front (λ k. has (65536 * m + k) (set_reads.ids_in bytes)) chunk.len) c.requires.missing
    ∙ ap (is_front (is_missing count rest m)) is.len_is in
    let rises : order.rises ≡ rise (difference_at (chunks_of count) rest m) (len_at count m) = c.in-Some.ensures.rises ∙ rise_is count rest m chunk is in
    let front : Bool = is_front (is_missing count rest m) (len_at count m) in
    let follows : c.follows-sorted.result ≡ is_in_order count rest m =
    c.follows-sorted.ensures ∙ ap (λ (b : Bool). b || (leb last chunk.least && order.rises)) empty
    ∙ ap (λ (n : ℕ). front || (leb n chunk.least && order.rises)) it.last_is
    ∙ ap (λ (n : ℕ). front || (leb (last_before count rest m) n && order.rises)) is.least_is
    ∙ ap (λ (b : Bool). front || (leb (last_before count rest m) (least_at rest m) && b)) rises in
    record {
      right =
          first_more (chunk_fault count rest) m it.right
          (chunk_by count rest m None c.in_ok-chunk.ensures.fault ∙ loose_is count rest m chunk is ∙ ap (λ (b : Bool). cond b None (Some (LooseBody m))) right);
      order =
          ap (λ (b : Bool). b && c.follows-sorted.result) it.order ∙ ap (λ (b : Bool). each_below (is_in_order count rest) m && b) follows
          ∙ sym (each_next (is_in_order count rest) m);
      last_is =
          c.last_of-last.ensures ∙ ap (λ (b : Bool). cond b last chunk.greatest) empty ∙ ap (λ (n : ℕ). cond front n chunk.greatest) it.last_is
          ∙ ap (cond front (last_before count rest m)) is.greatest_is ∙ sym (last_next count rest m);
    }
