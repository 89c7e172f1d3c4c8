-- Values that are copied part by part.
use Rattle.std.proofs.Common.{◌≡◌, ℕ, ◌+◌, ◌-◌, ◌*◌, ◌<◌, ◌≤◌, List, ◌++◌, length, take, take-add, drop, Result, Ok, Err, true, false, sym, ◌∙◌, ap, arith}
use Rattle.std.specs.Result.{OnErr, OnOk, is_err}
use Rattle.std.proofs.lemmas.List.{drop-drop, drop-take, drop_at, length-append, length-take-le, take-append-drop, take-append-le, take-take, take_all, take_at, take_rest}
use Rattle.std.proofs.lemmas.Slice.{drop-append-drop, drop-put_mid, take-put_mid}
use borrow.Rule.Slice.PartMut.{post_of, put_mid}
use Rattle.bitpack_columns.specs.declared.column.Column.{Column}
use Rattle.bitpack_columns.specs.Columns.{block_of}
use Rattle.bitpack_columns.specs.Opened.{blocks_of, values}
use Rattle.bitpack_columns.specs.Reads.{begin_at, bodies_start, body_at, end_at, width_at}
use Rattle.bitpack_columns.proofs.OpenedLaws.{rising}

-- a part of the first values
pub part_of_front : (n from len : ℕ) (xs : List ℕ) → from + len ≤ n → take len (drop from (take n xs)) ≡ take len (drop from xs)
part_of_front n from len xs room =
    let split : n ≡ from + (n - from) = omega arith in
    ap (λ m. take len (drop from (take m xs))) split ∙ ap (take len) (drop-take from (n - from) xs) ∙ take-take len (n - from) (drop from xs) (omega arith)

-- some values of a block that was unpacked
pub part_unpacked : (values unpacked : List ℕ) (block index len more : ℕ) → take len unpacked ≡ block_of block values → index + more ≤ len → index + more ≤ 128
    → take more (drop index unpacked) ≡ take more (drop (128 * block + index) values)
part_unpacked values unpacked block index len more e inside few =
    sym (part_of_front len index more unpacked inside) ∙ ap (λ xs. take more (drop index xs)) e
    ∙ part_of_front 128 index more (drop (128 * block) values) few ∙ ap (take more) (drop-drop index (128 * block) values)

-- one part more is written
pub part_written : (values out new : List ℕ) (done size more from : ℕ) → done ≤ length out → length new ≡ size → more ≤ size
    → take done out ≡ take done (drop from values) → take more new ≡ take more (drop (from + done) values)
    → take (done + more) (put_mid done size out new) ≡ take (done + more) (drop from values)
part_written values out new done size more from within long fits before here =
    let front : length (take done out) ≡ done = length-take-le done out within in
    take-add done more (put_mid done size out new)
    ∙ ap (λ xs. xs ++ take more (drop done (put_mid done size out new))) (take_at (take done out) (new ++ post_of done size out) done front)
    ∙ ap (λ xs. take done out ++ take more xs) (drop_at (take done out) (new ++ post_of done size out) done front)
    ∙ ap (λ xs. take done out ++ xs) (take-append-le more new (post_of done size out) (omega arith) ∙ here)
    ∙ ap (λ xs. xs ++ take more (drop (from + done) values)) before
    ∙ ap (λ xs. take done (drop from values) ++ take more xs) (sym (drop-drop done from values))
    ∙ sym (take-add done more (drop from values))

-- all blocks, and then the tail
pub all_written : (values out front tail : List ℕ) (whole count : ℕ) → whole ≤ count → length front ≡ whole → length tail ≡ count - whole
    → front ≡ take whole values → tail ≡ drop whole values
    → take count (put_mid whole (count - whole) (front ++ drop whole out) tail) ≡ values
all_written values out front tail whole count le long rest e f =
    let total = length-append front (drop whole out) in
    take-put_mid whole (count - whole) (front ++ drop whole out) tail count (omega arith) (omega arith)
    ∙ ap (λ xs. xs ++ tail) (take_at front (drop whole out) whole long) ∙ ap (λ xs. xs ++ tail) e ∙ ap (λ xs. take whole values ++ xs) f
    ∙ take-append-drop whole values

pub rest_left : (out front tail : List ℕ) (whole count : ℕ) → whole ≤ count → length front ≡ whole → length tail ≡ count - whole
    → drop count (put_mid whole (count - whole) (front ++ drop whole out) tail) ≡ drop count out
rest_left out front tail whole count le long rest =
    let total = length-append front (drop whole out) in
    drop-put_mid whole (count - whole) (front ++ drop whole out) tail count (omega arith) (omega arith) rest
    ∙ drop-append-drop whole out front count le long

-- the body of a block, as it is lent of all bodies
pub lent_body : (column : Column) (m start begin end : ℕ) → m < blocks_of column → start ≡ bodies_start (blocks_of column) column.rest.bytes.now
    → begin ≡ begin_at column.rest.bytes.now m → end ≡ end_at column.rest.bytes.now m
    → take (16 * end - 16 * begin) (drop (16 * begin) (take (length column.rest.bytes.now - start) (drop start column.rest.bytes.now)))
    ≡ body_at (blocks_of column) column.rest.bytes.now m
lent_body column m start begin end lt first here last =
    let rest : List ℕ = column.rest.bytes.now in
    let up = rising column m lt in
    let size : 16 * end - 16 * begin ≡ 16 * width_at rest m = omega arith in
    let from : start + 16 * begin ≡ bodies_start (blocks_of column) rest + 16 * begin_at rest m = omega arith in
    ap (λ n. take n (drop (16 * begin) (take (length rest - start) (drop start rest)))) size
    ∙ ap (λ xs. take (16 * width_at rest m) (drop (16 * begin) xs)) (take_rest rest start)
    ∙ ap (take (16 * width_at rest m)) (drop-drop (16 * begin) start rest ∙ ap (λ n. drop n rest) from)

-- one block more is written
pub block_written : (values out part : List ℕ) (block : ℕ) → 128 * block + 128 ≤ length out → length part ≡ 128
    → take (128 * block) out ≡ take (128 * block) values → part ≡ block_of block values
    → take (128 * (block + 1)) (put_mid (128 * block) (128 * block + 128 - 128 * block) out part) ≡ take (128 * (block + 1)) values
block_written values out part block room long before e =
    let next : 128 * (block + 1) ≡ 128 * block + 128 = omega arith in
    let size : 128 * block + 128 - 128 * block ≡ 128 = omega arith in
    let here : 128 * block ≡ 0 + 128 * block = omega arith in
    let part_is : take 128 part ≡ take 128 (drop (0 + 128 * block) values) =
    take_all 128 part (omega arith) ∙ e ∙ ap (λ n. take 128 (drop n values)) here in
    ap (λ n. take n (put_mid (128 * block) (128 * block + 128 - 128 * block) out part)) next
    ∙ ap (λ n. take (128 * block + 128) (put_mid (128 * block) n out part)) size
    ∙ part_written values out part (128 * block) 128 128 0 (omega arith) long (omega arith) before part_is
    ∙ ap (λ n. take n values) (sym next)

pub on_err : {A E P : Type 0} (result : Result A E) → is_err result ≡ true → OnErr result P → P
on_err (Ok x) e fact = absurd cc
on_err (Err x) e fact = fact

pub on_ok : {A E P : Type 0} (result : Result A E) → is_err result ≡ false → OnOk result P → P
on_ok (Ok x) e fact = fact
on_ok (Err x) e fact = absurd cc
