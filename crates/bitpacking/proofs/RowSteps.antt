-- A turn of a loop over the rows of a block: a register of codes or values is taken off what is left, and added to what is done.
use Rattle.std.proofs.Common.{◌≡◌, ℕ, ◌+◌, ◌*◌, ◌<◌, ◌≤◌, List, [], ◌++◌, length, get_or, take, drop, sym, ◌∙◌, ap, arith}
use Rattle.std.proofs.lemmas.List.{append-nil, drop_all}
use Rattle.std.proofs.lemmas.Nat.{mul-le}
use Rattle.bitpacking.proofs.WordsOfParts.{drop-further, row_first, row_is}

-- The codes that are left begin with those of the next register. `old` and `new` are what the transformer returns for the values
-- that come, before and after that register.
pub codes_step : (lanes i : ℕ) (all values row out : List ℕ) (old new : List ℕ → List ℕ)
    → drop (lanes * i) all ≡ old (drop (lanes * i) values) → row ≡ take lanes (drop (lanes * i) values)
    → ((rest : List ℕ) → old (row ++ rest) ≡ out ++ new rest)
    → drop (lanes * i) all ≡ out ++ new (drop (lanes * (i + 1)) values)
codes_step lanes i all values row out old new rest is step =
    let left : List ℕ = drop (lanes * (i + 1)) values in
    let split : drop (lanes * i) values ≡ row ++ left = rw is (row_first lanes i values) in
    rest ∙ ap old split ∙ step left

-- The values written and those to come are the values of all codes, also after one more register, whose codes are a row of all.
pub values_step : (lanes i : ℕ) (codes row before after all : List ℕ) (old new : List ℕ → List ℕ)
    → length codes ≡ 32 * lanes → i < 32 → length row ≡ lanes
    → ((l : ℕ) → l < lanes → get_or row l 0 ≡ get_or codes (i * lanes + l) 0)
    → ((rest : List ℕ) → take (lanes * i + lanes) after ++ new rest ≡ take (lanes * i) before ++ old (row ++ rest))
    → take (lanes * i) before ++ old (drop (lanes * i) codes) ≡ all
    → take (lanes * (i + 1)) after ++ new (drop (lanes * (i + 1)) codes) ≡ all
values_step lanes i codes row before after all old new long lt count same step done =
    let next : lanes * (i + 1) ≡ lanes * i + lanes = omega arith in
    let within : lanes * i + lanes ≤ length codes =
    omega (arith, mul-le lanes (i + 1) lanes 32 (omega arith) (omega arith)) in
    let split : drop (lanes * i) codes ≡ row ++ drop (lanes * (i + 1)) codes = row_is lanes i codes row count within same in
    ap (λ n. take n after ++ new (drop (lanes * (i + 1)) codes)) next
    ∙ step (drop (lanes * (i + 1)) codes)
    ∙ ap (λ xs. take (lanes * i) before ++ old xs) (sym split)
    ∙ done

-- After the last register nothing is to come.
pub values_done : (lanes i : ℕ) (codes values all : List ℕ) (left : List ℕ → List ℕ)
    → i ≡ 32 → length codes ≡ 32 * lanes → left [] ≡ []
    → take (lanes * i) values ++ left (drop (lanes * i) codes) ≡ all
    → take (32 * lanes) values ≡ all
values_done lanes i codes values all left whole long none done =
    let count : lanes * i ≡ 32 * lanes = rw whole (omega arith) in
    let nothing : drop (32 * lanes) codes ≡ [] = drop_all (32 * lanes) codes (omega arith) in
    sym (append-nil (take (32 * lanes) values))
    ∙ ap (λ xs. take (32 * lanes) values ++ xs) (sym (ap left nothing ∙ none))
    ∙ ap (λ n. take n values ++ left (drop n codes)) (sym count)
    ∙ done

-- What is after the block stays, if a store leaves what is after its register.
pub rest_step : (unit i rows : ℕ) (new old first : List ℕ) → i < rows
    → drop (unit * i + unit) new ≡ drop (unit * i + unit) old
    → drop (unit * rows) old ≡ drop (unit * rows) first
    → drop (unit * rows) new ≡ drop (unit * rows) first
rest_step unit i rows new old first lt stored rest =
    drop-further new old (unit * i + unit) (unit * rows)
    (omega (arith, mul-le unit (i + 1) unit rows (omega arith) (omega arith))) stored
    ∙ rest
