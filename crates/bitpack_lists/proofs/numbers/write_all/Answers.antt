-- The four bytes of one word more are appended.
use Rattle.std.proofs.Common.{◌≡◌, ℕ, List, length, take, ap, append_assoc, arith}
use Rattle.std.proofs.lemmas.List.{take_all}
use Rattle.bitpacking.specs.Words.{bytes_of_words}
use Rattle.bitpacking.proofs.ForCallers.{bytes_of_words_more}
use Rattle.bitpack_lists.proofs.numbers.write_all.Goals as goal

pub append-requires : goal.append-requires
append-requires c =
    let four : length c.to_le_bytes.result ≡ 4 = ap length c.to_le_bytes.ensures in
    record { room = omega arith }

pub loop-value-preserved : goal.loop-value-preserved
loop-value-preserved c =
    let values : List ℕ = c.args.values.now in
    let i : ℕ = c.loop-value.value-index in
    let word : List ℕ = c.to_le_bytes.result in
    let four : length word ≡ 4 = ap length c.to_le_bytes.ensures in
    record {
      items =
          rw (bytes_of_words_more values i c.loop-value-test.true, ← c.to_le_bytes.ensures, c.append.ensures.items, c.loop-value.invariant.items)
          (append_assoc c.args.out.now.items (bytes_of_words (take i values)) word);
      room = omega arith;
    }

pub returns : goal.returns
returns c =
    let all : take c.loop-value.value-index c.args.values.now ≡ c.args.values.now =
    take_all c.loop-value.value-index c.args.values.now (omega arith) in
    record { items = rw all at c.loop-value.invariant.items }
