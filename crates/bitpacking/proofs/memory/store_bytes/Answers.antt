-- The words stored are at their indexes, and all others are unchanged.
use Rattle.std.proofs.Common.{◌<◌, length, ◌∙◌, ap, arith}
use Rattle.bitpacking.specs.Words.{word}
use Rattle.bitpacking.proofs.WordsOfParts.{word-row_stored, word-row_before, drop-row}
use Rattle.bitpacking.proofs.RegisterLemmas.{word-bytes_of_words}
use Rattle.bitpacking.proofs.memory.store_bytes.Goals as goal

pub returns-clause-stored : goal.returns-clause-stored
returns-clause-stored g c l lt =
    let words = g.R.Register.words c.args.register in
    let within : l < length words = omega (arith, g.met.R.Register.words_count c.args.register) in
    word-row_stored g.R.Register.LANES c.args.index c.LANES-len.result c.args.bytes.now c.to_bytes.new.bytes
    c.LANES-len.ensures c.requires c.to_bytes.auto.bytes l lt
    ∙ ap (λ bytes. word bytes l) c.to_bytes.ensures
    ∙ word-bytes_of_words words l (g.met.R.Register.words_fit c.args.register) within

pub returns-clause-before : goal.returns-clause-before
returns-clause-before g c q lt =
    word-row_before g.R.Register.LANES c.args.index c.LANES-len.result c.args.bytes.now c.to_bytes.new.bytes
    c.LANES-len.ensures c.requires c.to_bytes.auto.bytes q lt

pub returns-clause-rest : goal.returns-clause-rest
returns-clause-rest g c =
    drop-row g.R.Register.LANES c.args.index c.LANES-len.result c.args.bytes.now c.to_bytes.new.bytes
    c.LANES-len.ensures c.requires c.to_bytes.auto.bytes
