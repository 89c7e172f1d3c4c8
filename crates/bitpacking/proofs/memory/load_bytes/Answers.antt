-- The words of the bytes loaded are those of the slice.
use Rattle.std.proofs.Common.{◌≡◌, ◌+◌, ◌-◌, ◌*◌, List, ℕ, length, get_or, take, drop, ◌∙◌, ap, arith}
use Rattle.std.proofs.lemmas.List.{length-take, length-drop}
use Rattle.bitpacking.proofs.WordsOfParts.{word-row}
use Rattle.bitpacking.proofs.RegisterLemmas.{get_or-words_of_bytes}
use Rattle.bitpacking.proofs.memory.load_bytes.Goals as goal

pub returns : goal.returns
returns g c l lt =
    let len = c.LANES-len.result in
    let bytes = c.args.bytes.now in
    let at = 4 * len * c.args.index in
    let row : List ℕ = take (at + 4 * len - at) (drop at bytes) in
    let known : len ≡ g.R.Register.LANES = c.LANES-len.ensures in
    let long : length row ≡ 4 * g.R.Register.LANES = simp (length-take, length-drop, known) (omega arith) in
    ap (λ words. get_or words l 0) c.from_bytes.ensures
    ∙ get_or-words_of_bytes g.R.Register.LANES row l long lt
    ∙ word-row g.R.Register.LANES c.args.index len bytes c.LANES-len.ensures l lt
