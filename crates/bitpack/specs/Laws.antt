-- Laws of the line language, proved of the definitions alone.
use Rattle.std.specs.Prelude.{◌≡◌, ℕ, List}
use Rattle.bitpack.specs.declared.line.PackerName.{PackerName}
use Rattle.bitpack.specs.Grammar.{Request, Spells}
use Rattle.bitpack.specs.Answers.{IsAnswer}

-- a line spells at most one request, of one packer
abbrev pub OneCommand : Type 0
OneCommand = (line : List ℕ) (packer other_packer : PackerName) (request other_request : Request)
    → Spells line packer request → Spells line other_packer other_request → (packer ≡ other_packer) × (request ≡ other_request)

-- a line has an answer, and any two of its answers are equal
abbrev pub OneAnswer : Type 0
OneAnswer = (line : List ℕ) → (answer : List ℕ) × IsAnswer line answer × ((other : List ℕ) → IsAnswer line other → other ≡ answer)
