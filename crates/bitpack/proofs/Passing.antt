-- What a step of the parser returns if a step before it returned an error.
use Rattle.std.proofs.Common.{◌≡◌, Result, Err, sym, subst}
use Rattle.bitpack.specs.declared.line.error.ParseError.{ParseError}
use Rattle.bitpack.specs.declared.line.error.ParseError.TheVariants.{Memory, Spelling}
use Rattle.bitpack.specs.inner.Found.{Parses}

pub passes_on : {X Y Z W : Type 0} (view : X → Y) (P : Y → Type 0) (seen : Z → W) (Q : W → Type 0) (r : Result X ParseError) (e : ParseError)
    → r ≡ Err e → Parses seen Q (Err e) → (((w : W) → Q w → ⊥) → (y : Y) → P y → ⊥) → Parses view P r
passes_on view P seen Q r Spelling is none other = subst (Parses view P) (sym is) (other none)
passes_on view P seen Q r Memory is none other = subst (Parses view P) (sym is) tt
