-- Printed values, one value at a time.
use Rattle.std.proofs.Common.{◌≡◌, ℕ, List, [], ◌∷◌, ◌++◌, map, refl, sym, ap, ◌∙◌, append_assoc, append-nil}
use Rattle.std.specs.List.{join_with_byte}
use Rattle.std.specs.Fmt.{decimal}
use Rattle.std.proofs.lemmas.List.{map-append}
use Rattle.bitpack.specs.declared.line.values.Item.TheVariants.{Once}
use Rattle.bitpack.specs.Grammar.{item_string}
use Rattle.bitpack.specs.Answers.{printed_values}

join-push : (byte : ℕ) (text : List ℕ) (texts : List (List ℕ)) (last : List ℕ)
    → join_with_byte byte (text ∷ (texts ++ last ∷ [])) ≡ join_with_byte byte (text ∷ texts) ++ byte ∷ last
join-push byte text [] last = refl
join-push byte text (next ∷ texts) last =
    ap (λ t. text ++ byte ∷ t) (join-push byte next texts last)
    ∙ sym (append_assoc text (byte ∷ join_with_byte byte (next ∷ texts)) (byte ∷ last))

abbrev texts_of : List ℕ → List (List ℕ)
texts_of values = map item_string (map Once values)

texts-push : (values : List ℕ) (last : ℕ) → texts_of (values ++ last ∷ []) ≡ texts_of values ++ decimal last ∷ []
texts-push values last = ap (map item_string) (map-append Once values (last ∷ [])) ∙ map-append item_string (map Once values) (Once last ∷ [])

pub printed_values-push : (value : ℕ) (values : List ℕ) (last : ℕ) → printed_values (value ∷ (values ++ last ∷ [])) ≡ printed_values (value ∷ values) ++ 44 ∷ decimal last
printed_values-push value values last =
    ap (λ t. join_with_byte 44 (decimal value ∷ t)) (texts-push values last) ∙ join-push 44 (decimal value) (texts_of values) (decimal last)

-- the first values are printed first
pub printed_values-begin : (value : ℕ) (values more : List ℕ) → (rest : List ℕ) × (printed_values (value ∷ (values ++ more)) ≡ printed_values (value ∷ values) ++ rest)
printed_values-begin value values [] = ([], ap (λ l. printed_values (value ∷ l)) (append-nil values) ∙ sym (append-nil (printed_values (value ∷ values))))
printed_values-begin value values (next ∷ more) =
    let (rest, split) = printed_values-begin value (values ++ next ∷ []) more in (
      (44 ∷ decimal next) ++ rest,
      ap (λ l. printed_values (value ∷ l)) (sym (append_assoc values (next ∷ []) more)) ∙ split
          ∙ ap (λ l. l ++ rest) (printed_values-push value values next) ∙ append_assoc (printed_values (value ∷ values)) (44 ∷ decimal next) rest,
    )
