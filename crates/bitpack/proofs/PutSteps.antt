-- Values that are put one by one, with commas between them.
use Rattle.std.proofs.Common.{◌≡◌, ℕ, ◌+◌, ◌<◌, Option, List, [], ◌∷◌, ◌++◌, length, take, drop, get_or, sym, ap, subst, ◌∙◌, append_assoc, take-append-drop}
use Rattle.std.specs.Fmt.{decimal}
use Rattle.std.proofs.lemmas.List.{take_more}
use Rattle.bitpack.specs.Answers.{printed_values}
use Rattle.bitpack.specs.Lines.{AppendsBeginning, AppendsBut}
use Rattle.bitpack.proofs.BufferedBytes.{begin-more, but-more, but-part}
use Rattle.bitpack.proofs.PrintedValues.{printed_values-begin, printed_values-push}

-- `before` was buffered first, and then the values were put
module _ (a : Option (List ℕ)) (before : List ℕ) (value : ℕ) (values : List ℕ) where
  abbrev so_far : ℕ → List ℕ
  so_far i = before ++ printed_values (value ∷ take i values)

  -- what is put for the value at i
  one_more : (i : ℕ) → i < length values → (so_far i ++ 44 ∷ []) ++ decimal (get_or values i 0) ≡ so_far (i + 1)
  one_more i lt =
      append_assoc (so_far i) (44 ∷ []) (decimal (get_or values i 0))
      ∙ append_assoc before (printed_values (value ∷ take i values)) (44 ∷ decimal (get_or values i 0))
      ∙ ap (λ l. before ++ l) (sym (printed_values-push value (take i values) (get_or values i 0)) ∙ ap (λ l. printed_values (value ∷ l)) (sym (take_more values i 0 lt)))

  -- a beginning of the first values is one of all
  pub values_part : (b : Option (List ℕ)) (i : ℕ) → AppendsBeginning a b (so_far i) → AppendsBeginning a b (before ++ printed_values (value ∷ values))
  values_part b i part =
      let (rest, split) = printed_values-begin value (take i values) (drop i values) in
      let all : so_far i ++ rest ≡ before ++ printed_values (value ∷ values) =
      append_assoc before (printed_values (value ∷ take i values)) rest ∙ ap (λ l. before ++ l) (sym split ∙ ap (λ l. printed_values (value ∷ l)) (take-append-drop i values)) in
      subst (AppendsBeginning a b) all (begin-more a b (so_far i) rest part)

  module _ (b : Option (List ℕ)) (i : ℕ) (buffered : List ℕ) (lt : i < length values) (first : AppendsBut a b (so_far i) buffered) where
    pub comma_part : (c : Option (List ℕ)) → AppendsBeginning b c (buffered ++ 44 ∷ []) → AppendsBeginning a c (before ++ printed_values (value ∷ values))
    comma_part c part =
        values_part c (i + 1) (subst (AppendsBeginning a c) (one_more i lt) (begin-more a c (so_far i ++ 44 ∷ []) (decimal (get_or values i 0)) (but-part a b c (so_far i) buffered first (44 ∷ []) part)))

    module _ (c : Option (List ℕ)) (next : List ℕ) (comma : AppendsBut b c (buffered ++ 44 ∷ []) next) (d : Option (List ℕ)) where
      both : AppendsBut a c (so_far i ++ 44 ∷ []) next
      both = but-more a b c (so_far i) buffered first (44 ∷ []) next comma

      pub value_part : AppendsBeginning c d (next ++ decimal (get_or values i 0)) → AppendsBeginning a d (before ++ printed_values (value ∷ values))
      value_part part =
          values_part d (i + 1) (subst (AppendsBeginning a d) (one_more i lt) (but-part a c d (so_far i ++ 44 ∷ []) next both (decimal (get_or values i 0)) part))

      pub value_step : (left : List ℕ) → AppendsBut c d (next ++ decimal (get_or values i 0)) left → AppendsBut a d (so_far (i + 1)) left
      value_step left put =
          subst (λ l. AppendsBut a d l left) (one_more i lt) (but-more a c d (so_far i ++ 44 ∷ []) next both (decimal (get_or values i 0)) left put)
