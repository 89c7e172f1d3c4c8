-- Scores worked by hand. A word adds 300 for each time, up to four times, less the class of the document.
use Rattle.std.specs.Prelude.{◌≡◌, ℕ, ◌-◌, ◌*◌, List, [], ◌∷◌, map, replicate, ◌++◌}
use Rattle.std.specs.List.{count_by, flat_map, range_with_len, sum_by}
use Rattle.bitpack_ranked.specs.Ranked.{has_word, part_in}
use Rattle.bitpack_ranked.specs.Terms.{Word}

abbrev pub worked_table : List ℕ
worked_table = flat_map (λ count. map (λ class. count * (300 - class)) (range_with_len 0 256)) (range_with_len 0 5)

-- the documents with ids 1, 4 and 7 have the first word twice, once and once; those with ids 4 and 9 have the second once and three times
abbrev pub worked_words : List Word
worked_words =
    record { ids = 1 ∷ 4 ∷ 7 ∷ []; counts = 2 ∷ 1 ∷ 1 ∷ []; table = worked_table }
    ∷ record { ids = 4 ∷ 9 ∷ []; counts = 1 ∷ 3 ∷ []; table = worked_table }
    ∷ []

-- the one with id 9 has class 100, the others 0
abbrev pub worked_classes : List ℕ
worked_classes = replicate 9 0 ++ 100 ∷ []

abbrev pub worked_score : ℕ → ℕ
worked_score id = sum_by (part_in worked_classes id) worked_words

abbrev pub WorkedScores : Type 0
WorkedScores =
    (worked_score 1 ≡ 600)
    × (worked_score 4 ≡ 600)
    × (worked_score 7 ≡ 300)
    × (worked_score 9 ≡ 600)
    × (worked_score 2 ≡ 0)
    × (count_by (has_word 4) worked_words ≡ 2)
    × (count_by (has_word 9) worked_words ≡ 1)
