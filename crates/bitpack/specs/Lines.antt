-- The lines of an input, and what is written for them.
use Rattle.std.specs.Prelude.{◌≡◌, ◌+◌, ℕ, Bool, Option, List, [], ◌∷◌, ◌++◌, take, drop, flat_map, count_by, if◌then◌else◌, ◌==◌}
use Rattle.std.specs.List.{AllZip, concat, onto_first}
use Rattle.std.specs.Io.KnownBytes.{Appends, Consumes, IsAtEnd}
use Rattle.bitpack.specs.Answers.{IsAnswer}
use Rattle.bitpack.specs.Grammar.{line_limit}
use Rattle.bitpack.specs.declared.run_error.RunError.{RunError}
use Rattle.bitpack.specs.declared.run_error.RunError.TheVariants.{Memory, Read, Write}

-- ---- lines

-- a line feed
abbrev pub is_feed : ℕ → Bool
is_feed byte = byte == 10

-- the lines of an input: a line feed ends a line, and any other byte is the first of the line that goes on after it
unfoldable pub lines : List ℕ → List (List ℕ)
lines [] = []
lines (byte ∷ bytes) = if is_feed byte then [] ∷ lines bytes else onto_first byte (lines bytes)

-- the lines that ended, one for each line feed
unfoldable pub ended : List ℕ → List (List ℕ)
ended bytes = take (count_by is_feed bytes) (lines bytes)

-- the line after the last line feed, which is unfinished
unfoldable pub unfinished : List ℕ → List ℕ
unfinished bytes = concat (drop (count_by is_feed bytes) (lines bytes))

-- the part of a line that is in memory: at most one byte more than a line may have
unfoldable pub line_prefix : List ℕ → List ℕ
line_prefix line = take (line_limit + 1) line

-- ---- their answers

-- the bytes are one answer for each line, with a line feed after each
pub record AreAnswers (lines : List (List ℕ)) (bytes : List ℕ) : Type 0 where
  pub answers : List (List ℕ)
  pub each : AllZip IsAnswer lines answers
  pub written : bytes ≡ flat_map (λ answer. answer ++ 10 ∷ []) answers

-- `all` begins with `some`
abbrev pub IsBeginning : List ℕ → List ℕ → Type 0
IsBeginning some all = (more : List ℕ) × (all ≡ some ++ more)

-- known bytes grow by a beginning of `all`
abbrev pub AppendsBeginning : Option (List ℕ) → Option (List ℕ) → List ℕ → Type 0
AppendsBeginning old new all = (some : List ℕ) × IsBeginning some all × Appends old new some

-- known bytes grow by the answers to lines, or by a beginning of them
abbrev pub AppendsAnswers : Option (List ℕ) → Option (List ℕ) → List (List ℕ) → Type 0
AppendsAnswers old new lines = (bytes : List ℕ) × AreAnswers lines bytes × Appends old new bytes

abbrev pub AppendsAnswersInPart : Option (List ℕ) → Option (List ℕ) → List (List ℕ) → Type 0
AppendsAnswersInPart old new lines = (bytes : List ℕ) × AreAnswers lines bytes × AppendsBeginning old new bytes

-- known bytes grow by the answers to the first of the lines
abbrev pub AppendsAnswersFirst : Option (List ℕ) → Option (List ℕ) → List (List ℕ) → Type 0
AppendsAnswersFirst old new lines = (some more : List (List ℕ)) × (lines ≡ some ++ more) × AppendsAnswers old new some

-- ---- what a run did to its reader and its writer

-- the reader read an input to its end, and all its lines were answered
abbrev pub AnswersAll : Option (List ℕ) → Option (List ℕ) → Option (List ℕ) → Option (List ℕ) → Type 0
AnswersAll left rest old new = (input : List ℕ) × Consumes left rest input × IsAtEnd rest × AppendsAnswers old new (lines input)

-- the reader read an input, and its lines that ended were answered
abbrev pub AnswersEnded : Option (List ℕ) → Option (List ℕ) → Option (List ℕ) → Option (List ℕ) → Type 0
AnswersEnded left rest old new = (input : List ℕ) × Consumes left rest input × AppendsAnswers old new (ended input)

-- the reader read an input, and a beginning of the answers to its lines was written
abbrev pub AnswersInPart : Option (List ℕ) → Option (List ℕ) → Option (List ℕ) → Option (List ℕ) → Type 0
AnswersInPart left rest old new = (input : List ℕ) × Consumes left rest input × AppendsAnswersInPart old new (lines input)

-- the reader read an input, and the first of its lines were answered
abbrev pub AnswersFirst : Option (List ℕ) → Option (List ℕ) → Option (List ℕ) → Option (List ℕ) → Type 0
AnswersFirst left rest old new = (input : List ℕ) × Consumes left rest input × AppendsAnswersFirst old new (lines input)

-- ---- partway: some bytes are buffered, and written later

-- known bytes grow by `all` but for its end, which is buffered
abbrev pub AppendsBut : Option (List ℕ) → Option (List ℕ) → List ℕ → List ℕ → Type 0
AppendsBut old new all buffered = (some : List ℕ) × (all ≡ some ++ buffered) × Appends old new some

-- a failed write leaves a beginning of `all`; if memory ran out, the known bytes grow by `whole`; and no read failed
abbrev pub StopsAfter : RunError → Option (List ℕ) → Option (List ℕ) → List ℕ → List ℕ → Type 0
StopsAfter Write old new whole all = AppendsBeginning old new all
StopsAfter Memory old new whole all = Appends old new whole
StopsAfter Read old new whole all = ⊥

-- the answer to a line is after the bytes that were buffered
abbrev pub AppendsAnswer : Option (List ℕ) → Option (List ℕ) → List ℕ → List ℕ → List ℕ → Type 0
AppendsAnswer old new before after line = (answer : List ℕ) × IsAnswer line answer × AppendsBut old new (before ++ (answer ++ 10 ∷ [])) after

-- as above, stopped by a fault: if memory ran out, no part of the answer is there
abbrev pub StopsAtAnswer : RunError → Option (List ℕ) → Option (List ℕ) → List ℕ → List ℕ → Type 0
StopsAtAnswer fault old new before line = (answer : List ℕ) × IsAnswer line answer × StopsAfter fault old new before (before ++ (answer ++ 10 ∷ []))

-- of the input so far, the lines that ended were answered, and the end of their answers is buffered; `prefix` is the beginning of the
-- unfinished line
pub record AnsweredSoFar (before now : Option (List ℕ)) (buffered input prefix : List ℕ) : Type 0 where
  pub bytes : List ℕ
  pub answered : AreAnswers (ended input) bytes
  pub written : AppendsBut before now bytes buffered
  pub started : prefix ≡ line_prefix (unfinished input)

-- the answers to the lines were stopped by a fault
abbrev pub StopsWithin : RunError → Option (List ℕ) → Option (List ℕ) → List (List ℕ) → Type 0
StopsWithin Write before new lines = AppendsAnswersInPart before new lines
StopsWithin Memory before new lines = AppendsAnswersFirst before new lines
StopsWithin Read before new lines = ⊥
