-- What a run writes, a line at a time: answers, and beginnings of answers.
use Rattle.std.proofs.Common.{◌≡◌, ◌≢◌, ℕ, Option, List, [], ◌∷◌, ◌++◌, Result, Err, IfErr, false, length, flat_map, refl, sym, ap, subst, ◌∙◌, append_assoc, append-nil}
use Rattle.std.specs.List.{AllZip}
use Rattle.std.specs.Io.KnownBytes.{Appends, Consumes, Keeps}
use Rattle.std.specs.Prelude.{IsErrOf}
use Rattle.std.proofs.KnownBytes.{Appends-kept}
use Rattle.std.proofs.lemmas.List.Concat.{flat_map-append}
use Rattle.bitpack.specs.Answers.{IsAnswer}
use Rattle.bitpack.specs.declared.run_error.RunError.{RunError}
use Rattle.bitpack.specs.declared.run_error.RunError.TheVariants.{Memory, Read, Write}
use Rattle.bitpack.specs.Lines.{AnsweredSoFar, AnswersEnded, AnswersFirst, AnswersInPart, AppendsAnswer, AppendsAnswers, AppendsAnswersFirst, AppendsAnswersInPart, AreAnswers, StopsAfter, StopsWithin, StopsAtAnswer, ended, line_prefix, is_feed, lines, unfinished}
use Rattle.bitpack.proofs.BufferedBytes.{IfErr-at, IfErr-to, begin-more, but-all, but-more, but-next, but-none, but-stop, but-whole}
use Rattle.bitpack.proofs.AnswerLemmas.{answer_of, answer-line_prefix}
use Rattle.bitpack.proofs.LineLemmas.{ended-feed, ended-nil, ended-other, line_prefix-nil, line_prefix-none, line_prefix-some, lines-all, lines-begin, unfinished-feed, unfinished-nil, unfinished-other}

-- ---- answers of lines

each-append : (a b s t : List (List ℕ)) → AllZip IsAnswer a s → AllZip IsAnswer b t → AllZip IsAnswer (a ++ b) (s ++ t)
each-append [] b [] t p q = q
each-append [] b (y ∷ s) t p q = absurd p
each-append (x ∷ a) b [] t p q = absurd p
each-append (x ∷ a) b (y ∷ s) t p q = (p.0, each-append a b s t p.1 q)

answers-none : AreAnswers [] []
answers-none = record { answers = []; each = tt; written = refl }

answers-one : (line answer : List ℕ) → IsAnswer line answer → AreAnswers (line ∷ []) (answer ++ 10 ∷ [])
answers-one line answer fact = record { answers = answer ∷ []; each = (fact, tt); written = sym (append-nil (answer ++ 10 ∷ [])) }

answers-append : (a b : List (List ℕ)) (s t : List ℕ) → AreAnswers a s → AreAnswers b t → AreAnswers (a ++ b) (s ++ t)
answers-append a b s t p q = record {
  answers = p.answers ++ q.answers;
  each = each-append a b p.answers q.answers p.each q.each;
  written = ap (λ l. l ++ t) p.written ∙ ap (λ l. flat_map (λ answer. answer ++ 10 ∷ []) p.answers ++ l) q.written ∙ sym (flat_map-append (λ answer. answer ++ 10 ∷ []) p.answers q.answers);
}

answers_of : (lines : List (List ℕ)) → (bytes : List ℕ) × AreAnswers lines bytes
answers_of [] = ([], answers-none)
answers_of (line ∷ lines) =
    let (answer, fact) = answer_of line in
    let (bytes, answers) = answers_of lines in
    ((answer ++ 10 ∷ []) ++ bytes, answers-append (line ∷ []) lines (answer ++ 10 ∷ []) bytes (answers-one line answer fact) answers)

-- ---- answers that are appended

pub appends-unchanged : (a b c : Option (List ℕ)) (xs : List (List ℕ)) → AppendsAnswers a b xs → Keeps b c → AppendsAnswers a c xs
appends-unchanged a b c xs (bytes, answers, appended) prefix = (bytes, answers, Appends-kept a b c bytes appended prefix)

-- a beginning of the answers to some lines is one of the answers to more
part-more : (a b : Option (List ℕ)) (xs ys : List (List ℕ)) → AppendsAnswersInPart a b xs → AppendsAnswersInPart a b (xs ++ ys)
part-more a b xs ys (bytes, answers, part) =
    let (rest, others) = answers_of ys in
    (bytes ++ rest, answers-append xs ys bytes rest answers others, begin-more a b bytes rest part)

pub part-all : (a b : Option (List ℕ)) (xs : List (List ℕ)) → AppendsAnswers a b xs → AppendsAnswersInPart a b xs
part-all a b xs (bytes, answers, appended) = (bytes, answers, (bytes, ([], sym (append-nil bytes)), appended))

part-first : (a b : Option (List ℕ)) (xs : List (List ℕ)) → AppendsAnswersFirst a b xs → AppendsAnswersInPart a b xs
part-first a b xs (some, more, split, whole) = subst (AppendsAnswersInPart a b) (sym split) (part-more a b some more (part-all a b some whole))

stops-part : (fault : RunError) (a b : Option (List ℕ)) (xs : List (List ℕ)) → StopsWithin fault a b xs → AppendsAnswersInPart a b xs
stops-part Write a b xs part = part
stops-part Memory a b xs first = part-first a b xs first
stops-part Read a b xs none = absurd none

-- stopped after the answers to the first lines, and a part of the next
stops-in : (fault : RunError) (a b : Option (List ℕ)) (xs ys zs : List (List ℕ)) (first next : List ℕ) → AreAnswers xs first → AreAnswers ys next
    → StopsAfter fault a b first (first ++ next) → StopsWithin fault a b ((xs ++ ys) ++ zs)
stops-in Write a b xs ys zs first next answers others part =
    part-more a b (xs ++ ys) zs (first ++ next, answers-append xs ys first next answers others, part)
stops-in Memory a b xs ys zs first next answers others whole = (xs, ys ++ zs, append_assoc xs ys zs, (first, answers, whole))
stops-in Read a b xs ys zs first next answers others none = absurd none

stops-all : (fault : RunError) (a b : Option (List ℕ)) (xs ys : List (List ℕ)) (bytes : List ℕ) → AreAnswers xs bytes → StopsAfter fault a b bytes bytes → StopsWithin fault a b (xs ++ ys)
stops-all Write a b xs ys bytes answers part = part-more a b xs ys (bytes, answers, part)
stops-all Memory a b xs ys bytes answers whole = (xs, ys, refl, (bytes, answers, whole))
stops-all Read a b xs ys bytes answers none = absurd none

-- ---- the loop, a byte at a time

pub none_step : (now : Option (List ℕ)) → AnsweredSoFar now now [] [] []
none_step now = record {
  bytes = [];
  answered = subst (λ xs. AreAnswers xs []) (sym ended-nil) answers-none;
  written = but-none now;
  started = line_prefix-nil ∙ ap line_prefix (sym unfinished-nil);
}

module _ (before now : Option (List ℕ)) (buffered input prefix : List ℕ) (so_far : AnsweredSoFar before now buffered input prefix) where
  -- the answer to the prefix of a line is the answer to the line
  for_line : (answer : List ℕ) → IsAnswer prefix answer → IsAnswer (unfinished input) answer
  for_line answer fact = answer-line_prefix (unfinished input) answer (subst (λ l. IsAnswer l answer) so_far.started fact)

  pub feed_step : (next : Option (List ℕ)) (left : List ℕ) → AppendsAnswer now next buffered left prefix → AnsweredSoFar before next left (input ++ 10 ∷ []) []
  feed_step next left (answer, fact, put) = record {
    bytes = so_far.bytes ++ (answer ++ 10 ∷ []);
    answered = subst (λ xs. AreAnswers xs (so_far.bytes ++ (answer ++ 10 ∷ []))) (sym (ended-feed input)) (answers-append (ended input) (unfinished input ∷ []) so_far.bytes (answer ++ 10 ∷ []) so_far.answered (answers-one (unfinished input) answer (for_line answer fact)));
    written = but-more before now next so_far.bytes buffered so_far.written (answer ++ 10 ∷ []) left put;
    started = line_prefix-nil ∙ ap line_prefix (sym (unfinished-feed input));
  }

  pub other_step : (byte : ℕ) (grown : List ℕ) → is_feed byte ≡ false → grown ≡ line_prefix (unfinished input ++ byte ∷ []) → AnsweredSoFar before now buffered (input ++ byte ∷ []) grown
  other_step byte grown other e = record {
    bytes = so_far.bytes;
    answered = subst (λ xs. AreAnswers xs so_far.bytes) (sym (ended-other input byte other)) so_far.answered;
    written = so_far.written;
    started = e ∙ ap line_prefix (sym (unfinished-other input byte other));
  }

  -- what was buffered is written
  pub written_step : (next : Option (List ℕ)) → Appends now next buffered → AnsweredSoFar before next [] input prefix
  written_step next appended = record {
    bytes = so_far.bytes;
    answered = so_far.answered;
    written = but-all before next so_far.bytes (but-whole before now next so_far.bytes buffered so_far.written appended);
    started = so_far.started;
  }

  pub all_written : (next : Option (List ℕ)) → Appends now next buffered → AppendsAnswers before next (ended input)
  all_written next appended = (so_far.bytes, so_far.answered, but-whole before now next so_far.bytes buffered so_far.written appended)

  -- stopped at a line feed, in the middle of an answer
  pub feed_stop : (fault : RunError) (next : Option (List ℕ)) (rest : List ℕ) → StopsAtAnswer fault now next buffered prefix → StopsWithin fault before next (lines (input ++ 10 ∷ rest))
  feed_stop fault next rest (answer, fact, stopped) =
      let (more, split) = lines-begin (input ++ 10 ∷ []) rest in
      let all : lines (input ++ 10 ∷ rest) ≡ (ended input ++ unfinished input ∷ []) ++ more = ap lines (sym (append_assoc input (10 ∷ []) rest)) ∙ split ∙ ap (λ l. l ++ more) (ended-feed input) in
      subst (StopsWithin fault before next) (sym all) (stops-in fault before next (ended input) (unfinished input ∷ []) more so_far.bytes (answer ++ 10 ∷ []) so_far.answered (answers-one (unfinished input) answer (for_line answer fact)) (but-next before now next so_far.bytes buffered so_far.written fault (answer ++ 10 ∷ []) stopped))

  -- stopped between two answers, or at the end of all
  pub stop : (fault : RunError) (next : Option (List ℕ)) (rest : List ℕ) → StopsAfter fault now next buffered buffered → StopsWithin fault before next (lines (input ++ rest))
  stop fault next rest stopped =
      let (more, split) = lines-begin input rest in
      subst (StopsWithin fault before next) (sym split) (stops-all fault before next (ended input) more so_far.bytes so_far.answered (but-stop before now next so_far.bytes buffered so_far.written fault stopped))

  -- ---- the end of input

  pub none_started : length prefix ≡ 0 → lines input ≡ ended input
  none_started e = lines-all input ∙ ap (λ l. ended input ++ l) (line_prefix-none (unfinished input) (ap length (sym so_far.started) ∙ e)) ∙ append-nil (ended input)

  -- a line that is left is answered as if a line feed ended it
  pub some_started : length prefix ≢ 0 → lines input ≡ ended (input ++ 10 ∷ [])
  some_started h = lines-all input ∙ ap (λ l. ended input ++ l) (line_prefix-some (unfinished input) (λ e. h (ap length so_far.started ∙ e))) ∙ sym (ended-feed input)

  pub same_lines : length prefix ≢ 0 → lines (input ++ 10 ∷ []) ≡ lines input
  same_lines h =
      let none = line_prefix-none (unfinished (input ++ 10 ∷ [])) (ap length (ap line_prefix (unfinished-feed input) ∙ sym line_prefix-nil)) in
      lines-all (input ++ 10 ∷ []) ∙ ap (λ l. ended (input ++ 10 ∷ []) ++ l) none ∙ append-nil (ended (input ++ 10 ∷ [])) ∙ sym (some_started h)

-- ---- what a run returns when it was stopped

pub record Stopped {T : Type 0} (r : Result T RunError) (left rest old new : Option (List ℕ)) : Type 0 where
  pub read : IsErrOf r Read → AnswersEnded left rest old new
  pub stopped : IfErr r (λ e. e ≢ Read → AnswersInPart left rest old new)
  pub memory : IsErrOf r Memory → AnswersFirst left rest old new

pub stopped_by : {T : Type 0} (r : Result T RunError) (fault : RunError) (left rest old new : Option (List ℕ)) (input : List ℕ) → r ≡ Err fault
    → Consumes left rest input → StopsWithin fault old new (lines input) → Stopped r left rest old new
stopped_by r fault left rest old new input is consumed stopped =
    let in_r : IfErr r (λ e. StopsWithin e old new (lines input)) = IfErr-at r fault (λ e. StopsWithin e old new (lines input)) is stopped in
    record {
      read = λ read. absurd (subst (λ q. IfErr q (λ e. StopsWithin e old new (lines input))) read in_r);
      stopped = IfErr-to r _ _ in_r (λ e part _. (input, consumed, stops-part e old new (lines input) part));
      memory = λ memory. (input, consumed, subst (λ q. IfErr q (λ e. StopsWithin e old new (lines input))) memory in_r);
    }
