-- Each read handles more of the input, up to its end.
use Rattle.std.proofs.Common.{append-nil, ◌≡◌, ℕ, List, [], ◌++◌, Option, take, sym, ap, subst, ◌∙◌, rules}
use Rattle.std.specs.Io.KnownBytes.{Consumes}
use Rattle.std.proofs.KnownBytes.{Consumes-nil, Consumes-trans, Consumes-whole}
use Rattle.bitpack.specs.Lines.{AnsweredSoFar, AnswersAll, AnswersInPart, AppendsAnswers, lines}
use Rattle.bitpack.proofs.BufferedBytes.{IfErr-by, OnOk-by}
use Rattle.bitpack.proofs.RunSteps.{appends-unchanged, none_step, part-all, stopped_by}
use Rattle.bitpack.proofs.line_loop.run.Goals as goal

pub loop-init : goal.loop-init
loop-init g c =
    let now = g.W.Write.contents c.args.writer.now in
    let started = subst (AnsweredSoFar now now [] []) (sym c.new-line.ensures.items) (none_step now) in
    ([], Consumes-nil _, subst (λ l. AnsweredSoFar now now l [] c.new-line.result.items) (sym c.new-output.ensures) started, c.new-output.ensures)

pub loop-preserved : goal.loop-preserved
loop-preserved g c =
    let (input, consumed, so_far, none) = c.loop.invariant in
    let more = take c.in-Ok.count c.read.new.buf in
    (input ++ more, Consumes-trans _ _ _ input more consumed c.in-Ok.ensures.bytes.0, c.in_ok-handle_bytes.ensures.ok _ input so_far, c.in_ok-handle_bytes.ensures.empty)

-- ---- stopped in the middle

pub returns-in_err-handle_bytes-clause-read : goal.returns-in_err-handle_bytes-clause-read
returns-in_err-handle_bytes-clause-read g c =
    let (input, consumed, so_far, none) = c.loop.invariant in
    let read = Consumes-trans _ _ _ input (take c.in-Ok.count c.read.new.buf) consumed c.in-Ok.ensures.bytes.0 in
    (stopped_by _ c.in_err-handle_bytes.field-0.0 _ _ _ _ _ (search rules) read (c.in_err-handle_bytes.ensures.err _ input so_far)).read

pub returns-in_err-handle_bytes-clause-stopped : goal.returns-in_err-handle_bytes-clause-stopped
returns-in_err-handle_bytes-clause-stopped g c =
    let (input, consumed, so_far, none) = c.loop.invariant in
    let read = Consumes-trans _ _ _ input (take c.in-Ok.count c.read.new.buf) consumed c.in-Ok.ensures.bytes.0 in
    (stopped_by _ c.in_err-handle_bytes.field-0.0 _ _ _ _ _ (search rules) read (c.in_err-handle_bytes.ensures.err _ input so_far)).stopped

pub returns-in_err-handle_bytes-clause-memory : goal.returns-in_err-handle_bytes-clause-memory
returns-in_err-handle_bytes-clause-memory g c =
    let (input, consumed, so_far, none) = c.loop.invariant in
    let read = Consumes-trans _ _ _ input (take c.in-Ok.count c.read.new.buf) consumed c.in-Ok.ensures.bytes.0 in
    (stopped_by _ c.in_err-handle_bytes.field-0.0 _ _ _ _ _ (search rules) read (c.in_err-handle_bytes.ensures.err _ input so_far)).memory

-- ---- the end of input

-- a read of nothing leaves the input as it was
nothing_more : (left between rest : Option (List ℕ)) (input buffer : List ℕ) (n : ℕ) → Consumes left between input → Consumes between rest (take n buffer) → n ≡ 0 → Consumes left rest input
nothing_more left between rest input buffer n first second none =
    subst (Consumes left rest) (ap (λ k. input ++ take k buffer) none ∙ append-nil input) (Consumes-trans left between rest input (take n buffer) first second)

pub returns-in_err-answer_last-clause-read : goal.returns-in_err-answer_last-clause-read
returns-in_err-answer_last-clause-read g c =
    let (input, consumed, so_far, none) = c.loop.invariant in
    let read = nothing_more _ _ _ input _ _ consumed c.in-Ok.ensures.bytes.0 (search rules) in
    let restated = subst (AnsweredSoFar _ _ c.loop.output input) (sym c.as_slice.ensures.value) so_far in
    (stopped_by _ c.in_err-answer_last.field-0.0 _ _ _ _ input (search rules) read (c.in_err-answer_last.ensures.err _ input restated)).read

pub returns-in_err-answer_last-clause-stopped : goal.returns-in_err-answer_last-clause-stopped
returns-in_err-answer_last-clause-stopped g c =
    let (input, consumed, so_far, none) = c.loop.invariant in
    let read = nothing_more _ _ _ input _ _ consumed c.in-Ok.ensures.bytes.0 (search rules) in
    let restated = subst (AnsweredSoFar _ _ c.loop.output input) (sym c.as_slice.ensures.value) so_far in
    (stopped_by _ c.in_err-answer_last.field-0.0 _ _ _ _ input (search rules) read (c.in_err-answer_last.ensures.err _ input restated)).stopped

pub returns-in_err-answer_last-clause-memory : goal.returns-in_err-answer_last-clause-memory
returns-in_err-answer_last-clause-memory g c =
    let (input, consumed, so_far, none) = c.loop.invariant in
    let read = nothing_more _ _ _ input _ _ consumed c.in-Ok.ensures.bytes.0 (search rules) in
    let restated = subst (AnsweredSoFar _ _ c.loop.output input) (sym c.as_slice.ensures.value) so_far in
    (stopped_by _ c.in_err-answer_last.field-0.0 _ _ _ _ input (search rules) read (c.in_err-answer_last.ensures.err _ input restated)).memory

pub returns-then-count-eq0-clause-ok : goal.returns-then-count-eq0-clause-ok
returns-then-count-eq0-clause-ok g c =
    let (input, consumed, so_far, none) = c.loop.invariant in
    let before = g.W.Write.contents c.args.writer.now in
    let restated = subst (AnsweredSoFar before (g.W.Write.contents c.loop.writer) c.loop.output input) (sym c.as_slice.ensures.value) so_far in
    let last = c.in_ok-answer_last.ensures.ok before input restated in
    let answered : AnswersAll (g.R.Read.remaining c.args.reader.now) (g.R.Read.remaining c.read.new.self) before (g.W.Write.contents c.flush.new.writer) = (
      input,
      nothing_more _ _ _ input _ _ consumed c.in-Ok.ensures.bytes.0 (search rules),
      c.in-Ok.ensures.bytes.1 (search rules) (search rules),
      appends-unchanged _ _ _ _ last c.flush.ensures.unchanged,
    ) in
    OnOk-by _ _ answered

pub returns-then-count-eq0-clause-whole : goal.returns-then-count-eq0-clause-whole
returns-then-count-eq0-clause-whole g c =
    let (input, consumed, so_far, none) = c.loop.invariant in
    let before = g.W.Write.contents c.args.writer.now in
    let new = g.W.Write.contents c.flush.new.writer in
    let restated = subst (AnsweredSoFar before (g.W.Write.contents c.loop.writer) c.loop.output input) (sym c.as_slice.ensures.value) so_far in
    let last : AppendsAnswers before new (lines input) = appends-unchanged _ _ _ _ (c.in_ok-answer_last.ensures.ok before input restated) c.flush.ensures.unchanged in
    let read = nothing_more _ _ _ input _ _ consumed c.in-Ok.ensures.bytes.0 (search rules) in
    OnOk-by _ _ (Consumes-whole _ _ input (λ input. AppendsAnswers before new (lines input)) read (c.in-Ok.ensures.bytes.1 (search rules) (search rules)) last)

pub returns-then-count-eq0-clause-stopped : goal.returns-then-count-eq0-clause-stopped
returns-then-count-eq0-clause-stopped g c =
    let (input, consumed, so_far, none) = c.loop.invariant in
    let before = g.W.Write.contents c.args.writer.now in
    let restated = subst (AnsweredSoFar before (g.W.Write.contents c.loop.writer) c.loop.output input) (sym c.as_slice.ensures.value) so_far in
    let last = appends-unchanged _ _ _ _ (c.in_ok-answer_last.ensures.ok before input restated) c.flush.ensures.unchanged in
    let stopped : AnswersInPart (g.R.Read.remaining c.args.reader.now) (g.R.Read.remaining c.read.new.self) before (g.W.Write.contents c.flush.new.writer) =
    (input, nothing_more _ _ _ input _ _ consumed c.in-Ok.ensures.bytes.0 (search rules), part-all _ _ _ last) in
    IfErr-by _ _ _ stopped
