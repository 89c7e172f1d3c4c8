-- The bytes are handled one after the other, and then what was put is written.
use Rattle.std.proofs.Common.{◌≡◌, ℕ, ◌+◌, List, [], ◌∷◌, ◌++◌, Err, get_or, length, take, drop, sym, ap, subst, ◌∙◌, rules, append_assoc, append-nil, take_all, take-append-drop, ◌<◌}
use Rattle.std.proofs.lemmas.List.{take_more, drop_more}
use Rattle.bitpack.specs.declared.run_error.RunError.TheVariants.{Write}
use Rattle.bitpack.specs.Lines.{AnsweredSoFar, StopsWithin, lines}
use Rattle.bitpack.proofs.BufferedBytes.{IfErr-at, IfErr-write, OnOk-both}
use Rattle.bitpack.proofs.RunSteps.{stop, written_step}
use Rattle.bitpack.proofs.line_loop.handle_bytes.Goals as goal

pub loop-byte-init : goal.loop-byte-init
loop-byte-init g c = λ before input so_far.
    subst (λ l. AnsweredSoFar before (g.W.Write.contents c.args.writer.now) c.args.output.now l c.args.line.now.items) (sym (append-nil input)) so_far

-- the input up to a byte, and that byte
one_more : (input bytes : List ℕ) (i byte : ℕ) → i < length bytes → get_or bytes i 0 ≡ byte → (input ++ take i bytes) ++ byte ∷ [] ≡ input ++ take (i + 1) bytes
one_more input bytes i byte h e = append_assoc input (take i bytes) (byte ∷ []) ∙ ap (λ l. input ++ l) (sym (take_more bytes i 0 h ∙ ap (λ b. take i bytes ++ b ∷ []) e))

-- the whole input, from that byte on
all_of : (input bytes : List ℕ) (i byte : ℕ) → i < length bytes → get_or bytes i 0 ≡ byte → (input ++ take i bytes) ++ byte ∷ drop (i + 1) bytes ≡ input ++ bytes
all_of input bytes i byte h e = append_assoc input (take i bytes) (byte ∷ drop (i + 1) bytes)
    ∙ ap (λ l. input ++ l) (ap (λ b. take i bytes ++ b ∷ drop (i + 1) bytes) (sym e) ∙ ap (λ l. take i bytes ++ l) (sym (drop_more bytes i 0 h)) ∙ take-append-drop i bytes)

pub loop-byte-preserved : goal.loop-byte-preserved
loop-byte-preserved g c = λ before input so_far.
    let i = c.loop-byte.byte-index in
    let bytes = c.args.bytes.now in
    subst (λ l. AnsweredSoFar before (g.W.Write.contents c.handle_byte.new.writer) c.handle_byte.new.output l c.handle_byte.new.line.items) (one_more input bytes i _ (search rules) (search rules))
    (c.in_ok-handle_byte.ensures.ok before (input ++ take i bytes) (c.loop-byte.invariant before input so_far))

pub returns-in_err-handle_byte-clause-err : goal.returns-in_err-handle_byte-clause-err
returns-in_err-handle_byte-clause-err g c = λ before input so_far.
    let i = c.loop-byte.byte-index in
    let bytes = c.args.bytes.now in
    let new = g.W.Write.contents c.handle_byte.new.writer in
    let e = c.in_err-handle_byte.field-0.0 in
    let is : c.from_residual.result ≡ Err e = search rules in
    let all = all_of input bytes i _ (search rules) (search rules) in
    let stopped = c.in_err-handle_byte.ensures.err before (input ++ take i bytes) (drop (i + 1) bytes) (c.loop-byte.invariant before input so_far) in
    IfErr-at _ e (λ e. StopsWithin e before new (lines (input ++ bytes))) is (subst (λ l. StopsWithin e before new (lines l)) all stopped)

pub returns-clause-ok : goal.returns-clause-ok
returns-clause-ok g c = λ before input so_far.
    let now = g.W.Write.contents c.loop-byte.writer in
    let new = g.W.Write.contents c.write_out.new.writer in
    let all : take c.loop-byte.byte-index c.args.bytes.now ≡ c.args.bytes.now = take_all _ _ (search rules) in
    let so_far = subst (λ l. AnsweredSoFar before now c.loop-byte.output (input ++ l) c.loop-byte.line.items) all (c.loop-byte.invariant before input so_far) in
    OnOk-both _ _ _ (AnsweredSoFar before new c.write_out.new.self (input ++ c.args.bytes.now) c.loop-byte.line.items) c.write_out.ensures.ok c.write_out.ensures.empty (λ written none.
    subst (λ l. AnsweredSoFar before new l (input ++ c.args.bytes.now) c.loop-byte.line.items) (sym none)
    (written_step before now c.loop-byte.output (input ++ c.args.bytes.now) c.loop-byte.line.items so_far new written))

pub returns-clause-err : goal.returns-clause-err
returns-clause-err g c = λ before input so_far.
    let now = g.W.Write.contents c.loop-byte.writer in
    let new = g.W.Write.contents c.write_out.new.writer in
    let buffered = c.loop-byte.output in
    let bytes = c.args.bytes.now in
    let all : (input ++ take c.loop-byte.byte-index bytes) ++ [] ≡ input ++ bytes = append-nil _ ∙ ap (λ l. input ++ l) (take_all _ _ (search rules)) in
    IfErr-write c.write_out.result (λ e. StopsWithin e before new (lines (input ++ bytes))) _ c.write_out.ensures.err c.write_out.ensures.kind (λ part.
    subst (λ l. StopsWithin Write before new (lines l)) all
    (stop before now buffered (input ++ take c.loop-byte.byte-index bytes) c.loop-byte.line.items (c.loop-byte.invariant before input so_far) Write new [] part))
