-- Each write appends the front of what is left.
use Rattle.std.proofs.Common.{◌≡◌, ℕ, ◌-◌, List, ◌++◌, length, take, drop, sym, ap, ◌∙◌, append_assoc, take-append-drop}
use Rattle.std.proofs.lemmas.List.{take_rest}
use Rattle.std.proofs.KnownBytes.{Appends-trans}
use Rattle.bitpack.proofs.writing.write_all.Goals as goal

moves_front : (all done rest : List ℕ) (n : ℕ) → all ≡ done ++ rest → all ≡ (done ++ take n rest) ++ take (length rest - n) (drop n rest)
moves_front all done rest n e =
    e ∙ ap (λ l. done ++ l) (sym (take-append-drop n rest)) ∙ sym (append_assoc done (take n rest) (drop n rest)) ∙ ap (λ l. (done ++ take n rest) ++ l) (sym (take_rest rest n))

pub loop-left-preserved : goal.loop-left-preserved
loop-left-preserved g c =
    let (done, split, appended) = c.loop-left.invariant in
    let left = c.loop-left.left.now in
    let n = c.in-Ok.count in
    (done ++ take n left, moves_front _ done left n split, Appends-trans _ _ _ _ _ appended c.in-Ok.ensures.bytes)
