-- A chunk of one set alone is a chunk of the answer.
use Rattle.std.proofs.Common.{IfSome, Option, Some, None, ◌≡◌, ◌≢◌, ℕ, ◌+◌, ◌-◌, ◌%◌, ◌<◌, Bool, true, false, cond, List, [], map, take, refl, sym, ap, ◌∙◌, arith}
use Rattle.std.proofs.lemmas.Bool.{eq-eqb}
use Rattle.bitpack_slices.proofs.ForCallers.{apply_none, those_are}
use Rattle.bitpack_slices.specs.Bodies.{IsRising}
use Rattle.bitpack_slices.specs.Operations.{apply, those}
use Rattle.bitpack_slices.specs.Reads.{has}
use Rattle.bitpack_slices.specs.declared.operation.Operation.{Operation}
use Rattle.bitpack_sets.specs.Chunks.{lows_between}
use Rattle.bitpack_sets.specs.Pairs.{IsSpan}
use Rattle.bitpack_sets.specs.declared.chunks.Chunks.{Chunks}
use Rattle.bitpack_queries.specs.Pairs.{meets}
use Rattle.bitpack_queries.specs.declared.pairing.Meeting.{Meeting}
use Rattle.bitpack_queries.specs.declared.pairing.Pair.{Pair}

pub first_kept : (operation : Operation) (p : Bool) → apply operation true false ≡ true → apply operation p false ≡ p
first_kept operation true h = h
first_kept operation false h = apply_none operation false false refl refl

second_kept : (operation : Operation) (p : Bool) → apply operation false true ≡ true → apply operation false p ≡ p
second_kept operation true h = h
second_kept operation false h = apply_none operation false false refl refl

none_case : (b c : Bool) (xs others : List ℕ) (n : ℕ) → n ≡ 0 → c ≡ true → cond b (map (λ x. x % 65536) (take n xs)) (cond c [] others) ≡ []
none_case true c xs others n none same = ap (λ (k : ℕ). map (λ x. x % 65536) (take k xs)) none
none_case false c xs others n none same = ap (λ (b : Bool). cond b [] others) same

-- there is no number between a position and itself
pub none_between : (set : Chunks) (position end : ℕ) → position ≡ end → lows_between set position end ≡ []
none_between set position end same = none_case _ _ _ _ (end - position) (omega arith) (eq-eqb position end same)

-- the only chunk between two positions
one_between : (set : Chunks) (key position end : ℕ) → IsSpan set key position end → set.count ≢ 0 → position < end → lows_between set position end ≡ lows_between set position (position + 1)
one_between set key position end span some less =
    let most = span.one some in
    let one : end ≡ position + 1 = omega arith in
    ap (lows_between set position) one

pub lone_first : (pair : Pair) (meeting : Meeting) → IsSpan pair.a meeting.key meeting.a.0 meeting.a.1 → pair.a.count ≢ 0 → meeting.a.0 < meeting.a.1
    → meeting.b.0 ≡ meeting.b.1 → apply pair.operation true false ≡ true → IsRising 0 65536 (lows_between pair.a meeting.a.0 (meeting.a.0 + 1))
    → lows_between pair.a meeting.a.0 (meeting.a.0 + 1) ≡ those 65536 (meets pair meeting)
lone_first pair meeting span some less none kept rise =
    let own : List ℕ = lows_between pair.a meeting.a.0 (meeting.a.0 + 1) in
    let same : lows_between pair.a meeting.a.0 meeting.a.1 ≡ own = one_between pair.a meeting.key meeting.a.0 meeting.a.1 span some less in
    let other : lows_between pair.b meeting.b.0 meeting.b.1 ≡ [] = none_between pair.b meeting.b.0 meeting.b.1 none in
    sym (those_are (meets pair meeting) 65536 own rise
    (λ i h. ap (λ (l : List ℕ). apply pair.operation (has i l) (has i (lows_between pair.b meeting.b.0 meeting.b.1))) same
    ∙ ap (λ (l : List ℕ). apply pair.operation (has i own) (has i l)) other ∙ first_kept pair.operation (has i own) kept))

pub lone_second : (pair : Pair) (meeting : Meeting) → IsSpan pair.b meeting.key meeting.b.0 meeting.b.1 → pair.b.count ≢ 0 → meeting.b.0 < meeting.b.1
    → meeting.a.0 ≡ meeting.a.1 → apply pair.operation false true ≡ true → IsRising 0 65536 (lows_between pair.b meeting.b.0 (meeting.b.0 + 1))
    → lows_between pair.b meeting.b.0 (meeting.b.0 + 1) ≡ those 65536 (meets pair meeting)
lone_second pair meeting span some less none kept rise =
    let own : List ℕ = lows_between pair.b meeting.b.0 (meeting.b.0 + 1) in
    let same : lows_between pair.b meeting.b.0 meeting.b.1 ≡ own = one_between pair.b meeting.key meeting.b.0 meeting.b.1 span some less in
    let other : lows_between pair.a meeting.a.0 meeting.a.1 ≡ [] = none_between pair.a meeting.a.0 meeting.a.1 none in
    sym (those_are (meets pair meeting) 65536 own rise
    (λ i h. ap (λ (l : List ℕ). apply pair.operation (has i (lows_between pair.a meeting.a.0 meeting.a.1)) (has i l)) same
    ∙ ap (λ (l : List ℕ). apply pair.operation (has i l) (has i own)) other ∙ second_kept pair.operation (has i own) kept))

-- what holds of a value that is there
pub some_then : {A : Type 0} (P Q R S : A → Type 0) (value : Option A) → ((x : A) → P x → Q x → R x → S x) → IfSome value P → IfSome value Q → IfSome value R → IfSome value S
some_then P Q R S (Some x) f p q r = f x p q r
some_then P Q R S None f p q r = tt
