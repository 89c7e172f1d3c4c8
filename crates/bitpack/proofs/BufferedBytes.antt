-- What is written where some bytes are buffered: parts put one after another, and runs that stop.
use Rattle.std.proofs.Common.{◌≡◌, Option, List, [], ◌++◌, ℕ, Result, Ok, Err, OnErr, OnOk, IfErr, refl, sym, ap, subst, ◌∙◌, append_assoc, append-nil}
use Rattle.std.specs.Io.KnownBytes.{Appends}
use Rattle.std.proofs.KnownBytes.{Appends-nil, Appends-trans}
use Rattle.bitpack.specs.declared.run_error.RunError.{RunError}
use Rattle.bitpack.specs.declared.run_error.RunError.TheVariants.{Memory, Read, Write}
use Rattle.bitpack.specs.Lines.{AppendsBeginning, AppendsBut, StopsAfter}

pub but-none : (a : Option (List ℕ)) → AppendsBut a a [] []
but-none a = ([], refl, Appends-nil a)

pub but-all : (a b : Option (List ℕ)) (all : List ℕ) → Appends a b all → AppendsBut a b all []
but-all a b all appended = (all, sym (append-nil all), appended)

pub but-buffered : (a : Option (List ℕ)) (buffered : List ℕ) → AppendsBut a a buffered buffered
but-buffered a buffered = ([], refl, Appends-nil a)

pub begin-none : (a : Option (List ℕ)) (all : List ℕ) → AppendsBeginning a a all
begin-none a all = ([], (all, refl), Appends-nil a)

pub begin-more : (a b : Option (List ℕ)) (all more : List ℕ) → AppendsBeginning a b all → AppendsBeginning a b (all ++ more)
begin-more a b all more (some, (rest, split), appended) = (some, (rest ++ more, ap (λ l. l ++ more) split ∙ append_assoc some rest more), appended)

-- stopped before the next bytes were put
pub stop-more : (fault : RunError) (a b : Option (List ℕ)) (buffered next : List ℕ) → StopsAfter fault a b buffered buffered → StopsAfter fault a b buffered (buffered ++ next)
stop-more Write a b buffered next part = begin-more a b buffered next part
stop-more Memory a b buffered next whole = whole
stop-more Read a b buffered next none = absurd none

-- the first bytes were written, or are buffered, when the next came
module _ (a b c : Option (List ℕ)) (all buffered : List ℕ) (first : AppendsBut a b all buffered) where
  -- what is written and what is put after it
  after : (next more left : List ℕ) → buffered ++ next ≡ more ++ left → all ++ next ≡ (first.0 ++ more) ++ left
  after next more left e =
      ap (λ l. l ++ next) first.1 ∙ append_assoc first.0 buffered next ∙ ap (λ l. first.0 ++ l) e ∙ sym (append_assoc first.0 more left)

  pub but-more : (next left : List ℕ) → AppendsBut b c (buffered ++ next) left → AppendsBut a c (all ++ next) left
  but-more next left (more, split, second) = (first.0 ++ more, after next more left split, Appends-trans a b c first.0 more first.2 second)

  pub but-part : (next : List ℕ) → AppendsBeginning b c (buffered ++ next) → AppendsBeginning a c (all ++ next)
  but-part next (more, (left, split), second) = (first.0 ++ more, (left, after next more left split), Appends-trans a b c first.0 more first.2 second)

  pub but-whole : Appends b c buffered → Appends a c all
  but-whole second = subst (Appends a c) (sym first.1) (Appends-trans a b c first.0 buffered first.2 second)

  pub but-begin : AppendsBeginning b c buffered → AppendsBeginning a c all
  but-begin part =
      subst (AppendsBeginning a c) (append-nil all) (but-part [] (subst (AppendsBeginning b c) (sym (append-nil buffered)) part))

  pub but-stop : (fault : RunError) → StopsAfter fault b c buffered buffered → StopsAfter fault a c all all
  but-stop Write part = but-begin part
  but-stop Memory whole = but-whole whole
  but-stop Read none = absurd none

  pub but-next : (fault : RunError) (next : List ℕ) → StopsAfter fault b c buffered (buffered ++ next) → StopsAfter fault a c all (all ++ next)
  but-next Write next part = but-part next part
  but-next Memory next whole = but-whole whole
  but-next Read next none = absurd none

-- ---- facts of a result

pub OnErr-by : {T E : Type 0} (r : Result T E) (P : Type 0) → P → OnErr r P
OnErr-by (Ok _) P p = tt
OnErr-by (Err _) P p = p

pub OnOk-by : {T E : Type 0} (r : Result T E) (P : Type 0) → P → OnOk r P
OnOk-by (Ok _) P p = p
OnOk-by (Err _) P p = tt

pub IfErr-by : {T E : Type 0} (r : Result T E) (P : E → Type 0) (S : Type 0) → S → IfErr r (λ e. P e → S)
IfErr-by (Ok _) P S s = tt
IfErr-by (Err e) P S s = λ _. s

pub OnOk-to : {T E : Type 0} (r : Result T E) (P Q : Type 0) → OnOk r P → (P → Q) → OnOk r Q
OnOk-to (Ok _) P Q p f = f p
OnOk-to (Err _) P Q p f = tt

pub OnOk-both : {T E : Type 0} (r : Result T E) (P Q S : Type 0) → OnOk r P → OnOk r Q → (P → Q → S) → OnOk r S
OnOk-both (Ok _) P Q S p q f = f p q
OnOk-both (Err _) P Q S p q f = tt

pub OnErr-to : {T E : Type 0} (r : Result T E) (P Q : Type 0) → OnErr r P → (P → Q) → OnErr r Q
OnErr-to (Ok _) P Q p f = tt
OnErr-to (Err _) P Q p f = f p

-- the error of a write
pub IfErr-write : {T : Type 0} (r : Result T RunError) (P : RunError → Type 0) (Q : Type 0) → OnErr r Q → IfErr r (λ e. e ≡ Write) → (Q → P Write) → IfErr r P
IfErr-write (Ok _) P Q q is f = tt
IfErr-write (Err e) P Q q is f = subst P (sym is) (f q)

pub IfErr-to : {T E : Type 0} (r : Result T E) (P Q : E → Type 0) → IfErr r P → ((e : E) → P e → Q e) → IfErr r Q
IfErr-to (Ok _) P Q p f = tt
IfErr-to (Err e) P Q p f = f e p

pub IfErr-at : {T E : Type 0} (r : Result T E) (e : E) (P : E → Type 0) → r ≡ Err e → P e → IfErr r P
IfErr-at r e P is p = subst (λ q. IfErr q P) (sym is) p
