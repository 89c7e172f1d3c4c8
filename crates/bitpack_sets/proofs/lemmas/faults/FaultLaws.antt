-- Faults in turn: there is none exactly if none of them is.
use Rattle.std.proofs.Common.{◌≡◌, ℕ, ◌≤◌, Bool, true, false, ltb, Option, Some, None, refl, sym, ap, ◌∙◌, cond, inl, inr}
use Rattle.std.specs.Option.{is_some, option_map, option_or}
use Rattle.std.proofs.lemmas.Bool.{cases_lt, lt-ltb, true≢false}

pub or_none : {E : Type 0} (a b : Option E) → option_or a b ≡ None → (a ≡ None) × (b ≡ None)
or_none None b h = (refl, h)
or_none (Some e) b h = absurd (true≢false (ap is_some h))

pub none_or : {E : Type 0} (a b : Option E) → a ≡ None → b ≡ None → option_or a b ≡ None
none_or a b e f = ap (λ (o : Option _). option_or o b) e ∙ f

pub map_none : {T E : Type 0} (f : T → E) (a : Option T) → option_map f a ≡ None → a ≡ None
map_none f None h = refl
map_none f (Some e) h = absurd (true≢false (ap is_some h))

pub none_map : {T E : Type 0} (f : T → E) (a : Option T) → a ≡ None → option_map f a ≡ None
none_map f a h = ap (option_map f) h

pub if_none : {T : Type 0} (b : Bool) (e : T) → cond b None (Some e) ≡ None → b ≡ true
if_none true e h = refl
if_none false e h = absurd (true≢false (ap is_some h))

pub not_below : (x y : ℕ) → ltb x y ≡ false → y ≤ x
not_below x y e = elim (cases_lt x y) [ inl less ↦ absurd (true≢false (sym (lt-ltb x y less) ∙ e)) | inr more ↦ more ]

pub some_not : {T : Type 0} (b : Bool) (e : T) (o : Option T) → b ≡ false → o ≡ None → cond b (Some e) o ≡ None
some_not b e o h k = ap (λ (t : Bool). cond t (Some e) o) h ∙ k
