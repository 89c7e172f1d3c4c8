-- Codes fit a width exactly if each of them does, or if all their bits do.
use Rattle.std.proofs.Common.{◌≡◌, ℕ, ◌^◌, ◌<◌, Bool, true, false, ltb, List, refl, sym, Decides}
use Rattle.std.specs.List.{list_all}
use Rattle.std.proofs.lemmas.Bool.{lt-ltb, ltb-true}
use Rattle.std.proofs.lemmas.Bool.Decides.{Decides-by_and, Decides-ltb}
use Rattle.bitpacking.specs.Width.{Fits}

pub Decides-fits : (codes : List ℕ) (width : ℕ) → Decides (list_all (λ code. ltb code (2 ^ width)) codes) (Fits codes width)
Decides-fits codes width =
    Decides-by_and (λ code. ltb code (2 ^ width)) (λ code. code < 2 ^ width) (list_all (λ code. ltb code (2 ^ width)))
    (λ code. Decides-ltb code (2 ^ width)) refl (λ _ _. refl) codes

same_truth : (one other : Bool) → (one ≡ true → other ≡ true) → (other ≡ true → one ≡ true) → one ≡ other
same_truth true other to from = sym (to refl)
same_truth false true to from = from refl
same_truth false false to from = refl

-- Codes fit a width exactly if all their bits do.
pub fit_by_bits : (w bits : ℕ) (codes : List ℕ) → ((w : ℕ) → bits < 2 ^ w → Fits codes w) → ((w : ℕ) → Fits codes w → bits < 2 ^ w)
    → list_all (λ code. ltb code (2 ^ w)) codes ≡ ltb bits (2 ^ w)
fit_by_bits w bits codes above below =
    let decides = Decides-fits codes w in
    same_truth (list_all (λ code. ltb code (2 ^ w)) codes) (ltb bits (2 ^ w))
    (λ all. lt-ltb bits (2 ^ w) (below w (decides.0 all))) (λ small. decides.1 (above w (ltb-true bits (2 ^ w) small)))
