-- A slice whose part was written anew.
use Rattle.std.proofs.Common.{◌≡◌, ℕ, ◌+◌, ◌-◌, ◌≤◌, List, [], ◌++◌, length, take, take-add, drop, refl, ◌∙◌, ap, arith}
use Rattle.std.proofs.lemmas.List.{append-nil, drop_all, drop_at, length-append, length-drop, length-take, length-take-le, take_at, take_rest}
use borrow.Rule.Slice.PartMut.{put_mid}

-- A list whose end was written anew.
pub put_end : (start : ℕ) (xs part : List ℕ) → start ≤ length xs → length part ≡ length xs - start
    → put_mid start (length xs - start) xs part ≡ take start xs ++ part
put_end start xs part within long =
    let none : drop (length xs - start) (drop start xs) ≡ [] =
    drop_all (length xs - start) (drop start xs) (simp length-drop (omega arith)) in
    ap (λ zs. take start xs ++ (part ++ zs)) none ∙ ap (λ zs. take start xs ++ zs) (append-nil part)

pub take-put_end : (start size : ℕ) (xs part : List ℕ) → start ≤ length xs → length part ≡ length xs - start
    → take (start + size) (put_mid start (length xs - start) xs part) ≡ take start xs ++ take size part
take-put_end start size xs part within long =
    let front : length (take start xs) ≡ start = simp length-take (omega arith) in
    rw (
      put_end start xs part within long,
      take-add start size (take start xs ++ part),
      take_at (take start xs) part start front,
      drop_at (take start xs) part start front,
    ) refl

-- A slice after its front, and how long that is.
pub lent_after : (start : ℕ) (xs : List ℕ) → length (take (length xs - start) (drop start xs)) ≡ length xs - start
lent_after start xs = ap length (take_rest xs start) ∙ length-drop start xs

-- What is written leaves the length unchanged.
pub length-written : (a k : ℕ) (codes new : List ℕ) → a ≤ length codes → length new ≡ k → a + k ≤ length codes → length (put_mid a k codes new) ≡ length codes
length-written a k codes new le long room =
    let rest : List ℕ = drop k (drop a codes) in
    omega (arith, length-append (take a codes) (new ++ rest), length-append new rest, length-take-le a codes le, length-drop k (drop a codes), length-drop a codes)
