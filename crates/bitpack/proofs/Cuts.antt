-- Strings that are cut at the first position of a byte.
use Rattle.std.proofs.Common.{◌≡◌, ◌≢◌, ℕ, zero, suc, ◌^◌, ◌<◌, List, [], ◌∷◌, ◌++◌, length, get_or, refl, subst, arith}
use Rattle.std.specs.Int.{IsInRange}
use Rattle.std.specs.Fmt.{decimal}
use Rattle.bitpack.proofs.Numerals.{decimal-digit}

-- the byte is not in the string
abbrev pub Lacks : ℕ → List ℕ → Type 0
Lacks byte string = (i : ℕ) → i < length string → get_or string i 0 ≢ byte

pub Lacks-tail : (byte x : ℕ) (string : List ℕ) → Lacks byte (x ∷ string) → Lacks byte string
Lacks-tail byte x string lacks i h = lacks (suc i) (omega arith)

pub Lacks-cons : (byte x : ℕ) (string : List ℕ) → x ≢ byte → Lacks byte string → Lacks byte (x ∷ string)
Lacks-cons byte x string other lacks zero h = other
Lacks-cons byte x string other lacks (suc i) h = lacks i (omega arith)

pub Lacks-append : (byte : ℕ) (a b : List ℕ) → Lacks byte a → Lacks byte b → Lacks byte (a ++ b)
Lacks-append byte [] b front back = back
Lacks-append byte (x ∷ a) b front back = Lacks-cons byte x (a ++ b) (front 0 (omega arith)) (Lacks-append byte a b (Lacks-tail byte x a front) back)

-- a cut string has the byte
pub has_cut : (byte : ℕ) (a b : List ℕ) → Lacks byte (a ++ byte ∷ b) → ⊥
has_cut byte [] b lacks = lacks 0 (omega arith) refl
has_cut byte (x ∷ a) b lacks = has_cut byte a b (Lacks-tail byte x (a ++ byte ∷ b) lacks)

-- a string has one first cut
pub same_cut : (byte : ℕ) (a b x y : List ℕ) → Lacks byte a → Lacks byte x → a ++ byte ∷ b ≡ x ++ byte ∷ y → (a ≡ x) × (b ≡ y)
same_cut byte [] b [] y la lx e = (refl, cc)
same_cut byte [] b (c ∷ x) y la lx e = absurd (lx 0 (omega arith) (cc))
same_cut byte (c ∷ a) b [] y la lx e = absurd (la 0 (omega arith) (cc))
same_cut byte (c ∷ a) b (d ∷ x) y la lx e =
    let heads : c ≡ d = cc in
    let tails : a ++ byte ∷ b ≡ x ++ byte ∷ y = cc in
    let (fronts, backs) = same_cut byte a b x y (Lacks-tail byte c a la) (Lacks-tail byte d x lx) tails in
    (cc (heads, fronts), backs)

-- a number has only digits
pub Lacks-decimal : (byte n : ℕ) → n < 2 ^ 64 → (IsInRange 48 57 byte → ⊥) → Lacks byte (decimal n)
Lacks-decimal byte n small other i h e = other (subst (IsInRange 48 57) e (decimal-digit n i small h))
