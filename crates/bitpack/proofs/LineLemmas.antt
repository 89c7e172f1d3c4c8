-- The lines of an input, a byte at a time, and the prefix of a line.
use Rattle.std.proofs.Common.{◌≡◌, ◌≢◌, ℕ, suc, ◌+◌, ◌<◌, ◌≤◌, List, [], ◌∷◌, ◌++◌, Bool, true, false, length, take, drop, refl, sym, ap, subst, ◌∙◌, ◌⊎◌, inl, inr, arith, append_assoc, append-nil, length-append, take_all, if◌then◌else◌}
use Rattle.std.specs.Prelude.{count_by}
use Rattle.std.specs.List.{concat, onto_first}
use Rattle.std.proofs.lemmas.List.{length-take, take-append-le, take_at, drop_at}
use Rattle.std.proofs.lemmas.Bool.Decides.{eqb_tells}
use Rattle.std.proofs.lemmas.List.Sums.{sum_by-cons}
use Rattle.bitpack.specs.Lines.{is_feed, lines, ended, unfinished, line_prefix}

-- ---- lines and line feeds

-- the last line, if it is unfinished
abbrev pub last_line : List ℕ → List (List ℕ)
last_line [] = []
last_line (byte ∷ bytes) = (byte ∷ bytes) ∷ []

-- the same lines from the front on, after the bytes `started`: those that end in these bytes, and the bytes that are left
abbrev ended_from : List ℕ → List ℕ → List (List ℕ)
ended_from started [] = []
ended_from started (byte ∷ bytes) = if is_feed byte then started ∷ ended_from [] bytes else ended_from (started ++ byte ∷ []) bytes

abbrev open_from : List ℕ → List ℕ → List ℕ
open_from started [] = started
open_from started (byte ∷ bytes) = if is_feed byte then open_from [] bytes else open_from (started ++ byte ∷ []) bytes

abbrev NoFeed : List ℕ → Type 0
NoFeed [] = Unit {0}
NoFeed (byte ∷ bytes) = (is_feed byte ≡ false) × NoFeed bytes

pub either : (test : Bool) → (test ≡ true) ⊎ (test ≡ false)
either true = inl refl
either false = inr refl

pub not_feed : (byte : ℕ) → byte ≢ 10 → is_feed byte ≡ false
not_feed byte h = elim (eqb_tells byte 10) [ inl (_, e) ↦ absurd (h e) | inr (e, _) ↦ e ]

no_feed_more : (bytes : List ℕ) (byte : ℕ) → NoFeed bytes → is_feed byte ≡ false → NoFeed (bytes ++ byte ∷ [])
no_feed_more [] byte h e = (e, tt)
no_feed_more (x ∷ bytes) byte h e = (h.0, no_feed_more bytes byte h.1 e)

onto_last : (byte : ℕ) (bytes : List ℕ) → onto_first byte (last_line bytes) ≡ (byte ∷ bytes) ∷ []
onto_last byte [] = refl
onto_last byte (x ∷ bytes) = refl

lines-open : (started : List ℕ) → NoFeed started → lines started ≡ last_line started
unfolding lines
lines-open [] h = refl
lines-open (byte ∷ started) h =
    ap (λ t. if t then [] ∷ lines started else onto_first byte (lines started)) h.0 ∙ ap (onto_first byte) (lines-open started h.1) ∙ onto_last byte started

lines-feed : (started : List ℕ) (byte : ℕ) (bytes : List ℕ) → NoFeed started → is_feed byte ≡ true → lines (started ++ byte ∷ bytes) ≡ started ∷ lines bytes
unfolding lines
lines-feed [] byte bytes h e = ap (λ t. if t then [] ∷ lines bytes else onto_first byte (lines bytes)) e
lines-feed (x ∷ started) byte bytes h e =
    let rest = started ++ byte ∷ bytes in
    ap (λ t. if t then [] ∷ lines rest else onto_first x (lines rest)) h.0 ∙ ap (onto_first x) (lines-feed started byte bytes h.1 e)

feeds-more : (byte : ℕ) (bytes : List ℕ) → count_by is_feed (byte ∷ bytes) ≡ (if is_feed byte then 1 else 0) + count_by is_feed bytes
feeds-more byte bytes = sum_by-cons (λ x. if is_feed x then 1 else 0) byte bytes

feeds-no : (byte : ℕ) (bytes : List ℕ) → is_feed byte ≡ false → count_by is_feed (byte ∷ bytes) ≡ count_by is_feed bytes
feeds-no byte bytes e =
    let one = feeds-more byte bytes ∙ ap (λ t. (if t then 1 else 0) + count_by is_feed bytes) e in
    omega (arith, one)

feeds-none : (started bytes : List ℕ) → NoFeed started → count_by is_feed (started ++ bytes) ≡ count_by is_feed bytes
feeds-none [] bytes h = refl
feeds-none (byte ∷ started) bytes h = feeds-no byte (started ++ bytes) h.0 ∙ feeds-none started bytes h.1

one-more : (n : ℕ) → 1 + n ≡ suc n
one-more n = omega arith

feeds-one : (byte : ℕ) (bytes : List ℕ) → is_feed byte ≡ true → count_by is_feed (byte ∷ bytes) ≡ 1 + count_by is_feed bytes
feeds-one byte bytes e = feeds-more byte bytes ∙ ap (λ t. (if t then 1 else 0) + count_by is_feed bytes) e

-- the lines are those that ended and the unfinished one; there are as many line feeds as lines that ended
cut : (started bytes : List ℕ) → NoFeed started
    → (lines (started ++ bytes) ≡ ended_from started bytes ++ last_line (open_from started bytes)) × (count_by is_feed (started ++ bytes) ≡ length (ended_from started bytes))
cut started [] h = (ap lines (append-nil started) ∙ lines-open started h, feeds-none started [] h)
cut started (byte ∷ bytes) h = elim (either (is_feed byte)) [
  | inl e ↦
      let rest = cut [] bytes tt in (
        lines-feed started byte bytes h e ∙ ap (λ l. started ∷ l) rest.0
            ∙ sym (ap (λ t. (if t then started ∷ ended_from [] bytes else ended_from (started ++ byte ∷ []) bytes) ++ last_line (if t then open_from [] bytes else open_from (started ++ byte ∷ []) bytes)) e),
        feeds-none started (byte ∷ bytes) h ∙ feeds-one byte bytes e ∙ ap (λ n. 1 + n) rest.1 ∙ one-more (length (ended_from [] bytes))
            ∙ sym (ap (λ t. length (if t then started ∷ ended_from [] bytes else ended_from (started ++ byte ∷ []) bytes)) e),
      )
  | inr e ↦
      let rest = cut (started ++ byte ∷ []) bytes (no_feed_more started byte h e) in
      let joined : started ++ byte ∷ bytes ≡ (started ++ byte ∷ []) ++ bytes = sym (append_assoc started (byte ∷ []) bytes) in (
        ap lines joined ∙ rest.0
            ∙ sym (ap (λ t. (if t then started ∷ ended_from [] bytes else ended_from (started ++ byte ∷ []) bytes) ++ last_line (if t then open_from [] bytes else open_from (started ++ byte ∷ []) bytes)) e),
        ap (count_by is_feed) joined ∙ rest.1 ∙ sym (ap (λ t. length (if t then started ∷ ended_from [] bytes else ended_from (started ++ byte ∷ []) bytes)) e),
      )
]

ended-is : (bytes : List ℕ) → ended bytes ≡ ended_from [] bytes
unfolding ended
ended-is bytes =
    let (all, count) = cut [] bytes tt in
    ap (λ l. take (count_by is_feed bytes) l) all ∙ take_at (ended_from [] bytes) (last_line (open_from [] bytes)) (count_by is_feed bytes) (sym count)

one_line : (bytes : List ℕ) → concat (last_line bytes) ≡ bytes
one_line [] = refl
one_line (byte ∷ bytes) = append-nil (byte ∷ bytes)

unfinished-is : (bytes : List ℕ) → unfinished bytes ≡ open_from [] bytes
unfolding unfinished
unfinished-is bytes =
    let (all, count) = cut [] bytes tt in
    ap (λ l. concat (drop (count_by is_feed bytes) l)) all ∙ ap concat (drop_at (ended_from [] bytes) (last_line (open_from [] bytes)) (count_by is_feed bytes) (sym count))
    ∙ one_line (open_from [] bytes)

pub ended-nil : ended [] ≡ []
ended-nil = ended-is []

pub unfinished-nil : unfinished [] ≡ []
unfinished-nil = unfinished-is []

-- ---- one piece more, and one byte more

ended_from-append : (started a b : List ℕ) → ended_from started (a ++ b) ≡ ended_from started a ++ ended_from (open_from started a) b
ended_from-append started [] b = refl
ended_from-append started (x ∷ a) b = elim (is_feed x) as (λ t. (if t then started ∷ ended_from [] (a ++ b) else ended_from (started ++ x ∷ []) (a ++ b)) ≡ (if t then started ∷ ended_from [] a else ended_from (started ++ x ∷ []) a) ++ ended_from (if t then open_from [] a else open_from (started ++ x ∷ []) a) b)
    [ true ↦ ap (λ l. started ∷ l) (ended_from-append [] a b) | false ↦ ended_from-append (started ++ x ∷ []) a b ]

open_from-append : (started a b : List ℕ) → open_from started (a ++ b) ≡ open_from (open_from started a) b
open_from-append started [] b = refl
open_from-append started (x ∷ a) b = elim (is_feed x) as (λ t. (if t then open_from [] (a ++ b) else open_from (started ++ x ∷ []) (a ++ b)) ≡ open_from (if t then open_from [] a else open_from (started ++ x ∷ []) a) b)
    [ true ↦ open_from-append [] a b | false ↦ open_from-append (started ++ x ∷ []) a b ]

-- all lines: those that ended, and the last
pub lines-all : (bytes : List ℕ) → lines bytes ≡ ended bytes ++ last_line (unfinished bytes)
lines-all bytes = (cut [] bytes tt).0 ∙ sym (ap (λ l. l ++ last_line (unfinished bytes)) (ended-is bytes) ∙ ap (λ l. ended_from [] bytes ++ last_line l) (unfinished-is bytes))

-- a line feed ends the unfinished line
pub ended-feed : (bytes : List ℕ) → ended (bytes ++ 10 ∷ []) ≡ ended bytes ++ unfinished bytes ∷ []
ended-feed bytes =
    ended-is (bytes ++ 10 ∷ []) ∙ ended_from-append [] bytes (10 ∷ []) ∙ sym (ap (λ l. l ++ unfinished bytes ∷ []) (ended-is bytes) ∙ ap (λ l. ended_from [] bytes ++ l ∷ []) (unfinished-is bytes))

pub unfinished-feed : (bytes : List ℕ) → unfinished (bytes ++ 10 ∷ []) ≡ []
unfinished-feed bytes = unfinished-is (bytes ++ 10 ∷ []) ∙ open_from-append [] bytes (10 ∷ [])

-- another byte is appended to it
pub ended-other : (bytes : List ℕ) (byte : ℕ) → is_feed byte ≡ false → ended (bytes ++ byte ∷ []) ≡ ended bytes
ended-other bytes byte e =
    ended-is (bytes ++ byte ∷ []) ∙ ended_from-append [] bytes (byte ∷ [])
    ∙ ap (λ t. ended_from [] bytes ++ (if t then open_from [] bytes ∷ [] else [])) e
    ∙ append-nil (ended_from [] bytes) ∙ sym (ended-is bytes)

pub unfinished-other : (bytes : List ℕ) (byte : ℕ) → is_feed byte ≡ false → unfinished (bytes ++ byte ∷ []) ≡ unfinished bytes ++ byte ∷ []
unfinished-other bytes byte e =
    unfinished-is (bytes ++ byte ∷ []) ∙ open_from-append [] bytes (byte ∷ [])
    ∙ ap (λ t. if t then [] else open_from [] bytes ++ byte ∷ []) e ∙ sym (ap (λ l. l ++ byte ∷ []) (unfinished-is bytes))

-- lines that ended stay, whatever follows
pub lines-begin : (a b : List ℕ) → (more : List (List ℕ)) × (lines (a ++ b) ≡ ended a ++ more)
lines-begin a b =
    let more = ended_from (open_from [] a) b in
    let last = last_line (open_from [] (a ++ b)) in (
      more ++ last,
      (cut [] (a ++ b) tt).0 ∙ ap (λ l. l ++ last) (ended_from-append [] a b) ∙ append_assoc (ended_from [] a) more last ∙ sym (ap (λ l. l ++ (more ++ last)) (ended-is a)),
    )

-- ---- the prefix of a line

-- a part that is not full grows, and a full one stays
take_prefix : (n : ℕ) (line : List ℕ) (byte : ℕ) → length (take n line) < n → take n (line ++ byte ∷ []) ≡ take n line ++ byte ∷ []
take_prefix n line byte h =
    let short : length line < n = omega (arith, length-take n line) in
    take_all n (line ++ byte ∷ []) (omega (arith, length-append line (byte ∷ []))) ∙ ap (λ l. l ++ byte ∷ []) (sym (take_all n line (omega arith)))

take_full : (n : ℕ) (line : List ℕ) (byte : ℕ) → n ≤ length (take n line) → take n (line ++ byte ∷ []) ≡ take n line
take_full n line byte h =
    let full : n ≤ length line = omega (arith, length-take n line) in
    take-append-le n line (byte ∷ []) full

pub line_prefix-grows : (prefix line : List ℕ) (byte : ℕ) → prefix ≡ line_prefix line → length prefix ≤ 65536 → prefix ++ byte ∷ [] ≡ line_prefix (line ++ byte ∷ [])
unfolding line_prefix
line_prefix-grows prefix line byte e h =
    ap (λ l. l ++ byte ∷ []) e ∙ sym (take_prefix 65537 line byte (subst (λ l. length l < 65537) e (omega arith)))

pub line_prefix-full : (prefix line : List ℕ) (byte : ℕ) → prefix ≡ line_prefix line → 65536 < length prefix → prefix ≡ line_prefix (line ++ byte ∷ [])
unfolding line_prefix
line_prefix-full prefix line byte e h =
    e ∙ sym (take_full 65537 line byte (subst (λ l. 65537 ≤ length l) e (omega arith)))

pub line_prefix-nil : [] ≡ line_prefix []
unfolding line_prefix
line_prefix-nil = refl

-- the prefix is empty only if the line is
some_taken : (n byte : ℕ) (line : List ℕ) → 0 < n → length (take n (byte ∷ line)) ≢ 0
some_taken n byte line h e = omega (arith, length-take n (byte ∷ line), e)

pub line_prefix-none : (line : List ℕ) → length (line_prefix line) ≡ 0 → last_line line ≡ []
unfolding line_prefix
line_prefix-none [] e = refl
line_prefix-none (byte ∷ line) e = absurd (some_taken 65537 byte line (omega arith) e)

pub line_prefix-some : (line : List ℕ) → length (line_prefix line) ≢ 0 → last_line line ≡ line ∷ []
unfolding line_prefix
line_prefix-some [] h = absurd (h refl)
line_prefix-some (byte ∷ line) h = refl
