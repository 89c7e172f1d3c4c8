-- What is read of a bitmap is what it was written of.
use Rattle.std.proofs.Common.{◌≡◌, ℕ, ◌+◌, ◌-◌, ◌*◌, ◌/◌, ◌^◌, ◌<◌, ◌≤◌, Bool, true, false, ◌&&◌, cond, eqb, leb, ltb, List, [], ◌∷◌, ◌++◌, length, take, drop, refl, sym, ap, ◌∙◌, arith, subst, inl, inr, append_assoc, length-append}
use Rattle.std.specs.Int.{bit_at}
use Rattle.std.specs.List.{concat}
use Rattle.std.proofs.lemmas.Bool.{cases_lt, le-leb, le-ltb, lt-leb, lt-ltb}
use Rattle.std.proofs.lemmas.List.{length-map, length-take-le}
use Rattle.bitpack_groups.proofs.ForCallers.{little_len}
use Rattle.bitpack_groups.specs.Numbers.{short_at}
use Rattle.bitpack_slices.proofs.ForCallers.{AreParts, parts_are}
use Rattle.bitpack_slices.specs.Bodies.{IsRising, bits, le_bytes, parts}
use Rattle.bitpack_slices.specs.Reads.{has}
use Rattle.bitpack_roaring.proofs.ContainerBack.{bit_is, bits_small}
use Rattle.bitpack_roaring.proofs.CookieBack as cookies
use Rattle.bitpack_roaring.proofs.CookieBack.{cookie_by}
use Rattle.bitpack_roaring.proofs.FlagLaws.{flags_rise}
use Rattle.bitpack_roaring.proofs.LayoutLaws.{IsChunk, bodies_cut, chunk_is, chunk_of, cut_at, entries_cut, flag_at, no_run_at, run_some, starts_size}
use Rattle.bitpack_roaring.proofs.MeasureSteps.{cookie_len, entries_len}
use Rattle.bitpack_roaring.proofs.PlaceLaws.{bytes_bits, short_here}
use Rattle.bitpack_roaring.specs.Roaring as read
use Rattle.bitpack_roaring.specs.Written.{are_runs, container, cookie, flagged, roaring}
use Rattle.bitpack_roaring.specs.inner.Sizes.{bodies, entries, has_run, lists, starts_of}

-- a part within the second or the third of three parts
within : (c e x y a t : List ℕ) → c ++ ((e ++ ((x ++ y) ++ a)) ++ t) ≡ (c ++ e) ++ (x ++ (y ++ (a ++ t)))
within c e x y a t =
    ap (λ (l : List ℕ). c ++ l) (append_assoc e ((x ++ y) ++ a) t ∙ ap (λ (l : List ℕ). e ++ l) (append_assoc (x ++ y) a t ∙ append_assoc x y (a ++ t)))
    ∙ sym (append_assoc c e (x ++ (y ++ (a ++ t))))

pub third : (c e s x a t : List ℕ) → c ++ (e ++ ((s ++ (x ++ a)) ++ t)) ≡ ((c ++ e) ++ s) ++ (x ++ (a ++ t))
third c e s x a t =
    sym (append_assoc c e ((s ++ (x ++ a)) ++ t)) ∙ ap (λ (l : List ℕ). (c ++ e) ++ l) (append_assoc s (x ++ a) t ∙ ap (λ (l : List ℕ). s ++ l) (append_assoc x a t))
    ∙ sym (append_assoc (c ++ e) s (x ++ (a ++ t)))

last : (c e s b x a : List ℕ) → c ++ (e ++ (s ++ (b ++ (x ++ a)))) ≡ ((c ++ (e ++ s)) ++ b) ++ (x ++ a)
last c e s b x a =
    ap (λ (l : List ℕ). c ++ l) (sym (append_assoc e s (b ++ (x ++ a)))) ∙ sym (append_assoc c (e ++ s) (b ++ (x ++ a))) ∙ sym (append_assoc (c ++ (e ++ s)) b (x ++ a))

module _ (ids : List ℕ) (r : IsRising 0 (2 ^ 32) ids) where
  abbrev pub chunks : List (ℕ × List ℕ)
  chunks = parts 65536 ids

  abbrev pub count : ℕ
  count = length chunks

  abbrev pub any : Bool
  any = has_run chunks

  abbrev flags : ℕ
  flags = bits (flagged 0 (lists chunks))

  abbrev pub start : ℕ
  start = length (cookie (lists chunks) ++ entries chunks) + 4 * count

  abbrev pub offs : List ℕ
  offs = cond (any && ltb count 4) [] (starts_of start chunks)

  pub are : AreParts 65536 0 65536 chunks
  are = parts_are 65536 0 65536 0 ids (omega arith) (omega arith) r

  few_parts : (low high : ℕ) (ps : List (ℕ × List ℕ)) → AreParts 65536 low high ps → low + length ps ≤ high
  few_parts low high [] are = omega arith
  few_parts low high (p ∷ ps) (a, some, r, later) = let ih = few_parts (p.0 + 1) high ps later in omega arith

  pub few : count ≤ 65536
  few = let most = few_parts 0 65536 chunks are in omega arith

  -- ---- the bytes

  pub layout : roaring ids ≡ cookie (lists chunks) ++ (entries chunks ++ (offs ++ concat (bodies chunks)))
  unfolding roaring
  layout =
      append_assoc (cookie (lists chunks) ++ entries chunks) offs (concat (bodies chunks)) ∙ append_assoc (cookie (lists chunks)) (entries chunks) (offs ++ concat (bodies chunks))

  listed : length (lists chunks) ≡ count
  listed = length-map chunks (λ chunk. chunk.1)

  cookie_is : cookie (lists chunks) ≡ cookie_by any count flags
  unfolding cookie
  cookie_is = ap (λ (n : ℕ). cookie_by any n flags) listed

  flags_small : flags < 256 ^ ((count + 7) / 8)
  flags_small =
      let k : ℕ = (count + 7) / 8 in
      let long = listed in
      subst (λ (n : ℕ). flags < n) (bytes_bits k) (bits_small (8 * k) (flagged 0 (lists chunks)) (flags_rise 0 (8 * k) (lists chunks) (omega arith)))

  said : roaring ids ≡ cookie_by any count flags ++ (entries chunks ++ (offs ++ concat (bodies chunks)))
  said = layout ∙ ap (λ (l : List ℕ). l ++ (entries chunks ++ (offs ++ concat (bodies chunks)))) cookie_is

  abbrev rest : List ℕ
  rest = entries chunks ++ (offs ++ concat (bodies chunks))

  pub runs_are : read.has_runs (roaring ids) ≡ any
  runs_are = cookies.runs_are count flags rest (roaring ids) any said (run_some chunks) few

  pub count_is : read.containers (roaring ids) ≡ count
  count_is = cookies.count_is count flags rest (roaring ids) any said (run_some chunks) few

  pub four_is : any ≡ false → short_at 4 (roaring ids) 0 ≡ 12346
  four_is none = cookies.four_said count flags rest (roaring ids) (said ∙ ap (λ (b : Bool). cookie_by b count flags ++ rest) none)

  pub cookie_size : length (cookie (lists chunks)) ≡ cond any (4 + (count + 7) / 8) 8
  cookie_size = cookie_len (lists chunks) ∙ ap (λ (n : ℕ). cond any (4 + (n + 7) / 8) 8) listed

  pub keys_are : read.keys_start (roaring ids) ≡ length (cookie (lists chunks))
  keys_are = cookies.keys_are count flags rest (roaring ids) any said (run_some chunks) few ∙ sym cookie_size

  pub offsets_are : read.has_offsets (roaring ids) ≡ cond any (leb 4 count) true
  offsets_are = cookies.offsets_are count flags rest (roaring ids) any said (run_some chunks) few

  -- the offsets, if there are some
  offs_by : (b : Bool) → read.has_offsets (roaring ids) ≡ cond b (leb 4 count) true → (read.has_offsets (roaring ids) ≡ true → cond (b && ltb count 4) [] (starts_of start chunks) ≡ starts_of start chunks)
      × (length (cond (b && ltb count 4) [] (starts_of start chunks)) + 4 * count ≡ cond (read.has_offsets (roaring ids)) 8 4 * count)
  offs_by true e = elim (cases_lt count 4) [
    | inl less ↦ (
        let no : read.has_offsets (roaring ids) ≡ false = e ∙ lt-leb 4 count less in
        let four : cond (read.has_offsets (roaring ids)) 8 4 * count ≡ 4 * count = ap (λ (b : Bool). cond b 8 4 * count) no in
        let none = ap (λ (b : Bool). length (cond b [] (starts_of start chunks))) (lt-ltb count 4 less) in
        (λ there. absurd (Rattle.std.proofs.lemmas.Bool.true≢false (sym there ∙ no)), omega arith))
    | inr more ↦ (
        let there : read.has_offsets (roaring ids) ≡ true = e ∙ le-leb 4 count more in
        let eight : cond (read.has_offsets (roaring ids)) 8 4 * count ≡ 8 * count = ap (λ (b : Bool). cond b 8 4 * count) there in
        let all = ap (λ (b : Bool). length (cond b [] (starts_of start chunks))) (le-ltb count 4 more) in
        let size = starts_size start chunks in
        (λ h. ap (λ (b : Bool). cond b [] (starts_of start chunks)) (le-ltb count 4 more), omega arith))
  ]
  offs_by false e =
      let eight : cond (read.has_offsets (roaring ids)) 8 4 * count ≡ 8 * count = ap (λ (b : Bool). cond b 8 4 * count) e in
      let size = starts_size start chunks in
      (λ h. refl, omega arith)

  pub offs_are : read.has_offsets (roaring ids) ≡ true → offs ≡ starts_of start chunks
  offs_are = (offs_by any offsets_are).0

  pub head_size : read.head_len (roaring ids) ≡ length (cookie (lists chunks) ++ (entries chunks ++ offs))
  unfolding read.head_len
  head_size =
      let a = length-append (cookie (lists chunks)) (entries chunks ++ offs) in
      let b = length-append (entries chunks) offs in
      let d = entries_len chunks in
      let e = keys_are in
      let f = (offs_by any offsets_are).1 in
      let g : cond (read.has_offsets (roaring ids)) 8 4 * read.containers (roaring ids) ≡ cond (read.has_offsets (roaring ids)) 8 4 * count =
      ap (λ (n : ℕ). cond (read.has_offsets (roaring ids)) 8 4 * n) count_is in
      omega arith

  -- ---- container m

  module _ (m : ℕ) (less : m < count) where
    abbrev p : ℕ × List ℕ
    p = chunk_of chunks m

    abbrev before : List (ℕ × List ℕ)
    before = take m chunks

    abbrev after : List (ℕ × List ℕ)
    after = drop (m + 1) chunks

    pub cut : chunks ≡ before ++ (p ∷ after)
    cut = cut_at m chunks less

    pub own : IsChunk p 0 65536
    own = chunk_is 0 65536 m chunks are less

    many : length before ≡ m
    many = length-take-le m chunks (omega arith)

    entry_there : roaring ids ≡ (cookie (lists chunks) ++ entries before) ++ (le_bytes 2 p.0 ++ (le_bytes 2 (length p.1 - 1) ++ (entries after ++ (offs ++ concat (bodies chunks)))))
    entry_there =
        layout ∙ ap (λ (l : List ℕ). cookie (lists chunks) ++ (l ++ (offs ++ concat (bodies chunks)))) (ap entries cut ∙ entries_cut before p after)
        ∙ within (cookie (lists chunks)) (entries before) (le_bytes 2 p.0) (le_bytes 2 (length p.1 - 1)) (entries after) (offs ++ concat (bodies chunks))

    pub key_is : read.key_at (roaring ids) m ≡ p.0
    unfolding read.key_at
    key_is =
        let a = length-append (cookie (lists chunks)) (entries before) in
        let b = entries_len before in
        let d = many in
        let e = keys_are in
        let small = own.below in
        short_here 2 (read.keys_start (roaring ids)) (2 * m) p.0 (roaring ids) (cookie (lists chunks) ++ entries before)
        (le_bytes 2 (length p.1 - 1) ++ (entries after ++ (offs ++ concat (bodies chunks)))) (omega arith) entry_there (omega arith)

    pub own_count : read.count_at (roaring ids) m ≡ length p.1
    unfolding read.count_at
    own_count =
        let a = length-append (cookie (lists chunks)) (entries before) in
        let b = entries_len before in
        let d = many in
        let e = keys_are in
        let f = length-append (cookie (lists chunks) ++ entries before) (le_bytes 2 p.0) in
        let g = little_len 2 p.0 in
        let some = own.some in
        let most = own.few in
        let more : length p.1 - 1 + 1 ≡ length p.1 = omega arith in
        ap (λ (n : ℕ). n + 1) (short_here 2 (read.keys_start (roaring ids)) (2 * m + 1) (length p.1 - 1) (roaring ids) ((cookie (lists chunks) ++ entries before) ++ le_bytes 2 p.0)
        (entries after ++ (offs ++ concat (bodies chunks))) (omega arith)
        (entry_there ∙ sym (append_assoc (cookie (lists chunks) ++ entries before) (le_bytes 2 p.0) (le_bytes 2 (length p.1 - 1) ++ (entries after ++ (offs ++ concat (bodies chunks))))))
        (omega arith)) ∙ more

    run_by : (b : Bool) → any ≡ b → cond b (eqb (bit_at flags m) 1) false ≡ are_runs p.1
    run_by true e =
        let k : ℕ = (count + 7) / 8 in
        let long = listed in
        let same : m ≡ 0 + m = omega arith in
        bit_is (8 * k) m (flagged 0 (lists chunks)) (flags_rise 0 (8 * k) (lists chunks) (omega arith)) (omega arith)
        ∙ ap (λ (n : ℕ). has n (flagged 0 (lists chunks))) same ∙ flag_at 0 m chunks less
    run_by false e = sym (no_run_at m chunks less e)

    pub own_run : read.is_run (roaring ids) m ≡ are_runs p.1
    own_run = cookies.run_is count flags rest (roaring ids) any said (run_some chunks) few flags_small m less ∙ run_by any refl

    pub body_there : roaring ids ≡ ((cookie (lists chunks) ++ (entries chunks ++ offs)) ++ concat (bodies before)) ++ (container p.1 ++ concat (bodies after))
    body_there =
        layout ∙ ap (λ (l : List ℕ). cookie (lists chunks) ++ (entries chunks ++ (offs ++ l))) (ap (λ (ps : List (ℕ × List ℕ)). concat (bodies ps)) cut ∙ bodies_cut before p after)
        ∙ last (cookie (lists chunks)) (entries chunks) offs (concat (bodies before)) (container p.1) (concat (bodies after))
