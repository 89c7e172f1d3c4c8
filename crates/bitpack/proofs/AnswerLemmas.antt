-- Every line has exactly one answer: the law `one_answer`.
use Rattle.std.proofs.Common.{◌≡◌, ◌≢◌, ℕ, ◌*◌, ◌^◌, ◌<◌, ◌≤◌, List, [], ◌∷◌, length, take, refl, sym, ap, subst, ◌∙◌, arith, inl, inr, Some, None, length-take-le, take_all}
use Rattle.std.specs.Prelude.{All}
use Rattle.std.specs.List.{flat_map}
use Rattle.std.specs.Fmt.{decimal}
use Rattle.std.proofs.lemmas.Bool.{cases_eq, cases_lt}
use Rattle.std.proofs.lemmas.List.Elements.{All-append, All-cons, All-head, All-nil, All-replicate, All-tail}
use Rattle.bitpacking.specs.declared.kind.Kind.{Kind}
use Rattle.bitpacking.specs.Bits.{AreBytes}
use Rattle.bitpacking.specs.Codes.{AreWords, codes, start, values_of}
use Rattle.bitpacking.specs.Width.{Fits, IsWidth}
use Rattle.bitpacking.specs.Layout.{Holds, Layout, codes_of, size}
use Rattle.bitpacking.proofs.ForCallers.{as_many_codes, codes_are_words, fits_greater, one_block, one_layout_bytes, one_layout_codes, one_least_width}
use Rattle.bitpack.specs.declared.line.PackerName.{PackerName}
use Rattle.bitpack.specs.declared.line.PackerName.TheVariants.{EightLanes, EightScalar, FourLanes, FourScalar, OneLane}
use Rattle.bitpack.specs.declared.line.values.Item.{Item}
use Rattle.bitpack.specs.declared.line.values.Item.TheVariants.{Once, Times}
use Rattle.bitpack.specs.Grammar.{Dec, Enc, IsItem, IsWord, Pack, Request, Seek, Size, Spells, SpellsRequest, SpellsValues, Unpack, Upgrade, Width, item_values}
use Rattle.bitpack.specs.Answers.{IsAnswer, IsReplied, IsReply, Passed, Prints, PrintsBytes, Refused, RefusedIf, SpellsNone, printed_bytes, lanes_of, refused, printed_values}
use Rattle.bitpack_lists.specs.Older.{older_fault}
use Rattle.bitpack_lists.specs.Version2.{fault2}
use Rattle.bitpack.specs.Laws.{OneAnswer}
use Rattle.bitpack.specs.Lines.{line_prefix}
use Rattle.bitpack_lists.specs.Version1.{fault1}
use Rattle.bitpack.proofs.Finding.{Decided, Search}
use Rattle.bitpack.proofs.Requests.{find_line, one_command}
use Rattle.bitpack.proofs.ListAnswers.{AreBytes-spelled, decoded_of, encoded_of, same_decoded, same_encoded, same_sought, sought_of}
use Rattle.bitpack.proofs.UpgradeAnswers.{same_upgraded, upgraded_of}

-- ---- a refusal, or a reply

module _ (Fault : Type 0) (number : ℕ) (Reply : List ℕ → Type 0) where
  -- an answer, if it is known whether the fault holds
  refused_or : Decided Fault → ((Fault → ⊥) → (answer : List ℕ) × Reply answer) → (answer : List ℕ) × RefusedIf Fault number Reply answer
  refused_or (inl fault) reply = (refused number, Refused fault refl)
  refused_or (inr sound) reply = let (answer, replies) = reply sound in (answer, Passed sound replies)

  -- two answers are equal if two replies are
  same_refusal : ((Fault → ⊥) → (a b : List ℕ) → Reply a → Reply b → a ≡ b) → (a b : List ℕ) → RefusedIf Fault number Reply a → RefusedIf Fault number Reply b → a ≡ b
  same_refusal same a b (Refused fault is_a) (Refused other is_b) = is_a ∙ sym is_b
  same_refusal same a b (Refused fault is_a) (Passed sound reply) = absurd (sound fault)
  same_refusal same a b (Passed sound reply) (Refused fault is_b) = absurd (sound fault)
  same_refusal same a b (Passed sound first) (Passed also second) = same sound a b first second

is_other : (m n : ℕ) → Decided (m ≢ n)
is_other m n = elim (cases_eq m n) [ inl same ↦ inr (λ other. other same) | inr other ↦ inl other ]

is_above : (m n : ℕ) → Decided (m < n)
is_above m n = elim (cases_lt m n) [ inl less ↦ inl less | inr more ↦ inr (λ less. omega arith) ]

same_from : (m n : ℕ) → (m ≢ n → ⊥) → m ≡ n
same_from m n not_other = elim (cases_eq m n) [ inl same ↦ same | inr other ↦ absurd (not_other other) ]

-- ---- what a request holds

-- a list of words, and not too many for a packed list
abbrev AreFewWords : List ℕ → Type 0
AreFewWords values = AreWords values × (length values ≤ 2 ^ 28)

-- what a request holds are words or bytes, and not too many
abbrev IsInRange : Request → Type 0
IsInRange (Size width) = Unit {0}
IsInRange (Width kind values) = IsWord (start kind) × AreFewWords values
IsInRange (Pack kind width values) = AreFewWords values
IsInRange (Unpack kind width bytes) = IsWord (start kind)
IsInRange (Enc kind values) = AreFewWords values
IsInRange (Dec bytes) = AreBytes bytes
IsInRange (Seek target bytes) = AreBytes bytes
IsInRange (Upgrade bytes) = AreBytes bytes

words_of_items : (items : List Item) → All IsItem items → AreWords (flat_map item_values items)
words_of_items [] are = All-nil (λ v. v < 2 ^ 32)
words_of_items (Once value ∷ items) are =
    All-append (λ v. v < 2 ^ 32) (value ∷ []) (flat_map item_values items) (All-cons (λ v. v < 2 ^ 32) value [] (All-head IsItem (Once value) items are) (All-nil (λ v. v < 2 ^ 32))) (words_of_items items (All-tail IsItem (Once value) items are))
words_of_items (Times value count ∷ items) are =
    All-append (λ v. v < 2 ^ 32) (item_values (Times value count)) (flat_map item_values items)
    (All-replicate (λ v. v < 2 ^ 32) count value (All-head IsItem (Times value count) items are).0) (words_of_items items (All-tail IsItem (Times value count) items are))

words_of : (answer values : List ℕ) → SpellsValues answer values → AreWords values
words_of answer values spelled = subst AreWords (sym spelled.values_are) (words_of_items spelled.items spelled.are_items)

few_words : (string values : List ℕ) → SpellsValues string values → AreFewWords values
few_words string values spelled = (words_of string values spelled, omega (arith, spelled.few))

request_in_range : (verb : List ℕ) (strings : List (List ℕ)) (request : Request) → SpellsRequest verb strings request → IsInRange request
request_in_range verb (one ∷ []) (Size width) spelled = tt
request_in_range verb (one ∷ two ∷ []) (Width kind values) (verb_is, (is, word), spelled) = (word, few_words two values spelled)
request_in_range verb (one ∷ two ∷ three ∷ []) (Pack kind width values) (verb_is, of_kind, small, spelled) = few_words three values spelled
request_in_range verb (one ∷ two ∷ three ∷ []) (Unpack kind width bytes) (verb_is, (is, word), small, spelled) = word
request_in_range verb (one ∷ two ∷ []) (Enc kind values) (verb_is, of_kind, spelled) = few_words two values spelled
request_in_range verb (one ∷ []) (Dec bytes) (verb_is, spelled) = AreBytes-spelled one bytes spelled
request_in_range verb (one ∷ two ∷ []) (Seek target bytes) (verb_is, word, spelled) = AreBytes-spelled two bytes spelled
request_in_range verb (one ∷ []) (Upgrade bytes) (verb_is, spelled) = AreBytes-spelled one bytes spelled
request_in_range verb strings request spelled = absurd spelled

in_range : (line : List ℕ) (packer : PackerName) (request : Request) → Spells line packer request → IsInRange request
in_range line packer request spells = request_in_range spells.verb spells.strings request spells.spelled

some_lanes : (packer : PackerName) → 0 < lanes_of packer
some_lanes OneLane = omega arith
some_lanes FourLanes = omega arith
some_lanes EightLanes = omega arith
some_lanes FourScalar = omega arith
some_lanes EightScalar = omega arith

few_lanes : (packer : PackerName) → lanes_of packer < 2 ^ 8
few_lanes OneLane = omega arith
few_lanes FourLanes = omega arith
few_lanes EightLanes = omega arith
few_lanes FourScalar = omega arith
few_lanes EightScalar = omega arith

-- ---- replies

-- codes fit a width if it is not below their least width
fits_or_not : (words : List ℕ) (width : ℕ) → AreWords words → Decided (Fits words width → ⊥)
fits_or_not words width are_words =
    let (least_width, low, least, one) = one_least_width words are_words in
    elim (cases_lt width least_width) [
      | inl below ↦ inl (least.least width below)
      | inr above ↦ inr (λ none. none (fits_greater words least_width width above least.fits))
    ]

fits_at_least : (words : List ℕ) (width : ℕ) → AreWords words → ((Fits words width → ⊥) → ⊥) → Fits words width
fits_at_least words width are_words not_none =
    let (least_width, low, least, one) = one_least_width words are_words in
    elim (cases_lt width least_width) [
      | inl below ↦ absurd (not_none (least.least width below))
      | inr above ↦ fits_greater words least_width width above least.fits
    ]

-- codes that fit a width of at most 32 are words
words_from_fits : (words : List ℕ) (width : ℕ) → width ≤ 32 → Fits words width → AreWords words
words_from_fits words width narrow fits = fits_greater words width 32 narrow fits

narrow_width : (width : ℕ) → (32 < width → ⊥) → width ≤ 32
narrow_width width narrow = elim (cases_lt 32 width) [ inl wide ↦ absurd (narrow wide) | inr fine ↦ fine ]

module _ (lanes : ℕ) (some : 0 < lanes) where
  reply_of : lanes < 2 ^ 8 → (request : Request) → IsInRange request → (answer : List ℕ) × IsReply lanes request answer
  reply_of few (Size width) range = (decimal (size lanes width), refl)
  reply_of few (Width kind values) (is_kind, (words, short)) =
      refused_or _ 2 _ (is_other (length values) (32 * lanes)) (λ block.
      let (width, low, least, one) = one_least_width (codes kind values) (codes_are_words kind values words) in
      (decimal width, record { thing = width; fact = least; answer_is = refl }))
  reply_of few (Pack kind width values) (words, short) =
      let are_words = codes_are_words kind values words in
      refused_or _ 2 _ (is_other (length values) (32 * lanes)) (λ block.
      refused_or _ 3 _ (is_above 32 width) (λ narrow.
      refused_or _ 4 _ (fits_or_not (codes kind values) width are_words) (λ fit.
      let (bytes, are_bytes, layout, one) = one_layout_bytes lanes width (codes kind values) some
      (as_many_codes kind values ∙ same_from (length values) (32 * lanes) block) (fits_at_least (codes kind values) width are_words fit) in
      (printed_bytes bytes, record { thing = bytes; fact = (are_bytes, layout); answer_is = refl }))))
  reply_of few (Unpack kind width bytes) is_kind =
      refused_or _ 3 _ (is_above 32 width) (λ narrow.
      refused_or _ 5 _ (is_other (length bytes) (size lanes width)) (λ room.
      let words : List ℕ = codes_of lanes width bytes in
      let (layout, one) = one_layout_codes lanes width bytes (same_from (length bytes) (size lanes width) room) in
      let are_words = words_from_fits words width (narrow_width width narrow) layout.fits in
      let (are_values, codes_are, only_block) = one_block kind words is_kind are_words in
      (printed_values (values_of kind words), record { thing = values_of kind words; fact = (are_values, subst (λ c. Layout lanes width c bytes) (sym codes_are) layout); answer_is = refl })))
  reply_of few (Enc kind values) (words, short) = encoded_of lanes kind values some few words short
  reply_of few (Dec bytes) are_bytes = decoded_of lanes bytes some are_bytes
  reply_of few (Seek target bytes) are_bytes = sought_of lanes target bytes some are_bytes
  reply_of few (Upgrade bytes) are_bytes = upgraded_of lanes bytes some few are_bytes

  same_packed : (width : ℕ) (kind : Kind) (values a b : List ℕ) → PrintsBytes (Holds lanes width kind values) a → PrintsBytes (Holds lanes width kind values) b → a ≡ b
  same_packed width kind values a b first second =
      let (bytes, are_bytes, layout, one) = one_layout_bytes lanes width (codes kind values) some first.fact.1.code_count first.fact.1.fits in
      first.answer_is ∙ ap printed_bytes (one first.thing first.fact.0 first.fact.1 ∙ sym (one second.thing second.fact.0 second.fact.1)) ∙ sym second.answer_is

  -- the block that the bytes hold
  abbrev IsBlock : ℕ → Kind → List ℕ → List ℕ → Type 0
  IsBlock width kind bytes block = AreWords block × Holds lanes width kind block bytes

  same_unpacked : (width : ℕ) (kind : Kind) (bytes a b : List ℕ) → width ≤ 32 → IsWord (start kind) → Prints printed_values (IsBlock width kind bytes) a → Prints printed_values (IsBlock width kind bytes) b → a ≡ b
  same_unpacked width kind bytes a b narrow is_kind first second =
      let words : List ℕ = codes_of lanes width bytes in
      let (layout, one) = one_layout_codes lanes width bytes first.fact.1.byte_count in
      let are_words = words_from_fits words width narrow layout.fits in
      let (are_values, codes_are, only_block) = one_block kind words is_kind are_words in
      first.answer_is ∙ ap printed_values (only_block first.thing first.fact.0 (one (codes kind first.thing) first.fact.1) ∙ sym (only_block second.thing second.fact.0 (one (codes kind second.thing) second.fact.1))) ∙ sym second.answer_is

  same_width : (kind : Kind) (values a b : List ℕ) → AreWords values → Prints decimal (IsWidth kind values) a → Prints decimal (IsWidth kind values) b → a ≡ b
  same_width kind values a b words first second =
      let (width, low, least, one) = one_least_width (codes kind values) (codes_are_words kind values words) in
      first.answer_is ∙ ap decimal (one first.thing first.fact ∙ sym (one second.thing second.fact)) ∙ sym second.answer_is

  same_reply : (request : Request) → IsInRange request → (a b : List ℕ) → IsReply lanes request a → IsReply lanes request b → a ≡ b
  same_reply (Size width) range = λ a b is_a is_b. is_a ∙ sym is_b
  same_reply (Width kind values) (is_kind, (words, short)) = same_refusal _ 2 _ (λ block a b. same_width kind values a b words)
  same_reply (Pack kind width values) range =
      same_refusal _ 2 _ (λ block. same_refusal _ 3 _ (λ narrow. same_refusal _ 4 _ (λ fit. same_packed width kind values)))
  same_reply (Unpack kind width bytes) is_kind =
      same_refusal _ 3 _ (λ narrow. same_refusal _ 5 _ (λ room a b. same_unpacked width kind bytes a b (narrow_width width narrow) is_kind))
  same_reply (Enc kind values) range = λ a b. same_encoded lanes kind values a b some
  same_reply (Dec bytes) small = λ a b. same_decoded lanes bytes (older_fault lanes bytes) a b some small
  same_reply (Seek target bytes) small = λ a b. same_sought lanes target bytes (fault2 lanes bytes) a b some small
  same_reply (Upgrade bytes) range = λ a b. same_upgraded lanes bytes (fault1 lanes bytes) a b some

-- ---- answers

reply_to : (line : List ℕ) (found : Search (λ (asked : PackerName × Request). Spells line asked.0 asked.1)) → (answer : List ℕ) × RefusedIf (SpellsNone line) 1 (IsReplied line) answer
reply_to line (None, none) = (refused 1, Refused (λ packer request spells. none (packer, request) spells) refl)
reply_to line (Some asked, spells) =
    let (answer, replies) = reply_of (lanes_of asked.0) (some_lanes asked.0) (few_lanes asked.0) asked.1 (in_range line asked.0 asked.1 spells) in
    (answer, Passed (λ none. none asked.0 asked.1 spells) (record { packer = asked.0; request = asked.1; spelled = spells; replied = replies }))

pub answer_of : (line : List ℕ) → (answer : List ℕ) × IsAnswer line answer
unfolding IsAnswer
answer_of line = refused_or _ 6 _ (is_above 65536 (length line)) (λ short. reply_to line (find_line line))

same_replied : (line a b : List ℕ) → IsReplied line a → IsReplied line b → a ≡ b
same_replied line a b first second =
    let (packers, requests) = one_command line first.packer second.packer first.request second.request first.spelled second.spelled in
    let moved : IsReply (lanes_of first.packer) first.request b =
    subst (λ p. IsReply (lanes_of p) first.request b) (sym packers) (subst (λ r. IsReply (lanes_of second.packer) r b) (sym requests) second.replied) in
    same_reply (lanes_of first.packer) (some_lanes first.packer) first.request (in_range line first.packer first.request first.spelled) a b first.replied moved

pub same_answer : (line a b : List ℕ) → IsAnswer line a → IsAnswer line b → a ≡ b
unfolding IsAnswer
same_answer line a b = same_refusal _ 6 _ (λ short. same_refusal _ 1 _ (λ some. same_replied line)) a b

pub one_answer : OneAnswer
one_answer line = let (answer, answers) = answer_of line in (answer, answers, λ other also. same_answer line other answer also answers)

-- ---- a line that is too long is answered by its first bytes

same_when_long : (line_prefix line answer : List ℕ) → 65536 < length line_prefix → 65536 < length line → IsAnswer line_prefix answer → IsAnswer line answer
unfolding IsAnswer
same_when_long line_prefix line answer long_prefix long (Refused fault is) = Refused long is
same_when_long line_prefix line answer long_prefix long (Passed short replies) = absurd (short long_prefix)

first_bytes : (n : ℕ) (line answer : List ℕ) → n ≡ 65537 → IsAnswer (take n line) answer → IsAnswer line answer
first_bytes n line answer is answers = elim (cases_lt 65536 (length line)) [
  | inl long ↦ same_when_long (take n line) line answer (omega (arith, length-take-le n line (omega arith))) long answers
  | inr short ↦ subst (λ l. IsAnswer l answer) (take_all n line (omega arith)) answers
]

-- the answer to the prefix of a line is the answer to the line
pub answer-line_prefix : (line answer : List ℕ) → IsAnswer (line_prefix line) answer → IsAnswer line answer
unfolding line_prefix
answer-line_prefix line answer = first_bytes 65537 line answer refl
