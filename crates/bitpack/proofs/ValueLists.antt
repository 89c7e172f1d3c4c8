-- Values are read item by item.
use Rattle.std.proofs.Common.{◌≡◌, ◌≢◌, ℕ, ◌+◌, ◌≤◌, ◌<◌, List, [], ◌∷◌, ◌++◌, length, drop, map, codes, refl, sym, ap, subst, ◌∙◌, arith, append_assoc, append-nil, length-append, eq-eqb, get_or, inl, inr, false, ◌==◌}
use Rattle.std.specs.Prelude.{All}
use Rattle.std.specs.List.{flat_map, join_with_byte, slice_split}
use Rattle.std.proofs.lemmas.List.Elements.{All-cons, All-head, All-nil, All-tail}
use Rattle.std.proofs.lemmas.List.Splits.{join_with_byte-slice_split, length-slice_split, slice_split_at, slice_split_none}
use Rattle.std.proofs.lemmas.List.{drop_all, drop_more, get_or_default}
use Rattle.std.proofs.lemmas.Bool.Decides.{eqb_tells}
use Rattle.bitpack.specs.declared.line.values.Item.{Item}
use Rattle.bitpack.specs.Grammar.{IsItem, SpellsValues, item_string, item_values, items_string}
use Rattle.bitpack.specs.inner.Found.{AddsItem, SpellsItem}
use Rattle.bitpack.proofs.Cuts.{Lacks}
use Rattle.bitpack.proofs.Items.{Lacks-item, same_item}

-- ---- strings between bytes

-- strings that lack the byte are what they are split into when joined by it
lacks_test : (byte : ℕ) (string : List ℕ) → Lacks byte string → All (λ b. (b == byte) ≡ false) string
lacks_test byte string lacks k d h =
    elim (eqb_tells (get_or string k d) byte) [
      | inl (_, e) ↦ absurd (lacks k h (get_or_default string k 0 d h ∙ e))
      | inr (isnt, _) ↦ isnt
    ]

pub split-join : (byte : ℕ) (string : List ℕ) (strings : List (List ℕ)) → All (Lacks byte) (string ∷ strings) → slice_split (λ b. b == byte) (join_with_byte byte (string ∷ strings)) ≡ string ∷ strings
split-join byte string [] lacks = slice_split_none (λ b. b == byte) string (lacks_test byte string (All-head (Lacks byte) string [] lacks))
split-join byte string (next ∷ strings) lacks =
    slice_split_at (λ b. b == byte) string byte (join_with_byte byte (next ∷ strings)) (lacks_test byte string (All-head (Lacks byte) string (next ∷ strings) lacks)) (eq-eqb byte byte refl)
    ∙ ap (λ l. string ∷ l) (split-join byte next strings (All-tail (Lacks byte) string (next ∷ strings) lacks))

-- ---- values, item after item

-- after these values, the strings give all of them
abbrev pub Gathers : List (List ℕ) → List ℕ → List ℕ → Type 0
Gathers [] values all = (all ≡ values) × (length all ≤ 65536)
Gathers (string ∷ strings) values all = (item : Item) × SpellsItem string item × Gathers strings (values ++ item_values item) all

pub gathers_few : (strings : List (List ℕ)) (values all : List ℕ) → Gathers strings values all → (length values ≤ length all) × (length all ≤ 65536)
gathers_few [] values all (same, few) = (omega (arith, ap length same), few)
gathers_few (string ∷ strings) values all (item, spelled, rest) =
    let (more, few) = gathers_few strings (values ++ item_values item) all rest in
    (omega (arith, length-append values (item_values item)), few)

-- the items that were read
pub record Gathered (strings : List (List ℕ)) (values all : List ℕ) : Type 0 where
  pub items : List Item
  pub are_items : All IsItem items
  pub strings_are : strings ≡ map item_string items
  pub all_is : all ≡ values ++ flat_map item_values items
  pub few : length all ≤ 65536

pub gathered : (strings : List (List ℕ)) (values all : List ℕ) → Gathers strings values all → Gathered strings values all
gathered [] values all (same, few) = record { items = []; are_items = All-nil IsItem; strings_are = refl; all_is = same ∙ sym (append-nil values); few = few }
gathered (string ∷ strings) values all (item, (spelled, is_item), rest) =
    let more = gathered strings (values ++ item_values item) all rest in
    record {
      items = item ∷ more.items;
      are_items = All-cons IsItem item more.items is_item more.are_items;
      strings_are = cc (spelled, more.strings_are);
      all_is = more.all_is ∙ append_assoc values (item_values item) (flat_map item_values more.items);
      few = more.few;
    }

pub gathers : (items : List Item) (values all : List ℕ) → All IsItem items → all ≡ values ++ flat_map item_values items → length all ≤ 65536 → Gathers (map item_string items) values all
gathers [] values all are_items same few = (same ∙ append-nil values, few)
gathers (item ∷ items) values all are_items same few = (
  item,
  (refl, All-head IsItem item items are_items),
  gathers items (values ++ item_values item) all (All-tail IsItem item items are_items) (same ∙ sym (append_assoc values (item_values item) (flat_map item_values items))) few,
)

-- the first n strings gave the values, and the others give the rest
pub record IsRead (strings : List (List ℕ)) (n : ℕ) (values : List ℕ) : Type 0 where
  pub few : length values ≤ 65536
  pub forth : (all : List ℕ) → Gathers (drop n strings) values all → Gathers strings [] all
  pub back : (all : List ℕ) → Gathers strings [] all → Gathers (drop n strings) values all

module _ (strings : List (List ℕ)) (n : ℕ) (values : List ℕ) (before : IsRead strings n values) where
  next_string : (string : List ℕ) → n < length strings → string ≡ get_or strings n string → drop n strings ≡ string ∷ drop (n + 1) strings
  next_string string more is = drop_more strings n string more ∙ ap (λ t. t ∷ drop (n + 1) strings) (sym is)

  pub reads_on : (string new : List ℕ) (m : ℕ) → n < length strings → string ≡ get_or strings n string → m ≡ n + 1 → AddsItem string values new → IsRead strings m new
  reads_on string new m more is one adds =
      let split = next_string string more is in
      record {
        few = adds.few;
        forth = λ all rest. before.forth all (subst (λ ts. Gathers ts values all) (sym split) (adds.item, adds.spelled, subst (λ vs. Gathers (drop (n + 1) strings) vs all) adds.added (subst (λ k. Gathers (drop k strings) new all) one rest)));
        back = λ all whole.
            let (item, spelled, rest) = subst (λ ts. Gathers ts values all) split (before.back all whole) in
            let same = same_item string item adds.item spelled adds.spelled in
            subst (λ k. Gathers (drop k strings) new all) (sym one) (subst (λ vs. Gathers (drop (n + 1) strings) vs all) (ap (λ i. values ++ item_values i) same ∙ sym adds.added) rest);
      }

  -- a string that adds nothing ends it
  pub stops_at : (string : List ℕ) → n < length strings → string ≡ get_or strings n string → ((new : List ℕ) → AddsItem string values new → ⊥) → (all : List ℕ) → Gathers strings [] all → ⊥
  stops_at string more is none all whole =
      let (item, spelled, rest) = subst (λ ts. Gathers ts values all) (next_string string more is) (before.back all whole) in
      let (le, few) = gathers_few (drop (n + 1) strings) (values ++ item_values item) all rest in
      none (values ++ item_values item) (record { item = item; spelled = spelled; added = refl; few = omega arith })

  pub reads_all : length strings ≤ n → Gathers strings [] values
  reads_all end = before.forth values (subst (λ ts. Gathers ts values values) (sym (drop_all n strings end)) (refl, before.few))

pub read_none : (strings : List (List ℕ)) → IsRead strings 0 []
read_none strings = record { few = omega arith; forth = λ all rest. rest; back = λ all whole. whole }

-- ---- the strings between commas

abbrev pub between_commas : List ℕ → List (List ℕ)
between_commas string = slice_split (λ b. b == 44) string

All-lacks : (items : List Item) → All IsItem items → All (Lacks 44) (map item_string items)
All-lacks [] are_items = All-nil (Lacks 44)
All-lacks (item ∷ items) are_items =
    All-cons (Lacks 44) (item_string item) (map item_string items)
    (Lacks-item 44 (λ digit. omega arith) (λ e. omega arith) item (All-head IsItem item items are_items))
    (All-lacks items (All-tail IsItem item items are_items))

pub spelled_gathers : (string all : List ℕ) → string ≢ codes "-" → SpellsValues string all → Gathers (between_commas string) [] all
spelled_gathers string all dash spelled = from_items spelled.items spelled.are_items spelled.string_is spelled.values_are
  where
    from_items : (items : List Item) → All IsItem items → string ≡ items_string items → all ≡ flat_map item_values items → Gathers (between_commas string) [] all
    from_items [] are_items string_is values_are = absurd (dash string_is)
    from_items (item ∷ items) are_items string_is values_are =
        let parts : between_commas string ≡ map item_string (item ∷ items) = ap between_commas string_is ∙ split-join 44 (item_string item) (map item_string items) (All-lacks (item ∷ items) are_items) in
        subst (λ strings. Gathers strings [] all) (sym parts) (gathers (item ∷ items) [] all are_items values_are spelled.few)

pub gathers_spelled : (string all : List ℕ) → Gathers (between_commas string) [] all → SpellsValues string all
gathers_spelled string all h =
    let g = gathered (between_commas string) [] all h in
    from_items g.items g.are_items g.strings_are g.all_is g.few
  where
    from_items : (items : List Item) → All IsItem items → between_commas string ≡ map item_string items → all ≡ flat_map item_values items → length all ≤ 65536 → SpellsValues string all
    from_items [] are_items parts all_is few = absurd (omega (arith, ap length parts, length-slice_split (λ b. b == 44) string))
    from_items (item ∷ items) are_items parts all_is few = record {
      items = item ∷ items;
      are_items = are_items;
      string_is = sym (join_with_byte-slice_split 44 string) ∙ ap (join_with_byte 44) parts;
      values_are = all_is;
      few = few;
    }
