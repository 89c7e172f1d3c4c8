-- What the proofs of other crates may cite: the laws as lemmas, whose types are words of specs/Laws.antt, and after them a few facts on
-- lists of words and of bytes; and two steps of proofs by hand.
use Rattle.std.proofs.Common.{ℕ, ◌^◌, ◌<◌, List, Fits, get_or, length, sym, ◌∙◌, ap, arith, inl, inr, w8, w32}
use Rattle.std.proofs.lemmas.Bool.{cases_lt}
use Rattle.std.proofs.lemmas.List.{get_or-drop, get_or_past}
use Rattle.std.proofs.lemmas.List.Elements.{All-from_get_or}
use Rattle.bitpacking.specs.Bits.{AreBytes}
use Rattle.bitpacking.specs.Codes.{AreWords, values_of}
use Rattle.bitpacking.specs.Words.{joined, word}
use Rattle.bitpacking.specs.Laws.{OneLayoutPlaces, OneLayoutBytes, OneLayoutCodes, AsManyCodes, CodesAreWords, OneBlock, OneLeastWidth, SameLeastWidth, FitsGreater, NoneIsTheLastNumber, LanesAreOneLaneLayouts, WordsAreLittleEndian, WordsReadBack}
use Rattle.bitpacking.proofs.BitPlaces.{code_of, offset_of, of_place, place_of}
use Rattle.bitpacking.specs.Layout.{codes_of}
use Rattle.bitpacking.proofs.OneToOne.{bytes_of, bytes_of-bytes, Layout-bytes_of, same_bytes-from_layout, Layout-codes_of, same_codes-from_layout}
use Rattle.bitpacking.proofs.Blocks.{AreWords-values_of, AreWords-codes, codes-values_of, length-codes, same_block, codes-none}
use Rattle.bitpacking.proofs.OneLaneLayouts.{layout-lane}
use Rattle.bitpacking.proofs.RegisterLemmas.{word-bytes_of_words}
use Rattle.bitpacking.proofs.Widths.{least_width, Least-same, Fits-more}
pub use Rattle.bitpacking.proofs.Facts.{with_fact, with_last_fact}
pub use Rattle.bitpacking.proofs.OrderLemmas.{strict_saves_at_most_a_bit, sorted_codes_are_differences}
pub use Rattle.bitpacking.proofs.RoundTrips.{bytes_hold_one_block, block_has_one_list, blocks_share_no_bytes, equal_packed_buffers, equal_unpacked_values}
pub use Rattle.bitpacking.proofs.FrontWords.{AreBytes-take}
pub use Rattle.bitpacking_register.proofs.ForCallers.{bytes_of_words_more, length-bytes_of_words}

pub one_layout_places : OneLayoutPlaces
one_layout_places lanes width t some ht =
    let found = place_of lanes width t some ht in (
      code_of lanes width t,
      offset_of lanes width t,
      found.0,
      found.1,
      found.2,
      λ k' j' hk hj e.
          let back = of_place lanes width k' j' some hj in
          (sym back.0 ∙ ap (code_of lanes width) e, sym back.1 ∙ ap (offset_of lanes width) e),
    )

pub one_layout_bytes : OneLayoutBytes
one_layout_bytes lanes width values some len fits = (
  bytes_of lanes width values,
  bytes_of-bytes lanes width values,
  Layout-bytes_of lanes width values some len fits,
  λ others small layout. same_bytes-from_layout lanes width values others (bytes_of lanes width values) some small
      (bytes_of-bytes lanes width values) layout (Layout-bytes_of lanes width values some len fits),
)

pub one_layout_codes : OneLayoutCodes
one_layout_codes lanes width bytes len = (
  Layout-codes_of lanes width bytes len,
  λ others layout. same_codes-from_layout lanes width others (codes_of lanes width bytes) bytes layout
      (Layout-codes_of lanes width bytes len),
)

pub lanes_are_one_lane_layouts : LanesAreOneLaneLayouts
lanes_are_one_lane_layouts = layout-lane

pub as_many_codes : AsManyCodes
as_many_codes = length-codes

pub codes_are_words : CodesAreWords
codes_are_words = AreWords-codes

pub one_block : OneBlock
one_block kind words small are = (
  AreWords-values_of kind words are,
  codes-values_of kind words small are,
  λ others are' e. same_block kind others (values_of kind words) are' (AreWords-values_of kind words are)
      (e ∙ sym (codes-values_of kind words small are)),
)

pub one_least_width : OneLeastWidth
one_least_width words small =
    let found = least_width words small in
    (found.0, found.1, found.2, λ other least. Least-same words other found.0 least found.2)

pub same_least_width : SameLeastWidth
same_least_width codes width other least also = Least-same codes other width also least

pub fits_greater : FitsGreater
fits_greater words width greater le fits = Fits-more words width greater le fits

pub none_is_the_last_number : NoneIsTheLastNumber
none_is_the_last_number block = codes-none block

pub words_are_little_endian : WordsAreLittleEndian
unfolding word joined
words_are_little_endian bytes q = simp get_or-drop (omega arith)

pub words_read_back : WordsReadBack
words_read_back words q are_words lt =
    word-bytes_of_words words q (λ l. elim (cases_lt l (length words)) [
      | inl within ↦ are_words l 0 within
      | inr past ↦ rw (get_or_past words l 0 past) (omega arith)
    ]) lt

-- ---- what is known of a slice

pub AreWords-from_slice : (values : List ℕ) → ((k : ℕ) → Fits w32 (get_or values k 0)) → AreWords values
AreWords-from_slice values fit = All-from_get_or (λ v. v < 2 ^ 32) values 0 (λ k lt. (fit k).fits)

pub AreBytes-from_slice : (bytes : List ℕ) → ((k : ℕ) → Fits w8 (get_or bytes k 0)) → AreBytes bytes
AreBytes-from_slice bytes fit k = (fit k).fits
