-- The worked lists, by computing.
-- Serves worked_encodings.
use Rattle.std.proofs.Common.{◌≡◌, [], ◌∷◌, ◌++◌, ◌+◌, ◌*◌, ◌%◌, ◌^◌, ◌≤◌, ℕ, false, true, List, length, refl}
use Rattle.std.specs.List.{list_all}
use Rattle.std.specs.Prelude.{nat_lt}
use Rattle.std.proofs.lemmas.Bool.{both_ways, ltb-false}
use Rattle.bitpacking.specs.declared.kind.Kind.{Kind}
use Rattle.bitpacking.specs.Codes.{AreWords, codes}
use Rattle.bitpacking.specs.Layout.{Layout, codes_of, place, size}
use Rattle.bitpacking.specs.Words.{joined, word}
use Rattle.bitpacking.proofs.ForCallers.{one_layout_codes}
use Rattle.bitpack_lists.specs.Parts.{header, header_fault, is_loose, value_in_parts}
use Rattle.bitpack_lists.specs.Version1.{IsPart1, block_fault1, blocks_fault1, body_fault1, fault1}
use Rattle.bitpack_lists.specs.Version2.{block_fault2, entry_fault2, fault2, first_fault, least_below, rest_fault2}
use Rattle.bitpack_lists.specs.WorkedEncodings.{WorkedEncodings1, WorkedEncodings2, WorkedFaults1, WorkedFaults2, listed}
use Rattle.bitpack_lists.proofs.lemmas.blocks.LooseLemmas.{Decides-fits, Decides-loose}

words-from_test : (values : List ℕ) → list_all (λ value. nat_lt value (2 ^ 32)) values ≡ true → AreWords values
words-from_test values test = (Decides-fits values 32).0 test

-- A width and a body whose codes are those of the block, and fit no smaller width.
part-from_bytes : (width : ℕ) (kind : Kind) (block body : List ℕ) → length body ≡ size 1 width → codes_of 1 width body ≡ codes kind block
    → is_loose 1 width body ≡ false → IsPart1 1 kind block (width ∷ body)
part-from_bytes width kind block body long same tight =
    let layout : Layout 1 width (codes kind block) body = rw same at (one_layout_codes 1 width body long).0 in
    record {
      width = width;
      body = body;
      least = record {
        fits = layout.fits;
        least = λ smaller lt fits. both_ways (is_loose 1 width body) tight ((Decides-loose 1 width (codes kind block) body layout).1 (smaller, lt, fits));
      };
      holds = layout;
      parts = refl;
    }

pub worked_encodings1 : WorkedEncodings1
unfolding header codes_of place joined is_loose
worked_encodings1 =
    let begins : (n : ℕ) → nat_lt (2 ^ 28) n ≡ false → n ≤ 2 ^ 28 = λ n test. ltb-false (2 ^ 28) n test in
    let ones : List ℕ = 0xFF ∷ 0xFF ∷ 0xFF ∷ 0xFF ∷ [] in
    let twos : List ℕ = 0xAA ∷ 0xAA ∷ 0xAA ∷ 0xAA ∷ 0xAA ∷ 0xAA ∷ 0xAA ∷ 0xAA ∷ [] in
    let threes : List ℕ = 0x88 ∷ 0xC6 ∷ 0xFA ∷ 0x88 ∷ 0xC6 ∷ 0xFA ∷ 0x88 ∷ 0xC6 ∷ 0xFA ∷ 0x88 ∷ 0xC6 ∷ 0xFA ∷ [] in (
      record {
        words = words-from_test (listed (λ i. i) 33) refl;
        begins = record { few = begins 33 refl; front = refl };
        blocks = (0 ∷ [], _, refl, part-from_bytes 0 _ _ [] refl refl refl, refl);
      },
      record { words = words-from_test (5 ∷ 9 ∷ 9 ∷ []) refl; begins = record { few = begins 3 refl; front = refl }; blocks = refl },
      record {
        words = words-from_test (listed (λ i. i % 8) 32) refl;
        begins = record { few = begins 32 refl; front = refl };
        blocks = (3 ∷ threes, _, refl, part-from_bytes 3 _ _ threes refl refl refl, refl);
      },
      record {
        words = words-from_test (listed (λ i. i + 1) 32 ++ listed (λ i. 34 + 2 * i) 32) refl;
        begins = record { few = begins 64 refl; front = refl };
        blocks = (
          1 ∷ ones,
          _,
          refl,
          part-from_bytes 1 _ _ ones refl refl refl,
          (2 ∷ twos, _, refl, part-from_bytes 2 _ _ twos refl refl refl, refl),
        );
      },
    )

pub worked_encodings2 : WorkedEncodings2
unfolding fault2 header_fault rest_fault2 first_fault entry_fault2 block_fault2 is_loose word value_in_parts codes_of place joined least_below
worked_encodings2 = ((refl, refl, refl), (refl, refl, refl), (refl, refl, refl), (refl, refl, refl))

pub worked_faults1 : WorkedFaults1
unfolding fault1 header_fault body_fault1 blocks_fault1 block_fault1 is_loose word codes_of place joined
worked_faults1 = (refl, refl, refl, refl, refl, refl, refl, refl, refl, refl, refl, refl, refl, refl, refl)

pub worked_faults2 : WorkedFaults2
unfolding fault2 header_fault rest_fault2 first_fault entry_fault2 block_fault2 is_loose word value_in_parts codes_of place joined least_below
worked_faults2 = (refl, refl, refl, refl, refl, refl, refl, refl, refl, refl, refl, refl, refl)
