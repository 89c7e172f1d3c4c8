-- A filled block and later values: their sizes, their widths and their encodings.
use Rattle.std.proofs.Common.{◌≡◌, ℕ, ◌+◌, ◌*◌, ◌/◌, ◌<◌, List, ◌++◌, length, get_or, take, sym, ap, ◌∙◌, arith}
use Rattle.std.proofs.lemmas.List.{get_or-take}
use Rattle.bitpack_columns.specs.declared.column_kind.ColumnKind.{ColumnKind}
use Rattle.bitpack_columns.specs.Columns.{sum_to}
use Rattle.bitpack_columns.specs.Measured.{AreWidths, bodies_encoding, ends_encoding, marks_encoding, width_after}
use Rattle.bitpack_columns.proofs.SplitLaws.{IsSplit, bodies_split, ends_split, filled_split, marks_split, sum_back, width_front}
use Rattle.bitpack_columns.proofs.SumLaws.{sum_more, sum_none}

one_more : (f : ℕ → ℕ) → sum_to f 1 ≡ f 0
one_more f = (let a = sum_more f 0 in let b = sum_none f in omega (arith, a, b))

times_more : (size n j : ℕ) → n ≡ 1 + j → size * n ≡ size + size * j
times_more size n j e = ap (λ (i : ℕ). size * i) e ∙ omega arith

module _ (kind : ColumnKind) (before : ℕ) (filled later : List ℕ) (long : length filled ≡ 128) where
  is_split : IsSplit kind before filled later (filled ++ later) 1 (get_or filled 127 0)
  is_split = filled_split kind before filled later long

  pub both_blocks : length (filled ++ later) / 128 ≡ 1 + length later / 128
  both_blocks = is_split.blocks_are

  -- the room of the entries
  pub both_room : (size : ℕ) → size * (length (filled ++ later) / 128) ≡ size + size * (length later / 128)
  both_room size = times_more size (length (filled ++ later) / 128) (length later / 128) both_blocks

  -- the room of the bodies
  pub one_sum : sum_to (width_after kind before filled) (length filled / 128) ≡ width_after kind before filled 0
  one_sum = (let e : length filled / 128 ≡ 1 = omega (arith, long) in ap (sum_to (width_after kind before filled)) e ∙ one_more (width_after kind before filled))

  pub both_sum : sum_to (width_after kind before (filled ++ later)) (length (filled ++ later) / 128)
      ≡ width_after kind before filled 0 + sum_to (width_after kind (get_or filled 127 0) later) (length later / 128)
  both_sum =
      ap (sum_to (width_after kind before (filled ++ later))) both_blocks
      ∙ sum_back kind before filled later (filled ++ later) 1 (get_or filled 127 0) is_split (length later / 128)
      ∙ ap (λ (n : ℕ). n + sum_to (width_after kind (get_or filled 127 0) later) (length later / 128)) (one_more (width_after kind before filled))

  -- the width of the filled block, which is cached
  pub first_width : (widths : List ℕ) → AreWidths kind before (filled ++ later) widths → 0 < length widths → get_or widths 0 0 ≡ width_after kind before filled 0
  first_width widths cached some =
      cached.each 0 (omega (arith, both_blocks)) some ∙ width_front kind before filled later (filled ++ later) 1 (get_or filled 127 0) is_split 0 (omega arith)

  pub taken_width : (widths one : List ℕ) → one ≡ take 1 widths → AreWidths kind before (filled ++ later) widths → 0 < length widths
      → get_or one 0 0 ≡ width_after kind before filled 0
  taken_width widths one e cached some = ap (λ (l : List ℕ). get_or l 0 0) e ∙ get_or-take 1 widths 0 0 (omega arith) ∙ first_width widths cached some

  -- the encodings, end to end
  pub both_ends : (size start width : ℕ) (one more : List ℕ) → width ≡ width_after kind before filled 0 → one ≡ ends_encoding kind before filled size start
      → more ≡ ends_encoding kind (get_or filled 127 0) later size (start + width) → one ++ more ≡ ends_encoding kind before (filled ++ later) size start
  both_ends size start width one more w a b =
      ap (λ (l : List ℕ). l ++ more) a
      ∙ ap (λ (l : List ℕ). ends_encoding kind before filled size start ++ l)
      (b ∙ ap (λ (n : ℕ). ends_encoding kind (get_or filled 127 0) later size (start + n)) (w ∙ sym (one_more (width_after kind before filled))))
      ∙ sym (ends_split kind before filled later (filled ++ later) 1 (get_or filled 127 0) is_split size start)

  pub both_marks : (size : ℕ) (one more : List ℕ) → one ≡ marks_encoding kind before filled size → more ≡ marks_encoding kind (get_or filled 127 0) later size
      → one ++ more ≡ marks_encoding kind before (filled ++ later) size
  both_marks size one more a b =
      ap (λ (l : List ℕ). l ++ more) a ∙ ap (λ (l : List ℕ). marks_encoding kind before filled size ++ l) b
      ∙ sym (marks_split kind before filled later (filled ++ later) 1 (get_or filled 127 0) is_split size)

  pub both_bodies : (one more : List ℕ) → one ≡ bodies_encoding kind before filled → more ≡ bodies_encoding kind (get_or filled 127 0) later
      → one ++ more ≡ bodies_encoding kind before (filled ++ later)
  both_bodies one more a b =
      ap (λ (l : List ℕ). l ++ more) a ∙ ap (λ (l : List ℕ). bodies_encoding kind before filled ++ l) b
      ∙ sym (bodies_split kind before filled later (filled ++ later) 1 (get_or filled 127 0) is_split)
