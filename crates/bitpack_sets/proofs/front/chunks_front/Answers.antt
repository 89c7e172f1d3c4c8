-- The head of a set in chunks says where its bodies end.
use Rattle.std.proofs.Common.{◌≡◌, ◌+◌, ◌-◌, ◌≤◌, ℕ, List, None, Option, Some, arith, ap, drop, length, refl, subst, sym, take, ◌∙◌}
use Rattle.std.proofs.lemmas.List.{take_rest}
use Rattle.bitpacking.proofs.ForCallers.{AreBytes-from_slice}
use Rattle.bitpacking.specs.Bits.{AreBytes}
use Rattle.bitpack_sets.proofs.lemmas.encodings.EncodingLaws.{some_not_none}
use Rattle.bitpack_sets.proofs.lemmas.faults.HeadLaws.{ChunksHead, chunks_head}
use Rattle.bitpack_sets.specs.Directory.{bodies_end}
use Rattle.bitpack_sets.specs.Faults.{chunk_count_fault, in_chunks_fault}
use Rattle.bitpack_sets.specs.Varints.{number_end, number_value}
use Rattle.bitpack_sets.proofs.front.chunks_front.Goals as goal

abbrev found : Option ℕ → ℕ
found None = 0
found (Some n) = n

-- what is after an end, as it is cut
abbrev cut : List ℕ → ℕ → List ℕ
cut bytes end = take (length bytes - end) (drop end bytes)

cut_at : (bytes : List ℕ) (end : ℕ) → end ≡ number_end bytes → drop (number_end bytes) bytes ≡ cut bytes end
cut_at bytes end e = sym (take_rest bytes end ∙ ap (λ (n : ℕ). drop n bytes) e)

head_at : (n end next : ℕ) (bytes : List ℕ) → AreBytes bytes → n ≤ length bytes → in_chunks_fault (take n bytes) ≡ None → end ≡ number_end bytes → next ≡ number_end (cut bytes end)
    → ChunksHead n bytes (cut bytes end) (cut (cut bytes end) next)
head_at n end next bytes are le none e f =
    subst (ChunksHead n bytes (cut bytes end)) (cut_at (cut bytes end) next f)
    (subst (λ (l : List ℕ). ChunksHead n bytes l (drop (number_end l) l)) (cut_at bytes end e) (chunks_head n bytes are le none))

pub returns-in_default-clause-front : goal.returns-in_default-clause-front
returns-in_default-clause-front c n le none =
    let head = chunks_head n c.args.bytes.now (AreBytes-from_slice c.args.bytes.now c.type_inv.bytes) le none in
    absurd (some_not_none _ (sym c.in_default.ensures.fault ∙ head.count))

pub returns-in_default-open_chunk_count-clause-front : goal.returns-in_default-open_chunk_count-clause-front
returns-in_default-open_chunk_count-clause-front c n le none =
    let bytes : List ℕ = c.args.bytes.now in
    let later : List ℕ = cut bytes c.in-Ok.end in
    let head = head_at n c.in-Ok.end (number_end later) bytes (AreBytes-from_slice bytes c.type_inv.bytes) le none c.in-Ok.ensures.end.0 refl in
    absurd (some_not_none _ (sym c.in_default-open_chunk_count.ensures.fault ∙ ap (λ (ids : ℕ). chunk_count_fault ids later) c.in-Ok.ensures.value.0 ∙ head.chunks))

pub returns-in_default-directory_front-clause-front : goal.returns-in_default-directory_front-clause-front
returns-in_default-directory_front-clause-front c n le none =
    let bytes : List ℕ = c.args.bytes.now in
    let rest : List ℕ = cut (cut bytes c.in-Ok.end) c.in-Ok-open_chunk_count.next in
    let head = head_at n c.in-Ok.end c.in-Ok-open_chunk_count.next bytes (AreBytes-from_slice bytes c.type_inv.bytes) le none c.in-Ok.ensures.end.0 c.in-Ok-open_chunk_count.ensures.end.0 in
    let within = subst (λ (chunks : ℕ). bodies_end chunks rest ≤ length rest) (sym c.in-Ok-open_chunk_count.ensures.value.0) head.within in
    absurd (some_not_none _ (sym (c.in_default-directory_front.ensures.front head.sizes within)))

pub returns-clause-front : goal.returns-clause-front
returns-clause-front c n le none =
    let bytes : List ℕ = c.args.bytes.now in
    let chunks : ℕ = c.in-Ok-open_chunk_count.chunks in
    let rest : List ℕ = cut (cut bytes c.in-Ok.end) c.in-Ok-open_chunk_count.next in
    let head = head_at n c.in-Ok.end c.in-Ok-open_chunk_count.next bytes (AreBytes-from_slice bytes c.type_inv.bytes) le none c.in-Ok.ensures.end.0 c.in-Ok-open_chunk_count.ensures.end.0 in
    let same = c.in-Ok-open_chunk_count.ensures.value.0 in
    let within = subst (λ (k : ℕ). bodies_end k rest ≤ length rest) (sym same) head.within in
    let len : c.in-Some.len ≡ bodies_end chunks rest = ap found (c.in-Some.ensures.front head.sizes within) in
    let bodies : bodies_end chunks rest ≡ bodies_end (number_value (cut bytes c.in-Ok.end)) rest = ap (λ (k : ℕ). bodies_end k rest) same in
    let e : c.in-Ok.end + c.in-Ok-open_chunk_count.next + c.in-Some.len ≡ n = omega (arith, len, bodies, head.end, c.in-Ok.ensures.end.0, c.in-Ok-open_chunk_count.ensures.end.0) in
    ap (λ (k : ℕ). Some (k + 1)) e
