-- What the set at the front is, by byte 0.
use Rattle.std.proofs.Common.{◌≡◌, ◌+◌, ◌-◌, ◌≤◌, ◌<◌, ℕ, List, None, Option, Some, arith, ap, drop, get_or, length, take, ◌∙◌}
use Rattle.std.proofs.lemmas.List.{length-drop, length-take-le, take_rest}
use Rattle.bitpack_sets.proofs.lemmas.faults.FormLaws.{some_bytes}
use Rattle.bitpack_sets.proofs.lemmas.faults.HeadLaws.{five_front, high_front, no_front, six_front}
use Rattle.bitpack_slices.specs.declared.set_error.SetError.{SetError}
use Rattle.bitpack_sets.specs.Faults.{array_fault, in_chunks_fault, short_fault}
use Rattle.bitpack_sets.proofs.front.front_len.Goals as goal

-- what is ensured of the bytes after byte 0, of all
of_later : (n : ℕ) (bytes : List ℕ) (fault : List ℕ → Option SetError) (result : Option ℕ) → n ≤ length bytes
    → ((m : ℕ) → m ≤ length (take (length bytes - 1) (drop 1 bytes)) → fault (take m (take (length bytes - 1) (drop 1 bytes))) ≡ None → result ≡ Some (m + 1))
    → (0 < n) × (fault (take (n - 1) (drop 1 bytes)) ≡ None) → result ≡ Some n
of_later n bytes fault result le found (some, none) =
    let same : n - 1 + 1 ≡ n = omega (arith, some) in
    found (n - 1) (omega (arith, le, ap length (take_rest bytes 1), length-drop 1 bytes)) (ap (λ (l : List ℕ). fault (take (n - 1) l)) (take_rest bytes 1) ∙ none) ∙ ap Some same

pub returns-in_default-clause-front : goal.returns-in_default-clause-front
returns-in_default-clause-front c n le none = absurd (omega (arith, le, some_bytes _ none, length-take-le n c.args.bytes.now le, c.in_default.len_below))

pub returns-in-5-clause-front : goal.returns-in-5-clause-front
returns-in-5-clause-front c n le none = of_later n c.args.bytes.now in_chunks_fault c.chunks_front.result le c.chunks_front.ensures.front (five_front n c.args.bytes.now le none c.in-5.is)

pub returns-in-6-clause-front : goal.returns-in-6-clause-front
returns-in-6-clause-front c n le none = of_later n c.args.bytes.now array_fault c.array_front.result le c.array_front.ensures.front (six_front n c.args.bytes.now le none c.in-6.is)

pub returns-in_default-form-clause-front : goal.returns-in_default-form-clause-front
returns-in_default-form-clause-front c n le none = absurd (no_front n c.args.bytes.now le none (λ e. absurd (omega arith)) (λ e. absurd (omega arith)) (omega arith))

pub returns-in-128-to-255-clause-front : goal.returns-in-128-to-255-clause-front
returns-in-128-to-255-clause-front c n le none = of_later n c.args.bytes.now (short_fault (get_or c.args.bytes.now 0 0 - 128)) c.few_front.result le c.few_front.ensures.front (high_front n c.args.bytes.now le none (omega arith))
