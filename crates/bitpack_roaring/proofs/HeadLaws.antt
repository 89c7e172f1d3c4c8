-- What a head has room for, and how large its integers are.
use Rattle.std.proofs.Common.{◌≡◌, ℕ, ◌+◌, ◌*◌, ◌/◌, ◌<◌, ◌≤◌, Bool, true, false, cond, List, length, drop, get_or, refl, sym, ap, ◌∙◌, arith}
use Rattle.bitpack_groups.proofs.ForCallers.{short_two}
use Rattle.bitpack_groups.specs.Numbers.{short_at}
use Rattle.bitpack_roaring.specs.inner.Heads.{IsHead}
use Rattle.bitpack_roaring.specs.Roaring as roaring

pub two_small : (start index : ℕ) (bytes : List ℕ) → ((k : ℕ) → get_or bytes k 0 < 256) → short_at 2 (drop start bytes) index < 65536
two_small start index bytes are =
    let low = are (start + 2 * index) in
    let high = are (start + 2 * index + 1) in
    let e = short_two start index bytes 2 refl in
    omega arith

entries : (offsets : Bool) (keys containers start room : ℕ) → start ≡ keys + cond offsets 8 4 * containers → start ≤ room
    → (keys + 4 * containers ≤ room) × (offsets ≡ true → keys + 8 * containers ≤ room)
entries true keys containers start room is h = (omega arith, λ e. omega arith)
entries false keys containers start room is h = (omega arith, λ e. absurd (Rattle.std.proofs.lemmas.Bool.true≢false (sym e)))

module _ (bytes : List ℕ) (runs : Bool) (containers keys : ℕ) (offsets : Bool) (start : ℕ) (head : IsHead bytes runs containers keys offsets start) where
  start_is : start ≡ keys + cond offsets 8 4 * containers
  unfolding roaring.head_len
  start_is =
      head.start_is ∙ ap (λ (n : ℕ). n + cond (roaring.has_offsets bytes) 8 4 * roaring.containers bytes) (sym head.keys_are)
      ∙ ap (λ (b : Bool). keys + cond b 8 4 * roaring.containers bytes) (sym head.offsets_are)
      ∙ ap (λ (n : ℕ). keys + cond offsets 8 4 * n) (sym head.containers_are)

  -- the keys and counts are there, and the offsets if there are some
  pub keys_room : keys + 4 * containers ≤ length bytes
  keys_room = (entries offsets keys containers start (length bytes) start_is head.room).0

  pub offsets_room : offsets ≡ true → keys + 8 * containers ≤ length bytes
  offsets_room = (entries offsets keys containers start (length bytes) start_is head.room).1

  -- and the bits of containers
  pub flags_room : runs ≡ true → 4 + (containers + 7) / 8 ≤ length bytes
  unfolding roaring.keys_start
  flags_room e =
      let are : keys ≡ 4 + (containers + 7) / 8 =
      head.keys_are ∙ ap (λ (b : Bool). cond b (4 + (roaring.containers bytes + 7) / 8) 8) (sym head.runs_are ∙ e) ∙ ap (λ (n : ℕ). 4 + (n + 7) / 8) (sym head.containers_are) in
      let room = keys_room in
      omega arith
