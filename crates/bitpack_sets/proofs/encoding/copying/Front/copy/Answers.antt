-- Keys and bodies are copied as bytes.
use Rattle.std.proofs.Common.{◌≡◌, ◌+◌, ◌-◌, ◌*◌, ℕ, drop, length, take, arith, ap, sym, ◌∙◌}
use Rattle.bitpack_slices.proofs.ForCallers.{bytes_are}
use Rattle.bitpack_sets.proofs.lemmas.written.FrontLaws.{front_bodies, front_keys, front_room, front_size}
use Rattle.bitpack_sets.proofs.encoding.copying.Front.copy.Goals as goal
use Rattle.bitpack_sets.specs.Directory.{before, end_at}

pub slice_bounds-copy_from_slice-end : goal.slice_bounds-copy_from_slice-end
slice_bounds-copy_from_slice-end c =
    let front = c.args.self.now in
    let room = front.directory.sound.directory.room in
    let some = front.directory.sound.some in
    let count = c.count-count.ensures.chunks in
    omega arith

pub copy_from_slice-requires : goal.copy_from_slice-requires
copy_from_slice-requires c =
    let front = c.args.self.now in
    let some = front.directory.sound.some in
    let room = front.directory.sound.directory.room in
    let count = c.count-count.ensures.chunks in
    let size = ap length (front_keys front.directory.count front.directory.chunks front.directory.rest.now (bytes_are front.directory.rest.now front.directory.are_bytes) front.directory.sound (front.directory.chunks - 1) (omega arith)) in
    let two : 1 + 2 * c.count-count.result - 1 ≡ 2 * (front.directory.chunks - 1) = omega arith in
    c.requires.keys ∙ size ∙ ap (λ (n : ℕ). length (take n (drop 1 front.directory.rest.now))) (sym two)

pub slice_bounds-copy_from_slice-end-2 : goal.slice_bounds-copy_from_slice-end-2
slice_bounds-copy_from_slice-end-2 c =
    let front = c.args.self.now in
    let some = front.directory.sound.some in
    let room = front_room front.directory.count front.directory.chunks front.directory.rest.now (bytes_are front.directory.rest.now front.directory.are_bytes) front.directory.sound (front.directory.chunks - 1) (omega arith) in
    let size = front_size front.directory.count front.directory.chunks front.directory.rest.now (bytes_are front.directory.rest.now front.directory.are_bytes) front.directory.sound (front.directory.chunks - 1) (omega arith) in
    let start = c.bodies_start-start.ensures in
    let end = c.size-size.ensures.size in
    omega arith

pub returns-clause-keys : goal.returns-clause-keys
returns-clause-keys c =
    let front = c.args.self.now in
    let some = front.directory.sound.some in
    let count = c.count-count.ensures.chunks in
    let two : 1 + 2 * c.count-count.result - 1 ≡ 2 * (front.directory.chunks - 1) = omega arith in
    c.copy_from_slice.ensures.after ∙ ap (λ (n : ℕ). take n (drop 1 front.directory.rest.now)) two
    ∙ sym (front_keys front.directory.count front.directory.chunks front.directory.rest.now (bytes_are front.directory.rest.now front.directory.are_bytes) front.directory.sound (front.directory.chunks - 1) (omega arith))

pub returns-clause-bodies : goal.returns-clause-bodies
returns-clause-bodies c =
    let front = c.args.self.now in
    let some = front.directory.sound.some in
    let start = c.bodies_start-start.result in
    let size = c.size-size.ensures.size ∙ front_size front.directory.count front.directory.chunks front.directory.rest.now (bytes_are front.directory.rest.now front.directory.are_bytes) front.directory.sound (front.directory.chunks - 1) (omega arith) in
    let long : start + c.size-size.result - start ≡ c.size-size.result = omega arith in
    c.copy_from_slice-2.ensures.after ∙ ap (λ (n : ℕ). take n (drop start front.directory.rest.now)) (long ∙ size)
    ∙ ap (λ (n : ℕ). take (before (end_at front.directory.chunks front.directory.rest.now) (front.directory.chunks - 1)) (drop n front.directory.rest.now)) c.bodies_start-start.ensures
    ∙ sym (front_bodies front.directory.count front.directory.chunks front.directory.rest.now (bytes_are front.directory.rest.now front.directory.are_bytes) front.directory.sound (front.directory.chunks - 1) (omega arith))
