-- The parts of the encoding have their places.
use Rattle.std.proofs.Common.{◌≡◌, ℕ, ◌+◌, ◌++◌, List, length, ap, sym, arith, ◌∙◌, length-append}
use Rattle.bitpack_sets.proofs.lemmas.written.LongFilled.{chunks_joined, chunks_size}
use Rattle.bitpack_sets.proofs.lemmas.encodings.RoomLaws.{bodies_few}
use Rattle.bitpack_sets.proofs.encoding.copying.Front.write.Goals as goal
use Rattle.bitpack_sets.specs.Fronts.{front_ids}
use Rattle.bitpack_sets.specs.Varints.{byte_count, number}
use Rattle.bitpack_sets.specs.Written.{directory}

count_is : (n : ℕ) (first later : List ℕ) → n ≡ length first → n + length later ≡ length (first ++ later)
count_is n first later e = ap (λ (m : ℕ). m + length later) e ∙ sym (length-append first later)

pub overflow_cast-size : goal.overflow_cast-size
overflow_cast-size c =
    let all : List ℕ = front_ids c.args.self.now ++ c.args.ids.now in
    omega (arith, c.requires.most, c.requires.size, bodies_few all)

pub split_at_mut-head-requires : goal.split_at_mut-head-requires
split_at_mut-head-requires c =
    let all : List ℕ = front_ids c.args.self.now ++ c.args.ids.now in
    let size = chunks_size all c.args.chunks c.args.size c.requires.chunks c.requires.size in
    let same = ap (λ (n : ℕ). length (number n)) (count_is c.len.result (front_ids c.args.self.now) c.args.ids.now c.len.ensures.len) in
    omega (arith, size, same, c.requires.room, c.head_len-len.ensures.len)

pub write_directory-requires-clause-size : goal.write_directory-requires-clause-size
write_directory-requires-clause-size c =
    let all : List ℕ = front_ids c.args.self.now ++ c.args.ids.now in
    let size = chunks_size all c.args.chunks c.args.size c.requires.chunks c.requires.size in
    let count = count_is c.len.result (front_ids c.args.self.now) c.args.ids.now c.len.ensures.len in
    let same = ap (λ (n : ℕ). length (number n)) count in
    let e : length (directory c.byte_count-end_size.result c.byte_count-sum_size.result all) ≡ length (directory (byte_count c.args.size) (byte_count (length all)) all) =
    ap (λ n. length (directory n c.byte_count-sum_size.result all)) c.byte_count-end_size.ensures.count
    ∙ ap (λ n. length (directory (byte_count c.args.size) n all)) (c.byte_count-sum_size.ensures.count ∙ ap byte_count count) in
    omega (arith, size, same, e, c.requires.room, c.head_len-len.ensures.len, c.split_at_mut-head.ensures.back_len)

pub returns : goal.returns
returns c =
    let all : List ℕ = front_ids c.args.self.now ++ c.args.ids.now in
    chunks_joined all c.write_head.new.out c.write_directory.new.out (c.len.result + length c.args.ids.now) c.args.chunks c.args.size c.byte_count-end_size.result c.byte_count-sum_size.result
    (count_is c.len.result (front_ids c.args.self.now) c.args.ids.now c.len.ensures.len) c.requires.chunks c.requires.size c.byte_count-end_size.ensures.count
    c.byte_count-sum_size.ensures.count c.write_head.ensures c.write_directory.ensures
