-- The bit of one number more is set.
use Rattle.std.proofs.Common.{◌≡◌, ℕ, ◌+◌, ◌*◌, ◌/◌, ◌%◌, ◌^◌, ◌<◌, List, refl, get_or, length, map, set, take, subst, arith, ◌∙◌, length-set, replicate}
use Rattle.std.proofs.lemmas.List.{get_or-map, length-map}
use Rattle.bitpack_slices.proofs.lemmas.bits.WriteLaws.{all_set, bytes_set, none_set, one_fits, one_set, shift_is, zeros_are}
use Rattle.bitpack_slices.proofs.slice.writing.set_bits.Goals as goal
use Rattle.bitpack_slices.specs.Bodies.{bits}
use Rattle.bitpack_slices.specs.Slices.{number_of}

pub loop-index-init : goal.loop-index-init
loop-index-init c = record { size = refl; bytes = zeros_are 32; set = none_set (replicate 32 0) (map (λ id. id % 256) c.args.ids.now) refl }

pub overflow_add-bytes : goal.overflow_add-bytes
overflow_add-bytes c =
    let numbers : List ℕ = map (λ id. id % 256) c.args.ids.now in
    let size : length numbers ≡ length c.args.ids.now = length-map c.args.ids.now (λ id. id % 256) in
    let number : get_or numbers c.loop-index.index 0 ≡ get_or c.args.ids.now c.loop-index.index 0 % 256 = get_or-map (λ id. id % 256) c.args.ids.now c.loop-index.index 0 0 c.loop-index-test.true in
    let fits = subst (λ n. get_or c.loop-index.bytes (n / 8) 0 + 2 ^ (n % 8) < 256) number
    (one_fits c.loop-index.bytes numbers c.loop-index.index c.requires.rising (omega arith) c.loop-index.invariant.set) in
    let shift = shift_is (get_or c.args.ids.now c.loop-index.index 0 % 256) in
    omega arith

pub loop-index-preserved : goal.loop-index-preserved
loop-index-preserved c =
    let numbers : List ℕ = map (λ id. id % 256) c.args.ids.now in
    let size : length numbers ≡ length c.args.ids.now = length-map c.args.ids.now (λ id. id % 256) in
    let number : get_or numbers c.loop-index.index 0 ≡ get_or c.args.ids.now c.loop-index.index 0 % 256 = get_or-map (λ id. id % 256) c.args.ids.now c.loop-index.index 0 0 c.loop-index-test.true in
    let fits = subst (λ n. get_or c.loop-index.bytes (n / 8) 0 + 2 ^ (n % 8) < 256) number
    (one_fits c.loop-index.bytes numbers c.loop-index.index c.requires.rising (omega arith) c.loop-index.invariant.set) in
    let shift = shift_is (get_or c.args.ids.now c.loop-index.index 0 % 256) in
    record {
      bytes = bytes_set c.loop-index.bytes _ _ c.loop-index.invariant.bytes (omega arith);
      size = length-set c.loop-index.bytes _ _ ∙ c.loop-index.invariant.size;
      set = subst (λ n. number_of (set c.loop-index.bytes (n / 8) (get_or c.loop-index.bytes (n / 8) 0 + 1 * 2 ^ (n % 8) % 256)) ≡ bits (take (c.loop-index.index + 1) numbers)) number
          (one_set c.loop-index.bytes numbers c.loop-index.index _ c.requires.rising (omega arith) c.loop-index.invariant.size c.loop-index.invariant.set
          (shift_is (get_or numbers c.loop-index.index 0)));
    }

pub returns : goal.returns
returns c =
    let size : length (map (λ id. id % 256) c.args.ids.now) ≡ length c.args.ids.now = length-map c.args.ids.now (λ id. id % 256) in
    c.copy_from_slice.ensures.after ∙ all_set c.loop-index.bytes (map (λ id. id % 256) c.args.ids.now) c.loop-index.index c.loop-index.invariant.size c.loop-index.invariant.bytes c.loop-index.invariant.set
    (omega (arith, c.loop-index-test.false)) (omega (arith, c.requires.count.0)) (omega (arith, c.requires.count.1))
