-- Their count, and the runs.
use Rattle.std.proofs.Common.{◌*◌, ◌+◌, ap, arith, refl, sym, ℕ}
use Rattle.bitpack_roaring.proofs.BetweenLaws.{between_len, runs_with_count}
use Rattle.bitpack_slices.proofs.ForCallers.{rising_room}
use Rattle.bitpack_roaring.proofs.bounds.write_runs.Goals as goal

pub overflow_cast-count : goal.overflow_cast-count
overflow_cast-count c = let few = rising_room 0 65536 c.args.bounds.now c.requires.rising in omega arith

pub returns-clause-end : goal.returns-clause-end
returns-clause-end c = ap (λ (n : ℕ). 2 + 4 * n) (sym (between_len c.args.bounds.now))

pub returns-clause-written : goal.returns-clause-written
returns-clause-written c =
    runs_with_count c.args.bounds.now c.write_integer.new.out c.put_runs.new.out _ _ c.split_at_mut-head.ensures.front_len refl c.write_integer.ensures c.put_runs.ensures
