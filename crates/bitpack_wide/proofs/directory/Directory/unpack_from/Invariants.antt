-- The ids so far are written, and the next one has this high word.
use Rattle.std.proofs.Common.{◌≡◌, ◌+◌, ◌-◌, ◌<◌, ◌≤◌, drop, length, take}
use Rattle.bitpack_wide.specs.Directory.{before, sum_at}
use Rattle.bitpack_wide.specs.Forms.{directory_ids}
use Rattle.bitpack_wide.proofs.directory.Directory.unpack_from.Given as goal

abbrev pub invariant-loop-done : goal.invariant-loop-done
invariant-loop-done l = record {
  within : l.done ≤ length l.out;
  long : length l.out ≡ length l.fn.out;
  word : l.done < length l.out → l.word < l.self.words;
  begin : l.done < length l.out → before (sum_at l.self.words l.self.rest.now) l.word ≤ l.from + l.done;
  below : l.done < length l.out → l.from + l.done < sum_at l.self.words l.self.rest.now l.word;
  written : take l.done l.out ≡ take l.done (drop l.from (directory_ids l.self));
}

abbrev pub decreases-loop-done : goal.decreases-loop-done
decreases-loop-done l = length l.out - l.done
