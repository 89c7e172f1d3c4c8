-- Windows of a set that was not opened.
use Rattle.std.proofs.Common.{◌≡◌, ◌≢◌, ◌-◌, ◌<◌, ◌≤◌, ℕ, List, drop, get_or, length, subst, sym, take}
use Rattle.bitpack_sets.specs.Reads.{ids_in}
use Rattle.bitpack_sets.specs.inner.Windows.{IsWindow}
use Rattle.bitpack_sets.specs.declared.window.Window.{Window}

-- the ids of bytes that have no chunks are all that a window knows of them
pub alike : (one other : List ℕ) (window : Window) → ids_in one ≡ ids_in other → get_or other 0 0 ≢ 5 → IsWindow one window → IsWindow other window
alike one other window same form is = record {
  some = λ more. is.some (subst (λ (xs : List ℕ). 0 < length xs) (sym same) more);
  within = subst (λ (xs : List ℕ). window.end ≤ length xs) same is.within;
  values = subst (λ (xs : List ℕ). take (window.end - window.begin) window.unpacked ≡ take (window.end - window.begin) (drop window.begin xs)) same is.values;
  ready = λ past. subst (λ (xs : List ℕ). length xs ≤ window.next) same (is.ready past);
  holds = λ five. absurd (form five);
}
