-- A walk over the values of one list that searches them in another.
use Rattle.std.specs.Prelude.{◌≡◌, ◌≢◌, ◌⊎◌, ℕ, ◌+◌, ◌*◌, ◌^◌, ◌<◌, ◌≤◌, min, List, [], ◌∷◌, ◌++◌, length, slice_index, Option, Some, None, vec_capacity}
use Rattle.std.specs.List.Sorted.{IsStrictlyIncreasing}
use Rattle.std.specs.declared.vec.Vec.{Vec}
use Rattle.bitpacking.specs.declared.bit_packer.BitPacker.{Ghosts}
use Rattle.bitpack_lists.specs.declared.blocks.reads.PackedList.{PackedList}
use Rattle.bitpack_lists.specs.declared.opened.intersection.Walk.{Walk}
use Rattle.bitpack_lists.specs.declared.blocks.reads.Reads.{Reads}
use Rattle.bitpack_lists.specs.declared.list_kind.ListKind.TheVariants as lists
use Rattle.bitpack_lists.specs.Parts.{whole_blocks}
use Rattle.bitpack_lists.specs.Search.{HasGrown}
use Rattle.bitpack_lists.specs.inner.Searching.{IsCached, value_of}

-- ---- one value

-- what is wanted next, once a value was searched: what was found, or one more if that is the value; 2 ^ 32 is never found
abbrev pub IsWantedNext : ℕ → Option (ℕ × ℕ) → ℕ → Type 0
IsWantedNext value None want = want ≡ 2 ^ 32
IsWantedNext value (Some found) want = (found.1 ≡ value → want ≡ value + 1) × (found.1 ≢ value → want ≡ found.1)

-- a value that was found is appended
abbrev pub Appends : ℕ → Option (ℕ × ℕ) → List ℕ → List ℕ → Type 0
Appends value None before after = after ≡ before
Appends value (Some found) before after = (found.1 ≡ value → after ≡ before ++ value ∷ []) × (found.1 ≢ value → after ≡ before)

-- ---- lists of values

-- the values of a list, by their positions
pub record Values : Type 0 where
  pub value : ℕ → ℕ
  pub count : ℕ

-- a value is one of them
abbrev pub IsOneOf : Values → ℕ → Type 0
IsOneOf values value = (k : ℕ) × (k < values.count) × (values.value k ≡ value)

-- a value is in a list
abbrev pub Has : List ℕ → ℕ → Type 0
Has values value = (k : ℕ) × (k < length values) × (slice_index values k ≡ value)

-- the values of both lists that are below what is wanted; the first `done` of one list are
pub record IsShared (one other : Values) (done want : ℕ) (shared : List ℕ) : Type 0 where
  pub below : (k : ℕ) → k < done → one.value k < want
  pub increasing : IsStrictlyIncreasing shared
  pub sound : (k : ℕ) → k < length shared → IsOneOf one (slice_index shared k) × IsOneOf other (slice_index shared k) × (slice_index shared k < want)
  pub complete : (value : ℕ) → IsOneOf one value → IsOneOf other value → value < want → Has shared value

-- how many searches a position in the other list allows: two for each value before it, and one more if its value is wanted, or if
-- nothing is
abbrev pub Allows : Values → ℕ → ℕ → ℕ → Type 0
Allows other want passed_to searches =
    (searches ≤ 2 * passed_to)
    ⊎ (((searches ≤ 2 * passed_to + 1) × (passed_to < other.count) × (other.value passed_to ≡ want))
    ⊎ ((want ≡ 2 ^ 32) × (searches ≤ 2 * other.count + 1)))

-- a position in the other list before which all is below what is wanted
pub record IsPast (other : Values) (want count searches : ℕ) : Type 0 where
  pub passed_to : ℕ
  pub within : passed_to ≤ other.count
  pub passed : (k : ℕ) → k < passed_to → other.value k < want
  pub few : count ≤ passed_to
  pub allows : Allows other want passed_to searches

-- the block of the other list that was unpacked last, if it has this one, and how many were unpacked since the count was `start`
pub record IsLastBlock (lanes : ℕ) (other : Values) (want block start blocks : ℕ) : Type 0 where
  pub before : block < whole_blocks lanes (other.count) → (k : ℕ) → k < 32 * lanes * block → other.value k < want
  pub once : block < whole_blocks lanes (other.count) → blocks ≤ start + block + 1
  pub none : whole_blocks lanes (other.count) ≤ block → blocks ≤ start

-- what a walk began with: the items of the vector, and the counts of the list that is walked and of the one that is searched
pub record Started : Type 0 where
  pub items : List ℕ
  pub reads : Reads
  pub other_reads : Reads

abbrev pub started_with : List ℕ → Reads → Reads → Started
started_with items reads other_reads = record { items = items; reads = reads; other_reads = other_reads }

-- how far a walk has come: `done` values of one list were visited, and `blocks` blocks of it were unpacked. For each of these
-- blocks a value was searched, but for one while what is wanted is below `due`.
pub record Stage : Type 0 where
  pub one : Values
  pub started : Started
  pub done : ℕ
  pub blocks : ℕ
  pub due : ℕ

-- what holds then of what is wanted, of the block of the other list that was unpacked last, and of the vector and the other counts
pub record IsWalked (lanes : ℕ) (other : Values) (stage : Stage) (want last : ℕ) (items : List ℕ) (capacity : ℕ) (other_reads : Reads) : Type 0 where
  pub shared : List ℕ
  pub searches : ℕ
  pub items_are : items ≡ stage.started.items ++ shared
  pub room : length stage.started.items + min stage.one.count other.count ≤ capacity
  pub is_shared : IsShared stage.one other stage.done want shared
  pub past : IsPast other want (length shared) searches
  pub few : length shared ≤ stage.done
  pub each : searches ≤ stage.done
  pub last_block : IsLastBlock lanes other want last stage.started.other_reads.blocks other_reads.blocks
  pub blocks : other_reads.blocks ≤ stage.started.other_reads.blocks + searches
  pub entries : (digits : ℕ) → whole_blocks lanes other.count < 2 ^ digits → other_reads.entries ≤ stage.started.other_reads.entries + searches * digits
  pub grown : HasGrown stage.started.other_reads other_reads
  pub paid : (stage.blocks ≤ stage.started.reads.blocks + searches) ⊎ ((stage.blocks ≤ stage.started.reads.blocks + searches + 1) × (want < stage.due))

-- `more` more values were visited
abbrev pub further : Stage → ℕ → Stage
further stage more = record { one = stage.one; started = stage.started; done = stage.done + more; blocks = stage.blocks; due = stage.due }

-- the values that are visited next, of values in order
pub record AreNext (stage : Stage) (values : List ℕ) : Type 0 where
  pub within : stage.done + length values ≤ stage.one.count
  pub are : (k : ℕ) → k < length values → stage.one.value (stage.done + k) ≡ slice_index values k
  pub words : (k : ℕ) → k < stage.one.count → stage.one.value k < 2 ^ 32
  pub ordered : (i j : ℕ) → i ≤ j → j < stage.one.count → stage.one.value i ≤ stage.one.value j

-- ---- of an opened list

module _ {P : Type 0} {members : Ghosts P} (list : PackedList P members) where
  abbrev pub values_in : Values
  values_in = record { value = value_of list; count = list.count }

  -- between two blocks of the list, when none is due
  abbrev pub stage_in : Started → ℕ → ℕ → Stage
  stage_in started done blocks = record { one = values_in; started = started; done = done; blocks = blocks; due = 0 }

  -- the list is searched by a walk that has come this far
  pub record IsWalking {A : Type 0} (stage : Stage) (walk : Walk) (out : Vec ℕ A) (reads : Reads) : Type 0 where
    pub ordered : list.kind ≢ lists.Plain
    pub cached : IsCached list walk.cached
    pub walked : IsWalked members.lanes values_in stage walk.want walk.cached.number out.items (vec_capacity out) reads

module _ {P Q : Type 0} {members : Ghosts P} {others : Ghosts Q} (one : PackedList P members) (other : PackedList Q others) where
  -- `done` values of one list were visited by a walk that searches them in the other
  pub record IsWalkingOver {A : Type 0} (started : Started) (done blocks : ℕ) (walk : Walk) (out : Vec ℕ A) (reads : Reads) : Type 0 where
    pub ordered : one.kind ≢ lists.Plain
    pub walking : IsWalking other (stage_in one started done blocks) walk out reads
