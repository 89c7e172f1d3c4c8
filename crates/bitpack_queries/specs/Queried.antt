-- What is left of a query.
use Rattle.std.specs.Prelude.{ℕ, List, map}
use Rattle.bitpack_sets.specs.Opened.{ids}
use Rattle.bitpack_slices.specs.Reads.{ids_from}
use Rattle.bitpack_queries.specs.Queries.{answer_of}
use Rattle.bitpack_queries.specs.declared.query.Query.{Query}

-- the ids that can still come
abbrev pub left : Query → List ℕ
left query = ids_from query.walk.next (answer_of (map ids query.sets.now) query.steps.now)
