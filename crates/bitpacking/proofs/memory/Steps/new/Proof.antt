-- A value of no bytes is made, and the walk picks zeros.
use Rattle.std.proofs.Common.{[], ◌∷◌, refl, arith}
use Rattle.std.proofs.raw_atomic.Walks.{proved}
use mir.Val.{Val, vstruct, vcons, vnil}
use contract.Running.{tables}
use types.Kit.{raw, ◌$◌, ◌∵◌, !, qed, keep, join, frame, suffices}
use types.Run.{enter, no_more, and_then, returns}
use types.Part.{agg}
use types.ByLocal.{alloc_all, pass_all, free_all, look_at, get, sets}
use denote.Shadow.{pure_i}
use denote.Steps.{nothing}
use denote.Triple.Entry.{on_entry}
use denote.Triple.Walked.{ends_at}
use Rattle.bitpacking.proofs.Facts.{with_fact, with_last_fact}
use Rattle.bitpacking.specs.declared.memory.Steps.{Steps}
use Rattle.bitpacking.specs.contracts.memory.Steps as T
use Rattle.bitpacking.specs.contracts.memory.Steps.new as f
use Rattle.bitpacking.proofs.memory.Steps.new.Statement.{statement}
use Rattle.bitpacking.proofs.memory.Steps.new.Code as code

abbrev made : Val
made = vstruct (vcons (vstruct vnil) vnil)

abbrev zeros : Steps
zeros = record { marker = record {}; loads = 0; stores = 0; inside = 0; held = 0; greatest = omega arith }

pub new_spec : {M : Type 1} → statement M
new_spec 𝓤 𝓛 𝓜 𝓡 wired =
    let c = f.clauses 𝓛 𝓜.mem 𝓡.returns in let 𝓣 = tables 𝓤 𝓛.H 𝓜 𝓡 𝓡.env in
    proved 𝓛 f.ended tt c 𝓜 𝓡 tt
    f.Key.name code.function (code.unfolded 𝓤 𝓛.H 𝓜 𝓡 wired)
    (λ κs. tt) (λ κs. tt) (λ κs qs bounds a g are.
    qed 𝓛 (raw (on_entry 𝓛 f.signature κs qs a tt) ∷ raw ((c κs a).requires g) ∷ []) ∵ keep ! [] $
    enter ! _ _ _ _ _ $ alloc_all ! (λ l. pass_all ! refl tt $
    sets ! (agg ! (no_more !)) refl (tt, tt) $ sets ! (agg ! (and_then ! (get ! refl) (no_more !))) refl (tt, (tt, tt)) $
    returns ! (look_at ! 0 refl) $ free_all ! refl $
    suffices ! _ (ends_at 𝓛 f.ended tt c ((κs, qs, bounds, a, tt), g) made zeros tt tt) $
    pure_i ! (T.the_row.own_val zeros (made ∷ [])) ((λ vss. (tt, ((λ uss. (tt, tt)), tt))), tt) (((vstruct vnil ∷ [], tt), (refl, ((tt, (refl, tt)), tt))), tt) $
    nothing ! $ join ! $ nothing ! $ join ! $ frame ! $
    with_fact ! refl $ with_fact ! refl $ with_fact ! refl $ with_last_fact ! refl))
