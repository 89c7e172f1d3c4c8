-- An empty body. The borrow is opened, and closed at the new numbers.
use Rattle.std.proofs.Common.{ℕ, ◌+◌, [], ◌∷◌, refl, w32}
use Rattle.std.proofs.raw_atomic.Walks.{proved}
use base.Logic.{id⊢}
use base.Fml.{ftrue, flft}
use mir.Syntax.{named}
use mir.Val.{vunit}
use types.Kit.{‵, ◌⊛◌, ◌$◌, ◌∵◌, !, qed, move, keep, use1, split, join, fsplit, fsplit3, feq_i, suffices, frame, group}
use types.Run.{enter, of_opd, unit_lit, returns}
use types.ByLocal.{alloc_all, pass_all, free_all, look_at, sets}
use denote.Builtin.{u32}
use denote.Exit.{yes}
use denote.Plain.{uint_vals, uint_Tells}
use denote.RattleType.{owns}
use denote.Ref.{mut_vals, mut_Tells}
use denote.Signature.{plain, types_at}
use denote.Steps.{nothing, opens, closes}
use denote.Triple.Walked.{Stays, walk_of, stay_ref, stay_dropped, Goes-ref, Goes-dropped, ends_at}
use Rattle.bitpacking.proofs.ForCallers.{with_fact, with_last_fact}
use Rattle.bitpack_columns.specs.declared.reads.Reads.{Reads}
use Rattle.bitpack_columns.specs.contracts.reads.Reads as T
use Rattle.bitpack_columns.specs.contracts.reads.Reads.record as f
use Rattle.bitpack_columns.proofs.reads.Reads.record.Statement.{statement}
use Rattle.bitpack_columns.proofs.reads.Reads.record.Code as code

abbrev stayed : Stays f.ended.signature.params f.ended.kept
stayed = (stay_ref (0 ∷ []) tt (plain (λ _. T.the_row)), (stay_dropped _ yes, (stay_dropped _ yes, tt)))

-- the numbers after so many marks and blocks
abbrev after : (r : Reads) (marks blocks : ℕ) → Reads
after r marks blocks = record { marker = r.marker; marks = r.marks + marks; blocks = r.blocks + blocks }

pub record_spec : {M : Type 1} → statement M
record_spec 𝓤 𝓛 𝓜 𝓡 wired =
    let c = f.clauses 𝓛 𝓜.mem 𝓡.returns in let W = walk_of 𝓛 f.ended stayed c in
    let number = Goes-dropped 𝓛 1 (plain (λ _. u32)) yes (λ κs x w. refl) in
    proved 𝓛 f.ended stayed c 𝓜 𝓡 (Goes-ref 𝓛 1 0 tt (plain (λ _. T.the_row)), (number, (number, tt)))
    f.Key.name code.function (code.unfolded 𝓤 𝓛.H 𝓜 𝓡 wired)
    (λ κs. (mut_vals, (uint_vals w32, (uint_vals w32, tt))))
    (λ κs. (mut_Tells (named 0) κs.0 T.the_row, (uint_Tells w32, (uint_Tells w32, tt))))
    (λ κs qs bounds a g are.
    let b = a.0.ref_ptr.0 in let o = a.0.ref_ptr.1 in let h = a.0.now in
    let marks = a.1.0 in let blocks = a.1.1.0 in let h' = after h marks blocks in
    let y : W.Ghost = ((κs, qs, bounds, a, (mut_vals a.0, (uint_vals w32 marks, (uint_vals w32 blocks, tt)))), tt) in
    qed 𝓛 (((‵ (flft κs.0 qs.0) ⊛ ‵ ftrue) ⊛ ‵ (owns (types_at f.signature.params κs) a y.0.4)) ∷ ‵ ftrue ∷ []) ∵
    split ! $ move ! (1 ∷ []) $ fsplit ! $ move ! (2 ∷ []) $ split ! $ keep ! (2 ∷ 0 ∷ []) $
    enter ! _ _ _ _ _ $
    alloc_all ! (λ l. pass_all ! refl ((tt, tt), ((tt, record { fits = are.1.0.1 }), ((tt, record { fits = are.1.1.0.1 }), tt))) $
    fsplit3 ! $ move ! (1 ∷ 2 ∷ 3 ∷ []) $ opens ! tt T.the_row b o (λ us.
    sets ! (of_opd ! (unit_lit !)) refl (tt, tt) $
    move ! (1 ∷ []) $ use1 𝓛 (‵ (T.the_row.own_val h' us)) (id⊢ 𝓤 _) $ move ! (1 ∷ 0 ∷ []) $ closes ! tt T.the_row h' us b o $
    returns ! (look_at ! 0 refl) $ free_all ! refl $
    suffices ! _ (ends_at 𝓛 f.ended stayed c y vunit tt (h', (tt, (tt, tt))) (tt, (tt, (tt, tt)))) $
    move ! (3 ∷ []) $ group ! 3 $
    nothing ! $ nothing ! $ join ! $ nothing ! $ join ! $ move ! (1 ∷ 0 ∷ []) $ join ! $
    nothing ! $ move ! (2 ∷ 0 ∷ []) $ join ! $ feq_i ! _ (vunit ∷ []) _ refl $ move ! (1 ∷ 2 ∷ 0 ∷ []) $ group ! 3 $ frame ! $
    with_fact ! refl $ with_last_fact ! refl)))
