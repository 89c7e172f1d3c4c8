-- All ids are in the room.
use Rattle.std.proofs.Common.{◌≡◌, ◌++◌, List, ℕ, ap, arith, length, rules, subst, sym, ◌∙◌, length-append}
use Rattle.bitpack_sets.proofs.lemmas.encodings.EncodeLaws.{accepted, appended}
use Rattle.bitpack_sets.proofs.lemmas.faults.RefusalLaws.{set_not_refused}
use Rattle.bitpack_sets.proofs.appending.append_unpacked.Goals as goal
use Rattle.bitpack_sets.specs.Opened.{ids}
use Rattle.bitpack_sets.specs.Sets.{IsSet, encoding}

pub returns-in_err-unpack_with : goal.returns-in_err-unpack_with
returns-in_err-unpack_with c = record {
  set = search rules;
  ok = search rules;
  fault = accepted _ _ (set_not_refused _ c.requires.set.few c.requires.set.rising) (search rules);
  room = λ none few. absurd (omega (arith, few, c.in_err-unpack_with.ensures.room, ap length c.requires.room, c.args.room.now.ok, length-append (ids c.args.set.now) c.args.more.now));
  unchanged = search rules;
  capacity = search rules;
}

pub append_set-requires : goal.append_set-requires
append_set-requires c =
    subst IsSet (sym (c.as_slice.ensures.value ∙ c.in_ok-unpack_with.ensures.ok ∙ ap (λ (l : List ℕ). l ++ (ids c.args.set.now ++ c.args.more.now)) c.requires.room)) c.requires.set

pub returns : goal.returns
returns c =
    let same : c.as_slice.result.now ≡ ids c.args.set.now ++ c.args.more.now =
    c.as_slice.ensures.value ∙ c.in_ok-unpack_with.ensures.ok ∙ ap (λ (l : List ℕ). l ++ (ids c.args.set.now ++ c.args.more.now)) c.requires.room in
    appended _ _ _ (ids c.args.set.now ++ c.args.more.now) c.append_set.result c.args.out.now c.append_set.new.out (ap encoding same) c.requires.set c.append_set.ensures
