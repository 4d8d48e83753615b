-- Terms of the wide profile: how they begin, and what their rules come to.
use Rattle.std.specs.Prelude.{◌≡◌, ℕ, Some, Ok, refl}
use Rattle.std.proofs.Common.{◌∙◌, ap, sym, subst}
use Rattle.ar_space.specs.Accesses.{Accesses}
use Rattle.ar_space.specs.Outcome.{Outcome}
use Rattle.ar_space.specs.Change.{settle, go_on, ◌>>=◌}
use Rattle.aml_grammar.specs.declared.kinds.Row.{Row}
use Rattle.aml_grammar.specs.declared.opcode.TermCode.TheVariants as codes
use Rattle.aml_marks.specs.Marked.{a_super_name, a_target}
use Rattle.aml_scan.specs.RowsAt.{row_at}
use Rattle.aml_scan.specs.declared.row_places.RowPlace.{RowPlace}
use Rattle.aml_world.specs.declared.values.operation_kind.Conversion.{Conversion}
use Rattle.aml_world.specs.declared.values.operation_kind.EventChange.{EventChange}
use Rattle.aml_world.specs.state.State.{State}
use Rattle.aml_meaning.specs.declared.term_kind.TermKind.TheVariants as kinds
use Rattle.aml_meaning.specs.declared.term_kind.WideKind.{WideKind}
use Rattle.aml_meaning.specs.declared.term_kind.WideKind.TheVariants as wides
use Rattle.aml_meaning.specs.Meaning.{meaning}
use Rattle.aml_meaning.specs.Tasks.{value_at}
use Rattle.aml_meaning.specs.TargetTerms.{targeted}
use Rattle.aml_meaning.specs.WideTerms.{formed_at, convert_rule, to_string_rule, middle_rule, event_rule, wait_rule}
use Rattle.aml_frames.specs.declared.frames.Frame.TheVariants as frames
use Rattle.aml_frames.specs.declared.frames.Next.{Next}
use Rattle.aml_frames.specs.declared.frames.Next.TheVariants as next
use Rattle.aml_frames.specs.declared.uses.Dyadic.TheVariants as dyadic
use Rattle.aml_frames.specs.declared.uses.Monadic.TheVariants as monadic
use Rattle.aml_frames.specs.Places.{Site, at_place, terms}
use Rattle.aml_frames.specs.Operands.{behind_one, behind_two, row_kind, argument_target_at, arguments_target_at, three_arguments_target_at, super_at, super_argument_at, wide_tree}
use Rattle.aml_frames.specs.declared.uses.TargetUse.TheVariants as uses
use Rattle.aml_frames.specs.Uses.{super, stored_at, target_run}
use Rattle.aml_frames.specs.Follow.{coded_run, wide_run, asked_run, behind_coded, behind_wide_at, Leads, EndsAt}
use Rattle.aml_frames.proofs.RuleShapes.{wide_is, behind_wide_is}
use Rattle.aml_frames.proofs.Stepping.{leads_value_at}
use Rattle.aml_frames.proofs.Targeting.{target_part_is}
use Rattle.aml_frames.proofs.Using.{two_run}

pub ends_wide : (r : Outcome Next) (e c : Site) (levels : ℕ) (k : WideKind) (o : RowPlace) → row_kind (row_at o) ≡ kinds.Wide k → EndsAt r e (behind_wide_at k c levels) → EndsAt r e (behind_coded o c levels)
ends_wide r e c levels k o h l = subst (EndsAt r e) (ap (at_place c) (sym (behind_wide_is (terms c levels) k o c.place h))) l

module _ {S : Type 0} {ac : Accesses S} where
  pub leads_wide : {r : Outcome Next} {e : Site} {s s1 : State S × ℕ} (c : Site) (levels : ℕ) (k : WideKind) (o : RowPlace) (row : Row) → Some row ≡ row_at o → row_kind (row_at o) ≡ kinds.Wide k
      → Leads ac (meaning ac) r e s1 (asked_run ac (meaning ac) row.0 k c levels) s
      → Leads ac (meaning ac) r e s1 (coded_run ac (meaning ac) o c levels) s
  leads_wide c levels k o row i h l = rw (wide_is ac (meaning ac) c.scope c.depth (terms c levels) k o c.place row i h) l

  pub leads_convert : {c : Site} {s : State S × ℕ} (levels : ℕ) (k : Conversion) → Leads ac (meaning ac) (Ok (next.Term levels (frames.Operand (monadic.Convert k) levels))) c s (wide_run ac (meaning ac) (wides.Convert k) c levels) s
  unfolding convert_rule formed_at
  leads_convert {c = c} {s = s} levels k = rw (target_part_is (meaning ac) c.scope c.depth codes.Name (argument_target_at (terms c levels) c.place) 1 (a_target (terms c levels) (behind_one (terms c levels) c.place)).0 refl) (leads_value_at {c = c} {s = s} levels (frames.Operand (monadic.Convert k) levels) (wide_tree (terms c levels) (wides.Convert k) c.place) 0 _ refl refl)

  pub leads_to_string : {c : Site} {s : State S × ℕ} (levels : ℕ) → Leads ac (meaning ac) (Ok (next.Term levels (frames.First dyadic.ToString levels))) c s (wide_run ac (meaning ac) wides.ToString c levels) s
  unfolding to_string_rule formed_at value_at settle ◌>>=◌ go_on
  leads_to_string {c = c} {s = s} levels = rw (target_part_is (meaning ac) c.scope c.depth codes.Name (arguments_target_at (terms c levels) c.place) 2 (a_target (terms c levels) (behind_two (terms c levels) c.place)).0 refl) (record { is = λ _. two_run ac c.scope c.depth (wide_tree (terms c levels) wides.ToString c.place) _ s ∙ (leads_value_at {c = c} {s = s} levels (frames.First dyadic.ToString levels) (wide_tree (terms c levels) wides.ToString c.place) 0 _ refl refl).is tt })

  pub leads_middle : {c : Site} {s : State S × ℕ} (levels : ℕ) → Leads ac (meaning ac) (Ok (next.Term levels (frames.First dyadic.Mid levels))) c s (wide_run ac (meaning ac) wides.Mid c levels) s
  unfolding middle_rule targeted stored_at value_at settle ◌>>=◌ go_on
  leads_middle {c = c} {s = s} levels =
      let b = terms c levels in
      rw (target_part_is (meaning ac) c.scope c.depth codes.Name (three_arguments_target_at b c.place) 3 (a_target b (behind_one b (behind_two b c.place))).0 refl)
      (record { is = λ _. two_run ac c.scope c.depth (wide_tree b wides.Mid c.place) _ s ∙ (leads_value_at {c = c} {s = s} levels (frames.First dyadic.Mid levels) (wide_tree b wides.Mid c.place) 0 _ refl refl).is tt })

  -- ---- events

  pub leads_event : {r : Outcome Next} {d : Site} {s s1 : State S × ℕ} (c : Site) (levels : ℕ) (k : EventChange) → Leads ac (meaning ac) r d s1 (target_run ac (meaning ac) (super levels) (uses.Event k) c) s → Leads ac (meaning ac) r d s1 (wide_run ac (meaning ac) (wides.Event k) c levels) s
  unfolding event_rule
  leads_event c levels k h = rw (target_part_is (meaning ac) c.scope c.depth codes.Name (super_at (terms c levels) c.place) 0 (a_super_name (terms c levels) c.place).0 refl) h

  pub leads_wait : {r : Outcome Next} {d : Site} {s s1 : State S × ℕ} (c : Site) (levels : ℕ) → Leads ac (meaning ac) r d s1 (target_run ac (meaning ac) (super levels) (uses.Wait levels) c) s → Leads ac (meaning ac) r d s1 (wide_run ac (meaning ac) wides.Wait c levels) s
  unfolding wait_rule value_at settle ◌>>=◌ go_on
  leads_wait c levels h = rw (target_part_is (meaning ac) c.scope c.depth codes.Name (super_argument_at (terms c levels) c.place) 0 (a_super_name (terms c levels) c.place).0 refl) h

-- what closes the beginning of a term of the wide profile
pub ruleset beginning_wide = (leads_wide, ends_wide)

-- and of one that does something with an event
pub ruleset beginning_events = (leads_event, leads_wait)
