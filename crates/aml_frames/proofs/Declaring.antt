-- Terms that declare something: steps keep what their rules mean.
use Rattle.std.specs.Prelude.{◌≡◌, ℕ, length, Ok, Err, IsErr, IsErrAnd, List, false, refl}
use Rattle.std.proofs.Common.{◌∙◌, ap, sym, subst}
use Rattle.ar_space.specs.Accesses.{Accesses}
use Rattle.ar_space.specs.Outcome.{Outcome}
use Rattle.ar_space.specs.Change.{Does, give, stop, settle, go_on, ◌>>=◌}
use Rattle.ar_space.specs.declared.refusal.Refusal.{Refusal}
use Rattle.aml_path.specs.declared.segment.Seg.{Seg}
use Rattle.aml_grammar.specs.declared.opcode.TermCode.TheVariants as codes
use Rattle.aml_grammar.specs.Tree.{term}
use Rattle.aml_marks.specs.Marked.{Place, a_name, all_items}
use Rattle.aml_scan.specs.RowsAt.{row_at}
use Rattle.aml_scan.specs.declared.row_places.RowPlace.{RowPlace}
use Rattle.aml_objects.specs.declared.entry.NamedObject.TheVariants as object
use Rattle.aml_objects.specs.declared.node.NodeId.{NodeId}
use Rattle.aml_world.specs.state.State.{State}
use Rattle.aml_world.specs.state.Run.{Run}
use Rattle.aml_meaning.specs.declared.flow.Flow.{Flow}
use Rattle.aml_meaning.specs.declared.term_kind.DeclarationKind.{DeclarationKind}
use Rattle.aml_meaning.specs.declared.term_kind.DeclarationKind.TheVariants as declarations
use Rattle.aml_meaning.specs.declared.term_kind.TermKind.TheVariants as kinds
use Rattle.aml_meaning.specs.Tasks.{operand_value}
use Rattle.aml_meaning.specs.Meaning.{meaning}
use Rattle.aml_meaning.specs.DeclarationTerms.{declaring, name_rule, scope_rule, new_scope}
use Rattle.aml_frames.specs.declared.position.Position.{Position}
use Rattle.aml_frames.specs.declared.frames.Frame.TheVariants as frames
use Rattle.aml_frames.specs.declared.frames.Next.{Next}
use Rattle.aml_frames.specs.declared.frames.Next.TheVariants as next
use Rattle.aml_frames.specs.Places.{Site, at_place, terms, behind_term}
use Rattle.aml_frames.specs.Operands.{row_kind}
use Rattle.aml_frames.specs.Declarations.{datum_at, scope_at, power_resource_at, processor_at, declaration_run, behind_declaration_at, declared_at, named_run, list_in, scope_run, new_scope_run}
use Rattle.aml_frames.specs.Follow.{place_of, at_position, ends, coded_run, behind_coded, Leads, EndsAt}
use Rattle.aml_frames.proofs.RuleShapes.{declaration_is, behind_declaration_is}
use Rattle.aml_frames.proofs.Stepping.{leads_value, stepping}

-- ---- a list in a scope, behind which names stand in the scope around it again

given_on : {S A : Type 0} (r : Outcome A) (s : S) → go_on r s (λ a. give a) ≡ (r, s)
unfolding go_on give stop
given_on (Ok a) s = refl
given_on (Err e) s = refl

given : {S : Type 0} (m : Run S Flow) (s : State S × ℕ) → (m >>= (λ f. give f)) s ≡ m s
unfolding ◌>>=◌
given m s = given_on (m s).0 (m s).1

pub ends_list_in : (c d : Site) (p q : List Seg) (o : Position) (node : NodeId) → d ≡ record c { scope = p } → q ≡ c.scope → ends (frames.Scope q node) (at_position d o) ≡ at_position c o
ends_list_in c d p q o node e h = rw (e, h) refl

pub ends_declaration : (r : Outcome Next) (e c : Site) (levels : ℕ) (k : DeclarationKind) (o : RowPlace) → row_kind (row_at o) ≡ kinds.Declaration k → EndsAt r e (behind_declaration_at k o c levels) → EndsAt r e (behind_coded o c levels)
ends_declaration r e c levels k o h l = subst (EndsAt r e) (ap (at_place c) (sym (behind_declaration_is (terms c levels) k o c.place h))) l

module _ {S : Type 0} {ac : Accesses S} where
  pub leads_list_in : {s : State S × ℕ} {n : ℕ} (c d : Site) (p q : List Seg) (levels : ℕ) (o : Position) (node : NodeId) → d ≡ record c { scope = p } → n ≡ length c.place.rest → Leads ac (meaning ac) (Ok (next.Scope (record { left = n; levels = levels; outer = o }) q node)) d s (list_in (meaning ac) p c levels) s
  unfolding all_items
  leads_list_in {s = s} c d p q levels o node e h = rw (e, h) (record { is = λ _. sym (given (list_in (meaning ac) p c levels) s) })

  -- ---- Name

  pub leads_name_term : {s : State S × ℕ} (c d : Site) (levels : ℕ) (o : Position) → place_of c o ≡ c.place → d ≡ at_place c (a_name c.place).1 → Leads ac (meaning ac) (Ok (next.Term levels (frames.Named o))) d s (named_run (meaning ac) c levels) s
  unfolding named_run declared_at
  leads_name_term {s = s} c d levels o h e =
      let q = at_place c (a_name c.place).1 in
      rw e (record {
        is = λ _. ap (λ (p : Place). (operand_value (meaning ac) c.scope c.depth (terms c levels false q.place).0 >>= (λ v. declared_at (object.Data v) p c)) s) (sym h)
            ∙ (leads_value {c = q} {s = s} levels (frames.Named o) (λ v. declared_at (object.Data v) (place_of c o) (behind_term q levels)) refl).is tt;
      })

  -- ---- rules over the operands that stand next

  pub leads_named_term : {r : Outcome Next} {d : Site} {s s1 : State S × ℕ} (c : Site) (levels : ℕ) → Leads ac (meaning ac) r d s1 (named_run (meaning ac) c levels) s → Leads ac (meaning ac) r d s1 (name_rule (meaning ac) c.scope c.depth (term codes.Name (datum_at (terms c levels) c.place))) s
  unfolding named_run name_rule declaring declared_at settle ◌>>=◌ go_on
  leads_named_term c levels h = record { is = h.is }

  pub leads_scope_term : {r : Outcome Next} {d : Site} {s s1 : State S × ℕ} (c : Site) (levels : ℕ) → Leads ac (meaning ac) r d s1 (scope_run (meaning ac) c levels) s → Leads ac (meaning ac) r d s1 (scope_rule (meaning ac) c.scope c.depth (term codes.Name (scope_at (terms c levels) c.place))) s
  unfolding scope_run scope_rule settle ◌>>=◌ go_on
  leads_scope_term c levels h = record { is = h.is }

  pub leads_device : {r : Outcome Next} {d : Site} {s s1 : State S × ℕ} (c : Site) (levels : ℕ) → Leads ac (meaning ac) r d s1 (new_scope_run (meaning ac) declarations.Device object.Device c levels) s → Leads ac (meaning ac) r d s1 (new_scope (meaning ac) object.Device 1 c.scope c.depth (term codes.Name (scope_at (terms c levels) c.place))) s
  unfolding new_scope_run new_scope settle ◌>>=◌ go_on
  leads_device c levels h = record { is = h.is }

  pub leads_processor : {r : Outcome Next} {d : Site} {s s1 : State S × ℕ} (c : Site) (levels : ℕ) → Leads ac (meaning ac) r d s1 (new_scope_run (meaning ac) declarations.Processor object.Processor c levels) s → Leads ac (meaning ac) r d s1 (new_scope (meaning ac) object.Processor 4 c.scope c.depth (term codes.Name (processor_at (terms c levels) c.place))) s
  unfolding new_scope_run new_scope settle ◌>>=◌ go_on
  leads_processor c levels h = record { is = h.is }

  pub leads_power_resource : {r : Outcome Next} {d : Site} {s s1 : State S × ℕ} (c : Site) (levels : ℕ) → Leads ac (meaning ac) r d s1 (new_scope_run (meaning ac) declarations.PowerResource object.PowerResource c levels) s → Leads ac (meaning ac) r d s1 (new_scope (meaning ac) object.PowerResource 3 c.scope c.depth (term codes.Name (power_resource_at (terms c levels) c.place))) s
  unfolding new_scope_run new_scope settle ◌>>=◌ go_on
  leads_power_resource c levels h = record { is = h.is }

  pub leads_thermal_zone : {r : Outcome Next} {d : Site} {s s1 : State S × ℕ} (c : Site) (levels : ℕ) → Leads ac (meaning ac) r d s1 (new_scope_run (meaning ac) declarations.ThermalZone object.ThermalZone c levels) s → Leads ac (meaning ac) r d s1 (new_scope (meaning ac) object.ThermalZone 1 c.scope c.depth (term codes.Name (scope_at (terms c levels) c.place))) s
  unfolding new_scope_run new_scope settle ◌>>=◌ go_on
  leads_thermal_zone c levels h = record { is = h.is }

  -- ---- a term of which no part is evaluated

  pub leads_done : {s s1 : State S × ℕ} (f : Flow) (n : Next) (c : Site) (m : Run S Flow) → n ≡ next.Flow f → Does (Ok f) s1 m s → Leads ac (meaning ac) (Ok n) c s1 m s
  unfolding give
  leads_done f n c m e h = rw e (record { is = λ _. h.is tt })

  pub leads_refused : {e : Refusal} {r : Outcome Next} {s s1 : State S × ℕ} (c : Site) (m : Run S Flow) → Does {A = Flow} (Err e) s1 m s → IsErr r × IsErrAnd r (λ x. x ≡ e) → Leads ac (meaning ac) r c s1 m s
  unfolding stop
  leads_refused {r = Ok x} c m h i = absurd (cc i.0)
  leads_refused {r = Err x} c m h i = record { is = λ ne. rw (h.is (λ q. ne (i.1 ∙ q)), i.1) refl }

  -- ---- a term whose opcode was read

  pub leads_declaration : {r : Outcome Next} {e : Site} {s s1 : State S × ℕ} (c : Site) (levels : ℕ) (k : DeclarationKind) (o : RowPlace) → row_kind (row_at o) ≡ kinds.Declaration k
      → Leads ac (meaning ac) r e s1 (declaration_run (meaning ac) k o c levels) s
      → Leads ac (meaning ac) r e s1 (coded_run ac (meaning ac) o c levels) s
  leads_declaration c levels k o h l = rw (declaration_is ac (meaning ac) c.scope c.depth (terms c levels) k o c.place h) l

pub ruleset listing = (leads_list_in, ends_list_in)

pub ruleset naming = (leads_name_term)

pub ruleset entering = (stepping)

pub ruleset declaring_terms = (leads_named_term, leads_scope_term, leads_device, leads_processor, leads_power_resource, leads_thermal_zone, leads_done, leads_refused)
