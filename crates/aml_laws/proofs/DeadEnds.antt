-- SizeOf and ObjectType refuse what leads to no end, and names that aren't found.
use Rattle.std.specs.Prelude.{◌≡◌, ℕ, suc, List, Err, refl}
use Rattle.std.proofs.Common.{ap, ◌∙◌}
use Rattle.ar_space.specs.declared.refusal.Refusal.{Refusal}
use Rattle.ar_space.specs.declared.refusal.Refusal.TheVariants as refusal
use Rattle.ar_space.specs.declared.refusal.EvaluationFault.TheVariants.{DeadReference}
use Rattle.ar_space.specs.Accesses.{Accesses}
use Rattle.ar_space.specs.Change.{settle, go_on, ◌>>=◌}
use Rattle.aml_path.specs.declared.segment.Seg.{Seg}
use Rattle.aml_path.specs.Paths.{Name}
use Rattle.aml_grammar.specs.declared.opcode.Opcode.{Opcode}
use Rattle.aml_grammar.specs.declared.opcode.Opcode.TheVariants as opcodes
use Rattle.aml_grammar.specs.Tree.{Tree, Part, name, inner}
use Rattle.aml_objects.specs.declared.value.Reference.{Reference}
use Rattle.aml_objects.specs.declared.value.Slot.{Slot}
use Rattle.aml_objects.specs.declared.value.Value.{Value}
use Rattle.aml_objects.specs.declared.value.Value.TheVariants as value
use Rattle.aml_namespace.specs.Search.{found}
use Rattle.aml_world.specs.declared.values.store_target.StoreTarget.{StoreTarget}
use Rattle.aml_world.specs.declared.values.store_target.StoreTarget.TheVariants as targets
use Rattle.aml_world.specs.state.State.{State}
use Rattle.aml_world.specs.state.Run.{lift}
use Rattle.aml_world.specs.values.StoreTargets.{latest_frame, slot_held, own_slot, value_followed, followed, slot_referent, declared_referent, name_referent, target_referent, target_named}
use Rattle.aml_world.specs.state.Readings.{path_found}
use Rattle.aml_meaning.specs.Tasks.{task, operand_value}
use Rattle.aml_meaning.specs.TargetTerms.{name_target}
use Rattle.aml_meaning.specs.OperatorTerms.{referent_of_value, referent_of_target, referent_at, size_rule, type_rule}
use Rattle.aml_meaning.specs.Evaluation.{rule}
use Rattle.aml_meaning.specs.Meaning.{meaning}
use Rattle.aml_laws.specs.Dereferenced.{HasNoEnd, too_many, dead_end, a_circle, EndsUnfound}
use Rattle.aml_laws.specs.OperatorTerms.{counting, NamesTarget, TargetHolds, in_slot, in_name, SlotHolds, GivesValue, IsRefused}
use Rattle.aml_laws.specs.ReferringTerms.{size_of, object_type}
use Rattle.aml_laws.specs.TargetsNamed.{IsReferring, of_refof, of_derefof, of_index}
use Rattle.aml_laws.proofs.ObjectsAsked.{part_asked}
use Rattle.aml_laws.proofs.ReferencesRead.{too_long_is_refused, a_dead_end_is_refused, a_circle_is_refused, an_unfound_end_is_refused}
use Rattle.aml_laws.proofs.TreesCost.{term_begins}

module _ {S : Type 0} (w : State S) where
  pub no_end_is_found : (r : Reference) → HasNoEnd w r → target_referent (targets.Refers r) w ≡ (Err (refusal.Evaluation DeadReference), w)
  no_end_is_found r (too_many n p q leads le) = too_long_is_refused w n p q leads le
  no_end_is_found r (dead_end n p q leads dead) = a_dead_end_is_refused w n p q leads dead
  no_end_is_found r (a_circle n m p q leads back some) = a_circle_is_refused w n m p q leads back some

  value_lost : (e : Refusal) (v : Value) (r : Reference) → v ≡ value.Reference r → target_referent (targets.Refers r) w ≡ (Err e, w) → value_followed (followed 64) v w ≡ (Err e, w)
  value_lost e v r is none = rw is none

  slot_lost : (e : Refusal) (s : Slot) (v : Value) (r : Reference) → SlotHolds w s v → v ≡ value.Reference r → target_referent (targets.Refers r) w ≡ (Err e, w) → slot_referent s w ≡ (Err e, w)
  unfolding slot_referent own_slot latest_frame slot_held go_on ◌>>=◌
  slot_lost e s v r h is none = rw (h.latest, h.stands, h.holds) (value_lost e v r is none)

  holder_lost : (e : Refusal) (t : StoreTarget) (v : Value) (r : Reference) → TargetHolds w t v → v ≡ value.Reference r → target_referent (targets.Refers r) w ≡ (Err e, w) → target_referent t w ≡ (Err e, w)
  unfolding name_referent declared_referent go_on ◌>>=◌
  holder_lost e _ _ r (in_slot s v h) is none = slot_lost e s v r h is none
  holder_lost e _ _ r (in_name path n v at) is none = rw at (value_lost e v r is none)

module _ {S : Type 0} (accesses : Accesses S) (scope : List Seg) (depth : ℕ) where
  value_is_asked : (op : Opcode) (u : Tree) → IsReferring u → referent_at accesses (meaning accesses) scope depth (counting op (inner u)) ≡ referent_of_value accesses (meaning accesses) scope depth u
  value_is_asked op _ (of_refof ps) = refl
  value_is_asked op _ (of_derefof ps) = refl
  value_is_asked op _ (of_index ps) = refl

  value_leads_nowhere : (e : Refusal) (u : Tree) (v : Value) (r : Reference) (s after : State S × ℕ) → GivesValue accesses scope depth u s v after → v ≡ value.Reference r → target_referent (targets.Refers r) after.0 ≡ (Err e, after.0)
      → referent_of_value accesses (meaning accesses) scope depth u s ≡ (Err e, after)
  unfolding referent_of_value operand_value settle lift go_on ◌>>=◌
  value_leads_nowhere e u v r s after gives is none = rw (gives, value_lost after.0 e v r is none) refl

  module _ (e : Refusal) (p : Part) (w : State S) (steps : ℕ) (after : State S × ℕ) (asked : (op : Opcode) → referent_at accesses (meaning accesses) scope depth (counting op p) (w, steps) ≡ (Err e, after)) where
    size_stops : rule accesses (meaning accesses) (task scope depth (size_of p)) (w, steps) ≡ (Err e, after)
    unfolding rule size_rule go_on ◌>>=◌
    size_stops = rw (asked opcodes.SizeOf) refl

    type_stops : rule accesses (meaning accesses) (task scope depth (object_type p)) (w, steps) ≡ (Err e, after)
    unfolding rule type_rule go_on ◌>>=◌
    type_stops = rw (asked opcodes.ObjectType) refl

    both_stop : IsRefused accesses scope depth (size_of p) (w, suc steps) e after × IsRefused accesses scope depth (object_type p) (w, suc steps) e after
    both_stop = ((term_begins accesses (task scope depth (size_of p))).paid w steps ∙ size_stops, (term_begins accesses (task scope depth (object_type p))).paid w steps ∙ type_stops)

  term_lost : (e : Refusal) (u : Tree) (w : State S) (steps : ℕ) → IsReferring u → (r : Reference) (after : State S × ℕ) → GivesValue accesses scope depth u (w, steps) (value.Reference r) after → target_referent (targets.Refers r) after.0 ≡ (Err e, after.0)
      → IsRefused accesses scope depth (size_of (inner u)) (w, suc steps) e after × IsRefused accesses scope depth (object_type (inner u)) (w, suc steps) e after
  term_lost e u w steps refers r after gives none =
      both_stop e (inner u) w steps after (λ op. ap (λ m. m (w, steps)) (value_is_asked op u refers) ∙ value_leads_nowhere e u (value.Reference r) r (w, steps) after gives refl none)

  pub term_without_end : (u : Tree) (w : State S) (steps : ℕ) → IsReferring u → (r : Reference) (after : State S × ℕ) → GivesValue accesses scope depth u (w, steps) (value.Reference r) after → HasNoEnd after.0 r
      → IsRefused accesses scope depth (size_of (inner u)) (w, suc steps) (refusal.Evaluation DeadReference) after × IsRefused accesses scope depth (object_type (inner u)) (w, suc steps) (refusal.Evaluation DeadReference) after
  term_without_end u w steps refers r after gives none = term_lost (refusal.Evaluation DeadReference) u w steps refers r after gives (no_end_is_found after.0 r none)

  pub term_unfound : (u : Tree) (w : State S) (steps : ℕ) → IsReferring u → (r : Reference) (after : State S × ℕ) → GivesValue accesses scope depth u (w, steps) (value.Reference r) after → (e : Refusal) → EndsUnfound after.0 r e
      → IsRefused accesses scope depth (size_of (inner u)) (w, suc steps) e after × IsRefused accesses scope depth (object_type (inner u)) (w, suc steps) e after
  term_unfound u w steps refers r after gives e lost = term_lost e u w steps refers r after gives (an_unfound_end_is_refused after.0 r e lost)

  target_leads_nowhere : (e : Refusal) (w : State S) (steps : ℕ) (op : Opcode) (p : Part) (t : StoreTarget) → NamesTarget scope w p t → target_referent t w ≡ (Err e, w) → referent_at accesses (meaning accesses) scope depth (counting op p) (w, steps) ≡ (Err e, (w, steps))
  unfolding lift
  target_leads_nowhere e w steps op p t names lost = rw (part_asked accesses scope depth w steps op p t names, lost) refl

  holder_leads_nowhere : (e : Refusal) (p : Part) (w : State S) (steps : ℕ) (t : StoreTarget) (r : Reference) → NamesTarget scope w p t → TargetHolds w t (value.Reference r) → target_referent (targets.Refers r) w ≡ (Err e, w)
      → IsRefused accesses scope depth (size_of p) (w, suc steps) e (w, steps) × IsRefused accesses scope depth (object_type p) (w, suc steps) e (w, steps)
  holder_leads_nowhere e p w steps t r names holds none = both_stop e p w steps (w, steps) (λ op. target_leads_nowhere e w steps op p t names (holder_lost w e t (value.Reference r) r holds refl none))

  pub holder_without_end : (p : Part) (w : State S) (steps : ℕ) (t : StoreTarget) (r : Reference) → NamesTarget scope w p t → TargetHolds w t (value.Reference r) → HasNoEnd w r
      → IsRefused accesses scope depth (size_of p) (w, suc steps) (refusal.Evaluation DeadReference) (w, steps) × IsRefused accesses scope depth (object_type p) (w, suc steps) (refusal.Evaluation DeadReference) (w, steps)
  holder_without_end p w steps t r names holds none = holder_leads_nowhere (refusal.Evaluation DeadReference) p w steps t r names holds (no_end_is_found w r none)

  pub holder_unfound : (p : Part) (w : State S) (steps : ℕ) (t : StoreTarget) (r : Reference) → NamesTarget scope w p t → TargetHolds w t (value.Reference r) → (e : Refusal) → EndsUnfound w r e
      → IsRefused accesses scope depth (size_of p) (w, suc steps) e (w, steps) × IsRefused accesses scope depth (object_type p) (w, suc steps) e (w, steps)
  holder_unfound p w steps t r names holds e lost = holder_leads_nowhere e p w steps t r names holds (an_unfound_end_is_refused w r e lost)

  -- ---- a name that isn't found

  name_lost : (w : State S) (steps : ℕ) (op : Opcode) (n : Name) (e : Refusal) → found w.names.map scope n ≡ Err e → referent_at accesses (meaning accesses) scope depth (counting op (name n)) (w, steps) ≡ (Err e, (w, steps))
  unfolding referent_of_target name_target target_named path_found settle lift go_on ◌>>=◌
  name_lost w steps op n e lost = rw lost refl

  pub name_unfound : (w : State S) (steps : ℕ) (n : Name) (e : Refusal) → found w.names.map scope n ≡ Err e → IsRefused accesses scope depth (size_of (name n)) (w, suc steps) e (w, steps) × IsRefused accesses scope depth (object_type (name n)) (w, suc steps) e (w, steps)
  name_unfound w steps n e lost = both_stop e (name n) w steps (w, steps) (λ op. name_lost w steps op n e lost)
