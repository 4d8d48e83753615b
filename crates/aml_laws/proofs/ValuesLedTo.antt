-- What values lead to in the end; SizeOf and ObjectType of a RefOf, a DerefOf or an Index that is refused.
use Rattle.std.specs.Prelude.{◌≡◌, ◌≢◌, ℕ, suc, List, Ok, Err, refl}
use Rattle.std.proofs.Common.{◌∙◌}
use Rattle.ar_space.specs.Accesses.{Accesses}
use Rattle.ar_space.specs.Change.{give, settle, go_on, ◌>>=◌}
use Rattle.ar_space.specs.declared.refusal.Refusal.{Refusal}
use Rattle.aml_path.specs.declared.segment.Seg.{Seg}
use Rattle.aml_grammar.specs.Tree.{Tree, inner}
use Rattle.aml_objects.specs.declared.value.Reference.{Reference}
use Rattle.aml_objects.specs.declared.value.Value.{Value}
use Rattle.aml_objects.specs.declared.value.Value.TheVariants as value
use Rattle.aml_world.specs.declared.values.object_type.Referent.{Referent}
use Rattle.aml_world.specs.declared.values.object_type.Referent.TheVariants as referent
use Rattle.aml_world.specs.state.Run.{lift}
use Rattle.aml_world.specs.state.State.{State}
use Rattle.aml_world.specs.values.StoreTargets.{value_followed, followed}
use Rattle.aml_meaning.specs.Evaluation.{rule}
use Rattle.aml_meaning.specs.Meaning.{meaning}
use Rattle.aml_meaning.specs.OperatorTerms.{referent_of_value, referent_at, size_rule, type_rule}
use Rattle.aml_meaning.specs.Tasks.{task, operand_value}
use Rattle.aml_laws.specs.OperatorTerms.{IsRefused}
use Rattle.aml_laws.specs.ReferringTerms.{size_of, object_type}
use Rattle.aml_laws.specs.TargetsNamed.{IsReferring, of_refof, of_derefof, of_index, EndsAt, to_itself, through_references, to_nothing}
use Rattle.aml_laws.proofs.ReferenceChains.{chain_followed}
use Rattle.aml_laws.proofs.ReferencesRead.{an_empty_end_is_found}
use Rattle.aml_laws.proofs.TreesCost.{term_begins}

module _ {S : Type 0} (w : State S) where
  itself : (v : Value) → ((r : Reference) → v ≢ value.Reference r) → value_followed (followed 64) v w ≡ (Ok (referent.Value v), w)
  unfolding give
  itself value.Uninitialized other = refl
  itself (value.Integer n) other = refl
  itself (value.String o) other = refl
  itself (value.Buffer o) other = refl
  itself (value.Package o) other = refl
  itself (value.Reference r) other = absurd (other r refl)

  pub leads_so : (v : Value) (x : Referent) → EndsAt w v x → value_followed (followed 64) v w ≡ (Ok x, w)
  leads_so _ _ (to_itself v other) = itself v other
  leads_so _ _ (through_references r k x chain few) = chain_followed w k 64 r x chain few
  leads_so _ _ (to_nothing r q k leads few empty) = an_empty_end_is_found w k r q leads few empty

module _ {S : Type 0} (accesses : Accesses S) (scope : List Seg) (depth : ℕ) where
  size_asks : (u : Tree) → IsReferring u → referent_at accesses (meaning accesses) scope depth (size_of (inner u)) ≡ referent_of_value accesses (meaning accesses) scope depth u
  size_asks _ (of_refof ps) = refl
  size_asks _ (of_derefof ps) = refl
  size_asks _ (of_index ps) = refl

  type_asks : (u : Tree) → IsReferring u → referent_at accesses (meaning accesses) scope depth (object_type (inner u)) ≡ referent_of_value accesses (meaning accesses) scope depth u
  type_asks _ (of_refof ps) = refl
  type_asks _ (of_derefof ps) = refl
  type_asks _ (of_index ps) = refl

module _ {S : Type 0} (accesses : Accesses S) (scope : List Seg) (depth : ℕ) (u : Tree) (w : State S) (steps : ℕ) where
  module _ (refers : IsReferring u) (e : Refusal) (after : State S × ℕ) (stops : IsRefused accesses scope depth u (w, steps) e after) where
    nothing_asked : referent_of_value accesses (meaning accesses) scope depth u (w, steps) ≡ (Err e, after)
    unfolding referent_of_value operand_value settle lift go_on ◌>>=◌
    nothing_asked = rw stops refl

    size_stops : rule accesses (meaning accesses) (task scope depth (size_of (inner u))) (w, steps) ≡ (Err e, after)
    unfolding rule size_rule go_on ◌>>=◌
    size_stops = rw (size_asks accesses scope depth u refers, nothing_asked) refl

    type_stops : rule accesses (meaning accesses) (task scope depth (object_type (inner u))) (w, steps) ≡ (Err e, after)
    unfolding rule type_rule go_on ◌>>=◌
    type_stops = rw (type_asks accesses scope depth u refers, nothing_asked) refl

    pub leads_nowhere : IsRefused accesses scope depth (size_of (inner u)) (w, suc steps) e after × IsRefused accesses scope depth (object_type (inner u)) (w, suc steps) e after
    leads_nowhere = ((term_begins accesses (task scope depth (size_of (inner u)))).paid w steps ∙ size_stops, (term_begins accesses (task scope depth (object_type (inner u)))).paid w steps ∙ type_stops)
