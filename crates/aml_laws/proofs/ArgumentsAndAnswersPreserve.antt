-- Taking arguments in and handing an answer out preserve every world relation.
use Rattle.std.specs.Prelude.{Bool, ◌≡◌, ℕ, zero, suc, List, [], ◌∷◌, ◌++◌, length, take, Ok, Err, refl}
use Rattle.std.proofs.Common.{sym, ◌∙◌, ap, subst}
use Rattle.ar_space.specs.Accesses.{Accesses}
use Rattle.ar_space.specs.Outcome.{Outcome}
use Rattle.ar_space.specs.Change.{Change}
use Rattle.aml_path.specs.declared.segment.Seg.{Seg}
use Rattle.aml_path.specs.Paths.{Name}
use Rattle.aml_objects.specs.Objects.{Objects}
use Rattle.aml_objects.specs.declared.value.Value.{Value}
use Rattle.aml_objects.specs.declared.value.Value.TheVariants as value
use Rattle.aml_objects.specs.declared.value.Reference.{Reference}
use Rattle.aml_objects.specs.declared.value.Reference.TheVariants as reference
use Rattle.aml_objects.specs.declared.object.Element.{Element}
use Rattle.aml_objects.specs.declared.object.Element.TheVariants as element
use Rattle.aml_world.specs.declared.state.name_use.NameUse.{NameUse}
use Rattle.aml_world.specs.declared.state.name_use.NameUse.TheVariants as uses
use Rattle.aml_world.specs.state.Given.{Given, Nothing, Integer, Text, Bytes, Package, Named, Reference as Unnamed, Givens, none, more}
use Rattle.aml_world.specs.state.State.{State, on_objects}
use Rattle.aml_world.specs.state.Run.{Run}
use Rattle.aml_world.specs.state.Readings.{integer_kept, entry_found}
use Rattle.aml_world.specs.state.Importing.{reference_to, imported_by, each_imported, elements_imported, package_imported, taken_back, imported, all_imported}
use Rattle.aml_world.specs.state.NameUses.{path_of, name_use}
use Rattle.aml_meaning.specs.Exporting.{text_exported, bytes_exported, reference_exported, value_exported, use_exported, name_exported, held_exported, element_exported, each_exported, elements_exported, package_exported, exported}
use Rattle.aml_laws.specs.Kinds.{KeepsKinds}
use Rattle.aml_laws.proofs.Preorders.{Preorder, Respects, give_respects, stop_respects, then_respects}
use Rattle.aml_laws.proofs.ObjectKinds.{KeepsObjectKinds, kinds_reflexive, kinds_transitive, kinds_of_front, make_string_keeps_kinds, make_buffer_keeps_kinds, make_package_keeps_kinds, string_at_keeps_kinds, buffer_at_keeps_kinds, elements_at_keeps_kinds}
use Rattle.aml_laws.proofs.WorldRelations.{Levels, WorldRelationOf, Preserves, RunPreserves, RunPreservesBy, unchanged_preserves, give_preserves, then_preserves, on_objects_preserves, run_give_preserves, run_stop_preserves, lift_preserves, charge_preserves, run_then_preserves}
use Rattle.aml_laws.proofs.FieldUnitsFound.{units_used, lift_finds, name_use_finds}
use Rattle.aml_laws.proofs.KnownFieldUnits.{by_any, give_by, found_then}
use Rattle.aml_laws.proofs.FieldsPreserve.{field_given_preserves}
use Rattle.aml_laws.proofs.OperandsAndCallsPreserve.{called_at_preserves, called_at_asks}
use Rattle.aml_laws.proofs.RulesPreserve.{meaning_parts_lead}

-- ---- arguments make objects, and change nothing else

record OnlyMakesObjects {S : Type 0} (w v : State S) : Type 0 where
  is : v ≡ record w { objects = v.objects }
  kinds : KeepsKinds w.objects v.objects

making_transitive : {S : Type 0} (w v u : State S) → OnlyMakesObjects w v → OnlyMakesObjects v u → OnlyMakesObjects w u
making_transitive {S} w v u h i = record { is = i.is ∙ ap {A = State S} (λ x. record x { objects = u.objects }) h.is; kinds = kinds_transitive _ _ _ h.kinds i.kinds }

making_reflexive : {S : Type 0} (w : State S) → OnlyMakesObjects w w
making_reflexive w = record { is = refl; kinds = kinds_reflexive w.objects }

abbrev making_preorder : (S : Type 0) → Preorder (State S)
making_preorder S = record { Leads = OnlyMakesObjects; reflexive = making_reflexive; transitive = making_transitive }

module _ {S : Type 0} where
  on_objects_respects : {A : Type 0} (m : Change Objects A) → KeepsObjectKinds m → Respects (making_preorder S) (on_objects m)
  unfolding on_objects
  on_objects_respects m h = record { respects = λ w. record { is = refl; kinds = h.respects w.objects } }

  integer_kept_respects : (n : ℕ) → Respects (making_preorder S) (integer_kept n)
  unfolding integer_kept
  integer_kept_respects n = record { respects = making_reflexive }

  reference_to_respects : (p : List Seg) → Respects (making_preorder S) (reference_to p)
  unfolding reference_to entry_found
  reference_to_respects p = then_respects _ _ (record { respects = making_reflexive }) (λ e. give_respects _)

  module _ (pack : Givens → Change (State S) Value) (packs : (gs : Givens) → Respects (making_preorder S) (pack gs)) where
    imported_by_respects : (g : Given) → Respects (making_preorder S) (imported_by pack g)
    imported_by_respects Nothing = give_respects _
    imported_by_respects (Integer n) = integer_kept_respects n
    imported_by_respects (Text bytes) = on_objects_respects _ (make_string_keeps_kinds bytes)
    imported_by_respects (Bytes bytes) = on_objects_respects _ (make_buffer_keeps_kinds bytes)
    imported_by_respects (Package gs) = packs gs
    imported_by_respects (Named p) = reference_to_respects p
    imported_by_respects Unnamed = stop_respects _

    each_imported_respects : (gs : Givens) (done : List Element) → Respects (making_preorder S) (each_imported pack gs done)
    unfolding each_imported
    each_imported_respects none done = give_respects _
    each_imported_respects (more g gs) done = then_respects _ _ (imported_by_respects g) (λ v. each_imported_respects gs _)

    elements_imported_respects : (gs : Givens) → Respects (making_preorder S) (elements_imported pack gs)
    unfolding elements_imported
    elements_imported_respects gs = then_respects _ _ (each_imported_respects gs []) (λ es. on_objects_respects _ (make_package_keeps_kinds es))

  package_imported_respects : (n : ℕ) (gs : Givens) → Respects (making_preorder S) (package_imported n gs)
  unfolding package_imported
  package_imported_respects zero gs = stop_respects _
  package_imported_respects (suc n) gs = elements_imported_respects (package_imported n) (package_imported_respects n) gs

-- a refused argument makes no object
taken_back_preserves : {S : Type 0} {listed : Bool} {accesses : Accesses S} (relation : WorldRelationOf listed accesses) (w : State S) (r : Outcome Value) (v : State S) → OnlyMakesObjects w v → relation.Leads w (taken_back (length w.objects) (r, v)).1
taken_back_preserves relation w (Ok a) v m = subst (relation.Leads w) (sym m.is) (relation.objects_change w _ m.kinds)
taken_back_preserves {S} relation w (Err e) v m = subst (relation.Leads w) (sym (ap {A = State S} (λ x. record x { objects = take (length w.objects) v.objects }) m.is)) (relation.objects_change w _ (kinds_of_front _ _ m.kinds))

module _ {S : Type 0} {listed : Bool} {accesses : Accesses S} {relation : WorldRelationOf listed accesses} where
  imported_preserves : (g : Given) → Preserves relation (imported g)
  unfolding imported
  imported_preserves g = record { preserves = λ w. taken_back_preserves relation w (imported_by (package_imported 64) g w).0 (imported_by (package_imported 64) g w).1 ((imported_by_respects (package_imported 64) (package_imported_respects 64) g).respects w) }

  pub all_imported_preserves : (gs : List Given) (done : List Value) → Preserves relation (all_imported gs done)
  unfolding all_imported
  all_imported_preserves [] done = give_preserves _
  all_imported_preserves (g ∷ gs) done = then_preserves _ _ (imported_preserves g) (λ v. all_imported_preserves gs _)

  -- ---- answers

  text_exported_preserves : (o : ℕ) → RunPreserves relation (text_exported o)
  unfolding text_exported
  text_exported_preserves o = run_then_preserves _ _ (lift_preserves _ (on_objects_preserves _ (string_at_keeps_kinds o))) (λ bytes. run_give_preserves _)

  bytes_exported_preserves : (o : ℕ) → RunPreserves relation (bytes_exported o)
  unfolding bytes_exported
  bytes_exported_preserves o = run_then_preserves _ _ (lift_preserves _ (on_objects_preserves _ (buffer_at_keeps_kinds o))) (λ bytes. run_give_preserves _)

  path_of_preserves : (n : ℕ) → Preserves relation (path_of n)
  unfolding path_of
  path_of_preserves n = unchanged_preserves _ (λ w. refl)

  reference_exported_preserves : (r : Reference) → RunPreserves relation (reference_exported r)
  unfolding reference_exported
  reference_exported_preserves (reference.Name n) = lift_preserves _ (path_of_preserves n)
  reference_exported_preserves (reference.Slot slot n) = run_give_preserves _
  reference_exported_preserves (reference.Element o i) = run_give_preserves _
  reference_exported_preserves (reference.Byte o i) = run_give_preserves _

  name_use_preserves : (n : Name) (scope : List Seg) → Preserves relation (name_use n scope)
  unfolding name_use
  name_use_preserves n scope = unchanged_preserves _ (λ w. refl)

module _ {S : Type 0} {accesses : Accesses S} (levels : Levels accesses) (out : ℕ → Run S Given) (outs : (o : ℕ) → RunPreserves (levels.at 1) (out o)) where
  value_exported_preserves : (v : Value) → RunPreserves (levels.at 1) (value_exported accesses out v)
  unfolding value_exported
  value_exported_preserves value.Uninitialized = run_give_preserves _
  value_exported_preserves (value.Integer n) = run_give_preserves _
  value_exported_preserves (value.String o) = text_exported_preserves o
  value_exported_preserves (value.Buffer o) = bytes_exported_preserves o
  value_exported_preserves (value.Package o) = outs o
  value_exported_preserves (value.Reference r) = reference_exported_preserves r

  use_exported_preserves : (u : NameUse) → RunPreservesBy (levels.at 1) (units_used u ++ []) (use_exported accesses out u)
  unfolding use_exported
  use_exported_preserves (uses.Value v) = by_any [] _ (value_exported_preserves v)
  use_exported_preserves (uses.Field u) = field_given_preserves _ (called_at_preserves _ (meaning_parts_lead levels) {level = 1} 1) (called_at_asks _ (meaning_parts_lead levels) {level = 1} 1) [] u
  use_exported_preserves (uses.Path p) = give_by _

  name_exported_preserves : (n : Name) (scope : List Seg) → RunPreserves (levels.at 1) (name_exported accesses out n scope)
  unfolding name_exported
  name_exported_preserves n scope = found_then _ _ (lift_preserves _ (name_use_preserves n scope)) (lift_finds _ (name_use_finds n scope)) (λ u. use_exported_preserves u)

  held_exported_preserves : (e : Element) → RunPreserves (levels.at 1) (held_exported accesses out e)
  unfolding held_exported
  held_exported_preserves (element.Value v) = value_exported_preserves v
  held_exported_preserves (element.Name n scope) = name_exported_preserves n scope

  element_exported_preserves : (e : Element) → RunPreserves (levels.at 1) (element_exported accesses out e)
  unfolding element_exported
  element_exported_preserves e = run_then_preserves _ _ charge_preserves (λ u. held_exported_preserves e)

  each_exported_preserves : (es : List Element) (done : List Given) → RunPreserves (levels.at 1) (each_exported accesses out es done)
  unfolding each_exported
  each_exported_preserves [] done = run_give_preserves _
  each_exported_preserves (e ∷ es) done = run_then_preserves _ _ (element_exported_preserves e) (λ g. each_exported_preserves es _)

  elements_exported_preserves : (o : ℕ) → RunPreserves (levels.at 1) (elements_exported accesses out o)
  unfolding elements_exported
  elements_exported_preserves o = run_then_preserves _ _ (lift_preserves _ (on_objects_preserves _ (elements_at_keeps_kinds o))) (λ es. run_then_preserves _ _ (each_exported_preserves es []) (λ gs. run_give_preserves _))

module _ {S : Type 0} {accesses : Accesses S} (levels : Levels accesses) where
  package_exported_preserves : (n o : ℕ) → RunPreserves (levels.at 1) (package_exported accesses n o)
  unfolding package_exported
  package_exported_preserves zero o = run_stop_preserves _
  package_exported_preserves (suc n) o = elements_exported_preserves levels _ (package_exported_preserves n) o

  pub exported_preserves : (v : Value) → RunPreserves (levels.at 1) (exported accesses v)
  unfolding exported
  exported_preserves v = value_exported_preserves levels _ (package_exported_preserves 64) v
