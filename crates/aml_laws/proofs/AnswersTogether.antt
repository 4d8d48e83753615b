-- Taking arguments in and handing an answer out go the same way over two register spaces.
use Rattle.std.specs.Prelude.{◌≡◌, ℕ, zero, suc, List, [], ◌∷◌, length, Ok, Err, refl}
use Rattle.ar_space.specs.Accesses.{Accesses}
use Rattle.ar_space.specs.declared.refusal.Refusal.{Refusal}
use Rattle.ar_space.specs.Outcome.{Outcome}
use Rattle.ar_space.specs.Change.{Change}
use Rattle.aml_path.specs.declared.segment.Seg.{Seg}
use Rattle.aml_path.specs.Paths.{Name}
use Rattle.aml_objects.specs.declared.value.Value.{Value}
use Rattle.aml_objects.specs.declared.value.Value.TheVariants as value
use Rattle.aml_objects.specs.declared.value.Reference.{Reference}
use Rattle.aml_objects.specs.declared.value.Reference.TheVariants as reference
use Rattle.aml_objects.specs.declared.object.Element.{Element}
use Rattle.aml_objects.specs.declared.object.Element.TheVariants as element
use Rattle.aml_world.specs.declared.state.name_use.NameUse.{NameUse}
use Rattle.aml_world.specs.declared.state.name_use.NameUse.TheVariants as uses
use Rattle.aml_world.specs.state.Given.{Given, Nothing, Integer, Text, Bytes, Package, Named, Reference as Unnamed, Givens, none, more}
use Rattle.aml_world.specs.state.State.{State}
use Rattle.aml_world.specs.state.Run.{Run}
use Rattle.aml_world.specs.state.Importing.{reference_to, imported_by, each_imported, elements_imported, package_imported, taken_back, imported, all_imported}
use Rattle.aml_world.specs.state.NameUses.{path_of, name_use}
use Rattle.aml_meaning.specs.Exporting.{text_exported, bytes_exported, reference_exported, value_exported, use_exported, name_exported, held_exported, element_exported, each_exported, elements_exported, package_exported, exported}
use Rattle.aml_laws.proofs.Together.{IsEnded, Sides, Together, give_together, plain, stop_together, then_together, wrapped_together, Raise}
use Rattle.aml_laws.proofs.WorldsTogether.{charge_together, lift_together, objects_together, runs, world_over, worlds}
use Rattle.aml_laws.proofs.ChangesTogether.{entry_found_together, integer_kept_together}
use Rattle.aml_laws.proofs.FieldsTogether.{field_given_together}
use Rattle.aml_laws.proofs.OperandsTogether.{called_at_together}
use Rattle.aml_laws.proofs.Levels.{in_body}
use Rattle.aml_laws.proofs.MeaningTogether.{meaning_parts}

-- ---- arguments

module _ {S T : Type 0} {accesses : Accesses S} {accesses2 : Accesses T} {side : Sides accesses accesses2} where
  reference_to_together : (p : List Seg) → Together side worlds (reference_to p) (reference_to p)
  unfolding reference_to
  reference_to_together p = then_together (entry_found_together _ _) (λ e. give_together _)

  module _ {pack : Givens → Change (State S) Value} {pack2 : Givens → Change (State T) Value} (packs : (gs : Givens) → Together side worlds (pack gs) (pack2 gs)) where
    imported_by_together : (g : Given) → Together side worlds (imported_by pack g) (imported_by pack2 g)
    imported_by_together Nothing = give_together _
    imported_by_together (Integer n) = integer_kept_together n
    imported_by_together (Text bytes) = objects_together _
    imported_by_together (Bytes bytes) = objects_together _
    imported_by_together (Package gs) = packs gs
    imported_by_together (Named p) = reference_to_together p
    imported_by_together Unnamed = stop_together _

    each_imported_together : (gs : Givens) (done : List Element) → Together side worlds (each_imported pack gs done) (each_imported pack2 gs done)
    unfolding each_imported
    each_imported_together none done = give_together _
    each_imported_together (more g gs) done = then_together (imported_by_together g) (λ v. each_imported_together gs _)

    elements_imported_together : (gs : Givens) → Together side worlds (elements_imported pack gs) (elements_imported pack2 gs)
    unfolding elements_imported
    elements_imported_together gs = then_together (each_imported_together gs []) (λ es. objects_together _)

  package_imported_together : (n : ℕ) (gs : Givens) → Together side worlds (package_imported n gs) (package_imported n gs)
  unfolding package_imported
  package_imported_together zero gs = stop_together _
  package_imported_together (suc n) gs = elements_imported_together (package_imported_together n) gs

-- a refused argument makes no object
taken_back_space : {S : Type 0} (count : ℕ) (p : Outcome Value × State S) → (taken_back count p).1.space ≡ p.1.space
taken_back_space count (Ok v, w) = refl
taken_back_space count (Err e, w) = refl

taken_back_over : {S T : Type 0} (raise : Raise) (count : ℕ) (r : Outcome Value) (w : State S) (t : T) → taken_back count (r, world_over raise w t) ≡ ((taken_back count (r, w)).0, world_over raise (taken_back count (r, w)).1 t)
taken_back_over raise count (Ok v) w t = refl
taken_back_over raise count (Err e) w t = refl

taken_back_ended : {S : Type 0} (Ends : Refusal → Type 0) (count : ℕ) (r : Outcome Value) (w : State S) → IsEnded Ends r → IsEnded Ends (taken_back count (r, w)).0
taken_back_ended Ends count (Ok v) w h = absurd h
taken_back_ended Ends count (Err e) w h = h

module _ {S T : Type 0} {accesses : Accesses S} {accesses2 : Accesses T} {side : Sides accesses accesses2} where
  imported_together : (g : Given) → Together side worlds (imported g) (imported g)
  unfolding imported
  imported_together g = wrapped_together (λ w. w) (λ w. w) (λ w p. taken_back (length w.objects) p) (λ w p. taken_back (length w.objects) p)
      (λ w. refl) (λ w. refl) (λ w t. refl) (λ w p. taken_back_space _ p) (λ w q. taken_back_space _ q) (λ w u r v t. taken_back_over side.raise _ r v t) (λ w p e. taken_back_ended _ _ p.0 p.1 e) (imported_by_together (package_imported_together 64) g)

  pub all_imported_together : (gs : List Given) (done : List Value) → Together side worlds (all_imported gs done) (all_imported gs done)
  unfolding all_imported
  all_imported_together [] done = give_together _
  all_imported_together (g ∷ gs) done = then_together (imported_together g) (λ v. all_imported_together gs _)

  -- ---- answers

  text_exported_together : (o : ℕ) → Together side runs (text_exported o) (text_exported o)
  unfolding text_exported
  text_exported_together o = then_together (lift_together (objects_together _)) (λ bytes. give_together _)

  bytes_exported_together : (o : ℕ) → Together side runs (bytes_exported o) (bytes_exported o)
  unfolding bytes_exported
  bytes_exported_together o = then_together (lift_together (objects_together _)) (λ bytes. give_together _)

  path_of_together : (n : ℕ) → Together side worlds (path_of n) (path_of n)
  unfolding path_of
  path_of_together n = plain (λ w. refl) (λ w. refl) (λ w t. refl)

  reference_exported_together : (r : Reference) → Together side runs (reference_exported r) (reference_exported r)
  unfolding reference_exported
  reference_exported_together (reference.Name n) = lift_together (path_of_together n)
  reference_exported_together (reference.Slot slot n) = give_together _
  reference_exported_together (reference.Element o i) = give_together _
  reference_exported_together (reference.Byte o i) = give_together _

  name_use_together : (n : Name) (scope : List Seg) → Together side worlds (name_use n scope) (name_use n scope)
  unfolding name_use
  name_use_together n scope = plain (λ w. refl) (λ w. refl) (λ w t. refl)

module _ {S T : Type 0} {accesses : Accesses S} {accesses2 : Accesses T} {side : Sides accesses accesses2} {out : ℕ → Run S Given} {out2 : ℕ → Run T Given} (outs : (o : ℕ) → Together side runs (out o) (out2 o)) where
  value_exported_together : (v : Value) → Together side runs (value_exported accesses out v) (value_exported accesses2 out2 v)
  unfolding value_exported
  value_exported_together value.Uninitialized = give_together _
  value_exported_together (value.Integer n) = give_together _
  value_exported_together (value.String o) = text_exported_together o
  value_exported_together (value.Buffer o) = bytes_exported_together o
  value_exported_together (value.Package o) = outs o
  value_exported_together (value.Reference r) = reference_exported_together r

  use_exported_together : (u : NameUse) → Together side runs (use_exported accesses out u) (use_exported accesses2 out2 u)
  unfolding use_exported
  use_exported_together (uses.Value v) = value_exported_together v
  use_exported_together (uses.Field u) = field_given_together (λ q. in_body side 1 refl (called_at_together meaning_parts 1 q)) u
  use_exported_together (uses.Path p) = give_together _

  name_exported_together : (n : Name) (scope : List Seg) → Together side runs (name_exported accesses out n scope) (name_exported accesses2 out2 n scope)
  unfolding name_exported
  name_exported_together n scope = then_together (lift_together (name_use_together n scope)) (λ u. use_exported_together u)

  held_exported_together : (e : Element) → Together side runs (held_exported accesses out e) (held_exported accesses2 out2 e)
  unfolding held_exported
  held_exported_together (element.Value v) = value_exported_together v
  held_exported_together (element.Name n scope) = name_exported_together n scope

  element_exported_together : (e : Element) → Together side runs (element_exported accesses out e) (element_exported accesses2 out2 e)
  unfolding element_exported
  element_exported_together e = then_together charge_together (λ u. held_exported_together e)

  each_exported_together : (es : List Element) (done : List Given) → Together side runs (each_exported accesses out es done) (each_exported accesses2 out2 es done)
  unfolding each_exported
  each_exported_together [] done = give_together _
  each_exported_together (e ∷ es) done = then_together (element_exported_together e) (λ g. each_exported_together es _)

  elements_exported_together : (o : ℕ) → Together side runs (elements_exported accesses out o) (elements_exported accesses2 out2 o)
  unfolding elements_exported
  elements_exported_together o = then_together (lift_together (objects_together _)) (λ es. then_together (each_exported_together es []) (λ gs. give_together _))

module _ {S T : Type 0} {accesses : Accesses S} {accesses2 : Accesses T} {side : Sides accesses accesses2} where
  package_exported_together : (n o : ℕ) → Together side runs (package_exported accesses n o) (package_exported accesses2 n o)
  unfolding package_exported
  package_exported_together zero o = stop_together _
  package_exported_together (suc n) o = elements_exported_together (package_exported_together n) o

  pub exported_together : (v : Value) → Together side runs (exported accesses v) (exported accesses2 v)
  unfolding exported
  exported_together v = value_exported_together (package_exported_together 64) v
