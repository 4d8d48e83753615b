-- Taking arguments in and handing an answer out maintain that integers are below two to the width.
use Rattle.std.specs.Prelude.{◌≡◌, ◌<◌, ◌^◌, ℕ, zero, suc, List, [], ◌∷◌, length, take, slice_get, Option, Some, None, Ok, Err, refl}
use Rattle.ar_space.specs.declared.integer_width.IntegerWidth.{IntegerWidth}
use Rattle.ar_space.specs.Accesses.{Accesses}
use Rattle.ar_space.specs.Outcome.{Outcome, seen}
use Rattle.ar_space.specs.Change.{Change}
use Rattle.aml_path.specs.declared.segment.Seg.{Seg}
use Rattle.aml_path.specs.Paths.{Name, resolved}
use Rattle.aml_objects.specs.declared.value.Value.{Value}
use Rattle.aml_objects.specs.declared.value.Value.TheVariants as value
use Rattle.aml_objects.specs.declared.value.Reference.{Reference}
use Rattle.aml_objects.specs.declared.value.Reference.TheVariants as reference
use Rattle.aml_objects.specs.declared.object.Element.{Element}
use Rattle.aml_objects.specs.declared.object.Element.TheVariants as element
use Rattle.aml_objects.specs.declared.entry.Entry.{Entry}
use Rattle.aml_objects.specs.declared.entry.NamedObject.{NamedObject}
use Rattle.aml_objects.specs.declared.entry.NamedObject.TheVariants as object
use Rattle.aml_convert.specs.Integers.{bits_of}
use Rattle.aml_namespace.specs.Namespace.{numbered}
use Rattle.aml_namespace.specs.Search.{Found, found}
use Rattle.aml_world.specs.declared.state.invocation.Invocation.{Invocation}
use Rattle.aml_world.specs.declared.state.invocation.Invocation.TheVariants as invocations
use Rattle.aml_world.specs.declared.state.name_use.NameUse.{NameUse}
use Rattle.aml_world.specs.declared.state.name_use.NameUse.TheVariants as uses
use Rattle.aml_world.specs.state.Given.{Given, Nothing, Integer, Text, Bytes, Package, Named, Reference as Unnamed, Givens, none, more, givens}
use Rattle.aml_world.specs.state.State.{State}
use Rattle.aml_world.specs.state.Run.{Run}
use Rattle.aml_world.specs.state.Readings.{absolute}
use Rattle.aml_world.specs.state.Importing.{reference_to, imported_by, each_imported, elements_imported, package_imported, taken_back, imported, all_imported}
use Rattle.aml_world.specs.state.NameUses.{standing, path_of, value_or_path, held_or_path, use_of, name_use}
use Rattle.aml_meaning.specs.Meaning.{meaning}
use Rattle.aml_meaning.specs.Exporting.{text_exported, bytes_exported, reference_exported, value_exported, use_exported, name_exported, held_exported, element_exported, each_exported, elements_exported, package_exported, exported}
use Rattle.aml_meaning.specs.Calling.{ending, with_steps, invocation_exported, answer_exported, answered}
use Rattle.aml_laws.specs.Handed.{AllHanded, PlainGiven, GivenWithin}
use Rattle.aml_laws.proofs.FoundNamesStand.{FoundStands, found_stands}
use Rattle.aml_laws.proofs.Invariants.{Maintained, Maintains, ok_fits, ok_maintained, err_maintained, settled_maintained, give_maintains, stop_maintains, then_maintains, weaker_maintains, each_push}
use Rattle.aml_laws.proofs.ValuesOfObjects.{make_string_maintains, make_buffer_maintains, make_package_maintains, string_at_maintains, buffer_at_maintains, elements_at_maintains}
use Rattle.aml_laws.proofs.ValuesOfWorlds.{WorldWithin, on_objects_maintains, integer_kept_maintains, entry_found_maintains}
use Rattle.aml_laws.proofs.ValuesOfFields.{RunWithin, lift_maintains, charge_maintains}
use Rattle.aml_laws.proofs.ValuesOfOperands.{InvocationFits, invocation_found_maintains, called_field_given_maintains}
use Rattle.aml_laws.proofs.ValuesOfRules.{meaning_parts}
use Rattle.aml_laws.proofs.IntegersOfTables.{ending_maintains, with_steps_maintains, value_of_maintains}
use Rattle.aml_laws.specs.AllWithin.{Each, AllWithin}
use Rattle.aml_laws.proofs.Claims.{Claim, integers_within, ValueFits, DeclaredFits, ElementFits, ObjectsFit, NamedFits}
use Rattle.aml_laws.proofs.IntegersClaimed.{world_claimed, world_within}
use Rattle.aml_objects.specs.Objects.{Objects}
use Rattle.aml_objects.specs.declared.object.Object.{Object}
use Rattle.std.proofs.Common.{arith}

-- ---- arguments

abbrev K : IntegerWidth → Claim
K width = integers_within width

abbrev PlainGivens : Givens → Type 0
PlainGivens gs = AllHanded (λ n. Unit {0}) gs

module _ (S : Type 0) (width : IntegerWidth) where
  reference_to_maintains : (p : List Seg) → Maintains (WorldWithin S (K width)) (ValueFits (K width)) (reference_to p)
  unfolding reference_to
  reference_to_maintains p = then_maintains _ _ (entry_found_maintains S (K width) [] (absolute p)) (λ e f. give_maintains _ tt)

  module _ (pack : Givens → Change (State S) Value) (packs : (gs : Givens) → PlainGivens gs → Maintains (WorldWithin S (K width)) (ValueFits (K width)) (pack gs)) where
    imported_by_maintains : (g : Given) → PlainGiven g → Maintains (WorldWithin S (K width)) (ValueFits (K width)) (imported_by pack g)
    imported_by_maintains Nothing h = give_maintains _ tt
    imported_by_maintains (Integer n) h = integer_kept_maintains S (K width) n
    imported_by_maintains (Text bytes) h = on_objects_maintains S (K width) _ (make_string_maintains (K width) bytes (λ m. h))
    imported_by_maintains (Bytes bytes) h = on_objects_maintains S (K width) _ (make_buffer_maintains (K width) bytes (λ m. h))
    imported_by_maintains (Package gs) h = packs gs h
    imported_by_maintains (Named p) h = reference_to_maintains p
    imported_by_maintains Unnamed h = stop_maintains _

    each_imported_maintains : (gs : Givens) (done : List Element) → PlainGivens gs → Each (ElementFits (K width)) done → Maintains (WorldWithin S (K width)) (Each (ElementFits (K width))) (each_imported pack gs done)
    unfolding each_imported
    each_imported_maintains none done h f = give_maintains _ f
    each_imported_maintains (more g gs) done h f = then_maintains _ _ (imported_by_maintains g h.0) (λ v k. each_imported_maintains gs _ h.1 (each_push (ElementFits (K width)) done (element.Value v) f k))

    elements_imported_maintains : (gs : Givens) → PlainGivens gs → Maintains (WorldWithin S (K width)) (ValueFits (K width)) (elements_imported pack gs)
    unfolding elements_imported
    elements_imported_maintains gs h = then_maintains _ _ (each_imported_maintains gs [] h tt) (λ es f. on_objects_maintains S (K width) _ (make_package_maintains (K width) es f))

  package_imported_maintains : (n : ℕ) (gs : Givens) → PlainGivens gs → Maintains (WorldWithin S (K width)) (ValueFits (K width)) (package_imported n gs)
  unfolding package_imported
  package_imported_maintains zero gs h = stop_maintains _
  package_imported_maintains (suc n) gs h = elements_imported_maintains (package_imported n) (package_imported_maintains n) gs h

  taken_at : (k : ℕ) (objects : Objects) (n : ℕ) (o : Object) → slice_get (take k objects) n ≡ Some o → slice_get objects n ≡ Some o
  taken_at zero objects n o at = absurd (cc at)
  taken_at (suc k) [] n o at = at
  taken_at (suc k) (x ∷ xs) zero o at = at
  taken_at (suc k) (x ∷ xs) (suc n) o at = taken_at k xs n o at

  -- a refused argument makes no object
  fewer_objects_claimed : (count : ℕ) (objects : Objects) → ObjectsFit (K width) objects → ObjectsFit (K width) (take count objects)
  fewer_objects_claimed count objects h = record { fit = λ n o at. h.fit n o (taken_at count objects n o at); kept = λ n o at. tt; enough = omega arith; unused = λ n le. tt }

  taken_back_maintained : (count : ℕ) (r : Outcome Value) (w : State S) → Maintained (WorldWithin S (K width)) (ValueFits (K width)) (r, w) → Maintained (WorldWithin S (K width)) (ValueFits (K width)) (taken_back count (r, w))
  taken_back_maintained count (Ok v) w g = g
  taken_back_maintained count (Err e) w g = err_maintained e _ (record { wide = g.state.wide; names = g.state.names; objects = fewer_objects_claimed count w.objects g.state.objects; frames = g.state.frames; next = g.state.next; latest = g.state.latest })

  imported_maintains : (g : Given) → PlainGiven g → Maintains (WorldWithin S (K width)) (ValueFits (K width)) (imported g)
  unfolding imported
  imported_maintains g h = record { maintains = λ w a. taken_back_maintained (length w.objects) (imported_by (package_imported 64) g w).0 (imported_by (package_imported 64) g w).1 ((imported_by_maintains (package_imported 64) (package_imported_maintains 64) g h).maintains w a) }

  all_imported_maintains : (gs : List Given) (done : List Value) → Each PlainGiven gs → Each (ValueFits (K width)) done → Maintains (WorldWithin S (K width)) (Each (ValueFits (K width))) (all_imported gs done)
  unfolding all_imported
  all_imported_maintains [] done h f = give_maintains _ f
  all_imported_maintains (g ∷ gs) done h f = then_maintains _ _ (imported_maintains g h.0) (λ v k. all_imported_maintains gs _ h.1 (each_push (ValueFits (K width)) done v f k))

-- ---- names as elements

module _ (width : IntegerWidth) where
  abbrev UseFits : NameUse → Type 0
  UseFits (uses.Value v) = ValueFits (K width) v
  UseFits (uses.Field f) = DeclaredFits (K width) f
  UseFits (uses.Path p) = Unit {0}

  path_use_fits : (p : Outcome (List Seg)) (u : NameUse) → seen uses.Path p ≡ Ok u → UseFits u
  path_use_fits (Ok q) u e = ok_fits UseFits _ u e tt
  path_use_fits (Err x) u e = absurd (cc e)

  value_use_fits : (v : Value) (p : Outcome (List Seg)) (u : NameUse) → ValueFits (K width) v → value_or_path v p ≡ Ok u → UseFits u
  value_use_fits value.Uninitialized p u h e = ok_fits UseFits _ u e h
  value_use_fits (value.Integer n) p u h e = ok_fits UseFits _ u e h
  value_use_fits (value.String o) p u h e = ok_fits UseFits _ u e h
  value_use_fits (value.Buffer o) p u h e = ok_fits UseFits _ u e h
  value_use_fits (value.Package o) p u h e = ok_fits UseFits _ u e h
  value_use_fits (value.Reference r) p u h e = path_use_fits p u e

  held_use_fits : (o : NamedObject) (p : Outcome (List Seg)) (u : NameUse) → NamedFits (K width) o → held_or_path o p ≡ Ok u → UseFits u
  held_use_fits (object.Data v) p u h e = value_use_fits v p u h e
  held_use_fits (object.FieldUnit f) p u h e = ok_fits UseFits _ u e h
  held_use_fits (object.BufferField b) p u h e = ok_fits UseFits _ u e h
  held_use_fits _ p u h e = path_use_fits p u e

module _ (S : Type 0) (width : IntegerWidth) where
  found_use_fits : (w : State S) (r : Outcome Found) (would_be : Outcome (List Seg)) (u : NameUse) → WorldWithin S (K width) w → ((f : Found) → r ≡ Ok f → FoundStands w.names.map f) → use_of (seen (λ f. f.1) r) (seen (λ f. f.0) r) would_be ≡ Ok u → UseFits width u
  found_use_fits w (Ok f) would_be u a s e = held_use_fits width f.1.object _ u (a.names f.0 f.1 (s f refl).there) e
  found_use_fits w (Err x) would_be u a s e = path_use_fits width would_be u e

  name_use_maintains : (n : Name) (scope : List Seg) → Maintains (WorldWithin S (K width)) (UseFits width) (name_use n scope)
  unfolding name_use
  name_use_maintains n scope = record { maintains = λ w a. settled_maintained _ w a (λ u e. found_use_fits w (found w.names.map scope n) (resolved n scope) u a (found_stands w.names.map scope n) e) }

  -- ---- answers

  text_exported_maintains : (o : ℕ) → Maintains (RunWithin S (K width)) (GivenWithin width) (text_exported o)
  unfolding text_exported
  text_exported_maintains o = then_maintains _ _ (lift_maintains S (K width) _ (on_objects_maintains S (K width) _ (string_at_maintains (K width) o))) (λ bytes h. give_maintains _ (h tt).0)

  bytes_exported_maintains : (o : ℕ) → Maintains (RunWithin S (K width)) (GivenWithin width) (bytes_exported o)
  unfolding bytes_exported
  bytes_exported_maintains o = then_maintains _ _ (lift_maintains S (K width) _ (on_objects_maintains S (K width) _ (buffer_at_maintains (K width) o))) (λ bytes h. give_maintains _ (h tt).0)

  standing_fits : (o : Option (List Seg × Entry)) → GivenWithin width (standing o)
  standing_fits None = tt
  standing_fits (Some e) = tt

  path_of_maintains : (n : ℕ) → Maintains (WorldWithin S (K width)) (GivenWithin width) (path_of n)
  unfolding path_of
  path_of_maintains n = record { maintains = λ w a. ok_maintained _ w a (standing_fits (numbered n w.names.map)) }

  reference_exported_maintains : (r : Reference) → Maintains (RunWithin S (K width)) (GivenWithin width) (reference_exported r)
  unfolding reference_exported
  reference_exported_maintains (reference.Name n) = lift_maintains S (K width) _ (path_of_maintains n)
  reference_exported_maintains (reference.Slot slot n) = give_maintains _ tt
  reference_exported_maintains (reference.Element o i) = give_maintains _ tt
  reference_exported_maintains (reference.Byte o i) = give_maintains _ tt

givens_fit : (width : IntegerWidth) (gs : List Given) → Each (GivenWithin width) gs → AllHanded (λ n. n < 2 ^ bits_of width) (givens gs)
givens_fit width [] h = tt
givens_fit width (g ∷ gs) h = (h.0, givens_fit width gs h.1)

module _ (S : Type 0) (width : IntegerWidth) (accesses : Accesses S) where
  module _ (out : ℕ → Run S Given) (outs : (o : ℕ) → Maintains (RunWithin S (K width)) (GivenWithin width) (out o)) where
    value_exported_maintains : (v : Value) → ValueFits (K width) v → Maintains (RunWithin S (K width)) (GivenWithin width) (value_exported accesses out v)
    unfolding value_exported
    value_exported_maintains value.Uninitialized f = give_maintains _ tt
    value_exported_maintains (value.Integer n) f = give_maintains _ (f tt)
    value_exported_maintains (value.String o) f = text_exported_maintains S width o
    value_exported_maintains (value.Buffer o) f = bytes_exported_maintains S width o
    value_exported_maintains (value.Package o) f = outs o
    value_exported_maintains (value.Reference r) f = reference_exported_maintains S width r

    use_exported_maintains : (u : NameUse) → UseFits width u → Maintains (RunWithin S (K width)) (GivenWithin width) (use_exported accesses out u)
    unfolding use_exported
    use_exported_maintains (uses.Value v) f = value_exported_maintains v f
    use_exported_maintains (uses.Field u) f = weaker_maintains _ (λ g k. k tt) (called_field_given_maintains S (K width) accesses (meaning accesses) (meaning_parts S (K width) accesses) 1 u f)
    use_exported_maintains (uses.Path p) f = give_maintains _ tt

    held_exported_maintains : (e : Element) → ElementFits (K width) e → Maintains (RunWithin S (K width)) (GivenWithin width) (held_exported accesses out e)
    unfolding held_exported name_exported
    held_exported_maintains (element.Value v) f = value_exported_maintains v f
    held_exported_maintains (element.Name n scope) f = then_maintains _ _ (lift_maintains S (K width) _ (name_use_maintains S width n scope)) (λ u g. use_exported_maintains u g)

    each_exported_maintains : (es : List Element) (done : List Given) → Each (ElementFits (K width)) es → Each (GivenWithin width) done → Maintains (RunWithin S (K width)) (Each (GivenWithin width)) (each_exported accesses out es done)
    unfolding each_exported element_exported
    each_exported_maintains [] done f h = give_maintains _ h
    each_exported_maintains (e ∷ es) done f h = then_maintains _ _ (then_maintains _ _ (charge_maintains S (K width)) (λ step u. held_exported_maintains e f.0)) (λ g k. each_exported_maintains es _ f.1 (each_push (GivenWithin width) done g h k))

    elements_exported_maintains : (o : ℕ) → Maintains (RunWithin S (K width)) (GivenWithin width) (elements_exported accesses out o)
    unfolding elements_exported
    elements_exported_maintains o = then_maintains _ _ (lift_maintains S (K width) _ (on_objects_maintains S (K width) _ (elements_at_maintains (K width) o tt))) (λ es f. then_maintains _ _ (each_exported_maintains es [] f.0 tt) (λ gs h. give_maintains _ (givens_fit width gs h)))

  package_exported_maintains : (n o : ℕ) → Maintains (RunWithin S (K width)) (GivenWithin width) (package_exported accesses n o)
  unfolding package_exported
  package_exported_maintains zero o = stop_maintains _
  package_exported_maintains (suc n) o = elements_exported_maintains (package_exported accesses n) (package_exported_maintains n) o

  exported_maintains : (v : Value) → ValueFits (K width) v → Maintains (RunWithin S (K width)) (GivenWithin width) (exported accesses v)
  unfolding exported
  exported_maintains v f = value_exported_maintains (package_exported accesses 64) (package_exported_maintains 64) v f

  invocation_exported_maintains : (i : Invocation) (vs : List Value) → InvocationFits (K width) i → Each (ValueFits (K width)) vs → Maintains (RunWithin S (K width)) (GivenWithin width) (invocation_exported accesses i vs)
  invocation_exported_maintains (invocations.Value v) vs f g = then_maintains _ _ (value_of_maintains S width accesses (invocations.Value v) vs f g) (λ v k. exported_maintains v k)
  invocation_exported_maintains (invocations.Field u) vs f g = weaker_maintains _ (λ g k. k tt) (called_field_given_maintains S (K width) accesses (meaning accesses) (meaning_parts S (K width) accesses) 1 u f)
  invocation_exported_maintains (invocations.Method p body) vs f g = then_maintains _ _ (value_of_maintains S width accesses (invocations.Method p body) vs f g) (λ v k. exported_maintains v k)
  invocation_exported_maintains invocations.Osi vs f g = then_maintains _ _ (value_of_maintains S width accesses invocations.Osi vs f g) (λ v k. exported_maintains v k)

  answer_exported_maintains : (p : List Seg) (count : ℕ) (arguments : List Given) → Each PlainGiven arguments → Maintains (RunWithin S (K width)) (GivenWithin width) (answer_exported accesses p count arguments)
  unfolding answer_exported
  answer_exported_maintains p count arguments h =
      then_maintains _ _ (lift_maintains S (K width) _ (invocation_found_maintains S (K width) _ _ _)) (λ i f. then_maintains _ _ (lift_maintains S (K width) _ (all_imported_maintains S width arguments [] h tt)) (λ vs g. invocation_exported_maintains i vs f g))

pub answer_within : {S : Type 0} (width : IntegerWidth) (accesses : Accesses S) (p : List Seg) (arguments : List Given) (steps : ℕ) (w : State S) → Each PlainGiven arguments → AllWithin width w → AllWithin width (answered accesses p arguments steps w).1
unfolding answered
answer_within {S} width accesses p arguments steps w h a =
    world_within width _ ((ending_maintains S width accesses _ (with_steps_maintains S width accesses steps _ (weaker_maintains _ (λ g k. tt) (answer_exported_maintains S width accesses p (length arguments) arguments h)))).maintains w (world_claimed width w a)).state

pub answer_value_within : {S : Type 0} (width : IntegerWidth) (accesses : Accesses S) (p : List Seg) (arguments : List Given) (steps : ℕ) (w : State S) (x : Given) → Each PlainGiven arguments → AllWithin width w → (answered accesses p arguments steps w).0 ≡ Ok x → GivenWithin width x
unfolding answered ending with_steps
answer_value_within {S} width accesses p arguments steps w x h a e = ((answer_exported_maintains S width accesses p (length arguments) arguments h).maintains (w, steps) (world_claimed width w a)).gives x e
