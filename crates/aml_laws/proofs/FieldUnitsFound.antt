-- Whatever finds a field unit finds one that stands.
use Rattle.std.specs.Prelude.{◌≡◌, ℕ, zero, suc, List, [], ◌∷◌, Bool, true, false, Option, Some, None, Ok, Err, refl, if◌then◌else◌}
use Rattle.std.specs.FinMap.{get}
use Rattle.std.proofs.Common.{ap, subst, sym, ◌∙◌}
use Rattle.std.proofs.lemmas.List.Elements.{All-nil, All-cons}
use Rattle.ar_space.specs.declared.refusal.Refusal.{Refusal}
use Rattle.ar_space.specs.declared.refusal.Refusal.TheVariants as refusal
use Rattle.ar_space.specs.declared.refusal.NamespaceFault.TheVariants.{NotFound}
use Rattle.ar_space.specs.Outcome.{Outcome, seen}
use Rattle.ar_space.specs.Change.{Change, give, settle, stop, go_on, ◌>>=◌}
use Rattle.aml_path.specs.declared.segment.Seg.{Seg}
use Rattle.aml_path.specs.Paths.{Name, resolved}
use Rattle.aml_objects.specs.declared.value.Reference.{Reference}
use Rattle.aml_objects.specs.declared.value.Reference.TheVariants as reference
use Rattle.aml_objects.specs.declared.value.Slot.{Slot}
use Rattle.aml_objects.specs.declared.value.Slot.TheVariants.{Local, Argument}
use Rattle.aml_objects.specs.declared.value.Value.{Value}
use Rattle.aml_objects.specs.declared.value.Value.TheVariants as value
use Rattle.aml_objects.specs.declared.object.Element.{Element}
use Rattle.aml_objects.specs.declared.object.Element.TheVariants as element
use Rattle.aml_objects.specs.declared.entry.Entry.{Entry}
use Rattle.aml_objects.specs.declared.entry.Field.TheVariants as field
use Rattle.aml_objects.specs.declared.entry.FieldSource.{FieldSource}
use Rattle.aml_objects.specs.declared.entry.FieldSource.TheVariants as sources
use Rattle.aml_objects.specs.declared.entry.FieldUnit.{FieldUnit}
use Rattle.aml_objects.specs.declared.entry.MethodBody.{MethodBody}
use Rattle.aml_objects.specs.declared.entry.MethodBody.TheVariants.{Osi, Aml}
use Rattle.aml_objects.specs.declared.entry.NamedObject.{NamedObject}
use Rattle.aml_objects.specs.declared.entry.NamedObject.TheVariants as object
use Rattle.aml_namespace.specs.Namespace.{Map, numbered}
use Rattle.aml_namespace.specs.Search.{Found, found}
use Rattle.aml_namespace.proofs.Numbering.{numbered_stands}
use Rattle.aml_world.specs.declared.state.invocation.Invocation.{Invocation}
use Rattle.aml_world.specs.declared.state.name_use.NameUse.{NameUse}
use Rattle.aml_world.specs.declared.state.name_use.NameUse.TheVariants as uses
use Rattle.aml_world.specs.declared.values.object_type.Referent.{Referent}
use Rattle.aml_world.specs.declared.values.object_type.Referent.TheVariants as referent
use Rattle.aml_world.specs.declared.fields.regions.RegionField.{RegionField}
use Rattle.aml_world.specs.declared.values.store_target.Held.{Held}
use Rattle.aml_world.specs.declared.values.store_target.Held.TheVariants as held
use Rattle.aml_world.specs.declared.values.store_target.Holding.{Holding}
use Rattle.aml_world.specs.declared.values.store_target.Holding.TheVariants as holding
use Rattle.aml_world.specs.declared.values.store_target.Stored.{Stored}
use Rattle.aml_world.specs.declared.values.store_target.Stored.TheVariants as store
use Rattle.aml_world.specs.declared.values.store_target.StoreTarget.{StoreTarget}
use Rattle.aml_world.specs.declared.values.store_target.StoreTarget.TheVariants as targets
use Rattle.aml_world.specs.state.State.{State}
use Rattle.aml_world.specs.state.Run.{Run, lift}
use Rattle.aml_world.specs.state.Readings.{entry_found, read_as}
use Rattle.aml_world.specs.fields.Regions.{region_field, field_of_object, field_declared}
use Rattle.aml_world.specs.state.Invocations.{invocation_of_body, invocation_of_object, invocation_of}
use Rattle.aml_world.specs.state.NameUses.{value_or_path, held_or_path, use_of, name_use}
use Rattle.aml_world.specs.values.Searches.{unless_uninitialized, where_named, name_held, held_by, element_held}
use Rattle.aml_world.specs.values.StoreTargets.{holding_of, holding_in, held_at, declaration, once, declared_once, value_once, slot_once, named_once, name_once, element_once, held_once, byte_once, dereferenced, held_in, name_read, held_in_slot, target_read, referent_of, byte_followed, value_followed, referent_followed, declared_followed, slot_followed, element_named, name_followed, element_followed, held_followed, reference_followed, followed, most_references, slot_referent, referent_in, declared_referent, name_referent, target_referent}
use Rattle.aml_world.specs.values.Stores.{copy_into_slot, copy_into_name, copy_into_element, copy_over, store_integer, store_text, store_bytes, store_package, store_over_value, store_over, store_byte, copy_into_declared, store_in_declared, store_over_slot, store_in_frame, store_in_frame_numbered, store_at_reference, stored_through, store_to, store_in_slot, store_in_name, stored, copy_in_name, copied_to}
use Rattle.aml_world.specs.values.FormedStores.{is_integer, is_string, is_buffer, formed_over_value, formed_over, formed_in_name, formed_in_declared, formed_to}
use Rattle.aml_laws.specs.Histories.{numbered_entry, FieldUnitStands, LiesInRegion, by_field}
use Rattle.aml_laws.proofs.FoundNamesStand.{FoundStands, found_stands}
use Rattle.aml_laws.proofs.LocatedRegions.{Gives, then_gives, declaration_found}
use Rattle.aml_laws.proofs.WorldRelations.{FieldUnitsStand, units_of_field, units_invoked}

-- ---- what changes one after another find

-- what it gives names field units that stand in what it leaves, where those that are given stand before
pub record FindsFrom {H A : Type 0} (names : H → Map) (given : List FieldUnit) (units : A → List FieldUnit) (m : Change H A) : Type 0 where
  pub finds : (h : H) → FieldUnitsStand (names h) given → (a : A) → (m h).0 ≡ Ok a → FieldUnitsStand (names (m h).1) (units a)

module _ {H : Type 0} {names : H → Map} where
  pub give_finds : {A : Type 0} {units : A → List FieldUnit} (a : A) → FindsFrom names (units a) units (give a)
  unfolding give
  give_finds {units = units} a = record { finds = λ h all b e. let same : a ≡ b = cc e in subst (λ x. FieldUnitsStand (names h) (units x)) same all }

  pub give_none : {A : Type 0} {given : List FieldUnit} {units : A → List FieldUnit} (a : A) → units a ≡ [] → FindsFrom names given units (give a)
  unfolding give
  give_none {units = units} a none = record { finds = λ h all b e. let same : a ≡ b = cc e in subst (λ x. FieldUnitsStand (names h) (units x)) same (subst (FieldUnitsStand (names h)) (sym none) (All-nil _)) }

  pub stop_finds : {A : Type 0} {given : List FieldUnit} {units : A → List FieldUnit} (e : Refusal) → FindsFrom names given units (stop e)
  unfolding stop
  stop_finds x = record { finds = λ h all b e. absurd (cc e) }

  pub settle_finds : {A : Type 0} {given : List FieldUnit} {units : A → List FieldUnit} (r : Outcome A) → ((a : A) → r ≡ Ok a → units a ≡ given) → FindsFrom names given units (settle r)
  unfolding settle
  settle_finds r alike = record { finds = λ h all a e. subst (FieldUnitsStand (names h)) (sym (alike a e)) all }

  pub same_finds : {A : Type 0} {given : List FieldUnit} {units other : A → List FieldUnit} (m : Change H A) → FindsFrom names given units m → ((a : A) → other a ≡ units a) → FindsFrom names given other m
  same_finds m h alike = record { finds = λ w all a e. subst (FieldUnitsStand (names (m w).1)) (sym (alike a)) (h.finds w all a e) }

  go_on_finds : {A B : Type 0} (units : A → List FieldUnit) (more : B → List FieldUnit) (r : Outcome A) (h : H) (k : A → Change H B) → ((a : A) → r ≡ Ok a → FieldUnitsStand (names h) (units a)) → ((a : A) → FindsFrom names (units a) more (k a)) → (b : B) → (go_on r h k).0 ≡ Ok b
      → FieldUnitsStand (names (go_on r h k).1) (more b)
  unfolding go_on
  go_on_finds units more (Ok a) h k all each b e = (each a).finds h (all a refl) b e
  go_on_finds units more (Err x) h k all each b e = absurd (cc e)

  pub then_finds : {A B : Type 0} {given : List FieldUnit} {units : A → List FieldUnit} {more : B → List FieldUnit} (m : Change H A) (k : A → Change H B) → FindsFrom names given units m → ((a : A) → FindsFrom names (units a) more (k a)) → FindsFrom names given more (m >>= k)
  unfolding ◌>>=◌
  then_finds {units = units} {more = more} m k f each = record { finds = λ h all b e. go_on_finds units more (m h).0 (m h).1 k (f.finds h all) each b e }

  -- whatever comes first
  pub last_finds : {A B : Type 0} {given : List FieldUnit} {more : B → List FieldUnit} (m : Change H A) (k : A → Change H B) → ((a : A) → FindsFrom names [] more (k a)) → FindsFrom names given more (m >>= k)
  last_finds {A = A} m k each = then_finds {units = λ (a : A). []} m k (record { finds = λ h all a e. All-nil _ }) each

abbrev pub names_of_world : {S : Type 0} → State S → Map
names_of_world w = w.names.map

abbrev pub names_of_run : {S : Type 0} → State S × ℕ → Map
names_of_run s = s.0.names.map

-- what changes of the world find, and evaluations
abbrev pub Finds : {S A : Type 0} → List FieldUnit → (A → List FieldUnit) → Change (State S) A → Type 0
Finds given units m = FindsFrom names_of_world given units m

abbrev pub RunFinds : {S A : Type 0} → (A → List FieldUnit) → Run S A → Type 0
RunFinds units m = FindsFrom names_of_run [] units m

pub lift_finds : {S A : Type 0} {units : A → List FieldUnit} (m : Change (State S) A) → Finds [] units m → RunFinds units (lift m)
unfolding lift
lift_finds m h = record { finds = λ s all a e. h.finds s.0 all a e }

-- ---- names

-- the field unit that an object is
abbrev pub units_of_object : NamedObject → List FieldUnit
units_of_object (object.FieldUnit u) = u ∷ []
units_of_object _ = []

object_stands : (names : Map) (path : List Seg) (e : Entry) (o : NamedObject) → get names path ≡ Some e → e.object ≡ o → FieldUnitsStand names (units_of_object o)
object_stands names path e (object.FieldUnit u) at is = All-cons (FieldUnitStands names) u [] (record { path = path; number = e.number; there = at ∙ ap (λ o. Some (numbered_entry e.number o)) is }) (All-nil _)
object_stands names path e _ at is = All-nil _

seen_stands : (m : Map) (r : Outcome Found) (e : Entry) → ((f : Found) → r ≡ Ok f → FoundStands m f) → seen (λ (f : Found). f.1) r ≡ Ok e → FieldUnitsStand m (units_of_object e.object)
seen_stands m (Ok f) e stands is = let same : f.1 ≡ e = cc is in object_stands m f.0 e e.object ((stands f refl).there ∙ ap Some same) refl
seen_stands m (Err x) e stands is = absurd (cc is)

module _ {S : Type 0} where
  pub declaration_finds : (n : ℕ) → Finds {S = S} [] (λ x. units_of_object x.1.object) (declaration n)
  unfolding declaration
  declaration_finds n = record { finds = λ w all x e. object_stands w.names.map x.0 x.1 x.1.object (numbered_stands w.names.map n x (declaration_found (numbered n w.names.map) x e)) refl }

  pub entry_found_finds : (scope : List Seg) (n : Name) → Finds {S = S} [] (λ e. units_of_object e.object) (entry_found scope n)
  unfolding entry_found
  entry_found_finds scope n = record { finds = λ w all e is. seen_stands w.names.map (found w.names.map scope n) e (found_stands w.names.map scope n) is }

-- what an outcome names
abbrev units_in : {A : Type 0} → (A → List FieldUnit) → Outcome A → List FieldUnit
units_in units (Ok a) = units a
units_in units (Err x) = []

named_alike : {A : Type 0} (units : A → List FieldUnit) (r : Outcome A) (a : A) (us : List FieldUnit) → units_in units r ≡ us → r ≡ Ok a → units a ≡ us
named_alike units r a us alike e = ap (units_in units) (sym e) ∙ alike

-- ---- what is invoked

invoked_by_body : (p : List Seg) (b : MethodBody) → units_in units_invoked (invocation_of_body p b) ≡ []
invoked_by_body p Osi = refl
invoked_by_body p (Aml body) = refl

invoked_alike : (p : List Seg) (n : ℕ) (o : NamedObject) → units_in units_invoked (invocation_of_object p n o) ≡ units_of_object o
invoked_alike p n (object.Method m) = invoked_by_body p m.body
invoked_alike p n _ = refl

invoked_stands : (m : Map) (r : Outcome Found) (i : Invocation) → ((f : Found) → r ≡ Ok f → FoundStands m f) → invocation_of r ≡ Ok i → FieldUnitsStand m (units_invoked i)
invoked_stands m (Ok f) i stands e =
    subst (FieldUnitsStand m) (sym (named_alike units_invoked (invocation_of_object f.0 f.1.number f.1.object) i _ (invoked_alike f.0 f.1.number f.1.object) e)) (object_stands m f.0 f.1 f.1.object (stands f refl).there refl)
invoked_stands m (Err x) i stands e = absurd (cc e)

pub invoked_field_stands : (m : Map) (scope : List Seg) (n : Name) (i : Invocation) → invocation_of (found m scope n) ≡ Ok i → FieldUnitsStand m (units_invoked i)
invoked_field_stands m scope n i e = invoked_stands m (found m scope n) i (found_stands m scope n) e

-- ---- what a name is handed out as

abbrev pub units_used : NameUse → List FieldUnit
units_used (uses.Field f) = units_of_field f
units_used _ = []

path_names_none : (r : Outcome (List Seg)) → units_in units_used (seen uses.Path r) ≡ []
path_names_none (Ok p) = refl
path_names_none (Err x) = refl

value_names_none : (v : Value) (r : Outcome (List Seg)) → units_in units_used (value_or_path v r) ≡ []
value_names_none (value.Reference x) r = path_names_none r
value_names_none _ r = refl

use_alike : (o : NamedObject) (r : Outcome (List Seg)) → units_in units_used (held_or_path o r) ≡ units_of_object o
use_alike (object.Data v) r = value_names_none v r
use_alike (object.FieldUnit u) r = refl
use_alike (object.BufferField b) r = refl
use_alike _ r = path_names_none r

use_stands : (m : Map) (r : Outcome Found) (would_be : Outcome (List Seg)) (u : NameUse) → ((f : Found) → r ≡ Ok f → FoundStands m f) → use_of (seen (λ (f : Found). f.1) r) (seen (λ (f : Found). f.0) r) would_be ≡ Ok u → FieldUnitsStand m (units_used u)
use_stands m (Ok f) would_be u stands e = subst (FieldUnitsStand m) (sym (named_alike units_used (held_or_path f.1.object (Ok f.0)) u _ (use_alike f.1.object (Ok f.0)) e)) (object_stands m f.0 f.1 f.1.object (stands f refl).there refl)
use_stands m (Err x) would_be u stands e = subst (FieldUnitsStand m) (sym (named_alike units_used (seen uses.Path would_be) u _ (path_names_none would_be) e)) (All-nil _)

pub name_use_finds : {S : Type 0} (n : Name) (scope : List Seg) → Finds {S = S} [] units_used (name_use n scope)
unfolding name_use
name_use_finds n scope = record { finds = λ w all u e. use_stands w.names.map (found w.names.map scope n) (resolved n scope) u (found_stands w.names.map scope n) e }

-- ---- the field unit of a region with a number

abbrev pub unit_alone : RegionField → List FieldUnit
unit_alone f = f.unit ∷ []

abbrev pub LiesInItsRegion : RegionField → Type 0
LiesInItsRegion f = LiesInRegion f.unit.source f.region

region_field_lies : (u : FieldUnit) (source : FieldSource) (f : RegionField) → u.source ≡ source → region_field source u ≡ Ok f → LiesInItsRegion f
region_field_lies u (sources.Region n) f is e = let same : record { region = n; unit = u } ≡ f = cc e in subst LiesInItsRegion same (subst (λ x. LiesInRegion x n) (sym is) (by_field n))
region_field_lies u (sources.Index i d) f is e = absurd (cc e)
region_field_lies u (sources.Bank n b) f is e = absurd (cc e)

field_lies : (o : NamedObject) (f : RegionField) → field_of_object o ≡ Ok f → LiesInItsRegion f
field_lies (object.FieldUnit u) f e = region_field_lies u u.source f refl e
field_lies _ f e = absurd (cc e)

region_field_alike : (u : FieldUnit) (source : FieldSource) (f : RegionField) → region_field source u ≡ Ok f → unit_alone f ≡ u ∷ []
region_field_alike u (sources.Region n) f e = let same : record { region = n; unit = u } ≡ f = cc e in ap unit_alone (sym same)
region_field_alike u (sources.Index i d) f e = absurd (cc e)
region_field_alike u (sources.Bank n b) f e = absurd (cc e)

field_alike : (o : NamedObject) (f : RegionField) → field_of_object o ≡ Ok f → unit_alone f ≡ units_of_object o
field_alike (object.FieldUnit u) f e = region_field_alike u u.source f e
field_alike _ f e = absurd (cc e)

module _ {S : Type 0} where
  pub field_declared_finds : (n : ℕ) → Finds {S = S} [] unit_alone (field_declared n)
  unfolding field_declared
  field_declared_finds n = then_finds _ _ (declaration_finds n) (λ x. settle_finds (field_of_object x.1.object) (λ f e. field_alike x.1.object f e))

  pub field_declared_lies : (n : ℕ) → Gives {H = State S} LiesInItsRegion (field_declared n)
  unfolding field_declared settle
  field_declared_lies n = then_gives _ _ (λ x. record { gives = λ w f e. field_lies x.1.object f e })

-- ---- what a target holds, one step on

abbrev pub units_held : Held → List FieldUnit
units_held (held.Field f) = units_of_field f
units_held (held.Value v) = []

abbrev units_holding : Holding → List FieldUnit
units_holding (holding.Field f) = units_of_field f
units_holding _ = []

holding_alike : (o : NamedObject) → units_holding (holding_of o) ≡ units_of_object o
holding_alike (object.FieldUnit u) = refl
holding_alike _ = refl

once_alike : (n : ℕ) (o : NamedObject) → units_held (once n o) ≡ units_of_object o
once_alike n (object.FieldUnit u) = refl
once_alike n _ = refl

named_once_alike : (n : ℕ) (o : NamedObject) → units_held (named_once n o) ≡ units_of_object o
named_once_alike n (object.FieldUnit u) = refl
named_once_alike n _ = refl

held_by_holding : (h : Holding) → units_in units_held (held_in h) ≡ units_holding h
held_by_holding (holding.Field f) = refl
held_by_holding _ = refl

held_at_stands : (m : Map) (p : List Seg) (o : Option Entry) (h : Holding) → get m p ≡ o → holding_in o ≡ Ok h → FieldUnitsStand m (units_holding h)
held_at_stands m p None h at e = absurd (cc e)
held_at_stands m p (Some x) h at e = let same : holding_of x.object ≡ h = cc e in subst (λ (y : Holding). FieldUnitsStand m (units_holding y)) same (subst (FieldUnitsStand m) (sym (holding_alike x.object)) (object_stands m p x x.object at refl))

module _ {S : Type 0} where
  held_at_finds : (p : List Seg) → Finds {S = S} [] units_holding (held_at p)
  unfolding held_at
  held_at_finds p = record { finds = λ w all h e. held_at_stands w.names.map p (get w.names.map p) h refl e }

  declared_once_finds : (n : ℕ) → Finds {S = S} [] units_held (declared_once n)
  unfolding declared_once
  declared_once_finds n = then_finds {units = λ x. units_held (once n x.1.object)} _ _ (same_finds _ (declaration_finds n) (λ x. once_alike n x.1.object)) (λ x. give_finds (once n x.1.object))

  value_once_finds : {given : List FieldUnit} (v : Value) → Finds {S = S} given units_held (value_once v)
  unfolding value_once
  value_once_finds v = last_finds _ _ (λ x. give_none (held.Value x) refl)

  element_once_finds : (e : Element) → Finds {S = S} [] units_held (element_once e)
  unfolding name_once
  element_once_finds (element.Value v) = value_once_finds v
  element_once_finds (element.Name n scope) = then_finds {units = λ e. units_held (named_once e.number e.object)} _ _ (same_finds _ (entry_found_finds scope n) (λ e. named_once_alike e.number e.object)) (λ e. give_finds (named_once e.number e.object))

  pub dereferenced_finds : (r : Reference) → Finds {S = S} [] units_held (dereferenced r)
  unfolding slot_once held_once byte_once
  dereferenced_finds (reference.Name n) = declared_once_finds n
  dereferenced_finds (reference.Slot slot n) = last_finds _ _ (λ k. last_finds _ _ (λ v. value_once_finds v))
  dereferenced_finds (reference.Element o i) = last_finds _ _ (λ e. element_once_finds e)
  dereferenced_finds (reference.Byte o i) = last_finds _ _ (λ b. give_none (held.Value (value.Integer b)) refl)

  pub target_read_finds : (at : StoreTarget) → Finds {S = S} [] units_held (target_read at)
  unfolding held_in_slot name_read
  target_read_finds targets.Nowhere = stop_finds _
  target_read_finds (targets.Slot slot) = last_finds _ _ (λ v. give_none (held.Value v) refl)
  target_read_finds (targets.Name p) = then_finds _ _ (held_at_finds p) (λ h. settle_finds (held_in h) (λ x e. named_alike units_held (held_in h) x _ (held_by_holding h) e))
  target_read_finds (targets.Refers r) = dereferenced_finds r

-- an element of a package that Match meets
abbrev pub units_held_if : Option Held → List FieldUnit
units_held_if None = []
units_held_if (Some h) = units_held h

where_named_stands : (m : Map) (r : Outcome Found) (o : Option Held) → ((f : Found) → r ≡ Ok f → FoundStands m f) → where_named (seen (λ (f : Found). f.1) r) ≡ Ok o → FieldUnitsStand m (units_held_if o)
where_named_stands m (Ok f) o stands e =
    let same : Some (named_once f.1.number f.1.object) ≡ o = cc e in
    subst (λ (x : Option Held). FieldUnitsStand m (units_held_if x)) same (subst (FieldUnitsStand m) (sym (named_once_alike f.1.number f.1.object)) (object_stands m f.0 f.1 f.1.object (stands f refl).there refl))
where_named_stands m (Err (refusal.Namespace NotFound)) o stands e = let same : None ≡ o = cc e in subst (λ (x : Option Held). FieldUnitsStand m (units_held_if x)) same (All-nil _)
where_named_stands m (Err _) o stands e = absurd (cc e)

unless_names_none : (v : Value) → units_held_if (unless_uninitialized v) ≡ []
unless_names_none (value.Integer n) = refl
unless_names_none _ = refl

module _ {S : Type 0} where
  held_by_finds : (e : Element) → Finds {S = S} [] units_held_if (held_by e)
  unfolding name_held
  held_by_finds (element.Value v) = give_none (unless_uninitialized v) (unless_names_none v)
  held_by_finds (element.Name n scope) = record { finds = λ w all o e. where_named_stands w.names.map (found w.names.map scope n) o (found_stands w.names.map scope n) e }

  pub element_held_finds : (o i : ℕ) → Finds {S = S} [] units_held_if (element_held o i)
  unfolding element_held
  element_held_finds o i = last_finds _ _ (λ e. held_by_finds e)

-- ---- what SizeOf and ObjectType speak of

abbrev pub units_referred : Referent → List FieldUnit
units_referred (referent.Field f) = units_of_field f
units_referred _ = []

referent_names_none : (o : NamedObject) → units_referred (referent_of o) ≡ []
referent_names_none (object.Data v) = refl
referent_names_none _ = refl

declared_names_none : (o : Option Entry) (r : Referent) → referent_in o ≡ Ok r → units_referred r ≡ []
declared_names_none None r e = absurd (cc e)
declared_names_none (Some x) r e = let same : referent_of x.object ≡ r = cc e in ap units_referred (sym same) ∙ referent_names_none x.object

module _ {S : Type 0} where
  module _ (follow : Reference → Change (State S) Referent) (follows : (r : Reference) → Finds [] units_referred (follow r)) where
    value_followed_finds : (v : Value) → Finds [] units_referred (value_followed follow v)
    value_followed_finds value.Uninitialized = give_none _ refl
    value_followed_finds (value.Integer n) = give_none _ refl
    value_followed_finds (value.String o) = give_none _ refl
    value_followed_finds (value.Buffer o) = give_none _ refl
    value_followed_finds (value.Package o) = give_none _ refl
    value_followed_finds (value.Reference r) = follows r

    referent_followed_finds : (r : Referent) → Finds (units_referred r) units_referred (referent_followed follow r)
    referent_followed_finds (referent.Value v) = value_followed_finds v
    referent_followed_finds (referent.Object t) = give_none _ refl
    referent_followed_finds (referent.Field u) = give_finds (referent.Field u)
    referent_followed_finds (referent.Bytes n) = give_none _ refl

    named_followed_finds : (o : NamedObject) → Finds [] units_referred (referent_followed follow (referent_of o))
    named_followed_finds o = subst (λ us. Finds us units_referred (referent_followed follow (referent_of o))) (referent_names_none o) (referent_followed_finds (referent_of o))

    element_named_finds : (n : ℕ) (o : NamedObject) → Finds (units_of_object o) units_referred (element_named follow n o)
    element_named_finds n (object.Data v) = value_followed_finds (read_as n v)
    element_named_finds n (object.FieldUnit u) = give_finds (referent.Field (field.Unit u))
    element_named_finds n (object.BufferField b) = give_none _ refl
    element_named_finds n _ = follows (reference.Name n)

    element_followed_finds : (e : Element) → Finds [] units_referred (element_followed follow e)
    unfolding name_followed
    element_followed_finds (element.Value v) = value_followed_finds v
    element_followed_finds (element.Name n scope) = then_finds _ _ (entry_found_finds scope n) (λ e. element_named_finds e.number e.object)

    reference_followed_finds : (r : Reference) → Finds [] units_referred (reference_followed follow r)
    unfolding declared_followed slot_followed held_followed byte_followed
    reference_followed_finds (reference.Name n) = last_finds _ _ (λ e. named_followed_finds e.1.object)
    reference_followed_finds (reference.Slot slot n) = last_finds _ _ (λ k. last_finds _ _ (λ v. value_followed_finds v))
    reference_followed_finds (reference.Element o i) = last_finds _ _ (λ e. element_followed_finds e)
    reference_followed_finds (reference.Byte o i) = last_finds _ _ (λ b. give_none _ refl)

  followed_finds : (n : ℕ) (r : Reference) → Finds {S = S} [] units_referred (followed n r)
  unfolding followed
  followed_finds zero r = stop_finds _
  followed_finds (suc n) r = reference_followed_finds (followed n) (followed_finds n) r

  pub value_referent_finds : (v : Value) → Finds {S = S} [] units_referred (value_followed (followed most_references) v)
  value_referent_finds v = value_followed_finds (followed most_references) (followed_finds most_references) v

  declared_referent_finds : (p : List Seg) → Finds {S = S} [] units_referred (declared_referent p)
  unfolding declared_referent
  declared_referent_finds p = record { finds = λ w all r e. subst (FieldUnitsStand w.names.map) (sym (declared_names_none (get w.names.map p) r e)) (All-nil _) }

  pub target_referent_finds : (at : StoreTarget) → Finds {S = S} [] units_referred (target_referent at)
  unfolding slot_referent name_referent
  target_referent_finds targets.Nowhere = give_none _ refl
  target_referent_finds (targets.Slot slot) = last_finds _ _ (λ v. value_referent_finds v)
  target_referent_finds (targets.Name p) = then_finds _ _ (declared_referent_finds p) (λ r. referent_followed_finds (followed most_references) (followed_finds most_references) r)
  target_referent_finds (targets.Refers r) = followed_finds most_references r

-- ---- what is stored to

abbrev pub units_stored : Stored → List FieldUnit
units_stored (store.Field f) = units_of_field f
units_stored store.Done = []

module _ {S : Type 0} where
  pub done_finds : {given : List FieldUnit} → Finds {S = S} given units_stored (give store.Done)
  done_finds = give_none store.Done refl

  copy_into_slot_finds : {given : List FieldUnit} (k : ℕ) (slot : Slot) (v : Value) → Finds {S = S} given units_stored (copy_into_slot k slot v)
  unfolding copy_into_slot
  copy_into_slot_finds k slot v = last_finds _ _ (λ c. last_finds _ _ (λ put. done_finds))

  pub copy_into_name_finds : {given : List FieldUnit} (p : List Seg) (v : Value) → Finds {S = S} given units_stored (copy_into_name p v)
  unfolding copy_into_name
  copy_into_name_finds p v = last_finds _ _ (λ c. last_finds _ _ (λ put. done_finds))

  copy_into_element_finds : {given : List FieldUnit} (o i : ℕ) (v : Value) → Finds {S = S} given units_stored (copy_into_element o i v)
  unfolding copy_into_element
  copy_into_element_finds o i v = last_finds _ _ (λ there. last_finds _ _ (λ c. last_finds _ _ (λ put. done_finds)))

  store_package_finds : {given : List FieldUnit} (p : List Seg) (v : Value) → Finds {S = S} given units_stored (store_package p v)
  store_package_finds p (value.Package o) = copy_into_name_finds p _
  store_package_finds p value.Uninitialized = stop_finds _
  store_package_finds p (value.Integer n) = stop_finds _
  store_package_finds p (value.String o) = stop_finds _
  store_package_finds p (value.Buffer o) = stop_finds _
  store_package_finds p (value.Reference r) = stop_finds _

  pub store_over_value_finds : {given : List FieldUnit} (old : Value) (p : List Seg) (v : Value) → Finds {S = S} given units_stored (store_over_value old p v)
  unfolding store_integer store_text store_bytes
  store_over_value_finds (value.Integer n) p v = last_finds _ _ (λ n. last_finds _ _ (λ put. done_finds))
  store_over_value_finds (value.String o) p v = last_finds _ _ (λ bytes. last_finds _ _ (λ put. done_finds))
  store_over_value_finds (value.Buffer o) p v = last_finds _ _ (λ bytes. last_finds _ _ (λ put. done_finds))
  store_over_value_finds (value.Package o) p v = store_package_finds p v
  store_over_value_finds (value.Reference r) p v = copy_into_name_finds p v
  store_over_value_finds value.Uninitialized p v = copy_into_name_finds p v

  store_over_finds : (h : Holding) (p : List Seg) (v : Value) → Finds {S = S} (units_holding h) units_stored (store_over h p v)
  store_over_finds (holding.Value old) p v = store_over_value_finds old p v
  store_over_finds (holding.Field f) p v = give_finds (store.Field f)
  store_over_finds holding.Nothing p v = stop_finds _

  copy_over_finds : (h : Holding) (p : List Seg) (v : Value) → Finds {S = S} (units_holding h) units_stored (copy_over h p v)
  copy_over_finds (holding.Value old) p v = copy_into_name_finds p v
  copy_over_finds (holding.Field f) p v = give_finds (store.Field f)
  copy_over_finds holding.Nothing p v = stop_finds _

  store_byte_finds : {given : List FieldUnit} (o i : ℕ) (v : Value) → Finds {S = S} given units_stored (store_byte o i v)
  unfolding store_byte
  store_byte_finds o i v = last_finds _ _ (λ old. last_finds _ _ (λ b. last_finds _ _ (λ put. done_finds)))

  -- what is done to what a declaration holds, and to what a name does
  pub over_declared_finds : (over : Holding → List Seg → Value → Change (State S) Stored) → ((h : Holding) (p : List Seg) (v : Value) → Finds (units_holding h) units_stored (over h p v)) → (n : ℕ) (v : Value) → Finds [] units_stored (declaration n >>= (λ e. over (holding_of e.1.object) e.0 v))
  over_declared_finds over each n v = then_finds {units = λ x. units_holding (holding_of x.1.object)} _ _ (same_finds _ (declaration_finds n) (λ x. holding_alike x.1.object)) (λ x. each (holding_of x.1.object) x.0 v)

  pub over_name_finds : (over : Holding → List Seg → Value → Change (State S) Stored) → ((h : Holding) (p : List Seg) (v : Value) → Finds (units_holding h) units_stored (over h p v)) → (p : List Seg) (v : Value) → Finds [] units_stored (held_at p >>= (λ h. over h p v))
  over_name_finds over each p v = then_finds _ _ (held_at_finds p) (λ h. each h p v)

  module _ (through : Reference → Value → Change (State S) Stored) (throughs : (r : Reference) (v : Value) → Finds [] units_stored (through r v)) where
    store_over_slot_finds : (k : ℕ) (slot : Slot) (old v : Value) → Finds [] units_stored (store_over_slot through k slot old v)
    store_over_slot_finds k (Local i) old v = copy_into_slot_finds k _ v
    store_over_slot_finds k (Argument i) (value.Reference r) v = throughs r v
    store_over_slot_finds k (Argument i) value.Uninitialized v = copy_into_slot_finds k _ v
    store_over_slot_finds k (Argument i) (value.Integer n) v = copy_into_slot_finds k _ v
    store_over_slot_finds k (Argument i) (value.String o) v = copy_into_slot_finds k _ v
    store_over_slot_finds k (Argument i) (value.Buffer o) v = copy_into_slot_finds k _ v
    store_over_slot_finds k (Argument i) (value.Package o) v = copy_into_slot_finds k _ v

    store_in_frame_finds : (k : ℕ) (slot : Slot) (v : Value) → Finds [] units_stored (store_in_frame through k slot v)
    unfolding store_in_frame
    store_in_frame_finds k slot v = last_finds _ _ (λ old. store_over_slot_finds k slot old v)

    store_in_frame_numbered_finds : (n : ℕ) (slot : Slot) (v : Value) → Finds [] units_stored (store_in_frame_numbered through n slot v)
    unfolding store_in_frame_numbered
    store_in_frame_numbered_finds n slot v = last_finds _ _ (λ k. store_in_frame_finds k slot v)

    store_at_reference_finds : (r : Reference) (v : Value) → Finds [] units_stored (store_at_reference through r v)
    unfolding copy_into_declared
    store_at_reference_finds (reference.Name n) v = over_declared_finds copy_over copy_over_finds n v
    store_at_reference_finds (reference.Slot slot n) v = store_in_frame_numbered_finds n slot v
    store_at_reference_finds (reference.Element o i) v = copy_into_element_finds o i v
    store_at_reference_finds (reference.Byte o i) v = store_byte_finds o i v

  stored_through_finds : (n : ℕ) (r : Reference) (v : Value) → Finds {S = S} [] units_stored (stored_through n r v)
  unfolding stored_through
  stored_through_finds zero r v = stop_finds _
  stored_through_finds (suc n) r v = store_at_reference_finds (stored_through n) (stored_through_finds n) r v

  pub store_to_finds : (r : Reference) (v : Value) → Finds {S = S} [] units_stored (store_to r v)
  unfolding store_in_declared
  store_to_finds (reference.Name n) v = over_declared_finds store_over store_over_finds n v
  store_to_finds (reference.Slot slot n) v = store_in_frame_numbered_finds _ (stored_through_finds most_references) n slot v
  store_to_finds (reference.Element o i) v = copy_into_element_finds o i v
  store_to_finds (reference.Byte o i) v = store_byte_finds o i v

  pub store_in_slot_finds : (slot : Slot) (v : Value) → Finds {S = S} [] units_stored (store_in_slot slot v)
  unfolding store_in_slot
  store_in_slot_finds slot v = last_finds _ _ (λ k. store_in_frame_finds _ (stored_through_finds most_references) k slot v)

  pub stored_finds : (at : StoreTarget) (v : Value) → Finds {S = S} [] units_stored (stored at v)
  unfolding store_in_name
  stored_finds targets.Nowhere v = done_finds
  stored_finds (targets.Slot slot) v = store_in_slot_finds slot v
  stored_finds (targets.Name p) v = over_name_finds store_over store_over_finds p v
  stored_finds (targets.Refers r) v = store_to_finds r v

  pub copied_to_finds : (at : StoreTarget) (v : Value) → Finds {S = S} [] units_stored (copied_to at v)
  unfolding copy_in_name
  copied_to_finds targets.Nowhere v = done_finds
  copied_to_finds (targets.Slot slot) v = store_in_slot_finds slot v
  copied_to_finds (targets.Name p) v = over_name_finds copy_over copy_over_finds p v
  copied_to_finds (targets.Refers r) v = stored_through_finds most_references r v

  -- ---- stores of what was formed

  either_finds : {given : List FieldUnit} (b : Bool) (m n : Change (State S) Stored) → Finds given units_stored m → Finds given units_stored n → Finds given units_stored (if b then m else n)
  either_finds true m n h i = h
  either_finds false m n h i = i

  formed_over_value_finds : {given : List FieldUnit} (old : Value) (p : List Seg) (v : Value) → Finds {S = S} given units_stored (formed_over_value old p v)
  formed_over_value_finds (value.Integer n) p v = either_finds (is_integer v) _ _ (store_over_value_finds (value.Integer n) p v) (copy_into_name_finds p v)
  formed_over_value_finds (value.String o) p v = either_finds (is_string v) _ _ (store_over_value_finds (value.String o) p v) (copy_into_name_finds p v)
  formed_over_value_finds (value.Buffer o) p v = either_finds (is_buffer v) _ _ (store_over_value_finds (value.Buffer o) p v) (copy_into_name_finds p v)
  formed_over_value_finds (value.Package o) p v = store_over_value_finds (value.Package o) p v
  formed_over_value_finds (value.Reference r) p v = store_over_value_finds (value.Reference r) p v
  formed_over_value_finds value.Uninitialized p v = store_over_value_finds value.Uninitialized p v

  formed_over_finds : (h : Holding) (p : List Seg) (v : Value) → Finds {S = S} (units_holding h) units_stored (formed_over h p v)
  formed_over_finds (holding.Value old) p v = formed_over_value_finds old p v
  formed_over_finds (holding.Field f) p v = give_finds (store.Field f)
  formed_over_finds holding.Nothing p v = stop_finds _

  pub formed_to_finds : (at : StoreTarget) (v : Value) → Finds {S = S} [] units_stored (formed_to at v)
  unfolding formed_in_name formed_in_declared
  formed_to_finds targets.Nowhere v = done_finds
  formed_to_finds (targets.Slot slot) v = store_in_slot_finds slot v
  formed_to_finds (targets.Name p) v = over_name_finds formed_over formed_over_finds p v
  formed_to_finds (targets.Refers (reference.Name n)) v = over_declared_finds formed_over formed_over_finds n v
  formed_to_finds (targets.Refers (reference.Slot slot n)) v = store_to_finds (reference.Slot slot n) v
  formed_to_finds (targets.Refers (reference.Element o i)) v = store_to_finds (reference.Element o i) v
  formed_to_finds (targets.Refers (reference.Byte o i)) v = store_to_finds (reference.Byte o i) v
