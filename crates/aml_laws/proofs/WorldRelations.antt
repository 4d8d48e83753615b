-- Relations of worlds that each of the few changes that terms make of a world respects, and what follows for changes one after
-- another, and for evaluations.
use Rattle.std.specs.Prelude.{◌≡◌, ℕ, ◌+◌, ◌-◌, ◌==◌, ◌^◌, List, [], ◌∷◌, Bool, true, false, Option, Some, None, Ok, Err, All, Contains, refl, if◌then◌else◌}
use Rattle.std.proofs.Common.{subst, sym}
use Rattle.ar_space.specs.declared.space.Width.{Width}
use Rattle.ar_space.specs.declared.space.Place.{Place}
use Rattle.ar_space.specs.declared.refusal.Refusal.{Refusal}
use Rattle.ar_space.specs.declared.refusal.Refusal.TheVariants as refusal
use Rattle.ar_space.specs.declared.refusal.EvaluationFault.TheVariants.{ObjectLimit}
use Rattle.ar_space.specs.declared.refusal.NamespaceFault.TheVariants.{Exists, NotFound}
use Rattle.ar_space.specs.Accesses.{Accesses}
use Rattle.ar_space.specs.Outcome.{Outcome}
use Rattle.ar_space.specs.Change.{Change, give, stop, settle, go_on, ◌>>=◌}
use Rattle.std.specs.FinMap.{get, insert, contains_key}
use Rattle.aml_path.specs.declared.segment.Seg.{Seg}
use Rattle.aml_arities.specs.declared.arities.Arity.{Arity}
use Rattle.aml_objects.specs.Objects.{Objects}
use Rattle.aml_objects.specs.declared.value.Value.{Value}
use Rattle.aml_objects.specs.declared.entry.NamedObject.{NamedObject}
use Rattle.aml_objects.specs.declared.entry.NamedObject.TheVariants as object
use Rattle.aml_objects.specs.declared.entry.Field.{Field}
use Rattle.aml_objects.specs.declared.entry.Field.TheVariants as field
use Rattle.aml_objects.specs.declared.entry.FieldUnit.{FieldUnit}
use Rattle.aml_objects.specs.declared.entry.OperationRegion.{OperationRegion}
use Rattle.aml_objects.specs.declared.entry.Entry.{Entry}
use Rattle.aml_fields.specs.declared.region.AddressSpace.{AddressSpace}
use Rattle.aml_namespace.specs.Namespace.{Map, Namespace, declared, replaced, replaced_in, with_object, without_below, above}
use Rattle.aml_world.specs.declared.state.frame.Frame.{Frame}
use Rattle.aml_world.specs.declared.state.invocation.Invocation.{Invocation}
use Rattle.aml_world.specs.declared.state.profile.Profile.TheVariants as profiles
use Rattle.aml_world.specs.declared.state.invocation.Invocation.TheVariants as invocation
use Rattle.aml_world.specs.state.PassedOver.{is_passable}
use Rattle.aml_world.specs.state.Noting.{with_passed}
use Rattle.aml_world.specs.state.State.{State, on_objects, on_names}
use Rattle.aml_world.specs.state.Run.{Run, lift, charge}
use Rattle.aml_world.specs.state.Slots.{opened, closed}
use Rattle.aml_world.specs.state.Mutexes.{released}
use Rattle.aml_meaning.specs.declared.flow.Flow.{Flow}
use Rattle.aml_meaning.specs.Tasks.{Task, module_level}
use Rattle.aml_meaning.specs.Calls.{leaving}
use Rattle.aml_meaning.specs.Calling.{ending, with_steps, framed, in_frame, counted}
use Rattle.aml_laws.specs.Histories.{with_declaration, with_frame, RegionStands, FieldUnitStands, LiesInRegion, TakesPlaceOf}
use Rattle.aml_laws.specs.Kinds.{KeepsKinds}
use Rattle.aml_laws.specs.Numbers.{numbers_of}
use Rattle.aml_laws.specs.RegionAccesses.{AsksBridge, ReachedWithin}
use Rattle.aml_laws.proofs.FoundNamesStand.{MethodStandsAt}
use Rattle.aml_laws.proofs.LocatedRegions.{IsAsMeant, IsLocated}
use Rattle.aml_laws.proofs.Preorders.{Preorder, either_branch}
use Rattle.aml_laws.proofs.ObjectKinds.{KeepsObjectKinds}

-- in a frame of its own
abbrev pub in_new_frame : {S : Type 0} → List Value → State S → State S
in_new_frame vs w = with_frame vs w

-- listed: whether it is one of lists at module level, too
pub record WorldRelationOf {S : Type 0} (listed : Bool) (accesses : Accesses S) : Type 1 where
  pub Leads : State S → State S → Type 0
  pub reflexive : (w : State S) → Leads w w
  pub transitive : (u v w : State S) → Leads u v → Leads v w → Leads u w
  -- objects are made and written to
  pub objects_change : (w : State S) (h : Objects) → KeepsKinds w.objects h → Leads w (record w { objects = h })
  -- a name is declared where none stands; another object that may take the place of what stands under a name
  pub name_declared : (w : State S) (q : List Seg) (o : NamedObject) → contains_key w.names.map q ≡ false → Leads w (record w { names = with_declaration q o w.names })
  pub object_replaced : (w : State S) (q : List Seg) (o : NamedObject) (e : Entry) → get w.names.map q ≡ Some e → TakesPlaceOf o e.object → Leads w (record w { names = record w.names { map = insert w.names.map q (with_object o e) } })
  -- slots take values
  pub slots_written : (w : State S) (frames : List Frame) → numbers_of frames ≡ numbers_of w.frames → Leads w (record w { frames = frames })
  -- a frame is opened, and closed after what stands between
  pub frame_closed : (w v : State S) (vs : List Value) → Leads (in_new_frame vs w) v → Leads w (closed v)
  -- at the end of a call the names below a control method that stood when it was found are removed
  pub names_removed : (u w : State S) (q : List Seg) → MethodStandsAt u.names.map q → Leads u w → Leads u (record w { names = without_below q w.names })
  -- the same where some field units are known, of which registers are accessed: none; any; and one that stands is known from there on
  pub LeadsBy : List FieldUnit → State S → State S → Type 0
  pub by_none : (w v : State S) → LeadsBy [] w v → Leads w v
  pub by_any : (known : List FieldUnit) (w v : State S) → Leads w v → LeadsBy known w v
  pub by_transitive : (known : List FieldUnit) (u v w : State S) → LeadsBy known u v → LeadsBy known v w → LeadsBy known u w
  pub by_standing : (known : List FieldUnit) (w v : State S) (field : FieldUnit) → FieldUnitStands w.names.map field → LeadsBy (field ∷ known) w v → LeadsBy known w v
  -- units of a field unit that is known are read and written, in an operation region that stood when it was located
  -- told: whether it is told how the region was located; then the parts of terms are evaluated as they mean
  pub told : Bool
  pub region_accessed : (known : List FieldUnit) (u w : State S) (field : FieldUnit) (region : OperationRegion) (space : AddressSpace) (s : S) → Contains known field → (stands : RegionStands u.names.map region) → LiesInRegion field.source stands.number
      → (told ≡ true → IsLocated accesses u stands.path space) → ReachedWithin accesses field region space w.space s → LeadsBy known u w → LeadsBy known u (record w { space = s })
  -- in the wide profile a bridge is asked for the bus behind it
  pub bridge_asked : (u w : State S) (at : Place) (width : Width) → u.profile ≡ profiles.Wide → AsksBridge at width → Leads u w → Leads u (record w { space = (accesses.reads w.space at width).1 })
  -- a table tells how many arguments names take, and all mutexes are free after it
  -- loads: whether loading a table respects it, too
  pub loads : Bool
  pub arities_set : loads ≡ true → (w : State S) (list : List Arity) → Leads w (record w { arities = list })
  pub mutexes_released : (w : State S) → Leads w (released w)
  -- in the wide profile what a list at module level passes over is noted
  pub passed_noted : listed ≡ true → (u w : State S) (scope : List Seg) (e : Refusal) → u.profile ≡ profiles.Wide → is_passable e ≡ true → Leads u w → Leads u (with_passed scope e w)

abbrev pub WorldRelation : {S : Type 0} → Accesses S → Type 1
WorldRelation accesses = WorldRelationOf true accesses

-- one for which it is the same which field units are known
pub record PlainRelationOf {S : Type 0} (listed : Bool) (accesses : Accesses S) : Type 1 where
  pub Leads : State S → State S → Type 0
  pub reflexive : (w : State S) → Leads w w
  pub transitive : (u v w : State S) → Leads u v → Leads v w → Leads u w
  pub objects_change : (w : State S) (h : Objects) → KeepsKinds w.objects h → Leads w (record w { objects = h })
  pub name_declared : (w : State S) (q : List Seg) (o : NamedObject) → contains_key w.names.map q ≡ false → Leads w (record w { names = with_declaration q o w.names })
  pub object_replaced : (w : State S) (q : List Seg) (o : NamedObject) (e : Entry) → get w.names.map q ≡ Some e → TakesPlaceOf o e.object → Leads w (record w { names = record w.names { map = insert w.names.map q (with_object o e) } })
  pub slots_written : (w : State S) (frames : List Frame) → numbers_of frames ≡ numbers_of w.frames → Leads w (record w { frames = frames })
  pub frame_closed : (w v : State S) (vs : List Value) → Leads (in_new_frame vs w) v → Leads w (closed v)
  pub names_removed : (u w : State S) (q : List Seg) → MethodStandsAt u.names.map q → Leads u w → Leads u (record w { names = without_below q w.names })
  pub told : Bool
  pub region_accessed : (u w : State S) (field : FieldUnit) (region : OperationRegion) (space : AddressSpace) (s : S) → (stands : RegionStands u.names.map region) → (told ≡ true → IsLocated accesses u stands.path space) → ReachedWithin accesses field region space w.space s → Leads u w
      → Leads u (record w { space = s })
  pub bridge_asked : (u w : State S) (at : Place) (width : Width) → u.profile ≡ profiles.Wide → AsksBridge at width → Leads u w → Leads u (record w { space = (accesses.reads w.space at width).1 })
  pub loads : Bool
  pub arities_set : loads ≡ true → (w : State S) (list : List Arity) → Leads w (record w { arities = list })
  pub mutexes_released : (w : State S) → Leads w (released w)
  pub passed_noted : listed ≡ true → (u w : State S) (scope : List Seg) (e : Refusal) → u.profile ≡ profiles.Wide → is_passable e ≡ true → Leads u w → Leads u (with_passed scope e w)

abbrev pub plain : {S : Type 0} {listed : Bool} {accesses : Accesses S} → PlainRelationOf listed accesses → WorldRelationOf listed accesses
plain relation = record {
  Leads = relation.Leads;
  reflexive = relation.reflexive;
  transitive = relation.transitive;
  objects_change = relation.objects_change;
  name_declared = relation.name_declared;
  object_replaced = relation.object_replaced;
  slots_written = relation.slots_written;
  frame_closed = relation.frame_closed;
  names_removed = relation.names_removed;
  LeadsBy = λ known. relation.Leads;
  by_none = λ w v h. h;
  by_any = λ known w v h. h;
  by_transitive = λ known. relation.transitive;
  by_standing = λ known w v field stands h. h;
  told = relation.told;
  region_accessed = λ known u w field region space s is stands lies at. relation.region_accessed u w field region space s stands at;
  bridge_asked = relation.bridge_asked;
  loads = relation.loads;
  arities_set = relation.arities_set;
  mutexes_released = relation.mutexes_released;
  passed_noted = relation.passed_noted;
}

-- relations by how many control methods are being called: what evaluations in the body of a control method respect is respected everywhere
pub record Levels {S : Type 0} (accesses : Accesses S) : Type 1 where
  pub at : (depth : ℕ) → WorldRelationOf (module_level depth) accesses
  pub deeper : (depth d : ℕ) (w v : State S) → (at (depth + 1)).Leads w v → (at d).Leads w v

-- the same one everywhere
abbrev pub always : {S : Type 0} {accesses : Accesses S} → WorldRelation accesses → Levels accesses
always relation = record {
  at = λ depth. record {
    Leads = relation.Leads;
    reflexive = relation.reflexive;
    transitive = relation.transitive;
    objects_change = relation.objects_change;
    name_declared = relation.name_declared;
    object_replaced = relation.object_replaced;
    slots_written = relation.slots_written;
    frame_closed = relation.frame_closed;
    names_removed = relation.names_removed;
    LeadsBy = relation.LeadsBy;
    by_none = relation.by_none;
    by_any = relation.by_any;
    by_transitive = relation.by_transitive;
    by_standing = relation.by_standing;
    told = relation.told;
    region_accessed = relation.region_accessed;
    bridge_asked = relation.bridge_asked;
    loads = relation.loads;
    arities_set = relation.arities_set;
    mutexes_released = relation.mutexes_released;
    passed_noted = λ listed. relation.passed_noted refl;
  };
  deeper = λ depth d w v h. h;
}

-- where it is told of no region
pub never_told : {A : Type 0} → false ≡ true → A
never_told e = absurd (cc e)

-- a change that leads each world to a related one; an evaluation that does, and one that does so from where one world has come
pub record Preserves {S A : Type 0} {listed : Bool} {accesses : Accesses S} (relation : WorldRelationOf listed accesses) (m : Change (State S) A) : Type 0 where
  pub preserves : (w : State S) → relation.Leads w (m w).1

pub record RunPreserves {S A : Type 0} {listed : Bool} {accesses : Accesses S} (relation : WorldRelationOf listed accesses) (m : Run S A) : Type 0 where
  pub preserves : (s : State S × ℕ) → relation.Leads s.0 (m s).1.0

pub record RunPreservesFrom {S A : Type 0} {listed : Bool} {accesses : Accesses S} (relation : WorldRelationOf listed accesses) (u : State S) (m : Run S A) : Type 0 where
  pub preserves_from : (s : State S × ℕ) → relation.Leads u s.0 → relation.Leads u (m s).1.0

-- the parts of terms do, each by its depth
pub record PartsLead {S : Type 0} {accesses : Accesses S} (levels : Levels accesses) (ev : Task → Run S Flow) : Type 0 where
  pub part : (t : Task) → RunPreserves (levels.at t.depth) (ev t)
  pub as_meant : (level : ℕ) → (levels.at level).told ≡ true → IsAsMeant accesses ev

-- an evaluation that does where some field units are known, and that as a preorder
pub record RunPreservesBy {S A : Type 0} {listed : Bool} {accesses : Accesses S} (relation : WorldRelationOf listed accesses) (known : List FieldUnit) (m : Run S A) : Type 0 where
  pub preserves_by : (s : State S × ℕ) → relation.LeadsBy known s.0 (m s).1.0

abbrev pub known_preorder : {S : Type 0} {listed : Bool} {accesses : Accesses S} → WorldRelationOf listed accesses → List FieldUnit → Preorder (State S × ℕ)
known_preorder relation known = record {
  Leads = λ s t. relation.LeadsBy known s.0 t.0;
  reflexive = λ s. relation.by_any known s.0 s.0 (relation.reflexive s.0);
  transitive = λ s t u. relation.by_transitive known s.0 t.0 u.0;
}

-- some field units stand
abbrev pub FieldUnitsStand : Map → List FieldUnit → Type 0
FieldUnitsStand names fields = All (FieldUnitStands names) fields

-- the field unit that a field is, and the one that is invoked
abbrev pub units_of_field : Field → List FieldUnit
units_of_field (field.Unit u) = u ∷ []
units_of_field (field.Buffer b) = []

abbrev pub units_invoked : Invocation → List FieldUnit
units_invoked (invocation.Field f) = units_of_field f
units_invoked _ = []

-- what is called is a control method that stands, or a field that does
pub record CalledStands {S : Type 0} (w : State S) (i : Invocation) : Type 0 where
  pub method : (q : List Seg) (body : List ℕ) → i ≡ invocation.Method q body → MethodStandsAt w.names.map q
  pub fields : FieldUnitsStand w.names.map (units_invoked i)

-- the names below a path may be removed from what the world has become
abbrev pub MayRemoveBelow : {S : Type 0} {listed : Bool} {accesses : Accesses S} → WorldRelationOf listed accesses → State S → List Seg → Type 0
MayRemoveBelow {S = S} relation u q = (v : State S) → relation.Leads u v → relation.Leads u (record v { names = without_below q v.names })

-- a change that finds what is called, and changes nothing
pub record FindsInvocation {S : Type 0} (m : Change (State S) Invocation) : Type 0 where
  pub same : (w : State S) → (m w).1 ≡ w
  pub called : (w : State S) (i : Invocation) → (m w).0 ≡ Ok i → CalledStands w i

go_on_unchanged : {S A : Type 0} (r : Outcome A) (w v : State S) (k : A → Change (State S) Invocation) → ((a : A) → FindsInvocation (k a)) → v ≡ w → (go_on r v k).1 ≡ w
unfolding go_on
go_on_unchanged (Ok a) w v k h e = rw ((h a).same v) e
go_on_unchanged (Err x) w v k h e = e

go_on_called : {S A : Type 0} (r : Outcome A) (w v : State S) (k : A → Change (State S) Invocation) → ((a : A) → FindsInvocation (k a)) → v ≡ w → (i : Invocation) → (go_on r v k).0 ≡ Ok i → CalledStands w i
unfolding go_on
go_on_called (Ok a) w v k h e i is = subst (λ x. CalledStands x i) e ((h a).called v i is)
go_on_called (Err x) w v k h e i is = absurd (cc is)

pub then_finds_invocation : {S A : Type 0} (m : Change (State S) A) (k : A → Change (State S) Invocation) → ((w : State S) → (m w).1 ≡ w) → ((a : A) → FindsInvocation (k a)) → FindsInvocation (m >>= k)
unfolding ◌>>=◌
then_finds_invocation m k h i = record { same = λ w. go_on_unchanged (m w).0 w (m w).1 k i (h w); called = λ w. go_on_called (m w).0 w (m w).1 k i (h w) }

-- ---- names that are declared, and replaced

declared_by_cases : {S : Type 0} {listed : Bool} {accesses : Accesses S} (relation : WorldRelationOf listed accesses) (w : State S) (b c d : Bool) (q : List Seg) (o : NamedObject) (e f g : Refusal) → contains_key w.names.map q ≡ c
    → relation.Leads w (record w { names = (if◌then◌else◌ {A = Outcome ℕ × Namespace} b (if c then (Err e, w.names) else (if d then (Err f, w.names) else (Ok w.names.next, with_declaration q o w.names))) (Err g, w.names)).1 })
declared_by_cases relation w true true d q o e f g is = relation.reflexive w
declared_by_cases relation w true false true q o e f g is = relation.reflexive w
declared_by_cases relation w true false false q o e f g is = relation.name_declared w q o is
declared_by_cases relation w false c d q o e f g is = relation.reflexive w

-- what stands at a path may be replaced by an object, and by any value
abbrev pub MayPut : {S : Type 0} → List Seg → NamedObject → State S → Type 0
MayPut q o w = (e : Entry) → get w.names.map q ≡ Some e → TakesPlaceOf o e.object

abbrev pub TakesValues : {S : Type 0} → List Seg → State S → Type 0
TakesValues q w = (v : Value) → MayPut q (object.Data v) w

replaced_by_cases : {S : Type 0} {listed : Bool} {accesses : Accesses S} (relation : WorldRelationOf listed accesses) (w : State S) (q : List Seg) (o : NamedObject) (e : Option Entry) → get w.names.map q ≡ e → MayPut q o w → relation.Leads w (record w { names = (replaced_in q o w.names e).1 })
replaced_by_cases relation w q o None at may = relation.reflexive w
replaced_by_cases relation w q o (Some e) at may = relation.object_replaced w q o e at (may e at)

-- a change that leads each world that is so to a related one
pub record PreservesWhere {S A : Type 0} {listed : Bool} {accesses : Accesses S} (IsSo : State S → Type 0) (relation : WorldRelationOf listed accesses) (m : Change (State S) A) : Type 0 where
  pub preserves_where : (w : State S) → IsSo w → relation.Leads w (m w).1

-- in any world
abbrev pub Anyhow : {S : Type 0} → State S → Type 0
Anyhow w = Unit {0}

module _ {S : Type 0} {listed : Bool} {accesses : Accesses S} {relation : WorldRelationOf listed accesses} where
  -- ---- changes of the world

  -- one that leaves it as it is
  pub unchanged_preserves : {A : Type 0} (m : Change (State S) A) → ((w : State S) → (m w).1 ≡ w) → Preserves relation m
  unchanged_preserves m h = record { preserves = λ w. subst (relation.Leads w) (sym (h w)) (relation.reflexive w) }

  pub give_preserves : {A : Type 0} (a : A) → Preserves relation (give a)
  unfolding give
  give_preserves a = record { preserves = relation.reflexive }

  pub stop_preserves : {A : Type 0} (e : Refusal) → Preserves {A = A} relation (stop e)
  unfolding stop
  stop_preserves e = record { preserves = relation.reflexive }

  pub settle_preserves : {A : Type 0} (x : Outcome A) → Preserves relation (settle x)
  unfolding settle
  settle_preserves x = record { preserves = relation.reflexive }

  go_on_preserves : {A B : Type 0} (u : State S) (r : Outcome A) (w : State S) (k : A → Change (State S) B) → ((a : A) → Preserves relation (k a)) → relation.Leads u w → relation.Leads u (go_on r w k).1
  unfolding go_on
  go_on_preserves u (Ok a) w k h m = relation.transitive u w _ m ((h a).preserves w)
  go_on_preserves u (Err e) w k h m = m

  pub then_preserves : {A B : Type 0} (m : Change (State S) A) (k : A → Change (State S) B) → Preserves relation m → ((a : A) → Preserves relation (k a)) → Preserves relation (m >>= k)
  unfolding ◌>>=◌
  then_preserves m k h i = record { preserves = λ w. go_on_preserves w (m w).0 (m w).1 k i (h.preserves w) }

  pub on_objects_preserves : {A : Type 0} (m : Change Objects A) → KeepsObjectKinds m → Preserves relation (on_objects m)
  unfolding on_objects
  on_objects_preserves m h = record { preserves = λ w. relation.objects_change w _ (h.respects w.objects) }

  pub declared_preserves : (q : List Seg) (o : NamedObject) → Preserves relation (on_names (declared q o))
  unfolding on_names declared
  declared_preserves q o = record {
    preserves = λ w. declared_by_cases relation w (contains_key w.names.map (above q)) (contains_key w.names.map q) (w.names.next == 2 ^ 64 - 1) q o (refusal.Namespace Exists) (refusal.Evaluation ObjectLimit) (refusal.Namespace NotFound) refl;
  }

  -- ---- changes of worlds that are so

  -- another object under a name, which may take the place of what stands there
  pub replaced_preserves : (q : List Seg) (o : NamedObject) → PreservesWhere (MayPut q o) relation (on_names (replaced q o))
  unfolding on_names replaced
  replaced_preserves q o = record { preserves_where = λ w may. replaced_by_cases relation w q o (get w.names.map q) refl may }

  pub anyhow_preserves : {A : Type 0} (m : Change (State S) A) → PreservesWhere Anyhow relation m → Preserves relation m
  anyhow_preserves m h = record { preserves = λ w. h.preserves_where w tt }

  pub preserves_anywhere : {A : Type 0} {IsSo : State S → Type 0} (m : Change (State S) A) → Preserves relation m → PreservesWhere IsSo relation m
  preserves_anywhere m h = record { preserves_where = λ w is. h.preserves w }

  pub where_then_preserves : {A B : Type 0} {IsSo : State S → Type 0} (m : Change (State S) A) (k : A → Change (State S) B) → PreservesWhere IsSo relation m → ((a : A) → Preserves relation (k a)) → PreservesWhere IsSo relation (m >>= k)
  unfolding ◌>>=◌
  where_then_preserves m k h i = record { preserves_where = λ w is. go_on_preserves w (m w).0 (m w).1 k i (h.preserves_where w is) }

  go_on_where : {A B : Type 0} (IsSo : State S → Type 0) (u : State S) (r : Outcome A) (w : State S) (k : A → Change (State S) B) → ((a : A) → PreservesWhere IsSo relation (k a)) → IsSo w → relation.Leads u w → relation.Leads u (go_on r w k).1
  unfolding go_on
  go_on_where IsSo u (Ok a) w k h is m = relation.transitive u w _ m ((h a).preserves_where w is)
  go_on_where IsSo u (Err e) w k h is m = m

  -- behind a change that leaves worlds so
  pub then_preserves_where : {A B : Type 0} {IsSo : State S → Type 0} (m : Change (State S) A) (k : A → Change (State S) B) → Preserves relation m → ((w : State S) → IsSo w → IsSo (m w).1) → ((a : A) → PreservesWhere IsSo relation (k a)) → PreservesWhere IsSo relation (m >>= k)
  unfolding ◌>>=◌
  then_preserves_where {IsSo = IsSo} m k h so i = record { preserves_where = λ w is. go_on_where IsSo w (m w).0 (m w).1 k i (so w is) (h.preserves w) }

  found_by_cases : {A B : Type 0} (Found : A → State S → Type 0) (u v : State S) (r : Outcome A) (k : A → Change (State S) B) → v ≡ u → ((a : A) → r ≡ Ok a → Found a u) → ((a : A) → PreservesWhere (Found a) relation (k a)) → relation.Leads u (go_on r v k).1
  unfolding go_on
  found_by_cases Found u v (Ok a) k e found h = subst (λ x. relation.Leads u (k a x).1) (sym e) ((h a).preserves_where u (found a refl))
  found_by_cases Found u v (Err x) k e found h = subst (relation.Leads u) (sym e) (relation.reflexive u)

  -- behind a change that finds something and changes nothing
  pub finding_preserves_where : {A B : Type 0} {IsSo : State S → Type 0} (Found : A → State S → Type 0) (m : Change (State S) A) (k : A → Change (State S) B) → ((w : State S) → (m w).1 ≡ w) → ((w : State S) → IsSo w → (a : A) → (m w).0 ≡ Ok a → Found a w)
      → ((a : A) → PreservesWhere (Found a) relation (k a)) → PreservesWhere IsSo relation (m >>= k)
  unfolding ◌>>=◌
  finding_preserves_where Found m k same found h = record { preserves_where = λ w is. found_by_cases Found w (m w).1 (m w).0 k (same w) (found w is) h }

  pub finding_preserves : {A B : Type 0} (Found : A → State S → Type 0) (m : Change (State S) A) (k : A → Change (State S) B) → ((w : State S) → (m w).1 ≡ w) → ((w : State S) (a : A) → (m w).0 ≡ Ok a → Found a w)
      → ((a : A) → PreservesWhere (Found a) relation (k a)) → Preserves relation (m >>= k)
  finding_preserves Found m k same found h = anyhow_preserves _ (finding_preserves_where {IsSo = Anyhow} Found m k same (λ w is. found w) h)

  -- ---- frames

  -- however it ended
  pub ending_preserves : {A : Type 0} (m : Change (State S) A) → Preserves relation m → Preserves relation (ending m)
  unfolding ending
  ending_preserves m h = record { preserves = λ w. relation.transitive w (m w).1 _ (h.preserves w) (relation.mutexes_released (m w).1) }

  pub in_frame_preserves : {A : Type 0} (vs : List Value) (m : Change (State S) A) → Preserves relation m → Preserves relation (in_frame vs m)
  unfolding in_frame opened framed ◌>>=◌ go_on
  in_frame_preserves vs m h = record {
    preserves = λ w. either_branch (λ (x : Outcome ℕ × State S). relation.Leads w (go_on x.0 x.1 (λ n. framed m)).1) (w.started == 2 ^ 64 - 1) (Err (refusal.Evaluation ObjectLimit), w) (Ok w.started, in_new_frame vs w)
        (relation.reflexive w) (relation.frame_closed w _ vs (h.preserves (in_new_frame vs w)));
  }

  -- ---- evaluations

  pub run_give_preserves : {A : Type 0} (a : A) → RunPreserves relation (give a)
  unfolding give
  run_give_preserves a = record { preserves = λ s. relation.reflexive s.0 }

  pub run_stop_preserves : {A : Type 0} (e : Refusal) → RunPreserves {A = A} relation (stop e)
  unfolding stop
  run_stop_preserves e = record { preserves = λ s. relation.reflexive s.0 }

  pub run_settle_preserves : {A : Type 0} (x : Outcome A) → RunPreserves relation (settle x)
  unfolding settle
  run_settle_preserves x = record { preserves = λ s. relation.reflexive s.0 }

  pub lift_preserves : {A : Type 0} (m : Change (State S) A) → Preserves relation m → RunPreserves relation (lift m)
  unfolding lift
  lift_preserves m h = record { preserves = λ s. h.preserves s.0 }

  pub charge_preserves : RunPreserves relation charge
  unfolding charge
  charge_preserves = record { preserves = λ s. either_branch (λ (x : Outcome (Unit {0}) × (State S × ℕ)). relation.Leads s.0 x.1.0) (s.1 == 0) _ _ (relation.reflexive s.0) (relation.reflexive s.0) }

  run_go_on_preserves : {A B : Type 0} (u : State S) (r : Outcome A) (s : State S × ℕ) (k : A → Run S B) → ((a : A) → RunPreserves relation (k a)) → relation.Leads u s.0 → relation.Leads u (go_on r s k).1.0
  unfolding go_on
  run_go_on_preserves u (Ok a) s k h m = relation.transitive u s.0 _ m ((h a).preserves s)
  run_go_on_preserves u (Err e) s k h m = m

  pub run_then_preserves : {A B : Type 0} (m : Run S A) (k : A → Run S B) → RunPreserves relation m → ((a : A) → RunPreserves relation (k a)) → RunPreserves relation (m >>= k)
  unfolding ◌>>=◌
  run_then_preserves m k h i = record { preserves = λ s. run_go_on_preserves s.0 (m s).0 (m s).1 k i (h.preserves s) }

  -- ---- with so many steps

  pub with_steps_preserves : {A : Type 0} (steps : ℕ) (m : Run S A) → RunPreserves relation m → Preserves relation (with_steps steps m)
  unfolding with_steps
  with_steps_preserves steps m h = record { preserves = λ w. h.preserves (w, steps) }

  pub counted_preserves : (steps : ℕ) (m : Run S Value) → RunPreserves relation m → Preserves relation (counted steps m)
  unfolding counted
  counted_preserves steps m h = record { preserves = λ w. h.preserves (w, steps) }

  -- ---- calls

  pub run_preserves_from : {A : Type 0} (u : State S) (m : Run S A) → RunPreserves relation m → RunPreservesFrom relation u m
  run_preserves_from u m h = record { preserves_from = λ s i. relation.transitive u s.0 _ i (h.preserves s) }

  go_on_preserves_from : {A B : Type 0} (u : State S) (r : Outcome A) (s : State S × ℕ) (k : A → Run S B) → ((a : A) → RunPreservesFrom relation u (k a)) → relation.Leads u s.0 → relation.Leads u (go_on r s k).1.0
  unfolding go_on
  go_on_preserves_from u (Ok a) s k h m = (h a).preserves_from s m
  go_on_preserves_from u (Err e) s k h m = m

  pub then_preserves_from : {A B : Type 0} (u : State S) (m : Run S A) (k : A → Run S B) → RunPreservesFrom relation u m → ((a : A) → RunPreservesFrom relation u (k a)) → RunPreservesFrom relation u (m >>= k)
  unfolding ◌>>=◌
  then_preserves_from u m k h i = record { preserves_from = λ s j. go_on_preserves_from u (m s).0 (m s).1 k i (h.preserves_from s j) }

  -- a body that is evaluated in a frame of its own, where the names below its control method may be removed
  pub body_preserves_from : (u : State S) (vs : List Value) (q : List Seg) (m : Run S Flow) → MayRemoveBelow relation u q → RunPreserves relation m → RunPreservesFrom relation u (lift (opened vs) >>= (λ n. leaving q m))
  unfolding opened leaving lift ◌>>=◌ go_on
  body_preserves_from u vs q m gone h = record {
    preserves_from = λ s i. either_branch (λ (x : Outcome ℕ × State S). relation.Leads u (go_on x.0 (x.1, s.1) (λ n. leaving q m)).1.0) (s.0.started == 2 ^ 64 - 1) (Err (refusal.Evaluation ObjectLimit), s.0) (Ok s.0.started, in_new_frame vs s.0)
        i (gone (closed (m (in_new_frame vs s.0, s.1)).1.0) (relation.transitive u s.0 _ i (relation.frame_closed s.0 _ vs (h.preserves (in_new_frame vs s.0, s.1)))));
  }

  found_invocation_by_cases : {A : Type 0} (u v : State S) (n : ℕ) (r : Outcome Invocation) (k : Invocation → Run S A) → v ≡ u → ((i : Invocation) → r ≡ Ok i → RunPreservesFrom relation u (k i)) → relation.Leads u (go_on r (v, n) k).1.0
  unfolding go_on
  found_invocation_by_cases u v n (Ok i) k e h = (h i refl).preserves_from (v, n) (subst (relation.Leads u) (sym e) (relation.reflexive u))
  found_invocation_by_cases u v n (Err x) k e h = subst (relation.Leads u) (sym e) (relation.reflexive u)

  -- what is found, and then called
  pub found_then_preserves : {A : Type 0} (m : Change (State S) Invocation) (k : Invocation → Run S A) → FindsInvocation m → ((u : State S) (i : Invocation) → CalledStands u i → RunPreservesFrom relation u (k i)) → RunPreserves relation (lift m >>= k)
  unfolding lift ◌>>=◌
  found_then_preserves m k f h = record { preserves = λ s. found_invocation_by_cases s.0 (m s.0).1 s.1 (m s.0).0 k (f.same s.0) (λ i e. h s.0 i (f.called s.0 i e)) }

pub deeper_preserves : {S A : Type 0} {accesses : Accesses S} (levels : Levels accesses) (depth : ℕ) {d : ℕ} (m : Run S A) → RunPreserves (levels.at (depth + 1)) m → RunPreserves (levels.at d) m
deeper_preserves levels depth {d = d} m h = record { preserves = λ s. levels.deeper depth d s.0 (m s).1.0 (h.preserves s) }
