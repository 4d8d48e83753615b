-- What evaluations make of a world has a history, in which each access is one of a unit of a field, within its region, or asks a bridge.
use Rattle.std.specs.Prelude.{◌≡◌, ◌⊎◌, ℕ, List, [], ◌∷◌, not, is_some, Bool, true, false, Option, Some, None, Contains, refl, cond, if◌then◌else◌}
use Rattle.std.specs.Option.{option_map}
use Rattle.std.specs.FinMap.{get, insert, get-insert, get-retain_keys, contains_key}
use Rattle.std.specs.Ordering.{eq_by_cmp}
use Rattle.std.specs.declared.cmp.Ordering.TheVariants.{Equal}
use Rattle.std.proofs.Common.{inl, inr, arith, ap, sym, ◌∙◌, subst}
use Rattle.std.proofs.lemmas.List.Elements.{Contains-append_left, Contains-append_right, Contains-append_cases}
use Rattle.ar_space.specs.Accesses.{Accesses}
use Rattle.aml_path.specs.declared.segment.Seg.{Seg}
use Rattle.aml_path.specs.Paths.{path_cmp, is_below}
use Rattle.aml_objects.specs.declared.entry.Entry.{Entry}
use Rattle.aml_objects.specs.declared.entry.Method.{Method}
use Rattle.aml_objects.specs.declared.entry.NamedObject.{NamedObject}
use Rattle.aml_objects.specs.declared.entry.NamedObject.TheVariants as object
use Rattle.aml_objects.specs.declared.entry.FieldUnit.{FieldUnit}
use Rattle.aml_objects.specs.declared.entry.OperationRegion.{OperationRegion}
use Rattle.aml_objects.specs.declared.value.Value.{Value}
use Rattle.aml_fields.specs.declared.region.AddressSpace.{AddressSpace}
use Rattle.aml_namespace.specs.Namespace.{Map, Namespace, with_object, without_below, released, entry_released, mutexes_released}
use Rattle.aml_namespace.proofs.Paths.{path_total, only_equal}
use Rattle.aml_namespace.proofs.Changes.{released_at}
use Rattle.aml_world.specs.state.State.{State}
use Rattle.aml_laws.specs.Becomes.{Becomes}
use Rattle.aml_laws.specs.Kinds.{KeepsKinds}
use Rattle.aml_laws.specs.Numbers.{numbers_of}
use Rattle.aml_laws.specs.Outside.{is_method}
use Rattle.aml_laws.specs.Histories.{numbered_entry, RegionStands, LiesInRegion, TakesPlaceOf, StandsAlike, SameSettings, NothingNew, with_frame, MethodStands, GoneBelow, History, same, changed, declared, call_ended, framed, field_stands, read, written, bridge_asked}
use Rattle.aml_laws.specs.Histories as puts
use Rattle.aml_laws.specs.RegionAccesses.{ReachedWithin}
use Rattle.aml_laws.specs.RegionAccesses as within
use Rattle.aml_laws.proofs.AddressesAsMeant.{at_function}
use Rattle.aml_laws.proofs.EvaluationsPreserve.{becomes_preserves}
use Rattle.aml_laws.proofs.FoundNamesStand.{MethodStandsAt}
use Rattle.aml_laws.proofs.LocatedRegions.{IsLocated}
use Rattle.aml_laws.proofs.NumbersKept.{same_path}
use Rattle.aml_laws.proofs.ObjectKinds.{kinds_reflexive}
use Rattle.aml_laws.proofs.OutsideOfMethods.{insert_stands}
use Rattle.aml_laws.proofs.WorldRelations.{WorldRelation}

-- ---- objects that are alike

takes_back : (new old : NamedObject) → TakesPlaceOf new old → TakesPlaceOf old new
takes_back _ _ (puts.of_value new old) = puts.of_value old new
takes_back _ _ (puts.of_mutex new old) = puts.of_mutex old new
takes_back _ _ (puts.of_event new old) = puts.of_event old new

takes_value : (new between : Value) (o old : NamedObject) → o ≡ object.Data between → TakesPlaceOf o old → TakesPlaceOf (object.Data new) old
takes_value new between _ _ is (puts.of_value n old) = puts.of_value new old
takes_value new between _ _ is (puts.of_mutex n old) = absurd (cc is)
takes_value new between _ _ is (puts.of_event n old) = absurd (cc is)

takes_mutex : (new between : ℕ) (o old : NamedObject) → o ≡ object.Mutex between → TakesPlaceOf o old → TakesPlaceOf (object.Mutex new) old
takes_mutex new between _ _ is (puts.of_value n old) = absurd (cc is)
takes_mutex new between _ _ is (puts.of_mutex n old) = puts.of_mutex new old
takes_mutex new between _ _ is (puts.of_event n old) = absurd (cc is)

takes_event : (new between : ℕ) (o old : NamedObject) → o ≡ object.Event between → TakesPlaceOf o old → TakesPlaceOf (object.Event new) old
takes_event new between _ _ is (puts.of_value n old) = absurd (cc is)
takes_event new between _ _ is (puts.of_mutex n old) = absurd (cc is)
takes_event new between _ _ is (puts.of_event n old) = puts.of_event new old

takes_through : (new between o old : NamedObject) → between ≡ o → TakesPlaceOf new between → TakesPlaceOf o old → TakesPlaceOf new old
takes_through _ _ o old is (puts.of_value new between) t = takes_value new between o old (sym is) t
takes_through _ _ o old is (puts.of_mutex new between) t = takes_mutex new between o old (sym is) t
takes_through _ _ o old is (puts.of_event new between) t = takes_event new between o old (sym is) t

abbrev pub AreAlike : NamedObject → NamedObject → Type 0
AreAlike o other = (o ≡ other) ⊎ TakesPlaceOf o other

pub alike_back : (o other : NamedObject) → AreAlike o other → AreAlike other o
alike_back o other (inl e) = inl (sym e)
alike_back o other (inr t) = inr (takes_back o other t)

alike_through : (o between other : NamedObject) → AreAlike o between → AreAlike between other → AreAlike o other
alike_through o between other (inl e) a = subst (λ x. AreAlike x other) (sym e) a
alike_through o between other (inr t) (inl e) = inr (subst (TakesPlaceOf o) e t)
alike_through o between other (inr t) (inr u) = inr (takes_through o between between other refl t u)

-- an operation region, or a field unit, which no other object takes the place of
abbrev is_reached : NamedObject → Bool
is_reached (object.OperationRegion region) = true
is_reached (object.FieldUnit field) = true
is_reached _ = false

never_taken : (o other : NamedObject) → is_reached o ≡ true → TakesPlaceOf o other → ⊥
never_taken _ _ reached (puts.of_value new old) = absurd (cc reached)
never_taken _ _ reached (puts.of_mutex new old) = absurd (cc reached)
never_taken _ _ reached (puts.of_event new old) = absurd (cc reached)

reached_same : (o other : NamedObject) → is_reached o ≡ true → AreAlike o other → other ≡ o
reached_same o other reached (inl e) = sym e
reached_same o other reached (inr t) = absurd (never_taken o other reached t)

-- ---- entries that stand alike

pub stands_itself : (names : Map) (path : List Seg) (e : Entry) → get names path ≡ Some e → StandsAlike names path e
stands_itself names path e at = record { other = e.object; there = at; alike = inl refl }

-- what stands alike among some names does so among others, where all of these do
pub stands_through : (names : Map) (path : List Seg) (e : Entry) (o : NamedObject) → AreAlike e.object o → StandsAlike names path (numbered_entry e.number o) → StandsAlike names path e
stands_through names path e o alike s = record { other = s.other; there = s.there; alike = alike_through e.object o s.other alike s.alike }

pub reached_stands : (names : Map) (path : List Seg) (n : ℕ) (o : NamedObject) → is_reached o ≡ true → StandsAlike names path (numbered_entry n o) → get names path ≡ Some (numbered_entry n o)
reached_stands names path n o reached s = s.there ∙ ap (λ x. Some (numbered_entry n x)) (reached_same o s.other reached s.alike)

pub same_entry : (d e : Entry) → ◌≡◌ {A = Option Entry} (Some d) (Some e) → d ≡ e
same_entry d e is = cc is

-- ---- changes of values

put_by_cases : (m : Map) (q path : List Seg) (o : NamedObject) (old e : Entry) (b : Bool) → eq_by_cmp path_cmp path q ≡ b → get m q ≡ Some old → TakesPlaceOf o old.object → cond b (Some (with_object o old)) (get m path) ≡ Some e → StandsAlike m path e
put_by_cases m q path o old e true here at takes is =
    let same : with_object o old ≡ e = same_entry _ _ is in
    subst (StandsAlike m path) same (record { other = old.object; there = ap (get m) (same_path path q here) ∙ at; alike = inr takes })
put_by_cases m q path o old e false here at takes is = stands_itself m path e is

released_alike : (o : NamedObject) → AreAlike (released o) o
released_alike (object.Mutex n) = inr (puts.of_mutex 0 n)
released_alike _ = inl refl

released_by_cases : (m : Map) (path : List Seg) (old : Option Entry) (e : Entry) → get m path ≡ old → option_map entry_released old ≡ Some e → StandsAlike m path e
released_by_cases m path None e at is = absurd (cc is)
released_by_cases m path (Some d) e at is =
    let same : entry_released d ≡ e = same_entry _ _ is in
    subst (StandsAlike m path) same (record { other = d.object; there = at; alike = released_alike d.object })

released_next : (s : Namespace) → (mutexes_released s).next ≡ s.next
unfolding mutexes_released
released_next s = refl

module _ {S : Type 0} where
  pub settings_reflexive : (w : State S) → SameSettings w w
  settings_reflexive w = record { profile = refl; width = refl; osi = refl; nesting = refl }

  pub settings_transitive : (u v w : State S) → SameSettings u v → SameSettings v w → SameSettings u w
  settings_transitive u v w a b = record { profile = b.profile ∙ a.profile; width = b.width ∙ a.width; osi = b.osi ∙ a.osi; nesting = b.nesting ∙ a.nesting }

  pub settings_of : (w u v : State S) → SameSettings w u → v.profile ≡ u.profile → v.width ≡ u.width → v.osi ≡ u.osi → v.nesting ≡ u.nesting → SameSettings w v
  settings_of w u v s profile width osi nesting = record { profile = profile ∙ s.profile; width = width ∙ s.width; osi = osi ∙ s.osi; nesting = nesting ∙ s.nesting }

  -- where the names are the same
  names_alike : (w v : State S) → v.names ≡ w.names → v.space ≡ w.space → SameSettings w v → KeepsKinds w.objects v.objects → numbers_of v.frames ≡ numbers_of w.frames → v.started ≡ w.started → NothingNew w v
  names_alike w v names space settings objects frames started = record {
    space = space;
    next = ap (λ (s : Namespace). s.next) names;
    settings = settings;
    stood = λ path e at. stands_itself w.names.map path e (sym (ap (λ (s : Namespace). get s.map path) names) ∙ at);
    stand = λ path e at. ap is_some (ap (λ (s : Namespace). get s.map path) names ∙ at);
    objects = objects;
    frames = frames;
    started = started;
  }

  -- where the names alone may be others
  names_change : (w : State S) (names : Namespace) → names.next ≡ w.names.next → ((path : List Seg) (e : Entry) → get names.map path ≡ Some e → StandsAlike w.names.map path e) → ((path : List Seg) (e : Entry) → get w.names.map path ≡ Some e → contains_key names.map path ≡ true)
      → NothingNew w (record w { names = names })
  names_change w names next stood stand = record {
    space = refl;
    next = next;
    settings = record { profile = refl; width = refl; osi = refl; nesting = refl };
    stood = stood;
    stand = stand;
    objects = kinds_reflexive w.objects;
    frames = refl;
    started = refl;
  }

  object_put : (w : State S) (q : List Seg) (o : NamedObject) (old : Entry) → get w.names.map q ≡ Some old → TakesPlaceOf o old.object → NothingNew w (record w { names = record w.names { map = insert w.names.map q (with_object o old) } })
  object_put w q o old at takes = names_change w _ refl
      (λ path e there. put_by_cases w.names.map q path o old e (eq_by_cmp path_cmp path q) refl at takes (sym (get-insert path_total w.names.map q (with_object o old) path) ∙ there))
      (λ path e there. insert_stands w.names.map q path (with_object o old) (ap is_some there))

  mutexes_free : (w : State S) → NothingNew w (record w { names = mutexes_released w.names })
  mutexes_free w = names_change w _ (released_next w.names)
      (λ path e there. released_by_cases w.names.map path (get w.names.map path) e refl (sym (released_at w.names path) ∙ there))
      (λ path e there. ap is_some (released_at w.names path ∙ ap (option_map entry_released) there))

-- ---- the end of a call

method_by_cases : (o : NamedObject) → is_method o ≡ true → (m : Method) × (o ≡ object.Method m)
method_by_cases (object.Method m) is = (m, refl)
method_by_cases _ is = absurd (cc is)

method_stands : (names : Map) (q : List Seg) → MethodStandsAt names q → MethodStands names q
method_stands names q at = let m = method_by_cases at.entry.object at.method in record { number = at.entry.number; method = m.0; there = at.there ∙ ap (λ x. Some (numbered_entry at.entry.number x)) m.1 }

below_alike : (p r x : List Seg) → path_cmp r x ≡ Equal → not (is_below p x) ≡ not (is_below p r)
below_alike p r x e = ap (λ y. not (is_below p y)) (sym (only_equal r x e))

none_where : (b : Bool) (o : Option Entry) → cond (not b) o None ≡ (if b then None else o)
none_where true o = refl
none_where false o = refl

gone_below : (q : List Seg) (names : Namespace) → GoneBelow q names (without_below q names)
unfolding without_below
gone_below q names = record { next = refl; names = λ p. get-retain_keys names.map (λ x. not (is_below q x)) p (below_alike q p) ∙ none_where (is_below q p) (get names.map p) }

-- ---- the relation

module _ {S : Type 0} (accesses : Accesses S) where
  history_transitive : (known : List FieldUnit) (u v w : State S) → History accesses known u v → History accesses known v w → History accesses known u w
  history_transitive known u v w h (same _ _) = h
  history_transitive known u v w h (changed _ _ z _ i n) = changed known u z w (history_transitive known u v z h i) n
  history_transitive known u v w h (declared _ _ z path o i free) = declared known u z path o (history_transitive known u v z h i) free
  history_transitive known u v w h (call_ended _ _ x y path names i method j gone) = call_ended known u x y path names (history_transitive known u v x h i) method j gone
  history_transitive known u v w h (framed _ _ x y vs i j) = framed known u x y vs (history_transitive known u v x h i) j
  history_transitive known u v w h (field_stands _ _ z _ field i st j) = field_stands known u z w field (history_transitive known u v z h i) st j
  history_transitive known u v w h (read _ _ l z field region at width is i stands j of at_function) = read known u l z field region at width is (history_transitive known u v l h i) stands j of at_function
  history_transitive known u v w h (written _ _ l z field region at width value is i stands j of at_function) = written known u l z field region at width value is (history_transitive known u v l h i) stands j of at_function
  history_transitive known u v w h (bridge_asked _ _ z at width i wide is) = bridge_asked known u z at width (history_transitive known u v z h i) wide is

  -- where more field units are known
  history_of_more : (known more : List FieldUnit) → ((field : FieldUnit) → Contains known field → Contains more field) → (w v : State S) → History accesses known w v → History accesses more w v
  history_of_more known more all w v (same _ _) = same more w
  history_of_more known more all w v (changed _ _ u _ h n) = changed more w u v (history_of_more known more all w u h) n
  history_of_more known more all w v (declared _ _ u path o h free) = declared more w u path o (history_of_more known more all w u h) free
  history_of_more known more all w v (call_ended _ _ u x path names h method i gone) = call_ended more w u x path names (history_of_more known more all w u h) method (history_of_more known more all u x i) gone
  history_of_more known more all w v (framed _ _ u x vs h i) = framed more w u x vs (history_of_more known more all w u h) (history_of_more known more all (with_frame vs u) x i)
  history_of_more known more all w v (field_stands _ _ u _ field h st i) = field_stands more w u v field (history_of_more known more all w u h) st (history_of_more (field ∷ known) (field ∷ more) (with_first field) u v i)
    where
      with_first : (field other : FieldUnit) → Contains (field ∷ known) other → Contains (field ∷ more) other
      with_first field other is = by (Contains-append_cases (field ∷ []) known other is)
        where
          by : Contains (field ∷ []) other ⊎ Contains known other → Contains (field ∷ more) other
          by (inl first) = Contains-append_left (field ∷ []) more other first
          by (inr rest) = Contains-append_right (field ∷ []) more other (all other rest)
  history_of_more known more all w v (read _ _ l u field region at width is h stands i of at_function) = read more w l u field region at width (all field is) (history_of_more known more all w l h) stands (history_of_more known more all l u i) of at_function
  history_of_more known more all w v (written _ _ l u field region at width value is h stands i of at_function) = written more w l u field region at width value (all field is) (history_of_more known more all w l h) stands (history_of_more known more all l u i) of at_function
  history_of_more known more all w v (bridge_asked _ _ u at width h wide is) = bridge_asked more w u at width (history_of_more known more all w u h) wide is

  none_contained : (field : FieldUnit) (A : Type 0) → Contains [] field → A
  none_contained field A is = absurd (omega (arith, is.1))

  pub history_settings : (known : List FieldUnit) (w v : State S) → History accesses known w v → SameSettings w v
  history_settings known w v (same _ _) = settings_reflexive w
  history_settings known w v (changed _ _ u _ h n) = settings_transitive w u v (history_settings known w u h) n.settings
  history_settings known w v (declared _ _ u path o h free) = settings_of w u v (history_settings known w u h) refl refl refl refl
  history_settings known w v (call_ended _ _ u x path names h method i gone) = settings_of w x v (settings_transitive w u x (history_settings known w u h) (history_settings known u x i)) refl refl refl refl
  history_settings known w v (framed _ _ u x vs h i) =
      let s = history_settings known (with_frame vs u) x i in
      settings_of w u v (history_settings known w u h) s.profile s.width s.osi s.nesting
  history_settings known w v (field_stands _ _ u _ field h st i) = settings_transitive w u v (history_settings known w u h) (history_settings (field ∷ known) u v i)
  history_settings known w v (read _ _ l u field region at width is h stands i of at_function) = settings_of w u v (settings_transitive w l u (history_settings known w l h) (history_settings known l u i)) refl refl refl refl
  history_settings known w v (written _ _ l u field region at width value is h stands i of at_function) = settings_of w u v (settings_transitive w l u (history_settings known w l h) (history_settings known l u i)) refl refl refl refl
  history_settings known w v (bridge_asked _ _ u at width h wide is) = settings_of w u v (history_settings known w u h) refl refl refl refl

  -- accesses of a region that stood in one world, made in another one that it has become
  module _ (known : List FieldUnit) (u : State S) (field : FieldUnit) (region : OperationRegion) (space : AddressSpace) (is : Contains known field) (stands : RegionStands u.names.map region) (lies : LiesInRegion field.source stands.number) (located : IsLocated accesses u stands.path space) where
    after_accesses : (w : State S) (s : S) → ReachedWithin accesses field region space w.space s → History accesses known u w → History accesses known u (record w { space = s })
    after_accesses w s within.none h = h
    after_accesses w s (within.read t at width inside unit place r) h =
        read known u u (record w { space = t }) field region at width is (same known u) stands (after_accesses w t r h) (record { lies = lies; reaches = unit; within = inside }) (at_function accesses u stands.path space at located place)
    after_accesses w s (within.written t at width value inside unit place r) h =
        written known u u (record w { space = t }) field region at width value is (same known u) stands (after_accesses w t r h) (record { lies = lies; reaches = unit; within = inside }) (at_function accesses u stands.path space at located place)

  abbrev history_relation : WorldRelation accesses
  history_relation = record {
    Leads = History accesses [];
    reflexive = same [];
    transitive = history_transitive [];
    objects_change = λ w h k. changed [] w w _ (same [] w) (names_alike w _ refl refl (settings_of w w _ (settings_reflexive w) refl refl refl refl) k refl refl);
    name_declared = λ w q o free. declared [] w w q o (same [] w) free;
    object_replaced = λ w q o e at takes. changed [] w w _ (same [] w) (object_put w q o e at takes);
    slots_written = λ w frames is. changed [] w w _ (same [] w) (names_alike w _ refl refl (settings_of w w _ (settings_reflexive w) refl refl refl refl) (kinds_reflexive w.objects) is refl);
    frame_closed = λ w v vs h. framed [] w w v vs (same [] w) h;
    names_removed = λ u w q at h. call_ended [] u u w q _ (same [] u) (method_stands u.names.map q at) h (gone_below q w.names);
    LeadsBy = History accesses;
    by_none = λ w v h. h;
    by_any = λ known w v h. history_of_more [] known (λ field is. none_contained field _ is) w v h;
    by_transitive = history_transitive;
    by_standing = λ known w v field st h. field_stands known w w v field (same known w) st h;
    told = true;
    region_accessed = λ known u w field region space s is stands lies at r h. after_accesses known u field region space is stands lies (at refl) w s r h;
    bridge_asked = λ u w at width wide is h. bridge_asked [] u w at width h ((history_settings [] u w h).profile ∙ wide) is;
    loads = true;
    arities_set = λ loads w list. changed [] w w _ (same [] w) (names_alike w _ refl refl (settings_of w w _ (settings_reflexive w) refl refl refl refl) (kinds_reflexive w.objects) refl refl);
    mutexes_released = λ w. changed [] w w _ (same [] w) (mutexes_free w);
    passed_noted = λ listed u w scope e wide is h. changed [] u w _ h (names_alike w _ refl refl (settings_of w w _ (settings_reflexive w) refl refl refl refl) (kinds_reflexive w.objects) refl refl);
  }

  pub has_history : (w v : State S) → Becomes accesses w v → History accesses [] w v
  has_history w v h = becomes_preserves history_relation refl w v h
