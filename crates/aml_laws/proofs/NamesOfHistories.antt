-- What a history leaves of the names, and the notes of its accesses, where no name is declared or none is removed.
use Rattle.std.specs.Prelude.{◌≡◌, ◌⊎◌, ◌≤◌, ◌<◌, ◌+◌, nat_lt, List, [], ◌∷◌, ◌++◌, not, is_some, Bool, true, false, Option, Some, None, All, Contains, refl, cond, if◌then◌else◌}
use Rattle.std.specs.FinMap.{get, get-insert, contains_key}
use Rattle.std.specs.Ordering.{eq_by_cmp}
use Rattle.std.proofs.Common.{inl, inr, arith, ap, sym, ◌∙◌, subst, append-nil, append_assoc}
use Rattle.std.proofs.lemmas.Bool.{ltb-true, ltb-false}
use Rattle.std.proofs.lemmas.List.Elements.{All-nil, All-cons, All-append, All-push, All-contains}
use Rattle.ar_space.specs.Accesses.{Accesses}
use Rattle.recorded_space.specs.declared.exchange.Exchange.{Exchange}
use Rattle.recorded_space.specs.declared.exchange.Exchange.TheVariants as note
use Rattle.aml_path.specs.declared.segment.Seg.{Seg}
use Rattle.aml_path.specs.Paths.{path_cmp, is_below}
use Rattle.aml_objects.specs.declared.entry.Entry.{Entry}
use Rattle.aml_objects.specs.declared.entry.NamedObject.{NamedObject}
use Rattle.aml_objects.specs.declared.entry.NamedObject.TheVariants as object
use Rattle.aml_objects.specs.declared.entry.FieldUnit.{FieldUnit}
use Rattle.aml_objects.specs.declared.entry.OperationRegion.{OperationRegion}
use Rattle.aml_namespace.specs.Namespace.{Map, Namespace}
use Rattle.aml_namespace.specs.Numbering.{Numbered}
use Rattle.aml_namespace.proofs.Paths.{path_total}
use Rattle.aml_world.specs.state.State.{State}
use Rattle.aml_laws.specs.Becomes.{Becomes}
use Rattle.aml_laws.specs.Noted.{WithNotes, noted}
use Rattle.aml_laws.specs.Histories.{numbered_entry, with_declaration, RegionStands, FieldUnitStands, IsOfField, scope_of, TakesPlaceOf, StandsAlike, SameSettings, with_frame, MethodStands, GoneBelow, History, same, changed, declared, call_ended, framed, field_stands, read, written, bridge_asked, place_of, width_of, IsDeclared, asks, IsExplained, NotesExplained, NumberStands, NoneRemoved}
use Rattle.aml_laws.specs.Histories as puts
use Rattle.aml_laws.specs.Outside.{is_method, is_open, OutsideIn}
use Rattle.aml_laws.specs.RegionFunctions.{IsAtFunction}
use Rattle.aml_laws.proofs.NumbersKept.{numbered_declared}
use Rattle.aml_laws.proofs.OutsideOfMethods.{kept_new, method_apart, not_below_by_cases}
use Rattle.aml_laws.proofs.WorldHistories.{AreAlike, alike_back, stands_itself, stands_through, reached_stands, same_entry, settings_reflexive, settings_transitive, settings_of, history_settings, has_history}

-- ---- what a history leaves of the names

-- No number is taken back. What stands after under a number that was given before stood before, and so does all that stands after where no
-- number was given; and numbers stay apart.
record NamesLead (before after : Namespace) : Type 0 where
  next : before.next ≤ after.next
  stood : (path : List Seg) (e : Entry) → get after.map path ≡ Some e → (e.number < before.next) ⊎ (after.next ≡ before.next) → StandsAlike before.map path e
  numbered : Numbered before → Numbered after

leads_itself : (s : Namespace) → NamesLead s s
leads_itself s = record { next = omega arith; stood = λ path e at early. stands_itself s.map path e at; numbered = λ h. h }

leads_by_cases : (s t u : Namespace) → NamesLead s t → NamesLead t u → (path : List Seg) (e : Entry) → get u.map path ≡ Some e → (e.number < s.next) ⊎ (u.next ≡ s.next) → StandsAlike s.map path e
leads_by_cases s t u a b path e at (inl less) =
    let le = a.next in
    let there = b.stood path e at (inl (omega (arith, le, less))) in
    stands_through s.map path e there.other there.alike (a.stood path (numbered_entry e.number there.other) there.there (inl less))
leads_by_cases s t u a b path e at (inr none) =
    let le = a.next in
    let more = b.next in
    let there = b.stood path e at (inr (omega (arith, le, more, none))) in
    stands_through s.map path e there.other there.alike (a.stood path (numbered_entry e.number there.other) there.there (inr (omega (arith, le, more, none))))

leads_through : (s t u : Namespace) → NamesLead s t → NamesLead t u → NamesLead s u
leads_through s t u a b = record {
  next = (let le = a.next in let more = b.next in omega (arith, le, more));
  stood = leads_by_cases s t u a b;
  numbered = λ h. b.numbered (a.numbered h);
}

-- where all that stands after stood before, under the same numbers
leads_alike : (s t : Namespace) → t.next ≡ s.next → ((path : List Seg) (e : Entry) → get t.map path ≡ Some e → StandsAlike s.map path e) → NamesLead s t
leads_alike s t next stood = record {
  next = omega (arith, next);
  stood = λ path e at early. stood path e at;
  numbered = λ h. record {
    below = λ path e at. let less : e.number < s.next = h.below path _ (stood path e at).there in omega (arith, less, next);
    distinct = λ p q d e is so alike. h.distinct p q _ _ (stood p d is).there (stood q e so).there alike;
  };
}

gone_by_cases : (b : Bool) (o : Option Entry) (e : Entry) → (if b then None else o) ≡ Some e → o ≡ Some e
gone_by_cases true o e is = absurd (cc is)
gone_by_cases false o e is = is

leads_by_end : (q : List Seg) (s t : Namespace) → GoneBelow q s t → NamesLead s t
leads_by_end q s t gone = leads_alike s t gone.next (λ path e at. stands_itself s.map path e (gone_by_cases (is_below q path) (get s.map path) e (sym (gone.names path) ∙ at)))

declared_by_cases : (s : Namespace) (path : List Seg) (o : NamedObject) (b : Bool) (e : Entry) → cond b (Some (numbered_entry s.next o)) (get s.map path) ≡ Some e → (e.number < s.next) ⊎ (s.next + 1 ≡ s.next) → StandsAlike s.map path e
declared_by_cases s path o true e is (inl less) = let number : s.next ≡ e.number = ap (λ (x : Entry). x.number) (same_entry _ _ is) in absurd (omega (arith, less, number))
declared_by_cases s path o true e is (inr none) = absurd (omega (arith, none))
declared_by_cases s path o false e is early = stands_itself s.map path e is

leads_by_declaration : (s : Namespace) (q : List Seg) (o : NamedObject) → NamesLead s (with_declaration q o s)
leads_by_declaration s q o = record {
  next = omega arith;
  stood = λ path e at early. declared_by_cases s path o (eq_by_cmp path_cmp path q) e (sym (get-insert path_total s.map q (numbered_entry s.next o) path) ∙ at) early;
  numbered = numbered_declared s q o;
}

module _ {S : Type 0} (accesses : Accesses S) where
  history_leads : (known : List FieldUnit) (w v : State S) → History accesses known w v → NamesLead w.names v.names
  history_leads known w v (same _ _) = leads_itself w.names
  history_leads known w v (changed _ _ u _ h n) = leads_through w.names u.names v.names (history_leads known w u h) (leads_alike u.names v.names n.next n.stood)
  history_leads known w v (declared _ _ u path o h free) = leads_through w.names u.names v.names (history_leads known w u h) (leads_by_declaration u.names path o)
  history_leads known w v (call_ended _ _ u x path names h method i gone) = leads_through w.names u.names names (history_leads known w u h) (leads_through u.names x.names names (history_leads known u x i) (leads_by_end path x.names names gone))
  history_leads known w v (framed _ _ u x vs h i) = leads_through w.names u.names x.names (history_leads known w u h) (history_leads known (with_frame vs u) x i)
  history_leads known w v (field_stands _ _ u _ field h st i) = leads_through w.names u.names v.names (history_leads known w u h) (history_leads (field ∷ known) u v i)
  history_leads known w v (read _ _ l u field region at width is h stands i of at_function) = leads_through w.names l.names u.names (history_leads known w l h) (history_leads known l u i)
  history_leads known w v (written _ _ l u field region at width value is h stands i of at_function) = leads_through w.names l.names u.names (history_leads known w l h) (history_leads known l u i)
  history_leads known w v (bridge_asked _ _ u at width h wide is) = history_leads known w u h

-- ---- names that stand outside of control methods

record Stays (before after : Map) (p : List Seg) : Type 0 where
  outside : OutsideIn after p
  stands : contains_key before p ≡ true → contains_key after p ≡ true

abbrev StayOutside : Namespace → Namespace → Type 0
StayOutside s t = (p : List Seg) → OutsideIn s.map p → Stays s.map t.map p

stays_itself : (s : Namespace) → StayOutside s s
stays_itself s p o = record { outside = o; stands = λ st. st }

stays_through : (s t u : Namespace) → StayOutside s t → StayOutside t u → StayOutside s u
stays_through s t u a b p o = let first = a p o in let later = b p first.outside in record { outside = later.outside; stands = λ st. later.stands (first.stands st) }

takes_no_method : (o other : NamedObject) → TakesPlaceOf o other → is_method o ≡ is_method other
takes_no_method _ _ (puts.of_value new old) = refl
takes_no_method _ _ (puts.of_mutex new old) = refl
takes_no_method _ _ (puts.of_event new old) = refl

method_alike : (o other : NamedObject) → AreAlike o other → is_method o ≡ is_method other
method_alike o other (inl e) = ap is_method e
method_alike o other (inr t) = takes_no_method o other t

module _ (s t : Namespace) (stood : (path : List Seg) (e : Entry) → get t.map path ≡ Some e → StandsAlike s.map path e) (stand : (path : List Seg) (e : Entry) → get s.map path ≡ Some e → contains_key t.map path ≡ true) where
  open_there : (r : List Seg) (o : Option Entry) → get t.map r ≡ o → is_some o ≡ true → is_open (get s.map r) ≡ true → is_open o ≡ true
  open_there r None at there opens = absurd (cc there)
  open_there r (Some e) at there opens = let before = stood r e at in ap not (method_alike e.object before.other before.alike) ∙ sym (ap is_open before.there) ∙ opens

  open_stands : (r : List Seg) (o : Option Entry) → get s.map r ≡ o → is_open o ≡ true → contains_key t.map r ≡ true
  open_stands r None at opens = absurd (cc opens)
  open_stands r (Some e) at opens = stand r e at

  some_stands : (r : List Seg) (o : Option Entry) → get s.map r ≡ o → is_some o ≡ true → contains_key t.map r ≡ true
  some_stands r None at there = absurd (cc there)
  some_stands r (Some e) at there = stand r e at

  stays_alike : StayOutside s t
  stays_alike p o = record {
    outside = record { above = λ r below. let opens = o.above r below in open_there r (get t.map r) refl (open_stands r (get s.map r) refl opens) opens };
    stands = some_stands p (get s.map p) refl;
  }

not_gone : (b : Bool) (o : Option Entry) → b ≡ false → (if b then None else o) ≡ o
not_gone true o e = absurd (cc e)
not_gone false o e = refl

-- where a call ends, of a control method that is above no such path
stays_at_end : (q : List Seg) (s t : Namespace) → GoneBelow q s t → (p : List Seg) → is_below q p ≡ false → OutsideIn s.map p → Stays s.map t.map p
stays_at_end q s t gone p apart o = record {
  outside = record { above = λ r below. ap is_open (gone.names r ∙ not_gone (is_below q r) (get s.map r) (not_below_by_cases q r p (is_below q r) refl apart below)) ∙ o.above r below };
  stands = λ st. ap is_some (gone.names p ∙ not_gone (is_below q p) (get s.map p) apart) ∙ st;
}

stays_by_call : (q : List Seg) (u s t : Namespace) → MethodStands u.map q → StayOutside u s → GoneBelow q s t → StayOutside u t
stays_by_call q u s t method leads gone p o =
    let first = leads p o in
    let end = stays_at_end q s t gone p (method_apart u.map q p (numbered_entry method.number (object.Method method.method)) o method.there refl) first.outside in
    record { outside = end.outside; stands = λ st. end.stands (first.stands st) }

stays_by_declaration : (s : Namespace) (q : List Seg) (o : NamedObject) → contains_key s.map q ≡ false → StayOutside s (with_declaration q o s)
stays_by_declaration s q o free p out = let kept = kept_new s.map q (numbered_entry s.next o) p free out in record { outside = kept.outside; stands = kept.stands }

module _ {S : Type 0} (accesses : Accesses S) where
  history_stays : (known : List FieldUnit) (w v : State S) → History accesses known w v → StayOutside w.names v.names
  history_stays known w v (same _ _) = stays_itself w.names
  history_stays known w v (changed _ _ u _ h n) = stays_through w.names u.names v.names (history_stays known w u h) (stays_alike u.names v.names n.stood n.stand)
  history_stays known w v (declared _ _ u path o h free) = stays_through w.names u.names v.names (history_stays known w u h) (stays_by_declaration u.names path o free)
  history_stays known w v (call_ended _ _ u x path names h method i gone) = stays_through w.names u.names names (history_stays known w u h) (stays_by_call path u.names x.names names method (history_stays known u x i) gone)
  history_stays known w v (framed _ _ u x vs h i) = stays_through w.names u.names x.names (history_stays known w u h) (history_stays known (with_frame vs u) x i)
  history_stays known w v (field_stands _ _ u _ field h st i) = stays_through w.names u.names v.names (history_stays known w u h) (history_stays (field ∷ known) u v i)
  history_stays known w v (read _ _ l u field region at width is h stands i of at_function) = stays_through w.names l.names u.names (history_stays known w l h) (history_stays known l u i)
  history_stays known w v (written _ _ l u field region at width value is h stands i of at_function) = stays_through w.names l.names u.names (history_stays known w l h) (history_stays known l u i)
  history_stays known w v (bridge_asked _ _ u at width h wide is) = history_stays known w u h

-- ---- notes

module _ {S : Type 0} (accesses : Accesses (WithNotes S)) (start : State (WithNotes S)) (names : Map) where
  no_notes : (s : WithNotes S) → NotesExplained accesses start names s s
  no_notes s = record { made = []; are = sym (append-nil s.1); explained = All-nil _ }

  more_notes : (s t u : WithNotes S) → NotesExplained accesses start names s t → NotesExplained accesses start names t u → NotesExplained accesses start names s u
  more_notes s t u a b = record {
    made = a.made ++ b.made;
    are = b.are ∙ ap (λ notes. notes ++ b.made) a.are ∙ append_assoc s.1 a.made b.made;
    explained = All-append (IsExplained accesses start names) a.made b.made a.explained b.explained;
  }

  one_note : (s t u : WithNotes S) (x : Exchange) → u.1 ≡ t.1 ++ x ∷ [] → IsExplained accesses start names x → NotesExplained accesses start names s t → NotesExplained accesses start names s u
  one_note s t u x is d a = record {
    made = a.made ++ x ∷ [];
    are = is ∙ ap (λ notes. notes ++ x ∷ []) a.are ∙ append_assoc s.1 a.made (x ∷ []);
    explained = All-push (IsExplained accesses start names) a.made x a.explained d;
  }

-- ---- names between two worlds

-- Worlds between two: what is told of the first one leads on, and what is told of the last one leads back; of a world of which both are told,
-- all that stands in it stands alike among some names, and of these what stands outside of control methods stands alike in it.
record Span (names : Map) : Type 1 where
  Behind : Namespace → Type 0
  Ahead : Namespace → Type 0
  on : (s t : Namespace) → NamesLead s t → StayOutside s t → Behind s → Ahead t → Behind t
  back : (s t : Namespace) → NamesLead s t → Ahead t → Ahead s
  all : (s : Namespace) → Behind s → Ahead s → (path : List Seg) (e : Entry) → get s.map path ≡ Some e → StandsAlike names path e
  stay : (s : Namespace) → Behind s → Ahead s → (path : List Seg) (e : Entry) → get names path ≡ Some e → OutsideIn names path → e.number < s.next → StandsAlike s.map path e

module _ {S : Type 0} (accesses : Accesses S) (start : State (WithNotes S)) (names : Map) (span : Span names) where
  abbrev Past : List FieldUnit → State (WithNotes S) → State (WithNotes S) → Type 0
  Past = History (noted accesses)

  abbrev Explained : WithNotes S → WithNotes S → Type 0
  Explained s t = NotesExplained (noted accesses) start names s t

  field_among : (s : Namespace) (field : FieldUnit) → span.Behind s → span.Ahead s → FieldUnitStands s.map field → FieldUnitStands names field
  field_among s field behind ahead st = record { path = st.path; number = st.number; there = reached_stands names st.path st.number (object.FieldUnit field) refl (span.all s behind ahead st.path _ st.there) }

  -- an access of a field unit that stands, in a region that does
  access_declared : (l : State (WithNotes S)) (known : List FieldUnit) (field : FieldUnit) (region : OperationRegion) (x : Exchange) → SameSettings start l → span.Behind l.names → span.Ahead l.names → All (FieldUnitStands names) known → Contains known field
      → (stands : RegionStands l.names.map region) → IsOfField l.names.map field region stands (place_of x) (width_of x) → IsAtFunction (noted accesses) l (scope_of stands.path) (place_of x) → IsDeclared (noted accesses) start names x
  access_declared l known field region x settings behind ahead known_stand is stands of at_function = record {
    field = field;
    field_stands = All-contains (FieldUnitStands names) known field known_stand is;
    region = region;
    stands = record { path = stands.path; number = stands.number; there = reached_stands names stands.path stands.number (object.OperationRegion region) refl (span.all l.names behind ahead stands.path _ stands.there) };
    is_of = record { lies = of.lies; reaches = of.reaches; within = of.within };
    located = l;
    is_world = record { settings = settings; stand = span.all l.names behind ahead; stay = span.stay l.names behind ahead };
    function = at_function;
  }

  follows : (known : List FieldUnit) (w v : State (WithNotes S)) → All (FieldUnitStands names) known → SameSettings start w → span.Behind w.names → span.Ahead v.names → Past known w v → Explained w.space v.space
  follows known w v known_stand settings behind ahead (same _ _) = no_notes (noted accesses) start names w.space
  follows known w v known_stand settings behind ahead (changed _ _ u _ h n) =
      subst (Explained w.space) (sym n.space) (follows known w u known_stand settings behind (span.back u.names v.names (leads_alike u.names v.names n.next n.stood) ahead) h)
  follows known w v known_stand settings behind ahead (declared _ _ u path o h free) =
      follows known w u known_stand settings behind (span.back u.names v.names (leads_by_declaration u.names path o) ahead) h
  follows known w v known_stand settings behind ahead (call_ended _ _ u x path names_after h method i gone) =
      let late = span.back x.names names_after (leads_by_end path x.names names_after gone) ahead in
      let early = span.back u.names x.names (history_leads (noted accesses) known u x i) late in
      let so_far = span.on w.names u.names (history_leads (noted accesses) known w u h) (history_stays (noted accesses) known w u h) behind early in
      let settings_there = settings_transitive start w u settings (history_settings (noted accesses) known w u h) in
      more_notes (noted accesses) start names w.space u.space x.space (follows known w u known_stand settings behind early h) (follows known u x known_stand settings_there so_far late i)
  follows known w v known_stand settings behind ahead (framed _ _ u x vs h i) =
      let early = span.back u.names x.names (history_leads (noted accesses) known (with_frame vs u) x i) ahead in
      let so_far = span.on w.names u.names (history_leads (noted accesses) known w u h) (history_stays (noted accesses) known w u h) behind early in
      let settings_there = settings_transitive start w u settings (history_settings (noted accesses) known w u h) in
      more_notes (noted accesses) start names w.space u.space x.space (follows known w u known_stand settings behind early h)
      (follows known (with_frame vs u) x known_stand (settings_of start u (with_frame vs u) settings_there refl refl refl refl) so_far ahead i)
  follows known w v known_stand settings behind ahead (field_stands _ _ u _ field h st i) =
      let early = span.back u.names v.names (history_leads (noted accesses) (field ∷ known) u v i) ahead in
      let so_far = span.on w.names u.names (history_leads (noted accesses) known w u h) (history_stays (noted accesses) known w u h) behind early in
      let settings_there = settings_transitive start w u settings (history_settings (noted accesses) known w u h) in
      more_notes (noted accesses) start names w.space u.space v.space (follows known w u known_stand settings behind early h)
      (follows (field ∷ known) u v (All-cons (FieldUnitStands names) field known (field_among u.names field so_far early st) known_stand) settings_there so_far ahead i)
  follows known w v known_stand settings behind ahead (read _ _ l u field region at width is h stands i of at_function) =
      let early = span.back l.names u.names (history_leads (noted accesses) known l u i) ahead in
      let so_far = span.on w.names l.names (history_leads (noted accesses) known w l h) (history_stays (noted accesses) known w l h) behind early in
      let settings_there = settings_transitive start w l settings (history_settings (noted accesses) known w l h) in
      let x : Exchange = note.Read at width (accesses.reads u.space.0 at width).0 in
      let notes = more_notes (noted accesses) start names w.space l.space u.space (follows known w l known_stand settings behind early h) (follows known l u known_stand settings_there so_far ahead i) in
      one_note (noted accesses) start names w.space u.space v.space x refl (inl (access_declared l known field region x settings_there so_far early known_stand is stands of at_function)) notes
  follows known w v known_stand settings behind ahead (written _ _ l u field region at width value is h stands i of at_function) =
      let early = span.back l.names u.names (history_leads (noted accesses) known l u i) ahead in
      let so_far = span.on w.names l.names (history_leads (noted accesses) known w l h) (history_stays (noted accesses) known w l h) behind early in
      let settings_there = settings_transitive start w l settings (history_settings (noted accesses) known w l h) in
      let x : Exchange = note.Write at width value (accesses.writes u.space.0 at width value).0 in
      let notes = more_notes (noted accesses) start names w.space l.space u.space (follows known w l known_stand settings behind early h) (follows known l u known_stand settings_there so_far ahead i) in
      one_note (noted accesses) start names w.space u.space v.space x refl (inl (access_declared l known field region x settings_there so_far early known_stand is stands of at_function)) notes
  follows known w v known_stand settings behind ahead (bridge_asked _ _ u at width h wide is) =
      let answer = (accesses.reads u.space.0 at width).0 in
      let in_wide = sym (settings_transitive start w u settings (history_settings (noted accesses) known w u h)).profile ∙ wide in
      one_note (noted accesses) start names w.space u.space v.space (note.Read at width answer) refl (inr (in_wide, asks at width answer is)) (follows known w u known_stand settings behind ahead h)

-- ---- where no name is declared

module _ (first : Namespace) where
  record StoodBefore (s : Namespace) : Type 0 where
    next : first.next ≤ s.next
    stood : (path : List Seg) (e : Entry) → get s.map path ≡ Some e → StandsAlike first.map path e
    outside : StayOutside first s

  stood_on : (s t : Namespace) → NamesLead s t → StayOutside s t → StoodBefore s → t.next ≤ first.next → StoodBefore t
  stood_on s t leads stays behind ahead =
      let more = leads.next in
      let so_far = behind.next in
      record {
        next = omega (arith, more, so_far);
        stood = λ path e at. let there = leads.stood path e at (inr (omega (arith, more, so_far, ahead))) in stands_through first.map path e there.other there.alike (behind.stood path (numbered_entry e.number there.other) there.there);
        outside = stays_through first s t behind.outside stays;
      }

  stayed_by_cases : (s : Namespace) → StoodBefore s → (path : List Seg) (e : Entry) (o : Option Entry) → get first.map path ≡ Some e → get s.map path ≡ o → is_some o ≡ true → StandsAlike s.map path e
  stayed_by_cases s behind path e None at there is = absurd (cc is)
  stayed_by_cases s behind path e (Some d) at there is =
      let before = behind.stood path d there in
      let same_one : e ≡ numbered_entry d.number before.other = same_entry _ _ (sym at ∙ before.there) in
      subst (StandsAlike s.map path) (sym same_one) (record { other = d.object; there = there; alike = alike_back d.object before.other before.alike })

  abbrev none_declared : Span first.map
  none_declared = record {
    Behind = StoodBefore;
    Ahead = λ s. s.next ≤ first.next;
    on = stood_on;
    back = λ s t leads ahead. let more = leads.next in omega (arith, more, ahead);
    all = λ s behind ahead. behind.stood;
    stay = λ s behind ahead path e at out less. stayed_by_cases s behind path e (get s.map path) at refl ((behind.outside path out).stands (ap is_some at));
  }

-- ---- where none is removed

module _ (first last : Namespace) where
  record GoneOn (s : Namespace) : Type 0 where
    numbered : Numbered s
    next : first.next ≤ s.next
    stood : (path : List Seg) (e : Entry) → get s.map path ≡ Some e → e.number < first.next → StandsAlike first.map path e

  record StayOn (s : Namespace) : Type 0 where
    next : s.next ≤ last.next
    stayed : (path : List Seg) (e : Entry) → get last.map path ≡ Some e → e.number < s.next → StandsAlike s.map path e

  gone_on : (s t : Namespace) → NamesLead s t → StayOutside s t → GoneOn s → StayOn t → GoneOn t
  gone_on s t leads stays behind ahead =
      let more = leads.next in
      let so_far = behind.next in
      record {
        numbered = leads.numbered behind.numbered;
        next = omega (arith, more, so_far);
        stood = λ path e at less. let there = leads.stood path e at (inl (omega (arith, so_far, less))) in stands_through first.map path e there.other there.alike (behind.stood path (numbered_entry e.number there.other) there.there less);
      }

  stay_on : (s t : Namespace) → NamesLead s t → StayOn t → StayOn s
  stay_on s t leads ahead =
      let more = leads.next in
      let to_last = ahead.next in
      record {
        next = omega (arith, more, to_last);
        stayed = λ path e at less. let there = ahead.stayed path e at (omega (arith, more, less)) in stands_through s.map path e there.other there.alike (leads.stood path (numbered_entry e.number there.other) there.there (inl less));
      }

  module _ (none : NoneRemoved first last) where
    number_stands : (s : Namespace) (behind : GoneOn s) → StayOn s → (path : List Seg) (e : Entry) → get s.map path ≡ Some e → (b : Bool) → nat_lt e.number first.next ≡ b → NumberStands last.map e.number
    number_stands s behind ahead path e at true test = let there = behind.stood path e at (ltb-true e.number first.next test) in none.stood path (numbered_entry e.number there.other) there.there
    number_stands s behind ahead path e at false test =
        let early = ltb-false e.number first.next test in
        let less = behind.numbered.below path e at in
        let to_last = ahead.next in
        none.declared e.number (omega (arith, early)) (omega (arith, less, to_last))

    -- the name under the same number stood there
    stands_after : (s : Namespace) → GoneOn s → StayOn s → (path : List Seg) (e : Entry) → get s.map path ≡ Some e → StandsAlike last.map path e
    stands_after s behind ahead path e at =
        let x = number_stands s behind ahead path e at (nat_lt e.number first.next) refl in
        let number = x.numbered in
        let less = behind.numbered.below path e at in
        let there = ahead.stayed x.path x.entry x.there (omega (arith, number, less)) in
        let here : path ≡ x.path = behind.numbered.distinct path x.path e (numbered_entry x.entry.number there.other) at there.there (sym number) in
        let is : e ≡ numbered_entry x.entry.number there.other = same_entry _ _ (sym at ∙ ap (get s.map) here ∙ there.there) in
        record {
          other = x.entry.object;
          there = ap (get last.map) here ∙ x.there ∙ ap (λ n. Some (numbered_entry n x.entry.object)) number;
          alike = subst (λ (y : Entry). AreAlike y.object x.entry.object) (sym is) (alike_back x.entry.object there.other there.alike);
        }

    abbrev none_removed : Span last.map
    none_removed = record { Behind = GoneOn; Ahead = StayOn; on = gone_on; back = stay_on; all = stands_after; stay = λ s behind ahead path e at out less. ahead.stayed path e at less }

module _ {S : Type 0} (accesses : Accesses S) where
  -- what declares no name accesses field units that stood before it, in regions that stood, and, in the wide profile, asks bridges
  pub accesses_explained : (w v : State (WithNotes S)) → Becomes (noted accesses) w v → v.names.next ≡ w.names.next → NotesExplained (noted accesses) w w.names.map w.space v.space
  accesses_explained w v h e = follows accesses w w.names.map (none_declared w.names) [] w v (All-nil _) (settings_reflexive w)
      (record { next = omega arith; stood = stands_itself w.names.map; outside = stays_itself w.names }) (omega (arith, e)) (has_history (noted accesses) w v h)

  -- what removes no name accesses field units that stand after it, in regions that do
  pub accesses_explained_after : (w v : State (WithNotes S)) → Becomes (noted accesses) w v → Numbered w.names → NoneRemoved w.names v.names → NotesExplained (noted accesses) w v.names.map w.space v.space
  accesses_explained_after w v h numbered none = follows accesses w v.names.map (none_removed w.names v.names none) [] w v (All-nil _) (settings_reflexive w)
      (record { numbered = numbered; next = omega arith; stood = λ path e at less. stands_itself w.names.map path e at }) (record { next = omega arith; stayed = λ path e at less. stands_itself v.names.map path e at }) (has_history (noted accesses) w v h)

pub ruleset registers_are_reached_within_regions = (has_history, accesses_explained, accesses_explained_after)
