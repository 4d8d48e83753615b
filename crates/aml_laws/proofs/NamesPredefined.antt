-- Which names stand before any table is loaded, and that nothing else does.
use Rattle.std.specs.Prelude.{◌≡◌, ◌⊎◌, ◌+◌, ◌-◌, ◌^◌, ◌==◌, ℕ, List, [], ◌∷◌, ◌++◌, cond, codes, Bool, true, false, not, ◌&&◌, Option, Some, None, Ok, refl, if◌then◌else◌}
use Rattle.std.proofs.Common.{ap, sym, subst, inl, inr, ◌∙◌}
use Rattle.std.proofs.lemmas.Option.{same_Some}
use Rattle.std.specs.Ordering.{eq_by_cmp}
use Rattle.std.specs.FinMap.{get, insert, empty, get-insert, get-empty}
use Rattle.ar_space.specs.Change.{settle, give, go_on, ◌>>=◌}
use Rattle.ar_space.specs.Outcome.{Outcome}
use Rattle.ar_space.specs.declared.integer_width.IntegerWidth.{IntegerWidth}
use Rattle.aml_arities.specs.Arities.{is_of, or_else, latest, arity_at}
use Rattle.aml_arities.specs.declared.arities.Arity.{Arity}
use Rattle.aml_path.specs.Paths.{path_cmp, path_eq}
use Rattle.aml_arities.proofs.PathTrees.{tied}
use Rattle.aml_path.specs.Segments.{seg_of}
use Rattle.aml_path.specs.declared.segment.Seg.{Seg}
use Rattle.aml_objects.specs.Objects.{make, fits, make_string}
use Rattle.aml_objects.specs.declared.entry.Entry.{Entry}
use Rattle.aml_objects.specs.declared.entry.MethodBody.TheVariants.{Osi}
use Rattle.aml_objects.specs.declared.entry.NamedObject.{NamedObject}
use Rattle.aml_objects.specs.declared.entry.NamedObject.TheVariants as named
use Rattle.aml_objects.specs.declared.object.Object.{Object}
use Rattle.aml_objects.specs.declared.object.Object.TheVariants as object
use Rattle.aml_objects.specs.declared.value.Value.TheVariants as value
use Rattle.aml_namespace.specs.Namespace.{declared}
use Rattle.aml_namespace.proofs.Paths.{path_total, same_path}
use Rattle.aml_world.specs.declared.state.settings.EvaluationSettings.{EvaluationSettings}
use Rattle.aml_world.specs.state.State.{State, on_objects, on_names}
use Rattle.aml_world.specs.state.Predefined.{fresh_as, takes, at_root, predefined_scopes, predefined_objects, predefined}
use Rattle.aml_laws.specs.PredefinedNames.{IsPredefined, events, processors, system_bus, indicators, thermal_zones, global_lock, operating_system, revision, interfaces, StandsAtRoot, IsRoot, IsPathOfPredefined}

-- ---- names that were put one after another, the latest first

abbrev Names : Type 0
Names = List (List Seg × Entry)

abbrev looked_up : List Seg → Names → Option Entry
looked_up q [] = None
looked_up q (e ∷ es) = cond (eq_by_cmp path_cmp q e.0) (Some e.1) (looked_up q es)

abbrev at : Seg → ℕ → NamedObject → List Seg × Entry
at s n o = (s ∷ [], record { number = n; object = o })

-- how many arguments a segment below the root takes
abbrev counted : Seg → ℕ → Arity
counted s count = record { path = s ∷ []; count = count; external = false }

record Stand {S : Type 0} (w : State S) (names : Names) (n : ℕ) (objects : List Object) (told : List Arity) : Type 0 where
  there : (q : List Seg) → get w.names.map q ≡ looked_up q names
  next : w.names.next ≡ n
  kept : w.objects ≡ objects
  takes : w.arities ≡ told
  frames : w.frames ≡ []

record Put {S : Type 0} (text : List ℕ) (o : NamedObject) (count : ℕ) (w : State S) (names : Names) (n : ℕ) (objects : List Object) (told : List Arity) : Type 0 where
  after : State S
  done : at_root text o count w ≡ (Ok tt, after)
  stand : Stand after names n objects told

module _ {S : Type 0} {told : List Arity} (w : State S) (names : Names) (n : ℕ) (objects : List Object) (stand : Stand w names n objects told) (text : List ℕ) (s : Seg) (o : NamedObject) (count : ℕ) (root : Entry) where
  abbrev later : State S
  later = record w { names = record { map = insert w.names.map (s ∷ []) (record { number = w.names.next; object = o }); next = w.names.next + 1 }; arities = w.arities ++ record { path = s ∷ []; count = count; external = false } ∷ [] }

  put_so : seg_of text ≡ Ok s → looked_up [] names ≡ Some root → looked_up (s ∷ []) names ≡ None → (n == 2 ^ 64 - 1) ≡ false → at_root text o count w ≡ (Ok tt, later)
  unfolding at_root takes on_names declared settle go_on ◌>>=◌
  put_so spelled above free room = rw (spelled, stand.there [] ∙ above, stand.there (s ∷ []) ∙ free, ap (λ (k : ℕ). k == 2 ^ 64 - 1) stand.next ∙ room) refl

  put : seg_of text ≡ Ok s → looked_up [] names ≡ Some root → looked_up (s ∷ []) names ≡ None → (n == 2 ^ 64 - 1) ≡ false → Put text o count w (at s n o ∷ names) (n + 1) objects (told ++ counted s count ∷ [])
  put spelled above free room = record {
    after = later;
    done = put_so spelled above free room;
    stand = record {
      there = λ q. get-insert path_total w.names.map (s ∷ []) (record { number = w.names.next; object = o }) q
          ∙ (ap (λ (k : ℕ). cond (eq_by_cmp path_cmp q (s ∷ [])) (Some (record { number = k; object = o })) (get w.names.map q)) stand.next ∙ ap (cond (eq_by_cmp path_cmp q (s ∷ [])) (Some (record { number = n; object = o }))) (stand.there q));
      next = ap (λ (k : ℕ). k + 1) stand.next;
      kept = stand.kept;
      takes = ap (λ xs. xs ++ counted s count ∷ []) stand.takes;
      frames = stand.frames;
    };
  }

-- ---- the segments

abbrev gpe : Seg
gpe = record { bytes = codes "_GPE"; valid = refl }

abbrev pr : Seg
pr = record { bytes = codes "_PR_"; valid = refl }

abbrev sb : Seg
sb = record { bytes = codes "_SB_"; valid = refl }

abbrev si : Seg
si = record { bytes = codes "_SI_"; valid = refl }

abbrev tz : Seg
tz = record { bytes = codes "_TZ_"; valid = refl }

abbrev gl : Seg
gl = record { bytes = codes "_GL_"; valid = refl }

abbrev os : Seg
os = record { bytes = codes "_OS_"; valid = refl }

abbrev rev : Seg
rev = record { bytes = codes "_REV"; valid = refl }

abbrev osi_name : Seg
osi_name = record { bytes = codes "_OSI"; valid = refl }

spelled_so : (seg_of (codes "_GPE") ≡ Ok gpe) × (seg_of (codes "_PR_") ≡ Ok pr) × (seg_of (codes "_SB_") ≡ Ok sb) × (seg_of (codes "_SI_") ≡ Ok si) × (seg_of (codes "_TZ_") ≡ Ok tz) × (seg_of (codes "_GL_") ≡ Ok gl) × (seg_of (codes "_OS_") ≡ Ok os) × (seg_of (codes "_REV") ≡ Ok rev)
    × (seg_of (codes "_OSI") ≡ Ok osi_name)
unfolding seg_of
spelled_so = (refl, refl, refl, refl, refl, refl, refl, refl, refl)

-- ---- one after another

abbrev root_entry : Entry
root_entry = record { number = 0; object = named.Scope }

abbrev first_names : Names
first_names = ([], root_entry) ∷ []

abbrev scopes : Names
scopes = at tz 5 named.Scope ∷ at si 4 named.Scope ∷ at sb 3 named.Scope ∷ at pr 2 named.Scope ∷ at gpe 1 named.Scope ∷ first_names

abbrev osi_object : NamedObject
osi_object = named.Method (record { flags = record { byte = 1 }; body = Osi })

abbrev all_names : Names
all_names = at osi_name 9 osi_object ∷ at rev 8 (named.Data (value.Integer 2)) ∷ at os 7 (named.Data (value.String 0)) ∷ at gl 6 (named.Mutex 0) ∷ scopes

abbrev scope_counts : List Arity
scope_counts = counted gpe 0 ∷ counted pr 0 ∷ counted sb 0 ∷ counted si 0 ∷ counted tz 0 ∷ []

abbrev all_counts : List Arity
all_counts = scope_counts ++ counted gl 0 ∷ counted os 0 ∷ counted rev 0 ∷ counted osi_name 1 ∷ []

abbrev system_text : List ℕ
system_text = codes "Microsoft Windows NT"

record Done {S A : Type 0} (r : Outcome A × State S) (names : Names) (n : ℕ) (objects : List Object) (told : List Arity) : Type 0 where
  value : A
  after : State S
  is : r ≡ (Ok value, after)
  stand : Stand after names n objects told

module _ {S : Type 0} where
  scopes_stand : (w : State S) → Stand w first_names 1 [] [] → Done (predefined_scopes w) scopes 6 [] scope_counts
  unfolding predefined_scopes go_on ◌>>=◌
  scopes_stand w s =
      let a = put w first_names 1 [] s (codes "_GPE") gpe named.Scope 0 root_entry spelled_so.0 refl refl refl in
      let b = put a.after (at gpe 1 named.Scope ∷ first_names) 2 [] a.stand (codes "_PR_") pr named.Scope 0 root_entry spelled_so.1 refl refl refl in
      let c = put b.after (at pr 2 named.Scope ∷ at gpe 1 named.Scope ∷ first_names) 3 [] b.stand (codes "_SB_") sb named.Scope 0 root_entry spelled_so.2 refl refl refl in
      let d = put c.after (at sb 3 named.Scope ∷ at pr 2 named.Scope ∷ at gpe 1 named.Scope ∷ first_names) 4 [] c.stand (codes "_SI_") si named.Scope 0 root_entry spelled_so.3 refl refl refl in
      let e = put d.after (at si 4 named.Scope ∷ at sb 3 named.Scope ∷ at pr 2 named.Scope ∷ at gpe 1 named.Scope ∷ first_names) 5 [] d.stand (codes "_TZ_") tz named.Scope 0 root_entry spelled_so.4 refl refl refl in
      record { value = tt; after = e.after; is = rw (a.done, b.done, c.done, d.done) e.done; stand = e.stand }

  text_there : (w : State S) → w.objects ≡ [] → on_objects (make_string system_text) w ≡ (Ok (value.String 0), record w { objects = object.String system_text ∷ [] })
  unfolding on_objects make_string make fits settle give go_on ◌>>=◌
  text_there w none = rw none refl

  objects_stand : (w : State S) → Stand w scopes 6 [] scope_counts → Done (predefined_objects w) all_names 10 (object.String system_text ∷ []) all_counts
  unfolding predefined_objects go_on ◌>>=◌
  objects_stand w s =
      let a = put w scopes 6 [] s (codes "_GL_") gl (named.Mutex 0) 0 root_entry spelled_so.5 refl refl refl in
      let made : State S = record a.after { objects = object.String system_text ∷ [] } in
      let with_text : Stand made (at gl 6 (named.Mutex 0) ∷ scopes) 7 (object.String system_text ∷ []) (scope_counts ++ counted gl 0 ∷ []) = record { there = a.stand.there; next = a.stand.next; kept = refl; takes = a.stand.takes; frames = a.stand.frames } in
      let b = put made (at gl 6 (named.Mutex 0) ∷ scopes) 7 (object.String system_text ∷ []) with_text (codes "_OS_") os (named.Data (value.String 0)) 0 root_entry spelled_so.6 refl refl refl in
      let c = put b.after (at os 7 (named.Data (value.String 0)) ∷ at gl 6 (named.Mutex 0) ∷ scopes) 8 (object.String system_text ∷ []) b.stand (codes "_REV") rev (named.Data (value.Integer 2)) 0 root_entry spelled_so.7 refl refl refl in
      let d = put c.after (at rev 8 (named.Data (value.Integer 2)) ∷ at os 7 (named.Data (value.String 0)) ∷ at gl 6 (named.Mutex 0) ∷ scopes) 9 (object.String system_text ∷ []) c.stand (codes "_OSI") osi_name osi_object 1 root_entry spelled_so.8 refl refl refl in
      record { value = tt; after = d.after; is = rw (a.done, text_there a.after a.stand.kept, b.done, c.done) d.done; stand = d.stand }

  fresh_stands : (settings : EvaluationSettings) (width : IntegerWidth) (osi : List (List ℕ)) (space : S) → Stand (fresh_as settings width osi space) first_names 1 [] []
  fresh_stands settings width osi space = record { there = λ q. get-insert path_total empty [] root_entry q ∙ ap (cond (eq_by_cmp path_cmp q []) (Some root_entry)) (get-empty path_cmp q); next = refl; kept = refl; takes = refl; frames = refl }

  all_stand : (settings : EvaluationSettings) (width : IntegerWidth) (osi : List (List ℕ)) (space : S) → Done (predefined (fresh_as settings width osi space)) all_names 10 (object.String system_text ∷ []) all_counts
  unfolding predefined go_on ◌>>=◌
  all_stand settings width osi space =
      let a = scopes_stand (fresh_as settings width osi space) (fresh_stands settings width osi space) in
      let b = objects_stand a.after a.stand in
      record { value = b.value; after = b.after; is = rw a.is b.is; stand = b.stand }

  found_at : (w : State S) → Stand w all_names 10 (object.String system_text ∷ []) all_counts → (s : Seg) (e : Entry) (count : ℕ) → looked_up (s ∷ []) all_names ≡ Some e → arity_at all_counts (s ∷ []) ≡ Some count → StandsAtRoot w s.bytes e.object count
  found_at w stand s e count is takes = record { segment = s; spelled = refl; entry = e; stands = stand.there (s ∷ []) ∙ is; is = refl; takes = ap (λ xs. arity_at xs (s ∷ [])) stand.takes ∙ takes }

  by_name : (w : State S) → Stand w all_names 10 (object.String system_text ∷ []) all_counts → (text : List ℕ) (o : NamedObject) (count : ℕ) → IsPredefined 0 text o count → StandsAtRoot w text o count
  unfolding arity_at
  by_name w s _ _ _ events = found_at w s gpe (at gpe 1 named.Scope).1 0 refl refl
  by_name w s _ _ _ processors = found_at w s pr (at pr 2 named.Scope).1 0 refl refl
  by_name w s _ _ _ system_bus = found_at w s sb (at sb 3 named.Scope).1 0 refl refl
  by_name w s _ _ _ indicators = found_at w s si (at si 4 named.Scope).1 0 refl refl
  by_name w s _ _ _ thermal_zones = found_at w s tz (at tz 5 named.Scope).1 0 refl refl
  by_name w s _ _ _ global_lock = found_at w s gl (at gl 6 (named.Mutex 0)).1 0 refl refl
  by_name w s _ _ _ operating_system = found_at w s os (at os 7 (named.Data (value.String 0))).1 0 refl refl
  by_name w s _ _ _ revision = found_at w s rev (at rev 8 (named.Data (value.Integer 2))).1 0 refl refl
  by_name w s _ _ _ interfaces = found_at w s osi_name (at osi_name 9 osi_object).1 1 refl refl

  pub all_predefined : (settings : EvaluationSettings) (width : IntegerWidth) (osi : List (List ℕ)) (space : S)
      → (w : State S) × ((predefined (fresh_as settings width osi space) ≡ (Ok tt, w)) × (w.objects ≡ object.String (codes "Microsoft Windows NT") ∷ []) × ((text : List ℕ) (o : NamedObject) (count : ℕ) → IsPredefined 0 text o count → StandsAtRoot w text o count))
  all_predefined settings width osi space = let a = all_stand settings width osi space in (a.after, (a.is, a.stand.kept, by_name a.after a.stand))

-- ---- nothing else

abbrev Each : (List Seg → Entry → Type 0) → Names → Type 0
Each P [] = Unit {0}
Each P (x ∷ xs) = P x.0 x.1 × Each P xs

-- what is looked up is one of the names
first_or_other : (P : List Seg → Entry → Type 0) (q : List Seg) (e : Entry) (x : List Seg × Entry) (o : Option Entry) (b : Bool) → eq_by_cmp path_cmp q x.0 ≡ b → P x.0 x.1 → (o ≡ Some e → P q e) → cond b (Some x.1) o ≡ Some e → P q e
first_or_other P q e x o true same holds others is = subst (λ r. P r e) (sym (same_path q x.0 same)) (subst (P x.0) (same_Some x.1 e is) holds)
first_or_other P q e x o false other holds others is = others is

one_of_names : (P : List Seg → Entry → Type 0) (q : List Seg) (e : Entry) (names : Names) → Each P names → looked_up q names ≡ Some e → P q e
one_of_names P q e [] each is = absurd (cc is)
one_of_names P q e (x ∷ xs) each is = first_or_other P q e x (looked_up q xs) (eq_by_cmp path_cmp q x.0) refl each.0 (λ found. one_of_names P q e xs each.1 found) is

abbrev EachPath : (List Seg → Type 0) → List Arity → Type 0
EachPath P [] = Unit {0}
EachPath P (a ∷ told) = P a.path × EachPath P told

and_both : (b c : Bool) → b && c ≡ true → (b ≡ true) × (c ≡ true)
and_both true c h = (refl, h)
and_both false c h = absurd (cc h)

of_its_path : (q : List Seg) (external : Bool) (a : Arity) → is_of q external a ≡ true → a.path ≡ q
of_its_path q true a is = tied a.path q (and_both a.external (path_eq a.path q) is).1
of_its_path q false a is = tied a.path q (and_both (not a.external) (path_eq a.path q) is).1

-- the path of a count that is told is one of those
module _ (P : List Seg → Type 0) (q : List Seg) where
  told_here : (a : Arity) (external b : Bool) (count : ℕ) → is_of q external a ≡ b → P a.path → (if b then Some a.count else None) ≡ Some count → P q
  told_here a external true count same holds is = subst P (of_its_path q external a same) holds
  told_here a external false count other holds is = absurd (cc is)

  last_or_first : (external : Bool) (count : ℕ) (a : Arity) (o : Option ℕ) → P a.path → ((k : ℕ) → o ≡ Some k → P q) → or_else o (if is_of q external a then Some a.count else None) ≡ Some count → P q
  last_or_first external count a (Some k) holds others is = others k refl
  last_or_first external count a None holds others is = told_here a external (is_of q external a) count refl holds is

  one_of_counts : (external : Bool) (count : ℕ) (told : List Arity) → EachPath P told → latest q external told ≡ Some count → P q
  one_of_counts external count [] each is = absurd (cc is)
  one_of_counts external count (a ∷ told) each is = last_or_first external count a (latest q external told) each.0 (λ k same. one_of_counts external k told each.1 same) is

  either_told : (count : ℕ) (told : List Arity) (o : Option ℕ) → EachPath P told → latest q false told ≡ o → or_else o (latest q true told) ≡ Some count → P q
  either_told count told (Some k) each declared is = one_of_counts false k told each declared
  either_told count told None each none is = one_of_counts true count told each is

  path_is_told : (count : ℕ) (told : List Arity) → EachPath P told → arity_at told q ≡ Some count → P q
  unfolding arity_at
  path_is_told count told each is = either_told count told (latest q false told) each refl is

abbrev Stands : List Seg → Entry → Type 0
Stands path e = IsRoot path e.object ⊎ IsPathOfPredefined path

of : (s : Seg) (o : NamedObject) (count : ℕ) → IsPredefined 0 s.bytes o count → IsPathOfPredefined (s ∷ [])
of s o count is = record { segment = s; is = refl; object = o; count = count; predefined = is }

each_name : Each Stands all_names
each_name = (
  inr (of osi_name osi_object 1 interfaces),
  (
    inr (of rev (named.Data (value.Integer 2)) 0 revision),
    (
      inr (of os (named.Data (value.String 0)) 0 operating_system),
      (
        inr (of gl (named.Mutex 0) 0 global_lock),
        (
          inr (of tz named.Scope 0 thermal_zones),
          (
            inr (of si named.Scope 0 indicators),
            (
              inr (of sb named.Scope 0 system_bus),
              (
                inr (of pr named.Scope 0 processors),
                (
                  inr (of gpe named.Scope 0 events),
                  (
                    inl (record { here = refl; scope = refl }),
                    tt,
                  ),
                ),
              ),
            ),
          ),
        ),
      ),
    ),
  ),
)

each_count : EachPath IsPathOfPredefined all_counts
each_count = (
  of gpe named.Scope 0 events,
  (
    of pr named.Scope 0 processors,
    (
      of sb named.Scope 0 system_bus,
      (
        of si named.Scope 0 indicators,
        (
          of tz named.Scope 0 thermal_zones,
          (
            of gl (named.Mutex 0) 0 global_lock,
            (
              of os (named.Data (value.String 0)) 0 operating_system,
              (
                of rev (named.Data (value.Integer 2)) 0 revision,
                (
                  of osi_name osi_object 1 interfaces,
                  tt,
                ),
              ),
            ),
          ),
        ),
      ),
    ),
  ),
)

module _ {S : Type 0} (settings : EvaluationSettings) (width : IntegerWidth) (osi : List (List ℕ)) (space : S) (w : State S) (is : predefined (fresh_as settings width osi space) ≡ (Ok tt, w)) where
  stands_so : Stand w all_names 10 (object.String system_text ∷ []) all_counts
  stands_so = let a = all_stand settings width osi space in subst (λ (v : State S). Stand v all_names 10 (object.String system_text ∷ []) all_counts) (ap (λ (r : Outcome (Unit {0}) × State S). r.1) (sym a.is ∙ is)) a.stand

  pub no_other_name : (path : List Seg) (e : Entry) → get w.names.map path ≡ Some e → IsRoot path e.object ⊎ IsPathOfPredefined path
  no_other_name path e stands = one_of_names Stands path e all_names each_name (sym (stands_so.there path) ∙ stands)

  pub no_other_count : (path : List Seg) (count : ℕ) → arity_at w.arities path ≡ Some count → IsPathOfPredefined path
  no_other_count path count takes = path_is_told IsPathOfPredefined path count all_counts each_count (ap (λ xs. arity_at xs path) (sym stands_so.takes) ∙ takes)

  pub no_frame : w.frames ≡ []
  no_frame = stands_so.frames
