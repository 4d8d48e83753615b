-- A path is handed in as a reference to what it finds, and the first part that can't be handed in refuses the whole.
use Rattle.std.specs.Prelude.{◌≡◌, ◌≤◌, ◌<◌, ◌+◌, ℕ, suc, List, [], ◌∷◌, ◌++◌, length, Some, Ok, Err, refl}
use Rattle.std.proofs.Common.{arith, ap, sym, ◌∙◌, length-append}
use Rattle.std.specs.FinMap.{get}
use Rattle.ar_space.specs.declared.refusal.Refusal.{Refusal}
use Rattle.ar_space.specs.declared.refusal.Refusal.TheVariants as refusal
use Rattle.ar_space.specs.declared.refusal.EvaluationFault.TheVariants.{ObjectLimit}
use Rattle.ar_space.specs.declared.refusal.ValueFault.TheVariants.{WrongType}
use Rattle.ar_space.specs.Change.{Change, give, stop, go_on, ◌>>=◌}
use Rattle.ar_space.specs.Outcome.{Outcome}
use Rattle.aml_path.specs.declared.segment.Seg.{Seg}
use Rattle.aml_objects.specs.Objects.{Objects, make_string, make_buffer, make_package}
use Rattle.aml_objects.specs.declared.object.Element.{Element}
use Rattle.aml_objects.specs.declared.object.Element.TheVariants as element
use Rattle.aml_objects.specs.declared.entry.Entry.{Entry}
use Rattle.aml_objects.specs.declared.value.Value.{Value}
use Rattle.aml_objects.specs.declared.value.Value.TheVariants as value
use Rattle.aml_objects.specs.declared.value.Reference.TheVariants as reference
use Rattle.aml_namespace.specs.Search.{found}
use Rattle.aml_world.specs.state.Given.{Given, Givens, Named, givens}
use Rattle.aml_world.specs.state.State.{State, on_objects}
use Rattle.aml_world.specs.state.Readings.{absolute, entry_found}
use Rattle.aml_world.specs.state.Importing.{reference_to, imported_by, each_imported, elements_imported, package_imported, taken_back, imported}
use Rattle.aml_laws.specs.HandedIn.{many, AllMayBeHandedIn, no_more, one_more, FirstRefusedPart, not_found, without_path, long_text, many_bytes, too_deep, many_elements, inside}
use Rattle.aml_laws.specs.NamesFound.{LeadsTo}
use Rattle.aml_laws.specs.NamesWritten.{from_root}
use Rattle.aml_laws.proofs.HandedIn.{over, given_takes, all_take, absolute_resolved}
use Rattle.aml_laws.proofs.LimitsRefused.{string_refused, buffer_refused, package_refused}
use Rattle.aml_laws.proofs.NamesSearched.{one_path_found}
use Rattle.aml_laws.proofs.NothingLeft.{refused_data_leaves_none}

module _ {S : Type 0} (w : State S) where
  -- ---- a path alone

  referred : (h : Objects) (path at : List Seg) (other : Entry) → found w.names.map [] (absolute path) ≡ Ok (at, other) → reference_to path (over w h) ≡ (Ok (value.Reference (reference.Name other.number)), over w h)
  unfolding reference_to entry_found give go_on ◌>>=◌
  referred h path at other is = rw is refl

  refused_so : (h : Objects) (path : List Seg) (e : Refusal) → found w.names.map [] (from_root path) ≡ Err e → reference_to path (over w h) ≡ (Err e, over w h)
  unfolding reference_to entry_found go_on ◌>>=◌
  refused_so h path e is = rw is refl

  pub path_refers : (path at : List Seg) (entry other : Entry) → get w.names.map path ≡ Some entry → LeadsTo w.names.map path entry (Ok (at, other)) → imported (Named path) w ≡ (Ok (value.Reference (reference.Name other.number)), w)
  unfolding imported
  path_refers path at entry other stands leads =
      let is : found w.names.map [] (absolute path) ≡ Ok (at, other) = one_path_found w.names.map [] (absolute path) path entry (Ok (at, other)) refl (absolute_resolved path) stands leads in
      ap (taken_back (length w.objects)) (referred w.objects path at other is)

  -- it is enough that it is refused: nothing is left of what is refused
  refused_is : (g : Given) (e : Refusal) (p : Outcome Value × State S) → imported g w ≡ p → p.0 ≡ Err e → imported g w ≡ (Err e, w)
  refused_is g e p is refused =
      let both : imported g w ≡ (Err e, p.1) = is ∙ ap (λ (r : Outcome Value). (r, p.1)) refused in
      both ∙ ap (λ (u : State S). (Err e, u)) (refused_data_leaves_none w p.1 g e both)

  pub path_is_lost : (path : List Seg) (e : Refusal) → found w.names.map [] (from_root path) ≡ Err e → imported (Named path) w ≡ (Err e, w)
  unfolding imported
  path_is_lost path e is = refused_is (Named path) e (taken_back (length w.objects) (reference_to path w)) refl (ap (λ (p : Outcome Value × State S). (taken_back (length w.objects) p).0) (refused_so w.objects path e is))

  -- ---- inside packages

  stopped : {A B : Type 0} (p : Outcome A × State S) (k : A → Change (State S) B) (e : Refusal) → p.0 ≡ Err e → (go_on p.0 p.1 k).0 ≡ Err e
  unfolding go_on
  stopped p k e is = ap (λ r. (go_on r p.1 k).0) is

  package_stops : (deep : ℕ) (e : Refusal) (gs : _) (h : Objects) → (each_imported (package_imported deep) gs [] (over w h)).0 ≡ Err e → (package_imported (suc deep) gs (over w h)).0 ≡ Err e
  unfolding package_imported elements_imported ◌>>=◌
  package_stops deep e gs h is = stopped (each_imported (package_imported deep) gs [] (over w h)) (λ es. on_objects (make_package es)) e is

  -- elements one after another, up to the one that is refused: where it stands behind any objects it is
  each_stops : (deep count rest : ℕ) (e : Refusal) (front others : List Given) (g : Given) (done : List Element) (h : Objects) → AllMayBeHandedIn w.names.map deep count (givens front)
      → ((o : Objects) → length o + rest ≤ 262144 → (imported_by (package_imported deep) g (over w o)).0 ≡ Err e) → length h + (count + rest) ≤ 262144
      → (each_imported (package_imported deep) (givens (front ++ g ∷ others)) done (over w h)).0 ≡ Err e
  unfolding each_imported go_on ◌>>=◌
  each_stops deep _ rest e [] others g done h (no_more _) refused room =
      stopped (imported_by (package_imported deep) g (over w h)) (λ v. each_imported (package_imported deep) (givens others) (done ++ element.Value v ∷ [])) e (refused h (omega (arith, room)))
  each_stops deep _ rest e (x ∷ front) others g done h (one_more _ count more _ _ one all) refused room =
      let first = given_takes w deep count x h one (omega (arith, room)) in
      let sum = length-append h first.made in
      let so_many = first.so_many in
      ap (λ (p : Outcome Value × State S). (go_on p.0 p.1 (λ v. each_imported (package_imported deep) (givens (front ++ g ∷ others)) (done ++ element.Value v ∷ []))).0) first.is
      ∙ each_stops deep more rest e front others g (done ++ element.Value first.given ∷ []) (h ++ first.made) all refused (omega (arith, sum, so_many, room))

  -- ---- parts that are refused by themselves

  text_stops : (h : Objects) (bytes : List ℕ) → 1048576 < length bytes → (on_objects (make_string bytes) (over w h)).0 ≡ Err (refusal.Evaluation ObjectLimit)
  unfolding on_objects
  text_stops h bytes long = ap (λ (p : Outcome Value × Objects). p.0) (string_refused bytes h long)

  bytes_stop : (h : Objects) (bytes : List ℕ) → 1048576 < length bytes → (on_objects (make_buffer bytes) (over w h)).0 ≡ Err (refusal.Evaluation ObjectLimit)
  unfolding on_objects
  bytes_stop h bytes long = ap (λ (p : Outcome Value × Objects). p.0) (buffer_refused bytes h long)

  package_too_deep : (gs : Givens) (h : Objects) → (package_imported 0 gs (over w h)).0 ≡ Err (refusal.Evaluation ObjectLimit)
  unfolding package_imported stop
  package_too_deep gs h = refl

  elements_stop : (deep count : ℕ) (gs : Givens) (h : Objects) → 65535 < many gs → AllMayBeHandedIn w.names.map deep count gs → length h + count ≤ 262144
      → (package_imported (suc deep) gs (over w h)).0 ≡ Err (refusal.Evaluation ObjectLimit)
  unfolding package_imported elements_imported on_objects go_on ◌>>=◌
  elements_stop deep count gs h long all room =
      let taken = all_take w deep count gs [] h all room in
      let as_many = taken.elements in
      ap (λ (p : Outcome (List Element) × State S). (go_on p.0 p.1 (λ es. on_objects (make_package es))).0) taken.takes.is
      ∙ ap (λ (p : Outcome Value × Objects). p.0) (package_refused taken.takes.given (h ++ taken.takes.made) (omega (arith, as_many, long)))

  refused_stops : (e : Refusal) (deep count : ℕ) (g : Given) (h : Objects) → FirstRefusedPart w.names.map e deep count g → length h + count ≤ 262144 → (imported_by (package_imported deep) g (over w h)).0 ≡ Err e
  unfolding stop
  refused_stops e deep _ _ h (not_found _ path is) room = ap (λ (p : Outcome Value × State S). p.0) (refused_so h path e is)
  refused_stops e deep _ _ h (without_path _ is) room = ap Err (sym is)
  refused_stops e deep _ _ h (long_text _ bytes long is) room = text_stops h bytes long ∙ ap Err (sym is)
  refused_stops e deep _ _ h (many_bytes _ bytes long is) room = bytes_stop h bytes long ∙ ap Err (sym is)
  refused_stops e _ _ _ h (too_deep gs is) room = package_too_deep gs h ∙ ap Err (sym is)
  refused_stops e _ _ _ h (many_elements deep count gs long all is) room = elements_stop deep count gs h long all room ∙ ap Err (sym is)
  refused_stops e _ _ _ h (inside deep count rest front others g before is) room =
      package_stops deep e (givens (front ++ g ∷ others)) h (each_stops deep count rest e front others g [] h before (λ o within. refused_stops e deep rest g o is within) room)

  pub refused_by_its_part : (count : ℕ) (g : Given) (e : Refusal) → FirstRefusedPart w.names.map e 64 count g → length w.objects + count ≤ 262144 → imported g w ≡ (Err e, w)
  unfolding imported
  refused_by_its_part count g e is room = refused_is g e (taken_back (length w.objects) (imported_by (package_imported 64) g w)) refl (still_refused (length w.objects) (imported_by (package_imported 64) g w) e (refused_stops e 64 count g w.objects is room))
    where
      still_refused : (n : ℕ) (p : Outcome Value × State S) (e : Refusal) → p.0 ≡ Err e → (taken_back n p).0 ≡ Err e
      still_refused n (Ok v, u) e never = absurd (cc never)
      still_refused n (Err x, u) e same = same
