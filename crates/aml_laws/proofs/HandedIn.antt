-- What is within the limits is handed in, with an object for each of its texts, bytes and packages.
use Rattle.std.specs.Prelude.{◌≡◌, ◌≤◌, ◌+◌, ℕ, suc, List, [], ◌∷◌, ◌++◌, length, Some, Ok, refl}
use Rattle.std.proofs.Common.{arith, ap, sym, subst, ◌∙◌, append-nil, append_assoc, length-append}
use Rattle.std.specs.FinMap.{get}
use Rattle.ar_space.specs.Outcome.{Outcome, seen}
use Rattle.ar_space.specs.Change.{Change, give, go_on, ◌>>=◌}
use Rattle.aml_path.specs.declared.segment.Seg.{Seg}
use Rattle.aml_path.specs.Paths.{resolved}
use Rattle.aml_objects.specs.Objects.{Objects, make_string, make_buffer, make_package}
use Rattle.aml_objects.specs.declared.object.Element.{Element}
use Rattle.aml_objects.specs.declared.object.Element.TheVariants as element
use Rattle.aml_objects.specs.declared.object.Object.TheVariants as object
use Rattle.aml_objects.specs.declared.entry.Entry.{Entry}
use Rattle.aml_objects.specs.declared.value.Value.{Value}
use Rattle.aml_objects.specs.declared.value.Value.TheVariants as value
use Rattle.aml_objects.specs.declared.value.Reference.TheVariants as reference
use Rattle.aml_namespace.specs.Search.{found}
use Rattle.aml_world.specs.state.Given.{Given, Givens}
use Rattle.aml_world.specs.state.State.{State, on_objects}
use Rattle.aml_world.specs.state.Readings.{absolute, integer_kept, entry_found}
use Rattle.aml_world.specs.state.Importing.{reference_to, imported_by, each_imported, elements_imported, package_imported, taken_back, imported}
use Rattle.aml_laws.specs.HandedIn.{many, MayBeHandedIn, AllMayBeHandedIn, nothing, integer, text, some_bytes, named, of_package, no_more, one_more}
use Rattle.aml_laws.specs.NamesFound.{LeadsTo}
use Rattle.aml_laws.proofs.NamesSearched.{one_path_found}
use Rattle.aml_laws.proofs.LimitsTaken.{string_made, buffer_made, package_made}

-- the world with other objects
abbrev pub over : {S : Type 0} → State S → Objects → State S
over w objects = record w { objects = objects }

-- A value is given, and so many objects are made for it, behind those of a world.
pub record Takes {S A : Type 0} (count : ℕ) (w : State S) (h : Objects) (p : Outcome A × State S) : Type 0 where
  pub given : A
  pub made : Objects
  pub is : p ≡ (Ok given, over w (h ++ made))
  pub so_many : length made ≡ count

none_made : {S A : Type 0} (w : State S) (h : Objects) (a : A) → Takes 0 w h (Ok a, over w h)
none_made w h a = record { given = a; made = []; is = ap (λ x. (Ok a, over w x)) (sym (append-nil h)); so_many = refl }

then_takes : {S A B : Type 0} (m n : ℕ) (w : State S) (h : Objects) (p : Outcome A × State S) (k : A → Change (State S) B) → Takes m w h p → ((a : A) (made : Objects) → length made ≡ m → Takes n w (h ++ made) (k a (over w (h ++ made)))) → Takes (m + n) w h (go_on p.0 p.1 k)
unfolding go_on
then_takes m n w h p k first further =
    let second = further first.given first.made first.so_many in
    let sum = length-append first.made second.made in
    let is_m = first.so_many in
    let is_n = second.so_many in
    record {
      given = second.given;
      made = first.made ++ second.made;
      is = ap (λ (x : Outcome _ × State _). go_on x.0 x.1 k) first.is ∙ second.is ∙ ap (λ x. (Ok second.given, over w x)) (append_assoc h first.made second.made);
      so_many = omega (arith, sum, is_m, is_n);
    }

pub absolute_resolved : (p : List Seg) → resolved (absolute p) [] ≡ Ok p
unfolding resolved
absolute_resolved p = refl

length_pushed : (es : List Element) (v : Value) → length (es ++ element.Value v ∷ []) ≡ length es + 1
length_pushed es v = let sum = length-append es (element.Value v ∷ []) in omega (arith, sum)

module _ {S : Type 0} (w : State S) where
  text_takes : (h : Objects) (bytes : List ℕ) → length bytes ≤ 1048576 → length h + 1 ≤ 262144 → Takes 1 w h (on_objects (make_string bytes) (over w h))
  unfolding on_objects
  text_takes h bytes short room = record {
    given = value.String (length h);
    made = object.String bytes ∷ [];
    is = ap (λ (p : Outcome Value × Objects). (p.0, over w p.1)) (string_made bytes h short (omega (arith, room)));
    so_many = refl;
  }

  bytes_take : (h : Objects) (bytes : List ℕ) → length bytes ≤ 1048576 → length h + 1 ≤ 262144 → Takes 1 w h (on_objects (make_buffer bytes) (over w h))
  unfolding on_objects
  bytes_take h bytes short room = record {
    given = value.Buffer (length h);
    made = object.Buffer bytes ∷ [];
    is = ap (λ (p : Outcome Value × Objects). (p.0, over w p.1)) (buffer_made bytes h short (omega (arith, room)));
    so_many = refl;
  }

  name_takes : (h : Objects) (p at : List Seg) (entry other : Entry) → get w.names.map p ≡ Some entry → LeadsTo w.names.map p entry (Ok (at, other)) → Takes 0 w h (reference_to p (over w h))
  unfolding reference_to entry_found give go_on ◌>>=◌
  name_takes h p at entry other stands leads =
      let is : found w.names.map [] (absolute p) ≡ Ok (at, other) = one_path_found w.names.map [] (absolute p) p entry (Ok (at, other)) refl (absolute_resolved p) stands leads in
      subst (Takes 0 w h) (sym (ap (λ x. go_on {S = State S} (seen (λ f. f.1) x) (over w h) (λ e. give (value.Reference (reference.Name e.number)))) is))
      (none_made w h (value.Reference (reference.Name other.number)))

  packed : (h : Objects) (es : List Element) → length es ≤ 65535 → length h + 1 ≤ 262144 → Takes 1 w h (on_objects (make_package es) (over w h))
  unfolding on_objects
  packed h es few room = record {
    given = value.Package (length h);
    made = object.Package es ∷ [];
    is = ap (λ (p : Outcome Value × Objects). (p.0, over w p.1)) (package_made es h few (omega (arith, room)));
    so_many = refl;
  }

  -- ---- elements one after another; so many are done

  pub record All (count n : ℕ) (h : Objects) (p : Outcome (List Element) × State S) : Type 0 where
    pub takes : Takes count w h p
    pub elements : length takes.given ≡ n

  then_all : (m n count : ℕ) (h : Objects) (p : Outcome Value × State S) (k : Value → Change (State S) (List Element)) → Takes m w h p → ((a : Value) (made : Objects) → length made ≡ m → All n count (h ++ made) (k a (over w (h ++ made)))) → All (m + n) count h (go_on p.0 p.1 k)
  unfolding then_takes
  then_all m n count h p k first further = record {
    takes = then_takes m n w h p k first (λ a made is. (further a made is).takes);
    elements = (further first.given first.made first.so_many).elements;
  }

  package_takes : (n count : ℕ) (gs : Givens) (h : Objects) → many gs ≤ 65535 → length h + suc count ≤ 262144 → All count (many gs) h (each_imported (package_imported n) gs [] (over w h)) → Takes (suc count) w h (package_imported (suc n) gs (over w h))
  unfolding package_imported elements_imported on_objects go_on ◌>>=◌
  package_takes n count gs h few room all =
      let next : count + 1 ≡ suc count = omega arith in
      let p = each_imported (package_imported n) gs [] (over w h) in
      let long = all.elements in
      let so_many = all.takes.so_many in
      let sum = length-append h all.takes.made in
      let last = packed (h ++ all.takes.made) all.takes.given (omega (arith, long, few)) (omega (arith, sum, so_many, room)) in
      let total = length-append all.takes.made last.made in
      let one = last.so_many in
      record {
        given = last.given;
        made = all.takes.made ++ last.made;
        is = ap (λ (x : Outcome (List Element) × State S). go_on x.0 x.1 (λ es. on_objects (make_package es))) all.takes.is ∙ last.is ∙ ap (λ x. (Ok last.given, over w x)) (append_assoc h all.takes.made last.made);
        so_many = omega (arith, total, one, so_many);
      }

  no_more_taken : (h : Objects) (done : List Element) → All 0 (length done + 0) h (Ok done, over w h)
  no_more_taken h done = record { takes = record { given = done; made = []; is = ap (λ x. (Ok done, over w x)) (sym (append-nil h)); so_many = refl }; elements = omega arith }

  none_and : (gs : Givens) → length {A = Element} [] + many gs ≡ many gs
  none_and gs = omega arith

  mutual
    unfolding each_imported integer_kept give ◌>>=◌

    pub given_takes : (deep count : ℕ) (g : Given) (h : Objects) → MayBeHandedIn w.names.map deep count g → length h + count ≤ 262144 → Takes count w h (imported_by (package_imported deep) g (over w h))
    given_takes deep _ _ h (nothing _) room = none_made w h value.Uninitialized
    given_takes deep _ _ h (integer _ n) room = none_made w h _
    given_takes deep _ _ h (text _ bytes short) room = text_takes h bytes short room
    given_takes deep _ _ h (some_bytes _ bytes short) room = bytes_take h bytes short room
    given_takes deep _ _ h (named _ path at entry other stands leads) room = name_takes h path at entry other stands leads
    given_takes _ _ _ h (of_package deep count gs few all) room = package_takes deep count gs h few room (subst (λ k. All count k h (each_imported (package_imported deep) gs [] (over w h))) (none_and gs) (all_take deep count gs [] h all (omega (arith, room))))

    pub all_take : (deep count : ℕ) (gs : Givens) (done : List Element) (h : Objects) → AllMayBeHandedIn w.names.map deep count gs → length h + count ≤ 262144 → All count (length done + many gs) h (each_imported (package_imported deep) gs done (over w h))
    all_take deep _ _ done h (no_more _) room = no_more_taken h done
    all_take deep _ _ done h (one_more _ count rest g gs one all) room =
        then_all count rest (length done + suc (many gs)) h (imported_by (package_imported deep) g (over w h)) (λ v. each_imported (package_imported deep) gs (done ++ element.Value v ∷ []))
        (given_takes deep count g h one (omega (arith, room)))
        (λ v made so_many.
        let sum = length-append h made in
        let pushed = length_pushed done v in
        let longer : length (done ++ element.Value v ∷ []) + many gs ≡ length done + suc (many gs) = omega (arith, pushed) in
        subst (λ k. All rest k (h ++ made) (each_imported (package_imported deep) gs (done ++ element.Value v ∷ []) (over w (h ++ made)))) longer
        (all_take deep rest gs (done ++ element.Value v ∷ []) (h ++ made) all (omega (arith, sum, so_many, room))))

  not_taken_back : (n count : ℕ) (p : Outcome Value × State S) → Takes count w w.objects p → (v : Value) × ((made : Objects) × ((taken_back n p ≡ (Ok v, over w (w.objects ++ made))) × (length made ≡ count)))
  not_taken_back n count p t = (t.given, (t.made, (ap (taken_back n) t.is, t.so_many)))

  pub handed_in : (count : ℕ) (g : Given) → MayBeHandedIn w.names.map 64 count g → length w.objects + count ≤ 262144 → (v : Value) × ((made : Objects) × ((imported g w ≡ (Ok v, over w (w.objects ++ made))) × (length made ≡ count)))
  unfolding imported
  handed_in count g is room = not_taken_back (length w.objects) count (imported_by (package_imported 64) g w) (given_takes 64 count g w.objects is room)
