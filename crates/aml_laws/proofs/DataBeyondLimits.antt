-- Data that is handed in, for whose objects there is no room, is refused.
use Rattle.std.specs.Prelude.{◌≡◌, ◌⊎◌, ◌≤◌, ◌<◌, ◌+◌, ℕ, suc, List, [], ◌∷◌, ◌++◌, length, Ok, Err, refl}
use Rattle.std.proofs.Common.{arith, inl, inr, ap, sym, subst, ◌∙◌, length-append}
use Rattle.std.proofs.lemmas.Bool.{cases_lt}
use Rattle.ar_space.specs.declared.refusal.Refusal.{Refusal}
use Rattle.ar_space.specs.declared.refusal.Refusal.TheVariants as refusal
use Rattle.ar_space.specs.declared.refusal.EvaluationFault.TheVariants.{ObjectLimit}
use Rattle.ar_space.specs.Outcome.{Outcome}
use Rattle.ar_space.specs.Change.{give, go_on, ◌>>=◌}
use Rattle.aml_objects.specs.Objects.{Objects, make_string, make_buffer, make_package}
use Rattle.aml_objects.specs.declared.object.Element.{Element}
use Rattle.aml_objects.specs.declared.object.Element.TheVariants as element
use Rattle.aml_objects.specs.declared.value.Value.{Value}
use Rattle.aml_world.specs.state.Given.{Given, Givens}
use Rattle.aml_world.specs.state.State.{State, on_objects}
use Rattle.aml_world.specs.state.Readings.{integer_kept}
use Rattle.aml_world.specs.state.Importing.{imported_by, each_imported, elements_imported, package_imported, taken_back, imported}
use Rattle.aml_laws.specs.HandedIn.{many, MayBeHandedIn, AllMayBeHandedIn, nothing, integer, text, some_bytes, named, of_package, no_more, one_more}
use Rattle.aml_laws.proofs.BeyondLimits.{no_room_for_string, no_room_for_buffer, no_room_for_package}
use Rattle.aml_laws.proofs.CopiesBeyondLimits.{IsTooMuch, then_too_much, behind_too_much}
use Rattle.aml_laws.proofs.HandedIn.{over, Takes, All, given_takes, all_take}
use Rattle.aml_laws.proofs.NothingLeft.{refused_data_leaves_none}

module _ {S : Type 0} (w : State S) where
  text_has_no_room : (h : Objects) (bytes : List ℕ) → 262144 ≤ length h → IsTooMuch (on_objects (make_string bytes) (over w h))
  unfolding on_objects
  text_has_no_room h bytes full = ap (λ (p : Outcome Value × Objects). p.0) (no_room_for_string bytes h full)

  bytes_have_no_room : (h : Objects) (bytes : List ℕ) → 262144 ≤ length h → IsTooMuch (on_objects (make_buffer bytes) (over w h))
  unfolding on_objects
  bytes_have_no_room h bytes full = ap (λ (p : Outcome Value × Objects). p.0) (no_room_for_buffer bytes h full)

  not_packed : (h : Objects) (es : List Element) → 262144 ≤ length h → IsTooMuch (on_objects (make_package es) (over w h))
  unfolding on_objects
  not_packed h es full = ap (λ (p : Outcome Value × Objects). p.0) (no_room_for_package es h full)

  -- the elements have no room, or the package itself
  package_by : (n count : ℕ) (gs : Givens) (h : Objects) → AllMayBeHandedIn w.names.map n count gs → 262144 < length h + suc count
      → (262144 < length h + count → IsTooMuch (each_imported (package_imported n) gs [] (over w h))) → (262144 < length h + count) ⊎ (length h + count ≤ 262144) → IsTooMuch (package_imported (suc n) gs (over w h))
  unfolding package_imported elements_imported ◌>>=◌
  package_by n count gs h all full stops (inl too_many) = then_too_much (each_imported (package_imported n) gs [] (over w h)) (λ es. on_objects (make_package es)) (stops too_many)
  package_by n count gs h all full stops (inr few) =
      let a = (all_take w n count gs [] h all few).takes in
      let sum = length-append h a.made in
      let so_many = a.so_many in
      behind_too_much (each_imported (package_imported n) gs [] (over w h)) (λ es. on_objects (make_package es)) a.given (over w (h ++ a.made)) a.is (not_packed (h ++ a.made) a.given (omega (arith, sum, so_many, full)))

  -- the first has no room, or those behind it
  pub all_by : (deep count rest : ℕ) (g : Given) (gs : Givens) (done : List Element) (h : Objects) → MayBeHandedIn w.names.map deep count g → 262144 < length h + (count + rest)
      → (262144 < length h + count → IsTooMuch (imported_by (package_imported deep) g (over w h)))
      → ((made : Objects) (c : Element) → length (h ++ made) ≤ 262144 → 262144 < length (h ++ made) + rest → IsTooMuch (each_imported (package_imported deep) gs (done ++ c ∷ []) (over w (h ++ made))))
      → (262144 < length h + count) ⊎ (length h + count ≤ 262144) → IsTooMuch (go_on (imported_by (package_imported deep) g (over w h)).0 (imported_by (package_imported deep) g (over w h)).1 (λ v. each_imported (package_imported deep) gs (done ++ element.Value v ∷ [])))
  all_by deep count rest g gs done h is full stops further (inl too_many) = then_too_much (imported_by (package_imported deep) g (over w h)) (λ v. each_imported (package_imported deep) gs (done ++ element.Value v ∷ [])) (stops too_many)
  all_by deep count rest g gs done h is full stops further (inr few) =
      let a = given_takes w deep count g h is few in
      let sum = length-append h a.made in
      let so_many = a.so_many in
      behind_too_much (imported_by (package_imported deep) g (over w h)) (λ v. each_imported (package_imported deep) gs (done ++ element.Value v ∷ [])) a.given (over w (h ++ a.made)) a.is
      (further a.made (element.Value a.given) (omega (arith, sum, so_many, few)) (omega (arith, sum, so_many, full)))

  mutual
    unfolding each_imported ◌>>=◌

    pub given_has_no_room : (deep count : ℕ) (g : Given) (h : Objects) → MayBeHandedIn w.names.map deep count g → length h ≤ 262144 → 262144 < length h + count → IsTooMuch (imported_by (package_imported deep) g (over w h))
    given_has_no_room deep _ _ h (nothing _) room full = absurd (omega (arith, room, full))
    given_has_no_room deep _ _ h (integer _ n) room full = absurd (omega (arith, room, full))
    given_has_no_room deep _ _ h (text _ bytes short) room full = text_has_no_room h bytes (omega (arith, full))
    given_has_no_room deep _ _ h (some_bytes _ bytes short) room full = bytes_have_no_room h bytes (omega (arith, full))
    given_has_no_room deep _ _ h (named _ path at entry other stands leads) room full = absurd (omega (arith, room, full))
    given_has_no_room _ _ _ h (of_package deep count gs few all) room full = package_by deep count gs h all full (λ too_many. all_have_no_room deep count gs [] h all room too_many) (cases_lt 262144 (length h + count))

    pub all_have_no_room : (deep count : ℕ) (gs : Givens) (done : List Element) (h : Objects) → AllMayBeHandedIn w.names.map deep count gs → length h ≤ 262144 → 262144 < length h + count → IsTooMuch (each_imported (package_imported deep) gs done (over w h))
    all_have_no_room deep _ _ done h (no_more _) room full = absurd (omega (arith, room, full))
    all_have_no_room deep _ _ done h (one_more _ count rest g gs one all) room full =
        all_by deep count rest g gs done h one full (λ too_many. given_has_no_room deep count g h one room too_many)
        (λ made c short long. all_have_no_room deep rest gs (done ++ c ∷ []) (h ++ made) all short long) (cases_lt 262144 (length h + count))

  pub taken_back_too_much : (count : ℕ) (p : Outcome Value × State S) → IsTooMuch p → (v : State S) × (taken_back count p ≡ (Err (refusal.Evaluation ObjectLimit), v))
  taken_back_too_much count (Ok x, v) is = absurd (cc is)
  taken_back_too_much count (Err e, v) is = (record v { objects = _ }, ap (λ (x : Outcome Value). taken_back count (x, v)) is)

  pub data_has_no_room : (count : ℕ) (g : Given) → MayBeHandedIn w.names.map 64 count g → length w.objects ≤ 262144 → 262144 < length w.objects + count → imported g w ≡ (Err (refusal.Evaluation ObjectLimit), w)
  unfolding imported
  data_has_no_room count g is room full =
      let t = taken_back_too_much (length w.objects) (imported_by (package_imported 64) g w) (given_has_no_room 64 count g w.objects is room full) in
      t.1 ∙ ap (λ (x : State S). (Err (refusal.Evaluation ObjectLimit), x)) (refused_data_leaves_none w t.0 g (refusal.Evaluation ObjectLimit) t.1)
