-- No reference without a path is handed in.
use Rattle.std.specs.Prelude.{◌≡◌, ℕ, zero, suc, List, [], ◌∷◌, ◌++◌, length, Ok, Err}
use Rattle.std.proofs.Common.{ap}
use Rattle.std.proofs.Math.Seq.{take-length}
use Rattle.ar_space.specs.declared.refusal.Refusal.TheVariants as refusal
use Rattle.ar_space.specs.declared.refusal.ValueFault.TheVariants.{WrongType}
use Rattle.ar_space.specs.Change.{stop, ◌>>=◌}
use Rattle.aml_objects.specs.Objects.{Objects, make_package}
use Rattle.aml_objects.specs.declared.object.Element.{Element}
use Rattle.aml_objects.specs.declared.object.Element.TheVariants as element
use Rattle.aml_objects.specs.declared.value.Value.{Value}
use Rattle.aml_world.specs.state.Given as given
use Rattle.aml_world.specs.state.Given.{Given, Givens}
use Rattle.aml_world.specs.state.Importing.{imported_by, each_imported, elements_imported, package_imported, taken_back, imported}
use Rattle.aml_world.specs.state.State.{State, on_objects}
use Rattle.aml_laws.specs.HandedIn.{HasPaths, AllHavePaths}
use Rattle.aml_laws.proofs.LocatedRegions.{gave_both}
use Rattle.aml_laws.proofs.NestedData.{not_taken_back}

module _ {S : Type 0} where
  mutual
    unfolding package_imported elements_imported each_imported stop

    given_has_paths : (n : ℕ) (g : Given) (w : State S) (v : Value) → (imported_by (package_imported n) g w).0 ≡ Ok v → HasPaths g
    given_has_paths n given.Nothing w v e = tt
    given_has_paths n (given.Integer k) w v e = tt
    given_has_paths n (given.Text bytes) w v e = tt
    given_has_paths n (given.Bytes bytes) w v e = tt
    given_has_paths zero (given.Package gs) w v e = absurd (cc e)
    given_has_paths (suc n) (given.Package gs) w v e =
        let both = gave_both (each_imported (package_imported n) gs []) (λ es. on_objects (make_package es)) w v e in
        givens_have_paths n gs [] w both.first both.gave
    given_has_paths n (given.Named p) w v e = tt
    given_has_paths n given.Reference w v e = absurd (cc e)

    givens_have_paths : (n : ℕ) (gs : Givens) (done : List Element) (w : State S) (es : List Element) → (each_imported (package_imported n) gs done w).0 ≡ Ok es → AllHavePaths gs
    givens_have_paths n given.none done w es e = tt
    givens_have_paths n (given.more g gs) done w es e =
        let both = gave_both (imported_by (package_imported n) g) (λ v. each_imported (package_imported n) gs (done ++ element.Value v ∷ [])) w es e in
        (given_has_paths n g w both.first both.gave, givens_have_paths n gs (done ++ element.Value both.first ∷ []) _ es both.then_gave)

  pub handed_in_has_paths : (g : Given) (w : State S) (v : Value) → (imported g w).0 ≡ Ok v → HasPaths g
  unfolding imported
  handed_in_has_paths g w v e = given_has_paths 64 g w v (not_taken_back (length w.objects) (imported_by (package_imported 64) g w).0 (imported_by (package_imported 64) g w).1 v e)

  pub reference_refused : (w : State S) → imported given.Reference w ≡ (Err (refusal.Value WrongType), w)
  unfolding imported stop
  reference_refused w = ap (λ (objects : Objects). (Err (refusal.Value WrongType), record w { objects = objects })) (take-length w.objects)
