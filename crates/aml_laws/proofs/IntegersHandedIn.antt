-- Integers are handed in modulo two to the width, alone and in packages.
use Rattle.std.specs.Prelude.{◌≡◌, ◌%◌, ◌^◌, ℕ, zero, suc, List, [], ◌∷◌, ◌++◌, length, Ok, Err, refl}
use Rattle.std.proofs.Common.{ap, sym, ◌∙◌}
use Rattle.std.proofs.Math.Nat.{mod-mod}
use Rattle.ar_space.specs.Change.{Change, give, stop, go_on, ◌>>=◌}
use Rattle.ar_space.specs.Outcome.{Outcome}
use Rattle.ar_space.specs.declared.integer_width.IntegerWidth.{IntegerWidth}
use Rattle.ar_space.specs.declared.refusal.Refusal.{Refusal}
use Rattle.aml_path.specs.declared.segment.Seg.{Seg}
use Rattle.aml_objects.specs.Objects.{Objects, make_string, make_buffer, make_package}
use Rattle.aml_objects.specs.declared.object.Element.{Element}
use Rattle.aml_objects.specs.declared.object.Element.TheVariants as element
use Rattle.aml_objects.specs.declared.value.Value.{Value}
use Rattle.aml_objects.specs.declared.value.Value.TheVariants as value
use Rattle.aml_objects.specs.declared.value.Reference.TheVariants as reference
use Rattle.aml_convert.specs.Integers.{bits_of, truncated}
use Rattle.aml_world.specs.state.Given.{Given, Nothing, Integer, Text, Bytes, Package, Named, Reference, Givens, none, more}
use Rattle.aml_world.specs.state.State.{State, on_objects}
use Rattle.aml_world.specs.state.Readings.{absolute, integer_kept, entry_found}
use Rattle.aml_world.specs.state.Importing.{reference_to, imported_by, each_imported, elements_imported, package_imported, taken_back, imported}
use Rattle.aml_laws.specs.HandedIn.{with_integers_cut, all_with_integers_cut}

module _ {S : Type 0} where
  pub integer_handed_in : (w : State S) (n : ℕ) → imported (Integer n) w ≡ (Ok (value.Integer (n % 2 ^ bits_of w.width)), w)
  unfolding imported integer_kept
  integer_handed_in w n = refl

  module _ (width : IntegerWidth) where
    -- two changes of worlds of this width, which do the same there and leave a world of this width
    record Alike {A : Type 0} (m k : Change (State S) A) : Type 0 where
      same : (w : State S) → w.width ≡ width → m w ≡ k w
      keeps : (w : State S) → w.width ≡ width → (m w).1.width ≡ width

    module _ {A B : Type 0} (k l : A → Change (State S) B) (alike : (a : A) → Alike (k a) (l a)) where
      goes_on_same : (r : Outcome A) (u : State S) → u.width ≡ width → go_on r u k ≡ go_on r u l
      unfolding go_on
      goes_on_same (Ok a) u is = (alike a).same u is
      goes_on_same (Err e) u is = refl

      goes_on_keeps : (r : Outcome A) (u : State S) → u.width ≡ width → (go_on r u k).1.width ≡ width
      unfolding go_on
      goes_on_keeps (Ok a) u is = (alike a).keeps u is
      goes_on_keeps (Err e) u is = is

      then_alike : (m n : Change (State S) A) → Alike m n → Alike (m >>= k) (n >>= l)
      unfolding ◌>>=◌
      then_alike m n first = record {
        same = λ w is. goes_on_same (m w).0 (m w).1 (first.keeps w is) ∙ ap (λ (p : Outcome A × State S). go_on p.0 p.1 l) (first.same w is);
        keeps = λ w is. goes_on_keeps (m w).0 (m w).1 (first.keeps w is);
      }

    give_alike : {A : Type 0} (a : A) → Alike (give a) (give a)
    unfolding give
    give_alike a = record { same = λ w is. refl; keeps = λ w is. is }

    stop_alike : {A : Type 0} (e : Refusal) → Alike {A = A} (stop e) (stop e)
    unfolding stop
    stop_alike e = record { same = λ w is. refl; keeps = λ w is. is }

    objects_alike : {A : Type 0} (m : Change Objects A) → Alike (on_objects m) (on_objects m)
    unfolding on_objects
    objects_alike m = record { same = λ w is. refl; keeps = λ w is. is }

    integer_alike : (n : ℕ) → Alike (integer_kept (n % 2 ^ bits_of width)) (integer_kept n)
    unfolding integer_kept
    integer_alike n = record {
      same = λ w is. ap (λ b. (Ok (value.Integer (truncated b (n % 2 ^ bits_of width))), w)) is
          ∙ ap (λ k. (Ok (value.Integer k), w)) (mod-mod n (2 ^ bits_of width))
          ∙ ap (λ b. (Ok (value.Integer (truncated b n)), w)) (sym is);
      keeps = λ w is. is;
    }

    path_alike : (p : List Seg) → Alike (reference_to p) (reference_to p)
    unfolding reference_to entry_found
    path_alike p = then_alike _ _ (λ e. give_alike (value.Reference (reference.Name e.number))) _ _ (record { same = λ w is. refl; keeps = λ w is. is })

    module _ (pack : Givens → Change (State S) Value) (packs : (gs : Givens) → Alike (pack (all_with_integers_cut width gs)) (pack gs)) where
      given_alike : (g : Given) → Alike (imported_by pack (with_integers_cut width g)) (imported_by pack g)
      given_alike Nothing = give_alike value.Uninitialized
      given_alike (Integer n) = integer_alike n
      given_alike (Text bytes) = objects_alike (make_string bytes)
      given_alike (Bytes bytes) = objects_alike (make_buffer bytes)
      given_alike (Package gs) = packs gs
      given_alike (Named p) = path_alike p
      given_alike Reference = stop_alike _

      each_alike : (gs : Givens) (done : List Element) → Alike (each_imported pack (all_with_integers_cut width gs) done) (each_imported pack gs done)
      unfolding each_imported
      each_alike none done = give_alike done
      each_alike (more g gs) done = then_alike _ _ (λ v. each_alike gs (done ++ element.Value v ∷ [])) _ _ (given_alike g)

      elements_alike : (gs : Givens) → Alike (elements_imported pack (all_with_integers_cut width gs)) (elements_imported pack gs)
      unfolding elements_imported
      elements_alike gs = then_alike _ _ (λ es. objects_alike (make_package es)) _ _ (each_alike gs [])

    packages_alike : (deep : ℕ) (gs : Givens) → Alike (package_imported deep (all_with_integers_cut width gs)) (package_imported deep gs)
    unfolding package_imported
    packages_alike zero gs = stop_alike _
    packages_alike (suc deep) gs = elements_alike (package_imported deep) (packages_alike deep) gs

  pub integers_handed_in : (w : State S) (g : Given) → imported g w ≡ imported (with_integers_cut w.width g) w
  unfolding imported
  integers_handed_in w g = ap (taken_back (length w.objects)) (sym ((given_alike w.width (package_imported 64) (packages_alike w.width 64) g).same w refl))
