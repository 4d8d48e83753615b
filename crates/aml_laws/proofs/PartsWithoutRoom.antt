-- Data with a part that can't be handed in is refused as too much where the parts before it have no room.
use Rattle.std.specs.Prelude.{◌≡◌, ◌≤◌, ◌<◌, ◌+◌, ℕ, suc, List, [], ◌∷◌, ◌++◌, length, Err}
use Rattle.std.proofs.Common.{arith, ap, ◌∙◌}
use Rattle.std.proofs.lemmas.Bool.{cases_lt}
use Rattle.ar_space.specs.declared.refusal.Refusal.{Refusal}
use Rattle.ar_space.specs.declared.refusal.Refusal.TheVariants as refusal
use Rattle.ar_space.specs.declared.refusal.EvaluationFault.TheVariants.{ObjectLimit}
use Rattle.ar_space.specs.Change.{◌>>=◌}
use Rattle.aml_objects.specs.Objects.{Objects, make_package}
use Rattle.aml_objects.specs.declared.object.Element.{Element}
use Rattle.aml_objects.specs.declared.object.Element.TheVariants as element
use Rattle.aml_world.specs.state.Given.{Given, Givens, givens}
use Rattle.aml_world.specs.state.State.{State, on_objects}
use Rattle.aml_world.specs.state.Importing.{imported_by, each_imported, elements_imported, package_imported, imported}
use Rattle.aml_laws.specs.HandedIn.{AllMayBeHandedIn, no_more, one_more, FirstRefusedPart, not_found, without_path, long_text, many_bytes, too_deep, many_elements, inside}
use Rattle.aml_laws.proofs.CopiesBeyondLimits.{IsTooMuch, then_too_much}
use Rattle.aml_laws.proofs.DataBeyondLimits.{all_by, given_has_no_room, all_have_no_room, taken_back_too_much}
use Rattle.aml_laws.proofs.HandedIn.{over}
use Rattle.aml_laws.proofs.NothingLeft.{refused_data_leaves_none}

module _ {S : Type 0} (w : State S) where
  -- so is a package of which an element is
  package_too_much : (deep : ℕ) (gs : Givens) (h : Objects) → IsTooMuch (each_imported (package_imported deep) gs [] (over w h)) → IsTooMuch (package_imported (suc deep) gs (over w h))
  unfolding package_imported elements_imported ◌>>=◌
  package_too_much deep gs h stops = then_too_much (each_imported (package_imported deep) gs [] (over w h)) (λ es. on_objects (make_package es)) stops

  -- the elements before this one have no room, or this one has none behind them
  front_has_no_room : (deep count rest : ℕ) (front others : List Given) (g : Given) (done : List Element) (h : Objects) → AllMayBeHandedIn w.names.map deep count (givens front)
      → ((o : Objects) → length o ≤ 262144 → 262144 < length o + rest → IsTooMuch (imported_by (package_imported deep) g (over w o))) → length h ≤ 262144 → 262144 < length h + (count + rest)
      → IsTooMuch (each_imported (package_imported deep) (givens (front ++ g ∷ others)) done (over w h))
  unfolding each_imported ◌>>=◌
  front_has_no_room deep _ rest [] others g done h (no_more _) stops room full =
      then_too_much (imported_by (package_imported deep) g (over w h)) (λ v. each_imported (package_imported deep) (givens others) (done ++ element.Value v ∷ [])) (stops h room (omega (arith, full)))
  front_has_no_room deep _ rest (x ∷ front) others g done h (one_more _ count more _ _ one all) stops room full =
      all_by w deep count (more + rest) x (givens (front ++ g ∷ others)) done h one (omega (arith, full)) (λ too_many. given_has_no_room w deep count x h one room too_many)
      (λ made c short long. front_has_no_room deep more rest front others g (done ++ c ∷ []) (h ++ made) all stops short long) (cases_lt 262144 (length h + count))

  parts_have_no_room : (e : Refusal) (deep count : ℕ) (g : Given) (h : Objects) → FirstRefusedPart w.names.map e deep count g → length h ≤ 262144 → 262144 < length h + count → IsTooMuch (imported_by (package_imported deep) g (over w h))
  parts_have_no_room e deep _ _ h (not_found _ path is) room full = absurd (omega (arith, room, full))
  parts_have_no_room e deep _ _ h (without_path _ is) room full = absurd (omega (arith, room, full))
  parts_have_no_room e deep _ _ h (long_text _ bytes long is) room full = absurd (omega (arith, room, full))
  parts_have_no_room e deep _ _ h (many_bytes _ bytes long is) room full = absurd (omega (arith, room, full))
  parts_have_no_room e _ _ _ h (too_deep gs is) room full = absurd (omega (arith, room, full))
  parts_have_no_room e _ _ _ h (many_elements deep count gs long all is) room full = package_too_much deep gs h (all_have_no_room w deep count gs [] h all room full)
  parts_have_no_room e _ _ _ h (inside deep count rest front others g before is) room full =
      package_too_much deep (givens (front ++ g ∷ others)) h (front_has_no_room deep count rest front others g [] h before (λ o within over_full. parts_have_no_room e deep rest g o is within over_full) room full)

  pub refused_without_room : (count : ℕ) (g : Given) (e : Refusal) → FirstRefusedPart w.names.map e 64 count g → length w.objects ≤ 262144 → 262144 < length w.objects + count → imported g w ≡ (Err (refusal.Evaluation ObjectLimit), w)
  unfolding imported
  refused_without_room count g e is room full =
      let t = taken_back_too_much w (length w.objects) (imported_by (package_imported 64) g w) (parts_have_no_room e 64 count g w.objects is room full) in
      t.1 ∙ ap (λ (x : State S). (Err (refusal.Evaluation ObjectLimit), x)) (refused_data_leaves_none w t.0 g (refusal.Evaluation ObjectLimit) t.1)
