-- What the terms of strings, buffers and packages form.
use Rattle.std.specs.Prelude.{◌≡◌, ◌<◌, ◌≤◌, ◌-◌, ℕ, suc, nat_lt, false, List, [], ◌∷◌, ◌++◌, length, Ok, Err, refl}
use Rattle.std.proofs.Common.{arith, ap, sym, ◌∙◌, append-nil, append_assoc}
use Rattle.std.proofs.lemmas.Bool.Decides.{nat_tests}
use Rattle.ar_space.specs.Accesses.{Accesses}
use Rattle.ar_space.specs.Change.{give, settle, go_on, ◌>>=◌}
use Rattle.ar_space.specs.declared.refusal.Refusal.{Refusal}
use Rattle.ar_space.specs.declared.refusal.Refusal.TheVariants as refusal
use Rattle.ar_space.specs.declared.refusal.EvaluationFault.TheVariants.{NoValue, OutOfSteps}
use Rattle.aml_path.specs.declared.segment.Seg.{Seg}
use Rattle.aml_path.specs.Paths.{Name}
use Rattle.aml_grammar.specs.Apart.{code_of}
use Rattle.aml_grammar.specs.Tree.{Tree, Trees}
use Rattle.aml_objects.specs.declared.object.Element.{Element}
use Rattle.aml_objects.specs.declared.object.Element.TheVariants as element
use Rattle.aml_objects.specs.declared.object.Object.TheVariants as object
use Rattle.aml_objects.specs.declared.value.Value.{Value}
use Rattle.aml_objects.specs.declared.value.Value.TheVariants as value
use Rattle.aml_world.specs.state.State.{State, on_objects}
use Rattle.aml_world.specs.state.Run.{lift}
use Rattle.aml_world.specs.state.NewObjects.{within, new_buffer, new_package}
use Rattle.aml_meaning.specs.declared.flow.Flow.TheVariants as flow
use Rattle.aml_meaning.specs.Tasks.{task, operand_value, operand_integer}
use Rattle.aml_meaning.specs.DataTerms.{string_rule, buffer_rule, named_element, valued_element, element_by, elements_in_turn, package_of, package_rule, var_package_rule}
use Rattle.aml_meaning.specs.Evaluation.{rule}
use Rattle.aml_meaning.specs.Meaning.{meaning}
use Rattle.aml_laws.specs.OperatorTerms.{GivesValue, GivesNothing, IsRefused, OneInteger}
use Rattle.aml_laws.specs.JoinedTerms.{with_object, Fits}
use Rattle.aml_laws.specs.DataTerms.{string_term, buffer_term, package_term, var_package_term, name_in_package, filled_with_zeros, filled_with_none, IsValued, of_term, of_use, GivesElements, enough, no_more, of_value, of_name, GivesNoElements, refused_there, nothing_there, no_step_there, behind_value, behind_name}
use Rattle.aml_laws.proofs.Charges.{charge_none, charge_one}
use Rattle.aml_laws.proofs.LimitsTaken.{string_made, buffer_made, package_made}
use Rattle.aml_laws.proofs.TreesCost.{term_begins}

-- ---- strings and buffers

few_so : {S : Type 0} (most n : ℕ) (w : State S) → n ≤ most → within most n w ≡ (Ok tt, w)
unfolding within
few_so most n w less = let few : nat_lt most n ≡ false = grind (arith, nat_tests) in rw few refl

buffer_there : {S : Type 0} (w : State S) (n : ℕ) (written : List ℕ) → n ≤ 1048576 → Fits w (filled_with_zeros n written) → new_buffer n written w ≡ (Ok (value.Buffer (length w.objects)), with_object w (object.Buffer (filled_with_zeros n written)))
unfolding new_buffer on_objects go_on ◌>>=◌
buffer_there w n written less fits = rw (few_so 1048576 n w less, buffer_made (filled_with_zeros n written) w.objects fits.0 fits.1) refl

module _ {S : Type 0} (accesses : Accesses S) (scope : List Seg) (depth : ℕ) where
  string_so : (text : List ℕ) (w : State S) (steps : ℕ) → Fits w text → rule accesses (meaning accesses) (task scope depth (string_term text)) (w, steps) ≡ (Ok (flow.Value (value.String (length w.objects))), (with_object w (object.String text), steps))
  unfolding rule string_rule on_objects settle lift give go_on ◌>>=◌
  string_so text w steps fits = rw (string_made text w.objects fits.0 fits.1) refl

  pub string_formed : (text : List ℕ) (w : State S) (steps : ℕ) → Fits w text → GivesValue accesses scope depth (string_term text) (w, suc steps) (value.String (length w.objects)) (with_object w (object.String text), steps)
  string_formed text w steps fits = (term_begins accesses (task scope depth (string_term text))).paid w steps ∙ string_so text w steps fits

  pub integer_so : (x : Tree) (s : State S × ℕ) (n : ℕ) (after : State S × ℕ) → OneInteger accesses scope depth x s n after → operand_integer (meaning accesses) scope depth x s ≡ (Ok n, after)
  unfolding operand_integer operand_value settle lift go_on ◌>>=◌
  integer_so x s n after h = rw (h.gives, h.converts) refl

  buffer_so : (x : Tree) (written : List ℕ) (w : State S) (steps n : ℕ) (after : State S × ℕ) → OneInteger accesses scope depth x (w, steps) n after → n ≤ 1048576 → Fits after.0 (filled_with_zeros n written)
      → rule accesses (meaning accesses) (task scope depth (buffer_term x written)) (w, steps) ≡ (Ok (flow.Value (value.Buffer (length after.0.objects))), (with_object after.0 (object.Buffer (filled_with_zeros n written)), after.1))
  unfolding rule buffer_rule settle lift give go_on ◌>>=◌
  buffer_so x written w steps n after h less fits = rw (integer_so x (w, steps) n after h, buffer_there after.0 n written less fits) refl

  pub buffer_formed : (x : Tree) (written : List ℕ) (w : State S) (steps n : ℕ) (after : State S × ℕ) → OneInteger accesses scope depth x (w, steps) n after → n ≤ 1048576 → Fits after.0 (filled_with_zeros n written)
      → GivesValue accesses scope depth (buffer_term x written) (w, suc steps) (value.Buffer (length after.0.objects)) (with_object after.0 (object.Buffer (filled_with_zeros n written)), after.1)
  buffer_formed x written w steps n after h less fits = (term_begins accesses (task scope depth (buffer_term x written))).paid w steps ∙ buffer_so x written w steps n after h less fits

  -- ---- packages

  valued_so : (t : Tree) → IsValued t → element_by (meaning accesses) (code_of t) scope depth t ≡ valued_element (meaning accesses) scope depth t
  valued_so _ (of_term op ps) = refl
  valued_so _ (of_use ps) = refl

  valued_is : (t : Tree) (s between : State S × ℕ) (v : Value) → GivesValue accesses scope depth t s v between → valued_element (meaning accesses) scope depth t s ≡ (Ok (element.Value v), between)
  unfolding valued_element operand_value settle give go_on ◌>>=◌
  valued_is t s between v gives = rw gives refl

  named_is : (m : Name) (w : State S) (steps : ℕ) → named_element (meaning accesses) scope (name_in_package m) (w, suc steps) ≡ (Ok (element.Name m scope), (w, steps))
  unfolding named_element settle give go_on ◌>>=◌
  named_is m w steps = rw (charge_one w steps) refl

  pub in_turn_so : (n : ℕ) (ts : Trees) (s : State S × ℕ) (es : List Element) (after : State S × ℕ) → GivesElements accesses scope depth n ts s es after → (done : List Element) → elements_in_turn (meaning accesses) scope depth n ts done s ≡ (Ok (done ++ es), after)
  unfolding elements_in_turn give go_on ◌>>=◌
  in_turn_so _ _ _ _ _ (enough ts s) done = ap (λ (l : List Element). (Ok l, s)) (sym (append-nil done))
  in_turn_so _ _ _ _ _ (no_more n s) done = ap (λ (l : List Element). (Ok l, s)) (sym (append-nil done))
  in_turn_so _ _ _ _ _ (of_value n t ts s between after v es valued gives others) done =
      rw (valued_so t valued, valued_is t s between v gives)
      (in_turn_so n ts between es after others (done ++ element.Value v ∷ []) ∙ ap (λ (l : List Element). (Ok l, after)) (append_assoc done (element.Value v ∷ []) es))
  in_turn_so _ _ _ _ _ (of_name n m ts w steps after es others) done =
      rw (named_is m w steps)
      (in_turn_so n ts (w, steps) es after others (done ++ element.Name m scope ∷ []) ∙ ap (λ (l : List Element). (Ok l, after)) (append_assoc done (element.Name m scope ∷ []) es))

  abbrev FitsPackage : State S → List Element → Type 0
  FitsPackage w es = (length es ≤ 65535) × (length w.objects < 262144)

  package_there : (w : State S) (n : ℕ) (es : List Element) → FitsPackage w (filled_with_none n es) → new_package n es w ≡ (Ok (value.Package (length w.objects)), with_object w (object.Package (filled_with_none n es)))
  unfolding new_package on_objects
  package_there w n es fits = rw (package_made (filled_with_none n es) w.objects fits.0 fits.1) refl

  package_is : (n : ℕ) (ts : Trees) (s : State S × ℕ) (es : List Element) (after : State S × ℕ) → GivesElements accesses scope depth n ts s es after → FitsPackage after.0 (filled_with_none n es)
      → package_of (meaning accesses) scope depth n ts s ≡ (Ok (flow.Value (value.Package (length after.0.objects))), (with_object after.0 (object.Package (filled_with_none n es)), after.1))
  unfolding package_of lift give go_on ◌>>=◌
  package_is n ts s es after given fits = rw (in_turn_so n ts s es after given [], package_there after.0 n es fits) refl

  pub counted_so : (n : ℕ) (ts : Trees) (w : State S) (steps : ℕ) → rule accesses (meaning accesses) (task scope depth (package_term n ts)) (w, steps) ≡ package_of (meaning accesses) scope depth n ts (w, steps)
  unfolding rule package_rule settle go_on ◌>>=◌
  counted_so n ts w steps = refl

  pub package_formed : (n : ℕ) (ts : Trees) (w : State S) (steps : ℕ) (es : List Element) (after : State S × ℕ) → GivesElements accesses scope depth n ts (w, steps) es after → (length (filled_with_none n es) ≤ 65535) × (length after.0.objects < 262144)
      → GivesValue accesses scope depth (package_term n ts) (w, suc steps) (value.Package (length after.0.objects)) (with_object after.0 (object.Package (filled_with_none n es)), after.1)
  package_formed n ts w steps es after given fits = (term_begins accesses (task scope depth (package_term n ts))).paid w steps ∙ (counted_so n ts w steps ∙ package_is n ts (w, steps) es after given fits)

  pub sized_so : (x : Tree) (n : ℕ) (ts : Trees) (w : State S) (steps : ℕ) (between : State S × ℕ) → OneInteger accesses scope depth x (w, steps) n between → n ≤ 65535
      → rule accesses (meaning accesses) (task scope depth (var_package_term x ts)) (w, steps) ≡ package_of (meaning accesses) scope depth n ts between
  unfolding rule var_package_rule settle lift go_on ◌>>=◌
  sized_so x n ts w steps between h less = rw (integer_so x (w, steps) n between h, few_so 65535 n between.0 less) refl

  pub var_package_formed : (x : Tree) (n : ℕ) (ts : Trees) (w : State S) (steps : ℕ) (between : State S × ℕ) (es : List Element) (after : State S × ℕ) → OneInteger accesses scope depth x (w, steps) n between → n ≤ 65535 → GivesElements accesses scope depth n ts between es after
      → (length (filled_with_none n es) ≤ 65535) × (length after.0.objects < 262144)
      → GivesValue accesses scope depth (var_package_term x ts) (w, suc steps) (value.Package (length after.0.objects)) (with_object after.0 (object.Package (filled_with_none n es)), after.1)
  var_package_formed x n ts w steps between es after h less given fits =
      (term_begins accesses (task scope depth (var_package_term x ts))).paid w steps ∙ (sized_so x n ts w steps between h less ∙ package_is n ts between es after given fits)

  -- ---- packages with an element that is refused

  valued_not : (t : Tree) (s after : State S × ℕ) (e : Refusal) → IsRefused accesses scope depth t s e after → valued_element (meaning accesses) scope depth t s ≡ (Err e, after)
  unfolding valued_element operand_value go_on ◌>>=◌
  valued_not t s after e stops = rw stops refl

  valued_none : (t : Tree) (s after : State S × ℕ) → GivesNothing accesses scope depth t s after → valued_element (meaning accesses) scope depth t s ≡ (Err (refusal.Evaluation NoValue), after)
  unfolding valued_element operand_value settle go_on ◌>>=◌
  valued_none t s after gives = rw gives refl

  named_not : (m : Name) (w : State S) → named_element (meaning accesses) scope (name_in_package m) (w, 0) ≡ (Err (refusal.Evaluation OutOfSteps), (w, 0))
  unfolding named_element go_on ◌>>=◌
  named_not m w = rw (charge_none w) refl

  in_turn_stops : (n : ℕ) (ts : Trees) (s : State S × ℕ) (e : Refusal) (after : State S × ℕ) → GivesNoElements accesses scope depth n ts s e after → (done : List Element) → elements_in_turn (meaning accesses) scope depth n ts done s ≡ (Err e, after)
  unfolding elements_in_turn go_on ◌>>=◌
  in_turn_stops _ _ _ _ _ (refused_there n t ts s after e valued stops) done = rw (valued_so t valued, valued_not t s after e stops) refl
  in_turn_stops _ _ _ _ _ (nothing_there n t ts s after valued gives) done = rw (valued_so t valued, valued_none t s after gives) refl
  in_turn_stops _ _ _ _ _ (no_step_there n m ts w) done = rw (named_not m w) refl
  in_turn_stops _ _ _ _ _ (behind_value n t ts s between after v e valued gives others) done = rw (valued_so t valued, valued_is t s between v gives) (in_turn_stops n ts between e after others (done ++ element.Value v ∷ []))
  in_turn_stops _ _ _ _ _ (behind_name n m ts w steps after e others) done = rw (named_is m w steps) (in_turn_stops n ts (w, steps) e after others (done ++ element.Name m scope ∷ []))

  package_stops : (n : ℕ) (ts : Trees) (s : State S × ℕ) (e : Refusal) (after : State S × ℕ) → GivesNoElements accesses scope depth n ts s e after → package_of (meaning accesses) scope depth n ts s ≡ (Err e, after)
  unfolding package_of go_on ◌>>=◌
  package_stops n ts s e after stops = rw (in_turn_stops n ts s e after stops []) refl

  pub package_refused : (n : ℕ) (ts : Trees) (w : State S) (steps : ℕ) (e : Refusal) (after : State S × ℕ) → GivesNoElements accesses scope depth n ts (w, steps) e after → IsRefused accesses scope depth (package_term n ts) (w, suc steps) e after
  package_refused n ts w steps e after stops = (term_begins accesses (task scope depth (package_term n ts))).paid w steps ∙ (counted_so n ts w steps ∙ package_stops n ts (w, steps) e after stops)

  pub var_package_refused : (x : Tree) (n : ℕ) (ts : Trees) (w : State S) (steps : ℕ) (between : State S × ℕ) (e : Refusal) (after : State S × ℕ) → OneInteger accesses scope depth x (w, steps) n between → n ≤ 65535 → GivesNoElements accesses scope depth n ts between e after
      → IsRefused accesses scope depth (var_package_term x ts) (w, suc steps) e after
  var_package_refused x n ts w steps between e after h less stops = (term_begins accesses (task scope depth (var_package_term x ts))).paid w steps ∙ (sized_so x n ts w steps between h less ∙ package_stops n ts between e after stops)
