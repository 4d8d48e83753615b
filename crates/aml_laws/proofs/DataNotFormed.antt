-- The terms of strings, buffers and packages for which there is no room.
use Rattle.std.specs.Prelude.{◌≡◌, ◌<◌, ◌≤◌, ◌⊎◌, ℕ, suc, nat_lt, Bool, true, false, List, [], length, Ok, Err, refl}
use Rattle.std.proofs.Common.{arith, ◌∙◌}
use Rattle.std.proofs.lemmas.Bool.Decides.{nat_tests}
use Rattle.ar_space.specs.Accesses.{Accesses}
use Rattle.ar_space.specs.Change.{settle, go_on, ◌>>=◌}
use Rattle.ar_space.specs.declared.refusal.Refusal.TheVariants as refusal
use Rattle.ar_space.specs.declared.refusal.EvaluationFault.TheVariants.{ObjectLimit}
use Rattle.aml_path.specs.declared.segment.Seg.{Seg}
use Rattle.aml_grammar.specs.Tree.{Tree, Trees}
use Rattle.aml_objects.specs.declared.object.Element.{Element}
use Rattle.aml_world.specs.state.State.{State, on_objects}
use Rattle.aml_world.specs.state.Run.{lift}
use Rattle.aml_world.specs.state.NewObjects.{within, new_buffer, new_package}
use Rattle.aml_meaning.specs.Tasks.{task}
use Rattle.aml_meaning.specs.DataTerms.{string_rule, buffer_rule, package_of, var_package_rule}
use Rattle.aml_meaning.specs.Evaluation.{rule}
use Rattle.aml_meaning.specs.Meaning.{meaning}
use Rattle.aml_laws.specs.BeyondLimits.{AreTooMany}
use Rattle.aml_laws.specs.OperatorTerms.{IsRefused, OneInteger}
use Rattle.aml_laws.specs.DataTerms.{string_term, buffer_term, package_term, var_package_term, filled_with_zeros, filled_with_none, GivesElements}
use Rattle.aml_laws.specs.MatchedValues.{Exceeds}
use Rattle.aml_laws.proofs.BeyondLimits.{no_string_made, no_package_made}
use Rattle.aml_laws.proofs.DataFormed.{integer_so, in_turn_so, counted_so, sized_so}
use Rattle.aml_laws.proofs.LimitsRefused.{no_buffer_made}
use Rattle.aml_laws.proofs.TreesCost.{term_begins}

module _ {S : Type 0} where
  too_many : (most n : ℕ) (w : State S) → most < n → within most n w ≡ (Err (refusal.Evaluation ObjectLimit), w)
  unfolding within
  too_many most n w more = let many : nat_lt most n ≡ true = grind (arith, nat_tests) in rw many refl

  buffer_by_size : (w : State S) (n : ℕ) (written : List ℕ) → Exceeds w (filled_with_zeros n written) → (c : Bool) → nat_lt 1048576 n ≡ c → new_buffer n written w ≡ (Err (refusal.Evaluation ObjectLimit), w)
  unfolding new_buffer within on_objects go_on ◌>>=◌
  buffer_by_size w n written exceeds true is = rw is refl
  buffer_by_size w n written exceeds false is = rw (is, no_buffer_made (filled_with_zeros n written) w.objects exceeds) refl

  no_buffer_there : (w : State S) (n : ℕ) (written : List ℕ) → Exceeds w (filled_with_zeros n written) → new_buffer n written w ≡ (Err (refusal.Evaluation ObjectLimit), w)
  no_buffer_there w n written exceeds = buffer_by_size w n written exceeds (nat_lt 1048576 n) refl

  no_package_there : (w : State S) (n : ℕ) (es : List Element) → AreTooMany w (filled_with_none n es) → new_package n es w ≡ (Err (refusal.Evaluation ObjectLimit), w)
  unfolding new_package on_objects
  no_package_there w n es many = rw (no_package_made (filled_with_none n es) w.objects many) refl

module _ {S : Type 0} (accesses : Accesses S) (scope : List Seg) (depth : ℕ) where
  no_string_by : (text : List ℕ) (w : State S) (steps : ℕ) → Exceeds w text → rule accesses (meaning accesses) (task scope depth (string_term text)) (w, steps) ≡ (Err (refusal.Evaluation ObjectLimit), (w, steps))
  unfolding rule string_rule on_objects settle lift go_on ◌>>=◌
  no_string_by text w steps exceeds = rw (no_string_made text w.objects exceeds) refl

  pub no_string_formed : (text : List ℕ) (w : State S) (steps : ℕ) → Exceeds w text → IsRefused accesses scope depth (string_term text) (w, suc steps) (refusal.Evaluation ObjectLimit) (w, steps)
  no_string_formed text w steps exceeds = (term_begins accesses (task scope depth (string_term text))).paid w steps ∙ no_string_by text w steps exceeds

  no_buffer_by : (x : Tree) (written : List ℕ) (w : State S) (steps n : ℕ) (after : State S × ℕ) → OneInteger accesses scope depth x (w, steps) n after → Exceeds after.0 (filled_with_zeros n written)
      → rule accesses (meaning accesses) (task scope depth (buffer_term x written)) (w, steps) ≡ (Err (refusal.Evaluation ObjectLimit), after)
  unfolding rule buffer_rule settle lift go_on ◌>>=◌
  no_buffer_by x written w steps n after h exceeds = rw (integer_so accesses scope depth x (w, steps) n after h, no_buffer_there after.0 n written exceeds) refl

  pub no_buffer_formed : (x : Tree) (written : List ℕ) (w : State S) (steps n : ℕ) (after : State S × ℕ) → OneInteger accesses scope depth x (w, steps) n after → Exceeds after.0 (filled_with_zeros n written)
      → IsRefused accesses scope depth (buffer_term x written) (w, suc steps) (refusal.Evaluation ObjectLimit) after
  no_buffer_formed x written w steps n after h exceeds = (term_begins accesses (task scope depth (buffer_term x written))).paid w steps ∙ no_buffer_by x written w steps n after h exceeds

  package_is_not : (n : ℕ) (ts : Trees) (s : State S × ℕ) (es : List Element) (after : State S × ℕ) → GivesElements accesses scope depth n ts s es after → AreTooMany after.0 (filled_with_none n es) → package_of (meaning accesses) scope depth n ts s ≡ (Err (refusal.Evaluation ObjectLimit), after)
  unfolding package_of lift go_on ◌>>=◌
  package_is_not n ts s es after given many = rw (in_turn_so accesses scope depth n ts s es after given [], no_package_there after.0 n es many) refl

  pub no_package_formed : (n : ℕ) (ts : Trees) (w : State S) (steps : ℕ) (es : List Element) (after : State S × ℕ) → GivesElements accesses scope depth n ts (w, steps) es after → AreTooMany after.0 (filled_with_none n es)
      → IsRefused accesses scope depth (package_term n ts) (w, suc steps) (refusal.Evaluation ObjectLimit) after
  no_package_formed n ts w steps es after given many = (term_begins accesses (task scope depth (package_term n ts))).paid w steps ∙ (counted_so accesses scope depth n ts w steps ∙ package_is_not n ts (w, steps) es after given many)

  no_count_by : (x : Tree) (n : ℕ) (ts : Trees) (w : State S) (steps : ℕ) (after : State S × ℕ) → OneInteger accesses scope depth x (w, steps) n after → 65535 < n
      → rule accesses (meaning accesses) (task scope depth (var_package_term x ts)) (w, steps) ≡ (Err (refusal.Evaluation ObjectLimit), after)
  unfolding rule var_package_rule settle lift go_on ◌>>=◌
  no_count_by x n ts w steps after h more = rw (integer_so accesses scope depth x (w, steps) n after h, too_many 65535 n after.0 more) refl

  pub no_package_counted : (x : Tree) (n : ℕ) (ts : Trees) (w : State S) (steps : ℕ) (after : State S × ℕ) → OneInteger accesses scope depth x (w, steps) n after → 65535 < n
      → IsRefused accesses scope depth (var_package_term x ts) (w, suc steps) (refusal.Evaluation ObjectLimit) after
  no_package_counted x n ts w steps after h more = (term_begins accesses (task scope depth (var_package_term x ts))).paid w steps ∙ no_count_by x n ts w steps after h more

  pub no_package_sized : (x : Tree) (n : ℕ) (ts : Trees) (w : State S) (steps : ℕ) (between : State S × ℕ) (es : List Element) (after : State S × ℕ) → OneInteger accesses scope depth x (w, steps) n between → n ≤ 65535 → GivesElements accesses scope depth n ts between es after
      → AreTooMany after.0 (filled_with_none n es) → IsRefused accesses scope depth (var_package_term x ts) (w, suc steps) (refusal.Evaluation ObjectLimit) after
  no_package_sized x n ts w steps between es after h less given many =
      (term_begins accesses (task scope depth (var_package_term x ts))).paid w steps ∙ (sized_so accesses scope depth x n ts w steps between h less ∙ package_is_not n ts between es after given many)
