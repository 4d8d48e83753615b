-- A call begins with the values that its arguments gave, in their order, and is refused where it has another number of them.
use Rattle.std.specs.Prelude.{◌≡◌, ◌==◌, ◌%◌, ◌++◌, ℕ, suc, List, [], ◌∷◌, length, true, false, Ok, Err, refl}
use Rattle.std.proofs.Common.{arith, ap, sym, ◌∙◌}
use Rattle.std.proofs.lemmas.Bool.Decides.{nat_tests}
use Rattle.std.proofs.lemmas.List.{append-nil, append_assoc}
use Rattle.ar_space.specs.declared.refusal.Refusal.{Refusal}
use Rattle.ar_space.specs.declared.refusal.Refusal.TheVariants as refusal
use Rattle.ar_space.specs.declared.refusal.EvaluationFault.TheVariants.{ArityChanged, NoValue}
use Rattle.ar_space.specs.Accesses.{Accesses}
use Rattle.ar_space.specs.Change.{give, settle, go_on, ◌>>=◌}
use Rattle.aml_path.specs.declared.segment.Seg.{Seg}
use Rattle.aml_path.specs.Paths.{Name}
use Rattle.aml_grammar.specs.Shape.{trees_of}
use Rattle.aml_grammar.specs.Tree.{Tree}
use Rattle.aml_objects.specs.declared.entry.Entry.{Entry}
use Rattle.aml_objects.specs.declared.entry.Method.{Method}
use Rattle.aml_objects.specs.declared.entry.NamedObject.{NamedObject}
use Rattle.aml_objects.specs.declared.entry.NamedObject.TheVariants as named
use Rattle.aml_objects.specs.declared.value.Value.{Value}
use Rattle.aml_namespace.specs.Search.{found}
use Rattle.aml_world.specs.state.Invocations.{named_use, invocation_found}
use Rattle.aml_world.specs.state.Readings.{arguments_of, entry_found, arguments_found}
use Rattle.aml_world.specs.state.Run.{lift}
use Rattle.aml_world.specs.state.State.{State}
use Rattle.aml_meaning.specs.Evaluation.{rule}
use Rattle.aml_meaning.specs.InvocationTerms.{arguments_in_turn, call_rule, name_value}
use Rattle.aml_meaning.specs.Calls.{invoked}
use Rattle.aml_meaning.specs.Meaning.{meaning}
use Rattle.aml_meaning.specs.Tasks.{task, operand_value}
use Rattle.aml_meaning.specs.Terms.{count_of}
use Rattle.aml_laws.specs.CallTerms.{call_of, method_entry, IsNoMethod, GiveInTurn, no_term, first_term}
use Rattle.aml_laws.specs.OperatorTerms.{GivesValue, GivesNothing, IsRefused}
use Rattle.aml_laws.proofs.TreesCost.{term_begins}

-- ---- how many there are

pub counted_trees : (xs : List Tree) → count_of (trees_of xs) ≡ length xs
counted_trees [] = refl
counted_trees (x ∷ xs) = ap suc (counted_trees xs)

pub as_many_as : (wanted count : ℕ) → wanted ≡ count → (wanted == count) ≡ true
as_many_as wanted count same = grind (arith, nat_tests)

pub not_as_many : (wanted count : ℕ) → (wanted ≡ count → ⊥) → (wanted == count) ≡ false
not_as_many wanted count other = grind (arith, nat_tests)

pub takes_none : (o : NamedObject) → IsNoMethod o → arguments_of o ≡ 0
takes_none (named.Method m) none = absurd (none m refl)
takes_none (named.Alias p) none = refl
takes_none named.Scope none = refl
takes_none named.Device none = refl
takes_none named.Processor none = refl
takes_none named.PowerResource none = refl
takes_none named.ThermalZone none = refl
takes_none (named.Data v) none = refl
takes_none (named.OperationRegion r) none = refl
takes_none (named.FieldUnit u) none = refl
takes_none (named.BufferField b) none = refl
takes_none (named.Mutex n) none = refl
takes_none (named.Event n) none = refl

module _ {S : Type 0} (accesses : Accesses S) (scope : List Seg) (depth : ℕ) where
  -- ---- the values of the arguments

  one_more : (x : Tree) (xs : List Tree) (v : Value) (done : List Value) (s between : State S × ℕ) → GivesValue accesses scope depth x s v between
      → arguments_in_turn (meaning accesses) scope depth (trees_of (x ∷ xs)) done s ≡ arguments_in_turn (meaning accesses) scope depth (trees_of xs) (done ++ v ∷ []) between
  unfolding arguments_in_turn operand_value settle go_on ◌>>=◌
  one_more x xs v done s between is = rw is refl

  behind_done : (xs : List Tree) (s after : State S × ℕ) (vs done : List Value) → GiveInTurn accesses scope depth xs s vs after → arguments_in_turn (meaning accesses) scope depth (trees_of xs) done s ≡ (Ok (done ++ vs), after)
  unfolding arguments_in_turn give
  behind_done _ _ _ _ done (no_term s) = ap (λ (l : List Value). (Ok l, s)) (sym (append-nil done))
  behind_done _ _ _ _ done (first_term x xs v vs s between after is others) =
      one_more x xs v done s between is ∙ behind_done xs between after vs (done ++ v ∷ []) others ∙ ap (λ (l : List Value). (Ok l, after)) (append_assoc done (v ∷ []) vs)

  pub arguments_given : (xs : List Tree) (s after : State S × ℕ) (vs : List Value) → GiveInTurn accesses scope depth xs s vs after → arguments_in_turn (meaning accesses) scope depth (trees_of xs) [] s ≡ (Ok vs, after)
  arguments_given xs s after vs h = behind_done xs s after vs [] h

  -- ---- an argument that is refused, or gives nothing

  operand_refused : (x : Tree) (e : Refusal) (s after : State S × ℕ) → IsRefused accesses scope depth x s e after → operand_value (meaning accesses) scope depth x s ≡ (Err e, after)
  unfolding operand_value go_on ◌>>=◌
  operand_refused x e s after is = rw is refl

  operand_missing : (x : Tree) (s after : State S × ℕ) → GivesNothing accesses scope depth x s after → operand_value (meaning accesses) scope depth x s ≡ (Err (refusal.Evaluation NoValue), after)
  unfolding operand_value settle go_on ◌>>=◌
  operand_missing x s after is = rw is refl

  stops_at : (x : Tree) (others : List Tree) (done : List Value) (e : Refusal) (s after : State S × ℕ) → operand_value (meaning accesses) scope depth x s ≡ (Err e, after) → arguments_in_turn (meaning accesses) scope depth (trees_of (x ∷ others)) done s ≡ (Err e, after)
  unfolding arguments_in_turn go_on ◌>>=◌
  stops_at x others done e s after is = rw is refl

  stops_behind : (front others : List Tree) (x : Tree) (vs done : List Value) (e : Refusal) (s between after : State S × ℕ) → GiveInTurn accesses scope depth front s vs between → operand_value (meaning accesses) scope depth x between ≡ (Err e, after)
      → arguments_in_turn (meaning accesses) scope depth (trees_of (front ++ x ∷ others)) done s ≡ (Err e, after)
  stops_behind _ others x _ done e _ _ after (no_term s) is = stops_at x others done e s after is
  stops_behind _ others x _ done e _ _ after (first_term y ys v vs s next between gives more) is =
      one_more y (ys ++ x ∷ others) v done s next gives ∙ stops_behind ys others x vs (done ++ v ∷ []) e next between after more is

  -- ---- the call

  module _ (n : Name) (w : State S) (steps : ℕ) (path : List Seg) where
    begins : (t : Tree) → meaning accesses (task scope depth t) (w, suc steps) ≡ rule accesses (meaning accesses) (task scope depth t) (w, steps)
    begins t = (term_begins accesses (task scope depth t)).paid w steps

    pub called_with : (xs : List Tree) (number flags : ℕ) (body : List ℕ) (vs : List Value) (after : State S × ℕ) → found w.names.map scope n ≡ Ok (path, method_entry number flags body) → flags % 8 ≡ length xs → GiveInTurn accesses scope depth xs (w, steps) vs after
        → meaning accesses (task scope depth (call_of n xs)) (w, suc steps) ≡ invoked (meaning accesses) depth path body vs after
    unfolding rule name_value invocation_found arguments_found entry_found named_use call_rule settle lift give go_on ◌>>=◌
    called_with xs number flags body vs after finds many given =
        begins (call_of n xs) ∙ rw (finds, as_many_as (flags % 8) (count_of (trees_of xs)) (many ∙ sym (counted_trees xs)), finds, arguments_given xs (w, steps) after vs given) refl

    refused_at : (front others : List Tree) (x : Tree) (number flags : ℕ) (body : List ℕ) (vs : List Value) (between after : State S × ℕ) (e : Refusal) → found w.names.map scope n ≡ Ok (path, method_entry number flags body) → flags % 8 ≡ length (front ++ x ∷ others)
        → GiveInTurn accesses scope depth front (w, steps) vs between → operand_value (meaning accesses) scope depth x between ≡ (Err e, after) → IsRefused accesses scope depth (call_of n (front ++ x ∷ others)) (w, suc steps) e after
    unfolding rule name_value invocation_found arguments_found entry_found named_use call_rule settle lift give go_on ◌>>=◌
    refused_at front others x number flags body vs between after e finds many given is =
        begins (call_of n (front ++ x ∷ others)) ∙ rw (finds, as_many_as (flags % 8) (count_of (trees_of (front ++ x ∷ others))) (many ∙ sym (counted_trees (front ++ x ∷ others))), finds, stops_behind front others x vs [] e (w, steps) between after given is) refl

    pub argument_refused : (front others : List Tree) (x : Tree) (number flags : ℕ) (body : List ℕ) (vs : List Value) (between after : State S × ℕ) (e : Refusal) → found w.names.map scope n ≡ Ok (path, method_entry number flags body) → flags % 8 ≡ length (front ++ x ∷ others)
        → GiveInTurn accesses scope depth front (w, steps) vs between → IsRefused accesses scope depth x between e after → IsRefused accesses scope depth (call_of n (front ++ x ∷ others)) (w, suc steps) e after
    argument_refused front others x number flags body vs between after e finds many given is = refused_at front others x number flags body vs between after e finds many given (operand_refused x e between after is)

    pub argument_missing : (front others : List Tree) (x : Tree) (number flags : ℕ) (body : List ℕ) (vs : List Value) (between after : State S × ℕ) → found w.names.map scope n ≡ Ok (path, method_entry number flags body) → flags % 8 ≡ length (front ++ x ∷ others)
        → GiveInTurn accesses scope depth front (w, steps) vs between → GivesNothing accesses scope depth x between after → IsRefused accesses scope depth (call_of n (front ++ x ∷ others)) (w, suc steps) (refusal.Evaluation NoValue) after
    argument_missing front others x number flags body vs between after finds many given is = refused_at front others x number flags body vs between after (refusal.Evaluation NoValue) finds many given (operand_missing x between after is)

    refused_by_count : (xs : List Tree) (e : Entry) (wanted : ℕ) → found w.names.map scope n ≡ Ok (path, e) → arguments_of e.object ≡ wanted → (wanted == count_of (trees_of xs)) ≡ false
        → IsRefused accesses scope depth (call_of n xs) (w, suc steps) (refusal.Evaluation ArityChanged) (w, steps)
    unfolding rule name_value invocation_found arguments_found entry_found settle lift give go_on ◌>>=◌
    refused_by_count xs e wanted finds takes other = begins (call_of n xs) ∙ rw (finds, takes, other) refl

    pub other_number_refused : (xs : List Tree) (e : Entry) (m : Method) → found w.names.map scope n ≡ Ok (path, e) → e.object ≡ named.Method m → (m.flags.byte % 8 ≡ length xs → ⊥)
        → IsRefused accesses scope depth (call_of n xs) (w, suc steps) (refusal.Evaluation ArityChanged) (w, steps)
    other_number_refused xs e m finds is other = refused_by_count xs e (m.flags.byte % 8) finds (ap arguments_of is) (not_as_many (m.flags.byte % 8) (count_of (trees_of xs)) (λ same. other (same ∙ counted_trees xs)))

    pub no_method_refused : (x : Tree) (xs : List Tree) (e : Entry) → found w.names.map scope n ≡ Ok (path, e) → IsNoMethod e.object
        → IsRefused accesses scope depth (call_of n (x ∷ xs)) (w, suc steps) (refusal.Evaluation ArityChanged) (w, steps)
    no_method_refused x xs e finds none = refused_by_count (x ∷ xs) e 0 finds (takes_none e.object none) (not_as_many 0 (count_of (trees_of (x ∷ xs))) (λ same. omega (arith, same)))
