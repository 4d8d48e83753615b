-- A name that stands for no path is declared by no term.
use Rattle.std.specs.Prelude.{◌≡◌, ℕ, suc, List, Some, Ok, Err, refl}
use Rattle.std.proofs.Common.{◌∙◌}
use Rattle.ar_space.specs.Accesses.{Accesses}
use Rattle.ar_space.specs.Change.{settle, go_on, ◌>>=◌}
use Rattle.ar_space.specs.declared.refusal.Refusal.{Refusal}
use Rattle.aml_path.specs.declared.segment.Seg.{Seg}
use Rattle.aml_path.specs.Paths.{Name, resolved}
use Rattle.aml_grammar.specs.Apart.{code_of, name_of, operand_of}
use Rattle.aml_grammar.specs.Tree.{Tree, name}
use Rattle.aml_grammar.specs.declared.opcode.Opcode.{Opcode}
use Rattle.aml_grammar.specs.declared.opcode.TermCode.TheVariants as codes
use Rattle.aml_objects.specs.declared.entry.Entry.{Entry}
use Rattle.aml_objects.specs.declared.entry.NamedObject.{NamedObject}
use Rattle.aml_objects.specs.declared.entry.NamedObject.TheVariants as named
use Rattle.aml_objects.specs.declared.value.Value.{Value}
use Rattle.aml_namespace.specs.Search.{found}
use Rattle.aml_world.specs.state.Readings.{path_found}
use Rattle.aml_world.specs.state.Run.{lift}
use Rattle.aml_world.specs.state.State.{State}
use Rattle.aml_meaning.specs.DeclarationTerms.{declaring, name_rule, alias_rule, method_rule, new_scope}
use Rattle.aml_meaning.specs.Evaluation.{rule}
use Rattle.aml_meaning.specs.Meaning.{meaning}
use Rattle.aml_meaning.specs.Tasks.{task, operand_value}
use Rattle.aml_laws.specs.DeclaredObjects.{name_term, method_term, alias_term, mutex_term, event_term}
use Rattle.aml_laws.specs.InnerLists.{DeclaresScope}
use Rattle.aml_laws.specs.OperatorTerms.{GivesValue, IsRefused}
use Rattle.aml_laws.proofs.PathsTaken.{NotDeclared, scope_ruled}
use Rattle.aml_laws.proofs.TreesCost.{term_begins}

module _ {S : Type 0} (accesses : Accesses S) (scope : List Seg) (depth : ℕ) (n : Name) (e : Refusal) (none : resolved n scope ≡ Err e) where
  declaring_stops : (t : Tree) (place : ℕ) (o : NamedObject) (s : State S × ℕ) → operand_of t place ≡ Some (name n) → declaring (meaning accesses) scope depth t place o s ≡ (Err e, s)
  unfolding declaring settle go_on ◌>>=◌
  declaring_stops t place o s at = rw (at, none) refl

  pub unresolved_declares_none : (s : State S × ℕ) → NotDeclared accesses scope depth n s e
  unresolved_declares_none s = λ t place o at. declaring_stops t place o s at

  module _ (w : State S) (steps : ℕ) where
    name_stops : (x : Tree) (v : Value) (after : State S × ℕ) → GivesValue accesses scope depth x (w, steps) v after → rule accesses (meaning accesses) (task scope depth (name_term n x)) (w, steps) ≡ (Err e, after)
    unfolding rule name_rule operand_value settle go_on ◌>>=◌
    name_stops x v after gives = rw gives (declaring_stops (name_term n x) 0 (named.Data v) after refl)

    pub name_unresolved : (x : Tree) (v : Value) (after : State S × ℕ) → GivesValue accesses scope depth x (w, steps) v after → IsRefused accesses scope depth (name_term n x) (w, suc steps) e after
    name_unresolved x v after gives = (term_begins accesses (task scope depth (name_term n x))).paid w steps ∙ name_stops x v after gives

    method_stops : (flags : ℕ) (body : List ℕ) → rule accesses (meaning accesses) (task scope depth (method_term n flags body)) (w, steps) ≡ (Err e, (w, steps))
    unfolding rule method_rule settle go_on ◌>>=◌
    method_stops flags body = rw none refl

    pub method_unresolved : (flags : ℕ) (body : List ℕ) → IsRefused accesses scope depth (method_term n flags body) (w, suc steps) e (w, steps)
    method_unresolved flags body = (term_begins accesses (task scope depth (method_term n flags body))).paid w steps ∙ method_stops flags body

    alias_stops : (source : Name) (target : List Seg) (there : Entry) → found w.names.map scope source ≡ Ok (target, there) → rule accesses (meaning accesses) (task scope depth (alias_term source n)) (w, steps) ≡ (Err e, (w, steps))
    unfolding rule alias_rule path_found settle lift go_on ◌>>=◌
    alias_stops source target there finds = rw (finds, none) refl

    pub alias_unresolved : (source : Name) (target : List Seg) (there : Entry) → found w.names.map scope source ≡ Ok (target, there) → IsRefused accesses scope depth (alias_term source n) (w, suc steps) e (w, steps)
    alias_unresolved source target there finds = (term_begins accesses (task scope depth (alias_term source n))).paid w steps ∙ alias_stops source target there finds

    mutex_stops : (level : ℕ) → rule accesses (meaning accesses) (task scope depth (mutex_term n level)) (w, steps) ≡ (Err e, (w, steps))
    unfolding rule
    mutex_stops level = declaring_stops (mutex_term n level) 0 (named.Mutex 0) (w, steps) refl

    pub mutex_unresolved : (level : ℕ) → IsRefused accesses scope depth (mutex_term n level) (w, suc steps) e (w, steps)
    mutex_unresolved level = (term_begins accesses (task scope depth (mutex_term n level))).paid w steps ∙ mutex_stops level

    event_stops : rule accesses (meaning accesses) (task scope depth (event_term n)) (w, steps) ≡ (Err e, (w, steps))
    unfolding rule
    event_stops = declaring_stops (event_term n) 0 (named.Event 0) (w, steps) refl

    pub event_unresolved : IsRefused accesses scope depth (event_term n) (w, suc steps) e (w, steps)
    event_unresolved = (term_begins accesses (task scope depth (event_term n))).paid w steps ∙ event_stops

    new_scope_stops : (o : NamedObject) (i : ℕ) (t : Tree) → name_of (operand_of t 0) ≡ Ok n → new_scope (meaning accesses) o i scope depth t (w, steps) ≡ (Err e, (w, steps))
    unfolding new_scope settle go_on ◌>>=◌
    new_scope_stops o i t at = rw (at, none) refl

    pub scope_unresolved : (code : Opcode) (o : NamedObject) (i : ℕ) (t : Tree) → DeclaresScope code o i → code_of t ≡ codes.Opcode code → name_of (operand_of t 0) ≡ Ok n → IsRefused accesses scope depth t (w, suc steps) e (w, steps)
    scope_unresolved code o i t declares coded at = (term_begins accesses (task scope depth t)).paid w steps ∙ (scope_ruled accesses scope depth (w, steps) code o i t declares coded ∙ new_scope_stops o i t at)
