-- Declarations at paths that take no name are refused.
use Rattle.std.specs.Prelude.{◌≡◌, ◌%◌, ◌-◌, ◌^◌, ◌==◌, ℕ, zero, suc, true, false, List, Some, None, Ok, Err, refl}
use Rattle.std.proofs.Common.{arith, ◌∙◌}
use Rattle.std.proofs.lemmas.Bool.Decides.{nat_tests}
use Rattle.std.specs.FinMap.{get}
use Rattle.ar_space.specs.Accesses.{Accesses}
use Rattle.ar_space.specs.Change.{settle, go_on, ◌>>=◌}
use Rattle.ar_space.specs.declared.refusal.Refusal.{Refusal}
use Rattle.ar_space.specs.declared.refusal.Refusal.TheVariants as refusal
use Rattle.ar_space.specs.declared.refusal.EvaluationFault.TheVariants.{ObjectLimit}
use Rattle.ar_space.specs.declared.refusal.NamespaceFault.TheVariants.{Exists, NotFound}
use Rattle.aml_path.specs.declared.segment.Seg.{Seg}
use Rattle.aml_path.specs.Paths.{Name, resolved}
use Rattle.aml_grammar.specs.Apart.{code_of, name_of, operand_of}
use Rattle.aml_grammar.specs.declared.opcode.Opcode.{Opcode}
use Rattle.aml_grammar.specs.declared.opcode.TermCode.TheVariants as codes
use Rattle.aml_grammar.specs.Tree.{Tree, name}
use Rattle.aml_objects.specs.declared.entry.Entry.{Entry}
use Rattle.aml_objects.specs.declared.entry.Method.{Method}
use Rattle.aml_objects.specs.declared.entry.NamedObject.{NamedObject}
use Rattle.aml_objects.specs.declared.entry.NamedObject.TheVariants as named
use Rattle.aml_objects.specs.declared.value.Value.{Value}
use Rattle.aml_namespace.specs.Namespace.{above, declared}
use Rattle.aml_namespace.specs.Search.{found}
use Rattle.aml_world.specs.state.State.{State, on_names}
use Rattle.aml_world.specs.state.Run.{lift}
use Rattle.aml_world.specs.state.Readings.{path_found}
use Rattle.aml_world.specs.state.Declaring.{not_in_method, new_name, new_method}
use Rattle.aml_meaning.specs.Tasks.{task, module_level, operand_value}
use Rattle.aml_meaning.specs.DeclarationTerms.{declaring, name_rule, alias_rule, method_rule, new_scope}
use Rattle.aml_meaning.specs.Evaluation.{rule}
use Rattle.aml_meaning.specs.Meaning.{meaning}
use Rattle.aml_laws.specs.OperatorTerms.{GivesValue, IsRefused}
use Rattle.aml_laws.specs.DeclaredObjects.{name_term, method_term, alias_term, mutex_term, event_term, method_of, TakesNoName, taken, below_nothing, below_method, without_number}
use Rattle.aml_laws.specs.InnerLists.{DeclaresScope, of_device, of_processor, of_power_resource, of_thermal_zone}
use Rattle.aml_laws.proofs.NamesDeclared.{no_method_so}
use Rattle.aml_laws.proofs.TreesCost.{term_begins}

module _ {S : Type 0} (w : State S) (path : List Seg) where
  out_of_methods : (depth : ℕ) (parent : Entry) → get w.names.map (above path) ≡ Some parent → (depth ≡ 0 → (m : Method) → parent.object ≡ named.Method m → ⊥) → not_in_method (module_level depth) path w ≡ (Ok tt, w)
  unfolding not_in_method
  out_of_methods zero parent stands outside = rw (stands, no_method_so parent.object (outside refl)) refl
  out_of_methods (suc n) parent stands outside = let inside : module_level (suc n) ≡ false = grind (arith, nat_tests) in rw inside refl

  in_nothing : (depth : ℕ) → get w.names.map (above path) ≡ None → not_in_method (module_level depth) path w ≡ (Ok tt, w)
  unfolding not_in_method
  in_nothing zero none = rw none refl
  in_nothing (suc n) none = let inside : module_level (suc n) ≡ false = grind (arith, nat_tests) in rw inside refl

  in_method : (depth : ℕ) (parent : Entry) (m : Method) → depth ≡ 0 → get w.names.map (above path) ≡ Some parent → parent.object ≡ named.Method m → not_in_method (module_level depth) path w ≡ (Err (refusal.Namespace NotFound), w)
  unfolding not_in_method
  in_method depth parent m level stands is = rw (level, stands, is) refl

  not_put : (o : NamedObject) (parent e : Entry) → get w.names.map (above path) ≡ Some parent → get w.names.map path ≡ Some e → on_names (declared path o) w ≡ (Err (refusal.Namespace Exists), w)
  unfolding on_names declared
  not_put o parent e stands there = rw (stands, there) refl

  put_nowhere : (o : NamedObject) → get w.names.map (above path) ≡ None → on_names (declared path o) w ≡ (Err (refusal.Namespace NotFound), w)
  unfolding on_names declared
  put_nowhere o none = rw none refl

  put_without_number : (o : NamedObject) (parent : Entry) → get w.names.map (above path) ≡ Some parent → get w.names.map path ≡ None → w.names.next ≡ 2 ^ 64 - 1 → on_names (declared path o) w ≡ (Err (refusal.Evaluation ObjectLimit), w)
  unfolding on_names declared
  put_without_number o parent stands free last = let test : (w.names.next == 2 ^ 64 - 1) ≡ true = same w.names.next (2 ^ 64 - 1) last in rw (stands, free, test) refl
    where
      same : (n k : ℕ) → n ≡ k → (n == k) ≡ true
      same n k is = grind (arith, nat_tests)

  pub no_new_name : (o : NamedObject) (depth : ℕ) (e : Refusal) → TakesNoName depth w path e → new_name (module_level depth) path o w ≡ (Err e, w)
  unfolding new_name go_on ◌>>=◌
  no_new_name o depth _ (taken parent e stands outside there) = rw (out_of_methods depth parent stands outside, not_put o parent e stands there) refl
  no_new_name o depth _ (below_nothing none) = rw (in_nothing depth none, put_nowhere o none) refl
  no_new_name o depth _ (below_method parent m level stands is) = rw (in_method depth parent m level stands is) refl
  no_new_name o depth _ (without_number parent stands outside free last) = rw (out_of_methods depth parent stands outside, put_without_number o parent stands free last) refl

-- whichever term would declare a name, it is refused so, and nothing changes
abbrev pub NotDeclared : {S : Type 0} → Accesses S → List Seg → ℕ → Name → State S × ℕ → Refusal → Type 0
NotDeclared accesses scope depth n s e = (t : Tree) (place : ℕ) (o : NamedObject) → operand_of t place ≡ Some (name n) → declaring (meaning accesses) scope depth t place o s ≡ (Err e, s)

module _ {S : Type 0} (accesses : Accesses S) (scope : List Seg) (depth : ℕ) (s : State S × ℕ) where
  pub scope_ruled : (code : Opcode) (o : NamedObject) (i : ℕ) (t : Tree) → DeclaresScope code o i → code_of t ≡ codes.Opcode code → rule accesses (meaning accesses) (task scope depth t) s ≡ new_scope (meaning accesses) o i scope depth t s
  unfolding rule
  scope_ruled _ _ _ t of_device coded = rw coded refl
  scope_ruled _ _ _ t of_processor coded = rw coded refl
  scope_ruled _ _ _ t of_power_resource coded = rw coded refl
  scope_ruled _ _ _ t of_thermal_zone coded = rw coded refl

module _ {S : Type 0} (accesses : Accesses S) (scope : List Seg) (depth : ℕ) (n : Name) (path : List Seg) (is : resolved n scope ≡ Ok path) where
  declaring_stops : (t : Tree) (place : ℕ) (o : NamedObject) (s : State S × ℕ) (e : Refusal) → operand_of t place ≡ Some (name n) → TakesNoName depth s.0 path e → declaring (meaning accesses) scope depth t place o s ≡ (Err e, s)
  unfolding declaring settle lift go_on ◌>>=◌
  declaring_stops t place o s e at h = rw (at, is, no_new_name s.0 path o depth e h) refl

  pub taken_declares_none : (s : State S × ℕ) (e : Refusal) → TakesNoName depth s.0 path e → NotDeclared accesses scope depth n s e
  taken_declares_none s e h = λ t place o at. declaring_stops t place o s e at h

  module _ (w : State S) (steps : ℕ) (e : Refusal) where
    name_stops : (x : Tree) (v : Value) (after : State S × ℕ) → GivesValue accesses scope depth x (w, steps) v after → TakesNoName depth after.0 path e → rule accesses (meaning accesses) (task scope depth (name_term n x)) (w, steps) ≡ (Err e, after)
    unfolding rule name_rule operand_value settle go_on ◌>>=◌
    name_stops x v after gives h = rw gives (declaring_stops (name_term n x) 0 (named.Data v) after e refl h)

    pub name_refused : (x : Tree) (v : Value) (after : State S × ℕ) → GivesValue accesses scope depth x (w, steps) v after → TakesNoName depth after.0 path e → IsRefused accesses scope depth (name_term n x) (w, suc steps) e after
    name_refused x v after gives h = (term_begins accesses (task scope depth (name_term n x))).paid w steps ∙ name_stops x v after gives h

    method_stops : (flags : ℕ) (body : List ℕ) → TakesNoName depth w path e → rule accesses (meaning accesses) (task scope depth (method_term n flags body)) (w, steps) ≡ (Err e, (w, steps))
    unfolding rule method_rule new_method settle lift go_on ◌>>=◌
    method_stops flags body h = rw (is, no_new_name w path (method_of (flags % 256) body) depth e h) refl

    pub method_refused : (flags : ℕ) (body : List ℕ) → TakesNoName depth w path e → IsRefused accesses scope depth (method_term n flags body) (w, suc steps) e (w, steps)
    method_refused flags body h = (term_begins accesses (task scope depth (method_term n flags body))).paid w steps ∙ method_stops flags body h

    alias_stops : (source : Name) (target : List Seg) (there : Entry) → found w.names.map scope source ≡ Ok (target, there) → TakesNoName depth w path e → rule accesses (meaning accesses) (task scope depth (alias_term source n)) (w, steps) ≡ (Err e, (w, steps))
    unfolding rule alias_rule path_found settle lift go_on ◌>>=◌
    alias_stops source target there finds h = rw (finds, is, no_new_name w path (named.Alias target) depth e h) refl

    pub alias_refused : (source : Name) (target : List Seg) (there : Entry) → found w.names.map scope source ≡ Ok (target, there) → TakesNoName depth w path e → IsRefused accesses scope depth (alias_term source n) (w, suc steps) e (w, steps)
    alias_refused source target there finds h = (term_begins accesses (task scope depth (alias_term source n))).paid w steps ∙ alias_stops source target there finds h

    mutex_stops : (level : ℕ) → TakesNoName depth w path e → rule accesses (meaning accesses) (task scope depth (mutex_term n level)) (w, steps) ≡ (Err e, (w, steps))
    unfolding rule
    mutex_stops level h = declaring_stops (mutex_term n level) 0 (named.Mutex 0) (w, steps) e refl h

    pub mutex_refused : (level : ℕ) → TakesNoName depth w path e → IsRefused accesses scope depth (mutex_term n level) (w, suc steps) e (w, steps)
    mutex_refused level h = (term_begins accesses (task scope depth (mutex_term n level))).paid w steps ∙ mutex_stops level h

    event_stops : TakesNoName depth w path e → rule accesses (meaning accesses) (task scope depth (event_term n)) (w, steps) ≡ (Err e, (w, steps))
    unfolding rule
    event_stops h = declaring_stops (event_term n) 0 (named.Event 0) (w, steps) e refl h

    pub event_refused : TakesNoName depth w path e → IsRefused accesses scope depth (event_term n) (w, suc steps) e (w, steps)
    event_refused h = (term_begins accesses (task scope depth (event_term n))).paid w steps ∙ event_stops h

    new_scope_stops : (o : NamedObject) (i : ℕ) (t : Tree) → name_of (operand_of t 0) ≡ Ok n → TakesNoName depth w path e → new_scope (meaning accesses) o i scope depth t (w, steps) ≡ (Err e, (w, steps))
    unfolding new_scope settle lift go_on ◌>>=◌
    new_scope_stops o i t at h = rw (at, is, no_new_name w path o depth e h) refl

    pub scope_refused : (code : Opcode) (o : NamedObject) (i : ℕ) (t : Tree) → DeclaresScope code o i → code_of t ≡ codes.Opcode code → name_of (operand_of t 0) ≡ Ok n → TakesNoName depth w path e → IsRefused accesses scope depth t (w, suc steps) e (w, steps)
    scope_refused code o i t declares coded at h = (term_begins accesses (task scope depth t)).paid w steps ∙ (scope_ruled accesses scope depth (w, steps) code o i t declares coded ∙ new_scope_stops o i t at h)

-- ---- aliases of nothing

module _ {S : Type 0} (accesses : Accesses S) (scope : List Seg) (depth : ℕ) (source n : Name) (w : State S) (steps : ℕ) (e : Refusal) (none : found w.names.map scope source ≡ Err e) where
  no_source_stops : rule accesses (meaning accesses) (task scope depth (alias_term source n)) (w, steps) ≡ (Err e, (w, steps))
  unfolding rule alias_rule path_found settle lift go_on ◌>>=◌
  no_source_stops = rw none refl

  pub alias_of_none_refused : IsRefused accesses scope depth (alias_term source n) (w, suc steps) e (w, steps)
  alias_of_none_refused = (term_begins accesses (task scope depth (alias_term source n))).paid w steps ∙ no_source_stops
