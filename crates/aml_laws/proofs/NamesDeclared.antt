-- Terms that declare names leave at their paths what they say.
use Rattle.std.specs.Prelude.{◌≡◌, ◌<◌, ◌-◌, ◌^◌, ◌%◌, ◌==◌, ℕ, zero, suc, false, List, Some, Ok, refl}
use Rattle.std.proofs.Common.{arith, ◌∙◌}
use Rattle.std.proofs.lemmas.Bool.Decides.{nat_tests}
use Rattle.ar_space.specs.Accesses.{Accesses}
use Rattle.ar_space.specs.Change.{give, settle, go_on, ◌>>=◌}
use Rattle.aml_path.specs.declared.segment.Seg.{Seg}
use Rattle.aml_path.specs.Paths.{Name, resolved}
use Rattle.aml_grammar.specs.Apart.{operand_of}
use Rattle.aml_grammar.specs.Tree.{Tree, Parts, name}
use Rattle.aml_grammar.specs.declared.opcode.Opcode.TheVariants as opcodes
use Rattle.aml_objects.specs.declared.entry.Entry.{Entry}
use Rattle.aml_objects.specs.declared.entry.Method.{Method}
use Rattle.aml_objects.specs.declared.entry.NamedObject.{NamedObject}
use Rattle.aml_objects.specs.declared.entry.NamedObject.TheVariants as named
use Rattle.aml_objects.specs.declared.value.Value.{Value}
use Rattle.aml_namespace.specs.Namespace.{declared}
use Rattle.aml_namespace.specs.Search.{found}
use Rattle.aml_world.specs.state.State.{State, on_names}
use Rattle.aml_world.specs.state.Run.{lift}
use Rattle.aml_world.specs.state.Readings.{path_found}
use Rattle.aml_world.specs.state.Declaring.{no_method, not_in_method, new_name, new_method}
use Rattle.aml_meaning.specs.declared.flow.Flow.TheVariants as flow
use Rattle.aml_meaning.specs.Tasks.{task, module_level, operand_value}
use Rattle.aml_meaning.specs.DeclarationTerms.{declaring, name_rule, alias_rule, method_rule}
use Rattle.aml_meaning.specs.Evaluation.{rule}
use Rattle.aml_meaning.specs.Meaning.{meaning}
use Rattle.aml_laws.specs.OperatorTerms.{of_opcode, GivesValue}
use Rattle.aml_laws.specs.ObjectTerms.{Passes}
use Rattle.aml_laws.specs.DeclaredObjects.{name_term, method_term, alias_term, mutex_term, event_term, method_of, IsFree, with_name}
use Rattle.aml_laws.proofs.TreesCost.{term_begins}

pub no_method_so : (o : NamedObject) → ((m : Method) → o ≡ named.Method m → ⊥) → no_method o ≡ Ok tt
no_method_so (named.Method m) h = absurd (h m refl)
no_method_so (named.Data v) h = refl
no_method_so named.Scope h = refl
no_method_so named.Device h = refl
no_method_so named.Processor h = refl
no_method_so named.PowerResource h = refl
no_method_so named.ThermalZone h = refl
no_method_so (named.OperationRegion r) h = refl
no_method_so (named.FieldUnit u) h = refl
no_method_so (named.BufferField b) h = refl
no_method_so (named.Mutex n) h = refl
no_method_so (named.Event n) h = refl
no_method_so (named.Alias p) h = refl

module _ {S : Type 0} (w : State S) (path : List Seg) (o : NamedObject) where
  outside : (depth : ℕ) → IsFree depth w path → not_in_method (module_level depth) path w ≡ (Ok tt, w)
  unfolding not_in_method
  outside zero h = rw (h.stands, no_method_so h.parent.object (h.outside refl)) refl
  outside (suc n) h = let inside : module_level (suc n) ≡ false = grind (arith, nat_tests) in rw inside refl

  put_there : (depth : ℕ) → IsFree depth w path → on_names (declared path o) w ≡ (Ok w.names.next, with_name w path o)
  unfolding on_names declared
  put_there depth h = let room : (w.names.next == 2 ^ 64 - 1) ≡ false = less_differs w.names.next (2 ^ 64 - 1) h.room in rw (h.stands, h.free, room) refl
    where
      less_differs : (n k : ℕ) → n < k → (n == k) ≡ false
      less_differs n k less = grind (arith, nat_tests)

  pub new_name_so : (depth : ℕ) → IsFree depth w path → new_name (module_level depth) path o w ≡ (Ok w.names.next, with_name w path o)
  unfolding new_name go_on ◌>>=◌
  new_name_so depth h = rw (outside depth h, put_there depth h) refl

module _ {S : Type 0} (accesses : Accesses S) (scope : List Seg) (depth : ℕ) (n : Name) (path : List Seg) (is : resolved n scope ≡ Ok path) where
  pub declaring_so : (t : Tree) (place : ℕ) (o : NamedObject) (s : State S × ℕ) → operand_of t place ≡ Some (name n) → IsFree depth s.0 path → declaring (meaning accesses) scope depth t place o s ≡ (Ok flow.Next, (with_name s.0 path o, s.1))
  unfolding declaring settle lift give go_on ◌>>=◌
  declaring_so t place o s at h = rw (at, is, new_name_so s.0 path o depth h) refl

  module _ (w : State S) (steps : ℕ) where
    named_so : (x : Tree) (v : Value) (after : State S × ℕ) → GivesValue accesses scope depth x (w, steps) v after → IsFree depth after.0 path
        → rule accesses (meaning accesses) (task scope depth (name_term n x)) (w, steps) ≡ (Ok flow.Next, (with_name after.0 path (named.Data v), after.1))
    unfolding rule name_rule operand_value settle go_on ◌>>=◌
    named_so x v after gives h = rw gives (declaring_so (name_term n x) 0 (named.Data v) after refl h)

    pub name_declares : (x : Tree) (v : Value) (after : State S × ℕ) → GivesValue accesses scope depth x (w, steps) v after → IsFree depth after.0 path → Passes accesses scope depth (name_term n x) (w, suc steps) (with_name after.0 path (named.Data v), after.1)
    name_declares x v after gives h = (term_begins accesses (task scope depth (name_term n x))).paid w steps ∙ named_so x v after gives h

    method_so : (flags : ℕ) (body : List ℕ) → flags < 256 → IsFree depth w path → rule accesses (meaning accesses) (task scope depth (method_term n flags body)) (w, steps) ≡ (Ok flow.Next, (with_name w path (method_of flags body), steps))
    unfolding rule method_rule new_method settle lift give go_on ◌>>=◌
    method_so flags body less h = let byte : flags % 256 ≡ flags = omega arith in rw (is, byte, new_name_so w path (method_of flags body) depth h) refl

    pub method_declares : (flags : ℕ) (body : List ℕ) → flags < 256 → IsFree depth w path → Passes accesses scope depth (method_term n flags body) (w, suc steps) (with_name w path (method_of flags body), steps)
    method_declares flags body less h = (term_begins accesses (task scope depth (method_term n flags body))).paid w steps ∙ method_so flags body less h

    alias_so : (source : Name) (target : List Seg) (e : Entry) → found w.names.map scope source ≡ Ok (target, e) → IsFree depth w path
        → rule accesses (meaning accesses) (task scope depth (alias_term source n)) (w, steps) ≡ (Ok flow.Next, (with_name w path (named.Alias target), steps))
    unfolding rule alias_rule path_found settle lift give go_on ◌>>=◌
    alias_so source target e finds h = rw (finds, is, new_name_so w path (named.Alias target) depth h) refl

    pub alias_declares : (source : Name) (target : List Seg) (e : Entry) → found w.names.map scope source ≡ Ok (target, e) → IsFree depth w path → Passes accesses scope depth (alias_term source n) (w, suc steps) (with_name w path (named.Alias target), steps)
    alias_declares source target e finds h = (term_begins accesses (task scope depth (alias_term source n))).paid w steps ∙ alias_so source target e finds h

    mutex_so : (level : ℕ) → IsFree depth w path → rule accesses (meaning accesses) (task scope depth (mutex_term n level)) (w, steps) ≡ (Ok flow.Next, (with_name w path (named.Mutex 0), steps))
    unfolding rule
    mutex_so level h = declaring_so (mutex_term n level) 0 (named.Mutex 0) (w, steps) refl h

    event_so : IsFree depth w path → rule accesses (meaning accesses) (task scope depth (event_term n)) (w, steps) ≡ (Ok flow.Next, (with_name w path (named.Event 0), steps))
    unfolding rule
    event_so h = declaring_so (event_term n) 0 (named.Event 0) (w, steps) refl h

    pub mutex_declares : (level : ℕ) → IsFree depth w path → Passes accesses scope depth (mutex_term n level) (w, suc steps) (with_name w path (named.Mutex 0), steps)
    mutex_declares level h = (term_begins accesses (task scope depth (mutex_term n level))).paid w steps ∙ mutex_so level h

    pub event_declares : IsFree depth w path → Passes accesses scope depth (event_term n) (w, suc steps) (with_name w path (named.Event 0), steps)
    event_declares h = (term_begins accesses (task scope depth (event_term n))).paid w steps ∙ event_so h

pub external_passes : {S : Type 0} (accesses : Accesses S) (scope : List Seg) (depth : ℕ) (operands : Parts) (w : State S) (steps : ℕ) → Passes accesses scope depth (of_opcode opcodes.External operands) (w, suc steps) (w, steps)
unfolding rule give
external_passes accesses scope depth operands w steps = (term_begins accesses (task scope depth (of_opcode opcodes.External operands))).paid w steps
