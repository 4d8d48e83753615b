-- The lists within terms are evaluated in turn, as deep in calls as the term itself, and what ends the term.
use Rattle.std.specs.Prelude.{◌≡◌, ◌<◌, ℕ, suc, List, true, false, Option, Some, None, Ok, Err, refl}
use Rattle.std.proofs.Common.{arith, ap, sym, ◌∙◌}
use Rattle.std.proofs.lemmas.Bool.Decides.{nat_tests}
use Rattle.ar_space.specs.declared.refusal.Refusal.{Refusal}
use Rattle.ar_space.specs.declared.refusal.Refusal.TheVariants as refusal
use Rattle.ar_space.specs.declared.refusal.ValueFault.TheVariants.{WrongType}
use Rattle.ar_space.specs.Accesses.{Accesses}
use Rattle.ar_space.specs.Outcome.{Outcome}
use Rattle.ar_space.specs.Change.{give, settle, go_on, ◌>>=◌}
use Rattle.aml_path.specs.declared.segment.Seg.{Seg}
use Rattle.aml_path.specs.Paths.{Name, resolved}
use Rattle.aml_grammar.specs.declared.opcode.Opcode.{Opcode}
use Rattle.aml_grammar.specs.declared.opcode.Opcode.TheVariants as opcodes
use Rattle.aml_grammar.specs.declared.opcode.TermCode.TheVariants as codes
use Rattle.aml_grammar.specs.Tree.{Tree, Trees, Part, null, name, number as a_number, bytes, inner, list}
use Rattle.aml_grammar.specs.Apart.{code_of, operand_of, name_of}
use Rattle.aml_objects.specs.declared.entry.Entry.{Entry}
use Rattle.aml_objects.specs.declared.entry.NamedObject.{NamedObject}
use Rattle.aml_objects.specs.declared.entry.NamedObject.TheVariants as objects
use Rattle.aml_objects.specs.declared.value.Value.{Value}
use Rattle.aml_convert.specs.Operators.{is_true}
use Rattle.aml_namespace.specs.Search.{found}
use Rattle.aml_world.specs.state.Run.{Run, lift}
use Rattle.aml_world.specs.state.State.{State}
use Rattle.aml_world.specs.state.Readings.{entry_found, path_found, is_scope, scope_found}
use Rattle.aml_world.specs.state.Declaring.{new_name}
use Rattle.aml_meaning.specs.declared.flow.Flow.{Flow}
use Rattle.aml_meaning.specs.declared.flow.Flow.TheVariants as flow
use Rattle.aml_meaning.specs.Evaluation.{rule}
use Rattle.aml_meaning.specs.Meaning.{meaning}
use Rattle.aml_meaning.specs.Tasks.{Task, task, module_level, operand_value, operand_integer, in_turn}
use Rattle.aml_meaning.specs.Terms.{else_of}
use Rattle.aml_meaning.specs.DeclarationTerms.{scope_rule, new_scope}
use Rattle.aml_meaning.specs.StatementTerms.{branch, if_rule, else_rule, while_rule, loop, turn, turn_of, after_turn, loop_end}
use Rattle.aml_meaning.proofs.Loops.{loop_is}
use Rattle.aml_laws.specs.InnerLists.{OpensScope, a_scope, a_device, a_processor, a_power_resource, a_thermal_zone, DeclaresScope, of_device, of_processor, of_power_resource, of_thermal_zone, Tests, Turns}
use Rattle.aml_laws.specs.OperatorTerms.{OneInteger}
use Rattle.aml_laws.proofs.TreesCost.{term_begins}

holds : (x : ℕ) → 0 < x → is_true x ≡ true
holds x some = grind (arith, nat_tests)

no_else : (o : Option Part) → ((e : Tree) → o ≡ Some (inner e) → ⊥) → else_of o ≡ None
no_else None none = refl
no_else (Some null) none = refl
no_else (Some (name n)) none = refl
no_else (Some (a_number n)) none = refl
no_else (Some (bytes bs)) none = refl
no_else (Some (inner e)) none = absurd (none e refl)
no_else (Some (list ts)) none = refl

opens_scope : (o : NamedObject) → OpensScope o → is_scope o ≡ true
opens_scope _ a_scope = refl
opens_scope _ a_device = refl
opens_scope _ a_processor = refl
opens_scope _ a_power_resource = refl
opens_scope _ a_thermal_zone = refl

opens_none : (o : NamedObject) → (OpensScope o → ⊥) → is_scope o ≡ false
opens_none objects.Scope h = absurd (h a_scope)
opens_none objects.Device h = absurd (h a_device)
opens_none objects.Processor h = absurd (h a_processor)
opens_none objects.PowerResource h = absurd (h a_power_resource)
opens_none objects.ThermalZone h = absurd (h a_thermal_zone)
opens_none (objects.Data v) h = refl
opens_none (objects.Method m) h = refl
opens_none (objects.OperationRegion r) h = refl
opens_none (objects.FieldUnit u) h = refl
opens_none (objects.BufferField b) h = refl
opens_none (objects.Mutex n) h = refl
opens_none (objects.Event n) h = refl
opens_none (objects.Alias p) h = refl

module _ {S : Type 0} (accesses : Accesses S) where
  abbrev ev : Task → Run S Flow
  ev = meaning accesses

  -- a term of one code is its rule, once its step is taken
  by_rule : (scope : List Seg) (depth : ℕ) (t : Tree) (w : State S) (steps : ℕ) → ev (task scope depth t) (w, suc steps) ≡ rule accesses ev (task scope depth t) (w, steps)
  by_rule scope depth t w steps = (term_begins accesses (task scope depth t)).paid w steps

  -- ---- conditions

  integer_given : (scope : List Seg) (depth : ℕ) (c : Tree) (s : State S × ℕ) (x : ℕ) (after : State S × ℕ) → OneInteger accesses scope depth c s x after → operand_integer ev scope depth c s ≡ (Ok x, after)
  unfolding operand_integer operand_value settle lift ◌>>=◌ go_on
  integer_given scope depth c s x after h = rw (h.gives, h.converts) refl

  module _ (scope : List Seg) (depth : ℕ) (t : Tree) (ts : Trees) (w : State S) (steps x : ℕ) (after : State S × ℕ) (h : Tests accesses scope depth opcodes.If t ts (w, steps) x after) where
    if_begins : ev (task scope depth t) (w, suc steps) ≡ branch ev scope depth ts (else_of (operand_of t 2)) (is_true x) after
    unfolding rule if_rule settle ◌>>=◌ go_on
    if_begins = by_rule scope depth t w steps ∙ rw (h.code, h.first, h.second, integer_given scope depth h.condition (w, steps) x after h.gives) refl

    pub if_true : 0 < x → ev (task scope depth t) (w, suc steps) ≡ in_turn ev scope depth ts after
    if_true some = if_begins ∙ ap (λ b. branch ev scope depth ts (else_of (operand_of t 2)) b after) (holds x some)

  module _ (scope : List Seg) (depth : ℕ) (t : Tree) (ts : Trees) (w : State S) (steps : ℕ) (after : State S × ℕ) (h : Tests accesses scope depth opcodes.If t ts (w, steps) 0 after) where
    if_false : (o : Option Tree) → else_of (operand_of t 2) ≡ o → ev (task scope depth t) (w, suc steps) ≡ branch ev scope depth ts o false after
    if_false o others = if_begins scope depth t ts w steps 0 after h ∙ ap (λ o. branch ev scope depth ts o false after) others

    pub if_else : (e : Tree) → operand_of t 2 ≡ Some (inner e) → ev (task scope depth t) (w, suc steps) ≡ ev (task scope depth e) after
    if_else e others = if_false (Some e) (ap else_of others)

    pub if_alone : ((e : Tree) → operand_of t 2 ≡ Some (inner e) → ⊥) → ev (task scope depth t) (w, suc steps) ≡ (Ok flow.Next, after)
    unfolding give
    if_alone none = if_false None (no_else (operand_of t 2) none)

  pub else_list : (scope : List Seg) (depth : ℕ) (t : Tree) (ts : Trees) (w : State S) (steps : ℕ) → code_of t ≡ codes.Opcode opcodes.Else → operand_of t 0 ≡ Some (list ts) → ev (task scope depth t) (w, suc steps) ≡ in_turn ev scope depth ts (w, steps)
  unfolding rule else_rule settle ◌>>=◌ go_on
  else_list scope depth t ts w steps code items = by_rule scope depth t w steps ∙ rw (code, items) refl

  -- ---- loops

  module _ (scope : List Seg) (depth : ℕ) (t c : Tree) (ts : Trees) (code : code_of t ≡ codes.Opcode opcodes.While) (condition : operand_of t 0 ≡ Some (inner c)) (items : operand_of t 1 ≡ Some (list ts)) where
    while_is : (w : State S) (steps : ℕ) → ev (task scope depth t) (w, suc steps) ≡ loop ev scope depth c ts (w, steps)
    unfolding rule while_rule settle ◌>>=◌ go_on
    while_is w steps = by_rule scope depth t w steps ∙ rw (code, condition, items) refl

    module _ (w : State S) (steps x : ℕ) (after : State S × ℕ) (is : operand_integer ev scope depth c (w, steps) ≡ (Ok x, after)) where
      abbrev behind_turn : Outcome Flow × (State S × ℕ) → Outcome Flow × (State S × ℕ)
      behind_turn r = go_on r.0 r.1 (λ f. after_turn ev (loop_end f) (loop ev scope depth c ts))

      turn_is : turn ev scope depth c ts (w, steps) ≡ turn_of ev scope depth ts (is_true x) after
      unfolding turn ◌>>=◌ go_on
      turn_is = rw is refl

      turn_begins : ev (task scope depth t) (w, suc steps) ≡ behind_turn (turn_of ev scope depth ts (is_true x) after)
      unfolding ◌>>=◌
      turn_begins = while_is w steps ∙ loop_is accesses scope depth c ts (w, steps) ∙ ap behind_turn turn_is

      turn_ends : is_true x ≡ true → (r : Outcome Flow) (end : State S × ℕ) → in_turn ev scope depth ts after ≡ (r, end) → ev (task scope depth t) (w, suc steps) ≡ behind_turn (r, end)
      turn_ends holds r end done = turn_begins ∙ ap (λ b. behind_turn (turn_of ev scope depth ts b after)) holds ∙ ap behind_turn done

  module _ (scope : List Seg) (depth : ℕ) (t : Tree) (w : State S) (steps : ℕ) where
    behind : (r : Outcome Flow) (end : State S × ℕ) (h : Turns accesses scope depth t (w, steps) r end) → ev (task scope depth t) (w, suc steps) ≡ go_on r end (λ f. after_turn ev (loop_end f) (loop ev scope depth h.tests.condition h.items))
    behind r end h =
        let is = integer_given scope depth h.tests.condition (w, steps) h.x h.after h.tests.gives in
        turn_ends scope depth t h.tests.condition h.items h.tests.code h.tests.first h.tests.second w steps h.x h.after is (holds h.x h.holds) r end h.comes_to

    pub loop_refused : (e : Refusal) (end : State S × ℕ) → Turns accesses scope depth t (w, steps) (Err e) end → ev (task scope depth t) (w, suc steps) ≡ (Err e, end)
    unfolding go_on
    loop_refused e end h = behind (Err e) end h

    pub loop_broken : (end : State S × ℕ) → Turns accesses scope depth t (w, steps) (Ok flow.Break) end → ev (task scope depth t) (w, suc steps) ≡ (Ok flow.Next, end)
    unfolding go_on give
    loop_broken end h = behind (Ok flow.Break) end h

    pub loop_returned : (v : Value) (end : State S × ℕ) → Turns accesses scope depth t (w, steps) (Ok (flow.Return v)) end → ev (task scope depth t) (w, suc steps) ≡ (Ok (flow.Return v), end)
    unfolding go_on give
    loop_returned v end h = behind (Ok (flow.Return v)) end h

    again : (r : Outcome Flow) (u : State S) (left : ℕ) (h : Turns accesses scope depth t (w, steps) r (u, left)) → loop ev scope depth h.tests.condition h.items (u, left) ≡ ev (task scope depth t) (u, suc left)
    again r u left h = sym (while_is scope depth t h.tests.condition h.items h.tests.code h.tests.first h.tests.second u left)

    pub loop_goes_on : (u : State S) (left : ℕ) → Turns accesses scope depth t (w, steps) (Ok flow.Next) (u, left) → ev (task scope depth t) (w, suc steps) ≡ ev (task scope depth t) (u, suc left)
    unfolding go_on
    loop_goes_on u left h = behind (Ok flow.Next) (u, left) h ∙ again (Ok flow.Next) u left h

    pub loop_continued : (u : State S) (left : ℕ) → Turns accesses scope depth t (w, steps) (Ok flow.Continue) (u, left) → ev (task scope depth t) (w, suc steps) ≡ ev (task scope depth t) (u, suc left)
    unfolding go_on
    loop_continued u left h = behind (Ok flow.Continue) (u, left) h ∙ again (Ok flow.Continue) u left h

    pub loop_is_over : (ts : Trees) (after : State S × ℕ) → Tests accesses scope depth opcodes.While t ts (w, steps) 0 after → ev (task scope depth t) (w, suc steps) ≡ (Ok flow.Next, after)
    unfolding go_on give
    loop_is_over ts after h = turn_begins scope depth t h.condition ts h.code h.first h.second w steps 0 after (integer_given scope depth h.condition (w, steps) 0 after h.gives)

  -- ---- scopes

  scope_there : (scope p : List Seg) (n : Name) (e : Entry) (w : State S) → found w.names.map scope n ≡ Ok (p, e) → OpensScope e.object → scope_found scope n w ≡ (Ok p, w)
  unfolding scope_found entry_found path_found settle ◌>>=◌ go_on
  scope_there scope p n e w finds h = rw (finds, opens_scope e.object h, finds) refl

  other_there : (scope p : List Seg) (n : Name) (e : Entry) (w : State S) → found w.names.map scope n ≡ Ok (p, e) → (OpensScope e.object → ⊥) → scope_found scope n w ≡ (Err (refusal.Value WrongType), w)
  unfolding scope_found entry_found settle ◌>>=◌ go_on
  other_there scope p n e w finds h = rw (finds, opens_none e.object h) refl

  none_there : (scope : List Seg) (n : Name) (e : Refusal) (w : State S) → found w.names.map scope n ≡ Err e → scope_found scope n w ≡ (Err e, w)
  unfolding scope_found entry_found ◌>>=◌ go_on
  none_there scope n e w finds = rw finds refl

  module _ (scope : List Seg) (depth : ℕ) (t : Tree) (n : Name) (w : State S) (steps : ℕ) (code : code_of t ≡ codes.Opcode opcodes.Scope) (named : name_of (operand_of t 0) ≡ Ok n) where
    scope_goes : (p : List Seg) (ts : Trees) → operand_of t 1 ≡ Some (list ts) → scope_found scope n w ≡ (Ok p, w) → ev (task scope depth t) (w, suc steps) ≡ in_turn ev p depth ts (w, steps)
    unfolding rule scope_rule settle lift ◌>>=◌ go_on
    scope_goes p ts items finds = by_rule scope depth t w steps ∙ rw (code, named, finds, items) refl

    scope_stops : (e : Refusal) → scope_found scope n w ≡ (Err e, w) → ev (task scope depth t) (w, suc steps) ≡ (Err e, (w, steps))
    unfolding rule scope_rule settle lift ◌>>=◌ go_on
    scope_stops e none = by_rule scope depth t w steps ∙ rw (code, named, none) refl

  pub scope_list : (scope p : List Seg) (depth : ℕ) (t : Tree) (n : Name) (e : Entry) (ts : Trees) (w : State S) (steps : ℕ) → code_of t ≡ codes.Opcode opcodes.Scope → name_of (operand_of t 0) ≡ Ok n → operand_of t 1 ≡ Some (list ts) → found w.names.map scope n ≡ Ok (p, e) → OpensScope e.object
      → ev (task scope depth t) (w, suc steps) ≡ in_turn ev p depth ts (w, steps)
  scope_list scope p depth t n e ts w steps code named items finds h = scope_goes scope depth t n w steps code named p ts items (scope_there scope p n e w finds h)

  pub scope_of_other : (scope p : List Seg) (depth : ℕ) (t : Tree) (n : Name) (e : Entry) (w : State S) (steps : ℕ) → code_of t ≡ codes.Opcode opcodes.Scope → name_of (operand_of t 0) ≡ Ok n → found w.names.map scope n ≡ Ok (p, e) → (OpensScope e.object → ⊥)
      → ev (task scope depth t) (w, suc steps) ≡ (Err (refusal.Value WrongType), (w, steps))
  scope_of_other scope p depth t n e w steps code named finds h = scope_stops scope depth t n w steps code named (refusal.Value WrongType) (other_there scope p n e w finds h)

  pub scope_of_none : (scope : List Seg) (depth : ℕ) (t : Tree) (n : Name) (e : Refusal) (w : State S) (steps : ℕ) → code_of t ≡ codes.Opcode opcodes.Scope → name_of (operand_of t 0) ≡ Ok n → found w.names.map scope n ≡ Err e → ev (task scope depth t) (w, suc steps) ≡ (Err e, (w, steps))
  scope_of_none scope depth t n e w steps code named finds = scope_stops scope depth t n w steps code named e (none_there scope n e w finds)

  new_scope_list : (o : NamedObject) (i : ℕ) (scope p : List Seg) (depth : ℕ) (t : Tree) (n : Name) (ts : Trees) (w after : State S) (steps number : ℕ) → name_of (operand_of t 0) ≡ Ok n → resolved n scope ≡ Ok p → new_name (module_level depth) p o w ≡ (Ok number, after) → operand_of t i ≡ Some (list ts)
      → new_scope ev o i scope depth t (w, steps) ≡ in_turn ev p depth ts (after, steps)
  unfolding new_scope settle lift ◌>>=◌ go_on
  new_scope_list o i scope p depth t n ts w after steps number named path declared items = rw (named, path, declared, items) refl

  scope_rule_is : (code : Opcode) (o : NamedObject) (i : ℕ) (scope : List Seg) (depth : ℕ) (t : Tree) (s : State S × ℕ) → DeclaresScope code o i → code_of t ≡ codes.Opcode code → rule accesses ev (task scope depth t) s ≡ new_scope ev o i scope depth t s
  unfolding rule
  scope_rule_is code o i scope depth t s of_device is = rw is refl
  scope_rule_is code o i scope depth t s of_processor is = rw is refl
  scope_rule_is code o i scope depth t s of_power_resource is = rw is refl
  scope_rule_is code o i scope depth t s of_thermal_zone is = rw is refl

  pub declared_scope_list : (code : Opcode) (o : NamedObject) (i : ℕ) (scope p : List Seg) (depth : ℕ) (t : Tree) (n : Name) (ts : Trees) (w after : State S) (steps number : ℕ) → DeclaresScope code o i → code_of t ≡ codes.Opcode code → name_of (operand_of t 0) ≡ Ok n → resolved n scope ≡ Ok p → new_name (module_level depth) p o w ≡ (Ok number, after) → operand_of t i ≡ Some (list ts)
      → ev (task scope depth t) (w, suc steps) ≡ in_turn ev p depth ts (after, steps)
  declared_scope_list code o i scope p depth t n ts w after steps number declares is named path declared items =
      by_rule scope depth t w steps ∙ scope_rule_is code o i scope depth t (w, steps) declares is ∙ new_scope_list o i scope p depth t n ts w after steps number named path declared items
