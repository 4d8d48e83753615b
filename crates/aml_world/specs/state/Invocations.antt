-- What names are where values stand, and calls of control methods (ACPI 6.5, 5.5.2 and 20.2.5: MethodInvocation).
use Rattle.std.specs.Prelude.{ℕ, List, ◌++◌, map, true, false, Option, Some, None, Ok, Err, nat_lt, if◌then◌else◌}
use Rattle.std.specs.List.{filter}
use Rattle.std.specs.FinMap.{get, entries}
use Rattle.ar_space.specs.declared.refusal.Refusal.TheVariants as refusal
use Rattle.ar_space.specs.declared.refusal.EvaluationFault.TheVariants.{CallDepth, DepthSetting}
use Rattle.ar_space.specs.Outcome.{Outcome, seen}
use Rattle.ar_space.specs.Change.{Change, settle, ◌>>=◌}
use Rattle.aml_path.specs.declared.segment.Seg.{Seg}
use Rattle.aml_path.specs.Paths.{Name}
use Rattle.aml_arities.specs.declared.arities.Arity.{Arity}
use Rattle.aml_grammar.specs.Grammar.{reading_within}
use Rattle.aml_grammar.specs.Shape.{trees_of}
use Rattle.aml_grammar.specs.Tree.{Trees}
use Rattle.aml_objects.specs.declared.value.Value.{Value}
use Rattle.aml_objects.specs.declared.value.Value.TheVariants as value
use Rattle.aml_objects.specs.declared.value.Reference.TheVariants as reference
use Rattle.aml_objects.specs.declared.entry.Entry.{Entry}
use Rattle.aml_objects.specs.declared.entry.Field.TheVariants as field
use Rattle.aml_objects.specs.declared.entry.NamedObject.{NamedObject}
use Rattle.aml_objects.specs.declared.entry.NamedObject.TheVariants as object
use Rattle.aml_objects.specs.declared.entry.MethodBody.{MethodBody}
use Rattle.aml_objects.specs.declared.entry.MethodBody.TheVariants.{Osi, Aml}
use Rattle.aml_objects.specs.Methods.{arguments_taken}
use Rattle.aml_namespace.specs.Namespace.{Map, without_below}
use Rattle.aml_namespace.specs.Search.{found}
use Rattle.aml_world.specs.declared.state.invocation.Invocation.{Invocation}
use Rattle.aml_world.specs.declared.state.invocation.Invocation.TheVariants as invocation
use Rattle.aml_world.specs.state.State.{State}
use Rattle.aml_world.specs.state.Slots.{closed}
use Rattle.aml_world.specs.state.Readings.{arguments_of, arguments_found, as_many, read_as}

-- ---- what a name is where a value stands

abbrev pub invocation_of_body : List Seg → MethodBody → Outcome Invocation
invocation_of_body p Osi = Ok invocation.Osi
invocation_of_body p (Aml body) = Ok (invocation.Method p body)

-- the value that it holds, the bits of a field, a call of a control method, or else a reference to it
abbrev pub invocation_of_object : List Seg → ℕ → NamedObject → Outcome Invocation
invocation_of_object p n (object.Data v) = Ok (invocation.Value (read_as n v))
invocation_of_object p n (object.Method m) = invocation_of_body p m.body
invocation_of_object p n (object.FieldUnit u) = Ok (invocation.Field (field.Unit u))
invocation_of_object p n (object.BufferField b) = Ok (invocation.Field (field.Buffer b))
invocation_of_object p n object.Scope = Ok (invocation.Value (value.Reference (reference.Name n)))
invocation_of_object p n object.Device = Ok (invocation.Value (value.Reference (reference.Name n)))
invocation_of_object p n object.Processor = Ok (invocation.Value (value.Reference (reference.Name n)))
invocation_of_object p n object.PowerResource = Ok (invocation.Value (value.Reference (reference.Name n)))
invocation_of_object p n object.ThermalZone = Ok (invocation.Value (value.Reference (reference.Name n)))
invocation_of_object p n (object.OperationRegion r) = Ok (invocation.Value (value.Reference (reference.Name n)))
invocation_of_object p n (object.Mutex c) = Ok (invocation.Value (value.Reference (reference.Name n)))
invocation_of_object p n (object.Event c) = Ok (invocation.Value (value.Reference (reference.Name n)))
invocation_of_object p n (object.Alias q) = Ok (invocation.Value (value.Reference (reference.Name n)))

abbrev pub invocation_of : Outcome (List Seg × Entry) → Outcome Invocation
invocation_of (Ok e) = invocation_of_object e.0 e.1.number e.1.object
invocation_of (Err e) = Err e

unfoldable pub named_use : {S : Type 0} → List Seg → Name → Change (State S) Invocation
named_use scope n w = (invocation_of (found w.names.map scope n), w)

-- the same, where the name stands with so many arguments
unfoldable pub invocation_found : {S : Type 0} → List Seg → Name → ℕ → Change (State S) Invocation
invocation_found scope n count = do
  wanted ← arguments_found scope n
  many ← settle (as_many wanted count)
  named_use scope n

-- what a name finds, used with so many arguments
unfoldable pub use_found : {S : Type 0} → List Seg × Entry → ℕ → Change (State S) Invocation
use_found f count = do
  many ← settle (as_many (arguments_of f.1.object) count)
  settle (invocation_of_object f.0 f.1.number f.1.object)

-- ---- the body of a control method, which is read at each call, within the levels that are allowed

-- how many arguments what stands at a path takes; an alias takes those of its target
abbrev pub count_of_entry : Option Entry → ℕ
count_of_entry None = 0
count_of_entry (Some e) = arguments_of e.object

abbrev pub count_through : Map → NamedObject → ℕ
count_through names (object.Alias p) = count_of_entry (get names p)
count_through names (object.Method m) = arguments_taken m.flags
count_through names _ = 0

abbrev pub arity_of_entry : Map → List Seg × Entry → Arity
arity_of_entry names e = record { path = e.0; count = count_through names e.1.object; external = false }

-- in a body the names that stand take arguments, and those of which an External told
abbrev pub arities_in : Map → List Arity → List Arity
arities_in names told = map (arity_of_entry names) (entries names) ++ filter (λ a. a.external) told

abbrev pub body_arities : {S : Type 0} → State S → List Arity
body_arities w = arities_in w.names.map w.arities

unfoldable pub body_terms : {S : Type 0} → List Seg → List ℕ → Change (State S) Trees
body_terms p body w = (seen trees_of (reading_within w.nesting.levels body p true (body_arities w)), w)

-- ---- calls

-- at most 32 calls one inside another, and no more than a setting allows; depth: how many control methods are being called
abbrev pub call_allowed_within : ℕ → ℕ → Outcome (Unit {0})
call_allowed_within calls depth = if nat_lt depth 32 then (if nat_lt depth calls then Ok tt else Err (refusal.Evaluation DepthSetting)) else Err (refusal.Evaluation CallDepth)

unfoldable pub call_allowed : {S : Type 0} → ℕ → Change (State S) (Unit {0})
call_allowed depth w = (call_allowed_within w.nesting.calls depth, w)

-- however the body ended, its frame ends, and the names below the control method are removed
abbrev pub left : {S : Type 0} → List Seg → State S → State S
left p w = record (closed w) { names = without_below p w.names }
