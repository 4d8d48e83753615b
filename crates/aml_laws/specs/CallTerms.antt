-- Terms that call control methods, and the arguments with which they are called (ACPI 6.5, 5.5.2.3 and 20.2.5: MethodInvocation).
use Rattle.std.specs.Prelude.{◌≡◌, ℕ, List, [], ◌∷◌, Ok}
use Rattle.ar_space.specs.Accesses.{Accesses}
use Rattle.aml_path.specs.declared.segment.Seg.{Seg}
use Rattle.aml_path.specs.Paths.{Name}
use Rattle.aml_grammar.specs.declared.opcode.TermCode.TheVariants as codes
use Rattle.aml_grammar.specs.Shape.{trees_of}
use Rattle.aml_grammar.specs.Tree.{Tree, term, name, list, no_parts, part}
use Rattle.aml_objects.specs.declared.entry.Entry.{Entry}
use Rattle.aml_objects.specs.declared.entry.Method.{Method}
use Rattle.aml_objects.specs.declared.entry.MethodBody.TheVariants.{Aml}
use Rattle.aml_objects.specs.declared.entry.NamedObject.{NamedObject}
use Rattle.aml_objects.specs.declared.entry.NamedObject.TheVariants as named
use Rattle.aml_objects.specs.declared.value.Value.{Value}
use Rattle.aml_world.specs.state.Given.{Given}
use Rattle.aml_world.specs.state.Importing.{imported}
use Rattle.aml_world.specs.state.State.{State}
use Rattle.aml_laws.specs.OperatorTerms.{GivesValue}

-- a name with arguments
abbrev pub call_of : Name → List Tree → Tree
call_of n xs = term codes.MethodInvocation (part (name n) (part (list (trees_of xs)) no_parts))

-- the declaration of a control method, by its flags and the bytes of its body
abbrev pub method_entry : ℕ → ℕ → List ℕ → Entry
method_entry number flags body = record { number = number; object = named.Method (record { flags = record { byte = flags }; body = Aml body }) }

-- an object is no control method
abbrev pub IsNoMethod : NamedObject → Type 0
IsNoMethod o = (m : Method) → o ≡ named.Method m → ⊥

-- Terms give values, one after another from the first on: each in the world and with the steps that the one before it left.
pub data GiveInTurn {S : Type 0} (accesses : Accesses S) (scope : List Seg) (depth : ℕ) : List Tree → State S × ℕ → List Value → State S × ℕ → Type 0 where
  no_term : (s : State S × ℕ) → GiveInTurn accesses scope depth [] s [] s
  first_term : (x : Tree) (xs : List Tree) (v : Value) (vs : List Value) (s between after : State S × ℕ) → GivesValue accesses scope depth x s v between → GiveInTurn accesses scope depth xs between vs after → GiveInTurn accesses scope depth (x ∷ xs) s (v ∷ vs) after

-- Data is handed in, one after another from the first on.
pub data HandedInTurn {S : Type 0} : List Given → State S → List Value → State S → Type 0 where
  no_data : (w : State S) → HandedInTurn [] w [] w
  first_data : (g : Given) (gs : List Given) (v : Value) (vs : List Value) (w between after : State S) → imported g w ≡ (Ok v, between) → HandedInTurn gs between vs after → HandedInTurn (g ∷ gs) w (v ∷ vs) after
