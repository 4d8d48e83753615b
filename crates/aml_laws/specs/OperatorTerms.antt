-- Terms of operators, and what they give of their operands (ACPI 6.5, 19.6 and 20.2.5.4).
use Rattle.std.specs.Prelude.{◌≡◌, ◌≢◌, ◌<◌, ◌≤◌, ◌+◌, ◌-◌, ◌*◌, ◌^◌, ℕ, suc, List, length, slice_get, Some, Ok, Err}
use Rattle.std.specs.FinMap.{get}
use Rattle.std.specs.Int.{bit_at}
use Rattle.ar_space.specs.declared.integer_width.IntegerWidth.{IntegerWidth}
use Rattle.ar_space.specs.declared.refusal.Refusal.{Refusal}
use Rattle.ar_space.specs.Accesses.{Accesses}
use Rattle.aml_path.specs.declared.segment.Seg.{Seg}
use Rattle.aml_path.specs.Paths.{Name}
use Rattle.aml_grammar.specs.declared.opcode.Opcode.{Opcode}
use Rattle.aml_grammar.specs.declared.opcode.Opcode.TheVariants as opcodes
use Rattle.aml_grammar.specs.declared.opcode.TermCode.TheVariants as codes
use Rattle.aml_grammar.specs.Tree.{Tree, term, Part, null, name, inner, Parts, no_parts, part}
use Rattle.aml_objects.specs.declared.value.Slot.{Slot}
use Rattle.aml_objects.specs.declared.value.Slot.TheVariants as slots
use Rattle.aml_objects.specs.declared.value.Value.{Value}
use Rattle.aml_objects.specs.declared.value.Value.TheVariants as value
use Rattle.aml_objects.specs.declared.entry.Entry.{Entry}
use Rattle.aml_namespace.specs.Search.{found}
use Rattle.aml_world.specs.declared.state.frame.Frame.{Frame}
use Rattle.aml_world.specs.declared.values.store_target.StoreTarget.{StoreTarget}
use Rattle.aml_world.specs.declared.values.store_target.StoreTarget.TheVariants as targets
use Rattle.aml_world.specs.declared.values.store_target.Stored.TheVariants as store
use Rattle.aml_world.specs.state.State.{State}
use Rattle.aml_world.specs.state.Slots.{slot_in}
use Rattle.aml_world.specs.values.Stores.{stored}
use Rattle.aml_world.specs.state.Readings.{integer_in}
use Rattle.aml_meaning.specs.declared.flow.Flow.TheVariants as flow
use Rattle.aml_meaning.specs.Tasks.{task}
use Rattle.aml_meaning.specs.Meaning.{meaning}
use Rattle.aml_laws.specs.StoredNames.{data_entry}

-- ---- terms

-- a term with an opcode and these operands
abbrev pub of_opcode : Opcode → Parts → Tree
of_opcode op ps = term (codes.Opcode op) ps

-- an opcode alone
abbrev pub alone : Opcode → Tree
alone op = of_opcode op no_parts

-- one operand and two, without a target and with one
abbrev pub of_one : Opcode → Tree → Tree
of_one op x = of_opcode op (part (inner x) no_parts)

abbrev pub of_two : Opcode → Tree → Tree → Tree
of_two op x y = of_opcode op (part (inner x) (part (inner y) no_parts))

abbrev pub one_to : Opcode → Tree → Part → Tree
one_to op x p = of_opcode op (part (inner x) (part p no_parts))

abbrev pub two_to : Opcode → Tree → Tree → Part → Tree
two_to op x y p = of_opcode op (part (inner x) (part (inner y) (part p no_parts)))

-- ---- targets

-- the locals and the arguments
pub data NamesSlot : Opcode → Slot → Type 0 where
  local0 : NamesSlot opcodes.Local0 (slots.Local 0)
  local1 : NamesSlot opcodes.Local1 (slots.Local 1)
  local2 : NamesSlot opcodes.Local2 (slots.Local 2)
  local3 : NamesSlot opcodes.Local3 (slots.Local 3)
  local4 : NamesSlot opcodes.Local4 (slots.Local 4)
  local5 : NamesSlot opcodes.Local5 (slots.Local 5)
  local6 : NamesSlot opcodes.Local6 (slots.Local 6)
  local7 : NamesSlot opcodes.Local7 (slots.Local 7)
  argument0 : NamesSlot opcodes.Arg0 (slots.Argument 0)
  argument1 : NamesSlot opcodes.Arg1 (slots.Argument 1)
  argument2 : NamesSlot opcodes.Arg2 (slots.Argument 2)
  argument3 : NamesSlot opcodes.Arg3 (slots.Argument 3)
  argument4 : NamesSlot opcodes.Arg4 (slots.Argument 4)
  argument5 : NamesSlot opcodes.Arg5 (slots.Argument 5)
  argument6 : NamesSlot opcodes.Arg6 (slots.Argument 6)

-- what an operand names as a target: nothing, Debug, a local, an argument, or what a name finds in a world
pub data NamesTarget {S : Type 0} (scope : List Seg) (w : State S) : Part → StoreTarget → Type 0 where
  nothing : NamesTarget scope w null targets.Nowhere
  debug : NamesTarget scope w (inner (alone opcodes.Debug)) targets.Nowhere
  slot : (op : Opcode) (s : Slot) → NamesSlot op s → NamesTarget scope w (inner (alone op)) (targets.Slot s)
  named : (n : Name) (path : List Seg) (e : Entry) → found w.names.map scope n ≡ Ok (path, e) → NamesTarget scope w (name n) (targets.Name path)

-- a value is stored to the target that an operand names, which leaves another world
pub record StoresTo {S : Type 0} (scope : List Seg) (p : Part) (v : Value) (before after : State S) : Type 0 where
  pub target : StoreTarget
  pub names : NamesTarget scope before p target
  pub is : stored target v before ≡ (Ok store.Done, after)

-- ---- what terms give

module _ {S : Type 0} (accesses : Accesses S) (scope : List Seg) (depth : ℕ) where
  -- evaluated there, a term gives a value, an integer, or a refusal, and leaves another world and other steps
  abbrev pub GivesValue : Tree → State S × ℕ → Value → State S × ℕ → Type 0
  GivesValue t s v after = meaning accesses (task scope depth t) s ≡ (Ok (flow.Value v), after)

  abbrev pub Gives : Tree → State S × ℕ → ℕ → State S × ℕ → Type 0
  Gives t s n after = GivesValue t s (value.Integer n) after

  -- or it gives nothing, as a call of a control method that comes to its end
  abbrev pub GivesNothing : Tree → State S × ℕ → State S × ℕ → Type 0
  GivesNothing t s after = meaning accesses (task scope depth t) s ≡ (Ok flow.Next, after)

  abbrev pub IsRefused : Tree → State S × ℕ → Refusal → State S × ℕ → Type 0
  IsRefused t s e after = meaning accesses (task scope depth t) s ≡ (Err e, after)

  -- an operand gives a value that converts to an integer
  pub record OneInteger (x : Tree) (s : State S × ℕ) (a : ℕ) (after : State S × ℕ) : Type 0 where
    pub v : Value
    pub gives : GivesValue x s v after
    pub converts : integer_in v after.0 ≡ (Ok a, after.0)

  -- two operands give values, the first one before the second, that convert to integers then
  pub record TwoIntegers (x y : Tree) (s : State S × ℕ) (a b : ℕ) (after : State S × ℕ) : Type 0 where
    pub between : State S × ℕ
    pub v : Value
    pub u : Value
    pub first : GivesValue x s v between
    pub second : GivesValue y between u after
    pub one : integer_in v after.0 ≡ (Ok a, after.0)
    pub other : integer_in u after.0 ≡ (Ok b, after.0)

-- ---- operators that answer of all integers

-- an operator on one integer gives an integer that is so to it in a width, and stores it to its target; it takes a step of its own and
-- those of its operand
abbrev pub ComputesOfOne : Type 0 → Opcode → (IntegerWidth → ℕ → ℕ → Type 0) → Type 0
ComputesOfOne S op Is = (accesses : Accesses S) (scope : List Seg) (depth : ℕ) (x : Tree) (w : State S) (steps a : ℕ) (after : State S × ℕ) → OneInteger accesses scope depth x (w, steps) a after
    → (n : ℕ) × Is after.0.width a n × ((p : Part) (end : State S) → StoresTo scope p (value.Integer n) after.0 end → Gives accesses scope depth (one_to op x p) (w, suc steps) n (end, after.1))

-- the same of an operator on two integers, which it evaluates from left to right
abbrev pub ComputesOfTwo : Type 0 → Opcode → (IntegerWidth → ℕ → ℕ → ℕ → Type 0) → Type 0
ComputesOfTwo S op Is = (accesses : Accesses S) (scope : List Seg) (depth : ℕ) (x y : Tree) (w : State S) (steps a b : ℕ) (after : State S × ℕ) → TwoIntegers accesses scope depth x y (w, steps) a b after
    → (n : ℕ) × Is after.0.width a b n × ((p : Part) (end : State S) → StoresTo scope p (value.Integer n) after.0 end → Gives accesses scope depth (two_to op x y p) (w, suc steps) n (end, after.1))

-- ---- division

-- the dividend, the divisor, and the targets of the remainder and of the quotient
abbrev pub divide : Tree → Tree → Part → Part → Tree
divide x y r q = of_opcode opcodes.Divide (part (inner x) (part (inner y) (part r (part q no_parts))))

-- quotient and remainder of two numbers
pub record IsDivision (a b quotient remainder : ℕ) : Type 0 where
  pub less : remainder < b
  pub whole : quotient * b + remainder ≡ a

-- ---- Increment and Decrement

-- the operand that is read and stored to
abbrev pub counting : Opcode → Part → Tree
counting op p = of_opcode op (part p no_parts)

-- a slot of the control method that runs holds a value
pub record SlotHolds {S : Type 0} (w : State S) (s : Slot) (v : Value) : Type 0 where
  pub last : ℕ
  pub latest : length w.frames ≡ suc last
  pub frame : Frame
  pub stands : slice_get w.frames last ≡ Some frame
  pub holds : slot_in frame s ≡ v
  pub initialized : v ≢ value.Uninitialized

-- and holds none yet
pub record SlotIsEmpty {S : Type 0} (w : State S) (s : Slot) : Type 0 where
  pub last : ℕ
  pub latest : length w.frames ≡ suc last
  pub frame : Frame
  pub stands : slice_get w.frames last ≡ Some frame
  pub empty : slot_in frame s ≡ value.Uninitialized

-- a target holds a value: a slot does, or a name
pub data TargetHolds {S : Type 0} (w : State S) : StoreTarget → Value → Type 0 where
  in_slot : (s : Slot) (v : Value) → SlotHolds w s v → TargetHolds w (targets.Slot s) v
  in_name : (path : List Seg) (number : ℕ) (v : Value) → get w.names.map path ≡ Some (data_entry number v) → TargetHolds w (targets.Name path) v

-- what an operator adds to the integer that its operand holds, which is stored back and is its value
abbrev pub Counts : Type 0 → Opcode → (IntegerWidth → ℕ → ℕ → Type 0) → Type 0
Counts S op Is = (accesses : Accesses S) (scope : List Seg) (depth : ℕ) (p : Part) (t : StoreTarget) (w : State S) (steps a : ℕ) (v : Value) → NamesTarget scope w p t → TargetHolds w t v → integer_in v w ≡ (Ok a, w)
    → (n : ℕ) × Is w.width a n × ((end : State S) → stored t (value.Integer n) w ≡ (Ok store.Done, end) → Gives accesses scope depth (counting op p) (w, suc steps) n (end, steps))

-- ---- set bits

-- the number from 1 of the highest bit that is set, which is how many bits the number has; and 0 where none is
pub record IsHighest (a n : ℕ) : Type 0 where
  pub within : a < 2 ^ n
  pub set : 0 < a → (0 < n) × (2 ^ (n - 1) ≤ a)
  pub none : a ≡ 0 → n ≡ 0

-- the number from 1 of the lowest one
pub record IsLowest (a n : ℕ) : Type 0 where
  pub set : 0 < a → (0 < n) × (bit_at a (n - 1) ≡ 1)
  pub below : 0 < a → (i : ℕ) → i + 1 < n → bit_at a i ≡ 0
  pub none : a ≡ 0 → n ≡ 0
