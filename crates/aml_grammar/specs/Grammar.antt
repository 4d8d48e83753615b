-- The grammar of terms (ACPI 6.5, 20.2.5): what stands in each position, and how its bytes are read.
use Rattle.std.specs.Prelude.{◌≡◌, ℕ, zero, suc, ◌+◌, List, [], ◌∷◌, ◌++◌, length, Bool, true, false, Option, Some, None, Ok, Err, nat_le, nat_lt, ◌==◌, ◌&&◌, ◌||◌, if◌then◌else◌}
use Rattle.ar_space.specs.declared.refusal.Refusal.{Refusal}
use Rattle.ar_space.specs.declared.refusal.Refusal.TheVariants as refusals
use Rattle.ar_space.specs.declared.refusal.EvaluationFault.TheVariants.{DepthSetting}
use Rattle.ar_space.specs.declared.refusal.TermFault.{TermFault}
use Rattle.ar_space.specs.declared.refusal.TermFault.TheVariants.{BadOpcode, TooDeep, NotInBody}
use Rattle.ar_space.specs.Outcome.{Outcome}
use Rattle.ar_space.specs.Change.{give, settle, ◌>>=◌}
use Rattle.aml_path.specs.declared.segment.Seg.{Seg}
use Rattle.aml_path.specs.Paths.{Name, resolved}
use Rattle.aml_grammar.specs.declared.opcode.Opcode.{Opcode}
use Rattle.aml_grammar.specs.declared.opcode.Opcode.TheVariants as opcodes
use Rattle.aml_grammar.specs.declared.opcode.TermCode.TheVariants as codes
use Rattle.aml_grammar.specs.declared.kinds.Class.{Class}
use Rattle.aml_grammar.specs.declared.kinds.Class.TheVariants as classes
use Rattle.aml_grammar.specs.declared.kinds.OperandKind.{OperandKind}
use Rattle.aml_grammar.specs.declared.kinds.OperandKind.TheVariants as kinds
use Rattle.aml_grammar.specs.declared.kinds.OperandKinds.{OperandKinds}
use Rattle.aml_grammar.specs.declared.kinds.Row.{Row}
use Rattle.aml_grammar.specs.declared.context.Position.{Position}
use Rattle.aml_grammar.specs.declared.context.Position.TheVariants as positions
use Rattle.aml_grammar.specs.declared.context.Context.{Context}
use Rattle.aml_grammar.specs.declared.context.Earlier.{Earlier}
use Rattle.aml_arities.specs.declared.arities.Arity.{Arity}
use Rattle.aml_arities.specs.Arities.{arity_of}
use Rattle.aml_grammar.specs.Table.{row_of}
use Rattle.aml_grammar.specs.State.{State, Step, fault, bad_name, offset, byte, peek, is_next, enter, leave, times, until_end, marking}
use Rattle.aml_grammar.specs.Names.{starts_name, name_string, skipping}
use Rattle.aml_grammar.specs.Operands.{Read, name_operand, scope_name, alias_source, external_name, declared_name, integer_operand, method_flags, object_type, argument_count, text_operand, bytes_operand, reserved_field, access_field, extended_access_field, named_field}
use Rattle.aml_grammar.specs.Tree.{Tree, term, Part, null, name, inner, list}
use Rattle.aml_grammar.specs.Shape.{parts_of, trees_of}

-- ---- where a term may stand

abbrev pub stands : Class → Position → Context → Bool
stands classes.Statement positions.ListItem context = true
stands classes.ModuleLevel positions.ListItem context = true
stands classes.InLoop positions.ListItem context = context.in_loop
stands classes.InBody positions.ListItem context = context.body
stands classes.Expression positions.ListItem context = true
stands classes.Expression positions.TermArg context = true
stands classes.Data positions.ListItem context = true
stands classes.Data positions.TermArg context = true
stands classes.Data positions.DataObject context = true
stands classes.Data positions.PackageElement context = true
stands classes.Reference positions.ListItem context = true
stands classes.Reference positions.TermArg context = true
stands classes.Reference positions.SuperName context = true
stands classes.Slot positions.ListItem context = true
stands classes.Slot positions.TermArg context = true
stands classes.Slot positions.SuperName context = true
stands classes.DebugObject positions.SuperName context = true
stands _ _ context = false

-- where a term may be a name alone
abbrev pub takes_name : Position → Bool
takes_name positions.ListItem = true
takes_name positions.TermArg = true
takes_name positions.PackageElement = true
takes_name _ = false

-- a local, an argument or Debug as a place costs no level
abbrev pub costs_no_level : Class → Position → Bool
costs_no_level classes.DebugObject position = true
costs_no_level classes.Slot positions.SuperName = true
costs_no_level _ _ = false

abbrev pub is_module_level : Class → Bool
is_module_level classes.ModuleLevel = true
is_module_level _ = false

abbrev pub is_if : Opcode → Bool
is_if opcodes.If = true
is_if _ = false

abbrev pub kinds_of : OperandKinds → List OperandKind
kinds_of k = k.0 ∷ k.1 ∷ k.2 ∷ k.3 ∷ k.4 ∷ k.5 ∷ []

abbrev pub is_nothing : OperandKind → Bool
is_nothing kinds.Nothing = true
is_nothing _ = false

-- Local0 to Arg6
unfoldable pub is_slot : ℕ → Bool
is_slot b = nat_le 0x60 b && nat_le b 0x6E

-- ---- contexts

-- where the item of the handed-in list begins that holds a term which begins here
abbrev pub item_of : Option ℕ → ℕ → ℕ
item_of None here = here
item_of (Some item) here = item

abbrev pub at_item : Context → ℕ → Context
at_item context here = record context { item = Some (item_of context.item here) }

-- an Else is an item of its own where its If is one
abbrev pub item_of_else : ℕ → ℕ → ℕ → ℕ
item_of_else item start here = if item == start then here else item

abbrev pub at_else : Context → ℕ → ℕ → Context
at_else context start here = record context { item = Some (item_of_else (item_of context.item start) start here) }

abbrev pub in_loop : Context → Context
in_loop context = record context { in_loop = true }

abbrev pub scope_of : List Seg → Option (List Seg) → List Seg
scope_of scope None = scope
scope_of scope (Some path) = path

abbrev pub nothing_earlier : Earlier
nothing_earlier = record { path = None; count = 0 }

-- ---- operands

-- how a term one level below is read
abbrev pub Inner : Type 0
Inner = Position → List Seg → Context → Step Tree

-- an operand that leaves nothing for later ones
abbrev pub keeping : Earlier → Step Part → Step Read
keeping earlier m = do
  p ← m
  give (p, earlier)

abbrev pub packed : {A : Type 0} → Bool → Step A → Step A
packed false m = m
packed true m = do
  outer ← enter
  x ← m
  leave outer x

module _ (inner_term : Inner) where
  -- terms until nothing is left
  unfoldable pub items : Position → List Seg → Context → Step (List Tree)
  items position scope context s = until_end (inner_term position scope context) (length s.rest) s

  unfoldable pub term_operand : Position → List Seg → Context → Step Part
  term_operand position scope context = do
    t ← inner_term position scope context
    give (inner t)

  unfoldable pub list_operand : Position → List Seg → Context → Step Part
  list_operand position scope context = do
    ts ← items position scope context
    give (list (trees_of ts))

  abbrev pub super_name_at : List Seg → Context → ℕ → Step Part
  super_name_at scope context b = if b == 0 then bad_name else (if starts_name b then name_operand else term_operand positions.SuperName scope context)

  unfoldable pub super_name : List Seg → Context → Step Part
  super_name scope context = do
    b ← peek
    super_name_at scope context b

  -- nothing, or a place to store to
  abbrev pub target_at : List Seg → Context → ℕ → Step Part
  target_at scope context b = if b == 0 then skipping (give null) else super_name scope context

  unfoldable pub target : List Seg → Context → Step Part
  target scope context = do
    b ← peek
    target_at scope context b

  abbrev pub simple_name_at : List Seg → Context → ℕ → ℕ → Step Part
  simple_name_at scope context here b = if b == 0 || starts_name b || is_slot b then super_name scope context else fault BadOpcode here

  unfoldable pub simple_name : List Seg → Context → Step Part
  simple_name scope context = do
    here ← offset
    b ← peek
    simple_name_at scope context here b

  -- a name or a Buffer
  abbrev pub connection_at : List Seg → Context → ℕ → Step Part
  connection_at scope context b = if starts_name b then name_operand else (if b == 0x11 then term_operand positions.DataObject scope context else bad_name)

  unfoldable pub connection : List Seg → Context → Step Part
  connection scope context = do
    b ← peek
    connection_at scope context b

  unfoldable pub connect_field : List Seg → Context → Step Tree
  connect_field scope context = do
    code ← byte
    p ← connection scope context
    give (term codes.ConnectField (parts_of (p ∷ [])))

  abbrev pub field_at : List Seg → Context → ℕ → Step Tree
  field_at scope context b = if b == 0 then reserved_field else (if b == 1 then access_field else (if b == 2 then connect_field scope context else (if b == 3 then extended_access_field else named_field scope context)))

  unfoldable pub field : List Seg → Context → Step Tree
  field scope context = do
    b ← peek
    field_at scope context b

  unfoldable pub fields : List Seg → Context → Step (List Tree)
  fields scope context s = until_end (field scope context) (length s.rest) s

  unfoldable pub fields_operand : List Seg → Context → Step Part
  fields_operand scope context = do
    ts ← fields scope context
    give (list (trees_of ts))

  unfoldable pub operand : List Seg → Context → ℕ → OperandKind → Earlier → Step Read
  operand scope context start kinds.Nothing earlier = give (null, earlier)
  operand scope context start kinds.NameString earlier = keeping earlier name_operand
  operand scope context start kinds.ScopeName earlier = scope_name scope earlier
  operand scope context start kinds.AliasSource earlier = alias_source scope earlier
  operand scope context start kinds.AliasName earlier = declared_name scope context start earlier.count earlier
  operand scope context start kinds.DeclaredName earlier = declared_name scope context start 0 earlier
  operand scope context start kinds.MethodFlags earlier = method_flags context earlier
  operand scope context start kinds.ExternalName earlier = external_name scope earlier
  operand scope context start kinds.ObjectType earlier = object_type earlier
  operand scope context start kinds.ArgumentCount earlier = argument_count context earlier
  operand scope context start kinds.ByteData earlier = keeping earlier (integer_operand 1)
  operand scope context start kinds.WordData earlier = keeping earlier (integer_operand 2)
  operand scope context start kinds.DWordData earlier = keeping earlier (integer_operand 4)
  operand scope context start kinds.QWordData earlier = keeping earlier (integer_operand 8)
  operand scope context start kinds.AsciiCharList earlier = keeping earlier text_operand
  operand scope context start kinds.TermArg earlier = keeping earlier (term_operand positions.TermArg scope context)
  operand scope context start kinds.DataObject earlier = keeping earlier (term_operand positions.DataObject scope context)
  operand scope context start kinds.SuperName earlier = keeping earlier (super_name scope context)
  operand scope context start kinds.Target earlier = keeping earlier (target scope context)
  operand scope context start kinds.SimpleName earlier = keeping earlier (simple_name scope context)
  operand scope context start kinds.TermList earlier = keeping earlier (list_operand positions.ListItem (scope_of scope earlier.path) context)
  operand scope context start kinds.LoopTermList earlier = keeping earlier (list_operand positions.ListItem (scope_of scope earlier.path) (in_loop context))
  operand scope context start kinds.ByteList earlier = keeping earlier bytes_operand
  operand scope context start kinds.PackageElementList earlier = keeping earlier (list_operand positions.PackageElement (scope_of scope earlier.path) context)
  operand scope context start kinds.FieldList earlier = keeping earlier (fields_operand scope context)

  unfoldable pub operands : List Seg → Context → ℕ → List OperandKind → Earlier → Step (List Part)
  operands scope context start [] earlier = give []
  operands scope context start (k ∷ ks) earlier = if is_nothing k then give [] else (do
    x ← operand scope context start k earlier
    ps ← operands scope context start ks x.1
    give (x.0 ∷ ps))

  -- the operands of a row, which begins at start
  abbrev pub row_operands : List Seg → Context → ℕ → Row → Step (List Part)
  row_operands scope context start row = packed row.2 (operands scope context start (kinds_of row.3) nothing_earlier)

  unfoldable pub plain_term : List Seg → Context → ℕ → Row → Step Tree
  plain_term scope context start row = do
    ps ← row_operands scope context start row
    give (term (codes.Opcode row.0) (parts_of ps))

  -- ---- If and Else (DefIfElse, 20.2.5.3)

  unfoldable pub else_term : List Seg → Context → Step Tree
  else_term scope context = do
    code ← byte
    p ← packed true (list_operand positions.ListItem scope context)
    give (term (codes.Opcode opcodes.Else) (parts_of (p ∷ [])))

  unfoldable pub else_operand : List Seg → Context → Step Part
  else_operand scope context = do
    t ← else_term scope context
    give (inner t)

  -- an Else may follow, at the level of its If
  unfoldable pub else_part : List Seg → Context → ℕ → Step Part
  else_part scope context start s = if is_next 0xA1 s.rest then else_operand scope (at_else context start s.at) s else (Ok null, s)

  unfoldable pub if_term : List Seg → Context → ℕ → Row → Step Tree
  if_term scope context start row = do
    ps ← row_operands scope context start row
    e ← else_part scope context start
    give (term (codes.Opcode row.0) (parts_of (ps ++ e ∷ [])))

  unfoldable pub row_term : List Seg → Context → ℕ → Row → Step Tree
  row_term scope context start row = if is_if row.0 then if_term scope context start row else plain_term scope context start row

-- ---- opcodes

abbrev pub opcode_from : ℕ → Step ℕ
opcode_from b = if b == 0x5B then (do
  e ← byte
  give (0x5B00 + e)) else give b

-- one byte, or two after ExtOpPrefix
unfoldable pub opcode : Step ℕ
opcode = do
  b ← byte
  opcode_from b

abbrev pub admitted : Position → Context → ℕ → Row → Step Row
admitted position context start row = if stands row.1 position context then (if context.body && is_module_level row.1 then fault NotInBody start else give row) else fault BadOpcode start

abbrev pub admitted_row : Position → Context → ℕ → Option Row → Step Row
admitted_row position context start None = fault BadOpcode start
admitted_row position context start (Some row) = admitted position context start row

-- the row of the term's opcode, which may stand in this position
unfoldable pub row_at : Position → Context → ℕ → Step Row
row_at position context start = do
  n ← opcode
  admitted_row position context start (row_of n)

-- ---- terms

-- below the last level there is no term
unfoldable pub deeper : {A : Type 0} → Option Inner → ℕ → (Inner → Step A) → Step A
deeper None item go = fault TooDeep item
deeper (Some inner_term) item go = go inner_term

abbrev pub leveled : Option Inner → Position → List Seg → Context → ℕ → Row → Step Tree
leveled below position scope context start row = if costs_no_level row.1 position then give (term (codes.Opcode row.0) (parts_of [])) else deeper below (item_of context.item start) (λ inner_term. row_term inner_term scope context start row)

unfoldable pub coded_term : Option Inner → Position → List Seg → Context → ℕ → Step Tree
coded_term below position scope context start = do
  row ← row_at position context start
  leveled below position scope context start row

unfoldable pub element_name : Step Tree
element_name = do
  n ← name_string
  give (term codes.Name (parts_of (name n ∷ [])))

-- How many arguments a name takes where it is called: it begins at an offset, in a scope, and stands for a path.
abbrev pub Counting : Type 0
Counting = ℕ → List Seg → Name → List Seg → State → ℕ

module _ (counting : Counting) where
  -- a call with arguments leaves a mark
  unfoldable pub argument_number : ℕ → List Seg → Name → List Seg → Step ℕ
  argument_number start scope n path s = (Ok (counting start scope n path s), marking start (counting start scope n path s) s)

  -- as many terms as the name takes arguments (MethodInvocation, 20.2.5)
  unfoldable pub invocation : Inner → List Seg → Context → ℕ → Step Tree
  invocation inner_term scope context start = do
    n ← name_string
    path ← settle (resolved n scope)
    count ← argument_number start scope n path
    ts ← times (inner_term positions.TermArg scope context) count
    give (term codes.MethodInvocation (parts_of (name n ∷ list (trees_of ts) ∷ [])))

  abbrev pub named_term : Inner → Position → List Seg → Context → ℕ → Step Tree
  named_term inner_term positions.PackageElement scope context start = element_name
  named_term inner_term _ scope context start = invocation inner_term scope context start

  unfoldable pub named : Option Inner → Position → List Seg → Context → ℕ → Step Tree
  named below position scope context start = if takes_name position then deeper below (item_of context.item start) (λ inner_term. named_term inner_term position scope context start) else fault BadOpcode start

  abbrev pub begun : Option Inner → Position → List Seg → Context → ℕ → ℕ → Step Tree
  begun below position scope context start b = if starts_name b then named below position scope context start else coded_term below position scope context start

  unfoldable pub term_in : Option Inner → Inner
  term_in below position scope context = do
    start ← offset
    b ← peek
    begun below position scope (at_item context start) start b

  unfoldable pub below : ℕ → Option Inner
  below zero = None
  below (suc levels) = Some (term_in (below levels))

  -- a term, with at most this many levels below it
  unfoldable pub term_at : ℕ → Inner
  term_at levels = term_in (below levels)

-- the arities so far say how many arguments a name takes
unfoldable pub by_arities : Counting
by_arities start scope n path s = arity_of s.arities scope n path

-- ---- whole lists

abbrev pub max_depth : ℕ
max_depth = 64

abbrev pub outermost : Bool → Context
outermost body = record { body = body; in_loop = false; item = None }

abbrev pub beginning : List ℕ → List Arity → State
beginning bs arities = record { at = 0; rest = bs; arities = arities; marks = [] }

-- a whole list of terms: what is read, and the state after it
unfoldable pub term_list : Counting → List ℕ → List Seg → Bool → List Arity → Outcome (List Tree) × State
term_list counting bs scope body arities = items (term_at counting max_depth) positions.ListItem scope (outermost body) (beginning bs arities)

-- its trees, or its first fault from left to right
abbrev pub reading : List ℕ → List Seg → Bool → List Arity → Outcome (List Tree)
reading bs scope body arities = (term_list by_arities bs scope body arities).0

abbrev pub Reads : List ℕ → List Seg → Bool → List Arity → List Tree → Type 0
Reads bs scope body arities ts = reading bs scope body arities ≡ Ok ts

abbrev pub Fails : List ℕ → List Seg → Bool → List Arity → Refusal → Type 0
Fails bs scope body arities r = reading bs scope body arities ≡ Err r

-- the trees of a table after its header, whose names stand at the root, and the arities after it
abbrev pub with_arities : Outcome (List Tree) × State → Outcome (List Tree × List Arity)
with_arities (Ok ts, s) = Ok (ts, s.arities)
with_arities (Err e, s) = Err e

abbrev pub table_reading : List ℕ → List Arity → Outcome (List Tree × List Arity)
table_reading bs arities = with_arities (term_list by_arities bs [] false arities)

-- ---- whole lists within the levels that a setting allows

-- a setting allows fewer levels, and never more
abbrev pub levels_allowed : ℕ → ℕ
levels_allowed levels = if nat_lt levels max_depth then levels else max_depth

unfoldable pub term_list_within : ℕ → Counting → List ℕ → List Seg → Bool → List Arity → Outcome (List Tree) × State
term_list_within levels counting bs scope body arities = items (term_at counting (levels_allowed levels)) positions.ListItem scope (outermost body) (beginning bs arities)

-- a term that is too deep for fewer levels is deeper than the setting allows; fewer: whether there are fewer
abbrev pub fault_within : Bool → TermFault → ℕ → Refusal
fault_within true TooDeep offset = refusals.Evaluation DepthSetting
fault_within fewer fault offset = refusals.Term fault offset

abbrev pub refusal_within : ℕ → Refusal → Refusal
refusal_within levels (refusals.Term fault offset) = fault_within (nat_lt levels max_depth) fault offset
refusal_within levels e = e

abbrev pub within : {A : Type 0} → ℕ → Outcome A → Outcome A
within levels (Ok a) = Ok a
within levels (Err e) = Err (refusal_within levels e)

-- the trees of a list within so many levels, or its first fault from left to right
abbrev pub reading_within : ℕ → List ℕ → List Seg → Bool → List Arity → Outcome (List Tree)
reading_within levels bs scope body arities = within levels (term_list_within levels by_arities bs scope body arities).0

abbrev pub table_reading_within : ℕ → List ℕ → List Arity → Outcome (List Tree × List Arity)
table_reading_within levels bs arities = within levels (with_arities (term_list_within levels by_arities bs [] false arities))
