-- How terms are spelled (ACPI 6.5, 20.2): which bytes stand for a tree, apart from how they are read. A spelling is of all of its
-- bytes: what stands one after another is `front ++ back`, so none is passed over.
use Rattle.std.specs.Prelude.{◌≡◌, ℕ, zero, suc, ◌+◌, ◌*◌, ◌/◌, ◌%◌, ◌<◌, ◌≤◌, List, [], ◌∷◌, ◌++◌, length, Bool, true, false, not, Some, nat_lt, if◌then◌else◌, ◌⊎◌}
use Rattle.std.specs.List.{flat_map, AllByRecursion}
use Rattle.aml_path.specs.declared.segment.Seg.{Seg}
use Rattle.aml_path.specs.declared.name.Prefix.{Prefix}
use Rattle.aml_path.specs.declared.name.Prefix.TheVariants.{Root, Parents}
use Rattle.aml_path.specs.Paths.{Name, is_null}
use Rattle.aml_grammar.specs.declared.opcode.Opcode.{Opcode}
use Rattle.aml_grammar.specs.declared.opcode.Opcode.TheVariants as opcodes
use Rattle.aml_grammar.specs.declared.opcode.TermCode.TheVariants as codes
use Rattle.aml_grammar.specs.declared.kinds.Class.{Class}
use Rattle.aml_grammar.specs.declared.kinds.Class.TheVariants as classes
use Rattle.aml_grammar.specs.declared.kinds.OperandKind.{OperandKind}
use Rattle.aml_grammar.specs.declared.kinds.OperandKind.TheVariants as kinds
use Rattle.aml_grammar.specs.declared.kinds.OperandKinds.{OperandKinds}
use Rattle.aml_grammar.specs.declared.kinds.Row.{Row}
use Rattle.aml_grammar.specs.Opcodes.{number_of}
use Rattle.aml_grammar.specs.Table.{row_of}
use Rattle.aml_grammar.specs.Tree.{Tree, term, Part, null, name, number, bytes, inner, list, Parts, no_parts, part, Trees, no_trees, tree}
use Rattle.aml_grammar.specs.Shape.{trees_of}

-- ---- numbers

-- bytes stand for a number, the lowest first
abbrev pub StandFor : List ℕ → ℕ → Type 0
StandFor [] n = n ≡ 0
StandFor (b ∷ bs) n = (high : ℕ) × (n ≡ b + 256 * high) × StandFor bs high

-- ByteData, WordData, DWordData and QWordData (20.2.3): a number of this many bytes
abbrev pub IsInteger : ℕ → ℕ → List ℕ → Type 0
IsInteger width n spelling = (length spelling ≡ width) × StandFor spelling n

-- PkgLength (20.2.4): bits 7 and 6 of the lead byte count the bytes after it. Where there is none the lead byte is the
-- number; else its bits 3 to 0 are the lowest four of the number, and the bytes after it stand for the others.
abbrev pub IsLength : ℕ → List ℕ → Type 0
IsLength n [] = ⊥
IsLength n (lead ∷ more) = (length more ≡ lead / 64) × (high : ℕ) × StandFor more high × (n ≡ (if nat_lt lead 64 then lead else lead % 16 + 16 * high))

-- a package is its length and its content; the length counts both
abbrev pub IsPackage : List ℕ → List ℕ → Type 0
IsPackage content spelling = (lead : List ℕ) × (spelling ≡ lead ++ content) × IsLength (length spelling) lead

-- the first byte is one from low to high
abbrev pub Begins : ℕ → ℕ → List ℕ → Type 0
Begins low high [] = ⊥
Begins low high (b ∷ bs) = (low ≤ b) × (b ≤ high)

-- ---- names (NameString, 20.2.2)

-- a ParentPrefixChar for each parent
abbrev pub parent_prefixes : ℕ → List ℕ
parent_prefixes zero = []
parent_prefixes (suc n) = 94 ∷ parent_prefixes n

-- or a RootChar
abbrev pub prefix_bytes : Prefix → List ℕ
prefix_bytes Root = 92 ∷ []
prefix_bytes (Parents count) = parent_prefixes count

-- what stands before so many segments: nothing before one, NullName for none, DualNamePrefix before two, or MultiNamePrefix
-- and their count, which isn't 0
abbrev pub Leads : ℕ → List ℕ → Type 0
Leads n [] = n ≡ 1
Leads n (b ∷ []) = ((n ≡ 0) × (b ≡ 0)) ⊎ ((n ≡ 2) × (b ≡ 0x2E))
Leads n (b ∷ c ∷ []) = (0 < n) × (b ≡ 0x2F) × (c ≡ n)
Leads n (b ∷ c ∷ d ∷ bs) = ⊥

abbrev pub characters : List Seg → List ℕ
characters = flat_map (λ s. s.bytes)

abbrev pub IsNamePath : List Seg → List ℕ → Type 0
IsNamePath segments spelling = (lead : List ℕ) × (spelling ≡ lead ++ characters segments) × Leads (length segments) lead

-- a prefix and segments, but not the null name alone
abbrev pub IsNameString : Name → List ℕ → Type 0
IsNameString n spelling = (path : List ℕ) × (spelling ≡ prefix_bytes n.prefix ++ path) × IsNamePath n.segments path × (is_null n ≡ false)

-- ---- places

-- where a term may stand
pub data Place : Type 0 where
  list_item : Place
  term_arg : Place
  data_object : Place
  package_element : Place
  super_name : Place
  after_if : Place
  field_element : Place

-- what holds around a term: it is in the body of a control method, or not; it is inside a While, or not
pub record Around : Type 0 where
  pub body : Bool
  pub in_loop : Bool

abbrev pub inside_loop : Around → Around
inside_loop around = record around { in_loop = true }

-- which terms with an opcode may stand there
abbrev pub may_stand : Around → Class → Place → Bool
may_stand around classes.Statement list_item = true
may_stand around classes.ModuleLevel list_item = not around.body
may_stand around classes.InLoop list_item = around.in_loop
may_stand around classes.InBody list_item = around.body
may_stand around classes.AfterIf after_if = true
may_stand around classes.Expression list_item = true
may_stand around classes.Expression term_arg = true
may_stand around classes.Data list_item = true
may_stand around classes.Data term_arg = true
may_stand around classes.Data data_object = true
may_stand around classes.Data package_element = true
may_stand around classes.Reference list_item = true
may_stand around classes.Reference term_arg = true
may_stand around classes.Reference super_name = true
may_stand around classes.Slot list_item = true
may_stand around classes.Slot term_arg = true
may_stand around classes.Slot super_name = true
may_stand around classes.DebugObject super_name = true
may_stand around _ _ = false

-- where a name may be called
abbrev pub may_call : Place → Bool
may_call list_item = true
may_call term_arg = true
may_call _ = false

-- ---- rows

-- one byte, or ExtOpPrefix and a second one
abbrev pub IsOpcode : ℕ → List ℕ → Type 0
IsOpcode n [] = ⊥
IsOpcode n (b ∷ []) = n ≡ b
IsOpcode n (b ∷ e ∷ []) = (b ≡ 0x5B) × (n ≡ 0x5B00 + e)
IsOpcode n (b ∷ e ∷ f ∷ bs) = ⊥

-- the kinds of a row's operands, up to the first that is none
abbrev pub up_to_nothing : List OperandKind → List OperandKind
up_to_nothing [] = []
up_to_nothing (kinds.Nothing ∷ ks) = []
up_to_nothing (k ∷ ks) = k ∷ up_to_nothing ks

abbrev pub operand_kinds : OperandKinds → List OperandKind
operand_kinds k = up_to_nothing (k.0 ∷ k.1 ∷ k.2 ∷ k.3 ∷ k.4 ∷ k.5 ∷ [])

-- the operands stand in a package, or as they are
abbrev pub IsContent : Bool → List ℕ → List ℕ → Type 0
IsContent true content spelling = IsPackage content spelling
IsContent false content spelling = spelling ≡ content

-- after the package of an If its Else may stand
abbrev pub may_have_else : Opcode → Bool
may_have_else opcodes.If = true
may_have_else _ = false

-- ---- terms

unfoldable mutual
  -- A term in its place. With an opcode: the code, the operands that the table names, and after an If an Else.
  pub Spells : Around → Place → Tree → List ℕ → Type 0
  Spells around place (term (codes.Opcode o) ps) spelling =
      (row : Row) × (row_of (number_of o) ≡ Some row) × (may_stand around row.1 place ≡ true)
      × (code : List ℕ) × (operands : List ℕ) × (later : List ℕ) × (spelling ≡ code ++ (operands ++ later)) × IsOpcode (number_of o) code
      × (content : List ℕ) × IsContent row.2 content operands × SpellsOperands around (may_have_else o) (operand_kinds row.3) ps content later
  -- a name, and the arguments that it is called with: how many it takes, the arities say and not the spelling
  Spells around place (term codes.MethodInvocation (part (name n) (part (list ts) no_parts))) spelling =
      (may_call place ≡ true) × (front : List ℕ) × (back : List ℕ) × (spelling ≡ front ++ back) × IsNameString n front × SpellsAll around term_arg ts back
  Spells around package_element (term codes.Name (part (name n) no_parts)) spelling = IsNameString n spelling
  -- field elements (20.2.5.2)
  Spells around field_element (term codes.NamedField (part (name n) (part (number count) no_parts))) spelling =
      (s : Seg) × (n ≡ record { prefix = Parents 0; segments = s ∷ [] }) × (back : List ℕ) × (spelling ≡ s.bytes ++ back) × IsLength count back
  Spells around field_element (term codes.ReservedField (part (number count) no_parts)) spelling = (back : List ℕ) × (spelling ≡ 0 ∷ back) × IsLength count back
  Spells around field_element (term codes.AccessField (part (number access) (part (number attribute) no_parts))) spelling = spelling ≡ 1 ∷ access ∷ attribute ∷ []
  Spells around field_element (term codes.ConnectField (part p no_parts)) spelling = (back : List ℕ) × (spelling ≡ 2 ∷ back) × SpellsConnection around p back
  Spells around field_element (term codes.ExtendedAccessField (part (number access) (part (number attribute) (part (number count) no_parts)))) spelling =
      spelling ≡ 3 ∷ access ∷ attribute ∷ count ∷ []
  Spells around _ _ spelling = ⊥

  -- terms, one after another
  pub SpellsAll : Around → Place → Trees → List ℕ → Type 0
  SpellsAll around place no_trees spelling = spelling ≡ []
  SpellsAll around place (tree t ts) spelling = (front : List ℕ) × (back : List ℕ) × (spelling ≡ front ++ back) × Spells around place t front × SpellsAll around place ts back

  -- the operands of a row, each by its kind, in the table's order; and later, where it may be, an Else
  pub SpellsOperands : Around → Bool → List OperandKind → Parts → List ℕ → List ℕ → Type 0
  SpellsOperands around has_else (k ∷ ks) (part p ps) content later =
      (front : List ℕ) × (back : List ℕ) × (content ≡ front ++ back) × SpellsOperand around k p front × SpellsOperands around has_else ks ps back later
  SpellsOperands around false [] no_parts content later = (content ≡ []) × (later ≡ [])
  SpellsOperands around true [] (part p no_parts) content later = (content ≡ []) × SpellsElse around p later
  SpellsOperands around _ _ _ content later = ⊥

  pub SpellsElse : Around → Part → List ℕ → Type 0
  SpellsElse around null spelling = spelling ≡ []
  SpellsElse around (inner t) spelling = Spells around after_if t spelling
  SpellsElse around _ spelling = ⊥

  -- a name, or a Buffer
  pub SpellsConnection : Around → Part → List ℕ → Type 0
  SpellsConnection around (name n) spelling = IsNameString n spelling
  SpellsConnection around (inner t) spelling = Begins 0x11 0x11 spelling × Spells around data_object t spelling
  SpellsConnection around _ spelling = ⊥

  pub SpellsOperand : Around → OperandKind → Part → List ℕ → Type 0
  SpellsOperand around kinds.NameString (name n) spelling = IsNameString n spelling
  SpellsOperand around kinds.ScopeName (name n) spelling = IsNameString n spelling
  SpellsOperand around kinds.AliasSource (name n) spelling = IsNameString n spelling
  SpellsOperand around kinds.AliasName (name n) spelling = IsNameString n spelling
  SpellsOperand around kinds.DeclaredName (name n) spelling = IsNameString n spelling
  SpellsOperand around kinds.ExternalName (name n) spelling = IsNameString n spelling
  SpellsOperand around kinds.MethodFlags (number n) spelling = spelling ≡ n ∷ []
  SpellsOperand around kinds.ObjectType (number n) spelling = spelling ≡ n ∷ []
  SpellsOperand around kinds.ArgumentCount (number n) spelling = spelling ≡ n ∷ []
  SpellsOperand around kinds.ByteData (number n) spelling = IsInteger 1 n spelling
  SpellsOperand around kinds.WordData (number n) spelling = IsInteger 2 n spelling
  SpellsOperand around kinds.DWordData (number n) spelling = IsInteger 4 n spelling
  SpellsOperand around kinds.QWordData (number n) spelling = IsInteger 8 n spelling
  -- bytes that aren't zero, and then a zero
  SpellsOperand around kinds.AsciiCharList (bytes bs) spelling = (spelling ≡ bs ++ 0 ∷ []) × AllByRecursion (λ b. 0 < b) bs
  SpellsOperand around kinds.ByteList (bytes bs) spelling = spelling ≡ bs
  SpellsOperand around kinds.TermArg (inner t) spelling = Spells around term_arg t spelling
  SpellsOperand around kinds.DataObject (inner t) spelling = Spells around data_object t spelling
  SpellsOperand around kinds.SuperName (name n) spelling = IsNameString n spelling
  SpellsOperand around kinds.SuperName (inner t) spelling = Spells around super_name t spelling
  -- a name, or a local or an argument
  SpellsOperand around kinds.SimpleName (name n) spelling = IsNameString n spelling
  SpellsOperand around kinds.SimpleName (inner t) spelling = Begins 0x60 0x6E spelling × Spells around super_name t spelling
  -- a place, or a zero for none
  SpellsOperand around kinds.Target null spelling = spelling ≡ 0 ∷ []
  SpellsOperand around kinds.Target (name n) spelling = IsNameString n spelling
  SpellsOperand around kinds.Target (inner t) spelling = Spells around super_name t spelling
  SpellsOperand around kinds.TermList (list ts) spelling = SpellsAll around list_item ts spelling
  SpellsOperand around kinds.LoopTermList (list ts) spelling = SpellsAll (inside_loop around) list_item ts spelling
  SpellsOperand around kinds.PackageElementList (list ts) spelling = SpellsAll around package_element ts spelling
  SpellsOperand around kinds.FieldList (list ts) spelling = SpellsAll around field_element ts spelling
  SpellsOperand around _ _ spelling = ⊥

-- the trees of a whole list, of a table or of a body, spelled by all of its bytes
abbrev pub IsSpelled : Bool → List Tree → List ℕ → Type 0
IsSpelled body ts spelling = SpellsAll (record { body = body; in_loop = false }) list_item (trees_of ts) spelling
