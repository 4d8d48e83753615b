-- Reading by marks: it refuses nothing, and knows no scope and no arities. What is missing is read as zero.
use Rattle.std.specs.Prelude.{ℕ, zero, suc, ◌+◌, ◌-◌, ◌*◌, ◌/◌, ◌<◌, List, [], ◌∷◌, ◌++◌, length, take, drop, min, Bool, true, false, ⊤, Option, Some, None, Ok, Err, ◌==◌, if◌then◌else◌}
use Rattle.std.specs.List.{AllByRecursion}
use Rattle.ar_space.specs.Outcome.{Outcome}
use Rattle.aml_path.specs.Paths.{Name}
use Rattle.aml_path.specs.declared.name.Prefix.TheVariants.{Root}
use Rattle.aml_grammar.specs.declared.opcode.Opcode.{Opcode}
use Rattle.aml_grammar.specs.declared.opcode.Opcode.TheVariants as opcodes
use Rattle.aml_grammar.specs.declared.opcode.TermCode.TheVariants as codes
use Rattle.aml_grammar.specs.declared.kinds.OperandKind.{OperandKind}
use Rattle.aml_grammar.specs.declared.kinds.OperandKind.TheVariants as kinds
use Rattle.aml_grammar.specs.declared.kinds.Row.{Row}
use Rattle.aml_grammar.specs.declared.marks.Mark.{Mark}
use Rattle.aml_arities.specs.Arities.{or_none}
use Rattle.aml_grammar.specs.State.{State, is_next, text_length, little_endian, length_of}
use Rattle.aml_grammar.specs.Names.{starts_name, carets, name_string}
use Rattle.aml_grammar.specs.Table.{row_of}
use Rattle.aml_grammar.specs.Tree.{Tree, term, Part, null, name, number, bytes, inner, list, no_parts}
use Rattle.aml_grammar.specs.Shape.{parts_of, trees_of}
use Rattle.aml_grammar.specs.Grammar.{is_if, is_nothing, kinds_of}

-- what is left of the list or package, and where it begins
pub record Place : Type 0 where
  pub at : ℕ
  pub rest : List ℕ

abbrev pub place_of : State → Place
place_of s = record { at = s.at; rest = s.rest }

-- a state with nothing declared
abbrev pub bare_state : Place → State
bare_state p = record { at = p.at; rest = p.rest; arities = []; marks = [] }

-- a value, and the place after it
abbrev pub Walk : Type 0 → Type 0
Walk A = Place → A × Place

unfoldable pub after : {A B : Type 0} → Walk A → (A → Walk B) → Walk B
after m k p = k (m p).0 (m p).1

infixl 10 ◌>>=◌
abbrev pub ◌>>=◌ : {A B : Type 0} → Walk A → (A → Walk B) → Walk B
◌>>=◌ m k = after m k

unfoldable pub gives : {A : Type 0} → A → Walk A
gives a p = (a, p)

-- ---- bytes

-- n bytes on
abbrev pub past : ℕ → Place → Place
past n p = record { at = p.at + n; rest = drop n p.rest }

-- n bytes on, or to the end
abbrev pub over : ℕ → Place → Place
over n p = past (min n (length p.rest)) p

abbrev pub first : List ℕ → ℕ
first [] = 0
first (b ∷ bs) = b

abbrev pub a_byte : Walk ℕ
a_byte p = (first p.rest, over 1 p)

abbrev pub an_integer : ℕ → Walk ℕ
an_integer n p = (little_endian (take n p.rest), over n p)

abbrev pub a_text : Walk (List ℕ)
a_text p = (take (text_length p.rest) p.rest, over (text_length p.rest + 1) p)

abbrev pub all_left : Walk (List ℕ)
all_left p = (p.rest, over (length p.rest) p)

-- a number of bits, spelled as a package length
unfoldable pub a_bit_count : Walk ℕ
a_bit_count = do
  lead ← a_byte
  more ← an_integer (lead / 64)
  gives (length_of lead more)

-- how many bytes of a package follow its length
unfoldable pub a_size : Walk ℕ
a_size = do
  lead ← a_byte
  more ← an_integer (lead / 64)
  gives (length_of lead more - (lead / 64 + 1))

-- in a package, and then on behind it
abbrev pub inside_of : {A : Type 0} → Walk A → ℕ × Place → A × Place
inside_of m q = ((m (record q.1 { rest = take q.0 q.1.rest })).0, over q.0 q.1)

unfoldable pub inside : {A : Type 0} → Bool → Walk A → Walk A
inside false m p = m p
inside true m p = inside_of m (a_size p)

-- ---- names

abbrev pub or_root : Outcome Name → Name
or_root (Ok n) = n
or_root (Err e) = record { prefix = Root; segments = [] }

-- `\`, or any number of `^`
abbrev pub prefix_length : List ℕ → ℕ
prefix_length bs = if first bs == 92 then 1 else carets bs

-- no segment, two, as many as the second byte says, or one
abbrev pub segments_length : List ℕ → ℕ
segments_length bs = if first bs == 0 then 1 else (if first bs == 46 then 9 else (if first bs == 47 then 2 + 4 * first (drop 1 bs) else 4))

abbrev pub name_length : List ℕ → ℕ
name_length bs = prefix_length bs + segments_length (drop (prefix_length bs) bs)

-- the name that the grammar reads here, and the root where it reads none
unfoldable pub a_name : Walk Name
a_name p = (or_root (name_string (bare_state p)).0, over (name_length p.rest) p)

-- ---- one walk again and again

abbrev pub to_part : {A : Type 0} → (A → Part) → Walk A → Walk Part
to_part f m p = (f (m p).0, (m p).1)

unfoldable pub turns_of : {A : Type 0} → Walk A → ℕ → Walk (List A)
turns_of m zero = gives []
turns_of m (suc n) = do
  x ← m
  xs ← turns_of m n
  gives (x ∷ xs)

abbrev pub all_of : {A : Type 0} → Walk A → Walk (List A) → List ℕ → Walk (List A)
all_of m more [] = gives []
all_of m more (b ∷ bs) = do
  x ← m
  xs ← more
  gives (x ∷ xs)

-- until nothing is left; the number bounds the turns
unfoldable pub to_end : {A : Type 0} → Walk A → ℕ → Walk (List A)
to_end m zero p = ([], p)
to_end m (suc n) p = all_of m (to_end m n) p.rest p

abbrev pub list_part : List Tree → Part
list_part ts = list (trees_of ts)

-- ---- field elements without terms

unfoldable pub a_reserved_field : Walk Tree
a_reserved_field = do
  code ← a_byte
  n ← a_bit_count
  gives (term codes.ReservedField (parts_of (number n ∷ [])))

unfoldable pub an_access_field : Walk Tree
an_access_field = do
  code ← a_byte
  access ← a_byte
  attribute ← a_byte
  gives (term codes.AccessField (parts_of (number access ∷ number attribute ∷ [])))

unfoldable pub an_extended_access_field : Walk Tree
an_extended_access_field = do
  code ← a_byte
  access ← a_byte
  attribute ← a_byte
  count ← a_byte
  gives (term codes.ExtendedAccessField (parts_of (number access ∷ number attribute ∷ number count ∷ [])))

-- a segment alone is a name too
unfoldable pub a_named_field : Walk Tree
a_named_field = do
  n ← a_name
  bits ← a_bit_count
  gives (term codes.NamedField (parts_of (name n ∷ number bits ∷ [])))

-- ---- opcodes

abbrev pub opcode_after : ℕ → Walk ℕ
opcode_after b = if b == 0x5B then (do
  e ← a_byte
  gives (0x5B00 + e)) else gives b

-- one byte, or two after the prefix
unfoldable pub an_opcode : Walk ℕ
an_opcode = do
  b ← a_byte
  opcode_after b

-- ---- operands, over terms one level below

-- a term: whether it is an element of a package
abbrev pub Below : Type 0
Below = Bool → Walk Tree

-- what stands for a term that is too deep, or whose opcode is none
abbrev pub no_term : Tree
no_term = term codes.Name no_parts

module _ (below : Below) where
  unfoldable pub all_items : Bool → Walk (List Tree)
  all_items element p = to_end (below element) (length p.rest) p

  -- a name, or else a term: what is read or written, or a connection
  abbrev pub name_or_term : ℕ → Walk Part
  name_or_term b = if starts_name b then to_part name a_name else to_part inner (below false)

  abbrev pub target_of : ℕ → Walk Part
  target_of b = if b == 0 then to_part (λ _. null) a_byte else name_or_term b

  unfoldable pub a_super_name : Walk Part
  a_super_name p = name_or_term (first p.rest) p

  unfoldable pub a_target : Walk Part
  a_target p = target_of (first p.rest) p

  unfoldable pub a_connect_field : Walk Tree
  a_connect_field = do
    code ← a_byte
    p ← a_super_name
    gives (term codes.ConnectField (parts_of (p ∷ [])))

  abbrev pub field_of : ℕ → Walk Tree
  field_of b = if b == 0 then a_reserved_field else (if b == 1 then an_access_field else (if b == 2 then a_connect_field else (if b == 3 then an_extended_access_field else a_named_field)))

  unfoldable pub a_field : Walk Tree
  a_field p = field_of (first p.rest) p

  unfoldable pub fields_left : Walk (List Tree)
  fields_left p = to_end a_field (length p.rest) p

  unfoldable pub an_operand : OperandKind → Walk Part
  an_operand kinds.Nothing = gives null
  an_operand kinds.NameString = to_part name a_name
  an_operand kinds.ScopeName = to_part name a_name
  an_operand kinds.AliasSource = to_part name a_name
  an_operand kinds.AliasName = to_part name a_name
  an_operand kinds.DeclaredName = to_part name a_name
  an_operand kinds.ExternalName = to_part name a_name
  an_operand kinds.MethodFlags = to_part number a_byte
  an_operand kinds.ObjectType = to_part number a_byte
  an_operand kinds.ArgumentCount = to_part number a_byte
  an_operand kinds.ByteData = to_part number (an_integer 1)
  an_operand kinds.WordData = to_part number (an_integer 2)
  an_operand kinds.DWordData = to_part number (an_integer 4)
  an_operand kinds.QWordData = to_part number (an_integer 8)
  an_operand kinds.AsciiCharList = to_part bytes a_text
  an_operand kinds.TermArg = to_part inner (below false)
  an_operand kinds.DataObject = to_part inner (below false)
  an_operand kinds.SuperName = a_super_name
  an_operand kinds.Target = a_target
  an_operand kinds.SimpleName = a_super_name
  an_operand kinds.TermList = to_part list_part (all_items false)
  an_operand kinds.LoopTermList = to_part list_part (all_items false)
  an_operand kinds.ByteList = to_part bytes all_left
  an_operand kinds.PackageElementList = to_part list_part (all_items true)
  an_operand kinds.FieldList = to_part list_part fields_left

  unfoldable pub all_operands : List OperandKind → Walk (List Part)
  all_operands [] = gives []
  all_operands (k ∷ ks) = if is_nothing k then gives [] else (do
    x ← an_operand k
    xs ← all_operands ks
    gives (x ∷ xs))

  unfoldable pub of_row : Row → Walk (List Part)
  of_row row = inside row.2 (all_operands (kinds_of row.3))

  -- ---- an Else may follow an If

  unfoldable pub an_else : Walk Tree
  an_else = do
    code ← a_byte
    p ← inside true (to_part list_part (all_items false))
    gives (term (codes.Opcode opcodes.Else) (parts_of (p ∷ [])))

  abbrev pub else_of : Bool → Walk Part
  else_of true = to_part inner an_else
  else_of false = gives null

  unfoldable pub maybe_else : Walk Part
  maybe_else p = else_of (is_next 0xA1 p.rest) p

  abbrev pub with_else : Opcode → List Part → Walk Tree
  with_else opcode ps = do
    e ← maybe_else
    gives (term (codes.Opcode opcode) (parts_of (ps ++ e ∷ [])))

  -- ---- terms

  unfoldable pub with_row : Option Row → Walk Tree
  with_row None = gives no_term
  with_row (Some row) = do
    ps ← of_row row
    if is_if row.0 then with_else row.0 ps else gives (term (codes.Opcode row.0) (parts_of ps))

  unfoldable pub a_coded : Walk Tree
  a_coded = do
    n ← an_opcode
    with_row (row_of n)

  module _ (count : ℕ → ℕ) where
    -- a name, and as many terms as the mark where it begins says
    unfoldable pub a_call : Walk Tree
    a_call p = (do
      n ← a_name
      ts ← turns_of (below false) (count p.at)
      gives (term codes.MethodInvocation (parts_of (name n ∷ list_part ts ∷ [])))) p

    abbrev pub a_named : Below
    a_named true = (do
      n ← a_name
      gives (term codes.Name (parts_of (name n ∷ []))))
    a_named false = a_call

    unfoldable pub a_term_in : Below
    a_term_in element p = (if starts_name (first p.rest) then a_named element else a_coded) p

module _ (count : ℕ → ℕ) where
  -- a term, with fewer than this many levels below it
  unfoldable pub a_term : ℕ → Below
  a_term zero element = gives no_term
  a_term (suc levels) element = a_term_in (a_term levels) count element

-- ---- marks

-- each mark stands before all behind it
abbrev pub Ascending : List Mark → Type 0
Ascending [] = ⊤
Ascending (m ∷ ms) = AllByRecursion (λ n. m.offset < n.offset) ms × Ascending ms

-- the count of the mark at an offset, where there is one
abbrev pub found_at : List Mark → ℕ → Option ℕ
found_at [] o = None
found_at (m ∷ ms) o = if m.offset == o then Some m.count else found_at ms o

abbrev pub count_at : List Mark → ℕ → ℕ
count_at ms o = or_none (found_at ms o)

-- ---- whole lists

-- one level more than the grammar counts: there, a local, an argument or Debug as a place costs none
abbrev pub walk_levels : ℕ
walk_levels = 65

-- the trees of a whole list, by its marks
abbrev pub trees_by : List Mark → List ℕ → List Tree
trees_by marks bs = (all_items (a_term (count_at marks) walk_levels) false (record { at = 0; rest = bs })).0

-- the bytes that an operand is
abbrev pub lent_of : Option Part → Option (List ℕ)
lent_of (Some (bytes bs)) = Some bs
lent_of _ = None
