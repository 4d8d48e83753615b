-- Operands that hold no terms.
use Rattle.std.specs.Prelude.{ℕ, ◌%◌, List, [], ◌∷◌, ◌++◌, Bool, true, false, Option, Some, None, Ok, ◌==◌, if◌then◌else◌}
use Rattle.ar_space.specs.Change.{give, settle, ◌>>=◌}
use Rattle.aml_path.specs.declared.segment.Seg.{Seg}
use Rattle.aml_path.specs.declared.name.Prefix.TheVariants.{Parents}
use Rattle.aml_path.specs.Paths.{Name, resolved}
use Rattle.aml_grammar.specs.declared.opcode.TermCode.TheVariants.{NamedField, ReservedField, AccessField, ExtendedAccessField}
use Rattle.aml_grammar.specs.declared.kinds.OperandKind.{OperandKind}
use Rattle.aml_grammar.specs.declared.kinds.OperandKind.TheVariants as kinds
use Rattle.aml_grammar.specs.declared.context.Context.{Context}
use Rattle.aml_grammar.specs.declared.context.Earlier.{Earlier}
use Rattle.aml_arities.specs.Arities.{found, or_path, arity_of}
use Rattle.aml_grammar.specs.DeclaredNames.{declared_path}
use Rattle.aml_grammar.specs.State.{Step, look, byte, integer, text, all_bytes, bit_count, adding}
use Rattle.aml_grammar.specs.Names.{name_string, segment}
use Rattle.aml_grammar.specs.Tree.{Tree, term, Part, name, number, bytes}
use Rattle.aml_grammar.specs.Shape.{parts_of}

-- an operand, and what it leaves for later ones of its term
abbrev pub Read : Type 0
Read = Part × Earlier

-- a declaration adds its arity, but not in a body
abbrev pub declare : Context → List Seg → ℕ → Bool → Step (Unit {0})
declare context path n external s = (Ok tt, if context.body then s else adding path n external s)

abbrev pub declare_earlier : Context → Option (List Seg) → ℕ → Bool → Step (Unit {0})
declare_earlier context None n external = give tt
declare_earlier context (Some path) n external = declare context path n external

-- the operands that hold terms
abbrev pub holds_terms : OperandKind → Bool
holds_terms kinds.TermArg = true
holds_terms kinds.DataObject = true
holds_terms kinds.SuperName = true
holds_terms kinds.Target = true
holds_terms kinds.SimpleName = true
holds_terms kinds.TermList = true
holds_terms kinds.LoopTermList = true
holds_terms kinds.PackageElementList = true
holds_terms kinds.FieldList = true
holds_terms _ = false

-- ---- names

unfoldable pub name_operand : Step Part
name_operand = do
  n ← name_string
  give (name n)

-- the list of a Scope stands where its name is found, or else at the path that the name stands for
unfoldable pub scope_name : List Seg → Earlier → Step Read
scope_name scope earlier = do
  n ← name_string
  path ← settle (resolved n scope)
  place ← look (λ s. or_path path (found s.arities scope n path))
  give (name n, record earlier { path = Some place })

unfoldable pub alias_source : List Seg → Earlier → Step Read
alias_source scope earlier = do
  n ← name_string
  path ← settle (resolved n scope)
  count ← look (λ s. arity_of s.arities scope n path)
  give (name n, record earlier { count = count })

unfoldable pub external_name : List Seg → Earlier → Step Read
external_name scope earlier = do
  n ← name_string
  path ← settle (resolved n scope)
  give (name n, record earlier { path = Some path })

-- a declared name adds its arity as soon as it is accepted
unfoldable pub declared_name : List Seg → Context → ℕ → ℕ → Earlier → Step Read
declared_name scope context start count earlier = do
  n ← name_string
  path ← settle (declared_path scope context start n)
  added ← declare context path count false
  give (name n, record earlier { path = Some path })

-- ---- numbers and bytes

unfoldable pub integer_operand : ℕ → Step Part
integer_operand width = do
  n ← integer width
  give (number n)

-- the argument count of a Method is bits 2 to 0 of its flags
unfoldable pub method_flags : Context → Earlier → Step Read
method_flags context earlier = do
  n ← byte
  added ← declare_earlier context earlier.path (n % 8) false
  give (number n, earlier)

unfoldable pub object_type : Earlier → Step Read
object_type earlier = do
  n ← byte
  give (number n, record earlier { count = n })

-- the argument count of an External counts where its type is 8, a method
unfoldable pub argument_count : Context → Earlier → Step Read
argument_count context earlier = do
  n ← byte
  added ← declare_earlier context earlier.path (if earlier.count == 8 then n else 0) true
  give (number n, earlier)

unfoldable pub text_operand : Step Part
text_operand = do
  bs ← text
  give (bytes bs)

unfoldable pub bytes_operand : Step Part
bytes_operand = do
  bs ← all_bytes
  give (bytes bs)

-- ---- field elements without terms (FieldElement, 20.2.5.2)

unfoldable pub reserved_field : Step Tree
reserved_field = do
  code ← byte
  n ← bit_count
  give (term ReservedField (parts_of (number n ∷ [])))

unfoldable pub access_field : Step Tree
access_field = do
  code ← byte
  access ← byte
  attribute ← byte
  give (term AccessField (parts_of (number access ∷ number attribute ∷ [])))

unfoldable pub extended_access_field : Step Tree
extended_access_field = do
  code ← byte
  access ← byte
  attribute ← byte
  count ← byte
  give (term ExtendedAccessField (parts_of (number access ∷ number attribute ∷ number count ∷ [])))

abbrev pub one_segment : Seg → Name
one_segment s = record { prefix = Parents 0; segments = s ∷ [] }

-- a named field is declared in the scope where the Field stands
unfoldable pub named_field : List Seg → Context → Step Tree
named_field scope context = do
  s ← segment
  added ← declare context (scope ++ s ∷ []) 0 false
  n ← bit_count
  give (term NamedField (parts_of (name (one_segment s) ∷ number n ∷ [])))
