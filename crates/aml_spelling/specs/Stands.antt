-- What a tree asks of where it stands, beside its spelling (ACPI 6.5, 5.3 and 20.2.5): names that resolve in their scopes, as
-- many arguments as each name takes there, and no more levels than are left. What is declared on the way counts from there on.
use Rattle.std.specs.Prelude.{◌≡◌, ℕ, zero, suc, ◌+◌, ◌%◌, List, [], ◌∷◌, ◌++◌, length, Bool, true, false, Option, Some, None, Ok, ◌==◌, ◌&&◌, if◌then◌else◌}
use Rattle.aml_path.specs.declared.segment.Seg.{Seg}
use Rattle.aml_path.specs.Paths.{Name, resolved}
use Rattle.aml_grammar.specs.declared.opcode.TermCode.TheVariants as codes
use Rattle.aml_grammar.specs.declared.kinds.Class.{Class}
use Rattle.aml_grammar.specs.declared.kinds.Class.TheVariants as classes
use Rattle.aml_grammar.specs.declared.kinds.OperandKind.{OperandKind}
use Rattle.aml_grammar.specs.declared.kinds.OperandKind.TheVariants as kinds
use Rattle.aml_grammar.specs.declared.kinds.Row.{Row}
use Rattle.aml_grammar.specs.declared.context.Earlier.{Earlier}
use Rattle.aml_grammar.specs.Grammar.{scope_of}
use Rattle.aml_arities.specs.declared.arities.Arity.{Arity}
use Rattle.aml_arities.specs.Arities.{found, or_path, arity_of}
use Rattle.aml_grammar.specs.DeclaredNames.{begins_outside}
use Rattle.aml_grammar.specs.Opcodes.{number_of}
use Rattle.aml_grammar.specs.Table.{row_of}
use Rattle.aml_grammar.specs.Tree.{Tree, term, Part, name, number, inner, list, Parts, no_parts, part, Trees, no_trees, tree}
use Rattle.aml_grammar.specs.Shape.{trees_of}
use Rattle.aml_scan.specs.Spelling.{Place, list_item, term_arg, data_object, package_element, super_name, field_element, Around, inside_loop, operand_kinds, may_have_else}

-- ---- what is declared

-- so many levels deep terms may be
abbrev pub most_levels : ℕ
most_levels = 64

-- no operand is before
abbrev pub nothing_before : Earlier
nothing_before = record { path = None; count = 0 }

-- a declaration counts for what follows, but not in a body
abbrev pub declaring : Bool → List Seg → ℕ → Bool → List Arity → List Arity
declaring body path n external known = if body then known else known ++ record { path = path; count = n; external = external } ∷ []

abbrev pub declaring_earlier : Bool → Option (List Seg) → ℕ → Bool → List Arity → List Arity
declaring_earlier body None n external known = known
declaring_earlier body (Some path) n external known = declaring body path n external known

-- A name may be declared: it has a segment, it stands for this path, and in a body it begins with none of `\` and `^`.
abbrev pub Declares : List Seg → Bool → Name → List Seg → Type 0
Declares scope body n path = ((length n.segments == 0) ≡ false) × (resolved n scope ≡ Ok path) × ((body && begins_outside n) ≡ false)

-- ---- levels

-- a local, an argument or Debug as a place costs no level
abbrev pub cost : Class → Place → ℕ
cost classes.DebugObject place = 0
cost classes.Slot super_name = 0
cost _ _ = 1

-- ---- terms

abbrev pub count_of : Trees → ℕ
count_of no_trees = zero
count_of (tree t ts) = suc (count_of ts)

unfoldable mutual
  -- So many levels are left for a term in a scope and a place, where these arities are known before it and those after it.
  pub Stands : ℕ → List Seg → Around → Place → Tree → List Arity → List Arity → Type 0
  Stands levels scope around place (term (codes.Opcode o) ps) known after =
      (row : Row) × (row_of (number_of o) ≡ Some row) × (below : ℕ) × (levels ≡ cost row.1 place + below) × StandOperands below scope around (may_have_else o) (operand_kinds row.3) ps nothing_before known after
  -- a name has as many arguments as it takes
  Stands levels scope around place (term codes.MethodInvocation (part (name n) (part (list ts) no_parts))) known after =
      (path : List Seg) × (resolved n scope ≡ Ok path) × (count_of ts ≡ arity_of known scope n path) × (below : ℕ) × (levels ≡ suc below) × StandAll below scope around term_arg ts known after
  Stands levels scope around place (term codes.Name ps) known after = (below : ℕ) × (levels ≡ suc below) × (after ≡ known)
  Stands levels scope around place (term codes.NamedField (part (name n) ps)) known after = after ≡ declaring around.body (scope ++ n.segments) 0 false known
  Stands levels scope around place (term codes.ConnectField (part (inner t) ps)) known after = Stands levels scope around data_object t known after
  Stands levels scope around place _ known after = after ≡ known

  pub StandAll : ℕ → List Seg → Around → Place → Trees → List Arity → List Arity → Type 0
  StandAll levels scope around place no_trees known after = after ≡ known
  StandAll levels scope around place (tree t ts) known after = (mid : List Arity) × Stands levels scope around place t known mid × StandAll levels scope around place ts mid after

  -- the operands of a term: each may leave a path or a count for later ones
  pub StandOperands : ℕ → List Seg → Around → Bool → List OperandKind → Parts → Earlier → List Arity → List Arity → Type 0
  StandOperands levels scope around has_else (k ∷ ks) (part p ps) earlier known after =
      (later : Earlier) × (mid : List Arity) × StandsOperand levels scope around k p earlier known later mid × StandOperands levels scope around has_else ks ps later mid after
  -- the list of an Else stands at the level of that of its If
  StandOperands levels scope around true [] (part (inner (term code (part (list ts) no_parts))) no_parts) earlier known after = StandAll levels scope around list_item ts known after
  StandOperands levels scope around _ _ _ earlier known after = after ≡ known

  pub StandsOperand : ℕ → List Seg → Around → OperandKind → Part → Earlier → List Arity → Earlier → List Arity → Type 0
  StandsOperand levels scope around kinds.ScopeName (name n) earlier known later after =
      (path : List Seg) × (resolved n scope ≡ Ok path) × (later ≡ record earlier { path = Some (or_path path (found known scope n path)) }) × (after ≡ known)
  StandsOperand levels scope around kinds.AliasSource (name n) earlier known later after =
      (path : List Seg) × (resolved n scope ≡ Ok path) × (later ≡ record earlier { count = arity_of known scope n path }) × (after ≡ known)
  StandsOperand levels scope around kinds.ExternalName (name n) earlier known later after =
      (path : List Seg) × (resolved n scope ≡ Ok path) × (later ≡ record earlier { path = Some path }) × (after ≡ known)
  StandsOperand levels scope around kinds.AliasName (name n) earlier known later after =
      (path : List Seg) × Declares scope around.body n path × (later ≡ record earlier { path = Some path }) × (after ≡ declaring around.body path earlier.count false known)
  StandsOperand levels scope around kinds.DeclaredName (name n) earlier known later after =
      (path : List Seg) × Declares scope around.body n path × (later ≡ record earlier { path = Some path }) × (after ≡ declaring around.body path 0 false known)
  StandsOperand levels scope around kinds.MethodFlags (number n) earlier known later after = (later ≡ earlier) × (after ≡ declaring_earlier around.body earlier.path (n % 8) false known)
  StandsOperand levels scope around kinds.ObjectType (number n) earlier known later after = (later ≡ record earlier { count = n }) × (after ≡ known)
  StandsOperand levels scope around kinds.ArgumentCount (number n) earlier known later after =
      (later ≡ earlier) × (after ≡ declaring_earlier around.body earlier.path (if earlier.count == 8 then n else 0) true known)
  StandsOperand levels scope around kinds.TermArg (inner t) earlier known later after = (later ≡ earlier) × Stands levels scope around term_arg t known after
  StandsOperand levels scope around kinds.DataObject (inner t) earlier known later after = (later ≡ earlier) × Stands levels scope around data_object t known after
  StandsOperand levels scope around kinds.SuperName (inner t) earlier known later after = (later ≡ earlier) × Stands levels scope around super_name t known after
  StandsOperand levels scope around kinds.SimpleName (inner t) earlier known later after = (later ≡ earlier) × Stands levels scope around super_name t known after
  StandsOperand levels scope around kinds.Target (inner t) earlier known later after = (later ≡ earlier) × Stands levels scope around super_name t known after
  StandsOperand levels scope around kinds.TermList (list ts) earlier known later after = (later ≡ earlier) × StandAll levels (scope_of scope earlier.path) around list_item ts known after
  StandsOperand levels scope around kinds.LoopTermList (list ts) earlier known later after = (later ≡ earlier) × StandAll levels (scope_of scope earlier.path) (inside_loop around) list_item ts known after
  StandsOperand levels scope around kinds.PackageElementList (list ts) earlier known later after = (later ≡ earlier) × StandAll levels (scope_of scope earlier.path) around package_element ts known after
  StandsOperand levels scope around kinds.FieldList (list ts) earlier known later after = (later ≡ earlier) × StandAll levels scope around field_element ts known after
  StandsOperand levels scope around _ _ earlier known later after = (later ≡ earlier) × (after ≡ known)

-- the trees of a whole list, of a table or of a body, may stand in a scope, within so many levels
abbrev pub StandWithin : ℕ → List Seg → Bool → List Tree → List Arity → List Arity → Type 0
StandWithin levels scope body ts known after = StandAll levels scope (record { body = body; in_loop = false }) list_item (trees_of ts) known after

-- within as many as there may be
abbrev pub MayStand : List Seg → Bool → List Tree → List Arity → List Arity → Type 0
MayStand scope body ts known after = StandWithin most_levels scope body ts known after
