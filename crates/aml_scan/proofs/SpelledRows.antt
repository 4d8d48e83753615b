-- What holds of each row of the table, and of the kinds of its operands.
use Rattle.std.proofs.Common.{◌≡◌, ℕ, List, [], ◌∷◌, Bool, true, false, Some, refl}
use Rattle.std.specs.Prelude.{◌==◌, ◌&&◌, ◌||◌, not, if◌then◌else◌}
use Rattle.std.specs.List.{find, list_all}
use Rattle.std.proofs.lemmas.Bool.{eqb-true}
use Rattle.aml_grammar.specs.declared.opcode.Opcode.{Opcode}
use Rattle.aml_grammar.specs.declared.opcode.Opcode.TheVariants as opcodes
use Rattle.aml_grammar.specs.declared.kinds.Class.{Class}
use Rattle.aml_grammar.specs.declared.kinds.Class.TheVariants as classes
use Rattle.aml_grammar.specs.declared.kinds.OperandKind.{OperandKind}
use Rattle.aml_grammar.specs.declared.kinds.OperandKind.TheVariants as kinds
use Rattle.aml_grammar.specs.declared.kinds.Row.{Row}
use Rattle.aml_grammar.specs.declared.context.Position.{Position}
use Rattle.aml_grammar.specs.declared.context.Position.TheVariants as positions
use Rattle.aml_grammar.specs.declared.context.Context.{Context}
use Rattle.aml_grammar.specs.Opcodes.{number_of}
use Rattle.aml_grammar.specs.Table.{table, row_of, packaged}
use Rattle.aml_grammar.specs.Grammar.{is_module_level, stands, costs_no_level, is_if, is_nothing, kinds_of}
use Rattle.aml_scan.specs.Spelling.{Around, Place, list_item, term_arg, data_object, package_element, super_name, may_stand, may_have_else, up_to_nothing}

-- ---- places

abbrev pub place_of : Position → Place
place_of positions.ListItem = list_item
place_of positions.TermArg = term_arg
place_of positions.DataObject = data_object
place_of positions.PackageElement = package_element
place_of positions.SuperName = super_name

-- what holds around a term that is read
abbrev pub around_of : Context → Around
around_of context = record { body = context.body; in_loop = context.in_loop }

not_in_body : (b : Bool) → (b && true) ≡ false → not b ≡ true
not_in_body true e = absurd (cc e)
not_in_body false e = refl

pub stands_may : (class : Class) (position : Position) (context : Context) → stands class position context ≡ true → (context.body && is_module_level class) ≡ false → may_stand (around_of context) class (place_of position) ≡ true
stands_may classes.Statement positions.ListItem context e f = refl
stands_may classes.ModuleLevel positions.ListItem context e f = not_in_body context.body f
stands_may classes.InLoop positions.ListItem context e f = e
stands_may classes.InBody positions.ListItem context e f = e
stands_may classes.Expression positions.ListItem context e f = refl
stands_may classes.Expression positions.TermArg context e f = refl
stands_may classes.Data positions.ListItem context e f = refl
stands_may classes.Data positions.TermArg context e f = refl
stands_may classes.Data positions.DataObject context e f = refl
stands_may classes.Data positions.PackageElement context e f = refl
stands_may classes.Reference positions.ListItem context e f = refl
stands_may classes.Reference positions.TermArg context e f = refl
stands_may classes.Reference positions.SuperName context e f = refl
stands_may classes.Slot positions.ListItem context e f = refl
stands_may classes.Slot positions.TermArg context e f = refl
stands_may classes.Slot positions.SuperName context e f = refl
stands_may classes.DebugObject positions.SuperName context e f = refl
stands_may _ _ context e f = absurd (cc e)

pub same_else : (o : Opcode) → may_have_else o ≡ is_if o
same_else opcodes.If = refl
same_else _ = refl

-- ---- kinds

pub kinds_end : (k : OperandKind) (ks : List OperandKind) → is_nothing k ≡ true → up_to_nothing (k ∷ ks) ≡ []
kinds_end kinds.Nothing ks e = refl
kinds_end _ ks e = absurd (cc e)

pub kinds_go_on : (k : OperandKind) (ks : List OperandKind) → is_nothing k ≡ false → up_to_nothing (k ∷ ks) ≡ k ∷ up_to_nothing ks
kinds_go_on kinds.Nothing ks e = absurd (cc e)
kinds_go_on _ ks e = refl

-- what takes all that is left of a package
abbrev pub takes_rest : OperandKind → Bool
takes_rest kinds.TermList = true
takes_rest kinds.LoopTermList = true
takes_rest kinds.ByteList = true
takes_rest kinds.PackageElementList = true
takes_rest kinds.FieldList = true
takes_rest _ = false

abbrev pub some_takes_rest : List OperandKind → Bool
some_takes_rest [] = false
some_takes_rest (k ∷ ks) = if is_nothing k then false else takes_rest k || some_takes_rest ks

-- ---- rows

-- what costs no level in some position has no operands
abbrev pub costs_none : Class → Bool
costs_none classes.DebugObject = true
costs_none classes.Slot = true
costs_none _ = false

pub costs_nothing : (class : Class) (position : Position) → costs_no_level class position ≡ true → costs_none class ≡ true
costs_nothing classes.DebugObject position e = refl
costs_nothing classes.Slot position e = refl
costs_nothing _ position e = absurd (cc e)

-- a package is read to its end
abbrev pub is_closed : Row → Bool
is_closed r = if r.2 then some_takes_rest (kinds_of r.3) else true

abbrev pub is_bare : Row → Bool
is_bare r = if costs_none r.1 then not r.2 && (is_nothing r.3.0 && not (is_if r.0)) else true

all_closed : list_all is_closed table ≡ true
all_closed = refl

all_bare : list_all is_bare table ≡ true
all_bare = refl

found_step : {X : Type 0} (p q : X → Bool) (x y : X) (xs : List X) → (find p xs ≡ Some y → list_all q xs ≡ true → (p y ≡ true) × (q y ≡ true)) → (b c : Bool) → p x ≡ b → q x ≡ c → (if b then Some x else find p xs) ≡ Some y → (c && list_all q xs) ≡ true → (p y ≡ true) × (q y ≡ true)
found_step p q x y xs ih true true e f is all = let same : x ≡ y = cc is in rw (← same) (e, f)
found_step p q x y xs ih false true e f is all = ih is all
found_step p q x y xs ih b false e f is all = absurd (cc all)

pub found_all : {X : Type 0} (p q : X → Bool) (xs : List X) (y : X) → find p xs ≡ Some y → list_all q xs ≡ true → (p y ≡ true) × (q y ≡ true)
found_all p q [] y is all = absurd (cc is)
found_all p q (x ∷ xs) y is all = found_step p q x y xs (found_all p q xs y) (p x) (q x) refl refl is all

pub row_number : (n : ℕ) (row : Row) → row_of n ≡ Some row → number_of row.0 ≡ n
unfolding row_of
row_number n row is = eqb-true (number_of row.0) n (found_all (λ r. number_of r.0 == n) is_bare table row is all_bare).0

pub row_is_bare : (n : ℕ) (row : Row) → row_of n ≡ Some row → is_bare row ≡ true
unfolding row_of
row_is_bare n row is = (found_all (λ r. number_of r.0 == n) is_bare table row is all_bare).1

pub row_is_closed : (n : ℕ) (row : Row) → row_of n ≡ Some row → is_closed row ≡ true
unfolding row_of
row_is_closed n row is = (found_all (λ r. number_of r.0 == n) is_closed table row is all_closed).1

pub else_row : row_of 0xA1 ≡ Some (packaged opcodes.Else classes.AfterIf (kinds.TermList ∷ []))
unfolding row_of
else_row = refl
