-- What holds of each row of the table: where its opcode stands, and which operands take all that is left.
use Rattle.std.proofs.Common.{◌≡◌, ℕ, List, [], ◌∷◌, Bool, true, false, Option, Some, None, refl, ◌∙◌, sym, ap}
use Rattle.std.specs.Prelude.{◌==◌, ◌&&◌, ◌||◌, not, if◌then◌else◌}
use Rattle.std.specs.List.{list_all}
use Rattle.std.proofs.lemmas.Bool.{eqb-true}
use Rattle.aml_grammar.specs.declared.opcode.Opcode.{Opcode}
use Rattle.aml_grammar.specs.declared.opcode.Opcode.TheVariants as opcodes
use Rattle.aml_grammar.specs.declared.kinds.Class.{Class}
use Rattle.aml_grammar.specs.declared.kinds.Class.TheVariants as classes
use Rattle.aml_grammar.specs.declared.kinds.OperandKind.{OperandKind}
use Rattle.aml_grammar.specs.declared.kinds.Row.{Row}
use Rattle.aml_grammar.specs.declared.context.Position.{Position}
use Rattle.aml_grammar.specs.declared.context.Position.TheVariants as positions
use Rattle.aml_grammar.specs.declared.context.Context.{Context}
use Rattle.aml_grammar.specs.Opcodes.{number_of}
use Rattle.aml_grammar.specs.Table.{table, row_of}
use Rattle.aml_grammar.specs.Names.{starts_name}
use Rattle.aml_grammar.specs.Grammar.{is_module_level, stands, costs_no_level, is_nothing, kinds_of}
use Rattle.aml_scan.specs.Spelling.{Around, field_element, after_if, may_stand}
use Rattle.aml_scan.proofs.SpelledRows.{place_of, around_of, takes_rest, some_takes_rest, found_all}
use Rattle.aml_spelling.specs.Stands.{cost}

-- ---- an opcode has its own row

row_opcode : Opcode → Option Row → Opcode
row_opcode o None = o
row_opcode o (Some row) = row.0

opcode_again : (o : Opcode) → row_opcode o (row_of (number_of o)) ≡ o
unfolding row_of row_opcode
opcode_again opcodes.Zero = refl
opcode_again _ = refl

pub own_row : (o : Opcode) (row : Row) → row_of (number_of o) ≡ Some row → row.0 ≡ o
unfolding row_opcode
own_row o row is = sym (ap (λ r. row_opcode o r) is) ∙ opcode_again o

-- ---- first bytes

abbrev pub is_place : Class → Bool
is_place classes.Reference = true
is_place classes.Slot = true
is_place classes.DebugObject = true
is_place _ = false

abbrev pub is_after_if : Class → Bool
is_after_if classes.AfterIf = true
is_after_if _ = false

abbrev is_begun : Row → Bool
is_begun r = not (starts_name (number_of r.0)) && (not (number_of r.0 == 0x5B) && (not (is_place r.1 && number_of r.0 == 0) && (is_after_if r.1 || not (number_of r.0 == 0xA1))))

all_begun : list_all is_begun table ≡ true
unfolding starts_name
all_begun = refl

and_both : (x y : Bool) → (x && y) ≡ true → (x ≡ true) × (y ≡ true)
and_both true true e = (refl, refl)
and_both true false e = absurd (cc e)
and_both false y e = absurd (cc e)

not_true : (x : Bool) → not x ≡ true → x ≡ false
not_true true e = absurd (cc e)
not_true false e = refl

not_both : (x y : Bool) → not (x && y) ≡ true → x ≡ true → y ≡ false
not_both true true e is = absurd (cc e)
not_both true false e is = refl
not_both false y e is = absurd (cc is)

not_either : (x y : Bool) → (x || not y) ≡ true → x ≡ false → y ≡ false
not_either true y e is = absurd (cc is)
not_either false true e is = absurd (cc e)
not_either false false e is = refl

-- how the number of a row's opcode begins
pub record Begun (row : Row) (n : ℕ) : Type 0 where
  pub no_name : starts_name n ≡ false
  pub no_prefix : (n == 0x5B) ≡ false
  pub no_zero : is_place row.1 ≡ true → (n == 0) ≡ false
  pub no_else : is_after_if row.1 ≡ false → (n == 0xA1) ≡ false

pub row_begun : (n : ℕ) (row : Row) → row_of n ≡ Some row → Begun row n
unfolding row_of
row_begun n row is =
    let all = found_all (λ r. number_of r.0 == n) is_begun table row is all_begun in
    let same : number_of row.0 ≡ n = eqb-true (number_of row.0) n all.0 in
    let one = and_both (not (starts_name (number_of row.0))) _ all.1 in
    let two = and_both (not (number_of row.0 == 0x5B)) _ one.1 in
    let three = and_both (not (is_place row.1 && number_of row.0 == 0)) (is_after_if row.1 || not (number_of row.0 == 0xA1)) two.1 in
    rw (← same) (record {
      no_name = not_true (starts_name (number_of row.0)) one.0;
      no_prefix = not_true (number_of row.0 == 0x5B) two.0;
      no_zero = not_both (is_place row.1) (number_of row.0 == 0) three.0;
      no_else = not_either (is_after_if row.1) (number_of row.0 == 0xA1) three.1;
    })

-- ---- operands that take all that is left stand last, and in a package

abbrev pub ends : List OperandKind → Bool
ends [] = true
ends (k ∷ ks) = is_nothing k

abbrev pub rest_is_last : List OperandKind → Bool
rest_is_last [] = true
rest_is_last (k ∷ ks) = if is_nothing k then true else (if takes_rest k then ends ks else rest_is_last ks)

pub ends_last : (ks : List OperandKind) → ends ks ≡ true → rest_is_last ks ≡ true
ends_last [] e = refl
ends_last (k ∷ ks) e = rw e refl

abbrev is_ordered : Row → Bool
is_ordered r = rest_is_last (kinds_of r.3) && (if some_takes_rest (kinds_of r.3) then r.2 else true)

all_ordered : list_all is_ordered table ≡ true
all_ordered = refl

if_true : (c x : Bool) → (if c then x else true) ≡ true → c ≡ true → x ≡ true
if_true true x e is = e
if_true false x e is = absurd (cc is)

pub row_ordered : (n : ℕ) (row : Row) → row_of n ≡ Some row → (rest_is_last (kinds_of row.3) ≡ true) × (some_takes_rest (kinds_of row.3) ≡ true → row.2 ≡ true)
unfolding row_of
row_ordered n row is =
    let all = found_all (λ r. number_of r.0 == n) is_ordered table row is all_ordered in
    let one = and_both (rest_is_last (kinds_of row.3)) _ all.1 in
    (one.0, if_true (some_takes_rest (kinds_of row.3)) row.2 one.1)

-- ---- an Else alone stands after an If

abbrev is_else_alone : Row → Bool
is_else_alone r = if is_after_if r.1 then number_of r.0 == 0xA1 else true

all_else : list_all is_else_alone table ≡ true
all_else = refl

stands_after_if : (around : Around) (class : Class) → may_stand around class after_if ≡ true → is_after_if class ≡ true
stands_after_if around classes.AfterIf e = refl
stands_after_if around _ e = absurd (cc e)

pub row_after_if : (around : Around) (n : ℕ) (row : Row) → row_of n ≡ Some row → may_stand around row.1 after_if ≡ true → n ≡ 0xA1
unfolding row_of
row_after_if around n row is may =
    let all = found_all (λ r. number_of r.0 == n) is_else_alone table row is all_else in
    let same : number_of row.0 ≡ n = eqb-true (number_of row.0) n all.0 in
    sym same ∙ eqb-true (number_of row.0) 0xA1 (if_true (is_after_if row.1) (number_of row.0 == 0xA1) all.1 (stands_after_if around row.1 may))

-- ---- places

pub no_field : (around : Around) (class : Class) → may_stand around class field_element ≡ true → ⊥
no_field around classes.Statement e = cc e
no_field around classes.ModuleLevel e = cc e
no_field around classes.InLoop e = cc e
no_field around classes.InBody e = cc e
no_field around classes.AfterIf e = cc e
no_field around classes.Expression e = cc e
no_field around classes.Data e = cc e
no_field around classes.Reference e = cc e
no_field around classes.Slot e = cc e
no_field around classes.DebugObject e = cc e

out_of_body : (b : Bool) → not b ≡ true → (b && true) ≡ false
out_of_body true e = absurd (cc e)
out_of_body false e = refl

no_more : (b : Bool) → (b && false) ≡ false
no_more true = refl
no_more false = refl

pub may_stands : (class : Class) (position : Position) (context : Context) → may_stand (around_of context) class (place_of position) ≡ true → (stands class position context ≡ true) × ((context.body && is_module_level class) ≡ false)
may_stands classes.Statement positions.ListItem context e = (refl, no_more context.body)
may_stands classes.ModuleLevel positions.ListItem context e = (refl, out_of_body context.body e)
may_stands classes.InLoop positions.ListItem context e = (e, no_more context.body)
may_stands classes.InBody positions.ListItem context e = (e, no_more context.body)
may_stands classes.Expression positions.ListItem context e = (refl, no_more context.body)
may_stands classes.Expression positions.TermArg context e = (refl, no_more context.body)
may_stands classes.Data positions.ListItem context e = (refl, no_more context.body)
may_stands classes.Data positions.TermArg context e = (refl, no_more context.body)
may_stands classes.Data positions.DataObject context e = (refl, no_more context.body)
may_stands classes.Data positions.PackageElement context e = (refl, no_more context.body)
may_stands classes.Reference positions.ListItem context e = (refl, no_more context.body)
may_stands classes.Reference positions.TermArg context e = (refl, no_more context.body)
may_stands classes.Reference positions.SuperName context e = (refl, no_more context.body)
may_stands classes.Slot positions.ListItem context e = (refl, no_more context.body)
may_stands classes.Slot positions.TermArg context e = (refl, no_more context.body)
may_stands classes.Slot positions.SuperName context e = (refl, no_more context.body)
may_stands classes.DebugObject positions.SuperName context e = (refl, no_more context.body)
may_stands classes.AfterIf positions.ListItem context e = absurd (cc e)
may_stands classes.AfterIf positions.TermArg context e = absurd (cc e)
may_stands classes.AfterIf positions.DataObject context e = absurd (cc e)
may_stands classes.AfterIf positions.PackageElement context e = absurd (cc e)
may_stands classes.AfterIf positions.SuperName context e = absurd (cc e)
may_stands _ _ context e = absurd (cc e)

pub super_is_place : (around : Around) (class : Class) → may_stand around class (place_of positions.SuperName) ≡ true → is_place class ≡ true
super_is_place around classes.Reference e = refl
super_is_place around classes.Slot e = refl
super_is_place around classes.DebugObject e = refl
super_is_place around _ e = absurd (cc e)

pub item_after_no_if : (around : Around) (class : Class) → may_stand around class (place_of positions.ListItem) ≡ true → is_after_if class ≡ false
item_after_no_if around classes.AfterIf e = absurd (cc e)
item_after_no_if around _ e = refl

-- what a term costs as it is read
pub cost_is : (class : Class) (position : Position) (c : Bool) → costs_no_level class position ≡ c → cost class (place_of position) ≡ (if c then 0 else 1)
cost_is classes.DebugObject position true e = refl
cost_is classes.Slot positions.SuperName true e = refl
cost_is classes.DebugObject position false e = absurd (cc e)
cost_is classes.Slot positions.SuperName false e = absurd (cc e)
cost_is classes.Slot positions.ListItem false e = refl
cost_is classes.Slot positions.TermArg false e = refl
cost_is classes.Slot positions.DataObject false e = refl
cost_is classes.Slot positions.PackageElement false e = refl
cost_is _ _ false e = refl
cost_is _ _ true e = absurd (cc e)
