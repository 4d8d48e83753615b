-- The operands of a term, where they stand one behind another.
use Rattle.std.specs.Prelude.{Option, Some, None, false, true, take}
use Rattle.aml_grammar.specs.declared.opcode.TermCode.TheVariants as codes
use Rattle.aml_grammar.specs.declared.kinds.Row.{Row}
use Rattle.aml_grammar.specs.Tree.{Tree, term, name, number, bytes, inner, list, Parts, no_parts, part, Trees}
use Rattle.aml_grammar.specs.Shape.{trees_of}
use Rattle.aml_marks.specs.Marked.{Place, Below, over, an_integer, a_name, a_text, a_size, a_target, a_super_name, all_items, fields_left, maybe_else, with_row}
use Rattle.aml_scan.specs.RowsAt.{row_at}
use Rattle.aml_scan.specs.declared.row_places.RowPlace.{RowPlace}
use Rattle.aml_meaning.specs.declared.term_kind.TermKind.{TermKind}
use Rattle.aml_meaning.specs.declared.term_kind.TermKind.TheVariants as kinds
use Rattle.aml_meaning.specs.declared.term_kind.DataKind.{DataKind}
use Rattle.aml_meaning.specs.declared.term_kind.DataKind.TheVariants as datas
use Rattle.aml_meaning.specs.declared.term_kind.OperatorKind.{OperatorKind}
use Rattle.aml_meaning.specs.declared.term_kind.OperatorKind.TheVariants as operators
use Rattle.aml_meaning.specs.declared.term_kind.StatementKind.{StatementKind}
use Rattle.aml_meaning.specs.declared.term_kind.StatementKind.TheVariants as statements
use Rattle.aml_meaning.specs.declared.term_kind.WideKind.{WideKind}
use Rattle.aml_meaning.specs.declared.term_kind.WideKind.TheVariants as wides
use Rattle.aml_meaning.specs.Terms.{kind_of}

-- the place behind a term, and behind two
abbrev pub behind_one : Below → Place → Place
behind_one b p = (b false p).1

abbrev pub behind_two : Below → Place → Place
behind_two b p = behind_one b (behind_one b p)

-- in the package whose length stands next, and behind it
abbrev pub inside_at : Place → Place
inside_at p = record (a_size p).1 { rest = take (a_size p).0 (a_size p).1.rest }

abbrev pub outside_at : Place → Place
outside_at p = over (a_size p).0 (a_size p).1

-- all terms that are left, and all elements of a package
abbrev pub items_at : Below → Place → Trees
items_at b p = trees_of (all_items b false p).0

abbrev pub elements_at : Below → Place → Trees
elements_at b p = trees_of (all_items b true p).0

-- the kind of a row's opcode
abbrev pub row_kind : Option Row → TermKind
row_kind None = kinds.Unsupported
row_kind (Some row) = kind_of row.0

-- the text of a string
abbrev pub text_at : Place → Parts
text_at p = part (bytes (a_text p).0) no_parts

module _ (b : Below) where
  -- ---- operands that terms have

  abbrev pub argument_at : Place → Parts
  argument_at p = part (inner (b false p).0) no_parts

  abbrev pub argument_super_at : Place → Parts
  argument_super_at p = part (inner (b false p).0) (part (a_super_name b (behind_one b p)).0 no_parts)

  abbrev pub argument_target_at : Place → Parts
  argument_target_at p = part (inner (b false p).0) (part (a_target b (behind_one b p)).0 no_parts)

  abbrev pub two_arguments_at : Place → Parts
  two_arguments_at p = part (inner (b false p).0) (part (inner (b false (behind_one b p)).0) no_parts)

  abbrev pub arguments_target_at : Place → Parts
  arguments_target_at p = part (inner (b false p).0) (part (inner (b false (behind_one b p)).0) (part (a_target b (behind_two b p)).0 no_parts))

  abbrev pub arguments_targets_at : Place → Parts
  arguments_targets_at p = part (inner (b false p).0) (part (inner (b false (behind_one b p)).0) (part (a_target b (behind_two b p)).0 (part (a_target b (a_target b (behind_two b p)).1).0 no_parts)))

  abbrev pub three_arguments_target_at : Place → Parts
  three_arguments_target_at p = part (inner (b false p).0) (part (inner (b false (behind_one b p)).0) (part (inner (b false (behind_two b p)).0) (part (a_target b (behind_one b (behind_two b p))).0 no_parts)))

  -- Match: the byte of each operator stands behind the operand before it
  abbrev pub behind_first : Place → Place
  behind_first p = over 1 (behind_one b p)

  abbrev pub behind_second : Place → Place
  behind_second p = over 1 (behind_one b (behind_first p))

  abbrev pub behind_match : Place → Place
  behind_match p = behind_two b (behind_second p)

  abbrev pub match_at : Place → Parts
  match_at p =
      part (inner (b false p).0)
      (part (number (an_integer 1 (behind_one b p)).0)
      (part (inner (b false (behind_first p)).0)
      (part (number (an_integer 1 (behind_one b (behind_first p))).0)
      (part (inner (b false (behind_second p)).0)
      (part (inner (b false (behind_one b (behind_second p))).0) no_parts)))))

  -- BankField: the names of its region and of its bank field, the value, the flags, and the fields
  abbrev pub behind_names : Place → Place
  behind_names p = (a_name (a_name (inside_at p)).1).1

  abbrev pub fields_at : Place → Trees
  fields_at p = trees_of (fields_left b p).0

  abbrev pub bank_at : Place → Parts
  bank_at p =
      let q = behind_names p in
      part (name (a_name (inside_at p)).0) (part (name (a_name (a_name (inside_at p)).1).0) (part (inner (b false q).0) (part (number (an_integer 1 (behind_one b q)).0) (part (list (fields_at (over 1 (behind_one b q)))) no_parts))))

  abbrev pub super_at : Place → Parts
  super_at p = part (a_super_name b p).0 no_parts

  abbrev pub super_word_at : Place → Parts
  super_word_at p = part (a_super_name b p).0 (part (number (an_integer 2 (a_super_name b p).1).0) no_parts)

  abbrev pub super_target_at : Place → Parts
  super_target_at p = part (a_super_name b p).0 (part (a_target b (a_super_name b p).1).0 no_parts)

  abbrev pub super_argument_at : Place → Parts
  super_argument_at p = part (a_super_name b p).0 (part (inner (b false (a_super_name b p).1).0) no_parts)

  abbrev pub numbers_argument_at : Place → Parts
  numbers_argument_at p = part (number (an_integer 1 p).0) (part (number (an_integer 4 (over 1 p)).0) (part (inner (b false (over 4 (over 1 p))).0) no_parts))

  abbrev pub if_at : Place → Parts
  if_at p = part (inner (b false (inside_at p)).0) (part (list (items_at b (behind_one b (inside_at p)))) (part (maybe_else b (outside_at p)).0 no_parts))

  abbrev pub list_at : Place → Parts
  list_at p = part (list (items_at b (inside_at p))) no_parts

  abbrev pub while_at : Place → Parts
  while_at p = part (inner (b false (inside_at p)).0) (part (list (items_at b (behind_one b (inside_at p)))) no_parts)

  abbrev pub buffer_at : Place → Parts
  buffer_at p = part (inner (b false (inside_at p)).0) (part (bytes (behind_one b (inside_at p)).rest) no_parts)

  abbrev pub package_at : Place → Parts
  package_at p = part (number (an_integer 1 (inside_at p)).0) (part (list (elements_at b (over 1 (inside_at p)))) no_parts)

  abbrev pub var_package_at : Place → Parts
  var_package_at p = part (inner (b false (inside_at p)).0) (part (list (elements_at b (behind_one b (inside_at p)))) no_parts)

  -- ---- by the kind of the term, and the place behind them

  abbrev pub operator_parts : OperatorKind → Place → Parts
  operator_parts (operators.Slot slot) p = no_parts
  operator_parts operators.Store p = argument_super_at p
  operator_parts operators.CopyObject p = argument_super_at p
  operator_parts (operators.Two k) p = arguments_target_at p
  operator_parts operators.Divide p = arguments_targets_at p
  operator_parts (operators.One k) p = argument_target_at p
  operator_parts (operators.Test k) p = two_arguments_at p
  operator_parts operators.LNot p = argument_at p
  operator_parts (operators.Count k) p = super_at p
  operator_parts operators.SizeOf p = super_at p
  operator_parts operators.ObjectType p = super_at p
  operator_parts operators.Acquire p = super_word_at p
  operator_parts operators.RefOf p = super_at p
  operator_parts operators.CondRefOf p = super_target_at p
  operator_parts operators.DerefOf p = argument_at p

  abbrev pub behind_operator : OperatorKind → Place → Place
  behind_operator (operators.Slot slot) p = p
  behind_operator operators.Store p = (a_super_name b (behind_one b p)).1
  behind_operator operators.CopyObject p = (a_super_name b (behind_one b p)).1
  behind_operator (operators.Two k) p = (a_target b (behind_two b p)).1
  behind_operator operators.Divide p = (a_target b (a_target b (behind_two b p)).1).1
  behind_operator (operators.One k) p = (a_target b (behind_one b p)).1
  behind_operator (operators.Test k) p = behind_two b p
  behind_operator operators.LNot p = behind_one b p
  behind_operator (operators.Count k) p = (a_super_name b p).1
  behind_operator operators.SizeOf p = (a_super_name b p).1
  behind_operator operators.ObjectType p = (a_super_name b p).1
  behind_operator operators.Acquire p = over 2 (a_super_name b p).1
  behind_operator operators.RefOf p = (a_super_name b p).1
  behind_operator operators.CondRefOf p = (a_target b (a_super_name b p).1).1
  behind_operator operators.DerefOf p = behind_one b p

  abbrev pub statement_parts : StatementKind → Place → Parts
  statement_parts statements.If p = if_at p
  statement_parts statements.Else p = list_at p
  statement_parts statements.While p = while_at p
  statement_parts statements.Break p = no_parts
  statement_parts statements.Continue p = no_parts
  statement_parts statements.Noop p = no_parts
  statement_parts statements.Return p = argument_at p
  statement_parts statements.Release p = super_at p
  statement_parts statements.Notify p = super_argument_at p
  statement_parts statements.Pause p = argument_at p
  statement_parts statements.Fatal p = numbers_argument_at p

  abbrev pub behind_statement : StatementKind → Place → Place
  behind_statement statements.If p = (maybe_else b (outside_at p)).1
  behind_statement statements.Else p = outside_at p
  behind_statement statements.While p = outside_at p
  behind_statement statements.Break p = p
  behind_statement statements.Continue p = p
  behind_statement statements.Noop p = p
  behind_statement statements.Return p = behind_one b p
  behind_statement statements.Release p = (a_super_name b p).1
  behind_statement statements.Notify p = behind_one b (a_super_name b p).1
  behind_statement statements.Pause p = behind_one b p
  behind_statement statements.Fatal p = behind_one b (over 4 (over 1 p))

  abbrev pub wide_parts : WideKind → Place → Parts
  wide_parts (wides.Convert k) p = argument_target_at p
  wide_parts wides.ToString p = arguments_target_at p
  wide_parts wides.Mid p = three_arguments_target_at p
  wide_parts wides.Match p = match_at p
  wide_parts (wides.Event k) p = super_at p
  wide_parts wides.Wait p = super_argument_at p
  wide_parts wides.BankField p = bank_at p

  abbrev pub behind_wide : WideKind → Place → Place
  behind_wide (wides.Convert k) p = (a_target b (behind_one b p)).1
  behind_wide wides.ToString p = (a_target b (behind_two b p)).1
  behind_wide wides.Mid p = (a_target b (behind_one b (behind_two b p))).1
  behind_wide wides.Match p = behind_match p
  behind_wide (wides.Event k) p = (a_super_name b p).1
  behind_wide wides.Wait p = behind_one b (a_super_name b p).1
  behind_wide wides.BankField p = outside_at p

  -- the term of an operator or a statement whose operands stand there: rules don't ask for its opcode
  abbrev pub operator_tree : OperatorKind → Place → Tree
  operator_tree k p = term codes.Name (operator_parts k p)

  abbrev pub statement_tree : StatementKind → Place → Tree
  statement_tree k p = term codes.Name (statement_parts k p)

  abbrev pub wide_tree : WideKind → Place → Tree
  wide_tree k p = term codes.Name (wide_parts k p)

  -- the same of data; how many bytes an integer takes, its opcode says
  abbrev pub data_tree : DataKind → RowPlace → Place → Tree
  data_tree (datas.Constant n) o p = term codes.Name no_parts
  data_tree datas.Integer o p = (with_row b (row_at o) p).0
  data_tree datas.String o p = term codes.Name (text_at p)
  data_tree datas.Buffer o p = term codes.Name (buffer_at p)
  data_tree datas.Package o p = term codes.Name (package_at p)
  data_tree datas.VarPackage o p = term codes.Name (var_package_at p)

  abbrev pub behind_data : DataKind → RowPlace → Place → Place
  behind_data (datas.Constant n) o p = p
  behind_data datas.Integer o p = (with_row b (row_at o) p).1
  behind_data datas.String o p = (a_text p).1
  behind_data datas.Buffer o p = outside_at p
  behind_data datas.Package o p = outside_at p
  behind_data datas.VarPackage o p = outside_at p
