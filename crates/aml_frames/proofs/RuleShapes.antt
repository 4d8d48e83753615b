-- A term whose opcode was read has the rule of its kind, over the operands that stand there.
use Rattle.std.specs.Prelude.{◌≡◌, ◌≢◌, ℕ, List, Option, Some, None, refl}
use Rattle.std.proofs.Common.{◌∙◌, ap, sym}
use Rattle.ar_space.specs.Accesses.{Accesses}
use Rattle.aml_path.specs.declared.segment.Seg.{Seg}
use Rattle.aml_grammar.specs.declared.opcode.TermCode.{TermCode}
use Rattle.aml_grammar.specs.declared.opcode.TermCode.TheVariants as codes
use Rattle.aml_grammar.specs.declared.kinds.Row.{Row}
use Rattle.aml_grammar.specs.Tree.{Tree, term, Part, null, name, number, bytes, inner, list, Parts, no_parts}
use Rattle.aml_grammar.specs.Apart.{code_of}
use Rattle.aml_marks.specs.Marked.{Place, Below, a_name, a_text, with_row}
use Rattle.aml_scan.specs.RowsAt.{row_at}
use Rattle.aml_scan.specs.declared.row_places.RowPlace.{RowPlace}
use Rattle.aml_world.specs.state.Run.{Run}
use Rattle.aml_meaning.specs.declared.flow.Flow.{Flow}
use Rattle.aml_meaning.specs.declared.term_kind.TargetKind.{TargetKind}
use Rattle.aml_meaning.specs.declared.term_kind.TargetKind.TheVariants as targets
use Rattle.aml_meaning.specs.declared.term_kind.TermKind.{TermKind}
use Rattle.aml_meaning.specs.declared.term_kind.TermKind.TheVariants as kinds
use Rattle.aml_meaning.specs.declared.term_kind.DataKind.{DataKind}
use Rattle.aml_meaning.specs.declared.term_kind.DataKind.TheVariants as datas
use Rattle.aml_meaning.specs.declared.term_kind.DeclarationKind.{DeclarationKind}
use Rattle.aml_meaning.specs.declared.term_kind.DeclarationKind.TheVariants as declarations
use Rattle.aml_meaning.specs.declared.term_kind.OperatorKind.{OperatorKind}
use Rattle.aml_meaning.specs.declared.term_kind.OperatorKind.TheVariants as operators
use Rattle.aml_meaning.specs.declared.term_kind.RegionKind.{RegionKind}
use Rattle.aml_meaning.specs.declared.term_kind.RegionKind.TheVariants as regions
use Rattle.aml_meaning.specs.declared.term_kind.StatementKind.{StatementKind}
use Rattle.aml_meaning.specs.declared.term_kind.StatementKind.TheVariants as statements
use Rattle.aml_meaning.specs.Tasks.{Task, value_at, two_values}
use Rattle.aml_meaning.specs.Terms.{target_kind, kind_of}
use Rattle.aml_meaning.specs.TargetTerms.{target_at, targeted, name_target}
use Rattle.aml_meaning.specs.DataTerms.{integer_rule, string_rule, buffer_rule, package_rule, var_package_rule, data_rule}
use Rattle.aml_meaning.specs.DeclarationTerms.{declaring, name_rule, alias_rule, method_rule, scope_rule, new_scope, declaration_rule}
use Rattle.aml_meaning.specs.FieldTerms.{region_rule, field_list_rule, index_list_rule, sized_field_rule, bits_field_rule, region_term_rule}
use Rattle.aml_meaning.specs.OperatorTerms.{store_rule, copy_rule, two_rule, divide_rule, one_rule, test_rule, lnot_rule, count_rule, referent_of_target, referent_by_kind, referent_by, size_rule, type_rule, acquire_rule, reference_rule, dereference_rule, sought_name, sought_target, reference_stored, conditional_rule, operator_rule}
use Rattle.aml_meaning.specs.StatementTerms.{if_rule, else_rule, while_rule, return_rule, release_rule, notify_rule, pause_rule, fatal_rule, statement_rule}
use Rattle.aml_meaning.specs.declared.term_kind.WideKind.{WideKind}
use Rattle.aml_meaning.specs.declared.term_kind.WideKind.TheVariants as wides
use Rattle.aml_meaning.specs.BankTerms.{bank_list_rule}
use Rattle.aml_meaning.specs.WideTerms.{in_wide, formed_at, convert_rule, to_string_rule, middle_rule, event_rule, wait_rule, wide_rule}
use Rattle.aml_meaning.specs.MatchTerms.{match_rule}
use Rattle.aml_meaning.specs.Evaluation.{kind_rule, code_rule}
use Rattle.aml_frames.specs.Declarations.{datum_at, scope_at, power_resource_at, processor_at, declaration_tree, behind_declaration}
use Rattle.aml_frames.specs.RegionTerms.{behind_space, region_at, sized_field_at, bits_field_at, region_tree, behind_region}
use Rattle.aml_frames.specs.Operands.{row_kind, behind_one, behind_two, outside_at, text_at, buffer_at, package_at, var_package_at, operator_parts, behind_operator, statement_parts, behind_statement, wide_parts, behind_wide, operator_tree, statement_tree, wide_tree, data_tree, behind_data}
use Rattle.aml_frames.proofs.MatchShapes.{a_match}
use Rattle.aml_frames.proofs.OperandShapes.{a_bank, stands, no_operand, an_argument, a_super, argument_super, argument_target, two_arguments, arguments_target, arguments_targets, three_arguments_target, super_word, super_target, super_argument, numbers_argument, an_if, an_else_row, a_while, a_string, a_buffer, a_package, a_var_package, a_datum, a_scope, a_power_resource, a_processor, a_region, a_sized_field, a_bits_field, code_stands}

-- ---- the operands of a term by its kind

record Shape (b : Below) (o : RowPlace) (p : Place) (ps : Parts) (q : Place) : Type 0 where
  row : Row
  there : row_at o ≡ Some row
  is : with_row b (row_at o) p ≡ (term (codes.Opcode row.0) ps, q)

shaped : {b : Below} {o : RowPlace} {p : Place} {ps : Parts} {q : Place} (row : Row) → row_at o ≡ Some row → with_row b (Some row) p ≡ (term (codes.Opcode row.0) ps, q) → Shape b o p ps q
shaped {b = b} {p = p} row e h = record { row = row; there = e; is = ap (λ r. with_row b r p) e ∙ h }

operator_shape : (b : Below) (k : OperatorKind) (o : RowPlace) (p : Place) → row_kind (row_at o) ≡ kinds.Operator k → Shape b o p (operator_parts b k p) (behind_operator b k p)
operator_shape b (operators.Slot slot) o p e = let x = stands (kinds.Operator (operators.Slot slot)) o e (λ h. absurd (cc h)) in shaped x.0 x.1.0 (no_operand b x.0 p x.1.1)
operator_shape b operators.Store o p e = let x = stands (kinds.Operator operators.Store) o e (λ h. absurd (cc h)) in shaped x.0 x.1.0 (argument_super b x.0 p x.1.1)
operator_shape b operators.CopyObject o p e = let x = stands (kinds.Operator operators.CopyObject) o e (λ h. absurd (cc h)) in shaped x.0 x.1.0 (argument_super b x.0 p x.1.1)
operator_shape b (operators.Two k) o p e = let x = stands (kinds.Operator (operators.Two k)) o e (λ h. absurd (cc h)) in shaped x.0 x.1.0 (arguments_target b x.0 p x.1.1)
operator_shape b operators.Divide o p e = let x = stands (kinds.Operator operators.Divide) o e (λ h. absurd (cc h)) in shaped x.0 x.1.0 (arguments_targets b x.0 p x.1.1)
operator_shape b (operators.One k) o p e = let x = stands (kinds.Operator (operators.One k)) o e (λ h. absurd (cc h)) in shaped x.0 x.1.0 (argument_target b x.0 p x.1.1)
operator_shape b (operators.Test k) o p e = let x = stands (kinds.Operator (operators.Test k)) o e (λ h. absurd (cc h)) in shaped x.0 x.1.0 (two_arguments b x.0 p x.1.1)
operator_shape b operators.LNot o p e = let x = stands (kinds.Operator operators.LNot) o e (λ h. absurd (cc h)) in shaped x.0 x.1.0 (an_argument b x.0 p x.1.1)
operator_shape b (operators.Count k) o p e = let x = stands (kinds.Operator (operators.Count k)) o e (λ h. absurd (cc h)) in shaped x.0 x.1.0 (a_super b x.0 p x.1.1)
operator_shape b operators.SizeOf o p e = let x = stands (kinds.Operator operators.SizeOf) o e (λ h. absurd (cc h)) in shaped x.0 x.1.0 (a_super b x.0 p x.1.1)
operator_shape b operators.ObjectType o p e = let x = stands (kinds.Operator operators.ObjectType) o e (λ h. absurd (cc h)) in shaped x.0 x.1.0 (a_super b x.0 p x.1.1)
operator_shape b operators.Acquire o p e = let x = stands (kinds.Operator operators.Acquire) o e (λ h. absurd (cc h)) in shaped x.0 x.1.0 (super_word b x.0 p x.1.1)
operator_shape b operators.RefOf o p e = let x = stands (kinds.Operator operators.RefOf) o e (λ h. absurd (cc h)) in shaped x.0 x.1.0 (a_super b x.0 p x.1.1)
operator_shape b operators.CondRefOf o p e = let x = stands (kinds.Operator operators.CondRefOf) o e (λ h. absurd (cc h)) in shaped x.0 x.1.0 (super_target b x.0 p x.1.1)
operator_shape b operators.DerefOf o p e = let x = stands (kinds.Operator operators.DerefOf) o e (λ h. absurd (cc h)) in shaped x.0 x.1.0 (an_argument b x.0 p x.1.1)

statement_shape : (b : Below) (k : StatementKind) (o : RowPlace) (p : Place) → row_kind (row_at o) ≡ kinds.Statement k → Shape b o p (statement_parts b k p) (behind_statement b k p)
statement_shape b statements.If o p e = let x = stands (kinds.Statement statements.If) o e (λ h. absurd (cc h)) in shaped x.0 x.1.0 (an_if b x.0 p x.1.1)
statement_shape b statements.Else o p e = let x = stands (kinds.Statement statements.Else) o e (λ h. absurd (cc h)) in shaped x.0 x.1.0 (an_else_row b x.0 p x.1.1)
statement_shape b statements.While o p e = let x = stands (kinds.Statement statements.While) o e (λ h. absurd (cc h)) in shaped x.0 x.1.0 (a_while b x.0 p x.1.1)
statement_shape b statements.Break o p e = let x = stands (kinds.Statement statements.Break) o e (λ h. absurd (cc h)) in shaped x.0 x.1.0 (no_operand b x.0 p x.1.1)
statement_shape b statements.Continue o p e = let x = stands (kinds.Statement statements.Continue) o e (λ h. absurd (cc h)) in shaped x.0 x.1.0 (no_operand b x.0 p x.1.1)
statement_shape b statements.Noop o p e = let x = stands (kinds.Statement statements.Noop) o e (λ h. absurd (cc h)) in shaped x.0 x.1.0 (no_operand b x.0 p x.1.1)
statement_shape b statements.Return o p e = let x = stands (kinds.Statement statements.Return) o e (λ h. absurd (cc h)) in shaped x.0 x.1.0 (an_argument b x.0 p x.1.1)
statement_shape b statements.Release o p e = let x = stands (kinds.Statement statements.Release) o e (λ h. absurd (cc h)) in shaped x.0 x.1.0 (a_super b x.0 p x.1.1)
statement_shape b statements.Notify o p e = let x = stands (kinds.Statement statements.Notify) o e (λ h. absurd (cc h)) in shaped x.0 x.1.0 (super_argument b x.0 p x.1.1)
statement_shape b statements.Pause o p e = let x = stands (kinds.Statement statements.Pause) o e (λ h. absurd (cc h)) in shaped x.0 x.1.0 (an_argument b x.0 p x.1.1)
statement_shape b statements.Fatal o p e = let x = stands (kinds.Statement statements.Fatal) o e (λ h. absurd (cc h)) in shaped x.0 x.1.0 (numbers_argument b x.0 p x.1.1)

wide_shape : (b : Below) (k : WideKind) (o : RowPlace) (p : Place) → row_kind (row_at o) ≡ kinds.Wide k → Shape b o p (wide_parts b k p) (behind_wide b k p)
wide_shape b (wides.Convert k) o p e = let x = stands (kinds.Wide (wides.Convert k)) o e (λ h. absurd (cc h)) in shaped x.0 x.1.0 (argument_target b x.0 p x.1.1)
wide_shape b wides.ToString o p e = let x = stands (kinds.Wide wides.ToString) o e (λ h. absurd (cc h)) in shaped x.0 x.1.0 (arguments_target b x.0 p x.1.1)
wide_shape b wides.Mid o p e = let x = stands (kinds.Wide wides.Mid) o e (λ h. absurd (cc h)) in shaped x.0 x.1.0 (three_arguments_target b x.0 p x.1.1)
wide_shape b wides.Match o p e = let x = stands (kinds.Wide wides.Match) o e (λ h. absurd (cc h)) in shaped x.0 x.1.0 (a_match b x.0 p x.1.1)
wide_shape b (wides.Event k) o p e = let x = stands (kinds.Wide (wides.Event k)) o e (λ h. absurd (cc h)) in shaped x.0 x.1.0 (a_super b x.0 p x.1.1)
wide_shape b wides.Wait o p e = let x = stands (kinds.Wide wides.Wait) o e (λ h. absurd (cc h)) in shaped x.0 x.1.0 (super_argument b x.0 p x.1.1)
wide_shape b wides.BankField o p e = let x = stands (kinds.Wide wides.BankField) o e (λ h. absurd (cc h)) in shaped x.0 x.1.0 (a_bank b x.0 p x.1.1)

constant_shape : (b : Below) (n : ℕ) (o : RowPlace) (p : Place) → row_kind (row_at o) ≡ kinds.Data (datas.Constant n) → Shape b o p no_parts p
constant_shape b n o p e = let x = stands (kinds.Data (datas.Constant n)) o e (λ h. absurd (cc h)) in shaped x.0 x.1.0 (no_operand b x.0 p x.1.1)

string_shape : (b : Below) (o : RowPlace) (p : Place) → row_kind (row_at o) ≡ kinds.Data datas.String → Shape b o p (text_at p) (a_text p).1
string_shape b o p e = let x = stands (kinds.Data datas.String) o e (λ h. absurd (cc h)) in shaped x.0 x.1.0 (a_string b x.0 p x.1.1)

buffer_shape : (b : Below) (o : RowPlace) (p : Place) → row_kind (row_at o) ≡ kinds.Data datas.Buffer → Shape b o p (buffer_at b p) (outside_at p)
buffer_shape b o p e = let x = stands (kinds.Data datas.Buffer) o e (λ h. absurd (cc h)) in shaped x.0 x.1.0 (a_buffer b x.0 p x.1.1)

package_shape : (b : Below) (o : RowPlace) (p : Place) → row_kind (row_at o) ≡ kinds.Data datas.Package → Shape b o p (package_at b p) (outside_at p)
package_shape b o p e = let x = stands (kinds.Data datas.Package) o e (λ h. absurd (cc h)) in shaped x.0 x.1.0 (a_package b x.0 p x.1.1)

var_package_shape : (b : Below) (o : RowPlace) (p : Place) → row_kind (row_at o) ≡ kinds.Data datas.VarPackage → Shape b o p (var_package_at b p) (outside_at p)
var_package_shape b o p e = let x = stands (kinds.Data datas.VarPackage) o e (λ h. absurd (cc h)) in shaped x.0 x.1.0 (a_var_package b x.0 p x.1.1)

datum_shape : (b : Below) (o : RowPlace) (p : Place) → row_kind (row_at o) ≡ kinds.Declaration declarations.Name → Shape b o p (datum_at b p) (behind_one b (a_name p).1)
datum_shape b o p e = let x = stands (kinds.Declaration declarations.Name) o e (λ h. absurd (cc h)) in shaped x.0 x.1.0 (a_datum b x.0 p x.1.1)

scope_shape : (b : Below) (o : RowPlace) (p : Place) → row_kind (row_at o) ≡ kinds.Declaration declarations.Scope → Shape b o p (scope_at b p) (outside_at p)
scope_shape b o p e = let x = stands (kinds.Declaration declarations.Scope) o e (λ h. absurd (cc h)) in shaped x.0 x.1.0 (a_scope b x.0 p x.1.1)

device_shape : (b : Below) (o : RowPlace) (p : Place) → row_kind (row_at o) ≡ kinds.Declaration declarations.Device → Shape b o p (scope_at b p) (outside_at p)
device_shape b o p e = let x = stands (kinds.Declaration declarations.Device) o e (λ h. absurd (cc h)) in shaped x.0 x.1.0 (a_scope b x.0 p x.1.1)

thermal_zone_shape : (b : Below) (o : RowPlace) (p : Place) → row_kind (row_at o) ≡ kinds.Declaration declarations.ThermalZone → Shape b o p (scope_at b p) (outside_at p)
thermal_zone_shape b o p e = let x = stands (kinds.Declaration declarations.ThermalZone) o e (λ h. absurd (cc h)) in shaped x.0 x.1.0 (a_scope b x.0 p x.1.1)

power_resource_shape : (b : Below) (o : RowPlace) (p : Place) → row_kind (row_at o) ≡ kinds.Declaration declarations.PowerResource → Shape b o p (power_resource_at b p) (outside_at p)
power_resource_shape b o p e = let x = stands (kinds.Declaration declarations.PowerResource) o e (λ h. absurd (cc h)) in shaped x.0 x.1.0 (a_power_resource b x.0 p x.1.1)

processor_shape : (b : Below) (o : RowPlace) (p : Place) → row_kind (row_at o) ≡ kinds.Declaration declarations.Processor → Shape b o p (processor_at b p) (outside_at p)
processor_shape b o p e = let x = stands (kinds.Declaration declarations.Processor) o e (λ h. absurd (cc h)) in shaped x.0 x.1.0 (a_processor b x.0 p x.1.1)

region_shape : (b : Below) (o : RowPlace) (p : Place) → row_kind (row_at o) ≡ kinds.Region regions.OperationRegion → Shape b o p (region_at b p) (behind_two b (behind_space p))
region_shape b o p e = let x = stands (kinds.Region regions.OperationRegion) o e (λ h. absurd (cc h)) in shaped x.0 x.1.0 (a_region b x.0 p x.1.1)

sized_field_shape : (b : Below) (size : _) (o : RowPlace) (p : Place) → row_kind (row_at o) ≡ kinds.Region (regions.SizedBufferField size) → Shape b o p (sized_field_at b p) (a_name (behind_two b p)).1
sized_field_shape b size o p e = let x = stands (kinds.Region (regions.SizedBufferField size)) o e (λ h. absurd (cc h)) in shaped x.0 x.1.0 (a_sized_field b x.0 p x.1.1)

bits_field_shape : (b : Below) (o : RowPlace) (p : Place) → row_kind (row_at o) ≡ kinds.Region regions.BufferField → Shape b o p (bits_field_at b p) (a_name (behind_one b (behind_two b p))).1
bits_field_shape b o p e = let x = stands (kinds.Region regions.BufferField) o e (λ h. absurd (cc h)) in shaped x.0 x.1.0 (a_bits_field b x.0 p x.1.1)

-- ---- rules don't ask for the opcode

module _ {S : Type 0} (accesses : Accesses S) (ev : Task → Run S Flow) (scope : List Seg) (depth : ℕ) (c d : TermCode) where
  same_target : (ps : Parts) (i : ℕ) → target_at ev scope depth (term c ps) i ≡ target_at ev scope depth (term d ps) i
  unfolding name_target
  same_target ps i = refl

  same_referent_of : (ps : Parts) (u : Tree) (k : TargetKind) → referent_by_kind accesses ev scope depth (term c ps) u k ≡ referent_by_kind accesses ev scope depth (term d ps) u k
  unfolding referent_of_target name_target
  same_referent_of ps u targets.RefOf = refl
  same_referent_of ps u targets.DerefOf = refl
  same_referent_of ps u targets.Index = refl
  same_referent_of ps u targets.Nowhere = refl
  same_referent_of ps u (targets.Slot slot) = refl
  same_referent_of ps u targets.Other = refl

  same_referent : (ps : Parts) (o : Option Part) → referent_by accesses ev scope depth (term c ps) o ≡ referent_by accesses ev scope depth (term d ps) o
  unfolding referent_of_target name_target
  same_referent ps None = refl
  same_referent ps (Some null) = refl
  same_referent ps (Some (name n)) = refl
  same_referent ps (Some (number n)) = refl
  same_referent ps (Some (bytes bs)) = refl
  same_referent ps (Some (inner u)) = same_referent_of ps u (target_kind (code_of u))
  same_referent ps (Some (list ts)) = refl

  pub same_operator : (k : OperatorKind) (ps : Parts) → operator_rule accesses ev k scope depth (term c ps) ≡ operator_rule accesses ev k scope depth (term d ps)
  unfolding store_rule copy_rule two_rule divide_rule one_rule test_rule lnot_rule count_rule size_rule type_rule acquire_rule reference_rule dereference_rule conditional_rule value_at two_values targeted name_target referent_of_target sought_name sought_target reference_stored
  same_operator (operators.Slot slot) ps = refl
  same_operator operators.Store ps = refl
  same_operator operators.CopyObject ps = refl
  same_operator (operators.Two k) ps = refl
  same_operator operators.Divide ps = refl
  same_operator (operators.One k) ps = refl
  same_operator (operators.Test k) ps = refl
  same_operator operators.LNot ps = refl
  same_operator (operators.Count k) ps = refl
  same_operator operators.SizeOf ps = refl
  same_operator operators.ObjectType ps = refl
  same_operator operators.Acquire ps = refl
  same_operator operators.RefOf ps = refl
  same_operator operators.CondRefOf ps = refl
  same_operator operators.DerefOf ps = refl

  pub same_data : (k : DataKind) (ps : Parts) → data_rule ev k scope depth (term c ps) ≡ data_rule ev k scope depth (term d ps)
  unfolding integer_rule string_rule buffer_rule package_rule var_package_rule
  same_data (datas.Constant n) ps = refl
  same_data datas.Integer ps = refl
  same_data datas.String ps = refl
  same_data datas.Buffer ps = refl
  same_data datas.Package ps = refl
  same_data datas.VarPackage ps = refl

  pub same_declaration : (k : DeclarationKind) (ps : Parts) → declaration_rule ev k scope depth (term c ps) ≡ declaration_rule ev k scope depth (term d ps)
  unfolding declaring name_rule alias_rule method_rule scope_rule new_scope
  same_declaration declarations.Scope ps = refl
  same_declaration declarations.Device ps = refl
  same_declaration declarations.Processor ps = refl
  same_declaration declarations.PowerResource ps = refl
  same_declaration declarations.ThermalZone ps = refl
  same_declaration declarations.Name ps = refl
  same_declaration declarations.Alias ps = refl
  same_declaration declarations.External ps = refl
  same_declaration declarations.Method ps = refl
  same_declaration declarations.Mutex ps = refl
  same_declaration declarations.Event ps = refl

  pub same_region : (k : RegionKind) (ps : Parts) → region_term_rule ev k scope depth (term c ps) ≡ region_term_rule ev k scope depth (term d ps)
  unfolding declaring region_rule field_list_rule index_list_rule sized_field_rule bits_field_rule value_at two_values
  same_region regions.OperationRegion ps = refl
  same_region regions.Field ps = refl
  same_region regions.IndexField ps = refl
  same_region (regions.SizedBufferField size) ps = refl
  same_region regions.BufferField ps = refl

  pub same_statement : (k : StatementKind) (ps : Parts) → statement_rule ev k scope depth (term c ps) ≡ statement_rule ev k scope depth (term d ps)
  unfolding if_rule else_rule while_rule return_rule release_rule notify_rule pause_rule fatal_rule value_at name_target
  same_statement statements.If ps = refl
  same_statement statements.Else ps = refl
  same_statement statements.While ps = refl
  same_statement statements.Break ps = refl
  same_statement statements.Continue ps = refl
  same_statement statements.Noop ps = refl
  same_statement statements.Return ps = refl
  same_statement statements.Release ps = refl
  same_statement statements.Notify ps = refl
  same_statement statements.Pause ps = refl
  same_statement statements.Fatal ps = refl

  pub same_wide : (k : WideKind) (ps : Parts) → wide_rule accesses ev k scope depth (term c ps) ≡ wide_rule accesses ev k scope depth (term d ps)
  unfolding convert_rule to_string_rule middle_rule match_rule event_rule wait_rule bank_list_rule formed_at value_at two_values targeted name_target
  same_wide (wides.Convert k) ps = refl
  same_wide wides.ToString ps = refl
  same_wide wides.Mid ps = refl
  same_wide wides.Match ps = refl
  same_wide (wides.Event k) ps = refl
  same_wide wides.Wait ps = refl
  same_wide wides.BankField ps = refl

-- ---- a term whose opcode was read

row_of_kind : {x : Option Row} {row : Row} (k : TermKind) → x ≡ Some row → row_kind x ≡ k → kind_of row.0 ≡ k
row_of_kind k e h = rw e at h

module _ {S : Type 0} (accesses : Accesses S) (ev : Task → Run S Flow) (scope : List Seg) (depth : ℕ) (b : Below) where
  coded_as : (row : Row) (ps : Parts) (k : TermKind) → kind_of row.0 ≡ k → code_rule accesses ev (codes.Opcode row.0) scope depth (term (codes.Opcode row.0) ps) ≡ kind_rule accesses ev k row.0 scope depth (term (codes.Opcode row.0) ps)
  coded_as row ps k e = ap (λ x. kind_rule accesses ev x row.0 scope depth (term (codes.Opcode row.0) ps)) e

  pub operator_is : (k : OperatorKind) (o : RowPlace) (p : Place) → row_kind (row_at o) ≡ kinds.Operator k → code_rule accesses ev (code_of (with_row b (row_at o) p).0) scope depth (with_row b (row_at o) p).0 ≡ operator_rule accesses ev k scope depth (operator_tree b k p)
  operator_is k o p e =
      let x = operator_shape b k o p e in
      ap (λ (y : Tree × Place). code_rule accesses ev (code_of y.0) scope depth y.0) x.is
      ∙ coded_as x.row (operator_parts b k p) (kinds.Operator k) (row_of_kind (kinds.Operator k) x.there e)
      ∙ same_operator accesses ev scope depth (codes.Opcode x.row.0) codes.Name k (operator_parts b k p)

  formed_is : (k : DataKind) (o : RowPlace) (p : Place) (ps : Parts) (q : Place) → row_kind (row_at o) ≡ kinds.Data k → Shape b o p ps q → code_rule accesses ev (code_of (with_row b (row_at o) p).0) scope depth (with_row b (row_at o) p).0 ≡ data_rule ev k scope depth (term codes.Name ps)
  formed_is k o p ps q e x =
      ap (λ (y : Tree × Place). code_rule accesses ev (code_of y.0) scope depth y.0) x.is
      ∙ coded_as x.row ps (kinds.Data k) (row_of_kind (kinds.Data k) x.there e)
      ∙ same_data accesses ev scope depth (codes.Opcode x.row.0) codes.Name k ps

  -- a term whose operands are read from it
  whole_is : (k : TermKind) (o : RowPlace) (p : Place) → row_kind (row_at o) ≡ k → row_kind None ≢ k → (row : Row) × (code_rule accesses ev (code_of (with_row b (row_at o) p).0) scope depth (with_row b (row_at o) p).0 ≡ kind_rule accesses ev k row.0 scope depth (with_row b (row_at o) p).0)
  whole_is k o p e some =
      let x = stands k o e some in
      let t = (with_row b (row_at o) p).0 in
      let code : code_of t ≡ codes.Opcode x.0.0 = ap (λ r. code_of (with_row b r p).0) x.1.0 ∙ code_stands b x.0 p _ refl in
      (x.0, ap (λ y. code_rule accesses ev y scope depth t) code ∙ ap (λ y. kind_rule accesses ev y x.0.0 scope depth t) (row_of_kind k x.1.0 e))

  integer_is : (o : RowPlace) (p : Place) → row_kind (row_at o) ≡ kinds.Data datas.Integer → code_rule accesses ev (code_of (with_row b (row_at o) p).0) scope depth (with_row b (row_at o) p).0 ≡ data_rule ev datas.Integer scope depth (with_row b (row_at o) p).0
  integer_is o p e = (whole_is (kinds.Data datas.Integer) o p e (λ h. absurd (cc h))).1

  pub data_is : (k : DataKind) (o : RowPlace) (p : Place) → row_kind (row_at o) ≡ kinds.Data k → code_rule accesses ev (code_of (with_row b (row_at o) p).0) scope depth (with_row b (row_at o) p).0 ≡ data_rule ev k scope depth (data_tree b k o p)
  data_is (datas.Constant n) o p e = formed_is (datas.Constant n) o p no_parts p e (constant_shape b n o p e)
  data_is datas.Integer o p e = integer_is o p e
  data_is datas.String o p e = formed_is datas.String o p (text_at p) (a_text p).1 e (string_shape b o p e)
  data_is datas.Buffer o p e = formed_is datas.Buffer o p (buffer_at b p) (outside_at p) e (buffer_shape b o p e)
  data_is datas.Package o p e = formed_is datas.Package o p (package_at b p) (outside_at p) e (package_shape b o p e)
  data_is datas.VarPackage o p e = formed_is datas.VarPackage o p (var_package_at b p) (outside_at p) e (var_package_shape b o p e)

  declared_is : (k : DeclarationKind) (o : RowPlace) (p : Place) (ps : Parts) (q : Place) → row_kind (row_at o) ≡ kinds.Declaration k → Shape b o p ps q → code_rule accesses ev (code_of (with_row b (row_at o) p).0) scope depth (with_row b (row_at o) p).0 ≡ declaration_rule ev k scope depth (term codes.Name ps)
  declared_is k o p ps q e x =
      ap (λ (y : Tree × Place). code_rule accesses ev (code_of y.0) scope depth y.0) x.is
      ∙ coded_as x.row ps (kinds.Declaration k) (row_of_kind (kinds.Declaration k) x.there e)
      ∙ same_declaration accesses ev scope depth (codes.Opcode x.row.0) codes.Name k ps

  pub declaration_is : (k : DeclarationKind) (o : RowPlace) (p : Place) → row_kind (row_at o) ≡ kinds.Declaration k → code_rule accesses ev (code_of (with_row b (row_at o) p).0) scope depth (with_row b (row_at o) p).0 ≡ declaration_rule ev k scope depth (declaration_tree b k o p)
  declaration_is declarations.Scope o p e = declared_is declarations.Scope o p (scope_at b p) (outside_at p) e (scope_shape b o p e)
  declaration_is declarations.Device o p e = declared_is declarations.Device o p (scope_at b p) (outside_at p) e (device_shape b o p e)
  declaration_is declarations.Processor o p e = declared_is declarations.Processor o p (processor_at b p) (outside_at p) e (processor_shape b o p e)
  declaration_is declarations.PowerResource o p e = declared_is declarations.PowerResource o p (power_resource_at b p) (outside_at p) e (power_resource_shape b o p e)
  declaration_is declarations.ThermalZone o p e = declared_is declarations.ThermalZone o p (scope_at b p) (outside_at p) e (thermal_zone_shape b o p e)
  declaration_is declarations.Name o p e = declared_is declarations.Name o p (datum_at b p) (behind_one b (a_name p).1) e (datum_shape b o p e)
  declaration_is declarations.Alias o p e = (whole_is (kinds.Declaration declarations.Alias) o p e (λ h. absurd (cc h))).1
  declaration_is declarations.External o p e = (whole_is (kinds.Declaration declarations.External) o p e (λ h. absurd (cc h))).1
  declaration_is declarations.Method o p e = (whole_is (kinds.Declaration declarations.Method) o p e (λ h. absurd (cc h))).1
  declaration_is declarations.Mutex o p e = (whole_is (kinds.Declaration declarations.Mutex) o p e (λ h. absurd (cc h))).1
  declaration_is declarations.Event o p e = (whole_is (kinds.Declaration declarations.Event) o p e (λ h. absurd (cc h))).1

  region_declared_is : (k : RegionKind) (o : RowPlace) (p : Place) (ps : Parts) (q : Place) → row_kind (row_at o) ≡ kinds.Region k → Shape b o p ps q → code_rule accesses ev (code_of (with_row b (row_at o) p).0) scope depth (with_row b (row_at o) p).0 ≡ region_term_rule ev k scope depth (term codes.Name ps)
  region_declared_is k o p ps q e x =
      ap (λ (y : Tree × Place). code_rule accesses ev (code_of y.0) scope depth y.0) x.is
      ∙ coded_as x.row ps (kinds.Region k) (row_of_kind (kinds.Region k) x.there e)
      ∙ same_region accesses ev scope depth (codes.Opcode x.row.0) codes.Name k ps

  pub region_is : (k : RegionKind) (o : RowPlace) (p : Place) → row_kind (row_at o) ≡ kinds.Region k → code_rule accesses ev (code_of (with_row b (row_at o) p).0) scope depth (with_row b (row_at o) p).0 ≡ region_term_rule ev k scope depth (region_tree b k o p)
  region_is regions.OperationRegion o p e = region_declared_is regions.OperationRegion o p (region_at b p) (behind_two b (behind_space p)) e (region_shape b o p e)
  region_is regions.Field o p e = (whole_is (kinds.Region regions.Field) o p e (λ h. absurd (cc h))).1
  region_is regions.IndexField o p e = (whole_is (kinds.Region regions.IndexField) o p e (λ h. absurd (cc h))).1
  region_is (regions.SizedBufferField size) o p e = region_declared_is (regions.SizedBufferField size) o p (sized_field_at b p) (a_name (behind_two b p)).1 e (sized_field_shape b size o p e)
  region_is regions.BufferField o p e = region_declared_is regions.BufferField o p (bits_field_at b p) (a_name (behind_one b (behind_two b p))).1 e (bits_field_shape b o p e)

  pub statement_is : (k : StatementKind) (o : RowPlace) (p : Place) → row_kind (row_at o) ≡ kinds.Statement k → code_rule accesses ev (code_of (with_row b (row_at o) p).0) scope depth (with_row b (row_at o) p).0 ≡ statement_rule ev k scope depth (statement_tree b k p)
  statement_is k o p e =
      let x = statement_shape b k o p e in
      ap (λ (y : Tree × Place). code_rule accesses ev (code_of y.0) scope depth y.0) x.is
      ∙ coded_as x.row (statement_parts b k p) (kinds.Statement k) (row_of_kind (kinds.Statement k) x.there e)
      ∙ same_statement accesses ev scope depth (codes.Opcode x.row.0) codes.Name k (statement_parts b k p)

  -- a term of the wide profile, whose opcode is asked for
  pub wide_is : (k : WideKind) (o : RowPlace) (p : Place) (row : Row) → Some row ≡ row_at o → row_kind (row_at o) ≡ kinds.Wide k → code_rule accesses ev (code_of (with_row b (row_at o) p).0) scope depth (with_row b (row_at o) p).0 ≡ in_wide row.0 (wide_rule accesses ev k scope depth (wide_tree b k p))
  wide_is k o p row i e =
      let x = wide_shape b k o p e in
      let same : x.row ≡ row = cc (sym x.there ∙ sym i) in
      ap (λ (y : Tree × Place). code_rule accesses ev (code_of y.0) scope depth y.0) x.is
      ∙ coded_as x.row (wide_parts b k p) (kinds.Wide k) (row_of_kind (kinds.Wide k) x.there e)
      ∙ ap (λ (m : Run S Flow). in_wide x.row.0 m) (same_wide accesses ev scope depth (codes.Opcode x.row.0) codes.Name k (wide_parts b k p))
      ∙ ap (λ (r : Row). in_wide r.0 (wide_rule accesses ev k scope depth (wide_tree b k p))) same

pub behind_wide_is : (b : Below) (k : WideKind) (o : RowPlace) (p : Place) → row_kind (row_at o) ≡ kinds.Wide k → (with_row b (row_at o) p).1 ≡ behind_wide b k p
behind_wide_is b k o p e = let x = wide_shape b k o p e in ap (λ (y : Tree × Place). y.1) x.is

pub behind_operator_is : (b : Below) (k : OperatorKind) (o : RowPlace) (p : Place) → row_kind (row_at o) ≡ kinds.Operator k → (with_row b (row_at o) p).1 ≡ behind_operator b k p
behind_operator_is b k o p e = let x = operator_shape b k o p e in ap (λ (y : Tree × Place). y.1) x.is

pub behind_statement_is : (b : Below) (k : StatementKind) (o : RowPlace) (p : Place) → row_kind (row_at o) ≡ kinds.Statement k → (with_row b (row_at o) p).1 ≡ behind_statement b k p
behind_statement_is b k o p e = let x = statement_shape b k o p e in ap (λ (y : Tree × Place). y.1) x.is

pub behind_data_is : (b : Below) (k : DataKind) (o : RowPlace) (p : Place) → row_kind (row_at o) ≡ kinds.Data k → (with_row b (row_at o) p).1 ≡ behind_data b k o p
behind_data_is b (datas.Constant n) o p e = let x = constant_shape b n o p e in ap (λ (y : Tree × Place). y.1) x.is
behind_data_is b datas.Integer o p e = refl
behind_data_is b datas.String o p e = let x = string_shape b o p e in ap (λ (y : Tree × Place). y.1) x.is
behind_data_is b datas.Buffer o p e = let x = buffer_shape b o p e in ap (λ (y : Tree × Place). y.1) x.is
behind_data_is b datas.Package o p e = let x = package_shape b o p e in ap (λ (y : Tree × Place). y.1) x.is
behind_data_is b datas.VarPackage o p e = let x = var_package_shape b o p e in ap (λ (y : Tree × Place). y.1) x.is

pub behind_declaration_is : (b : Below) (k : DeclarationKind) (o : RowPlace) (p : Place) → row_kind (row_at o) ≡ kinds.Declaration k → (with_row b (row_at o) p).1 ≡ behind_declaration b k o p
behind_declaration_is b declarations.Scope o p e = let x = scope_shape b o p e in ap (λ (y : Tree × Place). y.1) x.is
behind_declaration_is b declarations.Device o p e = let x = device_shape b o p e in ap (λ (y : Tree × Place). y.1) x.is
behind_declaration_is b declarations.Processor o p e = let x = processor_shape b o p e in ap (λ (y : Tree × Place). y.1) x.is
behind_declaration_is b declarations.PowerResource o p e = let x = power_resource_shape b o p e in ap (λ (y : Tree × Place). y.1) x.is
behind_declaration_is b declarations.ThermalZone o p e = let x = thermal_zone_shape b o p e in ap (λ (y : Tree × Place). y.1) x.is
behind_declaration_is b declarations.Name o p e = let x = datum_shape b o p e in ap (λ (y : Tree × Place). y.1) x.is
behind_declaration_is b declarations.Alias o p e = refl
behind_declaration_is b declarations.External o p e = refl
behind_declaration_is b declarations.Method o p e = refl
behind_declaration_is b declarations.Mutex o p e = refl
behind_declaration_is b declarations.Event o p e = refl

pub behind_region_is : (b : Below) (k : RegionKind) (o : RowPlace) (p : Place) → row_kind (row_at o) ≡ kinds.Region k → (with_row b (row_at o) p).1 ≡ behind_region b k o p
behind_region_is b regions.OperationRegion o p e = let x = region_shape b o p e in ap (λ (y : Tree × Place). y.1) x.is
behind_region_is b regions.Field o p e = refl
behind_region_is b regions.IndexField o p e = refl
behind_region_is b (regions.SizedBufferField size) o p e = let x = sized_field_shape b size o p e in ap (λ (y : Tree × Place). y.1) x.is
behind_region_is b regions.BufferField o p e = let x = bits_field_shape b o p e in ap (λ (y : Tree × Place). y.1) x.is
