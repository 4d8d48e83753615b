-- Which operands a term has, by the kind of its opcode.
use Rattle.std.specs.Prelude.{◌≡◌, ◌≢◌, ℕ, zero, suc, List, [], ◌∷◌, ◌++◌, Bool, true, false, Option, Some, None, slice_get, if◌then◌else◌, refl}
use Rattle.std.proofs.Common.{◌∙◌, sym, ap}
use Rattle.aml_grammar.specs.declared.opcode.TermCode.TheVariants as codes
use Rattle.aml_grammar.specs.declared.kinds.OperandKind.{OperandKind}
use Rattle.aml_grammar.specs.declared.kinds.OperandKind.TheVariants as kinds
use Rattle.aml_grammar.specs.declared.kinds.Row.{Row}
use Rattle.aml_grammar.specs.Apart.{code_of}
use Rattle.aml_grammar.specs.Grammar.{is_if, is_nothing, kinds_of}
use Rattle.aml_grammar.specs.Shape.{parts_of}
use Rattle.aml_grammar.specs.Table.{table}
use Rattle.aml_grammar.specs.Tree.{term, Part, name, number, bytes, inner, list, no_parts, part}
use Rattle.aml_marks.specs.Marked.{Place, Below, Walk, to_part, list_part, over, after, gives, inside, an_operand, all_operands, of_row, with_row, a_name, a_target, a_super_name, all_items, fields_left, all_left, a_text, an_integer, maybe_else}
use Rattle.aml_scan.specs.RowsAt.{row_at}
use Rattle.aml_scan.specs.declared.row_places.RowPlace.{RowPlace}
use Rattle.aml_meaning.specs.declared.term_kind.TermKind.{TermKind}
use Rattle.aml_meaning.specs.declared.term_kind.TermKind.TheVariants as term
use Rattle.aml_meaning.specs.declared.term_kind.DataKind.TheVariants as datas
use Rattle.aml_meaning.specs.declared.term_kind.DeclarationKind.TheVariants as declaration
use Rattle.aml_meaning.specs.declared.term_kind.RegionKind.TheVariants as region
use Rattle.aml_meaning.specs.declared.term_kind.OperatorKind.TheVariants as operator
use Rattle.aml_meaning.specs.declared.term_kind.StatementKind.TheVariants as statement
use Rattle.aml_meaning.specs.declared.term_kind.WideKind.TheVariants as wide
use Rattle.aml_meaning.specs.declared.term_kind.TargetKind.{TargetKind}
use Rattle.aml_meaning.specs.declared.term_kind.TargetKind.TheVariants as target
use Rattle.aml_meaning.specs.Terms.{kind_of, target_kind}
use Rattle.aml_frames.specs.Operands.{bank_at, elements_at, behind_one, behind_two, inside_at, outside_at, items_at, row_kind}
use Rattle.aml_frames.specs.Declarations.{datum_at, scope_at, power_resource_at, processor_at}
use Rattle.aml_frames.specs.RegionTerms.{behind_space, region_at, sized_field_at, bits_field_at}

-- ---- operands that a row may have

abbrev pub is_argument : OperandKind → Bool
is_argument kinds.TermArg = true
is_argument kinds.DataObject = true
is_argument _ = false

abbrev is_name : OperandKind → Bool
is_name kinds.NameString = true
is_name kinds.ScopeName = true
is_name kinds.DeclaredName = true
is_name _ = false

abbrev is_super : OperandKind → Bool
is_super kinds.SuperName = true
is_super kinds.SimpleName = true
is_super _ = false

abbrev is_target : OperandKind → Bool
is_target kinds.Target = true
is_target _ = false

abbrev is_list : OperandKind → Bool
is_list kinds.TermList = true
is_list kinds.LoopTermList = true
is_list _ = false

abbrev pub is_byte : OperandKind → Bool
is_byte kinds.ByteData = true
is_byte _ = false

abbrev is_word : OperandKind → Bool
is_word kinds.WordData = true
is_word _ = false

abbrev is_dword : OperandKind → Bool
is_dword kinds.DWordData = true
is_dword _ = false

infixr 5 ◌and◌
abbrev pub ◌and◌ : Bool → Bool → Bool
◌and◌ x y = if x then y else false

abbrev opposite : Bool → Bool
opposite x = if x then false else true

abbrev is_text : OperandKind → Bool
is_text kinds.AsciiCharList = true
is_text _ = false

abbrev is_byte_list : OperandKind → Bool
is_byte_list kinds.ByteList = true
is_byte_list _ = false

abbrev is_element_list : OperandKind → Bool
is_element_list kinds.PackageElementList = true
is_element_list _ = false

abbrev is_field_list : OperandKind → Bool
is_field_list kinds.FieldList = true
is_field_list _ = false

-- operands behind the opcode, without an Else behind them
abbrev pub is_plain : Row → Bool
is_plain row = opposite row.2 and opposite (is_if row.0)

abbrev fits : TermKind → Row → Bool
fits (term.Data (datas.Constant n)) row = is_plain row and is_nothing row.3.0
fits (term.Data datas.String) row = is_plain row and is_text row.3.0 and is_nothing row.3.1
fits (term.Data datas.Buffer) row = row.2 and opposite (is_if row.0) and is_argument row.3.0 and is_byte_list row.3.1 and is_nothing row.3.2
fits (term.Data datas.Package) row = row.2 and opposite (is_if row.0) and is_byte row.3.0 and is_element_list row.3.1 and is_nothing row.3.2
fits (term.Data datas.VarPackage) row = row.2 and opposite (is_if row.0) and is_argument row.3.0 and is_element_list row.3.1 and is_nothing row.3.2
fits (term.Operator (operator.Slot slot)) row = is_plain row and is_nothing row.3.0
fits (term.Operator operator.Store) row = is_plain row and is_argument row.3.0 and is_super row.3.1 and is_nothing row.3.2
fits (term.Operator operator.CopyObject) row = is_plain row and is_argument row.3.0 and is_super row.3.1 and is_nothing row.3.2
fits (term.Operator (operator.Two k)) row = is_plain row and is_argument row.3.0 and is_argument row.3.1 and is_target row.3.2 and is_nothing row.3.3
fits (term.Operator operator.Divide) row = is_plain row and is_argument row.3.0 and is_argument row.3.1 and is_target row.3.2 and is_target row.3.3 and is_nothing row.3.4
fits (term.Operator (operator.One k)) row = is_plain row and is_argument row.3.0 and is_target row.3.1 and is_nothing row.3.2
fits (term.Operator (operator.Test k)) row = is_plain row and is_argument row.3.0 and is_argument row.3.1 and is_nothing row.3.2
fits (term.Operator operator.LNot) row = is_plain row and is_argument row.3.0 and is_nothing row.3.1
fits (term.Operator (operator.Count k)) row = is_plain row and is_super row.3.0 and is_nothing row.3.1
fits (term.Operator operator.SizeOf) row = is_plain row and is_super row.3.0 and is_nothing row.3.1
fits (term.Operator operator.ObjectType) row = is_plain row and is_super row.3.0 and is_nothing row.3.1
fits (term.Operator operator.Acquire) row = is_plain row and is_super row.3.0 and is_word row.3.1 and is_nothing row.3.2
fits (term.Operator operator.RefOf) row = is_plain row and is_super row.3.0 and is_nothing row.3.1
fits (term.Operator operator.CondRefOf) row = is_plain row and is_super row.3.0 and is_target row.3.1 and is_nothing row.3.2
fits (term.Operator operator.DerefOf) row = is_plain row and is_argument row.3.0 and is_nothing row.3.1
fits (term.Statement statement.If) row = row.2 and is_if row.0 and is_argument row.3.0 and is_list row.3.1 and is_nothing row.3.2
fits (term.Statement statement.Else) row = row.2 and opposite (is_if row.0) and is_list row.3.0 and is_nothing row.3.1
fits (term.Statement statement.While) row = row.2 and opposite (is_if row.0) and is_argument row.3.0 and is_list row.3.1 and is_nothing row.3.2
fits (term.Statement statement.Break) row = is_plain row and is_nothing row.3.0
fits (term.Statement statement.Continue) row = is_plain row and is_nothing row.3.0
fits (term.Statement statement.Noop) row = is_plain row and is_nothing row.3.0
fits (term.Statement statement.Return) row = is_plain row and is_argument row.3.0 and is_nothing row.3.1
fits (term.Statement statement.Release) row = is_plain row and is_super row.3.0 and is_nothing row.3.1
fits (term.Statement statement.Notify) row = is_plain row and is_super row.3.0 and is_argument row.3.1 and is_nothing row.3.2
fits (term.Statement statement.Pause) row = is_plain row and is_argument row.3.0 and is_nothing row.3.1
fits (term.Statement statement.Fatal) row = is_plain row and is_byte row.3.0 and is_dword row.3.1 and is_argument row.3.2 and is_nothing row.3.3
fits (term.Declaration declaration.Scope) row = row.2 and opposite (is_if row.0) and is_name row.3.0 and is_list row.3.1 and is_nothing row.3.2
fits (term.Declaration declaration.Device) row = row.2 and opposite (is_if row.0) and is_name row.3.0 and is_list row.3.1 and is_nothing row.3.2
fits (term.Declaration declaration.ThermalZone) row = row.2 and opposite (is_if row.0) and is_name row.3.0 and is_list row.3.1 and is_nothing row.3.2
fits (term.Declaration declaration.PowerResource) row = row.2 and opposite (is_if row.0) and is_name row.3.0 and is_byte row.3.1 and is_word row.3.2 and is_list row.3.3 and is_nothing row.3.4
fits (term.Declaration declaration.Processor) row = row.2 and opposite (is_if row.0) and is_name row.3.0 and is_byte row.3.1 and is_dword row.3.2 and is_byte row.3.3 and is_list row.3.4 and is_nothing row.3.5
fits (term.Declaration declaration.Name) row = is_plain row and is_name row.3.0 and is_argument row.3.1 and is_nothing row.3.2
fits (term.Region region.OperationRegion) row = is_plain row and is_name row.3.0 and is_byte row.3.1 and is_argument row.3.2 and is_argument row.3.3 and is_nothing row.3.4
fits (term.Region (region.SizedBufferField size)) row = is_plain row and is_argument row.3.0 and is_argument row.3.1 and is_name row.3.2 and is_nothing row.3.3
fits (term.Region region.BufferField) row = is_plain row and is_argument row.3.0 and is_argument row.3.1 and is_argument row.3.2 and is_name row.3.3 and is_nothing row.3.4
fits (term.Wide (wide.Convert k)) row = is_plain row and is_argument row.3.0 and is_target row.3.1 and is_nothing row.3.2
fits (term.Wide wide.ToString) row = is_plain row and is_argument row.3.0 and is_argument row.3.1 and is_target row.3.2 and is_nothing row.3.3
fits (term.Wide wide.Mid) row = is_plain row and is_argument row.3.0 and is_argument row.3.1 and is_argument row.3.2 and is_target row.3.3 and is_nothing row.3.4
fits (term.Wide wide.Match) row = is_plain row and is_argument row.3.0 and is_byte row.3.1 and is_argument row.3.2 and is_byte row.3.3 and is_argument row.3.4 and is_argument row.3.5
fits (term.Wide (wide.Event k)) row = is_plain row and is_super row.3.0 and is_nothing row.3.1
fits (term.Wide wide.Wait) row = is_plain row and is_super row.3.0 and is_argument row.3.1 and is_nothing row.3.2
fits (term.Wide wide.BankField) row = row.2 and opposite (is_if row.0) and is_name row.3.0 and is_name row.3.1 and is_argument row.3.2 and is_byte row.3.3 and is_field_list row.3.4 and is_nothing row.3.5
fits _ row = true

-- ---- every row has the operands of its kind

abbrev all_fit : List Row → Bool
all_fit [] = true
all_fit (r ∷ rows) = fits (kind_of r.0) r and all_fit rows

table_fits : all_fit table ≡ true
table_fits = refl

pub both : (x y : Bool) → (x and y) ≡ true → (x ≡ true) × (y ≡ true)
both true y e = (refl, e)
both false y e = absurd (cc e)

not_true : (x : Bool) → opposite x ≡ true → x ≡ false
not_true true e = absurd (cc e)
not_true false e = refl

row_fits : (rows : List Row) (i : ℕ) (row : Row) → all_fit rows ≡ true → slice_get rows i ≡ Some row → fits (kind_of row.0) row ≡ true
row_fits [] i row h e = absurd (cc e)
row_fits (r ∷ rows) zero row h e = let same : r ≡ row = cc e in ap (λ x. fits (kind_of x.0) x) (sym same) ∙ (both _ _ h).0
row_fits (r ∷ rows) (suc i) row h e = row_fits rows i row (both _ _ h).1 e

kind_fits : (r : Option Row) (k : TermKind) (row : Row) (i : ℕ) → slice_get table i ≡ r → r ≡ Some row → row_kind r ≡ k → fits k row ≡ true
kind_fits r k row i s e h = let same : kind_of row.0 ≡ k = ap row_kind (sym e) ∙ h in ap (λ x. fits x row) (sym same) ∙ row_fits table i row table_fits (s ∙ e)

-- ---- walks over operands

module _ (b : Below) where
  -- an operand of a kind is what a walk reads
  pub record Reads (k : OperandKind) (w : Walk Part) : Type 0 where
    pub some : is_nothing k ≡ false
    pub is : an_operand b k ≡ w

  pub argument_reads : (k : OperandKind) → is_argument k ≡ true → Reads k (to_part inner (b false))
  unfolding an_operand
  argument_reads kinds.TermArg e = record { some = refl; is = refl }
  argument_reads kinds.DataObject e = record { some = refl; is = refl }
  argument_reads _ e = absurd (cc e)

  name_reads : (k : OperandKind) → is_name k ≡ true → Reads k (to_part name a_name)
  unfolding an_operand
  name_reads kinds.NameString e = record { some = refl; is = refl }
  name_reads kinds.ScopeName e = record { some = refl; is = refl }
  name_reads kinds.DeclaredName e = record { some = refl; is = refl }
  name_reads _ e = absurd (cc e)

  super_reads : (k : OperandKind) → is_super k ≡ true → Reads k (a_super_name b)
  unfolding an_operand
  super_reads kinds.SuperName e = record { some = refl; is = refl }
  super_reads kinds.SimpleName e = record { some = refl; is = refl }
  super_reads _ e = absurd (cc e)

  target_reads : (k : OperandKind) → is_target k ≡ true → Reads k (a_target b)
  unfolding an_operand
  target_reads kinds.Target e = record { some = refl; is = refl }
  target_reads _ e = absurd (cc e)

  list_reads : (k : OperandKind) → is_list k ≡ true → Reads k (to_part list_part (all_items b false))
  unfolding an_operand
  list_reads kinds.TermList e = record { some = refl; is = refl }
  list_reads kinds.LoopTermList e = record { some = refl; is = refl }
  list_reads _ e = absurd (cc e)

  text_reads : (k : OperandKind) → is_text k ≡ true → Reads k (to_part bytes a_text)
  unfolding an_operand
  text_reads kinds.AsciiCharList e = record { some = refl; is = refl }
  text_reads _ e = absurd (cc e)

  byte_list_reads : (k : OperandKind) → is_byte_list k ≡ true → Reads k (to_part bytes all_left)
  unfolding an_operand
  byte_list_reads kinds.ByteList e = record { some = refl; is = refl }
  byte_list_reads _ e = absurd (cc e)

  element_list_reads : (k : OperandKind) → is_element_list k ≡ true → Reads k (to_part list_part (all_items b true))
  unfolding an_operand
  element_list_reads kinds.PackageElementList e = record { some = refl; is = refl }
  element_list_reads _ e = absurd (cc e)

  field_list_reads : (k : OperandKind) → is_field_list k ≡ true → Reads k (to_part list_part (fields_left b))
  unfolding an_operand
  field_list_reads kinds.FieldList e = record { some = refl; is = refl }
  field_list_reads _ e = absurd (cc e)

  pub byte_reads : (k : OperandKind) → is_byte k ≡ true → Reads k (to_part number (an_integer 1))
  unfolding an_operand
  byte_reads kinds.ByteData e = record { some = refl; is = refl }
  byte_reads _ e = absurd (cc e)

  word_reads : (k : OperandKind) → is_word k ≡ true → Reads k (to_part number (an_integer 2))
  unfolding an_operand
  word_reads kinds.WordData e = record { some = refl; is = refl }
  word_reads _ e = absurd (cc e)

  dword_reads : (k : OperandKind) → is_dword k ≡ true → Reads k (to_part number (an_integer 4))
  unfolding an_operand
  dword_reads kinds.DWordData e = record { some = refl; is = refl }
  dword_reads _ e = absurd (cc e)

  no_more : (k : OperandKind) (ks : List OperandKind) (p : Place) → is_nothing k ≡ true → all_operands b (k ∷ ks) p ≡ ([], p)
  unfolding all_operands gives
  no_more k ks p e = rw e refl

  pub one_more : {k : OperandKind} {w : Walk Part} (ks : List OperandKind) (p : Place) → Reads k w → all_operands b (k ∷ ks) p ≡ ((w p).0 ∷ (all_operands b ks (w p).1).0, (all_operands b ks (w p).1).1)
  unfolding all_operands after gives
  one_more ks p r = rw (r.some, r.is) refl

  -- a list of operands one after another, and then no more
  then_one : {k : OperandKind} {w : Walk Part} (j : OperandKind) (ks : List OperandKind) (p : Place) → Reads k w → is_nothing j ≡ true → all_operands b (k ∷ j ∷ ks) p ≡ ((w p).0 ∷ [], (w p).1)
  then_one j ks p r n = one_more (j ∷ ks) p r ∙ rw (no_more j ks _ n) refl

  then_two : {k l : OperandKind} {w x : Walk Part} (j : OperandKind) (ks : List OperandKind) (p : Place) → Reads k w → Reads l x → is_nothing j ≡ true → all_operands b (k ∷ l ∷ j ∷ ks) p ≡ ((w p).0 ∷ (x (w p).1).0 ∷ [], (x (w p).1).1)
  then_two {l = l} j ks p r s n = one_more (l ∷ j ∷ ks) p r ∙ rw (then_one j ks _ s n) refl

  then_three : {k l m : OperandKind} {w x y : Walk Part} (j : OperandKind) (ks : List OperandKind) (p : Place) → Reads k w → Reads l x → Reads m y → is_nothing j ≡ true → all_operands b (k ∷ l ∷ m ∷ j ∷ ks) p ≡ ((w p).0 ∷ (x (w p).1).0 ∷ (y (x (w p).1).1).0 ∷ [], (y (x (w p).1).1).1)
  then_three {l = l} {m = m} j ks p r s t n = one_more (l ∷ m ∷ j ∷ ks) p r ∙ rw (then_two j ks _ s t n) refl

  then_four : {k l m o : OperandKind} {w x y z : Walk Part} (j : OperandKind) (ks : List OperandKind) (p : Place) → Reads k w → Reads l x → Reads m y → Reads o z → is_nothing j ≡ true → all_operands b (k ∷ l ∷ m ∷ o ∷ j ∷ ks) p ≡ ((w p).0 ∷ (x (w p).1).0 ∷ (y (x (w p).1).1).0 ∷ (z (y (x (w p).1).1).1).0 ∷ [], (z (y (x (w p).1).1).1).1)
  then_four {l = l} {m = m} {o = o} j ks p r s t u n = one_more (l ∷ m ∷ o ∷ j ∷ ks) p r ∙ rw (then_three j ks _ s t u n) refl

  then_five : {k l m o h : OperandKind} {w x y z v : Walk Part} (j : OperandKind) (ks : List OperandKind) (p : Place) → Reads k w → Reads l x → Reads m y → Reads o z → Reads h v → is_nothing j ≡ true → all_operands b (k ∷ l ∷ m ∷ o ∷ h ∷ j ∷ ks) p ≡ ((w p).0 ∷ (x (w p).1).0 ∷ (y (x (w p).1).1).0 ∷ (z (y (x (w p).1).1).1).0 ∷ (v (z (y (x (w p).1).1).1).1).0 ∷ [], (v (z (y (x (w p).1).1).1).1).1)
  then_five {l = l} {m = m} {o = o} {h = h} j ks p r s t u i n = one_more (l ∷ m ∷ o ∷ h ∷ j ∷ ks) p r ∙ rw (then_four j ks _ s t u i n) refl

  -- ---- whole terms

  pub plain_row : (row : Row) (p : Place) → is_plain row ≡ true → with_row b (Some row) p ≡ (term (codes.Opcode row.0) (parts_of (all_operands b (kinds_of row.3) p).0), (all_operands b (kinds_of row.3) p).1)
  unfolding with_row of_row inside after gives
  plain_row row p e = let f = both (opposite row.2) (opposite (is_if row.0)) e in rw (not_true row.2 f.0, not_true (is_if row.0) f.1) refl

  packed_row : (row : Row) (p : Place) → row.2 ≡ true → is_if row.0 ≡ false → with_row b (Some row) p ≡ (term (codes.Opcode row.0) (parts_of (all_operands b (kinds_of row.3) (inside_at p)).0), outside_at p)
  unfolding with_row of_row inside after gives
  packed_row row p e f = rw (e, f) refl

  if_row : (row : Row) (p : Place) → row.2 ≡ true → is_if row.0 ≡ true → with_row b (Some row) p ≡ (term (codes.Opcode row.0) (parts_of ((all_operands b (kinds_of row.3) (inside_at p)).0 ++ (maybe_else b (outside_at p)).0 ∷ [])), (maybe_else b (outside_at p)).1)
  unfolding with_row of_row inside after gives
  if_row row p e f = rw (e, f) refl

  pub no_operand : (row : Row) (p : Place) → (is_plain row and is_nothing row.3.0) ≡ true → with_row b (Some row) p ≡ (term (codes.Opcode row.0) no_parts, p)
  no_operand row p f = let x = both _ _ f in plain_row row p x.0 ∙ rw (no_more row.3.0 _ p x.1) refl

  pub an_argument : (row : Row) (p : Place) → (is_plain row and is_argument row.3.0 and is_nothing row.3.1) ≡ true
      → with_row b (Some row) p ≡ (term (codes.Opcode row.0) (part (inner (b false p).0) no_parts), behind_one b p)
  an_argument row p f = let x = both _ _ f in let y = both _ _ x.1 in
      plain_row row p x.0 ∙ rw (then_one _ _ p (argument_reads row.3.0 y.0) y.1) refl

  pub a_string : (row : Row) (p : Place) → (is_plain row and is_text row.3.0 and is_nothing row.3.1) ≡ true
      → with_row b (Some row) p ≡ (term (codes.Opcode row.0) (part (bytes (a_text p).0) no_parts), (a_text p).1)
  a_string row p f = let x = both _ _ f in let y = both _ _ x.1 in
      plain_row row p x.0 ∙ rw (then_one _ _ p (text_reads row.3.0 y.0) y.1) refl

  pub a_super : (row : Row) (p : Place) → (is_plain row and is_super row.3.0 and is_nothing row.3.1) ≡ true
      → with_row b (Some row) p ≡ (term (codes.Opcode row.0) (part (a_super_name b p).0 no_parts), (a_super_name b p).1)
  a_super row p f = let x = both _ _ f in let y = both _ _ x.1 in
      plain_row row p x.0 ∙ rw (then_one _ _ p (super_reads row.3.0 y.0) y.1) refl

  pub argument_super : (row : Row) (p : Place) → (is_plain row and is_argument row.3.0 and is_super row.3.1 and is_nothing row.3.2) ≡ true
      → with_row b (Some row) p ≡ (term (codes.Opcode row.0) (part (inner (b false p).0) (part (a_super_name b (behind_one b p)).0 no_parts)), (a_super_name b (behind_one b p)).1)
  argument_super row p f = let x = both _ _ f in let y = both _ _ x.1 in let z = both _ _ y.1 in
      plain_row row p x.0 ∙ rw (then_two _ _ p (argument_reads row.3.0 y.0) (super_reads row.3.1 z.0) z.1) refl

  pub argument_target : (row : Row) (p : Place) → (is_plain row and is_argument row.3.0 and is_target row.3.1 and is_nothing row.3.2) ≡ true
      → with_row b (Some row) p ≡ (term (codes.Opcode row.0) (part (inner (b false p).0) (part (a_target b (behind_one b p)).0 no_parts)), (a_target b (behind_one b p)).1)
  argument_target row p f = let x = both _ _ f in let y = both _ _ x.1 in let z = both _ _ y.1 in
      plain_row row p x.0 ∙ rw (then_two _ _ p (argument_reads row.3.0 y.0) (target_reads row.3.1 z.0) z.1) refl

  pub two_arguments : (row : Row) (p : Place) → (is_plain row and is_argument row.3.0 and is_argument row.3.1 and is_nothing row.3.2) ≡ true
      → with_row b (Some row) p ≡ (term (codes.Opcode row.0) (part (inner (b false p).0) (part (inner (b false (behind_one b p)).0) no_parts)), behind_two b p)
  two_arguments row p f = let x = both _ _ f in let y = both _ _ x.1 in let z = both _ _ y.1 in
      plain_row row p x.0 ∙ rw (then_two _ _ p (argument_reads row.3.0 y.0) (argument_reads row.3.1 z.0) z.1) refl

  pub arguments_target : (row : Row) (p : Place) → (is_plain row and is_argument row.3.0 and is_argument row.3.1 and is_target row.3.2 and is_nothing row.3.3) ≡ true
      → with_row b (Some row) p ≡ (term (codes.Opcode row.0) (part (inner (b false p).0) (part (inner (b false (behind_one b p)).0) (part (a_target b (behind_two b p)).0 no_parts))), (a_target b (behind_two b p)).1)
  arguments_target row p f = let x = both _ _ f in let y = both _ _ x.1 in let z = both _ _ y.1 in let v = both _ _ z.1 in
      plain_row row p x.0 ∙ rw (then_three _ _ p (argument_reads row.3.0 y.0) (argument_reads row.3.1 z.0) (target_reads row.3.2 v.0) v.1) refl

  pub arguments_targets : (row : Row) (p : Place) → (is_plain row and is_argument row.3.0 and is_argument row.3.1 and is_target row.3.2 and is_target row.3.3 and is_nothing row.3.4) ≡ true
      → with_row b (Some row) p ≡ (term (codes.Opcode row.0) (part (inner (b false p).0) (part (inner (b false (behind_one b p)).0) (part (a_target b (behind_two b p)).0 (part (a_target b (a_target b (behind_two b p)).1).0 no_parts)))), (a_target b (a_target b (behind_two b p)).1).1)
  arguments_targets row p f = let x = both _ _ f in let y = both _ _ x.1 in let z = both _ _ y.1 in let v = both _ _ z.1 in let w = both _ _ v.1 in
      plain_row row p x.0 ∙ rw (then_four _ _ p (argument_reads row.3.0 y.0) (argument_reads row.3.1 z.0) (target_reads row.3.2 v.0) (target_reads row.3.3 w.0) w.1) refl

  pub three_arguments_target : (row : Row) (p : Place) → (is_plain row and is_argument row.3.0 and is_argument row.3.1 and is_argument row.3.2 and is_target row.3.3 and is_nothing row.3.4) ≡ true
      → with_row b (Some row) p ≡ (term (codes.Opcode row.0) (part (inner (b false p).0) (part (inner (b false (behind_one b p)).0) (part (inner (b false (behind_two b p)).0) (part (a_target b (behind_one b (behind_two b p))).0 no_parts)))), (a_target b (behind_one b (behind_two b p))).1)
  three_arguments_target row p f = let x = both _ _ f in let y = both _ _ x.1 in let z = both _ _ y.1 in let v = both _ _ z.1 in let w = both _ _ v.1 in
      plain_row row p x.0 ∙ rw (then_four _ _ p (argument_reads row.3.0 y.0) (argument_reads row.3.1 z.0) (argument_reads row.3.2 v.0) (target_reads row.3.3 w.0) w.1) refl

  pub super_word : (row : Row) (p : Place) → (is_plain row and is_super row.3.0 and is_word row.3.1 and is_nothing row.3.2) ≡ true
      → with_row b (Some row) p ≡ (term (codes.Opcode row.0) (part (a_super_name b p).0 (part (number (an_integer 2 (a_super_name b p).1).0) no_parts)), over 2 (a_super_name b p).1)
  super_word row p f = let x = both _ _ f in let y = both _ _ x.1 in let z = both _ _ y.1 in
      plain_row row p x.0 ∙ rw (then_two _ _ p (super_reads row.3.0 y.0) (word_reads row.3.1 z.0) z.1) refl

  pub super_target : (row : Row) (p : Place) → (is_plain row and is_super row.3.0 and is_target row.3.1 and is_nothing row.3.2) ≡ true
      → with_row b (Some row) p ≡ (term (codes.Opcode row.0) (part (a_super_name b p).0 (part (a_target b (a_super_name b p).1).0 no_parts)), (a_target b (a_super_name b p).1).1)
  super_target row p f = let x = both _ _ f in let y = both _ _ x.1 in let z = both _ _ y.1 in
      plain_row row p x.0 ∙ rw (then_two _ _ p (super_reads row.3.0 y.0) (target_reads row.3.1 z.0) z.1) refl

  pub super_argument : (row : Row) (p : Place) → (is_plain row and is_super row.3.0 and is_argument row.3.1 and is_nothing row.3.2) ≡ true
      → with_row b (Some row) p ≡ (term (codes.Opcode row.0) (part (a_super_name b p).0 (part (inner (b false (a_super_name b p).1).0) no_parts)), behind_one b (a_super_name b p).1)
  super_argument row p f = let x = both _ _ f in let y = both _ _ x.1 in let z = both _ _ y.1 in
      plain_row row p x.0 ∙ rw (then_two _ _ p (super_reads row.3.0 y.0) (argument_reads row.3.1 z.0) z.1) refl

  pub numbers_argument : (row : Row) (p : Place) → (is_plain row and is_byte row.3.0 and is_dword row.3.1 and is_argument row.3.2 and is_nothing row.3.3) ≡ true
      → with_row b (Some row) p ≡ (term (codes.Opcode row.0) (part (number (an_integer 1 p).0) (part (number (an_integer 4 (over 1 p)).0) (part (inner (b false (over 4 (over 1 p))).0) no_parts))), behind_one b (over 4 (over 1 p)))
  numbers_argument row p f = let x = both _ _ f in let y = both _ _ x.1 in let z = both _ _ y.1 in let v = both _ _ z.1 in
      plain_row row p x.0 ∙ rw (then_three _ _ p (byte_reads row.3.0 y.0) (dword_reads row.3.1 z.0) (argument_reads row.3.2 v.0) v.1) refl

  pub an_if : (row : Row) (p : Place) → (row.2 and is_if row.0 and is_argument row.3.0 and is_list row.3.1 and is_nothing row.3.2) ≡ true
      → with_row b (Some row) p ≡ (term (codes.Opcode row.0) (part (inner (b false (inside_at p)).0) (part (list (items_at b (behind_one b (inside_at p)))) (part (maybe_else b (outside_at p)).0 no_parts))), (maybe_else b (outside_at p)).1)
  an_if row p f = let x = both _ _ f in let u = both _ _ x.1 in let y = both _ _ u.1 in let z = both _ _ y.1 in
      if_row row p x.0 u.0 ∙ rw (then_two _ _ (inside_at p) (argument_reads row.3.0 y.0) (list_reads row.3.1 z.0) z.1) refl

  pub an_else_row : (row : Row) (p : Place) → (row.2 and opposite (is_if row.0) and is_list row.3.0 and is_nothing row.3.1) ≡ true
      → with_row b (Some row) p ≡ (term (codes.Opcode row.0) (part (list (items_at b (inside_at p))) no_parts), outside_at p)
  an_else_row row p f = let x = both _ _ f in let u = both _ _ x.1 in let y = both _ _ u.1 in
      packed_row row p x.0 (not_true _ u.0) ∙ rw (then_one _ _ (inside_at p) (list_reads row.3.0 y.0) y.1) refl

  pub a_while : (row : Row) (p : Place) → (row.2 and opposite (is_if row.0) and is_argument row.3.0 and is_list row.3.1 and is_nothing row.3.2) ≡ true
      → with_row b (Some row) p ≡ (term (codes.Opcode row.0) (part (inner (b false (inside_at p)).0) (part (list (items_at b (behind_one b (inside_at p)))) no_parts)), outside_at p)
  a_while row p f = let x = both _ _ f in let u = both _ _ x.1 in let y = both _ _ u.1 in let z = both _ _ y.1 in
      packed_row row p x.0 (not_true _ u.0) ∙ rw (then_two _ _ (inside_at p) (argument_reads row.3.0 y.0) (list_reads row.3.1 z.0) z.1) refl

  pub a_buffer : (row : Row) (p : Place) → (row.2 and opposite (is_if row.0) and is_argument row.3.0 and is_byte_list row.3.1 and is_nothing row.3.2) ≡ true
      → with_row b (Some row) p ≡ (term (codes.Opcode row.0) (part (inner (b false (inside_at p)).0) (part (bytes (behind_one b (inside_at p)).rest) no_parts)), outside_at p)
  a_buffer row p f = let x = both _ _ f in let u = both _ _ x.1 in let y = both _ _ u.1 in let z = both _ _ y.1 in
      packed_row row p x.0 (not_true _ u.0) ∙ rw (then_two _ _ (inside_at p) (argument_reads row.3.0 y.0) (byte_list_reads row.3.1 z.0) z.1) refl

  pub a_package : (row : Row) (p : Place) → (row.2 and opposite (is_if row.0) and is_byte row.3.0 and is_element_list row.3.1 and is_nothing row.3.2) ≡ true
      → with_row b (Some row) p ≡ (term (codes.Opcode row.0) (part (number (an_integer 1 (inside_at p)).0) (part (list (elements_at b (over 1 (inside_at p)))) no_parts)), outside_at p)
  a_package row p f = let x = both _ _ f in let u = both _ _ x.1 in let y = both _ _ u.1 in let z = both _ _ y.1 in
      packed_row row p x.0 (not_true _ u.0) ∙ rw (then_two _ _ (inside_at p) (byte_reads row.3.0 y.0) (element_list_reads row.3.1 z.0) z.1) refl

  pub a_var_package : (row : Row) (p : Place) → (row.2 and opposite (is_if row.0) and is_argument row.3.0 and is_element_list row.3.1 and is_nothing row.3.2) ≡ true
      → with_row b (Some row) p ≡ (term (codes.Opcode row.0) (part (inner (b false (inside_at p)).0) (part (list (elements_at b (behind_one b (inside_at p)))) no_parts)), outside_at p)
  a_var_package row p f = let x = both _ _ f in let u = both _ _ x.1 in let y = both _ _ u.1 in let z = both _ _ y.1 in
      packed_row row p x.0 (not_true _ u.0) ∙ rw (then_two _ _ (inside_at p) (argument_reads row.3.0 y.0) (element_list_reads row.3.1 z.0) z.1) refl

  pub a_datum : (row : Row) (p : Place) → (is_plain row and is_name row.3.0 and is_argument row.3.1 and is_nothing row.3.2) ≡ true
      → with_row b (Some row) p ≡ (term (codes.Opcode row.0) (datum_at b p), behind_one b (a_name p).1)
  a_datum row p f = let x = both _ _ f in let y = both _ _ x.1 in let z = both _ _ y.1 in
      plain_row row p x.0 ∙ rw (then_two _ _ p (name_reads row.3.0 y.0) (argument_reads row.3.1 z.0) z.1) refl

  pub a_scope : (row : Row) (p : Place) → (row.2 and opposite (is_if row.0) and is_name row.3.0 and is_list row.3.1 and is_nothing row.3.2) ≡ true
      → with_row b (Some row) p ≡ (term (codes.Opcode row.0) (scope_at b p), outside_at p)
  a_scope row p f = let x = both _ _ f in let u = both _ _ x.1 in let y = both _ _ u.1 in let z = both _ _ y.1 in
      packed_row row p x.0 (not_true _ u.0) ∙ rw (then_two _ _ (inside_at p) (name_reads row.3.0 y.0) (list_reads row.3.1 z.0) z.1) refl

  pub a_power_resource : (row : Row) (p : Place) → (row.2 and opposite (is_if row.0) and is_name row.3.0 and is_byte row.3.1 and is_word row.3.2 and is_list row.3.3 and is_nothing row.3.4) ≡ true
      → with_row b (Some row) p ≡ (term (codes.Opcode row.0) (power_resource_at b p), outside_at p)
  a_power_resource row p f = let x = both _ _ f in let u = both _ _ x.1 in let y = both _ _ u.1 in let z = both _ _ y.1 in let v = both _ _ z.1 in let w = both _ _ v.1 in
      packed_row row p x.0 (not_true _ u.0) ∙ rw (then_four _ _ (inside_at p) (name_reads row.3.0 y.0) (byte_reads row.3.1 z.0) (word_reads row.3.2 v.0) (list_reads row.3.3 w.0) w.1) refl

  pub a_processor : (row : Row) (p : Place) → (row.2 and opposite (is_if row.0) and is_name row.3.0 and is_byte row.3.1 and is_dword row.3.2 and is_byte row.3.3 and is_list row.3.4 and is_nothing row.3.5) ≡ true
      → with_row b (Some row) p ≡ (term (codes.Opcode row.0) (processor_at b p), outside_at p)
  a_processor row p f = let x = both _ _ f in let u = both _ _ x.1 in let y = both _ _ u.1 in let z = both _ _ y.1 in let v = both _ _ z.1 in let w = both _ _ v.1 in let t = both _ _ w.1 in
      packed_row row p x.0 (not_true _ u.0) ∙ rw (then_five _ _ (inside_at p) (name_reads row.3.0 y.0) (byte_reads row.3.1 z.0) (dword_reads row.3.2 v.0) (byte_reads row.3.3 w.0) (list_reads row.3.4 t.0) t.1) refl

  pub a_bank : (row : Row) (p : Place) → (row.2 and opposite (is_if row.0) and is_name row.3.0 and is_name row.3.1 and is_argument row.3.2 and is_byte row.3.3 and is_field_list row.3.4 and is_nothing row.3.5) ≡ true
      → with_row b (Some row) p ≡ (term (codes.Opcode row.0) (bank_at b p), outside_at p)
  a_bank row p f = let x = both _ _ f in let u = both _ _ x.1 in let y = both _ _ u.1 in let z = both _ _ y.1 in let v = both _ _ z.1 in let w = both _ _ v.1 in let t = both _ _ w.1 in
      packed_row row p x.0 (not_true _ u.0) ∙ rw (then_five _ _ (inside_at p) (name_reads row.3.0 y.0) (name_reads row.3.1 z.0) (argument_reads row.3.2 v.0) (byte_reads row.3.3 w.0) (field_list_reads row.3.4 t.0) t.1) refl

  pub a_region : (row : Row) (p : Place) → (is_plain row and is_name row.3.0 and is_byte row.3.1 and is_argument row.3.2 and is_argument row.3.3 and is_nothing row.3.4) ≡ true
      → with_row b (Some row) p ≡ (term (codes.Opcode row.0) (region_at b p), behind_two b (behind_space p))
  a_region row p f = let x = both _ _ f in let y = both _ _ x.1 in let z = both _ _ y.1 in let v = both _ _ z.1 in let w = both _ _ v.1 in
      plain_row row p x.0 ∙ rw (then_four _ _ p (name_reads row.3.0 y.0) (byte_reads row.3.1 z.0) (argument_reads row.3.2 v.0) (argument_reads row.3.3 w.0) w.1) refl

  pub a_sized_field : (row : Row) (p : Place) → (is_plain row and is_argument row.3.0 and is_argument row.3.1 and is_name row.3.2 and is_nothing row.3.3) ≡ true
      → with_row b (Some row) p ≡ (term (codes.Opcode row.0) (sized_field_at b p), (a_name (behind_two b p)).1)
  a_sized_field row p f = let x = both _ _ f in let y = both _ _ x.1 in let z = both _ _ y.1 in let v = both _ _ z.1 in
      plain_row row p x.0 ∙ rw (then_three _ _ p (argument_reads row.3.0 y.0) (argument_reads row.3.1 z.0) (name_reads row.3.2 v.0) v.1) refl

  pub a_bits_field : (row : Row) (p : Place) → (is_plain row and is_argument row.3.0 and is_argument row.3.1 and is_argument row.3.2 and is_name row.3.3 and is_nothing row.3.4) ≡ true
      → with_row b (Some row) p ≡ (term (codes.Opcode row.0) (bits_field_at b p), (a_name (behind_one b (behind_two b p))).1)
  a_bits_field row p f = let x = both _ _ f in let y = both _ _ x.1 in let z = both _ _ y.1 in let v = both _ _ z.1 in let w = both _ _ v.1 in
      plain_row row p x.0 ∙ rw (then_four _ _ p (argument_reads row.3.0 y.0) (argument_reads row.3.1 z.0) (argument_reads row.3.2 v.0) (name_reads row.3.3 w.0) w.1) refl

-- a row of a kind that is evaluated stands in the table, and has the operands of its kind
pub stands : (k : TermKind) (o : RowPlace) → row_kind (row_at o) ≡ k → row_kind None ≢ k → (row : Row) × ((row_at o ≡ Some row) × (fits k row ≡ true))
stands k o e some = there (row_at o) refl e
  where
    there : (r : Option Row) → slice_get table o.place ≡ r → row_kind r ≡ k → (row : Row) × ((r ≡ Some row) × (fits k row ≡ true))
    there None s e = absurd (some e)
    there (Some row) s e = (row, (refl, kind_fits (Some row) k row o.place s refl e))

-- ---- a term that refers to a target: RefOf names it, and the value of the operand of DerefOf refers to it

abbrev aims : TargetKind → Row → Bool
aims target.RefOf row = is_plain row and is_super row.3.0 and is_nothing row.3.1
aims target.DerefOf row = is_plain row and is_argument row.3.0 and is_nothing row.3.1
aims _ row = true

abbrev all_aim : List Row → Bool
all_aim [] = true
all_aim (r ∷ rows) = aims (target_kind (codes.Opcode r.0)) r and all_aim rows

table_aims : all_aim table ≡ true
table_aims = refl

row_aims : (rows : List Row) (i : ℕ) (row : Row) → all_aim rows ≡ true → slice_get rows i ≡ Some row → aims (target_kind (codes.Opcode row.0)) row ≡ true
row_aims [] i row h e = absurd (cc e)
row_aims (r ∷ rows) zero row h e = let same : r ≡ row = cc e in ap (λ x. aims (target_kind (codes.Opcode x.0)) x) (sym same) ∙ (both _ _ h).0
row_aims (r ∷ rows) (suc i) row h e = row_aims rows i row (both _ _ h).1 e

pub code_stands : (b : Below) (row : Row) (p : Place) (other : Bool) → is_if row.0 ≡ other → code_of (with_row b (Some row) p).0 ≡ codes.Opcode row.0
unfolding with_row after gives
code_stands b row p true e = rw e refl
code_stands b row p false e = rw e refl

pub refers : (k : TargetKind) (b : Below) (o : RowPlace) (p : Place) → target_kind (code_of (with_row b (row_at o) p).0) ≡ k → target.Other ≢ k → (row : Row) × ((row_at o ≡ Some row) × (aims k row ≡ true))
unfolding with_row gives
refers k b o p e other = there (row_at o) refl e
  where
    there : (r : Option Row) → slice_get table o.place ≡ r → target_kind (code_of (with_row b r p).0) ≡ k → (row : Row) × ((r ≡ Some row) × (aims k row ≡ true))
    there None s e = absurd (other e)
    there (Some row) s e = (row, (refl, ap (λ x. aims x row) (sym (ap target_kind (sym (code_stands b row p (is_if row.0) refl)) ∙ e)) ∙ row_aims table o.place row table_aims s))
