-- A term is refused where the integer that it takes isn't one.
use Rattle.std.specs.Prelude.{◌≡◌, ℕ, suc, List, Ok, Err, refl}
use Rattle.std.proofs.Common.{ap, ◌∙◌}
use Rattle.ar_space.specs.declared.integer_width.IntegerWidth.{IntegerWidth}
use Rattle.ar_space.specs.declared.refusal.Refusal.{Refusal}
use Rattle.ar_space.specs.Accesses.{Accesses}
use Rattle.ar_space.specs.Change.{give, settle, go_on, ◌>>=◌}
use Rattle.ar_space.specs.Outcome.{Outcome}
use Rattle.ar_space.specs.Outcome as outcome
use Rattle.aml_path.specs.declared.segment.Seg.{Seg}
use Rattle.aml_path.specs.Paths.{Name}
use Rattle.aml_grammar.specs.declared.opcode.Opcode.{Opcode}
use Rattle.aml_grammar.specs.declared.opcode.Opcode.TheVariants as opcodes
use Rattle.aml_grammar.specs.Tree.{Tree, Trees, inner, list, Part, Parts, part}
use Rattle.aml_objects.specs.Contents.{Content, content_in}
use Rattle.aml_objects.specs.declared.value.Value.{Value}
use Rattle.aml_convert.specs.Conversions.{to_integer_of, to_buffer_of}
use Rattle.aml_convert.specs.Strings.{string_of, part_of, middle_of}
use Rattle.aml_world.specs.declared.state.profile.Profile.TheVariants as profiles
use Rattle.aml_world.specs.declared.values.operation_kind.Conversion.{Conversion}
use Rattle.aml_world.specs.declared.values.operation_kind.Conversion.TheVariants as conversions
use Rattle.aml_world.specs.declared.values.operation_kind.TwoOperands.TheVariants as two
use Rattle.aml_world.specs.state.State.{State}
use Rattle.aml_world.specs.state.Run.{lift}
use Rattle.aml_world.specs.state.Readings.{integer_in}
use Rattle.aml_world.specs.values.Operations.{operated_on_one, lnot_in, element_indexed, byte_indexed, indexed}
use Rattle.aml_world.specs.values.WideOperations.{decoded_in, coded_in, converted, string_text, string_in, middle_content, middle_in}
use Rattle.aml_meaning.specs.declared.term_kind.TermKind.TheVariants as kinds
use Rattle.aml_meaning.specs.declared.term_kind.WideKind.TheVariants as wide
use Rattle.aml_meaning.specs.Terms.{kind_of}
use Rattle.aml_meaning.specs.Tasks.{task, operand_value, operand_integer, value_at, two_values}
use Rattle.aml_meaning.specs.DataTerms.{buffer_rule, var_package_rule}
use Rattle.aml_meaning.specs.FieldTerms.{region_rule}
use Rattle.aml_meaning.specs.OperatorTerms.{one_rule, lnot_rule}
use Rattle.aml_meaning.specs.StatementTerms.{if_rule, while_rule, loop, turns, turn}
use Rattle.aml_meaning.specs.WideTerms.{convert_rule, to_string_rule, middle_rule}
use Rattle.aml_meaning.specs.Evaluation.{rule}
use Rattle.aml_meaning.specs.Meaning.{meaning}
use Rattle.aml_laws.specs.IntegerOperands.{TakesInteger, by_not, by_highest_bit, by_lowest_bit, by_lnot, by_size_of_buffer, by_size_of_package, from_coded_decimal, to_coded_decimal, AsksInteger, of_integer, of_condition, IsIndexed, a_package, a_string, a_buffer}
use Rattle.aml_laws.specs.JoinedTerms.{middle, HasBytes}
use Rattle.aml_laws.specs.JoinedTerms as joined
use Rattle.aml_laws.specs.OperandTerms.{AsksCondition, by_if, by_while}
use Rattle.aml_laws.specs.OperatorTerms.{of_opcode, two_to, GivesValue, IsRefused}
use Rattle.aml_laws.specs.RegionTerms.{operation_region}
use Rattle.aml_laws.specs.TestTerms.{TwoValues}
use Rattle.aml_laws.proofs.OperatorsComputed.{two_refused}
use Rattle.aml_laws.proofs.TestsTold.{converted_so}
use Rattle.aml_laws.proofs.TreesCost.{term_begins}
use Rattle.aml_laws.proofs.WideAsked.{asked_in_wide}

pub no_integer_so : {S : Type 0} (w : State S) (e : Refusal) (u : Value) → integer_in u w ≡ (Err e, w) → to_integer_of w.width (content_in w.objects u) ≡ Err e
unfolding integer_in
no_integer_so w e u is = ap (λ (m : Outcome ℕ × _). m.0) is

-- ---- one operand

module _ {S : Type 0} (accesses : Accesses S) (scope : List Seg) (depth : ℕ) (w : State S) (steps : ℕ) (x : Tree) (v : Value) (e : Refusal) (after : State S × ℕ) (gives : GivesValue accesses scope depth x (w, steps) v after) (is : integer_in v after.0 ≡ (Err e, after.0)) where
  abbrev RuleStops : Tree → Type 0
  RuleStops t = rule accesses (meaning accesses) (task scope depth t) (w, steps) ≡ (Err e, after)

  integer_stops : operand_integer (meaning accesses) scope depth x (w, steps) ≡ (Err e, after)
  unfolding operand_integer operand_value settle lift go_on ◌>>=◌
  integer_stops = rw (gives, is) refl

  module _ (k : Conversion) (op : Opcode) (ps : Parts) where
    conversion_asked : kind_of op ≡ kinds.Wide (wide.Convert k) → w.profile ≡ profiles.Wide
        → rule accesses (meaning accesses) (task scope depth (of_opcode op (part (inner x) ps))) (w, steps) ≡ convert_rule accesses (meaning accesses) k scope depth (of_opcode op (part (inner x) ps)) (w, steps)
    unfolding rule
    conversion_asked kind is_wide = rw kind (asked_in_wide op w steps is_wide (convert_rule accesses (meaning accesses) k scope depth (of_opcode op (part (inner x) ps))))

    conversion_stops : converted k v after.0 ≡ (Err e, after.0) → convert_rule accesses (meaning accesses) k scope depth (of_opcode op (part (inner x) ps)) (w, steps) ≡ (Err e, after)
    unfolding convert_rule value_at operand_value settle lift go_on ◌>>=◌
    conversion_stops so = rw (gives, so) refl

    converting : kind_of op ≡ kinds.Wide (wide.Convert k) → w.profile ≡ profiles.Wide → converted k v after.0 ≡ (Err e, after.0) → RuleStops (of_opcode op (part (inner x) ps))
    converting kind is_wide so = conversion_asked kind is_wide ∙ conversion_stops so

  undecoded : converted conversions.FromDecimal v after.0 ≡ (Err e, after.0)
  unfolding decoded_in go_on ◌>>=◌
  undecoded = rw is refl

  uncoded : converted conversions.ToDecimal v after.0 ≡ (Err e, after.0)
  unfolding coded_in go_on ◌>>=◌
  uncoded = rw is refl

  integer_asked : (op : Opcode) → TakesInteger w.profile op → (ps : Parts) → RuleStops (of_opcode op (part (inner x) ps))
  unfolding rule one_rule operated_on_one lnot_rule lnot_in buffer_rule var_package_rule operand_integer value_at operand_value settle lift go_on ◌>>=◌
  integer_asked _ by_not ps = rw (gives, is) refl
  integer_asked _ by_highest_bit ps = rw (gives, is) refl
  integer_asked _ by_lowest_bit ps = rw (gives, is) refl
  integer_asked _ by_lnot ps = rw (gives, is) refl
  integer_asked _ by_size_of_buffer ps = rw (gives, is) refl
  integer_asked _ by_size_of_package ps = rw (gives, is) refl
  integer_asked _ (from_coded_decimal is_wide) ps = converting conversions.FromDecimal opcodes.FromBcd ps refl is_wide undecoded
  integer_asked _ (to_coded_decimal is_wide) ps = converting conversions.ToDecimal opcodes.ToBcd ps refl is_wide uncoded

  condition_asked : (op : Opcode) → AsksCondition op → (ts : Trees) (ps : Parts) → RuleStops (of_opcode op (part (inner x) (part (list ts) ps)))
  unfolding rule if_rule while_rule loop turns turn settle give go_on ◌>>=◌
  condition_asked _ by_if ts ps = rw integer_stops refl
  condition_asked _ by_while ts ps = rw integer_stops refl

pub no_integer_asked : {S : Type 0} (accesses : Accesses S) (scope : List Seg) (depth : ℕ) (w : State S) (steps : ℕ) (t x : Tree) → AsksInteger w.profile t x → (v : Value) (e : Refusal) (after : State S × ℕ) → GivesValue accesses scope depth x (w, steps) v after → integer_in v after.0 ≡ (Err e, after.0)
    → IsRefused accesses scope depth t (w, suc steps) e after
no_integer_asked accesses scope depth w steps _ _ (of_integer op takes x ps) v e after gives is = (term_begins accesses (task scope depth (of_opcode op (part (inner x) ps)))).paid w steps ∙ integer_asked accesses scope depth w steps x v e after gives is op takes ps
no_integer_asked accesses scope depth w steps _ _ (of_condition op asks x ts ps) v e after gives is = (term_begins accesses (task scope depth (of_opcode op (part (inner x) (part (list ts) ps))))).paid w steps ∙ condition_asked accesses scope depth w steps x v e after gives is op asks ts ps

-- ---- Index

module _ {S : Type 0} (w : State S) (u : Value) (e : Refusal) (is : integer_in u w ≡ (Err e, w)) where
  unindexed : (v : Value) → IsIndexed v → indexed v u w ≡ (Err e, w)
  unfolding element_indexed byte_indexed go_on ◌>>=◌
  unindexed _ (a_package o) = rw is refl
  unindexed _ (a_string o) = rw is refl
  unindexed _ (a_buffer o) = rw is refl

module _ {S : Type 0} (accesses : Accesses S) (scope : List Seg) (depth : ℕ) (x y : Tree) (w : State S) (steps : ℕ) (v u : Value) (after : State S × ℕ) (h : TwoValues accesses scope depth x y (w, steps) v u after) (e : Refusal) where
  pub index_asked : IsIndexed v → integer_in u after.0 ≡ (Err e, after.0) → (p : Part) → IsRefused accesses scope depth (two_to opcodes.Index x y p) (w, suc steps) e after
  index_asked indexed is p = two_refused accesses scope depth x y p two.Index opcodes.Index refl w steps h.between after v u h.first h.second e after.0 (unindexed after.0 u e is v indexed)

  -- ---- OperationRegion

  offset_stops : integer_in v after.0 ≡ (Err e, after.0) → (n : Name) (space : ℕ) → rule accesses (meaning accesses) (task scope depth (operation_region n space x y)) (w, steps) ≡ (Err e, after)
  unfolding rule region_rule value_at operand_value settle lift go_on ◌>>=◌
  offset_stops is n space = rw (h.first, h.second, is) refl

  pub offset_asked : integer_in v after.0 ≡ (Err e, after.0) → (n : Name) (space : ℕ) → IsRefused accesses scope depth (operation_region n space x y) (w, suc steps) e after
  offset_asked is n space = (term_begins accesses (task scope depth (operation_region n space x y))).paid w steps ∙ offset_stops is n space

  length_stops : (a : ℕ) → integer_in v after.0 ≡ (Ok a, after.0) → integer_in u after.0 ≡ (Err e, after.0) → (n : Name) (space : ℕ) → rule accesses (meaning accesses) (task scope depth (operation_region n space x y)) (w, steps) ≡ (Err e, after)
  unfolding rule region_rule value_at operand_value settle lift go_on ◌>>=◌
  length_stops a begins is n space = rw (h.first, h.second, begins, is) refl

  pub length_asked : (a : ℕ) → integer_in v after.0 ≡ (Ok a, after.0) → integer_in u after.0 ≡ (Err e, after.0) → (n : Name) (space : ℕ) → IsRefused accesses scope depth (operation_region n space x y) (w, suc steps) e after
  length_asked a begins is n space = (term_begins accesses (task scope depth (operation_region n space x y))).paid w steps ∙ length_stops a begins is n space

  -- ---- ToString

  no_string : (bytes : List ℕ) → to_buffer_of after.0.width (content_in after.0.objects v) ≡ Ok bytes → integer_in u after.0 ≡ (Err e, after.0) → string_of after.0.width (content_in after.0.objects v) (content_in after.0.objects u) ≡ Err e
  unfolding string_of outcome.◌>>=◌
  no_string bytes source is = rw (source, no_integer_so after.0 e u is) refl

  pub string_stops : string_of after.0.width (content_in after.0.objects v) (content_in after.0.objects u) ≡ Err e → string_in v u after.0 ≡ (Err e, after.0)
  unfolding string_in string_text go_on ◌>>=◌
  string_stops is = rw is refl

  string_by : string_in v u after.0 ≡ (Err e, after.0) → (p : Part) → to_string_rule accesses (meaning accesses) scope depth (two_to opcodes.ToString x y p) (w, steps) ≡ (Err e, after)
  unfolding to_string_rule two_values value_at operand_value settle lift give go_on ◌>>=◌
  string_by is p = rw (h.first, h.second, is) refl

  pub string_ruled : w.profile ≡ profiles.Wide → string_in v u after.0 ≡ (Err e, after.0) → (p : Part) → rule accesses (meaning accesses) (task scope depth (two_to opcodes.ToString x y p)) (w, steps) ≡ (Err e, after)
  unfolding rule
  string_ruled is_wide is p = asked_in_wide opcodes.ToString w steps is_wide (to_string_rule accesses (meaning accesses) scope depth (two_to opcodes.ToString x y p)) ∙ string_by is p

  pub length_of_text_asked : w.profile ≡ profiles.Wide → (bytes : List ℕ) → to_buffer_of after.0.width (content_in after.0.objects v) ≡ Ok bytes → integer_in u after.0 ≡ (Err e, after.0) → (p : Part) → IsRefused accesses scope depth (two_to opcodes.ToString x y p) (w, suc steps) e after
  length_of_text_asked is_wide bytes source is p = (term_begins accesses (task scope depth (two_to opcodes.ToString x y p))).paid w steps ∙ string_ruled is_wide (string_stops (no_string bytes source is)) p

-- ---- Mid

module _ (width : IntegerWidth) (b d : Content) (whole : List ℕ) (e : Refusal) where
  no_start : (c : Content) (made : List ℕ → Content) → HasBytes width c whole made → to_integer_of width b ≡ Err e → middle_of width c b d ≡ Err e
  unfolding middle_of part_of outcome.◌>>=◌
  no_start _ _ (joined.of_string s) is = rw is refl
  no_start _ _ (joined.of_buffer s) is = rw is refl
  no_start _ _ (joined.of_integer m s same) is = rw is refl

  no_count : (i : ℕ) (c : Content) (made : List ℕ → Content) → HasBytes width c whole made → to_integer_of width b ≡ Ok i → to_integer_of width d ≡ Err e → middle_of width c b d ≡ Err e
  unfolding middle_of part_of outcome.◌>>=◌
  no_count i _ _ (joined.of_string s) starts is = rw (starts, is) refl
  no_count i _ _ (joined.of_buffer s) starts is = rw (starts, is) refl
  no_count i _ _ (joined.of_integer m s same) starts is = rw (starts, is) refl

module _ {S : Type 0} (accesses : Accesses S) (scope : List Seg) (depth : ℕ) (x y z : Tree) (w : State S) (steps : ℕ) (v u r : Value) (behind after : State S × ℕ) (h : TwoValues accesses scope depth x y (w, steps) v u behind) (third : GivesValue accesses scope depth z behind r after) (e : Refusal) where
  middle_none : middle_of after.0.width (content_in after.0.objects v) (content_in after.0.objects u) (content_in after.0.objects r) ≡ Err e → middle_in v u r after.0 ≡ (Err e, after.0)
  unfolding middle_in middle_content go_on ◌>>=◌
  middle_none is = rw is refl

  middle_by : middle_in v u r after.0 ≡ (Err e, after.0) → (p : Part) → middle_rule accesses (meaning accesses) scope depth (middle x y z p) (w, steps) ≡ (Err e, after)
  unfolding middle_rule two_values value_at operand_value settle lift give go_on ◌>>=◌
  middle_by is p = rw (h.first, h.second, third, is) refl

  middle_ruled : w.profile ≡ profiles.Wide → middle_in v u r after.0 ≡ (Err e, after.0) → (p : Part) → rule accesses (meaning accesses) (task scope depth (middle x y z p)) (w, steps) ≡ (Err e, after)
  unfolding rule
  middle_ruled is_wide is p = asked_in_wide opcodes.Mid w steps is_wide (middle_rule accesses (meaning accesses) scope depth (middle x y z p)) ∙ middle_by is p

  pub middle_refused : w.profile ≡ profiles.Wide → middle_of after.0.width (content_in after.0.objects v) (content_in after.0.objects u) (content_in after.0.objects r) ≡ Err e → (p : Part) → IsRefused accesses scope depth (middle x y z p) (w, suc steps) e after
  middle_refused is_wide is p = (term_begins accesses (task scope depth (middle x y z p))).paid w steps ∙ middle_ruled is_wide (middle_none is) p

  module _ (is_wide : w.profile ≡ profiles.Wide) (whole : List ℕ) (made : List ℕ → Content) (has : HasBytes after.0.width (content_in after.0.objects v) whole made) where
    pub start_asked : integer_in u after.0 ≡ (Err e, after.0) → (p : Part) → IsRefused accesses scope depth (middle x y z p) (w, suc steps) e after
    start_asked is p = middle_refused is_wide (no_start after.0.width (content_in after.0.objects u) (content_in after.0.objects r) whole e (content_in after.0.objects v) made has (no_integer_so after.0 e u is)) p

    pub count_asked : (i : ℕ) → integer_in u after.0 ≡ (Ok i, after.0) → integer_in r after.0 ≡ (Err e, after.0) → (p : Part) → IsRefused accesses scope depth (middle x y z p) (w, suc steps) e after
    count_asked i starts is p = middle_refused is_wide (no_count after.0.width (content_in after.0.objects u) (content_in after.0.objects r) whole e i (content_in after.0.objects v) made has (converted_so after.0 i u starts) (no_integer_so after.0 e r is)) p
