-- What constants and numbers give.
use Rattle.std.specs.Prelude.{◌≡◌, ◌-◌, ◌^◌, ◌%◌, ℕ, suc, List, Ok, refl}
use Rattle.std.proofs.Common.{ap, ◌∙◌}
use Rattle.ar_space.specs.declared.integer_width.IntegerWidth.{IntegerWidth}
use Rattle.ar_space.specs.declared.integer_width.IntegerWidth.TheVariants.{Bits32, Bits64}
use Rattle.ar_space.specs.Accesses.{Accesses}
use Rattle.ar_space.specs.Change.{give, settle, go_on, ◌>>=◌}
use Rattle.aml_path.specs.declared.segment.Seg.{Seg}
use Rattle.aml_grammar.specs.declared.opcode.Opcode.{Opcode}
use Rattle.aml_grammar.specs.declared.opcode.Opcode.TheVariants as opcodes
use Rattle.aml_objects.specs.declared.value.Value.TheVariants as value
use Rattle.aml_convert.specs.Integers.{bits_of, truncated}
use Rattle.aml_world.specs.state.State.{State}
use Rattle.aml_world.specs.state.Run.{lift}
use Rattle.aml_world.specs.state.Readings.{integer_kept}
use Rattle.aml_meaning.specs.declared.flow.Flow.TheVariants as flow
use Rattle.aml_meaning.specs.declared.term_kind.TermKind.TheVariants as kinds
use Rattle.aml_meaning.specs.declared.term_kind.DataKind.TheVariants as datas
use Rattle.aml_meaning.specs.Terms.{kind_of}
use Rattle.aml_meaning.specs.Tasks.{task}
use Rattle.aml_meaning.specs.DataTerms.{constant_rule, integer_rule}
use Rattle.aml_meaning.specs.Evaluation.{rule}
use Rattle.aml_meaning.specs.Meaning.{meaning}
use Rattle.aml_laws.specs.OperatorTerms.{alone, Gives}
use Rattle.aml_laws.specs.ConstantTerms.{StandsFor, WritesNumber, byte, word, double_word, quad_word, written}
use Rattle.aml_laws.proofs.TreesCost.{term_begins}

module _ {S : Type 0} (accesses : Accesses S) (scope : List Seg) (depth : ℕ) (op : Opcode) (k : ℕ) (w : State S) (steps : ℕ) where
  constant_ruled : kind_of op ≡ kinds.Data (datas.Constant k) → rule accesses (meaning accesses) (task scope depth (alone op)) (w, steps) ≡ (Ok (flow.Value (value.Integer (truncated w.width k))), (w, steps))
  unfolding rule constant_rule integer_kept lift give go_on ◌>>=◌
  constant_ruled is = rw is refl

  constant_gives : kind_of op ≡ kinds.Data (datas.Constant k) → Gives accesses scope depth (alone op) (w, suc steps) (truncated w.width k) (w, steps)
  constant_gives is = (term_begins accesses (task scope depth (alone op))).paid w steps ∙ constant_ruled is

  number_ruled : kind_of op ≡ kinds.Data datas.Integer → rule accesses (meaning accesses) (task scope depth (written op k)) (w, steps) ≡ (Ok (flow.Value (value.Integer (truncated w.width k))), (w, steps))
  unfolding rule integer_rule constant_rule integer_kept settle lift give go_on ◌>>=◌
  number_ruled is = rw is refl

  number_gives : kind_of op ≡ kinds.Data datas.Integer → Gives accesses scope depth (written op k) (w, suc steps) (truncated w.width k) (w, steps)
  number_gives is = (term_begins accesses (task scope depth (written op k))).paid w steps ∙ number_ruled is

stands_for : {S : Type 0} (op : Opcode) (k : ℕ) (n : IntegerWidth → ℕ) → kind_of op ≡ kinds.Data (datas.Constant k) → ((width : IntegerWidth) → truncated width k ≡ n width) → StandsFor S (alone op) n
stands_for op k n is so accesses scope depth w steps = constant_gives accesses scope depth op k w steps is ∙ ap (λ (m : ℕ). (Ok (flow.Value (value.Integer m)), (w, steps))) (so w.width)

none_kept : (width : IntegerWidth) → truncated width 0 ≡ 0
none_kept Bits32 = refl
none_kept Bits64 = refl

one_kept : (width : IntegerWidth) → truncated width 1 ≡ 1
one_kept Bits32 = refl
one_kept Bits64 = refl

two_kept : (width : IntegerWidth) → truncated width 2 ≡ 2
two_kept Bits32 = refl
two_kept Bits64 = refl

pub all_kept : (width : IntegerWidth) → truncated width 18446744073709551615 ≡ 2 ^ bits_of width - 1
all_kept Bits32 = refl
all_kept Bits64 = refl

pub zero_stands : {S : Type 0} → StandsFor S (alone opcodes.Zero) (λ width. 0)
zero_stands = stands_for opcodes.Zero 0 (λ width. 0) refl none_kept

pub one_stands : {S : Type 0} → StandsFor S (alone opcodes.One) (λ width. 1)
one_stands = stands_for opcodes.One 1 (λ width. 1) refl one_kept

pub ones_stands : {S : Type 0} → StandsFor S (alone opcodes.Ones) (λ width. 2 ^ bits_of width - 1)
ones_stands = stands_for opcodes.Ones 18446744073709551615 (λ width. 2 ^ bits_of width - 1) refl all_kept

pub revision_stands : {S : Type 0} → StandsFor S (alone opcodes.Revision) (λ width. 2)
revision_stands = stands_for opcodes.Revision 2 (λ width. 2) refl two_kept

pub number_stands : {S : Type 0} (op : Opcode) (k : ℕ) → WritesNumber op → StandsFor S (written op k) (λ width. k % 2 ^ bits_of width)
number_stands _ k byte accesses scope depth w steps = number_gives accesses scope depth opcodes.BytePrefix k w steps refl
number_stands _ k word accesses scope depth w steps = number_gives accesses scope depth opcodes.WordPrefix k w steps refl
number_stands _ k double_word accesses scope depth w steps = number_gives accesses scope depth opcodes.DWordPrefix k w steps refl
number_stands _ k quad_word accesses scope depth w steps = number_gives accesses scope depth opcodes.QWordPrefix k w steps refl
