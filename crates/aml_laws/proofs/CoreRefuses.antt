-- Terms that a profile doesn't evaluate are refused before any operand.
use Rattle.std.specs.Prelude.{◌≡◌, ◌||◌, ℕ, suc, Bool, true, false, List, Err, refl}
use Rattle.std.proofs.Common.{ap, ◌∙◌}
use Rattle.ar_space.specs.Accesses.{Accesses}
use Rattle.ar_space.specs.Change.{stop, settle, go_on, ◌>>=◌}
use Rattle.ar_space.specs.declared.refusal.Refusal.TheVariants as refusal
use Rattle.ar_space.specs.declared.refusal.EvaluationFault.TheVariants.{Unsupported}
use Rattle.aml_path.specs.declared.segment.Seg.{Seg}
use Rattle.aml_path.specs.Paths.{Name}
use Rattle.aml_grammar.specs.Apart.{code_of}
use Rattle.aml_grammar.specs.Opcodes.{number_of}
use Rattle.aml_grammar.specs.Tree.{Parts, Trees}
use Rattle.aml_grammar.specs.declared.opcode.Opcode.{Opcode}
use Rattle.aml_grammar.specs.declared.opcode.Opcode.TheVariants as opcodes
use Rattle.aml_world.specs.declared.state.profile.Profile.TheVariants as profiles
use Rattle.aml_world.specs.declared.values.operation_kind.Conversion.TheVariants as conversions
use Rattle.aml_world.specs.declared.values.operation_kind.EventChange.TheVariants as changes
use Rattle.aml_world.specs.state.State.{State}
use Rattle.aml_world.specs.state.Run.{Run, lift}
use Rattle.aml_world.specs.state.Profiles.{evaluated_in, asked_for}
use Rattle.aml_meaning.specs.declared.flow.Flow.{Flow}
use Rattle.aml_meaning.specs.declared.term_kind.TermKind.TheVariants as kinds
use Rattle.aml_meaning.specs.declared.term_kind.WideKind.{WideKind}
use Rattle.aml_meaning.specs.declared.term_kind.WideKind.TheVariants as wide
use Rattle.aml_meaning.specs.Terms.{kind_of}
use Rattle.aml_meaning.specs.Tasks.{task}
use Rattle.aml_meaning.specs.FieldTerms.{is_connection, has_connection, field_list_rule, index_list_rule}
use Rattle.aml_meaning.specs.WideTerms.{in_wide, wide_rule}
use Rattle.aml_meaning.specs.Evaluation.{rule}
use Rattle.aml_meaning.specs.Meaning.{meaning}
use Rattle.aml_laws.specs.OperatorTerms.{of_opcode, IsRefused}
use Rattle.aml_laws.specs.RegionTerms.{field, index_field}
use Rattle.aml_laws.specs.ProfileTerms.{IsOfTheWide, of_match, of_to_decimal_string, of_to_hex_string, of_to_string, of_mid, of_signal, of_wait, of_reset, of_from_bcd, of_to_bcd, of_bank_field, IsOfNone, of_load_table, of_load, of_debug, of_timer, of_data_region, Connects, here, later}
use Rattle.aml_laws.proofs.TreesCost.{term_begins}

-- ---- opcodes

record IsWide (op : Opcode) (number : ℕ) : Type 0 where
  kind : WideKind
  is : kind_of op ≡ kinds.Wide kind
  numbered : number_of op ≡ number

wide_so : (op : Opcode) (number : ℕ) → IsOfTheWide op number → IsWide op number
wide_so _ _ of_match = record { kind = wide.Match; is = refl; numbered = refl }
wide_so _ _ of_to_decimal_string = record { kind = wide.Convert conversions.DecimalString; is = refl; numbered = refl }
wide_so _ _ of_to_hex_string = record { kind = wide.Convert conversions.HexadecimalString; is = refl; numbered = refl }
wide_so _ _ of_to_string = record { kind = wide.ToString; is = refl; numbered = refl }
wide_so _ _ of_mid = record { kind = wide.Mid; is = refl; numbered = refl }
wide_so _ _ of_signal = record { kind = wide.Event changes.Signal; is = refl; numbered = refl }
wide_so _ _ of_wait = record { kind = wide.Wait; is = refl; numbered = refl }
wide_so _ _ of_reset = record { kind = wide.Event changes.Reset; is = refl; numbered = refl }
wide_so _ _ of_from_bcd = record { kind = wide.Convert conversions.FromDecimal; is = refl; numbered = refl }
wide_so _ _ of_to_bcd = record { kind = wide.Convert conversions.ToDecimal; is = refl; numbered = refl }
wide_so _ _ of_bank_field = record { kind = wide.BankField; is = refl; numbered = refl }

none_so : (op : Opcode) (number : ℕ) → IsOfNone op number → (kind_of op ≡ kinds.Unsupported) × (number_of op ≡ number)
none_so _ _ of_load_table = (refl, refl)
none_so _ _ of_load = (refl, refl)
none_so _ _ of_debug = (refl, refl)
none_so _ _ of_timer = (refl, refl)
none_so _ _ of_data_region = (refl, refl)

-- ---- terms

module _ {S : Type 0} (op : Opcode) (w : State S) (steps : ℕ) (core : w.profile ≡ profiles.Core) where
  asked_so : lift (asked_for op) (w, steps) ≡ (Err (refusal.Evaluation (Unsupported (number_of op))), (w, steps))
  unfolding lift asked_for
  asked_so = ap (λ p. (evaluated_in p op, (w, steps))) core

  refused_in_core : (m : Run S Flow) → in_wide op m (w, steps) ≡ (Err (refusal.Evaluation (Unsupported (number_of op))), (w, steps))
  unfolding go_on ◌>>=◌
  refused_in_core m = rw asked_so refl

module _ {S : Type 0} (accesses : Accesses S) (scope : List Seg) (depth : ℕ) (op : Opcode) (number : ℕ) (ps : Parts) (w : State S) (steps : ℕ) where
  wide_ruled : (k : WideKind) → kind_of op ≡ kinds.Wide k → rule accesses (meaning accesses) (task scope depth (of_opcode op ps)) (w, steps) ≡ in_wide op (wide_rule accesses (meaning accesses) k scope depth (of_opcode op ps)) (w, steps)
  unfolding rule
  wide_ruled k is = rw is refl

  pub core_refuses : IsOfTheWide op number → w.profile ≡ profiles.Core → IsRefused accesses scope depth (of_opcode op ps) (w, suc steps) (refusal.Evaluation (Unsupported number)) (w, steps)
  core_refuses is core =
      let h = wide_so op number is in
      (term_begins accesses (task scope depth (of_opcode op ps))).paid w steps
      ∙ (wide_ruled h.kind h.is ∙ (refused_in_core op w steps core (wide_rule accesses (meaning accesses) h.kind scope depth (of_opcode op ps)) ∙ ap (λ (n : ℕ). (Err (refusal.Evaluation (Unsupported n)), (w, steps))) h.numbered))

  none_ruled : kind_of op ≡ kinds.Unsupported → rule accesses (meaning accesses) (task scope depth (of_opcode op ps)) (w, steps) ≡ (Err (refusal.Evaluation (Unsupported (number_of op))), (w, steps))
  unfolding rule stop
  none_ruled is = rw is refl

  pub none_evaluates : IsOfNone op number → IsRefused accesses scope depth (of_opcode op ps) (w, suc steps) (refusal.Evaluation (Unsupported number)) (w, steps)
  none_evaluates is =
      let h = none_so op number is in
      (term_begins accesses (task scope depth (of_opcode op ps))).paid w steps ∙ (none_ruled h.0 ∙ ap (λ (n : ℕ). (Err (refusal.Evaluation (Unsupported n)), (w, steps))) h.1)

-- ---- lists of fields with a Connection

either : (b c : Bool) → c ≡ true → (b || c) ≡ true
either true c e = refl
either false c e = e

connects_so : (fields : Trees) → Connects fields → has_connection fields ≡ true
unfolding has_connection
connects_so _ (here ps others) = refl
connects_so _ (later t others h) = either (is_connection (code_of t)) (has_connection others) (connects_so others h)

module _ {S : Type 0} (accesses : Accesses S) (scope : List Seg) (depth flags : ℕ) (fields : Trees) (w : State S) (steps : ℕ) (connects : Connects fields) (core : w.profile ≡ profiles.Core) where
  fields_ruled : (region : Name) → rule accesses (meaning accesses) (task scope depth (field region flags fields)) (w, steps) ≡ (Err (refusal.Evaluation (Unsupported 0x5B81)), (w, steps))
  unfolding rule field_list_rule settle go_on ◌>>=◌
  fields_ruled region = rw (connects_so fields connects, asked_so opcodes.Field w steps core) refl

  index_ruled : (index behind : Name) → rule accesses (meaning accesses) (task scope depth (index_field index behind flags fields)) (w, steps) ≡ (Err (refusal.Evaluation (Unsupported 0x5B86)), (w, steps))
  unfolding rule index_list_rule settle go_on ◌>>=◌
  index_ruled index behind = rw (connects_so fields connects, asked_so opcodes.IndexField w steps core) refl

  pub connections_refused : (region index behind : Name) → IsRefused accesses scope depth (field region flags fields) (w, suc steps) (refusal.Evaluation (Unsupported 0x5B81)) (w, steps)
      × IsRefused accesses scope depth (index_field index behind flags fields) (w, suc steps) (refusal.Evaluation (Unsupported 0x5B86)) (w, steps)
  connections_refused region index behind = (
    (term_begins accesses (task scope depth (field region flags fields))).paid w steps ∙ fields_ruled region,
    (term_begins accesses (task scope depth (index_field index behind flags fields))).paid w steps ∙ index_ruled index behind,
  )
