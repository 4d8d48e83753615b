-- Terms of the wide profile (ACPI 6.5, 19.6). A world of the core profile refuses them, as the terms that are not evaluated.
use Rattle.std.specs.Prelude.{ℕ, List}
use Rattle.ar_space.specs.Accesses.{Accesses}
use Rattle.ar_space.specs.Change.{give, ◌>>=◌, ◌>>◌}
use Rattle.aml_path.specs.declared.segment.Seg.{Seg}
use Rattle.aml_grammar.specs.declared.opcode.Opcode.{Opcode}
use Rattle.aml_grammar.specs.Tree.{Tree}
use Rattle.aml_objects.specs.declared.value.Value.{Value}
use Rattle.aml_world.specs.declared.values.operation_kind.Conversion.{Conversion}
use Rattle.aml_world.specs.declared.values.operation_kind.EventChange.{EventChange}
use Rattle.aml_world.specs.state.Run.{Run, lift}
use Rattle.aml_world.specs.state.Profiles.{asked_for}
use Rattle.aml_world.specs.values.WideOperations.{converted, string_in, middle_in}
use Rattle.aml_world.specs.values.FormedStores.{formed_to}
use Rattle.aml_world.specs.state.Events.{event_named, event_changed, waited}
use Rattle.aml_meaning.specs.declared.flow.Flow.{Flow}
use Rattle.aml_meaning.specs.declared.flow.Flow.TheVariants as flow
use Rattle.aml_meaning.specs.declared.term_kind.WideKind.{WideKind}
use Rattle.aml_meaning.specs.declared.term_kind.WideKind.TheVariants as kinds
use Rattle.aml_meaning.specs.Tasks.{Task, value_at, two_values}
use Rattle.aml_meaning.specs.TargetTerms.{target_at, targeted}
use Rattle.aml_meaning.specs.FieldCalls.{completed}
use Rattle.aml_meaning.specs.MatchTerms.{match_rule}
use Rattle.aml_meaning.specs.BankTerms.{bank_list_rule}

abbrev pub in_wide : {S : Type 0} → Opcode → Run S Flow → Run S Flow
in_wide op m = lift (asked_for op) >> m

-- accesses: what the register space makes of them; ev: what a part evaluates to
module _ {S : Type 0} (accesses : Accesses S) (ev : Task → Run S Flow) where
  -- what a term formed is stored to its target, and is the value of the term
  unfoldable pub formed_at : List Seg → ℕ → Tree → ℕ → Value → Run S Flow
  formed_at scope depth t i v = do
    p ← target_at ev scope depth t i
    s ← lift (formed_to p v)
    done ← completed accesses ev depth s v
    give (flow.Value v)

  unfoldable pub convert_rule : Conversion → List Seg → ℕ → Tree → Run S Flow
  convert_rule k scope depth t = do
    v ← value_at ev scope depth t 0
    r ← lift (converted k v)
    formed_at scope depth t 1 r

  unfoldable pub to_string_rule : List Seg → ℕ → Tree → Run S Flow
  to_string_rule scope depth t = do
    x ← two_values ev scope depth t
    r ← lift (string_in x.0 x.1)
    formed_at scope depth t 2 r

  unfoldable pub middle_rule : List Seg → ℕ → Tree → Run S Flow
  middle_rule scope depth t = do
    x ← two_values ev scope depth t
    n ← value_at ev scope depth t 2
    r ← lift (middle_in x.0 x.1 n)
    targeted accesses ev scope depth t 3 r

  -- Signal and Reset
  unfoldable pub event_rule : EventChange → List Seg → ℕ → Tree → Run S Flow
  event_rule k scope depth t = do
    p ← target_at ev scope depth t 0
    e ← lift (event_named p)
    done ← lift (event_changed k e)
    give flow.Next

  -- Wait: its event is found before its timeout is evaluated
  unfoldable pub wait_rule : List Seg → ℕ → Tree → Run S Flow
  wait_rule scope depth t = do
    p ← target_at ev scope depth t 0
    e ← lift (event_named p)
    v ← value_at ev scope depth t 1
    r ← lift (waited e v)
    give (flow.Value r)

  abbrev pub wide_rule : WideKind → List Seg → ℕ → Tree → Run S Flow
  wide_rule (kinds.Convert k) scope depth t = convert_rule k scope depth t
  wide_rule kinds.ToString scope depth t = to_string_rule scope depth t
  wide_rule kinds.Mid scope depth t = middle_rule scope depth t
  wide_rule kinds.Match scope depth t = match_rule accesses ev scope depth t
  wide_rule (kinds.Event k) scope depth t = event_rule k scope depth t
  wide_rule kinds.Wait scope depth t = wait_rule scope depth t
  wide_rule kinds.BankField scope depth t = bank_list_rule ev scope depth t
