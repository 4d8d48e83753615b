-- The tables of a machine are loaded one after another.
use Rattle.std.specs.Prelude.{◌≡◌, ◌≤◌, ◌<◌, ℕ, List, [], ◌∷◌, length, drop, true, false, Ok, Err, nat_lt, refl}
use Rattle.std.proofs.Common.{arith}
use Rattle.std.proofs.lemmas.Bool.Decides.{nat_tests}
use Rattle.ar_space.specs.Accesses.{Accesses}
use Rattle.ar_space.specs.declared.refusal.Refusal.TheVariants as refusal
use Rattle.ar_space.specs.declared.refusal.EvaluationFault.TheVariants.{ObjectLimit}
use Rattle.ar_space.specs.Outcome.{Outcome}
use Rattle.ar_space.specs.Change.{give, settle, go_on, ◌>>=◌}
use Rattle.ar_tables.specs.declared.tables.Tables.{Tables}
use Rattle.aml_world.specs.state.State.{State}
use Rattle.aml_world.specs.state.Predefined.{predefined}
use Rattle.acpi_machine.specs.Loading.{table_loaded, each_loaded, all_loaded, loaded_tables}
use Rattle.machine_laws.specs.LoadedInTurn.{LoadedInTurn, no_more, refused, next}

module _ {S : Type 0} (accesses : Accesses S) (steps : ℕ) where
  each_in_turn : (tables : List (List ℕ)) (w end : State S) (r : Outcome (Unit {0})) → LoadedInTurn accesses steps tables w r end → each_loaded accesses steps tables w ≡ (r, end)
  unfolding each_loaded table_loaded give go_on ◌>>=◌
  each_in_turn ts u v x (no_more w) = refl
  each_in_turn ts u v x (refused table tables w after e is) = rw is refl
  each_in_turn ts u v x (next table tables w after end r is rest) = rw is (each_in_turn tables after end r rest)

  pub all_in_turn : (t : Tables) (w end : State S) (r : Outcome (Unit {0})) → LoadedInTurn accesses steps (t.dsdt ∷ t.ssdts) w r end → all_loaded accesses t steps w ≡ (r, end)
  unfolding all_loaded each_loaded table_loaded give go_on ◌>>=◌
  all_in_turn t w end r is = each_in_turn (t.dsdt ∷ t.ssdts) w end r is

  pub loaded_behind_the_predefined : (t : Tables) (osi : List (List ℕ)) (w before : State S) → length osi ≤ 64 → predefined w ≡ (Ok tt, before) → loaded_tables accesses t steps osi w ≡ all_loaded accesses t steps before
  unfolding loaded_tables settle go_on ◌>>=◌
  loaded_behind_the_predefined t osi w before few is = let test : nat_lt 64 (length osi) ≡ false = grind (arith, nat_tests) in rw (test, is) refl

  pub not_loaded_with_more_texts : (t : Tables) (osi : List (List ℕ)) (w : State S) → 64 < length osi → loaded_tables accesses t steps osi w ≡ (Err (refusal.Evaluation ObjectLimit), w)
  unfolding loaded_tables settle go_on ◌>>=◌
  not_loaded_with_more_texts t osi w more = let test : nat_lt 64 (length osi) ≡ true = grind (arith, nat_tests) in rw test refl

pub ruleset loading = (all_in_turn, loaded_behind_the_predefined, not_loaded_with_more_texts)
