-- The loop over tables that are loaded.
use Rattle.std.specs.Prelude.{◌≡◌, ℕ, ◌+◌, ◌<◌, ◌≤◌, List, length, drop, get_or, Ok}
use Rattle.std.proofs.Common.{refl, ◌∙◌, drop-cons, add-one}
use Rattle.std.proofs.lemmas.List.{drop_all}
use Rattle.ar_space.specs.Accesses.{Accesses}
use Rattle.ar_space.specs.Change.{Change, Does, Same, give, settle, ◌>>=◌, ◌>>◌}
use Rattle.ar_space.proofs.Changes.{same_ok, does_same}
use Rattle.aml_world.specs.state.State.{State}
use Rattle.acpi_machine.specs.Loading.{table_loaded, each_loaded}

module _ {S : Type 0} (accesses : Accesses S) where
  pub same_each : {w0 w : State S} {m : Change (State S) (Unit {0})} (steps : ℕ) (tables : List (List ℕ)) (i : ℕ) (t : List ℕ)
      → Same m w0 (each_loaded accesses steps (drop i tables)) w → i < length tables → t ≡ get_or tables i t
      → Same m w0 (table_loaded accesses steps t >>= (λ _. each_loaded accesses steps (drop (i + 1) tables))) w
  unfolding each_loaded
  same_each steps tables i t h l at = record { is = h.is ∙ rw (drop-cons tables i t l, ← at, add-one) refl }

  pub does_end : {w0 w : State S} {m : Change (State S) (Unit {0})} (steps : ℕ) (tables : List (List ℕ)) (i : ℕ)
      → Same m w0 (each_loaded accesses steps (drop i tables)) w → length tables ≤ i → Does (Ok tt) w m w0
  unfolding each_loaded give
  does_end steps tables i h l = record { is = λ _. h.is ∙ rw (drop_all i tables l) refl }

pub ruleset loading = (same_each, same_ok, does_same, does_end)
