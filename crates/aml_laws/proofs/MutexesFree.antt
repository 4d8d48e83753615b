-- After a table and after an answer no mutex is held.
use Rattle.std.specs.Prelude.{◌≡◌, ℕ, List, Option, Some, None}
use Rattle.std.specs.Option.{option_map}
use Rattle.std.proofs.Common.{ap, sym, ◌∙◌}
use Rattle.std.specs.FinMap.{get}
use Rattle.ar_space.specs.Accesses.{Accesses}
use Rattle.ar_space.specs.Change.{Change}
use Rattle.aml_path.specs.declared.segment.Seg.{Seg}
use Rattle.aml_objects.specs.declared.entry.Entry.{Entry}
use Rattle.aml_objects.specs.declared.entry.NamedObject.{NamedObject}
use Rattle.aml_objects.specs.declared.entry.NamedObject.TheVariants as object
use Rattle.aml_namespace.specs.Namespace.{released, entry_released}
use Rattle.aml_namespace.proofs.Changes.{released_at}
use Rattle.aml_world.specs.state.Given.{Given}
use Rattle.aml_world.specs.state.State.{State}
use Rattle.aml_meaning.specs.Calling.{ending, loaded, answered}
use Rattle.aml_laws.specs.Mutexes.{AllFree}

released_mutex_is_free : (o : NamedObject) (n : ℕ) → released o ≡ object.Mutex n → n ≡ 0
released_mutex_is_free (object.Mutex m) n e = cc e
released_mutex_is_free _ n e = absurd (cc e)

same_entry : (v e : Entry) → ◌≡◌ {A = Option Entry} (Some v) (Some e) → v ≡ e
same_entry v e h = cc h

entry_is_free_by_cases : (o : Option Entry) (e : Entry) (n : ℕ) → option_map entry_released o ≡ Some e → e.object ≡ object.Mutex n → n ≡ 0
entry_is_free_by_cases None e n h is = absurd (cc h)
entry_is_free_by_cases (Some d) e n h is = released_mutex_is_free d.object n (ap (λ (x : Entry). x.object) (same_entry (entry_released d) e h) ∙ is)

ending_frees_mutexes : {S A : Type 0} (m : Change (State S) A) (w : State S) → AllFree (ending m w).1
unfolding ending
ending_frees_mutexes m w path e n at is = entry_is_free_by_cases (get (m w).1.names.map path) e n (sym (released_at (m w).1.names path) ∙ at) is

pub loaded_frees_mutexes : {S : Type 0} (accesses : Accesses S) (bytes : List ℕ) (steps : ℕ) (w : State S) → AllFree (loaded accesses bytes steps w).1
unfolding loaded
loaded_frees_mutexes accesses bytes steps w = ending_frees_mutexes _ w

pub answered_frees_mutexes : {S : Type 0} (accesses : Accesses S) (p : List Seg) (arguments : List Given) (steps : ℕ) (w : State S) → AllFree (answered accesses p arguments steps w).1
unfolding answered
answered_frees_mutexes accesses p arguments steps w = ending_frees_mutexes _ w

pub ruleset no_mutex_stays_acquired = (loaded_frees_mutexes, answered_frees_mutexes)
