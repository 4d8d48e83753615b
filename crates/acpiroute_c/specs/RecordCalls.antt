-- Calls over a record: the settings, and how what there is to say stands in the caller's places.
use Rattle.std.specs.Prelude.{◌≡◌, ◌⊎◌, ℕ, ◌==◌, nat_lt, Bool, true, false, List, [], All, map, Option, Some, None, Ok, Err, if◌then◌else◌}
use Rattle.ar_space.specs.Outcome.{Outcome, Answers}
use Rattle.ar_tables.specs.declared.mode.Mode.{Mode}
use Rattle.ar_tables.specs.declared.mode.Mode.TheVariants.{Pic, Apic}
use Rattle.aml_world.specs.declared.state.profile.Profile.{Profile}
use Rattle.aml_world.specs.declared.state.profile.Profile.TheVariants.{Core, Wide}
use Rattle.aml_world.specs.declared.state.settings.Nesting.{Nesting}
use Rattle.recorded_space.specs.declared.exchange.Exchange.{Exchange}
use Rattle.recorded_route.specs.declared.ending.Ending.{Ending}
use Rattle.recorded_route.specs.declared.ending.Ending.TheVariants as ends
use Rattle.recorded_route.specs.declared.settings.Settings.{Settings}
use Rattle.acpiroute_shell.specs.Deliveries.{Reply, reply_of, IsToldAs}
use Rattle.acpiroute_shell.specs.Written.{Written}
use Rattle.acpiroute_c.specs.Accesses.{exchange_of, wanted_form, IsEntry}
use Rattle.acpiroute_c.specs.Calls.{Filled, code_of, filled_by}
use Rattle.acpiroute_c.specs.declared.call_access.CallAccess.{CallAccess}
use Rattle.acpiroute_c.specs.declared.call_access.CallWanted.{CallWanted}
use Rattle.acpiroute_c.specs.declared.call_access.Unmade.{Unmade}
use Rattle.acpiroute_c.specs.declared.call_access.Unmade.TheVariants.{OutOfMemory, Malformed}
use Rattle.acpiroute_c.specs.declared.call_settings.CallSettings.{CallSettings}
use Rattle.acpiroute_c.specs.declared.record_call.Said.{Said}
use Rattle.acpiroute_c.specs.declared.record_call.Said.TheVariants as says

-- ---- the settings

-- the profile and the interrupt controllers
abbrev pub mode_of : ℕ → Option (Profile × Mode)
mode_of n =
    if n == 0 then Some (Core, Pic)
    else (if n == 1 then Some (Core, Apic)
    else (if n == 2 then Some (Wide, Pic)
    else (if n == 3 then Some (Wide, Apic) else None)))

abbrev pub flag_of : ℕ → Option Bool
flag_of n = if n == 0 then Some false else (if n == 1 then Some true else None)

abbrev pub steps_of : ℕ → Option ℕ
steps_of n = if n == 0 then None else (if nat_lt 1000000000 n then None else Some n)

abbrev pub calls_of : ℕ → Option ℕ
calls_of n = if n == 0 then Some 32 else (if nat_lt 32 n then None else Some n)

abbrev pub levels_of : ℕ → Option ℕ
levels_of n = if n == 0 then Some 64 else (if nat_lt 64 n then None else Some n)

abbrev nesting_with : Option ℕ → Option ℕ → Option Nesting
nesting_with (Some calls) (Some levels) = Some (record { calls = calls; levels = levels })
nesting_with _ _ = None

-- how deep calls and terms may be
abbrev pub nesting_of : ℕ → ℕ → Option Nesting
nesting_of calls levels = nesting_with (calls_of calls) (levels_of levels)

abbrev settings_with : Option (Profile × Mode) → Option ℕ → Option Bool → Option Bool → Option Nesting → Option Settings
settings_with (Some mode) (Some steps) (Some dry) (Some kernel) (Some nesting) = Some (record { evaluation = record { profile = mode.0; nesting = nesting }; mode = mode.1; steps = steps; dry = dry; kernel = kernel })
settings_with _ _ _ _ _ = None

abbrev pub settings_of : CallSettings → Option Settings
settings_of s = settings_with (mode_of s.mode) (steps_of s.steps) (flag_of s.dry) (flag_of s.kernel) (nesting_of s.calls s.levels)

-- a number of the settings or of an entry means nothing
abbrev pub IsMalformed : CallSettings → List CallAccess → Type 0
IsMalformed s accesses = (settings_of s ≡ None) ⊎ ¬ (All IsEntry accesses)

-- ---- the run

-- settings and entries that mean something make a run, of which this holds unless memory runs out
pub record IsRunOf (s : CallSettings) (accesses : List CallAccess) (run : Settings → List Exchange → Type 0) : Type 0 where
  pub settings : Settings
  pub are_settings : settings_of s ≡ Some settings
  pub entries : List Exchange
  pub are_entries : map Some entries ≡ map exchange_of accesses
  pub is_run : run settings entries

-- what is told of an outcome, with the text, the line and the status of the program
pub record IsToldReply (outcome : Outcome Written) (reply : Reply) : Type 0 where
  pub told : Outcome Written
  pub is_told : IsToldAs outcome told
  pub is : reply ≡ reply_of [] told

-- what came of the run is written, unless memory runs out for its text, and a refusal handed on
abbrev pub IsOutcomeOf : {A : Type 0} → (A → Written) → Ending A → Outcome Written → Type 0
IsOutcomeOf written (ends.Done value) outcome = Answers outcome (Ok (written value))
IsOutcomeOf written (ends.Refused e) outcome = outcome ≡ Err e
IsOutcomeOf written (ends.Wanted wanted) outcome = ⊥

pub record IsReplyTo {A : Type 0} (written : A → Written) (ending : Ending A) (reply : Reply) : Type 0 where
  pub outcome : Outcome Written
  pub is_outcome : IsOutcomeOf written ending outcome
  pub is_reply : IsToldReply outcome reply

abbrev pub IsSaidOf : {A : Type 0} → (A → Written) → Ending A → Said → Type 0
IsSaidOf written ending (says.Reply reply) = IsReplyTo written ending reply
IsSaidOf written ending (says.Wanted wanted) = ending ≡ ends.Wanted wanted

-- ---- the call

-- what the caller gives to be filled
pub record Places : Type 0 where
  pub filled : Filled
  pub wanted : CallWanted

-- what is said, in the caller's places: a reply as in any other call, or alone the access that is wanted, with its place in the record
abbrev pub code_of_said : Said → Places → ℕ
code_of_said (says.Reply reply) before = code_of reply before.filled
code_of_said (says.Wanted wanted) before = 4

abbrev pub filled_by_said : Said → Places → Places
filled_by_said (says.Reply reply) before = record before { filled = filled_by reply before.filled }
filled_by_said (says.Wanted wanted) before = record before { wanted = wanted_form wanted }

pub record IsMade (is : Said → Type 0) (code : ℕ) (before after : Places) : Type 0 where
  pub said : Said
  pub is_said : is said
  pub code_is : code ≡ code_of_said said before
  pub is_filled : after ≡ filled_by_said said before

abbrev pub code_of_unmade : Unmade → ℕ
code_of_unmade OutOfMemory = 2
code_of_unmade Malformed = 5

-- there is nothing to say, and nothing has changed: memory ran out, or a number means nothing
pub record IsUnmade (s : CallSettings) (accesses : List CallAccess) (code : ℕ) (before after : Places) : Type 0 where
  pub why : Unmade
  pub code_is : code ≡ code_of_unmade why
  pub malformed : why ≡ Malformed → IsMalformed s accesses
  pub is_as_before : after ≡ before
