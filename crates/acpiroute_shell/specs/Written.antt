-- What a command writes, and how it came out.
use Rattle.std.specs.Prelude.{ℕ, List}
use Rattle.acpiroute_shell.specs.declared.completion.Completion.{Completion}
use Rattle.acpiroute_shell.specs.declared.completion.Completion.TheVariants.{Done, SettingRefused, ClaimInvalid}

-- the text that a command writes, and how it came out
pub record Written : Type 0 where
  pub text : List ℕ
  pub completion : Completion

-- the exit status
abbrev pub status_of : Completion → ℕ
status_of Done = 0
status_of SettingRefused = 3
status_of ClaimInvalid = 4
