-- What the words of the command line ask for, and what is wrong with them.
use Rattle.std.specs.Prelude.{ℕ, ◌&&◌, ◌||◌, not, Bool, true, false, List, [], ◌∷◌, Option, Some, None, codes, is_some, option_map, if◌then◌else◌}
use Rattle.std.specs.Str.{bytes_eq}
use Rattle.clap.specs.Kinds.{or_else}
use Rattle.clap.specs.Words.{App, Kinds, Row, Rule, Text, all_of, fault_of, first_of, new_app, new_rule, subcommand_of, with_rule, with_subcommand}
use Rattle.clap.specs.declared.builder.action.ArgAction.TheVariants.{SetTrue}
use Rattle.clap.specs.declared.error.kind.ErrorKind.TheVariants as kind
use Rattle.ar_tables.specs.declared.mode.Mode.{Mode}
use Rattle.aml_world.specs.declared.state.profile.Profile.{Profile}
use Rattle.aml_world.specs.declared.state.settings.Nesting.{Nesting}
use Rattle.aml_world.specs.declared.state.settings.EvaluationSettings.{EvaluationSettings}
use Rattle.acpiroute_shell.specs.Values.{◌>>=◌, interrupts_named, mode_named, profile_named, arguments_named, steps_named, calls_named, levels_named, accesses_named, is_true}
use Rattle.acpiroute_shell.specs.declared.arguments.Argument.{Argument}
use Rattle.acpiroute_shell.specs.declared.request.Request.TheVariants as request
use Rattle.acpiroute_shell.specs.declared.request.Question.TheVariants as question
use Rattle.acpiroute_shell.specs.declared.request.Asked.{Asked}
use Rattle.acpiroute_shell.specs.declared.request.Asking.{Asking}
use Rattle.acpiroute_shell.specs.declared.request.Evaluation.{Evaluation}
use Rattle.acpiroute_shell.specs.declared.request.Flags.{Flags}
use Rattle.acpiroute_shell.specs.declared.request.Asked.TheVariants.{For, BadAvoid}

-- ---- the commands and options

-- an option with a value, which help calls by one name
abbrev pub value_rule : Text → Rule
value_rule name = record (new_rule name) { long = Some name; value_names = 1 }

-- an option without a value
abbrev pub flag_rule : Text → Rule
flag_rule name = record (new_rule name) { long = Some name; action = Some SetTrue }

abbrev pub mode_rule : Rule
mode_rule = value_rule (codes "mode")

abbrev pub steps_rule : Rule
steps_rule = value_rule (codes "steps")

abbrev pub profile_rule : Rule
profile_rule = value_rule (codes "profile")

abbrev pub calls_rule : Rule
calls_rule = value_rule (codes "calls")

abbrev pub levels_rule : Rule
levels_rule = value_rule (codes "levels")

abbrev pub accesses_rule : Rule
accesses_rule = value_rule (codes "accesses")

abbrev pub dry_rule : Rule
dry_rule = flag_rule (codes "dry")

abbrev pub avoid_rule : Rule
avoid_rule = value_rule (codes "avoid")

abbrev pub spare_rule : Rule
spare_rule = flag_rule (codes "spare")

abbrev pub spread_rule : Rule
spread_rule = flag_rule (codes "spread")

abbrev pub kernel_rule : Rule
kernel_rule = flag_rule (codes "kernel")

-- `route`, without the options that change what it chooses or writes
abbrev pub first_route_app : App
first_route_app = with_rule (with_rule (with_rule (with_rule (new_app (codes "route")) mode_rule) steps_rule) dry_rule) avoid_rule

-- `route`, without the options that say how much of AML is evaluated and how many accesses are made
abbrev pub second_route_app : App
second_route_app = with_rule (with_rule (with_rule first_route_app spare_rule) spread_rule) kernel_rule

-- `route`, without the options that say how deep calls and terms may be
abbrev pub third_route_app : App
third_route_app = with_rule (with_rule second_route_app profile_rule) accesses_rule

abbrev pub route_app : App
route_app = with_rule (with_rule third_route_app calls_rule) levels_rule

-- `names`, without the options that say how deep calls and terms may be
abbrev pub first_names_app : App
first_names_app = with_rule (with_rule (with_rule (new_app (codes "names")) steps_rule) profile_rule) accesses_rule

abbrev pub names_app : App
names_app = with_rule (with_rule first_names_app calls_rule) levels_rule

-- a path, and then at most seven arguments
abbrev pub path_rule : Rule
path_rule = record (new_rule (codes "path")) { value_names = 1; required = true }

abbrev pub arguments_rule : Rule
arguments_rule = record (new_rule (codes "arguments")) { value_names = 1; range = Some (record { start_inclusive = 1; end_inclusive = 7 }) }

-- `eval`, without its path, its arguments, and the options that say how deep calls and terms may be
abbrev pub first_eval_app : App
first_eval_app = with_rule (with_rule (with_rule (with_rule (new_app (codes "eval")) mode_rule) steps_rule) profile_rule) accesses_rule

-- `eval`, without its path and its arguments
abbrev pub second_eval_app : App
second_eval_app = with_rule (with_rule first_eval_app calls_rule) levels_rule

abbrev pub eval_app : App
eval_app = with_rule (with_rule second_eval_app path_rule) arguments_rule

abbrev pub check_app : App
check_app = new_app (codes "check")

abbrev pub registers_rule : Rule
registers_rule = flag_rule (codes "registers")

-- `eval`, and then the path and the arguments of `eval`
abbrev pub question_rule : Rule
question_rule = record (new_rule (codes "question")) { value_names = 1 }

abbrev pub question_path_rule : Rule
question_path_rule = record (new_rule (codes "path")) { value_names = 1 }

-- `why`, with the options of `route`
abbrev pub first_why_app : App
first_why_app = with_rule (with_rule (with_rule (with_rule (new_app (codes "why")) mode_rule) steps_rule) dry_rule) avoid_rule

abbrev pub second_why_app : App
second_why_app = with_rule (with_rule (with_rule first_why_app spare_rule) spread_rule) kernel_rule

abbrev pub third_why_app : App
third_why_app = with_rule (with_rule second_why_app profile_rule) accesses_rule

abbrev pub fourth_why_app : App
fourth_why_app = with_rule (with_rule third_why_app calls_rule) levels_rule

abbrev pub why_app : App
why_app = with_rule (with_rule (with_rule (with_rule fourth_why_app registers_rule) question_rule) question_path_rule) arguments_rule

-- `acpiroute`, which wants a command, and has a version
abbrev pub bare_app : App
bare_app = record { top = record ((new_app (codes "acpiroute")).top) { disable_help_subcommand = true; subcommand_required = true; has_version = true }; subs = [] }

abbrev pub app : App
app = with_subcommand (with_subcommand (with_subcommand (with_subcommand (with_subcommand bare_app route_app.top) why_app.top) names_app.top) eval_app.top) check_app.top

-- ---- what they say

abbrev pub mode_of : List Row → Option Mode
mode_of rows = mode_named (first_of (codes "mode") rows)

abbrev pub steps_of : List Row → Option ℕ
steps_of rows = steps_named (first_of (codes "steps") rows)

abbrev pub profile_of : List Row → Option Profile
profile_of rows = profile_named (first_of (codes "profile") rows)

abbrev pub accesses_of : List Row → Option (Option ℕ)
accesses_of rows = accesses_named (first_of (codes "accesses") rows)

abbrev pub calls_of : List Row → Option ℕ
calls_of rows = calls_named (first_of (codes "calls") rows)

abbrev pub levels_of : List Row → Option ℕ
levels_of rows = levels_named (first_of (codes "levels") rows)

unfoldable pub nesting_by : Option ℕ → Option ℕ → Option Nesting
nesting_by maybe_calls maybe_levels = do
  calls ← maybe_calls
  levels ← maybe_levels
  Some (record { calls = calls; levels = levels })

unfoldable pub settings_by : Option Profile → Option Nesting → Option EvaluationSettings
settings_by maybe_profile maybe_nesting = do
  profile ← maybe_profile
  nesting ← maybe_nesting
  Some (record { profile = profile; nesting = nesting })

-- what AML is evaluated with
abbrev pub settings_of : List Row → Option EvaluationSettings
settings_of rows = settings_by (profile_of rows) (nesting_by (calls_of rows) (levels_of rows))

unfoldable pub evaluation_by : Option EvaluationSettings → Option ℕ → Option (Option ℕ) → Option Evaluation
evaluation_by maybe_settings maybe_steps maybe_accesses = do
  settings ← maybe_settings
  steps ← maybe_steps
  accesses ← maybe_accesses
  Some (record { settings = settings; steps = steps; accesses = accesses })

-- how AML is evaluated
abbrev pub evaluation_of : List Row → Option Evaluation
evaluation_of rows = evaluation_by (settings_of rows) (steps_of rows) (accesses_of rows)

abbrev pub path_of : List Row → Option Text
path_of rows = first_of (codes "path") rows

abbrev pub arguments_of : List Row → Option (List Argument)
arguments_of rows = arguments_named (all_of (codes "arguments") rows)

abbrev pub is_dry : List Row → Bool
is_dry rows = is_true (first_of (codes "dry") rows)

abbrev pub is_sparing : List Row → Bool
is_sparing rows = is_true (first_of (codes "spare") rows)

abbrev pub is_spreading : List Row → Bool
is_spreading rows = is_true (first_of (codes "spread") rows)

abbrev pub is_for_kernel : List Row → Bool
is_for_kernel rows = is_true (first_of (codes "kernel") rows)

abbrev pub flags_of : List Row → Flags
flags_of rows = record { dry = is_dry rows; spare = is_sparing rows; spread = is_spreading rows; kernel = is_for_kernel rows }

abbrev pub avoid_of : List Row → Option (List ℕ)
avoid_of rows = interrupts_named (first_of (codes "avoid") rows)

-- a text of `--avoid` that is no list of interrupts is told where nothing else is wrong, by a line of its own
abbrev pub route_with : Mode → Evaluation → Option (List ℕ) → Flags → Asked
route_with mode evaluation None flags = BadAvoid
route_with mode evaluation (Some avoid) flags = For (request.Route mode evaluation avoid flags)

unfoldable pub route_by : Option Mode → Option Evaluation → Option (List ℕ) → Flags → Option Asked
route_by maybe_mode maybe_evaluation avoid flags = do
  mode ← maybe_mode
  evaluation ← maybe_evaluation
  Some (route_with mode evaluation avoid flags)

unfoldable pub route_of : List Row → Option Asked
route_of rows = route_by (mode_of rows) (evaluation_of rows) (avoid_of rows) (flags_of rows)

unfoldable pub names_of : List Row → Option Asked
names_of rows = do
  evaluation ← evaluation_of rows
  Some (For (request.Names evaluation))

-- all of it must be said
unfoldable pub eval_with : Option Mode → Option Evaluation → Option Text → Option (List Argument) → Option Asked
eval_with maybe_mode maybe_evaluation maybe_path maybe_arguments = do
  mode ← maybe_mode
  evaluation ← maybe_evaluation
  path ← maybe_path
  arguments ← maybe_arguments
  Some (For (request.Eval mode evaluation path arguments))

unfoldable pub eval_of : List Row → Option Asked
eval_of rows = eval_with (mode_of rows) (evaluation_of rows) (path_of rows) (arguments_of rows)

-- ---- why a machine is refused

-- how a run ends, or which registers are missing for it
abbrev pub told_of : Bool → Asking → Asked
told_of true asking = For (request.Registers asking)
told_of false asking = For (request.Why asking)

-- of `route`
abbrev pub why_with : Bool → Asked → Asked
why_with registers (For (request.Route mode evaluation avoid flags)) = told_of registers (record { mode = mode; evaluation = evaluation; question = question.Route avoid flags })
why_with registers other = other

-- of `eval`
abbrev pub why_evaluated : Asked → Asked
why_evaluated (For (request.Eval mode evaluation path arguments)) = For (request.Why (record { mode = mode; evaluation = evaluation; question = question.Eval path arguments }))
why_evaluated other = other

abbrev pub wants_registers : List Row → Bool
wants_registers rows = is_true (first_of (codes "registers") rows)

-- options that are of no use where an object is evaluated
abbrev pub has_route_options : List Row → Bool
has_route_options rows = is_dry rows || (is_sparing rows || (is_spreading rows || (is_for_kernel rows || (wants_registers rows || is_some (first_of (codes "avoid") rows)))))

abbrev pub why_asked : Option Text → List Row → Option Asked
why_asked None rows = option_map (why_with (wants_registers rows)) (route_of rows)
why_asked (Some word) rows = if bytes_eq word (codes "eval") && not (has_route_options rows) then option_map why_evaluated (eval_of rows) else None

-- where `eval` stands behind `why`, the run is that of `eval`
unfoldable pub why_of : List Row → Option Asked
why_of rows = why_asked (first_of (codes "question") rows) rows

-- the command of this name, with its options
unfoldable pub parsed_command : Text → List Row → Option Asked
parsed_command name rows =
    if bytes_eq name (codes "route") then route_of rows
    else if bytes_eq name (codes "why") then why_of rows
    else if bytes_eq name (codes "names") then names_of rows
    else if bytes_eq name (codes "eval") then eval_of rows
    else if bytes_eq name (codes "check") then Some (For request.Check)
    else None

abbrev pub parsed_subcommand : Option (Text × List Row) → Option Asked
parsed_subcommand None = None
parsed_subcommand (Some s) = parsed_command s.0 s.1

-- the command that the words name, and its options
unfoldable pub command_of : List Text → Option (Text × List Row)
command_of words = subcommand_of app words

-- what the words ask for; none where no command is named, or the value of another option than `--avoid` is none of its values
unfoldable pub asked_of : List Text → Option Asked
asked_of words = parsed_subcommand (command_of words)

-- what clap finds wrong with the words
unfoldable pub clap_faults : List Text → Kinds
clap_faults words = fault_of app words

abbrev pub value_faults : Option Asked → Kinds
value_faults None = kind.ValueValidation ∷ []
value_faults (Some a) = []

-- what is wrong with the words, but for a bad list of `--avoid`, and a wish for help: one of these is told, and nothing else is done
unfoldable pub faults_of : List Text → Kinds
faults_of words = or_else (clap_faults words) (value_faults (asked_of words))
