-- Commands that are put below a command, one after another.
use Rattle.std.proofs.Common.{◌≡◌, ◌∙◌, ap}
use Rattle.std.specs.Prelude.{Result, Ok, Err, IfOk, false}
use Rattle.clap.specs.Words.{AddsSubcommand, App, app_of, with_subcommand}
use Rattle.clap.specs.declared.builder.command.Command.TheViews.{out-Command as fields_of}
use Rattle.clap.specs.declared.builder.command.Command.{Command}

pub added : {old sub new : Command} (a b : App) → AddsSubcommand old sub new → app_of old ≡ a → app_of sub ≡ b → (fields_of sub).has_globals ≡ false → app_of new ≡ with_subcommand a b.top
added {sub = sub} a b adds is sub_is local = adds.shape local ∙ (ap (λ x. with_subcommand x (app_of sub).top) is ∙ ap (λ x. with_subcommand a x.top) sub_is)

pub added_last : {E : Type 0} (old sub : Command) (a b : App) (r : Result Command E) → IfOk r (AddsSubcommand old sub) → app_of old ≡ a → app_of sub ≡ b → (fields_of sub).has_globals ≡ false
    → IfOk r (λ c. app_of c ≡ with_subcommand a b.top)
added_last old sub a b (Ok c) adds is sub_is local = added a b adds is sub_is local
added_last old sub a b (Err e) adds is sub_is local = tt
