-- What the commands answer.
use Rattle.std.specs.Prelude.{◌≡◌, ℕ, List}
use Rattle.ar_space.specs.Outcome.{Outcome}
use Rattle.acpiroute_shell.specs.declared.request.Request.{Request}
use Rattle.acpiroute_shell.specs.declared.request.Request.TheVariants.{Route, Why, Registers, Names, Eval, Check}
use Rattle.acpiroute_shell.specs.CheckCommand.{IsCheckAnswer}
use Rattle.acpiroute_lib.specs.RunEnds.{options_of}
use Rattle.acpiroute_lib.specs.EvalCommand.{eval_answer}
use Rattle.acpiroute_lib.specs.NamesCommand.{names_answer}
use Rattle.acpiroute_lib.specs.RouteCommand.{IsRouteAnswer}
use Rattle.acpiroute_lib.specs.WhyCommand.{IsWhyAnswer, IsRegistersAnswer}
use Rattle.acpiroute_shell.specs.Written.{Written}

-- what the answer to a request over an input is
abbrev pub IsAnswer : Request → List ℕ → Outcome Written → Type 0
IsAnswer (Route mode evaluation avoid flags) input r = IsRouteAnswer mode evaluation (options_of avoid flags) input r
IsAnswer (Why asking) input r = IsWhyAnswer asking input r
IsAnswer (Registers asking) input r = IsRegistersAnswer asking input r
IsAnswer (Names evaluation) input r = names_answer evaluation input ≡ r
IsAnswer (Eval mode evaluation path arguments) input r = eval_answer mode evaluation path arguments input ≡ r
IsAnswer Check input r = IsCheckAnswer input r
