use Rattle.std.proofs.Common.{sym, ◌∙◌, ap}
use Rattle.std.specs.Prelude.{is_some}
use Rattle.std.proofs.lemmas.Bool.{true≢false}
use Rattle.route_solve.specs.Named.{name_of}
use Rattle.route_solve.proofs.assign.number_held.Goals as goal

pub bounds-numbers-i : goal.bounds-numbers-i
bounds-numbers-i c = c.requires.known c.in-Some.i c.in-Some.is

pub returns-in-Some : goal.returns-in-Some
returns-in-Some c = ap (name_of c.args.numbers.now) c.in-Some.is

pub returns-in-None : goal.returns-in-None
returns-in-None c = absurd (true≢false (sym c.requires.placed ∙ ap is_some c.in-None.is))
