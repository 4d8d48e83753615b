use Rattle.std.proofs.Common.{rules, map, Some, None}
use Rattle.clap.specs.Words.{subcommand_rows_of}
use Rattle.acpiroute_shell.proofs.Faults.{still_faulty, no_fault, asks, value_fault}
use Rattle.acpiroute_shell.proofs.command_line.parse.Goals as goal

pub returns-in_err-matches-clause-faults : goal.returns-in_err-matches-clause-faults
returns-in_err-matches-clause-faults c = still_faulty (map (λ s. s.now) c.args.words.now) c.in_err-matches.field-0.0 c.from_residual.result c.in_err-matches.ensures.faults (search rules)

pub returns-in-Some-clause-faults : goal.returns-in-Some-clause-faults
returns-in-Some-clause-faults c = no_fault (map (λ s. s.now) c.args.words.now) c.in-Some.asked c.in_ok-matches.ensures.faults
    (asks (map (λ s. s.now) c.args.words.now) (subcommand_rows_of c.in_ok-matches.matches) (Some c.in-Some.asked) c.in_ok-matches.ensures.ok (search rules))

pub returns-in-Some-clause-asked : goal.returns-in-Some-clause-asked
returns-in-Some-clause-asked c = asks (map (λ s. s.now) c.args.words.now) (subcommand_rows_of c.in_ok-matches.matches) (Some c.in-Some.asked) c.in_ok-matches.ensures.ok (search rules)

pub returns-clause-faults : goal.returns-clause-faults
returns-clause-faults c = value_fault (map (λ s. s.now) c.args.words.now) c.in_ok-bad_value-in-None.field-0 c.in_ok-matches.ensures.faults
    (asks (map (λ s. s.now) c.args.words.now) (subcommand_rows_of c.in_ok-matches.matches) None c.in_ok-matches.ensures.ok (search rules)) (search rules)
