use Rattle.std.proofs.Common.{sym}
use Rattle.std.specs.Prelude.{None}
use Rattle.ar_space.specs.Bytes.{byte_accesses}
use Rattle.ar_tables.specs.FindTables.{tables_of}
use Rattle.watched_space.specs.Filling.{filled}
use Rattle.watched_space.specs.Metering.{metered}
use Rattle.acpiroute_lib.specs.WhyCommand.{first_filled}
use Rattle.acpiroute_lib.proofs.Endings.{finding_ended}
use Rattle.acpiroute_lib.proofs.watched_run.filled_run.Goals as goal

pub returns-in-Err-clause-run : goal.returns-in-Err-clause-run
returns-in-Err-clause-run c =
    record {
      left = first_filled c.args.asking.now.evaluation c.args.said.space;
      is_end = finding_ended (metered (filled byte_accesses)) c.args.asking.now None c.in-Err.refusal (tables_of c.args.said.space.memory c.args.said.rsdp) c.args.said.osi (first_filled c.args.asking.now.evaluation c.args.said.space) c.in-Err.ensures.tables.is;
      are_places = sym c.new-in-Err.ensures.items;
    }
