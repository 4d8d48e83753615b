-- Where a call over a record has a machine's tables from.
use Rattle.ar_space.specs.Outcome.{Outcome}
use Rattle.recorded_route.specs.Runs.{Description, described, described_tables}
use Rattle.acpiroute_c.specs.declared.table_source.TableSource.{TableSource}
use Rattle.acpiroute_c.specs.declared.table_source.TableSource.TheVariants.{Text, Memory}

-- what is described of the machine
abbrev pub described_by : TableSource → Outcome Description
described_by (Text text) = described text.now
described_by (Memory tables) = described_tables tables.rsdp tables.parts.now tables.osi.now
