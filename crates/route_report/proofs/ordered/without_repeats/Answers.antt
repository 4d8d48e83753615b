use Rattle.std.specs.Prelude.{◌==◌}
use Rattle.std.proofs.lemmas.List.Filters.{dedup_is}
use Rattle.route_report.proofs.ordered.without_repeats.Goals as goal

pub returns : goal.returns
returns c = dedup_is ◌==◌ c.args.numbers.items c.dedup.new.self.items c.dedup.ensures.filtered
