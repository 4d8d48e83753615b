use Rattle.std.proofs.Common.{◌∙◌, ap, rules}
use Rattle.std.specs.FinMap as map
use Rattle.ar_space.specs.Registers.{register_on}
use Rattle.ar_space.specs.Runs.{number_from}
use Rattle.ar_space.proofs.RegisterNumbers.{number_named}
use Rattle.ar_space.proofs.register_map.RegisterMap.number.Goals as goal

pub returns-clause-number : goal.returns-clause-number
returns-clause-number c = c.number.ensures.number ∙ ap (λ n. number_from (map.get c.self.inside.bytes) n c.args.count) c.counted.ensures.number
    ∙ number_named c.self.inside.bytes c.args.register c.args.count (search rules) (search rules) (search rules) c.requires.2
    ∙ ap (λ m. number_from (λ n. map.get m (register_on c.args.register n)) 0 c.args.count) c.self.view_is
