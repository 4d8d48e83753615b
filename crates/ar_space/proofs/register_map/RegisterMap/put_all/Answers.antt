use Rattle.std.proofs.Common.{◌∙◌, ap, rules}
use Rattle.ar_space.specs.Registers.{by_register, with_registers}
use Rattle.ar_space.specs.Runs.{with_bytes}
use Rattle.ar_space.proofs.RegisterNumbers.{put_named}
use Rattle.ar_space.proofs.OnOk.{on_ok}
use Rattle.ar_space.proofs.register_map.RegisterMap.put_all.Goals as goal

pub returns-clause-ok : goal.returns-clause-ok
returns-clause-ok c = on_ok c.put_all.result (λ put. ap by_register put ∙ ap (λ n. by_register (with_bytes c.self.inside.bytes n c.args.bytes.now)) c.counted.ensures.number
    ∙ put_named c.self.inside.bytes c.args.register c.args.bytes.now (search rules) (search rules) (search rules) c.requires
    ∙ ap (λ m. with_registers m c.args.register c.args.bytes.now) c.self.view_is) c.put_all.ensures.ok
