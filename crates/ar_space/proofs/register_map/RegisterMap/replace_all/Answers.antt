use Rattle.std.proofs.Common.{◌∙◌, cond, length, ap, rules}
use Rattle.std.specs.Prelude.{is_some}
use Rattle.std.specs.FinMap as map
use Rattle.ar_space.specs.Registers.{by_register, register_on, with_registers}
use Rattle.ar_space.specs.Runs.{with_bytes, number_from}
use Rattle.ar_space.proofs.RegisterNumbers.{put_named, number_named, chosen}
use Rattle.ar_space.proofs.register_map.RegisterMap.replace_all.Goals as goal

pub returns-clause-stood : goal.returns-clause-stood
returns-clause-stood c =
    let count = length c.args.bytes.now in
    c.replace_all.ensures.stood ∙ ap is_some (ap (λ n. number_from (map.get c.self.inside.bytes) n count) c.counted.ensures.number
    ∙ number_named c.self.inside.bytes c.args.register count (search rules) (search rules) (search rules) c.requires.2
    ∙ ap (λ m. number_from (λ n. map.get m (register_on c.args.register n)) 0 count) c.self.view_is)

pub returns-clause-new : goal.returns-clause-new
returns-clause-new c = ap by_register c.replace_all.ensures.new ∙ chosen c.replace_all.result by_register (with_bytes c.self.inside.bytes c.counted.result c.args.bytes.now) c.self.inside.bytes
    ∙ ap (λ x. cond c.replace_all.result x (by_register c.self.inside.bytes)) (ap (λ n. by_register (with_bytes c.self.inside.bytes n c.args.bytes.now)) c.counted.ensures.number
    ∙ put_named c.self.inside.bytes c.args.register c.args.bytes.now (search rules) (search rules) (search rules) c.requires.2)
    ∙ ap (λ m. cond c.replace_all.result (with_registers m c.args.register c.args.bytes.now) m) c.self.view_is
