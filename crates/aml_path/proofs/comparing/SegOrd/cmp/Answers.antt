use Rattle.aml_path.proofs.Numbers.{number_order}
use Rattle.aml_path.proofs.comparing.SegOrd.cmp.Goals as goal

pub returns : goal.returns
returns c = rw (c.cmp.ensures, c.number-own.ensures, c.number-others.ensures) (number_order c.args.self.now.bytes c.args.other.now.bytes c.args.self.now.valid c.args.other.now.valid)
