use Rattle.aml_path.proofs.Numbers.{number_same}
use Rattle.aml_path.proofs.comparing.SegPartialEq.eq.Goals as goal

pub returns : goal.returns
returns c = rw (c.number-own.ensures, c.number-others.ensures) (number_same c.args.self.now.bytes c.args.other.now.bytes c.args.self.now.valid c.args.other.now.valid)
