use Rattle.std.proofs.Common.{arith}
use Rattle.aml_frames.proofs.Weighing.{few_calls, search_fewer}
use Rattle.aml_operators.proofs.searching.read_element.Goals as goal

pub returns-clause-falls : goal.returns-clause-falls
returns-clause-falls c =
    let p = few_calls c.args.act.now.depth in
    let q = search_fewer c.args.left c.requires in
    rw (c.in_ok-held.ensures, c.read_access-access.ensures, c.in_ok-searching.ensures) (omega (arith, p, q))
