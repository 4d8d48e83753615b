use Rattle.std.proofs.Common.{◌≤◌, ◌^◌, length, take, arith, length-take, lit<}
use Rattle.std.proofs.Math.Nat.{pow-le-pow_right}
use Rattle.aml_terms.proofs.cursor.Cursor.integer.Goals as goal

pub returns-clause-bound : goal.returns-clause-bound
returns-clause-bound c =
    let few : length (take c.min-here.result c.self.inside.rest.now) ≤ c.args.count = omega (arith, length-take c.min-here.result c.self.inside.rest.now, c.min-here.ensures) in
    let most : 256 ^ length (take c.min-here.result c.self.inside.rest.now) ≤ 256 ^ c.args.count = pow-le-pow_right (lit< tt) few in
    omega (arith, most, c.little_endian.ensures.bound)
