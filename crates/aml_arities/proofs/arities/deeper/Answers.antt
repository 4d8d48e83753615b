use Rattle.std.proofs.Common.{◌≡◌, arith, Some, true, false, refl}
use Rattle.std.specs.Prelude.{nat_lt}
use Rattle.std.proofs.lemmas.Bool.Decides.{nat_tests}
use Rattle.aml_arities.proofs.Deepest.{greater, greater_is}
use Rattle.aml_arities.proofs.arities.deeper.Goals as goal

pub returns-in-None : goal.returns-in-None
returns-in-None c = λ f g n one other. greater_is f g n c.args.first c.args.second c.args.second (rw c.in-None.is refl) one other

pub returns-in-None-second : goal.returns-in-None-second
returns-in-None-second c = λ f g n one other. greater_is f g n c.args.first c.args.second (Some c.in-Some.one) (rw (c.in-Some.is, c.in-None-second.is) refl) one other

pub returns-then-one-other : goal.returns-then-one-other
returns-then-one-other c =
    let lt = c.if-one-other.true in
    let test : nat_lt c.in-Some.one c.in-Some-second.other ≡ true = grind (arith, nat_tests) in
    λ f g n one other. greater_is f g n c.args.first c.args.second (Some c.in-Some-second.other) (rw (c.in-Some.is, c.in-Some-second.is, test) refl) one other

pub returns-else-one-other : goal.returns-else-one-other
returns-else-one-other c =
    let le = c.if-one-other.false in
    let test : nat_lt c.in-Some.one c.in-Some-second.other ≡ false = grind (arith, nat_tests) in
    λ f g n one other. greater_is f g n c.args.first c.args.second (Some c.in-Some.one) (rw (c.in-Some.is, c.in-Some-second.is, test) refl) one other
