use Rattle.std.proofs.Common.{ℕ, Some, None, sym, ◌∙◌, arith}
use Rattle.std.proofs.lemmas.List.{ext_get_or, length-map}
use Rattle.route_model.specs.Placement.{placement_of}
use Rattle.route_model.proofs.Assignments.{placement_at}
use Rattle.route_solve.specs.Named.{named}
use Rattle.route_solve.proofs.Names.{length-named, place_named}
use Rattle.route_solve.proofs.assign.write_out.Goals as goal

pub returns : goal.returns
returns c =
    let long = length-map c.loop-k.given (λ (n : ℕ). Some n) in
    let all = length-named c.args.numbers.now c.args.choice.now in
    let t = c.loop-k-test.false in
    ext_get_or None (placement_of c.loop-k.given) (named c.args.numbers.now c.args.choice.now) (omega arith)
    (λ i b. placement_at c.loop-k.given i (omega arith) ∙ (sym (c.loop-k.invariant i (omega arith)) ∙ sym (place_named c.args.numbers.now c.args.choice.now i)))
