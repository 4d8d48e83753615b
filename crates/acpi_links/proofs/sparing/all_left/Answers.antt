use Rattle.std.proofs.Common.{◌≡◌, ◌∙◌, sym, arith, true, false, Ok, Err, subst}
use Rattle.ar_space.specs.Outcome.{Outcome, Answers}
use Rattle.route_model.specs.Avoided.{are_all_avoided}
use Rattle.acpi_links.proofs.AllLeft.{left_on, left_refused, has_more, left_end, has_all}
use Rattle.acpi_links.proofs.sparing.all_left.Goals as goal

pub loop-link-preserved : goal.loop-link-preserved
loop-link-preserved c =
    let i = c.loop-link.link-index in
    let some : are_all_avoided c.args.avoid.now c.link-item.result.1.numbers ≡ false = subst (λ ns. are_all_avoided c.args.avoid.now ns ≡ false) c.numbers.ensures.value (sym c.are_all_avoided.ensures ∙ c.if-are_all_avoided.false) in
    (left_on c.args.avoid.now c.args.links.now i c.link-item.result c.loop-link.invariant.0 (omega arith) c.link-item.is some, has_more c.args.avoid.now c.args.links.now i c.link-item.result c.loop-link.invariant.0 (omega arith) c.link-item.is c.loop-link.invariant.1 some)

pub returns-then-are_all_avoided-clause-value : goal.returns-then-are_all_avoided-clause-value
returns-then-are_all_avoided-clause-value c =
    let none : are_all_avoided c.args.avoid.now c.link-item.result.1.numbers ≡ true = subst (λ ns. are_all_avoided c.args.avoid.now ns ≡ true) c.numbers.ensures.value (sym c.are_all_avoided.ensures ∙ c.if-are_all_avoided.true) in
    subst (λ (r : Outcome (Unit {0})). Answers c.all_avoided.result r) (sym (left_refused c.args.avoid.now c.args.links.now c.loop-link.link-index c.link-item.result c.loop-link.invariant.0 (omega arith) c.link-item.is none)) c.all_avoided.ensures.value

pub returns-clause-value : goal.returns-clause-value
returns-clause-value c = record { is = λ _. left_end c.args.avoid.now c.args.links.now c.loop-link.link-index c.loop-link.invariant.0 (omega arith) }

pub returns-clause-left : goal.returns-clause-left
returns-clause-left c = has_all c.args.avoid.now c.args.links.now c.loop-link.link-index c.loop-link.invariant.1 (omega arith)
