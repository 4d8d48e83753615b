use Rattle.std.proofs.Common.{◌≡◌, ◌∙◌, ap, subst}
use Rattle.route_model.specs.Links.{offers_of}
use Rattle.route_solve.specs.Problems.{RoutingAnswer}
use Rattle.route_spread.specs.Sharing.{IsLeastShared}
use Rattle.acpi_configure.proofs.Fitting.{spread_answer}
use Rattle.acpi_configure.proofs.choosing.spread_from.Goals as goal

pub returns-clause-spreads : goal.returns-clause-spreads
returns-clause-spreads c =
    let choice = c.in_ok-choice.choice.items in
    let shared : IsLeastShared (offers_of c.args.problem.now.links) c.args.problem.now.wired choice =
    subst (λ wired. IsLeastShared (offers_of c.args.problem.now.links) wired choice) c.wired.ensures (subst (λ links. IsLeastShared (offers_of links) c.wired.result.now choice) c.links.ensures c.in_ok-choice.ensures.least) in
    let stays : IsLeastShared (offers_of c.args.problem.now.links) c.args.problem.now.wired c.deref.result.now → choice ≡ c.deref.result.now =
    subst (λ wired. IsLeastShared (offers_of c.args.problem.now.links) wired c.deref.result.now → choice ≡ c.deref.result.now) c.wired.ensures
    (subst (λ links. IsLeastShared (offers_of links) c.wired.result.now c.deref.result.now → choice ≡ c.deref.result.now) c.links.ensures c.in_ok-choice.ensures.stays) in
    let first : IsLeastShared (offers_of c.args.problem.now.links) c.args.problem.now.wired c.args.first.choice → choice ≡ c.args.first.choice =
    subst (λ ns. IsLeastShared (offers_of c.args.problem.now.links) c.args.problem.now.wired ns → choice ≡ ns) (c.deref.ensures.value ∙ ap (λ (a : RoutingAnswer). a.choice) c.first.view_is) stays in
    spread_answer c.a_least_sharing_is_least.ensures c.a_problem_has_one_answer.ensures c.args.problem.now c.args.first _ choice c.requires.solves shared first
    (ap (λ (a : RoutingAnswer). record a { choice = choice }) c.first.view_is)
