-- What is known of an answer, whichever is chosen.
use Rattle.std.proofs.Common.{◌≡◌, ◌∙◌, ap, sym, subst, ◌≤◌, Bool, true, false, ℕ, List, arith}
use Rattle.route_model.specs.Links.{offers_of}
use Rattle.route_model.specs.Routing.{busiest, IsAssignment, IsLeast}
use Rattle.route_solve.specs.Problems.{RoutingProblem, RoutingAnswer}
use Rattle.route_solve.specs.Shown.{Shown}
use Rattle.route_spread.specs.Sharing.{IsLeastShared}
use Rattle.acpi_configure.specs.Chosen.{Spreads, IsChosen}
use Rattle.acpi_configure.specs.Configured.{Solves}

-- an assignment, its busiest interrupt, and the set that shows why none is less busy
pub record Fitting (p : RoutingProblem) (a : RoutingAnswer) : Type 0 where
  pub offered : IsAssignment (offers_of p.links) a.choice
  pub busiest_is : busiest p.wired a.choice ≡ a.busiest
  pub shown : Shown (offers_of p.links) p.wired a.busiest a.links a.interrupts

pub solved_fits : (p : RoutingProblem) (a : RoutingAnswer) → Solves p a → Fitting p a
solved_fits p a s = record { offered = s.first_least.is_least.offered; busiest_is = s.busiest_is; shown = s.shown }

pub chosen_fits : (spread : Bool) (p : RoutingProblem) (a : RoutingAnswer) → IsChosen spread p a → Fitting p a
chosen_fits false p a s = solved_fits p a s
chosen_fits true p a s = record { offered = s.shared.offered; busiest_is = s.busiest_is; shown = s.shown }

pub chosen_shares : (spread : Bool) (p : RoutingProblem) (a : RoutingAnswer) → IsChosen spread p a → spread ≡ true → IsLeastShared (offers_of p.links) p.wired a.choice
chosen_shares false p a s e = absurd (cc e)
chosen_shares true p a s e = s.shared

-- links that were moved from the first least answer
pub spread_answer : ((offers : List (List ℕ)) (wired : List (ℕ × ℕ)) (a : List ℕ) → IsLeastShared offers wired a → IsLeast offers wired a)
    → ((problem : RoutingProblem) (one other : RoutingAnswer) → Solves problem one → Solves problem other → one ≡ other)
    → (p : RoutingProblem) (first a : RoutingAnswer) (choice : List ℕ) → Solves p first → IsLeastShared (offers_of p.links) p.wired choice
    → (IsLeastShared (offers_of p.links) p.wired first.choice → choice ≡ first.choice) → a ≡ record first { choice = choice } → Spreads p a
spread_answer least one p first a choice s shared stays is =
    let is_least = least (offers_of p.links) p.wired choice shared in
    let no_busier : busiest p.wired choice ≤ busiest p.wired first.choice = is_least.least first.choice s.first_least.is_least.offered in
    let no_less : busiest p.wired first.choice ≤ busiest p.wired choice = s.first_least.is_least.least choice shared.offered in
    let known : busiest p.wired first.choice ≡ first.busiest = s.busiest_is in
    rw is (record {
      shared = shared;
      busiest_is = omega arith;
      shown = s.shown;
      stays = λ f t h. let same : f ≡ first = one p f first t s in stays (subst (λ (x : RoutingAnswer). IsLeastShared (offers_of p.links) p.wired x.choice) same h) ∙ ap (λ (x : RoutingAnswer). x.choice) (sym same);
    })
