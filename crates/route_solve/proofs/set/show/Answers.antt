use Rattle.std.proofs.Common.{arith, sym, ap, ◌∙◌, ◌≡◌, ◌≤◌, ◌+◌, ℕ, List, [], length, subst, inl, inr, take}
use Rattle.std.specs.Prelude.{◌⊎◌, ◌==◌, filter}
use Rattle.std.specs.List.{range_with_len}
use Rattle.route_model.specs.Routing.{wired_to}
use Rattle.route_model.specs.Placement.{is_reached}
use Rattle.route_model.specs.Links.{offers_of}
use Rattle.route_solve.specs.Room.{room_of}
use Rattle.route_solve.specs.Certificate.{IsCertificate}
use Rattle.route_solve.specs.Floor.{IsFloor}
use Rattle.route_solve.specs.Shown.{Shown}
use Rattle.route_model.specs.Bound.{IsLowerBound}
use Rattle.route_solve.specs.Marks.{is_offered_by}
use Rattle.route_solve.specs.Shown.Shown.{Idle}
use Rattle.route_model.proofs.Offers.{offers_length}
use Rattle.route_solve.proofs.Showing.{wired_set, crowded_set}
use Rattle.route_solve.proofs.set.show.Goals as goal

pub returns-then-limit-eq0-clause-shown : goal.returns-then-limit-eq0-clause-shown
returns-then-limit-eq0-clause-shown c = rw (c.if-limit-eq0.true, c.clear.ensures.items, c.clear-then-limit-eq0.ensures.items) Idle

busy : (c : goal.After-truncate) → c.keep_busy.new.interrupts.items ≡ filter (λ n. wired_to c.args.offered.now.problem.now.wired n == c.args.limit) c.args.interrupts.now.items
busy c = c.keep_busy.ensures ∙ ap (λ (ws : List (ℕ × ℕ)). filter (λ n. wired_to ws n == c.args.limit) c.args.interrupts.now.items) c.wired.ensures

wired_case : (c : goal.After-truncate) → Shown (offers_of c.args.offered.now.problem.now.links) c.args.offered.now.problem.now.wired c.args.limit [] (take 1 (filter (λ n. wired_to c.args.offered.now.problem.now.wired n == c.args.limit) c.args.interrupts.now.items)) × IsLowerBound (offers_of c.args.offered.now.problem.now.links) c.args.offered.now.problem.now.wired c.args.limit [] (take 1 (filter (λ n. wired_to c.args.offered.now.problem.now.wired n == c.args.limit) c.args.interrupts.now.items))
wired_case c = wired_set (offers_of c.args.offered.now.problem.now.links) c.args.offered.now.problem.now.wired c.args.interrupts.now.items c.requires.ascending c.requires.all c.args.limit (let z = c.if-limit-eq0.false in omega arith) (subst (IsFloor c.args.offered.now.problem.now.wired) (sym c.if-limit-floor.true) c.requires.floor.reached)

pub returns-then-limit-floor-clause-shown : goal.returns-then-limit-floor-clause-shown
returns-then-limit-floor-clause-shown c = rw (c.clear-then-limit-floor.ensures.items, c.truncate.ensures.items, busy c) (wired_case c).0

pub returns-then-limit-floor-clause-bound : goal.returns-then-limit-floor-clause-bound
returns-then-limit-floor-clause-bound c = inr (rw (c.clear-then-limit-floor.ensures.items, c.truncate.ensures.items, busy c) (wired_case c).1)

crowded_case : (c : goal.After-keep_offered) → Shown (offers_of c.args.offered.now.problem.now.links) c.args.offered.now.problem.now.wired c.args.limit (filter (is_reached c.args.reached.now) (range_with_len 0 (length (offers_of c.args.offered.now.problem.now.links)))) (filter (is_offered_by (offers_of c.args.offered.now.problem.now.links) c.args.reached.now) c.args.interrupts.now.items) × IsLowerBound (offers_of c.args.offered.now.problem.now.links) c.args.offered.now.problem.now.wired c.args.limit (filter (is_reached c.args.reached.now) (range_with_len 0 (length (offers_of c.args.offered.now.problem.now.links)))) (filter (is_offered_by (offers_of c.args.offered.now.problem.now.links) c.args.reached.now) c.args.interrupts.now.items)
crowded_case c = go c.requires.limit.within_least.shown
  where
    offers : List (List ℕ)
    offers = offers_of c.args.offered.now.problem.now.links

    links : List ℕ
    links = filter (is_reached c.args.reached.now) (range_with_len 0 (length (offers_of c.args.offered.now.problem.now.links)))

    numbers : List ℕ
    numbers = filter (is_offered_by (offers_of c.args.offered.now.problem.now.links) c.args.reached.now) c.args.interrupts.now.items

    go : (c.args.limit ≡ c.args.floor) ⊎ ((level : ℕ) × (c.args.limit ≡ level + 1) × (c.args.floor ≤ level) × IsCertificate (offers_of c.args.offered.now.problem.now.links) (room_of level c.args.offered.now.problem.now.wired []) c.args.reached.now) → Shown (offers_of c.args.offered.now.problem.now.links) c.args.offered.now.problem.now.wired c.args.limit links numbers × IsLowerBound (offers_of c.args.offered.now.problem.now.links) c.args.offered.now.problem.now.wired c.args.limit links numbers
    go (inl e) = absurd (c.if-limit-floor.false e)
    go (inr (level, e, above, cert)) =
        let long = offers_length c.args.offered.now.problem.now.links in
        let marks = c.requires.limit.marks in
        rw e (crowded_set offers c.args.offered.now.problem.now.wired c.args.interrupts.now.items c.requires.ascending c.requires.all level c.args.reached.now (omega arith) (λ i. let b = c.requires.floor.above i in omega arith) (λ l b. (c.requires.fits.offers l (omega arith)).some) cert)

pub returns-else-limit-floor-clause-shown : goal.returns-else-limit-floor-clause-shown
returns-else-limit-floor-clause-shown c = rw (c.keep_marked.ensures, c.requires.places, c.keep_offered.ensures, ← offers_length c.args.offered.now.problem.now.links) (crowded_case c).0

pub returns-else-limit-floor-clause-bound : goal.returns-else-limit-floor-clause-bound
returns-else-limit-floor-clause-bound c = inr (rw (c.keep_marked.ensures, c.requires.places, c.keep_offered.ensures, ← offers_length c.args.offered.now.problem.now.links) (crowded_case c).1)
