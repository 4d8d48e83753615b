use Rattle.std.proofs.Common.{ℕ, List, [], refl, sym, ◌∙◌, subst, arith, get_or, below_more}
use Rattle.std.specs.Prelude.{Contains}
use Rattle.std.proofs.lemmas.Bool.{false≢true, true≢false}
use Rattle.route_model.specs.Links.{offers_of}
use Rattle.route_model.specs.Routing.{IsAssignment}
use Rattle.route_model.proofs.Offers.{offers_at, offers_length}
use Rattle.route_model.proofs.Assignments.{length_assignment, assignment_at, all_zip_from}
use Rattle.route_spread.specs.Marks.{at}
use Rattle.route_spread.proofs.sharing.is_assignment.Goals as goal

pub returns-then-links-choice : goal.returns-then-links-choice
returns-then-links-choice c = (λ e. absurd (false≢true e), λ a. absurd (let l = length_assignment (offers_of c.args.links.now) c.args.choice.now a in let m = offers_length c.args.links.now in let t = c.if-links-choice.true in omega arith))

pub returns-then-not-is_offered : goal.returns-then-not-is_offered
returns-then-not-is_offered c = (λ e. absurd (false≢true e), λ a. absurd (none a))
  where
    none : IsAssignment (offers_of c.args.links.now) c.args.choice.now → ⊥
    none a =
        let b = c.loop-i-test.true in
        let e = c.if-links-choice.false in
        let here = offers_at c.args.links.now c.loop-i.i c.index-links-i.result b c.index-links-i.is in
        let o = assignment_at (offers_of c.args.links.now) c.args.choice.now c.loop-i.i a (omega arith) in
        true≢false (sym (c.is_offered.ensures.1 (subst (λ (xs : List ℕ). Contains xs (at c.args.choice.now c.loop-i.i)) here o)) ∙ c.if-not-is_offered.true)

pub loop-i-preserved : goal.loop-i-preserved
loop-i-preserved c =
    let here = offers_at c.args.links.now c.loop-i.i c.index-links-i.result c.loop-i-test.true c.index-links-i.is in
    below_more (λ k. Contains (get_or (offers_of c.args.links.now) k []) (at c.args.choice.now k)) c.loop-i.i c.loop-i.invariant
    (subst (λ (xs : List ℕ). Contains xs (at c.args.choice.now c.loop-i.i)) (sym here) (c.is_offered.ensures.0 c.if-not-is_offered.false))

pub returns : goal.returns
returns c = (λ e. all_zip_from (offers_of c.args.links.now) c.args.choice.now (let m = offers_length c.args.links.now in let t = c.if-links-choice.false in omega arith) (λ k b. c.loop-i.invariant k (let t = c.loop-i-test.false in let s = c.if-links-choice.false in omega arith)), λ a. refl)
