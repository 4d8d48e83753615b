use Rattle.std.proofs.Common.{◌≡◌, ◌∙◌, ◌<◌, ℕ, Bool, true, false, length, get_or, refl, sym, subst, arith}
use Rattle.std.specs.Prelude.{Contains, MatchOption, Option}
use Rattle.std.proofs.lemmas.Bool.{OnTrue_at, OnFalse_at}
use Rattle.route_model.specs.Links.{offers_of}
use Rattle.route_model.proofs.Offers.{offers_length}
use Rattle.route_solve.specs.Marks.{is_offered_by}
use Rattle.route_solve.proofs.Marked.{offered_yes, offered_no, unoffered}
use Rattle.route_solve.proofs.set.is_offered.Goals as goal

pub returns-in-Some : goal.returns-in-Some
returns-in-Some c = go c.offers_at.result refl
  where
    place : (c.in-Some.i < length c.args.offered.now.numbers.now) × (get_or c.args.offered.now.numbers.now c.in-Some.i 0 ≡ c.args.n)
    place = subst (λ (p : Option ℕ). MatchOption p (Contains c.args.offered.now.numbers.now c.args.n → ⊥) (λ i. (i < length c.args.offered.now.numbers.now) × (get_or c.args.offered.now.numbers.now i 0 ≡ c.args.n))) c.in-Some.is c.requires.place

    go : (b : Bool) → c.offers_at.result ≡ b → c.offers_at.result ≡ is_offered_by (offers_of c.args.offered.now.problem.now.links) c.args.marks.now c.args.n
    go true e = e ∙ sym (offered_yes (offers_of c.args.offered.now.problem.now.links) c.args.marks.now c.args.offered.now.numbers.now c.args.offered.now.rows.now c.args.row.now (let l = offers_length c.args.offered.now.problem.now.links in let f = c.requires.few in omega arith) c.requires.numbers.bits c.requires.four c.requires.all c.requires.only c.args.n c.in-Some.i place.0 place.1 (OnTrue_at e c.offers_at.ensures.yes))
    go false e = e ∙ sym (offered_no (offers_of c.args.offered.now.problem.now.links) c.args.marks.now c.args.offered.now.numbers.now c.args.offered.now.rows.now c.args.row.now (let l = offers_length c.args.offered.now.problem.now.links in let f = c.requires.few in omega arith) c.requires.numbers.bits c.requires.four c.requires.all c.requires.only c.args.n c.in-Some.i place.0 place.1 (OnFalse_at e c.offers_at.ensures.no))

pub returns-in-None : goal.returns-in-None
returns-in-None c =
    let none = subst (λ (p : Option ℕ). MatchOption p (Contains c.args.offered.now.numbers.now c.args.n → ⊥) (λ i. (i < length c.args.offered.now.numbers.now) × (get_or c.args.offered.now.numbers.now i 0 ≡ c.args.n))) c.in-None.is c.requires.place in
    sym (unoffered (offers_of c.args.offered.now.problem.now.links) c.args.marks.now c.args.offered.now.numbers.now c.args.n c.requires.numbers.offered none)
