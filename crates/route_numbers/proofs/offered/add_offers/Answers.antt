use Rattle.std.proofs.Common.{◌≡◌, ◌∙◌, ℕ, subst, get_or, below_more, arith, inl, inr}
use Rattle.std.specs.Prelude.{◌⊎◌, Contains}
use Rattle.std.proofs.lemmas.List.{get_or_default}
use Rattle.std.proofs.lemmas.List.Elements.{Contains-get_or}
use Rattle.route_numbers.proofs.offered.add_offers.Goals as goal

pub loop-n-preserved : goal.loop-n-preserved
loop-n-preserved c =
    let inv = c.loop-n.invariant in
    let more = c.in_ok-add_offer.ensures in
    record {
      kept = λ m h. more.kept m (inv.kept m h);
      added = below_more (λ k. Contains c.add_offer.new.numbers.items (get_or c.args.offers.now k 0)) c.loop-n.n-index (λ k b. more.kept _ (inv.added k b)) more.added;
      only = λ m h. go m (more.only m h);
    }
  where
    go : (m : ℕ) → Contains c.loop-n.numbers.items m ⊎ (get_or c.args.offers.now c.loop-n.n-index 0 ≡ m) → Contains c.args.numbers.now.items m ⊎ Contains c.args.offers.now m
    go m (inl old) = c.loop-n.invariant.only m old
    go m (inr e) = inr (subst (Contains c.args.offers.now) e (Contains-get_or c.args.offers.now c.loop-n.n-index 0 c.loop-n-test.true))

pub returns-clause-added : goal.returns-clause-added
returns-clause-added c n h =
    subst (Contains c.loop-n.numbers.items) (get_or_default c.args.offers.now h.0 0 n h.1 ∙ h.2) (c.loop-n.invariant.added h.0 (let t = c.loop-n-test.false in let b = h.1 in omega arith))
