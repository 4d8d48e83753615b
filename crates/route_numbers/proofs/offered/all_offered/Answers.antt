use Rattle.std.proofs.Common.{arith, sym, ◌∙◌, ◌≡◌, ◌<◌, ◌≤◌, ◌+◌, [], ℕ, List, ap, subst, get_or, true, inl, inr}
use Rattle.std.specs.Prelude.{Contains, ◌⊎◌}
use Rattle.std.proofs.lemmas.Bool.{cases_lt}
use Rattle.route_model.specs.Links.{offers_of}
use Rattle.route_model.specs.Placement.{Offers}
use Rattle.route_model.proofs.Offers.{offers_at, offers_length}
use Rattle.route_numbers.specs.Numbers.{is_offered}
use Rattle.route_model.proofs.Filtered.{contains_any, any_contains}
use Rattle.route_numbers.proofs.Numbered.{offered_to_any, offers_within}
use Rattle.route_numbers.proofs.offered.all_offered.Goals as goal

pub loop-link-preserved : goal.loop-link-preserved
loop-link-preserved c = record {
  all = λ k n b o. all k n o (cases_lt k c.loop-link.link-index) b;
  none = λ n h. none n (c.in_ok-count.ensures.only n h);
}
  where
    here : get_or (offers_of c.args.links.now) c.loop-link.link-index [] ≡ c.offers.result.now
    here = offers_at c.args.links.now c.loop-link.link-index c.link-item.result c.loop-link-test.true c.link-item.is ∙ sym c.offers.ensures

    all : (k n : ℕ) → Offers (offers_of c.args.links.now) k n → (k < c.loop-link.link-index) ⊎ (c.loop-link.link-index ≤ k) → k < c.loop-link.link-index + 1 → Contains c.add_and_sort.new.numbers.items n
    all k n o (inl below) b = c.in_ok-count.ensures.kept n (c.loop-link.invariant.all k n below o)
    all k n o (inr past) b =
        let same : k ≡ c.loop-link.link-index = omega arith in
        c.in_ok-count.ensures.added n (subst (λ (xs : List ℕ). Contains xs n) (ap (λ j. get_or (offers_of c.args.links.now) j []) same ∙ here) o)

    none : (n : ℕ) → Contains c.loop-link.numbers.items n ⊎ Contains c.offers.result.now n → is_offered (offers_of c.args.links.now) n ≡ true
    none n (inl old) = c.loop-link.invariant.none n old
    none n (inr new) = offered_to_any (offers_of c.args.links.now) c.loop-link.link-index n (subst (λ (xs : List ℕ). Contains xs n) (sym here) new)

pub returns-clause-all : goal.returns-clause-all
returns-clause-all c = record {
  all = λ l n o. contains_any n c.put_in_order.new.numbers.items (c.in_ok-put_in_order.ensures.kept n (c.loop-link.invariant.all l n (let w = offers_within (offers_of c.args.links.now) l n o in let long = offers_length c.args.links.now in let t = c.loop-link-test.false in omega arith) o));
  none = λ n h. c.loop-link.invariant.none n (c.in_ok-put_in_order.ensures.only n (any_contains n c.put_in_order.new.numbers.items h));
}
