use Rattle.std.proofs.Common.{◌<◌, ◌∙◌, ◌++◌, ◌∷◌, [], ℕ, List, arith, subst, ap, sym, length, map, take, inl, inr}
use Rattle.std.specs.Prelude.{◌⊎◌, Contains}
use Rattle.std.proofs.lemmas.List.{map-append, take_more}
use Rattle.route_model.specs.Links.{offers_of}
use Rattle.route_model.specs.Placement.{Offers}
use Rattle.route_model.proofs.Offers.{offers_at, offers_length}
use Rattle.route_model.proofs.Filtered.{any_contains}
use Rattle.route_numbers.specs.Numbers.{number_at, lists_of}
use Rattle.route_numbers.proofs.Numbered.{offers_push, lists_push}
use Rattle.route_numbers.proofs.places.all_places_offered.Goals as goal

pub places_of-requires-clause-all : goal.places_of-requires-clause-all
places_of-requires-clause-all c n h =
    let at = offers_at c.args.links.now c.loop-link.link-index c.link-item.result c.loop-link-test.true c.link-item.is ∙ sym c.offers.ensures in
    any_contains n c.args.numbers.now (c.requires.all.all c.loop-link.link-index n (subst (λ (xs : List ℕ). Contains xs n) (sym at) h))

pub loop-link-preserved : goal.loop-link-preserved
loop-link-preserved c =
    let at = offers_at c.args.links.now c.loop-link.link-index c.link-item.result c.loop-link-test.true c.link-item.is ∙ sym c.offers.ensures in
    let long = offers_length c.args.links.now in
    let inv = c.loop-link.invariant in
    let offers = offers_of c.args.links.now in
    let f = number_at c.args.numbers.now in
    let new = c.in_ok-places_of.field-0.items in
    let old = lists_of c.loop-link.places.items in
    let m = c.loop-link.link-index in
    let is = ap lists_of c.in_ok-push.ensures.items ∙ lists_push c.loop-link.places.items c.in_ok-places_of.field-0 in
    record {
      below = λ k i o. go k i (offers_push old new k i (subst (λ (xs : List (List ℕ)). Offers xs k i) is o));
      named = ap (map (map f)) is ∙ (map-append (map f) old (new ∷ []) ∙ (ap (λ (xs : List (List ℕ)). xs ++ map f new ∷ []) inv.named ∙ (ap (λ (x : List ℕ). take m offers ++ x ∷ []) (c.in_ok-places_of.ensures.named ∙ sym at) ∙ sym (take_more offers m [] (let t = c.loop-link-test.true in omega arith)))));
    }
  where
    go : (k i : ℕ) → Offers (lists_of c.loop-link.places.items) k i ⊎ Contains c.in_ok-places_of.field-0.items i → i < length c.args.numbers.now
    go k i (inl o) = c.loop-link.invariant.below k i o
    go k i (inr h) = c.in_ok-places_of.ensures.below i h
