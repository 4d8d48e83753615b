use Rattle.std.proofs.Common.{◌≡◌, ◌<◌, ℕ, List, length, map, sym, ◌∙◌, ap, subst, arith}
use Rattle.std.specs.Prelude.{Contains}
use Rattle.std.proofs.lemmas.List.{length-map, get_or_default}
use Rattle.std.proofs.lemmas.List.Elements.{Contains-get_or}
use Rattle.route_model.specs.Links.{offers_of}
use Rattle.route_model.specs.Placement.{Offers}
use Rattle.route_model.proofs.Assignments.{length_assignment, assignment_at}
use Rattle.route_model.proofs.Filtered.{any_contains}
use Rattle.route_spread.specs.Marks.{at}
use Rattle.route_numbers.specs.Numbers.{lists_of, number_at, AreTheOffered, IsNumbered}
use Rattle.route_spread.proofs.Shared.{placed_all}
use Rattle.route_spread.proofs.sharing.Sharing.new.Goals as goal

pub all_places_offered-requires-clause-all : goal.all_places_offered-requires-clause-all
all_places_offered-requires-clause-all c = subst (λ (xs : List ℕ). AreTheOffered (offers_of c.args.links.now) xs) (sym c.deref.ensures.value) c.in_ok-numbers.ensures.all

pub all_places_chosen-requires-clause-all : goal.all_places_chosen-requires-clause-all
all_places_chosen-requires-clause-all c n h =
    let o = assignment_at (offers_of c.args.links.now) c.args.choice.now h.0 c.requires h.1 in
    let is = get_or_default c.args.choice.now h.0 0 n h.1 ∙ h.2 in
    subst (λ (xs : List ℕ). Contains xs n) (sym c.deref-2.ensures.value) (any_contains n c.in_ok-numbers.numbers.items (c.in_ok-numbers.ensures.all.all h.0 n (subst (λ (m : ℕ). Offers (offers_of c.args.links.now) h.0 m) is o)))

pub all_loads-requires-clause-known : goal.all_loads-requires-clause-known
all_loads-requires-clause-known c = rw (c.deref-4.ensures.value, c.deref-3.ensures.value) (λ k b. let w = c.in_ok-choice.ensures.below (at c.in_ok-choice.choice.items k) (Contains-get_or c.in_ok-choice.choice.items k 0 b) in let e = ap length c.deref-2.ensures.value in omega arith)

pub returns : goal.returns
returns c =
    let offers = offers_of c.args.links.now in
    let numbers = c.in_ok-numbers.numbers.items in
    let places = lists_of c.in_ok-offers.offers.items in
    let choice = c.in_ok-choice.choice.items in
    let loads = c.in_ok-loads.loads.items in
    let numbered : IsNumbered offers numbers places = subst (λ (ns : List ℕ). IsNumbered offers ns places) c.deref.ensures.value c.in_ok-offers.ensures in
    let named : map (number_at numbers) choice ≡ c.args.choice.now = subst (λ (ns : List ℕ). map (number_at ns) choice ≡ c.args.choice.now) c.deref-2.ensures.value c.in_ok-choice.ensures.named in
    let below : (k : ℕ) → k < length choice → at choice k < length numbers = λ k b. let w = c.in_ok-choice.ensures.below (at choice k) (Contains-get_or choice k 0 b) in let e = ap length c.deref-2.ensures.value in omega arith in
    let many : length choice ≡ length places = (
    let m = length-map choice (number_at numbers) in
    let e = ap length named in
    let l = length_assignment offers c.args.choice.now c.requires in
    let n = length-map places (map (number_at numbers)) in
    let f = ap length numbered.named in
    omega arith) in
    let long : length loads ≡ length numbers = c.in_ok-loads.ensures.long ∙ ap length c.deref-3.ensures.value in
    let placed = placed_all offers numbers places c.args.choice.now choice c.in_ok-numbers.ensures.ascending numbered named below c.requires in
    let counted = c.len.ensures in
    let counted2 = c.len-2.ensures in
    let counted3 = c.len-3.ensures in
    let first = c.in_ok-holders.ensures.first in
    let next = c.in_ok-holders.ensures.next in
    record {
      sharing = record {
        up = c.in_ok-numbers.ensures.ascending;
        numbered = numbered;
        named = named;
        many = many;
        placed = placed;
        long = long;
        loaded = λ x b.
            let e = ap length c.deref-3.ensures.value in
            let l = c.in_ok-loads.ensures.loaded x (omega arith) in
            rw c.deref-3.ensures.value at (rw c.deref-4.ensures.value at l);
      };
      improved = record {
        marked = record {
          assigned = record {
            links = sym many;
            below = λ l x o. let b = numbered.below l x o in omega arith;
            placed = placed;
            small = c.in_ok-loads.ensures.small;
          };
          first = omega arith;
          next = omega arith;
        };
        room = let m = c.in_ok-marks.ensures in record { marks = let a = m.marks in omega arith; links = let a = m.links in omega arith; order = let a = m.order in omega arith; listed = m.listed };
      };
    }
