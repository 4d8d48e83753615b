-- Links that are moved several times.
use Rattle.std.proofs.Common.{ℕ, List, arith, ap, subst, ◌∙◌}
use Rattle.std.specs.Global.{Vec}
use Rattle.route_spread.specs.declared.sharing.Sharing.{Sharing}
use Rattle.route_numbers.specs.Numbers.{lists_of}
use Rattle.route_spread.specs.Marks.{ArePlaced}
use Rattle.route_spread.specs.InMemory.{WereMoved}
use Rattle.route_spread.specs.Improving.{HasSameOffers, IsImproved, WereLevelled}
use Rattle.route_spread.proofs.Moves.{less_still}

pub same_again : (s s' s'' : Sharing) → HasSameOffers s s' → HasSameOffers s' s'' → HasSameOffers s s''
same_again s s' s'' one two = record {
  numbers = two.numbers ∙ one.numbers;
  offers = two.offers ∙ one.offers;
  links = two.links ∙ one.links;
  interrupts = two.interrupts ∙ one.interrupts;
}

pub improved_more : (s s' s'' : Sharing) → HasSameOffers s s' → IsImproved s.assignment s'.assignment → WereMoved s'.assignment s''.assignment → IsImproved s.assignment s''.assignment
improved_more s s' s'' same improved moved = record {
  placed = subst (λ (os : List (List ℕ)). ArePlaced os s''.assignment.choice.items) (ap (λ (vs : Vec (Vec ℕ)). lists_of vs.items) same.offers) moved.placed;
  kept = λ x b. let a = improved.kept x b in let l = same.interrupts in let m = moved.kept x (omega arith) in omega arith;
  same_or_less = less_still (lists_of s'.assignment.offers.items) s.assignment.choice.items s'.assignment.choice.items s''.assignment.choice.items s.assignment.loads.items s'.assignment.loads.items s''.assignment.loads.items improved.same_or_less moved;
}

pub improved_still : (s s' s'' : Sharing) → IsImproved s.assignment s'.assignment → WereLevelled s' s'' → IsImproved s.assignment s''.assignment
improved_still s s' s'' improved levelled =
    let choice = ap (λ (v : Vec ℕ). v.items) levelled.choice in
    let loads = ap (λ (v : Vec ℕ). v.items) levelled.loads in
    record {
      placed = rw choice improved.placed;
      kept = rw (choice, loads) improved.kept;
      same_or_less = rw (choice, loads) improved.same_or_less;
    }
