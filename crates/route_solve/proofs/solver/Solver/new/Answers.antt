use Rattle.std.proofs.Common.{rules, ◌≡◌, ◌<◌, ℕ, List, arith, subst, sym, ap, length, map, true}
use Rattle.std.specs.Global.{Vec}
use Rattle.std.proofs.lemmas.List.{length-map}
use Rattle.route_model.specs.Links.{OfferingLink, offers_of}
use Rattle.route_model.specs.Placement.{Offers}
use Rattle.route_model.proofs.Offers.{offers_length}
use Rattle.route_model.specs.Routing.{wired_to}
use Rattle.route_solve.specs.Marks.{HasAll}
use Rattle.route_numbers.specs.Numbers.{has, lists_of, number_at, AreSources, AreTheOffered, IsNumbered}
use Rattle.route_solve.specs.Rows.{AreRows}
use Rattle.route_numbers.proofs.Numbered.{lists_length}
use Rattle.route_solve.proofs.RowsOf.{has_rows}
use Rattle.route_solve.proofs.solver.Solver.new.Goals as goal

pub all_rows-requires-clause-below : goal.all_rows-requires-clause-below
all_rows-requires-clause-below c l i o =
    let b = c.in_ok-offers.ensures.below l i (subst (λ (vs : List (Vec ℕ)). Offers (lists_of vs) l i) c.deref-4.ensures.value o) in
    let e = ap length c.deref-2.ensures.value in
    let f = ap length c.deref-3.ensures.value in
    omega arith

numbered : (links links' : List OfferingLink) (ns ns' : List ℕ) (ps : List (List ℕ)) → links ≡ links' → ns ≡ ns' → IsNumbered (offers_of links) ns ps → IsNumbered (offers_of links') ns' ps
numbered links links' ns ns' ps e f h = subst (λ (ms : List ℕ). IsNumbered (offers_of links') ms ps) f (subst (λ (ls : List OfferingLink). IsNumbered (offers_of ls) ns ps) e h)

long : (links : List OfferingLink) (ns : List ℕ) (vs : List (Vec ℕ)) → IsNumbered (offers_of links) ns (lists_of vs) → length vs ≡ length links
long links ns vs h = let a = lists_length vs in let b = length-map (lists_of vs) (map (number_at ns)) in let d = ap length h.named in let e = offers_length links in omega arith

all_of : (links links' : List OfferingLink) (ws ws' : List (ℕ × ℕ)) (ns ns' xs : List ℕ) → links ≡ links' → ws ≡ ws' → ns' ≡ ns → AreTheOffered (offers_of links) ns → ((n : ℕ) → has ns' n ≡ true → has xs n ≡ true) → ((n : ℕ) → 0 < wired_to ws n → has xs n ≡ true) → HasAll (offers_of links') ws' xs
all_of links links' ws ws' ns ns' xs e f g h a b = record {
  offered = λ l n o. a n (subst (λ (ms : List ℕ). has ms n ≡ true) (sym g) (h.all l n (subst (λ (ls : List OfferingLink). Offers (offers_of ls) l n) (sym e) o)));
  sources = λ n m. b n (subst (λ (us : List (ℕ × ℕ)). 0 < wired_to us n) (sym f) m);
}

pub invariant_of-result : goal.invariant_of-result
invariant_of-result c = record {
  fits = record { few = c.requires.few; offers = c.requires.offers; wired_in_order = c.requires.wired_in_order; counts = c.requires.counts };
  graph = record {
    ascending = search rules;
    offered = search rules;
    long = long c.args.problem.now.links c.in_ok-numbers.numbers.items c.in_ok-offers.offers.items (numbered c.links-links.result.now c.args.problem.now.links c.deref-2.result.now c.in_ok-numbers.numbers.items (lists_of c.in_ok-offers.offers.items) c.links-links.ensures c.deref-2.ensures.value c.in_ok-offers.ensures);
    numbered = numbered c.links-links.result.now c.args.problem.now.links c.deref-2.result.now c.in_ok-numbers.numbers.items (lists_of c.in_ok-offers.offers.items) c.links-links.ensures c.deref-2.ensures.value c.in_ok-offers.ensures;
    wired = subst (λ (ns : List ℕ). AreSources ns c.args.problem.now.wired c.in_ok-sources.sources.items) c.deref-5.ensures.value (subst (λ (ws : List (ℕ × ℕ)). AreSources c.deref-5.result.now ws c.in_ok-sources.sources.items) c.wired-2.ensures c.in_ok-sources.ensures);
    bits = has_rows (offers_of c.args.problem.now.links) c.in_ok-numbers.numbers.items (lists_of c.in_ok-offers.offers.items) c.in_ok-rows.rows.items c.in_ok-numbers.ensures.ascending (numbered c.links-links.result.now c.args.problem.now.links c.deref-2.result.now c.in_ok-numbers.numbers.items (lists_of c.in_ok-offers.offers.items) c.links-links.ensures c.deref-2.ensures.value c.in_ok-offers.ensures) (subst (λ (ns : List ℕ). AreRows (lists_of c.in_ok-offers.offers.items) (length ns) c.in_ok-rows.rows.items) c.deref-3.ensures.value (subst (λ (vs : List (Vec ℕ)). AreRows (lists_of vs) (length c.deref-3.result.now) c.in_ok-rows.rows.items) c.deref-4.ensures.value c.in_ok-rows.ensures));
  };
  unplaced = search rules;
  uncounted = search rules;
  sized = search rules;
  answers = search rules;
  all_there = search rules;
  ascending = search rules;
  all = all_of c.links-links.result.now c.args.problem.now.links c.wired.result.now c.args.problem.now.wired c.in_ok-numbers.numbers.items c.deref.result.now c.in_ok-interrupts.interrupts.items c.links-links.ensures c.wired.ensures c.deref.ensures.value c.in_ok-numbers.ensures.all c.in_ok-interrupts.ensures.offered c.in_ok-interrupts.ensures.sources;
}
