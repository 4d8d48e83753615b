use Rattle.std.proofs.Common.{◌≡◌, ℕ, List, length, map, sym, ◌∙◌, ap, subst, arith}
use Rattle.std.specs.Global.{Vec}
use Rattle.std.proofs.lemmas.Result.{IfOk-weaker}
use Rattle.route_model.specs.Links.{offers_of}
use Rattle.route_spread.specs.Marks.{at}
use Rattle.route_numbers.specs.Numbers.{lists_of, number_at}
use Rattle.route_spread.specs.Sharing.{IsLeastShared}
use Rattle.route_spread.proofs.Shared.{levelled_named, least_stays}
use Rattle.route_spread.proofs.sharing.solve_spread.Goals as goal

pub all_numbers-requires : goal.all_numbers-requires
all_numbers-requires c =
    let s = c.in_ok-sharing.sharing in
    let new = c.level.new.self in
    let sharing = c.in_ok-sharing.ensures.sharing in
    let placed = c.level.ensures.improved.placed in
    let many = ap (λ (v : Vec ℕ). length v.items) c.level.ensures.same.numbers in
    rw (c.deref.ensures.value, c.deref-2.ensures.value) (λ k b. let below = sharing.numbered.below k (at new.assignment.choice.items k) (placed k b) in omega arith)

pub returns-clause-least : goal.returns-clause-least
returns-clause-least c =
    let s = c.in_ok-sharing.sharing in
    let new = c.level.new.self in
    let same = c.level.ensures.same in
    let improved = c.level.ensures.improved in
    let offers = ap (λ (vs : Vec (Vec ℕ)). lists_of vs.items) same.offers in
    let levelled = rw offers at c.level.ensures.levelled in
    let least = levelled_named (offers_of c.args.links.now) c.args.wired.now c.args.first.now s.numbers.items (lists_of s.assignment.offers.items) s.assignment.choice.items s.assignment.loads.items new.assignment.choice.items new.assignment.loads.items new.marks.raised.items c.in_ok-sharing.ensures.sharing same.links same.interrupts improved.placed improved.kept levelled in
    let numbers = c.deref.ensures.value ∙ ap (λ (v : Vec ℕ). v.items) same.numbers in
    let named = ap (λ (ns : List ℕ). map (number_at ns) c.deref-2.result.now) numbers ∙ ap (map (number_at s.numbers.items)) c.deref-2.ensures.value in
    IfOk-weaker c.all_numbers.result (λ list. list.items ≡ map (number_at c.deref.result.now) c.deref-2.result.now) (λ list. IsLeastShared (offers_of c.args.links.now) c.args.wired.now list.items)
    (λ list e. subst (λ (xs : List ℕ). IsLeastShared (offers_of c.args.links.now) c.args.wired.now xs) (sym (e ∙ named)) least) c.all_numbers.ensures

pub returns-clause-stays : goal.returns-clause-stays
returns-clause-stays c =
    let s = c.in_ok-sharing.sharing in
    let new = c.level.new.self in
    let same = c.level.ensures.same in
    let improved = c.level.ensures.improved in
    let stays = least_stays (offers_of c.args.links.now) c.args.wired.now c.args.first.now s.numbers.items (lists_of s.assignment.offers.items) s.assignment.choice.items s.assignment.loads.items new.assignment.choice.items new.assignment.loads.items c.in_ok-sharing.ensures.sharing same.links same.interrupts improved.placed improved.kept improved.same_or_less in
    let numbers = c.deref.ensures.value ∙ ap (λ (v : Vec ℕ). v.items) same.numbers in
    let named = ap (λ (ns : List ℕ). map (number_at ns) c.deref-2.result.now) numbers ∙ ap (map (number_at s.numbers.items)) c.deref-2.ensures.value in
    IfOk-weaker c.all_numbers.result (λ list. list.items ≡ map (number_at c.deref.result.now) c.deref-2.result.now) (λ list. IsLeastShared (offers_of c.args.links.now) c.args.wired.now c.args.first.now → list.items ≡ c.args.first.now)
    (λ list e least. e ∙ (named ∙ stays least)) c.all_numbers.ensures
