use Rattle.std.proofs.Common.{length, arith, ap, rules}
use Rattle.std.specs.Ordering.{is_lt, nat_cmp}
use Rattle.std.proofs.lemmas.Fn.{always_returns_same}
use Rattle.std.proofs.lemmas.Cmp.{nat_cmp_total}
use Rattle.std.proofs.lemmas.Map.Keys.{ge_from_not_lt}
use Rattle.std.proofs.lemmas.List.Sorted.{ranks_by, IsStrictWeakOrder-flip, sorted_far}
use Rattle.route_spread.specs.Marks.{at}
use Rattle.route_spread.proofs.Ranks.{permuted_listed}
use Rattle.route_spread.proofs.order.Order.arrange.Goals as goal

pub rank-requires-clause-listed : goal.rank-requires-clause-listed
rank-requires-clause-listed c = permuted_listed c.args.self.now.interrupts.items c.sort_unstable_by.new.self.items (c.args.self.now.ranks.items, c.requires) c.sort_unstable_by.ensures.permutation

pub returns-clause-falling : goal.returns-clause-falling
returns-clause-falling c i j le b =
    let loads = c.args.loads.now in
    let sorted = c.sort_unstable_by.new.self.items in
    let order = IsStrictWeakOrder-flip (λ x y. is_lt (nat_cmp (at loads x) (at loads y))) (ranks_by nat_cmp_total (at loads)) in
    let up = c.sort_unstable_by.ensures.sorted (λ x y. is_lt (nat_cmp (at loads y) (at loads x))) order (always_returns_same _ _ _ (λ a r f' k. search rules)) in
    let same = c.rank.ensures.same in
    rw same (ge_from_not_lt (at loads (at sorted i)) (at loads (at sorted j)) (sorted_far (λ x y. is_lt (nat_cmp (at loads y) (at loads x))) order sorted up i j 0 le (let e = ap length same in omega arith)))
