use Rattle.std.proofs.Common.{List, ℕ, eqb, subst, sym}
use Rattle.std.specs.Prelude.{Contains}
use Rattle.std.specs.List.Sorted.{IsStrictlyIncreasing}
use Rattle.std.proofs.lemmas.List.Filters.{dedup_is}
use Rattle.std.proofs.lemmas.List.Kept.{Contains-dedup_nat, Contains-from_dedup}
use Rattle.std.proofs.lemmas.List.Sorted.{Contains-permutation, IsPermutation-sym}
use Rattle.std.proofs.lemmas.Map.Keys.{IsStrictlyIncreasing-dedup}
use Rattle.route_numbers.proofs.ascending.put_in_order.Goals as goal

pub returns-clause-ascending : goal.returns-clause-ascending
returns-clause-ascending c = subst IsStrictlyIncreasing (sym (dedup_is eqb c.sort.new.self.items c.dedup.new.self.items c.dedup.ensures.filtered)) (IsStrictlyIncreasing-dedup c.sort.new.self.items c.in_ok-sort.ensures.sorted)

pub returns-clause-kept : goal.returns-clause-kept
returns-clause-kept c n h = subst (λ (xs : List ℕ). Contains xs n) (sym (dedup_is eqb c.sort.new.self.items c.dedup.new.self.items c.dedup.ensures.filtered)) (Contains-dedup_nat c.sort.new.self.items n (Contains-permutation c.args.numbers.now.items c.sort.new.self.items n c.in_ok-sort.ensures.permutation h))

pub returns-clause-only : goal.returns-clause-only
returns-clause-only c n h = Contains-permutation c.sort.new.self.items c.args.numbers.now.items n (IsPermutation-sym c.args.numbers.now.items c.sort.new.self.items c.in_ok-sort.ensures.permutation) (Contains-from_dedup eqb c.sort.new.self.items n (subst (λ (xs : List ℕ). Contains xs n) (dedup_is eqb c.sort.new.self.items c.dedup.new.self.items c.dedup.ensures.filtered) h))
