use Rattle.std.proofs.Common.{rules}
use Rattle.std.proofs.lemmas.List.Sorted.{answers_always}
use Rattle.watched_space.proofs.Ascending.{searched}
use Rattle.watched_space.proofs.zeros.Zeros.search.Goals as goal

-- the closure gives an entry's number, and the slice is the list
pub returns : goal.returns
returns c =
    let facts = c.binary_search_by_key.ensures in
    let by_number = facts.position (λ entry. entry.0) (answers_always _ _ _ (λ f a r g called. search rules)) in
    rw (← c.self.view_is, ← c.deref.ensures.value) (searched _ (rw c.deref.ensures.value c.self.invariant.ascends) c.args.number _ facts.bound by_number)
