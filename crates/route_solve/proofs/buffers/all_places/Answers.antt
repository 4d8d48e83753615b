use Rattle.std.proofs.Common.{arith, ap, sym, ◌∙◌, ◌≡◌, ◌++◌, ◌+◌, ◌∷◌, [], ℕ, zero, suc, add-one}
use Rattle.std.specs.List.{range_with_len}
use Rattle.route_solve.proofs.buffers.all_places.Goals as goal

range_more : (a n : ℕ) → range_with_len a (suc n) ≡ range_with_len a n ++ (a + n) ∷ []
range_more a zero = let e : a + 0 ≡ a = omega arith in rw e
range_more a (suc n) = let e : a + suc n ≡ a + 1 + n = omega arith in rw e (ap (λ xs. a ∷ xs) (range_more (a + 1) n))

pub loop-l-preserved : goal.loop-l-preserved
loop-l-preserved c = rw add-one (c.in_ok-push.ensures.items ∙ (ap (λ xs. xs ++ c.loop-l.l ∷ []) c.loop-l.invariant ∙ (ap (λ k. range_with_len 0 c.loop-l.l ++ k ∷ []) (let z : c.loop-l.l ≡ 0 + c.loop-l.l = omega arith in z) ∙ sym (range_more 0 c.loop-l.l))))
