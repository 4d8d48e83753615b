-- The turns of a While that waits on the top of the stack.
use Rattle.std.specs.Prelude.{◌≡◌, ℕ, ◌+◌, ◌-◌, ◌<◌, ◌≤◌, true, List, [], ◌∷◌, ◌++◌, length, take, slice_get, Some, Ok, Err, IfOk, IfErr, IsErr, IsErrAnd}
use Rattle.std.proofs.Common.{◌∙◌, ap, sym, subst, arith}
use Rattle.ar_space.specs.Accesses.{Accesses}
use Rattle.ar_space.specs.declared.refusal.Refusal.{Refusal}
use Rattle.ar_space.specs.Outcome.{Outcome}
use Rattle.aml_world.specs.state.State.{State}
use Rattle.aml_world.specs.state.PassedOver.{is_passable}
use Rattle.aml_meaning.specs.declared.flow.Flow.TheVariants as flow
use Rattle.aml_meaning.specs.Meaning.{meaning}
use Rattle.aml_frames.specs.declared.frames.Control.{Control}
use Rattle.aml_frames.specs.declared.frames.Control.TheVariants as control
use Rattle.aml_frames.specs.declared.frames.Entry.{Entry}
use Rattle.aml_frames.specs.declared.frames.Entry.TheVariants as entry
use Rattle.aml_frames.specs.declared.frames.Frame.TheVariants as frames
use Rattle.aml_frames.specs.declared.frames.Items.{Items}
use Rattle.aml_frames.specs.declared.frames.Loop.{Loop}
use Rattle.aml_frames.specs.declared.frames.Next.{Next}
use Rattle.aml_frames.specs.declared.frames.Next.TheVariants as next
use Rattle.aml_frames.specs.Places.{Site}
use Rattle.aml_frames.specs.Follow.{ends, turn_items, resumed, next_run, next_ends, Leads}
use Rattle.aml_frames.specs.Weights.{charged}
use Rattle.aml_frames.specs.Stack.{TurnWaits, then_all, machine, Goes, stack_weight, control_weight}
use Rattle.aml_evaluation.proofs.Machine.{weight_on, goes_flow, goes_frame, goes_leads, goes_leads_err, goes_turn}
use Rattle.aml_frames.proofs.PassedItems.{never_refused, never_memory}
use Rattle.aml_frames.proofs.Weighing.{charged_less}

-- ---- the entry on the top

last_at : (y : Entry) (ys : List Entry) (x : Entry) → slice_get (y ∷ ys) (length ys) ≡ Some x → y ∷ ys ≡ take (length ys) (y ∷ ys) ++ x ∷ []
last_at y [] x e = ap (λ z. z ∷ []) (cc e)
last_at y (z ∷ ys) x e = ap (λ zs. y ∷ zs) (last_at z ys x e)

pub last_there : (x : Entry) (xs : List Entry) → slice_get xs (length xs - 1) ≡ Some x → xs ≡ take (length xs - 1) xs ++ x ∷ []
last_there x [] e = absurd (cc e)
last_there x (y ∷ ys) e =
    let n : length (y ∷ ys) - 1 ≡ length ys = omega arith in
    let h : slice_get (y ∷ ys) (length ys) ≡ Some x = ap (slice_get (y ∷ ys)) (sym n) ∙ e in
    last_at y ys x h ∙ ap (λ k. take k (y ∷ ys) ++ x ∷ []) (sym n)

module _ {S : Type 0} {ac : Accesses S} where
  -- the next turn begins: the While waits as it did
  pub turn_again : {s s1 : State S × ℕ} (c d : Site) (xs : List Entry) (i : Items) (l k : Loop) → TurnWaits l xs → k ≡ l → Leads ac (meaning ac) (Ok (next.Turn k)) d s1 (resumed ac (meaning ac) (frames.Turn l) c flow.Next) s → next_ends (next.Turn k) d ≡ ends (frames.Turn l) c → i ≡ turn_items k d
      → Goes ac (meaning ac) (Ok (control.Items i)) d xs s1 (machine ac (meaning ac) (control.Flow flow.Next) c xs) s
  turn_again {s = s} {s1 = s1} c d xs i l k waits same h e j =
      let there = last_there (entry.Frame (frames.Turn l)) xs waits in
      let below = take (length xs - 1) xs in
      let stands : xs ≡ below ++ entry.Frame (frames.Turn k) ∷ [] = there ∙ ap (λ x. below ++ entry.Frame (frames.Turn x) ∷ []) (sym same) in
      subst (λ zs. Goes ac (meaning ac) (Ok (control.Items i)) d xs s1 (machine ac (meaning ac) (control.Flow flow.Next) c zs) s) (sym there)
      (goes_frame c below (frames.Turn l) flow.Next (goes_leads (next.Turn k) d (ends (frames.Turn l) c) below _ h e (goes_turn below xs i k j stands)))

  -- anything else is left to do: the While was taken off the stack
  pub turn_done : {r : Outcome Control} {e : Site} {zs : List Entry} {s s1 s2 : State S × ℕ} (n : Next) (c d : Site) (xs ys : List Entry) (l : Loop) → TurnWaits l xs → ys ≡ take (length xs - 1) xs → Leads ac (meaning ac) (Ok n) d s1 (resumed ac (meaning ac) (frames.Turn l) c flow.Next) s → next_ends n d ≡ ends (frames.Turn l) c
      → Goes ac (meaning ac) r e zs s2 (then_all ac (meaning ac) (next_run ac (meaning ac) n d) (next_ends n d) ys) s1
      → Goes ac (meaning ac) r e zs s2 (machine ac (meaning ac) (control.Flow flow.Next) c xs) s
  turn_done {r = r} {e = e} {zs = zs} {s = s} {s2 = s2} n c d xs ys l waits popped h i g =
      let there = last_there (entry.Frame (frames.Turn l)) xs waits in
      let below = take (length xs - 1) xs in
      subst (λ us. Goes ac (meaning ac) r e zs s2 (machine ac (meaning ac) (control.Flow flow.Next) c us) s) (sym there)
      (goes_frame c below (frames.Turn l) flow.Next (goes_leads n d (ends (frames.Turn l) c) below _ h i (rw popped at g)))

  -- its predicate is refused
  pub turn_refused : {r : Outcome Control} {s s1 : State S × ℕ} (x : Refusal) (c d : Site) (xs ys : List Entry) (l : Loop) → TurnWaits l xs → ys ≡ take (length xs - 1) xs → Leads ac (meaning ac) (Err x) d s1 (resumed ac (meaning ac) (frames.Turn l) c flow.Next) s → IsErr r × IsErrAnd r (λ z. z ≡ x)
      → Goes ac (meaning ac) r d ys s1 (machine ac (meaning ac) (control.Flow flow.Next) c xs) s
  turn_refused {r = r} {s = s} {s1 = s1} x c d xs ys l waits popped h i =
      let there = last_there (entry.Frame (frames.Turn l)) xs waits in
      let below = take (length xs - 1) xs in
      rw popped (subst (λ us. Goes ac (meaning ac) r d below s1 (machine ac (meaning ac) (control.Flow flow.Next) c us) s) (sym there)
      (goes_frame c below (frames.Turn l) flow.Next (goes_leads_err d (ends (frames.Turn l) c) below _ h i)))

-- ---- how much it may ask for

weighs : (xs ys : List Entry) (l : Loop) → TurnWaits l xs → ys ≡ take (length xs - 1) xs → stack_weight xs ≡ stack_weight ys + 1
weighs xs ys l waits popped = ap stack_weight (last_there (entry.Frame (frames.Turn l)) xs waits) ∙ weight_on (take (length xs - 1) xs) (entry.Frame (frames.Turn l)) ∙ ap (λ zs. stack_weight zs + 1) (sym popped)

pub falls_again : (a b x : ℕ) → a + 5 < b + 4 → a + (x + 4) < b + (x + 4)
falls_again a b x h = omega (arith, h)

pub falls_left : (r : Outcome Control) (a b m z w : ℕ) (xs ys : List Entry) (l : Loop) → TurnWaits l xs → ys ≡ take (length xs - 1) xs → charged m + w < charged b + 4 → IfOk r (λ c. charged a + (z + control_weight c) ≤ charged m + (stack_weight ys + w)) → IfOk r (λ c. charged a + (z + control_weight c) < charged b + (stack_weight xs + 4))
falls_left (Ok c) a b m z w xs ys l waits popped h i = let e = weighs xs ys l waits popped in omega (arith, e, h, i)
falls_left (Err x) a b m z w xs ys l waits popped h i = tt

-- a predicate that is refused
pub refused_left : (r : Outcome Control) (a b : ℕ) (xs ys : List Entry) (l : Loop) → TurnWaits l xs → ys ≡ take (length xs - 1) xs → a ≤ b → IfErr r (λ z. is_passable z ≡ true → charged a + (stack_weight ys + 1) < charged b + (stack_weight xs + 4))
refused_left (Ok c) a b xs ys l waits popped h = tt
refused_left (Err z) a b xs ys l waits popped h = λ _. let p = charged_less a b h in let q = weighs xs ys l waits popped in omega (arith, p, q)

pub ruleset turning = (goes_flow, turn_again, turn_done, turn_refused, falls_again, falls_left, refused_left, never_refused, never_memory)
