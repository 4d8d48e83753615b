-- Items of lists go the same way over two register spaces, where terms do: unless the left one is refused at module level by what the right
-- one passes over.
use Rattle.std.specs.Prelude.{◌≡◌, ◌&&◌, ℕ, List, Bool, true, false, Ok, Err, refl, if◌then◌else◌}
use Rattle.std.proofs.Common.{inl, inr, sym, subst, ap, ◌∙◌}
use Rattle.ar_space.specs.declared.refusal.Refusal.{Refusal}
use Rattle.ar_space.specs.Accesses.{Accesses}
use Rattle.ar_space.specs.Outcome.{Outcome}
use Rattle.aml_path.specs.declared.segment.Seg.{Seg}
use Rattle.aml_grammar.specs.Tree.{Tree}
use Rattle.aml_world.specs.declared.state.profile.Profile.TheVariants as profiles
use Rattle.aml_world.specs.declared.state.profile.Profile.{Profile}
use Rattle.aml_world.specs.declared.state.settings.Nesting.{Nesting}
use Rattle.aml_world.specs.state.State.{State}
use Rattle.aml_world.specs.state.Run.{Run}
use Rattle.aml_world.specs.state.PassedOver.{is_passable}
use Rattle.aml_world.specs.state.Profiles.{is_wide}
use Rattle.aml_world.specs.state.Noting.{with_passed}
use Rattle.aml_meaning.specs.declared.flow.Flow.{Flow}
use Rattle.aml_meaning.specs.declared.flow.Flow.TheVariants as flow
use Rattle.aml_meaning.specs.Passing.{item_done, passing}
use Rattle.aml_meaning.specs.Tasks.{Task, task, module_level, passes_over, item}
use Rattle.aml_laws.proofs.Together.{Sides, MayPass, Together, Comes, IsEnded, alike, choice_together, Raise}
use Rattle.aml_laws.proofs.Levels.{level}
use Rattle.aml_laws.proofs.WorldsTogether.{runs, world_over}

-- ---- an item that is done

module _ {S : Type 0} where
  refused_space : (b : Bool) (scope : List Seg) (e : Refusal) (s : State S × ℕ) → (if◌then◌else◌ {A = Outcome Flow × (State S × ℕ)} b (Ok flow.Next, (with_passed scope e s.0, s.1)) (Err e, s)).1.0.space ≡ s.0.space
  refused_space true scope e s = refl
  refused_space false scope e s = refl

  done_space : (scope : List Seg) (r : Outcome Flow) (s : State S × ℕ) → (item_done scope r s).1.0.space ≡ s.0.space
  unfolding item_done
  done_space scope (Ok f) s = refl
  done_space scope (Err e) s = refused_space (is_passable e) scope e s

  refused_profile : (b : Bool) (scope : List Seg) (e : Refusal) (s : State S × ℕ) → (if◌then◌else◌ {A = Outcome Flow × (State S × ℕ)} b (Ok flow.Next, (with_passed scope e s.0, s.1)) (Err e, s)).1.0.profile ≡ s.0.profile
  refused_profile true scope e s = refl
  refused_profile false scope e s = refl

  done_profile : (scope : List Seg) (r : Outcome Flow) (s : State S × ℕ) → (item_done scope r s).1.0.profile ≡ s.0.profile
  unfolding item_done
  done_profile scope (Ok f) s = refl
  done_profile scope (Err e) s = refused_profile (is_passable e) scope e s

module _ {S T : Type 0} where
  abbrev over : Raise → (ℕ → ℕ) → State S × ℕ → T → State T × ℕ
  over raise more s t = (world_over raise s.0 t, more s.1)

  refused_over : (raise : Raise) (more : ℕ → ℕ) (b : Bool) (scope : List Seg) (e : Refusal) (s : State S × ℕ) (t : T) → if◌then◌else◌ {A = Outcome Flow × (State T × ℕ)} b (Ok flow.Next, (with_passed scope e (world_over raise s.0 t), more s.1)) (Err e, over raise more s t)
      ≡ ((if◌then◌else◌ {A = Outcome Flow × (State S × ℕ)} b (Ok flow.Next, (with_passed scope e s.0, s.1)) (Err e, s)).0, over raise more (if◌then◌else◌ {A = Outcome Flow × (State S × ℕ)} b (Ok flow.Next, (with_passed scope e s.0, s.1)) (Err e, s)).1 t)
  refused_over raise more true scope e s t = refl
  refused_over raise more false scope e s t = refl

  done_over : (raise : Raise) (more : ℕ → ℕ) (scope : List Seg) (r : Outcome Flow) (s : State S × ℕ) (t : T) → item_done scope r (over raise more s t) ≡ ((item_done scope r s).0, over raise more (item_done scope r s).1 t)
  unfolding item_done
  done_over raise more scope (Ok f) s t = refl
  done_over raise more scope (Err e) s t = refused_over raise more (is_passable e) scope e s t

-- ---- both pass over alike

module _ {S T : Type 0} {accesses : Accesses S} {accesses2 : Accesses T} (side : Sides accesses accesses2) (unpassed : (e : Refusal) → is_passable e ≡ true → side.Ends e → ⊥) where
  refused_ended : (b : Bool) (scope : List Seg) (e : Refusal) (s : State S × ℕ) → is_passable e ≡ b → side.Ends e → IsEnded side.Ends (if◌then◌else◌ {A = Outcome Flow × (State S × ℕ)} b (Ok flow.Next, (with_passed scope e s.0, s.1)) (Err e, s)).0
  refused_ended true scope e s is h = absurd (unpassed e is h)
  refused_ended false scope e s is h = h

  done_ended : (scope : List Seg) (r : Outcome Flow) (s : State S × ℕ) → IsEnded side.Ends r → IsEnded side.Ends (item_done scope r s).0
  unfolding item_done
  done_ended scope (Ok f) s h = absurd h
  done_ended scope (Err e) s h = refused_ended (is_passable e) scope e s refl h

  done_comes : (scope : List Seg) (p : Outcome Flow × (State S × ℕ)) (q : Outcome Flow × (State T × ℕ)) → Comes side runs p q → Comes side runs (item_done scope p.0 p.1) (item_done scope q.0 q.1)
  done_comes scope p q (inl parted) = inl (subst (λ s. side.beside.Parted s (item_done scope q.0 q.1).1.0.space) (sym (done_space scope p.0 p.1)) (subst (λ t. side.beside.Parted p.1.0.space t) (sym (done_space scope q.0 q.1)) parted))
  done_comes scope p q (inr (inl ended)) = inr (inl (done_ended scope p.0 p.1 ended))
  done_comes scope p q (inr (inr (t, is, i))) =
      inr (inr (t, ap (λ (a : Outcome Flow × (State T × ℕ)). item_done scope a.0 a.1) is ∙ done_over side.raise side.more scope p.0 p.1 t, subst (λ s. side.beside.InStep s t) (sym (done_space scope p.0 p.1)) i))

  passing_together : (scope : List Seg) {m : Run S Flow} {n : Run T Flow} → Together side runs m n → Together side runs (passing scope m) (passing scope n)
  unfolding passing
  passing_together scope {m = m} {n = n} h = record {
    left_parted = λ s t p. subst (λ x. side.beside.Parted x t) (sym (done_space scope (m s).0 (m s).1)) (h.left_parted s t p);
    right_parted = λ s u p. subst (λ x. side.beside.Parted s x) (sym (done_space scope (n u).0 (n u).1)) (h.right_parted s u p);
    goes = λ s t i. done_comes scope (m s) (n (over side.raise side.more s t)) (h.goes s t i);
  }

  item_alike : (same : (p : Profile) → side.raise.0 p ≡ p) (ev : Task → Run S Flow) (ev2 : Task → Run T Flow) (scope : List Seg) (depth : ℕ) (t : Tree) → Together side runs (ev (task scope depth t)) (ev2 (task scope depth t)) → Together side runs (item ev scope depth t) (item ev2 scope depth t)
  unfolding item
  item_alike same ev ev2 scope depth t h = choice_together (λ s. passes_over depth s.0.profile) (λ s. passes_over depth s.0.profile) (λ s u. ap (passes_over depth) (same s.0.profile)) (passing_together scope h) h

-- ---- pointwise the same changes

module _ {S T : Type 0} {accesses : Accesses S} {accesses2 : Accesses T} {side : Sides accesses accesses2} where
  same_together : {m m2 : Run S Flow} {n n2 : Run T Flow} → ((s : State S × ℕ) → m2 s ≡ m s) → ((u : State T × ℕ) → n2 u ≡ n u) → Together side runs m n → Together side runs m2 n2
  same_together {m = m} {n2 = n2} a b h = record {
    left_parted = λ s t p. subst (λ x. side.beside.Parted x.1.0.space t) (sym (a s)) (h.left_parted s t p);
    right_parted = λ s u p. subst (λ x. side.beside.Parted s x.1.0.space) (sym (b u)) (h.right_parted s u p);
    goes = λ s t i. subst (λ x. Comes side runs x (n2 (over side.raise side.more s t))) (sym (a s)) (subst (λ y. Comes side runs (m s) y) (sym (b (over side.raise side.more s t))) (h.goes s t i));
  }

module _ {S : Type 0} (ev : Task → Run S Flow) (scope : List Seg) (depth : ℕ) (t : Tree) where
  plain_item : (s : State S × ℕ) → passes_over depth s.0.profile ≡ false → item ev scope depth t s ≡ ev (task scope depth t) s
  unfolding item
  plain_item s fails = ap (λ b. if b then passing scope (ev (task scope depth t)) s else ev (task scope depth t) s) fails

  passed_item : (s : State S × ℕ) → passes_over depth s.0.profile ≡ true → item ev scope depth t s ≡ passing scope (ev (task scope depth t)) s
  unfolding item
  passed_item s holds = ap (λ b. if b then passing scope (ev (task scope depth t)) s else ev (task scope depth t) s) holds

  -- an item leaves the space that its term left
  item_space_by : (b : Bool) (s : State S × ℕ) → (if b then passing scope (ev (task scope depth t)) s else ev (task scope depth t) s).1.0.space ≡ (ev (task scope depth t) s).1.0.space
  unfolding passing
  item_space_by true s = done_space scope (ev (task scope depth t) s).0 (ev (task scope depth t) s).1
  item_space_by false s = refl

  item_space : (s : State S × ℕ) → (item ev scope depth t s).1.0.space ≡ (ev (task scope depth t) s).1.0.space
  unfolding item
  item_space s = item_space_by (passes_over depth s.0.profile) s

never : (depth : ℕ) (p : Profile) → module_level depth ≡ false → passes_over depth p ≡ false
never depth p fails = ap (λ b. b && is_wide p) fails

-- ---- the right one is wide

module _ {S T : Type 0} {accesses : Accesses S} {accesses2 : Accesses T} (side : Sides accesses accesses2) (wide : (p : Profile) → side.raise.0 p ≡ profiles.Wide) (same_steps : ((n : ℕ) → side.more n ≡ n) × ((d : Nesting) → side.raise.1 d ≡ d)) (may : (e : Refusal) → is_passable e ≡ true → MayPass side.passes e)
    (ev : Task → Run S Flow) (ev2 : Task → Run T Flow) (scope : List Seg) (depth : ℕ) (t : Tree) (listed : module_level depth ≡ true) where
  refused_comes : (b : Bool) (e : Refusal) (s : State S × ℕ) (u : T) → is_passable e ≡ b → side.beside.InStep s.0.space u
      → Comes (level side depth) runs {A = Flow} (Err e, s) (if◌then◌else◌ {A = Outcome Flow × (State T × ℕ)} b (Ok flow.Next, (with_passed scope e (world_over side.raise s.0 u), side.more s.1)) (Err e, over side.raise side.more s u))
  refused_comes true e s u is i = inr (inl (inr (listed, may e is)))
  refused_comes false e s u is i = inr (inr (u, refl, i))

  right_done : (r : Outcome Flow) (s : State S × ℕ) (u : T) → side.beside.InStep s.0.space u → Comes (level side depth) runs (r, s) (item_done scope r (over side.raise side.more s u))
  unfolding item_done
  right_done (Ok f) s u i = inr (inr (u, refl, i))
  right_done (Err e) s u i = refused_comes (is_passable e) e s u refl i

  -- the left one passes nothing over
  right_comes : (p : Outcome Flow × (State S × ℕ)) (q : Outcome Flow × (State T × ℕ)) → Comes (level side depth) runs p q → Comes (level side depth) runs p (item_done scope q.0 q.1)
  right_comes p q (inl parted) = inl (subst (λ x. side.beside.Parted p.1.0.space x) (sym (done_space scope q.0 q.1)) parted)
  right_comes p q (inr (inl ended)) = inr (inl ended)
  right_comes p q (inr (inr (u, is, i))) = subst (λ (a : Outcome Flow × (State T × ℕ)). Comes (level side depth) runs p (item_done scope a.0 a.1)) (sym is) (right_done p.0 p.1 u i)

  wide_over : (s : State S × ℕ) (u : T) → s.0.profile ≡ profiles.Wide → over side.raise side.more s u ≡ over (λ p. p, λ d. d) (λ n. n) s u
  wide_over s u is =
      ap (λ n. (world_over side.raise s.0 u, n)) (same_steps.0 s.1)
      ∙ ap (λ d. (record { names = s.0.names; arities = s.0.arities; objects = s.0.objects; frames = s.0.frames; started = s.0.started; space = u; osi = s.0.osi; width = s.0.width; profile = side.raise.0 s.0.profile; nesting = d; passed = s.0.passed }, s.1)) (same_steps.1 s.0.nesting)
      ∙ ap (λ p. (record { names = s.0.names; arities = s.0.arities; objects = s.0.objects; frames = s.0.frames; started = s.0.started; space = u; osi = s.0.osi; width = s.0.width; profile = p; nesting = s.0.nesting; passed = s.0.passed }, s.1)) (wide s.0.profile ∙ sym is)

  -- both are wide
  both_comes : (p : Outcome Flow × (State S × ℕ)) (q : Outcome Flow × (State T × ℕ)) → p.1.0.profile ≡ profiles.Wide → Comes (alike side.beside) runs p q → Comes (level side depth) runs p q
  both_comes p q is (inl parted) = inl parted
  both_comes p q is (inr (inl ended)) = absurd (none p.0 ended)
    where
      none : (r : Outcome Flow) → IsEnded (λ e. ⊥) r → ⊥
      none (Ok f) h = h
      none (Err e) h = h
  both_comes p q is (inr (inr (u, same, i))) = inr (inr (u, same ∙ ap (λ x. (p.0, x)) (sym (wide_over p.1 u is)), i))

  passes_when : (p : Profile) → p ≡ profiles.Wide → passes_over depth p ≡ true
  passes_when p is = ap (λ b. b && is_wide p) listed ∙ ap is_wide is

  module _ (h : Together (level side depth) runs (ev (task scope depth t)) (ev2 (task scope depth t))) (g : Together (alike side.beside) runs (ev (task scope depth t)) (ev2 (task scope depth t)))
      (kept : (s : State S × ℕ) → (ev (task scope depth t) s).1.0.profile ≡ s.0.profile) where
    goes_by : (p : Profile) (s : State S × ℕ) (u : T) → s.0.profile ≡ p → side.beside.InStep s.0.space u → Comes (level side depth) runs (item ev scope depth t s) (item ev2 scope depth t (over side.raise side.more s u))
    unfolding passing
    goes_by profiles.Core s u is i =
        subst (λ x. Comes (level side depth) runs x (item ev2 scope depth t (over side.raise side.more s u))) (sym (plain_item ev scope depth t s (ap (passes_over depth) is ∙ ap (λ b. b && false) listed)))
        (subst (λ y. Comes (level side depth) runs (ev (task scope depth t) s) y) (sym (passed_item ev2 scope depth t (over side.raise side.more s u) (passes_when _ (wide s.0.profile))))
        (right_comes (ev (task scope depth t) s) (ev2 (task scope depth t) (over side.raise side.more s u)) (h.goes s u i)))
    goes_by profiles.Wide s u is i =
        let left = ev (task scope depth t) s in
        subst (λ x. Comes (level side depth) runs x (item ev2 scope depth t (over side.raise side.more s u))) (sym (passed_item ev scope depth t s (passes_when s.0.profile is)))
        (subst (λ y. Comes (level side depth) runs (passing scope (ev (task scope depth t)) s) y) (sym (passed_item ev2 scope depth t (over side.raise side.more s u) (passes_when _ (wide s.0.profile))))
        (subst (λ x. Comes (level side depth) runs (passing scope (ev (task scope depth t)) s) (passing scope (ev2 (task scope depth t)) x)) (sym (wide_over s u is))
        (both_comes (passing scope (ev (task scope depth t)) s) _ (done_profile scope left.0 left.1 ∙ (kept s ∙ is)) ((passing_together (alike side.beside) (λ e holds k. k) scope g).goes s u i))))

    listed_together : Together (level side depth) runs (item ev scope depth t) (item ev2 scope depth t)
    listed_together = record {
      left_parted = λ s u p. subst (λ x. side.beside.Parted x u) (sym (item_space ev scope depth t s)) (h.left_parted s u p);
      right_parted = λ s u p. subst (λ x. side.beside.Parted s x) (sym (item_space ev2 scope depth t u)) (h.right_parted s u p);
      goes = λ s u i. goes_by s.0.profile s u refl i;
    }

-- ---- items, by the profiles

module _ {S T : Type 0} {accesses : Accesses S} {accesses2 : Accesses T} (side : Sides accesses accesses2) (ev : Task → Run S Flow) (ev2 : Task → Run T Flow) (parts : (t : Task) → Together (level side t.depth) runs (ev t) (ev2 t)) where
  -- the same on both sides
  pub items_alike : (same : (p : Profile) → side.raise.0 p ≡ p) (unpassed : (e : Refusal) → is_passable e ≡ true → side.Ends e → ⊥) → side.passes ≡ inl (same, unpassed) → (scope : List Seg) (depth : ℕ) (t : Tree) → Together (level side depth) runs (item ev scope depth t) (item ev2 scope depth t)
  items_alike same unpassed is scope depth t =
      item_alike (level side depth) (λ e holds x. elim x [ inl k ↦ unpassed e holds k | inr k ↦ subst (λ p. MayPass p e) is k.1 ]) same ev ev2 scope depth t (parts (task scope depth t))

  -- wide on the right
  items_by : (b : Bool) (wide : (p : Profile) → side.raise.0 p ≡ profiles.Wide) (same_steps : ((n : ℕ) → side.more n ≡ n) × ((d : Nesting) → side.raise.1 d ≡ d)) → side.passes ≡ inr (wide, same_steps) → ((t : Task) → Together (alike side.beside) runs (ev t) (ev2 t)) → ((t : Task) (s : State S × ℕ) → (ev t s).1.0.profile ≡ s.0.profile)
      → (scope : List Seg) (depth : ℕ) (t : Tree) → module_level depth ≡ b → Together (level side depth) runs (item ev scope depth t) (item ev2 scope depth t)
  items_by true wide same_steps is g kept scope depth t listed =
      listed_together side wide same_steps (λ e holds. subst (λ p. MayPass p e) (sym is) holds) ev ev2 scope depth t listed (parts (task scope depth t)) (g (task scope depth t)) (kept (task scope depth t))
  items_by false wide same_steps is g kept scope depth t fails = same_together (λ s. plain_item ev scope depth t s (never depth s.0.profile fails)) (λ u. plain_item ev2 scope depth t u (never depth u.0.profile fails)) (parts (task scope depth t))

  pub items_widened : (wide : (p : Profile) → side.raise.0 p ≡ profiles.Wide) (same_steps : ((n : ℕ) → side.more n ≡ n) × ((d : Nesting) → side.raise.1 d ≡ d)) → side.passes ≡ inr (wide, same_steps) → ((t : Task) → Together (alike side.beside) runs (ev t) (ev2 t)) → ((t : Task) (s : State S × ℕ) → (ev t s).1.0.profile ≡ s.0.profile)
      → (scope : List Seg) (depth : ℕ) (t : Tree) → Together (level side depth) runs (item ev scope depth t) (item ev2 scope depth t)
  items_widened wide same_steps is g kept scope depth t = items_by (module_level depth) wide same_steps is g kept scope depth t refl
