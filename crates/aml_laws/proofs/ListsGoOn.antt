-- How lists of terms go on behind items that are refused.
use Rattle.std.specs.Prelude.{◌≡◌, ◌<◌, ◌==◌, ◌&&◌, ℕ, List, Bool, true, false, Ok, Err, refl, if◌then◌else◌}
use Rattle.std.proofs.Common.{arith, ap, sym, subst, ◌∙◌}
use Rattle.std.proofs.lemmas.Bool.Decides.{nat_tests}
use Rattle.ar_space.specs.declared.refusal.Refusal.{Refusal}
use Rattle.ar_space.specs.Accesses.{Accesses}
use Rattle.ar_space.specs.Change.{give, go_on, ◌>>=◌}
use Rattle.ar_space.specs.Outcome.{Outcome}
use Rattle.aml_path.specs.declared.segment.Seg.{Seg}
use Rattle.aml_grammar.specs.Tree.{Tree, Trees, no_trees, tree}
use Rattle.aml_objects.specs.declared.value.Value.{Value}
use Rattle.aml_world.specs.declared.state.profile.Profile.{Profile}
use Rattle.aml_world.specs.declared.state.profile.Profile.TheVariants as profiles
use Rattle.aml_world.specs.state.PassedOver.{is_passable}
use Rattle.aml_world.specs.state.Noting.{with_passed}
use Rattle.aml_world.specs.state.Run.{Run}
use Rattle.aml_world.specs.state.State.{State}
use Rattle.aml_meaning.specs.declared.flow.Flow.{Flow}
use Rattle.aml_meaning.specs.declared.flow.Flow.TheVariants as flow
use Rattle.aml_meaning.specs.Meaning.{meaning}
use Rattle.aml_meaning.specs.Passing.{item_done, passing}
use Rattle.aml_meaning.specs.Tasks.{task, module_level, passes_over, goes_on, item, in_turn}
use Rattle.aml_laws.proofs.ProfileKept.{profile_relation}
use Rattle.aml_laws.proofs.RulesPreserve.{meaning_preserves}

module _ {S : Type 0} where
  -- what a refused item leaves, by whether it is passed over
  abbrev pub refused_done : Bool → List Seg → Refusal → State S × ℕ → Outcome Flow × (State S × ℕ)
  refused_done b scope e s = if b then (Ok flow.Next, (with_passed scope e s.0, s.1)) else (Err e, s)

  pub done_by : (b : Bool) (scope : List Seg) (e : Refusal) (s : State S × ℕ) → is_passable e ≡ b → item_done scope (Err e) s ≡ refused_done b scope e s
  unfolding item_done
  done_by b scope e s is = ap (λ x. refused_done x scope e s) is

module _ {S : Type 0} (accesses : Accesses S) (scope : List Seg) (depth : ℕ) where
  abbrev pub rest_of : Trees → Flow → Run S Flow
  rest_of ts f = if goes_on f then in_turn (meaning accesses) scope depth ts else give f

  -- an item of a list, where it may be passed over, and where it may not
  pub item_passed : (t : Tree) (s : State S × ℕ) → passes_over depth s.0.profile ≡ true → item (meaning accesses) scope depth t s ≡ item_done scope (meaning accesses (task scope depth t) s).0 (meaning accesses (task scope depth t) s).1
  unfolding item passing
  item_passed t s may = ap (λ b. if b then passing scope (meaning accesses (task scope depth t)) s else meaning accesses (task scope depth t) s) may

  pub item_plain : (t : Tree) (s : State S × ℕ) → passes_over depth s.0.profile ≡ false → item (meaning accesses) scope depth t s ≡ meaning accesses (task scope depth t) s
  unfolding item
  item_plain t s may = ap (λ b. if b then passing scope (meaning accesses (task scope depth t)) s else meaning accesses (task scope depth t) s) may

  -- a list is its first item, and then the others
  pub first_then : (t : Tree) (ts : Trees) (s : State S × ℕ) (r : Outcome Flow) (after : State S × ℕ) → item (meaning accesses) scope depth t s ≡ (r, after) → in_turn (meaning accesses) scope depth (tree t ts) s ≡ go_on r after (rest_of ts)
  unfolding in_turn ◌>>=◌
  first_then t ts s r after is = ap (λ (a : Outcome Flow × (State S × ℕ)). go_on a.0 a.1 (rest_of ts)) is

  -- ---- an item that isn't refused

  item_done_by : (b : Bool) (t : Tree) (s after : State S × ℕ) (f : Flow) → passes_over depth s.0.profile ≡ b → meaning accesses (task scope depth t) s ≡ (Ok f, after) → item (meaning accesses) scope depth t s ≡ (Ok f, after)
  unfolding item_done
  item_done_by false t s after f may is = item_plain t s may ∙ is
  item_done_by true t s after f may is = item_passed t s may ∙ ap (λ (a : Outcome Flow × (State S × ℕ)). item_done scope a.0 a.1) is

  done_then : (t : Tree) (ts : Trees) (s after : State S × ℕ) (f : Flow) → meaning accesses (task scope depth t) s ≡ (Ok f, after) → in_turn (meaning accesses) scope depth (tree t ts) s ≡ rest_of ts f after
  unfolding go_on
  done_then t ts s after f is = first_then t ts s (Ok f) after (item_done_by (passes_over depth s.0.profile) t s after f refl is)

  pub behind_nothing : (t : Tree) (ts : Trees) (s after : State S × ℕ) → meaning accesses (task scope depth t) s ≡ (Ok flow.Next, after) → in_turn (meaning accesses) scope depth (tree t ts) s ≡ in_turn (meaning accesses) scope depth ts after
  behind_nothing t ts s after is = done_then t ts s after flow.Next is

  pub behind_a_value : (t : Tree) (ts : Trees) (s after : State S × ℕ) (v : Value) → meaning accesses (task scope depth t) s ≡ (Ok (flow.Value v), after) → in_turn (meaning accesses) scope depth (tree t ts) s ≡ in_turn (meaning accesses) scope depth ts after
  behind_a_value t ts s after v is = done_then t ts s after (flow.Value v) is

  pub ends_at_a_return : (t : Tree) (ts : Trees) (s after : State S × ℕ) (v : Value) → meaning accesses (task scope depth t) s ≡ (Ok (flow.Return v), after) → in_turn (meaning accesses) scope depth (tree t ts) s ≡ (Ok (flow.Return v), after)
  unfolding give
  ends_at_a_return t ts s after v is = done_then t ts s after (flow.Return v) is

  pub ends_at_a_break : (t : Tree) (ts : Trees) (s after : State S × ℕ) → meaning accesses (task scope depth t) s ≡ (Ok flow.Break, after) → in_turn (meaning accesses) scope depth (tree t ts) s ≡ (Ok flow.Break, after)
  unfolding give
  ends_at_a_break t ts s after is = done_then t ts s after flow.Break is

  pub ends_at_a_continue : (t : Tree) (ts : Trees) (s after : State S × ℕ) → meaning accesses (task scope depth t) s ≡ (Ok flow.Continue, after) → in_turn (meaning accesses) scope depth (tree t ts) s ≡ (Ok flow.Continue, after)
  unfolding give
  ends_at_a_continue t ts s after is = done_then t ts s after flow.Continue is

  pub comes_to_its_end : (s : State S × ℕ) → in_turn (meaning accesses) scope depth no_trees s ≡ (Ok flow.Next, s)
  unfolding in_turn give
  comes_to_its_end s = refl

  -- ---- an item that is refused

  pub refused_list : (t : Tree) (ts : Trees) (s after : State S × ℕ) (e : Refusal) → passes_over depth s.0.profile ≡ false → meaning accesses (task scope depth t) s ≡ (Err e, after) → in_turn (meaning accesses) scope depth (tree t ts) s ≡ (Err e, after)
  unfolding go_on
  refused_list t ts s after e may is = first_then t ts s (Err e) after (item_plain t s may ∙ is)

  ended_by : (b : Bool) (t : Tree) (ts : Trees) (s after : State S × ℕ) (e : Refusal) → passes_over depth s.0.profile ≡ b → is_passable e ≡ false → meaning accesses (task scope depth t) s ≡ (Err e, after) → in_turn (meaning accesses) scope depth (tree t ts) s ≡ (Err e, after)
  unfolding go_on
  ended_by false t ts s after e may fails is = refused_list t ts s after e may is
  ended_by true t ts s after e may fails is =
      first_then t ts s (Err e) after (item_passed t s may ∙ ap (λ (a : Outcome Flow × (State S × ℕ)). item_done scope a.0 a.1) is ∙ done_by false scope e after fails)

  pub ended_list : (t : Tree) (ts : Trees) (s after : State S × ℕ) (e : Refusal) → is_passable e ≡ false → meaning accesses (task scope depth t) s ≡ (Err e, after) → in_turn (meaning accesses) scope depth (tree t ts) s ≡ (Err e, after)
  ended_list t ts s after e fails is = ended_by (passes_over depth s.0.profile) t ts s after e refl fails is

none_in_core : (depth : ℕ) → passes_over depth profiles.Core ≡ false
none_in_core depth = by (module_level depth)
  where
    by : (b : Bool) → (b && false) ≡ false
    by true = refl
    by false = refl

none_in_body : (depth : ℕ) (p : Profile) → 0 < depth → passes_over depth p ≡ false
none_in_body depth p some = let inside : (depth == 0) ≡ false = grind (arith, nat_tests) in rw inside refl

pub refused_in_core : {S : Type 0} (accesses : Accesses S) (scope : List Seg) (depth : ℕ) (t : Tree) (ts : Trees) (s after : State S × ℕ) (e : Refusal) → s.0.profile ≡ profiles.Core → meaning accesses (task scope depth t) s ≡ (Err e, after)
    → in_turn (meaning accesses) scope depth (tree t ts) s ≡ (Err e, after)
refused_in_core accesses scope depth t ts s after e core is = refused_list accesses scope depth t ts s after e (ap (passes_over depth) core ∙ none_in_core depth) is

pub refused_in_body : {S : Type 0} (accesses : Accesses S) (scope : List Seg) (depth : ℕ) (t : Tree) (ts : Trees) (s after : State S × ℕ) (e : Refusal) → 0 < depth → meaning accesses (task scope depth t) s ≡ (Err e, after)
    → in_turn (meaning accesses) scope depth (tree t ts) s ≡ (Err e, after)
refused_in_body accesses scope depth t ts s after e some is = refused_list accesses scope depth t ts s after e (none_in_body depth s.0.profile some) is

wide_passes : {S : Type 0} (s : State S × ℕ) → s.0.profile ≡ profiles.Wide → passes_over 0 s.0.profile ≡ true
wide_passes s wide = ap (passes_over 0) wide

pub passed_list : {S : Type 0} (accesses : Accesses S) (scope : List Seg) (t : Tree) (ts : Trees) (s after : State S × ℕ) (e : Refusal) → s.0.profile ≡ profiles.Wide → is_passable e ≡ true → meaning accesses (task scope 0 t) s ≡ (Err e, after)
    → in_turn (meaning accesses) scope 0 (tree t ts) s ≡ in_turn (meaning accesses) scope 0 ts (with_passed scope e after.0, after.1)
unfolding go_on
passed_list {S = S} accesses scope t ts s after e wide holds is =
    first_then accesses scope 0 t ts s (Ok flow.Next) (with_passed scope e after.0, after.1)
    (item_passed accesses scope 0 t s (wide_passes s wide) ∙ ap (λ (a : Outcome Flow × (State S × ℕ)). item_done scope a.0 a.1) is ∙ done_by true scope e after holds)

-- ---- no list at module level is refused by what is passed over

abbrev RefusedForGood : {S A : Type 0} → Outcome A × (State S × ℕ) → Type 0
RefusedForGood a = (e : Refusal) → a.0 ≡ Err e → is_passable e ≡ false

abbrev EndsForGood : {S A : Type 0} → Run S A → Type 0
EndsForGood {S} m = (s : State S × ℕ) → s.0.profile ≡ profiles.Wide → RefusedForGood (m s)

module _ {S : Type 0} (accesses : Accesses S) (scope : List Seg) where
  rest_for_good : (ts : Trees) → EndsForGood (in_turn (meaning accesses) scope 0 ts) → (f : Flow) → EndsForGood (rest_of accesses scope 0 ts f)
  unfolding give
  rest_for_good ts h (flow.Value v) = h
  rest_for_good ts h flow.Next = h
  rest_for_good ts h flow.Break = λ s wide e is. absurd (cc is)
  rest_for_good ts h flow.Continue = λ s wide e is. absurd (cc is)
  rest_for_good ts h (flow.Return v) = λ s wide e is. absurd (cc is)

  refused_for_good : (b : Bool) (ts : Trees) → EndsForGood (in_turn (meaning accesses) scope 0 ts) → (x : Refusal) (s : State S × ℕ) → s.0.profile ≡ profiles.Wide → is_passable x ≡ b
      → RefusedForGood (go_on (refused_done b scope x s).0 (refused_done b scope x s).1 (rest_of accesses scope 0 ts))
  unfolding go_on
  refused_for_good true ts h x s wide is = h (with_passed scope x s.0, s.1) wide
  refused_for_good false ts h x s wide is = λ e same. let known : x ≡ e = cc same in ap is_passable (sym known) ∙ is

  done_for_good : (ts : Trees) → EndsForGood (in_turn (meaning accesses) scope 0 ts) → (r : Outcome Flow) (s : State S × ℕ) → s.0.profile ≡ profiles.Wide
      → RefusedForGood (go_on (item_done scope r s).0 (item_done scope r s).1 (rest_of accesses scope 0 ts))
  unfolding item_done go_on
  done_for_good ts h (Ok f) s wide = rest_for_good ts h f s wide
  done_for_good ts h (Err x) s wide = refused_for_good (is_passable x) ts h x s wide refl

  no_items_end_for_good : EndsForGood (in_turn (meaning accesses) scope 0 no_trees)
  unfolding in_turn give
  no_items_end_for_good s wide e is = absurd (cc is)

  pub list_ends_for_good : (ts : Trees) (s : State S × ℕ) → s.0.profile ≡ profiles.Wide → (e : Refusal) → (in_turn (meaning accesses) scope 0 ts s).0 ≡ Err e → is_passable e ≡ false
  list_ends_for_good no_trees s wide = no_items_end_for_good s wide
  list_ends_for_good (tree t ts) s wide =
      let done = item_done scope (meaning accesses (task scope 0 t) s).0 (meaning accesses (task scope 0 t) s).1 in
      let kept = (meaning_preserves {relation = profile_relation accesses} (task scope 0 t)).preserves s in
      subst RefusedForGood (sym (first_then accesses scope 0 t ts s done.0 done.1 (item_passed accesses scope 0 t s (wide_passes s wide))))
      (done_for_good ts (list_ends_for_good ts) (meaning accesses (task scope 0 t) s).0 (meaning accesses (task scope 0 t) s).1 (kept ∙ wide))
