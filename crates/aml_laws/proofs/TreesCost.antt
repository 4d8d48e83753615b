-- Each tree that begins costs a step: a term, RefOf and DerefOf where they name a target, and a name in a package.
use Rattle.std.specs.Prelude.{◌≡◌, ℕ, zero, suc, List, Some, Ok, Err, refl}
use Rattle.std.proofs.Common.{arith, ◌∙◌}
use Rattle.ar_space.specs.Accesses.{Accesses}
use Rattle.ar_space.specs.Outcome.{Outcome}
use Rattle.ar_space.specs.Change.{give, stop, settle, go_on, ◌>>=◌}
use Rattle.aml_path.specs.declared.segment.Seg.{Seg}
use Rattle.aml_path.specs.Paths.{Name}
use Rattle.aml_grammar.specs.declared.opcode.TermCode.{TermCode}
use Rattle.aml_grammar.specs.Tree.{Tree, term, Part, null, name, number, bytes, inner, list, Parts, no_parts, part}
use Rattle.aml_grammar.specs.Apart.{operand_of, name_of}
use Rattle.aml_objects.specs.declared.object.Element.TheVariants as element
use Rattle.aml_objects.specs.declared.value.Slot.{Slot}
use Rattle.aml_objects.specs.declared.value.Value.{Value}
use Rattle.aml_world.specs.declared.values.store_target.StoreTarget.{StoreTarget}
use Rattle.aml_world.specs.declared.values.store_target.StoreTarget.TheVariants as targets
use Rattle.aml_world.specs.state.State.{State}
use Rattle.aml_world.specs.state.Run.{Run, lift, charge}
use Rattle.aml_world.specs.values.StoreTargets.{tested, target_named, reference_in}
use Rattle.aml_meaning.specs.declared.flow.Flow.{Flow}
use Rattle.aml_meaning.specs.declared.term_kind.TargetKind.{TargetKind}
use Rattle.aml_meaning.specs.declared.term_kind.TargetKind.TheVariants as kinds
use Rattle.aml_meaning.specs.Tasks.{Task, task, operand_value, value_at, value_in}
use Rattle.aml_meaning.specs.Terms.{target_kind}
use Rattle.aml_meaning.specs.TargetTerms.{name_target, indexed_target, dereferenced_target, target_by_kind, target_of, first_target, part_target, target_at}
use Rattle.aml_meaning.specs.DataTerms.{named_element}
use Rattle.aml_meaning.specs.Evaluation.{rule}
use Rattle.aml_meaning.specs.Meaning.{meaning}
use Rattle.aml_meaning.proofs.Agree.{Agree, agree_give, agree_stop, agree_settle, agree_lift, agree_charge, agree_bind}
use Rattle.aml_meaning.proofs.Meanings.{meaning_is, meaning_less, meaning_charged}
use Rattle.aml_laws.specs.CostsOfTrees.{CostsOneStep, CostsNothing, operand_referred, element_named}
use Rattle.aml_laws.proofs.Charges.{charge_none, charge_one}

-- a step, and then what leaves no more than it got
step_first : {S A : Type 0} (k : Run S A) → ((n : ℕ) → Agree {S = S} n k k) → CostsOneStep (charge >>= (λ step. k)) k
unfolding ◌>>=◌ go_on
step_first k falls = record {
  refused = λ w. rw (charge_none w) refl;
  paid = λ w steps. rw (charge_one w steps) refl;
  less = λ w steps. rw (charge_one w steps) ((falls steps).less (w, steps) (omega arith));
}

named_by : {S : Type 0} (r : Outcome Name) (w : State S) (steps : ℕ) (scope : List Seg) → (go_on {S = State S × ℕ} r (w, steps) (λ n. give (element.Name n scope))).1.1 ≡ steps
unfolding go_on give
named_by (Ok n) w steps scope = refl
named_by (Err e) w steps scope = refl

target_by_name : {S : Type 0} (r : Outcome Name) (w : State S) (steps : ℕ) (scope : List Seg) → (go_on {S = State S × ℕ} r (w, steps) (λ n. lift (target_named scope n))).1.1 ≡ steps
unfolding go_on lift
target_by_name (Ok n) w steps scope = refl
target_by_name (Err e) w steps scope = refl

module _ {S : Type 0} (accesses : Accesses S) where
  abbrev ev : Task → Run S Flow
  ev = meaning accesses

  term_falls : (n : ℕ) (t : Task) → Agree {S = S} n (ev t) (ev t)
  term_falls n t = record { same = λ s h. refl; less = λ s h. meaning_less accesses t s }

  value_falls : (n : ℕ) (scope : List Seg) (depth : ℕ) (t : Tree) → Agree {S = S} n (operand_value ev scope depth t) (operand_value ev scope depth t)
  unfolding operand_value
  value_falls n scope depth t = agree_bind _ _ _ _ (term_falls n _) (λ f. agree_settle _)

  value_at_falls : (n : ℕ) (scope : List Seg) (depth : ℕ) (t : Tree) (i : ℕ) → Agree {S = S} n (value_at ev scope depth t i) (value_at ev scope depth t i)
  unfolding value_at
  value_at_falls n scope depth t i = agree_bind _ _ _ _ (agree_settle _) (λ x. value_falls n scope depth x)

  -- ---- targets

  dereferenced_begins : (scope : List Seg) (depth : ℕ) (t : Tree) → CostsOneStep (dereferenced_target ev scope depth t) (operand_referred ev scope depth t)
  unfolding dereferenced_target
  dereferenced_begins scope depth t = step_first _ (λ n. agree_bind _ _ _ _ (value_at_falls n scope depth t 0) (λ v. agree_bind _ _ _ _ (agree_settle _) (λ r. agree_bind _ _ _ _ (agree_lift _) (λ there. agree_give _))))

  dereferenced_falls : (n : ℕ) (scope : List Seg) (depth : ℕ) (t : Tree) → Agree {S = S} n (dereferenced_target ev scope depth t) (dereferenced_target ev scope depth t)
  unfolding dereferenced_target
  dereferenced_falls n scope depth t = agree_bind _ _ _ _ agree_charge (λ step. agree_bind _ _ _ _ (value_at_falls n scope depth t 0) (λ v. agree_bind _ _ _ _ (agree_settle _) (λ r. agree_bind _ _ _ _ (agree_lift _) (λ there. agree_give _))))

  indexed_falls : (n : ℕ) (scope : List Seg) (depth : ℕ) (t : Tree) → Agree {S = S} n (indexed_target ev scope depth t) (indexed_target ev scope depth t)
  unfolding indexed_target
  indexed_falls n scope depth t = agree_bind _ _ _ _ (value_falls n scope depth t) (λ v. agree_bind _ _ _ _ (agree_settle _) (λ r. agree_give _))

  by_kind_falls : (n : ℕ) (scope : List Seg) (depth : ℕ) (t : Tree) (m : Run S StoreTarget) (kind : TargetKind) → Agree n m m → Agree n (target_by_kind ev scope depth t m kind) (target_by_kind ev scope depth t m kind)
  by_kind_falls n scope depth t m kinds.Nowhere h = agree_give _
  by_kind_falls n scope depth t m (kinds.Slot slot) h = agree_give _
  by_kind_falls n scope depth t m kinds.RefOf h = agree_bind _ _ _ _ agree_charge (λ step. h)
  by_kind_falls n scope depth t m kinds.DerefOf h = dereferenced_falls n scope depth t
  by_kind_falls n scope depth t m kinds.Index h = indexed_falls n scope depth t
  by_kind_falls n scope depth t m kinds.Other h = agree_stop _

  mutual
    unfolding target_of

    target_falls : (n : ℕ) (scope : List Seg) (depth : ℕ) (t : Tree) → Agree {S = S} n (target_of ev scope depth t) (target_of ev scope depth t)
    target_falls n scope depth (term c ps) = by_kind_falls n scope depth (term c ps) _ (target_kind c) (first_falls n scope depth ps)

    first_falls : (n : ℕ) (scope : List Seg) (depth : ℕ) (ps : Parts) → Agree {S = S} n (first_target ev scope depth ps) (first_target ev scope depth ps)
    first_falls n scope depth no_parts = agree_stop _
    first_falls n scope depth (part p ps) = part_falls n scope depth p

    part_falls : (n : ℕ) (scope : List Seg) (depth : ℕ) (p : Part) → Agree {S = S} n (part_target ev scope depth p) (part_target ev scope depth p)
    part_falls n scope depth null = agree_give _
    part_falls n scope depth (name x) = agree_lift _
    part_falls n scope depth (number k) = agree_stop _
    part_falls n scope depth (bytes bs) = agree_stop _
    part_falls n scope depth (inner u) = target_falls n scope depth u
    part_falls n scope depth (list ts) = agree_stop _

  pub reference_begins : (scope : List Seg) (depth : ℕ) (c : TermCode) (ps : Parts) → target_kind c ≡ kinds.RefOf → CostsOneStep (target_of ev scope depth (term c ps)) (first_target ev scope depth ps)
  unfolding target_of
  reference_begins scope depth c ps is = rw is (step_first _ (λ n. first_falls n scope depth ps))

  pub dereference_begins : (scope : List Seg) (depth : ℕ) (c : TermCode) (ps : Parts) → target_kind c ≡ kinds.DerefOf → CostsOneStep (target_of ev scope depth (term c ps)) (operand_referred ev scope depth (term c ps))
  unfolding target_of
  dereference_begins scope depth c ps is = rw is (dereferenced_begins scope depth (term c ps))

  -- ---- names in packages, elements that are handed out, and terms

  pub named_element_begins : (scope : List Seg) (t : Tree) → CostsOneStep (named_element ev scope t) (element_named scope t)
  unfolding named_element
  named_element_begins scope t = step_first _ (λ n. agree_bind _ _ _ _ (agree_settle _) (λ x. agree_give _))

  pub named_element_stays : (scope : List Seg) (t : Tree) → CostsNothing {S = S} (element_named scope t)
  unfolding settle give ◌>>=◌
  named_element_stays scope t w steps = named_by (name_of (operand_of t 0)) w steps scope

  pub term_begins : (t : Task) → CostsOneStep (meaning accesses t) (rule accesses ev t)
  unfolding ◌>>=◌ go_on
  term_begins t = record {
    refused = λ w. meaning_is accesses t (w, zero) ∙ rw (charge_none w) refl;
    paid = λ w steps. meaning_is accesses t (w, suc steps) ∙ rw (charge_one w steps) refl;
    less = λ w steps. let l = meaning_charged accesses t (w, suc steps) (omega arith) in omega arith;
  }

  -- ---- operands that cost nothing

  pub slot_costs_nothing : (scope : List Seg) (depth : ℕ) (c : TermCode) (ps : Parts) (slot : Slot) (s : State S × ℕ) → target_kind c ≡ kinds.Slot slot → target_of ev scope depth (term c ps) s ≡ (Ok (targets.Slot slot), s)
  unfolding target_of give
  slot_costs_nothing scope depth c ps slot s is = rw is refl

  pub debug_costs_nothing : (scope : List Seg) (depth : ℕ) (c : TermCode) (ps : Parts) (s : State S × ℕ) → target_kind c ≡ kinds.Nowhere → target_of ev scope depth (term c ps) s ≡ (Ok targets.Nowhere, s)
  unfolding target_of give
  debug_costs_nothing scope depth c ps s is = rw is refl

  pub null_costs_nothing : (scope : List Seg) (depth : ℕ) (t : Tree) (i : ℕ) (s : State S × ℕ) → operand_of t i ≡ Some null → target_at ev scope depth t i s ≡ (Ok targets.Nowhere, s)
  unfolding give
  null_costs_nothing scope depth t i s is = rw is refl

  pub name_costs_nothing : (scope : List Seg) (depth : ℕ) (t : Tree) (i : ℕ) (n : Name) → operand_of t i ≡ Some (name n) → CostsNothing {S = S} (target_at ev scope depth t i)
  unfolding name_target settle ◌>>=◌
  name_costs_nothing scope depth t i n is w steps = rw is (target_by_name (name_of (operand_of t i)) w steps scope)

  pub referred_name_costs_nothing : (scope : List Seg) (depth : ℕ) (n : Name) (ps : Parts) → CostsNothing {S = S} (first_target ev scope depth (part (name n) ps))
  unfolding lift first_target
  referred_name_costs_nothing scope depth n ps w steps = refl

  pub referred_null_costs_nothing : (scope : List Seg) (depth : ℕ) (ps : Parts) → CostsNothing {S = S} (first_target ev scope depth (part null ps))
  unfolding give first_target
  referred_null_costs_nothing scope depth ps w steps = refl

  pub no_target_costs_nothing : (scope : List Seg) (depth : ℕ) (c : TermCode) (ps : Parts) → target_kind c ≡ kinds.Other → CostsNothing {S = S} (target_of ev scope depth (term c ps))
  unfolding target_of stop
  no_target_costs_nothing scope depth c ps is w steps = rw is refl

  -- ---- targets that take the steps of terms

  abbrev TakesNothing : {A : Type 0} → Run S A → Type 0
  TakesNothing m = (s : State S × ℕ) → (m s).1.1 ≡ s.1

  go_on_takes : {A B : Type 0} (r : Outcome A) (s : State S × ℕ) (k : A → Run S B) → ((a : A) → TakesNothing (k a)) → (go_on r s k).1.1 ≡ s.1
  unfolding go_on
  go_on_takes (Ok a) s k h = h a s
  go_on_takes (Err e) s k h = refl

  then_takes : {A B : Type 0} (m : Run S A) (k : A → Run S B) → ((a : A) → TakesNothing (k a)) → (s : State S × ℕ) → ((m >>= k) s).1.1 ≡ (m s).1.1
  unfolding ◌>>=◌
  then_takes m k h s = go_on_takes (m s).0 (m s).1 k h

  settle_takes : {A : Type 0} (x : Outcome A) → TakesNothing (settle x)
  unfolding settle
  settle_takes x s = refl

  referred_takes : (v : Value) → TakesNothing (settle (reference_in v) >>= (λ r. give (targets.Refers r)))
  unfolding give
  referred_takes v s = then_takes (settle (reference_in v)) _ (λ r t. refl) s ∙ settle_takes (reference_in v) s

  tested_takes : (v : Value) → TakesNothing (settle (reference_in v) >>= (λ r. lift (tested r) >>= (λ there. give (targets.Refers r))))
  unfolding give lift
  tested_takes v s = then_takes (settle (reference_in v)) _ (λ r t. then_takes (lift (tested r)) _ (λ there u. refl) t) s ∙ settle_takes (reference_in v) s

  value_takes : (scope : List Seg) (depth : ℕ) (t : Tree) (s : State S × ℕ) → (operand_value ev scope depth t s).1.1 ≡ (ev (task scope depth t) s).1.1
  unfolding operand_value
  value_takes scope depth t s = then_takes (ev (task scope depth t)) _ (λ f u. settle_takes (value_in f) u) s

  pub index_takes : (scope : List Seg) (depth : ℕ) (c : TermCode) (ps : Parts) (s : State S × ℕ) → target_kind c ≡ kinds.Index → (target_of ev scope depth (term c ps) s).1.1 ≡ (ev (task scope depth (term c ps)) s).1.1
  unfolding target_of indexed_target
  index_takes scope depth c ps s is = rw is (then_takes (operand_value ev scope depth (term c ps)) _ referred_takes s ∙ value_takes scope depth (term c ps) s)

  value_at_takes : (scope : List Seg) (depth : ℕ) (t u : Tree) (s : State S × ℕ) → operand_of t 0 ≡ Some (inner u) → (value_at ev scope depth t 0 s).1.1 ≡ (ev (task scope depth u) s).1.1
  unfolding value_at settle ◌>>=◌ go_on
  value_at_takes scope depth t u s is = rw is (value_takes scope depth u s)

  pub dereferenced_takes : (scope : List Seg) (depth : ℕ) (t u : Tree) (s : State S × ℕ) → operand_of t 0 ≡ Some (inner u) → (operand_referred ev scope depth t s).1.1 ≡ (ev (task scope depth u) s).1.1
  dereferenced_takes scope depth t u s is = then_takes (value_at ev scope depth t 0) _ tested_takes s ∙ value_at_takes scope depth t u s is

  pub referred_is : (scope : List Seg) (depth : ℕ) (u : Tree) (ps : Parts) (s : State S × ℕ) → first_target ev scope depth (part (inner u) ps) s ≡ target_of ev scope depth u s
  unfolding target_of first_target
  referred_is scope depth u ps s = refl

  pub operand_is : (scope : List Seg) (depth : ℕ) (t u : Tree) (i : ℕ) (s : State S × ℕ) → operand_of t i ≡ Some (inner u) → target_at ev scope depth t i s ≡ target_of ev scope depth u s
  operand_is scope depth t u i s is = rw is refl

pub ruleset each_tree_costs_a_step = (term_begins, reference_begins, dereference_begins, named_element_begins, named_element_stays)

pub ruleset plain_targets_cost_nothing = (slot_costs_nothing, debug_costs_nothing, null_costs_nothing, name_costs_nothing, referred_name_costs_nothing, referred_null_costs_nothing, no_target_costs_nothing)

pub ruleset a_target_takes_the_steps_of_its_terms = (index_takes, dereferenced_takes, referred_is, operand_is)
