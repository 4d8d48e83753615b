-- A term that declares a name outside of control methods, and is evaluated, leaves the name where its operand says.
use Rattle.std.specs.Prelude.{◌≡◌, ◌<◌, ℕ, ◌+◌, ◌-◌, ◌==◌, ◌^◌, List, Bool, true, false, Option, Some, Ok, Err, refl, is_some, cond, if◌then◌else◌}
use Rattle.std.proofs.Common.{arith, inl, inr, ap, sym, ◌∙◌, subst}
use Rattle.std.proofs.lemmas.Cmp.{eq_by_cmp_equiv}
use Rattle.std.specs.FinMap.{get, get-insert, insert, contains_key}
use Rattle.ar_space.specs.declared.refusal.Refusal.{Refusal}
use Rattle.ar_space.specs.declared.refusal.Refusal.TheVariants as refusal
use Rattle.ar_space.specs.declared.refusal.EvaluationFault.TheVariants.{ObjectLimit}
use Rattle.ar_space.specs.declared.refusal.NamespaceFault.TheVariants.{Exists, NotFound}
use Rattle.ar_space.specs.Accesses.{Accesses}
use Rattle.ar_space.specs.Outcome.{Outcome}
use Rattle.ar_space.specs.Change.{Change, give, settle, go_on, ◌>>=◌, ◌>>◌}
use Rattle.aml_path.specs.declared.segment.Seg.{Seg}
use Rattle.aml_path.specs.Paths.{Name, resolved}
use Rattle.aml_grammar.specs.declared.opcode.Opcode.{Opcode}
use Rattle.aml_grammar.specs.declared.opcode.TermCode.{TermCode}
use Rattle.aml_grammar.specs.declared.opcode.TermCode.TheVariants as codes
use Rattle.aml_grammar.specs.Tree.{Tree, Trees, tree}
use Rattle.aml_grammar.specs.Apart.{code_of, operand_of, name_of}
use Rattle.aml_objects.specs.declared.entry.MethodFlags.{MethodFlags}
use Rattle.aml_objects.specs.declared.entry.NamedObject.{NamedObject}
use Rattle.aml_objects.specs.declared.entry.Entry.{Entry}
use Rattle.aml_namespace.proofs.Paths.{path_total}
use Rattle.aml_namespace.specs.Namespace.{Map, Namespace, declared, above}
use Rattle.aml_world.specs.state.State.{State, on_names}
use Rattle.aml_world.specs.state.Run.{Run, lift, charge}
use Rattle.aml_world.specs.state.Declaring.{new_name, not_in_method, new_method}
use Rattle.aml_world.specs.declared.state.passed_over.PassedItem.{PassedItem}
use Rattle.aml_world.specs.state.PassedOver.{PassedOver, is_passable, passed_with}
use Rattle.aml_world.specs.state.Noting.{with_passed}
use Rattle.aml_meaning.specs.declared.flow.Flow.{Flow}
use Rattle.aml_meaning.specs.declared.flow.Flow.TheVariants as flow
use Rattle.aml_meaning.specs.declared.term_kind.TermKind.{TermKind}
use Rattle.aml_meaning.specs.declared.term_kind.TermKind.TheVariants as kinds
use Rattle.aml_meaning.specs.declared.term_kind.DeclarationKind.{DeclarationKind}
use Rattle.aml_meaning.specs.declared.term_kind.DeclarationKind.TheVariants as declarations
use Rattle.aml_meaning.specs.declared.term_kind.RegionKind.{RegionKind}
use Rattle.aml_meaning.specs.declared.term_kind.RegionKind.TheVariants as regions
use Rattle.aml_meaning.specs.FieldTerms.{region_rule, sized_field_rule, bits_field_rule, region_term_rule}
use Rattle.aml_meaning.specs.Terms.{kind_of}
use Rattle.aml_meaning.specs.Passing.{item_done}
use Rattle.aml_meaning.specs.Tasks.{task, passes_over, goes_on, in_turn}
use Rattle.aml_meaning.specs.DeclarationTerms.{declaring, name_rule, alias_rule, method_rule, new_scope, declaration_rule}
use Rattle.aml_meaning.specs.Evaluation.{kind_rule, code_rule, rule}
use Rattle.aml_meaning.specs.Meaning.{meaning}
use Rattle.aml_meaning.proofs.Meanings.{meaning_is}
use Rattle.aml_laws.specs.Outside.{Outside, Stands}
use Rattle.aml_laws.specs.PassedNotes.{GoesOn, PassesNothing}
use Rattle.aml_laws.specs.Declares.{declared_place, region_place, place_of_kind, place_in, Declares, IsItem, first, later}
use Rattle.aml_laws.proofs.ObjectKinds.{new_buffer_field_keeps_kinds}
use Rattle.aml_laws.proofs.WorldRelations.{Preserves, RunPreserves, on_objects_preserves, run_give_preserves, run_settle_preserves, charge_preserves, lift_preserves, run_then_preserves}
use Rattle.aml_laws.proofs.ChangesPreserve.{integer_in_preserves, path_found_preserves, new_name_preserves, new_method_preserves}
use Rattle.aml_laws.proofs.ListsGoOn.{refused_done, rest_of, item_passed, item_plain, first_then}
use Rattle.aml_laws.proofs.NamesStay.{names_relation}
use Rattle.aml_laws.proofs.NotesKept.{counted_rises, counts_one, goes_on_reflexive, goes_on_relation}
use Rattle.aml_laws.proofs.ProfileKept.{profile_relation}
use Rattle.aml_laws.proofs.LocatedRegions.{meant}
use Rattle.aml_laws.proofs.OperandsAndCallsPreserve.{after_item_preserves, operand_value_preserves, value_at_preserves, two_values_preserves}
use Rattle.aml_laws.proofs.RulesPreserve.{meaning_preserves, list_preserves}

-- ---- evaluations that leave a name outside of control methods, where they are not refused

pub record DeclaresName {S A : Type 0} (m : Run S A) (p : List Seg) : Type 0 where
  pub declares_name : (s : State S × ℕ) (a : A) → Outside s.0 p → (m s).0 ≡ Ok a → Stands (m s).1.0 p

-- where a name stands and an evaluation preserves it, it stands
name_stays : {S A : Type 0} {accesses : Accesses S} (m : Run S A) (p : List Seg) (s : State S × ℕ) → RunPreserves (names_relation accesses p) m → Outside s.0 p → Stands s.0 p → Stands (m s).1.0 p
name_stays m p s h o st = (h.preserves s o).stands st

go_on_first_declares_name : {S A B : Type 0} {accesses : Accesses S} (r : Outcome A) (s : State S × ℕ) (k : A → Run S B) (p : List Seg) (b : B) → Outside s.0 p → ((a : A) → r ≡ Ok a → Stands s.0 p) → ((a : A) → RunPreserves (names_relation accesses p) (k a)) → (go_on r s k).0 ≡ Ok b → Stands (go_on r s k).1.0 p
unfolding go_on
go_on_first_declares_name (Ok a) s k p b o h i e = name_stays (k a) p s (i a) o (h a refl)
go_on_first_declares_name (Err x) s k p b o h i e = absurd (cc e)

-- the first of two leaves it, or the second
first_declares_name : {S A B : Type 0} (accesses : Accesses S) (m : Run S A) (k : A → Run S B) (p : List Seg) → RunPreserves (names_relation accesses p) m → DeclaresName m p → ((a : A) → RunPreserves (names_relation accesses p) (k a)) → DeclaresName (m >>= k) p
unfolding ◌>>=◌
first_declares_name accesses m k p kept h i = record { declares_name = λ s b o e. go_on_first_declares_name (m s).0 (m s).1 k p b (kept.preserves s o).outside (λ a. h.declares_name s a o) i e }

go_on_second_declares_name : {S A B : Type 0} (r : Outcome A) (s : State S × ℕ) (k : A → Run S B) (p : List Seg) (b : B) → Outside s.0 p → ((a : A) → DeclaresName (k a) p) → (go_on r s k).0 ≡ Ok b → Stands (go_on r s k).1.0 p
unfolding go_on
go_on_second_declares_name (Ok a) s k p b o h e = (h a).declares_name s b o e
go_on_second_declares_name (Err x) s k p b o h e = absurd (cc e)

second_declares_name : {S A B : Type 0} (accesses : Accesses S) (m : Run S A) (k : A → Run S B) (p : List Seg) → RunPreserves (names_relation accesses p) m → ((a : A) → DeclaresName (k a) p) → DeclaresName (m >>= k) p
unfolding ◌>>=◌
second_declares_name accesses m k p kept h = record { declares_name = λ s b o e. go_on_second_declares_name (m s).0 (m s).1 k p b (kept.preserves s o).outside h e }

known_declares_name : {S A B : Type 0} (x : Outcome A) (a : A) (k : A → Run S B) (p : List Seg) → x ≡ Ok a → DeclaresName (k a) p → DeclaresName (settle x >>= k) p
unfolding ◌>>=◌ settle go_on
known_declares_name x a k p e h = rw e (record { declares_name = λ s b o i. h.declares_name s b o i })

-- ---- new names

abbrev numbered_entry : ℕ → NamedObject → Entry
numbered_entry n o = record { number = n; object = o }

insert_stands : (m : Map) (p : List Seg) (v : Entry) → contains_key (insert m p v) p ≡ true
insert_stands m p v = ap is_some (get-insert path_total m p v p) ∙ ap (λ b. is_some (cond b (Some v) (get m p))) ((eq_by_cmp_equiv path_total).refl p)

declared_by_cases : (b c d : Bool) (n k : Namespace) (e f g : Refusal) (i j : ℕ) (p : List Seg) → contains_key n.map p ≡ true
    → (if◌then◌else◌ {A = Outcome ℕ × Namespace} b (if c then (Err e, k) else (if d then (Err f, k) else (Ok i, n))) (Err g, k)).0 ≡ Ok j
    → contains_key (if◌then◌else◌ {A = Outcome ℕ × Namespace} b (if c then (Err e, k) else (if d then (Err f, k) else (Ok i, n))) (Err g, k)).1.map p ≡ true
declared_by_cases true true d n k e f g i j p h is = absurd (cc is)
declared_by_cases true false true n k e f g i j p h is = absurd (cc is)
declared_by_cases true false false n k e f g i j p h is = h
declared_by_cases false c d n k e f g i j p h is = absurd (cc is)

declared_name_stands : {S : Type 0} (p : List Seg) (o : NamedObject) (w : State S) (n : ℕ) → (on_names (declared p o) w).0 ≡ Ok n → Stands (on_names (declared p o) w).1 p
unfolding on_names declared
declared_name_stands p o w n is = declared_by_cases (contains_key w.names.map (above p)) (contains_key w.names.map p) (w.names.next == 2 ^ 64 - 1)
    (record { map = insert w.names.map p (numbered_entry w.names.next o); next = w.names.next + 1 }) w.names (refusal.Namespace Exists) (refusal.Evaluation ObjectLimit) (refusal.Namespace NotFound) w.names.next n p (insert_stands w.names.map p (numbered_entry w.names.next o)) is

go_on_declared_name_stands : {S : Type 0} (r : Outcome (Unit {0})) (p : List Seg) (o : NamedObject) (w : State S) (n : ℕ) → (go_on r w (λ u. on_names (declared p o))).0 ≡ Ok n → Stands (go_on r w (λ u. on_names (declared p o))).1 p
unfolding go_on
go_on_declared_name_stands (Ok u) p o w n is = declared_name_stands p o w n is
go_on_declared_name_stands (Err e) p o w n is = absurd (cc is)

new_name_stands : {S : Type 0} (module_level : Bool) (p : List Seg) (o : NamedObject) (w : State S) (n : ℕ) → (new_name module_level p o w).0 ≡ Ok n → Stands (new_name module_level p o w).1 p
unfolding new_name ◌>>=◌ not_in_method
new_name_stands module_level p o w n is = go_on_declared_name_stands _ p o w n is

new_method_stands : {S : Type 0} (module_level : Bool) (p : List Seg) (flags : MethodFlags) (body : List ℕ) (w : State S) (n : ℕ) → (new_method module_level p flags body w).0 ≡ Ok n → Stands (new_method module_level p flags body w).1 p
unfolding new_method
new_method_stands module_level p flags body w n is = new_name_stands module_level p _ w n is

new_name_declares_name : {S : Type 0} (module_level : Bool) (p : List Seg) (o : NamedObject) → DeclaresName (lift {S = S} (new_name module_level p o)) p
unfolding lift
new_name_declares_name module_level p o = record { declares_name = λ s n o1 is. new_name_stands module_level p o s.0 n is }

new_method_declares_name : {S : Type 0} (module_level : Bool) (p : List Seg) (flags : MethodFlags) (body : List ℕ) → DeclaresName (lift {S = S} (new_method module_level p flags body)) p
unfolding lift
new_method_declares_name module_level p flags body = record { declares_name = λ s n o is. new_method_stands module_level p flags body s.0 n is }

-- ---- rules

named_at_place : (t : Tree) (n : Name) (i j : ℕ) → ◌≡◌ {A = Option ℕ} (Some j) (Some i) → name_of (operand_of t i) ≡ Ok n → name_of (operand_of t j) ≡ Ok n
named_at_place t n i j e named = subst (λ k. name_of (operand_of t k) ≡ Ok n) (sym (cc e)) named

module _ {S : Type 0} (accesses : Accesses S) (scope : List Seg) (depth : ℕ) (t : Tree) (p : List Seg) (n : Name) where
  -- a name that is declared, and what follows
  declared_then_declares_name : {A B : Type 0} (m : Change (State S) A) (k : A → Run S B) → Preserves (names_relation accesses p) m → DeclaresName (lift m) p → ((a : A) → RunPreserves (names_relation accesses p) (k a)) → DeclaresName (lift m >>= k) p
  declared_then_declares_name m k h set i = first_declares_name accesses (lift m) k p (lift_preserves m h) set i

  declaring_declares_name : (position : ℕ) (o : NamedObject) → name_of (operand_of t position) ≡ Ok n → resolved n scope ≡ Ok p → DeclaresName (declaring (meaning accesses) scope depth t position o) p
  unfolding declaring
  declaring_declares_name position o named at = known_declares_name _ n _ p named (known_declares_name _ p _ p at (declared_then_declares_name _ _ (new_name_preserves _ p o) (new_name_declares_name _ p o) (λ number. run_give_preserves _)))

  name_rule_declares_name : name_of (operand_of t 0) ≡ Ok n → resolved n scope ≡ Ok p → DeclaresName (name_rule (meaning accesses) scope depth t) p
  unfolding name_rule
  name_rule_declares_name named at = second_declares_name accesses _ _ p (run_settle_preserves _) (λ datum. second_declares_name accesses _ _ p (operand_value_preserves (meaning accesses) meaning_preserves (λ told. meant) scope depth datum) (λ v. declaring_declares_name _ _ named at))

  alias_rule_declares_name : name_of (operand_of t 1) ≡ Ok n → resolved n scope ≡ Ok p → DeclaresName (alias_rule (meaning accesses) scope depth t) p
  unfolding alias_rule
  alias_rule_declares_name named at = second_declares_name accesses _ _ p (run_settle_preserves _) (λ source. second_declares_name accesses _ _ p (lift_preserves _ (path_found_preserves scope source)) (λ target. known_declares_name _ n _ p named (known_declares_name _ p _ p at (declared_then_declares_name _ _ (new_name_preserves _ p _) (new_name_declares_name _ p _) (λ number. run_give_preserves _)))))

  method_rule_declares_name : name_of (operand_of t 0) ≡ Ok n → resolved n scope ≡ Ok p → DeclaresName (method_rule (meaning accesses) scope depth t) p
  unfolding method_rule
  method_rule_declares_name named at = known_declares_name _ n _ p named (known_declares_name _ p _ p at (second_declares_name accesses _ _ p (run_settle_preserves _) (λ flags. second_declares_name accesses _ _ p (run_settle_preserves _) (λ body. declared_then_declares_name _ _ (new_method_preserves _ p _ body) (new_method_declares_name _ p _ body) (λ number. run_give_preserves _)))))

  new_scope_declares_name : (o : NamedObject) (place : ℕ) → name_of (operand_of t 0) ≡ Ok n → resolved n scope ≡ Ok p → DeclaresName (new_scope (meaning accesses) o place scope depth t) p
  unfolding new_scope
  new_scope_declares_name o place named at = known_declares_name _ n _ p named (known_declares_name _ p _ p at (declared_then_declares_name _ _ (new_name_preserves _ p o) (new_name_declares_name _ p o) (λ number. run_then_preserves _ _ (run_settle_preserves _) (λ ts. list_preserves p depth ts))))

  declaration_rule_declares_name : (k : DeclarationKind) (i : ℕ) → declared_place k ≡ Some i → name_of (operand_of t i) ≡ Ok n → resolved n scope ≡ Ok p → DeclaresName (declaration_rule (meaning accesses) k scope depth t) p
  declaration_rule_declares_name declarations.Name i e named at = name_rule_declares_name (named_at_place t n i 0 e named) at
  declaration_rule_declares_name declarations.Device i e named at = new_scope_declares_name _ _ (named_at_place t n i 0 e named) at
  declaration_rule_declares_name declarations.Processor i e named at = new_scope_declares_name _ _ (named_at_place t n i 0 e named) at
  declaration_rule_declares_name declarations.PowerResource i e named at = new_scope_declares_name _ _ (named_at_place t n i 0 e named) at
  declaration_rule_declares_name declarations.ThermalZone i e named at = new_scope_declares_name _ _ (named_at_place t n i 0 e named) at
  declaration_rule_declares_name declarations.Method i e named at = method_rule_declares_name (named_at_place t n i 0 e named) at
  declaration_rule_declares_name declarations.Mutex i e named at = declaring_declares_name _ _ (named_at_place t n i 0 e named) at
  declaration_rule_declares_name declarations.Event i e named at = declaring_declares_name _ _ (named_at_place t n i 0 e named) at
  declaration_rule_declares_name declarations.Alias i e named at = alias_rule_declares_name (named_at_place t n i 1 e named) at
  declaration_rule_declares_name declarations.Scope i e named at = absurd (cc e)
  declaration_rule_declares_name declarations.External i e named at = absurd (cc e)

  region_term_rule_declares_name : (k : RegionKind) (i : ℕ) → region_place k ≡ Some i → name_of (operand_of t i) ≡ Ok n → resolved n scope ≡ Ok p → DeclaresName (region_term_rule (meaning accesses) k scope depth t) p
  unfolding region_rule sized_field_rule bits_field_rule
  region_term_rule_declares_name regions.OperationRegion i e named at =
      second_declares_name accesses _ _ p (run_settle_preserves _) (λ space. second_declares_name accesses _ _ p (value_at_preserves (meaning accesses) meaning_preserves (λ told. meant) scope depth t 2) (λ offset. second_declares_name accesses _ _ p (value_at_preserves (meaning accesses) meaning_preserves (λ told. meant) scope depth t 3) (λ size. second_declares_name accesses _ _ p (lift_preserves _ (integer_in_preserves offset)) (λ x. second_declares_name accesses _ _ p (lift_preserves _ (integer_in_preserves size)) (λ y. declaring_declares_name _ _ (named_at_place t n i 0 e named) at)))))
  region_term_rule_declares_name regions.Field i e named at = absurd (cc e)
  region_term_rule_declares_name regions.IndexField i e named at = absurd (cc e)
  region_term_rule_declares_name (regions.SizedBufferField size) i e named at =
      second_declares_name accesses _ _ p (two_values_preserves (meaning accesses) meaning_preserves (λ told. meant) scope depth t) (λ x. second_declares_name accesses _ _ p (run_settle_preserves _) (λ o. second_declares_name accesses _ _ p (lift_preserves _ (integer_in_preserves x.1)) (λ j. second_declares_name accesses _ _ p (lift_preserves _ (on_objects_preserves _ (new_buffer_field_keeps_kinds o _ _))) (λ b. declaring_declares_name _ _ (named_at_place t n i 2 e named) at))))
  region_term_rule_declares_name regions.BufferField i e named at =
      second_declares_name accesses _ _ p (value_at_preserves (meaning accesses) meaning_preserves (λ told. meant) scope depth t 0) (λ source. second_declares_name accesses _ _ p (value_at_preserves (meaning accesses) meaning_preserves (λ told. meant) scope depth t 1) (λ index. second_declares_name accesses _ _ p (value_at_preserves (meaning accesses) meaning_preserves (λ told. meant) scope depth t 2) (λ count.
      second_declares_name accesses _ _ p (run_settle_preserves _) (λ o. second_declares_name accesses _ _ p (lift_preserves _ (integer_in_preserves index)) (λ j. second_declares_name accesses _ _ p (lift_preserves _ (integer_in_preserves count)) (λ k. second_declares_name accesses _ _ p (run_settle_preserves _) (λ bits.
      second_declares_name accesses _ _ p (lift_preserves _ (on_objects_preserves _ (new_buffer_field_keeps_kinds o j bits))) (λ b. declaring_declares_name _ _ (named_at_place t n i 3 e named) at))))))))

  kind_rule_declares_name : (k : TermKind) (op : Opcode) (i : ℕ) → place_of_kind k ≡ Some i → name_of (operand_of t i) ≡ Ok n → resolved n scope ≡ Ok p → DeclaresName (kind_rule accesses (meaning accesses) k op scope depth t) p
  kind_rule_declares_name (kinds.Declaration k) op i e named at = declaration_rule_declares_name k i e named at
  kind_rule_declares_name (kinds.Region k) op i e named at = region_term_rule_declares_name k i e named at
  kind_rule_declares_name (kinds.Data k) op i e named at = absurd (cc e)
  kind_rule_declares_name (kinds.Operator k) op i e named at = absurd (cc e)
  kind_rule_declares_name (kinds.Statement k) op i e named at = absurd (cc e)
  kind_rule_declares_name (kinds.Wide k) op i e named at = absurd (cc e)
  kind_rule_declares_name kinds.Unsupported op i e named at = absurd (cc e)

  code_rule_declares_name : (c : TermCode) (i : ℕ) → place_in c ≡ Some i → name_of (operand_of t i) ≡ Ok n → resolved n scope ≡ Ok p → DeclaresName (code_rule accesses (meaning accesses) c scope depth t) p
  code_rule_declares_name (codes.Opcode op) i e named at = kind_rule_declares_name (kind_of op) op i e named at
  code_rule_declares_name codes.MethodInvocation i e named at = absurd (cc e)
  code_rule_declares_name codes.Name i e named at = absurd (cc e)
  code_rule_declares_name codes.NamedField i e named at = absurd (cc e)
  code_rule_declares_name codes.ReservedField i e named at = absurd (cc e)
  code_rule_declares_name codes.AccessField i e named at = absurd (cc e)
  code_rule_declares_name codes.ExtendedAccessField i e named at = absurd (cc e)
  code_rule_declares_name codes.ConnectField i e named at = absurd (cc e)

-- a term that declares a path outside of control methods and is not refused leaves a name there
rule_declares_name : {S : Type 0} (accesses : Accesses S) (scope : List Seg) (depth : ℕ) (t : Tree) (p : List Seg) → Declares scope t p → DeclaresName {S = S} (charge >> rule accesses (meaning accesses) (task scope depth t)) p
unfolding rule
rule_declares_name accesses scope depth t p d = second_declares_name accesses _ _ p charge_preserves (λ u. code_rule_declares_name accesses scope depth t p d.name (code_of t) d.place d.declares d.named d.stands_for)

pub term_declares_name : {S : Type 0} (accesses : Accesses S) (scope : List Seg) (depth : ℕ) (t : Tree) (p : List Seg) (s : State S × ℕ) (f : Flow) → Declares scope t p → Outside s.0 p → (meaning accesses (task scope depth t) s).0 ≡ Ok f → Stands (meaning accesses (task scope depth t) s).1.0 p
term_declares_name accesses scope depth t p s f d o is = subst (λ a. Stands a.1.0 p) (sym (meaning_is accesses (task scope depth t) s)) ((rule_declares_name accesses scope depth t p d).declares_name s f o (ap (λ a. a.0) (sym (meaning_is accesses (task scope depth t) s)) ∙ is))

-- ---- lists

-- what passes nothing over on the whole passes nothing over on the way
counts_between : (u v w : PassedOver) → GoesOn u v → GoesOn v w → w.count ≡ u.count → v.count ≡ u.count
counts_between u v w h i same = let first = h.count in let second = i.count in omega (arith, first, second, same)

passes_nothing_after : {S : Type 0} (depth : ℕ) (u v w : State S) → v.profile ≡ u.profile → GoesOn u.passed v.passed → GoesOn v.passed w.passed → PassesNothing depth u w → PassesNothing depth v w
passes_nothing_after depth u v w kept h i (inl never) = inl (ap (passes_over depth) kept ∙ never)
passes_nothing_after depth u v w kept h i (inr q) =
    let between = counts_between u.passed v.passed w.passed h i q.0 in
    let few = q.1 in
    inr (q.0 ∙ sym between, omega (arith, between, few))

-- where an item was passed over, the count is another
noted_between : (u v w : PassedOver) (item : PassedItem) → GoesOn u v → GoesOn (passed_with item v) w → w.count ≡ u.count → u.count < 2 ^ 64 - 1 → ⊥
noted_between u v w item h i same few =
    let first = h.count in
    let second = i.count in
    let rises = counted_rises v.count in
    let one = counts_one v.count (omega (arith, first, second, same, few, rises)) in
    absurd (omega (arith, first, second, same, one))

noted_then : {S : Type 0} (depth : ℕ) (u v w : State S) (item : PassedItem) → passes_over depth u.profile ≡ true → GoesOn u.passed v.passed → GoesOn (passed_with item v.passed) w.passed → PassesNothing depth u w → ⊥
noted_then depth u v w item may h i (inl never) = absurd (cc (sym may ∙ never))
noted_then depth u v w item may h i (inr q) = noted_between u.passed v.passed w.passed item h i q.0 q.1

-- an evaluation that leaves a name, where nothing ended it early, and nothing is passed over
record EndsWithName {S : Type 0} (depth : ℕ) (m : Run S Flow) (p : List Seg) : Type 0 where
  ends_with_name : (s : State S × ℕ) → PassesNothing depth s.0 (m s).1.0 → Outside s.0 p → (m s).0 ≡ Ok flow.Next → Stands (m s).1.0 p

rest_ends_with_name : {S : Type 0} (depth : ℕ) (f : Flow) (m : Run S Flow) (p : List Seg) → EndsWithName depth m p → (s : State S × ℕ) → PassesNothing depth s.0 ((if goes_on f then m else give f) s).1.0 → Outside s.0 p → ((if goes_on f then m else give f) s).0 ≡ Ok flow.Next → Stands ((if goes_on f then m else give f) s).1.0 p
unfolding give
rest_ends_with_name depth (flow.Value v) m p h s fails o is = h.ends_with_name s fails o is
rest_ends_with_name depth flow.Next m p h s fails o is = h.ends_with_name s fails o is
rest_ends_with_name depth flow.Break m p h s fails o is = absurd (cc is)
rest_ends_with_name depth flow.Continue m p h s fails o is = absurd (cc is)
rest_ends_with_name depth (flow.Return v) m p h s fails o is = absurd (cc is)

later_ends_with_name : {S : Type 0} (depth : ℕ) (r : Outcome Flow) (s : State S × ℕ) (m : Run S Flow) (p : List Seg) → EndsWithName depth m p → PassesNothing depth s.0 (go_on r s (λ f. if goes_on f then m else give f)).1.0 → Outside s.0 p → (go_on r s (λ f. if goes_on f then m else give f)).0 ≡ Ok flow.Next → Stands (go_on r s (λ f. if goes_on f then m else give f)).1.0 p
unfolding go_on
later_ends_with_name depth (Ok f) s m p h fails o is = rest_ends_with_name depth f m p h s fails o is
later_ends_with_name depth (Err e) s m p h fails o is = absurd (cc is)

meaning_declares_name : {S : Type 0} (accesses : Accesses S) (scope : List Seg) (depth : ℕ) (t : Tree) (p : List Seg) → Declares scope t p → DeclaresName {S = S} (meaning accesses (task scope depth t)) p
meaning_declares_name accesses scope depth t p d = record { declares_name = λ s f o is. term_declares_name accesses scope depth t p s f d o is }

module _ {S : Type 0} (accesses : Accesses S) (scope : List Seg) (depth : ℕ) where
  term_goes_on : (u : Tree) (s : State S × ℕ) → GoesOn s.0.passed (meaning accesses (task scope depth u) s).1.0.passed
  term_goes_on u s = (meaning_preserves {relation = goes_on_relation accesses} (task scope depth u)).preserves s

  rest_goes_on : (us : Trees) (r : Outcome Flow) (s : State S × ℕ) → GoesOn s.0.passed (go_on r s (rest_of accesses scope depth us)).1.0.passed
  unfolding go_on
  rest_goes_on us (Ok f) s = (after_item_preserves (meaning accesses) (meaning_preserves {relation = goes_on_relation accesses}) (λ told. meant) (goes_on f) f _ (list_preserves {relation = goes_on_relation accesses} scope depth us)).preserves s
  rest_goes_on us (Err e) s = goes_on_reflexive s.0.passed

  -- a list of which nothing is passed over
  abbrev plain_list : Tree → Trees → Run S Flow
  plain_list u us = meaning accesses (task scope depth u) >>= rest_of accesses scope depth us

  refused_plain : (b : Bool) (us : Trees) (s : State S × ℕ) (e : Refusal) (after : State S × ℕ) → is_passable e ≡ b → passes_over depth s.0.profile ≡ true → GoesOn s.0.passed after.0.passed
      → PassesNothing depth s.0 (go_on (refused_done b scope e after).0 (refused_done b scope e after).1 (rest_of accesses scope depth us)).1.0
      → go_on (refused_done b scope e after).0 (refused_done b scope e after).1 (rest_of accesses scope depth us) ≡ go_on (Err e) after (rest_of accesses scope depth us)
  refused_plain true us s e after holds may h nothing =
      absurd (noted_then depth s.0 after.0 (go_on (Ok flow.Next) (with_passed scope e after.0, after.1) (rest_of accesses scope depth us)).1.0 (record { refusal = e; scope = scope }) may h (rest_goes_on us (Ok flow.Next) (with_passed scope e after.0, after.1)) nothing)
  refused_plain false us s e after holds may h nothing = refl

  done_plain : (us : Trees) (s : State S × ℕ) (r : Outcome Flow) (after : State S × ℕ) → passes_over depth s.0.profile ≡ true → GoesOn s.0.passed after.0.passed
      → PassesNothing depth s.0 (go_on (item_done scope r after).0 (item_done scope r after).1 (rest_of accesses scope depth us)).1.0
      → go_on (item_done scope r after).0 (item_done scope r after).1 (rest_of accesses scope depth us) ≡ go_on r after (rest_of accesses scope depth us)
  unfolding item_done
  done_plain us s (Ok f) after may h nothing = refl
  done_plain us s (Err e) after may h nothing = refused_plain (is_passable e) us s e after refl may h nothing

  list_is_plain_by : (b : Bool) (u : Tree) (us : Trees) (s : State S × ℕ) → passes_over depth s.0.profile ≡ b → PassesNothing depth s.0 (in_turn (meaning accesses) scope depth (tree u us) s).1.0 → in_turn (meaning accesses) scope depth (tree u us) s ≡ plain_list u us s
  unfolding ◌>>=◌
  list_is_plain_by false u us s never nothing = first_then accesses scope depth u us s _ _ (item_plain accesses scope depth u s never)
  list_is_plain_by true u us s may nothing =
      let a = meaning accesses (task scope depth u) s in
      let same = first_then accesses scope depth u us s (item_done scope a.0 a.1).0 (item_done scope a.0 a.1).1 (item_passed accesses scope depth u s may) in
      same ∙ done_plain us s a.0 a.1 may (term_goes_on u s) (subst (λ x. PassesNothing depth s.0 x.1.0) same nothing)

  list_is_plain : (u : Tree) (us : Trees) (s : State S × ℕ) → PassesNothing depth s.0 (in_turn (meaning accesses) scope depth (tree u us) s).1.0 → in_turn (meaning accesses) scope depth (tree u us) s ≡ plain_list u us s
  list_is_plain u us s nothing = list_is_plain_by (passes_over depth s.0.profile) u us s refl nothing

list_ends_with_name : {S : Type 0} (accesses : Accesses S) (scope : List Seg) (depth : ℕ) (t : Tree) (ts : Trees) (p : List Seg) → IsItem t ts → Declares scope t p → EndsWithName {S = S} depth (in_turn (meaning accesses) scope depth ts) p
unfolding ◌>>=◌
list_ends_with_name accesses scope depth t ts p (first us) d = record {
  ends_with_name = λ s nothing o is.
      let same = list_is_plain accesses scope depth t us s nothing in
      let h = first_declares_name accesses (meaning accesses (task scope depth t)) _ p (meaning_preserves _) (meaning_declares_name accesses scope depth t p d) (λ f. after_item_preserves (meaning accesses) meaning_preserves (λ told. meant) (goes_on f) f _ (list_preserves scope depth us)) in
      subst (λ a. Stands a.1.0 p) (sym same) (h.declares_name s flow.Next o (ap (λ a. a.0) (sym same) ∙ is));
}
list_ends_with_name accesses scope depth t ts p (later u us i) d = record {
  ends_with_name = λ s nothing o is.
      let same = list_is_plain accesses scope depth u us s nothing in
      let a = meaning accesses (task scope depth u) s in
      let kept = (meaning_preserves {relation = profile_relation accesses} (task scope depth u)).preserves s in
      let rest = passes_nothing_after depth s.0 a.1.0 (go_on a.0 a.1 (rest_of accesses scope depth us)).1.0 kept (term_goes_on accesses scope depth u s) (rest_goes_on accesses scope depth us a.0 a.1) (subst (λ x. PassesNothing depth s.0 x.1.0) same nothing) in
      subst (λ x. Stands x.1.0 p) (sym same)
      (later_ends_with_name depth a.0 a.1 (in_turn (meaning accesses) scope depth us) p (list_ends_with_name accesses scope depth t us p i d) rest
      ((meaning_preserves {relation = names_relation accesses p} (task scope depth u)).preserves s o).outside (ap (λ x. x.0) (sym same) ∙ is));
}

-- a list that is evaluated to its end, and of which nothing is passed over, leaves each name that one of its terms declares outside of
-- control methods
pub items_stand : {S : Type 0} (accesses : Accesses S) (scope : List Seg) (depth : ℕ) (t : Tree) (ts : Trees) (p : List Seg) (s : State S × ℕ) → IsItem t ts → Declares scope t p → PassesNothing depth s.0 (in_turn (meaning accesses) scope depth ts s).1.0 → Outside s.0 p → (in_turn (meaning accesses) scope depth ts s).0 ≡ Ok flow.Next
    → Stands (in_turn (meaning accesses) scope depth ts s).1.0 p
items_stand accesses scope depth t ts p s i d nothing o is = (list_ends_with_name accesses scope depth t ts p i d).ends_with_name s nothing o is

pub ruleset declared_names_stand = (term_declares_name, items_stand)
