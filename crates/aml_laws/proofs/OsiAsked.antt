-- What \_OSI answers of a text.
use Rattle.std.specs.Prelude.{◌≡◌, ◌≤◌, ◌<◌, ◌||◌, ℕ, suc, List, [], ◌∷◌, slice_get, Bool, true, false, Option, Some, None, Ok, Err, refl}
use Rattle.std.specs.Ordering.{is_eq, nat_cmp}
use Rattle.std.specs.Cmp.Lexicographic.{slice_cmp}
use Rattle.std.specs.FinMap.{nat_cmp-IsAntisymmetric, slice_cmp-IsAntisymmetric}
use Rattle.std.specs.declared.cmp.Ordering.{Ordering}
use Rattle.std.specs.declared.cmp.Ordering.TheVariants.{Less, Equal, Greater}
use Rattle.std.proofs.Common.{ap, sym, subst, ◌∙◌}
use Rattle.std.proofs.lemmas.Cmp.{nat_list_cmp_total}
use Rattle.ar_space.specs.declared.integer_width.IntegerWidth.{IntegerWidth}
use Rattle.ar_space.specs.declared.refusal.Refusal.{Refusal}
use Rattle.ar_space.specs.declared.refusal.Refusal.TheVariants as refusal
use Rattle.ar_space.specs.declared.refusal.EvaluationFault.TheVariants.{CallDepth, DepthSetting, NoValue}
use Rattle.ar_space.specs.declared.refusal.ValueFault.TheVariants.{WrongType}
use Rattle.ar_space.specs.Accesses.{Accesses}
use Rattle.ar_space.specs.Change.{give, settle, go_on, ◌>>=◌}
use Rattle.aml_path.specs.declared.segment.Seg.{Seg}
use Rattle.aml_path.specs.Paths.{Name}
use Rattle.aml_grammar.specs.Tree.{Tree}
use Rattle.aml_objects.specs.Contents.{content_in, buffer_held}
use Rattle.aml_objects.specs.declared.object.Object.{Object}
use Rattle.aml_objects.specs.declared.object.Object.TheVariants as object
use Rattle.aml_objects.specs.declared.value.Value.{Value}
use Rattle.aml_objects.specs.declared.value.Value.TheVariants as value
use Rattle.aml_convert.specs.Integers.{truth}
use Rattle.aml_world.specs.state.State.{State}
use Rattle.aml_world.specs.state.Run.{lift}
use Rattle.aml_world.specs.state.Readings.{entry_found, arguments_found}
use Rattle.aml_world.specs.state.Invocations.{call_allowed, named_use, invocation_found}
use Rattle.aml_world.specs.state.Osi.{same_text, is_known, osi_answer, osi_answered}
use Rattle.aml_meaning.specs.declared.flow.Flow.TheVariants as flow
use Rattle.aml_meaning.specs.Tasks.{task, operand_value}
use Rattle.aml_meaning.specs.InvocationTerms.{arguments_in_turn, osi_rule, name_value}
use Rattle.aml_meaning.specs.Evaluation.{rule}
use Rattle.aml_meaning.specs.Meaning.{meaning}
use Rattle.aml_laws.specs.OperatorTerms.{GivesValue, GivesNothing, Gives, IsRefused}
use Rattle.aml_laws.specs.TestTerms.{IsTruth}
use Rattle.aml_laws.specs.NamesUsed.{call_of_one, IsAmong, first, later, FindsOsi, AsksOsi, AsksOsiOf}
use Rattle.aml_laws.proofs.TreesCost.{term_begins}
use Rattle.aml_laws.proofs.LimitsRefused.{call_is_allowed, call_deep, call_set}
use Rattle.aml_laws.proofs.OrderedValues.{total_itself}
use Rattle.aml_laws.proofs.TestsTold.{truth_by}

is_equal_by : (o : Ordering) → is_eq o ≡ true → o ≡ Equal
is_equal_by Less e = absurd (cc e)
is_equal_by Equal e = refl
is_equal_by Greater e = absurd (cc e)

same_so : (a b : List ℕ) → same_text a b ≡ true → a ≡ b
same_so a b e = slice_cmp-IsAntisymmetric nat_cmp-IsAntisymmetric a b (is_equal_by (slice_cmp nat_cmp a b) e)

same_itself : (a : List ℕ) → same_text a a ≡ true
same_itself a = ap is_eq (total_itself nat_list_cmp_total (slice_cmp-IsAntisymmetric nat_cmp-IsAntisymmetric) a)

among_by : (t : List ℕ) (ts : List (List ℕ)) (text : List ℕ) (b : Bool) → same_text t text ≡ b → (is_known ts text ≡ true → IsAmong text ts) → (b || is_known ts text) ≡ true → IsAmong text (t ∷ ts)
among_by t ts text true is others e = subst (λ u. IsAmong text (u ∷ ts)) (sym (same_so t text is)) (first ts)
among_by t ts text false is others e = later t ts (others e)

pub among_so : (texts : List (List ℕ)) (text : List ℕ) → is_known texts text ≡ true → IsAmong text texts
among_so [] text e = absurd (cc e)
among_so (t ∷ ts) text e = among_by t ts text (same_text t text) refl (among_so ts text) e

first_known : (b c : Bool) → b ≡ true → (b || c) ≡ true
first_known true c e = refl
first_known false c e = absurd (cc e)

later_known : (b c : Bool) → c ≡ true → (b || c) ≡ true
later_known true c e = refl
later_known false c e = e

known_so : (text : List ℕ) (texts : List (List ℕ)) → IsAmong text texts → is_known texts text ≡ true
known_so text _ (first others) = first_known (same_text text text) (is_known others text) (same_itself text)
known_so text _ (later other others h) = later_known (same_text other text) (is_known others text) (known_so text others h)

pub not_among : (texts : List (List ℕ)) (text : List ℕ) → is_known texts text ≡ false → IsAmong text texts → ⊥
not_among texts text e h = let both : true ≡ false = sym (known_so text texts h) ∙ e in absurd (cc both)

module _ {S : Type 0} (accesses : Accesses S) (scope : List Seg) (depth : ℕ) (n : Name) (x : Tree) (w : State S) (steps : ℕ) (text : List ℕ) (after : State S × ℕ) (h : AsksOsi accesses scope depth n x (w, steps) text after) where
  answered_so : rule accesses (meaning accesses) (task scope depth (call_of_one n x)) (w, steps) ≡ (Ok (flow.Value (value.Integer (truth after.0.width (is_known after.0.osi text)))), after)
  unfolding rule name_value invocation_found arguments_found entry_found named_use osi_rule arguments_in_turn operand_value osi_answered settle lift give go_on ◌>>=◌
  answered_so = rw (h.osi.finds, h.osi.takes_one, h.osi.finds, h.gives, call_is_allowed depth after.0 h.below_32 h.allowed, h.holds) refl

  pub osi_tells : (k : ℕ) × IsTruth after.0.width (IsAmong text after.0.osi) k × Gives accesses scope depth (call_of_one n x) (w, suc steps) k after
  osi_tells = (truth after.0.width (is_known after.0.osi text), truth_by after.0.width (is_known after.0.osi text) (IsAmong text after.0.osi) (among_so after.0.osi text) (not_among after.0.osi text), (term_begins accesses (task scope depth (call_of_one n x))).paid w steps ∙ answered_so)

-- ---- other values

buffer_refused : (width : IntegerWidth) (texts : List (List ℕ)) (b : Option Object) → osi_answer width texts (buffer_held b) ≡ Err (refusal.Value WrongType)
buffer_refused width texts None = refl
buffer_refused width texts (Some (object.String bytes)) = refl
buffer_refused width texts (Some (object.Buffer bytes)) = refl
buffer_refused width texts (Some (object.Package elements)) = refl

pub refused_by : (width : IntegerWidth) (texts : List (List ℕ)) (objects : List Object) (v : Value) → ((o : ℕ) → v ≡ value.String o → ⊥) → osi_answer width texts (content_in objects v) ≡ Err (refusal.Value WrongType)
refused_by width texts objects value.Uninitialized h = refl
refused_by width texts objects (value.Integer n) h = refl
refused_by width texts objects (value.String o) h = absurd (h o refl)
refused_by width texts objects (value.Buffer o) h = buffer_refused width texts (slice_get objects o)
refused_by width texts objects (value.Package o) h = refl
refused_by width texts objects (value.Reference r) h = refl

module _ {S : Type 0} (accesses : Accesses S) (scope : List Seg) (depth : ℕ) (n : Name) (x : Tree) (w : State S) (steps : ℕ) (v : Value) (after : State S × ℕ) (h : AsksOsiOf accesses scope depth n x (w, steps) v after) (other : (o : ℕ) → v ≡ value.String o → ⊥) where
  refused_so : rule accesses (meaning accesses) (task scope depth (call_of_one n x)) (w, steps) ≡ (Err (refusal.Value WrongType), after)
  unfolding rule name_value invocation_found arguments_found entry_found named_use osi_rule arguments_in_turn operand_value osi_answered settle lift give go_on ◌>>=◌
  refused_so = rw (h.osi.finds, h.osi.takes_one, h.osi.finds, h.gives, call_is_allowed depth after.0 h.below_32 h.allowed, refused_by after.0.width after.0.osi after.0.objects v other) refl

  pub osi_refuses : IsRefused accesses scope depth (call_of_one n x) (w, suc steps) (refusal.Value WrongType) after
  osi_refuses = (term_begins accesses (task scope depth (call_of_one n x))).paid w steps ∙ refused_so

-- ---- calls that are too deep, and arguments without a value

module _ {S : Type 0} (accesses : Accesses S) (scope : List Seg) (depth : ℕ) (n : Name) (x : Tree) (w : State S) (steps : ℕ) where
  module _ (v : Value) (after : State S × ℕ) (osi : FindsOsi w scope n) (gives : GivesValue accesses scope depth x (w, steps) v after) where
    denied_so : (e : Refusal) → call_allowed depth after.0 ≡ (Err e, after.0) → rule accesses (meaning accesses) (task scope depth (call_of_one n x)) (w, steps) ≡ (Err e, after)
    unfolding rule name_value invocation_found arguments_found entry_found named_use osi_rule arguments_in_turn operand_value settle lift give go_on ◌>>=◌
    denied_so e denied = rw (osi.finds, osi.takes_one, osi.finds, gives, denied) refl

    denied_is : (e : Refusal) → call_allowed depth after.0 ≡ (Err e, after.0) → IsRefused accesses scope depth (call_of_one n x) (w, suc steps) e after
    denied_is e denied = (term_begins accesses (task scope depth (call_of_one n x))).paid w steps ∙ denied_so e denied

    pub osi_too_deep : 32 ≤ depth → IsRefused accesses scope depth (call_of_one n x) (w, suc steps) (refusal.Evaluation CallDepth) after
    osi_too_deep more = denied_is (refusal.Evaluation CallDepth) (call_deep depth after.0 more)

    pub osi_not_allowed : depth < 32 → after.0.nesting.calls ≤ depth → IsRefused accesses scope depth (call_of_one n x) (w, suc steps) (refusal.Evaluation DepthSetting) after
    osi_not_allowed less many = denied_is (refusal.Evaluation DepthSetting) (call_set depth after.0 less many)

  module _ (e : Refusal) (after : State S × ℕ) (osi : FindsOsi w scope n) (stops : IsRefused accesses scope depth x (w, steps) e after) where
    argument_so : rule accesses (meaning accesses) (task scope depth (call_of_one n x)) (w, steps) ≡ (Err e, after)
    unfolding rule name_value invocation_found arguments_found entry_found named_use osi_rule arguments_in_turn operand_value settle lift give go_on ◌>>=◌
    argument_so = rw (osi.finds, osi.takes_one, osi.finds, stops) refl

    pub osi_argument_refused : IsRefused accesses scope depth (call_of_one n x) (w, suc steps) e after
    osi_argument_refused = (term_begins accesses (task scope depth (call_of_one n x))).paid w steps ∙ argument_so

  module _ (after : State S × ℕ) (osi : FindsOsi w scope n) (nothing : GivesNothing accesses scope depth x (w, steps) after) where
    missing_so : rule accesses (meaning accesses) (task scope depth (call_of_one n x)) (w, steps) ≡ (Err (refusal.Evaluation NoValue), after)
    unfolding rule name_value invocation_found arguments_found entry_found named_use osi_rule arguments_in_turn operand_value settle lift give go_on ◌>>=◌
    missing_so = rw (osi.finds, osi.takes_one, osi.finds, nothing) refl

    pub osi_argument_missing : IsRefused accesses scope depth (call_of_one n x) (w, suc steps) (refusal.Evaluation NoValue) after
    osi_argument_missing = (term_begins accesses (task scope depth (call_of_one n x))).paid w steps ∙ missing_so
