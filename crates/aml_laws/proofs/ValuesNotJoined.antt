-- What Concatenate and ConcatenateResTemplate refuse.
use Rattle.std.specs.Prelude.{◌≡◌, ◌+◌, ◌==◌, ℕ, suc, List, [], ◌∷◌, Bool, true, false, Option, Some, None, Err, refl, if◌then◌else◌}
use Rattle.std.proofs.Common.{ap}
use Rattle.std.specs.Option.{option_map}
use Rattle.ar_space.specs.declared.integer_width.IntegerWidth.{IntegerWidth}
use Rattle.ar_space.specs.declared.refusal.Refusal.{Refusal}
use Rattle.ar_space.specs.declared.refusal.Refusal.TheVariants as refusal
use Rattle.ar_space.specs.declared.refusal.ResourceFault.TheVariants.{NoEnd}
use Rattle.ar_space.specs.declared.refusal.ValueFault.TheVariants.{WrongType}
use Rattle.ar_space.specs.Accesses.{Accesses}
use Rattle.ar_space.specs.Change.{go_on, ◌>>=◌}
use Rattle.ar_space.specs.Outcome as outcome
use Rattle.acpi_resources.specs.EndTags.{item_length, length_before_end}
use Rattle.acpi_resources.specs.Items.{ResourceItem, items_of}
use Rattle.aml_path.specs.declared.segment.Seg.{Seg}
use Rattle.aml_grammar.specs.declared.opcode.Opcode.TheVariants as opcodes
use Rattle.aml_grammar.specs.Tree.{Tree, Part}
use Rattle.aml_objects.specs.Contents.{Content, content_in}
use Rattle.aml_objects.specs.declared.value.Value.{Value}
use Rattle.aml_convert.specs.Concatenation.{concatenated, before_end, buffer_bytes, resources_joined}
use Rattle.aml_world.specs.declared.values.operation_kind.TwoOperands.TheVariants as two
use Rattle.aml_world.specs.state.State.{State}
use Rattle.aml_world.specs.values.Operations.{joined_contents, joined, joined_items, joined_resources}
use Rattle.aml_laws.specs.JoinedTerms.{IsUnjoined, no_integer, no_text, no_bytes, HoldsNoBuffer, holds_integer, holds_string, holds_other, HasNoEnd, without_end, AreNoTemplates, first_is_none, second_is_none, first_has_no_end, second_has_no_end}
use Rattle.aml_laws.specs.OperatorTerms.{two_to, IsRefused}
use Rattle.aml_laws.specs.ResourceLists.{HasEndTag, here, later}
use Rattle.aml_laws.specs.StoredParts.{IsNoData, uninitialized, a_package, a_reference}
use Rattle.aml_laws.specs.TestTerms.{TwoValues}
use Rattle.aml_laws.proofs.ConversionsAnswered.{front_answers}
use Rattle.aml_laws.proofs.OperatorsComputed.{two_refused}

-- ---- Concatenate

unjoined_so : (width : IntegerWidth) (a b : Content) (e : Refusal) → IsUnjoined width a b e → concatenated width a b ≡ Err e
unfolding concatenated outcome.◌>>=◌
unjoined_so width _ _ _ (no_integer n b e is) = rw is refl
unjoined_so width _ _ _ (no_text s b e is) = rw is refl
unjoined_so width _ _ _ (no_bytes s b e is) = rw is refl

module _ {S : Type 0} (w : State S) (v u : Value) (e : Refusal) where
  unjoined : concatenated w.width (content_in w.objects v) (content_in w.objects u) ≡ Err e → joined v u w ≡ (Err e, w)
  unfolding joined joined_contents go_on ◌>>=◌
  unjoined is = rw is refl

no_data_so : {S : Type 0} (w : State S) (v u : Value) → IsNoData v → concatenated w.width (content_in w.objects v) (content_in w.objects u) ≡ Err (refusal.Value WrongType)
unfolding concatenated
no_data_so w _ u uninitialized = refl
no_data_so w _ u (a_package o) = refl
no_data_so w _ u (a_reference r) = refl

module _ {S : Type 0} (accesses : Accesses S) (scope : List Seg) (depth : ℕ) (x y : Tree) (w : State S) (steps : ℕ) (v u : Value) (after : State S × ℕ) (h : TwoValues accesses scope depth x y (w, steps) v u after) where
  pub first_not_joined : IsNoData v → (p : Part) → IsRefused accesses scope depth (two_to opcodes.Concat x y p) (w, suc steps) (refusal.Value WrongType) after
  first_not_joined none p = two_refused accesses scope depth x y p two.Concatenate opcodes.Concat refl w steps h.between after v u h.first h.second (refusal.Value WrongType) after.0 (unjoined after.0 v u (refusal.Value WrongType) (no_data_so after.0 v u none))

  pub second_not_joined : (e : Refusal) → IsUnjoined after.0.width (content_in after.0.objects v) (content_in after.0.objects u) e → (p : Part) → IsRefused accesses scope depth (two_to opcodes.Concat x y p) (w, suc steps) e after
  second_not_joined e is p = two_refused accesses scope depth x y p two.Concatenate opcodes.Concat refl w steps h.between after v u h.first h.second e after.0 (unjoined after.0 v u e (unjoined_so after.0.width (content_in after.0.objects v) (content_in after.0.objects u) e is))

-- ---- ConcatenateResTemplate

none_by : (b : Bool) (k : ℕ) (o : Option ℕ) → (b ≡ true → ⊥) → o ≡ None → (if b then Some 0 else option_map (λ n. k + n) o) ≡ None
none_by true k o lacks is = absurd (lacks refl)
none_by false k o lacks is = ap (option_map (λ n. k + n)) is

no_end_so : (items : List ResourceItem) → (HasEndTag items → ⊥) → length_before_end items ≡ None
unfolding length_before_end
no_end_so [] lacks = refl
no_end_so (item ∷ items) lacks = none_by (item.tag == 0x79) (item_length item) (length_before_end items) (λ is. lacks (here item items is)) (no_end_so items (λ has. lacks (later item items has)))

no_front : (bytes : List ℕ) → HasNoEnd bytes → before_end bytes ≡ Err (refusal.Resource NoEnd)
no_front _ (without_end b bytes lacks) = rw (no_end_so (items_of (b ∷ bytes)) lacks) refl

no_buffer : (c : Content) → HoldsNoBuffer c → buffer_bytes c ≡ Err (refusal.Value WrongType)
no_buffer _ (holds_integer n) = refl
no_buffer _ (holds_string s) = refl
no_buffer _ holds_other = refl

no_templates : (a b : Content) (e : Refusal) → AreNoTemplates a b e → resources_joined a b ≡ Err e
unfolding resources_joined outcome.◌>>=◌
no_templates _ _ _ (first_is_none a b none) = rw (no_buffer a none) refl
no_templates _ _ _ (second_is_none s b none) = rw (no_buffer b none) refl
no_templates _ _ _ (first_has_no_end s t none) = rw (no_front s none) refl
no_templates _ _ _ (second_has_no_end s t ends none) = rw ((front_answers s ends).1, no_front t none) refl

module _ {S : Type 0} (w : State S) (v u : Value) (e : Refusal) (is : resources_joined (content_in w.objects v) (content_in w.objects u) ≡ Err e) where
  resources_unjoined : joined_resources v u w ≡ (Err e, w)
  unfolding joined_resources joined_items go_on ◌>>=◌
  resources_unjoined = rw is refl

pub resources_not_joined : {S : Type 0} (accesses : Accesses S) (scope : List Seg) (depth : ℕ) (x y : Tree) (w : State S) (steps : ℕ) (v u : Value) (after : State S × ℕ) → TwoValues accesses scope depth x y (w, steps) v u after → (e : Refusal)
    → AreNoTemplates (content_in after.0.objects v) (content_in after.0.objects u) e → (p : Part) → IsRefused accesses scope depth (two_to opcodes.ConcatRes x y p) (w, suc steps) e after
resources_not_joined accesses scope depth x y w steps v u after h e are p =
    two_refused accesses scope depth x y p two.ConcatenateResources opcodes.ConcatRes refl w steps h.between after v u h.first h.second e after.0
    (resources_unjoined after.0 v u e (no_templates (content_in after.0.objects v) (content_in after.0.objects u) e are))
