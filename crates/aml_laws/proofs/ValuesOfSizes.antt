-- Sizes, joined resources, mutexes and declared fields maintain that what a world holds fits a claim.
use Rattle.std.specs.Prelude.{◌≡◌, ◌≤◌, ◌==◌, ◌||◌, nat_lt, ℕ, List, [], ◌∷◌, ◌++◌, length, Bool, true, false, Option, Some, None, Ok, Err, refl, slice_get, if◌then◌else◌}
use Rattle.std.proofs.Common.{arith}
use Rattle.std.proofs.lemmas.Bool.{ltb-false}
use Rattle.ar_space.specs.declared.integer_width.IntegerWidth.{IntegerWidth}
use Rattle.ar_space.specs.declared.integer_width.IntegerWidth.TheVariants.{Bits32, Bits64}
use Rattle.ar_space.specs.declared.refusal.Refusal.{Refusal}
use Rattle.ar_space.specs.declared.refusal.Refusal.TheVariants as refusal
use Rattle.ar_space.specs.declared.refusal.EvaluationFault.TheVariants.{IndexLimit}
use Rattle.ar_space.specs.Outcome.{Outcome}
use Rattle.ar_space.specs.Outcome as outcome
use Rattle.aml_path.specs.declared.segment.Seg.{Seg}
use Rattle.aml_grammar.specs.declared.opcode.TermCode.{TermCode}
use Rattle.aml_grammar.specs.declared.opcode.TermCode.TheVariants as codes
use Rattle.aml_grammar.specs.Tree.{Tree, Trees, no_trees, tree}
use Rattle.aml_grammar.specs.Apart.{code_of, operand_of}
use Rattle.aml_objects.specs.Contents.{Content, Integer, String, Buffer, Other}
use Rattle.aml_objects.specs.declared.object.Object.{Object}
use Rattle.aml_objects.specs.declared.object.Object.TheVariants as object
use Rattle.aml_objects.specs.declared.value.Value.{Value}
use Rattle.aml_objects.specs.declared.value.Value.TheVariants as value
use Rattle.aml_objects.specs.declared.value.Reference.{Reference}
use Rattle.aml_objects.specs.declared.value.Reference.TheVariants as reference
use Rattle.aml_convert.specs.Concatenation.{front_of, before_end, buffer_bytes, resources_joined}
use Rattle.aml_world.specs.declared.fields.field_layout.FieldLayout.{FieldLayout}
use Rattle.aml_world.specs.declared.fields.field_layout.FieldGroup.{FieldGroup}
use Rattle.aml_world.specs.declared.values.object_type.Referent.{Referent}
use Rattle.aml_world.specs.declared.values.object_type.Referent.TheVariants as referent
use Rattle.aml_world.specs.declared.values.store_target.StoreTarget.{StoreTarget}
use Rattle.aml_world.specs.declared.values.store_target.StoreTarget.TheVariants as targets
use Rattle.aml_world.specs.values.Operations.{joined_items, joined_resources, size_of_object, size_of_value, size_of_referent, size_in, size_held, element_indexed, byte_indexed, indexed}
use Rattle.aml_world.specs.state.Mutexes.{mutex_count, acquired, given_back, acquired_by_number, given_back_by_number, acquired_at, given_back_at}
use Rattle.aml_world.specs.fields.FieldLayouts.{connection_found, new_field}
use Rattle.aml_meaning.specs.Terms.{is_named}
use Rattle.aml_meaning.specs.FieldTerms.{named_connection, connection_if, named_field, reserved_field, access_field, element_laid, elements_laid}
use Rattle.aml_laws.specs.Plain.{AreBytes}
use Rattle.aml_laws.specs.Within.{WithinWidth}
use Rattle.aml_laws.proofs.ReadingStepsGiveBytes.{Any, take_bytes, no_bytes}
use Rattle.aml_laws.proofs.Invariants.{Maintains, ok_fits, settled_maintained, give_maintains, stop_maintains, settle_maintains, then_maintains, joined_bytes, byte_before_bytes}
use Rattle.aml_laws.proofs.ValuesOfObjects.{make_buffer_maintains}
use Rattle.aml_laws.proofs.IntegersOfContents.{ContentFits}
use Rattle.aml_laws.proofs.ValuesOfTargets.{ReferentFits, declaration_maintains}
use Rattle.aml_laws.proofs.Claims.{Claim, IntegerFits, ReferenceFits, ValueFits, AreClaimedBytes, BitsFit, ObjectFits, ObjectsFit}
use Rattle.aml_laws.proofs.ValuesOfWorlds.{WorldWithin, content_in_fits, as_integer_fits, on_objects_maintains, integer_in_maintains, entry_found_maintains, replaced_maintains, new_name_maintains}

outcome_then_fits : {A B : Type 0} (Fit : A → Type 0) (Fits : B → Type 0) (r : Outcome A) (k : A → Outcome B) (b : B) → ((a : A) → r ≡ Ok a → Fit a) → ((a : A) → Fit a → (x : B) → k a ≡ Ok x → Fits x) → outcome.◌>>=◌ r k ≡ Ok b → Fits b
unfolding outcome.◌>>=◌
outcome_then_fits Fit Fits (Ok a) k b f g e = g a (f a refl) b e
outcome_then_fits Fit Fits (Err x) k b f g e = absurd (cc e)

buffer_bytes_are_bytes : (width : IntegerWidth) (c : Content) (bs : List ℕ) → ContentFits width c → buffer_bytes c ≡ Ok bs → AreBytes bs
buffer_bytes_are_bytes width (Integer n) bs h e = absurd (cc e)
buffer_bytes_are_bytes width (String s) bs h e = absurd (cc e)
buffer_bytes_are_bytes width (Buffer b) bs h e = ok_fits AreBytes b bs e h
buffer_bytes_are_bytes width Other bs h e = absurd (cc e)

front_of_is_bytes : (bytes : List ℕ) (o : Option ℕ) (bs : List ℕ) → AreBytes bytes → front_of bytes o ≡ Ok bs → AreBytes bs
front_of_is_bytes bytes None bs h e = absurd (cc e)
front_of_is_bytes bytes (Some n) bs h e = ok_fits AreBytes _ bs e (take_bytes n bytes h)

before_end_is_bytes : (bytes bs : List ℕ) → AreBytes bytes → before_end bytes ≡ Ok bs → AreBytes bs
before_end_is_bytes [] bs h e = ok_fits AreBytes _ bs e no_bytes
before_end_is_bytes (b ∷ bytes) bs h e = front_of_is_bytes (b ∷ bytes) _ bs h e

resources_joined_are_bytes : (width : IntegerWidth) (a b : Content) (bs : List ℕ) → ContentFits width a → ContentFits width b → resources_joined a b ≡ Ok bs → AreBytes bs
unfolding resources_joined
resources_joined_are_bytes width a b bs h g e =
    outcome_then_fits AreBytes AreBytes _ _ bs (λ s is. buffer_bytes_are_bytes width a s h is) (λ s hs x ex. outcome_then_fits AreBytes AreBytes _ _ x (λ t is. buffer_bytes_are_bytes width b t g is) (λ t ht y ey. outcome_then_fits AreBytes AreBytes _ _ y (λ f is. before_end_is_bytes s f hs is) (λ f hf z ez.
    outcome_then_fits AreBytes AreBytes _ _ z (λ k is. before_end_is_bytes t k ht is) (λ k hk v ev. ok_fits AreBytes _ v ev (joined_bytes (f ++ k) (0x79 ∷ 0x00 ∷ []) (joined_bytes f k hf hk) (byte_before_bytes 0x79 (0 ∷ []) (omega arith) (byte_before_bytes 0 [] (omega arith) no_bytes)))) ez) ey) ex) e

size_fits_width : (width : IntegerWidth) (n : ℕ) → n ≤ 1048576 → WithinWidth width (value.Integer n)
size_fits_width Bits32 n l = omega arith
size_fits_width Bits64 n l = omega arith

module _ (claim : Claim) where
  abbrev pub SizeFits : ℕ → Type 0
  SizeFits n = IntegerFits claim n

  object_size_fits : (k : ℕ) (o : Option Object) (n : ℕ) → ((x : Object) → o ≡ Some x → ObjectFits claim k x) → size_of_object o ≡ Ok n → SizeFits n
  object_size_fits k None n h e = absurd (cc e)
  object_size_fits k (Some (object.String bs)) n h e = ok_fits SizeFits _ n e (λ m. size_fits_width claim.width (length bs) (h _ refl m).1)
  object_size_fits k (Some (object.Buffer bs)) n h e = ok_fits SizeFits _ n e (λ m. size_fits_width claim.width (length bs) (h _ refl m).1)
  object_size_fits k (Some (object.Package es)) n h e = ok_fits SizeFits _ n e (λ m. size_fits_width claim.width (length es) (let l = (h _ refl).1 m in omega arith))

  value_size_fits : (objects : List Object) (v : Value) (n : ℕ) → ObjectsFit claim objects → size_of_value objects v ≡ Ok n → SizeFits n
  value_size_fits objects (value.String o) n h e = object_size_fits o (slice_get objects o) n (λ x at. h.fit o x at) e
  value_size_fits objects (value.Buffer o) n h e = object_size_fits o (slice_get objects o) n (λ x at. h.fit o x at) e
  value_size_fits objects (value.Package o) n h e = object_size_fits o (slice_get objects o) n (λ x at. h.fit o x at) e
  value_size_fits objects value.Uninitialized n h e = absurd (cc e)
  value_size_fits objects (value.Integer m) n h e = absurd (cc e)
  value_size_fits objects (value.Reference r) n h e = absurd (cc e)

  referent_size_fits : (objects : List Object) (r : Referent) (n : ℕ) → ObjectsFit claim objects → ReferentFits claim r → size_of_referent objects r ≡ Ok n → SizeFits n
  referent_size_fits objects (referent.Value v) n h f e = value_size_fits objects v n h e
  referent_size_fits objects (referent.Object t) n h f e = absurd (cc e)
  referent_size_fits objects (referent.Field u) n h f e = absurd (cc e)
  referent_size_fits objects (referent.Bytes m) n h f e = ok_fits SizeFits m n e f

module _ (S : Type 0) (claim : Claim) where
  pub joined_resources_maintains : (a b : Value) → ValueFits claim a → ValueFits claim b → Maintains (WorldWithin S claim) (ValueFits claim) (joined_resources a b)
  unfolding joined_resources joined_items
  joined_resources_maintains a b f g = then_maintains {Fit = AreClaimedBytes claim} _ _ (record { maintains = λ w i. settled_maintained _ w i (λ bs e m. resources_joined_are_bytes claim.width _ _ bs (content_in_fits S claim w a i f m) (content_in_fits S claim w b i g m) e) }) (λ bs h. on_objects_maintains S claim _ (make_buffer_maintains claim bs h))

  reference_below_fits : (b : Bool) (r : Reference) (v : Value) → ReferenceFits claim r → (if b then Ok (value.Reference r) else Err (refusal.Evaluation IndexLimit)) ≡ Ok v → ValueFits claim v
  reference_below_fits true r v fits e = ok_fits (ValueFits claim) _ v e fits
  reference_below_fits false r v fits e = absurd (cc e)

  pub size_held_maintains : (v : Value) → Maintains (WorldWithin S claim) (SizeFits claim) (size_held v)
  unfolding size_held
  size_held_maintains v = record { maintains = λ w i. settled_maintained _ w i (λ n e. value_size_fits claim w.objects v n i.objects e) }

  pub indexed_maintains : (a b : Value) → ValueFits claim a → ValueFits claim b → Maintains (WorldWithin S claim) (ValueFits claim) (indexed a b)
  unfolding element_indexed byte_indexed
  indexed_maintains (value.Package o) b f g = then_maintains _ _ (integer_in_maintains S claim b g) (λ i x. then_maintains _ _ (size_held_maintains _) (λ n y. settle_maintains _ (λ v e. reference_below_fits (nat_lt i n) (reference.Element o i) v f e)))
  indexed_maintains (value.String o) b f g = then_maintains _ _ (integer_in_maintains S claim b g) (λ i x. then_maintains _ _ (size_held_maintains _) (λ n y. settle_maintains _ (λ v e. reference_below_fits (nat_lt i n) (reference.Byte o i) v f e)))
  indexed_maintains (value.Buffer o) b f g = then_maintains _ _ (integer_in_maintains S claim b g) (λ i x. then_maintains _ _ (size_held_maintains _) (λ n y. settle_maintains _ (λ v e. reference_below_fits (nat_lt i n) (reference.Byte o i) v f e)))
  indexed_maintains value.Uninitialized b f g = stop_maintains _
  indexed_maintains (value.Integer n) b f g = stop_maintains _
  indexed_maintains (value.Reference r) b f g = stop_maintains _

  pub size_in_maintains : (r : Referent) → ReferentFits claim r → Maintains (WorldWithin S claim) (ValueFits claim) (size_in r)
  unfolding size_in
  size_in_maintains r f = record { maintains = λ w i. settled_maintained _ w i (λ v e. as_integer_fits S claim _ v (λ n is. referent_size_fits claim w.objects r n i.objects f is) e) }

  mutex_count_maintains : (q : List Seg) → Maintains (WorldWithin S claim) Any (mutex_count q)
  unfolding mutex_count
  mutex_count_maintains q = record { maintains = λ w i. settled_maintained _ w i (λ n e. tt) }

  pub acquired_at_maintains : (at : StoreTarget) → Maintains (WorldWithin S claim) Any (acquired_at at)
  unfolding acquired acquired_by_number
  acquired_at_maintains targets.Nowhere = stop_maintains _
  acquired_at_maintains (targets.Slot slot) = stop_maintains _
  acquired_at_maintains (targets.Refers (reference.Slot slot n)) = stop_maintains _
  acquired_at_maintains (targets.Refers (reference.Element o i)) = stop_maintains _
  acquired_at_maintains (targets.Refers (reference.Byte o i)) = stop_maintains _
  acquired_at_maintains (targets.Refers (reference.Name n)) = then_maintains _ _ (declaration_maintains S claim n) (λ e f. then_maintains _ _ (mutex_count_maintains e.0) (λ m u. then_maintains {Fit = Any} _ _ (settle_maintains _ (λ a x. tt)) (λ k v. replaced_maintains S claim e.0 _ tt)))
  acquired_at_maintains (targets.Name q) = then_maintains _ _ (mutex_count_maintains q) (λ n u. then_maintains {Fit = Any} _ _ (settle_maintains _ (λ a e. tt)) (λ m v. replaced_maintains S claim q _ tt))

  pub given_back_at_maintains : (at : StoreTarget) → Maintains (WorldWithin S claim) Any (given_back_at at)
  unfolding given_back given_back_by_number
  given_back_at_maintains targets.Nowhere = stop_maintains _
  given_back_at_maintains (targets.Slot slot) = stop_maintains _
  given_back_at_maintains (targets.Refers (reference.Slot slot n)) = stop_maintains _
  given_back_at_maintains (targets.Refers (reference.Element o i)) = stop_maintains _
  given_back_at_maintains (targets.Refers (reference.Byte o i)) = stop_maintains _
  given_back_at_maintains (targets.Refers (reference.Name n)) = then_maintains _ _ (declaration_maintains S claim n) (λ e f. then_maintains _ _ (mutex_count_maintains e.0) (λ m u. then_maintains {Fit = Any} _ _ (settle_maintains _ (λ a x. tt)) (λ k v. replaced_maintains S claim e.0 _ tt)))
  given_back_at_maintains (targets.Name q) = then_maintains _ _ (mutex_count_maintains q) (λ n u. then_maintains {Fit = Any} _ _ (settle_maintains _ (λ a e. tt)) (λ m v. replaced_maintains S claim q _ tt))

  pub field_has_few_bits : (a : Bool) (count : ℕ) (e : Refusal) (n : ℕ) → (if◌then◌else◌ {A = Outcome ℕ} (a || nat_lt 8388608 count) (Err e) (Ok count)) ≡ Ok n → BitsFit claim n
  field_has_few_bits true count e n is = absurd (cc is)
  field_has_few_bits false count e n is = by (nat_lt 8388608 count) refl is
    where
      by : (b : Bool) → nat_lt 8388608 count ≡ b → (if◌then◌else◌ {A = Outcome ℕ} b (Err e) (Ok count)) ≡ Ok n → BitsFit claim n
      by true at is = absurd (cc is)
      by false at is = ok_fits (BitsFit claim) count n is (λ m. ltb-false 8388608 count at)

  new_field_maintains : (group : FieldGroup) (module_level : Bool) (q : List Seg) (at : FieldLayout) (count : ℕ) → Maintains (WorldWithin S claim) Any (new_field group module_level q at count)
  unfolding new_field
  new_field_maintains group module_level q at count = then_maintains {Fit = BitsFit claim} _ _ (settle_maintains _ (λ n e. field_has_few_bits (count == 0) count _ n e)) (λ bits l. then_maintains _ _ (new_name_maintains S claim module_level q _ l) (λ number u. settle_maintains _ (λ a e. tt)))

  connection_if_maintains : (group : FieldGroup) (scope : List Seg) (depth : ℕ) (named : Bool) (at : FieldLayout) (t : Tree) → Maintains (WorldWithin S claim) Any (connection_if group scope depth named at t)
  unfolding named_connection connection_found
  connection_if_maintains group scope depth true at t = then_maintains {Fit = Any} _ _ (settle_maintains _ (λ a e. tt)) (λ n u. then_maintains {Fit = Any} _ _ (then_maintains _ _ (entry_found_maintains S claim scope n) (λ e f. settle_maintains _ (λ a g. tt))) (λ buffer v. give_maintains _ tt))
  connection_if_maintains group scope depth false at t = give_maintains _ tt

  element_laid_maintains : (group : FieldGroup) (scope : List Seg) (depth : ℕ) (c : TermCode) (at : FieldLayout) (t : Tree) → Maintains (WorldWithin S claim) Any (element_laid group scope depth c at t)
  unfolding named_field reserved_field access_field
  element_laid_maintains group scope depth codes.NamedField at t = then_maintains {Fit = Any} _ _ (settle_maintains _ (λ a e. tt)) (λ n u. then_maintains {Fit = Any} _ _ (settle_maintains _ (λ a e. tt)) (λ p v. then_maintains {Fit = Any} _ _ (settle_maintains _ (λ a e. tt)) (λ count x. new_field_maintains group _ p at count)))
  element_laid_maintains group scope depth codes.ReservedField at t = then_maintains {Fit = Any} _ _ (settle_maintains _ (λ a e. tt)) (λ count u. settle_maintains _ (λ a e. tt))
  element_laid_maintains group scope depth codes.AccessField at t = then_maintains {Fit = Any} _ _ (settle_maintains _ (λ a e. tt)) (λ flags u. give_maintains _ tt)
  element_laid_maintains group scope depth codes.ExtendedAccessField at t = then_maintains {Fit = Any} _ _ (settle_maintains _ (λ a e. tt)) (λ flags u. give_maintains _ tt)
  element_laid_maintains group scope depth codes.ConnectField at t = connection_if_maintains group scope depth (is_named (operand_of t 0)) at t
  element_laid_maintains group scope depth codes.Name at t = stop_maintains _
  element_laid_maintains group scope depth codes.MethodInvocation at t = stop_maintains _
  element_laid_maintains group scope depth (codes.Opcode op) at t = stop_maintains _

  pub elements_laid_maintains : (group : FieldGroup) (scope : List Seg) (depth : ℕ) (at : FieldLayout) (ts : Trees) → Maintains (WorldWithin S claim) Any (elements_laid group scope depth at ts)
  unfolding elements_laid
  elements_laid_maintains group scope depth at no_trees = give_maintains _ tt
  elements_laid_maintains group scope depth at (tree t ts) = then_maintains _ _ (element_laid_maintains group scope depth (code_of t) at t) (λ next u. elements_laid_maintains group scope depth next ts)
