-- What a BankField term finds and evaluates, in order.
use Rattle.std.specs.Prelude.{◌≡◌, ◌≢◌, ℕ, List, Ok, Err, refl}
use Rattle.std.proofs.Common.{ap, ◌∙◌}
use Rattle.ar_space.specs.declared.refusal.Refusal.{Refusal}
use Rattle.ar_space.specs.declared.refusal.Refusal.TheVariants as refusal
use Rattle.ar_space.specs.declared.refusal.EvaluationFault.TheVariants.{NoValue}
use Rattle.ar_space.specs.declared.refusal.ValueFault.TheVariants.{WrongType}
use Rattle.ar_space.specs.Accesses.{Accesses}
use Rattle.ar_space.specs.Change.{settle, go_on, ◌>>=◌}
use Rattle.ar_space.specs.Outcome.{Outcome}
use Rattle.aml_path.specs.declared.segment.Seg.{Seg}
use Rattle.aml_path.specs.Paths.{Name}
use Rattle.aml_grammar.specs.declared.opcode.Opcode.TheVariants as opcodes
use Rattle.aml_grammar.specs.Tree.{Tree, Trees}
use Rattle.aml_objects.specs.declared.entry.Bank.{Bank}
use Rattle.aml_objects.specs.declared.entry.FieldSource.{FieldSource}
use Rattle.aml_objects.specs.declared.entry.FieldSource.TheVariants as sources
use Rattle.aml_objects.specs.declared.entry.FieldUnit.{FieldUnit}
use Rattle.aml_objects.specs.declared.entry.NamedObject.{NamedObject}
use Rattle.aml_objects.specs.declared.entry.NamedObject.TheVariants as object
use Rattle.aml_objects.specs.declared.entry.OperationRegion.{OperationRegion}
use Rattle.aml_objects.specs.declared.value.Value.{Value}
use Rattle.aml_namespace.specs.Search.{found}
use Rattle.aml_world.specs.declared.state.profile.Profile.TheVariants as profiles
use Rattle.aml_world.specs.fields.FieldLayouts.{in_region, region_number, region_found, field_number, field_found}
use Rattle.aml_world.specs.state.Profiles.{evaluated_in, asked_for}
use Rattle.aml_world.specs.state.Readings.{integer_in, entry_found}
use Rattle.aml_world.specs.state.Run.{Run, lift}
use Rattle.aml_world.specs.state.State.{State}
use Rattle.aml_meaning.specs.declared.flow.Flow.{Flow}
use Rattle.aml_meaning.specs.declared.flow.Flow.TheVariants as flow
use Rattle.aml_meaning.specs.BankTerms.{banked_laid, bank_list_rule}
use Rattle.aml_meaning.specs.Evaluation.{rule}
use Rattle.aml_meaning.specs.FieldTerms.{fields_laid}
use Rattle.aml_meaning.specs.Meaning.{meaning}
use Rattle.aml_meaning.specs.Tasks.{value_in, task, operand_value, value_at}
use Rattle.aml_laws.specs.BankDeclarations.{bank_field, Finds, FindsField}
use Rattle.aml_laws.specs.FieldsPut.{FindsNoRegion, no_region, other_object, FindsNoUnit, no_unit, no_field, in_a_bank, behind_an_index}

-- ---- what names find

module _ {S : Type 0} (w : State S) (scope : List Seg) (n : Name) where
  pub region_lost : (e : Refusal) → found w.names.map scope n ≡ Err e → region_found scope n w ≡ (Err e, w)
  unfolding region_found entry_found settle ◌>>=◌ go_on
  region_lost e lost = rw lost refl

  pub field_lost : (e : Refusal) → found w.names.map scope n ≡ Err e → field_found scope n w ≡ (Err e, w)
  unfolding field_found entry_found settle ◌>>=◌ go_on
  field_lost e lost = rw lost refl

  region_by : (number : ℕ) (o : NamedObject) → Finds w scope n number o → region_found scope n w ≡ (region_number number o, w)
  unfolding region_found entry_found settle ◌>>=◌ go_on
  region_by number o f = rw (f.finds, f.numbered, f.is) refl

  field_by : (number : ℕ) (o : NamedObject) → Finds w scope n number o → field_found scope n w ≡ (field_number number o, w)
  unfolding field_found entry_found settle ◌>>=◌ go_on
  field_by number o f = rw (f.finds, f.numbered, f.is) refl

  pub region_there : (number : ℕ) (r : OperationRegion) → Finds w scope n number (object.OperationRegion r) → region_found scope n w ≡ (Ok number, w)
  region_there number r f = region_by number (object.OperationRegion r) f

  pub source_by : (number : ℕ) (source : FieldSource) → FindsField w scope n number source → field_found scope n w ≡ (in_region number source, w)
  source_by number source (u, f, same) = field_by number (object.FieldUnit u) f ∙ ap (λ x. (in_region number x, w)) same

-- an object that is no operation region, and one that is no field unit
not_region : (number : ℕ) (o : NamedObject) → ((r : OperationRegion) → o ≢ object.OperationRegion r) → region_number number o ≡ Err (refusal.Value WrongType)
not_region number (object.OperationRegion r) other = absurd (other r refl)
not_region number o other = refl

not_field : (number : ℕ) (o : NamedObject) → ((u : FieldUnit) → o ≢ object.FieldUnit u) → field_number number o ≡ Err (refusal.Value WrongType)
not_field number (object.FieldUnit u) other = absurd (other u refl)
not_field number o other = refl

-- the same, of all of these names
module _ {S : Type 0} (w : State S) (scope : List Seg) (n : Name) where
  pub none_there : (e : Refusal) → FindsNoRegion w scope n e → region_found scope n w ≡ (Err e, w)
  none_there _ (no_region e lost) = region_lost w scope n e lost
  none_there _ (other_object number o f other) = region_by w scope n number o f ∙ ap (λ x. (x, w)) (not_region number o other)

  pub no_unit_there : (e : Refusal) → FindsNoUnit w scope n e → field_found scope n w ≡ (Err e, w)
  no_unit_there _ (no_unit e lost) = field_lost w scope n e lost
  no_unit_there _ (no_field number o f other) = field_by w scope n number o f ∙ ap (λ x. (x, w)) (not_field number o other)
  no_unit_there _ (in_a_bank number region bank f) = source_by w scope n number (sources.Bank region bank) f
  no_unit_there _ (behind_an_index number i d f) = source_by w scope n number (sources.Index i d) f

module _ {S : Type 0} (accesses : Accesses S) (scope : List Seg) (depth : ℕ) (region bank : Name) (value : Tree) (flags : ℕ) (fields : Trees) (s : State S × ℕ) (wide : s.0.profile ≡ profiles.Wide) where
  abbrev declared_by : Run S Flow
  declared_by = rule accesses (meaning accesses) (task scope depth (bank_field region bank value flags fields))

  asked_is : lift (asked_for opcodes.BankField) s ≡ (Ok tt, s)
  unfolding lift asked_for
  asked_is = ap (λ p. (evaluated_in p opcodes.BankField, s)) wide

  rule_is : declared_by s ≡ bank_list_rule (meaning accesses) scope depth (bank_field region bank value flags fields) s
  unfolding rule ◌>>=◌ go_on
  rule_is = ap (λ (x : Outcome (Unit {0}) × (State S × ℕ)). go_on x.0 x.1 (λ asked. bank_list_rule (meaning accesses) scope depth (bank_field region bank value flags fields))) asked_is

  -- the region comes first
  by_region : (x : Outcome ℕ) → region_found scope region s.0 ≡ (x, s.0)
      → declared_by s ≡ go_on x s (λ r. lift (field_found scope bank) >>= (λ b. value_at (meaning accesses) scope depth (bank_field region bank value flags fields) 2 >>= (λ v. settle (Ok flags) >>= (λ f. settle (Ok fields) >>= (λ ts. banked_laid scope depth r b v f ts)))))
  unfolding bank_list_rule settle lift ◌>>=◌ go_on
  by_region x is = rule_is ∙ rw is refl

  pub region_refused : (e : Refusal) → found s.0.names.map scope region ≡ Err e → declared_by s ≡ (Err e, s)
  unfolding go_on
  region_refused e lost = by_region (Err e) (region_lost s.0 scope region e lost)

  pub other_region_refused : (number : ℕ) (o : NamedObject) → Finds s.0 scope region number o → ((r : OperationRegion) → o ≢ object.OperationRegion r) → declared_by s ≡ (Err (refusal.Value WrongType), s)
  unfolding go_on
  other_region_refused number o there other = by_region (Err (refusal.Value WrongType)) (region_by s.0 scope region number o there ∙ ap (λ x. (x, s.0)) (not_region number o other))

  module _ (number : ℕ) (r : OperationRegion) (there : Finds s.0 scope region number (object.OperationRegion r)) where
    -- then the bank
    by_bank : (x : Outcome ℕ) → field_found scope bank s.0 ≡ (x, s.0)
        → declared_by s ≡ go_on x s (λ b. value_at (meaning accesses) scope depth (bank_field region bank value flags fields) 2 >>= (λ v. settle (Ok flags) >>= (λ f. settle (Ok fields) >>= (λ ts. banked_laid scope depth number b v f ts))))
    unfolding lift ◌>>=◌ go_on
    by_bank x is = by_region (Ok number) (region_there s.0 scope region number r there) ∙ rw is refl

    pub bank_refused : (e : Refusal) → found s.0.names.map scope bank ≡ Err e → declared_by s ≡ (Err e, s)
    unfolding go_on
    bank_refused e lost = by_bank (Err e) (field_lost s.0 scope bank e lost)

    pub other_bank_refused : (b : ℕ) (o : NamedObject) → Finds s.0 scope bank b o → ((u : FieldUnit) → o ≢ object.FieldUnit u) → declared_by s ≡ (Err (refusal.Value WrongType), s)
    unfolding go_on
    other_bank_refused b o found other = by_bank (Err (refusal.Value WrongType)) (field_by s.0 scope bank b o found ∙ ap (λ x. (x, s.0)) (not_field b o other))

    pub banked_bank_refused : (b q : ℕ) (held : Bank) → FindsField s.0 scope bank b (sources.Bank q held) → declared_by s ≡ (Err (refusal.Value WrongType), s)
    unfolding go_on
    banked_bank_refused b q held f = by_bank (Err (refusal.Value WrongType)) (source_by s.0 scope bank b (sources.Bank q held) f)

    pub indexed_bank_refused : (b i d : ℕ) → FindsField s.0 scope bank b (sources.Index i d) → declared_by s ≡ (Err (refusal.Value WrongType), s)
    unfolding go_on
    indexed_bank_refused b i d f = by_bank (Err (refusal.Value WrongType)) (source_by s.0 scope bank b (sources.Index i d) f)

    module _ (b q : ℕ) (held : FindsField s.0 scope bank b (sources.Region q)) where
      -- then the value
      by_value : (x : Outcome Flow) (after : State S × ℕ) → meaning accesses (task scope depth value) s ≡ (x, after)
          → declared_by s ≡ go_on (go_on x after (λ f. settle (value_in f))).0 (go_on x after (λ f. settle (value_in f))).1 (λ v. banked_laid scope depth number b v flags fields)
      unfolding value_at operand_value settle ◌>>=◌ go_on
      by_value x after is = by_bank (Ok b) (source_by s.0 scope bank b (sources.Region q) held) ∙ rw is refl

      pub value_refused : (e : Refusal) (after : State S × ℕ) → meaning accesses (task scope depth value) s ≡ (Err e, after) → declared_by s ≡ (Err e, after)
      unfolding go_on
      value_refused e after is = by_value (Err e) after is

      pub nothing_refused : (after : State S × ℕ) → meaning accesses (task scope depth value) s ≡ (Ok flow.Next, after) → declared_by s ≡ (Err (refusal.Evaluation NoValue), after)
      unfolding settle go_on
      nothing_refused after is = by_value (Ok flow.Next) after is

      pub no_integer_refused : (v : Value) (e : Refusal) (after : State S × ℕ) → meaning accesses (task scope depth value) s ≡ (Ok (flow.Value v), after) → integer_in v after.0 ≡ (Err e, after.0) → declared_by s ≡ (Err e, after)
      unfolding banked_laid lift settle ◌>>=◌ go_on
      no_integer_refused v e after is none = by_value (Ok (flow.Value v)) after is ∙ rw none refl

      pub fields_declared : (v : Value) (n : ℕ) (after : State S × ℕ) → meaning accesses (task scope depth value) s ≡ (Ok (flow.Value v), after) → integer_in v after.0 ≡ (Ok n, after.0)
          → declared_by s ≡ fields_laid scope depth (sources.Bank number (record { field = b; value = n })) flags fields after
      unfolding banked_laid lift settle ◌>>=◌ go_on
      fields_declared v n after is one = by_value (Ok (flow.Value v)) after is ∙ rw one refl
