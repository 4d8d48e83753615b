-- What OperationRegion, Field and IndexField terms declare.
use Rattle.std.specs.Prelude.{◌≡◌, ◌≢◌, ◌<◌, ◌+◌, ◌*◌, ◌/◌, ◌%◌, ◌==◌, ℕ, suc, List, Bool, true, false, Some, Ok, Err, refl, if◌then◌else◌}
use Rattle.std.proofs.Common.{ap, sym, subst, arith, ◌∙◌}
use Rattle.std.proofs.lemmas.Bool.{eqb-true}
use Rattle.std.proofs.lemmas.Nat.{div-mul-add, mod-mul-add}
use Rattle.std.specs.FinMap.{get}
use Rattle.ar_space.specs.declared.space.Width.{Width}
use Rattle.ar_space.specs.declared.space.Width.TheVariants.{W8, W16, W32, W64}
use Rattle.ar_space.specs.declared.refusal.Refusal.{Refusal}
use Rattle.ar_space.specs.Accesses.{Accesses}
use Rattle.ar_space.specs.Change.{give, settle, go_on, ◌>>=◌}
use Rattle.ar_space.specs.Outcome.{Outcome}
use Rattle.aml_path.specs.declared.segment.Seg.{Seg}
use Rattle.aml_path.specs.Paths.{Name, resolved}
use Rattle.aml_grammar.specs.Apart.{code_of}
use Rattle.aml_grammar.specs.Tree.{Tree, term, Trees, no_trees, tree}
use Rattle.aml_grammar.specs.declared.opcode.Opcode.{Opcode}
use Rattle.aml_grammar.specs.declared.opcode.Opcode.TheVariants as opcodes
use Rattle.aml_grammar.specs.declared.opcode.TermCode.TheVariants as codes
use Rattle.aml_objects.specs.declared.entry.FieldSource.TheVariants as sources
use Rattle.aml_objects.specs.declared.entry.FieldUnit.{FieldUnit}
use Rattle.aml_objects.specs.declared.entry.NamedObject.{NamedObject}
use Rattle.aml_objects.specs.declared.entry.NamedObject.TheVariants as object
use Rattle.aml_objects.specs.declared.entry.OperationRegion.{OperationRegion}
use Rattle.aml_objects.specs.declared.entry.UpdateRule.{UpdateRule}
use Rattle.aml_objects.specs.declared.entry.UpdateRule.TheVariants.{Preserve, WriteAsOnes, WriteAsZeros}
use Rattle.aml_objects.specs.declared.value.Value.{Value}
use Rattle.aml_world.specs.declared.state.profile.Profile.TheVariants as profiles
use Rattle.aml_world.specs.state.Declaring.{new_name}
use Rattle.aml_world.specs.fields.FieldLayouts.{width_numbered, access_width, rule_numbered, update_rule}
use Rattle.aml_world.specs.state.Profiles.{asked_for}
use Rattle.aml_world.specs.state.Readings.{integer_in}
use Rattle.aml_world.specs.state.Run.{Run, lift}
use Rattle.aml_world.specs.state.State.{State}
use Rattle.aml_meaning.specs.declared.flow.Flow.{Flow}
use Rattle.aml_meaning.specs.declared.flow.Flow.TheVariants as flow
use Rattle.aml_meaning.specs.DeclarationTerms.{declaring}
use Rattle.aml_meaning.specs.Evaluation.{rule}
use Rattle.aml_meaning.specs.FieldTerms.{is_connection, has_connection, asked_if, connections_asked, region_rule, field_list_rule, index_list_rule, fields_laid}
use Rattle.aml_meaning.specs.Meaning.{meaning}
use Rattle.aml_meaning.specs.Tasks.{Task, task, module_level, operand_value, value_at}
use Rattle.aml_laws.specs.BankDeclarations.{Finds, FindsField}
use Rattle.aml_laws.specs.FieldsPut.{TakesList, of_any, of_fields, FindsNoRegion, FindsNoUnit}
use Rattle.aml_laws.specs.OperatorTerms.{IsRefused}
use Rattle.aml_laws.specs.ProfileTerms.{Connects, here, later}
use Rattle.aml_laws.specs.RegionTerms.{operation_region, field, index_field, IsRegionAt, HasFlags}
use Rattle.aml_laws.proofs.BanksDeclared.{region_there, none_there, source_by, no_unit_there}
use Rattle.aml_laws.proofs.FieldsInOrder.{Put, entry_put, new_name_puts}
use Rattle.aml_laws.proofs.TreesCost.{term_begins}

-- ---- a name that is declared

module _ {S : Type 0} (path : List Seg) (r : OperationRegion) where
  region_put : (w v : State S) → Put path (object.OperationRegion r) w.names.map v.names.map → IsRegionAt v.names.map path r
  region_put w v put = record {
    entry = record { number = put.number; object = object.OperationRegion r };
    stands = ap (λ m. get m path) put.is ∙ entry_put w.names.map path (record { number = put.number; object = object.OperationRegion r });
    is = refl;
  }

  by_new : (ml : Bool) (w : State S) (steps : ℕ) (f : Flow) (after : State S × ℕ) → (lift (new_name ml path (object.OperationRegion r)) >>= (λ n. give flow.Next)) (w, steps) ≡ (Ok f, after) → IsRegionAt after.0.names.map path r
  unfolding lift ◌>>=◌ go_on give
  by_new ml w steps f after e = by (new_name ml path (object.OperationRegion r) w).0 (new_name ml path (object.OperationRegion r) w).1 refl e
    where
      by : (x : Outcome ℕ) (v : State S) → new_name ml path (object.OperationRegion r) w ≡ (x, v) → go_on x (v, steps) (λ n. give flow.Next) ≡ (Ok f, after) → IsRegionAt after.0.names.map path r
      by (Ok n) v is e = subst (λ (u : State S). IsRegionAt u.names.map path r) (ap (λ (p : Outcome Flow × (State S × ℕ)). p.1.0) e) (region_put w v (new_name_puts ml path (object.OperationRegion r) w v n is))
      by (Err x) v is e = absurd (cc (ap (λ (p : Outcome Flow × (State S × ℕ)). p.0) e))

-- ---- OperationRegion

module _ {S : Type 0} (accesses : Accesses S) (scope : List Seg) (depth : ℕ) (n : Name) (space : ℕ) (offset size : Tree) (s t r after : State S × ℕ) (v u : Value) (x y : ℕ) (path : List Seg) (f : Flow)
    (first : meaning accesses (task scope depth offset) s ≡ (Ok (flow.Value v), t)) (second : meaning accesses (task scope depth size) t ≡ (Ok (flow.Value u), r)) (begins : integer_in v r.0 ≡ (Ok x, r.0)) (long : integer_in u r.0 ≡ (Ok y, r.0)) where
  abbrev kept : OperationRegion
  kept = record { space = space % 256; offset = x; length = y }

  declared_by : rule accesses (meaning accesses) (task scope depth (operation_region n space offset size)) s ≡ declaring (meaning accesses) scope depth (operation_region n space offset size) 0 (object.OperationRegion kept) r
  unfolding rule region_rule value_at operand_value settle lift ◌>>=◌ go_on
  declared_by = rw (first, second, begins, long) refl

  named_so : resolved n scope ≡ Ok path → declaring (meaning accesses) scope depth (operation_region n space offset size) 0 (object.OperationRegion kept) r ≡ (lift (new_name (module_level depth) path (object.OperationRegion kept)) >>= (λ number. give flow.Next)) r
  unfolding declaring settle ◌>>=◌ go_on
  named_so at = rw at refl

  pub region_stands : space < 256 → resolved n scope ≡ Ok path → rule accesses (meaning accesses) (task scope depth (operation_region n space offset size)) s ≡ (Ok f, after) → IsRegionAt after.0.names.map path (record { space = space; offset = x; length = y })
  region_stands small at e =
      let byte : space % 256 ≡ space = omega arith in
      subst (λ k. IsRegionAt after.0.names.map path (record { space = k; offset = x; length = y })) byte
      (by_new path kept (module_level depth) r.0 r.1 f after (sym (named_so at) ∙ (sym declared_by ∙ e)))

-- ---- Field and IndexField

-- no Connection stands in a list
none_first : (t : Tree) (others : Trees) → (Connects (tree t others) → ⊥) → is_connection (code_of t) ≡ false
none_first (term codes.ConnectField ps) others none = absurd (none (here ps others))
none_first (term codes.Name ps) others none = refl
none_first (term codes.MethodInvocation ps) others none = refl
none_first (term codes.NamedField ps) others none = refl
none_first (term codes.ReservedField ps) others none = refl
none_first (term codes.AccessField ps) others none = refl
none_first (term codes.ExtendedAccessField ps) others none = refl
none_first (term (codes.Opcode op) ps) others none = refl

none_connects : (fields : Trees) → (Connects fields → ⊥) → has_connection fields ≡ false
unfolding has_connection
none_connects no_trees none = refl
none_connects (tree t others) none = rw (none_first t others none) (none_connects others (λ h. none (later t others h)))

-- a list that a profile takes
module _ {S : Type 0} (w : State S) (fields : Trees) (op : Opcode) where
  asked_in_any : w.profile ≡ profiles.Wide → (b : Bool) → asked_if b op w ≡ (Ok tt, w)
  unfolding asked_for give
  asked_in_any wide true = rw wide refl
  asked_in_any wide false = refl

  pub list_taken : TakesList w fields → connections_asked op fields w ≡ (Ok tt, w)
  unfolding give
  list_taken (of_any wide) = asked_in_any wide (has_connection fields)
  list_taken (of_fields none) = rw (none_connects fields none) refl

module _ {S : Type 0} (accesses : Accesses S) (scope : List Seg) (depth : ℕ) (flags : ℕ) (fields : Trees) (s : State S × ℕ) (takes : TakesList s.0 fields) where
  pub fields_of_region : (region : Name) (number : ℕ) (r : OperationRegion) → Finds s.0 scope region number (object.OperationRegion r)
      → rule accesses (meaning accesses) (task scope depth (field region flags fields)) s ≡ fields_laid scope depth (sources.Region number) flags fields s
  unfolding rule field_list_rule settle lift give ◌>>=◌ go_on
  fields_of_region region number r there = rw (list_taken s.0 fields opcodes.Field takes, region_there s.0 scope region number r there) refl

  pub fields_behind_index : (index behind : Name) (i d p q : ℕ) → FindsField s.0 scope index i (sources.Region p) → FindsField s.0 scope behind d (sources.Region q)
      → rule accesses (meaning accesses) (task scope depth (index_field index behind flags fields)) s ≡ fields_laid scope depth (sources.Index i d) flags fields s
  unfolding rule index_list_rule settle lift give ◌>>=◌ go_on
  fields_behind_index index behind i d p q one other = rw (list_taken s.0 fields opcodes.IndexField takes, source_by s.0 scope index i (sources.Region p) one, source_by s.0 scope behind d (sources.Region q) other) refl

  -- what the names have to find
  pub no_list_in_region : (region : Name) (e : Refusal) → FindsNoRegion s.0 scope region e → rule accesses (meaning accesses) (task scope depth (field region flags fields)) s ≡ (Err e, s)
  unfolding rule field_list_rule settle lift give ◌>>=◌ go_on
  no_list_in_region region e none = rw (list_taken s.0 fields opcodes.Field takes, none_there s.0 scope region e none) refl

  pub no_list_by_index : (index behind : Name) (e : Refusal) → FindsNoUnit s.0 scope index e → rule accesses (meaning accesses) (task scope depth (index_field index behind flags fields)) s ≡ (Err e, s)
  unfolding rule index_list_rule settle lift give ◌>>=◌ go_on
  no_list_by_index index behind e none = rw (list_taken s.0 fields opcodes.IndexField takes, no_unit_there s.0 scope index e none) refl

  pub no_list_of_data : (index behind : Name) (i p : ℕ) (e : Refusal) → FindsField s.0 scope index i (sources.Region p) → FindsNoUnit s.0 scope behind e → rule accesses (meaning accesses) (task scope depth (index_field index behind flags fields)) s ≡ (Err e, s)
  unfolding rule index_list_rule settle lift give ◌>>=◌ go_on
  no_list_of_data index behind i p e one none = rw (list_taken s.0 fields opcodes.IndexField takes, source_by s.0 scope index i (sources.Region p) one, no_unit_there s.0 scope behind e none) refl

module _ {S : Type 0} (accesses : Accesses S) (scope : List Seg) (depth : ℕ) (flags : ℕ) (fields : Trees) (w : State S) (steps : ℕ) (takes : TakesList w fields) where
  pub region_asked : (region : Name) (e : Refusal) → FindsNoRegion w scope region e → IsRefused accesses scope depth (field region flags fields) (w, suc steps) e (w, steps)
  region_asked region e none = (term_begins accesses (task scope depth (field region flags fields))).paid w steps ∙ no_list_in_region accesses scope depth flags fields (w, steps) takes region e none

  pub index_asked : (index behind : Name) (e : Refusal) → FindsNoUnit w scope index e → IsRefused accesses scope depth (index_field index behind flags fields) (w, suc steps) e (w, steps)
  index_asked index behind e none = (term_begins accesses (task scope depth (index_field index behind flags fields))).paid w steps ∙ no_list_by_index accesses scope depth flags fields (w, steps) takes index behind e none

  pub data_asked : (index behind : Name) (i p : ℕ) (e : Refusal) → FindsField w scope index i (sources.Region p) → FindsNoUnit w scope behind e → IsRefused accesses scope depth (index_field index behind flags fields) (w, suc steps) e (w, steps)
  data_asked index behind i p e one none = (term_begins accesses (task scope depth (index_field index behind flags fields))).paid w steps ∙ no_list_of_data accesses scope depth flags fields (w, steps) takes index behind i p e one none

-- ---- field flags

other_number : {A : Type 0} (n k : ℕ) (a b : A) → (n ≡ k → ⊥) → (if n == k then a else b) ≡ b
other_number {A} n k a b differ = by (n == k) refl
  where
    by : (c : Bool) → (n == k) ≡ c → (if c then a else b) ≡ b
    by true is = absurd (differ (eqb-true n k is))
    by false is = refl

module _ (flags access update : ℕ) (h : HasFlags flags access update) where
  access_is : flags % 16 ≡ access
  access_is =
      let is : flags ≡ (h.lock + 2 * update + 8 * h.further) * 16 + access = omega (arith, h.is) in
      ap (λ n. n % 16) is ∙ mod-mul-add (h.lock + 2 * update + 8 * h.further) 16 access h.small

  update_is : flags / 32 % 4 ≡ update
  update_is =
      let low : access + 16 * h.lock < 32 = omega (arith, h.small, h.a_bit) in
      let is : flags ≡ (update + 4 * h.further) * 32 + (access + 16 * h.lock) = omega (arith, h.is) in
      let up : update + 4 * h.further ≡ h.further * 4 + update = omega arith in
      ap (λ n. n / 32 % 4) is ∙ (ap (λ n. n % 4) (div-mul-add (update + 4 * h.further) 32 (access + 16 * h.lock) low) ∙ (ap (λ n. n % 4) up ∙ mod-mul-add h.further 4 update h.few))

  pub width_is : (w : Width) → width_numbered access ≡ w → access_width flags ≡ w
  width_is w is = ap width_numbered access_is ∙ is

  pub rule_is : (u : UpdateRule) → rule_numbered update ≡ u → update_rule flags ≡ u
  rule_is u is = ap rule_numbered update_is ∙ is

pub byte_accesses : (flags access update : ℕ) → HasFlags flags access update → (access ≡ 2 → ⊥) → (access ≡ 3 → ⊥) → (access ≡ 4 → ⊥) → access_width flags ≡ W8
byte_accesses flags access update h a b c = width_is flags access update h W8
    (other_number access 2 W16 (if access == 3 then W32 else (if access == 4 then W64 else W8)) a ∙ (other_number access 3 W32 (if access == 4 then W64 else W8) b ∙ other_number access 4 W64 W8 c))

pub wider_accesses : (flags update : ℕ) → (HasFlags flags 2 update → access_width flags ≡ W16) × (HasFlags flags 3 update → access_width flags ≡ W32) × (HasFlags flags 4 update → access_width flags ≡ W64)
wider_accesses flags update = (λ h. width_is flags 2 update h W16 refl, λ h. width_is flags 3 update h W32 refl, λ h. width_is flags 4 update h W64 refl)

pub update_rules : (flags access : ℕ) → (HasFlags flags access 0 → update_rule flags ≡ Preserve) × (HasFlags flags access 1 → update_rule flags ≡ WriteAsOnes) × (HasFlags flags access 2 → update_rule flags ≡ WriteAsZeros)
update_rules flags access = (λ h. rule_is flags access 0 h Preserve refl, λ h. rule_is flags access 1 h WriteAsOnes refl, λ h. rule_is flags access 2 h WriteAsZeros refl)

pub no_update_rule : (flags access : ℕ) → HasFlags flags access 3 → update_rule flags ≡ Preserve
no_update_rule flags access h = rule_is flags access 3 h Preserve refl
