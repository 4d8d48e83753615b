-- A list of fields declares its elements where their names may stand, and is refused where one may not.
use Rattle.std.specs.Prelude.{◌≡◌, ◌≢◌, ◌⊎◌, ◌≤◌, ◌<◌, ◌+◌, ◌^◌, ◌==◌, ◌||◌, ℕ, suc, nat_lt, true, false, List, Some, Ok, Err, refl}
use Rattle.std.proofs.Common.{arith, ap, inl, inr, ◌∙◌}
use Rattle.std.proofs.lemmas.Bool.Decides.{nat_tests}
use Rattle.ar_space.specs.Accesses.{Accesses}
use Rattle.ar_space.specs.Outcome.{Outcome, seen}
use Rattle.ar_space.specs.Change.{give, settle, go_on, ◌>>=◌}
use Rattle.ar_space.specs.declared.refusal.Refusal.{Refusal}
use Rattle.ar_space.specs.declared.refusal.Refusal.TheVariants as refusal
use Rattle.ar_space.specs.declared.refusal.FieldFault.TheVariants.{FieldLimit}
use Rattle.ar_space.specs.declared.refusal.ValueFault.TheVariants.{WrongType}
use Rattle.aml_path.specs.declared.segment.Seg.{Seg}
use Rattle.aml_path.specs.Paths.{Name, resolved}
use Rattle.aml_grammar.specs.declared.opcode.TermCode.TheVariants as codes
use Rattle.aml_grammar.specs.Tree.{Tree, inner, Trees, no_trees, tree}
use Rattle.aml_grammar.specs.Apart.{code_of, name_of, operand_of}
use Rattle.aml_objects.specs.declared.entry.FieldSource.{FieldSource}
use Rattle.aml_objects.specs.declared.entry.FieldSource.TheVariants as sources
use Rattle.aml_objects.specs.declared.entry.NamedObject.{NamedObject}
use Rattle.aml_objects.specs.declared.entry.NamedObject.TheVariants as object
use Rattle.aml_objects.specs.declared.entry.OperationRegion.{OperationRegion}
use Rattle.aml_objects.specs.declared.value.Value.{Value}
use Rattle.aml_objects.specs.declared.value.Value.TheVariants as value
use Rattle.aml_namespace.specs.Search.{found}
use Rattle.aml_world.specs.declared.fields.field_layout.FieldLayout.{FieldLayout}
use Rattle.aml_world.specs.declared.fields.field_layout.FieldGroup.{FieldGroup}
use Rattle.aml_world.specs.declared.state.profile.Profile.TheVariants.{Wide}
use Rattle.aml_world.specs.fields.FieldLayouts.{access_width, update_rule, sized, further, new_field, connection_buffer, connection_found}
use Rattle.aml_world.specs.fields.BufferFields.{buffer_of}
use Rattle.aml_world.specs.state.Readings.{integer_in, entry_found}
use Rattle.aml_world.specs.state.Run.{lift}
use Rattle.aml_world.specs.state.State.{State}
use Rattle.aml_meaning.specs.declared.flow.Flow.{Flow}
use Rattle.aml_meaning.specs.declared.flow.Flow.TheVariants as flow
use Rattle.aml_meaning.specs.Evaluation.{rule}
use Rattle.aml_meaning.specs.FieldTerms.{named_field, reserved_field, access_field, named_connection, connection_if, connected_field, element_laid, elements_laid, fields_laid}
use Rattle.aml_meaning.specs.Meaning.{meaning}
use Rattle.aml_meaning.specs.Tasks.{task, module_level}
use Rattle.aml_meaning.specs.Terms.{number_of}
use Rattle.aml_laws.specs.BankDeclarations.{bank_field, Finds, FindsField}
use Rattle.aml_laws.specs.DeclaredObjects.{IsFree, TakesNoName, with_name}
use Rattle.aml_laws.specs.FieldLists.{unit_at, moved_on}
use Rattle.aml_laws.specs.FieldsPut.{NamesBits, IsSized, ConnectsTo, Puts, no_more, a_field, no_name, no_path, no_bits, reserved_bits, a_field_too_far, reserved_too_far, an_access, a_connection, a_named_connection, no_connection, no_buffer, PutsAll, TakesList}
use Rattle.aml_laws.specs.RegionTerms.{field, index_field}
use Rattle.aml_laws.proofs.BanksDeclared.{fields_declared}
use Rattle.aml_laws.proofs.NamesDeclared.{new_name_so}
use Rattle.aml_laws.proofs.PathsTaken.{no_new_name}
use Rattle.aml_laws.proofs.RegionsDeclared.{fields_of_region, fields_behind_index}
use Rattle.aml_laws.proofs.TreesCost.{term_begins}

-- ---- how many bits

pub size_is : (bits : ℕ) → IsSized bits → sized bits ≡ Ok bits
size_is bits h = rw (some_is bits h.some, few_is bits h.few) refl
  where
    some_is : (n : ℕ) → 0 < n → (n == 0) ≡ false
    some_is n some = grind (arith, nat_tests)

    few_is : (n : ℕ) → n ≤ 8388608 → nat_lt 8388608 n ≡ false
    few_is n few = grind (arith, nat_tests)

pub no_size : (bits : ℕ) → (bits ≡ 0) ⊎ (8388608 < bits) → sized bits ≡ Err (refusal.Field FieldLimit)
no_size bits (inl none) = rw none refl
no_size bits (inr many) =
    let some : (bits == 0) ≡ false = grind (arith, nat_tests) in
    let long : nat_lt 8388608 bits ≡ true = grind (arith, nat_tests) in
    rw (some, long) refl

further_is : (at : FieldLayout) (bits : ℕ) → at.bit_offset + bits < 2 ^ 64 → further at bits ≡ Ok (moved_on at bits)
further_is at bits near = let below : nat_lt (at.bit_offset + bits) (2 ^ 64) ≡ true = less_is (at.bit_offset + bits) (2 ^ 64) near in rw below refl
  where
    less_is : (n k : ℕ) → n < k → nat_lt n k ≡ true
    less_is n k less = grind (arith, nat_tests)

no_further : (at : FieldLayout) (bits : ℕ) → 2 ^ 64 ≤ at.bit_offset + bits → further at bits ≡ Err (refusal.Field FieldLimit)
no_further at bits far = let beyond : nat_lt (at.bit_offset + bits) (2 ^ 64) ≡ false = not_less (at.bit_offset + bits) (2 ^ 64) far in rw beyond refl
  where
    not_less : (n k : ℕ) → k ≤ n → nat_lt n k ≡ false
    not_less n k more = grind (arith, nat_tests)

-- ---- elements

module _ {S : Type 0} (group : FieldGroup) (scope : List Seg) (depth : ℕ) (at : FieldLayout) (t : Tree) (w : State S) where
  module _ (path : List Seg) (bits : ℕ) (h : NamesBits scope t path bits) where
    field_put : IsSized bits → at.bit_offset + bits < 2 ^ 64 → IsFree depth w path → named_field group scope depth at t w ≡ (Ok (moved_on at bits), with_name w path (object.FieldUnit (unit_at group at bits)))
    unfolding named_field new_field settle go_on ◌>>=◌
    field_put size near free = rw (h.names, h.resolves, h.counts, size_is bits size, new_name_so w path (object.FieldUnit (unit_at group at bits)) depth free, further_is at bits near) refl

    field_put_too_far : IsSized bits → 2 ^ 64 ≤ at.bit_offset + bits → IsFree depth w path → named_field group scope depth at t w ≡ (Err (refusal.Field FieldLimit), with_name w path (object.FieldUnit (unit_at group at bits)))
    unfolding named_field new_field settle go_on ◌>>=◌
    field_put_too_far size far free = rw (h.names, h.resolves, h.counts, size_is bits size, new_name_so w path (object.FieldUnit (unit_at group at bits)) depth free, no_further at bits far) refl

    field_stops : (e : Refusal) → IsSized bits → TakesNoName depth w path e → named_field group scope depth at t w ≡ (Err e, w)
    unfolding named_field new_field settle go_on ◌>>=◌
    field_stops e size none = rw (h.names, h.resolves, h.counts, size_is bits size, no_new_name w path (object.FieldUnit (unit_at group at bits)) depth e none) refl

    size_stops : (bits ≡ 0) ⊎ (8388608 < bits) → named_field group scope depth at t w ≡ (Err (refusal.Field FieldLimit), w)
    unfolding named_field new_field settle go_on ◌>>=◌
    size_stops none = rw (h.names, h.resolves, h.counts, no_size bits none) refl

  path_stops : (n : Name) (e : Refusal) → name_of (operand_of t 0) ≡ Ok n → resolved n scope ≡ Err e → named_field group scope depth at t w ≡ (Err e, w)
  unfolding named_field settle go_on ◌>>=◌
  path_stops n e names none = rw (names, none) refl

  passed_over : (bits : ℕ) → number_of (operand_of t 0) ≡ Ok bits → at.bit_offset + bits < 2 ^ 64 → reserved_field group scope depth at t w ≡ (Ok (moved_on at bits), w)
  unfolding reserved_field settle go_on ◌>>=◌
  passed_over bits counts near = rw (counts, further_is at bits near) refl

  passed_too_far : (bits : ℕ) → number_of (operand_of t 0) ≡ Ok bits → 2 ^ 64 ≤ at.bit_offset + bits → reserved_field group scope depth at t w ≡ (Err (refusal.Field FieldLimit), w)
  unfolding reserved_field settle go_on ◌>>=◌
  passed_too_far bits counts far = rw (counts, no_further at bits far) refl

  access_said : (flags : ℕ) → number_of (operand_of t 0) ≡ Ok flags → access_field group scope depth at t w ≡ (Ok (record at { access = access_width flags }), w)
  unfolding access_field settle give go_on ◌>>=◌
  access_said flags says = rw says refl

  -- Connections
  by_name : (n : Name) → ConnectsTo t n → element_laid group scope depth (code_of t) at t w ≡ named_connection group scope depth at t w
  by_name n h = rw (h.0, h.1) refl

  by_term : (u : Tree) → code_of t ≡ codes.ConnectField → operand_of t 0 ≡ Some (inner u) → element_laid group scope depth (code_of t) at t w ≡ (Ok at, w)
  unfolding give
  by_term u code is = rw (code, is) refl

  connected : (n : Name) (number o : ℕ) → ConnectsTo t n → Finds w scope n number (object.Data (value.Buffer o)) → named_connection group scope depth at t w ≡ (Ok at, w)
  unfolding named_connection connection_found entry_found settle give go_on ◌>>=◌
  connected n number o h f = rw (h.1, f.finds, f.is) refl

  unconnected : (n : Name) (e : Refusal) → ConnectsTo t n → found w.names.map scope n ≡ Err e → named_connection group scope depth at t w ≡ (Err e, w)
  unfolding named_connection connection_found entry_found settle go_on ◌>>=◌
  unconnected n e h lost = rw (h.1, lost) refl

  to_no_buffer : (n : Name) (number : ℕ) (o : NamedObject) → ConnectsTo t n → Finds w scope n number o → ((b : ℕ) → o ≢ object.Data (value.Buffer b)) → named_connection group scope depth at t w ≡ (Err (refusal.Value WrongType), w)
  unfolding named_connection connection_found entry_found settle go_on ◌>>=◌
  to_no_buffer n number o h f other = rw (h.1, f.finds, f.is, none o other) refl
    where
      no_data : (v : Value) → ((b : ℕ) → ◌≢◌ {A = NamedObject} (object.Data v) (object.Data (value.Buffer b))) → buffer_of v ≡ Err (refusal.Value WrongType)
      no_data value.Uninitialized other = refl
      no_data (value.Integer n) other = refl
      no_data (value.String o) other = refl
      no_data (value.Buffer o) other = absurd (other o refl)
      no_data (value.Package o) other = refl
      no_data (value.Reference r) other = refl

      none : (o : NamedObject) → ((b : ℕ) → o ≢ object.Data (value.Buffer b)) → connection_buffer o ≡ Err (refusal.Value WrongType)
      none (object.Data v) other = no_data v other
      none o other = refl

-- ---- lists

module _ {S : Type 0} (group : FieldGroup) (scope : List Seg) (depth : ℕ) where
  none_laid : (at : FieldLayout) (w : State S) → elements_laid group scope depth at no_trees w ≡ (Ok tt, w)
  unfolding elements_laid give
  none_laid at w = refl

  next_laid : (at next : FieldLayout) (t : Tree) (ts : Trees) (w v : State S) → element_laid group scope depth (code_of t) at t w ≡ (Ok next, v) → elements_laid group scope depth at (tree t ts) w ≡ elements_laid group scope depth next ts v
  unfolding elements_laid go_on ◌>>=◌
  next_laid at next t ts w v is = rw is refl

  list_stops : (at : FieldLayout) (t : Tree) (ts : Trees) (w after : State S) (e : Refusal) → element_laid group scope depth (code_of t) at t w ≡ (Err e, after) → elements_laid group scope depth at (tree t ts) w ≡ (Err e, after)
  unfolding elements_laid go_on ◌>>=◌
  list_stops at t ts w after e is = rw is refl

  access_element : (at : FieldLayout) (t : Tree) (w : State S) → (code_of t ≡ codes.AccessField) ⊎ (code_of t ≡ codes.ExtendedAccessField) → element_laid group scope depth (code_of t) at t w ≡ access_field group scope depth at t w
  access_element at t w (inl code) = rw code refl
  access_element at t w (inr code) = rw code refl

  pub all_put : (at : FieldLayout) (ts : Trees) (w : State S) (r : Outcome (Unit {0})) (after : State S) → Puts group scope depth at ts w r after → elements_laid group scope depth at ts w ≡ (r, after)
  all_put _ _ _ _ _ (no_more at w) = none_laid at w
  all_put _ _ _ _ _ (a_field at t ts w path bits r after h size near free rest) =
      next_laid at (moved_on at bits) t ts w (with_name w path (object.FieldUnit (unit_at group at bits))) (rw h.code (field_put group scope depth at t w path bits h size near free))
      ∙ all_put (moved_on at bits) ts (with_name w path (object.FieldUnit (unit_at group at bits))) r after rest
  all_put _ _ _ _ _ (no_name at t ts w path bits e h size none) = list_stops at t ts w w e (rw h.code (field_stops group scope depth at t w path bits h e size none))
  all_put _ _ _ _ _ (no_path at t ts w n e code names none) = list_stops at t ts w w e (rw code (path_stops group scope depth at t w n e names none))
  all_put _ _ _ _ _ (no_bits at t ts w path bits h none) = list_stops at t ts w w (refusal.Field FieldLimit) (rw h.code (size_stops group scope depth at t w path bits h none))
  all_put _ _ _ _ _ (reserved_bits at t ts w bits r after code counts near rest) = next_laid at (moved_on at bits) t ts w w (rw code (passed_over group scope depth at t w bits counts near)) ∙ all_put (moved_on at bits) ts w r after rest
  all_put _ _ _ _ _ (a_field_too_far at t ts w path bits h size far free) =
      list_stops at t ts w (with_name w path (object.FieldUnit (unit_at group at bits))) (refusal.Field FieldLimit) (rw h.code (field_put_too_far group scope depth at t w path bits h size far free))
  all_put _ _ _ _ _ (reserved_too_far at t ts w bits code counts far) = list_stops at t ts w w (refusal.Field FieldLimit) (rw code (passed_too_far group scope depth at t w bits counts far))
  all_put _ _ _ _ _ (an_access at t ts w flags r after code says rest) =
      next_laid at (record at { access = access_width flags }) t ts w w (access_element at t w code ∙ access_said group scope depth at t w flags says) ∙ all_put (record at { access = access_width flags }) ts w r after rest
  all_put _ _ _ _ _ (a_connection at t u ts w r after code is rest) = next_laid at at t ts w w (by_term group scope depth at t w u code is) ∙ all_put at ts w r after rest
  all_put _ _ _ _ _ (a_named_connection at t ts w n number o r after h f rest) = next_laid at at t ts w w (by_name group scope depth at t w n h ∙ connected group scope depth at t w n number o h f) ∙ all_put at ts w r after rest
  all_put _ _ _ _ _ (no_connection at t ts w n e h lost) = list_stops at t ts w w e (by_name group scope depth at t w n h ∙ unconnected group scope depth at t w n e h lost)
  all_put _ _ _ _ _ (no_buffer at t ts w n number o h f other) = list_stops at t ts w w (refusal.Value WrongType) (by_name group scope depth at t w n h ∙ to_no_buffer group scope depth at t w n number o h f other)

-- ---- terms

abbrev pub next_of : Outcome (Unit {0}) → Outcome Flow
next_of r = seen (λ done. flow.Next) r

module _ {S : Type 0} (scope : List Seg) (depth : ℕ) (source : FieldSource) (flags : ℕ) (fields : Trees) where
  list_put_by_cases : (w : State S) (steps : ℕ) (r : Outcome (Unit {0})) (after : State S) → elements_laid (record { source = source; update = update_rule flags }) scope depth (record { bit_offset = 0; access = access_width flags }) fields w ≡ (r, after)
      → fields_laid scope depth source flags fields (w, steps) ≡ (next_of r, (after, steps))
  unfolding fields_laid lift give go_on ◌>>=◌
  list_put_by_cases w steps (Ok done) after is = rw is refl
  list_put_by_cases w steps (Err e) after is = rw is refl

  list_put : (w : State S) (steps : ℕ) (r : Outcome (Unit {0})) (after : State S) → PutsAll scope depth source flags fields w r after → fields_laid scope depth source flags fields (w, steps) ≡ (next_of r, (after, steps))
  list_put w steps r after h = list_put_by_cases w steps r after (all_put (record { source = source; update = update_rule flags }) scope depth (record { bit_offset = 0; access = access_width flags }) fields w r after h)

module _ {S : Type 0} (accesses : Accesses S) (scope : List Seg) (depth : ℕ) (flags : ℕ) (fields : Trees) (w : State S) (steps : ℕ) where
  pub region_fields_put : TakesList w fields → (region : Name) (number : ℕ) (g : OperationRegion) → Finds w scope region number (object.OperationRegion g) → (r : Outcome (Unit {0})) (after : State S) → PutsAll scope depth (sources.Region number) flags fields w r after
      → meaning accesses (task scope depth (field region flags fields)) (w, suc steps) ≡ (next_of r, (after, steps))
  region_fields_put plain region number g there r after h =
      (term_begins accesses (task scope depth (field region flags fields))).paid w steps ∙ (fields_of_region accesses scope depth flags fields (w, steps) plain region number g there ∙ list_put scope depth (sources.Region number) flags fields w steps r after h)

  pub index_fields_put : TakesList w fields → (index behind : Name) (i d p q : ℕ) → FindsField w scope index i (sources.Region p) → FindsField w scope behind d (sources.Region q) → (r : Outcome (Unit {0})) (after : State S)
      → PutsAll scope depth (sources.Index i d) flags fields w r after → meaning accesses (task scope depth (index_field index behind flags fields)) (w, suc steps) ≡ (next_of r, (after, steps))
  index_fields_put plain index behind i d p q one other r after h =
      (term_begins accesses (task scope depth (index_field index behind flags fields))).paid w steps
      ∙ (fields_behind_index accesses scope depth flags fields (w, steps) plain index behind i d p q one other ∙ list_put scope depth (sources.Index i d) flags fields w steps r after h)

  pub bank_fields_put : (region bank : Name) (value : Tree) (n : ℕ) (g : OperationRegion) (b q : ℕ) (v : Value) (number : ℕ) (between : State S × ℕ) → w.profile ≡ Wide → Finds w scope region n (object.OperationRegion g) → FindsField w scope bank b (sources.Region q)
      → meaning accesses (task scope depth value) (w, steps) ≡ (Ok (flow.Value v), between) → integer_in v between.0 ≡ (Ok number, between.0) → (r : Outcome (Unit {0})) (after : State S)
      → PutsAll scope depth (sources.Bank n (record { field = b; value = number })) flags fields between.0 r after → meaning accesses (task scope depth (bank_field region bank value flags fields)) (w, suc steps) ≡ (next_of r, (after, between.1))
  bank_fields_put region bank value n g b q v number between wide there f gives one r after h =
      (term_begins accesses (task scope depth (bank_field region bank value flags fields))).paid w steps
      ∙ (fields_declared accesses scope depth region bank value flags fields (w, steps) wide n g there b q f v number between gives one ∙ list_put scope depth (sources.Bank n (record { field = b; value = number })) flags fields between.0 between.1 r after h)
