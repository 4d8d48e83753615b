-- Reading, writing and declaring fields preserve every world relation.
use Rattle.std.specs.Prelude.{◌≡◌, ℕ, nat_lt, List, [], ◌∷◌, ◌++◌, Bool, Option, Some, None, Ok, Err, Contains, refl, true, false}
use Rattle.std.proofs.Common.{inl, inr, subst, sym}
use Rattle.std.proofs.lemmas.List.Elements.{Contains-append_right}
use Rattle.ar_space.specs.Accesses.{Accesses}
use Rattle.ar_space.specs.Outcome.{Outcome}
use Rattle.ar_space.specs.Change.{Change, settle, go_on, ◌>>=◌}
use Rattle.ar_space.specs.declared.space.Width.{Width}
use Rattle.aml_path.specs.declared.segment.Seg.{Seg}
use Rattle.aml_path.specs.Paths.{Name}
use Rattle.aml_grammar.specs.declared.opcode.TermCode.{TermCode}
use Rattle.aml_grammar.specs.declared.opcode.TermCode.TheVariants as codes
use Rattle.aml_grammar.specs.Tree.{Tree, Trees, no_trees, tree}
use Rattle.aml_grammar.specs.Apart.{code_of, operand_of}
use Rattle.aml_objects.specs.Objects.{make_buffer}
use Rattle.aml_objects.specs.declared.value.Value.{Value}
use Rattle.aml_objects.specs.declared.entry.Field.{Field}
use Rattle.aml_objects.specs.declared.entry.Field.TheVariants as field
use Rattle.aml_objects.specs.declared.entry.FieldUnit.{FieldUnit}
use Rattle.aml_objects.specs.declared.entry.OperationRegion.{OperationRegion}
use Rattle.aml_objects.specs.declared.entry.FieldSource.{FieldSource}
use Rattle.aml_objects.specs.declared.entry.FieldSource.TheVariants as sources
use Rattle.aml_convert.specs.Integers.{bits_of}
use Rattle.aml_fields.specs.declared.field_units.Unit.{Unit as Access}
use Rattle.aml_fields.specs.declared.region.AddressSpace.{AddressSpace}
use Rattle.aml_fields.specs.declared.region.Region.{Region}
use Rattle.aml_fields.specs.Regions.{read_field, write_field}
use Rattle.aml_fields.specs.Units.{units_of}
use Rattle.aml_world.specs.declared.fields.field_layout.FieldLayout.{FieldLayout}
use Rattle.aml_world.specs.declared.fields.field_layout.FieldGroup.{FieldGroup}
use Rattle.aml_world.specs.declared.fields.pci_functions.Sought.{Sought}
use Rattle.aml_world.specs.declared.values.object_type.Referent.{Referent}
use Rattle.aml_world.specs.declared.state.profile.Profile.TheVariants as profiles
use Rattle.aml_world.specs.declared.fields.regions.RegionSpace.{RegionSpace}
use Rattle.aml_world.specs.declared.fields.regions.RegionSpace.TheVariants as kinds
use Rattle.aml_world.specs.declared.fields.regions.RegionField.{RegionField}
use Rattle.aml_world.specs.state.State.{State, on_space}
use Rattle.aml_world.specs.state.Run.{Run, lift}
use Rattle.aml_world.specs.state.Given.{Given}
use Rattle.aml_world.specs.fields.PciFunctions.{adr, segment_group, base_bus, nearest, pci_function}
use Rattle.aml_world.specs.fields.Bridges.{bridges_to, bridges_above}
use Rattle.aml_world.specs.fields.Regions.{pci_space, region_declared, field_declared, integer_of_bits, integer_value, value_of_bits, integer_alone, referent_of_bits, given_of_bits}
use Rattle.aml_world.specs.fields.Fields.{part_in, inherited, bus_behind, bus_behind_all, pci_address, space_at, located, region_bits, region_written, index_unit, index_unit_written, index_bits, index_written, field_unit_bits, field_unit_written, bits_in, written_in, field_value, field_integer, field_part, field_referent, field_stored, field_given, bank_selected, bank_unit, bank_unit_written, bank_bits, bank_written}
use Rattle.aml_world.specs.fields.FieldLayouts.{connection_found, new_field, region_found, field_found}
use Rattle.aml_meaning.specs.Terms.{is_named}
use Rattle.aml_meaning.specs.FieldTerms.{named_connection, connection_if, named_field, reserved_field, access_field, element_laid, elements_laid}
use Rattle.aml_laws.specs.Histories.{LiesInRegion, by_field, by_bank_field}
use Rattle.aml_laws.proofs.Preorders.{either_branch, first_of, bits_read_respects, units_read_respects, write_units_respects, each_written_respects, kept_respects, Preorder, Respects, then_respects}
use Rattle.aml_laws.proofs.ObjectKinds.{make_buffer_keeps_kinds, read_buffer_field_keeps_kinds, write_buffer_field_keeps_kinds}
use Rattle.aml_laws.proofs.FieldUnitsFound.{lift_finds, LiesInItsRegion, field_declared_finds, field_declared_lies}
use Rattle.aml_laws.proofs.KnownFieldUnits.{by_any, by_respects, respects_by, give_by, then_by, such_found_then}
use Rattle.aml_laws.proofs.BridgesAsked.{secondary_bus_leads, MayAsk, function_may_ask}
use Rattle.aml_laws.proofs.ChangesNothing.{pci_function_changes_nothing}
use Rattle.aml_laws.proofs.LocatedRegions.{LocatedIn, AsksObjects, IsLocated, located_in}
use Rattle.aml_laws.proofs.RegisterAccesses.{IsRegion, OnlyWithin, read_field_only_within, write_field_only_within, read_unit_only_within, write_whole_only_within}
use Rattle.aml_laws.proofs.WorldRelations.{WorldRelationOf, Preserves, RunPreserves, RunPreservesFrom, RunPreservesBy, units_of_field, run_preserves_from, then_preserves_from, unchanged_preserves, give_preserves, stop_preserves, settle_preserves, then_preserves, on_objects_preserves, run_give_preserves, run_stop_preserves, run_settle_preserves, lift_preserves, run_then_preserves}
use Rattle.aml_laws.proofs.ChangesPreserve.{entry_found_preserves, new_name_preserves}
use Rattle.aml_laws.proofs.StoreTargetsPreserve.{declaration_preserves, bytes_in_preserves}

module _ {S : Type 0} {listed : Bool} {accesses : Accesses S} {relation : WorldRelationOf listed accesses} where
  -- ---- changes of the world

  pub nearest_preserves : (x : Sought) (q : List Seg) → Preserves relation (nearest x q)
  unfolding nearest
  nearest_preserves x q = unchanged_preserves _ (λ w. refl)

  pub region_declared_preserves : (n : ℕ) → Preserves relation (region_declared n)
  unfolding region_declared
  region_declared_preserves n = then_preserves _ _ (declaration_preserves n) (λ e. then_preserves _ _ (settle_preserves _) (λ r. give_preserves _))

  pub field_declared_preserves : (n : ℕ) → Preserves relation (field_declared n)
  unfolding field_declared
  field_declared_preserves n = then_preserves _ _ (declaration_preserves n) (λ e. settle_preserves _)

  pub integer_of_bits_preserves : (bytes : List ℕ) → Preserves relation (integer_of_bits bytes)
  unfolding integer_of_bits
  integer_of_bits_preserves bytes = unchanged_preserves _ (λ w. refl)

  integer_value_preserves : (bytes : List ℕ) → Preserves relation (integer_value bytes)
  unfolding integer_value
  integer_value_preserves bytes = then_preserves _ _ (integer_of_bits_preserves bytes) (λ n. give_preserves _)

  pub integer_alone_preserves : (count : ℕ) (bytes : List ℕ) → Preserves relation (integer_alone count bytes)
  unfolding integer_alone
  integer_alone_preserves count bytes = record { preserves = λ w. either_branch (λ (x : Outcome ℕ × State S). relation.Leads w x.1) (nat_lt (bits_of w.width) count) _ _ (relation.reflexive w) ((integer_of_bits_preserves bytes).preserves w) }

  pub referent_of_bits_preserves : (count : ℕ) (bytes : List ℕ) → Preserves relation (referent_of_bits count bytes)
  unfolding referent_of_bits
  referent_of_bits_preserves count bytes = record { preserves = λ w. either_branch (λ (x : Outcome Referent × State S). relation.Leads w x.1) (nat_lt (bits_of w.width) count) _ _ (relation.reflexive w) (relation.reflexive w) }

  pub value_of_bits_preserves : (count : ℕ) (bytes : List ℕ) → Preserves relation (value_of_bits count bytes)
  unfolding value_of_bits
  value_of_bits_preserves count bytes = record { preserves = λ w. either_branch (λ (x : Outcome Value × State S). relation.Leads w x.1) (nat_lt (bits_of w.width) count) _ _ ((on_objects_preserves {relation = relation} (make_buffer bytes) (make_buffer_keeps_kinds bytes)).preserves w) ((integer_value_preserves bytes).preserves w) }

  pub given_of_bits_preserves : (count : ℕ) (bytes : List ℕ) → Preserves relation (given_of_bits count bytes)
  unfolding given_of_bits
  given_of_bits_preserves count bytes = record { preserves = λ w. either_branch (λ (x : Outcome Given × State S). relation.Leads w x.1) (nat_lt (bits_of w.width) count) _ _ (relation.reflexive w) (relation.reflexive w) }

  -- ---- declarations

  new_field_preserves : (group : FieldGroup) (module_level : Bool) (q : List Seg) (at : FieldLayout) (count : ℕ) → Preserves relation (new_field group module_level q at count)
  unfolding new_field
  new_field_preserves group module_level q at count = then_preserves _ _ (settle_preserves _) (λ bits. then_preserves _ _ (new_name_preserves module_level q _) (λ number. settle_preserves _))

  named_field_preserves : (group : FieldGroup) (scope : List Seg) (depth : ℕ) (at : FieldLayout) (t : Tree) → Preserves relation (named_field group scope depth at t)
  unfolding named_field
  named_field_preserves group scope depth at t = then_preserves _ _ (settle_preserves _) (λ n. then_preserves _ _ (settle_preserves _) (λ q. then_preserves _ _ (settle_preserves _) (λ count. new_field_preserves group _ q at count)))

  reserved_field_preserves : (group : FieldGroup) (scope : List Seg) (depth : ℕ) (at : FieldLayout) (t : Tree) → Preserves relation (reserved_field group scope depth at t)
  unfolding reserved_field
  reserved_field_preserves group scope depth at t = then_preserves _ _ (settle_preserves _) (λ count. settle_preserves _)

  access_field_preserves : (group : FieldGroup) (scope : List Seg) (depth : ℕ) (at : FieldLayout) (t : Tree) → Preserves relation (access_field group scope depth at t)
  unfolding access_field
  access_field_preserves group scope depth at t = then_preserves _ _ (settle_preserves _) (λ flags. give_preserves _)

  connection_found_preserves : (scope : List Seg) (n : Name) → Preserves relation (connection_found scope n)
  unfolding connection_found
  connection_found_preserves scope n = then_preserves _ _ (entry_found_preserves scope n) (λ e. settle_preserves _)

  connection_if_preserves : (group : FieldGroup) (scope : List Seg) (depth : ℕ) (named : Bool) (at : FieldLayout) (t : Tree) → Preserves relation (connection_if group scope depth named at t)
  unfolding named_connection
  connection_if_preserves group scope depth true at t = then_preserves _ _ (settle_preserves _) (λ n. then_preserves _ _ (connection_found_preserves scope n) (λ buffer. give_preserves _))
  connection_if_preserves group scope depth false at t = give_preserves _

  element_laid_preserves : (group : FieldGroup) (scope : List Seg) (depth : ℕ) (c : TermCode) (at : FieldLayout) (t : Tree) → Preserves relation (element_laid group scope depth c at t)
  element_laid_preserves group scope depth codes.NamedField at t = named_field_preserves group scope depth at t
  element_laid_preserves group scope depth codes.ReservedField at t = reserved_field_preserves group scope depth at t
  element_laid_preserves group scope depth codes.AccessField at t = access_field_preserves group scope depth at t
  element_laid_preserves group scope depth codes.ExtendedAccessField at t = access_field_preserves group scope depth at t
  element_laid_preserves group scope depth codes.ConnectField at t = connection_if_preserves group scope depth (is_named (operand_of t 0)) at t
  element_laid_preserves group scope depth codes.Name at t = stop_preserves _
  element_laid_preserves group scope depth codes.MethodInvocation at t = stop_preserves _
  element_laid_preserves group scope depth (codes.Opcode op) at t = stop_preserves _

  pub elements_laid_preserves : (group : FieldGroup) (scope : List Seg) (depth : ℕ) (at : FieldLayout) (ts : Trees) → Preserves relation (elements_laid group scope depth at ts)
  unfolding elements_laid
  elements_laid_preserves group scope depth at no_trees = give_preserves _
  elements_laid_preserves group scope depth at (tree t ts) = then_preserves _ _ (element_laid_preserves group scope depth (code_of t) at t) (λ next. elements_laid_preserves group scope depth next ts)

  pub region_found_preserves : (scope : List Seg) (n : Name) → Preserves relation (region_found scope n)
  unfolding region_found
  region_found_preserves scope n = then_preserves _ _ (entry_found_preserves scope n) (λ e. settle_preserves _)

  pub field_found_preserves : (scope : List Seg) (n : Name) → Preserves relation (field_found scope n)
  unfolding field_found
  field_found_preserves scope n = then_preserves _ _ (entry_found_preserves scope n) (λ e. settle_preserves _)

-- ---- field units

module _ {S : Type 0} {listed : Bool} {accesses : Accesses S} {relation : WorldRelationOf listed accesses} (call : List Seg → Run S ℕ) (each : (q : List Seg) → RunPreserves relation (call q)) (asks : relation.told ≡ true → AsksObjects accesses call) where
  part_in_preserves : (s : Seg) (o : Option (List Seg)) → RunPreserves relation (part_in accesses call s o)
  part_in_preserves s None = run_give_preserves _
  part_in_preserves s (Some q) = each _

  inherited_preserves : (s : Seg) (q : List Seg) → RunPreserves relation (inherited accesses call s q)
  unfolding inherited
  inherited_preserves s q = run_then_preserves _ _ (lift_preserves _ (nearest_preserves _ q)) (λ o. part_in_preserves s o)

  -- what comes from where one world has come: bridges are asked where the function that was found lies behind any
  bus_behind_preserves : (u : State S) → u.profile ≡ profiles.Wide → (seg bus : ℕ) (q : List Seg) → RunPreservesFrom relation u (bus_behind accesses call seg bus q)
  unfolding bus_behind lift on_space
  bus_behind_preserves u wide seg bus q = then_preserves_from u _ _ (run_preserves_from u _ (each _)) (λ address. record { preserves_from = λ s i. (secondary_bus_leads relation u wide seg bus address).respects s.0.space s.0 i })

  bus_behind_wide_preserves : (u : State S) → u.profile ≡ profiles.Wide → (seg bus : ℕ) (qs : List (List Seg)) → RunPreservesFrom relation u (bus_behind_all accesses call seg bus qs)
  unfolding bus_behind_all
  bus_behind_wide_preserves u wide seg bus [] = run_preserves_from u _ (run_give_preserves _)
  bus_behind_wide_preserves u wide seg bus (q ∷ qs) = then_preserves_from u _ _ (bus_behind_preserves u wide seg bus q) (λ behind. bus_behind_wide_preserves u wide seg behind qs)

  bus_behind_all_preserves : (u : State S) (seg bus : ℕ) (qs : List (List Seg)) → MayAsk u qs → RunPreservesFrom relation u (bus_behind_all accesses call seg bus qs)
  unfolding bus_behind_all
  bus_behind_all_preserves u seg bus qs (inl wide) = bus_behind_wide_preserves u wide seg bus qs
  bus_behind_all_preserves u seg bus qs (inr none) = subst (λ l. RunPreservesFrom relation u (bus_behind_all accesses call seg bus l)) (sym none) (run_preserves_from u _ (run_give_preserves _))

  -- a function is found, and the world stays
  found_by_cases : (u v : State S) (n : ℕ) (x : Outcome (List Seg)) (k : List Seg → Run S AddressSpace) → v ≡ u → ((q : List Seg) → x ≡ Ok q → relation.Leads u (k q (u, n)).1.0) → relation.Leads u (go_on x (v, n) k).1.0
  unfolding go_on
  found_by_cases u v n (Ok q) k e h = subst (λ w. relation.Leads u (k q (w, n)).1.0) (sym e) (h q refl)
  found_by_cases u v n (Err x) k e h = subst (relation.Leads u) (sym e) (relation.reflexive u)

  -- the address of a function, once the bridges above it are known
  abbrev address_of : List Seg → List (List Seg) → Run S AddressSpace
  address_of q bridges = do
    seg ← inherited accesses call segment_group q
    bus ← inherited accesses call base_bus q
    behind ← bus_behind_all accesses call seg bus bridges
    address ← call (q ++ adr ∷ [])
    settle (pci_space seg behind address)

  address_of_preserves : (u : State S) (q : List Seg) (bridges : List (List Seg)) → MayAsk u bridges → RunPreservesFrom relation u (address_of q bridges)
  address_of_preserves u q bridges may =
      then_preserves_from u _ _ (run_preserves_from u _ (inherited_preserves _ q)) (λ seg.
      then_preserves_from u _ _ (run_preserves_from u _ (inherited_preserves _ q)) (λ bus.
      then_preserves_from u _ _ (bus_behind_all_preserves u seg bus bridges may) (λ behind.
      run_preserves_from u _ (run_then_preserves _ _ (each _) (λ address. run_settle_preserves _)))))

  pci_address_preserves : (scope : List Seg) → RunPreserves relation (pci_address accesses call scope)
  unfolding pci_address bridges_above lift ◌>>=◌ go_on
  pci_address_preserves scope = record {
    preserves = λ s. found_by_cases s.0 (pci_function scope s.0).1 s.1 (pci_function scope s.0).0 _ (pci_function_changes_nothing scope s.0)
        (λ q e. (address_of_preserves s.0 q (bridges_to s.0.names.map q) (function_may_ask scope s.0 q e)).preserves_from s (relation.reflexive s.0));
  }

  space_at_preserves : (k : RegionSpace) (scope : List Seg) → RunPreserves relation (space_at accesses call k scope)
  space_at_preserves kinds.SystemMemory scope = run_give_preserves _
  space_at_preserves kinds.SystemIo scope = run_give_preserves _
  space_at_preserves kinds.PciConfig scope = pci_address_preserves scope
  space_at_preserves kinds.Other scope = run_stop_preserves _

  located_preserves : (n : ℕ) → RunPreserves relation (located accesses call n)
  unfolding located
  located_preserves n = run_then_preserves _ _ (lift_preserves _ (region_declared_preserves n)) (λ d. run_then_preserves _ _ (space_at_preserves _ d.0) (λ space. run_give_preserves _))

  located_so : (u : State S) (n : ℕ) (r : Region) (at : LocatedIn accesses call u n r) → relation.told ≡ true → IsLocated accesses u at.stands.path r.space
  located_so u n r at told = record { call = call; asks = asks told; answers = at.answers }

  -- ---- field units that are known

  -- a field unit of a region is known
  record IsKnown (known : List FieldUnit) (f : RegionField) : Type 0 where
    is : Contains known f.unit
    lies : LiesInRegion f.unit.source f.region

  module _ (known : List FieldUnit) where
    abbrev By : {A : Type 0} → Run S A → Type 0
    By m = RunPreservesBy relation known m

    -- a region is accessed as it was declared when it was located
    region_led : {A : Type 0} (u : State S) (n : ℕ) (r : Region) (at : LocatedIn accesses call u n r) (s : State S) (f : FieldUnit) (m : Change S A) → Contains known f → LiesInRegion f.source n → OnlyWithin accesses f at.declared r.space m → relation.LeadsBy known u s
        → relation.LeadsBy known u (record s { space = (m s.space).1 })
    region_led u n r at s f m is lies only h = relation.region_accessed known u s f at.declared r.space _ is at.stands (subst (LiesInRegion f.source) (sym at.number) lies) (located_so u n r at) (only.respects s.space) h

    accessed_by_cases : {A : Type 0} (u : State S) (n : ℕ) (f : FieldUnit) (x : Outcome Region) (s : State S × ℕ) (m : Region → Change S A) → Contains known f → LiesInRegion f.source n → ((d : OperationRegion) (r : Region) → IsRegion d r → OnlyWithin accesses f d r.space (m r))
        → ((r : Region) → x ≡ Ok r → LocatedIn accesses call u n r) → relation.LeadsBy known u s.0 → relation.LeadsBy known u (go_on x s (λ r. lift (on_space (m r)))).1.0
    unfolding go_on lift on_space
    accessed_by_cases u n f (Ok r) s m is lies each_within at h = let d = at r refl in region_led u n r d s.0 f (m r) is lies (each_within d.declared r d.is) h
    accessed_by_cases u n f (Err e) s m is lies each_within at h = h

    located_then_preserves : {A : Type 0} (f : RegionField) (m : Region → Change S A) → IsKnown known f → ((d : OperationRegion) (r : Region) → IsRegion d r → OnlyWithin accesses f.unit d r.space (m r)) → By (located accesses call f.region >>= (λ r. lift (on_space (m r))))
    unfolding ◌>>=◌
    located_then_preserves f m is each_within = record {
      preserves_by = λ s. accessed_by_cases s.0 f.region f.unit (located accesses call f.region s).0 (located accesses call f.region s).1 m is.is is.lies each_within (located_in accesses call f.region s) (relation.by_any known s.0 _ ((located_preserves f.region).preserves s));
    }

    region_bits_preserves : (f : RegionField) → IsKnown known f → By (region_bits accesses call f)
    unfolding region_bits
    region_bits_preserves f is = located_then_preserves f (λ r. read_field accesses r f.unit) is (λ d r at. read_field_only_within accesses f.unit d r at)

    region_written_preserves : (f : RegionField) (bytes : List ℕ) → IsKnown known f → By (region_written accesses call f bytes)
    unfolding region_written
    region_written_preserves f bytes is = located_then_preserves f (λ r. write_field accesses r f.unit bytes) is (λ d r at. write_field_only_within accesses f.unit d r at bytes)

    module _ (index behind : RegionField) (index_is : IsKnown known index) (behind_is : IsKnown known behind) where
      index_unit_preserves : (w : Width) (u : Access) → By (index_unit accesses call index behind w u)
      unfolding index_unit
      index_unit_preserves w u = then_by _ _ (region_written_preserves index _ index_is) (λ chosen. then_by _ _ (region_bits_preserves behind behind_is) (λ bytes. give_by _))

      index_unit_written_preserves : (f : FieldUnit) (bytes : List ℕ) (u : Access) → By (index_unit_written accesses call index behind f bytes u)
      unfolding index_unit_written
      index_unit_written_preserves f bytes u = then_by _ _ (respects_by (kept_respects f u _ (by_respects (index_unit_preserves f.access u)))) (λ old. then_by _ _ (region_written_preserves index _ index_is) (λ chosen. region_written_preserves behind _ behind_is))

    -- ---- a bank of a region that stood when it was located

    -- what comes from where one world has come, as a relation of worlds
    abbrev from_preorder : State S → Preorder (State S × ℕ)
    from_preorder u = record { Leads = λ s t. relation.LeadsBy known u s.0 → relation.LeadsBy known u t.0; reflexive = λ s h. h; transitive = λ s t v h i l. i (h l) }

    run_from : {A : Type 0} (u : State S) (m : Run S A) → By m → Respects (from_preorder u) m
    run_from u m h = record { respects = λ s l. relation.by_transitive known u s.0 _ l (h.preserves_by s) }

    located_by_cases : {A : Type 0} (u : State S) (x : Outcome Region) (s : State S × ℕ) (m : Region → Run S A) → ((r : Region) → x ≡ Ok r → Respects (from_preorder u) (m r)) → relation.LeadsBy known u s.0 → relation.LeadsBy known u (go_on x s m).1.0
    unfolding go_on
    located_by_cases u (Ok r) s m each_from h = (each_from r refl).respects s h
    located_by_cases u (Err e) s m each_from h = h

    located_from : {A : Type 0} (n : ℕ) (m : Region → Run S A) → ((u : State S) (r : Region) → LocatedIn accesses call u n r → Respects (from_preorder u) (m r)) → By (located accesses call n >>= m)
    unfolding ◌>>=◌
    located_from n m each_from = record {
      preserves_by = λ s. located_by_cases s.0 (located accesses call n s).0 (located accesses call n s).1 m (λ r e. each_from s.0 r (located_in accesses call n s r e)) (relation.by_any known s.0 _ ((located_preserves n).preserves s));
    }

    module _ (bank : RegionField) (bank_is : IsKnown known bank) (value : ℕ) where
      bank_selected_preserves : By (bank_selected accesses call bank value)
      unfolding bank_selected
      bank_selected_preserves = then_by _ _ (by_any known _ (run_settle_preserves _)) (λ held. region_written_preserves bank _ bank_is)

      module _ (n : ℕ) (f : FieldUnit) (is : Contains known f) (lies : LiesInRegion f.source n) (u : State S) (r : Region) (at : LocatedIn accesses call u n r) where
        space_from : {A : Type 0} (m : Change S A) → OnlyWithin accesses f at.declared r.space m → Respects (from_preorder u) (lift (on_space m))
        unfolding lift on_space
        space_from m only = record { respects = λ s l. region_led u n r at s.0 f m is lies only l }

        bank_unit_from : (x : Access) → Contains (units_of f.bit_offset f.bits f.access) x → Respects (from_preorder u) (bank_unit accesses call bank value r f.access x)
        unfolding bank_unit
        bank_unit_from x one = then_respects _ _ (run_from u _ bank_selected_preserves) (λ selected. space_from _ (read_unit_only_within accesses f at.declared r at.is x one))

        bank_unit_written_from : (bytes : List ℕ) (x : Access) → Contains (units_of f.bit_offset f.bits f.access) x → Respects (from_preorder u) (bank_unit_written accesses call bank value r f bytes x)
        unfolding bank_unit_written
        bank_unit_written_from bytes x one = then_respects _ _ (kept_respects f x _ (bank_unit_from x one)) (λ old. then_respects _ _ (run_from u _ bank_selected_preserves) (λ selected. space_from _ (write_whole_only_within accesses f at.declared r at.is x _ one)))

  -- ---- fields that are known

  declared_so : (n : ℕ) (s : State S × ℕ) (f : RegionField) → (lift (field_declared n) s).0 ≡ Ok f → LiesInItsRegion f
  unfolding lift
  declared_so n s f e = (field_declared_lies n).gives s.0 f e

  -- a field unit that was declared under a number is known where it goes on
  declared_then : {A : Type 0} (known : List FieldUnit) (n : ℕ) (k : RegionField → Run S A) → ((f : RegionField) → IsKnown (f.unit ∷ known) f → RunPreservesBy relation (f.unit ∷ known) (k f)) → RunPreservesBy relation known (lift (field_declared n) >>= k)
  declared_then known n k each = such_found_then LiesInItsRegion known _ k (by_any known _ (lift_preserves _ (field_declared_preserves n))) (lift_finds _ (field_declared_finds n)) (declared_so n) (λ f lies. each f (record { is = first_of f.unit known; lies = lies }))

  still_known : (known : List FieldUnit) (u f : FieldUnit) → Contains known f → Contains (u ∷ known) f
  still_known known u f is = Contains-append_right (u ∷ []) known f is

  field_still_known : (known : List FieldUnit) (u : FieldUnit) (f : RegionField) → IsKnown known f → IsKnown (u ∷ known) f
  field_still_known known u f is = record { is = still_known known u f.unit is.is; lies = is.lies }

  field_unit_bits_preserves : (known : List FieldUnit) (source : FieldSource) (f : FieldUnit) → Contains known f → f.source ≡ source → RunPreservesBy relation known (field_unit_bits accesses call source f)
  unfolding index_bits bank_bits
  field_unit_bits_preserves known (sources.Region n) f is from = region_bits_preserves known _ (record { is = is; lies = subst (λ x. LiesInRegion x n) (sym from) (by_field n) })
  field_unit_bits_preserves known (sources.Index i d) f is from =
      declared_then known i _ (λ index index_is. declared_then (index.unit ∷ known) d _ (λ behind behind_is. respects_by (bits_read_respects _ (λ u. by_respects (index_unit_preserves (behind.unit ∷ index.unit ∷ known) index behind (field_still_known _ behind.unit index index_is) behind_is f.access u)) f)))
  field_unit_bits_preserves known (sources.Bank n b) f is from =
      declared_then known b.field _ (λ bank bank_is. located_from (bank.unit ∷ known) n _ (λ u r at. units_read_respects _ f (bank_unit_from (bank.unit ∷ known) bank bank_is b.value n f (still_known known bank.unit f is) (subst (λ x. LiesInRegion x n) (sym from) (by_bank_field n b)) u r at)))

  field_unit_written_preserves : (known : List FieldUnit) (source : FieldSource) (f : FieldUnit) (bytes : List ℕ) → Contains known f → f.source ≡ source → RunPreservesBy relation known (field_unit_written accesses call source f bytes)
  unfolding index_written bank_written
  field_unit_written_preserves known (sources.Region n) f bytes is from = region_written_preserves known _ bytes (record { is = is; lies = subst (λ x. LiesInRegion x n) (sym from) (by_field n) })
  field_unit_written_preserves known (sources.Index i d) f bytes is from =
      declared_then known i _ (λ index index_is. declared_then (index.unit ∷ known) d _ (λ behind behind_is.
      respects_by (write_units_respects _ (λ u. by_respects (index_unit_written_preserves (behind.unit ∷ index.unit ∷ known) index behind (field_still_known _ behind.unit index index_is) behind_is f bytes u)) (units_of f.bit_offset f.bits f.access))))
  field_unit_written_preserves known (sources.Bank n b) f bytes is from =
      declared_then known b.field _ (λ bank bank_is. located_from (bank.unit ∷ known) n _ (λ u r at.
      each_written_respects _ (units_of f.bit_offset f.bits f.access) (bank_unit_written_from (bank.unit ∷ known) bank bank_is b.value n f (still_known known bank.unit f is) (subst (λ x. LiesInRegion x n) (sym from) (by_bank_field n b)) u r at bytes)))

  bits_in_preserves : (known : List FieldUnit) (f : Field) → RunPreservesBy relation (units_of_field f ++ known) (bits_in accesses call f)
  bits_in_preserves known (field.Unit u) = field_unit_bits_preserves (u ∷ known) u.source u (first_of u known) refl
  bits_in_preserves known (field.Buffer b) = by_any known _ (lift_preserves _ (on_objects_preserves _ (read_buffer_field_keeps_kinds b)))

  written_in_preserves : (known : List FieldUnit) (f : Field) (bytes : List ℕ) → RunPreservesBy relation (units_of_field f ++ known) (written_in accesses call f bytes)
  written_in_preserves known (field.Unit u) bytes = field_unit_written_preserves (u ∷ known) u.source u bytes (first_of u known) refl
  written_in_preserves known (field.Buffer b) bytes = by_any known _ (lift_preserves _ (on_objects_preserves _ (write_buffer_field_keeps_kinds b bytes)))

  pub field_value_preserves : (known : List FieldUnit) (f : Field) → RunPreservesBy relation (units_of_field f ++ known) (field_value accesses call f)
  unfolding field_value
  field_value_preserves known f = then_by _ _ (bits_in_preserves known f) (λ bytes. by_any _ _ (lift_preserves _ (value_of_bits_preserves _ bytes)))

  pub field_stored_preserves : (known : List FieldUnit) (f : Field) (v : Value) → RunPreservesBy relation (units_of_field f ++ known) (field_stored accesses call f v)
  unfolding field_stored
  field_stored_preserves known f v = then_by _ _ (by_any _ _ (lift_preserves _ (bytes_in_preserves v))) (λ bytes. written_in_preserves known f bytes)

  pub field_integer_preserves : (known : List FieldUnit) (f : Field) → RunPreservesBy relation (units_of_field f ++ known) (field_integer accesses call f)
  unfolding field_integer
  field_integer_preserves known f = then_by _ _ (bits_in_preserves known f) (λ bytes. by_any _ _ (lift_preserves _ (integer_of_bits_preserves bytes)))

  pub field_referent_preserves : (known : List FieldUnit) (f : Field) → RunPreservesBy relation (units_of_field f ++ known) (field_referent accesses call f)
  unfolding field_referent
  field_referent_preserves known f = then_by _ _ (bits_in_preserves known f) (λ bytes. by_any _ _ (lift_preserves _ (referent_of_bits_preserves _ bytes)))

  pub field_part_preserves : (known : List FieldUnit) (f : Field) → RunPreservesBy relation (units_of_field f ++ known) (field_part accesses call f)
  unfolding field_part
  field_part_preserves known f = then_by _ _ (bits_in_preserves known f) (λ bytes. by_any _ _ (lift_preserves _ (integer_alone_preserves _ bytes)))

  pub field_given_preserves : (known : List FieldUnit) (f : Field) → RunPreservesBy relation (units_of_field f ++ known) (field_given accesses call f)
  unfolding field_given
  field_given_preserves known f = then_by _ _ (bits_in_preserves known f) (λ bytes. by_any _ _ (lift_preserves _ (given_of_bits_preserves _ bytes)))
