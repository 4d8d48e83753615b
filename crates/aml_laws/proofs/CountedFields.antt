-- Reading, writing and declaring fields do what they do without the counter, over calls that do.
use Rattle.std.specs.Prelude.{ℕ, nat_lt, List, [], ◌∷◌, Bool, Option, Some, None, refl, true, false}
use Rattle.ar_space.specs.Accesses.{Accesses}
use Rattle.ar_space.specs.declared.space.Width.{Width}
use Rattle.aml_path.specs.declared.segment.Seg.{Seg}
use Rattle.aml_path.specs.Paths.{Name}
use Rattle.aml_grammar.specs.declared.opcode.TermCode.{TermCode}
use Rattle.aml_grammar.specs.declared.opcode.TermCode.TheVariants as codes
use Rattle.aml_grammar.specs.Tree.{Tree, Trees, no_trees, tree}
use Rattle.aml_grammar.specs.Apart.{code_of, operand_of}
use Rattle.aml_objects.specs.Objects.{make_buffer}
use Rattle.aml_objects.specs.declared.value.Value.{Value}
use Rattle.aml_objects.specs.declared.entry.Field.{Field}
use Rattle.aml_objects.specs.declared.entry.Field.TheVariants as field
use Rattle.aml_objects.specs.declared.entry.FieldUnit.{FieldUnit}
use Rattle.aml_objects.specs.declared.entry.FieldSource.{FieldSource}
use Rattle.aml_objects.specs.declared.entry.FieldSource.TheVariants as sources
use Rattle.aml_convert.specs.Integers.{bits_of}
use Rattle.aml_fields.specs.declared.region.Region.{Region}
use Rattle.aml_fields.specs.declared.field_units.Unit.{Unit as Access}
use Rattle.aml_fields.specs.Units.{units_of}
use Rattle.aml_world.specs.declared.fields.field_layout.FieldLayout.{FieldLayout}
use Rattle.aml_world.specs.declared.fields.field_layout.FieldGroup.{FieldGroup}
use Rattle.aml_world.specs.declared.fields.pci_functions.Sought.{Sought}
use Rattle.aml_world.specs.declared.fields.regions.RegionSpace.{RegionSpace}
use Rattle.aml_world.specs.declared.fields.regions.RegionSpace.TheVariants as kinds
use Rattle.aml_world.specs.declared.fields.regions.RegionField.{RegionField}
use Rattle.aml_world.specs.state.Run.{Run}
use Rattle.aml_world.specs.fields.PciFunctions.{nearest, behind_asked, pci_function}
use Rattle.aml_world.specs.fields.Bridges.{bridges_above}
use Rattle.aml_world.specs.fields.Regions.{region_declared, field_declared, integer_of_bits, integer_value, value_of_bits, integer_alone, referent_of_bits, given_of_bits}
use Rattle.aml_world.specs.fields.Fields.{part_in, inherited, bus_behind, bus_behind_all, pci_address, space_at, located, region_bits, region_written, index_unit, index_unit_written, index_bits, index_written, field_unit_bits, field_unit_written, bits_in, written_in, field_value, field_integer, field_part, field_referent, field_stored, field_given, bank_selected, bank_unit, bank_unit_written, bank_bits, bank_written}
use Rattle.aml_world.specs.fields.FieldLayouts.{connection_found, new_field, region_found, field_found}
use Rattle.aml_world.specs.state.State.{on_objects}
use Rattle.aml_meaning.specs.Terms.{is_named}
use Rattle.ar_space.specs.Change.{stop}
use Rattle.aml_meaning.specs.FieldTerms.{named_connection, connection_if, named_field, reserved_field, access_field, element_laid, elements_laid}
use Rattle.aml_laws.specs.Counted.{beside_counter}
use Rattle.aml_laws.proofs.CountedChanges.{Counts, RunCounts, give_counts, stop_counts, settle_counts, then_counts, direct_counts, either_branch_counts, on_objects_counts, on_space_counts, lift_counts, bits_read_counts, write_units_counts, kept_counts, read_field_counts, secondary_bus_counts, write_field_counts, read_unit_counts, write_whole_counts}
use Rattle.aml_laws.proofs.CountedOperations.{entry_found_counts, new_name_counts}
use Rattle.aml_laws.proofs.CountedStoreTargets.{declaration_counts, bytes_in_counts}

module _ {S : Type 0} where
  -- ---- changes of the world

  nearest_counts : (x : Sought) (q : List Seg) → Counts {S = S} (nearest x q) (nearest x q)
  unfolding nearest
  nearest_counts x q = direct_counts _ _ (λ w. refl) (λ w. refl)

  behind_asked_counts : (bridge : Option (List Seg)) → Counts {S = S} (behind_asked bridge) (behind_asked bridge)
  unfolding behind_asked
  behind_asked_counts bridge = direct_counts _ _ (λ w. refl) (λ w. refl)

  bridges_above_counts : (q : List Seg) → Counts {S = S} (bridges_above q) (bridges_above q)
  unfolding bridges_above
  bridges_above_counts q = direct_counts _ _ (λ w. refl) (λ w. refl)

  pci_function_counts : (scope : List Seg) → Counts {S = S} (pci_function scope) (pci_function scope)
  unfolding pci_function
  pci_function_counts scope = then_counts _ _ _ _ (nearest_counts _ scope) (λ near. then_counts _ _ _ _ (settle_counts _) (λ q. then_counts _ _ _ _ (nearest_counts _ _) (λ bridge. then_counts _ _ _ _ (behind_asked_counts bridge) (λ reached. give_counts _))))

  region_declared_counts : (n : ℕ) → Counts {S = S} (region_declared n) (region_declared n)
  unfolding region_declared
  region_declared_counts n = then_counts _ _ _ _ (declaration_counts n) (λ e. then_counts _ _ _ _ (settle_counts _) (λ r. give_counts _))

  field_declared_counts : (n : ℕ) → Counts {S = S} (field_declared n) (field_declared n)
  unfolding field_declared
  field_declared_counts n = then_counts _ _ _ _ (declaration_counts n) (λ e. settle_counts _)

  integer_of_bits_counts : (bytes : List ℕ) → Counts {S = S} (integer_of_bits bytes) (integer_of_bits bytes)
  unfolding integer_of_bits
  integer_of_bits_counts bytes = direct_counts _ _ (λ w. refl) (λ w. refl)

  integer_value_counts : (bytes : List ℕ) → Counts {S = S} (integer_value bytes) (integer_value bytes)
  unfolding integer_value
  integer_value_counts bytes = then_counts _ _ _ _ (integer_of_bits_counts bytes) (λ n. give_counts _)

  pub integer_alone_counts : (count : ℕ) (bytes : List ℕ) → Counts {S = S} (integer_alone count bytes) (integer_alone count bytes)
  unfolding integer_alone stop
  integer_alone_counts count bytes = either_branch_counts (λ w. nat_lt (bits_of w.width) count) (stop _) (integer_of_bits bytes) (stop _) (integer_of_bits bytes) (stop_counts _) (integer_of_bits_counts bytes)

  referent_of_bits_counts : (count : ℕ) (bytes : List ℕ) → Counts {S = S} (referent_of_bits count bytes) (referent_of_bits count bytes)
  unfolding referent_of_bits
  referent_of_bits_counts count bytes = either_branch_counts (λ w. nat_lt (bits_of w.width) count) _ _ _ _ (direct_counts _ _ (λ w. refl) (λ w. refl)) (direct_counts _ _ (λ w. refl) (λ w. refl))

  value_of_bits_counts : (count : ℕ) (bytes : List ℕ) → Counts {S = S} (value_of_bits count bytes) (value_of_bits count bytes)
  unfolding value_of_bits
  value_of_bits_counts count bytes = either_branch_counts (λ w. nat_lt (bits_of w.width) count) (on_objects (make_buffer bytes)) (integer_value bytes) (on_objects (make_buffer bytes)) (integer_value bytes) (on_objects_counts _) (integer_value_counts bytes)

  given_of_bits_counts : (count : ℕ) (bytes : List ℕ) → Counts {S = S} (given_of_bits count bytes) (given_of_bits count bytes)
  unfolding given_of_bits
  given_of_bits_counts count bytes = either_branch_counts (λ w. nat_lt (bits_of w.width) count) _ _ _ _ (direct_counts _ _ (λ w. refl) (λ w. refl)) (direct_counts _ _ (λ w. refl) (λ w. refl))

  -- ---- declarations

  new_field_counts : (group : FieldGroup) (module_level : Bool) (q : List Seg) (at : FieldLayout) (count : ℕ) → Counts {S = S} (new_field group module_level q at count) (new_field group module_level q at count)
  unfolding new_field
  new_field_counts group module_level q at count = then_counts _ _ _ _ (settle_counts _) (λ bits. then_counts _ _ _ _ (new_name_counts module_level q _) (λ number. settle_counts _))

  named_field_counts : (group : FieldGroup) (scope : List Seg) (depth : ℕ) (at : FieldLayout) (t : Tree) → Counts {S = S} (named_field group scope depth at t) (named_field group scope depth at t)
  unfolding named_field
  named_field_counts group scope depth at t = then_counts _ _ _ _ (settle_counts _) (λ n. then_counts _ _ _ _ (settle_counts _) (λ q. then_counts _ _ _ _ (settle_counts _) (λ count. new_field_counts group _ q at count)))

  reserved_field_counts : (group : FieldGroup) (scope : List Seg) (depth : ℕ) (at : FieldLayout) (t : Tree) → Counts {S = S} (reserved_field group scope depth at t) (reserved_field group scope depth at t)
  unfolding reserved_field
  reserved_field_counts group scope depth at t = then_counts _ _ _ _ (settle_counts _) (λ count. settle_counts _)

  access_field_counts : (group : FieldGroup) (scope : List Seg) (depth : ℕ) (at : FieldLayout) (t : Tree) → Counts {S = S} (access_field group scope depth at t) (access_field group scope depth at t)
  unfolding access_field
  access_field_counts group scope depth at t = then_counts _ _ _ _ (settle_counts _) (λ flags. give_counts _)

  connection_found_counts : (scope : List Seg) (n : Name) → Counts {S = S} (connection_found scope n) (connection_found scope n)
  unfolding connection_found
  connection_found_counts scope n = then_counts _ _ _ _ (entry_found_counts scope n) (λ e. settle_counts _)

  connection_if_counts : (group : FieldGroup) (scope : List Seg) (depth : ℕ) (named : Bool) (at : FieldLayout) (t : Tree) → Counts {S = S} (connection_if group scope depth named at t) (connection_if group scope depth named at t)
  unfolding named_connection
  connection_if_counts group scope depth true at t = then_counts _ _ _ _ (settle_counts _) (λ n. then_counts _ _ _ _ (connection_found_counts scope n) (λ buffer. give_counts _))
  connection_if_counts group scope depth false at t = give_counts _

  element_laid_counts : (group : FieldGroup) (scope : List Seg) (depth : ℕ) (c : TermCode) (at : FieldLayout) (t : Tree) → Counts {S = S} (element_laid group scope depth c at t) (element_laid group scope depth c at t)
  element_laid_counts group scope depth codes.NamedField at t = named_field_counts group scope depth at t
  element_laid_counts group scope depth codes.ReservedField at t = reserved_field_counts group scope depth at t
  element_laid_counts group scope depth codes.AccessField at t = access_field_counts group scope depth at t
  element_laid_counts group scope depth codes.ExtendedAccessField at t = access_field_counts group scope depth at t
  element_laid_counts group scope depth codes.ConnectField at t = connection_if_counts group scope depth (is_named (operand_of t 0)) at t
  element_laid_counts group scope depth codes.Name at t = stop_counts _
  element_laid_counts group scope depth codes.MethodInvocation at t = stop_counts _
  element_laid_counts group scope depth (codes.Opcode op) at t = stop_counts _

  pub elements_laid_counts : (group : FieldGroup) (scope : List Seg) (depth : ℕ) (at : FieldLayout) (ts : Trees) → Counts {S = S} (elements_laid group scope depth at ts) (elements_laid group scope depth at ts)
  unfolding elements_laid
  elements_laid_counts group scope depth at no_trees = give_counts _
  elements_laid_counts group scope depth at (tree t ts) = then_counts _ _ _ _ (element_laid_counts group scope depth (code_of t) at t) (λ next. elements_laid_counts group scope depth next ts)

  pub region_found_counts : (scope : List Seg) (n : Name) → Counts {S = S} (region_found scope n) (region_found scope n)
  unfolding region_found
  region_found_counts scope n = then_counts _ _ _ _ (entry_found_counts scope n) (λ e. settle_counts _)

  pub field_found_counts : (scope : List Seg) (n : Name) → Counts {S = S} (field_found scope n) (field_found scope n)
  unfolding field_found
  field_found_counts scope n = then_counts _ _ _ _ (entry_found_counts scope n) (λ e. settle_counts _)

-- ---- field units

module _ {S : Type 0} (accesses : Accesses S) (call : List Seg → Run (S × ℕ) ℕ) (uncounted : List Seg → Run S ℕ) (each : (q : List Seg) → RunCounts (call q) (uncounted q)) where
  part_in_counts : (s : Seg) (o : Option (List Seg)) → RunCounts {S = S} (part_in (beside_counter accesses) call s o) (part_in accesses uncounted s o)
  part_in_counts s None = give_counts _
  part_in_counts s (Some q) = each _

  inherited_counts : (s : Seg) (q : List Seg) → RunCounts {S = S} (inherited (beside_counter accesses) call s q) (inherited accesses uncounted s q)
  unfolding inherited
  inherited_counts s q = then_counts _ _ _ _ (lift_counts _ _ (nearest_counts _ q)) (λ o. part_in_counts s o)

  bus_behind_counts : (seg bus : ℕ) (q : List Seg) → RunCounts {S = S} (bus_behind (beside_counter accesses) call seg bus q) (bus_behind accesses uncounted seg bus q)
  unfolding bus_behind
  bus_behind_counts seg bus q = then_counts _ _ _ _ (each _) (λ address. lift_counts _ _ (on_space_counts _ _ (secondary_bus_counts accesses seg bus address)))

  bus_behind_all_counts : (seg bus : ℕ) (qs : List (List Seg)) → RunCounts {S = S} (bus_behind_all (beside_counter accesses) call seg bus qs) (bus_behind_all accesses uncounted seg bus qs)
  unfolding bus_behind_all
  bus_behind_all_counts seg bus [] = give_counts _
  bus_behind_all_counts seg bus (q ∷ qs) = then_counts _ _ _ _ (bus_behind_counts seg bus q) (λ behind. bus_behind_all_counts seg behind qs)

  pci_address_counts : (scope : List Seg) → RunCounts {S = S} (pci_address (beside_counter accesses) call scope) (pci_address accesses uncounted scope)
  unfolding pci_address
  pci_address_counts scope = then_counts _ _ _ _ (lift_counts _ _ (pci_function_counts scope)) (λ q. then_counts _ _ _ _ (lift_counts _ _ (bridges_above_counts q)) (λ bridges. then_counts _ _ _ _ (inherited_counts _ q) (λ seg. then_counts _ _ _ _ (inherited_counts _ q) (λ bus. then_counts _ _ _ _ (bus_behind_all_counts seg bus bridges) (λ behind. then_counts _ _ _ _ (each _) (λ address. settle_counts _))))))

  space_at_counts : (k : RegionSpace) (scope : List Seg) → RunCounts {S = S} (space_at (beside_counter accesses) call k scope) (space_at accesses uncounted k scope)
  space_at_counts kinds.SystemMemory scope = give_counts _
  space_at_counts kinds.SystemIo scope = give_counts _
  space_at_counts kinds.PciConfig scope = pci_address_counts scope
  space_at_counts kinds.Other scope = stop_counts _

  located_counts : (n : ℕ) → RunCounts {S = S} (located (beside_counter accesses) call n) (located accesses uncounted n)
  unfolding located
  located_counts n = then_counts _ _ _ _ (lift_counts _ _ (region_declared_counts n)) (λ d. then_counts _ _ _ _ (space_at_counts _ d.0) (λ space. give_counts _))

  region_bits_counts : (f : RegionField) → RunCounts {S = S} (region_bits (beside_counter accesses) call f) (region_bits accesses uncounted f)
  unfolding region_bits
  region_bits_counts f = then_counts _ _ _ _ (located_counts f.region) (λ r. lift_counts _ _ (on_space_counts _ _ (read_field_counts accesses r f.unit)))

  region_written_counts : (f : RegionField) (bytes : List ℕ) → RunCounts {S = S} (region_written (beside_counter accesses) call f bytes) (region_written accesses uncounted f bytes)
  unfolding region_written
  region_written_counts f bytes = then_counts _ _ _ _ (located_counts f.region) (λ r. lift_counts _ _ (on_space_counts _ _ (write_field_counts accesses r f.unit bytes)))

  index_unit_counts : (index behind : RegionField) (w : Width) (u : Access) → RunCounts {S = S} (index_unit (beside_counter accesses) call index behind w u) (index_unit accesses uncounted index behind w u)
  unfolding index_unit
  index_unit_counts index behind w u = then_counts _ _ _ _ (region_written_counts index _) (λ chosen. then_counts _ _ _ _ (region_bits_counts behind) (λ bytes. give_counts _))

  index_unit_written_counts : (index behind : RegionField) (f : FieldUnit) (bytes : List ℕ) (u : Access) → RunCounts {S = S} (index_unit_written (beside_counter accesses) call index behind f bytes u) (index_unit_written accesses uncounted index behind f bytes u)
  unfolding index_unit_written
  index_unit_written_counts index behind f bytes u = then_counts _ _ _ _ (kept_counts f u _ _ (index_unit_counts index behind f.access u)) (λ old. then_counts _ _ _ _ (region_written_counts index _) (λ chosen. region_written_counts behind _))

  bank_selected_counts : (bank : RegionField) (value : ℕ) → RunCounts {S = S} (bank_selected (beside_counter accesses) call bank value) (bank_selected accesses uncounted bank value)
  unfolding bank_selected
  bank_selected_counts bank value = then_counts _ _ _ _ (settle_counts _) (λ held. region_written_counts bank _)

  bank_unit_counts : (bank : RegionField) (value : ℕ) (r : Region) (w : Width) (u : Access) → RunCounts {S = S} (bank_unit (beside_counter accesses) call bank value r w u) (bank_unit accesses uncounted bank value r w u)
  unfolding bank_unit
  bank_unit_counts bank value r w u = then_counts _ _ _ _ (bank_selected_counts bank value) (λ selected. lift_counts _ _ (on_space_counts _ _ (read_unit_counts accesses r w u)))

  bank_unit_written_counts : (bank : RegionField) (value : ℕ) (r : Region) (f : FieldUnit) (bytes : List ℕ) (u : Access) → RunCounts {S = S} (bank_unit_written (beside_counter accesses) call bank value r f bytes u) (bank_unit_written accesses uncounted bank value r f bytes u)
  unfolding bank_unit_written
  bank_unit_written_counts bank value r f bytes u = then_counts _ _ _ _ (kept_counts f u _ _ (bank_unit_counts bank value r f.access u)) (λ old. then_counts _ _ _ _ (bank_selected_counts bank value) (λ selected. lift_counts _ _ (on_space_counts _ _ (write_whole_counts accesses r f.access u.offset _))))

  field_unit_bits_counts : (source : FieldSource) (f : FieldUnit) → RunCounts {S = S} (field_unit_bits (beside_counter accesses) call source f) (field_unit_bits accesses uncounted source f)
  unfolding index_bits bank_bits
  field_unit_bits_counts (sources.Region n) f = region_bits_counts _
  field_unit_bits_counts (sources.Index i d) f = then_counts _ _ _ _ (lift_counts _ _ (field_declared_counts i)) (λ index. then_counts _ _ _ _ (lift_counts _ _ (field_declared_counts d)) (λ behind. bits_read_counts _ _ (index_unit_counts index behind f.access) f))
  field_unit_bits_counts (sources.Bank n b) f = then_counts _ _ _ _ (lift_counts _ _ (field_declared_counts b.field)) (λ bank. then_counts _ _ _ _ (located_counts n) (λ r. bits_read_counts _ _ (bank_unit_counts bank b.value r f.access) f))

  field_unit_written_counts : (source : FieldSource) (f : FieldUnit) (bytes : List ℕ) → RunCounts {S = S} (field_unit_written (beside_counter accesses) call source f bytes) (field_unit_written accesses uncounted source f bytes)
  unfolding index_written bank_written
  field_unit_written_counts (sources.Region n) f bytes = region_written_counts _ bytes
  field_unit_written_counts (sources.Index i d) f bytes = then_counts _ _ _ _ (lift_counts _ _ (field_declared_counts i)) (λ index. then_counts _ _ _ _ (lift_counts _ _ (field_declared_counts d)) (λ behind. write_units_counts _ _ (index_unit_written_counts index behind f bytes) (units_of f.bit_offset f.bits f.access)))
  field_unit_written_counts (sources.Bank n b) f bytes = then_counts _ _ _ _ (lift_counts _ _ (field_declared_counts b.field)) (λ bank. then_counts _ _ _ _ (located_counts n) (λ r. write_units_counts _ _ (bank_unit_written_counts bank b.value r f bytes) (units_of f.bit_offset f.bits f.access)))

  bits_in_counts : (f : Field) → RunCounts {S = S} (bits_in (beside_counter accesses) call f) (bits_in accesses uncounted f)
  bits_in_counts (field.Unit u) = field_unit_bits_counts u.source u
  bits_in_counts (field.Buffer b) = lift_counts _ _ (on_objects_counts _)

  written_in_counts : (f : Field) (bytes : List ℕ) → RunCounts {S = S} (written_in (beside_counter accesses) call f bytes) (written_in accesses uncounted f bytes)
  written_in_counts (field.Unit u) bytes = field_unit_written_counts u.source u bytes
  written_in_counts (field.Buffer b) bytes = lift_counts _ _ (on_objects_counts _)

  pub field_value_counts : (f : Field) → RunCounts {S = S} (field_value (beside_counter accesses) call f) (field_value accesses uncounted f)
  unfolding field_value
  field_value_counts f = then_counts _ _ _ _ (bits_in_counts f) (λ bytes. lift_counts _ _ (value_of_bits_counts _ bytes))

  pub field_stored_counts : (f : Field) (v : Value) → RunCounts {S = S} (field_stored (beside_counter accesses) call f v) (field_stored accesses uncounted f v)
  unfolding field_stored
  field_stored_counts f v = then_counts _ _ _ _ (lift_counts _ _ (bytes_in_counts v)) (λ bytes. written_in_counts f bytes)

  pub field_integer_counts : (f : Field) → RunCounts {S = S} (field_integer (beside_counter accesses) call f) (field_integer accesses uncounted f)
  unfolding field_integer
  field_integer_counts f = then_counts _ _ _ _ (bits_in_counts f) (λ bytes. lift_counts _ _ (integer_of_bits_counts bytes))

  pub field_referent_counts : (f : Field) → RunCounts {S = S} (field_referent (beside_counter accesses) call f) (field_referent accesses uncounted f)
  unfolding field_referent
  field_referent_counts f = then_counts _ _ _ _ (bits_in_counts f) (λ bytes. lift_counts _ _ (referent_of_bits_counts _ bytes))

  pub field_part_counts : (f : Field) → RunCounts {S = S} (field_part (beside_counter accesses) call f) (field_part accesses uncounted f)
  unfolding field_part
  field_part_counts f = then_counts _ _ _ _ (bits_in_counts f) (λ bytes. lift_counts _ _ (integer_alone_counts _ bytes))

  pub field_given_counts : (f : Field) → RunCounts {S = S} (field_given (beside_counter accesses) call f) (field_given accesses uncounted f)
  unfolding field_given
  field_given_counts f = then_counts _ _ _ _ (bits_in_counts f) (λ bytes. lift_counts _ _ (given_of_bits_counts _ bytes))
