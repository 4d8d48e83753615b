-- Where a read or a write of a field refuses by a fault of the register space, its last access answered with it, over calls that do so.
use Rattle.std.specs.Prelude.{Bool, List, [], ◌∷◌, None, Option, Some, nat_lt, refl, ℕ, true, false}
use Rattle.ar_space.specs.Accesses.{Accesses}
use Rattle.ar_space.specs.Change.{stop}
use Rattle.ar_space.specs.declared.space.Width.{Width}
use Rattle.aml_path.specs.Paths.{Name}
use Rattle.aml_path.specs.declared.segment.Seg.{Seg}
use Rattle.aml_grammar.specs.Apart.{code_of, operand_of}
use Rattle.aml_grammar.specs.Tree.{Tree, Trees, no_trees, tree}
use Rattle.aml_grammar.specs.declared.opcode.TermCode.TheVariants as codes
use Rattle.aml_grammar.specs.declared.opcode.TermCode.{TermCode}
use Rattle.aml_objects.specs.Contents.{Buffer}
use Rattle.aml_objects.specs.Objects.{make_buffer}
use Rattle.aml_objects.specs.declared.entry.Field.TheVariants as field
use Rattle.aml_objects.specs.declared.entry.Field.{Field}
use Rattle.aml_objects.specs.declared.entry.FieldSource.TheVariants as sources
use Rattle.aml_objects.specs.declared.entry.FieldSource.{FieldSource}
use Rattle.aml_objects.specs.declared.entry.FieldUnit.{FieldUnit}
use Rattle.aml_objects.specs.declared.value.Value.{Value}
use Rattle.aml_convert.specs.Conversions.{to_integer_of}
use Rattle.aml_convert.specs.Integers.{bits_of}
use Rattle.aml_fields.specs.Units.{units_of}
use Rattle.aml_fields.specs.declared.region.Region.{Region}
use Rattle.aml_fields.specs.declared.field_units.Unit.{Unit as Access}
use Rattle.aml_world.specs.fields.FieldLayouts.{connection_found, field_found, new_field, region_found}
use Rattle.aml_world.specs.fields.Fields.{bits_in, bus_behind, bus_behind_all, field_given, field_integer, field_part, field_referent, field_stored, field_unit_bits, field_unit_written, field_value, index_bits, index_unit, index_unit_written, index_written, inherited, located, part_in, pci_address, region_bits, region_written, space_at, written_in, bank_selected, bank_unit, bank_unit_written, bank_bits, bank_written}
use Rattle.aml_world.specs.state.Given as given
use Rattle.aml_world.specs.fields.PciFunctions.{nearest, behind_asked, pci_function}
use Rattle.aml_world.specs.fields.Bridges.{bridges_above, secondary_bus}
use Rattle.aml_world.specs.fields.Regions.{field_declared, given_of_bits, integer_alone, integer_of_bits, integer_referent, integer_value, referent_of_bits, region_declared, value_of_bits}
use Rattle.aml_world.specs.state.Run.{Run}
use Rattle.aml_world.specs.state.State.{on_objects}
use Rattle.aml_world.specs.declared.fields.field_layout.FieldGroup.{FieldGroup}
use Rattle.aml_world.specs.declared.fields.field_layout.FieldLayout.{FieldLayout}
use Rattle.aml_world.specs.declared.fields.pci_functions.Sought.{Sought}
use Rattle.aml_world.specs.declared.fields.regions.RegionField.{RegionField}
use Rattle.aml_world.specs.declared.fields.regions.RegionSpace.TheVariants as kinds
use Rattle.aml_world.specs.declared.fields.regions.RegionSpace.{RegionSpace}
use Rattle.aml_meaning.specs.Terms.{is_named}
use Rattle.aml_meaning.specs.FieldTerms.{named_connection, connection_if, access_field, element_laid, elements_laid, named_field, reserved_field}
use Rattle.aml_meaning.specs.Tasks.{module_level}
use Rattle.aml_laws.proofs.CleanObjects.{make_buffer_clean, read_buffer_field_clean, write_buffer_field_clean}
use Rattle.aml_laws.proofs.CleanOutcomes.{seen_clean}
use Rattle.aml_laws.proofs.CleanValues.{resolved_clean, to_integer_of_clean}
use Rattle.aml_laws.proofs.CleanWorlds.{bridge_header_clean, connection_buffer_clean, field_number_clean, field_of_object_clean, further_clean, name_of_clean, number_of_clean, or_behind_clean, or_deep_clean, pci_space_clean, region_number_clean, region_of_object_clean, sized_clean, bank_held_clean}
use Rattle.aml_laws.proofs.FaultsOfChanges.{RunExplains, SpaceExplains, WorldExplains, bits_read_explains, direct_explains, either_branch_explains, give_explains, kept_explains, lift_explains, on_objects_explains, on_space_explains, read_field_explains, read_unit_explains, settle_explains, stop_explains, then_explains, write_field_explains, write_units_explains, write_whole_explains}
use Rattle.aml_laws.proofs.FaultsOfOperations.{entry_found_explains, new_name_explains}
use Rattle.aml_laws.proofs.FaultsOfStoreTargets.{bytes_in_explains, declaration_explains}

module _ {S : Type 0} {accesses : Accesses S} where
  -- ---- changes of the world

  pub nearest_explains : (x : Sought) (q : List Seg) → WorldExplains accesses (nearest x q)
  unfolding nearest
  nearest_explains x q = direct_explains _ (λ w. tt) (λ w. refl)

  pub behind_asked_explains : (bridge : Option (List Seg)) → WorldExplains accesses (behind_asked bridge)
  unfolding behind_asked
  behind_asked_explains bridge = direct_explains _ (λ w. or_behind_clean w.profile bridge) (λ w. refl)

  bridges_above_explains : (q : List Seg) → WorldExplains accesses (bridges_above q)
  unfolding bridges_above
  bridges_above_explains q = direct_explains _ (λ w. tt) (λ w. refl)

  pub secondary_bus_explains : (seg bus address : ℕ) → SpaceExplains accesses (secondary_bus accesses seg bus address)
  unfolding secondary_bus
  secondary_bus_explains seg bus address =
      then_explains _ _ (settle_explains _ (pci_space_clean seg bus address)) (λ function. then_explains _ _ (read_unit_explains accesses _ _ _) (λ kind. then_explains _ _ (settle_explains _ (bridge_header_clean kind)) (λ bridge. read_unit_explains accesses _ _ _)))

  pci_function_explains : (scope : List Seg) → WorldExplains accesses (pci_function scope)
  unfolding pci_function
  pci_function_explains scope = then_explains _ _ (nearest_explains _ scope) (λ near. then_explains _ _ (settle_explains _ (or_deep_clean _)) (λ q. then_explains _ _ (nearest_explains _ _) (λ bridge. then_explains _ _ (behind_asked_explains bridge) (λ reached. give_explains _))))

  region_declared_explains : (n : ℕ) → WorldExplains accesses (region_declared n)
  unfolding region_declared
  region_declared_explains n = then_explains _ _ (declaration_explains n) (λ e. then_explains _ _ (settle_explains _ (region_of_object_clean _)) (λ r. give_explains _))

  field_declared_explains : (n : ℕ) → WorldExplains accesses (field_declared n)
  unfolding field_declared
  field_declared_explains n = then_explains _ _ (declaration_explains n) (λ e. settle_explains _ (field_of_object_clean _))

  integer_of_bits_explains : (bytes : List ℕ) → WorldExplains accesses (integer_of_bits bytes)
  unfolding integer_of_bits
  integer_of_bits_explains bytes = direct_explains _ (λ w. to_integer_of_clean w.width (Buffer bytes)) (λ w. refl)

  integer_value_explains : (bytes : List ℕ) → WorldExplains accesses (integer_value bytes)
  unfolding integer_value
  integer_value_explains bytes = then_explains _ _ (integer_of_bits_explains bytes) (λ n. give_explains _)

  pub integer_alone_explains : (count : ℕ) (bytes : List ℕ) → WorldExplains accesses (integer_alone count bytes)
  unfolding integer_alone stop
  integer_alone_explains count bytes = either_branch_explains (λ w. nat_lt (bits_of w.width) count) (stop _) (integer_of_bits bytes) (stop_explains _ tt) (integer_of_bits_explains bytes)

  referent_of_bits_explains : (count : ℕ) (bytes : List ℕ) → WorldExplains accesses (referent_of_bits count bytes)
  unfolding referent_of_bits
  referent_of_bits_explains count bytes = either_branch_explains (λ w. nat_lt (bits_of w.width) count) _ _ (direct_explains _ (λ w. tt) (λ w. refl)) (direct_explains _ (λ w. seen_clean integer_referent (to_integer_of w.width (Buffer bytes)) (to_integer_of_clean w.width (Buffer bytes))) (λ w. refl))

  value_of_bits_explains : (count : ℕ) (bytes : List ℕ) → WorldExplains accesses (value_of_bits count bytes)
  unfolding value_of_bits
  value_of_bits_explains count bytes = either_branch_explains (λ w. nat_lt (bits_of w.width) count) (on_objects (make_buffer bytes)) (integer_value bytes) (on_objects_explains _ (make_buffer_clean _)) (integer_value_explains bytes)

  given_of_bits_explains : (count : ℕ) (bytes : List ℕ) → WorldExplains accesses (given_of_bits count bytes)
  unfolding given_of_bits
  given_of_bits_explains count bytes = either_branch_explains (λ w. nat_lt (bits_of w.width) count) _ _ (direct_explains _ (λ w. tt) (λ w. refl)) (direct_explains _ (λ w. seen_clean given.Integer (to_integer_of w.width (Buffer bytes)) (to_integer_of_clean w.width (Buffer bytes))) (λ w. refl))

  -- ---- declarations

  new_field_explains : (group : FieldGroup) (module_level : Bool) (q : List Seg) (at : FieldLayout) (count : ℕ) → WorldExplains accesses (new_field group module_level q at count)
  unfolding new_field
  new_field_explains group module_level q at count = then_explains _ _ (settle_explains _ (sized_clean count)) (λ bits. then_explains _ _ (new_name_explains module_level q _) (λ number. settle_explains _ (further_clean at count)))

  named_field_explains : (group : FieldGroup) (scope : List Seg) (depth : ℕ) (at : FieldLayout) (t : Tree) → WorldExplains accesses (named_field group scope depth at t)
  unfolding named_field
  named_field_explains group scope depth at t = then_explains _ _ (settle_explains _ (name_of_clean _)) (λ n. then_explains _ _ (settle_explains _ (resolved_clean _ _)) (λ q. then_explains _ _ (settle_explains _ (number_of_clean _)) (λ count. new_field_explains group _ q at count)))

  reserved_field_explains : (group : FieldGroup) (scope : List Seg) (depth : ℕ) (at : FieldLayout) (t : Tree) → WorldExplains accesses (reserved_field group scope depth at t)
  unfolding reserved_field
  reserved_field_explains group scope depth at t = then_explains _ _ (settle_explains _ (number_of_clean _)) (λ count. settle_explains _ (further_clean at count))

  access_field_explains : (group : FieldGroup) (scope : List Seg) (depth : ℕ) (at : FieldLayout) (t : Tree) → WorldExplains accesses (access_field group scope depth at t)
  unfolding access_field
  access_field_explains group scope depth at t = then_explains _ _ (settle_explains _ (number_of_clean _)) (λ flags. give_explains _)

  connection_found_explains : (scope : List Seg) (n : Name) → WorldExplains accesses (connection_found scope n)
  unfolding connection_found
  connection_found_explains scope n = then_explains _ _ (entry_found_explains scope n) (λ e. settle_explains _ (connection_buffer_clean _))

  connection_if_explains : (group : FieldGroup) (scope : List Seg) (depth : ℕ) (named : Bool) (at : FieldLayout) (t : Tree) → WorldExplains accesses (connection_if group scope depth named at t)
  unfolding named_connection
  connection_if_explains group scope depth true at t = then_explains _ _ (settle_explains _ (name_of_clean _)) (λ n. then_explains _ _ (connection_found_explains scope n) (λ buffer. give_explains _))
  connection_if_explains group scope depth false at t = give_explains _

  element_laid_explains : (group : FieldGroup) (scope : List Seg) (depth : ℕ) (c : TermCode) (at : FieldLayout) (t : Tree) → WorldExplains accesses (element_laid group scope depth c at t)
  element_laid_explains group scope depth codes.NamedField at t = named_field_explains group scope depth at t
  element_laid_explains group scope depth codes.ReservedField at t = reserved_field_explains group scope depth at t
  element_laid_explains group scope depth codes.AccessField at t = access_field_explains group scope depth at t
  element_laid_explains group scope depth codes.ExtendedAccessField at t = access_field_explains group scope depth at t
  element_laid_explains group scope depth codes.ConnectField at t = connection_if_explains group scope depth (is_named (operand_of t 0)) at t
  element_laid_explains group scope depth codes.Name at t = stop_explains _ tt
  element_laid_explains group scope depth codes.MethodInvocation at t = stop_explains _ tt
  element_laid_explains group scope depth (codes.Opcode op) at t = stop_explains _ tt

  pub elements_laid_explains : (group : FieldGroup) (scope : List Seg) (depth : ℕ) (at : FieldLayout) (ts : Trees) → WorldExplains accesses (elements_laid group scope depth at ts)
  unfolding elements_laid
  elements_laid_explains group scope depth at no_trees = give_explains _
  elements_laid_explains group scope depth at (tree t ts) = then_explains _ _ (element_laid_explains group scope depth (code_of t) at t) (λ next. elements_laid_explains group scope depth next ts)

  pub region_found_explains : (scope : List Seg) (n : Name) → WorldExplains accesses (region_found scope n)
  unfolding region_found
  region_found_explains scope n = then_explains _ _ (entry_found_explains scope n) (λ e. settle_explains _ (region_number_clean _ _))

  pub field_found_explains : (scope : List Seg) (n : Name) → WorldExplains accesses (field_found scope n)
  unfolding field_found
  field_found_explains scope n = then_explains _ _ (entry_found_explains scope n) (λ e. settle_explains _ (field_number_clean _ _))

-- ---- field units

module _ {S : Type 0} (accesses : Accesses S) (call : List Seg → Run S ℕ) (each : (q : List Seg) → RunExplains accesses (call q)) where
  part_in_explains : (s : Seg) (o : Option (List Seg)) → RunExplains accesses (part_in accesses call s o)
  part_in_explains s None = give_explains _
  part_in_explains s (Some q) = each _

  pub inherited_explains : (s : Seg) (q : List Seg) → RunExplains accesses (inherited accesses call s q)
  unfolding inherited
  inherited_explains s q = then_explains _ _ (lift_explains _ (nearest_explains _ q)) (λ o. part_in_explains s o)

  bus_behind_explains : (seg bus : ℕ) (q : List Seg) → RunExplains accesses (bus_behind accesses call seg bus q)
  unfolding bus_behind
  bus_behind_explains seg bus q = then_explains _ _ (each _) (λ address. lift_explains _ (on_space_explains _ (secondary_bus_explains seg bus address)))

  pub bus_behind_all_explains : (seg bus : ℕ) (qs : List (List Seg)) → RunExplains accesses (bus_behind_all accesses call seg bus qs)
  unfolding bus_behind_all
  bus_behind_all_explains seg bus [] = give_explains _
  bus_behind_all_explains seg bus (q ∷ qs) = then_explains _ _ (bus_behind_explains seg bus q) (λ behind. bus_behind_all_explains seg behind qs)

  pci_address_explains : (scope : List Seg) → RunExplains accesses (pci_address accesses call scope)
  unfolding pci_address
  pci_address_explains scope = then_explains _ _ (lift_explains _ (pci_function_explains scope)) (λ q. then_explains _ _ (lift_explains _ (bridges_above_explains q)) (λ bridges. then_explains _ _ (inherited_explains _ q) (λ seg. then_explains _ _ (inherited_explains _ q) (λ bus. then_explains _ _ (bus_behind_all_explains seg bus bridges) (λ behind. then_explains _ _ (each _) (λ address. settle_explains _ (pci_space_clean seg behind address)))))))

  space_at_explains : (k : RegionSpace) (scope : List Seg) → RunExplains accesses (space_at accesses call k scope)
  space_at_explains kinds.SystemMemory scope = give_explains _
  space_at_explains kinds.SystemIo scope = give_explains _
  space_at_explains kinds.PciConfig scope = pci_address_explains scope
  space_at_explains kinds.Other scope = stop_explains _ tt

  located_explains : (n : ℕ) → RunExplains accesses (located accesses call n)
  unfolding located
  located_explains n = then_explains _ _ (lift_explains _ (region_declared_explains n)) (λ d. then_explains _ _ (space_at_explains _ d.0) (λ space. give_explains _))

  region_bits_explains : (f : RegionField) → RunExplains accesses (region_bits accesses call f)
  unfolding region_bits
  region_bits_explains f = then_explains _ _ (located_explains f.region) (λ r. lift_explains _ (on_space_explains _ (read_field_explains accesses r f.unit)))

  region_written_explains : (f : RegionField) (bytes : List ℕ) → RunExplains accesses (region_written accesses call f bytes)
  unfolding region_written
  region_written_explains f bytes = then_explains _ _ (located_explains f.region) (λ r. lift_explains _ (on_space_explains _ (write_field_explains accesses r f.unit bytes)))

  index_unit_explains : (index behind : RegionField) (w : Width) (u : Access) → RunExplains accesses (index_unit accesses call index behind w u)
  unfolding index_unit
  index_unit_explains index behind w u = then_explains _ _ (region_written_explains index _) (λ chosen. then_explains _ _ (region_bits_explains behind) (λ bytes. give_explains _))

  index_unit_written_explains : (index behind : RegionField) (f : FieldUnit) (bytes : List ℕ) (u : Access) → RunExplains accesses (index_unit_written accesses call index behind f bytes u)
  unfolding index_unit_written
  index_unit_written_explains index behind f bytes u = then_explains _ _ (kept_explains f u _ (index_unit_explains index behind f.access u)) (λ old. then_explains _ _ (region_written_explains index _) (λ chosen. region_written_explains behind _))

  bank_selected_explains : (bank : RegionField) (value : ℕ) → RunExplains accesses (bank_selected accesses call bank value)
  unfolding bank_selected
  bank_selected_explains bank value = then_explains _ _ (settle_explains _ (bank_held_clean bank value)) (λ held. region_written_explains bank _)

  bank_unit_explains : (bank : RegionField) (value : ℕ) (r : Region) (w : Width) (u : Access) → RunExplains accesses (bank_unit accesses call bank value r w u)
  unfolding bank_unit
  bank_unit_explains bank value r w u = then_explains _ _ (bank_selected_explains bank value) (λ selected. lift_explains _ (on_space_explains _ (read_unit_explains accesses r w u)))

  bank_unit_written_explains : (bank : RegionField) (value : ℕ) (r : Region) (f : FieldUnit) (bytes : List ℕ) (u : Access) → RunExplains accesses (bank_unit_written accesses call bank value r f bytes u)
  unfolding bank_unit_written
  bank_unit_written_explains bank value r f bytes u = then_explains _ _ (kept_explains f u _ (bank_unit_explains bank value r f.access u)) (λ old. then_explains _ _ (bank_selected_explains bank value) (λ selected. lift_explains _ (on_space_explains _ (write_whole_explains accesses r f.access u.offset _))))

  field_unit_bits_explains : (source : FieldSource) (f : FieldUnit) → RunExplains accesses (field_unit_bits accesses call source f)
  unfolding index_bits bank_bits
  field_unit_bits_explains (sources.Region n) f = region_bits_explains _
  field_unit_bits_explains (sources.Index i d) f = then_explains _ _ (lift_explains _ (field_declared_explains i)) (λ index. then_explains _ _ (lift_explains _ (field_declared_explains d)) (λ behind. bits_read_explains _ (index_unit_explains index behind f.access) f))
  field_unit_bits_explains (sources.Bank n b) f = then_explains _ _ (lift_explains _ (field_declared_explains b.field)) (λ bank. then_explains _ _ (located_explains n) (λ r. bits_read_explains _ (bank_unit_explains bank b.value r f.access) f))

  field_unit_written_explains : (source : FieldSource) (f : FieldUnit) (bytes : List ℕ) → RunExplains accesses (field_unit_written accesses call source f bytes)
  unfolding index_written bank_written
  field_unit_written_explains (sources.Region n) f bytes = region_written_explains _ bytes
  field_unit_written_explains (sources.Index i d) f bytes = then_explains _ _ (lift_explains _ (field_declared_explains i)) (λ index. then_explains _ _ (lift_explains _ (field_declared_explains d)) (λ behind. write_units_explains _ (index_unit_written_explains index behind f bytes) (units_of f.bit_offset f.bits f.access)))
  field_unit_written_explains (sources.Bank n b) f bytes = then_explains _ _ (lift_explains _ (field_declared_explains b.field)) (λ bank. then_explains _ _ (located_explains n) (λ r. write_units_explains _ (bank_unit_written_explains bank b.value r f bytes) (units_of f.bit_offset f.bits f.access)))

  bits_in_explains : (f : Field) → RunExplains accesses (bits_in accesses call f)
  bits_in_explains (field.Unit u) = field_unit_bits_explains u.source u
  bits_in_explains (field.Buffer b) = lift_explains _ (on_objects_explains _ (read_buffer_field_clean _))

  written_in_explains : (f : Field) (bytes : List ℕ) → RunExplains accesses (written_in accesses call f bytes)
  written_in_explains (field.Unit u) bytes = field_unit_written_explains u.source u bytes
  written_in_explains (field.Buffer b) bytes = lift_explains _ (on_objects_explains _ (write_buffer_field_clean _ _))

  pub field_value_explains : (f : Field) → RunExplains accesses (field_value accesses call f)
  unfolding field_value
  field_value_explains f = then_explains _ _ (bits_in_explains f) (λ bytes. lift_explains _ (value_of_bits_explains _ bytes))

  pub field_stored_explains : (f : Field) (v : Value) → RunExplains accesses (field_stored accesses call f v)
  unfolding field_stored
  field_stored_explains f v = then_explains _ _ (lift_explains _ (bytes_in_explains v)) (λ bytes. written_in_explains f bytes)

  pub field_integer_explains : (f : Field) → RunExplains accesses (field_integer accesses call f)
  unfolding field_integer
  field_integer_explains f = then_explains _ _ (bits_in_explains f) (λ bytes. lift_explains _ (integer_of_bits_explains bytes))

  pub field_referent_explains : (f : Field) → RunExplains accesses (field_referent accesses call f)
  unfolding field_referent
  field_referent_explains f = then_explains _ _ (bits_in_explains f) (λ bytes. lift_explains _ (referent_of_bits_explains _ bytes))

  pub field_part_explains : (f : Field) → RunExplains accesses (field_part accesses call f)
  unfolding field_part
  field_part_explains f = then_explains _ _ (bits_in_explains f) (λ bytes. lift_explains _ (integer_alone_explains _ bytes))

  pub field_given_explains : (f : Field) → RunExplains accesses (field_given accesses call f)
  unfolding field_given
  field_given_explains f = then_explains _ _ (bits_in_explains f) (λ bytes. lift_explains _ (given_of_bits_explains _ bytes))
