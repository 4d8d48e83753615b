-- Reading, writing and declaring fields go the same way over two register spaces.
use Rattle.std.specs.Prelude.{ℕ, nat_lt, List, [], ◌∷◌, Bool, Option, Some, None, refl, true, false}
use Rattle.ar_space.specs.Accesses.{Accesses}
use Rattle.ar_space.specs.declared.space.Width.{Width}
use Rattle.aml_path.specs.declared.segment.Seg.{Seg}
use Rattle.aml_path.specs.Paths.{Name}
use Rattle.aml_grammar.specs.declared.opcode.TermCode.{TermCode}
use Rattle.aml_grammar.specs.declared.opcode.TermCode.TheVariants as codes
use Rattle.aml_grammar.specs.Tree.{Tree, Trees, no_trees, tree}
use Rattle.aml_grammar.specs.Apart.{code_of, operand_of}
use Rattle.aml_objects.specs.declared.value.Value.{Value}
use Rattle.aml_objects.specs.declared.entry.Field.{Field}
use Rattle.aml_objects.specs.declared.entry.Field.TheVariants as field
use Rattle.aml_objects.specs.declared.entry.FieldUnit.{FieldUnit}
use Rattle.aml_objects.specs.declared.entry.FieldSource.{FieldSource}
use Rattle.aml_objects.specs.declared.entry.FieldSource.TheVariants as sources
use Rattle.aml_convert.specs.Integers.{bits_of}
use Rattle.aml_fields.specs.declared.region.Region.{Region}
use Rattle.aml_fields.specs.declared.field_units.Unit.{Unit as Access}
use Rattle.aml_fields.specs.Units.{units_of}
use Rattle.aml_world.specs.declared.fields.field_layout.FieldLayout.{FieldLayout}
use Rattle.aml_world.specs.declared.fields.field_layout.FieldGroup.{FieldGroup}
use Rattle.aml_world.specs.declared.fields.pci_functions.Sought.{Sought}
use Rattle.aml_world.specs.declared.fields.regions.RegionSpace.{RegionSpace}
use Rattle.aml_world.specs.declared.fields.regions.RegionSpace.TheVariants as kinds
use Rattle.aml_world.specs.declared.fields.regions.RegionField.{RegionField}
use Rattle.aml_world.specs.state.Run.{Run}
use Rattle.aml_world.specs.fields.PciFunctions.{nearest, pci_function}
use Rattle.aml_world.specs.fields.Regions.{region_declared, field_declared, integer_of_bits, integer_value, value_of_bits, integer_alone, referent_of_bits, given_of_bits}
use Rattle.aml_world.specs.fields.Fields.{part_in, inherited, bus_behind, bus_behind_all, pci_address, space_at, located, region_bits, region_written, index_unit, index_unit_written, index_bits, index_written, field_unit_bits, field_unit_written, bits_in, written_in, field_value, field_integer, field_part, field_referent, field_stored, field_given, bank_selected, bank_unit, bank_unit_written, bank_bits, bank_written}
use Rattle.aml_world.specs.fields.FieldLayouts.{connection_found, new_field, region_found, field_found}
use Rattle.aml_meaning.specs.Terms.{is_named}
use Rattle.aml_meaning.specs.FieldTerms.{named_connection, connection_if, named_field, reserved_field, access_field, element_laid, elements_laid}
use Rattle.aml_laws.proofs.Together.{Sides, Together, choice_together, give_together, plain, settle_together, stop_together, then_together}
use Rattle.aml_laws.proofs.WorldsTogether.{lift_together, objects_together, runs, space_together, worlds}
use Rattle.aml_laws.proofs.UnitsTogether.{bits_read_together, kept_together, read_field_together, write_field_together, write_units_together, read_unit_together, write_whole_together}
use Rattle.aml_laws.proofs.BridgesTogether.{behind_asked_together, bridges_above_together, secondary_bus_together}
use Rattle.aml_laws.proofs.ChangesTogether.{entry_found_together, new_name_together}
use Rattle.aml_laws.proofs.StoreTargetsTogether.{bytes_in_together, declaration_together}

module _ {S T : Type 0} {accesses : Accesses S} {accesses2 : Accesses T} {side : Sides accesses accesses2} where
  -- ---- changes of the world

  pub nearest_together : (x : Sought) (q : List Seg) → Together side worlds (nearest x q) (nearest x q)
  unfolding nearest
  nearest_together x q = plain (λ w. refl) (λ w. refl) (λ w t. refl)

  pci_function_together : (scope : List Seg) → Together side worlds (pci_function scope) (pci_function scope)
  unfolding pci_function
  pci_function_together scope = then_together (nearest_together _ scope) (λ near. then_together (settle_together _) (λ q. then_together (nearest_together _ _) (λ bridge. then_together (behind_asked_together bridge) (λ reached. give_together _))))

  region_declared_together : (n : ℕ) → Together side worlds (region_declared n) (region_declared n)
  unfolding region_declared
  region_declared_together n = then_together (declaration_together n) (λ e. then_together (settle_together _) (λ r. give_together _))

  field_declared_together : (n : ℕ) → Together side worlds (field_declared n) (field_declared n)
  unfolding field_declared
  field_declared_together n = then_together (declaration_together n) (λ e. settle_together _)

  integer_of_bits_together : (bytes : List ℕ) → Together side worlds (integer_of_bits bytes) (integer_of_bits bytes)
  unfolding integer_of_bits
  integer_of_bits_together bytes = plain (λ w. refl) (λ w. refl) (λ w t. refl)

  integer_value_together : (bytes : List ℕ) → Together side worlds (integer_value bytes) (integer_value bytes)
  unfolding integer_value
  integer_value_together bytes = then_together (integer_of_bits_together bytes) (λ n. give_together _)

  integer_alone_together : (count : ℕ) (bytes : List ℕ) → Together side worlds (integer_alone count bytes) (integer_alone count bytes)
  unfolding integer_alone
  integer_alone_together count bytes = choice_together (λ w. nat_lt (bits_of w.width) count) (λ w. nat_lt (bits_of w.width) count) (λ w t. refl) (plain (λ w. refl) (λ w. refl) (λ w t. refl)) (integer_of_bits_together bytes)

  referent_of_bits_together : (count : ℕ) (bytes : List ℕ) → Together side worlds (referent_of_bits count bytes) (referent_of_bits count bytes)
  unfolding referent_of_bits
  referent_of_bits_together count bytes = choice_together (λ w. nat_lt (bits_of w.width) count) (λ w. nat_lt (bits_of w.width) count) (λ w t. refl) (plain (λ w. refl) (λ w. refl) (λ w t. refl)) (plain (λ w. refl) (λ w. refl) (λ w t. refl))

  value_of_bits_together : (count : ℕ) (bytes : List ℕ) → Together side worlds (value_of_bits count bytes) (value_of_bits count bytes)
  unfolding value_of_bits
  value_of_bits_together count bytes = choice_together (λ w. nat_lt (bits_of w.width) count) (λ w. nat_lt (bits_of w.width) count) (λ w t. refl) (objects_together _) (integer_value_together bytes)

  pub given_of_bits_together : (count : ℕ) (bytes : List ℕ) → Together side worlds (given_of_bits count bytes) (given_of_bits count bytes)
  unfolding given_of_bits
  given_of_bits_together count bytes = choice_together (λ w. nat_lt (bits_of w.width) count) (λ w. nat_lt (bits_of w.width) count) (λ w t. refl) (plain (λ w. refl) (λ w. refl) (λ w t. refl)) (plain (λ w. refl) (λ w. refl) (λ w t. refl))

  -- ---- declarations

  new_field_together : (group : FieldGroup) (module_level : Bool) (q : List Seg) (at : FieldLayout) (count : ℕ) → Together side worlds (new_field group module_level q at count) (new_field group module_level q at count)
  unfolding new_field
  new_field_together group module_level q at count = then_together (settle_together _) (λ bits. then_together (new_name_together module_level q _) (λ number. settle_together _))

  named_field_together : (group : FieldGroup) (scope : List Seg) (depth : ℕ) (at : FieldLayout) (t : Tree) → Together side worlds (named_field group scope depth at t) (named_field group scope depth at t)
  unfolding named_field
  named_field_together group scope depth at t = then_together (settle_together _) (λ n. then_together (settle_together _) (λ q. then_together (settle_together _) (λ count. new_field_together group _ q at count)))

  reserved_field_together : (group : FieldGroup) (scope : List Seg) (depth : ℕ) (at : FieldLayout) (t : Tree) → Together side worlds (reserved_field group scope depth at t) (reserved_field group scope depth at t)
  unfolding reserved_field
  reserved_field_together group scope depth at t = then_together (settle_together _) (λ count. settle_together _)

  access_field_together : (group : FieldGroup) (scope : List Seg) (depth : ℕ) (at : FieldLayout) (t : Tree) → Together side worlds (access_field group scope depth at t) (access_field group scope depth at t)
  unfolding access_field
  access_field_together group scope depth at t = then_together (settle_together _) (λ flags. give_together _)

  connection_found_together : (scope : List Seg) (n : Name) → Together side worlds (connection_found scope n) (connection_found scope n)
  unfolding connection_found
  connection_found_together scope n = then_together (entry_found_together scope n) (λ e. settle_together _)

  connection_if_together : (group : FieldGroup) (scope : List Seg) (depth : ℕ) (named : Bool) (at : FieldLayout) (t : Tree) → Together side worlds (connection_if group scope depth named at t) (connection_if group scope depth named at t)
  unfolding named_connection
  connection_if_together group scope depth true at t = then_together (settle_together _) (λ n. then_together (connection_found_together scope n) (λ buffer. give_together _))
  connection_if_together group scope depth false at t = give_together _

  element_laid_together : (group : FieldGroup) (scope : List Seg) (depth : ℕ) (c : TermCode) (at : FieldLayout) (t : Tree) → Together side worlds (element_laid group scope depth c at t) (element_laid group scope depth c at t)
  element_laid_together group scope depth codes.NamedField at t = named_field_together group scope depth at t
  element_laid_together group scope depth codes.ReservedField at t = reserved_field_together group scope depth at t
  element_laid_together group scope depth codes.AccessField at t = access_field_together group scope depth at t
  element_laid_together group scope depth codes.ExtendedAccessField at t = access_field_together group scope depth at t
  element_laid_together group scope depth codes.ConnectField at t = connection_if_together group scope depth (is_named (operand_of t 0)) at t
  element_laid_together group scope depth codes.Name at t = stop_together _
  element_laid_together group scope depth codes.MethodInvocation at t = stop_together _
  element_laid_together group scope depth (codes.Opcode op) at t = stop_together _

  pub elements_laid_together : (group : FieldGroup) (scope : List Seg) (depth : ℕ) (at : FieldLayout) (ts : Trees) → Together side worlds (elements_laid group scope depth at ts) (elements_laid group scope depth at ts)
  unfolding elements_laid
  elements_laid_together group scope depth at no_trees = give_together _
  elements_laid_together group scope depth at (tree t ts) = then_together (element_laid_together group scope depth (code_of t) at t) (λ next. elements_laid_together group scope depth next ts)

  pub region_found_together : (scope : List Seg) (n : Name) → Together side worlds (region_found scope n) (region_found scope n)
  unfolding region_found
  region_found_together scope n = then_together (entry_found_together scope n) (λ e. settle_together _)

  pub field_found_together : (scope : List Seg) (n : Name) → Together side worlds (field_found scope n) (field_found scope n)
  unfolding field_found
  field_found_together scope n = then_together (entry_found_together scope n) (λ e. settle_together _)

-- ---- field units

module _ {S T : Type 0} {accesses : Accesses S} {accesses2 : Accesses T} {side : Sides accesses accesses2} {call : List Seg → Run S ℕ} {call2 : List Seg → Run T ℕ} (each : (q : List Seg) → Together side runs (call q) (call2 q)) where
  part_in_together : (s : Seg) (o : Option (List Seg)) → Together side runs (part_in accesses call s o) (part_in accesses2 call2 s o)
  part_in_together s None = give_together _
  part_in_together s (Some q) = each _

  pub inherited_together : (s : Seg) (q : List Seg) → Together side runs (inherited accesses call s q) (inherited accesses2 call2 s q)
  unfolding inherited
  inherited_together s q = then_together (lift_together (nearest_together _ q)) (λ o. part_in_together s o)

  bus_behind_together : (seg bus : ℕ) (q : List Seg) → Together side runs (bus_behind accesses call seg bus q) (bus_behind accesses2 call2 seg bus q)
  unfolding bus_behind
  bus_behind_together seg bus q = then_together (each _) (λ address. lift_together (space_together (secondary_bus_together seg bus address)))

  pub bus_behind_all_together : (seg bus : ℕ) (qs : List (List Seg)) → Together side runs (bus_behind_all accesses call seg bus qs) (bus_behind_all accesses2 call2 seg bus qs)
  unfolding bus_behind_all
  bus_behind_all_together seg bus [] = give_together _
  bus_behind_all_together seg bus (q ∷ qs) = then_together (bus_behind_together seg bus q) (λ behind. bus_behind_all_together seg behind qs)

  pub pci_address_together : (scope : List Seg) → Together side runs (pci_address accesses call scope) (pci_address accesses2 call2 scope)
  unfolding pci_address
  pci_address_together scope = then_together (lift_together (pci_function_together scope)) (λ q. then_together (lift_together (bridges_above_together q)) (λ bridges. then_together (inherited_together _ q) (λ seg. then_together (inherited_together _ q) (λ bus. then_together (bus_behind_all_together seg bus bridges) (λ behind. then_together (each _) (λ address. settle_together _))))))

  space_at_together : (k : RegionSpace) (scope : List Seg) → Together side runs (space_at accesses call k scope) (space_at accesses2 call2 k scope)
  space_at_together kinds.SystemMemory scope = give_together _
  space_at_together kinds.SystemIo scope = give_together _
  space_at_together kinds.PciConfig scope = pci_address_together scope
  space_at_together kinds.Other scope = stop_together _

  located_together : (n : ℕ) → Together side runs (located accesses call n) (located accesses2 call2 n)
  unfolding located
  located_together n = then_together (lift_together (region_declared_together n)) (λ d. then_together (space_at_together _ d.0) (λ space. give_together _))

  region_bits_together : (f : RegionField) → Together side runs (region_bits accesses call f) (region_bits accesses2 call2 f)
  unfolding region_bits
  region_bits_together f = then_together (located_together f.region) (λ r. lift_together (space_together (read_field_together r f.unit)))

  region_written_together : (f : RegionField) (bytes : List ℕ) → Together side runs (region_written accesses call f bytes) (region_written accesses2 call2 f bytes)
  unfolding region_written
  region_written_together f bytes = then_together (located_together f.region) (λ r. lift_together (space_together (write_field_together r f.unit bytes)))

  index_unit_together : (index behind : RegionField) (w : Width) (u : Access) → Together side runs (index_unit accesses call index behind w u) (index_unit accesses2 call2 index behind w u)
  unfolding index_unit
  index_unit_together index behind w u = then_together (region_written_together index _) (λ chosen. then_together (region_bits_together behind) (λ bytes. give_together _))

  index_unit_written_together : (index behind : RegionField) (f : FieldUnit) (bytes : List ℕ) (u : Access) → Together side runs (index_unit_written accesses call index behind f bytes u) (index_unit_written accesses2 call2 index behind f bytes u)
  unfolding index_unit_written
  index_unit_written_together index behind f bytes u = then_together (kept_together f u (index_unit_together index behind f.access u)) (λ old. then_together (region_written_together index _) (λ chosen. region_written_together behind _))

  bank_selected_together : (bank : RegionField) (value : ℕ) → Together side runs (bank_selected accesses call bank value) (bank_selected accesses2 call2 bank value)
  unfolding bank_selected
  bank_selected_together bank value = then_together (settle_together _) (λ held. region_written_together bank _)

  bank_unit_together : (bank : RegionField) (value : ℕ) (r : Region) (w : Width) (u : Access) → Together side runs (bank_unit accesses call bank value r w u) (bank_unit accesses2 call2 bank value r w u)
  unfolding bank_unit
  bank_unit_together bank value r w u = then_together (bank_selected_together bank value) (λ selected. lift_together (space_together (read_unit_together r w u)))

  bank_unit_written_together : (bank : RegionField) (value : ℕ) (r : Region) (f : FieldUnit) (bytes : List ℕ) (u : Access) → Together side runs (bank_unit_written accesses call bank value r f bytes u) (bank_unit_written accesses2 call2 bank value r f bytes u)
  unfolding bank_unit_written
  bank_unit_written_together bank value r f bytes u = then_together (kept_together f u (bank_unit_together bank value r f.access u)) (λ old. then_together (bank_selected_together bank value) (λ selected. lift_together (space_together (write_whole_together r f.access u.offset _))))

  field_unit_bits_together : (source : FieldSource) (f : FieldUnit) → Together side runs (field_unit_bits accesses call source f) (field_unit_bits accesses2 call2 source f)
  unfolding index_bits bank_bits
  field_unit_bits_together (sources.Region n) f = region_bits_together _
  field_unit_bits_together (sources.Index i d) f = then_together (lift_together (field_declared_together i)) (λ index. then_together (lift_together (field_declared_together d)) (λ behind. bits_read_together (index_unit_together index behind f.access) f))
  field_unit_bits_together (sources.Bank n b) f = then_together (lift_together (field_declared_together b.field)) (λ bank. then_together (located_together n) (λ r. bits_read_together (bank_unit_together bank b.value r f.access) f))

  field_unit_written_together : (source : FieldSource) (f : FieldUnit) (bytes : List ℕ) → Together side runs (field_unit_written accesses call source f bytes) (field_unit_written accesses2 call2 source f bytes)
  unfolding index_written bank_written
  field_unit_written_together (sources.Region n) f bytes = region_written_together _ bytes
  field_unit_written_together (sources.Index i d) f bytes = then_together (lift_together (field_declared_together i)) (λ index. then_together (lift_together (field_declared_together d)) (λ behind. write_units_together (index_unit_written_together index behind f bytes) (units_of f.bit_offset f.bits f.access)))
  field_unit_written_together (sources.Bank n b) f bytes = then_together (lift_together (field_declared_together b.field)) (λ bank. then_together (located_together n) (λ r. write_units_together (bank_unit_written_together bank b.value r f bytes) (units_of f.bit_offset f.bits f.access)))

  bits_in_together : (f : Field) → Together side runs (bits_in accesses call f) (bits_in accesses2 call2 f)
  bits_in_together (field.Unit u) = field_unit_bits_together u.source u
  bits_in_together (field.Buffer b) = lift_together (objects_together _)

  written_in_together : (f : Field) (bytes : List ℕ) → Together side runs (written_in accesses call f bytes) (written_in accesses2 call2 f bytes)
  written_in_together (field.Unit u) bytes = field_unit_written_together u.source u bytes
  written_in_together (field.Buffer b) bytes = lift_together (objects_together _)

  pub field_value_together : (f : Field) → Together side runs (field_value accesses call f) (field_value accesses2 call2 f)
  unfolding field_value
  field_value_together f = then_together (bits_in_together f) (λ bytes. lift_together (value_of_bits_together _ bytes))

  pub field_stored_together : (f : Field) (v : Value) → Together side runs (field_stored accesses call f v) (field_stored accesses2 call2 f v)
  unfolding field_stored
  field_stored_together f v = then_together (lift_together (bytes_in_together v)) (λ bytes. written_in_together f bytes)

  pub field_integer_together : (f : Field) → Together side runs (field_integer accesses call f) (field_integer accesses2 call2 f)
  unfolding field_integer
  field_integer_together f = then_together (bits_in_together f) (λ bytes. lift_together (integer_of_bits_together bytes))

  pub field_referent_together : (f : Field) → Together side runs (field_referent accesses call f) (field_referent accesses2 call2 f)
  unfolding field_referent
  field_referent_together f = then_together (bits_in_together f) (λ bytes. lift_together (referent_of_bits_together _ bytes))

  pub field_part_together : (f : Field) → Together side runs (field_part accesses call f) (field_part accesses2 call2 f)
  unfolding field_part
  field_part_together f = then_together (bits_in_together f) (λ bytes. lift_together (integer_alone_together _ bytes))

  pub field_given_together : (f : Field) → Together side runs (field_given accesses call f) (field_given accesses2 call2 f)
  unfolding field_given
  field_given_together f = then_together (bits_in_together f) (λ bytes. lift_together (given_of_bits_together _ bytes))
