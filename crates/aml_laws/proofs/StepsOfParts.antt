-- Operands, lists of terms, calls of control methods and fields leave steps as a relation of steps keeps them, where parts do.
use Rattle.aml_fields.specs.Units.{units_of}
use Rattle.aml_fields.specs.declared.field_units.Unit.{Unit as Access}
use Rattle.aml_fields.specs.declared.region.Region.{Region}
use Rattle.aml_grammar.specs.Tree.{Tree, Trees, no_trees, tree}
use Rattle.aml_world.specs.values.StoreTargets.{is_element}
use Rattle.aml_world.specs.fields.Fields.{part_in, inherited, bus_behind, bus_behind_all, pci_address, space_at, located, region_bits, region_written, index_unit, index_unit_written, index_bits, index_written, field_unit_bits, field_unit_written, bits_in, written_in, field_value, field_integer, field_part, field_referent, field_stored, field_given, bank_selected, bank_unit, bank_unit_written, bank_bits, bank_written}
use Rattle.aml_world.specs.state.Run.{Run, lift}
use Rattle.aml_world.specs.state.State.{State}
use Rattle.aml_world.specs.declared.state.invocation.Invocation.{Invocation}
use Rattle.aml_world.specs.declared.values.object_type.Referent.{Referent}
use Rattle.aml_world.specs.declared.fields.regions.RegionField.{RegionField}
use Rattle.aml_world.specs.declared.fields.regions.RegionSpace.{RegionSpace}
use Rattle.aml_world.specs.declared.values.store_target.Held.{Held}
use Rattle.aml_world.specs.declared.values.store_target.StoreTarget.{StoreTarget}
use Rattle.aml_world.specs.declared.values.store_target.Stored.{Stored}
use Rattle.aml_world.specs.state.PassedOver.{is_passable}
use Rattle.aml_world.specs.declared.state.invocation.Invocation.TheVariants as invocations
use Rattle.aml_world.specs.declared.values.object_type.Referent.TheVariants as referent
use Rattle.aml_world.specs.declared.fields.regions.RegionSpace.TheVariants as kinds
use Rattle.aml_objects.specs.declared.entry.Field.{Field}
use Rattle.aml_objects.specs.declared.entry.FieldSource.{FieldSource}
use Rattle.aml_objects.specs.declared.entry.FieldUnit.{FieldUnit}
use Rattle.aml_objects.specs.declared.value.Value.{Value}
use Rattle.aml_path.specs.declared.segment.Seg.{Seg}
use Rattle.ar_space.specs.Accesses.{Accesses}
use Rattle.ar_space.specs.Change.{give, Change}
use Rattle.ar_space.specs.Outcome.{Outcome}
use Rattle.ar_space.specs.declared.space.Width.{Width}
use Rattle.std.specs.Prelude.{ℕ, List, [], ◌∷◌, Bool, Option, Some, None, true, false, zero, suc, if◌then◌else◌, Ok, Err}
use Rattle.aml_laws.proofs.Preorders.{Preorder, Respects, give_respects, stop_respects, settle_respects, then_respects, bits_read_respects, write_units_respects, kept_respects, either_branch}
use Rattle.aml_world.specs.declared.values.store_target.Held.TheVariants as held
use Rattle.aml_world.specs.declared.values.store_target.Stored.TheVariants as store
use Rattle.aml_meaning.specs.FieldCalls.{called_at, asked, method_integer, answer_over, answer_within, field_read, held_value, held_integer, referent_read, completed, stored_to, back_to, stored_back}
use Rattle.aml_meaning.specs.Calls.{invoked, method_value, leaving}
use Rattle.aml_meaning.specs.Tasks.{Task, operand_value, value_at, two_values, operand_integer, goes_on, in_turn, task, item, passes_over}
use Rattle.aml_meaning.specs.declared.flow.Flow.{Flow}
use Rattle.aml_meaning.specs.Passing.{item_done, passing}
use Rattle.aml_objects.specs.declared.entry.Field.TheVariants as field
use Rattle.aml_objects.specs.declared.entry.FieldSource.TheVariants as sources

-- R: how the steps that are left may become fewer
abbrev pub by_steps : {S : Type 0} → Preorder ℕ → Preorder (State S × ℕ)
by_steps R = record { Leads = λ s t. R.Leads s.1 t.1; reflexive = λ s. R.reflexive s.1; transitive = λ s t u h i. R.transitive s.1 t.1 u.1 h i }

abbrev pub Keeps : {S A : Type 0} → Preorder ℕ → Run S A → Type 0
Keeps R m = Respects (by_steps R) m

pub lift_keeps : {S A : Type 0} (R : Preorder ℕ) (m : Change (State S) A) → Keeps R (lift m)
unfolding lift
lift_keeps R m = record { respects = λ s. R.reflexive s.1 }

-- ---- field units

module _ {S : Type 0} (R : Preorder ℕ) (accesses : Accesses S) (call : List Seg → Run S ℕ) (each : (q : List Seg) → Keeps R (call q)) where
  part_in_keeps : (s : Seg) (o : Option (List Seg)) → Keeps R (part_in accesses call s o)
  part_in_keeps s None = give_respects _
  part_in_keeps s (Some q) = each _

  inherited_keeps : (s : Seg) (q : List Seg) → Keeps R (inherited accesses call s q)
  unfolding inherited
  inherited_keeps s q = then_respects _ _ (lift_keeps R _) (λ o. part_in_keeps s o)

  bus_behind_keeps : (seg bus : ℕ) (q : List Seg) → Keeps R (bus_behind accesses call seg bus q)
  unfolding bus_behind
  bus_behind_keeps seg bus q = then_respects _ _ (each _) (λ address. lift_keeps R _)

  bus_behind_all_keeps : (seg bus : ℕ) (qs : List (List Seg)) → Keeps R (bus_behind_all accesses call seg bus qs)
  unfolding bus_behind_all
  bus_behind_all_keeps seg bus [] = give_respects _
  bus_behind_all_keeps seg bus (q ∷ qs) = then_respects _ _ (bus_behind_keeps seg bus q) (λ behind. bus_behind_all_keeps seg behind qs)

  pci_address_keeps : (scope : List Seg) → Keeps R (pci_address accesses call scope)
  unfolding pci_address
  pci_address_keeps scope = then_respects _ _ (lift_keeps R _) (λ q. then_respects _ _ (lift_keeps R _) (λ bridges. then_respects _ _ (inherited_keeps _ q) (λ seg. then_respects _ _ (inherited_keeps _ q) (λ bus. then_respects _ _ (bus_behind_all_keeps seg bus bridges) (λ behind. then_respects _ _ (each _) (λ address. settle_respects _))))))

  space_at_keeps : (k : RegionSpace) (scope : List Seg) → Keeps R (space_at accesses call k scope)
  space_at_keeps kinds.SystemMemory scope = give_respects _
  space_at_keeps kinds.SystemIo scope = give_respects _
  space_at_keeps kinds.PciConfig scope = pci_address_keeps scope
  space_at_keeps kinds.Other scope = stop_respects _

  located_keeps : (n : ℕ) → Keeps R (located accesses call n)
  unfolding located
  located_keeps n = then_respects _ _ (lift_keeps R _) (λ d. then_respects _ _ (space_at_keeps _ d.0) (λ space. give_respects _))

  region_bits_keeps : (f : RegionField) → Keeps R (region_bits accesses call f)
  unfolding region_bits
  region_bits_keeps f = then_respects _ _ (located_keeps f.region) (λ r. lift_keeps R _)

  region_written_keeps : (f : RegionField) (bytes : List ℕ) → Keeps R (region_written accesses call f bytes)
  unfolding region_written
  region_written_keeps f bytes = then_respects _ _ (located_keeps f.region) (λ r. lift_keeps R _)

  index_unit_keeps : (index behind : RegionField) (w : Width) (u : Access) → Keeps R (index_unit accesses call index behind w u)
  unfolding index_unit
  index_unit_keeps index behind w u = then_respects _ _ (region_written_keeps index _) (λ chosen. then_respects _ _ (region_bits_keeps behind) (λ bytes. give_respects _))

  index_unit_written_keeps : (index behind : RegionField) (f : FieldUnit) (bytes : List ℕ) (u : Access) → Keeps R (index_unit_written accesses call index behind f bytes u)
  unfolding index_unit_written
  index_unit_written_keeps index behind f bytes u = then_respects _ _ (kept_respects f u _ (index_unit_keeps index behind f.access u)) (λ old. then_respects _ _ (region_written_keeps index _) (λ chosen. region_written_keeps behind _))

  bank_selected_keeps : (bank : RegionField) (value : ℕ) → Keeps R (bank_selected accesses call bank value)
  unfolding bank_selected
  bank_selected_keeps bank value = then_respects _ _ (settle_respects _) (λ held. region_written_keeps bank _)

  bank_unit_keeps : (bank : RegionField) (value : ℕ) (r : Region) (w : Width) (u : Access) → Keeps R (bank_unit accesses call bank value r w u)
  unfolding bank_unit
  bank_unit_keeps bank value r w u = then_respects _ _ (bank_selected_keeps bank value) (λ selected. lift_keeps R _)

  bank_unit_written_keeps : (bank : RegionField) (value : ℕ) (r : Region) (f : FieldUnit) (bytes : List ℕ) (u : Access) → Keeps R (bank_unit_written accesses call bank value r f bytes u)
  unfolding bank_unit_written
  bank_unit_written_keeps bank value r f bytes u = then_respects _ _ (kept_respects f u _ (bank_unit_keeps bank value r f.access u)) (λ old. then_respects _ _ (bank_selected_keeps bank value) (λ selected. lift_keeps R _))

  field_unit_bits_keeps : (source : FieldSource) (f : FieldUnit) → Keeps R (field_unit_bits accesses call source f)
  unfolding index_bits bank_bits
  field_unit_bits_keeps (sources.Region n) f = region_bits_keeps _
  field_unit_bits_keeps (sources.Index i d) f = then_respects _ _ (lift_keeps R _) (λ index. then_respects _ _ (lift_keeps R _) (λ behind. bits_read_respects _ (index_unit_keeps index behind f.access) f))
  field_unit_bits_keeps (sources.Bank n b) f = then_respects _ _ (lift_keeps R _) (λ bank. then_respects _ _ (located_keeps n) (λ r. bits_read_respects _ (bank_unit_keeps bank b.value r f.access) f))

  field_unit_written_keeps : (source : FieldSource) (f : FieldUnit) (bytes : List ℕ) → Keeps R (field_unit_written accesses call source f bytes)
  unfolding index_written bank_written
  field_unit_written_keeps (sources.Region n) f bytes = region_written_keeps _ bytes
  field_unit_written_keeps (sources.Index i d) f bytes = then_respects _ _ (lift_keeps R _) (λ index. then_respects _ _ (lift_keeps R _) (λ behind. write_units_respects _ (index_unit_written_keeps index behind f bytes) (units_of f.bit_offset f.bits f.access)))
  field_unit_written_keeps (sources.Bank n b) f bytes = then_respects _ _ (lift_keeps R _) (λ bank. then_respects _ _ (located_keeps n) (λ r. write_units_respects _ (bank_unit_written_keeps bank b.value r f bytes) (units_of f.bit_offset f.bits f.access)))

  bits_in_keeps : (f : Field) → Keeps R (bits_in accesses call f)
  bits_in_keeps (field.Unit u) = field_unit_bits_keeps u.source u
  bits_in_keeps (field.Buffer b) = lift_keeps R _

  written_in_keeps : (f : Field) (bytes : List ℕ) → Keeps R (written_in accesses call f bytes)
  written_in_keeps (field.Unit u) bytes = field_unit_written_keeps u.source u bytes
  written_in_keeps (field.Buffer b) bytes = lift_keeps R _

  pub field_value_keeps : (f : Field) → Keeps R (field_value accesses call f)
  unfolding field_value
  field_value_keeps f = then_respects _ _ (bits_in_keeps f) (λ bytes. lift_keeps R _)

  pub field_stored_keeps : (f : Field) (v : Value) → Keeps R (field_stored accesses call f v)
  unfolding field_stored
  field_stored_keeps f v = then_respects _ _ (lift_keeps R _) (λ bytes. written_in_keeps f bytes)

  pub field_integer_keeps : (f : Field) → Keeps R (field_integer accesses call f)
  unfolding field_integer
  field_integer_keeps f = then_respects _ _ (bits_in_keeps f) (λ bytes. lift_keeps R _)

  pub field_referent_keeps : (f : Field) → Keeps R (field_referent accesses call f)
  unfolding field_referent
  field_referent_keeps f = then_respects _ _ (bits_in_keeps f) (λ bytes. lift_keeps R _)

  pub field_part_keeps : (f : Field) → Keeps R (field_part accesses call f)
  unfolding field_part
  field_part_keeps f = then_respects _ _ (bits_in_keeps f) (λ bytes. lift_keeps R _)

  pub field_given_keeps : (f : Field) → Keeps R (field_given accesses call f)
  unfolding field_given
  field_given_keeps f = then_respects _ _ (bits_in_keeps f) (λ bytes. lift_keeps R _)

-- ---- parts

module _ {S : Type 0} (R : Preorder ℕ) (accesses : Accesses S) (ev : Task → Run S Flow) (parts : (t : Task) → Keeps R (ev t)) where
  pub operand_value_keeps : (scope : List Seg) (depth : ℕ) (t : Tree) → Keeps R (operand_value ev scope depth t)
  unfolding operand_value
  operand_value_keeps scope depth t = then_respects _ _ (parts _) (λ f. settle_respects _)

  pub operand_integer_keeps : (scope : List Seg) (depth : ℕ) (t : Tree) → Keeps R (operand_integer ev scope depth t)
  unfolding operand_integer
  operand_integer_keeps scope depth t = then_respects _ _ (operand_value_keeps scope depth t) (λ v. lift_keeps R _)

  pub value_at_keeps : (scope : List Seg) (depth : ℕ) (t : Tree) (i : ℕ) → Keeps R (value_at ev scope depth t i)
  unfolding value_at
  value_at_keeps scope depth t i = then_respects _ _ (settle_respects _) (λ x. operand_value_keeps scope depth x)

  pub two_values_keeps : (scope : List Seg) (depth : ℕ) (t : Tree) → Keeps R (two_values ev scope depth t)
  unfolding two_values
  two_values_keeps scope depth t = then_respects _ _ (value_at_keeps scope depth t 0) (λ v. then_respects _ _ (value_at_keeps scope depth t 1) (λ u. give_respects _))

  pub after_item_keeps : (go : Bool) (f : Flow) (k : Run S Flow) → Keeps R k → Keeps R (if go then k else give f)
  after_item_keeps true f k h = h
  after_item_keeps false f k h = give_respects _

  done_leads : (n : ℕ) (scope : List Seg) (r : Outcome Flow) (s : State S × ℕ) → R.Leads n s.1 → R.Leads n (item_done scope r s).1.1
  unfolding item_done
  done_leads n scope (Ok f) s h = h
  done_leads n scope (Err e) s h = either_branch (λ (x : Outcome Flow × (State S × ℕ)). R.Leads n x.1.1) (is_passable e) _ _ h h

  item_keeps : (scope : List Seg) (depth : ℕ) (t : Tree) → Keeps R (item ev scope depth t)
  unfolding item passing
  item_keeps scope depth t = record {
    respects = λ s. either_branch (λ (x : Outcome Flow × (State S × ℕ)). R.Leads s.1 x.1.1) (passes_over depth s.0.profile) _ _ (done_leads s.1 scope _ _ ((parts (task scope depth t)).respects s)) ((parts (task scope depth t)).respects s);
  }

  pub in_turn_keeps : (scope : List Seg) (depth : ℕ) (ts : Trees) → Keeps R (in_turn ev scope depth ts)
  unfolding in_turn
  in_turn_keeps scope depth no_trees = give_respects _
  in_turn_keeps scope depth (tree t ts) = then_respects _ _ (item_keeps scope depth t) (λ f. after_item_keeps (goes_on f) f _ (in_turn_keeps scope depth ts))

  -- ---- calls of control methods

  leaving_keeps : (q : List Seg) (k : Run S Flow) → Keeps R k → Keeps R (leaving q k)
  unfolding leaving
  leaving_keeps q k h = record { respects = h.respects }

  pub invoked_keeps : (depth : ℕ) (q : List Seg) (body : List ℕ) (arguments : List Value) → Keeps R (invoked ev depth q body arguments)
  unfolding invoked
  invoked_keeps depth q body arguments =
      then_respects _ _ (lift_keeps R _) (λ few. then_respects _ _ (lift_keeps R _) (λ ts. then_respects _ _ (lift_keeps R _) (λ n. leaving_keeps q _ (in_turn_keeps q _ ts))))

  pub method_value_keeps : (depth : ℕ) (q : List Seg) (body : List ℕ) (arguments : List Value) → Keeps R (method_value ev depth q body arguments)
  unfolding method_value
  method_value_keeps depth q body arguments = then_respects _ _ (invoked_keeps depth q body arguments) (λ f. give_respects _)

  -- ---- fields

  asked_keeps : (other : Invocation → Run S ℕ) → ((i : Invocation) → Keeps R (other i)) → (q : List Seg) → Keeps R (asked other q)
  unfolding asked
  asked_keeps other each q = then_respects _ _ (lift_keeps R _) each

  answer_over_keeps : (k : ℕ) (other : List Seg → Run S ℕ) → ((q : List Seg) → Keeps R (other q)) → (i : Invocation) → Keeps R (answer_over accesses ev k other i)
  unfolding method_integer
  answer_over_keeps k other each (invocations.Value v) = settle_respects _
  answer_over_keeps k other each (invocations.Field f) = field_part_keeps R accesses other each f
  answer_over_keeps k other each (invocations.Method q body) = then_respects _ _ (method_value_keeps _ q body _) (λ v. settle_respects _)
  answer_over_keeps k other each invocations.Osi = stop_respects _

  answer_within_keeps : (k : ℕ) (i : Invocation) → Keeps R (answer_within accesses ev k i)
  unfolding answer_within
  answer_within_keeps zero i = stop_respects _
  answer_within_keeps (suc k) i = then_respects _ _ (lift_keeps R _) (λ few. answer_over_keeps k _ (asked_keeps _ (answer_within_keeps k)) i)

  pub called_at_keeps : (depth : ℕ) (q : List Seg) → Keeps R (called_at accesses ev depth q)
  called_at_keeps depth q = asked_keeps _ (answer_within_keeps _) q

  pub field_read_keeps : (depth : ℕ) (u : Field) → Keeps R (field_read accesses ev depth u)
  field_read_keeps depth u = field_value_keeps R accesses _ (called_at_keeps depth) u

  pub held_integer_keeps : (depth : ℕ) (h : Held) → Keeps R (held_integer accesses ev depth h)
  held_integer_keeps depth (held.Value v) = lift_keeps R _
  held_integer_keeps depth (held.Field u) = field_integer_keeps R accesses _ (called_at_keeps depth) u

  pub referent_read_keeps : (depth : ℕ) (r : Referent) → Keeps R (referent_read accesses ev depth r)
  referent_read_keeps depth (referent.Value v) = give_respects _
  referent_read_keeps depth (referent.Object t) = give_respects _
  referent_read_keeps depth (referent.Field u) = field_referent_keeps R accesses _ (called_at_keeps depth) u
  referent_read_keeps depth (referent.Bytes n) = give_respects _

  pub completed_keeps : (depth : ℕ) (s : Stored) (v : Value) → Keeps R (completed accesses ev depth s v)
  completed_keeps depth store.Done v = give_respects _
  completed_keeps depth (store.Field u) v = field_stored_keeps R accesses _ (called_at_keeps depth) u v

  pub stored_to_keeps : (depth : ℕ) (q : StoreTarget) (v : Value) → Keeps R (stored_to accesses ev depth q v)
  unfolding stored_to
  stored_to_keeps depth q v = then_respects _ _ (lift_keeps R _) (λ s. completed_keeps depth s v)

  pub held_value_keeps : (depth : ℕ) (h : Held) → Keeps R (held_value accesses ev depth h)
  held_value_keeps depth (held.Value v) = give_respects _
  held_value_keeps depth (held.Field u) = field_read_keeps depth u

  back_to_keeps : (b : Bool) (depth : ℕ) (h : Held) (q : StoreTarget) (v : Value) → Keeps R (back_to accesses ev b depth h q v)
  back_to_keeps true depth h q v = stored_to_keeps depth q v
  back_to_keeps false depth (held.Value old) q v = stored_to_keeps depth q v
  back_to_keeps false depth (held.Field u) q v = field_stored_keeps R accesses _ (called_at_keeps depth) u v

  pub stored_back_keeps : (depth : ℕ) (h : Held) (q : StoreTarget) (v : Value) → Keeps R (stored_back accesses ev depth h q v)
  stored_back_keeps depth h q v = back_to_keeps (is_element q) depth h q v
