-- What `names` tells of each name.
use Rattle.std.specs.Prelude.{◌≡◌, ◌++◌, ℕ, List, [], ◌∷◌, Contains, Option, Some, None, true, is_some, codes, refl}
use Rattle.std.proofs.Common.{ap, append_assoc, ◌∙◌}
use Rattle.std.specs.FinMap.{get}
use Rattle.std.specs.List.{All, filter_map, cons_option}
use Rattle.std.specs.Option.{option_map}
use Rattle.std.proofs.lemmas.List.Elements.{All-contains_itself, All-head, All-tail, All-weaker}
use Rattle.aml_path.specs.declared.segment.Seg.{Seg}
use Rattle.aml_path.specs.Text.{text_of}
use Rattle.aml_objects.specs.declared.entry.Entry.{Entry}
use Rattle.aml_objects.specs.declared.entry.NamedObject.{NamedObject}
use Rattle.aml_objects.specs.declared.entry.NamedObject.TheVariants as named
use Rattle.aml_objects.specs.declared.value.Value.TheVariants as value
use Rattle.aml_namespace.specs.Namespace.{Map}
use Rattle.aml_namespace.specs.Walks.{walked}
use Rattle.aml_laws.specs.ReferringTerms as types
use Rattle.acpi_machine.specs.Kinds.{kind_of, with_kind, kinds_walked}
use Rattle.acpiroute_lib.specs.NameLines.{kind_text, name_lines}
use Rattle.machine_laws.proofs.NamesWalked.{walked_stands}
use Rattle.recorded_laws.specs.NamesShown.{AreLinesOf, IsShownAs, of_kind, of_value, of_method, of_alias, of_scope, of_reference, of_nothing}
use Rattle.recorded_laws.specs.NamesShown as shown

pub shown_as : (object : NamedObject) → IsShownAs object (kind_text (kind_of object))
shown_as named.Scope = of_scope
shown_as named.Device = of_kind named.Device 6 (codes "Device") types.device shown.device_word
shown_as named.Processor = of_kind named.Processor 12 (codes "Processor") types.processor shown.processor_word
shown_as named.PowerResource = of_kind named.PowerResource 11 (codes "PowerRes") types.power_resource shown.power_resource_word
shown_as named.ThermalZone = of_kind named.ThermalZone 13 (codes "ThermalZone") types.thermal_zone shown.thermal_zone_word
shown_as (named.Method m) = of_method m
shown_as (named.Data value.Uninitialized) = of_nothing
shown_as (named.Data (value.Integer n)) = of_value (value.Integer n) 1 (codes "Integer") (types.an_integer n) shown.integer_word
shown_as (named.Data (value.String o)) = of_value (value.String o) 2 (codes "String") (types.a_string o) shown.string_word
shown_as (named.Data (value.Buffer o)) = of_value (value.Buffer o) 3 (codes "Buffer") (types.a_buffer o) shown.buffer_word
shown_as (named.Data (value.Package o)) = of_value (value.Package o) 4 (codes "Package") (types.a_package o) shown.package_word
shown_as (named.Data (value.Reference r)) = of_reference r
shown_as (named.OperationRegion r) = of_kind (named.OperationRegion r) 10 (codes "Region") (types.region r) shown.region_word
shown_as (named.FieldUnit u) = of_kind (named.FieldUnit u) 5 (codes "FieldUnit") (types.field_unit u) shown.field_unit_word
shown_as (named.BufferField b) = of_kind (named.BufferField b) 14 (codes "BufferField") (types.buffer_field b) shown.buffer_field_word
shown_as (named.Mutex n) = of_kind (named.Mutex n) 9 (codes "Mutex") (types.mutex n) shown.mutex_word
shown_as (named.Event n) = of_kind (named.Event n) 7 (codes "Event") (types.event n) shown.event_word
shown_as (named.Alias path) = of_alias path

module _ (names : Map) where
  entry_there : (o : Option Entry) → is_some o ≡ true → (e : Entry) × (o ≡ Some e)
  entry_there None is = absurd (cc is)
  entry_there (Some e) is = (e, refl)

  -- a line before those of the names behind it
  line_before : (path : List Seg) (word rest : List ℕ) → (text_of path ++ (codes " " ++ (word ++ codes "\n"))) ++ rest ≡ text_of path ++ (codes " " ++ (word ++ (codes "\n" ++ rest)))
  line_before path word rest =
      append_assoc (text_of path) (codes " " ++ (word ++ codes "\n")) rest ∙ ap (λ back. text_of path ++ (codes " " ++ back)) (append_assoc word (codes "\n") rest)

  first_line : (path : List Seg) (paths : List (List Seg)) (e : Entry) → get names path ≡ Some e
      → name_lines (filter_map (with_kind names) (path ∷ paths)) ≡ text_of path ++ (codes " " ++ (kind_text (kind_of e.object) ++ (codes "\n" ++ name_lines (filter_map (with_kind names) paths))))
  first_line path paths e is =
      let rest = filter_map (with_kind names) paths in
      ap (λ (o : Option Entry). name_lines (cons_option (option_map (λ k. (path, k)) (option_map (λ (x : Entry). kind_of x.object) o)) rest)) is
      ∙ line_before path (kind_text (kind_of e.object)) (name_lines rest)

  lines_of : (paths : List (List Seg)) → All (λ (p : List Seg). is_some (get names p) ≡ true) paths → AreLinesOf names paths (name_lines (filter_map (with_kind names) paths))
  lines_of [] h = refl
  lines_of (path ∷ paths) h =
      let there = entry_there (get names path) (All-head (λ (p : List Seg). is_some (get names p) ≡ true) path paths h) in (
        there.0,
        kind_text (kind_of there.0.object),
        name_lines (filter_map (with_kind names) paths),
        there.1,
        shown_as there.0.object,
        first_line path paths there.0 there.1,
        lines_of paths (All-tail (λ (p : List Seg). is_some (get names p) ≡ true) path paths h),
      )

  pub lines_of_names : AreLinesOf names (walked names) (name_lines (kinds_walked names))
  unfolding kinds_walked
  lines_of_names =
      lines_of (walked names) (All-weaker (Contains (walked names)) (λ (p : List Seg). is_some (get names p) ≡ true) (λ p c. ((walked_stands names p).0 c).1) (walked names) (All-contains_itself (walked names)))
