-- The list of devices goes on by one name.
use Rattle.std.proofs.Common.{◌≡◌, List, [], ◌∷◌, ◌++◌, map, true, false, refl, sym, append-nil}
use Rattle.std.specs.List.{filter_map}
use Rattle.std.proofs.lemmas.List.{map-append}
use Rattle.std.proofs.lemmas.List.Elements.{filter_map-append}
use Rattle.aml_path.specs.declared.segment.Seg.{Seg}
use Rattle.acpi_machine.specs.declared.kind.Kind as code
use Rattle.acpi_machine.specs.Kinds.{Kind, kind_seen}
use Rattle.acpi_links.specs.Devices.{is_device, device_path}

abbrev pub node_seen : List Seg × code.Kind → List Seg × Kind
node_seen node = (node.0, kind_seen node.1)

pub device_more : (list after : List (List Seg)) (nodes : List (List Seg × code.Kind)) (p : List Seg) (k : code.Kind)
    → list ≡ filter_map device_path (map node_seen nodes) → is_device (kind_seen k) ≡ true → after ≡ list ++ p ∷ [] → after ≡ filter_map device_path (map node_seen (nodes ++ (p, k) ∷ []))
device_more list after nodes p k so is e = rw (e, so, map-append node_seen nodes ((p, k) ∷ []), filter_map-append device_path (map node_seen nodes) (node_seen (p, k) ∷ []), is) refl

pub device_none : (list : List (List Seg)) (nodes : List (List Seg × code.Kind)) (p : List Seg) (k : code.Kind)
    → list ≡ filter_map device_path (map node_seen nodes) → is_device (kind_seen k) ≡ false → list ≡ filter_map device_path (map node_seen (nodes ++ (p, k) ∷ []))
device_none list nodes p k so is = rw (so, map-append node_seen nodes ((p, k) ∷ []), filter_map-append device_path (map node_seen nodes) (node_seen (p, k) ∷ []), is) (sym (append-nil (filter_map device_path (map node_seen nodes))))
