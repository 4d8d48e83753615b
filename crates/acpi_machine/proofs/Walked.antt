-- The walk goes on by one path.
use Rattle.std.proofs.Common.{◌≡◌, List, [], ◌∷◌, ◌++◌, map, Some, None, refl, sym, append-nil}
use Rattle.std.specs.List.{filter_map}
use Rattle.std.proofs.lemmas.List.{map-append}
use Rattle.std.proofs.lemmas.List.Elements.{filter_map-append}
use Rattle.aml_path.specs.declared.segment.Seg.{Seg}
use Rattle.aml_namespace.specs.Namespace.{Map}
use Rattle.acpi_machine.specs.declared.kind.Kind as code
use Rattle.acpi_machine.specs.Kinds.{Kind, kind_seen, kind_at, with_kind}

abbrev pub node_seen : List Seg × code.Kind → List Seg × Kind
node_seen node = (node.0, kind_seen node.1)

pub one_more : (m : Map) (list after : List (List Seg × code.Kind)) (ps : List (List Seg)) (p : List Seg) (k : code.Kind)
    → map node_seen list ≡ filter_map (with_kind m) ps → Some (kind_seen k) ≡ kind_at m p → after ≡ list ++ (p, k) ∷ [] → map node_seen after ≡ filter_map (with_kind m) (ps ++ p ∷ [])
one_more m list after ps p k so at e =
    rw (e, map-append node_seen list ((p, k) ∷ []), filter_map-append (with_kind m) ps (p ∷ []), ← at, so) refl

pub none_more : (m : Map) (list : List (List Seg × code.Kind)) (ps : List (List Seg)) (p : List Seg)
    → map node_seen list ≡ filter_map (with_kind m) ps → None ≡ kind_at m p → map node_seen list ≡ filter_map (with_kind m) (ps ++ p ∷ [])
none_more m list ps p so at = rw (filter_map-append (with_kind m) ps (p ∷ []), ← at, so) (sym (append-nil (filter_map (with_kind m) ps)))
