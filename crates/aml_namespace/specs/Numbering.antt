-- The numbers of declarations: each is below the next one, and no two that stand have the same.
use Rattle.std.specs.Prelude.{◌≡◌, ◌<◌, List, Some}
use Rattle.std.specs.FinMap.{get}
use Rattle.aml_path.specs.declared.segment.Seg.{Seg}
use Rattle.aml_objects.specs.declared.entry.Entry.{Entry}
use Rattle.aml_namespace.specs.Namespace.{Namespace}

pub record Numbered (names : Namespace) : Type 0 where
  pub below : (path : List Seg) (e : Entry) → get names.map path ≡ Some e → e.number < names.next
  pub distinct : (p q : List Seg) (d e : Entry) → get names.map p ≡ Some d → get names.map q ≡ Some e → d.number ≡ e.number → p ≡ q
