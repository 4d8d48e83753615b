use Rattle.std.proofs.Common.{◌≡◌, ◌||◌, List}
use Rattle.std.specs.BTreeSet.{contains}
use Rattle.std.specs.List.{list_any}
use Rattle.aml_path.specs.declared.segment.Seg.{Seg}
use Rattle.aml_path.specs.Paths.{path_cmp}
use Rattle.aml_namespace.proofs.Walking.{named_by}
use Rattle.aml_namespace.proofs.names.Names.walk.Given as goal

-- the paths so far, and those of the nodes that are left, are all
abbrev pub invariant-loop-id : goal.invariant-loop-id
invariant-loop-id l = (q : List Seg) → (contains path_cmp l.paths q || list_any (named_by l.self.map q) l.id-iterator) ≡ list_any (named_by l.self.map q) l.initial.id-iterator
