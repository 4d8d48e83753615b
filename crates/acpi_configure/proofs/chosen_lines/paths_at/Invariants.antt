use Rattle.std.proofs.Common.{◌≡◌, ◌++◌, map, drop}
use Rattle.std.specs.Prelude.{slice_index_or, []}
use Rattle.route_model.specs.Links.{paths_of}
use Rattle.acpi_configure.proofs.chosen_lines.paths_at.Given as goal

abbrev pub invariant-loop-place : goal.invariant-loop-place
invariant-loop-place l = l.list.items ++ map (λ k. slice_index_or (paths_of l.links) k []) (drop l.place-index l.places) ≡ map (λ k. slice_index_or (paths_of l.links) k []) l.places
