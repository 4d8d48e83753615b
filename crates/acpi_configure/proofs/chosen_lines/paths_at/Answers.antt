use Rattle.std.proofs.Common.{arith}
use Rattle.std.specs.Prelude.{slice_index_or, []}
use Rattle.route_model.specs.Links.{paths_of}
use Rattle.acpi_configure.proofs.Turns.{more_numbers, end_plain, answer-is}
use Rattle.acpi_configure.proofs.chosen_lines.paths_at.Goals as goal

pub loop-place-preserved : goal.loop-place-preserved
loop-place-preserved c =
    more_numbers (λ k. slice_index_or (paths_of c.args.links.now) k []) c.loop-place.list.items _ c.args.places.now c.loop-place.place-index c.in_ok-path.path c.loop-place.invariant (omega arith) c.in_ok-push.ensures.items (cc (c.in_ok-path.ensures.is tt))

pub returns : goal.returns
returns c = answer-is _ _ (end_plain (λ k. slice_index_or (paths_of c.args.links.now) k []) c.loop-place.list.items c.args.places.now c.loop-place.place-index c.loop-place.invariant (omega arith))
