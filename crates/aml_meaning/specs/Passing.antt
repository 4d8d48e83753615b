-- Passing over what is refused.
use Rattle.std.specs.Prelude.{List, Ok, Err, if◌then◌else◌}
use Rattle.ar_space.specs.Outcome.{Outcome}
use Rattle.aml_path.specs.declared.segment.Seg.{Seg}
use Rattle.aml_world.specs.state.Run.{Run}
use Rattle.aml_world.specs.state.PassedOver.{is_passable}
use Rattle.aml_world.specs.state.Noting.{with_passed}
use Rattle.aml_meaning.specs.declared.flow.Flow.{Flow}
use Rattle.aml_meaning.specs.declared.flow.Flow.TheVariants as flow

-- what an item leaves of a list in a scope, which goes on behind one that is passed over
unfoldable pub item_done : {S : Type 0} → List Seg → Outcome Flow → Run S Flow
item_done scope (Ok f) s = (Ok f, s)
item_done scope (Err e) s = if is_passable e then (Ok flow.Next, (with_passed scope e s.0, s.1)) else (Err e, s)

unfoldable pub passing : {S : Type 0} → List Seg → Run S Flow → Run S Flow
passing scope m s = let a = m s in item_done scope a.0 a.1
