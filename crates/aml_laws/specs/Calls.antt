-- Where a call of a control method begins its body, and what it leaves below the method.
use Rattle.std.specs.Prelude.{◌≡◌, ℕ, List, true, false}
use Rattle.std.specs.FinMap.{contains_key}
use Rattle.ar_space.specs.Change.{Change, ◌>>=◌}
use Rattle.aml_path.specs.declared.segment.Seg.{Seg}
use Rattle.aml_path.specs.Paths.{is_below}
use Rattle.aml_objects.specs.declared.value.Value.{Value}
use Rattle.aml_world.specs.state.State.{State}
use Rattle.aml_world.specs.state.Slots.{opened}
use Rattle.aml_world.specs.state.Invocations.{call_allowed, body_terms}
use Rattle.aml_meaning.specs.Calls.{frame_arguments}

-- the number of the frame in which the body begins: the call isn't too deep, the body is read, and a number is left
unfoldable pub body_frame : {S : Type 0} → ℕ → List Seg → List ℕ → List Value → Change (State S) ℕ
body_frame depth p body arguments = do
  few ← call_allowed depth
  ts ← body_terms p body
  opened (frame_arguments arguments)

-- no name stands below a path
abbrev pub NoneBelow : {S : Type 0} → State S → List Seg → Type 0
NoneBelow w p = (q : List Seg) → is_below p q ≡ true → contains_key w.names.map q ≡ false
