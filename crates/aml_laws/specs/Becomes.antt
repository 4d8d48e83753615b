-- What evaluations make of a world, however they end: of a term, of a list of terms, of a table, of an object with arguments, and of a
-- question whose answer is handed out, one after another; and what the wide profile passes over is noted.
use Rattle.std.specs.Prelude.{◌≡◌, ℕ, List, true}
use Rattle.ar_space.specs.declared.refusal.Refusal.{Refusal}
use Rattle.ar_space.specs.Accesses.{Accesses}
use Rattle.aml_path.specs.declared.segment.Seg.{Seg}
use Rattle.aml_grammar.specs.Tree.{Trees}
use Rattle.aml_objects.specs.declared.value.Value.{Value}
use Rattle.aml_world.specs.declared.state.profile.Profile.TheVariants.{Wide}
use Rattle.aml_world.specs.state.Given.{Given}
use Rattle.aml_world.specs.state.PassedOver.{is_passable}
use Rattle.aml_world.specs.state.Noting.{with_passed}
use Rattle.aml_world.specs.state.State.{State}
use Rattle.aml_meaning.specs.Tasks.{Task, in_turn}
use Rattle.aml_meaning.specs.Meaning.{meaning}
use Rattle.aml_meaning.specs.Calling.{loaded, evaluated, answered}

pub data Becomes {S : Type 0} (accesses : Accesses S) (w : State S) : State S → Type 0 where
  same : Becomes accesses w w
  term : (v : State S) (t : Task) (steps : ℕ) → Becomes accesses w v → Becomes accesses w (meaning accesses t (v, steps)).1.0
  list : (v : State S) (scope : List Seg) (depth : ℕ) (ts : Trees) (steps : ℕ) → Becomes accesses w v → Becomes accesses w (in_turn (meaning accesses) scope depth ts (v, steps)).1.0
  table : (v : State S) (bytes : List ℕ) (steps : ℕ) → Becomes accesses w v → Becomes accesses w (loaded accesses bytes steps v).1
  value : (v : State S) (path : List Seg) (arguments : List Value) (steps : ℕ) → Becomes accesses w v → Becomes accesses w (evaluated accesses path arguments steps v).1
  answer : (v : State S) (path : List Seg) (arguments : List Given) (steps : ℕ) → Becomes accesses w v → Becomes accesses w (answered accesses path arguments steps v).1
  passed : (v : State S) (path : List Seg) (e : Refusal) → v.profile ≡ Wide → is_passable e ≡ true → Becomes accesses w v → Becomes accesses w (with_passed path e v)
