-- What a call that evaluates an object comes to: the reply of an evaluation that ended, or the access that it wants.
use Rattle.std.specs.Prelude.{◌⊎◌, ℕ, List, map}
use Rattle.aml_world.specs.state.Given as given
use Rattle.recorded_route.specs.declared.ending.Ending.{Ending}
use Rattle.recorded_route.specs.Endings.{IsEvaluatedOver, NotOutOfMemory}
use Rattle.acpiroute_lib.specs.EvalCommand.{value_written}
use Rattle.acpiroute_c.specs.declared.call_access.CallAccess.{CallAccess}
use Rattle.acpiroute_c.specs.declared.call_settings.CallSettings.{CallSettings}
use Rattle.acpiroute_c.specs.declared.record_call.Said.{Said}
use Rattle.acpiroute_c.specs.declared.table_source.TableSource.{TableSource}
use Rattle.acpiroute_c.specs.Sources.{described_by}
use Rattle.acpiroute_c.specs.RecordCalls.{IsRunOf, IsSaidOf, Places, IsMade, IsUnmade}

-- what the object at a path, which is called with integers, comes to over the record that these accesses make
abbrev pub IsAnswerOf : CallSettings → List ℕ → List ℕ → TableSource → List CallAccess → Ending given.Given → Type 0
IsAnswerOf s path arguments source accesses ending =
    IsRunOf s accesses (λ settings entries. NotOutOfMemory ending → IsEvaluatedOver settings path (map given.Integer arguments) (described_by source) entries ending)

pub record IsValueSaid (s : CallSettings) (path arguments : List ℕ) (source : TableSource) (accesses : List CallAccess) (said : Said) : Type 0 where
  pub ending : Ending given.Given
  pub is_answer : IsAnswerOf s path arguments source accesses ending
  pub is_said : IsSaidOf value_written ending said

abbrev pub IsEvaluateCall : CallSettings → List ℕ → List ℕ → TableSource → List CallAccess → ℕ → Places → Places → Type 0
IsEvaluateCall s path arguments source accesses code before after =
    IsMade (IsValueSaid s path arguments source accesses) code before after ⊎ IsUnmade s accesses code before after
