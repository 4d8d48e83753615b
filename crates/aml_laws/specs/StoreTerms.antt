-- Terms that store what they give (ACPI 6.5, 19.3.5.8 and 19.6: CopyObject, Store, ToBuffer, ToInteger and other conversions).
use Rattle.std.specs.Prelude.{◌≡◌, ℕ, List, Ok}
use Rattle.aml_path.specs.declared.segment.Seg.{Seg}
use Rattle.aml_grammar.specs.Tree.{Part}
use Rattle.aml_objects.specs.declared.value.Value.{Value}
use Rattle.aml_objects.specs.declared.value.Value.TheVariants as value
use Rattle.aml_world.specs.declared.values.store_target.StoreTarget.{StoreTarget}
use Rattle.aml_world.specs.declared.values.store_target.Stored.TheVariants as store
use Rattle.aml_world.specs.state.State.{State}
use Rattle.aml_world.specs.values.Stores.{copied_to}
use Rattle.aml_world.specs.values.FormedStores.{formed_to}
use Rattle.aml_laws.specs.OperatorTerms.{NamesTarget}

-- a copy of a value is put into the target that an operand names, which leaves another world
pub record CopiesTo {S : Type 0} (scope : List Seg) (p : Part) (v : Value) (before after : State S) : Type 0 where
  pub target : StoreTarget
  pub names : NamesTarget scope before p target
  pub is : copied_to target v before ≡ (Ok store.Done, after)

-- what a conversion formed is stored to the target that an operand names, without another conversion
pub record FormsTo {S : Type 0} (scope : List Seg) (p : Part) (v : Value) (before after : State S) : Type 0 where
  pub target : StoreTarget
  pub names : NamesTarget scope before p target
  pub is : formed_to target v before ≡ (Ok store.Done, after)

-- a value that is no buffer, and one that is no string
abbrev pub IsNoBuffer : Value → Type 0
IsNoBuffer v = (o : ℕ) → v ≡ value.Buffer o → ⊥

abbrev pub IsNoString : Value → Type 0
IsNoString v = (o : ℕ) → v ≡ value.String o → ⊥
