-- The names that are declared, and the arguments that they take; what is kept of them.
use Rattle.std.specs.Prelude.{List, Bool, true, false, refl}
use Rattle.std.specs.Coded.{Coded, code_by, coded×, coded_list}
use Rattle.ar_space.specs.Change.{Change}
use Rattle.aml_arities.specs.declared.arities.Arity.{Arity}
use Rattle.aml_arities.specs.contracts.arities.Arity as arity_type
use Rattle.aml_objects.specs.declared.entry.NamedObject.{NamedObject}
use Rattle.aml_objects.specs.declared.entry.NamedObject.TheVariants as object
use Rattle.aml_namespace.specs.Namespace.{Namespace, namespace_code}
use Rattle.aml_world.specs.state.Invocations.{arities_in}

pub record Known : Type 0 where
  pub names : Namespace
  pub arities : List Arity

abbrev pub known_code : Coded Known
known_code = code_by (Namespace × List Arity) (coded× namespace_code (coded_list arity_type.the_row.coded)) (λ k. (k.names, k.arities)) (λ p. record { names = p.0; arities = p.1 }) (λ _. refl)

-- the arguments that names take in the body of a control method
abbrev pub known_arities : Known → List Arity
known_arities k = arities_in k.names.map k.arities

-- a change of the names alone
unfoldable pub on_known : {A : Type 0} → Change Namespace A → Change Known A
on_known m k = ((m k.names).0, record k { names = (m k.names).1 })

-- an object that takes no arguments, and stands for no other
abbrev pub is_plain : NamedObject → Bool
is_plain (object.Method m) = false
is_plain (object.Alias p) = false
is_plain _ = true
