-- The world, as contracts see it.
use Rattle.std.specs.Prelude.{ℕ, List, refl}
use Rattle.std.specs.Coded.{Coded, code_by, coded×, coded_list, coded_ℕ}
use Rattle.ar_space.specs.declared.integer_width.IntegerWidth.{IntegerWidth}
use Rattle.ar_space.specs.contracts.integer_width.IntegerWidth as width_type
use Rattle.ar_space.specs.Change.{Change}
use Rattle.aml_arities.specs.declared.arities.Arity.{Arity}
use Rattle.aml_arities.specs.contracts.arities.Arity as arity_type
use Rattle.aml_objects.specs.declared.object.Object.{Object}
use Rattle.aml_objects.specs.contracts.object.Object as object_type
use Rattle.aml_objects.specs.Objects.{Objects}
use Rattle.aml_namespace.specs.Namespace.{Namespace, namespace_code}
use Rattle.aml_world.specs.declared.state.frame.Frame.{Frame}
use Rattle.aml_world.specs.contracts.state.frame.Frame as frame_type
use Rattle.aml_world.specs.declared.state.profile.Profile.{Profile}
use Rattle.aml_world.specs.contracts.state.profile.Profile as profile_type
use Rattle.aml_world.specs.declared.state.settings.Nesting.{Nesting}
use Rattle.aml_world.specs.contracts.state.settings.Nesting as nesting_type
use Rattle.aml_world.specs.state.PassedOver.{PassedOver, passed_code}

pub record State (S : Type 0) : Type 0 where
  pub names : Namespace
  pub arities : List Arity
  pub objects : List Object
  pub frames : List Frame
  pub started : ℕ
  pub space : S
  pub osi : List (List ℕ)
  pub width : IntegerWidth
  pub profile : Profile
  pub nesting : Nesting
  pub passed : PassedOver

abbrev pub state_code : {S : Type 0} → Coded S → Coded (State S)
state_code {S = S} code =
    code_by (Namespace × (List Arity × (List Object × (List Frame × (ℕ × (S × (List (List ℕ) × (IntegerWidth × (Profile × (Nesting × PassedOver))))))))))
    (coded× namespace_code (coded× (coded_list arity_type.the_row.coded) (coded× (coded_list object_type.the_row.coded) (coded× (coded_list frame_type.the_row.coded)
    (coded× coded_ℕ (coded× code (coded× (coded_list (coded_list coded_ℕ)) (coded× width_type.the_row.coded (coded× profile_type.the_row.coded (coded× nesting_type.the_row.coded passed_code))))))))))
    (λ s. (s.names, (s.arities, (s.objects, (s.frames, (s.started, (s.space, (s.osi, (s.width, (s.profile, (s.nesting, s.passed)))))))))))
    (λ p. record { names = p.0; arities = p.1.0; objects = p.1.1.0; frames = p.1.1.1.0; started = p.1.1.1.1.0; space = p.1.1.1.1.1.0; osi = p.1.1.1.1.1.1.0; width = p.1.1.1.1.1.1.1.0; profile = p.1.1.1.1.1.1.1.1.0; nesting = p.1.1.1.1.1.1.1.1.1.0; passed = p.1.1.1.1.1.1.1.1.1.1 })
    (λ _. refl)

-- a change of the objects alone, of the namespace alone, and of the register space alone
unfoldable pub on_objects : {S A : Type 0} → Change Objects A → Change (State S) A
on_objects m w = ((m w.objects).0, record w { objects = (m w.objects).1 })

unfoldable pub on_names : {S A : Type 0} → Change Namespace A → Change (State S) A
on_names m w = ((m w.names).0, record w { names = (m w.names).1 })

unfoldable pub on_space : {S A : Type 0} → Change S A → Change (State S) A
on_space m w = ((m w.space).0, record w { space = (m w.space).1 })
