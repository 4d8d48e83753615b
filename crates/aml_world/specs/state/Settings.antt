-- What a world is made with.
use Rattle.aml_world.specs.declared.state.profile.Profile.{Profile}
use Rattle.aml_world.specs.declared.state.settings.Nesting.{Nesting}
use Rattle.aml_world.specs.declared.state.settings.EvaluationSettings.{EvaluationSettings}

-- as deep as calls and terms may ever be one inside another
abbrev pub deepest : Nesting
deepest = record { calls = 32; levels = 64 }

abbrev pub settings_of : Profile → EvaluationSettings
settings_of profile = record { profile = profile; nesting = deepest }
