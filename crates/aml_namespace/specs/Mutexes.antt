-- Whether a mutex is acquired.
use Rattle.std.specs.Prelude.{ℕ, ◌==◌, if◌then◌else◌}
use Rattle.aml_objects.specs.declared.entry.NamedObject.{NamedObject}
use Rattle.aml_objects.specs.declared.entry.NamedObject.TheVariants as object

-- 1 for a mutex that is acquired, and 0 for anything else
abbrev pub acquired : NamedObject → ℕ
acquired (object.Mutex n) = if n == 0 then 0 else 1
acquired o = 0
