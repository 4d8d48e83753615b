-- Declarations in the world (ACPI 6.5, 5.3 and 19.6).
use Rattle.std.specs.Prelude.{ℕ, List, Bool, Option, Some, None, Ok, Err, if◌then◌else◌}
use Rattle.std.specs.FinMap.{get}
use Rattle.ar_space.specs.declared.refusal.Refusal.TheVariants as refusal
use Rattle.ar_space.specs.declared.refusal.NamespaceFault.TheVariants.{NotFound}
use Rattle.ar_space.specs.Outcome.{Outcome}
use Rattle.ar_space.specs.Change.{Change, ◌>>=◌}
use Rattle.aml_path.specs.declared.segment.Seg.{Seg}
use Rattle.aml_objects.specs.declared.entry.Entry.{Entry}
use Rattle.aml_objects.specs.declared.entry.NamedObject.{NamedObject}
use Rattle.aml_objects.specs.declared.entry.NamedObject.TheVariants as object
use Rattle.aml_objects.specs.declared.entry.MethodFlags.{MethodFlags}
use Rattle.aml_objects.specs.declared.entry.MethodBody.TheVariants.{Aml}
use Rattle.aml_namespace.specs.Namespace.{above, declared}
use Rattle.aml_world.specs.state.State.{State, on_names}

abbrev pub no_method : NamedObject → Outcome (Unit {0})
no_method (object.Method m) = Err (refusal.Namespace NotFound)
no_method _ = Ok tt

abbrev pub no_method_in : Option Entry → Outcome (Unit {0})
no_method_in None = Ok tt
no_method_in (Some e) = no_method e.object

-- at module level no name is declared in a control method
unfoldable pub not_in_method : {S : Type 0} → Bool → List Seg → Change (State S) (Unit {0})
not_in_method module_level p w = (if module_level then no_method_in (get w.names.map (above p)) else Ok tt, w)

-- a new name
unfoldable pub new_name : {S : Type 0} → Bool → List Seg → NamedObject → Change (State S) ℕ
new_name module_level p o = do
  free ← not_in_method module_level p
  on_names (declared p o)

-- a new control method: its flags, and the bytes of its body
unfoldable pub new_method : {S : Type 0} → Bool → List Seg → MethodFlags → List ℕ → Change (State S) ℕ
new_method module_level p flags body = new_name module_level p (object.Method (record { flags = flags; body = Aml body }))
