-- A declaration that memory didn't refuse, as a reply.
use Rattle.std.proofs.Common.{◌≡◌, ℕ, List, refl}
use Rattle.ar_space.specs.Outcome.{Outcome, NotMemory, Answers}
use Rattle.ar_space.specs.Change.{Does}
use Rattle.aml_path.specs.declared.segment.Seg.{Seg}
use Rattle.aml_objects.specs.declared.entry.NamedObject.{NamedObject}
use Rattle.aml_namespace.specs.declared.calls.Reply.TheVariants.{Declared, Located, Replaced}
use Rattle.aml_namespace.specs.Namespace.{Namespace, declared, replaced}
use Rattle.aml_namespace.specs.Calls.{inserted, located, object_replaced, path_found}
use Rattle.aml_path.specs.Paths.{Name}
use Rattle.aml_namespace.specs.Search.{found}
use Rattle.std.proofs.Common.{ap}

pub replied : (r : Outcome ℕ) (after before : Namespace) (path : List Seg) (object : NamedObject) → Does r after (declared path object) before → NotMemory r → inserted path object before ≡ (Declared r, after)
replied r after before path object does memory = rw (does.is memory) refl

pub object_replied : (r : Outcome (Unit {0})) (after before : Namespace) (path : List Seg) (object : NamedObject) → Does r after (replaced path object) before → NotMemory r → object_replaced path object before ≡ (Replaced r, after)
object_replied r after before path object does memory = rw (does.is memory) refl

pub place_replied : (r : Outcome (List Seg)) (s : Namespace) (scope : List Seg) (name : Name) → Answers r (path_found (found s.map scope name)) → NotMemory r → located scope name s ≡ (Located r, s)
place_replied r s scope name answers memory = ap (λ x. (Located x, s)) (answers.is memory)
