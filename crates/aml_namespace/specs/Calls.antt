-- Calls of a namespace, one after another: the reply to each, and what they leave.
use Rattle.std.specs.Prelude.{ℕ, List, [], ◌∷◌}
use Rattle.ar_space.specs.Outcome.{Outcome, seen}
use Rattle.aml_namespace.specs.declared.calls.Call.{Call}
use Rattle.aml_namespace.specs.declared.calls.Call.TheVariants as call
use Rattle.aml_namespace.specs.declared.calls.Reply.{Reply}
use Rattle.aml_namespace.specs.declared.calls.Reply.TheVariants as reply
use Rattle.aml_namespace.specs.Namespace.{Namespace, declared, without_below, replaced, mutexes_released}
use Rattle.aml_namespace.specs.Walks.{children, walked}
use Rattle.aml_namespace.specs.Search.{Found as Place, found}
use Rattle.aml_path.specs.declared.segment.Seg.{Seg}
use Rattle.aml_path.specs.Paths.{Name}
use Rattle.aml_objects.specs.declared.entry.NamedObject.{NamedObject}

abbrev pub inserted : List Seg → NamedObject → Namespace → Reply × Namespace
inserted path object s = (reply.Declared (declared path object s).0, (declared path object s).1)

-- the number of the declaration that was found
abbrev pub number_found : Outcome Place → Outcome ℕ
number_found = seen (λ f. f.1.number)

abbrev pub removed : List Seg → Namespace → Reply × Namespace
removed path s = (reply.Removed, without_below path s)

abbrev pub looked_up : List Seg → Name → Namespace → Reply × Namespace
looked_up scope name s = (reply.Found (number_found (found s.map scope name)), s)

-- the path of what was found
abbrev pub path_found : Outcome Place → Outcome (List Seg)
path_found = seen (λ f. f.0)

abbrev pub located : List Seg → Name → Namespace → Reply × Namespace
located scope name s = (reply.Located (path_found (found s.map scope name)), s)

abbrev pub children_listed : List Seg → Namespace → Reply × Namespace
children_listed path s = (reply.Children (children path s.map), s)

abbrev pub all_listed : Namespace → Reply × Namespace
all_listed s = (reply.Walked (walked s.map), s)

abbrev pub object_replaced : List Seg → NamedObject → Namespace → Reply × Namespace
object_replaced path object s = (reply.Replaced (replaced path object s).0, (replaced path object s).1)

abbrev pub all_released : Namespace → Reply × Namespace
all_released s = (reply.Released, mutexes_released s)

-- the reply to a call, and the namespace after it
unfoldable pub answered : Call → Namespace → Reply × Namespace
answered (call.Insert path object) s = inserted path object s
answered (call.RemoveBelow path) s = removed path s
answered (call.Lookup scope name) s = looked_up scope name s
answered (call.Locate scope name) s = located scope name s
answered (call.Children path) s = children_listed path s
answered call.Walk s = all_listed s
answered (call.Replace path object) s = object_replaced path object s
answered call.ReleaseMutexes s = all_released s

abbrev pub replies_to : List Call → Namespace → List Reply
replies_to [] s = []
replies_to (call ∷ calls) s = (answered call s).0 ∷ replies_to calls (answered call s).1

abbrev pub left_by : List Call → Namespace → Namespace
left_by [] s = s
left_by (call ∷ calls) s = left_by calls (answered call s).1
