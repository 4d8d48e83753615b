-- The namespace (ACPI 6.5, 5.3): a finite map of paths, and the number of the next declaration.
use Rattle.std.specs.Prelude.{◌≡◌, true, is_some, ℕ, ◌+◌, ◌-◌, ◌^◌, ◌==◌, List, [], ◌∷◌, length, take, not, Option, Some, None, Ok, Err, refl, if◌then◌else◌}
use Rattle.std.specs.Prelude as list
use Rattle.std.specs.FinMap.{FinMap, get, contains_key, insert, retain_keys, entries, empty, from_sorted, code}
use Rattle.std.specs.Coded.{Coded, code_by, coded×, coded_list, coded_ℕ}
use Rattle.ar_space.specs.declared.refusal.Refusal.TheVariants as refusal
use Rattle.ar_space.specs.declared.refusal.EvaluationFault.TheVariants.{ObjectLimit}
use Rattle.ar_space.specs.declared.refusal.NamespaceFault.TheVariants.{Exists, NotFound}
use Rattle.ar_space.specs.Outcome.{Outcome}
use Rattle.ar_space.specs.Change.{Change}
use Rattle.aml_path.specs.contracts.segment.Seg as seg
use Rattle.aml_path.specs.declared.segment.Seg.{Seg}
use Rattle.aml_path.specs.Paths.{path_cmp, is_below}
use Rattle.aml_objects.specs.contracts.entry.Entry as entry_type
use Rattle.aml_objects.specs.declared.entry.Entry.{Entry}
use Rattle.aml_objects.specs.declared.entry.NamedObject.{NamedObject}
use Rattle.aml_objects.specs.declared.entry.NamedObject.TheVariants as object

abbrev pub Map : Type 0
Map = FinMap path_cmp Entry

pub record Namespace : Type 0 where
  pub map : Map
  pub next : ℕ

abbrev pub path_code : Coded (List Seg)
path_code = coded_list seg.the_row.coded

abbrev pub namespace_code : Coded Namespace
namespace_code = code_by (Map × ℕ) (coded× (code path_code entry_type.the_row.coded) coded_ℕ) (λ s. (s.map, s.next)) (λ p. record { map = p.0; next = p.1 }) (λ _. refl)

-- the root alone, a scope that always stands
abbrev pub root_alone : Namespace
root_alone = record { map = insert empty [] (record { number = 0; object = object.Scope }); next = 1 }

-- the path one level up; the root stands for its own
abbrev pub above : List Seg → List Seg
above p = take (length p - 1) p

-- a new name: its parent stands, it is free, and a number is left for it
unfoldable pub declared : List Seg → NamedObject → Change Namespace ℕ
declared p o s =
    if contains_key s.map (above p)
    then (if contains_key s.map p then (Err (refusal.Namespace Exists), s)
    else (if s.next == 2 ^ 64 - 1 then (Err (refusal.Evaluation ObjectLimit), s)
    else (Ok s.next, record { map = insert s.map p (record { number = s.next; object = o }); next = s.next + 1 })))
    else (Err (refusal.Namespace NotFound), s)

-- without the names below a path
unfoldable pub without_below : List Seg → Namespace → Namespace
without_below p s = record s { map = retain_keys s.map (λ q. not (is_below p q)) }

-- some name stands below a path
abbrev pub HasBelow : List Seg → Map → Type 0
HasBelow p m = (q : List Seg) × (is_below p q ≡ true) × (is_some (get m q) ≡ true)

-- another object under the same number
abbrev pub with_object : NamedObject → Entry → Entry
with_object o e = record e { object = o }

abbrev pub replaced_in : List Seg → NamedObject → Namespace → Option Entry → Outcome (Unit {0}) × Namespace
replaced_in p o s None = (Err (refusal.Namespace NotFound), s)
replaced_in p o s (Some e) = (Ok tt, record s { map = insert s.map p (with_object o e) })

-- what stands at a path becomes another object, under the number of its declaration
unfoldable pub replaced : List Seg → NamedObject → Change Namespace (Unit {0})
replaced p o s = replaced_in p o s (get s.map p)

-- a mutex that nobody has acquired; anything else is itself
abbrev pub released : NamedObject → NamedObject
released (object.Mutex n) = object.Mutex 0
released o = o

abbrev pub entry_released : Entry → Entry
entry_released e = with_object (released e.object) e

-- every mutex released, and nothing else changed
unfoldable pub mutexes_released : Namespace → Namespace
mutexes_released s = record s { map = from_sorted (list.map (λ e. (e.0, entry_released e.1)) (entries s.map)) }

-- the declaration with a number, while it stands
abbrev pub with_number : ℕ → List (List Seg × Entry) → Option (List Seg × Entry)
with_number n [] = None
with_number n (e ∷ es) = if e.1.number == n then Some e else with_number n es

unfoldable pub numbered : ℕ → Map → Option (List Seg × Entry)
numbered n m = with_number n (entries m)
