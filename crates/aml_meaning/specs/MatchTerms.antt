-- Match: the first element of a package that meets two tests (ACPI 6.5, 19.6). The elements are looked at one after another, which costs
-- no step. A name that is an element is searched for at each use, and the value of a field is read then.
use Rattle.std.specs.Prelude.{ℕ, zero, suc, ◌-◌, Bool, false, List, Option, Some, None, if◌then◌else◌}
use Rattle.ar_space.specs.Accesses.{Accesses}
use Rattle.ar_space.specs.Change.{give, settle, ◌>>=◌}
use Rattle.aml_path.specs.declared.segment.Seg.{Seg}
use Rattle.aml_grammar.specs.Tree.{Tree}
use Rattle.aml_grammar.specs.Apart.{operand_of}
use Rattle.aml_objects.specs.declared.value.Value.{Value}
use Rattle.aml_objects.specs.declared.value.Value.TheVariants as value
use Rattle.aml_world.specs.declared.values.searches.Search.{Search}
use Rattle.aml_world.specs.declared.values.searches.Searching.{Searching}
use Rattle.aml_world.specs.declared.values.store_target.Held.{Held}
use Rattle.aml_world.specs.state.Run.{Run, lift}
use Rattle.aml_world.specs.state.Readings.{integer_kept}
use Rattle.aml_world.specs.values.Searches.{search_begun, element_held, value_meets}
use Rattle.aml_meaning.specs.declared.flow.Flow.{Flow}
use Rattle.aml_meaning.specs.declared.flow.Flow.TheVariants as flow
use Rattle.aml_meaning.specs.Terms.{number_of}
use Rattle.aml_meaning.specs.Tasks.{Task, value_at}
use Rattle.aml_meaning.specs.FieldCalls.{held_value}

-- the index of the element that matches, or what the others give
abbrev pub found_or : {S : Type 0} → Bool → ℕ → Run S Flow → Run S Flow
found_or met i others = if met then give (flow.Value (value.Integer i)) else others

-- none matches: Ones
unfoldable pub none_matches : {S : Type 0} → Run S Flow
none_matches = do
  v ← lift (integer_kept 18446744073709551615)
  give (flow.Value v)

-- accesses: what the register space makes of them; ev: what a part evaluates to
module _ {S : Type 0} (accesses : Accesses S) (ev : Task → Run S Flow) where
  unfoldable pub held_meets : ℕ → Search → Held → Run S Bool
  held_meets depth x h = do
    v ← held_value accesses ev depth h
    lift (value_meets x v)

  abbrev pub if_held : ℕ → Search → Option Held → Run S Bool
  if_held depth x None = give false
  if_held depth x (Some h) = held_meets depth x h

  -- whether the element at an index matches
  unfoldable pub element_meets : ℕ → Search → ℕ → Run S Bool
  element_meets depth x i = do
    h ← lift (element_held x.source i)
    if_held depth x h

  -- ---- the search

  -- the last elements of the package, so many of them
  unfoldable pub searched_last : ℕ → Search → ℕ → Run S Flow
  searched_last depth x zero = none_matches
  searched_last depth x (suc n) = do
    met ← element_meets depth x (x.count - suc n)
    found_or met (x.count - suc n) (searched_last depth x n)

  abbrev pub searched : ℕ → Searching → Run S Flow
  searched depth x = searched_last depth x.search x.left

  unfoldable pub match_rule : List Seg → ℕ → Tree → Run S Flow
  match_rule scope depth t = do
    p ← value_at ev scope depth t 0
    k ← settle (number_of (operand_of t 1))
    a ← value_at ev scope depth t 2
    l ← settle (number_of (operand_of t 3))
    b ← value_at ev scope depth t 4
    i ← value_at ev scope depth t 5
    x ← lift (search_begun p k a l b i)
    searched depth x
