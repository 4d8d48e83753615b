-- The nodes that stand: a finite map by the numbers of their declarations. They lie in slots, and a list of numbers and keys
-- says in which.
use Rattle.std.specs.Prelude.{◌≡◌, ℕ, ◌+◌, List, [], ◌∷◌, Option, Some, None, slice_index_or}
use Rattle.std.specs.Option.{option_map}
use Rattle.std.specs.Ordering.{nat_cmp}
use Rattle.std.specs.BTreeMap.{is_at}
use Rattle.std.specs.Map.{lookup}
use Rattle.std.specs.FinMap.{FinMap, get, insert, remove, empty}
use Rattle.aml_objects.specs.declared.entry.NamedObject.{NamedObject}
use Rattle.aml_namespace.specs.declared.node.Node.{Node}
use Rattle.aml_namespace.specs.Namespace.{with_object, entry_released}
use Rattle.aml_namespace.specs.Mutexes.{acquired}

abbrev pub NodeMap : Type 0
NodeMap = FinMap nat_cmp Node

-- another object in the node with a number
abbrev pub with_node_object : NamedObject → Node → Node
with_node_object o x = record x { entry = with_object o x.entry }

abbrev pub object_in : NodeMap → ℕ → NamedObject → Option Node → NodeMap
object_in m n o None = m
object_in m n o (Some x) = insert m n (with_node_object o x)

unfoldable pub object_put : NodeMap → ℕ → NamedObject → NodeMap
object_put m n o = object_in m n o (get m n)

-- a node whose mutex is released, if it has one
abbrev pub node_released : Node → Node
node_released x = record x { entry = entry_released x.entry }

-- ---- slots

-- what the slot with a key has;  the key of a number
abbrev pub slot_of : List (Option Node) → ℕ → Option Node
slot_of slots key = slice_index_or slots key None

abbrev pub key_of : List (ℕ × ℕ) → ℕ → Option ℕ
key_of keys number = lookup (is_at (nat_cmp number)) keys

abbrev pub with_slot : NodeMap → ℕ → Option Node → NodeMap
with_slot m number None = remove m number
with_slot m number (Some x) = insert m number x

abbrev pub nodes_of : List (Option Node) → List (ℕ × ℕ) → NodeMap
nodes_of slots [] = empty
nodes_of slots (e ∷ es) = with_slot (nodes_of slots es) e.0 (slot_of slots e.1)

-- each number leads to the slot of its node, and each slot's node is found by its number
pub record Keyed (slots : List (Option Node)) (keys : List (ℕ × ℕ)) : Type 0 where
  pub known : (number key : ℕ) → key_of keys number ≡ Some key → option_map (λ (x : Node). x.entry.number) (slot_of slots key) ≡ Some number
  pub listed : (key : ℕ) (x : Node) → slot_of slots key ≡ Some x → key_of keys x.entry.number ≡ Some key

-- how many of the mutexes are acquired
abbrev pub acquired_at : Option Node → ℕ
acquired_at None = 0
acquired_at (Some x) = acquired x.entry.object

abbrev pub acquired_in : List (Option Node) → ℕ
acquired_in [] = 0
acquired_in (slot ∷ slots) = acquired_at slot + acquired_in slots
