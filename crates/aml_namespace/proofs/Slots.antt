-- What the slots and the keys of nodes say together, through every change.
use Rattle.std.proofs.Common.{◌≡◌, ◌≢◌, ◌≤◌, ℕ, length, arith, Bool, true, false, cond, List, [], ◌∷◌, inl, inr, Option, Some, None, IsSome, refl, ap, sym, ◌∙◌}
use Rattle.std.specs.Prelude.{zero, suc, option_and_then, slice_set}
use Rattle.std.proofs.lemmas.List.{get_or-set_other}
use Rattle.std.specs.Option.{option_map}
use Rattle.std.proofs.lemmas.Bool.{cases_eq}
use Rattle.std.specs.FinMap.{get, insert, remove, get-insert, get-remove, get-empty}
use Rattle.std.specs.Ordering.{nat_cmp, eq_by_cmp}
use Rattle.std.specs.Cmp.{nat_cmp_total}
use Rattle.aml_objects.specs.declared.entry.NamedObject.{NamedObject}
use Rattle.aml_namespace.specs.declared.node.Node.{Node}
use Rattle.aml_namespace.specs.Nodes.{NodeMap, slot_of, key_of, with_slot, nodes_of, Keyed, object_in, object_put, with_node_object, node_released}
use Rattle.aml_namespace.proofs.Numbers.{here, apart, insert_here, insert_apart, remove_here, remove_apart, same_numbers}

with_slot_at : (m : NodeMap) (n : ℕ) (o : Option Node) (q : ℕ) → get (with_slot m n o) q ≡ cond (eq_by_cmp nat_cmp q n) o (get m q)
with_slot_at m n None q = get-remove nat_cmp_total m n q
with_slot_at m n (Some x) q = get-insert nat_cmp_total m n x q

moved : (b : Bool) (slots : List (Option Node)) (k : ℕ) (o : Option ℕ) → cond b (slot_of slots k) (option_and_then (slot_of slots) o) ≡ option_and_then (slot_of slots) (cond b (Some k) o)
moved true slots k o = refl
moved false slots k o = refl

-- the node with a number lies in the slot that its key names
pub nodes_get : (slots : List (Option Node)) (keys : List (ℕ × ℕ)) (q : ℕ) → get (nodes_of slots keys) q ≡ option_and_then (slot_of slots) (key_of keys q)
nodes_get slots [] q = get-empty nat_cmp q
nodes_get slots (e ∷ es) q =
    with_slot_at (nodes_of slots es) e.0 (slot_of slots e.1) q
    ∙ ap (cond (eq_by_cmp nat_cmp q e.0) (slot_of slots e.1)) (nodes_get slots es q)
    ∙ moved (eq_by_cmp nat_cmp q e.0) slots e.1 (key_of es q)

-- a slot written over
pub set_here : (slots : List (Option Node)) (k : ℕ) (x y : Node) → slot_of slots k ≡ Some x → slot_of (slice_set slots k (Some y)) k ≡ Some y
set_here [] k x y is = absurd (cc is)
set_here (s ∷ ss) zero x y is = refl
set_here (s ∷ ss) (suc k) x y is = set_here ss k x y is

pub past : (slots : List (Option Node)) (k : ℕ) → length slots ≤ k → slot_of slots k ≡ None
past [] k le = refl
past (s ∷ ss) zero le = absurd (omega (arith, le))
past (s ∷ ss) (suc k) le = past ss k (omega (arith, le))

pub set_beside : (slots : List (Option Node)) (k : ℕ) (o : Option Node) (j : ℕ) → j ≢ k → slot_of (slice_set slots k o) j ≡ slot_of slots j
set_beside slots k o j ne = get_or-set_other slots k j o None ne

-- the same key leads to the same, where its slot is as it was
through : (slots after : List (Option Node)) (o : Option ℕ) → ((j : ℕ) → o ≡ Some j → slot_of after j ≡ slot_of slots j) → option_and_then (slot_of after) o ≡ option_and_then (slot_of slots) o
through slots after None h = refl
through slots after (Some j) h = h j refl

number_is : (x : Node) (o : Option Node) (n : ℕ) → o ≡ Some x → option_map (λ (x : Node). x.entry.number) o ≡ Some n → x.entry.number ≡ n
number_is x o n is h = cc (ap (option_map (λ (x : Node). x.entry.number)) is, h)

empty_slot : (o : Option Node) (n : ℕ) → o ≡ None → option_map (λ (x : Node). x.entry.number) o ≡ Some n → ⊥
empty_slot o n none h = absurd (cc (ap (option_map (λ (x : Node). x.entry.number)) none, h))

module _ (slots : List (Option Node)) (keys : List (ℕ × ℕ)) (keyed : Keyed slots keys) where
  -- found by the key, where the number is the one sought
  pub by_key : (k n : ℕ) (x : Node) → slot_of slots k ≡ Some x → x.entry.number ≡ n → get (nodes_of slots keys) n ≡ Some x
  by_key k n x at is = nodes_get slots keys n ∙ ap (option_and_then (slot_of slots)) (ap (key_of keys) (sym is) ∙ keyed.listed k x at) ∙ at

  pub by_number : (n k : ℕ) → key_of keys n ≡ Some k → get (nodes_of slots keys) n ≡ slot_of slots k
  by_number n k at = nodes_get slots keys n ∙ ap (option_and_then (slot_of slots)) at

  pub no_number : (n : ℕ) → key_of keys n ≡ None → get (nodes_of slots keys) n ≡ None
  no_number n none = nodes_get slots keys n ∙ ap (option_and_then (slot_of slots)) none

  pub stands : (n k : ℕ) → key_of keys n ≡ Some k → IsSome (slot_of slots k)
  stands n k at = stands_by (slot_of slots k) n (keyed.known n k at)
    where
      stands_by : (o : Option Node) (n : ℕ) → option_map (λ (x : Node). x.entry.number) o ≡ Some n → IsSome o
      stands_by None n h = absurd (cc h)
      stands_by (Some x) n h = refl

  absent_by : (n : ℕ) (o : Option ℕ) → key_of keys n ≡ o → option_and_then (slot_of slots) o ≡ None → o ≡ None
  absent_by n None is h = refl
  absent_by n (Some k) is h = absurd (empty_slot (slot_of slots k) n h (keyed.known n k is))

  pub absent : (n : ℕ) → get (nodes_of slots keys) n ≡ None → key_of keys n ≡ None
  absent n none = absent_by n (key_of keys n) refl (sym (nodes_get slots keys n) ∙ none)

  -- ---- a node put into a slot that is vacant

  module _ (after : List (Option Node)) (others : List (ℕ × ℕ)) (n k : ℕ) (x : Node) (new : get (nodes_of slots keys) n ≡ None) (number : x.entry.number ≡ n)
      (vacant : slot_of slots k ≡ None) (at : slot_of after k ≡ Some x) (beside : (j : ℕ) → j ≢ k → slot_of after j ≡ slot_of slots j)
      (updated : (q : ℕ) → key_of others q ≡ cond (eq_by_cmp nat_cmp n q) (Some k) (key_of keys q)) where
    key_here : key_of others n ≡ Some k
    key_here = updated n ∙ ap (λ b. cond b (Some k) (key_of keys n)) (here n)

    key_apart : (q : ℕ) → (n ≡ q → ⊥) → key_of others q ≡ key_of keys q
    key_apart q ne = updated q ∙ ap (λ b. cond b (Some k) (key_of keys q)) (apart n q ne)

    not_here : (q j : ℕ) → key_of keys q ≡ Some j → j ≢ k
    not_here q j is = λ e. empty_slot (slot_of slots j) q (ap (slot_of slots) e ∙ vacant) (keyed.known q j is)

    each : (q : ℕ) → get (nodes_of after others) q ≡ get (insert (nodes_of slots keys) n x) q
    each q = elim (cases_eq n q) [
      | inl e ↦
          nodes_get after others q ∙ ap (option_and_then (slot_of after)) (ap (key_of others) (sym e) ∙ key_here) ∙ at
          ∙ sym (ap (get (insert (nodes_of slots keys) n x)) (sym e) ∙ insert_here (nodes_of slots keys) n x)
      | inr ne ↦
          nodes_get after others q ∙ ap (option_and_then (slot_of after)) (key_apart q ne)
          ∙ through slots after (key_of keys q) (λ j is. beside j (not_here q j is))
          ∙ sym (insert_apart (nodes_of slots keys) n x q (λ e. ne (sym e)) ∙ nodes_get slots keys q)
    ]

    pub put_is : nodes_of after others ≡ insert (nodes_of slots keys) n x
    put_is = same_numbers (nodes_of after others) (insert (nodes_of slots keys) n x) each

    pub put_keyed : Keyed after others
    put_keyed = record {
      known = λ q j is. elim (cases_eq n q) [
        | inl e ↦
            let same : j ≡ k = cc (is, ap (key_of others) (sym e), key_here) in
            ap (λ i. option_map (λ (x : Node). x.entry.number) (slot_of after i)) same ∙ ap (option_map (λ (x : Node). x.entry.number)) at ∙ ap Some (number ∙ e)
        | inr ne ↦
            let was : key_of keys q ≡ Some j = sym (key_apart q ne) ∙ is in
            ap (option_map (λ (x : Node). x.entry.number)) (beside j (not_here q j was)) ∙ keyed.known q j was
      ];
      listed = λ j y is. elim (cases_eq j k) [
        | inl e ↦
            let same : Some x ≡ Some y = sym at ∙ ap (slot_of after) (sym e) ∙ is in
            let one : x ≡ y = cc same in
            ap (key_of others) (ap (λ (z : Node). z.entry.number) (sym one) ∙ number) ∙ key_here ∙ ap Some (sym e)
        | inr ne ↦
            let was : slot_of slots j ≡ Some y = sym (beside j ne) ∙ is in
            key_apart y.entry.number (λ e. absurd (cc (sym (absent n new) ∙ ap (key_of keys) e ∙ keyed.listed j y was))) ∙ keyed.listed j y was
      ];
    }

  -- ---- a slot vacated

  module _ (after : List (Option Node)) (others : List (ℕ × ℕ)) (n k : ℕ) (was_key : key_of keys n ≡ Some k)
      (gone : slot_of after k ≡ None) (beside : (j : ℕ) → j ≢ k → slot_of after j ≡ slot_of slots j)
      (updated : (q : ℕ) → key_of others q ≡ cond (eq_by_cmp nat_cmp n q) None (key_of keys q)) where
    left_here : key_of others n ≡ None
    left_here = updated n ∙ ap (λ b. cond b None (key_of keys n)) (here n)

    left_apart : (q : ℕ) → (n ≡ q → ⊥) → key_of others q ≡ key_of keys q
    left_apart q ne = updated q ∙ ap (λ b. cond b None (key_of keys q)) (apart n q ne)

    not_this : (q j : ℕ) → (n ≡ q → ⊥) → key_of keys q ≡ Some j → j ≢ k
    not_this q j ne is = λ e. ne (cc (sym (keyed.known n k was_key) ∙ ap (λ i. option_map (λ (x : Node). x.entry.number) (slot_of slots i)) (sym e) ∙ keyed.known q j is))

    each_left : (q : ℕ) → get (nodes_of after others) q ≡ get (remove (nodes_of slots keys) n) q
    each_left q = elim (cases_eq n q) [
      | inl e ↦
          nodes_get after others q ∙ ap (option_and_then (slot_of after)) (ap (key_of others) (sym e) ∙ left_here)
          ∙ sym (ap (get (remove (nodes_of slots keys) n)) (sym e) ∙ remove_here (nodes_of slots keys) n)
      | inr ne ↦
          nodes_get after others q ∙ ap (option_and_then (slot_of after)) (left_apart q ne)
          ∙ through slots after (key_of keys q) (λ j is. beside j (not_this q j ne is))
          ∙ sym (remove_apart (nodes_of slots keys) n q (λ e. ne (sym e)) ∙ nodes_get slots keys q)
    ]

    pub removed_is : nodes_of after others ≡ remove (nodes_of slots keys) n
    removed_is = same_numbers (nodes_of after others) (remove (nodes_of slots keys) n) each_left

    pub removed_keyed : Keyed after others
    removed_keyed = record {
      known = λ q j is. elim (cases_eq n q) [
        | inl e ↦ absurd (cc (sym left_here ∙ ap (key_of others) e ∙ is))
        | inr ne ↦
            let was : key_of keys q ≡ Some j = sym (left_apart q ne) ∙ is in
            ap (option_map (λ (x : Node). x.entry.number)) (beside j (not_this q j ne was)) ∙ keyed.known q j was
      ];
      listed = λ j y is. elim (cases_eq j k) [
        | inl e ↦ absurd (cc (sym gone ∙ ap (slot_of after) (sym e) ∙ is))
        | inr ne ↦
            let was : slot_of slots j ≡ Some y = sym (beside j ne) ∙ is in
            left_apart y.entry.number (λ e. ne (cc (sym (keyed.listed j y was) ∙ ap (key_of keys) (sym e) ∙ was_key))) ∙ keyed.listed j y was
      ];
    }

  pub remove_absent : (n : ℕ) → key_of keys n ≡ None → nodes_of slots keys ≡ remove (nodes_of slots keys) n
  remove_absent n none = same_numbers (nodes_of slots keys) (remove (nodes_of slots keys) n) (λ q. elim (cases_eq n q) [
    | inl e ↦ nodes_get slots keys q ∙ ap (option_and_then (slot_of slots)) (ap (key_of keys) (sym e) ∙ none)
        ∙ sym (ap (get (remove (nodes_of slots keys) n)) (sym e) ∙ remove_here (nodes_of slots keys) n)
    | inr ne ↦ sym (remove_apart (nodes_of slots keys) n q (λ e. ne (sym e)))
  ])

  -- ---- another object in a node

  module _ (after : List (Option Node)) (n k : ℕ) (x : Node) (o : NamedObject) (was_key : key_of keys n ≡ Some k) (was : slot_of slots k ≡ Some x)
      (at : slot_of after k ≡ Some (with_node_object o x)) (beside : (j : ℕ) → j ≢ k → slot_of after j ≡ slot_of slots j) where
    not_it : (q j : ℕ) → (n ≡ q → ⊥) → key_of keys q ≡ Some j → j ≢ k
    not_it q j ne is = λ e. ne (cc (sym (keyed.known n k was_key) ∙ ap (λ i. option_map (λ (x : Node). x.entry.number) (slot_of slots i)) (sym e) ∙ keyed.known q j is))

    each_put : (q : ℕ) → get (nodes_of after keys) q ≡ get (insert (nodes_of slots keys) n (with_node_object o x)) q
    each_put q = elim (cases_eq n q) [
      | inl e ↦
          nodes_get after keys q ∙ ap (option_and_then (slot_of after)) (ap (key_of keys) (sym e) ∙ was_key) ∙ at
          ∙ sym (ap (get (insert (nodes_of slots keys) n (with_node_object o x))) (sym e) ∙ insert_here (nodes_of slots keys) n (with_node_object o x))
      | inr ne ↦
          nodes_get after keys q ∙ through slots after (key_of keys q) (λ j is. beside j (not_it q j ne is))
          ∙ sym (insert_apart (nodes_of slots keys) n (with_node_object o x) q (λ e. ne (sym e)) ∙ nodes_get slots keys q)
    ]

    pub object_is : nodes_of after keys ≡ object_put (nodes_of slots keys) n o
    unfolding object_put
    object_is = same_numbers (nodes_of after keys) (insert (nodes_of slots keys) n (with_node_object o x)) each_put
        ∙ sym (ap (object_in (nodes_of slots keys) n o) (by_number n k was_key ∙ was))

    pub object_keyed : Keyed after keys
    object_keyed = record {
      known = λ q j is. elim (cases_eq j k) [
        | inl e ↦
            let before = keyed.known q j is in
            ap (option_map (λ (x : Node). x.entry.number)) (ap (slot_of after) e ∙ at)
            ∙ sym (ap (option_map (λ (x : Node). x.entry.number)) (ap (slot_of slots) e ∙ was)) ∙ before
        | inr ne ↦ ap (option_map (λ (x : Node). x.entry.number)) (beside j ne) ∙ keyed.known q j is
      ];
      listed = λ j y is. elim (cases_eq j k) [
        | inl e ↦
            let same : Some (with_node_object o x) ≡ Some y = sym at ∙ ap (slot_of after) (sym e) ∙ is in
            let one : with_node_object o x ≡ y = cc same in
            ap (key_of keys) (ap (λ (z : Node). z.entry.number) (sym one)) ∙ keyed.listed j x (ap (slot_of slots) e ∙ was)
        | inr ne ↦ keyed.listed j y (sym (beside j ne) ∙ is)
      ];
    }

  pub object_nowhere : (n : ℕ) (o : NamedObject) → get (nodes_of slots keys) n ≡ None → nodes_of slots keys ≡ object_put (nodes_of slots keys) n o
  unfolding object_put
  object_nowhere n o none = sym (ap (object_in (nodes_of slots keys) n o) none)

  -- ---- the mutexes released

  module _ (after : List (Option Node)) (released : (j : ℕ) → slot_of after j ≡ option_map node_released (slot_of slots j)) where
    mapped : (o : Option ℕ) → option_and_then (slot_of after) o ≡ option_map node_released (option_and_then (slot_of slots) o)
    mapped None = refl
    mapped (Some j) = released j

    pub released_is : (q : ℕ) → get (nodes_of after keys) q ≡ option_map node_released (get (nodes_of slots keys) q)
    released_is q = nodes_get after keys q ∙ mapped (key_of keys q) ∙ ap (option_map node_released) (sym (nodes_get slots keys q))

    numbers : (o : Option Node) → option_map (λ (x : Node). x.entry.number) (option_map node_released o) ≡ option_map (λ (x : Node). x.entry.number) o
    numbers None = refl
    numbers (Some x) = refl

    was_there : (o : Option Node) (y : Node) → option_map node_released o ≡ Some y → option_map (λ (x : Node). x.entry.number) o ≡ Some y.entry.number
    was_there None y h = absurd (cc h)
    was_there (Some x) y h = ap (option_map (λ (x : Node). x.entry.number)) h

    listed_by : (j : ℕ) (o : Option Node) (k : ℕ) → slot_of slots j ≡ o → option_map (λ (x : Node). x.entry.number) o ≡ Some k → key_of keys k ≡ Some j
    listed_by j None k is h = absurd (cc h)
    listed_by j (Some x) k is h = let same : x.entry.number ≡ k = cc h in ap (key_of keys) (sym same) ∙ keyed.listed j x is

    pub released_keyed : Keyed after keys
    released_keyed = record {
      known = λ q j is. ap (option_map (λ (x : Node). x.entry.number)) (released j) ∙ numbers (slot_of slots j) ∙ keyed.known q j is;
      listed = λ j y is. listed_by j (slot_of slots j) y.entry.number refl (was_there (slot_of slots j) y (sym (released j) ∙ is));
    }

pub nothing_keyed : Keyed [] []
nothing_keyed = record { known = λ q j is. absurd (cc is); listed = λ j y is. absurd (cc is) }
