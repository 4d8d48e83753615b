-- Every change of a namespace keeps its numbers below the next one, and apart.
use Rattle.std.specs.Prelude.{◌≡◌, ℕ, ◌+◌, ◌<◌, ◌≤◌, List, [], Bool, true, false, not, Option, Some, None, refl, cond}
use Rattle.std.specs.Option.{option_map}
use Rattle.std.proofs.Common.{ap, sym, ◌∙◌, subst, arith}
use Rattle.std.specs.Ordering.{is_eq, eq_by_cmp}
use Rattle.std.specs.declared.cmp.Ordering.{Ordering}
use Rattle.std.specs.declared.cmp.Ordering.TheVariants.{Less, Equal, Greater}
use Rattle.std.specs.FinMap.{get, insert, get-insert, retain_keys, get-retain_keys, empty, get-empty}
use Rattle.aml_path.specs.declared.segment.Seg.{Seg}
use Rattle.aml_path.specs.Paths.{path_cmp, is_below}
use Rattle.aml_objects.specs.declared.entry.Entry.{Entry}
use Rattle.aml_objects.specs.declared.entry.NamedObject.{NamedObject}
use Rattle.aml_objects.specs.declared.entry.NamedObject.TheVariants as object
use Rattle.aml_namespace.specs.Namespace.{Map, Namespace, root_alone, without_below, with_object, entry_released, mutexes_released}
use Rattle.aml_namespace.specs.Numbering.{Numbered}
use Rattle.aml_namespace.proofs.Paths.{path_total, only_equal}
use Rattle.aml_namespace.proofs.Changes.{released_at}

equal : (r : Ordering) → is_eq r ≡ true → r ≡ Equal
equal Less h = absurd (cc h)
equal Equal h = refl
equal Greater h = absurd (cc h)

pub same_path : (p q : List Seg) → eq_by_cmp path_cmp p q ≡ true → p ≡ q
same_path p q h = only_equal p q (equal (path_cmp p q) h)

-- ---- an entry put at a path

same_entry : (v e : Entry) → ◌≡◌ {A = Option Entry} (Some v) (Some e) → v ≡ e
same_entry v e h = cc h

put_below : (b : Bool) (v e : Entry) (o : Option Entry) (k : ℕ) → v.number < k → ((x : Entry) → o ≡ Some x → x.number < k) → cond b (Some v) o ≡ Some e → e.number < k
put_below true v e o k h i is = subst (λ (x : Entry). x.number < k) (same_entry v e is) h
put_below false v e o k h i is = i e is

module _ (m : Map) (path : List Seg) (v : Entry) (apart : (q : List Seg) (e : Entry) → get m q ≡ Some e → e.number ≡ v.number → q ≡ path) (distinct : (p q : List Seg) (d e : Entry) → get m p ≡ Some d → get m q ≡ Some e → d.number ≡ e.number → p ≡ q) where
  put_distinct : (a b : Bool) (p q : List Seg) (d e : Entry) → eq_by_cmp path_cmp p path ≡ a → eq_by_cmp path_cmp q path ≡ b → cond a (Some v) (get m p) ≡ Some d → cond b (Some v) (get m q) ≡ Some e → d.number ≡ e.number → p ≡ q
  put_distinct true true p q d e is so h i n = same_path p path is ∙ sym (same_path q path so)
  put_distinct true false p q d e is so h i n = same_path p path is ∙ sym (apart q e i (sym n ∙ ap (λ (x : Entry). x.number) (sym (same_entry v d h))))
  put_distinct false true p q d e is so h i n = apart p d h (n ∙ ap (λ (x : Entry). x.number) (sym (same_entry v e i))) ∙ sym (same_path q path so)
  put_distinct false false p q d e is so h i n = distinct p q d e h i n

pub numbered_put : (names : Namespace) (path : List Seg) (v : Entry) (k : ℕ) → Numbered names → names.next ≤ k → v.number < k → ((q : List Seg) (e : Entry) → get names.map q ≡ Some e → e.number ≡ v.number → q ≡ path) → Numbered (record { map = insert names.map path v; next = k })
numbered_put names path v k h le l apart = record {
  below = λ p e is. put_below (eq_by_cmp path_cmp p path) v e (get names.map p) k l (λ x at. let b = h.below p x at in omega arith) (sym (get-insert path_total names.map path v p) ∙ is);
  distinct = λ p q d e is so n.
      put_distinct names.map path v apart h.distinct (eq_by_cmp path_cmp p path) (eq_by_cmp path_cmp q path) p q d e refl refl
      (sym (get-insert path_total names.map path v p) ∙ is) (sym (get-insert path_total names.map path v q) ∙ so) n;
}

-- a new declaration takes the next number
pub numbered_declared : (names : Namespace) (path : List Seg) (o : NamedObject) → Numbered names → Numbered (record { map = insert names.map path (record { number = names.next; object = o }); next = names.next + 1 })
numbered_declared names path o h = numbered_put names path _ _ h (omega arith) (omega arith) (λ q e at is. let b = h.below q e at in absurd (omega arith))

-- another object under the same number
pub numbered_replaced : (names : Namespace) (path : List Seg) (o : NamedObject) (e : Entry) → Numbered names → get names.map path ≡ Some e → Numbered (record { map = insert names.map path (with_object o e); next = names.next })
numbered_replaced names path o e h at = numbered_put names path _ _ h (omega arith) (h.below path e at) (λ q x is n. h.distinct q path x e is at n)

-- ---- fewer entries

kept_by : (b : Bool) (o : Option Entry) (e : Entry) → cond b o None ≡ Some e → o ≡ Some e
kept_by true o e h = h
kept_by false o e h = absurd (cc h)

alike : (p r x : List Seg) → path_cmp r x ≡ Equal → not (is_below p x) ≡ not (is_below p r)
alike p r x e = ap (λ y. not (is_below p y)) (sym (only_equal r x e))

pub still_there : (m : Map) (p q : List Seg) (e : Entry) → get (retain_keys m (λ x. not (is_below p x))) q ≡ Some e → get m q ≡ Some e
still_there m p q e h = kept_by (not (is_below p q)) (get m q) e (sym (get-retain_keys m (λ x. not (is_below p x)) q (alike p q)) ∙ h)

pub numbered_without : (p : List Seg) (names : Namespace) → Numbered names → Numbered (without_below p names)
unfolding without_below
numbered_without p names h = record {
  below = λ q e is. h.below q e (still_there names.map p q e is);
  distinct = λ q r d e is so n. h.distinct q r d e (still_there names.map p q d is) (still_there names.map p r e so) n;
}

-- ---- mutexes released

was_there : (o : Option Entry) (e : Entry) → option_map entry_released o ≡ Some e → (d : Entry) × ((o ≡ Some d) × (d.number ≡ e.number))
was_there None e h = absurd (cc h)
was_there (Some d) e h = (d, (refl, ap (λ (x : Entry). x.number) (same_entry (entry_released d) e h)))

pub numbered_released : (names : Namespace) → Numbered names → Numbered (mutexes_released names)
unfolding mutexes_released
numbered_released names h =
    let at : (p : List Seg) (e : Entry) → get (mutexes_released names).map p ≡ Some e → (d : Entry) × ((get names.map p ≡ Some d) × (d.number ≡ e.number)) = λ p e is. was_there (get names.map p) e (sym (released_at names p) ∙ is) in
    record {
      below = λ p e is. let d = at p e is in subst (λ n. n < names.next) d.1.1 (h.below p d.0 d.1.0);
      distinct = λ p q d e is so n. let a = at p d is in let b = at q e so in h.distinct p q a.0 b.0 a.1.0 b.1.0 (a.1.1 ∙ n ∙ sym b.1.1);
    }

-- ---- the root alone

nothing : (q : List Seg) (e : Entry) → get (empty {X = Entry} {R = path_cmp}) q ≡ Some e → ⊥
nothing q e is = absurd (cc (sym (get-empty path_cmp q) ∙ is))

before_the_root : Numbered (record { map = empty; next = 0 })
before_the_root = record { below = λ p e is. absurd (nothing p e is); distinct = λ p q d e is so n. absurd (nothing p d is) }

pub numbered_root : Numbered root_alone
numbered_root = numbered_put (record { map = empty; next = 0 }) [] (record { number = 0; object = object.Scope }) 1 before_the_root (omega arith) (omega arith) (λ q e is n. absurd (nothing q e is))
