-- Paths that are outside of control methods, and what changes of names leave of them.
use Rattle.std.specs.Prelude.{◌≡◌, ◌≤◌, ℕ, List, [], ◌∷◌, ◌++◌, length, take, Bool, true, false, not, Option, Some, None, refl, is_some, cond, ◌&&◌, nat_lt}
use Rattle.std.specs.Option.{option_map}
use Rattle.std.proofs.Common.{ap, sym, ◌∙◌, subst, arith}
use Rattle.std.proofs.lemmas.Bool.{ltb-true, ltb-false, lt-ltb}
use Rattle.std.proofs.lemmas.List.{take-append-le, take-take, take_all, length_push}
use Rattle.std.specs.declared.cmp.Ordering.{Ordering}
use Rattle.std.specs.declared.cmp.Ordering.TheVariants.{Less, Equal, Greater}
use Rattle.std.specs.Ordering.{is_eq, eq_by_cmp}
use Rattle.std.proofs.lemmas.Cmp.{eq_by_cmp_equiv}
use Rattle.std.specs.FinMap.{get, get-insert, insert, contains_key, retain_keys, get-retain_keys}
use Rattle.aml_path.specs.declared.segment.Seg.{Seg}
use Rattle.aml_path.specs.Paths.{path_cmp, path_eq, is_below}
use Rattle.aml_objects.specs.declared.entry.Entry.{Entry}
use Rattle.aml_objects.specs.declared.entry.NamedObject.{NamedObject}
use Rattle.aml_objects.specs.declared.entry.NamedObject.TheVariants as object
use Rattle.aml_namespace.proofs.Paths.{path_total, only_equal}
use Rattle.aml_namespace.proofs.Changes.{released_at}
use Rattle.aml_namespace.specs.Namespace.{Map, Namespace, released, entry_released, mutexes_released}
use Rattle.aml_world.specs.state.State.{State}
use Rattle.aml_laws.specs.Outside.{is_method, is_open, OutsideIn, Outside, number_in}

-- ---- paths below paths

and_both : (b c : Bool) → b && c ≡ true → (b ≡ true) × (c ≡ true)
and_both true c h = (refl, h)
and_both false c h = absurd (cc h)

equal_by_test : (r : Ordering) → is_eq r ≡ true → r ≡ Equal
equal_by_test Less h = absurd (cc h)
equal_by_test Equal h = refl
equal_by_test Greater h = absurd (cc h)

same_path : (p q : List Seg) → path_eq p q ≡ true → p ≡ q
same_path p q h = only_equal p q (equal_by_test (path_cmp p q) h)

-- what is below a path that is below another is below that
below_transitive : (p q r : List Seg) → is_below p q ≡ true → is_below q r ≡ true → is_below p r ≡ true
below_transitive p q r h i =
    let a = and_both _ _ h in
    let b = and_both _ _ i in
    let l = ltb-true (length p) (length q) a.0 in
    let k = ltb-true (length q) (length r) b.0 in
    let front : take (length p) r ≡ p = sym (take-take (length p) (length q) r (omega arith)) ∙ ap (take (length p)) (same_path _ _ b.1) ∙ same_path _ _ a.1 in
    rw (lt-ltb (length p) (length r) (omega arith), front) ((eq_by_cmp_equiv path_total).refl p)

-- ---- which paths are outside of control methods

-- what is above a path one level below another is its front
front_of_below : (p q : List Seg) (s : Seg) → is_below q (p ++ s ∷ []) ≡ true → take (length q) p ≡ q
front_of_below p q s h =
    let a = and_both _ _ h in
    let l = ltb-true (length q) (length (p ++ s ∷ [])) a.0 in
    let le : length q ≤ length p = let e = length_push p s in omega arith in
    sym (take-append-le (length q) p (s ∷ []) le) ∙ same_path _ _ a.1

open_by_length : (m : Map) (p q : List Seg) (shorter : Bool) → nat_lt (length q) (length p) ≡ shorter → take (length q) p ≡ q → OutsideIn m p → is_open (get m p) ≡ true → is_open (get m q) ≡ true
open_by_length m p q true is front h o = h.above q (rw (is, front) ((eq_by_cmp_equiv path_total).refl q))
open_by_length m p q false is front h o = subst (λ r. is_open (get m r) ≡ true) (sym (take_all (length q) p (ltb-false (length q) (length p) is)) ∙ front) o

-- one level below a name that is outside of control methods, and is none
pub outside_below : {S : Type 0} (w : State S) (p : List Seg) (s : Seg) → Outside w p → is_open (get w.names.map p) ≡ true → Outside w (p ++ s ∷ [])
outside_below w p s h o = record {
  above = λ q below. let f = front_of_below p q s below in open_by_length w.names.map p q (nat_lt (length q) (length p)) refl f h o;
}

-- the root, of which nothing is above
pub outside_root : {S : Type 0} (w : State S) → Outside w []
outside_root w = record { above = λ q below. let a = ltb-true (length q) 0 (and_both _ _ below).0 in absurd (omega arith) }

-- ---- what changes of names leave of a path that is outside of control methods

pub record Kept (m n : Map) (p : List Seg) : Type 0 where
  pub outside : OutsideIn n p
  pub stands : contains_key m p ≡ true → contains_key n p ≡ true
  pub number : (k : ℕ) → number_in m p ≡ Some k → number_in n p ≡ Some k

pub kept_reflexive : (m : Map) (p : List Seg) → OutsideIn m p → Kept m m p
kept_reflexive m p h = record { outside = h; stands = λ st. st; number = λ k e. e }

pub kept_transitive : (m n l : Map) (p : List Seg) → Kept m n p → Kept n l p → Kept m l p
kept_transitive m n l p h i = record { outside = i.outside; stands = λ st. i.stands (h.stands st); number = λ k e. i.number k (h.number k e) }

either_stands : (b : Bool) (v : Entry) (o : Option Entry) → is_some o ≡ true → is_some (cond b (Some v) o) ≡ true
either_stands true v o h = refl
either_stands false v o h = h

pub insert_stands : (m : Map) (p q : List Seg) (v : Entry) → contains_key m q ≡ true → contains_key (insert m p v) q ≡ true
insert_stands m p q v h = ap is_some (get-insert path_total m p v q) ∙ either_stands (eq_by_cmp path_cmp q p) v (get m q) h

open_stands : (o : Option Entry) → is_open o ≡ true → is_some o ≡ true
open_stands None h = absurd (cc h)
open_stands (Some e) h = refl

-- a new name, where none stands
open_by_cases : (b : Bool) (m : Map) (q r : List Seg) (v : Entry) → eq_by_cmp path_cmp r q ≡ b → contains_key m q ≡ false → is_open (get m r) ≡ true → is_open (cond b (Some v) (get m r)) ≡ true
open_by_cases true m q r v same free h = absurd (cc (sym free ∙ ap (contains_key m) (sym (same_path r q same)) ∙ open_stands (get m r) h))
open_by_cases false m q r v same free h = h

number_stands : (o : Option Entry) (k : ℕ) → option_map (λ e. e.number) o ≡ Some k → is_some o ≡ true
number_stands None k h = absurd (cc h)
number_stands (Some e) k h = refl

number_by_new : (b : Bool) (m : Map) (q p : List Seg) (v : Entry) (k : ℕ) → eq_by_cmp path_cmp p q ≡ b → contains_key m q ≡ false → number_in m p ≡ Some k → option_map (λ e. e.number) (cond b (Some v) (get m p)) ≡ Some k
number_by_new true m q p v k same free h = absurd (cc (sym free ∙ ap (contains_key m) (sym (same_path p q same)) ∙ number_stands (get m p) k h))
number_by_new false m q p v k same free h = h

pub kept_new : (m : Map) (q : List Seg) (v : Entry) (p : List Seg) → contains_key m q ≡ false → OutsideIn m p → Kept m (insert m q v) p
kept_new m q v p free h = record {
  outside = record { above = λ r below. ap is_open (get-insert path_total m q v r) ∙ open_by_cases (eq_by_cmp path_cmp r q) m q r v refl free (h.above r below) };
  stands = insert_stands m q p v;
  number = λ k e. ap (option_map (λ x. x.number)) (get-insert path_total m q v p) ∙ number_by_new (eq_by_cmp path_cmp p q) m q p v k refl free e;
}

-- another object under the same name, which is no control method
open_either : (b : Bool) (v : Entry) (o : Option Entry) → is_method v.object ≡ false → is_open o ≡ true → is_open (cond b (Some v) o) ≡ true
open_either true v o is h = ap not is
open_either false v o is h = h

number_by_other : (b : Bool) (m : Map) (q p : List Seg) (e v : Entry) (k : ℕ) → eq_by_cmp path_cmp p q ≡ b → get m q ≡ Some e → v.number ≡ e.number → number_in m p ≡ Some k → option_map (λ x. x.number) (cond b (Some v) (get m p)) ≡ Some k
number_by_other true m q p e v k same at is h = ap Some is ∙ sym (ap (option_map (λ x. x.number)) (ap (get m) (same_path p q same) ∙ at)) ∙ h
number_by_other false m q p e v k same at is h = h

pub kept_replaced : (m : Map) (q : List Seg) (e v : Entry) (p : List Seg) → get m q ≡ Some e → v.number ≡ e.number → is_method v.object ≡ false → OutsideIn m p → Kept m (insert m q v) p
kept_replaced m q e v p at same is h = record {
  outside = record { above = λ r below. ap is_open (get-insert path_total m q v r) ∙ open_either (eq_by_cmp path_cmp r q) v (get m r) is (h.above r below) };
  stands = insert_stands m q p v;
  number = λ k n. ap (option_map (λ x. x.number)) (get-insert path_total m q v p) ∙ number_by_other (eq_by_cmp path_cmp p q) m q p e v k refl at same n;
}

-- the names below a path removed, where that is not above
below_alike : (q r x : List Seg) → path_cmp r x ≡ Equal → not (is_below q x) ≡ not (is_below q r)
below_alike q r x e = ap (λ y. not (is_below q y)) (sym (only_equal r x e))

pub not_below_by_cases : (q r p : List Seg) (b : Bool) → is_below q r ≡ b → is_below q p ≡ false → is_below r p ≡ true → b ≡ false
not_below_by_cases q r p true at apart below = absurd (cc (sym apart ∙ below_transitive q r p at below))
not_below_by_cases q r p false at apart below = refl

pub retained_apart : (m : Map) (q r : List Seg) → is_below q r ≡ false → get (retain_keys m (λ x. not (is_below q x))) r ≡ get m r
retained_apart m q r h = get-retain_keys m (λ x. not (is_below q x)) r (below_alike q r) ∙ ap (λ b. cond (not b) (get m r) None) h

pub kept_removed : (m : Map) (q p : List Seg) → is_below q p ≡ false → OutsideIn m p → Kept m (retain_keys m (λ r. not (is_below q r))) p
kept_removed m q p apart h = record {
  outside = record { above = λ r below. ap is_open (retained_apart m q r (not_below_by_cases q r p (is_below q r) refl apart below)) ∙ h.above r below };
  stands = λ st. ap is_some (retained_apart m q p apart) ∙ st;
  number = λ k e. ap (option_map (λ x. x.number)) (retained_apart m q p apart) ∙ e;
}

-- a control method that stands is above no path that is outside of control methods
apart_by_cases : (m : Map) (q p : List Seg) (e : Entry) (b : Bool) → is_below q p ≡ b → OutsideIn m p → get m q ≡ Some e → is_method e.object ≡ true → b ≡ false
apart_by_cases m q p e true below h at is = absurd (cc (sym (ap not is) ∙ sym (ap is_open at) ∙ h.above q below))
apart_by_cases m q p e false below h at is = refl

pub method_apart : (m : Map) (q p : List Seg) (e : Entry) → OutsideIn m p → get m q ≡ Some e → is_method e.object ≡ true → is_below q p ≡ false
method_apart m q p e h at is = apart_by_cases m q p e (is_below q p) refl h at is

-- the mutexes released
method_released : (o : NamedObject) → is_method (released o) ≡ is_method o
method_released (object.Mutex n) = refl
method_released _ = refl

open_released : (o : Option Entry) → is_open (option_map entry_released o) ≡ is_open o
open_released None = refl
open_released (Some e) = ap not (method_released e.object)

some_released : (o : Option Entry) → is_some (option_map entry_released o) ≡ is_some o
some_released None = refl
some_released (Some e) = refl

number_released : (o : Option Entry) → option_map (λ e. e.number) (option_map entry_released o) ≡ option_map (λ e. e.number) o
number_released None = refl
number_released (Some e) = refl

pub kept_released : (s : Namespace) (p : List Seg) → OutsideIn s.map p → Kept s.map (mutexes_released s).map p
kept_released s p h = record {
  outside = record { above = λ r below. ap is_open (released_at s r) ∙ open_released (get s.map r) ∙ h.above r below };
  stands = λ st. ap is_some (released_at s p) ∙ some_released (get s.map p) ∙ st;
  number = λ k e. ap (option_map (λ x. x.number)) (released_at s p) ∙ number_released (get s.map p) ∙ e;
}
