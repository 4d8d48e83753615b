-- The numbers of declarations are below the next one and apart, and one that is gone never comes back.
use Rattle.std.specs.Prelude.{◌≡◌, ◌≢◌, ◌<◌, ◌+◌, ◌-◌, ◌^◌, ℕ, ◌==◌, List, [], ◌∷◌, Bool, true, false, not, T, Option, Some, None, refl, cond, if◌then◌else◌, ◌&&◌}
use Rattle.std.specs.Option.{option_map}
use Rattle.std.proofs.Common.{arith, ap, sym, ◌∙◌, subst}
use Rattle.std.proofs.lemmas.Bool.{eqb-true, eqb-false}
use Rattle.std.specs.Ordering.{is_eq, is_lt, eq_by_cmp}
use Rattle.std.specs.declared.cmp.Ordering.{Ordering}
use Rattle.std.specs.declared.cmp.Ordering.TheVariants.{Less, Equal, Greater}
use Rattle.std.specs.FinMap.{get, get-insert, insert, get-retain_keys, entries, entries_sorted, get-entries, find, is_sorted}
use Rattle.std.specs.FinMap.Entries.{below_all}
use Rattle.std.proofs.lemmas.Cmp.{eq_by_cmp_equiv}
use Rattle.ar_space.specs.Accesses.{Accesses}
use Rattle.aml_path.specs.declared.segment.Seg.{Seg}
use Rattle.aml_path.specs.Paths.{path_cmp, is_below}
use Rattle.aml_objects.specs.declared.entry.Entry.{Entry}
use Rattle.aml_namespace.specs.Namespace.{Map, Namespace, numbered, with_number, without_below, entry_released, mutexes_released}
use Rattle.aml_namespace.specs.Numbering.{Numbered}
use Rattle.aml_namespace.proofs.Paths.{path_total, only_equal}
use Rattle.aml_namespace.proofs.Changes.{released_at}
use Rattle.aml_laws.proofs.NumbersKept.{numbered_declared, numbered_replaced, numbered_without, numbered_released, numbered_root}
use Rattle.ar_space.specs.declared.integer_width.IntegerWidth.{IntegerWidth}
use Rattle.aml_world.specs.state.State.{State}
use Rattle.aml_world.specs.declared.state.settings.EvaluationSettings.{EvaluationSettings}
use Rattle.aml_world.specs.state.Predefined.{fresh_as, predefined}
use Rattle.ar_space.specs.Outcome.{Outcome}
use Rattle.aml_objects.specs.declared.value.Value.{Value}
use Rattle.aml_world.specs.state.Slots.{opened}
use Rattle.aml_laws.specs.Becomes.{Becomes}
use Rattle.aml_laws.proofs.Preorders.{either_branch}
use Rattle.aml_laws.proofs.WorldRelations.{WorldRelation, plain}
use Rattle.aml_laws.proofs.EvaluationsPreserve.{becomes_preserves, predefined_preserves}

-- ---- below the next one, and apart

abbrev numbered_relation : {S : Type 0} (accesses : Accesses S) → WorldRelation accesses
numbered_relation accesses = plain (record {
  Leads = λ w v. Numbered w.names → Numbered v.names;
  reflexive = λ w h. h;
  transitive = λ u v w h i n. i (h n);
  objects_change = λ w h k n. n;
  name_declared = λ w q o free n. numbered_declared w.names q o n;
  object_replaced = λ w q o e at is n. numbered_replaced w.names q o e n at;
  slots_written = λ w frames is n. n;
  frame_closed = λ w v vs h n. h n;
  names_removed = λ u w q at h n. numbered_without q w.names (h n);
  told = false;
  region_accessed = λ u w field region space s stands at r h n. h n;
  bridge_asked = λ u w at width wide asks h n. h n;
  loads = true;
  arities_set = λ loads w list n. n;
  mutexes_released = λ w n. numbered_released w.names n;
  passed_noted = λ listed u w scope e wide is h n. h n;
})

pub numbered_stays : {S : Type 0} (accesses : Accesses S) (w v : State S) → Becomes accesses w v → Numbered w.names → Numbered v.names
numbered_stays accesses w v h n = becomes_preserves (numbered_relation accesses) refl w v h n

pub numbered_always : {S : Type 0} (accesses : Accesses S) (settings : EvaluationSettings) (width : IntegerWidth) (osi : List (List ℕ)) (space : S) (v : State S) → Becomes accesses (predefined (fresh_as settings width osi space)).1 v → Numbered v.names
numbered_always accesses settings width osi space v h = numbered_stays accesses _ v h ((predefined_preserves {relation = numbered_relation accesses} refl).preserves (fresh_as settings width osi space) numbered_root)

-- a frame that is opened leaves the names as they are
pub numbered_opened : {S : Type 0} (arguments : List Value) (w : State S) → Numbered w.names → Numbered (opened arguments w).1.names
unfolding opened
numbered_opened {S} arguments w h = either_branch (λ (x : Outcome ℕ × State S). Numbered x.1.names) (w.started == 2 ^ 64 - 1) _ _ h h

-- ---- gone

record Gone (n : ℕ) (s : Namespace) : Type 0 where
  given : n < s.next
  gone : (p : List Seg) (e : Entry) → get s.map p ≡ Some e → e.number ≢ n

same_entry : (v e : Entry) → ◌≡◌ {A = Option Entry} (Some v) (Some e) → v ≡ e
same_entry v e h = cc h

put_gone_by_cases : (n : ℕ) (b : Bool) (v e : Entry) (o : Option Entry) → v.number ≢ n → ((x : Entry) → o ≡ Some x → x.number ≢ n) → cond b (Some v) o ≡ Some e → e.number ≢ n
put_gone_by_cases n true v e o h i is = subst (λ (x : Entry). x.number ≢ n) (same_entry v e is) h
put_gone_by_cases n false v e o h i is = i e is

gone_after_insert : (n k : ℕ) (s : Namespace) (q : List Seg) (v : Entry) → Gone n s → n < k → v.number ≢ n → Gone n (record { map = insert s.map q v; next = k })
gone_after_insert n k s q v h l other = record { given = l; gone = λ p e is. put_gone_by_cases n (eq_by_cmp path_cmp p q) v e (get s.map p) other (λ x. h.gone p x) (sym (get-insert path_total s.map q v p) ∙ is) }

kept_by_cases : (b : Bool) (o : Option Entry) (e : Entry) → cond b o None ≡ Some e → o ≡ Some e
kept_by_cases true o e h = h
kept_by_cases false o e h = absurd (cc h)

below_alike : (p r x : List Seg) → path_cmp r x ≡ Equal → not (is_below p x) ≡ not (is_below p r)
below_alike p r x e = ap (λ y. not (is_below p y)) (sym (only_equal r x e))

gone_after_removal : (n : ℕ) (q : List Seg) (s : Namespace) → Gone n s → Gone n (without_below q s)
unfolding without_below
gone_after_removal n q s h = record { given = h.given; gone = λ p e is. h.gone p e (kept_by_cases (not (is_below q p)) (get s.map p) e (sym (get-retain_keys s.map (λ x. not (is_below q x)) p (below_alike q p)) ∙ is)) }

released_gone_by_cases : (n : ℕ) (o : Option Entry) (e : Entry) → ((x : Entry) → o ≡ Some x → x.number ≢ n) → option_map entry_released o ≡ Some e → e.number ≢ n
released_gone_by_cases n None e h is = absurd (cc is)
released_gone_by_cases n (Some d) e h is = subst (λ (x : Entry). x.number ≢ n) (same_entry (entry_released d) e is) (h d refl)

gone_after_release : (n : ℕ) (s : Namespace) → Gone n s → Gone n (mutexes_released s)
unfolding mutexes_released
gone_after_release n s h = record { given = h.given; gone = λ p e is. released_gone_by_cases n (get s.map p) e (λ x. h.gone p x) (sym (released_at s p) ∙ is) }

abbrev gone_relation : {S : Type 0} (accesses : Accesses S) → ℕ → WorldRelation accesses
gone_relation accesses n = plain (record {
  Leads = λ w v. Gone n w.names → Gone n v.names;
  reflexive = λ w h. h;
  transitive = λ u v w h i g. i (h g);
  objects_change = λ w h k g. g;
  name_declared = λ w q o free g. gone_after_insert n (w.names.next + 1) w.names q _ g (let l = g.given in omega arith) (λ e. let l = g.given in absurd (omega arith));
  object_replaced = λ w q o e at is g. gone_after_insert n w.names.next w.names q _ g g.given (g.gone q e at);
  slots_written = λ w frames is g. g;
  frame_closed = λ w v vs h g. h g;
  names_removed = λ u w q at h g. gone_after_removal n q w.names (h g);
  told = false;
  region_accessed = λ u w field region space s stands at r h g. h g;
  bridge_asked = λ u w at width wide asks h g. h g;
  loads = true;
  arities_set = λ loads w list g. g;
  mutexes_released = λ w g. gone_after_release n w.names g;
  passed_noted = λ listed u w scope e wide is h g. h g;
})

-- ---- what stands under a number

and_first : (a b : Bool) → T (a && b) → T a
and_first true b p = tt
and_first false b p = p

and_second : (a b : Bool) → T (a && b) → T b
and_second true b p = p
and_second false b p = absurd p

less_is_not_equal : (r : Ordering) → T (is_lt r) → is_eq r ≡ false
less_is_not_equal Less p = refl
less_is_not_equal Equal p = absurd p
less_is_not_equal Greater p = absurd p

none_found_below : (x : List Seg) (es : List (List Seg × Entry)) → T (below_all path_cmp x es) → find path_cmp x es ≡ None
none_found_below x [] h = refl
none_found_below x (e ∷ es) h = ap (λ b. cond b (Some e.1) (find path_cmp x es)) (less_is_not_equal (path_cmp x e.0) (and_first _ _ h)) ∙ none_found_below x es (and_second _ _ h)

equal_by_test : (r : Ordering) → is_eq r ≡ true → r ≡ Equal
equal_by_test Less h = absurd (cc h)
equal_by_test Equal h = refl
equal_by_test Greater h = absurd (cc h)

found_behind : (b : Bool) (x y : List Seg) (v w : Entry) (es : List (List Seg × Entry)) → is_eq (path_cmp x y) ≡ b → T (below_all path_cmp y es) → find path_cmp x es ≡ Some w → cond b (Some v) (find path_cmp x es) ≡ Some w
found_behind true x y v w es is h there = absurd (cc (sym there ∙ ap (λ z. find path_cmp z es) (only_equal x y (equal_by_test (path_cmp x y) is)) ∙ none_found_below y es h))
found_behind false x y v w es is h there = there

pub record NumberAt (n : ℕ) (es : List (List Seg × Entry)) (x : List Seg × Entry) : Type 0 where
  pub there : find path_cmp x.0 es ≡ Some x.1
  pub number : x.1.number ≡ n

number_by_cases : (n : ℕ) (b : Bool) (y : List Seg × Entry) (es : List (List Seg × Entry)) (x : List Seg × Entry) → (y.1.number == n) ≡ b → T (below_all path_cmp y.0 es) → (with_number n es ≡ Some x → NumberAt n es x) → (if b then Some y else with_number n es) ≡ Some x → NumberAt n (y ∷ es) x
number_by_cases n true y es x is h i e =
    let same : y ≡ x = cc e in
    subst (NumberAt n (y ∷ es)) same (record { there = ap (λ b. cond b (Some y.1) (find path_cmp y.0 es)) ((eq_by_cmp_equiv path_total).refl y.0); number = eqb-true _ _ is })
number_by_cases n false y es x is h i e = let r = i e in record { there = found_behind (is_eq (path_cmp x.0 y.0)) x.0 y.0 y.1 x.1 es refl h r.there; number = r.number }

pub with_number_stands : (n : ℕ) (es : List (List Seg × Entry)) (x : List Seg × Entry) → T (is_sorted path_cmp es) → with_number n es ≡ Some x → NumberAt n es x
with_number_stands n [] x h e = absurd (cc e)
with_number_stands n (y ∷ es) x h e = number_by_cases n (y.1.number == n) y es x refl (and_first _ _ h) (with_number_stands n es x (and_second _ _ h)) e

none_by_cases : (n : ℕ) (m : Map) (o : Option (List Seg × Entry)) → numbered n m ≡ o → ((p : List Seg) (e : Entry) → get m p ≡ Some e → e.number ≢ n) → o ≡ None
unfolding numbered
none_by_cases n m None is h = refl
none_by_cases n m (Some x) is h = let r = with_number_stands n (entries m) x (entries_sorted m) is in absurd (h x.0 x.1 (get-entries m x.0 ∙ r.there) r.number)

unnumbered_by_cases : (n : ℕ) (b : Bool) (q : List Seg) (y : List Seg × Entry) (es : List (List Seg × Entry)) (e : Entry) → (y.1.number == n) ≡ b → (if b then Some y else with_number n es) ≡ None → (with_number n es ≡ None → (x : Entry) → find path_cmp q es ≡ Some x → x.number ≢ n) → find path_cmp q (y ∷ es) ≡ Some e → e.number ≢ n
unnumbered_by_cases n true q y es e is none i at = absurd (cc none)
unnumbered_by_cases n false q y es e is none i at = put_gone_by_cases n (eq_by_cmp path_cmp q y.0) y.1 e (find path_cmp q es) (eqb-false y.1.number n is) (i none) at

pub unnumbered : (n : ℕ) (es : List (List Seg × Entry)) (q : List Seg) (e : Entry) → with_number n es ≡ None → find path_cmp q es ≡ Some e → e.number ≢ n
unnumbered n [] q e none at = absurd (cc at)
unnumbered n (y ∷ es) q e none at = unnumbered_by_cases n (y.1.number == n) q y es e refl none (λ rest x. unnumbered n es q x rest) at

gone_from : (n : ℕ) (s : Namespace) → n < s.next → numbered n s.map ≡ None → Gone n s
unfolding numbered
gone_from n s l none = record { given = l; gone = λ p e at. unnumbered n (entries s.map) p e none (sym (get-entries s.map p) ∙ at) }

-- a number that was given and finds nothing never finds anything again
pub gone_stays : {S : Type 0} (accesses : Accesses S) (w v : State S) (n : ℕ) → Becomes accesses w v → n < w.names.next → numbered n w.names.map ≡ None → numbered n v.names.map ≡ None
gone_stays accesses w v n h l none = none_by_cases n v.names.map (numbered n v.names.map) refl (becomes_preserves (gone_relation accesses n) refl w v h (gone_from n w.names l none)).gone

pub ruleset numbers_are_given_once = (numbered_always, numbered_stays, numbered_opened)
