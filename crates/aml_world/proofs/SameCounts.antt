-- Where the same names stand, and each takes as many arguments, a body reads the same.
use Rattle.std.specs.Prelude.{◌≡◌, ℕ, List, [], ◌∷◌, ◌++◌, map, Bool, true, false, ◌&&◌, T, Option, Some, None, cond}
use Rattle.std.proofs.Common.{ap, sym, ◌∙◌, refl, subst}
use Rattle.std.specs.List.{filter}
use Rattle.std.specs.Option.{option_map}
use Rattle.std.specs.Ordering.{is_lt, is_eq, eq_by_cmp}
use Rattle.std.specs.FinMap.{FinMap, get, insert, entries, entries_sorted, entries-from_sorted, get-entries, get-insert, get-from_sorted, from_sorted, same_map, find, is_sorted}
use Rattle.std.specs.FinMap.Entries.{below_all}
use Rattle.aml_path.specs.declared.segment.Seg.{Seg}
use Rattle.aml_path.specs.Paths.{path_cmp}
use Rattle.aml_arities.specs.declared.arities.Arity.{Arity}
use Rattle.aml_objects.specs.declared.entry.Entry.{Entry}
use Rattle.aml_objects.specs.declared.entry.NamedObject.{NamedObject}
use Rattle.aml_objects.specs.declared.entry.NamedObject.TheVariants as object
use Rattle.aml_namespace.specs.Namespace.{Map, Namespace, released, entry_released, mutexes_released, with_object, replaced_in, replaced}
use Rattle.aml_namespace.specs.Search.{aliased}
use Rattle.aml_namespace.proofs.Changes.{released_at}
use Rattle.aml_namespace.proofs.Paths.{path_total, only_equal, same_path}
use Rattle.aml_world.specs.state.Readings.{arguments_of}
use Rattle.aml_world.specs.state.Invocations.{count_of_entry, count_through, arity_of_entry, arities_in}
use Rattle.aml_world.specs.state.Known.{is_plain}

-- ---- entries in the order of their paths, by a function of each

module _ {X : Type 0} (f : X → ℕ) where
  abbrev through : List (List Seg × X) → List (List Seg × ℕ)
  through es = map (λ e. (e.0, f e.1)) es

  below_through : (k : List Seg) (es : List (List Seg × X)) → below_all path_cmp k (through es) ≡ below_all path_cmp k es
  below_through k [] = refl
  below_through k (e ∷ es) = ap (λ b. is_lt (path_cmp k e.0) && b) (below_through k es)

  sorted_through : (es : List (List Seg × X)) → is_sorted path_cmp (through es) ≡ is_sorted path_cmp es
  sorted_through [] = refl
  sorted_through (e ∷ es) = λ i. below_through e.0 es i && sorted_through es i

  through_by : (b : Bool) (x : X) (o : Option ℕ) (r : Option X) → o ≡ option_map f r → cond b (Some (f x)) o ≡ option_map f (cond b (Some x) r)
  through_by true x o r h = refl
  through_by false x o r h = h

  find_through : (k : List Seg) (es : List (List Seg × X)) → find path_cmp k (through es) ≡ option_map f (find path_cmp k es)
  find_through k [] = refl
  find_through k (e ∷ es) = through_by (is_eq (path_cmp k e.0)) e.1 _ _ (find_through k es)

  is_in_order : (m : FinMap path_cmp X) → T (is_sorted path_cmp (through (entries m)))
  is_in_order m = subst T (sym (sorted_through (entries m))) (entries_sorted m)

  abbrev each : FinMap path_cmp X → FinMap path_cmp ℕ
  each m = from_sorted (through (entries m))

  get_each : (m : FinMap path_cmp X) (k : List Seg) → get (each m) k ≡ option_map f (get m k)
  get_each m k = get-from_sorted path_cmp (through (entries m)) k (is_in_order m) ∙ find_through k (entries m) ∙ ap (option_map f) (sym (get-entries m k))

  entries_each : (m : FinMap path_cmp X) → entries (each m) ≡ through (entries m)
  entries_each m = entries-from_sorted path_cmp (through (entries m)) (is_in_order m)

-- the arity of a path that takes so many arguments
abbrev counted_path : List Seg × ℕ → Arity
counted_path c = record { path = c.0; count = c.1; external = false }

arities_through : (m : Map) (es : List (List Seg × Entry)) → map (arity_of_entry m) es ≡ map counted_path (through (λ e. count_through m e.object) es)
arities_through m [] = refl
arities_through m (e ∷ es) = ap (λ l. arity_of_entry m e ∷ l) (arities_through m es)

-- what decides how many arguments a name takes: where an alias leads, and how many the object takes itself
abbrev pub deciding : Entry → Option (List Seg) × ℕ
deciding e = (aliased e.object, arguments_of e.object)

abbrev count_by : Map → Option (List Seg) × ℕ → ℕ
count_by m (None, n) = n
count_by m (Some p, n) = count_of_entry (get m p)

count_decided : (m : Map) (o : NamedObject) → count_through m o ≡ count_by m (aliased o, arguments_of o)
count_decided m (object.Alias p) = refl
count_decided m (object.Method x) = refl
count_decided m (object.Data v) = refl
count_decided m (object.FieldUnit u) = refl
count_decided m (object.BufferField b) = refl
count_decided m object.Scope = refl
count_decided m object.Device = refl
count_decided m object.Processor = refl
count_decided m object.PowerResource = refl
count_decided m object.ThermalZone = refl
count_decided m (object.OperationRegion r) = refl
count_decided m (object.Mutex c) = refl
count_decided m (object.Event c) = refl

module _ (m n : Map) (same : (q : List Seg) → option_map deciding (get m q) ≡ option_map deciding (get n q)) where
  target_same : (a b : Option Entry) → option_map deciding a ≡ option_map deciding b → count_of_entry a ≡ count_of_entry b
  target_same None None h = refl
  target_same None (Some e) h = absurd (cc h)
  target_same (Some d) None h = absurd (cc h)
  target_same (Some d) (Some e) h = let is : deciding d ≡ deciding e = cc h in ap (λ (x : Option (List Seg) × ℕ). x.1) is

  by_same : (d : Option (List Seg) × ℕ) → count_by m d ≡ count_by n d
  by_same (None, k) = refl
  by_same (Some p, k) = target_same (get m p) (get n p) (same p)

  entry_counted : (a b : Option Entry) → option_map deciding a ≡ option_map deciding b → option_map (λ e. count_through m e.object) a ≡ option_map (λ e. count_through n e.object) b
  entry_counted None None h = refl
  entry_counted None (Some e) h = absurd (cc h)
  entry_counted (Some d) None h = absurd (cc h)
  entry_counted (Some d) (Some e) h =
      let is : deciding d ≡ deciding e = cc h in
      ap (λ k. Some k) (count_decided m d.object ∙ ap (count_by m) is ∙ by_same (deciding e) ∙ sym (count_decided n e.object))

  counts_same : each (λ (e : Entry). count_through m e.object) m ≡ each (λ (e : Entry). count_through n e.object) n
  counts_same = same_map path_total only_equal _ _ (λ q. get_each (λ (e : Entry). count_through m e.object) m q ∙ entry_counted (get m q) (get n q) (same q) ∙ sym (get_each (λ (e : Entry). count_through n e.object) n q))

  -- the arguments that names take are decided by what stands at each path
  pub arities_same : (told : List Arity) → arities_in m told ≡ arities_in n told
  arities_same told =
      let left : map (arity_of_entry m) (entries m) ≡ map counted_path (entries (each (λ (e : Entry). count_through m e.object) m)) = arities_through m (entries m) ∙ ap (map counted_path) (sym (entries_each (λ (e : Entry). count_through m e.object) m)) in
      let right : map (arity_of_entry n) (entries n) ≡ map counted_path (entries (each (λ (e : Entry). count_through n e.object) n)) = arities_through n (entries n) ∙ ap (map counted_path) (sym (entries_each (λ (e : Entry). count_through n e.object) n)) in
      ap (λ l. l ++ filter (λ (a : Arity). a.external) told) (left ∙ ap (λ (c : FinMap path_cmp ℕ). map counted_path (entries c)) counts_same ∙ sym right)

-- ---- mutexes released

released_decided : (e : Entry) → deciding (entry_released e) ≡ deciding e
released_decided e = by e.object
  where
    by : (o : NamedObject) → ◌≡◌ {A = Option (List Seg) × ℕ} (aliased (released o), arguments_of (released o)) (aliased o, arguments_of o)
    by (object.Mutex c) = refl
    by (object.Alias p) = refl
    by (object.Method x) = refl
    by (object.Data v) = refl
    by (object.FieldUnit u) = refl
    by (object.BufferField b) = refl
    by object.Scope = refl
    by object.Device = refl
    by object.Processor = refl
    by object.PowerResource = refl
    by object.ThermalZone = refl
    by (object.OperationRegion r) = refl
    by (object.Event c) = refl

released_entry : (o : Option Entry) → option_map deciding (option_map entry_released o) ≡ option_map deciding o
released_entry None = refl
released_entry (Some e) = ap (λ d. Some d) (released_decided e)

pub arities_released : (s : Namespace) (told : List Arity) → arities_in (mutexes_released s).map told ≡ arities_in s.map told
arities_released s = arities_same (mutexes_released s).map s.map (λ q. ap (option_map deciding) (released_at s q) ∙ released_entry (get s.map q))

-- ---- another object at a path

plain_decided : (o : NamedObject) → is_plain o ≡ true → ◌≡◌ {A = Option (List Seg) × ℕ} (aliased o, arguments_of o) (None, 0)
plain_decided (object.Alias p) h = absurd (cc h)
plain_decided (object.Method x) h = absurd (cc h)
plain_decided (object.Mutex c) h = refl
plain_decided (object.Data v) h = refl
plain_decided (object.FieldUnit u) h = refl
plain_decided (object.BufferField b) h = refl
plain_decided object.Scope h = refl
plain_decided object.Device h = refl
plain_decided object.Processor h = refl
plain_decided object.PowerResource h = refl
plain_decided object.ThermalZone h = refl
plain_decided (object.OperationRegion r) h = refl
plain_decided (object.Event c) h = refl

module _ (p : List Seg) (o : NamedObject) (plain : is_plain o ≡ true) (told : List Arity) where
  put_decided : (m : Map) (e : Entry) → get m p ≡ Some e → is_plain e.object ≡ true → (q : List Seg) (b : Bool) → eq_by_cmp path_cmp q p ≡ b
      → option_map deciding (cond b (Some (with_object o e)) (get m q)) ≡ option_map deciding (get m q)
  put_decided m e at was q false is = refl
  put_decided m e at was q true is =
      ap (λ d. Some d) (plain_decided o plain ∙ sym (plain_decided e.object was))
      ∙ ap (option_map deciding) (sym at ∙ ap (get m) (sym (same_path q p is)))

  put_same : (m : Map) (e : Entry) → get m p ≡ Some e → is_plain e.object ≡ true → arities_in (insert m p (with_object o e)) told ≡ arities_in m told
  put_same m e at was = arities_same (insert m p (with_object o e)) m
      (λ q. ap (option_map deciding) (get-insert path_total m p (with_object o e) q) ∙ put_decided m e at was q (eq_by_cmp path_cmp q p) refl) told

  -- where what stands at the path is plain, too
  pub arities_replaced : (s : Namespace) → ((e : Entry) → get s.map p ≡ Some e → is_plain e.object ≡ true) → arities_in (replaced p o s).1.map told ≡ arities_in s.map told
  unfolding replaced
  arities_replaced s was = by (get s.map p) refl
    where
      by : (x : Option Entry) → get s.map p ≡ x → arities_in (replaced_in p o s x).1.map told ≡ arities_in s.map told
      by None at = refl
      by (Some e) at = put_same s.map e at (was e at)
