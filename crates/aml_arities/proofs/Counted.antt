-- What the numbers of paths, the counts under them and the entries show after one step.
use Rattle.std.specs.Prelude.{◌≡◌, ◌+◌, ◌<◌, ◌≤◌, ℕ, zero, suc, List, [], ◌∷◌, ◌++◌, length, map, take, replicate, get_or, set, Bool, true, false, not, Option, Some, None, if◌then◌else◌}
use Rattle.std.proofs.Common.{ap, sym, ◌∙◌, refl, subst, arith, inl, inr, ◌⊎◌, ◌&&◌}
use Rattle.std.proofs.lemmas.Bool.{cases_eq, cases_lt}
use Rattle.std.proofs.lemmas.List.{take_more, get_or_past, get_or-set_same, get_or-set_other, get_or_at, take_all, length-take-le, map-append}
use Rattle.aml_path.specs.declared.segment.Seg.{Seg}
use Rattle.aml_path.specs.Paths.{path_eq}
use Rattle.aml_arities.specs.declared.counts.Counts.{Counts}
use Rattle.aml_arities.specs.declared.arities.Arity.{Arity}
use Rattle.aml_arities.specs.declared.arities.Entry.{Entry}
use Rattle.aml_arities.specs.Arities.{latest, or_else, is_of}
use Rattle.aml_arities.specs.PathTree.{number_of, Kept, Leads}
use Rattle.aml_arities.specs.Counts.{Counted, no_counts, count_of, with_count, over, counts_at, count_at, shown, with_added, SameCounts, BothCounts, arity_of_entry, arities_of, Placed, moved_by, Holds}
use Rattle.aml_arities.proofs.PathTrees.{tied, itself, number_is, kept_length, kept_path, kept_number, kept_back}

pub or_none : {A : Type 0} (a : Option A) → or_else a None ≡ a
or_none None = refl
or_none (Some x) = refl

or_else_again : {A : Type 0} (a b c : Option A) → or_else (or_else a b) c ≡ or_else a (or_else b c)
or_else_again None b c = refl
or_else_again (Some x) b c = refl

-- arities in two parts
pub latest_append : (path : List Seg) (external : Bool) (xs ys : List Arity) → latest path external (xs ++ ys) ≡ or_else (latest path external ys) (latest path external xs)
latest_append path external [] ys = sym (or_none (latest path external ys))
latest_append path external (x ∷ xs) ys = rw (latest_append path external xs ys) (or_else_again (latest path external ys) (latest path external xs) _)

none_of_sort : (e : Bool) → count_of no_counts e ≡ None
none_of_sort true = refl
none_of_sort false = refl

-- ---- more paths and room for counts

module _ (ps qs : List (List Seg)) (kept : Kept ps qs) (cs ds : List Counts) (few : length cs ≤ length ps) (same : (n : ℕ) → counts_at ds n ≡ counts_at cs n) where
  by_number : (q : List Seg) (e : Bool) (o r : Option ℕ) → number_of q ps ≡ o → number_of q qs ≡ r → count_at cs e r ≡ count_at cs e o
  by_number q e None None was is = refl
  by_number q e (Some n) None was is = absurd (cc (sym is ∙ kept_number ps qs kept q n was))
  by_number q e None (Some n) was is = late (cases_lt n (length ps))
    where
      late : (n < length ps) ⊎ (length ps ≤ n) → count_of (counts_at cs n) e ≡ None
      late (inl lt) = absurd (cc (sym was ∙ kept_back ps qs kept q n lt is))
      late (inr ge) = ap (λ c. count_of c e) (get_or_past cs n no_counts (omega (arith, ge, few))) ∙ none_of_sort e
  by_number q e (Some n) (Some m) was is = let number : Some n ≡ Some m = sym (kept_number ps qs kept q n was) ∙ is in ap (count_at cs e) (sym number)

  same_at : (e : Bool) (o : Option ℕ) → count_at ds e o ≡ count_at cs e o
  same_at e None = refl
  same_at e (Some n) = ap (λ c. count_of c e) (same n)

  pub room_same : SameCounts (record { paths = ps; counts = cs }) (record { paths = qs; counts = ds })
  room_same q e = same_at e (number_of q qs) ∙ by_number q e (number_of q ps) (number_of q qs) refl refl

filled : (cs : List Counts) (m n : ℕ) → counts_at (cs ++ replicate m no_counts) n ≡ counts_at cs n
filled [] zero n = refl
filled [] (suc m) zero = refl
filled [] (suc m) (suc n) = filled [] m n
filled (c ∷ cs) m zero = refl
filled (c ∷ cs) m (suc n) = filled cs m n

-- room is made by counts of neither sort
pub filled_same : (cs ds : List Counts) (n m : ℕ) → length cs ≤ n → ds ≡ take n cs ++ replicate m no_counts → (k : ℕ) → counts_at ds k ≡ counts_at cs k
filled_same cs ds n m enough is k = ap (λ l. counts_at l k) (is ∙ ap (λ l. l ++ replicate m no_counts) (take_all n cs enough)) ∙ filled cs m k

-- ---- counts put over others, or under them

pushed_other : (xs : List Counts) (c d : Counts) (j : ℕ) → (j ≡ length xs → ⊥) → get_or (xs ++ c ∷ []) j d ≡ get_or xs j d
pushed_other [] c d zero ne = absurd (ne refl)
pushed_other [] c d (suc j) ne = refl
pushed_other (x ∷ xs) c d zero ne = refl
pushed_other (x ∷ xs) c d (suc j) ne = pushed_other xs c d j (λ e. ne (ap suc e))

module _ (f : Option ℕ → Option ℕ → Option ℕ) (nothing : (o : Option ℕ) → f None o ≡ o)
    (ps qs : List (List Seg)) (ns : List ℕ) (leads : Leads ps qs ns) (cs ds more : List Counts) (k : ℕ) (c x : Counts) (t : ℕ)
    (within : k < length more) (within_nodes : k < length ns) (at : c ≡ get_or more k c) (node : t ≡ get_or ns k 0) (there : t < length ds)
    (is : (e : Bool) → count_of x e ≡ f (count_of c e) (count_of (counts_at ds t) e)) where
  abbrev before : List Counts
  before = take k more

  after_is : take (k + 1) more ≡ before ++ c ∷ []
  after_is = take_more more k c within ∙ ap (λ y. before ++ y ∷ []) (sym at)

  many : length before ≡ k
  many = length-take-le k more (omega (arith, within))

  path_there : get_or ps t [] ≡ get_or qs k []
  path_there = ap (λ n. get_or ps n []) node ∙ (number_is (get_or qs k []) ps (get_or ns k 0) (leads.each k (omega (arith, within_nodes, leads.many)))).1

  -- the path that leads there is the one with this number
  back : (q : List Seg) → number_of q ps ≡ Some t → number_of q qs ≡ Some k
  back q lead =
      let here : q ≡ get_or qs k [] = sym (number_is q ps t lead).1 ∙ path_there in
      ap (λ p. number_of p qs) here ∙ leads.distinct k (omega (arith, within_nodes, leads.many))

  forth : (q : List Seg) → number_of q qs ≡ Some k → number_of q ps ≡ Some t
  forth q has =
      ap (λ p. number_of p ps) (sym (number_is q qs k has).1) ∙ leads.each k (omega (arith, within_nodes, leads.many)) ∙ ap Some (sym node)

  other_added : (q : List Seg) (e : Bool) (o : Option ℕ) → number_of q qs ≡ o → (o ≡ Some k → ⊥) → count_at (before ++ c ∷ []) e o ≡ count_at before e o
  other_added q e None has ne = refl
  other_added q e (Some j) has ne = ap (λ y. count_of y e) (pushed_other before c no_counts j (λ s. ne (ap Some (s ∙ many))))

  other_changed : (q : List Seg) (e : Bool) (o : Option ℕ) → (o ≡ Some t → ⊥) → count_at (set ds t x) e o ≡ count_at ds e o
  other_changed q e None ne = refl
  other_changed q e (Some m) ne = ap (λ y. count_of y e) (get_or-set_other ds t m x no_counts (λ s. ne (ap Some s)))

  module _ (q : List Seg) (e : Bool) (so_far : count_at ds e (number_of q ps) ≡ f (count_at before e (number_of q qs)) (count_at cs e (number_of q ps))) where
    here : number_of q ps ≡ Some t → count_at (set ds t x) e (number_of q ps) ≡ f (count_at (before ++ c ∷ []) e (number_of q qs)) (count_at cs e (number_of q ps))
    here lead =
        let has = back q lead in
        let old : count_of (counts_at ds t) e ≡ count_at cs e (number_of q ps) =
        ap (count_at ds e) (sym lead) ∙ so_far
        ∙ ap (λ o. f o (count_at cs e (number_of q ps))) (ap (count_at before e) has ∙ ap (λ y. count_of y e) (get_or_past before k no_counts (omega (arith, many))) ∙ none_of_sort e)
        ∙ nothing (count_at cs e (number_of q ps)) in
        ap (count_at (set ds t x) e) lead
        ∙ ap (λ y. count_of y e) (get_or-set_same ds t x no_counts there)
        ∙ is e
        ∙ ap (f (count_of c e)) old
        ∙ ap (λ o. f o (count_at cs e (number_of q ps))) (sym (ap (count_at (before ++ c ∷ []) e) has ∙ ap (λ y. count_of y e) (get_or_at before c [] no_counts k many)))

    elsewhere : (number_of q ps ≡ Some t → ⊥) → count_at (set ds t x) e (number_of q ps) ≡ f (count_at (before ++ c ∷ []) e (number_of q qs)) (count_at cs e (number_of q ps))
    elsewhere ne =
        other_changed q e (number_of q ps) ne
        ∙ so_far
        ∙ ap (λ o. f o (count_at cs e (number_of q ps))) (sym (other_added q e (number_of q qs) refl (λ has. ne (forth q has))))

    by_place : (o : Option ℕ) → number_of q ps ≡ o → count_at (set ds t x) e (number_of q ps) ≡ f (count_at (before ++ c ∷ []) e (number_of q qs)) (count_at cs e (number_of q ps))
    by_place None lead = elsewhere (λ h. cc (sym lead ∙ h))
    by_place (Some m) lead = elim (cases_eq m t) [
      | inl same ↦ here (lead ∙ ap Some same)
      | inr ne ↦ elsewhere (λ h. ne (cc (sym lead ∙ h)))
    ]

    pub put_more : count_at (set ds t x) e (number_of q ps) ≡ f (count_at (take (k + 1) more) e (number_of q qs)) (count_at cs e (number_of q ps))
    put_more = by_place (number_of q ps) refl ∙ ap (λ l. f (count_at l e (number_of q qs)) (count_at cs e (number_of q ps))) (sym after_is)

pub over_sort : (later earlier : Counts) (e : Bool) → count_of (over later earlier) e ≡ or_else (count_of later e) (count_of earlier e)
over_sort later earlier true = refl
over_sort later earlier false = refl

-- nothing put over or under changes nothing
none_at : (e : Bool) (o : Option ℕ) → count_at [] e o ≡ None
none_at e None = refl
none_at e (Some n) = none_of_sort e

pub none_over : (ps qs : List (List Seg)) (cs : List Counts) → BothCounts (record { paths = ps; counts = cs }) (record { paths = qs; counts = [] }) (record { paths = ps; counts = cs })
none_over ps qs cs q e = ap (λ o. or_else o (count_at cs e (number_of q ps))) (sym (none_at e (number_of q qs)))

pub none_under : (ps qs : List (List Seg)) (cs : List Counts) → BothCounts (record { paths = qs; counts = [] }) (record { paths = ps; counts = cs }) (record { paths = ps; counts = cs })
none_under ps qs cs q e = sym (ap (or_else (count_at cs e (number_of q ps))) (none_at e (number_of q qs)) ∙ or_none (count_at cs e (number_of q ps)))

-- ---- one entry more

one_here : (c : Counts) (n : ℕ) (a : Arity) (x e : Bool) (q : List Seg) → path_eq a.path q ≡ true → count_of (with_count c n x) e ≡ or_else (if is_of q e (record a { count = n; external = x }) then Some n else None) (count_of c e)
one_here c n a true true q is = rw is refl
one_here c n a true false q is = refl
one_here c n a false true q is = refl
one_here c n a false false q is = rw is refl

one_apart : (o : Option ℕ) (n : ℕ) (a : Arity) (x e : Bool) (q : List Seg) → path_eq a.path q ≡ false → o ≡ or_else (if is_of q e (record a { count = n; external = x }) then Some n else None) o
one_apart o n a true true q is = rw is refl
one_apart o n a true false q is = refl
one_apart o n a false true q is = refl
one_apart o n a false false q is = rw is refl

module _ (t : Counted) (a : Arity) (node : ℕ) (has : number_of a.path t.paths ≡ Some node) (room : node < length t.counts) where
  changed_apart : (q : List Seg) (e : Bool) (o : Option ℕ) → (o ≡ Some node → ⊥) → count_at (with_added t node a.count a.external).counts e o ≡ count_at t.counts e o
  changed_apart q e None ne = refl
  changed_apart q e (Some m) ne = ap (λ y. count_of y e) (get_or-set_other t.counts node m (with_count (counts_at t.counts node) a.count a.external) no_counts (λ s. ne (ap Some s)))

  added_by : (b : Bool) (q : List Seg) (e : Bool) → path_eq a.path q ≡ b → shown (with_added t node a.count a.external) q e ≡ or_else (if is_of q e a then Some a.count else None) (shown t q e)
  added_by true q e is =
      let number : number_of q t.paths ≡ Some node = ap (λ p. number_of p t.paths) (sym (tied a.path q is)) ∙ has in
      ap (count_at (with_added t node a.count a.external).counts e) number
      ∙ ap (λ y. count_of y e) (get_or-set_same t.counts node (with_count (counts_at t.counts node) a.count a.external) no_counts room)
      ∙ one_here (counts_at t.counts node) a.count a a.external e q is
      ∙ ap (or_else (if is_of q e a then Some a.count else None)) (ap (count_at t.counts e) (sym number))
  added_by false q e is =
      changed_apart q e (number_of q t.paths) (λ h. cc (sym is ∙ ap (path_eq a.path) (sym (number_is q t.paths node h).1 ∙ (number_is a.path t.paths node has).1) ∙ itself a.path))
      ∙ one_apart (shown t q e) a.count a a.external e q is

  added_one : (q : List Seg) (e : Bool) → shown (with_added t node a.count a.external) q e ≡ or_else (if is_of q e a then Some a.count else None) (shown t q e)
  added_one q e = added_by (path_eq a.path q) q e refl

-- ---- entries

pub placed_more : (n m : ℕ) (es : List Entry) → n ≤ m → Placed n es → Placed m es
placed_more n m [] le h = tt
placed_more n m (e ∷ es) le h = let low = h.0 in (omega (arith, low, le), placed_more n m es le h.1)

pub placed_append : (n : ℕ) (es fs : List Entry) → Placed n es → Placed n fs → Placed n (es ++ fs)
placed_append n [] fs h k = k
placed_append n (e ∷ es) fs h k = (h.0, placed_append n es fs h.1 k)

pub placed_at : (n : ℕ) (es : List Entry) (i : ℕ) (d : Entry) → i < length es → Placed n es → (get_or es i d).node < n
placed_at n [] i d lt h = absurd (omega (arith, lt))
placed_at n (e ∷ es) zero d lt h = h.0
placed_at n (e ∷ es) (suc i) d lt h = placed_at n es i d (omega (arith, lt)) h.1

module _ (ps qs : List (List Seg)) (kept : Kept ps qs) where
  same_entries : (es : List Entry) → Placed (length ps) es → arities_of qs es ≡ arities_of ps es
  same_entries [] h = refl
  same_entries (e ∷ es) h = rw (kept_path ps qs kept e.node h.0, same_entries es h.1) refl

module _ (ps qs : List (List Seg)) (ns : List ℕ) (leads : Leads ps qs ns) where
  pub led : (n : ℕ) → n < length qs → (get_or ns n 0 < length ps) × (get_or ps (get_or ns n 0) [] ≡ get_or qs n [])
  led n lt = number_is (get_or qs n []) ps (get_or ns n 0) (leads.each n lt)

  pub moved_entries : (es : List Entry) → Placed (length qs) es → arities_of ps (map (moved_by ns) es) ≡ arities_of qs es
  moved_entries [] h = refl
  moved_entries (e ∷ es) h = rw ((led e.node h.0).1, moved_entries es h.1) refl

  pub moved_placed : (es : List Entry) → Placed (length qs) es → Placed (length ps) (map (moved_by ns) es)
  moved_placed [] h = tt
  moved_placed (e ∷ es) h = ((led e.node h.0).0, moved_placed es h.1)

-- more paths change nothing that is shown
module _ (t u : Counted) (es : List Entry) (kept : Kept t.paths u.paths) (same : SameCounts t u) (holds : Holds t es) where
  pub grown_shows : arities_of u.paths es ≡ arities_of t.paths es
  grown_shows = same_entries t.paths u.paths kept es holds.placed

  pub grown_holds : Holds u es
  grown_holds = record {
    placed = placed_more (length t.paths) (length u.paths) es (kept_length t.paths u.paths kept) holds.placed;
    latest = λ q e. same q e ∙ holds.latest q e ∙ ap (latest q e) (sym grown_shows);
  }

-- one entry behind the others
module _ (t : Counted) (es : List Entry) (x : Entry) (path : List Seg) (has : number_of path t.paths ≡ Some x.node) (room : x.node < length t.counts) (holds : Holds t es) where
  abbrev arity : Arity
  arity = record { path = path; count = x.count; external = x.external }

  pub added_shows : arities_of t.paths (es ++ x ∷ []) ≡ arities_of t.paths es ++ arity ∷ []
  added_shows = map-append (arity_of_entry t.paths) es (x ∷ []) ∙ ap (λ p. arities_of t.paths es ++ record { path = p; count = x.count; external = x.external } ∷ []) (number_is path t.paths x.node has).1

  pub added_holds : Holds (with_added t x.node x.count x.external) (es ++ x ∷ [])
  added_holds = record {
    placed = placed_append (length t.paths) es (x ∷ []) holds.placed ((number_is path t.paths x.node has).0, tt);
    latest = λ q e.
        added_one t arity x.node has room q e
        ∙ ap (or_else (if is_of q e arity then Some arity.count else None)) (holds.latest q e)
        ∙ sym (latest_append q e (arities_of t.paths es) (arity ∷ []))
        ∙ ap (latest q e) (sym added_shows);
  }

-- entries behind others, at paths of their own
module _ (t earlier later : Counted) (es fs : List Entry) (xs ys : List Arity) (shows : arities_of t.paths es ≡ xs) (shows_later : arities_of t.paths fs ≡ ys)
    (placed : Placed (length t.paths) es) (placed_later : Placed (length t.paths) fs) (both : BothCounts earlier later t)
    (holds : (q : List Seg) (e : Bool) → shown earlier q e ≡ latest q e xs) (holds_later : (q : List Seg) (e : Bool) → shown later q e ≡ latest q e ys) where
  both_shows : arities_of t.paths (es ++ fs) ≡ xs ++ ys
  both_shows = map-append (arity_of_entry t.paths) es fs ∙ ap (λ l. l ++ arities_of t.paths fs) shows ∙ ap (λ l. xs ++ l) shows_later

  pub both_hold : Holds t (es ++ fs)
  both_hold = record {
    placed = placed_append (length t.paths) es fs placed placed_later;
    latest = λ q e.
        both q e
        ∙ ap (λ o. or_else o (shown earlier q e)) (holds_later q e)
        ∙ ap (or_else (latest q e ys)) (holds q e)
        ∙ sym (latest_append q e xs ys)
        ∙ ap (latest q e) (sym both_shows);
  }

-- entries taken over behind those of a tree that was made ready for them
module _ (own ready added t : Counted) (es fs : List Entry) (ns : List ℕ) (kept : Kept own.paths ready.paths) (same : SameCounts own ready) (leads : Leads ready.paths added.paths ns)
    (paths : t.paths ≡ ready.paths) (both : BothCounts ready added t) (holds : Holds own es) (holds_added : Holds added fs) where
  grown : Holds ready es
  grown = grown_holds own ready es kept same holds

  first : arities_of t.paths es ≡ arities_of own.paths es
  first = ap (λ ps. arities_of ps es) paths ∙ grown_shows own ready es kept same holds

  behind : arities_of t.paths (map (moved_by ns) fs) ≡ arities_of added.paths fs
  behind = ap (λ ps. arities_of ps (map (moved_by ns) fs)) paths ∙ moved_entries ready.paths added.paths ns leads fs holds_added.placed

  pub over_shows : arities_of t.paths (es ++ map (moved_by ns) fs) ≡ arities_of own.paths es ++ arities_of added.paths fs
  over_shows = map-append (arity_of_entry t.paths) es (map (moved_by ns) fs) ∙ ap (λ l. l ++ arities_of t.paths (map (moved_by ns) fs)) first ∙ ap (λ l. arities_of own.paths es ++ l) behind

  pub over_holds : Holds t (es ++ map (moved_by ns) fs)
  over_holds = both_hold t ready added es (map (moved_by ns) fs) (arities_of own.paths es) (arities_of added.paths fs) first behind
      (subst (λ ps. Placed (length ps) es) (sym paths) grown.placed)
      (subst (λ ps. Placed (length ps) (map (moved_by ns) fs)) (sym paths) (moved_placed ready.paths added.paths ns leads fs holds_added.placed))
      both (λ q e. grown.latest q e ∙ ap (latest q e) (grown_shows own ready es kept same holds)) holds_added.latest

-- entries put before those of a tree that was made ready for them
module _ (own ready added t : Counted) (es fs : List Entry) (ns : List ℕ) (kept : Kept added.paths ready.paths) (same : SameCounts added ready) (leads : Leads ready.paths own.paths ns)
    (paths : t.paths ≡ ready.paths) (both : BothCounts own ready t) (holds : Holds own es) (holds_added : Holds added fs) where
  grown_added : Holds ready fs
  grown_added = grown_holds added ready fs kept same holds_added

  before_them : arities_of t.paths (map (moved_by ns) es) ≡ arities_of own.paths es
  before_them = ap (λ ps. arities_of ps (map (moved_by ns) es)) paths ∙ moved_entries ready.paths own.paths ns leads es holds.placed

  last : arities_of t.paths fs ≡ arities_of added.paths fs
  last = ap (λ ps. arities_of ps fs) paths ∙ grown_shows added ready fs kept same holds_added

  pub under_shows : arities_of t.paths (map (moved_by ns) es ++ fs) ≡ arities_of own.paths es ++ arities_of added.paths fs
  under_shows = map-append (arity_of_entry t.paths) (map (moved_by ns) es) fs ∙ ap (λ l. l ++ arities_of t.paths fs) before_them ∙ ap (λ l. arities_of own.paths es ++ l) last

  pub under_holds : Holds t (map (moved_by ns) es ++ fs)
  under_holds = both_hold t own ready (map (moved_by ns) es) fs (arities_of own.paths es) (arities_of added.paths fs) before_them last
      (subst (λ ps. Placed (length ps) (map (moved_by ns) es)) (sym paths) (moved_placed ready.paths own.paths ns leads es holds.placed))
      (subst (λ ps. Placed (length ps) fs) (sym paths) grown_added.placed)
      both holds.latest (λ q e. grown_added.latest q e ∙ ap (latest q e) (grown_shows added ready fs kept same holds_added))
