-- Numbers are counted one after another, in a map from each number to how often it was met.
use Rattle.std.proofs.Common.{◌≡◌, ℕ, ◌+◌, ◌<◌, ◌≤◌, Bool, true, false, cond, List, [], ◌∷◌, Some, length, map, take, drop, get_or, unwrap_or, refl, ◌∙◌, sym, ap, subst, arith, drop-cons, add-one}
use Rattle.std.specs.Prelude.{◌==◌, count_by, All}
use Rattle.std.specs.List.Sorted.{IsStrictlySortedBy}
use Rattle.std.specs.Ordering.{nat_cmp, match_ordering}
use Rattle.std.specs.Cmp.{nat_cmp_total, unsigned_tied}
use Rattle.std.specs.declared.cmp.Ordering.{Ordering}
use Rattle.std.specs.declared.cmp.Ordering.TheVariants.{Less, Equal, Greater}
use Rattle.std.specs.BTreeSet.{insert_key}
use Rattle.std.specs.BTreeMap.{BTreeMap, get, insert_entry, IsOrdered, Updates}
use Rattle.std.specs.Map.{keys_of}
use Rattle.std.proofs.lemmas.Bool.{eqb-true}
use Rattle.std.proofs.lemmas.List.{drop_all, take_all, length-take-le}
use Rattle.std.proofs.lemmas.List.Elements.{All-head, All-tail}
use Rattle.std.proofs.lemmas.List.Sums.{count_by_more_yes, count_by_more_no, count_by-le-length}
use Rattle.std.proofs.lemmas.Map.Views.{All-found}
use Rattle.acpi_resources.specs.Numbers.{with_numbers, set_of}
use Rattle.acpi_links.specs.Problems.{counted, wired_counts}

times : ℕ → List ℕ → ℕ
times q ms = count_by (λ m. m == q) ms

-- the count of each number among those that were met
abbrev pub HasCounts : BTreeMap ℕ ℕ → List ℕ → Type 0
HasCounts counts ms = (q : ℕ) → unwrap_or (get nat_cmp counts q) 0 ≡ count_by (λ m. m == q) ms

pub one_count_more : (counts after : BTreeMap ℕ ℕ) (ns : List ℕ) (i : ℕ) → HasCounts counts (take i ns) → i < length ns
    → Updates nat_cmp counts after (get_or ns i 0) (Some (unwrap_or (get nat_cmp counts (get_or ns i 0)) 0 + 1)) → HasCounts after (take (i + 1) ns)
one_count_more counts after ns i h l u = λ q. by q (get_or ns i 0 == q) refl
  where
    by : (q : ℕ) (b : Bool) → (get_or ns i 0 == q) ≡ b → unwrap_or (get nat_cmp after q) 0 ≡ count_by (λ m. m == q) (take (i + 1) ns)
    by q true e =
        let same : get_or ns i 0 ≡ q = eqb-true (get_or ns i 0) q e in
        ap (λ o. unwrap_or o 0) (u.0 q) ∙ ap (λ b. unwrap_or (cond b (Some (unwrap_or (get nat_cmp counts (get_or ns i 0)) 0 + 1)) (get nat_cmp counts q)) 0) (unsigned_tied (get_or ns i 0) q ∙ e)
        ∙ rw (h (get_or ns i 0), same) (sym (count_by_more_yes (λ m. m == q) ns i 0 l e))
    by q false e =
        ap (λ o. unwrap_or o 0) (u.0 q) ∙ ap (λ b. unwrap_or (cond b (Some (unwrap_or (get nat_cmp counts (get_or ns i 0)) 0 + 1)) (get nat_cmp counts q)) 0) (unsigned_tied (get_or ns i 0) q ∙ e)
        ∙ h q ∙ sym (count_by_more_no (λ m. m == q) ns i 0 l e)

pub few_so_far : (counts : BTreeMap ℕ ℕ) (ns : List ℕ) (i n : ℕ) → HasCounts counts (take i ns) → i < length ns → length ns ≤ 4096 → unwrap_or (get nat_cmp counts n) 0 < 4096
few_so_far counts ns i n h l k =
    let a = h n in
    let b = count_by-le-length (λ m. m == n) (take i ns) in
    let c = length-take-le i ns (omega arith) in
    omega arith

keys_by : (o : Ordering) (k v : ℕ) (e : ℕ × ℕ) (es more : List (ℕ × ℕ)) (set : List ℕ) → keys_of more ≡ set → keys_of (match_ordering o ((k, v) ∷ e ∷ es) ((e.0, v) ∷ es) (e ∷ more)) ≡ match_ordering o (k ∷ keys_of (e ∷ es)) (keys_of (e ∷ es)) (e.0 ∷ set)
keys_by Less k v e es more set h = refl
keys_by Equal k v e es more set h = refl
keys_by Greater k v e es more set h = ap (λ ks. e.0 ∷ ks) h

keys_put : (es : List (ℕ × ℕ)) (k v : ℕ) → keys_of (insert_entry nat_cmp es k v) ≡ insert_key nat_cmp (keys_of es) k
keys_put [] k v = refl
keys_put (e ∷ es) k v = keys_by (nat_cmp k e.0) k v e es (insert_entry nat_cmp es k v) (insert_key nat_cmp (keys_of es) k) (keys_put es k v)

by_order : (o : Ordering) (k v : ℕ) (e : ℕ × ℕ) (es more : List (ℕ × ℕ)) → length more ≤ length es + 1 → length (match_ordering o ((k, v) ∷ e ∷ es) ((e.0, v) ∷ es) (e ∷ more)) ≤ length (e ∷ es) + 1
by_order Less k v e es more h = omega arith
by_order Equal k v e es more h = omega arith
by_order Greater k v e es more h = omega arith

one_grown : (es : List (ℕ × ℕ)) (k v : ℕ) → length (insert_entry nat_cmp es k v) ≤ length es + 1
one_grown [] k v = omega arith
one_grown (e ∷ es) k v = by_order (nat_cmp k e.0) k v e es (insert_entry nat_cmp es k v) (one_grown es k v)

pub one_entry_more : (counts after : BTreeMap ℕ ℕ) (i k v : ℕ) → length counts.entries ≤ i → after.entries ≡ insert_entry nat_cmp counts.entries k v → length after.entries ≤ i + 1
one_entry_more counts after i k v l e = rw e (let h = one_grown counts.entries k v in omega arith)

pub one_key_more : (counts after : BTreeMap ℕ ℕ) (ns all : List ℕ) (i v : ℕ) → with_numbers (keys_of counts.entries) (drop i ns) ≡ all → i < length ns
    → after.entries ≡ insert_entry nat_cmp counts.entries (get_or ns i 0) v → with_numbers (keys_of after.entries) (drop (i + 1) ns) ≡ all
unfolding with_numbers
one_key_more counts after ns all i v so l e = rw (e, add-one, keys_put counts.entries (get_or ns i 0) v) (sym (rw (drop-cons ns i 0 l) refl) ∙ so)

pub all_keys : (counts : BTreeMap ℕ ℕ) (ns all : List ℕ) (i : ℕ) → with_numbers (keys_of counts.entries) (drop i ns) ≡ all → length ns ≤ i → keys_of counts.entries ≡ all
unfolding with_numbers
all_keys counts ns all i so l = sym (rw (drop_all i ns l) refl) ∙ so

-- the entries are the numbers with their counts
each_counted : (ns : List ℕ) (es : List (ℕ × ℕ)) → All (λ e. e ≡ counted ns e.0) es → es ≡ map (counted ns) (keys_of es)
each_counted ns [] a = refl
each_counted ns (e ∷ es) a = cc (All-head (λ e. e ≡ counted ns e.0) e es a, each_counted ns es (All-tail (λ e. e ≡ counted ns e.0) e es a))

is_counted : (ns : List ℕ) (counts : BTreeMap ℕ ℕ) (e : ℕ × ℕ) → HasCounts counts ns → get nat_cmp counts e.0 ≡ Some e.1 → e ≡ counted ns e.0
is_counted ns counts e h found = ap (λ n. (e.0, n)) (sym (ap (λ o. unwrap_or o 0) found) ∙ h e.0)

all_tallied : (counts : BTreeMap ℕ ℕ) (ns : List ℕ) → IsOrdered nat_cmp counts → HasCounts counts ns → keys_of counts.entries ≡ set_of ns → counts.entries ≡ wired_counts ns
unfolding wired_counts
all_tallied counts ns s h k =
    each_counted ns counts.entries (λ i d l. is_counted ns counts (get_or counts.entries i d) h (All-found nat_cmp_total counts s i d l)) ∙ ap (map (counted ns)) k

module _ (counts : BTreeMap ℕ ℕ) (list : List (ℕ × ℕ)) (ns : List ℕ) (i : ℕ) where
  pub numbers_of : length ns ≤ i → with_numbers (keys_of counts.entries) (drop i ns) ≡ set_of ns → list ≡ counts.entries → keys_of list ≡ set_of ns
  numbers_of l k e = ap keys_of e ∙ all_keys counts ns (set_of ns) i k l

  pub tallied : HasCounts counts (take i ns) → length ns ≤ i → with_numbers (keys_of counts.entries) (drop i ns) ≡ set_of ns → list ≡ counts.entries → IsStrictlySortedBy nat_cmp (keys_of list) → list ≡ wired_counts ns
  tallied h l k e s =
      e ∙ all_tallied counts ns (subst (λ (es : List (ℕ × ℕ)). IsStrictlySortedBy nat_cmp (keys_of es)) e s) (subst (HasCounts counts) (take_all i ns l) h) (all_keys counts ns (set_of ns) i k l)
