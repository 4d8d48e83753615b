-- Steps of a search, and names that are resolved.
use Rattle.std.proofs.Common.{◌≡◌, ◌≢◌, ℕ, zero, suc, ◌+◌, ◌-◌, ◌<◌, ◌≤◌, ◌++◌, ◌∷◌, [], List, take, length, Option, Some, None, Ok, Err, refl, ap, sym, ◌∙◌, arith, inl, inr, length-append}
use Rattle.std.specs.Prelude.{true, false, nat_lt}
use Rattle.std.specs.Option.{option_map}
use Rattle.std.proofs.lemmas.List.{take_all, take-append-le}
use Rattle.std.proofs.lemmas.Bool.{cases_lt}
use Rattle.std.proofs.lemmas.Bool.Decides.{nat_tests}
use Rattle.ar_space.specs.declared.refusal.Refusal.{Refusal}
use Rattle.ar_space.specs.declared.refusal.Refusal.TheVariants as refusal
use Rattle.ar_space.specs.declared.refusal.NameFault.TheVariants.{BadName, AboveRoot}
use Rattle.ar_space.specs.declared.refusal.NamespaceFault.TheVariants.{NotFound}
use Rattle.ar_space.specs.Outcome.{Outcome, ◌>>=◌, seen}
use Rattle.aml_path.specs.declared.segment.Seg.{Seg}
use Rattle.aml_path.specs.declared.name.Prefix.TheVariants.{Root, Parents}
use Rattle.aml_path.specs.Paths.{Name, resolved, is_searched, is_null}
use Rattle.aml_objects.specs.declared.entry.Entry.{Entry}
use Rattle.aml_objects.specs.declared.entry.NamedObject.{NamedObject}
use Rattle.aml_objects.specs.declared.entry.NamedObject.TheVariants as object
use Rattle.aml_namespace.specs.Namespace.{Map, numbered}
use Rattle.aml_namespace.specs.Search.{Found, at_path, search_up, found_or_not, first_found, no_alias, target_of, by_object, through, found, found_in, found_from, aliased}

-- ---- what an outcome seen two ways says

pub stands_by : (o : Option Found) (e : Entry) → Some e ≡ option_map (λ (f : Found). f.1) o → (f : Found) × (o ≡ Some f)
stands_by None e is = absurd (cc is)
stands_by (Some f) e is = (f, refl)

pub nothing_by : (o : Option Found) → None ≡ option_map (λ (f : Found). f.1) o → option_map (λ (f : Found). f.0) o ≡ None
nothing_by None is = refl
nothing_by (Some f) is = absurd (cc is)

pub some_is : (v o : Option Found) → Some v ≡ option_map {T = Found} {U = Option Found} Some o → (f : Found) × (o ≡ Some f) × (v ≡ Some f)
some_is v None is = absurd (cc is)
some_is v (Some f) is = (f, refl, cc is)

pub none_is : (o : Option Found) → None ≡ option_map {T = Found} {U = Option Found} Some o → o ≡ None
none_is None is = refl
none_is (Some f) is = absurd (cc is)

pub ok_is : (v : Option Found) (x : Outcome Found) → Ok v ≡ seen Some x → (f : Found) × (x ≡ Ok f) × (v ≡ Some f)
ok_is v (Ok f) is = (f, refl, cc is)
ok_is v (Err e) is = absurd (cc is)

pub err_is : (e : Refusal) (x : Outcome Found) → Err e ≡ seen {A = Found} {B = Option Found} Some x → x ≡ Err e
err_is e (Ok f) is = absurd (cc is)
err_is e (Err d) is = cc is

pub found_same : {A : Type 0} (view : A → Option Found) (o : Option A) (p : Option Found) → option_map view o ≡ option_map Some p → seen view (found_or_not o) ≡ seen Some (found_or_not p)
found_same view None None is = refl
found_same view None (Some f) is = absurd (cc is)
found_same view (Some a) None is = absurd (cc is)
found_same view (Some a) (Some f) is = let same : view a ≡ Some f = cc is in ap Ok same

-- ---- going up

module _ (m : Map) (scope segments : List Seg) where
  pub search_here : (n : ℕ) (f : Found) → at_path m (take n scope ++ segments) ≡ Some f → search_up m scope segments n ≡ Some f
  unfolding search_up
  search_here zero f is = is
  search_here (suc n) f is = rw is refl

  pub search_none : (n : ℕ) → at_path m (take n scope ++ segments) ≡ None → n ≡ 0 → search_up m scope segments n ≡ None
  unfolding search_up
  search_none zero is none = is
  search_none (suc n) is none = absurd (cc none)

  pub search_next : (n : ℕ) → at_path m (take n scope ++ segments) ≡ None → n ≢ 0 → search_up m scope segments n ≡ search_up m scope segments (n - 1)
  unfolding search_up
  search_next zero is some = absurd (some refl)
  search_next (suc n) is some = let back : suc n - 1 ≡ n = omega arith in rw (is, back) refl

  -- where nothing stands further down
  pub search_ends : (n k : ℕ) → n ≤ k → ((j : ℕ) → n < j → at_path m (take j scope ++ segments) ≡ None) → search_up m scope segments k ≡ search_up m scope segments n
  search_ends n zero le none = let e : zero ≡ n = omega (arith, le) in ap (search_up m scope segments) e
  search_ends n (suc k) le none = elim (cases_lt n (suc k)) [
    | inl lt ↦ search_next (suc k) (none (suc k) lt) (λ e. cc e) ∙ ap (search_up m scope segments) (omega arith) ∙ search_ends n k (omega (arith, lt)) none
    | inr ge ↦ (let e : suc k ≡ n = omega (arith, le, ge) in ap (search_up m scope segments) e)
  ]

  whole : take (length scope) scope ≡ scope
  whole = take_all (length scope) scope (omega arith)

  pub up_here : (f : Found) → at_path m (scope ++ segments) ≡ Some f → search_up m scope segments (length scope) ≡ Some f
  up_here f is = search_here (length scope) f (ap (λ (p : List Seg). at_path m (p ++ segments)) whole ∙ is)

  pub up_end : scope ≡ [] → at_path m (scope ++ segments) ≡ None → search_up m scope segments (length scope) ≡ None
  up_end root is = search_none (length scope) (ap (λ (p : List Seg). at_path m (p ++ segments)) whole ∙ is) (ap length root)

pub up_shorter : (m : Map) (front back segments : List Seg) (n : ℕ) → n ≤ length front → search_up m (front ++ back) segments n ≡ search_up m front segments n
unfolding search_up
up_shorter m front back segments zero le = ap (λ (p : List Seg). at_path m (p ++ segments)) (take-append-le 0 front back le)
up_shorter m front back segments (suc n) le =
    let here : take (suc n) (front ++ back) ≡ take (suc n) front = take-append-le (suc n) front back le in
    let less = up_shorter m front back segments n (omega (arith, le)) in
    rw (here, less) refl

pub up_step : (m : Map) (scope front : List Seg) (s : Seg) (segments : List Seg) → scope ≡ front ++ s ∷ [] → at_path m (scope ++ segments) ≡ None → search_up m scope segments (length scope) ≡ search_up m front segments (length front)
up_step m scope front s segments ends none =
    let count : length scope ≡ length front + 1 = ap length ends ∙ length-append front (s ∷ []) in
    search_next m scope segments (length scope) (ap (λ (p : List Seg). at_path m (p ++ segments)) (take_all (length scope) scope (omega arith)) ∙ none) (λ e. absurd (omega (arith, count, e)))
    ∙ ap (search_up m scope segments) (omega (arith, count))
    ∙ ap (λ (p : List Seg). search_up m p segments (length front)) ends
    ∙ up_shorter m front (s ∷ []) segments (length front) (omega arith)

-- ---- names

module _ (m : Map) (scope : List Seg) (n : Name) where
  pub first_searched : is_searched n ≡ true → first_found m scope n ≡ found_or_not (search_up m scope n.segments (length scope))
  unfolding first_found
  first_searched is = rw is refl

  pub first_resolved : (front : List Seg) → is_searched n ≡ false → resolved n scope ≡ Ok (front ++ n.segments) → first_found m scope n ≡ found_or_not (at_path m (front ++ n.segments))
  unfolding first_found ◌>>=◌
  first_resolved front is at = rw (is, at) refl

  pub first_refused : (e : Refusal) → is_searched n ≡ false → resolved n scope ≡ Err e → first_found m scope n ≡ Err e
  unfolding first_found ◌>>=◌
  first_refused e is at = rw (is, at) refl

  pub found_through : (f : Found) → first_found m scope n ≡ Ok f → found m scope n ≡ through m f
  unfolding found ◌>>=◌
  found_through f is = rw is refl

  pub found_refused : (e : Refusal) → first_found m scope n ≡ Err e → found m scope n ≡ Err e
  unfolding found ◌>>=◌
  found_refused e is = rw is refl

  pub resolved_null : is_null n ≡ true → resolved n scope ≡ Err (refusal.Name BadName)
  unfolding resolved
  resolved_null is = rw is refl

  pub resolved_root : is_null n ≡ false → Root ≡ n.prefix → resolved n scope ≡ Ok n.segments
  unfolding resolved
  resolved_root is root = rw (is, ← root) refl

  pub resolved_past : (count : ℕ) → is_null n ≡ false → Parents count ≡ n.prefix → length scope < count → resolved n scope ≡ Err (refusal.Name AboveRoot)
  unfolding resolved
  resolved_past count is parents past = let test : nat_lt (length scope) count ≡ true = grind (arith, nat_tests) in rw (is, ← parents, test) refl

  pub resolved_up : (count : ℕ) → is_null n ≡ false → Parents count ≡ n.prefix → count ≤ length scope → resolved n scope ≡ Ok (take (length scope - count) scope ++ n.segments)
  unfolding resolved
  resolved_up count is parents within = let test : nat_lt (length scope) count ≡ false = grind (arith, nat_tests) in rw (is, ← parents, test) refl

pub from_is : (m : Map) (number : ℕ) (n : Name) (f : Found) → numbered number m ≡ Some f → found_from m number n ≡ found m f.0 n
from_is m number n f is = ap (λ (o : Option Found). found_in m o n) is

-- ---- aliases

module _ (m : Map) (f : Found) where
  itself : (o : NamedObject) → None ≡ aliased o → by_object m f o ≡ Ok f
  itself (object.Alias t) is = absurd (cc is)
  itself o is = refl

  pub through_itself : None ≡ aliased f.1.object → through m f ≡ Ok f
  unfolding through
  through_itself is = itself f.1.object is

  leads : (o : NamedObject) (t : List Seg) → Some t ≡ aliased o → by_object m f o ≡ target_of (at_path m t)
  leads (object.Alias p) t is = let same : t ≡ p = cc is in ap (λ (q : List Seg). target_of (at_path m q)) (sym same)
  leads o t is = absurd (cc is)

  pub through_alias : (t : List Seg) → Some t ≡ aliased f.1.object → through m f ≡ target_of (at_path m t)
  unfolding through
  through_alias t is = leads f.1.object t is

plain : (f : Found) (o : NamedObject) → None ≡ aliased o → no_alias f o ≡ Ok f
plain f (object.Alias t) is = absurd (cc is)
plain f o is = refl

pub target_plain : (o : Option Found) (f : Found) → o ≡ Some f → None ≡ aliased f.1.object → target_of o ≡ Ok f
target_plain o f is at = ap target_of is ∙ plain f f.1.object at

double : (f : Found) (o : NamedObject) (t : List Seg) → Some t ≡ aliased o → no_alias f o ≡ Err (refusal.Namespace NotFound)
double f (object.Alias p) t is = refl
double f o t is = absurd (cc is)

pub target_alias : (o : Option Found) (f : Found) (t : List Seg) → o ≡ Some f → Some t ≡ aliased f.1.object → target_of o ≡ Err (refusal.Namespace NotFound)
target_alias o f t is at = ap target_of is ∙ double f f.1.object t at

-- what is found at a path has that path
placed : (p : List Seg) (o : Option Entry) (f : Found) → option_map (λ e. (p, e)) o ≡ Some f → f.0 ≡ p
placed p None f is = absurd (cc is)
placed p (Some e) f is = let same : (p, e) ≡ f = cc is in sym (ap (λ (x : Found). x.0) same)

pub found_there : (m : Map) (p : List Seg) (f : Found) → at_path m p ≡ Some f → f.0 ≡ p
found_there m p f is = placed p _ f is
