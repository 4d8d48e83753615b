-- What a name finds: the nearest where it is searched for, else what stands at its one path; an alias in one step.
use Rattle.std.specs.Prelude.{◌≡◌, ◌⊎◌, ◌≤◌, ◌<◌, ℕ, zero, suc, Bool, true, false, if◌then◌else◌, List, ◌++◌, length, take, Option, Some, None, Ok, Err, refl}
use Rattle.std.proofs.Common.{arith, inl, inr, ap, ◌∙◌}
use Rattle.std.proofs.lemmas.Bool.{cases_lt}
use Rattle.std.specs.Option.{option_map}
use Rattle.std.specs.FinMap.{get}
use Rattle.ar_space.specs.declared.refusal.Refusal.{Refusal}
use Rattle.ar_space.specs.declared.refusal.Refusal.TheVariants as refusal
use Rattle.ar_space.specs.declared.refusal.NamespaceFault.TheVariants.{NotFound}
use Rattle.ar_space.specs.Outcome.{Outcome, ◌>>=◌}
use Rattle.aml_path.specs.declared.segment.Seg.{Seg}
use Rattle.aml_path.specs.Paths.{Name, resolved, is_searched}
use Rattle.aml_objects.specs.declared.entry.Entry.{Entry}
use Rattle.aml_objects.specs.declared.entry.NamedObject.{NamedObject}
use Rattle.aml_objects.specs.declared.entry.NamedObject.TheVariants as object
use Rattle.aml_namespace.specs.Namespace.{Map}
use Rattle.aml_namespace.specs.Search.{Found, at_path, or_else, search_up, found_or_not, first_found, no_alias, target_of, by_object, through, found}
use Rattle.aml_laws.specs.NamesFound.{alias_path, IsNearest, StandsNowhere, LeadsTo, itself, target, nothing, chain}

-- ---- an alias in one step

stands_for_itself : (m : Map) (f : Found) (o : NamedObject) → alias_path o ≡ None → by_object m f o ≡ Ok f
stands_for_itself m f (object.Alias t) e = absurd (cc e)
stands_for_itself m f object.Scope e = refl
stands_for_itself m f object.Device e = refl
stands_for_itself m f object.Processor e = refl
stands_for_itself m f object.PowerResource e = refl
stands_for_itself m f object.ThermalZone e = refl
stands_for_itself m f (object.Method x) e = refl
stands_for_itself m f (object.Data v) e = refl
stands_for_itself m f (object.OperationRegion r) e = refl
stands_for_itself m f (object.FieldUnit u) e = refl
stands_for_itself m f (object.BufferField b) e = refl
stands_for_itself m f (object.Mutex n) e = refl
stands_for_itself m f (object.Event n) e = refl

is_no_alias : (f : Found) (o : NamedObject) → alias_path o ≡ None → no_alias f o ≡ Ok f
is_no_alias f (object.Alias t) e = absurd (cc e)
is_no_alias f object.Scope e = refl
is_no_alias f object.Device e = refl
is_no_alias f object.Processor e = refl
is_no_alias f object.PowerResource e = refl
is_no_alias f object.ThermalZone e = refl
is_no_alias f (object.Method x) e = refl
is_no_alias f (object.Data v) e = refl
is_no_alias f (object.OperationRegion r) e = refl
is_no_alias f (object.FieldUnit u) e = refl
is_no_alias f (object.BufferField b) e = refl
is_no_alias f (object.Mutex n) e = refl
is_no_alias f (object.Event n) e = refl

-- an alias is one
is_alias : (o : NamedObject) (t : List Seg) → alias_path o ≡ Some t → o ≡ object.Alias t
is_alias (object.Alias u) t e = ap object.Alias (cc e)
is_alias object.Scope t e = absurd (cc e)
is_alias object.Device t e = absurd (cc e)
is_alias object.Processor t e = absurd (cc e)
is_alias object.PowerResource t e = absurd (cc e)
is_alias object.ThermalZone t e = absurd (cc e)
is_alias (object.Method x) t e = absurd (cc e)
is_alias (object.Data v) t e = absurd (cc e)
is_alias (object.OperationRegion r) t e = absurd (cc e)
is_alias (object.FieldUnit u) t e = absurd (cc e)
is_alias (object.BufferField b) t e = absurd (cc e)
is_alias (object.Mutex n) t e = absurd (cc e)
is_alias (object.Event n) t e = absurd (cc e)

at_target : (m : Map) (at : List Seg) (o : Option Entry) → get m at ≡ o → target_of (at_path m at) ≡ target_of (option_map (λ e. (at, e)) o)
at_target m at o e = ap (λ x. target_of (option_map (λ e. (at, e)) x)) e

leads : (m : Map) (path : List Seg) (entry : Entry) (r : Outcome Found) → LeadsTo m path entry r → by_object m (path, entry) entry.object ≡ r
leads m path entry r (itself apart) = stands_for_itself m (path, entry) entry.object apart
leads m path entry r (target at other is stands apart) = ap (by_object m (path, entry)) (is_alias entry.object at is) ∙ at_target m at (Some other) stands ∙ is_no_alias (at, other) other.object apart
leads m path entry r (nothing at is stands) = ap (by_object m (path, entry)) (is_alias entry.object at is) ∙ at_target m at None stands
leads m path entry r (chain at next other is stands again) = ap (by_object m (path, entry)) (is_alias entry.object at is) ∙ at_target m at (Some other) stands ∙ ap (no_alias (at, other)) (is_alias other.object next again)

-- ---- a name that is searched for

here : (m : Map) (p : List Seg) (e : Entry) → get m p ≡ Some e → at_path m p ≡ Some (p, e)
here m p e is = ap (λ o. option_map (λ e. (p, e)) o) is

not_here : (m : Map) (p : List Seg) → get m p ≡ None → at_path m p ≡ None
not_here m p is = ap (λ o. option_map (λ e. (p, e)) o) is

up_place : (m : Map) (scope segments : List Seg) (k : ℕ) (entry : Entry) (n : ℕ) → k ≤ suc n → get m (take k scope ++ segments) ≡ Some entry → ((j : ℕ) → k < j → j ≤ suc n → get m (take j scope ++ segments) ≡ None)
    → (k ≤ n → search_up m scope segments n ≡ Some (take k scope ++ segments, entry)) → (k < suc n) ⊎ (suc n ≤ k)
    → or_else (at_path m (take (suc n) scope ++ segments)) (search_up m scope segments n) ≡ Some (take k scope ++ segments, entry)
up_place m scope segments k entry n le is none further (inl less) = ap (λ o. or_else o (search_up m scope segments n)) (not_here m (take (suc n) scope ++ segments) (none (suc n) less (omega arith))) ∙ further (omega arith)
up_place m scope segments k entry n le is none further (inr top) =
    let same : suc n ≡ k = omega arith in
    ap (λ o. or_else o (search_up m scope segments n)) (here m (take (suc n) scope ++ segments) entry (ap (λ i. get m (take i scope ++ segments)) same ∙ is))
    ∙ ap (λ i. Some (take i scope ++ segments, entry)) same

up_to : (m : Map) (scope segments : List Seg) (k : ℕ) (entry : Entry) (n : ℕ) → k ≤ n → get m (take k scope ++ segments) ≡ Some entry → ((j : ℕ) → k < j → j ≤ n → get m (take j scope ++ segments) ≡ None)
    → search_up m scope segments n ≡ Some (take k scope ++ segments, entry)
unfolding search_up
up_to m scope segments zero entry zero le is none = here m (take zero scope ++ segments) entry is
up_to m scope segments (suc k) entry zero le is none = absurd (omega arith)
up_to m scope segments k entry (suc n) le is none = up_place m scope segments k entry n le is none (λ within. up_to m scope segments k entry n within is (λ j h i. none j h (omega arith))) (cases_lt k (suc n))

nowhere_up : (m : Map) (scope segments : List Seg) (n : ℕ) → ((j : ℕ) → j ≤ n → get m (take j scope ++ segments) ≡ None) → search_up m scope segments n ≡ None
unfolding search_up
nowhere_up m scope segments zero none = not_here m (take zero scope ++ segments) (none zero (omega arith))
nowhere_up m scope segments (suc n) none = ap (λ o. or_else o (search_up m scope segments n)) (not_here m (take (suc n) scope ++ segments) (none (suc n) (omega arith))) ∙ nowhere_up m scope segments n (λ j le. none j (omega arith))

first_or_else : (m : Map) (scope : List Seg) (n : Name) (b : Bool) → is_searched n ≡ b → first_found m scope n ≡ (if b then found_or_not (search_up m scope n.segments (length scope)) else (resolved n scope >>= (λ p. found_or_not (at_path m p))))
unfolding first_found
first_or_else m scope n b is = ap (λ c. if c then found_or_not (search_up m scope n.segments (length scope)) else (resolved n scope >>= (λ p. found_or_not (at_path m p)))) is

found_by : (m : Map) (scope : List Seg) (n : Name) (x : Outcome Found) → first_found m scope n ≡ x → found m scope n ≡ (x >>= through m)
unfolding found
found_by m scope n x e = ap (λ y. y >>= through m) e

goes_through : (m : Map) (path : List Seg) (entry : Entry) (r : Outcome Found) → LeadsTo m path entry r → (Ok (path, entry) >>= through m) ≡ r
unfolding through ◌>>=◌
goes_through m path entry r h = leads m path entry r h

stays_refused : (m : Map) (e : Refusal) → (Err e >>= through m) ≡ Err e
unfolding ◌>>=◌
stays_refused m e = refl

pub nearest_found : (m : Map) (scope : List Seg) (n : Name) (k : ℕ) (entry : Entry) (r : Outcome Found) → is_searched n ≡ true → IsNearest m scope n.segments k entry → LeadsTo m (take k scope ++ n.segments) entry r → found m scope n ≡ r
nearest_found m scope n k entry r is near h =
    found_by m scope n (Ok (take k scope ++ n.segments, entry)) (first_or_else m scope n true is ∙ ap found_or_not (up_to m scope n.segments k entry (length scope) near.within near.stands near.none_nearer))
    ∙ goes_through m (take k scope ++ n.segments) entry r h

pub nowhere_found : (m : Map) (scope : List Seg) (n : Name) → is_searched n ≡ true → StandsNowhere m scope n.segments → found m scope n ≡ Err (refusal.Namespace NotFound)
nowhere_found m scope n is none =
    found_by m scope n (Err (refusal.Namespace NotFound)) (first_or_else m scope n true is ∙ ap found_or_not (nowhere_up m scope n.segments (length scope) none))
    ∙ stays_refused m (refusal.Namespace NotFound)

-- ---- any other name

resolved_first : (m : Map) (scope : List Seg) (n : Name) (x : Outcome (List Seg)) → is_searched n ≡ false → resolved n scope ≡ x → first_found m scope n ≡ (x >>= (λ p. found_or_not (at_path m p)))
resolved_first m scope n x is at = first_or_else m scope n false is ∙ ap (λ y. y >>= (λ p. found_or_not (at_path m p))) at

pub one_path_found : (m : Map) (scope : List Seg) (n : Name) (path : List Seg) (entry : Entry) (r : Outcome Found) → is_searched n ≡ false → resolved n scope ≡ Ok path → get m path ≡ Some entry → LeadsTo m path entry r → found m scope n ≡ r
unfolding ◌>>=◌
one_path_found m scope n path entry r is at stands h =
    found_by m scope n (Ok (path, entry)) (resolved_first m scope n (Ok path) is at ∙ ap found_or_not (here m path entry stands)) ∙ goes_through m path entry r h

pub one_path_empty : (m : Map) (scope : List Seg) (n : Name) (path : List Seg) → is_searched n ≡ false → resolved n scope ≡ Ok path → get m path ≡ None → found m scope n ≡ Err (refusal.Namespace NotFound)
unfolding ◌>>=◌
one_path_empty m scope n path is at none =
    found_by m scope n (Err (refusal.Namespace NotFound)) (resolved_first m scope n (Ok path) is at ∙ ap found_or_not (not_here m path none)) ∙ stays_refused m (refusal.Namespace NotFound)

pub no_path : (m : Map) (scope : List Seg) (n : Name) (e : Refusal) → is_searched n ≡ false → resolved n scope ≡ Err e → found m scope n ≡ Err e
unfolding ◌>>=◌
no_path m scope n e is at = found_by m scope n (Err e) (resolved_first m scope n (Err e) is at) ∙ stays_refused m e
