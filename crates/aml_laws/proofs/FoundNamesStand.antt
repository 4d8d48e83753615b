-- What a name finds stands at the path where it is found; so what is called is a control method that stands.
use Rattle.std.specs.Prelude.{◌≡◌, ℕ, zero, suc, List, length, Bool, true, false, Option, Some, None, Ok, Err, refl, if◌then◌else◌}
use Rattle.std.specs.Option.{option_map}
use Rattle.std.proofs.Common.{subst}
use Rattle.std.specs.FinMap.{get}
use Rattle.ar_space.specs.Outcome.{Outcome, ◌>>=◌}
use Rattle.aml_path.specs.declared.segment.Seg.{Seg}
use Rattle.aml_path.specs.Paths.{Name, resolved, is_searched}
use Rattle.aml_objects.specs.declared.entry.Entry.{Entry}
use Rattle.aml_objects.specs.declared.entry.NamedObject.{NamedObject}
use Rattle.aml_objects.specs.declared.entry.NamedObject.TheVariants as object
use Rattle.aml_objects.specs.declared.entry.MethodBody.{MethodBody}
use Rattle.aml_objects.specs.declared.entry.MethodBody.TheVariants.{Osi, Aml}
use Rattle.aml_namespace.specs.Namespace.{Map}
use Rattle.aml_namespace.specs.Search.{Found, at_path, or_else, search_up, found_or_not, first_found, no_alias, target_of, by_object, through, found}
use Rattle.aml_world.specs.declared.state.invocation.Invocation.TheVariants as invocation
use Rattle.aml_world.specs.state.Invocations.{invocation_of_body, invocation_of_object, invocation_of}
use Rattle.aml_laws.specs.Outside.{is_method}

-- ---- what is found stands

pub record FoundStands (m : Map) (f : Found) : Type 0 where
  pub there : get m f.0 ≡ Some f.1

at_path_by_cases : (m : Map) (p : List Seg) (o : Option Entry) (f : Found) → get m p ≡ o → option_map (λ e. (p, e)) o ≡ Some f → FoundStands m f
at_path_by_cases m p None f is e = absurd (cc e)
at_path_by_cases m p (Some x) f is e = subst (FoundStands m) (cc e) (record { there = is })

at_path_stands : (m : Map) (p : List Seg) (f : Found) → at_path m p ≡ Some f → FoundStands m f
at_path_stands m p f e = at_path_by_cases m p (get m p) f refl e

or_else_stands : (m : Map) (o r : Option Found) (f : Found) → (o ≡ Some f → FoundStands m f) → (r ≡ Some f → FoundStands m f) → or_else o r ≡ Some f → FoundStands m f
or_else_stands m None r f h i e = i e
or_else_stands m (Some x) r f h i e = h e

search_up_stands : (m : Map) (scope segments : List Seg) (n : ℕ) (f : Found) → search_up m scope segments n ≡ Some f → FoundStands m f
unfolding search_up
search_up_stands m scope segments zero f e = at_path_stands m _ f e
search_up_stands m scope segments (suc n) f e = or_else_stands m _ _ f (at_path_stands m _ f) (search_up_stands m scope segments n f) e

found_or_not_stands : (m : Map) (o : Option Found) (f : Found) → (o ≡ Some f → FoundStands m f) → found_or_not o ≡ Ok f → FoundStands m f
found_or_not_stands m None f h e = absurd (cc e)
found_or_not_stands m (Some x) f h e = h (cc e)

resolved_stands : (m : Map) (r : Outcome (List Seg)) (f : Found) → (r >>= (λ p. found_or_not (at_path m p))) ≡ Ok f → FoundStands m f
unfolding ◌>>=◌
resolved_stands m (Ok p) f e = found_or_not_stands m (at_path m p) f (at_path_stands m p f) e
resolved_stands m (Err x) f e = absurd (cc e)

first_found_by_cases : (m : Map) (scope : List Seg) (n : Name) (b : Bool) (f : Found) → (if b then found_or_not (search_up m scope n.segments (length scope)) else (resolved n scope >>= (λ p. found_or_not (at_path m p)))) ≡ Ok f → FoundStands m f
first_found_by_cases m scope n true f e = found_or_not_stands m _ f (search_up_stands m scope n.segments (length scope) f) e
first_found_by_cases m scope n false f e = resolved_stands m (resolved n scope) f e

first_found_stands : (m : Map) (scope : List Seg) (n : Name) (f : Found) → first_found m scope n ≡ Ok f → FoundStands m f
unfolding first_found
first_found_stands m scope n f e = first_found_by_cases m scope n (is_searched n) f e

no_alias_same : (f g : Found) (o : NamedObject) → no_alias f o ≡ Ok g → f ≡ g
no_alias_same f g (object.Alias t) e = absurd (cc e)
no_alias_same f g _ e = cc e

target_of_stands : (m : Map) (o : Option Found) (g : Found) → ((f : Found) → o ≡ Some f → FoundStands m f) → target_of o ≡ Ok g → FoundStands m g
target_of_stands m None g h e = absurd (cc e)
target_of_stands m (Some f) g h e = subst (FoundStands m) (no_alias_same f g f.1.object e) (h f refl)

by_object_stands : (m : Map) (f g : Found) (o : NamedObject) → FoundStands m f → by_object m f o ≡ Ok g → FoundStands m g
by_object_stands m f g (object.Alias t) h e = target_of_stands m (at_path m t) g (at_path_stands m t) e
by_object_stands m f g _ h e = subst (FoundStands m) (cc e) h

found_by_cases : (m : Map) (r : Outcome Found) (g : Found) → ((f : Found) → r ≡ Ok f → FoundStands m f) → (r >>= through m) ≡ Ok g → FoundStands m g
unfolding ◌>>=◌ through
found_by_cases m (Ok f) g h e = by_object_stands m f g f.1.object (h f refl) e
found_by_cases m (Err x) g h e = absurd (cc e)

pub found_stands : (m : Map) (scope : List Seg) (n : Name) (f : Found) → found m scope n ≡ Ok f → FoundStands m f
unfolding found
found_stands m scope n f e = found_by_cases m (first_found m scope n) f (first_found_stands m scope n) e

-- ---- what is called is a control method

record CallsMethod (p q : List Seg) (o : NamedObject) : Type 0 where
  at : p ≡ q
  method : is_method o ≡ true

invocation_of_body_path : (p q : List Seg) (b : MethodBody) (body : List ℕ) → invocation_of_body p b ≡ Ok (invocation.Method q body) → p ≡ q
invocation_of_body_path p q Osi body e = absurd (cc e)
invocation_of_body_path p q (Aml place) body e = cc e

invocation_of_object_method : (p q : List Seg) (n : ℕ) (o : NamedObject) (body : List ℕ) → invocation_of_object p n o ≡ Ok (invocation.Method q body) → CallsMethod p q o
invocation_of_object_method p q n (object.Method m) body e = record { at = invocation_of_body_path p q m.body body e; method = refl }
invocation_of_object_method p q n _ body e = absurd (cc e)

-- a control method stands at a path
pub record MethodStandsAt (m : Map) (q : List Seg) : Type 0 where
  pub entry : Entry
  pub there : get m q ≡ Some entry
  pub method : is_method entry.object ≡ true

invocation_of_stands : (m : Map) (r : Outcome Found) (q : List Seg) (body : List ℕ) → ((f : Found) → r ≡ Ok f → FoundStands m f) → invocation_of r ≡ Ok (invocation.Method q body) → MethodStandsAt m q
invocation_of_stands m (Err x) q body i e = absurd (cc e)
invocation_of_stands m (Ok f) q body i e =
    let c = invocation_of_object_method f.0 q f.1.number f.1.object body e in
    subst (MethodStandsAt m) c.at (record { entry = f.1; there = (i f refl).there; method = c.method })

pub called_method_stands : (m : Map) (scope : List Seg) (n : Name) (q : List Seg) (body : List ℕ) → invocation_of (found m scope n) ≡ Ok (invocation.Method q body) → MethodStandsAt m q
called_method_stands m scope n q body e = invocation_of_stands m (found m scope n) q body (found_stands m scope n) e
