-- Why names are refused where they are resolved.
use Rattle.std.proofs.Common.{◌≡◌, ℕ, ◌≤◌, List, length, Bool, true, false, Ok, Err, refl, ap, arith}
use Rattle.std.specs.Prelude.{◌==◌, ◌&&◌, nat_lt, if◌then◌else◌}
use Rattle.ar_space.specs.declared.refusal.Refusal.{Refusal}
use Rattle.ar_space.specs.declared.refusal.Refusal.TheVariants as refusals
use Rattle.ar_space.specs.declared.refusal.NameFault.TheVariants.{BadName, AboveRoot}
use Rattle.ar_space.specs.declared.refusal.TermFault.TheVariants.{NotInBody}
use Rattle.ar_space.specs.Outcome.{Outcome, ◌>>=◌}
use Rattle.aml_path.specs.declared.segment.Seg.{Seg}
use Rattle.aml_path.specs.declared.name.Prefix.{Prefix}
use Rattle.aml_path.specs.declared.name.Prefix.TheVariants.{Root, Parents}
use Rattle.aml_path.specs.Paths.{Name, is_null, from_prefix, resolved}
use Rattle.aml_grammar.specs.declared.context.Context.{Context}
use Rattle.aml_grammar.specs.DeclaredNames.{begins_outside, allowed, allowed_path, declared_path}
use Rattle.aml_grammar.specs.State.{State}
use Rattle.aml_spelling.specs.Reach.{reach, Placed}

-- ---- names that are resolved

-- a name is refused for itself, or since it may not stand in a body
abbrev pub OfName : Refusal → Type 0
OfName r = (s : State) → (s.at ≤ reach r s) × Placed r s

of_bad : OfName (refusals.Name BadName)
of_bad s = (omega arith, tt)

of_above : OfName (refusals.Name AboveRoot)
of_above s = (omega arith, tt)

of_body : (start : ℕ) → OfName (refusals.Term NotInBody start)
of_body start s = (omega arith, tt)

not_above : {A : Type 0} (c : Bool) (x : A) (r : Refusal) → (if c then Err (refusals.Name AboveRoot) else Ok x) ≡ Err r → OfName r
not_above true x r e = let f : refusals.Name AboveRoot ≡ r = cc e in rw (← f) of_above
not_above false x r e = absurd (cc e)

not_from : (prefix : Prefix) (segments scope : List Seg) (r : Refusal) → from_prefix prefix segments scope ≡ Err r → OfName r
not_from Root segments scope r e = absurd (cc e)
not_from (Parents count) segments scope r e = not_above (nat_lt (length scope) count) _ r e

not_null : (c : Bool) (x : Outcome (List Seg)) (r : Refusal) → ((q : Refusal) → x ≡ Err q → OfName q) → (if c then Err (refusals.Name BadName) else x) ≡ Err r → OfName r
not_null true x r h e = let f : refusals.Name BadName ≡ r = cc e in rw (← f) of_bad
not_null false x r h e = h r e

pub not_resolved : (n : Name) (scope : List Seg) (r : Refusal) → resolved n scope ≡ Err r → OfName r
unfolding resolved
not_resolved n scope r e = not_null (is_null n) (from_prefix n.prefix n.segments scope) r (not_from n.prefix n.segments scope) e

not_allowed_if : (c : Bool) (start : ℕ) (path : List Seg) (r : Refusal) → (if c then Err (refusals.Term NotInBody start) else Ok path) ≡ Err r → OfName r
not_allowed_if true start path r e = let f : refusals.Term NotInBody start ≡ r = cc e in rw (← f) (of_body start)
not_allowed_if false start path r e = absurd (cc e)

not_allowed : (context : Context) (start : ℕ) (n : Name) (x : Outcome (List Seg)) (r : Refusal) → ((q : Refusal) → x ≡ Err q → OfName q) → (x >>= (λ path. allowed context start n path)) ≡ Err r → OfName r
unfolding ◌>>=◌
not_allowed context start n (Ok path) r h e = not_allowed_if (context.body && begins_outside n) start path r e
not_allowed context start n (Err q) r h e = let f : q ≡ r = cc e in h r (ap (λ x. Err x) f)

not_allowed_path : (scope : List Seg) (context : Context) (start : ℕ) (n : Name) (r : Refusal) → allowed_path scope context start n ≡ Err r → OfName r
unfolding allowed_path
not_allowed_path scope context start n r e = not_allowed context start n (resolved n scope) r (not_resolved n scope) e

pub not_declared : (scope : List Seg) (context : Context) (start : ℕ) (n : Name) (r : Refusal) → declared_path scope context start n ≡ Err r → OfName r
unfolding declared_path
not_declared scope context start n r e = not_null (length n.segments == 0) (allowed_path scope context start n) r (not_allowed_path scope context start n) e

-- a name that may be declared stands for its path
pub declared_is : (scope : List Seg) (context : Context) (start : ℕ) (n : Name) (path : List Seg) → (length n.segments == 0) ≡ false → resolved n scope ≡ Ok path → (context.body && begins_outside n) ≡ false → declared_path scope context start n ≡ Ok path
unfolding declared_path allowed_path ◌>>=◌
declared_is scope context start n path some res here = rw (some, res, here) refl

-- ---- what holds of a name that is declared

none_or_value : {A : Type 0} (c : Bool) (x : Outcome A) (r : Refusal) (a : A) → (if c then Err r else x) ≡ Ok a → (c ≡ false) × (x ≡ Ok a)
none_or_value true x r a e = absurd (cc e)
none_or_value false x r a e = (refl, e)

allowed_value : (c : Bool) (path other : List Seg) (r : Refusal) → (if c then Err r else Ok other) ≡ Ok path → (c ≡ false) × (other ≡ path)
allowed_value true path other r e = absurd (cc e)
allowed_value false path other r e = (refl, cc e)

allowed_after : (context : Context) (start : ℕ) (n : Name) (x : Outcome (List Seg)) (path : List Seg) → (x >>= (λ p. allowed context start n p)) ≡ Ok path → (x ≡ Ok path) × ((context.body && begins_outside n) ≡ false)
unfolding ◌>>=◌
allowed_after context start n (Ok other) path e =
    let k = allowed_value (context.body && begins_outside n) path other (refusals.Term NotInBody start) e in
    (ap (λ p. Ok p) k.1, k.0)
allowed_after context start n (Err r) path e = absurd (cc e)

pub declared_was : (scope : List Seg) (context : Context) (start : ℕ) (n : Name) (path : List Seg) → declared_path scope context start n ≡ Ok path → ((length n.segments == 0) ≡ false) × (resolved n scope ≡ Ok path) × ((context.body && begins_outside n) ≡ false)
unfolding declared_path allowed_path
declared_was scope context start n path e =
    let k = none_or_value (length n.segments == 0) _ (refusals.Name BadName) path e in
    let l = allowed_after context start n (resolved n scope) path k.1 in
    (k.0, l.0, l.1)
