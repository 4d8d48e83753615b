-- A name that is resolved or declared has at most one fault, and reading it refuses that one.
use Rattle.std.proofs.Common.{◌≡◌, ◌≢◌, ℕ, List, [], ◌∷◌, length, Bool, true, false, Ok, Err, refl, subst, ◌∙◌, sym, ap, ◌⊎◌, inl, inr}
use Rattle.std.specs.Prelude.{◌==◌, ◌&&◌, ◌↔◌}
use Rattle.ar_space.specs.Change.{settle, ◌>>=◌}
use Rattle.ar_space.specs.Outcome.{Outcome}
use Rattle.ar_space.specs.declared.refusal.Refusal.{Refusal}
use Rattle.ar_space.specs.declared.refusal.Refusal.TheVariants as refusals
use Rattle.ar_space.specs.declared.refusal.NameFault.TheVariants.{BadName, AboveRoot}
use Rattle.ar_space.specs.declared.refusal.TermFault.TheVariants.{NotInBody}
use Rattle.aml_path.specs.declared.segment.Seg.{Seg}
use Rattle.aml_path.specs.Paths.{Name, is_null, resolved}
use Rattle.aml_grammar.specs.declared.context.Context.{Context}
use Rattle.aml_grammar.specs.declared.context.Earlier.{Earlier}
use Rattle.aml_grammar.specs.DeclaredNames.{begins_outside, declared_path}
use Rattle.aml_grammar.specs.State.{State, Step}
use Rattle.aml_grammar.specs.Names.{name_string}
use Rattle.aml_grammar.specs.Operands.{scope_name, alias_source, external_name, declared_name}
use Rattle.aml_scan.proofs.Takes.{same_value, refused, both}
use Rattle.aml_spelling.specs.Faults.{Spot, Wrong, IsName, NameAt, LeadsOut, AtPart, AtResolved, AtDeclared}
use Rattle.aml_spelling.proofs.FaultNames.{not_out}
use Rattle.aml_spelling.proofs.FaultNameStrings.{names_apart}
use Rattle.aml_spelling.proofs.FaultOnce.{part_once, whole_no_fault}
use Rattle.aml_spelling.proofs.FaultOperands.{name_at, halts_scope_name, halts_alias_source, halts_external_name, halts_declared_name}
use Rattle.aml_spelling.proofs.FaultParts.{StandsAt}
use Rattle.aml_spelling.proofs.FaultSorts.{Whole, whole_not_wrong}
use Rattle.aml_spelling.proofs.GetsNames.{gets_name}
use Rattle.aml_spelling.proofs.Halts.{Halts}
use Rattle.aml_spelling.proofs.NameRefusals.{declared_was}

-- ---- a step that refuses the faults of a kind, and gives no value where one stands

module _ {A : Type 0} (m : Step A) (s : State) (F : Refusal → Type 0) (halts : Halts m s F) (gave : (a : A) (s2 : State) → m s ≡ (Ok a, s2) → (r : Refusal) → F r → ⊥) (once : (r q : Refusal) → F r → F q → r ≡ q) where
  is_refused : (p : Outcome A × State) → m s ≡ p → (r : Refusal) → F r → (m s).0 ≡ Err r
  is_refused (Ok a, s2) e r h = absurd (gave a s2 e r h)
  is_refused (Err q, s2) e r h = ap (λ (x : Outcome A × State). x.0) e ∙ ap (λ (x : Refusal). Err x) (once q r (halts.is q s2 e) h)

  pub exactly : (r : Refusal) → ((m s).0 ≡ Err r) ↔ F r
  exactly r = (λ e. halts.is r (m s).1 (ap (λ (o : Outcome A). (o, (m s).1)) e), λ h. is_refused (m s) refl r h)

-- ---- one name stands at a place

whole_name : (spot : Spot) (n : Name) → NameAt spot n → Whole IsName spot.rest
whole_name spot n h = (h.0, h.1, h.2, (n, h.3))

one_name : (spot : Spot) (n m : Name) → NameAt spot n → NameAt spot m → n ≡ m
one_name spot n m h i =
    let s : State = record { at = 0; rest = spot.rest; arities = []; marks = [] } in
    let p = gets_name {s = s} n h.0 h.3 h.2 refl in
    let q = gets_name {s = s} m i.0 i.3 i.2 refl in
    same_value (sym p.is ∙ q.is)

no_part : (spot : Spot) (n : Name) (r : Refusal) → NameAt spot n → AtPart IsName spot r → ⊥
no_part spot n r h = whole_no_fault IsName names_apart spot r (whole_name spot n h)

-- ---- names that are resolved

resolved_once : (spot : Spot) (r q : Refusal) → AtResolved spot r → AtResolved spot q → r ≡ q
resolved_once spot (refusals.Name AboveRoot) (refusals.Name AboveRoot) h i = refl
resolved_once spot (refusals.Name AboveRoot) q h i = absurd (no_part spot h.0 q h.1 i)
resolved_once spot r (refusals.Name AboveRoot) h i = absurd (no_part spot i.0 r i.1 h)
resolved_once spot r q h i = part_once IsName spot r q h i

resolved_whole : (spot : Spot) (n : Name) (path : List Seg) (r : Refusal) → NameAt spot n → is_null n ≡ false → resolved n spot.scope ≡ Ok path → AtResolved spot r → ⊥
resolved_whole spot n path (refusals.Name AboveRoot) there some res h = not_out n spot.scope path some res (subst (λ (m : Name). LeadsOut m spot.scope) (one_name spot h.0 n h.1 there) h.2)
resolved_whole spot n path r there some res h = no_part spot n r there h

settled_was : {A B : Type 0} (x : Outcome A) (k : A → Step B) (s : State) (b : B) (s2 : State) → (settle x >>= k) s ≡ (Ok b, s2) → (a : A) × (x ≡ Ok a)
unfolding settle
settled_was (Ok a) k s b s2 e = (a, refl)
settled_was (Err r) k s b s2 e = let p = both (settle (Err r)) k s b s2 e in absurd (refused p.2)

resolved_gave : {B : Type 0} (s : State) (spot : Spot) (k : Name → List Seg → Step B) → StandsAt s spot → (b : B) (s2 : State) → (name_string >>= (λ n. settle (resolved n spot.scope) >>= k n)) s ≡ (Ok b, s2) → (r : Refusal) → AtResolved spot r → ⊥
resolved_gave s spot k here b s2 e r h =
    let p = both name_string (λ n. settle (resolved n spot.scope) >>= k n) s b s2 e in
    let t = name_at s p.1 spot p.0 here p.2 in
    let x = settled_was (resolved p.0 spot.scope) (k p.0) p.1 b s2 p.3 in
    resolved_whole spot p.0 x.0 r t.0 t.1 x.1 h

module _ (s : State) (spot : Spot) (here : StandsAt s spot) (earlier : Earlier) (r : Refusal) where
  pub scope_exactly : ((scope_name spot.scope earlier s).0 ≡ Err r) ↔ AtResolved spot r
  unfolding scope_name
  scope_exactly = exactly (scope_name spot.scope earlier) s (λ q. AtResolved spot q) (halts_scope_name s spot here earlier) (resolved_gave s spot _ here) (resolved_once spot) r

  pub alias_exactly : ((alias_source spot.scope earlier s).0 ≡ Err r) ↔ AtResolved spot r
  unfolding alias_source
  alias_exactly = exactly (alias_source spot.scope earlier) s (λ q. AtResolved spot q) (halts_alias_source s spot here earlier) (resolved_gave s spot _ here) (resolved_once spot) r

  pub external_exactly : ((external_name spot.scope earlier s).0 ≡ Err r) ↔ AtResolved spot r
  unfolding external_name
  external_exactly = exactly (external_name spot.scope earlier) s (λ q. AtResolved spot q) (halts_external_name s spot here earlier) (resolved_gave s spot _ here) (resolved_once spot) r

-- ---- names that are declared

no_wrong : (spot : Spot) (n : Name) → NameAt spot n → Wrong IsName spot.rest → ⊥
no_wrong spot n h = whole_not_wrong IsName names_apart spot.rest (whole_name spot n h)

-- no segment: the name itself is at fault
abbrev Bare : Spot → Type 0
Bare spot = Wrong IsName spot.rest ⊎ ((n : Name) × NameAt spot n × (n.segments ≡ []))

bare_not : (spot : Spot) (n : Name) → NameAt spot n → n.segments ≢ [] → Bare spot → ⊥
bare_not spot n there some (inl w) = no_wrong spot n there w
bare_not spot n there some (inr h) = some (ap (λ (m : Name). m.segments) (one_name spot n h.0 there h.1) ∙ h.2)

bare_part : (spot : Spot) (r : Refusal) → Bare spot → AtPart IsName spot r → r ≡ refusals.Name BadName
bare_part spot r (inl w) h = part_once IsName spot r (refusals.Name BadName) h w
bare_part spot r (inr k) h = absurd (no_part spot k.0 r k.1 h)

out_not : (spot : Spot) (n m : Name) → NameAt spot n → NameAt spot m → LeadsOut n spot.scope → (LeadsOut m spot.scope → ⊥) → ⊥
out_not spot n m h i out not_so = not_so (subst (λ (k : Name). LeadsOut k spot.scope) (one_name spot n m h i) out)

declared_once : (start : ℕ) (spot : Spot) (r q : Refusal) → AtDeclared start spot r → AtDeclared start spot q → r ≡ q
declared_once start spot (refusals.Name BadName) (refusals.Name BadName) h i = refl
declared_once start spot (refusals.Name BadName) (refusals.Name AboveRoot) h i = absurd (bare_not spot i.0 i.1 i.2 h)
declared_once start spot (refusals.Name BadName) (refusals.Term NotInBody o) h i = absurd (bare_not spot i.0 i.1 i.2 h)
declared_once start spot (refusals.Name BadName) q h i = sym (bare_part spot q h i)
declared_once start spot (refusals.Name AboveRoot) (refusals.Name BadName) h i = absurd (bare_not spot h.0 h.1 h.2 i)
declared_once start spot (refusals.Name AboveRoot) (refusals.Name AboveRoot) h i = refl
declared_once start spot (refusals.Name AboveRoot) (refusals.Term NotInBody o) h i = absurd (out_not spot h.0 i.0 h.1 i.1 h.3 i.3)
declared_once start spot (refusals.Name AboveRoot) q h i = absurd (no_part spot h.0 q h.1 i)
declared_once start spot (refusals.Term NotInBody o) (refusals.Name BadName) h i = absurd (bare_not spot h.0 h.1 h.2 i)
declared_once start spot (refusals.Term NotInBody o) (refusals.Name AboveRoot) h i = absurd (out_not spot i.0 h.0 i.1 h.1 i.3 h.3)
declared_once start spot (refusals.Term NotInBody o) (refusals.Term NotInBody p) h i = ap (λ (k : ℕ). refusals.Term NotInBody k) (h.6 ∙ sym i.6)
declared_once start spot (refusals.Term NotInBody o) q h i = absurd (no_part spot h.0 q h.1 i)
declared_once start spot r (refusals.Name BadName) h i = bare_part spot r i h
declared_once start spot r (refusals.Name AboveRoot) h i = absurd (no_part spot i.0 r i.1 h)
declared_once start spot r (refusals.Term NotInBody o) h i = absurd (no_part spot i.0 r i.1 h)
declared_once start spot r q h i = part_once IsName spot r q h i

some_segment : (ss : List Seg) → (length ss == 0) ≡ false → ss ≢ []
some_segment [] e f = absurd (cc e)
some_segment (s ∷ ss) e f = absurd (cc f)

not_both : (a b : Bool) → (a && b) ≡ false → a ≡ true → b ≡ true → ⊥
not_both true true e f g = cc e
not_both true false e f g = cc g
not_both false b e f g = cc f

declared_whole : (start : ℕ) (spot : Spot) (n : Name) (path : List Seg) (r : Refusal) → NameAt spot n → is_null n ≡ false → (length n.segments == 0) ≡ false → resolved n spot.scope ≡ Ok path → (spot.around.body && begins_outside n) ≡ false → AtDeclared start spot r → ⊥
declared_whole start spot n path (refusals.Name BadName) there some segs res may h = bare_not spot n there (some_segment n.segments segs) h
declared_whole start spot n path (refusals.Name AboveRoot) there some segs res may h = not_out n spot.scope path some res (subst (λ (m : Name). LeadsOut m spot.scope) (one_name spot h.0 n h.1 there) h.3)
declared_whole start spot n path (refusals.Term NotInBody o) there some segs res may h =
    not_both spot.around.body (begins_outside n) may h.4 (subst (λ (m : Name). begins_outside m ≡ true) (one_name spot h.0 n h.1 there) h.5)
declared_whole start spot n path r there some segs res may h = no_part spot n r there h

declared_gave : (s : State) (spot : Spot) (context : Context) (start : ℕ) {B : Type 0} (k : Name → List Seg → Step B) → StandsAt s spot → context.body ≡ spot.around.body → (b : B) (s2 : State)
    → (name_string >>= (λ n. settle (declared_path spot.scope context start n) >>= k n)) s ≡ (Ok b, s2) → (r : Refusal) → AtDeclared start spot r → ⊥
declared_gave s spot context start k here body b s2 e r h =
    let p = both name_string (λ n. settle (declared_path spot.scope context start n) >>= k n) s b s2 e in
    let t = name_at s p.1 spot p.0 here p.2 in
    let x = settled_was (declared_path spot.scope context start p.0) (k p.0) p.1 b s2 p.3 in
    let w = declared_was spot.scope context start p.0 x.0 x.1 in
    declared_whole start spot p.0 x.0 r t.0 t.1 w.0 w.1 (subst (λ (c : Bool). (c && begins_outside p.0) ≡ false) body w.2) h

pub declared_exactly : (s : State) (spot : Spot) (context : Context) (start count : ℕ) (earlier : Earlier) (r : Refusal) → StandsAt s spot → context.body ≡ spot.around.body
    → ((declared_name spot.scope context start count earlier s).0 ≡ Err r) ↔ AtDeclared start spot r
unfolding declared_name
declared_exactly s spot context start count earlier r here body = exactly (declared_name spot.scope context start count earlier) s (λ q. AtDeclared start spot q)
    (halts_declared_name s spot here earlier context start count body) (declared_gave s spot context start _ here body) (declared_once start spot) r
