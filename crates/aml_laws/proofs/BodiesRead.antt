-- How the body of a control method is read, and how many arguments names take in it.
use Rattle.std.specs.Prelude.{◌≡◌, ◌<◌, ◌%◌, ℕ, nat_lt, List, Option, true, Some, None, Ok, Err, refl}
use Rattle.std.proofs.Common.{arith, ap, ◌∙◌}
use Rattle.std.proofs.lemmas.Bool.Decides.{nat_tests}
use Rattle.std.specs.FinMap.{get}
use Rattle.ar_space.specs.declared.refusal.Refusal.{Refusal}
use Rattle.ar_space.specs.Change.{go_on, ◌>>=◌}
use Rattle.ar_space.specs.Outcome.{seen}
use Rattle.aml_path.specs.declared.segment.Seg.{Seg}
use Rattle.aml_arities.specs.Arities.{latest, arity_at}
use Rattle.aml_grammar.specs.Grammar.{reading_within}
use Rattle.aml_grammar.specs.Shape.{trees_of}
use Rattle.aml_grammar.specs.Tree.{Tree}
use Rattle.aml_objects.specs.declared.entry.Entry.{Entry}
use Rattle.aml_objects.specs.declared.entry.Method.{Method}
use Rattle.aml_objects.specs.declared.entry.NamedObject.{NamedObject}
use Rattle.aml_objects.specs.declared.entry.NamedObject.TheVariants as named
use Rattle.aml_objects.specs.declared.value.Value.{Value}
use Rattle.aml_world.specs.state.Invocations.{count_through, count_of_entry, body_arities, body_terms, call_allowed}
use Rattle.aml_world.specs.state.Readings.{arguments_of}
use Rattle.aml_world.specs.state.Run.{Run, lift}
use Rattle.aml_world.specs.state.State.{State}
use Rattle.aml_world.proofs.BodyCounts.{body_declared, body_external}
use Rattle.aml_meaning.specs.declared.flow.Flow.{Flow}
use Rattle.aml_meaning.specs.Calls.{invoked}
use Rattle.aml_meaning.specs.Tasks.{Task}
use Rattle.aml_laws.specs.CallTerms.{IsNoMethod}

module _ {S : Type 0} (w : State S) where
  pub body_is_read : (p : List Seg) (body : List ℕ) (ts : List Tree) → reading_within w.nesting.levels body p true (body_arities w) ≡ Ok ts → body_terms p body w ≡ (Ok (trees_of ts), w)
  unfolding body_terms
  body_is_read p body ts is = ap (λ r. (seen trees_of r, w)) is

  pub body_is_refused : (p : List Seg) (body : List ℕ) (e : Refusal) → reading_within w.nesting.levels body p true (body_arities w) ≡ Err e → body_terms p body w ≡ (Err e, w)
  unfolding body_terms
  body_is_refused p body e is = ap (λ r. (seen trees_of r, w)) is

  allowed : (depth : ℕ) → depth < 32 → depth < w.nesting.calls → call_allowed depth w ≡ (Ok tt, w)
  unfolding call_allowed
  allowed depth few within = rw (is_less depth 32 few, is_less depth w.nesting.calls within) refl
    where
      is_less : (n k : ℕ) → n < k → nat_lt n k ≡ true
      is_less n k less = grind (arith, nat_tests)

  pub unread_is_refused : (ev : Task → Run S Flow) (depth : ℕ) (p : List Seg) (body : List ℕ) (arguments : List Value) (steps : ℕ) (e : Refusal) → depth < 32 → depth < w.nesting.calls → reading_within w.nesting.levels body p true (body_arities w) ≡ Err e
      → invoked ev depth p body arguments (w, steps) ≡ (Err e, (w, steps))
  unfolding invoked lift go_on ◌>>=◌
  unread_is_refused ev depth p body arguments steps e few within lost = rw (allowed depth few within, body_is_refused p body e lost) refl

  standing_counts : (path : List Seg) (e : Entry) → get w.names.map path ≡ Some e → arity_at (body_arities w) path ≡ Some (count_through w.names.map e.object)
  unfolding arity_at
  standing_counts path e is = rw (body_declared w.names.map w.arities path, is) refl

  pub method_counts : (path : List Seg) (e : Entry) (m : Method) → get w.names.map path ≡ Some e → e.object ≡ named.Method m → arity_at (body_arities w) path ≡ Some (m.flags.byte % 8)
  method_counts path e m stands is = standing_counts path e stands ∙ ap (λ o. Some (count_through w.names.map o)) is

  pub alias_counts : (path at : List Seg) (e other : Entry) (m : Method) → get w.names.map path ≡ Some e → e.object ≡ named.Alias at → get w.names.map at ≡ Some other → other.object ≡ named.Method m → arity_at (body_arities w) path ≡ Some (m.flags.byte % 8)
  alias_counts path at e other m stands is there leads =
      standing_counts path e stands ∙ ap (λ o. Some (count_through w.names.map o)) is ∙ ap (λ o. Some (count_of_entry o)) there ∙ ap (λ o. Some (arguments_of o)) leads

  none_of : (o : NamedObject) → IsNoMethod o → arguments_of o ≡ 0
  none_of (named.Method m) none = absurd (none m refl)
  none_of (named.Alias p) none = refl
  none_of named.Scope none = refl
  none_of named.Device none = refl
  none_of named.Processor none = refl
  none_of named.PowerResource none = refl
  none_of named.ThermalZone none = refl
  none_of (named.Data v) none = refl
  none_of (named.OperationRegion r) none = refl
  none_of (named.FieldUnit u) none = refl
  none_of (named.BufferField b) none = refl
  none_of (named.Mutex n) none = refl
  none_of (named.Event n) none = refl

  none_at : (there : Option Entry) → ((other : Entry) → there ≡ Some other → IsNoMethod other.object) → count_of_entry there ≡ 0
  none_at None none = refl
  none_at (Some other) none = none_of other.object (none other refl)

  pub other_aliases_take_none : (path at : List Seg) (e : Entry) → get w.names.map path ≡ Some e → e.object ≡ named.Alias at → ((other : Entry) → get w.names.map at ≡ Some other → IsNoMethod other.object) → arity_at (body_arities w) path ≡ Some 0
  other_aliases_take_none path at e stands is none =
      standing_counts path e stands ∙ ap (λ o. Some (count_through w.names.map o)) is ∙ ap Some (none_at (get w.names.map at) none)

  none_by : (o : NamedObject) → IsNoMethod o → ((at : List Seg) → o ≡ named.Alias at → ⊥) → count_through w.names.map o ≡ 0
  none_by (named.Method m) none apart = absurd (none m refl)
  none_by (named.Alias p) none apart = absurd (apart p refl)
  none_by named.Scope none apart = refl
  none_by named.Device none apart = refl
  none_by named.Processor none apart = refl
  none_by named.PowerResource none apart = refl
  none_by named.ThermalZone none apart = refl
  none_by (named.Data v) none apart = refl
  none_by (named.OperationRegion r) none apart = refl
  none_by (named.FieldUnit u) none apart = refl
  none_by (named.BufferField b) none apart = refl
  none_by (named.Mutex n) none apart = refl
  none_by (named.Event n) none apart = refl

  pub others_take_none : (path : List Seg) (e : Entry) → get w.names.map path ≡ Some e → IsNoMethod e.object → ((at : List Seg) → e.object ≡ named.Alias at → ⊥) → arity_at (body_arities w) path ≡ Some 0
  others_take_none path e stands none apart = standing_counts path e stands ∙ ap Some (none_by e.object none apart)

  pub told_counts : (path : List Seg) → get w.names.map path ≡ None → arity_at (body_arities w) path ≡ latest path true w.arities
  unfolding arity_at
  told_counts path none = rw (body_declared w.names.map w.arities path, none, body_external w.names.map w.arities path) refl
