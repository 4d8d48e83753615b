-- A reference to a name refers to the declaration at its path, and what is read, stored and acquired through it is what stands there.
use Rattle.std.specs.Prelude.{◌≡◌, ℕ, List, Option, Some, None, Ok, refl}
use Rattle.std.proofs.Common.{ap, sym, ◌∙◌, subst}
use Rattle.std.specs.FinMap.{get, entries, entries_sorted, get-entries}
use Rattle.ar_space.specs.Outcome.{Outcome}
use Rattle.ar_space.specs.Change.{Change, give, settle, go_on, ◌>>=◌}
use Rattle.aml_path.specs.declared.segment.Seg.{Seg}
use Rattle.aml_objects.specs.declared.entry.Entry.{Entry}
use Rattle.aml_objects.specs.declared.entry.NamedObject.{NamedObject}
use Rattle.aml_objects.specs.declared.entry.NamedObject.TheVariants as object
use Rattle.aml_objects.specs.declared.value.Value.{Value}
use Rattle.aml_objects.specs.declared.value.Value.TheVariants as value
use Rattle.aml_objects.specs.declared.value.Reference.{Reference}
use Rattle.aml_objects.specs.declared.value.Reference.TheVariants as reference
use Rattle.aml_namespace.specs.Namespace.{Namespace, numbered}
use Rattle.aml_namespace.specs.Numbering.{Numbered}
use Rattle.aml_world.specs.declared.values.store_target.Held.{Held}
use Rattle.aml_world.specs.declared.values.store_target.Held.TheVariants as held
use Rattle.aml_world.specs.declared.values.store_target.StoreTarget.TheVariants as targets
use Rattle.aml_world.specs.state.State.{State}
use Rattle.aml_world.specs.values.StoreTargets.{holding_of, holding_in, held_at, held_in, or_gone, declaration, once, declared_once, name_read, number_in_entry, declared_number, name_reference, dereferenced}
use Rattle.aml_world.specs.values.Stores.{store_over, copy_over, store_in_declared, store_in_name, copy_into_declared, copy_in_name, stored, copied_to, stored_through}
use Rattle.aml_world.specs.state.Mutexes.{acquired, given_back, acquired_by_number, given_back_by_number, acquired_at, given_back_at}
use Rattle.aml_laws.specs.StoredParts.{HoldsNothing, scope, device, processor, power_resource, thermal_zone, method, region, mutex, event, IsRead, a_value, a_unit, a_buffer_field, an_alias, no_data}
use Rattle.aml_laws.proofs.DeclarationNumbers.{with_number_stands, unnumbered}

-- ---- the number of a declaration that stands finds it

same_entry : (v e : Entry) → ◌≡◌ {A = Option Entry} (Some v) (Some e) → v ≡ e
same_entry v e h = cc h

numbered_finds_by_cases : (names : Namespace) (p : List Seg) (e : Entry) (o : Option (List Seg × Entry)) → Numbered names → get names.map p ≡ Some e → numbered e.number names.map ≡ o → o ≡ Some (p, e)
unfolding numbered
numbered_finds_by_cases names p e None h at is = absurd (unnumbered e.number (entries names.map) p e is (sym (get-entries names.map p) ∙ at) refl)
numbered_finds_by_cases names p e (Some x) h at is =
    let r = with_number_stands e.number (entries names.map) x (entries_sorted names.map) is in
    let there : get names.map x.0 ≡ Some x.1 = get-entries names.map x.0 ∙ r.there in
    let path : x.0 ≡ p = h.distinct x.0 p x.1 e there at r.number in
    let entry : x.1 ≡ e = same_entry x.1 e (sym there ∙ ap (get names.map) path ∙ at) in
    ap (λ (q : List Seg). Some (q, x.1)) path ∙ ap (λ (d : Entry). Some (p, d)) entry

pub numbered_finds : (names : Namespace) (p : List Seg) (e : Entry) → Numbered names → get names.map p ≡ Some e → numbered e.number names.map ≡ Some (p, e)
numbered_finds names p e h at = numbered_finds_by_cases names p e (numbered e.number names.map) h at refl

-- ---- what a reference to a name refers to

module _ {S : Type 0} (w : State S) (p : List Seg) (e : Entry) (at : get w.names.map p ≡ Some e) where
  pub name_reference_is : (name_reference p w).0 ≡ Ok (reference.Name e.number)
  unfolding name_reference declared_number give go_on ◌>>=◌
  name_reference_is = ap (λ (o : Option Entry). (go_on {S = State S} (number_in_entry o) w (λ n. give (reference.Name n))).0) at

  module _ (h : Numbered w.names) where
    pub declaration_is : (declaration e.number w).0 ≡ Ok (p, e)
    unfolding declaration
    declaration_is = ap or_gone (numbered_finds w.names p e h at)

    -- what follows a search for the declaration goes on with it
    pub declaration_then : {A : Type 0} (k : List Seg × Entry → Change (State S) A) → (declaration e.number >>= k) w ≡ k (p, e) w
    unfolding declaration go_on ◌>>=◌
    declaration_then k = ap (λ (o : Option (List Seg × Entry)). go_on (or_gone o) w k) (numbered_finds w.names p e h at)

    pub declared_once_is : (declared_once e.number w).0 ≡ Ok (once e.number e.object)
    unfolding declared_once give
    declared_once_is = ap (λ (x : Outcome Held × State S). x.0) (declaration_then (λ x. give (once e.number x.1.object)))

    -- ---- what stands at the path, through the reference and by the name

    store_in_declared_is : (v : Value) → store_in_declared e.number v w ≡ store_in_name p v w
    unfolding store_in_declared store_in_name held_at go_on ◌>>=◌
    store_in_declared_is v = declaration_then (λ x. store_over (holding_of x.1.object) x.0 v) ∙ sym (ap (λ (o : Option Entry). go_on {S = State S} (holding_in o) w (λ x. store_over x p v)) at)

    copy_into_declared_is : (v : Value) → copy_into_declared e.number v w ≡ copy_in_name p v w
    unfolding copy_into_declared copy_in_name held_at go_on ◌>>=◌
    copy_into_declared_is v = declaration_then (λ x. copy_over (holding_of x.1.object) x.0 v) ∙ sym (ap (λ (o : Option Entry). go_on {S = State S} (holding_in o) w (λ x. copy_over x p v)) at)

    acquired_by_number_is : acquired_by_number e.number w ≡ acquired p w
    unfolding acquired_by_number
    acquired_by_number_is = declaration_then (λ x. acquired x.0)

    given_back_by_number_is : given_back_by_number e.number w ≡ given_back p w
    unfolding given_back_by_number
    given_back_by_number_is = declaration_then (λ x. given_back x.0)

-- ---- a reference that a name has

pub record NameFound {S : Type 0} (w : State S) (p : List Seg) (r : Reference) : Type 0 where
  pub entry : Entry
  pub there : get w.names.map p ≡ Some entry
  pub is : r ≡ reference.Name entry.number

name_found_by_cases : {S : Type 0} (w : State S) (p : List Seg) (r : Reference) (o : Option Entry) → get w.names.map p ≡ o → (go_on {S = State S} (number_in_entry o) w (λ n. give (reference.Name n))).0 ≡ Ok r → NameFound w p r
unfolding go_on give
name_found_by_cases w p r None at e = absurd (cc e)
name_found_by_cases w p r (Some x) at e = record { entry = x; there = at; is = sym (cc e) }

pub name_found : {S : Type 0} (w : State S) (p : List Seg) (r : Reference) → (name_reference p w).0 ≡ Ok r → NameFound w p r
unfolding name_reference declared_number ◌>>=◌
name_found w p r e = name_found_by_cases w p r (get w.names.map p) refl e

-- ---- what is read, stored and acquired through it

once_is : (n : ℕ) (o : NamedObject) (h : Held) → held_in (holding_of o) ≡ Ok h → once n o ≡ h
once_is n (object.Data v) h e = cc e
once_is n (object.FieldUnit u) h e = cc e
once_is n (object.BufferField b) h e = cc e
once_is n _ h e = absurd (cc e)

name_read_is : {S : Type 0} (w : State S) (p : List Seg) (e : Entry) → get w.names.map p ≡ Some e → (name_read p w).0 ≡ held_in (holding_of e.object)
unfolding name_read held_at settle go_on ◌>>=◌
name_read_is {S} w p e at = ap (λ (o : Option Entry). (go_on {S = State S} (holding_in o) w (λ h. settle (held_in h))).0) at

module _ {S : Type 0} (w : State S) (p : List Seg) (r : Reference) (h : Numbered w.names) (e : (name_reference p w).0 ≡ Ok r) where
  pub name_reads : (x : Held) → (name_read p w).0 ≡ Ok x → (dereferenced r w).0 ≡ Ok x
  name_reads x read =
      let f = name_found w p r e in
      let same : once f.entry.number f.entry.object ≡ x = once_is f.entry.number f.entry.object x (sym (name_read_is w p f.entry f.there) ∙ read) in
      subst (λ (y : Reference). (dereferenced y w).0 ≡ Ok x) (sym f.is) (declared_once_is w p f.entry f.there h ∙ ap Ok same)

  pub name_stores : (v : Value) → stored (targets.Refers r) v w ≡ store_in_name p v w
  name_stores v = let f = name_found w p r e in subst (λ (y : Reference). stored (targets.Refers y) v w ≡ store_in_name p v w) (sym f.is) (store_in_declared_is w p f.entry f.there h v)

  pub name_copies : (v : Value) → copied_to (targets.Refers r) v w ≡ copy_in_name p v w
  unfolding stored_through
  name_copies v = let f = name_found w p r e in subst (λ (y : Reference). copied_to (targets.Refers y) v w ≡ copy_in_name p v w) (sym f.is) (copy_into_declared_is w p f.entry f.there h v)

  pub name_acquires : acquired_at (targets.Refers r) w ≡ acquired p w
  name_acquires = let f = name_found w p r e in subst (λ (y : Reference). acquired_at (targets.Refers y) w ≡ acquired p w) (sym f.is) (acquired_by_number_is w p f.entry f.there h)

  pub name_gives_back : given_back_at (targets.Refers r) w ≡ given_back p w
  name_gives_back = let f = name_found w p r e in subst (λ (y : Reference). given_back_at (targets.Refers y) w ≡ given_back p w) (sym f.is) (given_back_by_number_is w p f.entry f.there h)

-- ---- one step on

nothing_once : (n : ℕ) (o : NamedObject) → HoldsNothing o → once n o ≡ held.Value (value.Reference (reference.Name n))
nothing_once n _ scope = refl
nothing_once n _ device = refl
nothing_once n _ processor = refl
nothing_once n _ power_resource = refl
nothing_once n _ thermal_zone = refl
nothing_once n _ (method m) = refl
nothing_once n _ (region r) = refl
nothing_once n _ (mutex c) = refl
nothing_once n _ (event c) = refl

once_so : (n : ℕ) (o : NamedObject) (x : Held) → IsRead n o x → once n o ≡ x
once_so n _ _ (a_value v) = refl
once_so n _ _ (a_unit u) = refl
once_so n _ _ (a_buffer_field b) = refl
once_so n _ _ (an_alias path) = refl
once_so n _ _ (no_data o h) = nothing_once n o h

pub declared_is_read : {S : Type 0} (w : State S) (p : List Seg) (e : Entry) (x : Held) → Numbered w.names → get w.names.map p ≡ Some e → IsRead e.number e.object x → (dereferenced (reference.Name e.number) w).0 ≡ Ok x
declared_is_read w p e x h at is = declared_once_is w p e at h ∙ ap Ok (once_so e.number e.object x is)

pub ruleset a_reference_to_a_name_finds_its_declaration = (name_reference_is, declaration_is, declared_is_read, name_copies)
