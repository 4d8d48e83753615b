-- Changes that lead from each state to one that a preorder relates to it.
use Rattle.std.specs.Prelude.{◌≡◌, ℕ, ◌==◌, List, [], ◌∷◌, Bool, true, false, Ok, Err, Contains, refl, if◌then◌else◌}
use Rattle.std.proofs.Common.{arith}
use Rattle.std.proofs.lemmas.List.Elements.{Contains-get_or, Contains-append_right}
use Rattle.ar_space.specs.declared.refusal.Refusal.{Refusal}
use Rattle.ar_space.specs.Accesses.{bit_count}
use Rattle.ar_space.specs.Outcome.{Outcome}
use Rattle.ar_space.specs.Change.{Change, give, stop, settle, go_on, ◌>>=◌}
use Rattle.aml_objects.specs.declared.entry.FieldUnit.{FieldUnit}
use Rattle.aml_objects.specs.declared.entry.UpdateRule.{UpdateRule}
use Rattle.aml_objects.specs.declared.entry.UpdateRule.TheVariants.{Preserve, WriteAsOnes, WriteAsZeros}
use Rattle.aml_fields.specs.declared.field_units.Unit.{Unit as Access}
use Rattle.aml_fields.specs.Units.{units_of}
use Rattle.aml_fields.specs.UnitByUnit.{read_units, bits_read, write_units, kept_by, kept}

pub either_branch : {X : Type 0} (P : X → Type 0) (b : Bool) (x y : X) → P x → P y → P (if b then x else y)
either_branch P true x y h i = h
either_branch P false x y h i = i

pub first_of : {X : Type 0} (x : X) (xs : List X) → Contains (x ∷ xs) x
first_of x xs = Contains-get_or (x ∷ xs) 0 x (omega arith)

pub record Preorder (H : Type 0) : Type 1 where
  pub Leads : H → H → Type 0
  pub reflexive : (h : H) → Leads h h
  pub transitive : (h i j : H) → Leads h i → Leads i j → Leads h j

pub record Respects {H A : Type 0} (R : Preorder H) (m : Change H A) : Type 0 where
  pub respects : (h : H) → R.Leads h (m h).1

module _ {H : Type 0} {R : Preorder H} where
  pub give_respects : {A : Type 0} (a : A) → Respects R (give a)
  unfolding give
  give_respects a = record { respects = R.reflexive }

  pub settle_respects : {A : Type 0} (x : Outcome A) → Respects R (settle x)
  unfolding settle
  settle_respects x = record { respects = R.reflexive }

  pub stop_respects : {A : Type 0} (e : Refusal) → Respects {A = A} R (stop e)
  unfolding stop
  stop_respects e = record { respects = R.reflexive }

  go_on_respects : {A B : Type 0} (h : H) (r : Outcome A) (i : H) (k : A → Change H B) → ((a : A) → Respects R (k a)) → R.Leads h i → R.Leads h (go_on r i k).1
  unfolding go_on
  go_on_respects h (Ok a) i k all g = R.transitive h i _ g ((all a).respects i)
  go_on_respects h (Err e) i k all g = g

  pub then_respects : {A B : Type 0} (m : Change H A) (k : A → Change H B) → Respects R m → ((a : A) → Respects R (k a)) → Respects R (m >>= k)
  unfolding ◌>>=◌
  then_respects m k f all = record { respects = λ h. go_on_respects h (m h).0 (m h).1 k all (f.respects h) }

  -- what is settled is known where it goes on
  pub settle_then_respects : {A B : Type 0} (x : Outcome A) (k : A → Change H B) → ((a : A) → x ≡ Ok a → Respects R (k a)) → Respects R (settle x >>= k)
  unfolding settle ◌>>=◌ go_on
  settle_then_respects (Ok a) k all = record { respects = λ h. (all a refl).respects h }
  settle_then_respects (Err e) k all = record { respects = R.reflexive }

  -- ---- unit by unit

  read_each_respects : (read : Access → Change H ℕ) → (us : List Access) → ((u : Access) → Contains us u → Respects R (read u)) → Respects R (read_units read us)
  unfolding read_units
  read_each_respects read [] each = give_respects _
  read_each_respects read (u ∷ us) each = then_respects _ _ (each u (first_of u us)) (λ unit. then_respects _ _ (read_each_respects read us (λ v there. each v (Contains-append_right (u ∷ []) us v there))) (λ bits. give_respects _))

  -- each of a field's units is read
  pub units_read_respects : (read : Access → Change H ℕ) (f : FieldUnit) → ((u : Access) → Contains (units_of f.bit_offset f.bits f.access) u → Respects R (read u)) → Respects R (bits_read read f)
  unfolding bits_read
  units_read_respects read f each = then_respects _ _ (read_each_respects read (units_of f.bit_offset f.bits f.access) each) (λ bits. give_respects _)

  pub bits_read_respects : (read : Access → Change H ℕ) → ((u : Access) → Respects R (read u)) → (f : FieldUnit) → Respects R (bits_read read f)
  bits_read_respects read each f = units_read_respects read f (λ u there. each u)

  -- each of some units is written
  pub each_written_respects : (write : Access → Change H (Unit {0})) → (us : List Access) → ((u : Access) → Contains us u → Respects R (write u)) → Respects R (write_units write us)
  unfolding write_units
  each_written_respects write [] each = give_respects _
  each_written_respects write (u ∷ us) each = then_respects _ _ (each u (first_of u us)) (λ done. each_written_respects write us (λ v there. each v (Contains-append_right (u ∷ []) us v there)))

  pub write_units_respects : (write : Access → Change H (Unit {0})) → ((u : Access) → Respects R (write u)) → (us : List Access) → Respects R (write_units write us)
  write_units_respects write each us = each_written_respects write us (λ u there. each u)

  kept_or_whole_respects : (rule : UpdateRule) (whole : Bool) (read : Change H ℕ) → Respects R read → Respects R (λ h. if whole then (Ok 0, h) else kept_by rule read h)
  kept_or_whole_respects rule true read g = record { respects = R.reflexive }
  kept_or_whole_respects Preserve false read g = g
  kept_or_whole_respects WriteAsOnes false read g = record { respects = R.reflexive }
  kept_or_whole_respects WriteAsZeros false read g = record { respects = R.reflexive }

  pub kept_respects : (f : FieldUnit) (u : Access) (read : Change H ℕ) → Respects R read → Respects R (kept f u read)
  unfolding kept
  kept_respects f u read g = kept_or_whole_respects f.update (u.count == bit_count f.access) read g
