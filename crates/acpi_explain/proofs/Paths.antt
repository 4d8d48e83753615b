-- The paths of the calls of initializing, and where a name stands.
use Rattle.std.proofs.Common.{◌≡◌, ◌∙◌, refl, subst, sym}
use Rattle.std.specs.Prelude.{ℕ, List, [], ◌∷◌, ◌++◌, Bool, Option, Some, None, Ok, Err}
use Rattle.std.specs.FinMap.{contains_key, get}
use Rattle.std.specs.Option.{is_some, option_map}
use Rattle.ar_space.specs.Outcome.{Outcome, ◌>>=◌}
use Rattle.aml_path.specs.declared.segment.Seg.{Seg}
use Rattle.aml_path.specs.Segments.{seg_of}
use Rattle.acpi_machine.specs.Children.{stands}
use Rattle.acpi_machine.specs.FixedPaths.{at_root, below_root}
use Rattle.acpi_machine.specs.Kinds.{kind_of}
use Rattle.acpi_machine.specs.MachineStates.{MachineState}
use Rattle.acpi_prt.specs.Children.{child_named}

pub root_named : (p : List Seg) (name : List ℕ) (path : List Seg) → p ≡ [] → child_named p name ≡ Ok path → at_root name ≡ Ok path
unfolding at_root child_named
root_named p name path h i = subst (λ q. (seg_of name >>= (λ segment. Ok (q ++ segment ∷ []))) ≡ Ok path) h i

above_is : (parent : List ℕ) (p : List Seg) (x : Outcome Seg) → seg_of parent ≡ x → at_root parent ≡ Ok p → (s : Seg) × (x ≡ Ok s) × (p ≡ s ∷ [])
unfolding at_root ◌>>=◌
above_is parent p (Ok s) is h = let both : Ok (s ∷ []) ≡ Ok p = subst (λ x. (x >>= (λ segment. Ok (segment ∷ []))) ≡ Ok p) is h in (s, refl, cc both)
above_is parent p (Err e) is h = let both : Err e ≡ Ok p = subst (λ x. (x >>= (λ segment. Ok (segment ∷ []))) ≡ Ok p) is h in absurd (cc both)

pub below_named : (p : List Seg) (parent name : List ℕ) (path : List Seg) → at_root parent ≡ Ok p → child_named p name ≡ Ok path → below_root parent name ≡ Ok path
unfolding below_root child_named ◌>>=◌
below_named p parent name path h i =
    let s = above_is parent p (seg_of parent) refl h in
    rw s.1 (subst (λ q. (seg_of name >>= (λ segment. Ok (q ++ segment ∷ []))) ≡ Ok path) s.2 i)

by_view : {A B : Type 0} (f : A → B) (o : Option A) → is_some o ≡ is_some (option_map f o)
by_view f None = refl
by_view f (Some x) = refl

pub stands_key : {S : Type 0} (b : Bool) (p : List Seg) (s : MachineState S) → b ≡ stands p s → contains_key s.world.names.map p ≡ b
stands_key b p s h = by_view (λ e. kind_of e.object) (get s.world.names.map p) ∙ sym h
