-- The count of a path that is told last is the one that it takes.
use Rattle.std.specs.Prelude.{◌≡◌, ℕ, suc, List, [], ◌∷◌, ◌++◌, Bool, true, false, not, ◌&&◌, slice_get, Some, None, refl}
use Rattle.std.proofs.Common.{ap, ◌∙◌}
use Rattle.std.specs.FinMap.{get}
use Rattle.aml_path.specs.declared.segment.Seg.{Seg}
use Rattle.aml_path.specs.Paths.{path_eq}
use Rattle.aml_arities.specs.Arities.{is_of, latest, arity_at}
use Rattle.aml_arities.specs.declared.arities.Arity.{Arity}
use Rattle.aml_arities.proofs.PathTrees.{tied, itself}
use Rattle.aml_world.specs.state.Invocations.{body_arities}
use Rattle.aml_world.specs.state.State.{State}
use Rattle.aml_laws.specs.CountsTold.{declared_with, named_with, NoneDeclared, NoneNamed}
use Rattle.aml_laws.proofs.BodiesRead.{told_counts}

not_named : (x y : Bool) → (y ≡ true → x ≡ true → ⊥) → x && y ≡ false
not_named true true h = absurd (h refl refl)
not_named true false h = refl
not_named false true h = refl
not_named false false h = refl

not_declared : (x y : Bool) → (y ≡ true → x ≡ false → ⊥) → not x && y ≡ false
not_declared false true h = absurd (h refl refl)
not_declared false false h = refl
not_declared true true h = refl
not_declared true false h = refl

-- none of these is told of a path, by one sort
abbrev NoneOf : List Seg → Bool → List Arity → Type 0
NoneOf path external told = (i : ℕ) (a : Arity) → slice_get told i ≡ Some a → a.path ≡ path → a.external ≡ external → ⊥

module _ (path : List Seg) where
  not_of : (external : Bool) (a : Arity) → (a.path ≡ path → a.external ≡ external → ⊥) → is_of path external a ≡ false
  not_of true a h = not_named a.external (path_eq a.path path) (λ same. h (tied a.path path same))
  not_of false a h = not_declared a.external (path_eq a.path path) (λ same. h (tied a.path path same))

  of_itself : (external : Bool) (count : ℕ) → is_of path external (record { path = path; count = count; external = external }) ≡ true
  of_itself true count = itself path
  of_itself false count = itself path

  latest_none : (external : Bool) (told : List Arity) → NoneOf path external told → latest path external told ≡ None
  latest_none external [] none = refl
  latest_none external (a ∷ told) none = rw (latest_none external told (λ i b at. none (suc i) b at), not_of external a (none 0 a refl)) refl

  latest_told : (external : Bool) (count : ℕ) (front back : List Arity) → NoneOf path external back → latest path external (front ++ record { path = path; count = count; external = external } ∷ back) ≡ Some count
  latest_told external count [] back none = rw (latest_none external back none, of_itself external count) refl
  latest_told external count (a ∷ front) back none = rw (latest_told external count front back none) refl

pub declared_last : (front back : List Arity) (path : List Seg) (count : ℕ) → NoneDeclared path back → arity_at (front ++ declared_with path count ∷ back) path ≡ Some count
unfolding arity_at
declared_last front back path count none = rw (latest_told path false count front back none) refl

pub named_last : (front back : List Arity) (path : List Seg) (count : ℕ) → NoneDeclared path (front ++ named_with path count ∷ back) → NoneNamed path back → arity_at (front ++ named_with path count ∷ back) path ≡ Some count
unfolding arity_at
named_last front back path count undeclared none = rw (latest_none path false (front ++ named_with path count ∷ back) undeclared, latest_told path true count front back none) refl

pub untold : (told : List Arity) (path : List Seg) → NoneDeclared path told → NoneNamed path told → arity_at told path ≡ None
unfolding arity_at
untold told path undeclared unnamed = rw (latest_none path false told undeclared, latest_none path true told unnamed) refl

-- ---- in the body of a control method

module _ {S : Type 0} (w : State S) (path : List Seg) (none : get w.names.map path ≡ None) where
  pub body_told : (front back : List Arity) (count : ℕ) → w.arities ≡ front ++ named_with path count ∷ back → NoneNamed path back → arity_at (body_arities w) path ≡ Some count
  body_told front back count is last = told_counts w path none ∙ (ap (latest path true) is ∙ latest_told path true count front back last)

  pub body_untold : NoneNamed path w.arities → arity_at (body_arities w) path ≡ None
  body_untold unnamed = told_counts w path none ∙ latest_none path true w.arities unnamed
