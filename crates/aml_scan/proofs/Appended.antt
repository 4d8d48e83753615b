-- Arities in two parts.
use Rattle.std.proofs.Common.{◌≡◌, List, [], ◌∷◌, ◌++◌, Bool, Option, Some, None, refl}
use Rattle.aml_path.specs.declared.segment.Seg.{Seg}
use Rattle.aml_arities.specs.declared.arities.Arity.{Arity}
use Rattle.aml_arities.specs.Arities.{latest, or_else}

or_else_again : {A : Type 0} (a b c : Option A) → or_else (or_else a b) c ≡ or_else a (or_else b c)
or_else_again None b c = refl
or_else_again (Some x) b c = refl

or_none_else : {A : Type 0} (a : Option A) → a ≡ or_else a None
or_none_else None = refl
or_none_else (Some x) = refl

pub latest_append : (path : List Seg) (external : Bool) (xs ys : List Arity) → latest path external (xs ++ ys) ≡ or_else (latest path external ys) (latest path external xs)
latest_append path external [] ys = or_none_else (latest path external ys)
latest_append path external (x ∷ xs) ys = rw (latest_append path external xs ys) (or_else_again (latest path external ys) (latest path external xs) _)
