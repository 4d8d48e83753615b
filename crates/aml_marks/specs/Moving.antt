-- How a walk moves on.
use Rattle.std.specs.Prelude.{◌≡◌, ◌≤◌, ℕ, length}
use Rattle.aml_marks.specs.Marked.{Place, past}

-- q is a number of bytes behind p, at most as many as are left at p
pub record MovesOn (p q : Place) : Type 0 where
  pub count : ℕ
  pub within : count ≤ length p.rest
  pub is : q ≡ past count p
