-- Where a page stands among all of them.
use Rattle.std.specs.Prelude.{ℕ, suc, List, [], ◌∷◌, Option, Some, None, if◌then◌else◌}
use Rattle.std.specs.Option.{option_map}
use Rattle.std.specs.Ordering.{nat_cmp}
use Rattle.std.specs.BTreeMap.{is_at}
use Rattle.ar_space.specs.declared.page.Page.{Page}

-- the place of the first page with a number
abbrev pub place_of : List (ℕ × Page) → ℕ → Option ℕ
place_of [] number = None
place_of (entry ∷ entries) number = if is_at (nat_cmp number) entry.0 then Some 0 else option_map suc (place_of entries number)
