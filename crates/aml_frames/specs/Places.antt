-- Where evaluation stands in the bytes of a list of terms.
use Rattle.std.specs.Prelude.{◌≡◌, ℕ, ◌+◌, ◌-◌, List, length, take, drop, false}
use Rattle.aml_path.specs.declared.segment.Seg.{Seg}
use Rattle.aml_grammar.specs.declared.marks.Mark.{Mark}
use Rattle.aml_grammar.specs.Tree.{Tree}
use Rattle.aml_marks.specs.Marked.{Place, Below, count_at, a_term}

-- the bytes of a table or of the body of a control method, with the marks of its calls; the scope that names stand in; how many control
-- methods are being called; and the place of the next byte
pub record Site : Type 0 where
  pub bytes : List ℕ
  pub marks : List Mark
  pub scope : List Seg
  pub depth : ℕ
  pub place : Place

-- what is left of some bytes from an offset on, up to another
abbrev pub place_between : List ℕ → ℕ → ℕ → Place
place_between bs at end = record { at = at; rest = take (end - at) (drop at bs) }

-- the offset behind the last byte that is left
abbrev pub end_of : Place → ℕ
end_of p = p.at + length p.rest

-- what is left at a place is what some bytes have there
abbrev pub Stands : List ℕ → Place → Type 0
Stands bs p = take (length p.rest) (drop p.at bs) ≡ p.rest

-- the same site at another place
abbrev pub at_place : Site → Place → Site
at_place c p = record c { place = p }

-- how terms are read there, with so many levels
abbrev pub terms : Site → ℕ → Below
terms c levels = a_term (count_at c.marks) levels

-- the term that stands next, and the site behind it
abbrev pub next_term : Site → ℕ → Tree
next_term c levels = (terms c levels false c.place).0

abbrev pub behind_term : Site → ℕ → Site
behind_term c levels = at_place c (terms c levels false c.place).1
