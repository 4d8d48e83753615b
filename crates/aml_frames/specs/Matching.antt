-- Match: what its rule comes to behind an operand that is evaluated, and behind the field of an element that is read (ACPI 6.5, 19.6).
use Rattle.std.specs.Prelude.{ℕ, ◌-◌}
use Rattle.ar_space.specs.Accesses.{Accesses}
use Rattle.ar_space.specs.Change.{settle, ◌>>=◌}
use Rattle.aml_grammar.specs.declared.opcode.TermCode.TheVariants as codes
use Rattle.aml_grammar.specs.Tree.{term}
use Rattle.aml_marks.specs.Marked.{over, an_integer}
use Rattle.aml_objects.specs.declared.value.Value.{Value}
use Rattle.aml_world.specs.declared.values.searches.Searching.{Searching}
use Rattle.aml_world.specs.state.Run.{Run, lift}
use Rattle.aml_world.specs.values.Searches.{search_begun, value_meets}
use Rattle.aml_meaning.specs.declared.flow.Flow.{Flow}
use Rattle.aml_meaning.specs.MatchTerms.{found_or, searched_last, searched, match_rule}
use Rattle.aml_meaning.specs.Tasks.{Task, operand_value}
use Rattle.aml_frames.specs.declared.frames.MatchPart.{MatchPart}
use Rattle.aml_frames.specs.declared.frames.MatchPart.TheVariants as parts
use Rattle.aml_frames.specs.Places.{Site, at_place, terms, next_term, behind_term}
use Rattle.aml_frames.specs.Operands.{match_at}

-- the byte that stands next, and the site behind it
abbrev pub next_byte : Site → ℕ
next_byte c = (an_integer 1 c.place).0

abbrev pub behind_byte : Site → Site
behind_byte c = at_place c (over 1 c.place)

-- where a Match ends, an operand of which was evaluated
abbrev pub match_ends : MatchPart → ℕ → Site → Site
match_ends parts.Package levels c = behind_term (behind_term (behind_byte (behind_term (behind_byte c) levels)) levels) levels
match_ends (parts.First p k) levels c = behind_term (behind_term (behind_byte c) levels) levels
match_ends (parts.Second p x l) levels c = behind_term c levels
match_ends (parts.Start p x y) levels c = c

module _ {S : Type 0} (accesses : Accesses S) (ev : Task → Run S Flow) where
  -- a Match whose operands stand next
  abbrev pub match_run : Site → ℕ → Run S Flow
  match_run c levels = match_rule accesses ev c.scope c.depth (term codes.Name (match_at (terms c levels) c.place))

  -- all operands have values: the package, the byte of each operator with its object, and the start
  abbrev pub matched : Value → ℕ × Value → ℕ × Value → Value → ℕ → Run S Flow
  matched p x y start depth = do
    s ← lift (search_begun p x.0 x.1 y.0 y.1 start)
    searched accesses ev depth s

  -- the start stands next
  abbrev pub start_left : Value → ℕ × Value → ℕ × Value → ℕ → Site → Run S Flow
  start_left p x y levels c = do
    start ← operand_value ev c.scope c.depth (next_term c levels)
    matched p x y start c.depth

  -- the second object stands next
  abbrev pub second_left : Value → ℕ × Value → ℕ → ℕ → Site → Run S Flow
  second_left p x l levels c = do
    b ← operand_value ev c.scope c.depth (next_term c levels)
    start_left p x (l, b) levels (behind_term c levels)

  -- the first object stands next
  abbrev pub first_left : Value → ℕ → ℕ → Site → Run S Flow
  first_left p k levels c = do
    a ← operand_value ev c.scope c.depth (next_term c levels)
    second_left p (k, a) (next_byte (behind_term c levels)) levels (behind_byte (behind_term c levels))

  -- what is left of a Match, an operand of which has this value
  abbrev pub match_left : MatchPart → ℕ → Value → Site → Run S Flow
  match_left parts.Package levels v c = first_left v (next_byte c) levels (behind_byte c)
  match_left (parts.First p k) levels v c = second_left p (k, v) (next_byte c) levels (behind_byte c)
  match_left (parts.Second p x l) levels v c = start_left p x (l, v) levels c
  match_left (parts.Start p x y) levels v c = matched p x y v c.depth

  -- a search, whose next element is the name of a field that has this value
  unfoldable pub element_read : ℕ → Searching → Value → Run S Flow
  element_read depth x v = do
    met ← lift (value_meets x.search v)
    found_or met (x.search.count - x.left) (searched_last accesses ev depth x.search (x.left - 1))
