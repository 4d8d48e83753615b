-- Names that a term declares.
use Rattle.std.specs.Prelude.{ℕ, List, length, Bool, not, Ok, Err, ◌==◌, ◌&&◌, if◌then◌else◌}
use Rattle.ar_space.specs.declared.refusal.Refusal.TheVariants as refusals
use Rattle.ar_space.specs.declared.refusal.NameFault.TheVariants.{BadName}
use Rattle.ar_space.specs.declared.refusal.TermFault.TheVariants.{NotInBody}
use Rattle.ar_space.specs.Outcome.{Outcome, ◌>>=◌}
use Rattle.aml_path.specs.declared.segment.Seg.{Seg}
use Rattle.aml_path.specs.Paths.{Name, begins_here, resolved}
use Rattle.aml_grammar.specs.declared.context.Context.{Context}

-- whether a name begins at the root or above the scope
abbrev pub begins_outside : Name → Bool
begins_outside n = not (begins_here n.prefix)

-- in a body only names without `\` or `^` are declared, so below the method's own path; start is the term's first byte
abbrev pub allowed : Context → ℕ → Name → List Seg → Outcome (List Seg)
allowed context start n path = if context.body && begins_outside n then Err (refusals.Term NotInBody start) else Ok path

unfoldable pub allowed_path : List Seg → Context → ℕ → Name → Outcome (List Seg)
allowed_path scope context start n = do
  path ← resolved n scope
  allowed context start n path

-- the path that a declared name stands for; a name without a segment declares nothing
unfoldable pub declared_path : List Seg → Context → ℕ → Name → Outcome (List Seg)
declared_path scope context start n = if length n.segments == 0 then Err (refusals.Name BadName) else allowed_path scope context start n
