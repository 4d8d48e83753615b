-- A register space with the list of all accesses that were made to it.
use Rattle.std.specs.Prelude.{List, [], ◌∷◌, ◌++◌}
use Rattle.ar_space.specs.Accesses.{Accesses}
use Rattle.space_trace.specs.declared.access.Access.{Access}
use Rattle.space_trace.specs.declared.access.Access.TheVariants.{Read, Write}

-- each access does what it does in the space below, and stands at the end of the list
abbrev pub listed : {S : Type 0} → Accesses S → Accesses (S × List Access)
listed below = record {
  reads = λ s place width. let done = below.reads s.0 place width in (done.0, (done.1, s.1 ++ Read place width ∷ []));
  writes = λ s place width value. let done = below.writes s.0 place width value in (done.0, (done.1, s.1 ++ Write place width value ∷ []));
}
