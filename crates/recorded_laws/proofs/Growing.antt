-- A record that grows by what a register space answers.
use Rattle.std.specs.Prelude.{List, [], ◌∷◌, ◌++◌}
use Rattle.ar_space.specs.Accesses.{Accesses}
use Rattle.recorded_space.specs.declared.exchange.Exchange.{Exchange}
use Rattle.recorded_space.specs.declared.exchange.Exchange.TheVariants.{Read, Write}
use Rattle.recorded_space.specs.Deciding.{Gives}
use Rattle.recorded_laws.specs.Grown.{left_by}

pub gives_all : {S : Type 0} (accesses : Accesses S) (entries rest : List Exchange) (s : S) → Gives accesses entries s → Gives accesses rest (left_by accesses entries s) → Gives accesses (entries ++ rest) s
unfolding Gives left_by
gives_all accesses [] rest s g h = h
gives_all accesses (Read place width answer ∷ entries) rest s g h = (g.0, gives_all accesses entries rest (accesses.reads s place width).1 g.1 h)
gives_all accesses (Write place width value answer ∷ entries) rest s g h = (g.0, gives_all accesses entries rest (accesses.writes s place width value).1 g.1 h)
