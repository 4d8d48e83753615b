-- What the accesses of a record leave of a register space.
use Rattle.std.specs.Prelude.{List, [], ◌∷◌}
use Rattle.ar_space.specs.Accesses.{Accesses}
use Rattle.recorded_space.specs.declared.exchange.Exchange.{Exchange}
use Rattle.recorded_space.specs.declared.exchange.Exchange.TheVariants.{Read, Write}

-- the space once all of them were made, one after another
unfoldable pub left_by : {S : Type 0} → Accesses S → List Exchange → S → S
left_by accesses [] s = s
left_by accesses (Read place width answer ∷ rest) s = left_by accesses rest (accesses.reads s place width).1
left_by accesses (Write place width value answer ∷ rest) s = left_by accesses rest (accesses.writes s place width value).1
