-- Four characters are a segment, or they are refused: no memory is taken.
use Rattle.std.specs.Prelude.{◌≡◌, ℕ, List, Bool, true, false, refl}
use Rattle.ar_space.specs.Outcome.{Outcome, NotMemory}
use Rattle.aml_path.specs.Characters.{is_segment}
use Rattle.aml_path.specs.Segments.{seg_of, tested}
use Rattle.aml_path.specs.declared.segment.Seg.{Seg}

tested_plainly : (bs : List ℕ) (b : Bool) (is : is_segment bs ≡ b) → NotMemory (tested bs b is)
tested_plainly bs true is = tt
tested_plainly bs false is = λ e. cc e

pub made_plainly : (r : Outcome Seg) (bs : List ℕ) → r ≡ seg_of bs → NotMemory r
unfolding seg_of
made_plainly r bs e = rw e (tested_plainly bs (is_segment bs) refl)
