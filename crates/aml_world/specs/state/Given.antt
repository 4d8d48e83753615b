-- Values outside a world: what callers hand in and what they are given.
use Rattle.std.specs.Prelude.{◌≡◌, ℕ, List, [], ◌∷◌, map, refl}
use Rattle.aml_path.specs.declared.segment.Seg.{Seg}
use Rattle.aml_world.specs.declared.state.datum.Datum as datum

mutual
  pub data Given : Type 0 where
    Nothing : Given
    Integer : ℕ → Given
    Text : List ℕ → Given
    Bytes : List ℕ → Given
    Package : Givens → Given
    Named : List Seg → Given
    Reference : Given

  pub data Givens : Type 0 where
    none : Givens
    more : Given → Givens → Givens

abbrev mutual
  pub given_of : datum.Datum → Given
  given_of datum.Nothing = Nothing
  given_of (datum.Integer n) = Integer n
  given_of (datum.Text bs) = Text bs
  given_of (datum.Bytes bs) = Bytes bs
  given_of (datum.Package' shape row) = Package (row_of row)
  given_of (datum.Named p) = Named p
  given_of datum.Reference = Reference

  pub row_of : {m : _} → datum.Row_of-Datum m → Givens
  row_of datum.end_of-Datum = none
  row_of (datum.more_of-Datum t rest) = more (given_of t) (row_of rest)

-- those of a list
abbrev pub givens : List Given → Givens
givens [] = none
givens (g ∷ gs) = more g (givens gs)
