-- One entry of a MADT more, in the search for the first override of a source.
use Rattle.std.proofs.Common.{◌≡◌, ◌∙◌, ap, sym, ℕ, List, [], ◌∷◌, Option, Some, None}
use Rattle.std.specs.Prelude.{unwrap_or}
use Rattle.ar_tables.specs.declared.madt.MadtEntry.{MadtEntry}
use Rattle.ar_tables.specs.SciSources.{gsi_in, gsi_among}

module _ (source all : ℕ) (entries rest : List MadtEntry) (entry : MadtEntry) (so_far : all ≡ gsi_among entries source) (first : entries ≡ entry ∷ rest) where
  turn : all ≡ unwrap_or (gsi_in entry source) (gsi_among rest source)
  unfolding gsi_among
  turn = so_far ∙ ap (λ xs. gsi_among xs source) first

  pub overridden : (gsi : ℕ) → Some gsi ≡ gsi_in entry source → gsi ≡ all
  overridden gsi is = sym (turn ∙ ap (λ found. unwrap_or found (gsi_among rest source)) (sym is))

  pub passed_over : (found : Option ℕ) → found ≡ gsi_in entry source → found ≡ None → all ≡ gsi_among rest source
  passed_over found is none = turn ∙ ap (λ found. unwrap_or found (gsi_among rest source)) (sym is ∙ none)

pub not_overridden : (source all : ℕ) (entries : List MadtEntry) → all ≡ gsi_among entries source → entries ≡ [] → source ≡ all
unfolding gsi_among
not_overridden source all entries so_far none = sym (so_far ∙ ap (λ xs. gsi_among xs source) none)
