use Rattle.aml_spelling.proofs.WithinLevels.{within_stands, within_read, whole_stands, whole_read}
use Rattle.aml_spelling.proofs.laws.read_within_levels_exactly_if_spelled.Goals as goal

pub returns : goal.returns
returns c = record {
  few = λ levels bs scope body known ts le. (λ h. let k = within_stands levels bs scope body known ts le h in (k.0, k.1.0, k.1.1), λ h. within_read levels bs scope body known ts h.1 le h.0 h.2);
  many = λ levels bs scope body known ts le. (λ h. let k = whole_stands levels bs scope body known ts le h in (k.0, k.1.0, k.1.1), λ h. whole_read levels bs scope body known ts h.1 le h.0 h.2);
}
