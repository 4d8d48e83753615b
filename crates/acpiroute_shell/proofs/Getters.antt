-- What the getters of clap's matches read, by the rows of the definition.
use Rattle.std.proofs.Common.{◌≡◌, ℕ, List}
use Rattle.std.specs.Prelude.{option_map}
use Rattle.clap.specs.Words.{all_of, first_of, first_value, matched_of, raw_values, rows_of}
use Rattle.clap.specs.declared.parser.matches.Found.{Found}
use Rattle.clap.proofs.WalkLemmas.{first_value-rows, raw_values-rows}

pub first_text : (f : Found) (id : List ℕ) → first_value f id ≡ first_of id (rows_of f)
first_text f id = first_value-rows f id

pub all_texts : (f : Found) (id : List ℕ) → option_map raw_values (matched_of f id) ≡ all_of id (rows_of f)
all_texts f id = raw_values-rows f id

pub ruleset texts = (first_text, all_texts)
