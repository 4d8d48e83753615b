-- The lines that tell what the wide profile passed over.
use Rattle.std.specs.Prelude.{ℕ, ◌-◌, ◌==◌, List, [], ◌∷◌, ◌++◌, length, codes, decimal, if◌then◌else◌}
use Rattle.ar_space.specs.Numbers.{number_of}
use Rattle.ar_space.specs.declared.refusal.Refusal.{Refusal}
use Rattle.aml_path.specs.Text.{text_of}
use Rattle.aml_world.specs.declared.state.passed_over.PassedItem.{PassedItem}
use Rattle.aml_world.specs.state.PassedOver.{PassedOver}
use Rattle.acpiroute_shell.specs.ErrorLines.{detail_of}

-- the number of a refusal, and what the line of a refusal has behind it
abbrev pub number_words : Refusal → List ℕ
number_words r = decimal (number_of r) ++ detail_of r

-- `passed R P`, with the path of the scope
abbrev pub passed_line : PassedItem → List ℕ
passed_line item = codes "passed " ++ (number_words item.refusal ++ (codes " " ++ (text_of item.scope ++ codes "\n")))

abbrev pub passed_list : List PassedItem → List ℕ
passed_list [] = []
passed_list (item ∷ items) = passed_line item ++ passed_list items

-- `passed N more`, where not all were kept
abbrev pub more_line : ℕ → List ℕ
more_line n = if n == 0 then [] else codes "passed " ++ (decimal n ++ codes " more\n")

abbrev pub passed_lines : PassedOver → List ℕ
passed_lines p = passed_list p.kept ++ more_line (p.count - length p.kept)
