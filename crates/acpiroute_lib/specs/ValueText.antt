-- A value as text.
use Rattle.std.specs.Prelude.{ℕ, ◌+◌, List, [], ◌∷◌, ◌++◌, codes, decimal}
use Rattle.hex.specs.Hex.{encode_upper}
use Rattle.aml_path.specs.Text.{text_of}
use Rattle.aml_world.specs.state.Given as given

-- two upper-case hexadecimal digits a byte, and `-` for no byte
abbrev pub bytes_text : List ℕ → List ℕ
bytes_text [] = codes "-"
bytes_text (b ∷ bs) = encode_upper (b ∷ bs)

-- how many elements a package has
abbrev pub count : given.Givens → ℕ
count given.none = 0
count (given.more g gs) = count gs + 1

-- n elements between brackets
abbrev pub package_text : ℕ → List ℕ → List ℕ
package_text n elements = codes "package " ++ (decimal n ++ (codes " (" ++ (elements ++ codes " )")))

-- the word of a kind, and the value; the elements of a package stand between brackets, behind their count
abbrev mutual
  pub value_text : given.Given → List ℕ
  value_text given.Nothing = codes "none"
  value_text (given.Integer n) = codes "integer " ++ decimal n
  value_text (given.Text bytes) = codes "string " ++ bytes_text bytes
  value_text (given.Bytes bytes) = codes "buffer " ++ bytes_text bytes
  value_text (given.Package gs) = package_text (count gs) (elements_text gs)
  value_text (given.Named path) = codes "name " ++ text_of path
  value_text given.Reference = codes "reference"

  -- each behind a blank
  pub elements_text : given.Givens → List ℕ
  elements_text given.none = []
  elements_text (given.more g gs) = codes " " ++ (value_text g ++ elements_text gs)
