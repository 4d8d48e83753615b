-- Fields that Increment and Decrement read and write (ACPI 6.5, 19.6: Decrement, Increment).
use Rattle.std.specs.Prelude.{◌≡◌, ℕ, suc, List, ◌∷◌, take, Ok}
use Rattle.ar_space.specs.declared.integer_width.IntegerWidth.{IntegerWidth}
use Rattle.ar_space.specs.Accesses.{Accesses}
use Rattle.aml_path.specs.declared.segment.Seg.{Seg}
use Rattle.aml_path.specs.Paths.{Name}
use Rattle.aml_grammar.specs.declared.opcode.Opcode.{Opcode}
use Rattle.aml_grammar.specs.Tree.{name}
use Rattle.aml_objects.specs.Contents.{Integer}
use Rattle.aml_objects.specs.declared.entry.Field.{Field}
use Rattle.aml_convert.specs.Conversions.{to_buffer_of}
use Rattle.aml_convert.specs.Integers.{bytes_of}
use Rattle.aml_world.specs.state.State.{State}
use Rattle.aml_laws.specs.FieldNames.{NamesField, bits_read_at, bits_written_at}
use Rattle.aml_laws.specs.IntegersOfValues.{lowest_first}
use Rattle.aml_laws.specs.OperatorTerms.{counting, Gives}

-- what an operator makes of the integer that the bits of a field are, which is written back as the field's bits and is its value
abbrev pub CountsField : Type 0 → Opcode → (IntegerWidth → ℕ → ℕ → Type 0) → Type 0
CountsField S op Is = (accesses : Accesses S) (scope : List Seg) (depth : ℕ) (n : Name) (w : State S) (steps : ℕ) (f : Field) (bits b : ℕ) (bytes : List ℕ) (between : State S × ℕ) → NamesField w scope n f bits → bits_read_at accesses depth f (w, steps) ≡ (Ok (b ∷ bytes), between)
    → (m : ℕ) × Is between.0.width (lowest_first (take (bytes_of between.0.width) (b ∷ bytes))) m
    × ((out : List ℕ) (after : State S × ℕ) → to_buffer_of between.0.width (Integer m) ≡ Ok out → bits_written_at accesses depth f out between ≡ (Ok tt, after) → Gives accesses scope depth (counting op (name n)) (w, suc steps) m after)
