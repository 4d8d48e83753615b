-- The trees of terms. A term has a code and operands; an operand is absent, or one of these.
use Rattle.std.specs.Prelude.{ℕ, List}
use Rattle.aml_path.specs.Paths.{Name}
use Rattle.aml_grammar.specs.declared.opcode.TermCode.{TermCode}

mutual
  pub data Tree : Type 0 where
    term : TermCode → Parts → Tree

  pub data Part : Type 0 where
    null : Part
    name : Name → Part
    number : ℕ → Part
    bytes : List ℕ → Part
    inner : Tree → Part
    list : Trees → Part

  pub data Parts : Type 0 where
    no_parts : Parts
    part : Part → Parts → Parts

  pub data Trees : Type 0 where
    no_trees : Trees
    tree : Tree → Trees → Trees
