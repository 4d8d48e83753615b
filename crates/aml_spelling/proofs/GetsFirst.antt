-- How spellings of terms begin.
use Rattle.std.proofs.Common.{◌≡◌, ℕ, List, [], ◌∷◌, ◌++◌, true, false, Some, refl, ◌∙◌, sym, ap, ◌⊎◌, inl, inr}
use Rattle.std.specs.Prelude.{◌==◌}
use Rattle.std.proofs.lemmas.Bool.{ne_eqb}
use Rattle.aml_grammar.specs.declared.opcode.TermCode.TheVariants as codes
use Rattle.aml_grammar.specs.declared.kinds.Row.{Row}
use Rattle.aml_grammar.specs.declared.context.Position.{Position}
use Rattle.aml_grammar.specs.declared.context.Position.TheVariants as positions
use Rattle.aml_grammar.specs.Opcodes.{number_of}
use Rattle.aml_grammar.specs.Table.{row_of}
use Rattle.aml_grammar.specs.Names.{starts_name}
use Rattle.aml_grammar.specs.State.{is_next}
use Rattle.aml_grammar.specs.Tree.{Tree, term, name, list, no_parts, part, Trees, no_trees, tree}
use Rattle.aml_scan.specs.Spelling.{Around, list_item, super_name, IsOpcode, Spells, SpellsAll}
use Rattle.aml_scan.proofs.SpelledRows.{place_of}
use Rattle.aml_spelling.proofs.GetsNames.{name_first}
use Rattle.aml_spelling.proofs.RowFacts.{is_place, is_after_if, row_begun, super_is_place, item_after_no_if}

-- an opcode is its number, or begins with ExtOpPrefix
opcode_first : (n : ℕ) (code : List ℕ) → IsOpcode n code → (b : ℕ) × (left : List ℕ) × (code ≡ b ∷ left) × ((b ≡ n) ⊎ (b ≡ 0x5B))
opcode_first n [] h = absurd h
opcode_first n (b ∷ []) h = (b, [], refl, inl (sym h))
opcode_first n (b ∷ e ∷ []) h = (b, e ∷ [], refl, inr h.0)
opcode_first n (b ∷ e ∷ f ∷ bs) h = absurd h

-- the first byte of a term with an opcode
pub record Coded (row : Row) (b : ℕ) : Type 0 where
  pub no_name : starts_name b ≡ false
  pub no_zero : is_place row.1 ≡ true → (b == 0) ≡ false
  pub no_else : is_after_if row.1 ≡ false → (b == 0xA1) ≡ false

coded : (n b : ℕ) (row : Row) → row_of n ≡ Some row → (b ≡ n) ⊎ (b ≡ 0x5B) → Coded row b
unfolding starts_name
coded n b row is (inl e) = let h = row_begun n row is in rw e (record { no_name = h.no_name; no_zero = h.no_zero; no_else = h.no_else })
coded n b row is (inr e) = rw e (record { no_name = refl; no_zero = λ _. refl; no_else = λ _. refl })

pub coded_first : (n : ℕ) (code : List ℕ) (row : Row) → IsOpcode n code → row_of n ≡ Some row → (b : ℕ) × (left : List ℕ) × (code ≡ b ∷ left) × Coded row b
coded_first n code row h is = let k = opcode_first n code h in (k.0, k.1, k.2, coded n k.0 row is k.3)

-- a name is no Else
name_no_else : (b : ℕ) → starts_name b ≡ true → (b == 0xA1) ≡ false
unfolding starts_name
name_no_else b is = ne_eqb b 0xA1 (λ e. cc (rw e at is))

-- the first byte of a term's spelling where an operand stands
pub term_first : (around : Around) (position : Position) (t : Tree) (spelling : List ℕ) → Spells around (place_of position) t spelling → (b : ℕ) × (left : List ℕ) × (spelling ≡ b ∷ left)
unfolding Spells
term_first around position (term (codes.Opcode o) ps) spelling h =
    let k = opcode_first (number_of o) h.3 h.7 in
    (k.0, k.1 ++ (h.4 ++ h.5), h.6 ∙ ap (λ l. l ++ (h.4 ++ h.5)) k.2)
term_first around position (term codes.MethodInvocation (part (name n) (part (list ts) no_parts))) spelling h =
    let k = name_first n h.1 h.4 in
    (k.0, k.1 ++ h.2, h.3 ∙ ap (λ l. l ++ h.2) k.2)
term_first around positions.PackageElement (term codes.Name (part (name n) no_parts)) spelling h = let k = name_first n spelling h in (k.0, k.1, k.2)
term_first around positions.ListItem t spelling h = absurd h
term_first around positions.TermArg t spelling h = absurd h
term_first around positions.DataObject t spelling h = absurd h
term_first around positions.PackageElement t spelling h = absurd h
term_first around positions.SuperName t spelling h = absurd h

-- no item of a list begins as an Else
pub item_no_else : (around : Around) (t : Tree) (spelling rest : List ℕ) → Spells around list_item t spelling → is_next 0xA1 (spelling ++ rest) ≡ false
unfolding Spells
item_no_else around (term (codes.Opcode o) ps) spelling rest h =
    let k = coded_first (number_of o) h.3 h.0 h.7 h.1 in
    let first : spelling ++ rest ≡ k.0 ∷ ((k.1 ++ (h.4 ++ h.5)) ++ rest) = ap (λ l. l ++ rest) (h.6 ∙ ap (λ l. l ++ (h.4 ++ h.5)) k.2) in
    ap (λ l. is_next 0xA1 l) first ∙ k.3.no_else (item_after_no_if around h.0.1 h.2)
item_no_else around (term codes.MethodInvocation (part (name n) (part (list ts) no_parts))) spelling rest h =
    let k = name_first n h.1 h.4 in
    let first : spelling ++ rest ≡ k.0 ∷ ((k.1 ++ h.2) ++ rest) = ap (λ l. l ++ rest) (h.3 ∙ ap (λ l. l ++ h.2) k.2) in
    ap (λ l. is_next 0xA1 l) first ∙ name_no_else k.0 k.4
item_no_else around t spelling rest h = absurd h

pub items_no_else : (around : Around) (ts : Trees) (spelling : List ℕ) → SpellsAll around list_item ts spelling → is_next 0xA1 spelling ≡ false
unfolding Spells
items_no_else around no_trees spelling h = rw h refl
items_no_else around (tree t ts) spelling h = ap (λ l. is_next 0xA1 l) h.2 ∙ item_no_else around t h.0 h.1 h.3

-- a place begins with neither a zero nor a name
pub place_first : (around : Around) (t : Tree) (spelling : List ℕ) → Spells around super_name t spelling → (b : ℕ) × (left : List ℕ) × (spelling ≡ b ∷ left) × ((b == 0) ≡ false) × (starts_name b ≡ false)
unfolding Spells
place_first around (term (codes.Opcode o) ps) spelling h =
    let k = coded_first (number_of o) h.3 h.0 h.7 h.1 in
    (k.0, k.1 ++ (h.4 ++ h.5), h.6 ∙ ap (λ l. l ++ (h.4 ++ h.5)) k.2, k.3.no_zero (super_is_place around h.0.1 h.2), k.3.no_name)
place_first around (term codes.MethodInvocation (part (name n) (part (list ts) no_parts))) spelling h = absurd (cc h.0)
place_first around t spelling h = absurd h
