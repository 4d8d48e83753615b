-- What a scan leaves, copied from its bytes, is what reading gives.
use Rattle.std.specs.Prelude.{◌≡◌, List, [], ◌∷◌, false, ℕ, Ok, refl}
use Rattle.std.proofs.Common.{◌∙◌, sym, ap}
use Rattle.ar_space.specs.Outcome.{Outcome, Answers, NotMemory, seen}
use Rattle.ar_space.proofs.Outcomes.{answering}
use Rattle.aml_arities.specs.declared.arities.Arity.{Arity}
use Rattle.aml_grammar.specs.declared.marks.Mark.{Mark}
use Rattle.aml_grammar.specs.Tree.{Tree, Trees}
use Rattle.aml_grammar.specs.Shape.{trees_of}
use Rattle.aml_grammar.specs.Grammar.{term_list, by_arities, table_reading}
use Rattle.aml_marks.specs.Marked.{trees_by}
use Rattle.aml_scan.specs.Scanned.{noted}
use Rattle.aml_terms.specs.Copying.{trees_list}
use Rattle.aml_marks.proofs.Scans.{table_ok, scanning}

listed : (ts : List Tree) → trees_list (trees_of ts) ≡ ts
listed [] = refl
listed (t ∷ ts) = ap (λ l. t ∷ l) (listed ts)

-- a copy of what was read
pub copied_ok : {B : Type 0} (r : Outcome B) (view : B → List Tree) (read : List Tree) (ts : Trees) (x : Outcome (List Tree)) → Answers (Ok read) x → ts ≡ trees_of read → Answers (seen view r) (Ok (trees_list ts)) → Answers (seen view r) x
copied_ok r view read ts x h is i = record { is = λ ne. h.is tt ∙ ap (λ l. Ok l) (sym (ap trees_list is ∙ listed read)) ∙ i.is ne }

-- a copy of what a table holds, and the arities behind it
pub copied_table : (bs : List ℕ) (known after all : List Arity) (marks : List Mark) (items : List Tree) (ts : Trees) → Answers (Ok (marks, after)) (noted (term_list by_arities bs [] false known)) → ts ≡ trees_of (trees_by marks bs) → Answers (Ok items) (Ok (trees_list ts)) → all ≡ after → Answers (Ok (items, all)) (table_reading bs known)
copied_table bs known after all marks items ts h is i so =
    let same : trees_list ts ≡ items = cc (i.is tt) in
    let read : trees_by marks bs ≡ items = sym (ap trees_list is ∙ listed (trees_by marks bs)) ∙ same in
    record { is = λ ne. (table_ok bs known marks after h).is tt ∙ ap (λ l. Ok (l, after)) read ∙ ap (λ a. Ok (items, a)) (sym so) }

pub ruleset parsing = (scanning, copied_ok, copied_table, answering)
