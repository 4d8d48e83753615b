-- Terms that begin: by their opcodes, as calls, or refused.
use Rattle.std.specs.Prelude.{◌≡◌, ◌≢◌, ◌-◌, ℕ, zero, suc, List, false, Some, Err, refl}
use Rattle.std.proofs.Common.{◌∙◌, ap, sym, subst}
use Rattle.ar_space.specs.Accesses.{Accesses}
use Rattle.ar_space.specs.Outcome.{Outcome}
use Rattle.ar_space.specs.Change.{stop, settle, go_on, ◌>>=◌}
use Rattle.ar_space.specs.declared.refusal.Refusal.{Refusal}
use Rattle.ar_space.specs.declared.refusal.Refusal.TheVariants as refusal
use Rattle.ar_space.specs.declared.refusal.EvaluationFault.TheVariants.{Unsupported}
use Rattle.ar_space.specs.declared.refusal.NameFault.TheVariants.{BadName}
use Rattle.aml_path.specs.declared.segment.Seg.{Seg}
use Rattle.aml_path.specs.Paths.{Name}
use Rattle.aml_grammar.specs.Apart.{code_of}
use Rattle.aml_grammar.specs.Opcodes.{number_of}
use Rattle.aml_grammar.specs.Shape.{trees_of}
use Rattle.aml_grammar.specs.Tree.{Tree, Trees, term, name, list, no_parts, part}
use Rattle.aml_grammar.specs.declared.kinds.Row.{Row}
use Rattle.aml_grammar.specs.declared.opcode.TermCode.{TermCode}
use Rattle.aml_grammar.specs.declared.opcode.TermCode.TheVariants as codes
use Rattle.aml_grammar.specs.declared.opcode.Opcode.{Opcode}
use Rattle.aml_marks.specs.Marked.{Place, Below, Walk, after, gives, count_at, a_term, a_name, a_call, turns_of, with_row}
use Rattle.aml_scan.specs.RowsAt.{row_at}
use Rattle.aml_scan.specs.declared.row_places.RowPlace.{RowPlace}
use Rattle.aml_world.specs.state.State.{State}
use Rattle.aml_world.specs.state.Run.{Run, lift}
use Rattle.aml_world.specs.state.Invocations.{invocation_found}
use Rattle.aml_meaning.specs.declared.flow.Flow.{Flow}
use Rattle.aml_meaning.specs.declared.term_kind.TermKind.TheVariants as kinds
use Rattle.aml_meaning.specs.Terms.{kind_of, count_of}
use Rattle.aml_meaning.specs.Tasks.{Task}
use Rattle.aml_meaning.specs.InvocationTerms.{name_value, invocation_rule}
use Rattle.aml_meaning.specs.Evaluation.{kind_rule, code_rule}
use Rattle.aml_meaning.specs.Meaning.{meaning}
use Rattle.aml_frames.specs.declared.frames.Next.{Next}
use Rattle.aml_frames.specs.Places.{Site, at_place, terms, next_term, behind_term}
use Rattle.aml_frames.specs.Follow.{name_run, behind_name_at, begun_run, coded_run, Leads, EndsAt}
use Rattle.aml_frames.proofs.OperandShapes.{code_stands}

-- ---- a name with its arguments

count_turns : (w : Walk Tree) (n : ℕ) (p : Place) → count_of (trees_of (turns_of w n p).0) ≡ n
unfolding turns_of after gives
count_turns w zero p = refl
count_turns w (suc n) p = ap suc (count_turns w n (w p).1)

module _ {S : Type 0} (ac : Accesses S) (ev : Task → Run S Flow) (scope : List Seg) (depth : ℕ) where
  named_is : (c : TermCode) (n : Name) (ts : Trees) → name_value ac ev scope depth (term c (part (name n) (part (list ts) no_parts))) ≡ (lift (invocation_found scope n (count_of ts)) >>= (λ i. invocation_rule ac ev scope depth ts i))
  unfolding name_value settle ◌>>=◌ go_on
  named_is c n ts = refl

  -- a term that is no call and has no opcode
  no_rule : (c : TermCode) (t : Tree) → ((opcode : Opcode) → c ≢ codes.Opcode opcode) → c ≢ codes.MethodInvocation → code_rule ac ev c scope depth t ≡ stop (refusal.Name BadName)
  no_rule (codes.Opcode op) t h k = absurd (h op refl)
  no_rule codes.MethodInvocation t h k = absurd (k refl)
  no_rule codes.Name t h k = refl
  no_rule codes.NamedField t h k = refl
  no_rule codes.ReservedField t h k = refl
  no_rule codes.AccessField t h k = refl
  no_rule codes.ExtendedAccessField t h k = refl
  no_rule codes.ConnectField t h k = refl

call_tree : (b : Below) (count : ℕ → ℕ) (p : Place) → a_call b count p ≡ (term codes.MethodInvocation (part (name (a_name p).0) (part (list (trees_of (turns_of (b false) (count p.at) (a_name p).1).0)) no_parts)), (turns_of (b false) (count p.at) (a_name p).1).1)
unfolding a_call after gives
call_tree b count p = refl

pub ends_call : (r : Outcome Next) (e c : Site) (levels : ℕ) → a_term (count_at c.marks) levels false c.place ≡ a_call (a_term (count_at c.marks) (levels - 1)) (count_at c.marks) c.place → EndsAt r e (behind_name_at c (levels - 1)) → EndsAt r e (behind_term c levels)
ends_call r e c levels h l = subst (λ (y : Tree × Place). EndsAt r e (at_place c y.1)) (sym (h ∙ call_tree (a_term (count_at c.marks) (levels - 1)) (count_at c.marks) c.place)) l

module _ {S : Type 0} {ac : Accesses S} where
  pub leads_call : {r : Outcome Next} {d : Site} {s s1 : State S × ℕ} (c : Site) (levels : ℕ) → a_term (count_at c.marks) levels false c.place ≡ a_call (a_term (count_at c.marks) (levels - 1)) (count_at c.marks) c.place → Leads ac (meaning ac) r d s1 (name_run ac (meaning ac) c (levels - 1)) s → Leads ac (meaning ac) r d s1 (begun_run ac (meaning ac) c levels) s
  unfolding name_run
  leads_call {r = r} {d = d} {s = s} {s1 = s1} c levels h l =
      let b = a_term (count_at c.marks) (levels - 1) in
      let n = (a_name c.place).0 in
      let ts = trees_of (turns_of (b false) (count_at c.marks c.place.at) (a_name c.place).1).0 in
      let many : count_of ts ≡ count_at c.marks c.place.at = count_turns (b false) (count_at c.marks c.place.at) (a_name c.place).1 in
      subst (λ (y : Tree × Place). Leads ac (meaning ac) r d s1 (code_rule ac (meaning ac) (code_of y.0) c.scope c.depth y.0) s) (sym (h ∙ call_tree b (count_at c.marks) c.place))
      (subst (λ (m : Run S Flow). Leads ac (meaning ac) r d s1 m s) (sym (named_is ac (meaning ac) c.scope c.depth codes.MethodInvocation n ts ∙ ap (λ k. lift (invocation_found c.scope n k) >>= (λ i. invocation_rule ac (meaning ac) c.scope c.depth ts i)) many)) l)

  pub leads_no_term : {d : Site} {s : State S × ℕ} (c : Site) (levels : ℕ) → ((opcode : Opcode) → code_of (next_term c levels) ≢ codes.Opcode opcode) → code_of (next_term c levels) ≢ codes.MethodInvocation → Leads ac (meaning ac) (Err (refusal.Name BadName)) d s (begun_run ac (meaning ac) c levels) s
  leads_no_term {s = s} c levels h k = record { is = λ _. ap (λ (m : Run S Flow). m s) (no_rule ac (meaning ac) c.scope c.depth (code_of (next_term c levels)) (next_term c levels) h k) }

  -- ---- a term that isn't evaluated

  pub leads_unsupported : {d : Site} {s : State S × ℕ} (c : Site) (levels : ℕ) (o : RowPlace) (row : Row) (x : Refusal) → Some row ≡ row_at o → kind_of row.0 ≡ kinds.Unsupported → x ≡ refusal.Evaluation (Unsupported (number_of row.0)) → Leads ac (meaning ac) (Err x) d s (coded_run ac (meaning ac) o c levels) s
  leads_unsupported {s = s} c levels o row x e k i =
      let b = terms c levels in
      let t = (with_row b (row_at o) c.place).0 in
      let code : code_of t ≡ codes.Opcode row.0 = ap (λ r. code_of (with_row b r c.place).0) (sym e) ∙ code_stands b row c.place _ refl in
      record {
        is = λ _.
            ap (λ y. code_rule ac (meaning ac) y c.scope c.depth t s) code
            ∙ ap (λ y. kind_rule ac (meaning ac) y row.0 c.scope c.depth t s) k
            ∙ ap (λ y. stop y s) (sym i);
      }
