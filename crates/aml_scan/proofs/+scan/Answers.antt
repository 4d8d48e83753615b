use Rattle.std.proofs.Common.{◌-◌, ◌<◌, length, refl, sym, ◌∙◌, arith}
use Rattle.ar_space.specs.Change.{◌>>=◌}
use Rattle.aml_grammar.specs.declared.context.Position.TheVariants as positions
use Rattle.aml_grammar.specs.State.{enter, leave}
use Rattle.aml_grammar.specs.Tree.{list}
use Rattle.aml_grammar.specs.Shape.{trees_of}
use Rattle.aml_grammar.specs.Grammar.{by_arities, term_at, term_operand, list_operand, fields_operand, operand, items, field, fields}
use Rattle.aml_scan.specs.Scanned.{kept}
use Rattle.aml_scan.proofs.Scans.{kept_keeping, kept_ok, kept_kept_ok, kept_kept_err, kept_leave, scanned_wrapped, scanned_term}
use Rattle.aml_scan.proofs.ScanLoops.{times_turn, times_err, times_done, until_turn, until_err, until_done, operands_turn, operands_err, operands_end, operands_done}
use Rattle.aml_scan.proofs.+scan.Goals as goal

-- ---- arguments

pub terms::arguments-returns-in_err-term-clause-reads : goal.terms::arguments-returns-in_err-term-clause-reads
terms::arguments-returns-in_err-term-clause-reads g t c = times_err (term_at by_arities c.args.levels positions.TermArg c.args.scope.now c.args.context) c.args.count c.arguments.counter c.arguments-test.true c.arguments.invariant.so_far c.in_err-term.ensures.reads c.from_residual.ensures

pub terms::arguments-arguments-preserved : goal.terms::arguments-arguments-preserved
terms::arguments-arguments-preserved g t c = record {
  so_far = times_turn (term_at by_arities c.args.levels positions.TermArg c.args.scope.now c.args.context) c.args.count c.arguments.counter c.arguments-test.true c.arguments.invariant.so_far c.in_ok-term.ensures.reads;
  kept = omega (arith, c.in_ok-term.ensures.shorter, c.arguments.invariant.kept);
}

pub terms::arguments-returns-clause-reads : goal.terms::arguments-returns-clause-reads
terms::arguments-returns-clause-reads g t c = times_done (term_at by_arities c.args.levels positions.TermArg c.args.scope.now c.args.context) c.args.count c.arguments.counter c.arguments-test.false c.arguments.invariant.so_far

-- ---- items

pub terms::items-items-preserved : goal.terms::items-items-preserved
terms::items-items-preserved g t c =
    let some : 0 < length c.items.reader.rest = grind arith in
    record {
      turns = c.items.invariant.turns - 1;
      so_far = until_turn (term_at by_arities c.args.levels c.args.position c.args.scope.now c.args.context) c.items.invariant.turns some (omega (arith, some, c.items.invariant.room)) c.items.invariant.so_far c.in_ok-term.ensures.reads;
      room = omega (arith, c.in_ok-term.ensures.shorter, c.items.invariant.room);
      kept = omega (arith, c.in_ok-term.ensures.shorter, c.items.invariant.kept);
    }

pub terms::items-returns-in_err-term-clause-reads : goal.terms::items-returns-in_err-term-clause-reads
unfolding items kept
terms::items-returns-in_err-term-clause-reads g t c =
    let some : 0 < length c.items.reader.rest = grind arith in
    record { is = (until_err (term_at by_arities c.args.levels c.args.position c.args.scope.now c.args.context) c.items.invariant.turns some (omega (arith, some, c.items.invariant.room)) c.items.invariant.so_far c.in_err-term.ensures.reads c.from_residual.ensures).is }

pub terms::items-returns-clause-reads : goal.terms::items-returns-clause-reads
unfolding items kept
terms::items-returns-clause-reads g t c = record { is = (until_done (term_at by_arities c.args.levels c.args.position c.args.scope.now c.args.context) c.items.invariant.turns (grind arith) c.items.invariant.so_far).is }

-- ---- fields

pub places::fields-fields-preserved : goal.places::fields-fields-preserved
places::fields-fields-preserved g t c =
    let some : 0 < length c.fields.reader.rest = grind arith in
    record {
      turns = c.fields.invariant.turns - 1;
      so_far = until_turn (field (term_at by_arities c.args.levels) c.args.scope.now c.args.context) c.fields.invariant.turns some (omega (arith, some, c.fields.invariant.room)) c.fields.invariant.so_far c.in_ok-field.ensures.reads;
      room = omega (arith, c.in_ok-field.ensures.shorter, c.fields.invariant.room);
      kept = omega (arith, c.in_ok-field.ensures.shorter, c.fields.invariant.kept);
    }

pub places::fields-returns-in_err-field-clause-reads : goal.places::fields-returns-in_err-field-clause-reads
unfolding fields kept
places::fields-returns-in_err-field-clause-reads g t c =
    let some : 0 < length c.fields.reader.rest = grind arith in
    record { is = (until_err (field (term_at by_arities c.args.levels) c.args.scope.now c.args.context) c.fields.invariant.turns some (omega (arith, some, c.fields.invariant.room)) c.fields.invariant.so_far c.in_err-field.ensures.reads c.from_residual.ensures).is }

pub places::fields-returns-clause-reads : goal.places::fields-returns-clause-reads
unfolding fields kept
places::fields-returns-clause-reads g t c = record { is = (until_done (field (term_at by_arities c.args.levels) c.args.scope.now c.args.context) c.fields.invariant.turns (grind arith) c.fields.invariant.so_far).is }

-- ---- operands

pub terms::operands-returns-then-is_nothing-clause-reads : goal.terms::operands-returns-then-is_nothing-clause-reads
terms::operands-returns-then-is_nothing-clause-reads g t c = operands_end (term_at by_arities c.args.levels) c.args.start.scope.now c.args.start.context c.args.start.at c.args.kinds.now c.operands.kind-index _ c.operands.earlier (omega arith) c.operands.invariant.so_far (sym c.is_nothing.ensures ∙ c.if-is_nothing.true)

pub terms::operands-returns-in_err-operand-clause-reads : goal.terms::operands-returns-in_err-operand-clause-reads
terms::operands-returns-in_err-operand-clause-reads g t c = operands_err (term_at by_arities c.args.levels) c.args.start.scope.now c.args.start.context c.args.start.at c.args.kinds.now c.operands.kind-index _ c.operands.earlier (omega arith) c.operands.invariant.so_far (sym c.is_nothing.ensures ∙ c.if-is_nothing.false) c.in_err-operand.ensures.reads c.from_residual.ensures

pub terms::operands-operands-preserved : goal.terms::operands-operands-preserved
terms::operands-operands-preserved g t c = record {
  so_far = operands_turn (term_at by_arities c.args.levels) c.args.start.scope.now c.args.start.context c.args.start.at c.args.kinds.now c.operands.kind-index _ c.operands.earlier (omega arith) c.operands.invariant.so_far (sym c.is_nothing.ensures ∙ c.if-is_nothing.false) c.in_ok-operand.ensures.reads;
  kept = omega (arith, c.in_ok-operand.ensures.kept, c.operands.invariant.kept);
}

pub terms::operands-returns-clause-reads : goal.terms::operands-returns-clause-reads
terms::operands-returns-clause-reads g t c = operands_done (term_at by_arities c.args.levels) c.args.start.scope.now c.args.start.context c.args.start.at c.args.kinds.now c.operands.kind-index c.operands.earlier (omega arith) c.operands.invariant.so_far

-- ---- an operand that is a term

pub terms::operand-returns-in-TermArg-clause-reads : goal.terms::operand-returns-in-TermArg-clause-reads
unfolding operand
terms::operand-returns-in-TermArg-clause-reads g t c = rw c.in-TermArg.is (kept_keeping _ _ (term_operand (term_at by_arities c.args.levels) positions.TermArg c.args.start.scope.now c.args.start.context) (scanned_term _ _ _ _ c.term.ensures.reads))

pub terms::operand-returns-in-DataObject-clause-reads : goal.terms::operand-returns-in-DataObject-clause-reads
unfolding operand
terms::operand-returns-in-DataObject-clause-reads g t c = rw c.in-DataObject.is (kept_keeping _ _ (term_operand (term_at by_arities c.args.levels) positions.DataObject c.args.start.scope.now c.args.start.context) (scanned_term _ _ _ _ c.term-in-DataObject.ensures.reads))

-- ---- an operand that is a list of fields

pub terms::operand-returns-in-FieldList-clause-reads : goal.terms::operand-returns-in-FieldList-clause-reads
unfolding operand fields_operand
terms::operand-returns-in-FieldList-clause-reads g t c = rw c.in-FieldList.is (kept_keeping _ _ (fields_operand (term_at by_arities c.args.levels) c.args.start.scope.now c.args.start.context) (scanned_wrapped (λ ts. list (trees_of ts)) (fields (term_at by_arities c.args.levels) c.args.start.scope.now c.args.start.context) c.fields.ensures.reads))

-- ---- a list in a package

pub if_else::packed_list-returns-in_err-items-clause-reads : goal.if_else::packed_list-returns-in_err-items-clause-reads
unfolding list_operand
if_else::packed_list-returns-in_err-items-clause-reads g t c =
    let listed = list_operand (term_at by_arities c.args.levels) positions.ListItem c.args.scope.now c.args.context in
    kept_ok (λ _. tt) enter (λ outer. listed >>= (λ p. leave outer p)) c.in_ok-outer.ensures.reads
    (kept_kept_err (λ _. tt) (λ _. tt) listed (λ p. leave (c.in_ok-outer.outer.at, c.in_ok-outer.outer.rest.now) p)
    (scanned_wrapped (λ ts. list (trees_of ts)) (items (term_at by_arities c.args.levels) positions.ListItem c.args.scope.now c.args.context) c.in_err-items.ensures.reads)
    c.from_residual-in_err-items.ensures)

pub if_else::packed_list-returns-clause-reads : goal.if_else::packed_list-returns-clause-reads
unfolding list_operand
if_else::packed_list-returns-clause-reads g t c =
    let listed = list_operand (term_at by_arities c.args.levels) positions.ListItem c.args.scope.now c.args.context in
    kept_ok (λ _. tt) enter (λ outer. listed >>= (λ p. leave outer p)) c.in_ok-outer.ensures.reads
    (kept_kept_ok (λ _. tt) (λ _. tt) listed (λ p. leave (c.in_ok-outer.outer.at, c.in_ok-outer.outer.rest.now) p)
    (scanned_wrapped (λ ts. list (trees_of ts)) (items (term_at by_arities c.args.levels) positions.ListItem c.args.scope.now c.args.context) c.in_ok-items.ensures.reads)
    (λ p _. kept_leave (λ _. tt) (c.in_ok-outer.outer.at, c.in_ok-outer.outer.rest.now) p refl (sym c.leave.ensures)))
