use Rattle.std.proofs.Common.{◌∙◌, ap, sym, ◌-◌}
use Rattle.aml_marks.specs.Marked.{a_term, with_row}
use Rattle.aml_scan.specs.RowsAt.{row_at}
use Rattle.aml_frames.specs.Places.{Site}
use Rattle.aml_frames.proofs.Between.{term_taken}
use Rattle.aml_frames.proofs.activation.Activation.take_opcode.Goals as goal

pub returns-clause-term : goal.returns-clause-term
returns-clause-term c place count element e =
    term_taken count c.args.levels element (row_at place) c.position_of-position.result.at c.position_of-position.result.end c.args.self.now.bytes c.args.self.now.place c.cursor-cursor.result c.take_opcode-place.new.self
    c.cursor-cursor.ensures.stands c.cursor-cursor.ensures.place c.take_opcode-place.ensures.moves c.position_of-position.ensures.at c.position_of-position.ensures.end (c.take_opcode-place.ensures.term place count element e)
    ∙ ap (λ (s : Site). with_row (a_term count (c.args.levels - 1)) (row_at place) s.place) (sym c.go_to.ensures)
