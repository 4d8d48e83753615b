use Rattle.std.specs.Prelude.{◌≡◌}
use Rattle.std.proofs.Common.{◌∙◌, ap, sym, rules, arith}
use Rattle.aml_scan.specs.RowsAt.{row_at}
use Rattle.aml_meaning.specs.declared.term_kind.DataKind.TheVariants as datas
use Rattle.aml_meaning.specs.declared.term_kind.TermKind.TheVariants as kinds
use Rattle.aml_frames.specs.Operands.{row_kind}
use Rattle.aml_declarations.proofs.MadeValues.{buffer_ends, each_refusal, each_value, handed_on, text_ends, text_leads, text_refused}
use Rattle.aml_frames.proofs.Stepping.{kind_there, leads_data}
use Rattle.aml_operators.proofs.short_values.coded_value.Goals as goal

pub returns-in_err-text-in-Data-String : goal.returns-in_err-text-in-Data-String
returns-in_err-text-in-Data-String g c = record {
  value = first_of (search rules, grind arith);
  refused =
      let kind : row_kind (row_at c.args.place) ≡ kinds.Data datas.String = kind_there c.args.place c.row.result.now c.row.ensures ∙ (sym c.kind_of.ensures ∙ (c.in-Data-String.is ∙ ap kinds.Data c.in-Data-String.field-0-is)) in
      handed_on _ c.from_residual.result _ (leads_data c.args.act.now c.args.levels datas.String c.args.place kind (text_refused c.args.act.now _ c.in_err-text-in-Data-String.ensures.made)) c.from_residual.ensures;
  behind = first_of (search rules, grind arith);
  spent = first_of (search rules, grind arith);
  kept = first_of (search rules, grind arith);
  moves = first_of (search rules, grind arith);
}

pub returns-in_ok-text-in-Data-String : goal.returns-in_ok-text-in-Data-String
returns-in_ok-text-in-Data-String g c = record {
  value =
      let kind : row_kind (row_at c.args.place) ≡ kinds.Data datas.String = kind_there c.args.place c.row.result.now c.row.ensures ∙ (sym c.kind_of.ensures ∙ (c.in-Data-String.is ∙ ap kinds.Data c.in-Data-String.field-0-is)) in
      leads_data c.args.act.now c.args.levels datas.String c.args.place kind (text_leads c.args.act.now _ c.in_ok-text-in-Data-String.ensures.made);
  refused = first_of (search rules, grind arith);
  behind =
      let kind : row_kind (row_at c.args.place) ≡ kinds.Data datas.String = kind_there c.args.place c.row.result.now c.row.ensures ∙ (sym c.kind_of.ensures ∙ (c.in-Data-String.is ∙ ap kinds.Data c.in-Data-String.field-0-is)) in
      text_ends c.make_text.new.act c.args.act.now c.args.levels c.args.place kind c.in_ok-text-in-Data-String.ensures.behind;
  spent = first_of (search rules, grind arith);
  kept = first_of (search rules, grind arith);
  moves = first_of (search rules, grind arith);
}

pub returns-in-Data-Buffer : goal.returns-in-Data-Buffer
returns-in-Data-Buffer g c = record {
  value =
      let kind : row_kind (row_at c.args.place) ≡ kinds.Data datas.Buffer = kind_there c.args.place c.row.result.now c.row.ensures ∙ (sym c.kind_of.ensures ∙ (c.in-Data-Buffer.is ∙ ap kinds.Data c.in-Data-Buffer.field-0-is)) in
      each_value _ _ c.sized_buffer.result (λ v l. leads_data c.args.act.now c.args.levels datas.Buffer c.args.place kind l) c.sized_buffer.ensures.value;
  refused =
      let kind : row_kind (row_at c.args.place) ≡ kinds.Data datas.Buffer = kind_there c.args.place c.row.result.now c.row.ensures ∙ (sym c.kind_of.ensures ∙ (c.in-Data-Buffer.is ∙ ap kinds.Data c.in-Data-Buffer.field-0-is)) in
      each_refusal _ _ c.sized_buffer.result (λ e l. leads_data c.args.act.now c.args.levels datas.Buffer c.args.place kind l) c.sized_buffer.ensures.refused;
  behind =
      let kind : row_kind (row_at c.args.place) ≡ kinds.Data datas.Buffer = kind_there c.args.place c.row.result.now c.row.ensures ∙ (sym c.kind_of.ensures ∙ (c.in-Data-Buffer.is ∙ ap kinds.Data c.in-Data-Buffer.field-0-is)) in
      each_value _ _ c.sized_buffer.result (λ v e. buffer_ends _ c.args.act.now c.args.levels c.args.place kind e) c.sized_buffer.ensures.behind;
  spent = first_of (search rules, grind arith);
  kept = first_of (search rules, grind arith);
  moves = first_of (search rules, grind arith);
}
