use Rattle.std.proofs.Common.{ap, ◌∙◌, ◌++◌}
use Rattle.acpi_explain.proofs.links.link_texts.Goals as goal

pub returns : goal.returns
returns g c = record {
  set = c.set_links.new.machine;
  sets = c.in_ok-text.text.items;
  reads = c.in_ok-reads.reads.items;
  are_set = c.in_ok-text.ensures;
  are_read = c.in_ok-reads.ensures;
  is = c.in_ok-extend_from_slice.ensures.items ∙ ap (λ t. c.in_ok-text.text.items ++ t) c.deref.ensures.value;
}
