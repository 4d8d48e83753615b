use Rattle.std.proofs.Common.{◌∙◌, ap, ◌++◌}
use Rattle.acpi_explain.specs.Explaining.{refusal_line, stage_line, access_line, help_line}
use Rattle.acpi_explain.proofs.Putting.{five_put}
use Rattle.acpi_explain.proofs.explaining.refused_text.Goals as goal

pub returns : goal.returns
returns c =
    let stage = stage_line c.args.stage.now in
    let places = c.args.traced.now.places.items in
    let access = access_line c.args.access in
    let steps = c.args.traced.now.steps.items in
    let help = help_line c.args.help.now.help.items in
    five_put c.in_ok-text.text.items c.put_stage_line.new.text.items c.extend_from_slice.new.self.items c.put_access.new.text.items c.extend_from_slice-2.new.self.items c.put_help.new.text.items stage places access steps help
    c.in_ok-put_stage_line.ensures (c.in_ok-extend_from_slice.ensures.items ∙ ap (λ t. c.put_stage_line.new.text.items ++ t) c.deref-2.ensures.value) c.in_ok-put_access.ensures
    (c.in_ok-extend_from_slice-2.ensures.items ∙ ap (λ t. c.put_access.new.text.items ++ t) c.deref-3.ensures.value) (c.in_ok-put_help.ensures ∙ ap (λ t. c.extend_from_slice-2.new.self.items ++ help_line t) c.deref-4.ensures.value)
    ∙ ap (λ t. t ++ (stage ++ (places ++ (access ++ (steps ++ help))))) (c.in_ok-text.ensures ∙ ap (λ n. refusal_line c.args.refusal.now n) c.deref.ensures.value)
