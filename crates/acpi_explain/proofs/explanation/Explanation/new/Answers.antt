use Rattle.std.proofs.Common.{refl, rules}
use Rattle.acpi_explain.proofs.explanation.Explanation.new.Goals as goal

pub returns : goal.returns
returns c =
    record {
      name = c.in_ok-help.help.name.items;
      is_name = c.in_ok-help.ensures.name;
      places = c.in_ok-traced.traced.places.items;
      are_places = c.in_ok-traced.ensures.places;
      taken = c.in_ok-traced.traced.steps.items;
      is_taken = c.in_ok-traced.ensures.steps;
      help = c.in_ok-help.help.help.items;
      is_help = c.in_ok-help.ensures.help;
      is_refusal = refl;
      is_stage = refl;
      is_access = search rules;
      is_text = search rules;
    }
