use Rattle.std.proofs.Common.{◌∙◌, ap, sym}
use Rattle.watched_space.specs.MissingPlaces.{missing_places}
use Rattle.acpiroute_lib.proofs.watched_run.filled_machine.Goals as goal

pub returns-clause-run : goal.returns-clause-run
returns-clause-run c = record {
  after = c.machine_end-end.new.machine;
  is_end = c.machine_end-end.ensures.run;
  are_places = sym (c.in_ok-places.ensures.places ∙ ap missing_places (c.missing.ensures ∙ ap (λ f. f.missing) (c.inner.ensures ∙ ap (λ m. m.inner) c.space.ensures)));
}
