-- Links that are set one after another, and read again, over two register spaces.
use Rattle.std.specs.Prelude.{ℕ, List, [], ◌∷◌, Bool, true, false, Ok, refl}
use Rattle.ar_space.specs.Accesses.{Accesses}
use Rattle.ar_space.specs.Change.{Change}
use Rattle.ar_space.specs.Outcome.{Outcome}
use Rattle.acpi_machine.specs.MachineStates.{MachineState}
use Rattle.acpi_links.specs.Links.{PresentLink}
use Rattle.acpi_configure.specs.Settling.{attempted, link_set, links_set, link_read, settled, settled_unless}
use Rattle.route_report.specs.declared.report.SetLine.{SetLine}
use Rattle.aml_laws.proofs.Together.{SideBySide, Together, give_together, then_together, wrapped_together, alike, none_ended}
use Rattle.machine_laws.proofs.MachineShapes.{machines}
use Rattle.machine_laws.proofs.LinksTogether.{folded_together, current_resources_together, resources_set_together}

module _ {S T : Type 0} {accesses : Accesses S} {accesses2 : Accesses T} {side : SideBySide accesses accesses2} where
  pub attempted_together : {A B : Type 0} (tell : Outcome A → B) {m : Change (MachineState S) A} {n : Change (MachineState T) A} → Together (alike side) machines m n → Together (alike side) machines (attempted tell m) (attempted tell n)
  unfolding attempted
  attempted_together tell h = wrapped_together (λ s. s) (λ s. s) (λ s p. (Ok (tell p.0), p.1)) (λ s p. (Ok (tell p.0), p.1))
      (λ s. refl) (λ s. refl) (λ s t. refl) (λ s p. refl) (λ s q. refl) (λ s u r w t. refl) (λ s p e. absurd (none_ended p.0 e)) h

  link_set_together : (link : PresentLink) (n : ℕ) → Together (alike side) machines (link_set accesses link n) (link_set accesses2 link n)
  unfolding link_set
  link_set_together link n = then_together (attempted_together _ (resources_set_together {side = alike side} (λ n. refl) link.0 link.1 n)) (λ came. give_together _)

  links_set_together : (links : List PresentLink) (ns : List ℕ) (done : List SetLine) → Together (alike side) machines (links_set accesses links ns done) (links_set accesses2 links ns done)
  unfolding links_set
  links_set_together [] ns done = give_together _
  links_set_together (link ∷ links) [] done = give_together _
  links_set_together (link ∷ links) (n ∷ ns) done = then_together (link_set_together link n) (λ line. links_set_together links ns _)

  link_read_together : (link : PresentLink) → Together (alike side) machines (link_read accesses link) (link_read accesses2 link)
  unfolding link_read
  link_read_together link = then_together (attempted_together _ (current_resources_together {side = alike side} (λ n. refl) link.0)) (λ state. give_together _)

  settled_together : (links : List PresentLink) (ns : List ℕ) → Together (alike side) machines (settled accesses links ns) (settled accesses2 links ns)
  unfolding settled
  settled_together links ns = then_together (links_set_together links ns []) (λ sets. then_together (folded_together _ link_read_together links _) (λ afters. give_together _))

  pub settled_unless_together : (dry : Bool) (links : List PresentLink) (ns : List ℕ) → Together (alike side) machines (settled_unless accesses dry links ns) (settled_unless accesses2 dry links ns)
  unfolding settled_unless
  settled_unless_together true links ns = give_together _
  settled_unless_together false links ns = settled_together links ns
