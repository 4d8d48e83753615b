-- Where the calls that read a routing table stop.
use Rattle.std.proofs.Common.{◌≡◌, ℕ, ◌<◌, List, [], ◌∷◌, ◌++◌, length, get_or, map, Ok, sym, ap, ◌∙◌}
use Rattle.std.specs.Prelude.{codes}
use Rattle.std.proofs.lemmas.List.{get_or-map}
use Rattle.ar_space.specs.Accesses.{Accesses}
use Rattle.ar_space.specs.Outcome.{Answers}
use Rattle.ar_space.specs.Change.{Does, give}
use Rattle.ar_space.proofs.Changes.{does_ok, does_made, does_settle}
use Rattle.aml_path.specs.declared.segment.Seg.{Seg}
use Rattle.aml_world.specs.declared.state.datum.Datum.{Datum}
use Rattle.aml_world.specs.state.Given.{Given, given_of}
use Rattle.acpi_machine.specs.Buses.{prt}
use Rattle.acpi_machine.specs.MachineStates.{MachineState}
use Rattle.acpi_machine.specs.Calls.{evaluated_object}
use Rattle.acpi_machine.specs.Stops.{Made, AllOrNone}
use Rattle.acpi_machine.proofs.Stopping.{made_asked, made_after, made_settled, made_given, made_then_settled, made_then_tested, stops_first, stops_next}
use Rattle.acpi_prt.specs.declared.pin.Route.TheVariants.{Link}
use Rattle.acpi_prt.specs.Children.{child_named}
use Rattle.acpi_prt.specs.Entries.{entries_of, word_of, source_tested, pin_tested, no_index}
use Rattle.acpi_prt.specs.Links.{device_at, id_at, link_id_or_not, link_at}
use Rattle.acpi_prt.specs.RoutingTables.{linked, route_of, pin_with}
use Rattle.acpi_prt.specs.Stops.{entries_answered, StopsInEntries, StopsInTable}

module _ {S : Type 0} (accesses : Accesses S) {s t : MachineState S} where
  pub link_made : (p device hid name : List Seg) (arguments : List Given) → Does (Ok device) s (device_at p) s → Answers (Ok hid) (child_named device (codes "_HID")) → Does (Ok name) s (id_at hid) s
      → Made (evaluated_object accesses name arguments) s t → arguments ≡ [] → AllOrNone (link_at accesses p) s t
  unfolding link_at
  link_made p device hid name arguments d h i m none =
      made_after (device_at p) _ d (made_settled (child_named device (codes "_HID")) _ h (made_after (id_at hid) _ i
      (made_then_tested (evaluated_object accesses name []) link_id_or_not (λ _ _. device) (made_asked accesses name arguments m none))))

  pub linked_made : (p : List Seg) (index : ℕ) → AllOrNone (link_at accesses p) s t → AllOrNone (linked accesses p index) s t
  unfolding linked
  linked_made p index h = made_then_tested (link_at accesses p) (λ _. no_index index) (λ link _. Link link) h

  pub pin_made : (a p x i : Given) (address pin index letter : ℕ) → Answers (Ok address) (word_of a) → Answers (Ok pin) (word_of p) → Answers (Ok tt) (source_tested x) → Answers (Ok index) (word_of i)
      → Answers (Ok letter) (pin_tested pin) → AllOrNone (route_of accesses x index) s t → AllOrNone (pin_with accesses a p x i) s t
  unfolding pin_with
  pin_made a p x i address pin index letter ha hp hx hi hl h =
      made_settled (word_of a) _ ha (made_settled (word_of p) _ hp (made_settled (source_tested x) _ hx (made_settled (word_of i) _ hi (made_settled (pin_tested pin) _ hl
      (made_given (route_of accesses x index) _ h)))))

-- path: that of a routing table
module _ {S : Type 0} (accesses : Accesses S) {s t : MachineState S} (device path : List Seg) (arguments : List Given) (h : Answers (Ok path) (Ok (device ++ prt ∷ []))) (none : arguments ≡ []) where
  entries_made : Made (evaluated_object accesses path arguments) s t → AllOrNone (entries_answered accesses device) s t
  unfolding entries_answered
  entries_made m = made_after (give (device ++ prt ∷ [])) _ (does_made (Ok path) (device ++ prt ∷ []) h) (made_then_settled (evaluated_object accesses path []) entries_of (made_asked accesses path arguments m none))

  pub table_asked : Made (evaluated_object accesses path arguments) s t → StopsInTable accesses device s t
  table_asked m = stops_first (entries_made m)

  pub table_read : {u : MachineState S} (answer : Given) (entries : List Given) → Does (Ok answer) t (evaluated_object accesses path arguments) s → Answers (Ok entries) (entries_of answer) → StopsInEntries accesses entries t u → StopsInTable accesses device s u
  unfolding entries_answered
  table_read answer entries d e w =
      let asked : Does (Ok answer) t (evaluated_object accesses path []) s = rw (← none) d in
      stops_next (does_ok (give (device ++ prt ∷ [])) _ (does_made (Ok path) (device ++ prt ∷ []) h) (does_ok (evaluated_object accesses path []) _ asked (does_settle (Ok entries) (entries_of answer) e))) w

-- an entry as it is given
pub given_at : (es : List Datum) (i : ℕ) (e : Datum) → i < length es → e ≡ get_or es i e → given_of e ≡ get_or (map given_of es) i (given_of e)
given_at es i e l at = ap given_of at ∙ sym (get_or-map given_of es i e (given_of e) l)
