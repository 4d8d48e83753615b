-- A line can show what an interrupt descriptor offers.
use Rattle.std.proofs.Common.{◌≡◌, ℕ, List, [], ◌∷◌, ◌++◌, ap}
use Rattle.std.specs.Prelude.{All}
use Rattle.std.proofs.lemmas.List.Elements.{All-push}
use Rattle.acpi_resources.specs.Records.{InterruptOffer}
use Rattle.acpi_resources.specs.Sound.{IsOffer}
use Rattle.route_report.specs.Readable.{IsReadableOffer}
use Rattle.route_report.specs.Reports.{ReportedLink}

pub readable_offer : (offer : InterruptOffer) (offers : List ℕ) → IsOffer offer → offers ≡ offer.numbers → IsReadableOffer offers
readable_offer offer offers sound is = rw is record { some = sound.at_least; ascending = sound.ascending }

pub readable_more : (list after : List ReportedLink) (line : ReportedLink) → after ≡ list ++ line ∷ [] → All (λ l. IsReadableOffer l.offers) list → IsReadableOffer line.offers → All (λ l. IsReadableOffer l.offers) after
readable_more list after line is all one = rw is (All-push (λ (l : ReportedLink). IsReadableOffer l.offers) list line all one)
