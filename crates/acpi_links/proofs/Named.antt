-- The set of links goes on by one pin.
use Rattle.std.proofs.Common.{◌≡◌, ℕ, ◌+◌, ◌<◌, ◌≤◌, List, length, drop, get_or, Ok, refl, ◌∙◌, sym, ap, drop-cons, add-one}
use Rattle.std.proofs.lemmas.List.{drop_all}
use Rattle.ar_space.specs.Outcome.{Answers}
use Rattle.aml_path.specs.declared.segment.Seg.{Seg}
use Rattle.acpi_prt.specs.declared.pin.Pin.{Pin}
use Rattle.acpi_links.specs.Links.{with_route, with_links}

pub route_more : (all links after : List (List Seg)) (pins : List (List Seg × Pin)) (i : ℕ) (pin : List Seg × Pin)
    → with_links links (drop i pins) ≡ all → i < length pins → pin ≡ get_or pins i pin → after ≡ with_route links pin.1.route → with_links after (drop (i + 1) pins) ≡ all
unfolding with_links
route_more all links after pins i pin so l at e = rw (e, add-one) (sym (rw (drop-cons pins i pin l, ← at) refl) ∙ so)

pub route_end : (all links after : List (List Seg)) (pins : List (List Seg × Pin)) (i : ℕ)
    → with_links links (drop i pins) ≡ all → length pins ≤ i → after ≡ links → Answers (Ok after) (Ok all)
unfolding with_links
route_end all links after pins i so l e = record { is = λ _. ap Ok (sym so ∙ rw (drop_all i pins l, e) refl) }
