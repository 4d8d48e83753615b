-- Links with what they may be given, one after another.
use Rattle.std.proofs.Common.{◌≡◌, ◌∙◌, ap, ap₂, sym, ℕ, Bool, ◌+◌, ◌<◌, List, [], ◌∷◌, ◌++◌, length, map, take, get_or}
use Rattle.std.specs.Prelude.{◌↔◌, IsTrue, IfOk, Result}
use Rattle.std.proofs.lemmas.List.{map-append, take_more}
use Rattle.route_spread.specs.Sharing.{IsLeastShared}
use Rattle.route_model.specs.Links.{OfferingLink, offers_of}

pub links_more : (f : OfferingLink → List ℕ) (list after links : List OfferingLink) (i : ℕ) (x new : OfferingLink) → offers_of list ≡ map f (take i links) → i < length links → x ≡ get_or links i x → after ≡ list ++ new ∷ [] → new.offers ≡ f x
    → offers_of after ≡ map f (take (i + 1) links)
links_more f list after links i x new so l at e v =
    ap offers_of e ∙ (map-append (λ (k : OfferingLink). k.offers) list (new ∷ [])
    ∙ (ap₂ (λ (xs : List (List ℕ)) (ys : List ℕ). xs ++ ys ∷ []) so (v ∙ ap f at) ∙ sym (ap (map f) (take_more links i x l) ∙ map-append f (take i links) (get_or links i x ∷ []))))

-- the answer of the test, where what it is asked of is the same
pub shared_as : {E : Type 0} (r : Result Bool E) (offers offers' : List (List ℕ)) (wired wired' : List (ℕ × ℕ)) (choice choice' : List ℕ) → offers ≡ offers' → wired ≡ wired' → choice ≡ choice'
    → IfOk r (λ yes. IsTrue yes ↔ IsLeastShared offers wired choice) → IfOk r (λ yes. IsTrue yes ↔ IsLeastShared offers' wired' choice')
shared_as r offers offers' wired wired' choice choice' a b c h = rw (← a, ← b, ← c) h
