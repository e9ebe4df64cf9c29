-- Shown: links lead only to places of the land.
use Rattle.std.specs.Prelude.{◌≡◌, ℕ, Bool, true, false, cond, not, ◌&&◌, ◌⊎◌, None, ◌==◌, refl}
use Rattle.std.proofs.Common.{inl, inr}
use Rattle.std.proofs.lemmas.Bool.{ltb-true}
use Rattle.hierarchy.specs.Kinds.{Kind, Price}
use Rattle.hierarchy.specs.Lands.{Land, on}
use Rattle.hierarchy.specs.Books.{Book, link}
use Rattle.hierarchy.specs.Shortest.{In, below, in_below}

pub inside_link : {K : Kind} (land : Land K) (book : Book K) (a x : ℕ) → In x (below land.size) ⊎ (link land book a x ≡ None)
inside_link {K} land book a x = go (on land a) (on land x) refl (not (a == x)) _
  where
    go : (s t : Bool) → on land x ≡ t → (u : Bool) (p : Price K) → In x (below land.size) ⊎ (cond (s && (t && u)) p None ≡ None)
    go true true e u p = inl (in_below land.size x (ltb-true _ _ e))
    go true false e u p = inr refl
    go false t e u p = inr refl
