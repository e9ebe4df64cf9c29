-- Shown: a chain gone backwards ends where it began, costs as much, and arches where it did.
--   turned  the places of the chain from a over l, from its last back to a
use Rattle.std.proofs.Common.{◌≡◌, ℕ, ◌≢◌, List, [], ◌∷◌, ◌++◌, sym, refl, ap, ◌∙◌, subst, append_assoc}
use Rattle.hierarchy.specs.Kinds.{Kind, Price, add}
use Rattle.hierarchy.specs.Walks.{end, along}
use Rattle.hierarchy.specs.Scales.{scale, scale_laws}
use Rattle.hierarchy.specs.Shortest.{end-append, zero_r}
use Rattle.hierarchy.specs.Chains.{Without}
use Rattle.hierarchy.proofs.Prices.{along-append}
use Rattle.hierarchy.proofs.Shape.{Inner, Local, Peak, fine_turned}

abbrev pub turned : ℕ → List ℕ → List ℕ
turned a [] = []
turned a (x ∷ l) = turned x l ++ (a ∷ [])

pub end_turned : (a : ℕ) (l : List ℕ) → end (end a l) (turned a l) ≡ a
end_turned a [] = refl
end_turned a (x ∷ l) = end-append (end x l) (turned x l) (a ∷ [])

pub along_turned : (K : Kind) (w : ℕ → ℕ → Price K) → ((a b : ℕ) → w a b ≡ w b a) → (a : ℕ) (l : List ℕ) → along K w (end a l) (turned a l) ≡ along K w a l
along_turned K w s a [] = refl
along_turned K w s a (x ∷ l) =
    along-append K w (end x l) (turned x l) (a ∷ [])
    ∙ ap (λ z. add K (along K w (end x l) (turned x l)) (along K w z (a ∷ []))) (end_turned x l)
    ∙ (λ i. add K (along_turned K w s x l i) ((zero_r (scale K) (scale_laws K) (w x a) ∙ s x a) i))
    ∙ (scale_laws K).comm (along K w x l) (w a x)

module _ (P : ℕ → ℕ → ℕ → Type 0) (turn : (x y z : ℕ) → P x y z → P z y x) where
  -- one more place behind the last
  inner_push : (e : ℕ) (m : List ℕ) (x a : ℕ) → Inner P e (m ++ (x ∷ [])) → P (end e m) x a → Inner P e (m ++ (x ∷ a ∷ []))
  inner_push e [] x a h p = (p, (tt, tt))
  inner_push e (y ∷ []) x a h p = (h.0, inner_push y [] x a h.1 p)
  inner_push e (y ∷ z ∷ m) x a h p = (h.0, inner_push y (z ∷ m) x a h.1 p)

  inner_turned : (a : ℕ) (l : List ℕ) → Inner P a l → Inner P (end a l) (turned a l)
  inner_turned a [] h = tt
  inner_turned a (x ∷ []) h = (tt, tt)
  inner_turned a (x ∷ y ∷ l) h =
      subst (Inner P (end y l)) (sym (append_assoc (turned y l) (x ∷ []) (a ∷ [])))
      (inner_push (end y l) (turned y l) x a (inner_turned x (y ∷ l) h.1) (subst (λ z. P z x a) (sym (end_turned y l)) (turn a x y h.0)))

pub local_turned : (level : ℕ → ℕ) (top a : ℕ) (l : List ℕ) → Local level top a l → Local level top (end a l) (turned a l)
local_turned level top = inner_turned (Peak level top) (λ x y z. fine_turned top (level x) (level y) (level z))

without_append : (v : ℕ) (l m : List ℕ) → Without v l → Without v m → Without v (l ++ m)
without_append v [] m h k = k
without_append v (x ∷ l) m h k = (h.0, without_append v l m h.1 k)

pub without_turned : (v a : ℕ) (l : List ℕ) → a ≢ v → Without v l → Without v (turned a l)
without_turned v a [] n h = tt
without_turned v a (x ∷ l) n h = without_append v (turned x l) (a ∷ []) (without_turned v x l h.0 h.1) (n, tt)
