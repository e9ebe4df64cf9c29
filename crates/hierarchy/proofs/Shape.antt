-- Shown: a chain arches where each inner place stands above one of its two neighbours, or all three at the top; and only there.
--   Inner  a fact of each inner place, between the one before it and the one after it
--   Fine   what the levels of three places in a row must be, the middle one's second
--   Local  a chain arches, said of each inner place
use Rattle.std.proofs.Common.{◌≡◌, ℕ, ◌<◌, ◌≤◌, ◌⊎◌, List, [], ◌∷◌, ◌++◌, length, sym, refl, ap, ◌∙◌, subst, inl, inr, arith}
use Rattle.std.proofs.lemmas.Bool.{cases_order}
use Rattle.hierarchy.specs.Walks.{end}
use Rattle.hierarchy.specs.Chains.{Rises, Stays, Falls, Arching}

module _ (P : ℕ → ℕ → ℕ → Type 0) where
  -- of x, which stands between a and the first of l, if there is one
  abbrev pub Joint : ℕ → ℕ → List ℕ → Type 0
  Joint a x [] = Unit {0}
  Joint a x (y ∷ l) = P a x y

  abbrev pub Inner : ℕ → List ℕ → Type 0
  Inner a [] = Unit {0}
  Inner a (x ∷ l) = Joint a x l × Inner x l

pub inner_map : (P Q : ℕ → ℕ → ℕ → Type 0) → ((x y z : ℕ) → P x y z → Q x y z) → (a : ℕ) (l : List ℕ) → Inner P a l → Inner Q a l
inner_map P Q f a [] h = tt
inner_map P Q f a (x ∷ []) h = (tt, tt)
inner_map P Q f a (x ∷ y ∷ l) h = (f a x y h.0, inner_map P Q f x (y ∷ l) h.1)

abbrev pub Fine : ℕ → ℕ → ℕ → ℕ → Type 0
Fine top p q r = (p < q) ⊎ ((r < q) ⊎ ((p ≡ top) × (q ≡ top) × (r ≡ top)))

pub fine_turned : (top p q r : ℕ) → Fine top p q r → Fine top r q p
fine_turned top p q r (inl h) = inr (inl h)
fine_turned top p q r (inr (inl h)) = inl h
fine_turned top p q r (inr (inr h)) = inr (inr (h.2, h.1, h.0))

module _ (level : ℕ → ℕ) (top : ℕ) where
  abbrev pub Peak : ℕ → ℕ → ℕ → Type 0
  Peak x y z = Fine top (level x) (level y) (level z)

  abbrev pub Local : ℕ → List ℕ → Type 0
  Local = Inner Peak

  falls_joint : (a x : ℕ) (l : List ℕ) → Falls level x l → Joint Peak a x l
  falls_joint a x [] h = tt
  falls_joint a x (y ∷ l) h = inr (inl h.0)

  falls_local : (a : ℕ) (l : List ℕ) → Falls level a l → Local a l
  falls_local a [] h = tt
  falls_local a (x ∷ l) h = (falls_joint a x l h.1, falls_local x l h.1)

  stays_local : (a : ℕ) (s f : List ℕ) → (length s ≤ 1) ⊎ (level a ≡ top) → Stays level a s → Falls level (end a s) f → Local a (s ++ f)
  stays_local a [] f t h k = falls_local a f k
  stays_local a (x ∷ []) f t h k = (falls_joint a x f k, falls_local x f k)
  stays_local a (x ∷ y ∷ s) f (inl t) h k = absurd (omega arith)
  stays_local a (x ∷ y ∷ s) f (inr t) h k =
      (inr (inr (t, sym h.0 ∙ t, sym h.1.0 ∙ sym h.0 ∙ t)), stays_local x (y ∷ s) f (inr (sym h.0 ∙ t)) h.1 k)

  rises_joint : (a x : ℕ) (l : List ℕ) → level a < level x → Joint Peak a x l
  rises_joint a x [] h = tt
  rises_joint a x (y ∷ l) h = inl h

  rises_local : (a : ℕ) (r m : List ℕ) → Rises level a r → Local (end a r) m → Local a (r ++ m)
  rises_local a [] m h k = k
  rises_local a (x ∷ r) m h k = (rises_joint a x (r ++ m) h.0, rises_local x r m h.1 k)

  pub arching_local : (a : ℕ) (l : List ℕ) → Arching level top a l → Local a l
  arching_local a l s =
      subst (Local a) (sym s.parts)
      (rises_local a s.up (s.flat ++ s.down) s.rises (stays_local (end a s.up) s.flat s.down s.short s.stays s.falls))

  -- one more place in front
  grow : (a y : ℕ) (l r s f : List ℕ) → l ≡ r ++ (s ++ f) → Rises level y r → Stays level (end y r) s → Falls level (end (end y r) s) f →
      (length s ≤ 1) ⊎ (level (end y r) ≡ top) → Joint Peak a y (r ++ (s ++ f)) →
      (level a ≡ level y) ⊎ ((level a < level y) ⊎ (level y < level a)) → Arching level top a (y ∷ l)
  grow a y l r s f e hr hs hf t j (inr (inl h)) =
      record { up = y ∷ r; flat = s; down = f; parts = ap (λ z. y ∷ z) e; rises = (h, hr); stays = hs; falls = hf; short = t }
  grow a y l (x ∷ r) s f e hr hs hf t j (inl h) = absurd (let p = hr.0 in omega arith)
  grow a y l (x ∷ r) s f e hr hs hf t j (inr (inr h)) = absurd (let p = hr.0 in omega arith)
  grow a y l [] [] f e hr hs hf t j (inl h) =
      record { up = []; flat = y ∷ []; down = f; parts = ap (λ z. y ∷ z) e; rises = tt; stays = (h, tt); falls = hf; short = inl (omega arith) }
  grow a y l [] (x ∷ s) f e hr hs hf t j (inl h) =
      record { up = []; flat = y ∷ x ∷ s; down = f; parts = ap (λ z. y ∷ z) e; rises = tt; stays = (h, hs); falls = hf; short = inr (let p = hs.0 in omega arith) }
  grow a y l [] [] f e hr hs hf t j (inr (inr h)) =
      record { up = []; flat = []; down = y ∷ f; parts = ap (λ z. y ∷ z) e; rises = tt; stays = tt; falls = (h, hf); short = inl (omega arith) }
  grow a y l [] (x ∷ s) f e hr hs hf t j (inr (inr h)) = absurd (let p = hs.0 in omega arith)

  pub local_arching : (a : ℕ) (l : List ℕ) → Local a l → Arching level top a l
  local_arching a [] h = record { up = []; flat = []; down = []; parts = refl; rises = tt; stays = tt; falls = tt; short = inl (omega arith) }
  local_arching a (y ∷ l) h =
      let s = local_arching y l h.1 in
      grow a y l s.up s.flat s.down s.parts s.rises s.stays s.falls s.short
      (subst (Joint Peak a y) s.parts h.0) (cases_order (level a) (level y))
