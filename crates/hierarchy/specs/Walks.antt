-- Walks and chains. Each goes from a first place over a list of further places; its steps are ways, or links, given as the price
-- of each pair.
--   end       the last place
--   along     the price of the whole, none where a step is missing
--   Walk      some walk from a to b costs c
--   Least     and none costs less
--   Joined    there is a walk from a to b
--   SetAside  a way that some walk between its ends beats
use Rattle.std.specs.Prelude.{◌≡◌, ℕ, true, false, List, [], ◌∷◌, Some}
use Rattle.hierarchy.specs.Kinds.{Kind, Price, add}

abbrev pub end : {V : Type 0} → V → List V → V
end a [] = a
end a (x ∷ l) = end x l

-- the steps from a over the places l, added up
abbrev pub summed : {V M : Type 0} → M → (M → M → M) → (V → V → M) → V → List V → M
summed zero plus step a [] = zero
summed zero plus step a (x ∷ l) = plus (step a x) (summed zero plus step x l)

module _ (K : Kind) where
  abbrev pub along : {V : Type 0} → (V → V → Price K) → V → List V → Price K
  along = summed (Some K.zero) (add K)

  abbrev pub Walk : {V : Type 0} → (V → V → Price K) → V → V → K.C → Type 0
  Walk {V} step a b c = (l : List V) × (end a l ≡ b) × (along step a l ≡ Some c)

  abbrev pub Least : (ℕ → ℕ → Price K) → ℕ → ℕ → K.C → Type 0
  Least way a b c = Walk way a b c × ((d : K.C) → Walk way a b d → K.less d c ≡ false)

  abbrev pub Joined : (ℕ → ℕ → Price K) → ℕ → ℕ → Type 0
  Joined way a b = (c : K.C) × Walk way a b c

  abbrev pub SetAside : (ℕ → ℕ → Price K) → ℕ → ℕ → Type 0
  SetAside way a b = (c : K.C) × (d : K.C) × (way a b ≡ Some c) × Walk way a b d × (K.less d c ≡ true)
