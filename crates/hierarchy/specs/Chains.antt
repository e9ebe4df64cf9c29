-- Chains: which go from link to link, and how their levels run.
--   Rises, Stays, Falls  each level is greater than, equal to, less than the one before
--   Climbs   some chain from a to b rises
--   Arching  levels rise, then stay, then fall; they stay over more than one link only at the top
--   Without  a chain does not pass v
--   AtMost   a price is a cost that is at most another
--   Round    some arching chain from a to b without v costs at most that
use Rattle.std.specs.Prelude.{◌≡◌, ℕ, ◌<◌, ◌≤◌, false, ◌≢◌, ◌⊎◌, List, [], ◌∷◌, ◌++◌, length, Some}
use Rattle.hierarchy.specs.Kinds.{Kind, Price}
use Rattle.hierarchy.specs.Walks.{end, along}

-- R holds between each place and the next
abbrev pub Steps : (ℕ → ℕ → Type 0) → ℕ → List ℕ → Type 0
Steps R a [] = Unit {0}
Steps R a (x ∷ l) = R a x × Steps R x l

module _ (level : ℕ → ℕ) where
  abbrev pub Rises : ℕ → List ℕ → Type 0
  Rises = Steps (λ x y. level x < level y)

  abbrev pub Stays : ℕ → List ℕ → Type 0
  Stays = Steps (λ x y. level x ≡ level y)

  abbrev pub Falls : ℕ → List ℕ → Type 0
  Falls = Steps (λ x y. level y < level x)

  pub record Arching (top a : ℕ) (l : List ℕ) : Type 0 where
    pub up : List ℕ
    pub flat : List ℕ
    pub down : List ℕ
    pub parts : l ≡ up ++ (flat ++ down)
    pub rises : Rises a up
    pub stays : Stays (end a up) flat
    pub falls : Falls (end (end a up) flat) down
    pub short : (length flat ≤ 1) ⊎ (level (end a up) ≡ top)

  abbrev pub Climbs : (K : Kind) → (ℕ → ℕ → Price K) → ℕ → ℕ → Type 0
  Climbs K link a b = (l : List ℕ) × (c : K.C) × (end a l ≡ b) × (along K link a l ≡ Some c) × Rises a l

abbrev pub Without : ℕ → List ℕ → Type 0
Without v [] = Unit {0}
Without v (x ∷ l) = (x ≢ v) × Without v l

module _ (K : Kind) where
  abbrev pub AtMost : Price K → Price K → Type 0
  AtMost p q = (c : K.C) × (d : K.C) × (p ≡ Some c) × (q ≡ Some d) × (K.less d c ≡ false)

  abbrev pub Round : (ℕ → ℕ → Price K) → (ℕ → ℕ) → ℕ → ℕ → ℕ → ℕ → Price K → Type 0
  Round link level top v a b q = (l : List ℕ) × (end a l ≡ b) × Arching level top a l × Without v l × AtMost (along K link a l) q
