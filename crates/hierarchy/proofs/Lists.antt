-- Shown: what selecting, pairing and appending do to what a list has, to its order, and to what stands at a number in it.
--   Pairwise  R holds between each and every later one
--   Before    a pair stands before another: by the first, then by the second
use Rattle.std.proofs.Common.{◌≡◌, ℕ, zero, suc, ◌<◌, Bool, true, false, cond, ◌≢◌, ◌⊎◌, List, [], ◌∷◌, ◌++◌, map, take, Some, sym, refl, ap, subst, inl, inr, ⊎_elim, arith}
use mathlib.Core.List.{filter}
use mathlib.Core.Logic.{ite}
use Rattle.std.proofs.lemmas.Bool.{and_parts}
use Rattle.std.proofs.ByRecursion.{All-append, All-map, All-weaker}
use Rattle.std.specs.List.{slice_get, AllByRecursion as All}
use Rattle.hierarchy.specs.Shortest.{In, first, later, below, in_left, in_right, in_map}
use Rattle.hierarchy.specs.Deciders.{decided}
use Rattle.hierarchy.specs.Levels.{select, every, pairs}
use Rattle.hierarchy.proofs.Prices.{none_some}

abbrev pub Pairwise : {A : Type 0} → (A → A → Type 0) → List A → Type 0
Pairwise R [] = Unit {0}
Pairwise R (x ∷ l) = All (R x) l × Pairwise R l

abbrev pub Before : ℕ × ℕ → ℕ × ℕ → Type 0
Before p q = (p.0 < q.0) ⊎ ((p.0 ≡ q.0) × (p.1 < q.1))

pub filter-select : {A : Type 0} {P : A → Type 0} (d : (x : A) → Dec (P x)) (l : List A) → filter d l ≡ select (λ x. decided (d x)) l
filter-select d [] = refl
filter-select {A} {P} d (x ∷ l) = go (d x) (filter-select d l)
  where
    go : (t : Dec (P x)) → filter d l ≡ select (λ y. decided (d y)) l →
        ite {C = List A} t (x ∷ filter d l) (filter d l) ≡ cond (decided t) (x ∷ select (λ y. decided (d y)) l) (select (λ y. decided (d y)) l)
    go (yes h) e = ap (λ m. x ∷ m) e
    go (no h) e = e

module _ {A : Type 0} (p : A → Bool) where
  pub in_select : (l : List A) (x : A) → In x l → p x ≡ true → In x (select p l)
  in_select [] x i h = elim i [ ]
  in_select (y ∷ l) x first h = subst (λ t. In x (cond t (x ∷ select p l) (select p l))) (sym h) first
  in_select (y ∷ l) x (later i) h = go (p y) (in_select l x i h)
    where
      go : (t : Bool) → In x (select p l) → In x (cond t (y ∷ select p l) (select p l))
      go true j = later j
      go false j = j

  pub all_select : (Q : A → Type 0) (l : List A) → All Q l → All (λ x. Q x × (p x ≡ true)) (select p l)
  all_select Q [] h = tt
  all_select Q (y ∷ l) h = go (p y) refl (all_select Q l h.1)
    where
      go : (t : Bool) → p y ≡ t → All (λ x. Q x × (p x ≡ true)) (select p l) → All (λ x. Q x × (p x ≡ true)) (cond t (y ∷ select p l) (select p l))
      go true e r = ((h.0, e), r)
      go false e r = r

  pub pairwise_select : (R : A → A → Type 0) (l : List A) → Pairwise R l → Pairwise R (select p l)
  pairwise_select R [] h = tt
  pairwise_select R (y ∷ l) h = go (p y) (pairwise_select R l h.1)
    where
      go : (t : Bool) → Pairwise R (select p l) → Pairwise R (cond t (y ∷ select p l) (select p l))
      go true r = (All-weaker (λ x. R y x × (p x ≡ true)) (R y) (λ x k. k.0) (select p l) (all_select (R y) l h.0), r)
      go false r = r

pub pairwise_append : {A : Type 0} (R : A → A → Type 0) (l m : List A) → Pairwise R l → Pairwise R m → All (λ x. All (R x) m) l → Pairwise R (l ++ m)
pairwise_append R [] m h k c = k
pairwise_append R (x ∷ l) m h k c = (All-append (R x) l m h.0 c.0, pairwise_append R l m h.1 k c.1)

pub all_below : (n : ℕ) → All (λ x. x < n) (below n)
all_below zero = tt
all_below (suc n) =
    All-append (λ x. x < suc n) (below n) (n ∷ []) (All-weaker (λ x. x < n) (λ x. x < suc n) (λ x h. omega arith) (below n) (all_below n)) (omega arith, tt)

pub rising-below : (n : ℕ) → Pairwise ◌<◌ (below n)
rising-below zero = tt
rising-below (suc n) =
    pairwise_append ◌<◌ (below n) (n ∷ []) (rising-below n) (tt, tt)
    (All-weaker (λ x. x < n) (λ x. (x < n) × Unit {0}) (λ x h. (h, tt)) (below n) (all_below n))

-- of two different ones, one order is a pair
pub in_pairs : (l : List ℕ) (x y : ℕ) → In x l → In y l → x ≢ y → In (x, y) (pairs l) ⊎ In (y, x) (pairs l)
in_pairs [] x y i j n = elim i [ ]
in_pairs (z ∷ l) x y first first n = absurd (n refl)
in_pairs (z ∷ l) x y first (later j) n = inl (in_left (x, y) (map (λ b. (x, b)) l) (pairs l) (in_map (λ b. (x, b)) y l j))
in_pairs (z ∷ l) x y (later i) first n = inr (in_left (y, x) (map (λ b. (y, b)) l) (pairs l) (in_map (λ b. (y, b)) x l i))
in_pairs (z ∷ l) x y (later i) (later j) n =
    ⊎_elim (λ h. inl (in_right (x, y) (map (λ b. (z, b)) l) (pairs l) h)) (λ h. inr (in_right (y, x) (map (λ b. (z, b)) l) (pairs l) h))
    (in_pairs l x y i j n)

-- what holds of all, and between each and every later one, holds of each pair
pub all_pairs : (P : ℕ → Type 0) (R : ℕ → ℕ → Type 0) (l : List ℕ) → All P l → Pairwise R l → All (λ p. P p.0 × P p.1 × R p.0 p.1) (pairs l)
all_pairs P R [] h k = tt
all_pairs P R (x ∷ l) h k =
    All-append Q (map (λ y. (x, y)) l) (pairs l) (All-map Q (λ y. (x, y)) l (both l h.1 k.0)) (all_pairs P R l h.1 k.1)
  where
    Q : ℕ × ℕ → Type 0
    Q p = P p.0 × P p.1 × R p.0 p.1

    both : (m : List ℕ) → All P m → All (R x) m → All (λ y. P x × P y × R x y) m
    both [] a b = tt
    both (y ∷ m) a b = ((h.0, a.0, b.0), both m a.1 b.1)

pairwise_first : (x : ℕ) (l : List ℕ) → Pairwise ◌<◌ l → Pairwise Before (map (λ y. (x, y)) l)
pairwise_first x [] h = tt
pairwise_first x (y ∷ l) h =
    (All-map (Before (x, y)) (λ z. (x, z)) l (All-weaker (λ z. y < z) (λ z. Before (x, y) (x, z)) (λ z k. inr (refl, k)) l h.0), pairwise_first x l h.1)

pub pairs_rise : (l : List ℕ) → Pairwise ◌<◌ l → Pairwise Before (pairs l)
pairs_rise [] h = tt
pairs_rise (x ∷ l) h =
    pairwise_append Before (map (λ y. (x, y)) l) (pairs l) (pairwise_first x l h.1) (pairs_rise l h.1)
    (All-map (λ p. All (Before p) (pairs l)) (λ y. (x, y)) l (each l))
  where
    ahead : All (λ q. (x < q.0) × (x < q.1) × (q.0 < q.1)) (pairs l)
    ahead = all_pairs (λ z. x < z) ◌<◌ l h.0 h.1

    each : (m : List ℕ) → All (λ y. All (Before (x, y)) (pairs l)) m
    each [] = tt
    each (y ∷ m) = (All-weaker (λ q. (x < q.0) × (x < q.1) × (q.0 < q.1)) (Before (x, y)) (λ q k. inl k.0) (pairs l) ahead, each m)

pub every_all : {A : Type 0} (p : A → Bool) (l : List A) → every p l ≡ true → All (λ x. p x ≡ true) l
every_all p [] h = tt
every_all p (x ∷ l) h = let e = and_parts (p x) (every p l) h in (e.0, every_all p l e.1)

pub all_nth : {A : Type 0} (P : A → Type 0) (l : List A) (k : ℕ) (x : A) → All P l → slice_get l k ≡ Some x → P x
all_nth P [] k x h e = absurd (none_some e)
all_nth P (y ∷ l) zero x h e = subst P (cc) h.0
all_nth P (y ∷ l) (suc k) x h e = all_nth P l k x h.1 e

pub nth-map : {A B : Type 0} (f : A → B) (l : List A) (k : ℕ) (y : B) → slice_get (map f l) k ≡ Some y → (x : A) × (slice_get l k ≡ Some x) × (y ≡ f x)
nth-map f [] k y e = absurd (none_some e)
nth-map f (x ∷ l) zero y e = (x, refl, cc)
nth-map f (x ∷ l) (suc k) y e = nth-map f l k y e

pub take-map : {A B : Type 0} (f : A → B) (k : ℕ) (l : List A) → take k (map f l) ≡ map f (take k l)
take-map f zero l = refl
take-map f (suc k) [] = refl
take-map f (suc k) (x ∷ l) = ap (λ m. f x ∷ m) (take-map f k l)

-- what stands at k in l and m together stands in l, or in m
pub nth-append : {A : Type 0} (l m : List A) (k : ℕ) (x : A) → slice_get (l ++ m) k ≡ Some x →
    ((slice_get l k ≡ Some x) × (take k (l ++ m) ≡ take k l)) ⊎ ((j : ℕ) × (slice_get m j ≡ Some x) × (take k (l ++ m) ≡ l ++ take j m))
nth-append [] m k x e = inr (k, e, refl)
nth-append (y ∷ l) m zero x e = inl (e, refl)
nth-append (y ∷ l) m (suc k) x e =
    ⊎_elim (λ h. inl (h.0, ap (λ z. y ∷ z) h.1)) (λ h. inr (h.0, h.1, ap (λ z. y ∷ z) h.2)) (nth-append l m k x e)

-- all that stand before k in a list have R to what stands at k
pub pairwise_nth : {A : Type 0} (R : A → A → Type 0) (l : List A) (k : ℕ) (x : A) → Pairwise R l → slice_get l k ≡ Some x → All (λ y. R y x) (take k l)
pairwise_nth R l zero x h e = tt
pairwise_nth R [] (suc k) x h e = tt
pairwise_nth R (y ∷ l) (suc k) x h e = (all_nth (R y) l k x h.0 e, pairwise_nth R l k x h.1 e)

pub nth-take : {A : Type 0} (l : List A) (j k : ℕ) (x : A) → j < k → slice_get l j ≡ Some x → In x (take k l)
nth-take [] j k x h e = absurd (none_some e)
nth-take (y ∷ l) j zero x h e = absurd (omega arith)
nth-take (y ∷ l) zero (suc k) x h e = subst (λ z. In z (y ∷ take k l)) (cc) first
nth-take (y ∷ l) (suc j) (suc k) x h e = later (nth-take l j k x (omega arith) e)
