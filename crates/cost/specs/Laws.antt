-- What every kind of cost keeps to. Assumes nothing.
--   total     the sum of a list of costs
--   all_ways  each cost of a list may stand on a way
--   CostLaws  the laws
use Rattle.std.specs.Prelude.{◌≡◌, ℕ, ◌≤◌, Bool, true, false, ◌&&◌, List, [], ◌∷◌, length, ◌≢◌}

abbrev pub total : {C : Type 0} → C → (C → C → C) → List C → C
total zero plus [] = zero
total zero plus (x ∷ xs) = plus x (total zero plus xs)

abbrev pub all_ways : {C : Type 0} → (C → Bool) → List C → Bool
all_ways way [] = true
all_ways way (x ∷ xs) = way x && all_ways way xs

pub record CostLaws {C : Type 0} (zero over : C) (plus : C → C → C) (less : C → C → Bool) (way : C → Bool) (word : C → ℕ) (unword : ℕ → C) : Type 0 where
  -- of two costs exactly one holds: the first is less, they are the same, the second is less
  pub trichotomy : (a b : C) → less a b ≡ false → less b a ≡ false → a ≡ b
  pub irreflexive : (a : C) → less a a ≡ false
  pub one_way : (a b : C) → less a b ≡ true → less b a ≡ false
  pub transitive : (a b c : C) → less a b ≡ true → less b c ≡ true → less a c ≡ true
  pub zero-least : (a : C) → less a zero ≡ false
  pub over_greatest : (a : C) → less over a ≡ false
  pub plus_comm : (a b : C) → plus a b ≡ plus b a
  pub plus_assoc : (a b c : C) → plus (plus a b) c ≡ plus a (plus b c)
  pub plus-zero : (a : C) → plus zero a ≡ a
  pub plus-over : (a : C) → plus over a ≡ over
  -- if a is at most b, then a + c is at most b + c
  pub monotone : (a b c : C) → less b a ≡ false → less (plus b c) (plus a c) ≡ false
  -- a way cost makes a sum that is not Over greater
  pub grows : (a w : C) → way w ≡ true → (plus a w ≢ over) → less a (plus a w) ≡ true
  -- a sum of at most 255 way costs is not Over
  pub reaches : (ws : List C) → length ws ≤ 255 → all_ways way ws ≡ true → total zero plus ws ≢ over
  pub word_back : (a : C) → unword (word a) ≡ a
  -- a word of no cost reads as Over
  pub word_other : (n : ℕ) → ((a : C) → word a ≢ n) → unword n ≡ over
