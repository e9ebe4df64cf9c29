-- The book, and the links that it leaves.
--   Book              levels, the ways kept, which are those not set aside, and shortcuts
--   joins             the shortcut joins the two places
--   shortcut_between  the earliest shortcut that joins them
--   link              the price of the link: a way kept, or a shortcut
use Rattle.std.specs.Prelude.{ℕ, Bool, cond, not, ◌&&◌, ◌||◌, List, [], ◌∷◌, Some, None, Option, ◌==◌, nat_lt}
use Rattle.std.specs.Option.{option_map}
use Rattle.ground.specs.Earliest.{or_else}
use Rattle.hierarchy.specs.declared.Shortcut.{Shortcut}
use Rattle.hierarchy.specs.Kinds.{Kind, Price}
use Rattle.hierarchy.specs.Lands.{Land}

pub record Book (K : Kind) : Type 0 where
  pub level : ℕ → ℕ
  pub kept : ℕ → ℕ → Price K
  pub shortcuts : List (Shortcut K.C)

abbrev pub joins : {C : Type 0} → Shortcut C → ℕ → ℕ → Bool
joins s a b = (s.smaller == a && s.larger == b) || (s.smaller == b && s.larger == a)

abbrev pub shortcut_between : {C : Type 0} → List (Shortcut C) → ℕ → ℕ → Option (Shortcut C)
shortcut_between [] a b = None
shortcut_between (s ∷ l) a b = cond (joins s a b) (Some s) (shortcut_between l a b)

-- among the places below n
abbrev pub link_among : {K : Kind} → ℕ → Book K → ℕ → ℕ → Price K
link_among n book a b =
    cond (nat_lt a n && (nat_lt b n && not (a == b)))
    (or_else (book.kept a b) (option_map (λ s. s.cost) (shortcut_between book.shortcuts a b))) None

abbrev pub link : {K : Kind} → Land K → Book K → ℕ → ℕ → Price K
link land = link_among land.size
