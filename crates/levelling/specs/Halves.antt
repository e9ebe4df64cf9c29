-- How a link is divided.
--   halves_at      the halves of the shortcut of that number, counted from 1
--   halves_before  the halves of the link between two places, if it is one of the first n shortcuts
--   MiddlesNear    every shortcut is divided at a place below 256
use Rattle.std.specs.Prelude.{◌≡◌, ℕ, zero, suc, ◌<◌, cond, ◌&&◌, List, take, is_some, Some, None, Option, nat_lt}
use Rattle.std.specs.List.{slice_get}
use Rattle.std.specs.Option.{option_map}
use Rattle.hierarchy.specs.declared.Shortcut.{Shortcut}
use Rattle.hierarchy.specs.Kinds.{Kind}
use Rattle.hierarchy.specs.Books.{Book as Meant}
use Rattle.levelling.specs.declared.book.halves.Halves.{Halves}
use Rattle.levelling.specs.Entries.{number_between}

abbrev pub halved : {C : Type 0} → ℕ → Shortcut C → Halves
halved k s = record { middle = s.middle; number = k }

abbrev pub halves_at : {C : Type 0} → List (Shortcut C) → ℕ → Option Halves
halves_at l zero = None
halves_at l (suc k) = option_map (halved k) (slice_get l k)

-- a way kept is not divided, and a book has no links beyond the first 256 places
abbrev pub halves_before : {K : Kind} → Meant K → ℕ → ℕ → ℕ → Option Halves
halves_before book n a b =
    cond (nat_lt a 256 && nat_lt b 256)
    (cond (is_some (book.kept a b)) None (halves_at book.shortcuts (number_between (take n book.shortcuts) a b))) None

abbrev pub MiddlesNear : {C : Type 0} → List (Shortcut C) → Type 0
MiddlesNear {C} l = (k : ℕ) (s : Shortcut C) → slice_get l k ≡ Some s → s.middle < 256
