-- The sets of pairs of the shortcut rules.
--   no_pair      no pair
--   same_valley  the pairs of places with equal bytes; a place beyond the bytes is in no pair
use Rattle.std.specs.Prelude.{ℕ, Bool, false, ◌&&◌, List, length, ◌==◌, nat_lt, slice_index}

abbrev pub no_pair : ℕ → ℕ → Bool
no_pair a b = false

abbrev pub same_valley : List ℕ → ℕ → ℕ → Bool
same_valley valleys a b = nat_lt a (length valleys) && (nat_lt b (length valleys) && slice_index valleys a == slice_index valleys b)
