-- The links of a book, found at once.
--   number_between  1 + the number of the earliest shortcut that joins two places, or 0
--   entry_at        the entry of a pair of places below 256
--   entry_between   the entry of a pair of places; those not below 256 are apart
--   Indexed         every entry that is no way names the earliest shortcut between its places
--   with_entry      the entries with that of a pair of places below 256
--   entered         the entries once a shortcut joins a pair of places that were apart
use Rattle.std.specs.Prelude.{◌≡◌, ℕ, zero, suc, ◌+◌, ◌*◌, ◌<◌, cond, ◌&&◌, List, [], ◌∷◌, nat_lt, slice_index_or, slice_set}
use Rattle.hierarchy.specs.declared.Shortcut.{Shortcut}
use Rattle.hierarchy.specs.Books.{joins}
use Rattle.levelling.specs.declared.entry.Entry.{Entry}
use Rattle.levelling.specs.declared.entry.Entry.TheVariants.{Apart, Way, Shortcut as By}

-- one more, unless there is none
abbrev pub next : ℕ → ℕ
next zero = 0
next (suc k) = suc (suc k)

abbrev pub number_between : {C : Type 0} → List (Shortcut C) → ℕ → ℕ → ℕ
number_between [] a b = 0
number_between (s ∷ l) a b = cond (joins s a b) 1 (next (number_between l a b))

-- at 256 × the first place + the second
abbrev pub entry_at : {C : Type 0} → List (Entry C) → ℕ → ℕ → Entry C
entry_at entries a b = slice_index_or entries (a * 256 + b) Apart

abbrev pub entry_between : {C : Type 0} → List (Entry C) → ℕ → ℕ → Entry C
entry_between entries a b = cond (nat_lt a 256 && nat_lt b 256) (entry_at entries a b) Apart

-- the number that an entry names; a way says nothing of it
abbrev pub named : {C : Type 0} → Entry C → ℕ → ℕ
named Apart number = 0
named (Way c) number = number
named (By k) number = suc k

abbrev pub Indexed : {C : Type 0} → List (Entry C) → List (Shortcut C) → Type 0
Indexed entries shortcuts =
    (a b : ℕ) → (a < 256) × (b < 256) → named (entry_at entries a b) (number_between shortcuts a b) ≡ number_between shortcuts a b

-- what an entry becomes: a way kept and an earlier shortcut come first
abbrev pub or_by : {C : Type 0} → Entry C → ℕ → Entry C
or_by Apart k = By k
or_by (Way c) k = Way c
or_by (By j) k = By j

abbrev pub with_entry : {C : Type 0} → List (Entry C) → ℕ → ℕ → Entry C → List (Entry C)
with_entry entries a b entry = cond (nat_lt a 256 && nat_lt b 256) (slice_set entries (a * 256 + b) entry) entries

abbrev pub entered : {C : Type 0} → List (Entry C) → ℕ → ℕ → ℕ → List (Entry C)
entered entries a b k = with_entry entries a b (or_by (entry_at entries a b) k)
