-- What a book means, and what becomes of it.
--   meaning        the levels, the ways kept and the shortcuts that it holds
--   blank_book     every place has level 0, and nothing is linked
--   with_level     a place below 256 has that level
--   with_way       the way from one place below 256 to another is kept
--   without_way    that way is set aside, in a book that has no shortcuts
--   with_shortcut  the shortcut comes last, if there is room
use Rattle.std.specs.Prelude.{ℕ, cond, ◌&&◌, [], ◌∷◌, ◌++◌, length, Some, None, Option, ◌==◌, nat_lt, slice_index}
use Rattle.cost.specs.declared.Cost.{Ghosts as Costs}
use Rattle.hierarchy.specs.declared.Shortcut.{Shortcut}
use Rattle.hierarchy.specs.Kinds.{Kind, kind_of}
use Rattle.hierarchy.specs.Books.{Book as Meant}
use Rattle.hierarchy.specs.Levels.{put}
use Rattle.levelling.specs.declared.book.Book.{Book}
use Rattle.levelling.specs.declared.entry.Entry.{Entry}
use Rattle.levelling.specs.declared.entry.Entry.TheVariants.{Apart, Way, Shortcut as By}
use Rattle.levelling.specs.Entries.{entry_at}

abbrev pub way_in : {C : Type 0} → Entry C → Option C
way_in Apart = None
way_in (Way c) = Some c
way_in (By k) = None

abbrev pub meaning : {C : Type 0} → (k : Costs C) → Book C → Meant (kind_of k)
meaning k book = record {
  level = λ x. slice_index book.levels x;
  kept = λ a b. cond (nat_lt a 256 && nat_lt b 256) (way_in (entry_at book.entries.cells a b)) None;
  shortcuts = book.shortcuts.items;
}

abbrev pub blank_book : {C : Type 0} → (k : Costs C) → Meant (kind_of k)
blank_book k = record { level = λ x. 0; kept = λ a b. None; shortcuts = [] }

-- the ways kept, where that of one pair is now as given
abbrev pub put_price : {C : Type 0} → (ℕ → ℕ → Option C) → ℕ → ℕ → Option C → ℕ → ℕ → Option C
put_price kept a b p x y = cond (x == a && y == b) p (kept x y)

-- the ways kept with that of the pair
abbrev pub put_way : {C : Type 0} → (ℕ → ℕ → Option C) → ℕ → ℕ → C → ℕ → ℕ → Option C
put_way kept a b c x y = cond (x == a && y == b) (Some c) (kept x y)

module _ {K : Kind} where
  abbrev pub with_level : ℕ → ℕ → Meant K → Meant K
  with_level v i book = record {
    level = cond (nat_lt v 256) (put book.level v i) book.level;
    kept = book.kept;
    shortcuts = book.shortcuts;
  }

  abbrev pub with_way : ℕ → ℕ → K.C → Meant K → Meant K
  with_way a b c book = record {
    level = book.level;
    kept = cond (nat_lt a 256 && nat_lt b 256) (put_way book.kept a b c) book.kept;
    shortcuts = book.shortcuts;
  }

  abbrev pub without_way : ℕ → ℕ → Meant K → Meant K
  without_way a b book = record {
    level = book.level;
    kept = cond (length book.shortcuts == 0 && (nat_lt a 256 && nat_lt b 256)) (put_price book.kept a b None) book.kept;
    shortcuts = book.shortcuts;
  }

  abbrev pub with_shortcut : Shortcut K.C → Meant K → Meant K
  with_shortcut s book = record {
    level = book.level;
    kept = book.kept;
    shortcuts = cond (nat_lt (length book.shortcuts) 2048) (book.shortcuts ++ (s ∷ [])) book.shortcuts;
  }
