-- Which ways are set aside.
--   MarksBeaten  the marks of the links from a say whether some walk over links beats each
--   beaten       a link that costs more than what is known of its end
--   leaves       a way that is marked is not kept
--   BeatenAside  the ways kept are those that no walk over links beats, and nothing else differs
use Rattle.std.specs.Prelude.{◌≡◌, ℕ, ◌<◌, Bool, false, cond, ◌&&◌, List, Some, None, Decides, Option, slice_index_or}
use Rattle.cost.specs.declared.Cost.{Ghosts as Costs}
use Rattle.hierarchy.specs.declared.SearchRecord.{SearchRecord}
use Rattle.hierarchy.specs.Kinds.{Kind}
use Rattle.hierarchy.specs.Walks.{SetAside}
use Rattle.hierarchy.specs.Books.{Book, link_among}

abbrev pub beaten : {C : Type 0} → (k : Costs C) → Option C → SearchRecord C → Bool
beaten k None known = false
beaten k (Some c) known = known.settled && k.less known.cost c

abbrev pub leaves : {C : Type 0} → List Bool → ℕ → Option C → Option C
leaves marks b kept = cond (slice_index_or marks b false) None kept

module _ {K : Kind} (n : ℕ) (book : Book K) where
  abbrev pub MarksBeaten : ℕ → List Bool → Type 0
  MarksBeaten a marks = (b : ℕ) → b < n → Decides (slice_index_or marks b false) (SetAside K (link_among n book) a b)

  pub record BeatenAside (after : Book K) : Type 0 where
    pub beaten : (a b : ℕ) → SetAside K (link_among n book) a b → after.kept a b ≡ None
    pub unbeaten : (a b : ℕ) → (SetAside K (link_among n book) a b → ⊥) → after.kept a b ≡ book.kept a b
    pub levels : after.level ≡ book.level
    pub shortcuts : after.shortcuts ≡ book.shortcuts
