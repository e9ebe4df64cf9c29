-- What levelling, search and layout come to, in the subject's words.
--   Lawful        what a land of a lawful ground keeps to
--   before        the book as it stood before shortcut number k
--   WellLevelled  what holds of every book that levelling makes
--   WellSearched  what holds of every search over such a book
--   WellLaid      what holds of the layout of its links
use Rattle.std.specs.Prelude.{◌≡◌, ℕ, ◌<◌, ◌≤◌, Bool, true, false, List, ◌∷◌, length, take, Some, None, ◌≢◌}
use Rattle.std.specs.List.{slice_get}
use Rattle.hierarchy.specs.declared.Shortcut.{Shortcut}
use Rattle.hierarchy.specs.Kinds.{Kind}
use Rattle.hierarchy.specs.Walks.{end, along, Least, Joined, SetAside}
use Rattle.hierarchy.specs.Lands.{Land, ways}
use Rattle.hierarchy.specs.Chains.{Arching}
use Rattle.hierarchy.specs.Books.{Book, joins, link}
use Rattle.hierarchy.specs.Searches.{Front, Relevant}
use Rattle.hierarchy.specs.Layouts.{chain_to, lay_link}

pub record Lawful {K : Kind} (land : Land K) : Type 0 where
  pub few : land.size ≤ 256
  pub free_on : (a : ℕ) → land.free a ≡ true → a < land.size
  pub alike : (a b : ℕ) → ways land a b ≡ ways land b a
  pub apart : (a : ℕ) → ways land a a ≡ None
  pub ends_free : (a b : ℕ) (c : K.C) → ways land a b ≡ Some c → land.free a ≡ true

abbrev pub before : {K : Kind} → Book K → ℕ → Book K
before book k = record { level = book.level; kept = book.kept; shortcuts = take k book.shortcuts }

pub record WellLevelled {K : Kind} (land : Land K) (rule : ℕ → ℕ → Bool) (top : ℕ) (book : Book K) : Type 0 where
  -- between any two joined places an arching chain costs what the least walk costs
  pub arches : (a b : ℕ) (c : K.C) → Least K (ways land) a b c →
      (l : List ℕ) × (end a l ≡ b) × Arching book.level top a l × (along K (link land book) a l ≡ Some c)
  -- every link costs what the least walk between its ends costs
  pub exact : (a b : ℕ) (c : K.C) → link land book a b ≡ Some c → Least K (ways land) a b c
  -- the ways kept are those that no walk beats, alike from either end
  pub kept-unless : (a b : ℕ) → (SetAside K (ways land) a b → book.kept a b ≡ None) × (¬ (SetAside K (ways land) a b) → book.kept a b ≡ ways land a b)
  pub kept_ways : (a b : ℕ) (c : K.C) → book.kept a b ≡ Some c → ways land a b ≡ Some c
  pub kept-alike : (a b : ℕ) → book.kept a b ≡ book.kept b a
  pub permitted : (k : ℕ) (s : Shortcut K.C) → slice_get book.shortcuts k ≡ Some s → rule s.smaller s.larger ≡ true
  -- a shortcut stands for two links of the book as it stood before
  pub halves : (k : ℕ) (s : Shortcut K.C) → slice_get book.shortcuts k ≡ Some s →
      (p : K.C) × (q : K.C) × (link land (before book k) s.smaller s.middle ≡ Some p) × (link land (before book k) s.middle s.larger ≡ Some q) × (s.cost ≡ K.plus p q)
  pub ordered : (k : ℕ) (s : Shortcut K.C) → slice_get book.shortcuts k ≡ Some s → (s.smaller < s.larger) × (s.larger < land.size)
  -- at most one link joins two places
  pub single : (j k : ℕ) (s t : Shortcut K.C) → slice_get book.shortcuts j ≡ Some s → slice_get book.shortcuts k ≡ Some t → joins s t.smaller t.larger ≡ true → j ≡ k
  pub no_way_beside : (k : ℕ) (s : Shortcut K.C) → slice_get book.shortcuts k ≡ Some s → book.kept s.smaller s.larger ≡ None
  pub room : length book.shortcuts ≤ 2048
  pub bounded : (x : ℕ) → book.level x ≤ top
  -- shut places, and only they, have level 0
  pub grounded : (x : ℕ) → (land.free x ≡ true → 0 < book.level x) × (land.free x ≡ false → book.level x ≡ 0)

pub record WellSearched {K : Kind} (land : Land K) (book : Book K) (top a b : ℕ) (front : Front K) : Type 0 where
  pub found : front.settled b ≡ true → (c : K.C) × (front.reached b ≡ Some c) × Least K (ways land) a b c
  pub joined : Joined K (ways land) a b → front.settled b ≡ true
  pub narrow : (x : ℕ) → front.settled x ≡ true → (x < land.size) × Relevant land book top a b x
  -- the predecessors lead back to the start over links, each cost being its predecessor's plus the link
  pub back : (x : ℕ) → front.settled x ≡ true → (x ≢ a) → (front.settled (front.from x) ≡ true) × (c : K.C) × (p : K.C) × (q : K.C) ×
      (front.reached x ≡ Some c) × (front.reached (front.from x) ≡ Some p) × (link land book (front.from x) x ≡ Some q) × (c ≡ K.plus p q)
  pub chain : front.settled b ≡ true → (l : List ℕ) × (chain_to front a land.size b ≡ a ∷ l) × (end a l ≡ b) × (along K (link land book) a l ≡ front.reached b)

abbrev pub WellLaid : {K : Kind} → Land K → Book K → Type 0
WellLaid {K} land book =
    (x y : ℕ) (c : K.C) → link land book x y ≡ Some c → (end x (lay_link book x y) ≡ y) × (along K (ways land) x (lay_link book x y) ≡ Some c)
