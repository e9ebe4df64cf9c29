-- Which pairs of neighbours need a shortcut.
--   Detoured   some arching chain from a to b without v costs at most the two links by v
--   MarksNeed  a mark says of a later neighbour that it needs a shortcut over v
--   is_open    a later neighbour whose link, if it has one, costs more than the two links by v
--   is_beyond  a marked place that no record reaches at a cost of at most the two links by v
--   Beyond     of the marked places those to which every walk over detour steps costs more, as far as a bound tells
--   Covers     a price is at least what each marked pair costs by v
use Rattle.std.specs.Prelude.{◌≡◌, ℕ, ◌+◌, ◌<◌, Bool, true, false, not, ◌&&◌, List, is_some, Decides, Option, nat_lt, slice_index_or}
use Rattle.cost.specs.declared.Cost.{Ghosts as Costs}
use Rattle.hierarchy.specs.declared.SearchRecord.{SearchRecord}
use Rattle.hierarchy.specs.Kinds.{Kind, kind_of}
use Rattle.hierarchy.specs.Chains.{Round}
use Rattle.hierarchy.specs.Books.{Book, link_among}
use Rattle.frontier.specs.Fronts.{blank}
use Rattle.levelling.specs.Near.{is_near, by_links}
use Rattle.levelling.specs.Priced.{at_most, reached_within}
use Rattle.levelling.specs.Detours.{detour_steps}
use Rattle.levelling.specs.Reach.{Told}

module _ {K : Kind} (n : ℕ) (book : Book K) where
  abbrev pub Detoured : ℕ → ℕ → ℕ → ℕ → Type 0
  Detoured i v a b = Round K (link_among n book) book.level (i + 1) v a b (by_links n book v a b)

  abbrev pub MarksNeed : ℕ → ℕ → ℕ → List Bool → Type 0
  MarksNeed i v a marks = (b : ℕ) → b < n → Decides (slice_index_or marks b false) ((a < b) × (is_near n book i v b ≡ true) × (¬ (Detoured i v a b)))

module _ {C : Type 0} (k : Costs C) (n : ℕ) (book : Book (kind_of k)) (v a : ℕ) where
  abbrev pub is_open : List Bool → ℕ → Bool
  is_open near b = nat_lt a b && (slice_index_or near b false && not (at_most k (link_among n book a b) (by_links n book v a b)))

  abbrev pub Covers : List Bool → Option C → Type 0
  Covers marks bound = (b : ℕ) → b < n → slice_index_or marks b false ≡ true → is_some (by_links n book v a b) ≡ true → at_most k (by_links n book v a b) bound ≡ true

  abbrev pub is_beyond : List Bool → List (SearchRecord C) → ℕ → Bool
  is_beyond marks records b = slice_index_or marks b false && not (reached_within k (slice_index_or records b (blank k)) (by_links n book v a b))

  -- where the search is bounded, a place counts as reached only if that is told
  abbrev pub Beyond : ℕ → C → List Bool → List Bool → Type 0
  Beyond i bound marks left =
      (b : ℕ) → b < n → (known : SearchRecord C) × Told k (detour_steps (link_among n book) book.level (i + 1) v a) a bound b known
      × (slice_index_or left b false ≡ (slice_index_or marks b false && not (reached_within k known (by_links n book v a b))))
