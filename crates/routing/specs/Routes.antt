-- What routing comes to.
--   routed  an answer, with the record table and the place list as they are then
--   Handed  the places are written to the beginning of the list and the route is answered, or the list is too short and stays
use Rattle.std.specs.Prelude.{◌≡◌, ℕ, ◌<◌, ◌≤◌, List, [], ◌++◌, length, drop, Ok, Err, Result, slice_index_or}
use Rattle.cost.specs.declared.Cost.{Ghosts as Costs}
use Rattle.ground.specs.declared.refusal.Refusal.{Refusal}
use Rattle.ground.specs.declared.refusal.Refusal.TheVariants.{ListTooShort}
use Rattle.hierarchy.specs.declared.Route.{Route}
use Rattle.hierarchy.specs.declared.SearchRecord.{SearchRecord}
use Rattle.hierarchy.specs.Kinds.{Kind}
use Rattle.hierarchy.specs.Searches.{tally}
use Rattle.hierarchy.specs.Answers.{Routing}
use Rattle.frontier.specs.Fronts.{blank, front_of}

abbrev pub routed : (K : Kind) → Result (Route K.C) Refusal → List (SearchRecord K.C) → List ℕ → Routing K
routed K answer table list = record { answer = answer; table = table; list = list }

-- the table is as a search to b among n places left it
abbrev pub Handed : {C : Type 0} → (k : Costs C) → ℕ → ℕ → List ℕ → List (SearchRecord C) → List ℕ → Result (Route C) Refusal → List ℕ → Type 0
Handed k n b places table list (Ok r) after =
    (length places ≤ length list)
    × (r ≡ record { cost = (slice_index_or table b (blank k)).cost; tally = tally (front_of k n table []) n; length = length places })
    × (after ≡ places ++ drop (length places) list)
Handed k n b places table list (Err r) after = (length list < length places) × (r ≡ ListTooShort) × (after ≡ list)
