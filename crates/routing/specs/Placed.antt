-- The places of a route as they are written.
--   places_of  the places written so far
--   Appended   more places are written, or there would be more than 256 in all
--   LaidOut    the places of the whole are written, or there are more than 256
--   Near       every place is below 256
use Rattle.std.specs.Prelude.{◌≡◌, ℕ, ◌<◌, List, ◌++◌, length, Ok, Err, Result, ⊤, slice_index}
use Rattle.levelling.specs.declared.full.Full.{Full}
use Rattle.routing.specs.declared.laid.Laid.{Laid}

abbrev pub places_of : Laid → List ℕ
places_of l = l.places.items

abbrev pub Appended : Result ⊤ Full → List ℕ → List ℕ → List ℕ → Type 0
Appended (Ok done) old more new = new ≡ old ++ more
Appended (Err full) old more new = 256 < length (old ++ more)

abbrev pub LaidOut : Result Laid Full → List ℕ → Type 0
LaidOut (Ok l) whole = places_of l ≡ whole
LaidOut (Err full) whole = 256 < length whole

abbrev pub Near : List ℕ → Type 0
Near chain = (k : ℕ) → k < length chain → slice_index chain k < 256
