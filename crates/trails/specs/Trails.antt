-- Trail lists: why a list of records is refused, and the ways that its records give.
--   names         the record names the two places, in either order
--   found         the cost of the earliest record that names the two places, or none
--   refuses       why the record at position k is refused, if it is, given the records before it
--   list_refusal  why the list is refused, if it is
--   list_size     the number of places, 0 where the list is refused
--   trail_chart   the cost of the way between two places, or none, where the set s is shut
--   RecordedWay   some record of the list names the two places and has cost c, and both places are free
--   ByRecords     the ways of a chart are those that the records give
use Rattle.std.specs.Prelude.{◌≡◌, ℕ, Bool, true, false, cond, not, ◌&&◌, ◌||◌, List, [], ◌∷◌, length, take, is_some, Some, None, Option, ◌==◌, nat_lt}
use Rattle.std.specs.List.{slice_get}
use Rattle.ground.specs.declared.refusal.Refusal.{Refusal}
use Rattle.ground.specs.declared.refusal.Refusal.TheVariants.{SizeOutOfRange, WrongLength, RecordOffGround, RecordToItself, RecordCost, RecordRepeated}
use Rattle.trails.specs.declared.Record.{Record}
use Rattle.ground.specs.Earliest.{earliest}
use Rattle.ground.specs.Marks.{free_under}

abbrev pub names : {C : Type 0} → Record C → ℕ → ℕ → Bool
names r a b = (r.from == a && r.to == b) || (r.from == b && r.to == a)

abbrev pub found : {C : Type 0} → List (Record C) → ℕ → ℕ → Option C
found [] a b = None
found (r ∷ rs) a b = cond (names r a b) (Some r.cost) (found rs a b)

abbrev pub refuses : {C : Type 0} → (C → Bool) → ℕ → ℕ → List (Record C) → Option (Record C) → Option Refusal
refuses way size k before None = None
refuses way size k before (Some r) =
    cond (not (nat_lt r.from size && nat_lt r.to size)) (Some (RecordOffGround k))
    (cond (r.from == r.to) (Some (RecordToItself k))
    (cond (not (way r.cost)) (Some (RecordCost k))
    (cond (is_some (found before r.from r.to)) (Some (RecordRepeated k)) None)))

-- nth records k is the record at position k, or none past the end
abbrev pub record_refusal : {C : Type 0} → (C → Bool) → ℕ → List (Record C) → ℕ → Option Refusal
record_refusal way size records k = refuses way size k (take k records) (slice_get records k)

abbrev pub list_refusal : {C : Type 0} → (C → Bool) → ℕ → List (Record C) → Option Refusal
list_refusal way size records =
    cond (nat_lt 256 size) (Some SizeOutOfRange)
    (cond (nat_lt 1024 (length records)) (Some WrongLength) (earliest (record_refusal way size records) (length records)))

abbrev pub list_size : {C : Type 0} → (C → Bool) → ℕ → List (Record C) → ℕ
list_size way size records = cond (is_some (list_refusal way size records)) 0 size

-- the cost if it is a way cost, otherwise none
abbrev pub if_way : {C : Type 0} → (C → Bool) → Option C → Option C
if_way way None = None
if_way way (Some c) = cond (way c) (Some c) None

-- two places that differ, both on the ground and free
abbrev pub passable : ℕ → (ℕ → Bool) → ℕ → ℕ → Bool
passable size s a b = not (a == b) && (free_under size s a && free_under size s b)

abbrev pub trail_chart : {C : Type 0} → (C → Bool) → ℕ → List (Record C) → (ℕ → Bool) → ℕ → ℕ → Option C
trail_chart way size records s a b = cond (passable size s a b) (if_way way (found records a b)) None

pub record RecordedWay {C : Type 0} (records : List (Record C)) (s : ℕ → Bool) (a b : ℕ) (c : C) : Type 0 where
  pub position : ℕ
  pub by : Record C
  pub listed : slice_get records position ≡ Some by
  pub named : names by a b ≡ true
  pub priced : by.cost ≡ c
  pub from-free : s a ≡ false
  pub to_free : s b ≡ false

abbrev pub ByRecords : {C : Type 0} → List (Record C) → ((ℕ → Bool) → ℕ → ℕ → Option C) → Type 0
ByRecords {C} records chart =
    (s : ℕ → Bool) (a b : ℕ) (c : C) →
    (chart s a b ≡ Some c → RecordedWay records s a b c) × (RecordedWay records s a b c → chart s a b ≡ Some c)
