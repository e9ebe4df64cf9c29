-- What routing and the questions to a levelled post answer, and what they leave in the memory handed in.
--   choose_refusal   why a number of levels is refused
--   before_search, after_search  why a route is refused, before the search and after it
--   Routing, routing the answer, the record table and the place list after routing
--   level_answer     the level of a place
--   shortcut_answer  shortcut number k
use Rattle.std.specs.Prelude.{ℕ, cond, ◌&&◌, List, ◌++◌, length, drop, Some, None, Ok, Err, Option, Result, nat_le, nat_lt}
use Rattle.std.specs.List.{slice_get}
use Rattle.std.specs.Option.{unwrap_or, ok_or}
use Rattle.ground.specs.declared.refusal.Refusal.{Refusal}
use Rattle.ground.specs.declared.refusal.Refusal.TheVariants.{LevelsOutOfRange, OffGround, AlreadyShut, TableTooShort, NoWay, RouteTooLong, ListTooShort, NoSuchShortcut}
use Rattle.ground.specs.Earliest.{or_else}
use Rattle.hierarchy.specs.declared.Route.{Route}
use Rattle.hierarchy.specs.declared.SearchRecord.{SearchRecord}
use Rattle.hierarchy.specs.declared.Shortcut.{Shortcut}
use Rattle.hierarchy.specs.Kinds.{Kind}
use Rattle.hierarchy.specs.Lands.{Land, on}
use Rattle.hierarchy.specs.Books.{Book}
use Rattle.hierarchy.specs.Searches.{Front, search, table_after, tally}
use Rattle.hierarchy.specs.Layouts.{route}

abbrev pub choose_refusal : ℕ → Option Refusal
choose_refusal levels = cond (nat_le 1 levels && nat_le levels 32) None (Some LevelsOutOfRange)

pub record Routing (K : Kind) : Type 0 where
  pub answer : Result (Route K.C) Refusal
  pub table : List (SearchRecord K.C)
  pub list : List ℕ

module _ {K : Kind} (land : Land K) where
  abbrev pub off_ground : ℕ → ℕ → Option Refusal
  off_ground a asked = cond (on land a) None (Some (OffGround asked))

  abbrev pub shut_end : ℕ → ℕ → Option Refusal
  shut_end a asked = cond (land.free a) None (Some (AlreadyShut asked))

  -- of a route from a to b with that many records
  abbrev pub before_search : ℕ → ℕ → ℕ → Option Refusal
  before_search a b records =
      or_else (off_ground a 0) (or_else (off_ground b 1) (or_else (shut_end a 0) (or_else (shut_end b 1)
      (cond (nat_lt records land.size) (Some TableTooShort) None))))

  -- of a route to b with that many places, where the list has room for so many
  abbrev pub after_search : Front K → ℕ → ℕ → ℕ → Option Refusal
  after_search front b places room =
      cond (front.settled b) (cond (nat_lt 256 places) (Some RouteTooLong) (cond (nat_lt room places) (Some ListTooShort) None)) (Some NoWay)

  module _ (book : Book K) where
    abbrev pub found_route : Front K → ℕ → ℕ → List ℕ → Route K.C
    found_route front a b places =
        record { cost = unwrap_or (front.reached b) K.over; tally = tally front land.size; length = length places }

    abbrev pub searched : Front K → ℕ → ℕ → List (SearchRecord K.C) → List ℕ → Routing K
    searched front a b table list =
        let places = route land book front a b in
        elim (after_search front b (length places) (length list)) [
          | Some r ↦ record { answer = Err r; table = table_after front land.size table; list = list }
          | None ↦ record { answer = Ok (found_route front a b places); table = table_after front land.size table; list = places ++ drop (length places) list }
        ]

    abbrev pub routing : ℕ → ℕ → ℕ → List (SearchRecord K.C) → List ℕ → Routing K
    routing top a b table list =
        elim (before_search a b (length table)) [
          | Some r ↦ record { answer = Err r; table = table; list = list }
          | None ↦ searched (search land book top a b) a b table list
        ]

    abbrev pub level_answer : ℕ → Result ℕ Refusal
    level_answer p = cond (on land p) (Ok (book.level p)) (Err (OffGround 0))

abbrev pub shortcut_answer : {K : Kind} → Book K → ℕ → Result (Shortcut K.C) Refusal
shortcut_answer book k = ok_or (slice_get book.shortcuts k) NoSuchShortcut
