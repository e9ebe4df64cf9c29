-- The guarantee, which holds in every season: after any list of calls from a new draft, refused ones included.
--   shut_by     the first shut set as altered by the accepted shuttings and clearings among the calls
--   present     the ways present after the calls: the chart's under that set
--   LeastWalk   the places are a walk that costs c, and no walk between its ends costs less
--   Asked       both places are on the ground and free, and the record table is long enough
--   Honest      every shortcut is permitted, and costs what the least walk between its ends costs
--   Narrow      every settled place is one of the two asked, or climbs from one of them, or stands at the top level
--   SeasonKept  the guarantee
use Rattle.std.specs.Prelude.{◌≡◌, ℕ, ◌<◌, ◌≤◌, Bool, true, false, cond, List, [], ◌∷◌, length, take, Some}
use Rattle.std.specs.List.{slice_get}
use Rattle.ground.specs.declared.refusal.Refusal.TheVariants.{NoWay}
use Rattle.ground.specs.Marks.{free_under}
use Rattle.ground.specs.Shutting.{with_place, without_place}
use Rattle.hierarchy.specs.declared.Answer.{Answer}
use Rattle.hierarchy.specs.declared.Answer.TheVariants.{Done, Refused, NotTaken, Routed, LevelIs, ShortcutIs}
use Rattle.hierarchy.specs.declared.Route.{Route}
use Rattle.hierarchy.specs.declared.SearchRecord.{SearchRecord}
use Rattle.hierarchy.specs.declared.Shortcut.{Shortcut}
use Rattle.hierarchy.specs.Kinds.{Kind, Price}
use Rattle.hierarchy.specs.Walks.{end, along, Walk, Least, Joined}
use Rattle.hierarchy.specs.Lands.{Terrain, Land, land_at}
use Rattle.hierarchy.specs.Books.{Book}
use Rattle.hierarchy.specs.Searches.{Relevant}
use Rattle.hierarchy.specs.Seasons.{Call, choose, shut, clear, level, reopen, route, level_of, shortcut, Post, Ruled, Effect, effect, new_draft, after_calls}

-- the set with the place of a shutting in it, and without that of a clearing
abbrev pub marks : {C : Type 0} → Call C → (ℕ → Bool) → ℕ → Bool
marks (shut p) s = with_place p s
marks (clear p) s = without_place p s
marks (choose n) s = s
marks (level rule) s = s
marks reopen s = s
marks (route a b table list) s = s
marks (level_of p) s = s
marks (shortcut k) s = s

abbrev pub accepted : {C : Type 0} → Answer C → Bool
accepted Done = true
accepted (Refused r) = false
accepted NotTaken = false
accepted (Routed r) = true
accepted (LevelIs l) = true
accepted (ShortcutIs s) = true

abbrev pub LeastWalk : (K : Kind) → (ℕ → ℕ → Price K) → ℕ → ℕ → List ℕ → K.C → Type 0
LeastWalk K way a b places c =
    ((l : List ℕ) × (places ≡ a ∷ l) × (end a l ≡ b) × (along K way a l ≡ Some c)) × ((d : K.C) → Walk K way a b d → K.less d c ≡ false)

pub record Asked (size : ℕ) (shut : ℕ → Bool) (a b records : ℕ) : Type 0 where
  pub first_free : free_under size shut a ≡ true
  pub second_free : free_under size shut b ≡ true
  pub enough : size ≤ records

abbrev pub Honest : (K : Kind) → (ℕ → ℕ → Price K) → (ℕ → ℕ → Bool) → List (Shortcut K.C) → Type 0
Honest K way rule shortcuts =
    (k : ℕ) (s : Shortcut K.C) → slice_get shortcuts k ≡ Some s → (rule s.smaller s.larger ≡ true) × Least K way s.smaller s.larger s.cost

abbrev pub Narrow : {K : Kind} → Land K → Book K → ℕ → ℕ → ℕ → List (SearchRecord K.C) → Type 0
Narrow {K} land book top a b table =
    (x : ℕ) (r : SearchRecord K.C) → x < land.size → slice_get table x ≡ Some r → r.settled ≡ true → Relevant land book top a b x

module _ {K : Kind} (terrain : Terrain K) where
  -- of a post that is as given before the calls
  abbrev pub shut_by : Post K → List (Call K.C) → (ℕ → Bool) → ℕ → Bool
  shut_by post [] s = s
  shut_by post (call ∷ calls) s =
      let e = effect terrain post call in shut_by e.post calls (cond (accepted e.answer) (marks call s) s)

  module _ (first : ℕ → Bool) where
    abbrev pub post_after : List (Call K.C) → Post K
    post_after = after_calls terrain (new_draft terrain first)

    abbrev pub shut_after : List (Call K.C) → ℕ → Bool
    shut_after calls = shut_by (new_draft terrain first) calls first

    abbrev pub present : List (Call K.C) → ℕ → ℕ → Price K
    present calls = terrain.chart (shut_after calls)

    -- what comes of a route that is asked after the calls
    abbrev pub routing_after : List (Call K.C) → ℕ → ℕ → List (SearchRecord K.C) → List ℕ → Effect K
    routing_after calls a b table list = effect terrain (post_after calls) (route a b table list)

    pub record SeasonKept : Type 0 where
      pub least_walk : (calls : List (Call K.C)) (a b : ℕ) (table : List (SearchRecord K.C)) (list : List ℕ) (r : Route K.C) →
          let e = routing_after calls a b table list in
          e.answer ≡ Routed r → LeastWalk K (present calls) a b (take r.length e.list) r.cost
      pub no_way : (calls : List (Call K.C)) (a b : ℕ) (table : List (SearchRecord K.C)) (list : List ℕ) (r : Ruled K) →
          (post_after calls).ruled ≡ Some r →
          let answer = (routing_after calls a b table list).answer in
          let asked = Asked terrain.size (shut_after calls) a b (length table) in
          (answer ≡ Refused NoWay → asked × ¬ (Joined K (present calls) a b)) × (asked → ¬ (Joined K (present calls) a b) → answer ≡ Refused NoWay)
      pub honest_book : (calls : List (Call K.C)) (r : Ruled K) → (post_after calls).ruled ≡ Some r → Honest K (present calls) r.rule r.book.shortcuts
      pub narrow-search : (calls : List (Call K.C)) (a b : ℕ) (table : List (SearchRecord K.C)) (list : List ℕ) (r : Ruled K) →
          (post_after calls).ruled ≡ Some r → Asked terrain.size (shut_after calls) a b (length table) →
          Narrow (land_at terrain (shut_after calls)) r.book (post_after calls).levels a b (routing_after calls a b table list).table
