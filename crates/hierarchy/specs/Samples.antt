-- Worked samples: grounds and seasons, and what the definitions say of them.
--   seconds_kind, octile_kind  the two cost kinds
--   trail_list, trails, sheet  the terrain and the land of a trail list in seconds, and the land of a sheet
--   Samples        what levelling, searching and laying out come to
--   Told           an answer, with the places of a route and with costs as words
--   OnTrails, OnSheet          each call of the season is answered by what stands beside it
--   SeasonSamples  seasons, call by call
use Rattle.std.specs.Prelude.{◌≡◌, ℕ, Bool, true, false, List, [], ◌∷◌, map, take, replicate, None}
use Rattle.cost.specs.declared.seconds.Seconds.{Seconds}
use Rattle.cost.specs.Seconds.{seconds, zero_s, over_s, plus_s, less_s, way_s, word_s, unword_s}
use Rattle.cost.specs.SecondsLaws.{laws_s}
use Rattle.cost.specs.declared.octile.Octile.{Octile}
use Rattle.cost.specs.Octiles.{octile, zero_o, over_o, plus_o, less_o, way_o, word_o, unword_o}
use Rattle.cost.specs.OctileLaws.{laws_o}
use Rattle.trails.specs.declared.Record.{Record}
use Rattle.ground.specs.declared.refusal.Refusal.{Refusal}
use Rattle.ground.specs.declared.refusal.Refusal.TheVariants.{LevelsOutOfRange, OffGround, AlreadyShut, AlreadyFree, TableTooShort, NoWay, ListTooShort, NoSuchShortcut}
use Rattle.trails.specs.Trails.{trail_chart, list_size}
use Rattle.sheet.specs.Sheets.{sheet_chart, sheet_shut, sheet_size, sheet_width, sheet_height}
use Rattle.rule.specs.Rules.{no_pair, same_valley}
use Rattle.hierarchy.specs.declared.Answer.{Answer}
use Rattle.hierarchy.specs.declared.Answer.TheVariants.{Done, Refused, NotTaken, Routed, LevelIs, ShortcutIs}
use Rattle.hierarchy.specs.declared.SearchRecord.{SearchRecord}
use Rattle.hierarchy.specs.Kinds.{Kind}
use Rattle.hierarchy.specs.Lands.{Land, Terrain, land_at}
use Rattle.hierarchy.specs.Shortest.{below}
use Rattle.hierarchy.specs.Books.{Book}
use Rattle.hierarchy.specs.Levels.{levelling}
use Rattle.hierarchy.specs.Searches.{search, tally}
use Rattle.hierarchy.specs.Layouts.{route}
use Rattle.hierarchy.specs.Seasons.{Call, choose, shut, clear, level, reopen, route as route_call, level_of, shortcut, Post, effect, new_draft, after_calls}

abbrev pub seconds_kind : Kind
seconds_kind = record { C = Seconds; zero = zero_s; over = over_s; plus = plus_s; less = less_s; fair = way_s; word = word_s; unword = unword_s; laws = laws_s }

abbrev pub octile_kind : Kind
octile_kind = record { C = Octile; zero = zero_o; over = over_o; plus = plus_o; less = less_o; fair = way_o; word = word_o; unword = unword_o; laws = laws_o }

abbrev pub way : ℕ → ℕ → ℕ → Record Seconds
way a b c = record { from = a; to = b; cost = seconds c }

abbrev pub trail_list : ℕ → List (Record Seconds) → Terrain seconds_kind
trail_list n records = let size = list_size way_s n records in record { size = size; chart = trail_chart way_s size records }

abbrev pub trails : ℕ → List (Record Seconds) → Land seconds_kind
trails n records = land_at (trail_list n records) (λ x. false)

abbrev pub one_valley : ℕ → ℕ → ℕ → Bool
one_valley n = same_valley (replicate n 1)

module _ {K : Kind} (land : Land K) where
  abbrev pub levels : Book K → List ℕ
  levels book = map book.level (below land.size)

  -- ends, middle and the word of the cost
  abbrev pub listed : Book K → List (ℕ × ℕ × ℕ × ℕ)
  listed book = map (λ s. (s.smaller, s.larger, s.middle, K.word s.cost)) book.shortcuts

  abbrev pub places : Book K → ℕ → ℕ → ℕ → List ℕ
  places book top a b = route land book (search land book top a b) a b

  abbrev pub settled : Book K → ℕ → ℕ → ℕ → ℕ
  settled book top a b = tally (search land book top a b) land.size

abbrev pub row_of_three : Land seconds_kind
row_of_three = trails 3 (way 0 1 3 ∷ way 1 2 4 ∷ [])

abbrev pub ring : Land seconds_kind
ring = trails 4 (way 0 1 1 ∷ way 1 2 1 ∷ way 2 3 1 ∷ way 3 0 1 ∷ [])

abbrev pub row_of_five : Land seconds_kind
row_of_five = trails 5 (way 0 1 1 ∷ way 1 2 1 ∷ way 2 3 1 ∷ way 3 4 1 ∷ [])

abbrev pub row_of_four : Land seconds_kind
row_of_four = trails 4 (way 0 1 1 ∷ way 1 2 1 ∷ way 2 3 1 ∷ [])

-- a triangle whose long side costs that
abbrev pub triangle : ℕ → Land seconds_kind
triangle long = trails 3 (way 0 1 5 ∷ way 1 2 5 ∷ way 0 2 long ∷ [])

-- three by three, the middle blocked
abbrev pub sheet : Land octile_kind
sheet = land_at (record { size = 9; chart = sheet_chart 3 3 }) (sheet_shut 3 3 (0 ∷ 0 ∷ 0 ∷ 0 ∷ 1 ∷ 0 ∷ 0 ∷ 0 ∷ 0 ∷ []))

pub record Samples : Type 0 where
  pub a_levels : levels row_of_three (levelling row_of_three no_pair 2) ≡ 1 ∷ 2 ∷ 1 ∷ []
  pub b_levels : levels row_of_three (levelling row_of_three (one_valley 3) 2) ≡ 1 ∷ 1 ∷ 1 ∷ []
  pub b_shortcuts : listed row_of_three (levelling row_of_three (one_valley 3) 2) ≡ (0, 2, 1, 7) ∷ []
  pub c_levels : levels ring (levelling ring no_pair 2) ≡ 1 ∷ 1 ∷ 2 ∷ 2 ∷ []
  pub c_two : places ring (levelling ring no_pair 2) 2 0 2 ≡ 0 ∷ 3 ∷ 2 ∷ []
  pub c_one : places ring (levelling ring no_pair 1) 1 0 2 ≡ 0 ∷ 1 ∷ 2 ∷ []
  pub c_tally : settled ring (levelling ring no_pair 1) 1 0 2 ≡ 4
  pub d_levels : levels row_of_five (levelling row_of_five no_pair 3) ≡ 1 ∷ 2 ∷ 3 ∷ 2 ∷ 1 ∷ []
  pub e_shortcuts : listed row_of_four (levelling row_of_four (one_valley 4) 2) ≡ (0, 2, 1, 2) ∷ (0, 3, 2, 3) ∷ (1, 3, 2, 2) ∷ []
  pub e_there : places row_of_four (levelling row_of_four (one_valley 4) 2) 2 0 3 ≡ 0 ∷ 1 ∷ 2 ∷ 3 ∷ []
  pub e_back : places row_of_four (levelling row_of_four (one_valley 4) 2) 2 3 0 ≡ 3 ∷ 2 ∷ 1 ∷ 0 ∷ []
  pub f_levels : levels (triangle 10) (levelling (triangle 10) no_pair 2) ≡ 1 ∷ 1 ∷ 1 ∷ []
  pub f_direct : places (triangle 10) (levelling (triangle 10) no_pair 2) 2 0 2 ≡ 0 ∷ 2 ∷ []
  pub f_aside : (levelling (triangle 11) no_pair 2).kept 0 2 ≡ None
  pub f_around : places (triangle 11) (levelling (triangle 11) no_pair 2) 2 0 2 ≡ 0 ∷ 1 ∷ 2 ∷ []
  pub g_less : less_o (octile 41 0) (octile 0 29) ≡ true
  pub g_more : less_o (octile 0 12) (octile 17 0) ≡ true
  pub g_over : plus_o (octile 16777214 0) (octile 0 1) ≡ over_o
  pub h_places : places sheet (levelling sheet no_pair 1) 1 0 8 ≡ 0 ∷ 1 ∷ 2 ∷ 5 ∷ 8 ∷ []
  pub h_tally : settled sheet (levelling sheet no_pair 1) 1 0 8 ≡ 8

-- the word of the cost, the tally and the places of a route; ends, middle and the word of the cost of a shortcut
pub data Told : Type 0 where
  done : Told
  refused : Refusal → Told
  not_taken : Told
  routed : ℕ → ℕ → List ℕ → Told
  level_is : ℕ → Told
  shortcut_is : ℕ → ℕ → ℕ → ℕ → Told

module _ (K : Kind) where
  abbrev pub told : List ℕ → Answer K.C → Told
  told list Done = done
  told list (Refused r) = refused r
  told list NotTaken = not_taken
  told list (Routed r) = routed (K.word r.cost) r.tally (take r.length list)
  told list (LevelIs l) = level_is l
  told list (ShortcutIs s) = shortcut_is s.smaller s.larger s.middle (K.word s.cost)

  abbrev pub blank : SearchRecord K.C
  blank = record { settled = false; cost = K.zero; predecessor = 0 }

  -- a route with that many records, and room for so many places
  abbrev pub route_within : ℕ → ℕ → ℕ → ℕ → Call K.C
  route_within records room a b = route_call a b (replicate records blank) (replicate room 0)

  abbrev pub told_each : Terrain K → Post K → List (Call K.C) → List Told
  told_each terrain post [] = []
  told_each terrain post (call ∷ calls) =
      let e = effect terrain post call in told e.list e.answer ∷ told_each terrain e.post calls

  abbrev pub Answered : Terrain K → (ℕ → Bool) → List (Call K.C × Told) → Type 0
  Answered terrain first season = told_each terrain (new_draft terrain first) (map (λ p. p.0) season) ≡ map (λ p. p.1) season

abbrev pub OnTrails : ℕ → List (Record Seconds) → List (Call Seconds × Told) → Type 0
OnTrails n records = Answered seconds_kind (trail_list n records) (λ x. false)

abbrev pub OnSheet : ℕ → ℕ → List ℕ → List (Call Octile × Told) → Type 0
OnSheet w h cells =
    Answered octile_kind (record { size = sheet_size w h cells; chart = sheet_chart (sheet_width w h cells) (sheet_height w h cells) }) (sheet_shut w h cells)

-- routes with room enough
abbrev pub go : ℕ → ℕ → Call Seconds
go = route_within seconds_kind 6 6

abbrev pub cross : ℕ → ℕ → Call Octile
cross = route_within octile_kind 6 6

abbrev pub steps : ℕ → ℕ → ℕ
steps straight diagonal = word_o (octile straight diagonal)

abbrev pub square : List (Record Seconds)
square = way 2 1 2 ∷ way 1 0 1 ∷ way 2 3 2 ∷ way 0 3 1 ∷ way 1 3 2 ∷ []

-- the six records, each (true, 9, 9) before, after a route from 2 to 1 that the place list has no room for
abbrev pub table_on_square : List (Bool × ℕ × ℕ)
table_on_square =
    let terrain = trail_list 4 square in
    let post = after_calls terrain (new_draft terrain (λ x. false)) (choose 6 ∷ level no_pair ∷ []) in
    let table = replicate 6 (record { settled = true; cost = seconds 9; predecessor = 9 }) in
    map (λ r. (r.settled, word_s r.cost, r.predecessor)) (effect terrain post (route_call 2 1 table [])).table

pub record SeasonSamples : Type 0 where
  pub own_rules : OnTrails 5 (way 0 2 2461 ∷ way 4 0 574 ∷ way 0 1 1237 ∷ way 3 4 3199 ∷ [])
      ((choose 3, done) ∷ (level (same_valley (2 ∷ 1 ∷ 2 ∷ 2 ∷ 2 ∷ [])), done) ∷
      (go 2 3, routed 6234 3 (2 ∷ 0 ∷ 4 ∷ 3 ∷ [])) ∷ (shortcut 1, refused NoSuchShortcut) ∷
      (reopen, done) ∷ (shut 2, done) ∷ (choose 6, done) ∷ (level (same_valley (2 ∷ 2 ∷ 1 ∷ 2 ∷ 2 ∷ [])), done) ∷
      (shortcut 2, shortcut_is 1 3 4 5010) ∷ (go 4 2, refused (AlreadyShut 1)) ∷
      (reopen, done) ∷ (choose 4, done) ∷ (level (same_valley (2 ∷ 2 ∷ 2 ∷ 1 ∷ 2 ∷ [])), done) ∷
      (go 1 3, routed 5010 3 (1 ∷ 0 ∷ 4 ∷ 3 ∷ [])) ∷ [])
  pub equal_walks : OnTrails 4 square
      ((level no_pair, done) ∷ (go 2 0, routed 3 4 (2 ∷ 1 ∷ 0 ∷ [])) ∷ (go 3 3, routed 0 1 (3 ∷ [])) ∷
      (go 1 0, routed 1 2 (1 ∷ 0 ∷ [])) ∷ (go 0 1, routed 1 2 (0 ∷ 1 ∷ [])) ∷ [])
  pub one_place : OnTrails 1 []
      ((choose 2, done) ∷ (level no_pair, done) ∷ (go 0 0, routed 0 1 (0 ∷ [])) ∷ (go 0 1, refused (OffGround 1)) ∷
      (level_of 0, level_is 1) ∷ (level_of 1, refused (OffGround 0)) ∷ [])
  pub refused_list : OnTrails 1 (way 0 0 1 ∷ [])
      ((clear 0, refused (OffGround 0)) ∷ (choose 6, done) ∷ (level no_pair, done) ∷ (go 0 0, refused (OffGround 0)) ∷ [])
  pub either_state : OnTrails 2 (way 0 1 5 ∷ [])
      ((reopen, not_taken) ∷ (go 0 1, not_taken) ∷ (level_of 0, not_taken) ∷ (shortcut 0, not_taken) ∷
      (level no_pair, done) ∷ (choose 2, not_taken) ∷ (shut 0, not_taken) ∷ (clear 0, not_taken) ∷ (level no_pair, not_taken) ∷
      (go 0 1, routed 5 2 (0 ∷ 1 ∷ [])) ∷ (reopen, done) ∷ (reopen, not_taken) ∷ [])
  pub on_a_draft : OnSheet 1 2 (0 ∷ 0 ∷ [])
      ((choose 32, done) ∷ (choose 33, refused LevelsOutOfRange) ∷ (choose 0, refused LevelsOutOfRange) ∷
      (clear 2, refused (OffGround 0)) ∷ (clear 0, refused AlreadyFree) ∷
      (shut 2, refused (OffGround 0)) ∷ (shut 1, done) ∷ (shut 1, refused (AlreadyShut 0)) ∷ (clear 1, done) ∷ [])
  pub checks_in_order : OnSheet 1 4 (0 ∷ 1 ∷ 0 ∷ 0 ∷ [])
      ((shut 3, done) ∷ (choose 2, done) ∷ (level no_pair, done) ∷
      (cross 9 9, refused (OffGround 0)) ∷ (cross 1 9, refused (OffGround 1)) ∷
      (cross 1 3, refused (AlreadyShut 0)) ∷ (route_within octile_kind 0 0 2 1, refused (AlreadyShut 1)) ∷
      (route_within octile_kind 3 6 2 0, refused TableTooShort) ∷ (cross 2 0, refused NoWay) ∷
      (route_within octile_kind 4 0 2 2, refused ListTooShort) ∷ (route_within octile_kind 4 1 2 2, routed 0 1 (2 ∷ [])) ∷ [])
  pub blocked_and_shut : OnSheet 3 2 (0 ∷ 0 ∷ 0 ∷ 0 ∷ 1 ∷ 1 ∷ [])
      ((shut 5, refused (AlreadyShut 0)) ∷ (clear 5, done) ∷ (shut 1, done) ∷ (choose 2, done) ∷ (level no_pair, done) ∷
      (cross 0 2, refused NoWay) ∷ (level_of 1, level_is 0) ∷ (level_of 4, level_is 0) ∷ (reopen, done) ∷
      (clear 1, done) ∷ (level no_pair, done) ∷ (cross 0 2, routed (steps 2 0) 3 (0 ∷ 1 ∷ 2 ∷ [])) ∷ [])
  pub no_cut_corner : OnSheet 3 2 (0 ∷ 0 ∷ 0 ∷ 1 ∷ 0 ∷ 0 ∷ [])
      ((choose 4, done) ∷ (level (same_valley (1 ∷ 2 ∷ 2 ∷ 2 ∷ 1 ∷ 1 ∷ [])), done) ∷ (level_of 5, level_is 1) ∷ (level_of 1, level_is 2) ∷
      (cross 5 0, routed (steps 1 1) 3 (5 ∷ 1 ∷ 0 ∷ [])) ∷ (cross 4 0, routed (steps 2 0) 3 (4 ∷ 1 ∷ 0 ∷ [])) ∷ [])
  pub table_left : table_on_square ≡
      (false, 0, 0) ∷ (true, 2, 2) ∷ (true, 0, 2) ∷ (false, 0, 0) ∷ (true, 9, 9) ∷ (true, 9, 9) ∷ []
