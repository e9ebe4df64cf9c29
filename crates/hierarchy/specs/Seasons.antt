-- Seasons: any list of calls from a new draft.
--   Call    a call, with the rule of a levelling, and the record table and the place list of a route
--   Post    the number of levels, the shut places, and the book with its rule where the post is levelled
--   Effect  what a call answers, the post after it, and the memory handed to it as it is then
--   effect  the effect of a call
--   new_draft, after_calls  the post at first, and after a list of calls
use Rattle.std.specs.Prelude.{ℕ, Bool, List, [], ◌∷◌, Some, None, Ok, Err, Option, Result}
use Rattle.ground.specs.declared.refusal.Refusal.{Refusal}
use Rattle.ground.specs.Shutting.{refuses_shut, refuses_clear, with_place, without_place, unless_refused}
use Rattle.hierarchy.specs.declared.Answer.{Answer}
use Rattle.hierarchy.specs.declared.Answer.TheVariants.{Done, Refused, NotTaken, Routed, LevelIs, ShortcutIs}
use Rattle.hierarchy.specs.declared.SearchRecord.{SearchRecord}
use Rattle.hierarchy.specs.Kinds.{Kind}
use Rattle.hierarchy.specs.Lands.{Terrain, land_at}
use Rattle.hierarchy.specs.Books.{Book}
use Rattle.hierarchy.specs.Levels.{levelling}
use Rattle.hierarchy.specs.Answers.{choose_refusal, Routing, routing, level_answer, shortcut_answer}

pub data Call (C : Type 0) : Type 0 where
  choose : ℕ → Call C
  shut : ℕ → Call C
  clear : ℕ → Call C
  level : (ℕ → ℕ → Bool) → Call C
  reopen : Call C
  route : ℕ → ℕ → List (SearchRecord C) → List ℕ → Call C
  level_of : ℕ → Call C
  shortcut : ℕ → Call C

pub record Ruled (K : Kind) : Type 0 where
  pub book : Book K
  pub rule : ℕ → ℕ → Bool

pub record Post (K : Kind) : Type 0 where
  pub levels : ℕ
  pub shut : ℕ → Bool
  pub ruled : Option (Ruled K)

pub record Effect (K : Kind) : Type 0 where
  pub answer : Answer K.C
  pub post : Post K
  pub table : List (SearchRecord K.C)
  pub list : List ℕ

abbrev pub or_done : {C : Type 0} → Option Refusal → Answer C
or_done None = Done
or_done (Some r) = Refused r

abbrev pub answered : {C X : Type 0} → (X → Answer C) → Result X Refusal → Answer C
answered f (Ok x) = f x
answered f (Err r) = Refused r

abbrev pub unless : {A : Type 0} → Option Refusal → A → A → A
unless None new old = new
unless (Some r) new old = old

module _ {K : Kind} (terrain : Terrain K) where
  -- a call that leaves the memory as it is, and one that also leaves the post
  abbrev pub plain : Answer K.C → Post K → Effect K
  plain answer post = record { answer = answer; post = post; table = []; list = [] }

  abbrev pub marked : Option Refusal → (ℕ → Bool) → Post K → Effect K
  marked refusal new post =
      plain (or_done refusal) (record { levels = post.levels; shut = unless_refused refusal new post.shut; ruled = post.ruled })

  abbrev pub routed : Routing K → Post K → Effect K
  routed r post = record { answer = answered Routed r.answer; post = post; table = r.table; list = r.list }

  -- on a draft
  abbrev pub effect_draft : Post K → Call K.C → Effect K
  effect_draft post (choose n) =
      plain (or_done (choose_refusal n)) (record { levels = unless (choose_refusal n) n post.levels; shut = post.shut; ruled = post.ruled })
  effect_draft post (shut p) = marked (refuses_shut terrain.size post.shut p) (with_place p post.shut) post
  effect_draft post (clear p) = marked (refuses_clear terrain.size post.shut p) (without_place p post.shut) post
  effect_draft post (level rule) =
      plain Done (record { levels = post.levels; shut = post.shut; ruled = Some (record { book = levelling (land_at terrain post.shut) rule post.levels; rule = rule }) })
  effect_draft post reopen = plain NotTaken post
  effect_draft post (route a b table list) = record { answer = NotTaken; post = post; table = table; list = list }
  effect_draft post (level_of p) = plain NotTaken post
  effect_draft post (shortcut k) = plain NotTaken post

  -- on a levelled post with that book
  abbrev pub effect_levelled : Post K → Book K → Call K.C → Effect K
  effect_levelled post book (choose n) = plain NotTaken post
  effect_levelled post book (shut p) = plain NotTaken post
  effect_levelled post book (clear p) = plain NotTaken post
  effect_levelled post book (level rule) = plain NotTaken post
  effect_levelled post book reopen = plain Done (record { levels = post.levels; shut = post.shut; ruled = None })
  effect_levelled post book (route a b table list) = routed (routing (land_at terrain post.shut) book post.levels a b table list) post
  effect_levelled post book (level_of p) = plain (answered LevelIs (level_answer (land_at terrain post.shut) book p)) post
  effect_levelled post book (shortcut k) = plain (answered ShortcutIs (shortcut_answer book k)) post

  abbrev pub effect : Post K → Call K.C → Effect K
  effect post call = elim post.ruled [ None ↦ effect_draft post call | Some r ↦ effect_levelled post r.book call ]

  abbrev pub new_draft : (ℕ → Bool) → Post K
  new_draft s = record { levels = 1; shut = s; ruled = None }

  abbrev pub after_calls : Post K → List (Call K.C) → Post K
  after_calls post [] = post
  after_calls post (call ∷ calls) = after_calls (effect post call).post calls
