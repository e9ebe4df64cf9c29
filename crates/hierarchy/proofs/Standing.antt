-- Shown: after any list of calls the shut places are those that the accepted calls leave, and a levelled post has the book of them.
use Rattle.std.proofs.Common.{◌≡◌, ℕ, ◌≤◌, Bool, true, false, cond, ◌&&◌, leb, List, [], ◌∷◌, Some, None, Option, sym, refl, ap, ◌∙◌, arith}
use Rattle.std.proofs.lemmas.Bool.{and_parts, leb-true}
use Rattle.ground.specs.declared.refusal.Refusal.{Refusal}
use Rattle.ground.specs.declared.refusal.Refusal.TheVariants.{LevelsOutOfRange}
use Rattle.ground.specs.Shutting.{with_place, without_place, refuses_shut, refuses_clear}
use Rattle.hierarchy.specs.Kinds.{Kind}
use Rattle.hierarchy.specs.Lands.{Terrain, land_at}
use Rattle.hierarchy.specs.Books.{Book}
use Rattle.hierarchy.specs.Levels.{levelling}
use Rattle.hierarchy.specs.Answers.{choose_refusal}
use Rattle.hierarchy.specs.Seasons.{Call, choose, shut, clear, level, reopen, route, level_of, shortcut, Post, Ruled, Effect, unless, marked, effect_draft, effect_levelled, effect, new_draft, after_calls}
use Rattle.hierarchy.specs.Guarantee.{marks, accepted, shut_by, post_after, shut_after}
use Rattle.hierarchy.proofs.Linking.{same_some, none_some}

module _ {K : Kind} (terrain : Terrain K) where
  -- the post is as the calls left it, with s shut
  pub record Stands (post : Post K) (s : ℕ → Bool) : Type 0 where
    pub shut_is : post.shut ≡ s
    pub some_level : 1 ≤ post.levels
    pub book_is : (r : Ruled K) → post.ruled ≡ Some r → r.book ≡ levelling (land_at terrain s) r.rule post.levels

  abbrev After : Effect K → Call K.C → (ℕ → Bool) → Type 0
  After e call s = Stands e.post (cond (accepted e.answer) (marks call s) s)

  -- whatever a call answers that marks nothing
  unmarked : {post : Post K} {s : ℕ → Bool} (t : Bool) → Stands post s → Stands post (cond t s s)
  unmarked true h = h
  unmarked false h = h

  chosen : (n old : ℕ) → 1 ≤ old → 1 ≤ unless (choose_refusal n) n old
  chosen n old h = go (leb 1 n && leb n 32) refl
    where
      go : (t : Bool) → (leb 1 n && leb n 32) ≡ t → 1 ≤ unless (cond t None (Some LevelsOutOfRange)) n old
      go true e = leb-true 1 n (and_parts _ _ e).0
      go false e = h

  -- without a book
  drafted : (n : ℕ) (s t : ℕ → Bool) (o : Option (Ruled K)) → 1 ≤ n → s ≡ t → o ≡ None → Stands (record { levels = n; shut = s; ruled = o }) t
  drafted n s t o h e f = record { shut_is = e; some_level = h; book_is = λ r g. none_some (sym f ∙ g) }

  module _ (post : Post K) (s : ℕ → Bool) (h : Stands post s) where
    altered : post.ruled ≡ None → (o : Option Refusal) (new t : ℕ → Bool) → new ≡ t →
        Stands (marked terrain o new post).post (cond (accepted (marked terrain o new post).answer) t s)
    altered e None new t f = drafted _ new t _ h.some_level f e
    altered e (Some r) new t f = drafted _ post.shut s _ h.some_level h.shut_is e

    drafts : post.ruled ≡ None → (call : Call K.C) → After (effect_draft terrain post call) call s
    drafts e (choose n) = unmarked _ (drafted _ post.shut s post.ruled (chosen n post.levels h.some_level) h.shut_is e)
    drafts e (shut p) = altered e (refuses_shut terrain.size post.shut p) _ _ (ap (with_place p) h.shut_is)
    drafts e (clear p) = altered e (refuses_clear terrain.size post.shut p) _ _ (ap (without_place p) h.shut_is)
    drafts e (level rule) = record {
      shut_is = h.shut_is;
      some_level = h.some_level;
      book_is = λ r f. let g = same_some f in ap (λ x. x.book) (sym g) ∙ (λ i. levelling (land_at terrain (h.shut_is i)) (g i).rule post.levels);
    }
    drafts e reopen = h
    drafts e (route a b table list) = h
    drafts e (level_of p) = h
    drafts e (shortcut k) = h

    levelled : (book : Book K) (call : Call K.C) → After (effect_levelled terrain post book call) call s
    levelled book (choose n) = h
    levelled book (shut p) = h
    levelled book (clear p) = h
    levelled book (level rule) = h
    levelled book reopen = drafted post.levels post.shut s None h.some_level h.shut_is refl
    levelled book (route a b table list) = unmarked _ h
    levelled book (level_of p) = unmarked _ h
    levelled book (shortcut k) = unmarked _ h

    after_call : (call : Call K.C) → After (effect terrain post call) call s
    after_call call = go post.ruled refl
      where
        go : (o : Option (Ruled K)) → post.ruled ≡ o → After (elim o [ None ↦ effect_draft terrain post call | Some r ↦ effect_levelled terrain post r.book call ]) call s
        go None e = drafts e call
        go (Some r) e = levelled r.book call

  after_all : (calls : List (Call K.C)) (post : Post K) (s : ℕ → Bool) → Stands post s → Stands (after_calls terrain post calls) (shut_by terrain post calls s)
  after_all [] post s h = h
  after_all (call ∷ calls) post s h = after_all calls _ _ (after_call post s h call)

  pub stands : (first : ℕ → Bool) (calls : List (Call K.C)) → Stands (post_after terrain first calls) (shut_after terrain first calls)
  stands first calls = after_all calls (new_draft terrain first) first (drafted 1 first first None (omega arith) refl refl)
