-- Shown: the guarantee of every season, for a ground that keeps the laws of grounds.
use Rattle.std.proofs.Common.{◌≡◌, ℕ, ◌<◌, ◌≤◌, Bool, true, false, cond, ◌&&◌, ltb, List, take, Some, None, Option, sym, refl, ap, ◌∙◌, subst, arith}
use mathlib.Core.Path.{fun_ext}
use Rattle.std.proofs.lemmas.Bool.{ltb-false}
use Rattle.ground.specs.Grounds.{GroundLaws}
use Rattle.hierarchy.specs.declared.Answer.TheVariants.{NotTaken, Routed}
use Rattle.hierarchy.specs.declared.Route.{Route}
use Rattle.hierarchy.specs.declared.SearchRecord.{SearchRecord}
use Rattle.hierarchy.specs.Kinds.{Kind}
use Rattle.hierarchy.specs.Lands.{Land, Terrain, land_at, ways}
use Rattle.hierarchy.specs.Books.{Book}
use Rattle.hierarchy.specs.Levels.{levelling}
use Rattle.hierarchy.specs.Searches.{search}
use Rattle.hierarchy.specs.Seasons.{Call, route, Post, Ruled, effect}
use Rattle.hierarchy.specs.Guarantee.{LeastWalk, Honest, post_after, shut_after, present, routing_after, SeasonKept}
use Rattle.hierarchy.specs.Levelled.{Lawful, WellLevelled, WellSearched}
use Rattle.hierarchy.proofs.Linking.{shortcut_link}
use Rattle.hierarchy.proofs.Routed.{Answers, answers}
use Rattle.hierarchy.proofs.Standing.{stands}

module _ {K : Kind} (terrain : Terrain K) (first : ℕ → Bool) (laws : GroundLaws terrain.size first terrain.chart) where
  pub chart_ways : (s : ℕ → Bool) → ways (land_at terrain s) ≡ terrain.chart s
  chart_ways s = fun_ext (λ a. fun_ext (λ b. go a b (ltb a terrain.size) refl (ltb b terrain.size) refl))
    where
      go : (a b : ℕ) (t : Bool) → ltb a terrain.size ≡ t → (u : Bool) → ltb b terrain.size ≡ u → cond (t && u) (terrain.chart s a b) None ≡ terrain.chart s a b
      go a b false e u f = sym (laws.within s a b (ltb-false _ _ e))
      go a b true e true f = refl
      go a b true e false f = sym (laws.alike s a b ∙ laws.within s b a (ltb-false _ _ f))

  module _ (lawful : (s : ℕ → Bool) → Lawful (land_at terrain s))
      (well_levelled : (land : Land K) → Lawful land → (rule : ℕ → ℕ → Bool) (levels : ℕ) → 1 ≤ levels → WellLevelled land rule levels (levelling land rule levels))
      (well_searched : (land : Land K) → Lawful land → (rule : ℕ → ℕ → Bool) (top : ℕ) (book : Book K) → WellLevelled land rule top book →
      (a b : ℕ) → a < land.size → b < land.size → WellSearched land book top a b (search land book top a b)) where
    module _ (calls : List (Call K.C)) where
      abbrev post : Post K
      post = post_after terrain first calls

      abbrev shut : ℕ → Bool
      shut = shut_after terrain first calls

      abbrev land : Land K
      land = land_at terrain shut

      module _ (r : Ruled K) (e : post.ruled ≡ Some r) where
        well : WellLevelled land r.rule post.levels r.book
        well =
            let h = stands terrain first calls in
            subst (WellLevelled land r.rule post.levels) (sym (h.book_is r e)) (well_levelled land (lawful shut) r.rule post.levels h.some_level)

        honest : Honest K (present terrain first calls) r.rule r.book.shortcuts
        honest =
            subst (λ w. Honest K w r.rule r.book.shortcuts) (chart_ways shut)
            (λ k s h. (well.permitted k s h, well.exact _ _ _ (shortcut_link land r.book r.rule post.levels well k s h)))

        answers_after : (a b : ℕ) (table : List (SearchRecord K.C)) (list : List ℕ) →
            Answers terrain shut (present terrain first calls) r.book post.levels a b table (routing_after terrain first calls a b table list)
        answers_after a b table list =
            let q : record { levels = post.levels; shut = shut; ruled = Some r } ≡ post = λ i. record { levels = post.levels; shut = sym (stands terrain first calls).shut_is i; ruled = sym e i } in
            coe 0 1 (i. Answers terrain shut (chart_ways shut i) r.book post.levels a b table (effect terrain (q i) (route a b table list)))
            (answers terrain shut r.book post.levels a b table list (lawful shut) r.rule well
            (well_searched land (lawful shut) r.rule post.levels r.book well a b) _)

      draft_routes : post.ruled ≡ None → (a b : ℕ) (table : List (SearchRecord K.C)) (list : List ℕ) → (routing_after terrain first calls a b table list).answer ≡ NotTaken
      draft_routes e a b table list =
          ap (λ o. (effect terrain (record { levels = post.levels; shut = post.shut; ruled = o }) (route a b table list)).answer) e

      least : (a b : ℕ) (table : List (SearchRecord K.C)) (list : List ℕ) (q : Route K.C) → let e = routing_after terrain first calls a b table list in
          e.answer ≡ Routed q → LeastWalk K (present terrain first calls) a b (take q.length e.list) q.cost
      least a b table list q f = go post.ruled refl
        where
          go : (o : Option (Ruled K)) → post.ruled ≡ o →
              LeastWalk K (present terrain first calls) a b (take q.length (routing_after terrain first calls a b table list).list) q.cost
          go (Some r) e = (answers_after r e a b table list).least q f
          go None e = let g = draft_routes e a b table list in let z : ◌≡◌ {A = ℕ} 0 1 = cc in absurd (omega arith)

    pub season_kept : SeasonKept terrain first
    season_kept = record {
      least_walk = least;
      no_way = λ calls a b table list r e. (answers_after calls r e a b table list).no_way;
      honest_book = honest;
      narrow-search = λ calls a b table list r e. (answers_after calls r e a b table list).narrow;
    }
