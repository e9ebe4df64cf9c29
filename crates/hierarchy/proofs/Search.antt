-- Shown: a search over a well levelled book finds the least walk's cost, over relevant places alone.
use Rattle.std.proofs.Common.{◌≡◌, ℕ, ◌<◌, Bool, true, false, List, ◌∷◌, Some, None, sym, ◌∙◌, inl, ⊎_elim, arith}
use Rattle.std.proofs.lemmas.Bool.{cases_Bool, cases_eq}
use Rattle.hierarchy.specs.Kinds.{Kind, Price}
use Rattle.hierarchy.specs.Walks.{end, along, Walk, Least, Joined}
use Rattle.hierarchy.specs.Scales.{le_trans_c}
use Rattle.hierarchy.specs.Lands.{Land, ways}
use Rattle.hierarchy.specs.Books.{Book, link}
use Rattle.hierarchy.specs.Searches.{Front, Relevant, links, nearest, begin, search}
use Rattle.hierarchy.specs.Layouts.{chain_to}
use Rattle.hierarchy.specs.Levelled.{Lawful, WellLevelled, WellSearched}
use Rattle.hierarchy.proofs.SearchLinks.{chain_there, chain_walk, least_walk}
use Rattle.hierarchy.proofs.SearchRelevant.{arch_relevant, links_are, links_inside, links-chain, chain-links}
use Rattle.hierarchy.proofs.SearchSteps.{begin_sound}
use Rattle.hierarchy.proofs.SearchWalks.{settled-least, unsettled_unreached, came_from, leads_back}
use Rattle.hierarchy.proofs.SearchEnds.{Ended, search_ends}

module _ {K : Kind} (land : Land K) (rule : ℕ → ℕ → Bool) (top : ℕ) (book : Book K) (w : WellLevelled land rule top book)
    (a b : ℕ) (a_on : a < land.size) (b_on : b < land.size) where
  abbrev step : ℕ → ℕ → Price K
  step = links land book top a b

  abbrev last : Front K
  last = search land book top a b

  ends : Ended step land.size a b last
  ends = search_ends step land.size a b (links_inside land book top a b) b_on land.size (begin K a) (begin_sound step land.size a a_on) (omega arith)

  -- a walk costs no less than some chain that the search may follow
  chain-below : (d : K.C) → Walk K (ways land) a b d → (c : K.C) × Walk K step a b c × (K.less d c ≡ false)
  chain-below d walk =
      let m = least_walk land book a b d walk in
      let r = w.arches a b m.0 m.1 in
      let q = arch_relevant land book w a b r.0 r.1 r.2 (chain_there land book a r.0 m.0 r.3) in
      (m.0, (r.0, r.1, chain-links land book top a b a r.0 q ∙ r.3), m.2)

  chain_walks : (c : K.C) → Walk K step a b c → Walk K (ways land) a b c
  chain_walks c (l, e, f) = let v = chain_walk land book w a l c (links-chain land book top a b a l c f) in (v.0, v.1 ∙ e, v.2)

  found : last.settled b ≡ true → (c : K.C) × (last.reached b ≡ Some c) × Least K (ways land) a b c
  found h =
      let r = ends.sound.reaches b h in
      let p = settled-least step land.size a last ends.sound b r.0 h r.1 in
      (r.0, r.1, (chain_walks r.0 p.0, λ d walk. let q = chain-below d walk in le_trans_c K r.0 q.0 d (p.1 q.0 q.1) q.2))

  joined : Joined K (ways land) a b → last.settled b ≡ true
  joined (d, walk) = ⊎_elim (λ h. h) (λ none. ⊎_elim (λ h. h) (λ h. absurd (nowhere none h)) (cases_Bool (last.settled b))) ends.over
    where
      nowhere : nearest last land.size ≡ None → last.settled b ≡ false → ⊥
      nowhere none h = let q = chain-below d walk in unsettled_unreached step land.size a last ends.sound none b h q.0 q.1

  back : (x : ℕ) → last.settled x ≡ true → (x ≡ a → ⊥) → (last.settled (last.from x) ≡ true) × (c : K.C) × (p : K.C) × (q : K.C) ×
      (last.reached x ≡ Some c) × (last.reached (last.from x) ≡ Some p) × (link land book (last.from x) x ≡ Some q) × (c ≡ K.plus p q)
  back x h n =
      let p = came_from step land.size a last ends.sound x h n in
      (p.0, p.1, p.2, p.3, p.4, p.5, (links_are land book top a b (last.from x) x p.3 p.6).1, p.7)

  narrow : (x : ℕ) → last.settled x ≡ true → (x < land.size) × Relevant land book top a b x
  narrow x h =
      let r = ends.sound.reaches x h in
      (ends.sound.within x r.0 r.1, ⊎_elim (λ e. inl (inl e)) led (cases_eq x a))
    where
      led : (x ≡ a → ⊥) → Relevant land book top a b x
      led n = let p = came_from step land.size a last ends.sound x h n in (links_are land book top a b (last.from x) x p.3 p.6).0

  chained : last.settled b ≡ true → (l : List ℕ) × (chain_to last a land.size b ≡ a ∷ l) × (end a l ≡ b) × (along K (link land book) a l ≡ last.reached b)
  chained h =
      let r = ends.sound.reaches b h in
      let p = leads_back step land.size a last ends.sound b h in
      (p.0, p.1, p.2, links-chain land book top a b a p.0 r.0 (p.3 ∙ r.1) ∙ sym r.1)

pub well_searched : {K : Kind} (land : Land K) → Lawful land → (rule : ℕ → ℕ → Bool) (top : ℕ) (book : Book K) → WellLevelled land rule top book →
    (a b : ℕ) → a < land.size → b < land.size → WellSearched land book top a b (search land book top a b)
well_searched land lawful rule top book w a b a_on b_on = record {
  found = found land rule top book w a b a_on b_on;
  joined = joined land rule top book w a b a_on b_on;
  narrow = narrow land rule top book w a b a_on b_on;
  back = back land rule top book w a b a_on b_on;
  chain = chained land rule top book w a b a_on b_on;
}
