-- Shown: a link is beaten by what a whole search tells of its end exactly when some walk beats it, and the marks say so.
use Rattle.std.proofs.Common.{◌≡◌, ℕ, ◌<◌, Bool, true, false, ◌&&◌, ltb, List, [], get_or, is_some, Some, None, Decides, Option, sym, refl, ap, ◌∙◌, ⊎_elim}
use Rattle.std.proofs.lemmas.Bool.{true≢false, both_ways, cases_Bool, and_parts, and_from, ltb-true, lt-ltb, cond-true, cond-false, cond_both}
use Rattle.cost.specs.declared.Cost.{Ghosts as Costs}
use Rattle.hierarchy.specs.declared.SearchRecord.{SearchRecord}
use Rattle.hierarchy.specs.Kinds.{Kind, kind_of}
use Rattle.hierarchy.specs.Scales.{le_trans_c}
use Rattle.hierarchy.specs.Walks.{Walk, SetAside}
use Rattle.hierarchy.specs.Books.{Book, link_among}
use Rattle.levelling.specs.Reach.{Told}
use Rattle.levelling.specs.Begun.{RowsWritten}
use Rattle.levelling.specs.Beaten.{beaten, leaves, MarksBeaten, BeatenAside}
use Rattle.levelling.proofs.Linked.{link_ends}

module _ {C : Type 0} (k : Costs C) (step : ℕ → ℕ → Option C) (a b : ℕ) (known : SearchRecord C) (told : Told k step a k.over b known) where
  is_settled : (d : C) → Walk (kind_of k) step a b d → known.settled ≡ true
  is_settled d walk = ⊎_elim (λ e. e) (λ e. absurd (both_ways _ (k.laws.over_greatest d) (told.1 e d walk))) (cases_Bool known.settled)

  beaten_aside : (p : Option C) → step a b ≡ p → beaten k p known ≡ true → SetAside (kind_of k) step a b
  beaten_aside None e h = absurd (true≢false (sym h))
  beaten_aside (Some c) e h = let q = and_parts known.settled _ h in (c, known.cost, e, (told.0 q.0).0, q.1)

  aside_beaten : (p : Option C) → step a b ≡ p → SetAside (kind_of k) step a b → beaten k p known ≡ true
  aside_beaten None e (c, d, f, walk, h) = absurd (true≢false (sym (ap is_some (sym e ∙ f))))
  aside_beaten (Some x) e (c, d, f, walk, h) =
      let s = is_settled d walk in
      let q : c ≡ x = cc in
      and_from known.settled _ s (⊎_elim (λ l. l)
      (λ l. absurd (both_ways _ (le_trans_c (kind_of k) x known.cost d l ((told.0 s).1 d walk)) (ap (k.less d) (sym q) ∙ h))) (cases_Bool (k.less known.cost x)))

  pub beaten_decides : (mark : Bool) → mark ≡ beaten k (step a b) known → Decides mark (SetAside (kind_of k) step a b)
  beaten_decides mark e = (λ h. beaten_aside (step a b) refl (sym e ∙ h), λ s. e ∙ aside_beaten (step a b) refl s)

module _ {K : Kind} (n : ℕ) (old new : Book K) (rows : List (List Bool)) (told : (a : ℕ) → a < n → MarksBeaten n old a (get_or rows a []))
    (left : RowsWritten (λ a. leaves (get_or rows a [])) n n old new) where
  abbrev Beats : ℕ → ℕ → Type 0
  Beats a b = SetAside K (link_among n old) a b

  beats_on : (a b : ℕ) → Beats a b → (a < n) × (b < n)
  beats_on a b (c, d, e, walk, h) = link_ends n old a b c e

  gone : (a b : ℕ) → Beats a b → new.kept a b ≡ None
  gone a b s =
      let on = beats_on a b s in
      left.ways a b ∙ cond-true _ _ _ (and_from (ltb a n) _ (lt-ltb a n on.0) (lt-ltb b n on.1))
      ∙ cond-true (get_or (get_or rows a []) b false) None (old.kept a b) ((told a on.0 b on.1).1 s)

  stays : (a b : ℕ) → (Beats a b → ⊥) → new.kept a b ≡ old.kept a b
  stays a b s = left.ways a b ∙ cond_both (ltb a n && ltb b n) (leaves (get_or rows a []) b (old.kept a b)) (old.kept a b) (λ p. p ≡ old.kept a b)
      (λ e. let on = and_parts (ltb a n) _ e in
      cond-false (get_or (get_or rows a []) b false) None (old.kept a b)
      (⊎_elim (λ m. absurd (s ((told a (ltb-true a n on.0) b (ltb-true b n on.1)).0 m))) (λ m. m) (cases_Bool (get_or (get_or rows a []) b false)))) (λ e. refl)

  pub beaten_left : BeatenAside n old new
  beaten_left = record { beaten = gone; unbeaten = stays; levels = left.levels; shortcuts = left.shortcuts }
