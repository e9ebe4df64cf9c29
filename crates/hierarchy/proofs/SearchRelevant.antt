-- Shown: every place of an arching chain between the two ends of a search is relevant to it, and so the chain goes by the links that
-- the search follows.
use Rattle.std.proofs.Common.{◌≡◌, ℕ, ◌<◌, ◌≤◌, Bool, true, false, cond, eqb, ◌⊎◌, List, [], ◌∷◌, ◌++◌, length, is_some, Some, None, sym, refl, ap, ◌∙◌, subst, inl, inr, ⊎_elim, arith, eqb→eq}
use lib.Dec.{eqb_refl}
use Rattle.std.proofs.lemmas.Bool.{true≢false, cases_Bool, cond-true}
use Rattle.hierarchy.specs.Kinds.{Kind, add}
use Rattle.hierarchy.specs.Walks.{end, along}
use Rattle.hierarchy.specs.Scales.{scale, scale_laws}
use Rattle.hierarchy.specs.Shortest.{end-append, total-append, below, memo_is}
use Rattle.hierarchy.specs.Lands.{Land}
use Rattle.hierarchy.specs.Chains.{Steps, Rises, Stays, Falls, Arching, Climbs}
use Rattle.hierarchy.specs.Books.{Book, link}
use Rattle.hierarchy.specs.Deciders.{decided, decided-true, decided-false, add_some}
use Rattle.hierarchy.specs.Searches.{Relevant, relevant?, relevant, links}
use Rattle.hierarchy.specs.Levelled.{WellLevelled}
use Rattle.hierarchy.proofs.SearchLinks.{Linked, link_on, steps_parts, steps_join}
use Rattle.hierarchy.proofs.Links.{link-sym}
use Rattle.hierarchy.proofs.SearchSteps.{Inside}

module _ {K : Kind} (land : Land K) (book : Book K) {rule : ℕ → ℕ → Bool} {top : ℕ} (w : WellLevelled land rule top book) where
  climb_on : (a x y : ℕ) → Climbs book.level K (link land book) a x → Linked land book x y → book.level x < book.level y →
      Climbs book.level K (link land book) a y
  climb_on a x y (l, c, e, f, r) (d, h) up = (
    l ++ (y ∷ []),
    K.plus c (K.plus d K.zero),
    end-append a l (y ∷ []),
    total-append (scale K) (scale_laws K) eqb eqb_refl eqb→eq (link land book) a l (y ∷ [])
        ∙ (λ i. add K (f i) (add K ((ap (λ z. link land book z y) e ∙ h) i) (Some K.zero))),
    steps_join (λ x y. book.level x < book.level y) a l (y ∷ []) r (subst (λ z. book.level z < book.level y) (sym e) up, tt),
  )

  module _ (a b : ℕ) where
    abbrev Here : ℕ → ℕ → Type 0
    Here x y = Relevant land book top a b y

    climb_up : (x y : ℕ) → Relevant land book top a b x → Linked land book x y → book.level x < book.level y → Relevant land book top a b y
    climb_up x y (inl (inl e)) h up = inr (inr (inl (climb_on a x y ([], K.zero, sym e, refl, tt) h up)))
    climb_up x y (inl (inr e)) h up = inr (inr (inr (climb_on b x y ([], K.zero, sym e, refl, tt) h up)))
    climb_up x y (inr (inl t)) h up = absurd (omega (arith, w.bounded y))
    climb_up x y (inr (inr (inl c))) h up = inr (inr (inl (climb_on a x y c h up)))
    climb_up x y (inr (inr (inr c))) h up = inr (inr (inr (climb_on b x y c h up)))

    rise : (x : ℕ) (l : List ℕ) → Relevant land book top a b x → Steps (Linked land book) x l → Rises book.level x l → Steps Here x l
    rise x [] r h up = tt
    rise x (y ∷ l) r h up = let q = climb_up x y r h.0 up.0 in (q, rise y l q h.1 up.1)

    fall : (x : ℕ) (l : List ℕ) → Relevant land book top a b (end x l) → Steps (Linked land book) x l → Falls book.level x l →
        Relevant land book top a b x × Steps Here x l
    fall x [] r h down = (r, tt)
    fall x (y ∷ l) r h down =
        let q = fall y l r h.1 down.1 in (climb_up y x q.0 (h.0.0, link-sym land book.kept w.kept-alike book.shortcuts y x ∙ h.0.1) down.0, q)

    stay : (x : ℕ) (l : List ℕ) → (length l ≤ 1) ⊎ (book.level x ≡ top) → Stays book.level x l → Relevant land book top a b (end x l) → Steps Here x l
    stay x [] h s r = tt
    stay x (y ∷ []) (inl h) s r = (r, tt)
    stay x (y ∷ z ∷ l) (inl h) s r = absurd (omega arith)
    stay x (y ∷ l) (inr t) s r = let u = sym s.0 ∙ t in (inr (inl u), stay y l (inr u) s.1 r)

    pub arch_relevant : (l : List ℕ) → end a l ≡ b → Arching book.level top a l → Steps (Linked land book) a l → Steps Here a l
    arch_relevant l e arch h =
        let p = arch.parts in
        let q = steps_parts (Linked land book) a arch.up (arch.flat ++ arch.down) (subst (Steps (Linked land book) a) p h) in
        let r = steps_parts (Linked land book) (end a arch.up) arch.flat arch.down q.1 in
        let f = fall (end (end a arch.up) arch.flat) arch.down (inl (inr last)) r.1 arch.falls in
        subst (Steps Here a) (sym p)
        (steps_join Here a arch.up _ (rise a arch.up (inl (inl refl)) q.0 arch.rises)
        (steps_join Here (end a arch.up) arch.flat arch.down (stay (end a arch.up) arch.flat arch.short arch.stays f.0) f.1))
      where
        last : end (end (end a arch.up) arch.flat) arch.down ≡ b
        last = sym (end-append a arch.up (arch.flat ++ arch.down) ∙ end-append (end a arch.up) arch.flat arch.down) ∙ ap (end a) (sym arch.parts) ∙ e

module _ {K : Kind} (land : Land K) (book : Book K) (top a b : ℕ) where
  relevant_is : (x : ℕ) → relevant land book top a b x ≡ decided (relevant? land book top a b x)
  relevant_is x = ap (λ (f : ℕ → Bool). f x) (memo_is eqb eqb→eq (λ x. decided (relevant? land book top a b x)) (below land.size))

  pub relevant-true : (x : ℕ) → relevant land book top a b x ≡ true → Relevant land book top a b x
  relevant-true x h = decided-true (relevant? land book top a b x) (sym (relevant_is x) ∙ h)

  pub true-relevant : (x : ℕ) → Relevant land book top a b x → relevant land book top a b x ≡ true
  true-relevant x r = relevant_is x ∙ ⊎_elim (λ e. e) (λ e. absurd (decided-false (relevant? land book top a b x) e r)) (cases_Bool _)

  pub links_are : (x y : ℕ) (c : K.C) → links land book top a b x y ≡ Some c → Relevant land book top a b y × (link land book x y ≡ Some c)
  links_are x y c h = go (relevant land book top a b y) refl h
    where
      go : (t : Bool) → relevant land book top a b y ≡ t → cond t (link land book x y) None ≡ Some c → Relevant land book top a b y × (link land book x y ≡ Some c)
      go true e h = (relevant-true y e, h)
      go false e h = absurd (true≢false (sym (ap is_some h)))

  pub links_inside : Inside K (links land book top a b) land.size
  links_inside x y c h = link_on land book x y c (links_are x y c h).1

  pub links-chain : (x : ℕ) (l : List ℕ) (c : K.C) → along K (links land book top a b) x l ≡ Some c → along K (link land book) x l ≡ Some c
  links-chain x [] c h = h
  links-chain x (y ∷ l) c h =
      let p = add_some K (links land book top a b x y) _ c h in
      (λ i. add K ((links_are x y p.0 p.2).1 i) (links-chain y l p.1 p.3 i)) ∙ ap Some p.4

  pub chain-links : (x : ℕ) (l : List ℕ) → Steps (λ x y. Relevant land book top a b y) x l → along K (links land book top a b) x l ≡ along K (link land book) x l
  chain-links x [] h = refl
  chain-links x (y ∷ l) h = λ i. add K (cond-true (relevant land book top a b y) (link land book x y) None (true-relevant y h.0) i) (chain-links y l h.1 i)
