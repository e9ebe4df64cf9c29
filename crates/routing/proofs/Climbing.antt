-- Shown: once the levels below all but the highest are gone through, exactly the places that are climbed to are marked.
--   Climbing  every marked place is climbed to, and the marked places of the levels below l have been gone up from
use Rattle.std.proofs.Common.{◌≡◌, ℕ, ◌+◌, ◌<◌, ◌≤◌, Bool, true, false, ◌&&◌, eqb, ltb, List, [], ◌∷◌, ◌++◌, get_or, Some, sym, refl, ap, ◌∙◌, subst, inl, inr, ⊎_elim, arith, eqb→eq}
use lib.Dec.{eqb_refl}
use Rattle.std.proofs.lemmas.Bool.{cases_lt, and_parts, and_from, lt-ltb, eq-eqb, eqb-true}
use Rattle.hierarchy.specs.Kinds.{Kind, Price, add}
use Rattle.hierarchy.specs.Walks.{end, along}
use Rattle.hierarchy.specs.Chains.{Rises, Climbs}
use Rattle.hierarchy.specs.Books.{Book, link_among}
use Rattle.hierarchy.specs.Scales.{scale, scale_laws}
use Rattle.hierarchy.specs.Shortest.{end-append, total-append, zero_r}
use Rattle.hierarchy.specs.Deciders.{add_some}
use Rattle.routing.specs.Climbed.{goes_up, MarksLevel, MarksClimbs}
use Rattle.routing.proofs.Marking.{up_parts, up_from}

rises_snoc : (level : ℕ → ℕ) (a x : ℕ) (l : List ℕ) → Rises level a l → level (end a l) < level x → Rises level a (l ++ (x ∷ []))
rises_snoc level a x [] r h = (h, tt)
rises_snoc level a x (y ∷ l) r h = (r.0, rises_snoc level y x l r.1 h)

-- a climb goes on over one more link that rises
climbs_on : (K : Kind) (level : ℕ → ℕ) (link : ℕ → ℕ → Price K) (a p x : ℕ) (c : K.C) → Climbs level K link a p →
    level p < level x → link p x ≡ Some c → Climbs level K link a x
climbs_on K level link a p x c (l, d, e, f, r) h k = (
  l ++ (x ∷ []),
  K.plus d c,
  end-append a l (x ∷ []),
  total-append (scale K) (scale_laws K) eqb eqb_refl eqb→eq link a l (x ∷ []) ∙ (λ i. add K (f i) (add K (link (e i) x) (Some K.zero))) ∙
      ap (add K (Some d)) (zero_r (scale K) (scale_laws K) (link p x) ∙ k),
  rises_snoc level a x l r (subst (λ z. level z < level x) (sym e) h),
)

module _ {K : Kind} (n : ℕ) (book : Book K) (a : ℕ) where
  pub record Climbing (l : ℕ) (marks : List Bool) : Type 0 where
    pub sound : (x : ℕ) → get_or marks x false ≡ true → Climbs book.level K (link_among n book) a x
    pub start : a < n → get_or marks a false ≡ true
    pub gone : (p x : ℕ) → book.level p < l → get_or marks p false ≡ true → goes_up n book p x ≡ true → get_or marks x false ≡ true

  pub climbing_begun : (marks : List Bool) → n ≤ 256 → ((x : ℕ) → get_or marks x false ≡ (ltb x 256 && eqb x a)) → Climbing 0 marks
  climbing_begun marks w h = record {
    sound = λ x e. ([], K.zero, sym (eqb-true x a (and_parts (ltb x 256) _ (sym (h x) ∙ e)).1), refl, tt);
    start = λ k. h a ∙ and_from (ltb a 256) _ (lt-ltb a 256 (omega arith)) (eq-eqb a a refl);
    gone = λ p x k. absurd (omega arith);
  }

  pub climbing_more : (l : ℕ) (before after : List Bool) → Climbing l before → MarksLevel n book l n before after → Climbing (l + 1) after
  climbing_more l before after c m = record {
    sound = λ x e. ⊎_elim (c.sound x) (λ q. let u = up_parts n book q.0 x q.4 in climbs_on K _ _ a q.0 x u.3 (c.sound q.0 q.3) u.2 u.4) ((m x).0 e);
    start = λ k. (m a).1 (inl (c.start k));
    gone = λ p x k e u. ⊎_elim
        (λ f. ⊎_elim (λ k'. (m x).1 (inl (c.gone p x k' f u))) (λ k'. (m x).1 (inr (p, (up_parts n book p x u).0, omega arith, f, u))) (cases_lt (book.level p) l))
        (λ q. absurd (let v = (up_parts n book q.0 p q.4).2 in omega (arith, q.2))) ((m p).0 e);
  }

  -- from a marked place on, every place of a climb is marked
  climbed : (top : ℕ) (marks : List Bool) → ((x : ℕ) → x < n → book.level x ≤ top) → Climbing top marks →
      (l : List ℕ) (b : ℕ) (c : K.C) → along K (link_among n book) b l ≡ Some c → Rises book.level b l → get_or marks b false ≡ true →
      get_or marks (end b l) false ≡ true
  climbed top marks t m [] b c e r h = h
  climbed top marks t m (y ∷ l) b c e r h =
      let p = add_some K (link_among n book b y) (along K (link_among n book) y l) c e in
      let u = up_from n book b y p.0 r.0 p.2 in
      let k = t y (up_parts n book b y u).1 in
      climbed top marks t m l y p.1 p.3 r.1 (m.gone b y (omega (arith, r.0)) h u)

  starts : (l : List ℕ) (c : K.C) → along K (link_among n book) a l ≡ Some c → Rises book.level a l → end a l < n → a < n
  starts [] c e r h = h
  starts (y ∷ l) c e r h =
      let p = add_some K (link_among n book a y) (along K (link_among n book) y l) c e in
      (up_parts n book a y (up_from n book a y p.0 r.0 p.2)).0

  pub climbing_done : (top : ℕ) (marks : List Bool) → ((x : ℕ) → x < n → book.level x ≤ top) → Climbing top marks → MarksClimbs n book a marks
  climbing_done top marks t m x w = (
    m.sound x,
    λ (l, c, e, f, r). subst (λ z. get_or marks z false ≡ true) e (climbed top marks t m l a c f r (m.start (starts l c f r (subst (λ z. z < n) (sym e) w)))),
  )
