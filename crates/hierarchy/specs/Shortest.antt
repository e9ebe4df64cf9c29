-- Shown: between any two places there is a cheapest way to go, and its price is computed.
--   total  the price of going from a place over a list of places
--   least  the least price of going from a to b, whose inner places are among the given ones
--   fast   the same, with each stage kept in a table
use Rattle.std.specs.Prelude.{◌≡◌, ℕ, zero, suc, ◌<◌, ◌≤◌, Bool, true, false, cond, T, ◌⊎◌, List, [], ◌∷◌, ◌++◌, map, refl}
use Rattle.std.proofs.Common.{sym, ◌∙◌, ap, subst, inl, inr, ⊎_elim, arith}
use Rattle.std.proofs.Math.Path.{fun_ext}
use Rattle.std.proofs.lemmas.Bool.{cases_lt}
use Rattle.hierarchy.specs.Scales.{Scale, ScaleLaws}
use Rattle.hierarchy.specs.Walks.{end, summed}

abbrev pub lesser : (S : Scale) → S.M → S.M → S.M
lesser S a b = cond (S.leb a b) a b

module _ (S : Scale) {V : Type 0} where
  abbrev pub total : (V → V → S.M) → V → List V → S.M
  total = summed S.zero S.plus

  abbrev pub least : (V → V → Bool) → (V → V → S.M) → List V → V → V → S.M
  least eq w [] a b = cond (eq a b) S.zero (w a b)
  least eq w (k ∷ ks) a b = lesser S (least eq w ks a b) (S.plus (least eq w ks a k) (least eq w ks k b))

pub data In {V : Type 0} (a : V) : List V → Type 0 where
  first : {l : List V} → In a (a ∷ l)
  later : {b : V} {l : List V} → In a l → In a (b ∷ l)

pub end-append : {V : Type 0} (a : V) (l m : List V) → end a (l ++ m) ≡ end (end a l) m
end-append a [] m = refl
end-append a (x ∷ l) m = end-append x l m

module _ (S : Scale) (L : ScaleLaws S) where
  pub plus_l : (a b c : S.M) → T (S.leb a b) → T (S.leb (S.plus a c) (S.plus b c))
  plus_l a b c h = L.mono a b c c h (L.le_refl c)

  pub plus_r : (a b c : S.M) → T (S.leb a b) → T (S.leb (S.plus c a) (S.plus c b))
  plus_r a b c h = L.mono c c a b (L.le_refl c) h

  pub zero_r : (a : S.M) → S.plus a S.zero ≡ a
  zero_r a = L.comm a S.zero ∙ L.zero_l a

  pub more_l : (a b : S.M) → T (S.leb b (S.plus a b))
  more_l a b = subst (λ x. T (S.leb x (S.plus a b))) (L.zero_l b) (plus_l S.zero a b (L.zero-least a))

  pub more_r : (a b : S.M) → T (S.leb a (S.plus a b))
  more_r a b = subst (λ x. T (S.leb a x)) (L.comm b a) (more_l b a)

  pub lesser_l : (a b : S.M) → T (S.leb (lesser S a b) a)
  lesser_l a b = go (S.leb a b) refl
    where
      go : (t : Bool) → S.leb a b ≡ t → T (S.leb (cond t a b) a)
      go true e = L.le_refl a
      go false e = ⊎_elim (λ h. absurd (subst T e h)) (λ h. h) (L.le_total a b)

  pub lesser_r : (a b : S.M) → T (S.leb (lesser S a b) b)
  lesser_r a b = go (S.leb a b) refl
    where
      go : (t : Bool) → S.leb a b ≡ t → T (S.leb (cond t a b) b)
      go true e = subst T (sym e) tt
      go false e = L.le_refl b

  pub lesser_of : (a b c : S.M) → T (S.leb c a) → T (S.leb c b) → T (S.leb c (lesser S a b))
  lesser_of a b c h k = elim (S.leb a b) as (λ t. T (S.leb c (cond t a b))) [ true ↦ h | false ↦ k ]

  -- the four ways of two minima
  pub lesser_sums : (p q r s c : S.M) →
      T (S.leb c (S.plus p r)) → T (S.leb c (S.plus p s)) → T (S.leb c (S.plus q r)) → T (S.leb c (S.plus q s)) →
      T (S.leb c (S.plus (lesser S p q) (lesser S r s)))
  lesser_sums p q r s c h₁ h₂ h₃ h₄ =
      elim (S.leb p q) as (λ t. T (S.leb c (S.plus (cond t p q) (lesser S r s)))) [
        | true ↦ elim (S.leb r s) as (λ u. T (S.leb c (S.plus p (cond u r s)))) [ true ↦ h₁ | false ↦ h₂ ]
        | false ↦ elim (S.leb r s) as (λ u. T (S.leb c (S.plus q (cond u r s)))) [ true ↦ h₃ | false ↦ h₄ ]
      ]

  round_new : (ac ak kc kk : S.M) → T (S.leb (lesser S ac (S.plus ak kc)) (S.plus (lesser S ak (S.plus ak kk)) (lesser S kc (S.plus kk kc))))
  round_new ac ak kc kk =
      let m : S.M = lesser S ac (S.plus ak kc) in
      let r : T (S.leb m (S.plus ak kc)) = lesser_r ac (S.plus ak kc) in
      lesser_sums ak (S.plus ak kk) kc (S.plus kk kc) m r
      (L.le_trans m (S.plus ak kc) _ r (plus_r kc (S.plus kk kc) ak (more_l kk kc)))
      (L.le_trans m (S.plus ak kc) _ r (plus_l ak (S.plus ak kk) kc (more_r ak kk)))
      (L.le_trans m (S.plus ak kc) _ r (L.mono _ _ _ _ (more_r ak kk) (more_l kk kc)))

  round_old : (ac ak kc ab bc kb bk : S.M) → T (S.leb ac (S.plus ab bc)) → T (S.leb ak (S.plus ab bk)) → T (S.leb kc (S.plus kb bc)) →
      T (S.leb (lesser S ac (S.plus ak kc)) (S.plus (lesser S ab (S.plus ak kb)) (lesser S bc (S.plus bk kc))))
  round_old ac ak kc ab bc kb bk h₁ h₂ h₃ =
      let m : S.M = lesser S ac (S.plus ak kc) in
      let r : T (S.leb m (S.plus ak kc)) = lesser_r ac (S.plus ak kc) in
      lesser_sums ab (S.plus ak kb) bc (S.plus bk kc) m
      (L.le_trans m ac _ (lesser_l ac (S.plus ak kc)) h₁)
      (L.le_trans m (S.plus ak kc) _ r (subst (λ z. T (S.leb (S.plus ak kc) z)) (L.assoc ab bk kc) (plus_l ak (S.plus ab bk) kc h₂)))
      (L.le_trans m (S.plus ak kc) _ r (subst (λ z. T (S.leb (S.plus ak kc) z)) (sym (L.assoc ak kb bc)) (plus_r kc (S.plus kb bc) ak h₃)))
      (L.le_trans m (S.plus ak kc) _ r (L.mono _ _ _ _ (more_r ak kb) (more_l bk kc)))

  module _ {V : Type 0} (eq : V → V → Bool) (eq_refl : (a : V) → T (eq a a)) (eq_same : (a b : V) → T (eq a b) → a ≡ b) (w : V → V → S.M) where
    pub total-append : (a : V) (l m : List V) → total S w a (l ++ m) ≡ S.plus (total S w a l) (total S w (end a l) m)
    total-append a [] m = sym (L.zero_l (total S w a m))
    total-append a (x ∷ l) m = ap (S.plus (w a x)) (total-append x l m) ∙ sym (L.assoc (w a x) (total S w x l) (total S w (end x l) m))

    -- a walk from a to b that costs c
    abbrev pub Walk : V → V → S.M → Type 0
    Walk a b c = (l : List V) × (end a l ≡ b) × (total S w a l ≡ c)

    pub join : (a b c : V) (x y : S.M) → Walk a b x → Walk b c y → Walk a c (S.plus x y)
    join a b c x y (l, e, h) (m, f, k) =
        (l ++ m, end-append a l m ∙ ap (λ z. end z m) e ∙ f, total-append a l m ∙ ap (λ z. S.plus (total S w a l) (total S w z m)) e ∙ (λ i. S.plus (h i) (k i)))

    -- some walk costs that
    pub least_is : (ks : List V) (a b : V) → Walk a b (least S eq w ks a b)
    least_is [] a b = go (eq a b) refl
      where
        go : (t : Bool) → eq a b ≡ t → Walk a b (cond t S.zero (w a b))
        go true e = ([], eq_same a b (subst T (sym e) tt), refl)
        go false e = (b ∷ [], refl, zero_r (w a b))
    least_is (k ∷ ks) a b =
        elim (S.leb (least S eq w ks a b) (S.plus (least S eq w ks a k) (least S eq w ks k b)))
        as (λ t. Walk a b (cond t (least S eq w ks a b) (S.plus (least S eq w ks a k) (least S eq w ks k b)))) [
          | true ↦ least_is ks a b
          | false ↦ join a k b (least S eq w ks a k) (least S eq w ks k b) (least_is ks a k) (least_is ks k b)
        ]

    pub triangle : (ks : List V) (b : V) → In b ks → (a c : V) → T (S.leb (least S eq w ks a c) (S.plus (least S eq w ks a b) (least S eq w ks b c)))
    triangle [] b i a c = elim i [ ]
    triangle (k ∷ ks) b first a c = round_new (least S eq w ks a c) (least S eq w ks a k) (least S eq w ks k c) (least S eq w ks k k)
    triangle (k ∷ ks) b (later i) a c =
        round_old (least S eq w ks a c) (least S eq w ks a k) (least S eq w ks k c) (least S eq w ks a b) (least S eq w ks b c) (least S eq w ks k b) (least S eq w ks b k)
        (triangle ks b i a c) (triangle ks b i a k) (triangle ks b i k c)

    pub least-way : (ks : List V) (a b : V) → T (S.leb (least S eq w ks a b) (w a b))
    least-way [] a b = go (eq a b)
      where
        go : (t : Bool) → T (S.leb (cond t S.zero (w a b)) (w a b))
        go true = L.zero-least (w a b)
        go false = L.le_refl (w a b)
    least-way (k ∷ ks) a b = L.le_trans _ _ _ (lesser_l (least S eq w ks a b) (S.plus (least S eq w ks a k) (least S eq w ks k b))) (least-way ks a b)

    pub least_self : (ks : List V) (a : V) → T (S.leb (least S eq w ks a a) S.zero)
    least_self [] a = go (eq a a) (eq_refl a)
      where
        go : (t : Bool) → T t → T (S.leb (cond t S.zero (w a a)) S.zero)
        go true e = L.le_refl S.zero
        go false e = absurd e
    least_self (k ∷ ks) a = L.le_trans _ _ _ (lesser_l (least S eq w ks a a) (S.plus (least S eq w ks a k) (least S eq w ks k a))) (least_self ks a)

    -- no walk costs less
    module _ (ks : List V) (inside : (a x : V) → In x ks ⊎ (w a x ≡ S.far)) where
      pub least_most : (l : List V) (a : V) → T (S.leb (least S eq w ks a (end a l)) (total S w a l))
      least_most [] a = least_self ks a
      least_most (x ∷ l) a = ⊎_elim (near (least_most l x)) off (inside a x)
        where
          near : T (S.leb (least S eq w ks x (end x l)) (total S w x l)) → In x ks → T (S.leb (least S eq w ks a (end x l)) (S.plus (w a x) (total S w x l)))
          near h i = L.le_trans _ _ _ (triangle ks x i a (end x l)) (L.mono _ _ _ _ (least-way ks a x) h)

          off : w a x ≡ S.far → T (S.leb (least S eq w ks a (end x l)) (S.plus (w a x) (total S w x l)))
          off e = subst (λ z. T (S.leb (least S eq w ks a (end x l)) z)) (sym (ap (λ z. S.plus z (total S w x l)) e ∙ L.far_l (total S w x l))) (L.far_most _)

-- a function as a table of what it is at the keys: the same function, and each answer is computed once
abbrev pub look : {V B : Type 0} → (V → V → Bool) → (V → B) → List (V × B) → V → B
look eq f [] a = f a
look eq f (e ∷ t) a = elim (eq e.0 a) [ true ↦ e.1 | false ↦ look eq f t a ]

abbrev pub memo : {V B : Type 0} → (V → V → Bool) → List V → (V → B) → V → B
memo eq ks f = let t = map (λ k. (k, f k)) ks in λ a. look eq f t a

abbrev pub memo2 : {V B : Type 0} → (V → V → Bool) → List V → (V → V → B) → V → V → B
memo2 eq ks f = memo eq ks (λ a. memo eq ks (f a))

-- `least`, with tables
abbrev pub fast : (S : Scale) {V : Type 0} → (V → V → Bool) → (V → V → S.M) → List V → List V → V → V → S.M
fast S eq w all [] = memo2 eq all (λ a b. cond (eq a b) S.zero (w a b))
fast S eq w all (k ∷ ks) = let d = fast S eq w all ks in memo2 eq all (λ a b. lesser S (d a b) (S.plus (d a k) (d k b)))

module _ {V : Type 0} (eq : V → V → Bool) (eq_same : (a b : V) → T (eq a b) → a ≡ b) where
  look_is : {B : Type 0} (f : V → B) (ks : List V) (a : V) → look eq f (map (λ k. (k, f k)) ks) a ≡ f a
  look_is f [] a = refl
  look_is {B} f (k ∷ ks) a = go (eq k a) refl (look_is f ks a)
    where
      go : (t : Bool) → eq k a ≡ t → look eq f (map (λ x. (x, f x)) ks) a ≡ f a →
          ◌≡◌ {A = B} (elim t as (λ x. B) [ true ↦ f k | false ↦ look eq f (map (λ x. (x, f x)) ks) a ]) (f a)
      go true e h = ap f (eq_same k a (subst T (sym e) tt))
      go false e h = h

  pub memo_is : {B : Type 0} (f : V → B) (ks : List V) → memo eq ks f ≡ f
  memo_is f ks = fun_ext (look_is f ks)

  pub memo2_is : {B : Type 0} (f : V → V → B) (ks : List V) → memo2 eq ks f ≡ f
  memo2_is f ks = memo_is (λ a. memo eq ks (f a)) ks ∙ fun_ext (λ a. memo_is (f a) ks)

  pub fast_is : (S : Scale) (w : V → V → S.M) (all ks : List V) → fast S eq w all ks ≡ least S eq w ks
  fast_is S w all [] = memo2_is (λ a b. cond (eq a b) S.zero (w a b)) all
  fast_is S w all (k ∷ ks) =
      memo2_is (λ a b. lesser S (fast S eq w all ks a b) (S.plus (fast S eq w all ks a k) (fast S eq w all ks k b))) all
      ∙ ap {B = V → V → S.M} (λ (d : V → V → S.M) a b. lesser S (d a b) (S.plus (d a k) (d k b))) (fast_is S w all ks)

abbrev pub below : ℕ → List ℕ
below zero = []
below (suc n) = below n ++ (n ∷ [])

pub in_left : {V : Type 0} (x : V) (l m : List V) → In x l → In x (l ++ m)
in_left x (y ∷ l) m first = first
in_left x (y ∷ l) m (later i) = later (in_left x l m i)
in_left x [] m i = elim i [ ]

pub in_right : {V : Type 0} (x : V) (l m : List V) → In x m → In x (l ++ m)
in_right x [] m i = i
in_right x (y ∷ l) m i = later (in_right x l m i)

pub in_map : {V B : Type 0} (f : V → B) (x : V) (l : List V) → In x l → In (f x) (map f l)
in_map f x (y ∷ l) first = first
in_map f x (y ∷ l) (later i) = later (in_map f x l i)
in_map f x [] i = elim i [ ]

pub in_below : (n x : ℕ) → x < n → In x (below n)
in_below zero x h = absurd (omega arith)
in_below (suc n) x h = go (in_below n x) (cases_lt x n)
  where
    go : (x < n → In x (below n)) → (x < n) ⊎ (n ≤ x) → In x (below n ++ (n ∷ []))
    go r (inl k) = in_left x (below n) (n ∷ []) (r k)
    go r (inr k) = in_right x (below n) (n ∷ []) (subst (λ z. In x (z ∷ [])) (let e : x ≡ n = omega arith in e) first)
