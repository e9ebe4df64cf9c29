-- Shown: prices are a scale, on which every two stand in order, none is greatest, and sums keep the order.
use Rattle.std.specs.Prelude.{◌≡◌, Bool, true, false, not, T, ◌⊎◌, Some, None, refl}
use Rattle.std.proofs.Common.{ap, sym, subst, ◌∙◌, inl, inr}
use Rattle.std.proofs.lemmas.Bool.{true≢false}
use Rattle.cost.specs.Laws.{CostLaws}
use Rattle.hierarchy.specs.Kinds.{Kind, Price, add, cheaper}

pub record Scale : Type 1 where
  pub M : Type 0
  pub zero : M
  pub far : M
  pub plus : M → M → M
  pub leb : M → M → Bool

pub record ScaleLaws (S : Scale) : Type 0 where
  pub le_refl : (a : S.M) → T (S.leb a a)
  pub le_trans : (a b c : S.M) → T (S.leb a b) → T (S.leb b c) → T (S.leb a c)
  pub le_total : (a b : S.M) → T (S.leb a b) ⊎ T (S.leb b a)
  pub le_anti : (a b : S.M) → T (S.leb a b) → T (S.leb b a) → a ≡ b
  pub assoc : (a b c : S.M) → S.plus (S.plus a b) c ≡ S.plus a (S.plus b c)
  pub comm : (a b : S.M) → S.plus a b ≡ S.plus b a
  pub zero_l : (a : S.M) → S.plus S.zero a ≡ a
  pub mono : (a b c d : S.M) → T (S.leb a b) → T (S.leb c d) → T (S.leb (S.plus a c) (S.plus b d))
  pub zero-least : (a : S.M) → T (S.leb S.zero a)
  pub far_most : (a : S.M) → T (S.leb a S.far)
  pub far_l : (a : S.M) → S.plus S.far a ≡ S.far

abbrev pub scale : Kind → Scale
scale K = record { M = Price K; zero = Some K.zero; far = None; plus = add K; leb = λ p q. not (cheaper K q p) }

module _ (K : Kind) where
  L : CostLaws K.zero K.over K.plus K.less K.fair K.word K.unword
  L = K.laws

  pub T_false : (t : Bool) → t ≡ false → T (not t)
  T_false t e = subst (λ b. T (not b)) (sym e) tt

  pub false-T : (t : Bool) → T (not t) → t ≡ false
  false-T false h = refl
  false-T true h = absurd h

  le : K.C → K.C → Type 0
  le c d = K.less d c ≡ false

  pub le_trans_c : (a b c : K.C) → K.less b a ≡ false → K.less c b ≡ false → K.less c a ≡ false
  le_trans_c a b c h k = go (K.less c a) refl (K.less a b) refl
    where
      go : (t : Bool) → K.less c a ≡ t → (u : Bool) → K.less a b ≡ u → K.less c a ≡ false
      go false e u f = e
      go true e true f = absurd (true≢false (sym (L.transitive c a b e f) ∙ k))
      go true e false f = ap (K.less c) (L.trichotomy a b f h) ∙ k

  pub mono_c : (a b c d : K.C) → K.less b a ≡ false → K.less d c ≡ false → K.less (K.plus b d) (K.plus a c) ≡ false
  mono_c a b c d h k =
      le_trans_c (K.plus a c) (K.plus b c) (K.plus b d) (L.monotone a b c h)
      (ap (λ x. K.less (K.plus b d) x) (L.plus_comm b c) ∙ ap (λ x. K.less x (K.plus c b)) (L.plus_comm b d) ∙ L.monotone c d b k)

  scale_refl : (a : Price K) → T (not (cheaper K a a))
  scale_refl None = tt
  scale_refl (Some c) = T_false _ (L.irreflexive c)

  scale_trans : (a b c : Price K) → T (not (cheaper K b a)) → T (not (cheaper K c b)) → T (not (cheaper K c a))
  scale_trans a b None h k = tt
  scale_trans a None (Some z) h k = absurd k
  scale_trans None (Some y) (Some z) h k = absurd h
  scale_trans (Some x) (Some y) (Some z) h k = T_false _ (le_trans_c x y z (false-T _ h) (false-T _ k))

  scale-total : (a b : Price K) → T (not (cheaper K b a)) ⊎ T (not (cheaper K a b))
  scale-total None b = inr tt
  scale-total (Some x) None = inl tt
  scale-total (Some x) (Some y) = go (K.less y x) refl
    where
      go : (t : Bool) → K.less y x ≡ t → T (not (K.less y x)) ⊎ T (not (K.less x y))
      go false e = inl (T_false _ e)
      go true e = inr (T_false _ (L.one_way y x e))

  scale_anti : (a b : Price K) → T (not (cheaper K b a)) → T (not (cheaper K a b)) → a ≡ b
  scale_anti None None h k = refl
  scale_anti None (Some y) h k = absurd h
  scale_anti (Some x) None h k = absurd k
  scale_anti (Some x) (Some y) h k = ap Some (L.trichotomy x y (false-T _ k) (false-T _ h))

  scale_assoc : (a b c : Price K) → add K (add K a b) c ≡ add K a (add K b c)
  scale_assoc None b c = refl
  scale_assoc (Some x) None c = refl
  scale_assoc (Some x) (Some y) None = refl
  scale_assoc (Some x) (Some y) (Some z) = ap Some (L.plus_assoc x y z)

  scale_comm : (a b : Price K) → add K a b ≡ add K b a
  scale_comm None None = refl
  scale_comm None (Some y) = refl
  scale_comm (Some x) None = refl
  scale_comm (Some x) (Some y) = ap Some (L.plus_comm x y)

  scale-zero : (a : Price K) → add K (Some K.zero) a ≡ a
  scale-zero None = refl
  scale-zero (Some x) = ap Some (L.plus-zero x)

  scale-mono : (a b c d : Price K) → T (not (cheaper K b a)) → T (not (cheaper K d c)) → T (not (cheaper K (add K b d) (add K a c)))
  scale-mono a None c d h k = tt
  scale-mono a (Some y) c None h k = tt
  scale-mono None (Some y) c (Some w) h k = absurd h
  scale-mono (Some x) (Some y) None (Some w) h k = absurd k
  scale-mono (Some x) (Some y) (Some z) (Some w) h k = T_false _ (mono_c x y z w (false-T _ h) (false-T _ k))

  scale-least : (a : Price K) → T (not (cheaper K a (Some K.zero)))
  scale-least None = tt
  scale-least (Some x) = T_false _ (L.zero-least x)

  scale_most : (a : Price K) → T (not (cheaper K None a))
  scale_most a = tt

  pub scale_laws : ScaleLaws (scale K)
  scale_laws = record {
    le_refl = scale_refl;
    le_trans = scale_trans;
    le_total = scale-total;
    le_anti = scale_anti;
    assoc = scale_assoc;
    comm = scale_comm;
    zero_l = scale-zero;
    mono = scale-mono;
    zero-least = scale-least;
    far_most = scale_most;
    far_l = λ a. refl;
  }
