-- Shown: the order and the sums of prices, and the price of two chains after one another.
--   Le   a price is at most another
--   Has  there is a cost
use Rattle.std.proofs.Common.{◌≡◌, ℕ, Bool, true, false, cond, not, T, eqb, ◌⊎◌, List, [], ◌∷◌, ◌++◌, is_some, Some, None, Option, sym, refl, ap, ◌∙◌, subst, inl, inr, ⊎_elim, eqb→eq}
use lib.Dec.{eqb_refl}
use Rattle.std.proofs.lemmas.Bool.{true≢false}
use Rattle.hierarchy.specs.Kinds.{Kind, Price, add, cheaper}
use Rattle.hierarchy.specs.Walks.{end, along}
use Rattle.hierarchy.specs.Scales.{scale, scale_laws, T_false, false-T}
use Rattle.hierarchy.specs.Shortest.{total-append, more_l, more_r}
use Rattle.hierarchy.specs.Chains.{AtMost}

abbrev pub Has : {A : Type 0} → Option A → Type 0
Has p = is_some p ≡ true

pub some_has : {A : Type 0} (p : Option A) (c : A) → p ≡ Some c → Has p
some_has p c e = ap is_some e

pub has_some : {A : Type 0} (p : Option A) → Has p → (c : A) × (p ≡ Some c)
has_some None h = absurd (true≢false (sym h))
has_some (Some c) h = (c, refl)

pub has_or_none : {A : Type 0} (p : Option A) → Has p ⊎ (p ≡ None)
has_or_none None = inr refl
has_or_none (Some c) = inl refl

pub has_not_none : {A : Type 0} (p : Option A) → Has p → p ≡ None → ⊥
has_not_none p h e = true≢false (sym h ∙ ap is_some e)

pub none_some : {A : Type 0} {x : A} → None ≡ Some x → ⊥
none_some e = true≢false (sym (ap is_some e))

pub cond_has : {A : Type 0} (t : Bool) (p : Option A) → Has (cond t p None) → (t ≡ true) × Has p
cond_has true p h = (refl, h)
cond_has false p h = absurd (true≢false (sym h))

module _ (K : Kind) where
  at_most_of : (p q : Price K) → T (not (cheaper K q p)) → Has q → AtMost K p q
  at_most_of p None h k = absurd (true≢false (sym k))
  at_most_of None (Some d) h k = absurd h
  at_most_of (Some c) (Some d) h k = (c, d, refl, refl, false-T K _ h)

  pub add_has : (p q : Price K) → Has p → Has q → Has (add K p q)
  add_has None q h k = h
  add_has (Some c) None h k = k
  add_has (Some c) (Some d) h k = refl

  pub has_parts : (p q : Price K) → Has (add K p q) → Has p × Has q
  has_parts None q h = absurd (true≢false (sym h))
  has_parts (Some c) None h = absurd (true≢false (sym h))
  has_parts (Some c) (Some d) h = (refl, refl)

-- a record, so that the prices can be read off it
pub record Le (K : Kind) (p q : Price K) : Type 0 where
  pub holds : T ((scale K).leb p q)

module _ {K : Kind} where
  pub le_refl : {p : Price K} → Le K p p
  le_refl {p} = record { holds = (scale_laws K).le_refl p }

  pub le_trans : {p q r : Price K} → Le K p q → Le K q r → Le K p r
  le_trans {p} {q} {r} h k = record { holds = (scale_laws K).le_trans p q r h.holds k.holds }

  pub le_anti : {p q : Price K} → Le K p q → Le K q p → p ≡ q
  le_anti {p} {q} h k = (scale_laws K).le_anti p q h.holds k.holds

  pub le_total : (p q : Price K) → Le K p q ⊎ Le K q p
  le_total p q = ⊎_elim (λ h. inl (record { holds = h })) (λ h. inr (record { holds = h })) ((scale_laws K).le_total p q)

  pub le-add : {p q r s : Price K} → Le K p q → Le K r s → Le K (add K p r) (add K q s)
  le-add {p} {q} {r} {s} h k = record { holds = (scale_laws K).mono p q r s h.holds k.holds }

  pub le-zero : {p : Price K} → Le K (Some K.zero) p
  le-zero {p} = record { holds = (scale_laws K).zero-least p }

  pub le_more_l : (p q : Price K) → Le K q (add K p q)
  le_more_l p q = record { holds = more_l (scale K) (scale_laws K) p q }

  pub le_more_r : (p q : Price K) → Le K p (add K p q)
  le_more_r p q = record { holds = more_r (scale K) (scale_laws K) p q }

  pub same_le : {p q : Price K} → p ≡ q → Le K p q
  same_le {p} e = subst (Le K p) e le_refl

  pub le_none : {p q : Price K} → q ≡ None → Le K p q
  le_none {p} e = subst (Le K p) (sym e) (record { holds = tt })

  -- where a price that exists stays as it is
  pub le-kept : (p q : Price K) → (Has q → p ≡ q) → Le K p q
  le-kept p q f = ⊎_elim (λ h. same_le (f h)) (λ e. le_none e) (has_or_none q)

  pub at_most : {p q : Price K} → Le K p q → Has q → AtMost K p q
  at_most {p} {q} h = at_most_of K p q h.holds

  pub at_most-le : (p q : Price K) → AtMost K p q → Le K p q
  at_most-le p q (c, d, e, f, h) = record { holds = rw (e, f) (T_false K _ h) }

  pub le_has : {p q : Price K} → Le K p q → Has q → Has p
  le_has {p} h k = let m = at_most h k in some_has p m.0 m.2

  pub not-cheaper : {p q : Price K} → cheaper K q p ≡ false → Le K p q
  not-cheaper h = record { holds = T_false K _ h }

  pub cheaper-le : (p q : Price K) → cheaper K p q ≡ true → Le K p q
  cheaper-le p q h = record { holds = ⊎_elim (λ k. k) (λ k. absurd (let n : T (not true) = rw h at k in n)) ((scale_laws K).le_total p q) }

  pub le_costs : {p : Price K} (c d : K.C) → p ≡ Some c → Le K p (Some d) → K.less d c ≡ false
  le_costs c d e h = false-T K _ (subst (λ q. Le K q (Some d)) e h).holds

pub same_bound : (K : Kind) (p : Price K) (c e : K.C) → p ≡ Some c → (d : K.C) × (p ≡ Some d) × (K.less e d ≡ false) → K.less e c ≡ false
same_bound K p c e h (d, k, n) = let q : c ≡ d = cc in ap (K.less e) q ∙ n

pub along-append : (K : Kind) (w : ℕ → ℕ → Price K) (a : ℕ) (l m : List ℕ) → along K w a (l ++ m) ≡ add K (along K w a l) (along K w (end a l) m)
along-append K = total-append (scale K) (scale_laws K) eqb eqb_refl eqb→eq

pub along_less : {K : Kind} (w w' : ℕ → ℕ → Price K) → ((x y : ℕ) → Le K (w' x y) (w x y)) → (a : ℕ) (l : List ℕ) → Le K (along K w' a l) (along K w a l)
along_less w w' h a [] = le_refl
along_less w w' h a (x ∷ l) = le-add (h a x) (along_less w w' h x l)
