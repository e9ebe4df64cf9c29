-- Shown: what is kept once the ways of a row are rewritten one by one, and of all rows.
use Rattle.std.proofs.Common.{◌≡◌, ℕ, ◌+◌, cond, ◌&&◌, eqb, ltb, Option, sym, refl, ap, ◌∙◌, inl, inr, arith}
use mathlib.Core.Path.{fun_ext}
use Rattle.std.proofs.lemmas.Bool.{cases_lt, lt-ltb, le-ltb, and_left, and_right, cond-false}
use Rattle.std.proofs.lemmas.Bool.Decides.{eqb_tells}
use Rattle.hierarchy.specs.Kinds.{Kind, Price}
use Rattle.hierarchy.specs.Books.{Book}
use Rattle.levelling.specs.Meaning.{put_price}
use Rattle.levelling.specs.Begun.{RowWritten, RowsWritten}

-- one place more, which is not this one
pub ltb_next : (x i : ℕ) → (x ≡ i → ⊥) → ltb x (i + 1) ≡ ltb x i
ltb_next x i d = elim (cases_lt x i) [
  | inl h ↦ lt-ltb x (i + 1) (omega arith) ∙ sym (lt-ltb x i h)
  | inr h ↦ le-ltb x (i + 1) (omega arith) ∙ sym (le-ltb x i h)
]

pub put_same : {C : Type 0} (kept : ℕ → ℕ → Option C) (a b : ℕ) → put_price kept a b (kept a b) ≡ kept
put_same kept a b = fun_ext (λ x. fun_ext (λ y. elim (eqb_tells x a) [
  | inl p ↦ elim (eqb_tells y b) [ inl q ↦ rw (p.0, q.0, p.1, q.1) refl | inr q ↦ rw (p.0, q.0) refl ]
  | inr p ↦ rw p.0 refl
]))

module _ {K : Kind} where
  module _ (f : ℕ → Price K → Price K) (a : ℕ) (old : Book K) where
    module _ (i : ℕ) (mid : Book K) (so_far : RowWritten f i a old mid) where
      at_place : mid.kept a i ≡ old.kept a i
      at_place = so_far.ways a i ∙ cond-false _ _ _ (and_right (eqb a a) _ (le-ltb i i (omega arith)))

      pub row_more : (new : Book K) → new ≡ record { level = mid.level; kept = put_price mid.kept a i (f i (mid.kept a i)); shortcuts = mid.shortcuts } →
          RowWritten f (i + 1) a old new
      row_more new e = record {
        ways = λ x y. ap (λ b. b.kept x y) e ∙ here x y;
        levels = ap (λ b. b.level) e ∙ so_far.levels;
        shortcuts = ap (λ b. b.shortcuts) e ∙ so_far.shortcuts;
      }
        where
          here : (x y : ℕ) → put_price mid.kept a i (f i (mid.kept a i)) x y ≡ cond (eqb x a && ltb y (i + 1)) (f y (old.kept x y)) (old.kept x y)
          here x y = elim (eqb_tells x a) [
            | inl p ↦ elim (eqb_tells y i) [
              | inl q ↦ rw (p.0, q.0, p.1, q.1, at_place, lt-ltb i (i + 1) (omega arith)) refl
              | inr q ↦ rw (p.0, q.0, ltb_next y i q.1) (so_far.ways x y ∙ rw p.0 refl)
            ]
            | inr p ↦ rw p.0 (so_far.ways x y ∙ rw p.0 refl)
          ]

      pub row_skip : f i (mid.kept a i) ≡ mid.kept a i → RowWritten f (i + 1) a old mid
      row_skip e =
          row_more mid (λ j. record { level = mid.level; kept = (sym (put_same mid.kept a i) ∙ ap (put_price mid.kept a i) (sym e)) j; shortcuts = mid.shortcuts })

  module _ (f : ℕ → ℕ → Price K → Price K) (n : ℕ) (old : Book K) where
    pub rows_more : (i : ℕ) (mid new : Book K) → RowsWritten f i n old mid → RowWritten (f i) n i mid new → RowsWritten f (i + 1) n old new
    rows_more i mid new so_far row = record {
      ways = λ x y. row.ways x y ∙ here x y;
      levels = row.levels ∙ so_far.levels;
      shortcuts = row.shortcuts ∙ so_far.shortcuts;
    }
      where
        here : (x y : ℕ) → cond (eqb x i && ltb y n) (f i y (mid.kept x y)) (mid.kept x y) ≡ cond (ltb x (i + 1) && ltb y n) (f x y (old.kept x y)) (old.kept x y)
        here x y = elim (eqb_tells x i) [
          | inl p ↦
              let same : mid.kept x y ≡ old.kept x y = so_far.ways x y ∙ cond-false _ _ _ (and_left (ltb x i) _ (le-ltb x i (omega (arith, p.1)))) in
              rw (p.0, same, lt-ltb x (i + 1) (omega (arith, p.1)), p.1) refl
          | inr p ↦ rw (p.0, ltb_next x i p.1) (so_far.ways x y)
        ]
