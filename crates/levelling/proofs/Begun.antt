-- Shown: what a book holds as its levels and ways are entered, and as marked ways are set aside.
use Rattle.std.proofs.Common.{◌≡◌, ℕ, ◌+◌, ◌<◌, Bool, true, false, cond, ◌&&◌, eqb, ltb, List, [], length, get_or, Some, None, sym, ap, ◌∙◌, inl, inr, arith}
use Rattle.std.proofs.lemmas.Bool.{lt-ltb, eq-eqb, and_from, cond-true, cond-false}
use Rattle.std.proofs.lemmas.Bool.Decides.{eqb_tells}
use Rattle.ground.specs.Earliest.{or_else}
use Rattle.hierarchy.specs.Kinds.{Kind, Price}
use Rattle.hierarchy.specs.Books.{Book}
use Rattle.levelling.specs.Meaning.{put_price, with_level, with_way, without_way}
use Rattle.levelling.specs.Begun.{RowWritten, LevelsEntered, enters}
use Rattle.levelling.specs.Beaten.{leaves}
use Rattle.levelling.proofs.Rewriting.{ltb_next, row_more, row_skip}

module _ {K : Kind} (a i : ℕ) (ha : a < 256) (hi : i < 256) (old mid : Book K) where
  near : (ltb a 256 && ltb i 256) ≡ true
  near = and_from _ _ (lt-ltb a 256 ha) (lt-ltb i 256 hi)

  pub way-entered : (way : ℕ → ℕ → Price K) (c : K.C) → way a i ≡ Some c → RowWritten (enters way a) i a old mid →
      (new : Book K) → new ≡ with_way a i c mid → RowWritten (enters way a) (i + 1) a old new
  way-entered way c e so_far new made = row_more (enters way a) a old i mid so_far new (made ∙ (λ j. record {
    level = mid.level;
    kept = (cond-true _ (put_price mid.kept a i (Some c)) mid.kept near ∙ ap (λ o. put_price mid.kept a i (or_else o (mid.kept a i))) (sym e)) j;
    shortcuts = mid.shortcuts;
  }))

  pub way_left : (marks : List Bool) → get_or marks i false ≡ true → mid.shortcuts ≡ [] → RowWritten (leaves marks) i a old mid →
      (new : Book K) → new ≡ without_way a i mid → RowWritten (leaves marks) (i + 1) a old new
  way_left marks e none so_far new made = row_more (leaves marks) a old i mid so_far new (made ∙ (λ j. record {
    level = mid.level;
    kept = (cond-true _ (put_price mid.kept a i None) mid.kept (and_from _ _ (eq-eqb _ 0 (ap length none)) near) ∙ ap (put_price mid.kept a i) (sym (cond-true (get_or marks i false) None (mid.kept a i) e))) j;
    shortcuts = mid.shortcuts;
  }))

module _ {K : Kind} (a i : ℕ) (old mid : Book K) where
  pub none_entered : (way : ℕ → ℕ → Price K) → way a i ≡ None → RowWritten (enters way a) i a old mid → RowWritten (enters way a) (i + 1) a old mid
  none_entered way e so_far = row_skip (enters way a) a old i mid so_far (ap (λ o. or_else o (mid.kept a i)) e)

  pub none_left : (marks : List Bool) → get_or marks i false ≡ false → RowWritten (leaves marks) i a old mid → RowWritten (leaves marks) (i + 1) a old mid
  none_left marks e so_far = row_skip (leaves marks) a old i mid so_far (cond-false (get_or marks i false) None (mid.kept a i) e)

pub level-entered : {K : Kind} (shut : ℕ → Bool) (i level : ℕ) → i < 256 → (old mid : Book K) → LevelsEntered i shut old mid → level ≡ cond (shut i) 0 1 →
    (new : Book K) → new ≡ with_level i level mid → LevelsEntered (i + 1) shut old new
level-entered shut i level h old mid so_far e new made = record {
  levels = λ x. ap (λ b. b.level x) made ∙ ap (λ (f : ℕ → ℕ). f x) (cond-true (ltb i 256) _ _ (lt-ltb i 256 h)) ∙ here x;
  ways = ap (λ b. b.kept) made ∙ so_far.ways;
  shortcuts = ap (λ b. b.shortcuts) made ∙ so_far.shortcuts;
}
  where
    here : (x : ℕ) → cond (eqb x i) level (mid.level x) ≡ cond (ltb x (i + 1)) (cond (shut x) 0 1) (old.level x)
    here x = elim (eqb_tells x i) [
      | inl p ↦ rw (p.0, p.1, lt-ltb i (i + 1) (omega arith)) e
      | inr p ↦ rw (p.0, ltb_next x i p.1) (so_far.levels x)
    ]
