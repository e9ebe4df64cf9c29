-- Shown: what the entry of each pair is once the entry of one pair is set.
use Rattle.std.proofs.Common.{◌≡◌, ℕ, ◌+◌, ◌*◌, ◌<◌, true, false, cond, ◌&&◌, eqb, ltb, ◌⊎◌, List, length, set, ◌∙◌, inl, inr, arith}
use Rattle.std.proofs.lemmas.List.{get_or-set_same, get_or-set_other}
use Rattle.std.proofs.lemmas.Bool.Decides.{eqb_tells}
use Rattle.std.proofs.lemmas.Bool.{lt-ltb, le-ltb, cases_lt, and_from, and_left, and_right}
use Rattle.levelling.specs.declared.entry.Entry.{Entry}
use Rattle.levelling.specs.declared.entry.Entry.TheVariants.{Apart}
use Rattle.levelling.specs.Entries.{entry_at, or_by, with_entry, entered}

-- both places are below 256, or one is not
pub both_tell : (x y : ℕ) → (((ltb x 256 && ltb y 256) ≡ true) × ((x < 256) × (y < 256))) ⊎ (((ltb x 256 && ltb y 256) ≡ false) × ((x < 256) × (y < 256) → ⊥))
both_tell x y = elim (cases_lt x 256) [
  | inl hx ↦ elim (cases_lt y 256) [
    | inl hy ↦ inl (and_from _ _ (lt-ltb x 256 hx) (lt-ltb y 256 hy), (hx, hy))
    | inr hy ↦ inr (and_right _ _ (le-ltb y 256 hy), λ h. omega arith)
  ]
  | inr hx ↦ inr (and_left _ _ (le-ltb x 256 hx), λ h. omega arith)
]

-- two pairs are one, or they are not
pub pair_tells : (a b x y : ℕ) → (((eqb a x && eqb b y) ≡ true) × ((a ≡ x) × (b ≡ y))) ⊎ (((eqb a x && eqb b y) ≡ false) × ((a ≡ x) × (b ≡ y) → ⊥))
pair_tells a b x y = elim (eqb_tells a x) [
  | inl p ↦ elim (eqb_tells b y) [
    | inl q ↦ inl (and_from _ _ p.0 q.0, (p.1, q.1))
    | inr q ↦ inr (and_right _ _ q.0, λ h. q.1 h.1)
  ]
  | inr p ↦ inr (and_left _ _ p.0, λ h. p.1 h.0)
]

-- what is entered at a pair of places that are not both below 256 is lost, and nothing else changes than that pair
module _ {C : Type 0} (entries : List (Entry C)) where
  set_at : (v : Entry C) (x y a b : ℕ) → y < 256 → b < 256 → x * 256 + y < length entries →
      entry_at (set entries (x * 256 + y) v) a b ≡ cond (eqb a x && eqb b y) v (entry_at entries a b)
  set_at v x y a b hy hb w = elim (pair_tells a b x y) [
    | inl p ↦ rw (p.0, p.1.0, p.1.1) (get_or-set_same entries (x * 256 + y) v Apart w)
    | inr p ↦ rw p.0 (get_or-set_other entries (x * 256 + y) (a * 256 + b) v Apart (λ e. p.1 (omega arith, omega arith)))
  ]

  pub with_entry_at : (v : Entry C) (x y a b : ℕ) → length entries ≡ 65536 → a < 256 → b < 256 →
      entry_at (with_entry entries x y v) a b ≡ cond (eqb a x && eqb b y) v (entry_at entries a b)
  with_entry_at v x y a b w ha hb = elim (both_tell x y) [
    | inl h ↦ rw h.0 (set_at v x y a b h.1.1 hb (omega arith))
    | inr h ↦ elim (pair_tells a b x y) [ inl p ↦ absurd (h.1 (omega arith, omega arith)) | inr p ↦ rw (h.0, p.0) ]
  ]

  pub entered_at : (x y k a b : ℕ) → length entries ≡ 65536 → a < 256 → b < 256 →
      entry_at (entered entries x y k) a b ≡ cond (eqb a x && eqb b y) (or_by (entry_at entries a b) k) (entry_at entries a b)
  entered_at x y k a b w ha hb = with_entry_at (or_by (entry_at entries x y) k) x y a b w ha hb ∙ elim (pair_tells a b x y) [
    | inl p ↦ rw (p.1.0, p.1.1)
    | inr p ↦ rw p.0
  ]
