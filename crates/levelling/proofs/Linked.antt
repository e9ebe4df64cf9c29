-- Shown: links lead only from and to places below the size.
use Rattle.std.proofs.Common.{◌≡◌, ℕ, ◌<◌, ◌≤◌, Bool, true, false, cond, not, ◌&&◌, ◌||◌, eqb, ltb, is_some, Some, None, Option, sym, refl, ap}
use Rattle.std.proofs.lemmas.Bool.{true≢false, not-true, eqb-false, ltb-true, le-ltb, and_parts, and_left, and_right, cond-false}
use Rattle.hierarchy.specs.Kinds.{Kind}
use Rattle.hierarchy.specs.Books.{Book, link_among}
use Rattle.levelling.specs.Detours.{detour_steps}

pub link_beyond : {K : Kind} (n : ℕ) (book : Book K) (v x : ℕ) → n ≤ x → link_among n book v x ≡ None
link_beyond n book v x h = cond-false _ _ None (and_right (ltb v n) _ (and_left (ltb x n) (not (eqb v x)) (le-ltb x n h)))

some_when : {A : Type 0} (t : Bool) (p : Option A) → is_some (cond t p None) ≡ true → t ≡ true
some_when true p h = refl
some_when false p h = absurd (true≢false (sym h))

pub link_ends : {K : Kind} (n : ℕ) (book : Book K) (a b : ℕ) (c : K.C) → link_among n book a b ≡ Some c → (a < n) × (b < n)
link_ends n book a b c e =
    let p = and_parts (ltb a n) _ (some_when _ _ (ap is_some e)) in
    (ltb-true a n p.0, ltb-true b n (and_parts (ltb b n) _ p.1).0)

pub detour_beyond : {K : Kind} (n : ℕ) (book : Book K) (level : ℕ → ℕ) (top v a x y : ℕ) → n ≤ y → detour_steps (link_among n book) level top v a x y ≡ None
detour_beyond n book level top v a x y h = go (not (eqb y v) && (eqb x a || eqb (level x) top)) (link_beyond n book x y h)
  where
    go : {A : Type 0} {p : Option A} (t : Bool) → p ≡ None → cond t p None ≡ None
    go true e = e
    go false e = refl

pub link_apart : {K : Kind} (n : ℕ) (book : Book K) (a b : ℕ) → is_some (link_among n book a b) ≡ true → a ≡ b → ⊥
link_apart n book a b h =
    let p = and_parts (ltb a n) _ (some_when _ _ h) in
    eqb-false a b (not-true _ (and_parts (ltb b n) _ p.1).1)
