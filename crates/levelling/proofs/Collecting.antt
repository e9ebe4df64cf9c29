-- Shown: the shortcuts of the needed pairs are collected in their order until one is not permitted or there is no room.
--   Going  some pairs are done, their shortcuts are collected, and these are the pairs that are left
use Rattle.std.proofs.Common.{◌≡◌, ℕ, ◌+◌, ◌-◌, ◌≤◌, Bool, true, false, ◌&&◌, ltb, leb, List, [], ◌∷◌, ◌++◌, map, length, sym, refl, ap, ◌∙◌, ⊎_elim, arith, length-append}
use lib.ListN.{length-map}
use Rattle.std.proofs.lemmas.List.{append_assoc, map-append, append-nil}
use Rattle.std.proofs.lemmas.Bool.{and_parts, and_from, and_cases, and_left, and_right, ltb-true, ltb-false, lt-leb, le-leb}
use Rattle.hierarchy.specs.Levels.{every}

every_append : {A : Type 0} (p : A → Bool) (l m : List A) → every p (l ++ m) ≡ (every p l && every p m)
every_append p [] m = refl
every_append p (x ∷ l) m = go (p x) (every_append p l m)
  where
    go : (t : Bool) → every p (l ++ m) ≡ (every p l && every p m) → (t && every p (l ++ m)) ≡ ((t && every p l) && every p m)
    go true e = e
    go false e = refl

module _ {A B : Type 0} (total : List A) (permitted : A → Bool) (make : A → B) (count : ℕ) (few : count ≤ 2048) where
  pub record Going (left : List A) (found : List B) : Type 0 where
    pub done : List A
    pub split : total ≡ done ++ left
    pub written : found ≡ map make done
    pub allowed : every permitted done ≡ true
    pub fits : count + length done ≤ 2048

  abbrev pub verdict : Bool
  verdict = every permitted total && leb (count + length total) 2048

  pub begun : (left : List A) → total ≡ left → Going left []
  begun left e = record { done = []; split = e; written = refl; allowed = refl; fits = omega arith }

  as_many : {left : List A} {found : List B} (g : Going left found) → length found ≡ length g.done
  as_many g = ap length g.written ∙ length-map g.done make

  pub more : (x : A) (left : List A) (found new : List B) → Going (x ∷ left) found → (permitted x && ltb (length found) (2048 - count)) ≡ true →
      new ≡ found ++ (make x ∷ []) → Going left new
  more x left found new g h e =
      let p = and_parts (permitted x) _ h in
      let room = ltb-true (length found) (2048 - count) p.1 in
      record {
        done = g.done ++ (x ∷ []);
        split = g.split ∙ sym (append_assoc g.done (x ∷ []) left);
        written = e ∙ ap (λ l. l ++ (make x ∷ [])) g.written ∙ sym (map-append make g.done (x ∷ []));
        allowed = every_append permitted g.done (x ∷ []) ∙ and_from _ _ g.allowed (and_from _ _ p.0 refl);
        fits = omega (arith, as_many g, length-append g.done (x ∷ []));
      }

  pub stuck : (x : A) (left : List A) (found : List B) → Going (x ∷ left) found → (permitted x && ltb (length found) (2048 - count)) ≡ false → verdict ≡ false
  stuck x left found g h = ⊎_elim
      (λ e. and_left _ _ (ap (every permitted) g.split ∙ every_append permitted g.done (x ∷ left) ∙ and_right (every permitted g.done) _ (and_left _ _ e)))
      (λ e. and_right (every permitted total) _ (lt-leb (count + length total) 2048
      (let full = ltb-false (length found) (2048 - count) e in omega (arith, as_many g, ap length g.split, length-append g.done (x ∷ left)))))
      (and_cases (permitted x) _ h)

  pub all_done : (found : List B) → Going [] found → (verdict ≡ true) × (found ≡ map make total)
  all_done found g =
      let whole : total ≡ g.done = g.split ∙ append-nil g.done in
      (and_from _ _ (ap (every permitted) whole ∙ g.allowed) (le-leb _ 2048 (omega (arith, g.fits, ap length whole))), g.written ∙ ap (map make) (sym whole))
