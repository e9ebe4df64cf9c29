-- Shown: what the pair loops come to is what is defined of a visit, on any land of that size.
use Rattle.std.proofs.Common.{◌≡◌, ℕ, ◌+◌, ◌-◌, ◌<◌, ◌≤◌, Bool, true, false, ◌&&◌, ltb, List, [], ◌∷◌, ◌++◌, map, length, get_or, sym, ap, ◌∙◌, subst, ⊎_elim, arith}
use lib.ListN.{length-map}
use Rattle.std.proofs.lemmas.Bool.{both_ways, cases_Bool, and_parts, leb-true, lt-ltb, cond-true}
use Rattle.cost.specs.declared.Cost.{Ghosts as Costs}
use Rattle.hierarchy.specs.declared.Shortcut.{Shortcut}
use Rattle.hierarchy.specs.Kinds.{kind_of}
use Rattle.hierarchy.specs.Lands.{Land}
use Rattle.hierarchy.specs.Books.{Book}
use Rattle.hierarchy.specs.Levels.{every, needed, is_needed, put, shortcut_over, visit}
use Rattle.hierarchy.proofs.Needed.{needed_needs, other_needs_not}
use Rattle.levelling.specs.declared.book.Book.{Book as Held}
use Rattle.levelling.specs.declared.visit.Visit.{Visit}
use Rattle.levelling.specs.Meaning.{meaning, with_level}
use Rattle.levelling.specs.Near.{is_near, over_links}
use Rattle.levelling.specs.Needs.{MarksNeed}
use Rattle.levelling.specs.Listed.{with_all}
use Rattle.levelling.specs.Visits.{may_sink}
use Rattle.levelling.proofs.Collecting.{Going, begun, more, stuck, all_done}
use Rattle.levelling.proofs.Pairing.{outer, inner, enters, passes, takes, skips, skips_far, leaves, ends}

-- a book has at most 2,048 shortcuts
pub few_in : {C : Type 0} (k : Costs C) (book : Held C) → length (meaning k book).shortcuts ≤ 2048
few_in k book = book.room

module _ {C : Type 0} (k : Costs C) (rule : ℕ → ℕ → Bool) (self : Visit C) (land : Land (kind_of k)) where
  abbrev book : Book (kind_of k)
  book = meaning k self.links.book.now

  abbrev size : ℕ
  size = self.links.size

  abbrev test : ℕ × ℕ → Bool
  test = is_needed land self.lower book self.middle

  abbrev near_v : ℕ → Bool
  near_v = is_near size book self.lower self.middle

  abbrev Collected : List (ℕ × ℕ) → List (Shortcut C) → Type 0
  Collected = Going (needed land self.lower book self.middle) (λ p. rule p.0 p.1) (shortcut_over land book self.middle) (length book.shortcuts) (few_in k self.links.book.now)

  -- before the first place is f
  abbrev pub Outer : ℕ → List (Shortcut C) → Type 0
  Outer f = Collected (outer size near_v test f)

  abbrev pub Inner : ℕ → ℕ → List (Shortcut C) → Type 0
  Inner f s = Collected (inner size near_v test f s)

  pub pass : (f : ℕ) (found : List (Shortcut C)) → f < size → near_v f ≡ false → Outer f found → Outer (f + 1) found
  pass f found h e = subst (λ l. Collected l found) (passes size near_v test f h e)

  pub enter : (f : ℕ) (found : List (Shortcut C)) → f < size → near_v f ≡ true → Outer f found → Inner f (f + 1) found
  enter f found h e = subst (λ l. Collected l found) (enters size near_v test f h e)

  pub leave : (f s : ℕ) (found : List (Shortcut C)) → size ≤ s → Inner f s found → Outer (f + 1) found
  leave f s found h = subst (λ l. Collected l found) (leaves size near_v test f s h)

  module _ (same : land.size ≡ size) where
    pub start : Outer 0 []
    start = begun _ _ _ _ (few_in k self.links.book.now) _ (ap (λ n. outer n (is_near n book self.lower self.middle) test 0) same)

    pub finish : (f : ℕ) (found : List (Shortcut C)) → size ≤ f → Outer f found →
        (may_sink k land rule self.lower book self.middle ≡ true) × (found ≡ map (shortcut_over land book self.middle) (needed land self.lower book self.middle))
    finish f found h g = all_done _ _ _ _ (few_in k self.links.book.now) found (subst (λ l. Collected l found) (ends size near_v test f h) g)

    module _ (f s : ℕ) (found : List (Shortcut C)) (on : s < size) (later : f < s) (marks : List Bool) (told : MarksNeed size book self.lower self.middle f marks) where
      here : MarksNeed land.size book self.lower self.middle f marks
      here = subst (λ (n : ℕ). MarksNeed n book self.lower self.middle f marks) (sym same) told

      marked : get_or marks s false ≡ true → (near_v s ≡ true) × (test (f, s) ≡ true)
      marked e = (
        ((told s on).0 e).1,
        ⊎_elim (λ t. t) (λ t. absurd (other_needs_not land self.lower book self.middle (f, s) t ((here s (omega (arith, same))).0 e).2)) (cases_Bool (test (f, s))),
      )

      unmarked : get_or marks s false ≡ false → near_v s ≡ true → test (f, s) ≡ false
      unmarked e n = ⊎_elim
          (λ t. absurd (both_ways _ e ((here s (omega (arith, same))).1
          (later, subst (λ (m : ℕ). is_near m book self.lower self.middle s ≡ true) (sym same) n, needed_needs land self.lower book self.middle (f, s) t))))
          (λ t. t) (cases_Bool (test (f, s)))

      at_pair : get_or marks s false ≡ true → Inner f s found → Collected ((f, s) ∷ inner size near_v test f (s + 1)) found
      at_pair e = let p = marked e in subst (λ l. Collected l found) (takes size near_v test f s on p.0 p.1)

      pub take : get_or marks s false ≡ true → Inner f s found → (rule f s && ltb (length found) (2048 - length book.shortcuts)) ≡ true →
          (new : List (Shortcut C)) → new ≡ found ++ (over_links k size book self.middle f s ∷ []) → Inner f (s + 1) new
      take e g h new made = more _ _ _ _ (few_in k self.links.book.now) (f, s) _ found new (at_pair e g) h
          (made ∙ ap (λ n. found ++ (over_links k n book self.middle f s ∷ [])) (sym same))

      pub stay_up : get_or marks s false ≡ true → Inner f s found → (rule f s && ltb (length found) (2048 - length book.shortcuts)) ≡ false →
          may_sink k land rule self.lower book self.middle ≡ false
      stay_up e g h = stuck _ _ _ _ (few_in k self.links.book.now) (f, s) _ found (at_pair e g) h

      pub skip : get_or marks s false ≡ false → Inner f s found → Inner f (s + 1) found
      skip e g = ⊎_elim
          (λ n. subst (λ l. Collected l found) (skips size near_v test f s on n (unmarked e n)) g)
          (λ n. subst (λ l. Collected l found) (skips_far size near_v test f s on n) g) (cases_Bool (near_v s))

-- what comes of a place that may sink
module _ {C : Type 0} (k : Costs C) (rule : ℕ → ℕ → Bool) (i : ℕ) (book : Book (kind_of k)) (v : ℕ) (land : Land (kind_of k)) (on : v < 256) (found : List (Shortcut C))
    (told : (may_sink k land rule i book v ≡ true) × (found ≡ map (shortcut_over land book v) (needed land i book v))) where
  pub fitting : length book.shortcuts + length found ≤ 2048
  fitting =
      let room = leb-true (length book.shortcuts + length (needed land i book v)) 2048 (and_parts (every (λ p. rule p.0 p.1) (needed land i book v)) _ told.0).1 in
      omega (arith, ap length told.1, length-map (needed land i book v) (shortcut_over land book v))

  pub sunk : (mid new : Book (kind_of k)) → mid ≡ with_all found book → new ≡ with_level v i mid → new ≡ visit land rule i book v
  sunk mid new e f = f ∙ (λ j. record {
    level = (cond-true (ltb v 256) (put mid.level v i) mid.level (lt-ltb v 256 on) ∙ ap (λ b. put b.level v i) e) j;
    kept = (e j).kept;
    shortcuts = (ap (λ b. b.shortcuts) e ∙ ap (λ l. book.shortcuts ++ l) told.1) j;
  }) ∙ sym (cond-true (may_sink k land rule i book v) _ book told.0)
