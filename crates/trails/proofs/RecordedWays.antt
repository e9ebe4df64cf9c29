-- Shown: where a list of records is accepted, its chart gives a pair of free places the cost of the record that names them.
use Rattle.std.proofs.Common.{◌≡◌, ℕ, zero, suc, ◌<◌, Bool, true, false, cond, not, ◌&&◌, eqb, ltb, ◌⊎◌, List, [], ◌∷◌, length, take, is_some, Some, None, Option, sym, refl, ap, ◌∙◌, inl, inr, ⊎_elim, arith}
use Rattle.std.proofs.lemmas.Option.{slice_get_past}
use Rattle.std.proofs.lemmas.Bool.{and_from, and_parts, cases_Bool, cases_eq, cases_lt, cond-false, cond-true, eq-eqb, eqb-true, not-false, not_from_false, not-true, or_cases, or_left}
use Rattle.std.specs.List.{slice_get}
use Rattle.ground.specs.declared.refusal.Refusal.TheVariants.{SizeOutOfRange, WrongLength}
use Rattle.trails.specs.declared.Record.{Record}
use Rattle.ground.specs.Earliest.{or_else, earliest}
use Rattle.ground.specs.Marks.{free_under}
use Rattle.trails.specs.Trails.{names, found, refuses, record_refusal, list_refusal, if_way, passable, trail_chart, RecordedWay, ByRecords}
use Rattle.trails.specs.TrailLaws.{chart-alike}

module _ {A : Type 0} where
  never : {P : Type 0} (x : A) → None ≡ Some x → P
  never x e = let z : ◌≡◌ {A = ℕ} 0 1 = cc in absurd (omega arith)

  none_both : (o p : Option A) → or_else o p ≡ None → (o ≡ None) × (p ≡ None)
  none_both None p e = (refl, e)
  none_both (Some x) p e = never x (sym e)

  none_below : (f : ℕ → Option A) (n k : ℕ) → earliest f n ≡ None → k < n → f k ≡ None
  none_below f zero k e h = absurd (omega arith)
  none_below f (suc n) k e h =
      let p = none_both (earliest f n) (f n) e in
      ⊎_elim (λ (q : k ≡ n). ap f q ∙ p.1) (λ q. none_below f n k p.0 (omega arith)) (cases_eq k n)

  -- a test that was passed, and a test that gave what it guards
  passed : (b : Bool) (x : A) (o : Option A) → cond b (Some x) o ≡ None → (b ≡ false) × (o ≡ None)
  passed true x o e = never x (sym e)
  passed false x o e = (refl, e)

  given : (b : Bool) (o : Option A) (x : A) → cond b o None ≡ Some x → (b ≡ true) × (o ≡ Some x)
  given true o x e = (refl, e)
  given false o x e = never x e

  is_none : (o : Option A) → is_some o ≡ false → o ≡ None
  is_none None e = refl
  is_none (Some x) e = cc

  nth-within : (xs : List A) (k : ℕ) (x : A) → slice_get xs k ≡ Some x → k < length xs
  nth-within xs k x e = ⊎_elim (λ h. h) (λ h. never x (sym (slice_get_past xs k h) ∙ e)) (cases_lt k (length xs))

module _ {C : Type 0} where
  named_pair : (r : Record C) (a b : ℕ) → names r a b ≡ true → ((r.from ≡ a) × (r.to ≡ b)) ⊎ ((r.from ≡ b) × (r.to ≡ a))
  named_pair r a b e =
      ⊎_elim (λ h. let p = and_parts (eqb r.from a) _ h in inl (eqb-true _ _ p.0, eqb-true _ _ p.1))
      (λ h. let p = and_parts (eqb r.from b) _ h in inr (eqb-true _ _ p.0, eqb-true _ _ p.1))
      (or_cases (eqb r.from a && eqb r.to b) _ e)

  -- the record at k is found where none before it names the two places
  found_record : (rs : List (Record C)) (k : ℕ) (r : Record C) (a b : ℕ) → slice_get rs k ≡ Some r → names r a b ≡ true → found (take k rs) a b ≡ None →
      found rs a b ≡ Some r.cost
  found_record [] k r a b e m n = never r e
  found_record (x ∷ rs) zero r a b e m n = let q : x ≡ r = cc in rw (q, m)
  found_record (x ∷ rs) (suc k) r a b e m n =
      let p = passed (names x a b) x.cost (found (take k rs) a b) n in rw p.0 (found_record rs k r a b e m p.1)

  -- what is found is the cost of a record
  record_found : (rs : List (Record C)) (a b : ℕ) (c : C) → found rs a b ≡ Some c →
      (k : ℕ) × (r : Record C) × (slice_get rs k ≡ Some r) × (names r a b ≡ true) × (r.cost ≡ c)
  record_found [] a b c e = never c e
  record_found (x ∷ rs) a b c e =
      ⊎_elim (λ h. (0, x, refl, h, let q : Some x.cost ≡ Some c = sym (cond-true (names x a b) _ _ h) ∙ e in cc))
      (λ h. let w = record_found rs a b c (sym (cond-false (names x a b) _ _ h) ∙ e) in (suc w.0, w.1, w.2, w.3, w.4))
      (cases_Bool (names x a b))

  if_way_some : (way : C → Bool) (o : Option C) (c : C) → if_way way o ≡ Some c → o ≡ Some c
  if_way_some way None c e = e
  if_way_some way (Some d) c e = (given (way d) (Some d) c e).1

-- what an accepted record keeps to
record Sound {C : Type 0} (way : C → Bool) (size : ℕ) (before : List (Record C)) (r : Record C) : Type 0 where
  from_on : ltb r.from size ≡ true
  to_on : ltb r.to size ≡ true
  apart : eqb r.from r.to ≡ false
  costs : way r.cost ≡ true
  new : found before r.from r.to ≡ None

sound : {C : Type 0} (way : C → Bool) (size k : ℕ) (before : List (Record C)) (r : Record C) → refuses way size k before (Some r) ≡ None →
    Sound way size before r
sound way size k before r e =
    let on = passed _ _ _ e in
    let apart = passed _ _ _ on.1 in
    let costs = passed _ _ _ apart.1 in
    let new = passed _ _ _ costs.1 in
    let both = and_parts (ltb r.from size) _ (not-false _ on.0) in
    record { from_on = both.0; to_on = both.1; apart = apart.0; costs = not-false _ costs.0; new = is_none _ new.0 }

free : (size : ℕ) (s : ℕ → Bool) (a : ℕ) → ltb a size ≡ true → s a ≡ false → free_under size s a ≡ true
free size s a on clear = and_from (ltb a size) _ on (not_from_false (s a) clear)

module _ {C : Type 0} (way : C → Bool) (size : ℕ) (rs : List (Record C)) (accepted : list_refusal way size rs ≡ None) where
  all_sound : (k : ℕ) (r : Record C) → slice_get rs k ≡ Some r → Sound way size (take k rs) r
  all_sound k r e =
      let none = (passed (ltb 1024 (length rs)) WrongLength _ (passed (ltb 256 size) SizeOutOfRange _ accepted).1).1 in
      sound way size k (take k rs) r (ap (refuses way size k (take k rs)) (sym e) ∙
      none_below (record_refusal way size rs) (length rs) k none (nth-within rs k r e))

  way_of : (s : ℕ → Bool) (k : ℕ) (r : Record C) → slice_get rs k ≡ Some r → s r.from ≡ false → s r.to ≡ false →
      trail_chart way size rs s r.from r.to ≡ Some r.cost
  way_of s k r e from-free to_free =
      let w = all_sound k r e in
      let m = or_left (eqb r.from r.from && eqb r.to r.to) _ (and_from _ _ (eq-eqb r.from r.from refl) (eq-eqb r.to r.to refl)) in
      let p = and_from (not (eqb r.from r.to)) _ (not_from_false _ w.apart)
      (and_from (free_under size s r.from) _ (free size s r.from w.from_on from-free) (free size s r.to w.to_on to_free)) in
      cond-true (passable size s r.from r.to) _ _ p ∙
      (ap (if_way way) (found_record rs k r r.from r.to e m w.new) ∙ cond-true (way r.cost) _ _ w.costs)

  pub by_records : ByRecords rs (trail_chart way size rs)
  by_records s a b c = (there, back) where
    there : trail_chart way size rs s a b ≡ Some c → RecordedWay rs s a b c
    there e =
        let g = given (passable size s a b) _ c e in
        let w = record_found rs a b c (if_way_some way _ c g.1) in
        let f = and_parts (free_under size s a) _ (and_parts (not (eqb a b)) _ g.0).1 in
        record {
          position = w.0;
          by = w.1;
          listed = w.2;
          named = w.3;
          priced = w.4;
          from-free = not-true (s a) (and_parts (ltb a size) _ f.0).1;
          to_free = not-true (s b) (and_parts (ltb b size) _ f.1).1;
        }

    back : RecordedWay rs s a b c → trail_chart way size rs s a b ≡ Some c
    back w =
        ⊎_elim (λ p. rw (sym p.0, sym p.1) (way_of s w.position w.by w.listed (ap s p.0 ∙ w.from-free) (ap s p.1 ∙ w.to_free)) ∙ ap Some w.priced)
        (λ p. chart-alike way size rs s a b ∙
        (rw (sym p.0, sym p.1) (way_of s w.position w.by w.listed (ap s p.0 ∙ w.to_free) (ap s p.1 ∙ w.from-free)) ∙ ap Some w.priced))
        (named_pair w.by a b w.named)
