-- Shown: what routing answers follows from the search and the layout, whatever memory is handed in.
use Rattle.std.proofs.Common.{◌≡◌, ℕ, zero, suc, ◌<◌, Bool, true, false, cond, eqb, ltb, List, [], ◌∷◌, ◌++◌, map, length, take, drop, Some, None, Ok, Err, Option, Result, unwrap_or, sym, refl, ap, ◌∙◌, subst, ⊎_elim, append_assoc, arith, length-append}
use lib.ListN.{length-map}
use Rattle.std.proofs.lemmas.List.{take_at, map-append}
use Rattle.std.proofs.lemmas.Bool.{true≢false, and_parts, ltb-false, le-ltb, cases_lt, cases_Bool}
use Rattle.std.specs.List.{slice_get}
use Rattle.ground.specs.declared.refusal.Refusal.{Refusal}
use Rattle.ground.specs.declared.refusal.Refusal.TheVariants.{OffGround, AlreadyShut, TableTooShort, NoWay, RouteTooLong, ListTooShort}
use Rattle.ground.specs.Refusals.{number_of}
use Rattle.ground.specs.Earliest.{or_else}
use Rattle.hierarchy.specs.declared.Answer.TheVariants.{Refused, Routed}
use Rattle.hierarchy.specs.declared.Route.{Route}
use Rattle.hierarchy.specs.declared.SearchRecord.{SearchRecord}
use Rattle.hierarchy.specs.Kinds.{Kind, Price}
use Rattle.hierarchy.specs.Walks.{Joined}
use Rattle.hierarchy.specs.Shortest.{below}
use Rattle.hierarchy.specs.Lands.{Land, Terrain, land_at, on, ways}
use Rattle.hierarchy.specs.Books.{Book}
use Rattle.hierarchy.specs.Searches.{Front, search, recorded, table_after}
use Rattle.hierarchy.specs.Layouts.{lay_chain, laid, route}
use Rattle.hierarchy.specs.Answers.{before_search, found_route, searched, Routing, routing}
use Rattle.hierarchy.specs.Seasons.{Post, Effect, answered, routed}
use Rattle.hierarchy.specs.Guarantee.{LeastWalk, Asked, Narrow}
use Rattle.hierarchy.specs.Levelled.{Lawful, WellLevelled, WellSearched}
use Rattle.hierarchy.proofs.Linking.{same_some}
use Rattle.hierarchy.proofs.Laying.{laid-chain}

-- what the guarantee says of a route from a to b, asked where s is shut
pub record Answers {K : Kind} (terrain : Terrain K) (s : ℕ → Bool) (way : ℕ → ℕ → Price K) (book : Book K) (top a b : ℕ) (table : List (SearchRecord K.C)) (e : Effect K) : Type 0 where
  pub least : (q : Route K.C) → e.answer ≡ Routed q → LeastWalk K way a b (take q.length e.list) q.cost
  pub no_way : (e.answer ≡ Refused NoWay → Asked terrain.size s a b (length table) × ¬ (Joined K way a b)) ×
      (Asked terrain.size s a b (length table) → ¬ (Joined K way a b) → e.answer ≡ Refused NoWay)
  pub narrow : Asked terrain.size s a b (length table) → Narrow (land_at terrain s) book top a b e.table

module _ {C : Type 0} where
  routed_ok : (x : Result (Route C) Refusal) (q : Route C) → answered Routed x ≡ Routed q → x ≡ Ok q
  routed_ok (Ok p) q e = cc
  routed_ok (Err r) q e = cc

  refused_err : (x : Result (Route C) Refusal) (r : Refusal) → answered Routed x ≡ Refused r → x ≡ Err r
  refused_err (Ok p) r e = cc
  refused_err (Err q) r e = cc

  ok_not_err : {P : Type 0} {q : Route C} {r : Refusal} → Ok q ≡ Err r → P
  ok_not_err e = let z : ◌≡◌ {A = ℕ} 0 1 = cc in absurd (omega arith)

-- a test that refuses, with another refusal than that there is no way, unless P holds
data Gate (P : Type 0) (o : Option Refusal) : Type 0 where
  shuts : (r : Refusal) → o ≡ Some r → (r ≡ NoWay → ⊥) → (P → ⊥) → Gate P o
  opens : o ≡ None → P → Gate P o

other : (r : Refusal) → eqb (number_of r) 13 ≡ false → r ≡ NoWay → ⊥
other r h e = true≢false (sym (ap (λ x. eqb (number_of x) 13) e) ∙ h)

gate_and : {P : Type 0} {o : Option Refusal} (t : Bool) (r : Refusal) → eqb (number_of r) 13 ≡ false → Gate P o → Gate ((t ≡ true) × P) (or_else (cond t None (Some r)) o)
gate_and true r h (shuts q e f g) = shuts q e f (λ p. g p.1)
gate_and true r h (opens e p) = opens e (refl, p)
gate_and false r h g = shuts r refl (other r h) (λ p. true≢false (sym p.0))

gate_map : {P Q : Type 0} (o : Option Refusal) → (P → Q) → (Q → P) → Gate P o → Gate Q o
gate_map o f g (shuts r e h k) = shuts r e h (λ q. k (g q))
gate_map o f g (opens e p) = opens e (f p)

gate_last : (t : Bool) → Gate (t ≡ false) (cond t (Some TableTooShort) None)
gate_last true = shuts TableTooShort refl (other TableTooShort refl) true≢false
gate_last false = opens refl refl

length-below : (n : ℕ) → length (below n) ≡ n
length-below zero = refl
length-below (suc n) = length-append (below n) (n ∷ []) ∙ omega (arith, length-below n)

nth_at : {A : Type 0} (l : List A) (x : A) (m : List A) (k : ℕ) → length l ≡ k → slice_get (l ++ (x ∷ m)) k ≡ Some x
nth_at [] x m zero h = refl
nth_at [] x m (suc k) h = absurd (omega arith)
nth_at (y ∷ l) x m zero h = absurd (omega arith)
nth_at (y ∷ l) x m (suc k) h = nth_at l x m k (omega arith)

nth-table : {A : Type 0} (f : ℕ → A) (n x : ℕ) (m : List A) → x < n → slice_get (map f (below n) ++ m) x ≡ Some (f x)
nth-table f zero x m h = absurd (omega arith)
nth-table f (suc n) x m h =
    ap (λ l. slice_get l x) (ap (λ l. l ++ m) (map-append f (below n) (n ∷ [])) ∙ append_assoc (map f (below n)) (f n ∷ []) m)
    ∙ ⊎_elim (nth-table f n x (f n ∷ m))
    (λ k. let e : n ≡ x = omega arith in nth_at (map f (below n)) (f n) m x (length-map (below n) f ∙ length-below n ∙ e) ∙ ap (λ y. Some (f y)) e) (cases_lt x n)

settled_if : {C : Type 0} (t : Bool) (x y : SearchRecord C) → y.settled ≡ false → (cond t x y).settled ≡ true → t ≡ true
settled_if true x y h e = refl
settled_if false x y h e = sym h ∙ e

module _ {K : Kind} (terrain : Terrain K) (s : ℕ → Bool) (book : Book K) (top a b : ℕ) (table : List (SearchRecord K.C)) (list : List ℕ) where
  abbrev land : Land K
  land = land_at terrain s

  abbrev front : Front K
  front = search land book top a b

  abbrev places : List ℕ
  places = route land book front a b

  abbrev asked : Type 0
  asked = Asked terrain.size s a b (length table)

  asks : Gate asked (before_search land a b (length table))
  asks =
      gate_map _ (λ p. record { first_free = p.1.1.0; second_free = p.1.1.1.0; enough = ltb-false _ _ p.1.1.1.1 })
      (λ p. ((and_parts _ _ p.first_free).0, ((and_parts _ _ p.second_free).0, (p.first_free, (p.second_free, le-ltb _ _ p.enough)))))
      (gate_and (on land a) (OffGround 0) refl (gate_and (on land b) (OffGround 1) refl
      (gate_and (land.free a) (AlreadyShut 0) refl (gate_and (land.free b) (AlreadyShut 1) refl (gate_last (ltb (length table) land.size))))))

  abbrev table_then : List (SearchRecord K.C)
  table_then = table_after front land.size table

  abbrev refusing : Refusal → List (SearchRecord K.C) → Routing K
  refusing r t = record { answer = Err r; table = t; list = list }

  abbrev finding : Routing K
  finding = record { answer = Ok (found_route land book front a b places); table = table_then; list = places ++ drop (length places) list }

  abbrev unless : List (SearchRecord K.C) → Routing K → Option Refusal → Routing K
  unless t R o = elim o [ Some r ↦ refusing r t | None ↦ R ]

  -- what routing comes to: there is no way exactly where the search was begun and did not settle b
  data Outcome (R : Routing K) : Type 0 where
    refused : (r : Refusal) (t : List (SearchRecord K.C)) → R ≡ refusing r t → (r ≡ NoWay → asked × (front.settled b ≡ false)) →
        (asked → (t ≡ table_then) × (front.settled b ≡ false → r ≡ NoWay)) → Outcome R
    found : asked → front.settled b ≡ true → R ≡ finding → Outcome R

  cut : (r : Refusal) → eqb (number_of r) 13 ≡ false → front.settled b ≡ true → Outcome (refusing r table_then)
  cut r h e = refused r table_then refl (λ f. absurd (other r h f)) (λ p. (refl, λ f. absurd (true≢false (sym e ∙ f))))

  after : asked → Outcome (searched land book front a b table list)
  after p = go (front.settled b) refl (ltb 256 (length places)) (ltb (length list) (length places))
    where
      go : (x : Bool) → front.settled b ≡ x → (y z : Bool) → Outcome (unless table_then finding (cond x (cond y (Some RouteTooLong) (cond z (Some ListTooShort) None)) (Some NoWay)))
      go false e y z = refused NoWay table_then refl (λ f. (p, e)) (λ q. (refl, λ f. refl))
      go true e true z = cut RouteTooLong refl e
      go true e false true = cut ListTooShort refl e
      go true e false false = found p e refl

  abbrev R : Routing K
  R = routing land book top a b table list

  before : Gate asked (before_search land a b (length table)) → Outcome R
  before (shuts r e f g) = refused r table (ap (unless table (searched land book front a b table list)) e) (λ h. absurd (f h)) (λ p. absurd (g p))
  before (opens e p) = subst Outcome (sym (ap (unless table (searched land book front a b table list)) e)) (after p)

  table_asked : asked → Outcome R → R.table ≡ table_then
  table_asked p (refused r t e g h) = ap (λ x. x.table) e ∙ (h p).0
  table_asked p (found q f e) = ap (λ x. x.table) e

  module _ (lawful : Lawful land) (rule : ℕ → ℕ → Bool) (levelled : WellLevelled land rule top book)
      (well : a < land.size → b < land.size → WellSearched land book top a b front) where
    well_asked : asked → WellSearched land book top a b front
    well_asked p = well (lawful.free_on a p.first_free) (lawful.free_on b p.second_free)

    laid-least : asked → front.settled b ≡ true → LeastWalk K (ways land) a b (take (length places) finding.list) (found_route land book front a b places).cost
    laid-least p e =
        let f = (well_asked p).found e in
        let g = (well_asked p).chain e in
        let h = laid-chain land lawful rule top book levelled a g.0 f.0 (g.3 ∙ f.1) in
        subst (λ o. LeastWalk K (ways land) a b (take (length places) finding.list) (unwrap_or o K.over)) (sym f.1)
        ((lay_chain book a g.0, take_at places _ (length places) refl ∙ ap (laid book) g.1, h.0 ∙ g.2, h.1), f.2.1)

    route-least : (q : Route K.C) → R.answer ≡ Ok q → Outcome R → LeastWalk K (ways land) a b (take q.length R.list) q.cost
    route-least q e (refused r t f g h) = ok_not_err (sym e ∙ ap (λ x. x.answer) f)
    route-least q e (found p i f) =
        let g : finding.answer ≡ Ok q = sym (ap (λ x. x.answer) f) ∙ e in
        let h : found_route land book front a b places ≡ q = cc in
        coe 0 1 (j. LeastWalk K (ways land) a b (take (h j).length (sym f j).list) (h j).cost) (laid-least p i)

    no_way_apart : R.answer ≡ Err NoWay → Outcome R → asked × ¬ (Joined K (ways land) a b)
    no_way_apart e (refused r t f g h) =
        let i : Err r ≡ Err NoWay = sym (ap (λ x. x.answer) f) ∙ e in
        let k = g (let j : r ≡ NoWay = cc in j) in
        (k.0, λ j. true≢false (sym ((well_asked k.0).joined j) ∙ k.1))
    no_way_apart e (found p i f) = ok_not_err (sym (ap (λ x. x.answer) f) ∙ e)

    unsettled : asked → ¬ (Joined K (ways land) a b) → front.settled b ≡ false
    unsettled p j = ⊎_elim (λ e. absurd (let f = (well_asked p).found e in j (f.0, f.2.0))) (λ e. e) (cases_Bool (front.settled b))

    apart_no_way : asked → ¬ (Joined K (ways land) a b) → Outcome R → R.answer ≡ Err NoWay
    apart_no_way p j (refused r t f g h) = ap (λ x. x.answer) f ∙ ap Err ((h p).1 (unsettled p j))
    apart_no_way p j (found q i f) = absurd (true≢false (sym i ∙ unsettled p j))

    search-narrow : asked → Narrow land book top a b R.table
    search-narrow p x r h e f =
        let g = same_some (sym (nth-table (recorded front) land.size x (drop land.size table) h) ∙ ap (λ t. slice_get t x) (sym (table_asked p (before asks))) ∙ e) in
        ((well_asked p).narrow x (settled_if (front.settled x) _ _ refl (ap (λ y. y.settled) g ∙ f))).1

    pub answers : (post : Post K) → Answers terrain s (ways land) book top a b table (routed terrain R post)
    answers post = record {
      least = λ q e. route-least q (routed_ok _ q e) (before asks);
      no_way = (λ e. no_way_apart (refused_err _ NoWay e) (before asks), λ p j. ap (answered Routed) (apart_no_way p j (before asks)));
      narrow = search-narrow;
    }
