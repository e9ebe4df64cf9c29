-- Shown: what a search that has ended comes to: no way, a route that is too long, a list that is too short, or a route.
use Rattle.std.proofs.Common.{◌≡◌, ℕ, ◌<◌, ◌≤◌, true, false, ltb, List, [], ◌++◌, length, get_or, drop, Some, None, Ok, Err, Option, Result, sym, refl, ap, ◌∙◌, arith}
use Rattle.std.proofs.lemmas.Bool.{lt-ltb, le-ltb, cond-true, cond-false}
use Rattle.cost.specs.declared.Cost.{Ghosts as Costs}
use Rattle.ground.specs.declared.refusal.Refusal.{Refusal}
use Rattle.ground.specs.declared.refusal.Refusal.TheVariants.{NoWay, RouteTooLong, ListTooShort}
use Rattle.ground.specs.Refusals.{outcome}
use Rattle.hierarchy.specs.declared.Route.{Route}
use Rattle.hierarchy.specs.declared.SearchRecord.{SearchRecord}
use Rattle.hierarchy.specs.Kinds.{Kind, kind_of}
use Rattle.hierarchy.specs.Lands.{Land}
use Rattle.hierarchy.specs.Books.{Book}
use Rattle.hierarchy.specs.Searches.{Front, search, table_after, tally}
use Rattle.hierarchy.specs.Layouts.{route}
use Rattle.hierarchy.specs.Answers.{Routing, before_search, after_search, found_route, searched, routing}
use Rattle.frontier.specs.Fronts.{blank, front_of}
use Rattle.routing.specs.Routes.{routed, Handed}
use Rattle.routing.proofs.Recorded.{read_cost, read_tally}

module _ {C : Type 0} (k : Costs C) (land : Land (kind_of k)) (book : Book (kind_of k)) (front : Front (kind_of k)) (a b : ℕ)
    (table after : List (SearchRecord C)) (list : List ℕ) (left : after ≡ table_after front land.size table) where
  abbrev places : List ℕ
  places = route land book front a b

  abbrev ended : Option Refusal → Routing (kind_of k)
  ended o = elim o [
    | Some r ↦ record { answer = Err r; table = table_after front land.size table; list = list }
    | None ↦ record { answer = Ok (found_route land book front a b places); table = table_after front land.size table; list = places ++ drop (length places) list }
  ]

  refused : (r : Refusal) → after_search land front b (length places) (length list) ≡ Some r →
      routed (kind_of k) (Err r) after list ≡ searched land book front a b table list
  refused r e = ap (λ t. routed (kind_of k) (Err r) t list) left ∙ ap ended (sym e)

  pub no_way : front.settled b ≡ false → routed (kind_of k) (Err NoWay) after list ≡ searched land book front a b table list
  no_way h = refused NoWay (cond-false (front.settled b) _ _ h)

  module _ (found : front.settled b ≡ true) where
    pub too_long : 256 < length places → routed (kind_of k) (Err RouteTooLong) after list ≡ searched land book front a b table list
    too_long h = refused RouteTooLong (cond-true (front.settled b) _ _ found ∙ cond-true (ltb 256 (length places)) _ _ (lt-ltb _ _ h))

    pub handed : b < land.size → length places ≤ 256 → (r : Result (Route C) Refusal) (filled : List ℕ) →
        Handed k land.size b places after list r filled → routed (kind_of k) r after filled ≡ searched land book front a b table list
    handed on short (Err r) filled (less, e, same) =
        (λ i. routed (kind_of k) (Err (e i)) after (same i)) ∙ refused ListTooShort
        (cond-true (front.settled b) _ _ found ∙ cond-false (ltb 256 (length places)) _ _ (le-ltb _ _ short)
        ∙ cond-true (ltb (length list) (length places)) _ _ (lt-ltb _ _ less))
    handed on short (Ok r) filled (room, e, same) =
        (λ i. routed (kind_of k) (Ok ((e ∙ answer) i)) (left i) (same i)) ∙ ap ended (sym accepted)
      where
        answer : record { cost = (get_or after b (blank k)).cost; tally = tally (front_of k land.size after []) land.size; length = length places } ≡ found_route land book front a b places
        answer = λ i. record {
          cost = read_cost k front land.size table after left b (blank k) on found i;
          tally = read_tally k front land.size table after left [] i;
          length = length places;
        }

        accepted : after_search land front b (length places) (length list) ≡ None
        accepted =
            cond-true (front.settled b) _ _ found ∙ cond-false (ltb 256 (length places)) _ _ (le-ltb _ _ short)
            ∙ cond-false (ltb (length list) (length places)) _ _ (le-ltb _ _ room)

module _ {K : Kind} (land : Land K) (book : Book K) (top a b : ℕ) (table : List (SearchRecord K.C)) (list : List ℕ) where
  abbrev begun : Option Refusal → Routing K
  begun o = elim o [ Some r ↦ record { answer = Err r; table = table; list = list } | None ↦ searched land book (search land book top a b) a b table list ]

  pub refused_before : (r : Refusal) → Err r ≡ outcome (before_search land a b (length table)) → routed K (Err r) table list ≡ routing land book top a b table list
  refused_before r e = go (before_search land a b (length table)) e
    where
      go : (o : Option Refusal) → Err r ≡ outcome o → routed K (Err r) table list ≡ begun o
      go None e = let z : ◌≡◌ {A = ℕ} 0 1 = cc in absurd (omega arith)
      go (Some q) e = let s : r ≡ q = cc in ap (λ x. routed K (Err x) table list) s

  pub searched_after : Ok tt ≡ outcome (before_search land a b (length table)) → searched land book (search land book top a b) a b table list ≡ routing land book top a b table list
  searched_after e = go (before_search land a b (length table)) e
    where
      go : (o : Option Refusal) → Ok tt ≡ outcome o → searched land book (search land book top a b) a b table list ≡ begun o
      go None e = refl
      go (Some q) e = let z : ◌≡◌ {A = ℕ} 0 1 = cc in absurd (omega arith)
