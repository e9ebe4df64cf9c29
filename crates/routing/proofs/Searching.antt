-- Shown: a search over relevant links is the defined one, and what is answered after it is what is defined.
use Rattle.std.proofs.Common.{◌≡◌, ℕ, ◌<◌, ◌≤◌, min, Bool, true, false, List, length, None, Err, Option, Result, sym, ap, ◌∙◌, subst, arith}
use Rattle.cost.specs.declared.Cost.{Ghosts as Costs}
use Rattle.ground.specs.declared.refusal.Refusal.{Refusal}
use Rattle.ground.specs.declared.refusal.Refusal.TheVariants.{NoWay, RouteTooLong}
use Rattle.hierarchy.specs.declared.Route.{Route}
use Rattle.hierarchy.specs.declared.SearchRecord.{SearchRecord}
use Rattle.hierarchy.specs.Kinds.{kind_of}
use Rattle.hierarchy.specs.Lands.{Land}
use Rattle.hierarchy.specs.Books.{Book}
use Rattle.hierarchy.specs.Searches.{Front, links, search, table_after}
use Rattle.hierarchy.specs.Layouts.{chain_to, laid, route}
use Rattle.hierarchy.specs.Answers.{searched}
use Rattle.frontier.specs.Fronts.{Inside}
use Rattle.levelling.specs.Meaning.{meaning}
use Rattle.routing.specs.declared.laid.Laid.{Laid}
use Rattle.routing.specs.declared.routes.Query.{Query}
use Rattle.routing.specs.Found.{whole_search, chain_in}
use Rattle.routing.specs.Placed.{places_of, Near}
use Rattle.routing.specs.Routes.{routed, Handed}
use Rattle.routing.proofs.Answering.{no_way, too_long, handed}
use Rattle.routing.proofs.Narrowing.{links_beyond}
use Rattle.routing.proofs.Wholes.{whole_chain, whole_near}

-- the search that a query asks for, over its relevant links
module _ {C : Type 0} (k : Costs C) (q : Query C) (step : ℕ → ℕ → Option C)
    (same : (land : Land (kind_of k)) → land.size ≡ min q.size 256 → step ≡ links land (meaning k q.divided.book.now) q.top q.from q.to) where
  abbrev book : Book (kind_of k)
  book = meaning k q.divided.book.now

  abbrev whole : Front (kind_of k)
  whole = whole_search k step q.size q.from q.to

  at_size : (land : Land (kind_of k)) → land.size ≡ q.size → step ≡ links land book q.top q.from q.to
  at_size land e = let few = q.few in same land (omega (arith, e))

  pub leads_inside : Inside q.size step
  leads_inside v x h =
      let few = q.few in
      let sized : Land (kind_of k) = record { size = q.size; free = λ y. false; way = λ y z. None } in
      ap (λ (s : ℕ → ℕ → Option C). s v x) (same sized (omega arith)) ∙ links_beyond sized book q.top q.from q.to v x h

  module _ (table after : List (SearchRecord C)) (left : after ≡ table_after whole q.size table) where
    pub near : whole.settled q.to ≡ true → Near (chain_in k after q.from q.size q.to)
    near h = subst Near (sym (whole_chain k step q.size q.from q.to q.ends.0 q.ends.1 leads_inside table after left h))
        (whole_near k step q.size q.from q.to q.ends.0 q.ends.1 q.few leads_inside h)

    module _ (land : Land (kind_of k)) (e : land.size ≡ q.size) (list : List ℕ) where
      abbrev front : Front (kind_of k)
      front = search land book q.top q.from q.to

      is_front : whole ≡ front
      is_front =
          subst (λ m. whole_search k step m q.from q.to ≡ front) e (ap (λ (s : ℕ → ℕ → Option C). whole_search k s land.size q.from q.to) (at_size land e))

      table_left : after ≡ table_after front land.size table
      table_left = left ∙ (λ i. table_after (is_front i) (sym e i) table)

      settles : (t : Bool) → whole.settled q.to ≡ t → front.settled q.to ≡ t
      settles t h = ap (λ f. f.settled q.to) (sym is_front) ∙ h

      pub answers_none : whole.settled q.to ≡ false → routed (kind_of k) (Err NoWay) after list ≡ searched land book front q.from q.to table list
      answers_none h = no_way k land book front q.from q.to table after list table_left (settles false h)

      module _ (h : whole.settled q.to ≡ true) where
        laid_places : laid book (chain_in k after q.from q.size q.to) ≡ route land book front q.from q.to
        laid_places =
            ap (laid book)
            (whole_chain k step q.size q.from q.to q.ends.0 q.ends.1 leads_inside table after left h ∙ (λ i. chain_to (is_front i) q.from (sym e i) q.to))

        pub answers_long : 256 < length (laid book (chain_in k after q.from q.size q.to)) →
            routed (kind_of k) (Err RouteTooLong) after list ≡ searched land book front q.from q.to table list
        answers_long w = too_long k land book front q.from q.to table after list table_left (settles true h) (subst (λ l. 256 < length l) laid_places w)

        pub answers_handed : (l : Laid) → places_of l ≡ laid book (chain_in k after q.from q.size q.to) →
            (r : Result (Route C) Refusal) (filled : List ℕ) → Handed k q.size q.to (places_of l) after list r filled →
            routed (kind_of k) r after filled ≡ searched land book front q.from q.to table list
        answers_handed l m r filled done =
            let p = m ∙ laid_places in
            handed k land book front q.from q.to table after list table_left (settles true h) (subst (λ n. q.to < n) (sym e) q.ends.1)
            (subst (λ s. length s ≤ 256) p l.few) r filled
            (subst (λ n. Handed k n q.to (route land book front q.from q.to) after list r filled) (sym e)
            (subst (λ s. Handed k q.size q.to s after list r filled) p done))
