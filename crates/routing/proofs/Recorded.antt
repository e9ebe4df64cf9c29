-- Shown: what the record table says after a search is what the front says: who is settled, at what cost and from where, and how many.
use Rattle.std.proofs.Common.{◌≡◌, ℕ, zero, suc, ◌+◌, ◌<◌, Bool, true, false, cond, ◌&&◌, List, ◌++◌, map, length, get_or, drop, unwrap_or, refl, sym, ap, ◌∙◌, arith}
use Rattle.std.proofs.Math.Seq.{drop-length}
use Rattle.std.proofs.lemmas.Bool.{lt-ltb, cond-true}
use Rattle.cost.specs.declared.Cost.{Ghosts as Costs}
use Rattle.ground.specs.Counts.{count}
use Rattle.hierarchy.specs.declared.SearchRecord.{SearchRecord}
use Rattle.hierarchy.specs.Kinds.{kind_of}
use Rattle.hierarchy.specs.Shortest.{below}
use Rattle.hierarchy.specs.Searches.{Front, recorded, table_after, tally}
use Rattle.frontier.specs.Fronts.{blank, front_of}
use Rattle.frontier.proofs.Renewals.{renewed-below}

count_same : (p q : ℕ → Bool) (n : ℕ) → ((x : ℕ) → x < n → p x ≡ q x) → count p n ≡ count q n
count_same p q zero same = refl
count_same p q (suc n) same = λ i. count_same p q n (λ x h. same x (omega arith)) i + cond (same n (omega arith) i) 1 0

kept_flag : {A : Type 0} (r s : SearchRecord A) (t : Bool) → r.settled ≡ true → s.settled ≡ false → (cond t r s).settled ≡ t
kept_flag r s true er es = er
kept_flag r s false er es = es

module _ {C : Type 0} (k : Costs C) (front : Front (kind_of k)) (n : ℕ) (before table : List (SearchRecord C)) (after : table ≡ table_after front n before) where
  read : (x : ℕ) (d : SearchRecord C) → x < n → get_or table x d ≡ recorded front x
  read x d h = ap (λ t. get_or t x d) after ∙ renewed-below (recorded front) before n x d h

  pub read_settled : (x : ℕ) (d : SearchRecord C) → x < n → (get_or table x d).settled ≡ front.settled x
  read_settled x d h = ap (λ r. r.settled) (read x d h) ∙ kept_flag _ _ (front.settled x) refl refl

  pub read_cost : (x : ℕ) (d : SearchRecord C) → x < n → front.settled x ≡ true → (get_or table x d).cost ≡ unwrap_or (front.reached x) k.over
  read_cost x d h e = ap (λ r. r.cost) (read x d h ∙ cond-true (front.settled x) _ _ e)

  pub read_predecessor : (x : ℕ) (d : SearchRecord C) → x < n → front.settled x ≡ true → (get_or table x d).predecessor ≡ front.from x
  read_predecessor x d h e = ap (λ r. r.predecessor) (read x d h ∙ cond-true (front.settled x) _ _ e)

  pub read_tally : (waiting : List Bool) → tally (front_of k n table waiting) n ≡ tally front n
  read_tally waiting =
      count_same _ _ n (λ x h. ap (λ t. t && (get_or table x (blank k)).settled) (lt-ltb x n h) ∙ read_settled x (blank k) h)

-- of two tables of one length, with the same front: no record is later than all
pub all_recorded : {C : Type 0} (k : Costs C) (front whole : Front (kind_of k)) → front ≡ whole → (last before : List (SearchRecord C)) → length last ≡ length before →
    (table : List (SearchRecord C)) → table ≡ table_after front (length last) last →
    (after : List (SearchRecord C)) → after ≡ table → after ≡ table_after whole (length before) before
all_recorded k front whole e last before same table t after a =
    let none : drop (length last) last ≡ drop (length before) before = drop-length last ∙ sym (drop-length before) in
    a ∙ t ∙ (λ i. map (recorded (e i)) (below (same i)) ++ none i)
