-- Shown: asking each record in turn, with those before it at hand, answers as the check of a list of records is defined.
use Rattle.std.proofs.Common.{◌≡◌, ℕ, ◌+◌, ◌<◌, ◌≤◌, Bool, List, length, get_or, take, is_some, Some, None, Ok, Err, Option, sym, refl, ap, ◌∙◌, ⊎_elim, arith, length-take-le}
use Rattle.std.proofs.lemmas.Option.{slice_get_read}
use Rattle.std.proofs.lemmas.Bool.{cases_lt, cond-false, cond-true, le-ltb, lt-ltb, true≢false}
use Rattle.ground.specs.declared.refusal.Refusal.{Refusal}
use Rattle.trails.specs.declared.Record.{Record}
use Rattle.ground.specs.Earliest.{earliest}
use Rattle.ground.specs.Refusals.{outcome}
use Rattle.trails.specs.Trails.{refuses, record_refusal, list_refusal}
use Rattle.ground.proofs.Earliest.{none_more, found_at}

pub none_from_ok : (o : Option Refusal) → Ok tt ≡ outcome o → o ≡ None
none_from_ok None e = refl
none_from_ok (Some x) e = cc

pub some_from_err : (o : Option Refusal) (x : Refusal) → Err x ≡ outcome o → o ≡ Some x
some_from_err None x e = cc
some_from_err (Some y) x e = cc

-- the records before position i are accepted, and what the check answers by the answer at any position
pub record Checked {C : Type 0} (way : C → Bool) (size : ℕ) (rs : List (Record C)) (i : ℕ) : Type 0 where
  pub none : earliest (record_refusal way size rs) i ≡ None
  pub more : (k : ℕ) (r : Record C) → k < length rs → r ≡ get_or rs k r → earliest (record_refusal way size rs) k ≡ None →
      Ok tt ≡ outcome (refuses way size (length (take k rs)) (take k rs) (Some r)) → earliest (record_refusal way size rs) (k + 1) ≡ None
  pub stop : (k : ℕ) (r : Record C) (x : Refusal) → k < length rs → r ≡ get_or rs k r → earliest (record_refusal way size rs) k ≡ None →
      Err x ≡ outcome (refuses way size (length (take k rs)) (take k rs) (Some r)) → size ≤ 256 → length rs ≤ 1024 → Err x ≡ outcome (list_refusal way size rs)

module _ {C : Type 0} (way : C → Bool) (size : ℕ) (rs : List (Record C)) where
  here : (k : ℕ) (r : Record C) → k < length rs → r ≡ get_or rs k r → record_refusal way size rs k ≡ refuses way size (length (take k rs)) (take k rs) (Some r)
  here k r within read =
      ap (refuses way size k (take k rs)) (slice_get_read rs (length rs) k r refl within read)
      ∙ ap (λ n. refuses way size n (take k rs) (Some r)) (sym (length-take-le k rs (omega arith)))

  pub checked_none : Checked way size rs 0
  checked_none = record {
    none = refl;
    more = λ k r within read none e. none_more _ k none (here k r within read ∙ none_from_ok _ e);
    stop = λ k r x within read none e few short. ap outcome (sym (
        cond-false _ _ _ (le-ltb 256 size few) ∙ (cond-false _ _ _ (le-ltb 1024 (length rs) short) ∙
        found_at _ (length rs) k x none (here k r within read ∙ some_from_err _ x e) within)));
  }

-- an accepted list has at most 256 places
pub few_places : {C : Type 0} (way : C → Bool) (n : ℕ) (rs : List (Record C)) → list_refusal way n rs ≡ None → n ≤ 256
few_places way n rs e =
    ⊎_elim (λ h. absurd (true≢false (ap is_some (sym (cond-true _ _ _ (lt-ltb 256 n h)) ∙ e)))) (λ h. h) (cases_lt 256 n)
