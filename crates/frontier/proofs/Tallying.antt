-- Shown: the settled among the first records of a table are the settled places of its front.
use Rattle.std.proofs.Common.{◌≡◌, ℕ, zero, suc, ◌+◌, ◌≤◌, Bool, cond, ◌&&◌, ltb, List, length, get_or, take, count_by, sym, refl, ap, ◌∙◌, ⊎_elim, add-zero, add-one, arith}
use Rattle.std.proofs.lemmas.Bool.{cases_Bool, lt-ltb}
use Rattle.std.proofs.lemmas.List.Sums.{count_by_more_yes, count_by_more_no}
use Rattle.ground.specs.Counts.{count}

-- of the first n items, those that pass p
pub counted : {A : Type 0} (p : A → Bool) (xs : List A) (d : A) (n k : ℕ) → k ≤ n → n ≤ length xs → count (λ x. ltb x n && p (get_or xs x d)) k ≡ count_by p (take k xs)
counted p xs d n zero h m = refl
counted p xs d n (suc k) h m =
    let rest = counted p xs d n k (omega arith) m in
    let here = lt-ltb k n (omega arith) in
    let more = ap (λ j. count_by p (take j xs)) (add-one k) in
    ap (λ b. count (λ x. ltb x n && p (get_or xs x d)) k + cond (b && p (get_or xs k d)) 1 0) here
    ∙ ⊎_elim
    (λ e. (λ i. rest i + cond (e i) 1 0) ∙ sym (count_by_more_yes p xs k d (omega arith) e) ∙ more)
    (λ e. (λ i. rest i + cond (e i) 1 0) ∙ add-zero _ ∙ sym (count_by_more_no p xs k d (omega arith) e) ∙ more)
    (cases_Bool (p (get_or xs k d)))
