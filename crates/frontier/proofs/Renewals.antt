-- Shown: a row whose first n are made anew, one more at a time, and what stands at each place of it.
use Rattle.std.proofs.Common.{◌≡◌, ℕ, zero, suc, ◌+◌, ◌-◌, ◌<◌, ◌≤◌, List, [], ◌∷◌, ◌++◌, map, length, get_or, drop, set, sym, ap, ◌∙◌, ⊎_elim, add-one, arith}
use Rattle.std.proofs.lemmas.List.{append_assoc, map_push, length-map, length_push, drop_more, drop_at, set_at, get_or_append_left, get_or-append_right, get_or-drop, get_or-map, get_or_push}
use Rattle.std.proofs.lemmas.Bool.{cases_eq}
use Rattle.hierarchy.specs.Shortest.{below}
use Rattle.frontier.specs.Fronts.{renewed}

pub length-below : (n : ℕ) → length (below n) ≡ n
length-below zero = omega arith
length-below (suc n) = length_push (below n) n ∙ omega (arith, length-below n)

pub get_or-below : (n x d : ℕ) → x < n → get_or (below n) x d ≡ x
get_or-below zero x d h = absurd (omega arith)
get_or-below (suc n) x d h =
    let size = length-below n in
    ⊎_elim
    (λ e. get_or_push (below n) n d x (size ∙ sym e) ∙ sym e)
    (λ ne. get_or_append_left (below n) (n ∷ []) d x (omega arith) ∙ get_or-below n x d (omega arith))
    (cases_eq x n)

module _ {A : Type 0} (f : ℕ → A) (xs : List A) where
  length_made : (n : ℕ) → length (map f (below n)) ≡ n
  length_made n = length-map (below n) f ∙ length-below n

  pub renewed_more : (i : ℕ) → i < length xs → set (renewed i f xs) i (f i) ≡ renewed (i + 1) f xs
  renewed_more i h =
      ap (λ ys. set (map f (below i) ++ ys) i (f i)) (drop_more xs i (f i) h)
      ∙ set_at (map f (below i)) _ _ (f i) i (length_made i)
      ∙ sym (append_assoc (map f (below i)) (f i ∷ []) (drop (i + 1) xs))
      ∙ ap (λ ys. ys ++ drop (i + 1) xs) (sym (map_push f (below i) i))
      ∙ ap (λ j. map f (below j) ++ drop (i + 1) xs) (sym (add-one i))

  pub renewed-below : (n x : ℕ) (d : A) → x < n → get_or (renewed n f xs) x d ≡ f x
  renewed-below n x d h =
      get_or_append_left (map f (below n)) (drop n xs) d x (omega (arith, length_made n))
      ∙ get_or-map f (below n) x 0 d (omega (arith, length-below n))
      ∙ ap f (get_or-below n x 0 h)

  pub renewed_above : (n x : ℕ) (d : A) → n ≤ x → get_or (renewed n f xs) x d ≡ get_or xs x d
  renewed_above n x d h =
      get_or-append_right (map f (below n)) (drop n xs) n x d (length_made n) h
      ∙ get_or-drop n xs (x - n) d
      ∙ ap (λ i. get_or xs i d) (omega arith)

  pub renewed_rest : (n : ℕ) → drop n (renewed n f xs) ≡ drop n xs
  renewed_rest n = drop_at (map f (below n)) (drop n xs) n (length_made n)
