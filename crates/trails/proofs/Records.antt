-- Shown: the cost that is found is that of the first record that names the two places.
use Rattle.std.proofs.Common.{◌≡◌, ℕ, Bool, true, false, cond, List, [], ◌∷◌, Some, Option, refl, ◌∙◌}
use Rattle.std.specs.List.{find}
use Rattle.std.specs.Option.{option_map}
use Rattle.trails.specs.declared.Record.{Record}
use Rattle.trails.specs.Trails.{names, found}

module _ {C : Type 0} where
  first_or : (t : Bool) (r : Record C) (o : Option (Record C)) → option_map (λ r. r.cost) (cond t (Some r) o) ≡ cond t (Some r.cost) (option_map (λ r. r.cost) o)
  first_or true r o = refl
  first_or false r o = refl

  pub found_first : (rs : List (Record C)) (a b : ℕ) → option_map (λ r. r.cost) (find (λ r. names r a b) rs) ≡ found rs a b
  found_first [] a b = refl
  found_first (r ∷ rs) a b = first_or (names r a b) r _ ∙ rw (found_first rs a b)
