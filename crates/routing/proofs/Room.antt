-- Shown: when places appended in two parts are appended in all.
use Rattle.std.proofs.Common.{◌≡◌, ℕ, ◌<◌, List, ◌++◌, length, Ok, Err, Result, sym, ap, ◌∙◌, arith, length-append}
use Rattle.std.specs.Bool.{⊤}
use Rattle.std.proofs.lemmas.List.{append_assoc}
use Rattle.levelling.specs.declared.full.Full.{Full}
use Rattle.routing.specs.Placed.{Appended}

pub still_long : (old a b : List ℕ) → 256 < length (old ++ a) → 256 < length (old ++ (a ++ b))
still_long old a b h = simp length-append (omega (arith, length-append old a))

pub both_parts : (r : Result ⊤ Full) (old a b mid new : List ℕ) → mid ≡ old ++ a → Appended r mid b new → Appended r old (a ++ b) new
both_parts (Ok done) old a b mid new e h = h ∙ ap (λ l. l ++ b) e ∙ append_assoc old a b
both_parts (Err full) old a b mid new e h = rw (sym (append_assoc old a b), sym e) h
