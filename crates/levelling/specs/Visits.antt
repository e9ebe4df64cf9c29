-- What a visit comes to.
--   may_sink  v may sink: each needed pair is permitted, and there is room for all of them
--   LookedAt  the place stays up, or these are the shortcuts that it needs
use Rattle.std.specs.Prelude.{◌≡◌, ℕ, ◌+◌, Bool, true, false, ◌&&◌, map, length, Some, None, Option, nat_le}
use Rattle.cost.specs.declared.Cost.{Ghosts as Costs}
use Rattle.hierarchy.specs.Kinds.{kind_of}
use Rattle.hierarchy.specs.Lands.{Land}
use Rattle.hierarchy.specs.Books.{Book}
use Rattle.hierarchy.specs.Levels.{every, needed, shortcut_over}
use Rattle.levelling.specs.declared.needed.Needed.{Needed}
use Rattle.levelling.specs.Listed.{listed}

module _ {C : Type 0} (k : Costs C) (land : Land (kind_of k)) (rule : ℕ → ℕ → Bool) (i : ℕ) (book : Book (kind_of k)) (v : ℕ) where
  abbrev pub may_sink : Bool
  may_sink = every (λ p. rule p.0 p.1) (needed land i book v) && nat_le (length book.shortcuts + length (needed land i book v)) 2048

  abbrev pub LookedAt : Option (Needed C) → Type 0
  LookedAt None = may_sink ≡ false
  LookedAt (Some found) = (may_sink ≡ true) × (listed found ≡ map (shortcut_over land book v) (needed land i book v))
