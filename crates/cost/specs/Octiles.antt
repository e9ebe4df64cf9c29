-- Octile costs: straight and diagonal steps worth at most 16777215, and Over, which stands at 16777216 straight steps.
--   octile    m straight and n diagonal steps, or Over where they are worth too much
--   steps_of  what `Octile::steps` answers
--   *_o       what the ghost members of `Cost` are at `Octile`
use Rattle.std.specs.Prelude.{◌≡◌, ℕ, ◌+◌, ◌*◌, ◌/◌, ◌%◌, Bool, true, false, cond, ◌&&◌, Some, None, Option, nat_lt, refl}
use Rattle.std.proofs.lemmas.Bool.{or_left}
use Rattle.cost.specs.Worth.{below, within, told}
use Rattle.cost.specs.declared.octile.Octile.{Octile}

pub capped_told : (b : Bool) (m n : ℕ) → within 16777215 m n ≡ b → told (cond b m 16777216) (cond b n 0) ≡ true
capped_told true m n h = or_left _ _ h
capped_told false m n h = refl

abbrev pub octile : ℕ → ℕ → Octile
octile m n =
    let b = within 16777215 m n in record { straight = cond b m 16777216; diagonal = cond b n 0; capped = capped_told b m n refl }

abbrev pub steps_of : Octile → Option (ℕ × ℕ)
steps_of x = cond (nat_lt x.straight 16777216) (Some (x.straight, x.diagonal)) None

abbrev pub zero_o : Octile
zero_o = octile 0 0

abbrev pub over_o : Octile
over_o = octile 16777216 0

abbrev pub plus_o : Octile → Octile → Octile
plus_o x y = octile (x.straight + y.straight) (x.diagonal + y.diagonal)

abbrev pub less_o : Octile → Octile → Bool
less_o x y = below x.straight x.diagonal y.straight y.diagonal

-- worth more than 0 and at most 65535
abbrev pub way_o : Octile → Bool
way_o x = below 0 0 x.straight x.diagonal && within 65535 x.straight x.diagonal

abbrev pub word_o : Octile → ℕ
word_o x = cond (nat_lt x.straight 16777216) (x.straight * 4294967296 + x.diagonal) 18446744073709551615

abbrev pub unword_o : ℕ → Octile
unword_o n = octile (n / 4294967296) (n % 4294967296)
