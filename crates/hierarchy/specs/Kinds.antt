-- Cost kinds as the definitions take them, and prices: a cost, or none where there is no way.
--   Kind     a cost kind with its laws
--   kind_of  the kind that a type of costs is
--   Price    a cost, or none
--   add      the sum of two prices, none if either is
--   cheaper  a price is less than another; none is the greatest
use Rattle.std.specs.Prelude.{ℕ, Bool, true, false, Some, None, Option}
use Rattle.cost.specs.Laws.{CostLaws}
use Rattle.cost.specs.declared.Cost.{Ghosts as Costs}

pub record Kind : Type 1 where
  pub C : Type 0
  pub zero : C
  pub over : C
  pub plus : C → C → C
  pub less : C → C → Bool
  pub fair : C → Bool
  pub word : C → ℕ
  pub unword : ℕ → C
  pub laws : CostLaws zero over plus less fair word unword

abbrev pub kind_of : {C : Type 0} → Costs C → Kind
kind_of {C} k = record {
  C = C;
  zero = k.zero;
  over = k.over;
  plus = k.plus;
  less = k.less;
  fair = k.way;
  word = k.word;
  unword = k.unword;
  laws = k.laws;
}

abbrev pub Price : Kind → Type 0
Price K = Option K.C

module _ (K : Kind) where
  abbrev pub add : Price K → Price K → Price K
  add None q = None
  add (Some c) None = None
  add (Some c) (Some d) = Some (K.plus c d)

  abbrev pub cheaper : Price K → Price K → Bool
  cheaper None q = false
  cheaper (Some c) None = true
  cheaper (Some c) (Some d) = K.less c d
