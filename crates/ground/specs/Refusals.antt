-- The number and the position of each refusal.
--   number_of    its number
--   position_of  the record or cell that is refused, 1 for a route's second place, otherwise 0
--   outcome      what a call answers: the refusal if there is one
use Rattle.std.specs.Prelude.{ℕ, Some, None, Ok, Err, Option, Result}
use Rattle.ground.specs.declared.refusal.Refusal.{Refusal}
use Rattle.ground.specs.declared.refusal.Refusal.TheVariants.{SizeOutOfRange, WrongLength, RecordOffGround, RecordToItself, RecordCost, RecordRepeated, CellUnknown, LevelsOutOfRange, OffGround, AlreadyShut, AlreadyFree, TableTooShort, NoWay, RouteTooLong, ListTooShort, NoSuchShortcut}

abbrev pub number_of : Refusal → ℕ
number_of SizeOutOfRange = 1
number_of WrongLength = 2
number_of (RecordOffGround at) = 3
number_of (RecordToItself at) = 4
number_of (RecordCost at) = 5
number_of (RecordRepeated at) = 6
number_of (CellUnknown at) = 7
number_of LevelsOutOfRange = 8
number_of (OffGround asked) = 9
number_of (AlreadyShut asked) = 10
number_of AlreadyFree = 11
number_of TableTooShort = 12
number_of NoWay = 13
number_of RouteTooLong = 14
number_of ListTooShort = 15
number_of NoSuchShortcut = 16

abbrev pub position_of : Refusal → ℕ
position_of SizeOutOfRange = 0
position_of WrongLength = 0
position_of (RecordOffGround at) = at
position_of (RecordToItself at) = at
position_of (RecordCost at) = at
position_of (RecordRepeated at) = at
position_of (CellUnknown at) = at
position_of LevelsOutOfRange = 0
position_of (OffGround asked) = asked
position_of (AlreadyShut asked) = asked
position_of AlreadyFree = 0
position_of TableTooShort = 0
position_of NoWay = 0
position_of RouteTooLong = 0
position_of ListTooShort = 0
position_of NoSuchShortcut = 0

abbrev pub outcome : Option Refusal → Result (Unit {0}) Refusal
outcome None = Ok tt
outcome (Some r) = Err r
