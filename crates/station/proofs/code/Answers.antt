-- `station::code` meets its contract. Assumes nothing.
use native.Mathlib.Omega.{arith}
use Rattle.station.proofs.Rooms.{number_small}
use Rattle.station.proofs.code.Goals as goal

pub overflow_mul-result : goal.overflow_mul-result
overflow_mul-result c =
    record { fits = omega (arith, c.number.ensures, number_small c.args.r) }

pub overflow_add-result : goal.overflow_add-result
overflow_add-result c =
    record { fits = omega (arith, c.number.ensures, number_small c.args.r) }
