-- The first refused record is one of 4,096, so its address is a word.
use Rattle.std.proofs.Common.{arith}
use Rattle.sheet.proofs.Fair.{first_le}
use Rattle.report.proofs.reasons.first_address.Goals as goal

pub overflow_mul-result : goal.overflow_mul-result
overflow_mul-result c = omega (arith, first_le c.args.sheet.now 0 4096)
