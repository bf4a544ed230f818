-- The digits that are put are the number's in decimal.
use Rattle.report.proofs.Decimal.{decimal_from}
use Rattle.report.proofs.Text.put_number.Goals as goal

pub returns : goal.returns
returns c =
    rw (decimal_from _ _ _ c.put_digits-from.array_long c.put_digits-from.ensures.digits) at c.put.ensures
