-- Nothing is put yet.
use Rattle.std.proofs.Common.{refl}
use Rattle.report.proofs.Put.{holds_none}
use Rattle.report.proofs.Text.new.Goals as goal

pub returns-clause-empty : goal.returns-clause-empty
returns-clause-empty c = holds_none _ _ refl refl
