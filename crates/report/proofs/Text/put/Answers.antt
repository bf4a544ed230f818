-- As many of the bytes are put as there is room for.
use Rattle.std.proofs.Common.{refl}
use Rattle.report.proofs.Put.{put_copied}
use Rattle.report.proofs.Text.put.Goals as goal

pub returns : goal.returns
returns c = put_copied c.min-n.ensures c.copy_from_slice.ensures.after refl refl refl
