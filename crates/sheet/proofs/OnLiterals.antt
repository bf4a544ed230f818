-- One name that opens this crate's definitions and those below, for proofs by computation. Assumes nothing.
use Rattle.std.specs.Prelude.{⊤}
use Rattle.sheet.specs.Records.{both, far_of, half_of, jump_of, line_if, offset_of, plain_of, record_of, three_of}
use Rattle.sheet.specs.Records.{within, zeros}
use Rattle.sheet.specs.Samples.{mfsr_sheet, mfsr_table}
use Rattle.sheet.specs.Sheet.{bad_length, check_at, first_check, first_refused, limited_check, line_offer, offer_at}
use Rattle.sheet.specs.Sheet.{offer_in, pair_offer, record_at, record_check, sheet_check, table_of, unknown_of}
use Rattle.sheet.specs.Turns.{turn_by}
use Rattle.isa.proofs.OnLiterals.{isa_on_literals}

unfoldable pub sheet_on_literals : ⊤
unfolding isa_on_literals both far_of half_of jump_of line_if offset_of plain_of record_of three_of within zeros
    mfsr_sheet mfsr_table bad_length check_at first_check first_refused limited_check line_offer offer_at offer_in
    pair_offer record_at record_check sheet_check table_of unknown_of turn_by
sheet_on_literals = tt
