-- Every claim of this crate, proved. Assumes nothing.
use Rattle.agreement.proofs.Agreement.{every_list_lem, every_n_lem, every_tick_lem, halted_play_lem, halted_run_lem}
use Rattle.agreement.specs.Claims.{Claims}

pub claims : Claims
claims = record {
  every_tick = every_tick_lem;
  every_list = every_list_lem;
  every_n = every_n_lem;
  halted_run = halted_run_lem;
  halted_play = halted_play_lem;
}
